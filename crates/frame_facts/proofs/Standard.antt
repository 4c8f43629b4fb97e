-- The standard frame, for each of its sixteen masks.
use Rattle.std.proofs.Common.{ℕ, ◌≡◌, ◌<◌, ◌+◌, ◌*◌, ◌%◌, ◌^◌, zero, suc, Bool, true, false, Some, Ok, Err, ◌∙◌, ap, refl, arith, ltb, cond, length, replicate, pos}
use Rattle.std.specs.Prelude.{◌+ℤ◌, Option, Result, option_map, option_and_then, unwrap_or}
use Rattle.std.proofs.lemmas.Bool.{lt-ltb}
use Rattle.thumb_core.specs.Words.{registers_of_list}
use Rattle.thumb_isa.specs.declared.instr.Instr.TheVariants.{Push, Pop}
use Rattle.eh_bytecode.specs.declared.recipe.Src.TheVariants.{Same}
use Rattle.eh_bytecode.specs.declared.recipe.Recipe.{Recipe}
use Rattle.eh_bytecode.specs.declared.recipe.RecipeFault.{RecipeFault}
use Rattle.eh_bytecode.specs.Recipe.{recipe}
use Rattle.frame_facts.specs.declared.saves.Prologue.{Prologue}
use Rattle.frame_facts.specs.declared.straight.Straight.{Straight}
use Rattle.frame_facts.specs.Facts.{entry_fact, bounded_depth}
use Rattle.frame_facts.specs.Saves.{saves_within, fact_at_depth}
use Rattle.frame_facts.specs.Prologues.{empty_run, with_instruction, with_push_saves}
use Rattle.frame_facts.specs.After.{after_of}
use Rattle.frame_facts.specs.Agrees.{agreement}
use Rattle.frame_facts.specs.Frames.{push_list, pop_list, codes_of, StandardFrames}

-- after the PUSH, by whether it stands before the prologue's end
abbrev after_push : Bool → ℕ → Prologue → Option Straight
after_push within_run mask q = option_map (λ f. record { fact = f; prologue = q })
    (option_map (λ d. cond within_run (record entry_fact { depth = d; kept = saves_within q d }) (fact_at_depth q d entry_fact)) (bounded_depth (pos 0 +ℤ pos (4 * length (registers_of_list (push_list mask))))))

abbrev push_to : Bool → ℕ → ℕ → ℕ → Option Straight
push_to within_run start end mask =
    option_and_then (λ (p : Prologue). after_push within_run mask (record p { end = end })) (with_push_saves (empty_run start).prologue entry_fact (registers_of_list (push_list mask)))

abbrev made : ℕ → ℕ → ℕ → Straight
made start end mask = unwrap_or (push_to true start end mask) (empty_run end)

abbrev recipe_or : Result Recipe RecipeFault → Recipe
recipe_or (Ok r) = r
recipe_or (Err e) = record { base = 13; vsp = pos 0; src = replicate 16 Same }

abbrev undo_of : ℕ → Recipe
undo_of mask = recipe_or (recipe (codes_of mask))

record IsMade (start end mask : ℕ) : Type 0 where
  pub pushed : push_to true start end mask ≡ Some (made start end mask)
  pub kept : (made start end mask).fact.kept ≡ (made start end mask).prologue.count
  pub undone : recipe (codes_of mask) ≡ Ok (undo_of mask)
  pub agrees : (is_call : Bool) → agreement (made start end mask).prologue (undo_of mask) is_call (made start end mask).fact ≡ Ok tt
  pub returns : (at : ℕ) → after_of (made start end mask).prologue false at (Pop (pop_list mask)) (made start end mask).fact ≡ Ok entry_fact

-- a fact of each number below 16
sixteen : (P : ℕ → Type 0) → P 0 → P 1 → P 2 → P 3 → P 4 → P 5 → P 6 → P 7 → P 8 → P 9 → P 10 → P 11 → P 12 → P 13 → P 14 → P 15 → (n : ℕ) → n < 16 → P n
sixteen P p0 p1 p2 p3 p4 p5 p6 p7 p8 p9 p10 p11 p12 p13 p14 p15 zero l = p0
sixteen P p0 p1 p2 p3 p4 p5 p6 p7 p8 p9 p10 p11 p12 p13 p14 p15 (suc zero) l = p1
sixteen P p0 p1 p2 p3 p4 p5 p6 p7 p8 p9 p10 p11 p12 p13 p14 p15 (suc (suc zero)) l = p2
sixteen P p0 p1 p2 p3 p4 p5 p6 p7 p8 p9 p10 p11 p12 p13 p14 p15 (suc (suc (suc zero))) l = p3
sixteen P p0 p1 p2 p3 p4 p5 p6 p7 p8 p9 p10 p11 p12 p13 p14 p15 (suc (suc (suc (suc zero)))) l = p4
sixteen P p0 p1 p2 p3 p4 p5 p6 p7 p8 p9 p10 p11 p12 p13 p14 p15 (suc (suc (suc (suc (suc zero))))) l = p5
sixteen P p0 p1 p2 p3 p4 p5 p6 p7 p8 p9 p10 p11 p12 p13 p14 p15 (suc (suc (suc (suc (suc (suc zero)))))) l = p6
sixteen P p0 p1 p2 p3 p4 p5 p6 p7 p8 p9 p10 p11 p12 p13 p14 p15 (suc (suc (suc (suc (suc (suc (suc zero))))))) l = p7
sixteen P p0 p1 p2 p3 p4 p5 p6 p7 p8 p9 p10 p11 p12 p13 p14 p15 (suc (suc (suc (suc (suc (suc (suc (suc zero)))))))) l = p8
sixteen P p0 p1 p2 p3 p4 p5 p6 p7 p8 p9 p10 p11 p12 p13 p14 p15 (suc (suc (suc (suc (suc (suc (suc (suc (suc zero))))))))) l = p9
sixteen P p0 p1 p2 p3 p4 p5 p6 p7 p8 p9 p10 p11 p12 p13 p14 p15 (suc (suc (suc (suc (suc (suc (suc (suc (suc (suc zero)))))))))) l = p10
sixteen P p0 p1 p2 p3 p4 p5 p6 p7 p8 p9 p10 p11 p12 p13 p14 p15 (suc (suc (suc (suc (suc (suc (suc (suc (suc (suc (suc zero))))))))))) l = p11
sixteen P p0 p1 p2 p3 p4 p5 p6 p7 p8 p9 p10 p11 p12 p13 p14 p15 (suc (suc (suc (suc (suc (suc (suc (suc (suc (suc (suc (suc zero)))))))))))) l = p12
sixteen P p0 p1 p2 p3 p4 p5 p6 p7 p8 p9 p10 p11 p12 p13 p14 p15 (suc (suc (suc (suc (suc (suc (suc (suc (suc (suc (suc (suc (suc zero))))))))))))) l = p13
sixteen P p0 p1 p2 p3 p4 p5 p6 p7 p8 p9 p10 p11 p12 p13 p14 p15 (suc (suc (suc (suc (suc (suc (suc (suc (suc (suc (suc (suc (suc (suc zero)))))))))))))) l = p14
sixteen P p0 p1 p2 p3 p4 p5 p6 p7 p8 p9 p10 p11 p12 p13 p14 p15 (suc (suc (suc (suc (suc (suc (suc (suc (suc (suc (suc (suc (suc (suc (suc zero))))))))))))))) l = p15
sixteen P p0 p1 p2 p3 p4 p5 p6 p7 p8 p9 p10 p11 p12 p13 p14 p15 (suc (suc (suc (suc (suc (suc (suc (suc (suc (suc (suc (suc (suc (suc (suc (suc n)))))))))))))))) l = absurd (omega (arith, l))

made_0 : (start end : ℕ) → IsMade start end 0
unfolding registers_of_list recipe
made_0 start end = record { pushed = refl; kept = refl; undone = refl; agrees = agreeing; returns = λ at. refl }
  where
    agreeing : (is_call : Bool) → agreement (made start end 0).prologue (undo_of 0) is_call (made start end 0).fact ≡ Ok tt
    agreeing true = refl
    agreeing false = refl

made_1 : (start end : ℕ) → IsMade start end 1
unfolding registers_of_list recipe
made_1 start end = record { pushed = refl; kept = refl; undone = refl; agrees = agreeing; returns = λ at. refl }
  where
    agreeing : (is_call : Bool) → agreement (made start end 1).prologue (undo_of 1) is_call (made start end 1).fact ≡ Ok tt
    agreeing true = refl
    agreeing false = refl

made_2 : (start end : ℕ) → IsMade start end 2
unfolding registers_of_list recipe
made_2 start end = record { pushed = refl; kept = refl; undone = refl; agrees = agreeing; returns = λ at. refl }
  where
    agreeing : (is_call : Bool) → agreement (made start end 2).prologue (undo_of 2) is_call (made start end 2).fact ≡ Ok tt
    agreeing true = refl
    agreeing false = refl

made_3 : (start end : ℕ) → IsMade start end 3
unfolding registers_of_list recipe
made_3 start end = record { pushed = refl; kept = refl; undone = refl; agrees = agreeing; returns = λ at. refl }
  where
    agreeing : (is_call : Bool) → agreement (made start end 3).prologue (undo_of 3) is_call (made start end 3).fact ≡ Ok tt
    agreeing true = refl
    agreeing false = refl

made_4 : (start end : ℕ) → IsMade start end 4
unfolding registers_of_list recipe
made_4 start end = record { pushed = refl; kept = refl; undone = refl; agrees = agreeing; returns = λ at. refl }
  where
    agreeing : (is_call : Bool) → agreement (made start end 4).prologue (undo_of 4) is_call (made start end 4).fact ≡ Ok tt
    agreeing true = refl
    agreeing false = refl

made_5 : (start end : ℕ) → IsMade start end 5
unfolding registers_of_list recipe
made_5 start end = record { pushed = refl; kept = refl; undone = refl; agrees = agreeing; returns = λ at. refl }
  where
    agreeing : (is_call : Bool) → agreement (made start end 5).prologue (undo_of 5) is_call (made start end 5).fact ≡ Ok tt
    agreeing true = refl
    agreeing false = refl

made_6 : (start end : ℕ) → IsMade start end 6
unfolding registers_of_list recipe
made_6 start end = record { pushed = refl; kept = refl; undone = refl; agrees = agreeing; returns = λ at. refl }
  where
    agreeing : (is_call : Bool) → agreement (made start end 6).prologue (undo_of 6) is_call (made start end 6).fact ≡ Ok tt
    agreeing true = refl
    agreeing false = refl

made_7 : (start end : ℕ) → IsMade start end 7
unfolding registers_of_list recipe
made_7 start end = record { pushed = refl; kept = refl; undone = refl; agrees = agreeing; returns = λ at. refl }
  where
    agreeing : (is_call : Bool) → agreement (made start end 7).prologue (undo_of 7) is_call (made start end 7).fact ≡ Ok tt
    agreeing true = refl
    agreeing false = refl

made_8 : (start end : ℕ) → IsMade start end 8
unfolding registers_of_list recipe
made_8 start end = record { pushed = refl; kept = refl; undone = refl; agrees = agreeing; returns = λ at. refl }
  where
    agreeing : (is_call : Bool) → agreement (made start end 8).prologue (undo_of 8) is_call (made start end 8).fact ≡ Ok tt
    agreeing true = refl
    agreeing false = refl

made_9 : (start end : ℕ) → IsMade start end 9
unfolding registers_of_list recipe
made_9 start end = record { pushed = refl; kept = refl; undone = refl; agrees = agreeing; returns = λ at. refl }
  where
    agreeing : (is_call : Bool) → agreement (made start end 9).prologue (undo_of 9) is_call (made start end 9).fact ≡ Ok tt
    agreeing true = refl
    agreeing false = refl

made_10 : (start end : ℕ) → IsMade start end 10
unfolding registers_of_list recipe
made_10 start end = record { pushed = refl; kept = refl; undone = refl; agrees = agreeing; returns = λ at. refl }
  where
    agreeing : (is_call : Bool) → agreement (made start end 10).prologue (undo_of 10) is_call (made start end 10).fact ≡ Ok tt
    agreeing true = refl
    agreeing false = refl

made_11 : (start end : ℕ) → IsMade start end 11
unfolding registers_of_list recipe
made_11 start end = record { pushed = refl; kept = refl; undone = refl; agrees = agreeing; returns = λ at. refl }
  where
    agreeing : (is_call : Bool) → agreement (made start end 11).prologue (undo_of 11) is_call (made start end 11).fact ≡ Ok tt
    agreeing true = refl
    agreeing false = refl

made_12 : (start end : ℕ) → IsMade start end 12
unfolding registers_of_list recipe
made_12 start end = record { pushed = refl; kept = refl; undone = refl; agrees = agreeing; returns = λ at. refl }
  where
    agreeing : (is_call : Bool) → agreement (made start end 12).prologue (undo_of 12) is_call (made start end 12).fact ≡ Ok tt
    agreeing true = refl
    agreeing false = refl

made_13 : (start end : ℕ) → IsMade start end 13
unfolding registers_of_list recipe
made_13 start end = record { pushed = refl; kept = refl; undone = refl; agrees = agreeing; returns = λ at. refl }
  where
    agreeing : (is_call : Bool) → agreement (made start end 13).prologue (undo_of 13) is_call (made start end 13).fact ≡ Ok tt
    agreeing true = refl
    agreeing false = refl

made_14 : (start end : ℕ) → IsMade start end 14
unfolding registers_of_list recipe
made_14 start end = record { pushed = refl; kept = refl; undone = refl; agrees = agreeing; returns = λ at. refl }
  where
    agreeing : (is_call : Bool) → agreement (made start end 14).prologue (undo_of 14) is_call (made start end 14).fact ≡ Ok tt
    agreeing true = refl
    agreeing false = refl

made_15 : (start end : ℕ) → IsMade start end 15
unfolding registers_of_list recipe
made_15 start end = record { pushed = refl; kept = refl; undone = refl; agrees = agreeing; returns = λ at. refl }
  where
    agreeing : (is_call : Bool) → agreement (made start end 15).prologue (undo_of 15) is_call (made start end 15).fact ≡ Ok tt
    agreeing true = refl
    agreeing false = refl

made_all : (start end mask : ℕ) → mask < 16 → IsMade start end mask
made_all start end = sixteen (λ mask. IsMade start end mask) (made_0 start end) (made_1 start end) (made_2 start end) (made_3 start end) (made_4 start end) (made_5 start end) (made_6 start end) (made_7 start end) (made_8 start end) (made_9 start end) (made_10 start end) (made_11 start end) (made_12 start end) (made_13 start end) (made_14 start end) (made_15 start end)

pushed_as : (start mask : ℕ) → with_instruction (empty_run start) (Push (push_list mask)) 2 ≡ push_to (ltb start ((start + 2) % 2 ^ 32)) start ((start + 2) % 2 ^ 32) mask
pushed_as start mask = refl

pub standard : StandardFrames
standard start mask room low =
    let end = (start + 2) % 2 ^ 32 in
    let m = made_all start end mask low in
    let before : start < (start + 2) % 2 ^ 32 = omega (arith, room) in
    record {
      after = made start end mask;
      pushed = pushed_as start mask ∙ ap (λ b. push_to b start end mask) (lt-ltb start end before) ∙ m.pushed;
      kept = m.kept;
      undo = undo_of mask;
      undone = m.undone;
      agrees = m.agrees;
      returns = m.returns;
    }
