-- The registers that the caller gets.
use Rattle.std.proofs.Common.{◌≡◌, ◌≢◌, ℕ, zero, suc, ◌+◌, ◌-◌, ◌<◌, ◌||◌, ◌&&◌, Bool, true, false, cond, List, [], ◌∷◌, length, replicate, ap, sym, ◌∙◌, refl, arith}
use Rattle.std.specs.Prelude.{Ok, filter, slice_index, slice_set, ◌==◌}
use Rattle.std.specs.List.{list_any, range_with_len}
use Rattle.std.proofs.lemmas.Bool.{eqb-true, eqb-false}
use Rattle.std.proofs.lemmas.Grind.{common_steps}
use Rattle.std.proofs.lemmas.List.{length-set, get_or-set_same, get_or-set_other}
use Rattle.std.proofs.lemmas.List.Folds.{list_any-append}
use Rattle.eh_bus.specs.Segment.{Segment}
use Rattle.eh_codes.specs.declared.code.UnwindCode.TheVariants.{Finish}
use Rattle.eh_codes.specs.Cut.{Is}
use Rattle.eh_codes.proofs.Search.{all_from_at}
use Rattle.asm_unwind.specs.declared.directive.UnwindDirective.{UnwindDirective}
use Rattle.asm_unwind.specs.declared.directive.UnwindDirective.TheVariants.{FnStart, FnEnd, Save, Pad, SetFp, CantUnwind, PersonalityIndex, HandlerData}
use Rattle.asm_unwind.specs.Refusals.{has_register, directive_state_of}
use Rattle.asm_unwind.specs.Codes.{codes_of}
use Rattle.asm_unwind.specs.Meaning.{registers_in, saved_registers}
use Rattle.asm_unwind.specs.EntryLaw.{ReadsAs}
use Rattle.asm_unwind.proofs.ReadLaws.{law_of_function_codes}
use Rattle.eh_bytecode.specs.declared.frame.UnwindState.{UnwindState}
use Rattle.eh_bytecode.specs.Meaning.{run_codes, finish_registers, begin_unwind, unwind_result}
use Rattle.eh_unwind_laws.specs.PrologueLaw.{frame_bytes, words_from, stores, saves_register, ProloguesAreUndone}
use Rattle.eh_unwind_laws.proofs.Accepted.{accepted, kept_all}
use Rattle.eh_unwind_laws.proofs.Steps.{at}
use Rattle.eh_unwind_laws.proofs.Loading.{taken}
use Rattle.eh_unwind_laws.proofs.Prologue.{undone}

-- ---- what the stores of a prologue give back

abbrev stored : ℕ → List (ℕ × ℕ) → Bool
stored k list = list_any (λ (store : ℕ × ℕ). store.0 == k) list

length-taken : (old : List ℕ) (list : List (ℕ × ℕ)) (r : List ℕ) → length (taken old list r) ≡ length r
length-taken old [] r = refl
length-taken old (s ∷ more) r = length-taken old more (slice_set r s.0 (slice_index old s.0)) ∙ length-set r s.0 (slice_index old s.0)

set_cases : (old r : List ℕ) (j k : ℕ) (same after : Bool) → (j == k) ≡ same → k < length r →
    cond after (slice_index old k) (slice_index (slice_set r j (slice_index old j)) k) ≡ cond (same || after) (slice_index old k) (slice_index r k)
set_cases old r j k same true s room = at_true same
  where
    at_true : (b : Bool) → slice_index old k ≡ cond (b || true) (slice_index old k) (slice_index r k)
    at_true true = refl
    at_true false = refl
set_cases old r j k true false s room =
    let e : j ≡ k = eqb-true j k s in
    ap (λ n. slice_index (slice_set r n (slice_index old n)) k) e ∙ get_or-set_same r k (slice_index old k) 0 room
set_cases old r j k false false s room =
    let other : j ≢ k = eqb-false j k s in
    get_or-set_other r j k (slice_index old j) 0 (λ e. other (sym e))

value : (old : List ℕ) (list : List (ℕ × ℕ)) (r : List ℕ) (k : ℕ) → k < length r → slice_index (taken old list r) k ≡ cond (stored k list) (slice_index old k) (slice_index r k)
value old [] r k room = refl
value old (s ∷ more) r k room =
    value old more (slice_set r s.0 (slice_index old s.0)) k (rw (length-set r s.0 (slice_index old s.0)) room)
    ∙ set_cases old r s.0 k (s.0 == k) (stored k more) refl room

-- ---- a register is stored exactly where a directive saves it

stored_words : (address k : ℕ) (registers : List ℕ) → stored k (words_from address registers) ≡ list_any (λ n. n == k) registers
stored_words address k [] = refl
stored_words address k (n ∷ more) = ap (λ b. (n == k) || b) (stored_words (address + 4) k more)

and_false : (b : Bool) → (b && false) ≡ false
and_false true = refl
and_false false = refl

combine : (keep here last any : Bool) → (here ≡ true → keep ≡ last) → cond keep (here || (any && last)) (any && last) ≡ ((here || any) && last)
combine true true last any f = f refl
combine false true last any f = ap (λ b. any && b) (sym (f refl)) ∙ and_false any ∙ f refl
combine true false last any f = refl
combine false false last any f = refl

any_of_cond : (p : ℕ → Bool) (b : Bool) (xs ys : List ℕ) → list_any p (cond b xs ys) ≡ cond b (list_any p xs) (list_any p ys)
any_of_cond p true xs ys = refl
any_of_cond p false xs ys = refl

any_filter : (q : ℕ → Bool) (k : ℕ) (xs : List ℕ) → list_any (λ n. n == k) (filter q xs) ≡ (list_any (λ n. n == k) xs && q k)
any_filter q k [] = refl
any_filter q k (x ∷ xs) =
    any_of_cond (λ n. n == k) (q x) (x ∷ filter q xs) (filter q xs)
    ∙ ap (λ rest. cond (q x) ((x == k) || rest) rest) (any_filter q k xs)
    ∙ combine (q x) (x == k) (q k) (list_any (λ n. n == k) xs) (λ e. ap q (eqb-true x k e))

is_register : (k : ℕ) → k < 16 → list_any (λ n. n == k) (range_with_len 0 16) ≡ true
is_register k room = all_from_at (λ k. list_any (λ n. n == k) (range_with_len 0 16)) 16 0 refl k (omega arith) room

one_saves : (address k : ℕ) (d : UnwindDirective) → k < 16 → stored k (words_from address (saved_registers d)) ≡ saves_register k d
one_saves address k (Save registers) room =
    stored_words address k (registers_in registers) ∙ any_filter (has_register registers) k (range_with_len 0 16) ∙ ap (λ b. b && has_register registers k) (is_register k room)
one_saves address k FnStart room = refl
one_saves address k FnEnd room = refl
one_saves address k (Pad size) room = refl
one_saves address k (SetFp register offset) room = refl
one_saves address k CantUnwind room = refl
one_saves address k (PersonalityIndex index) room = refl
one_saves address k HandlerData room = refl

or_turned : (a b : Bool) → (a || b) ≡ (b || a)
or_turned true true = refl
or_turned true false = refl
or_turned false true = refl
or_turned false false = refl

all_saves : (sp k : ℕ) (directives : List UnwindDirective) → k < 16 → stored k (stores sp directives) ≡ list_any (saves_register k) directives
all_saves sp k [] room = refl
all_saves sp k (d ∷ more) room =
    let low = sp - frame_bytes d in
    list_any-append (λ (store : ℕ × ℕ). store.0 == k) (stores low more) (words_from low (saved_registers d))
    ∙ (λ i. all_saves low k more room i || one_saves low k d room i)
    ∙ or_turned (list_any (saves_register k) more) (saves_register k d)

-- ---- the end of the codes

finishing : (segments : List Segment) (s : UnwindState) (fill : ℕ) → run_codes segments s (replicate fill (Is Finish)) ≡ Ok (finish_registers s)
finishing segments s zero = refl
finishing segments s (suc fill) = refl

-- the registers at the end
abbrev ended : List ℕ → ℕ → List ℕ
ended t sp = slice_set (slice_set t 15 (slice_index t 14)) 13 sp

ended_sp : (t : List ℕ) (sp : ℕ) → length t ≡ 16 → slice_index (ended t sp) 13 ≡ sp
ended_sp t sp wide = grind (arith, common_steps)

ended_pc : (t : List ℕ) (sp : ℕ) → length t ≡ 16 → slice_index (ended t sp) 15 ≡ slice_index (ended t sp) 14
ended_pc t sp wide = grind (arith, common_steps)

ended_other : (t : List ℕ) (sp k : ℕ) → k < 15 → k ≢ 13 → slice_index (ended t sp) k ≡ slice_index t k
ended_other t sp k low other =
    get_or-set_other (slice_set t 15 (slice_index t 14)) 13 k sp 0 other ∙ get_or-set_other t 15 k (slice_index t 14) 0 (λ e. absurd (omega arith))

pub law_of_prologues : ProloguesAreUndone
unfolding unwind_result
law_of_prologues directives entry segments old r fine narrow unwinds is wide_old small_old wide small after =
    let sp : ℕ = slice_index old 13 in
    let list : List (ℕ × ℕ) = stores sp directives in
    let t : List ℕ = taken old list r in
    let kept = kept_all directives fine narrow in
    let read : ReadsAs entry (codes_of directives) = law_of_function_codes directives entry kept.writable kept.small_index unwinds is in
    let own : length t ≡ 16 = length-taken old list r ∙ wide in
    record {
      caller = ended t sp;
      ends = ap (run_codes segments (begin_unwind r)) read.items
          ∙ undone segments old r sp (slice_index r 13) (directive_state_of []) directives small_old small (accepted directives fine) (small_old 13) after.room after.frame_pointer after.pushed after.stack_pointer (replicate read.fill (Is Finish))
          ∙ finishing segments (at sp t) read.fill;
      wide = length-set (slice_set t 15 (slice_index t 14)) 13 sp ∙ length-set t 15 (slice_index t 14) ∙ own;
      sp = ended_sp t sp own;
      pc = ended_pc t sp own;
      others = λ k low other.
          ended_other t sp k low other ∙ value old list r k (rw wide (omega arith)) ∙ ap (λ b. cond b (slice_index old k) (slice_index r k)) (all_saves sp k directives (omega arith));
    }
