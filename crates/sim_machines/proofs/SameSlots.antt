-- The slots of activations and the guarded words of a memory: alike after every instruction.
use Rattle.std.proofs.Common.{◌≡◌, ℕ, ◌++◌, nat_lt, Bool, true, false, cond, List, [], ◌∷◌, map, filter, refl, sym, ap, ◌∙◌, arith}
use Rattle.std.proofs.lemmas.List.Elements.{filter-append}
use Rattle.eh_bus.specs.Guards.{insert_sorted, insert_all}
use Rattle.eh_bus.specs.Memory.{Memory, stays_guarded}
use Rattle.eh_bus.specs.Segment.{Segment}
use Rattle.eh_bus.proofs.GuardLaws.{Rising, filter_inserted, inserted_rising, guard_all-is, insert_append}
use Rattle.sim_machines.specs.Machine.{saved_words, release_if_raised, update_guards}
use Rattle.sim_machines.specs.Activations.{Activation, guarded_words, release_raised, staying_words, with_slots}

all_rise : (xs : List ℕ) → Rising 0 (insert_all xs [])
all_rise [] = tt
all_rise (x ∷ xs) = inserted_rising 0 x (insert_all xs []) (omega arith) (all_rise xs)

-- a test passes through the insertions
pub filter_all : (p : ℕ → Bool) (xs : List ℕ) → filter p (insert_all xs []) ≡ insert_all (filter p xs) []
filter_all p [] = refl
filter_all p (x ∷ xs) = filter_inserted p x 0 (insert_all xs []) (all_rise xs) ∙ go (p x) (filter_all p xs)
  where
    go : (b : Bool) → filter p (insert_all xs []) ≡ insert_all (filter p xs) []
        → cond b (insert_sorted x (filter p (insert_all xs []))) (filter p (insert_all xs [])) ≡ insert_all (cond b (x ∷ filter p xs) (filter p xs)) []
    go true e = ap (insert_sorted x) e
    go false e = e

-- slots that stay where sp goes from `old` to `new`
abbrev stay : ℕ × ℕ → ℕ → ℕ → List ℕ → List ℕ
stay home old new gs = cond (nat_lt old new) (filter (stays_guarded home new) gs) gs

stay_append : (home : ℕ × ℕ) (old new : ℕ) (xs ys : List ℕ) → stay home old new (xs ++ ys) ≡ stay home old new xs ++ stay home old new ys
stay_append home old new xs ys = go (nat_lt old new)
  where
    go : (b : Bool) → cond b (filter (stays_guarded home new) (xs ++ ys)) (xs ++ ys)
        ≡ cond b (filter (stays_guarded home new) xs) xs ++ cond b (filter (stays_guarded home new) ys) ys
    go true = filter-append (stays_guarded home new) xs ys
    go false = refl

module _ (beyond : List ℕ) where
  stay_outer : (home : ℕ × ℕ) (old new : ℕ) (acts : List Activation)
      → guarded_words (staying_words home old new beyond) (map (λ (a : Activation). release_raised home old new a) acts) ≡ stay home old new (guarded_words beyond acts)
  stay_outer home old new [] = refl
  stay_outer home old new (a ∷ more) =
      ap (λ (gs : List ℕ). stay home old new a.slots ++ gs) (stay_outer home old new more) ∙ sym (stay_append home old new a.slots (guarded_words beyond more))

append_more : (ws xs ys : List ℕ) → (ws ++ xs) ++ ys ≡ ws ++ (xs ++ ys)
append_more [] xs ys = refl
append_more (w ∷ ws) xs ys = ap (λ (gs : List ℕ). w ∷ gs) (append_more ws xs ys)

-- the words of a push join the first activation's slots, and where sp rose those below it leave: so do the guarded words
slots_stay : (home : ℕ × ℕ) (ws : List ℕ) (old new : ℕ) (a : Activation) (outer : List Activation) (beyond : List ℕ)
    → guarded_words (staying_words home old new beyond) (release_raised home old new (with_slots ws a) ∷ map (λ (b : Activation). release_raised home old new b) outer)
    ≡ stay home old new (ws ++ guarded_words beyond (a ∷ outer))
slots_stay home ws old new a outer beyond =
    ap (λ (gs : List ℕ). stay home old new (ws ++ a.slots) ++ gs) (stay_outer beyond home old new outer)
    ∙ sym (stay_append home old new (ws ++ a.slots) (guarded_words beyond outer)) ∙ ap (stay home old new) (append_more ws a.slots (guarded_words beyond outer))

pub same_slots : (home : ℕ × ℕ) (segments : List Segment) (saves count old new : ℕ) (a : Activation) (outer : List Activation) (beyond : List ℕ)
    → update_guards saves count old new (record { segments = segments; guards = insert_all (guarded_words beyond (a ∷ outer)) []; home = home })
    ≡ record {
      segments = segments;
      guards =
          insert_all (guarded_words (staying_words home old new beyond) (release_raised home old new (with_slots (saved_words saves count new) a) ∷ map (λ (b : Activation). release_raised home old new b) outer)) [];
      home = home;
    }
same_slots home segments saves count old new a outer beyond =
    let ws = saved_words saves count new in
    let with_guards : List ℕ → Memory = λ gs. record { segments = segments; guards = gs; home = home } in
    ap (release_if_raised old new) (guard_all-is ws (with_guards (insert_all (guarded_words beyond (a ∷ outer)) [])))
    ∙ ap (λ (gs : List ℕ). release_if_raised old new (with_guards gs)) (sym (insert_append ws (guarded_words beyond (a ∷ outer)) []))
    ∙ go (ws ++ guarded_words beyond (a ∷ outer)) (nat_lt old new)
    ∙ ap (λ (gs : List ℕ). with_guards (insert_all gs [])) (sym (slots_stay home ws old new a outer beyond))
  where
    guarding : List ℕ → Memory
    guarding gs = record { segments = segments; guards = gs; home = home }

    go : (gs : List ℕ) (b : Bool) → cond b (guarding (filter (stays_guarded home new) (insert_all gs []))) (guarding (insert_all gs []))
        ≡ guarding (insert_all (cond b (filter (stays_guarded home new) gs) gs) [])
    go gs true = ap guarding (filter_all (stays_guarded home new) gs)
    go gs false = refl
