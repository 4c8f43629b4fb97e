-- Slots that stay where sp moves, and guarded words as slots.
use Rattle.std.proofs.Common.{◌≡◌, ℕ, inl, inr, Bool, true, false, cond, List, [], ◌∷◌, filter, refl, ap, ◌≤◌, ◌||◌, nat_lt, map, ◌∙◌, arith, subst, ◌++◌, Option, Some, None}
use Rattle.std.proofs.lemmas.Bool.{le-leb}
use Rattle.std.specs.Option.{option_or}
use Rattle.eh_bus.specs.Lists.{Has}
use Rattle.eh_bus.specs.Memory.{stays_guarded, load_number, Memory}
use Rattle.sim_machines.specs.Activations.{Activation, release_raised, Caller, slots_of, Recorded, memory_of, guarded_words}
use Rattle.eh_bus.specs.Segment.{Segment}
use Rattle.sim_machines.specs.frame_check.Accepts.{Accepted}
use Rattle.eh_bus.specs.Guards.{insert_all}
use Rattle.eh_bus.proofs.GuardLaws.{in_inserted, still_inserted}
use Rattle.thumb_core.specs.Laws.{KeepsMap}
use Rattle.sim_machines.proofs.Saving.{in_guarded}
use Rattle.sim_relation.specs.Chain.{Chain}
use Rattle.sim_relation.proofs.Written.{SameWords}

-- ---- slots that stay

pub filter_same : (p : ℕ → Bool) (gs : List ℕ) → ((g : ℕ) → Has gs g → p g ≡ true) → filter p gs ≡ gs
filter_same p [] h = refl
filter_same p (g ∷ more) h = go (p g) (h g (inl refl)) (filter_same p more (λ v i. h v (inr i)))
  where
    go : (b : Bool) → b ≡ true → filter p more ≡ more → cond b (g ∷ filter p more) (filter p more) ≡ g ∷ more
    go true e r = ap (λ (gs : List ℕ). g ∷ gs) r
    go false e r = absurd cc

pub stays : (home : ℕ × ℕ) (new g : ℕ) → new ≤ g → stays_guarded home new g ≡ true
stays home new g h = ap (λ b. b || nat_lt g home.0) (le-leb new g h)

freed_same : (home : ℕ × ℕ) (old new : ℕ) (a : Activation) → ((g : ℕ) → Has a.slots g → new ≤ g) → release_raised home old new a ≡ a
freed_same home old new a h = go (nat_lt old new)
  where
    go : (b : Bool) → (let r : Activation = record a { slots = cond b (filter (stays_guarded home new) a.slots) a.slots } in r) ≡ a
    go true = ap (λ (gs : List ℕ). let r : Activation = record a { slots = gs } in r) (filter_same (stays_guarded home new) a.slots (λ g i. stays home new g (h g i)))
    go false = refl

pub outer_same : (x : Accepted) (segments : List Segment) (home : ℕ × ℕ) (old new : ℕ) (c : Caller) (outer : List Activation) → Chain x segments home c outer → new ≤ c.sp
    → map (λ (a : Activation). release_raised home old new a) outer ≡ outer
outer_same x segments home old new c [] h l = refl
outer_same x segments home old new c (a ∷ more) h l =
    let room = h.0.room in
    let low : (g : ℕ) → Has a.slots g → new ≤ g = λ g i. let w = h.0.slots g i in omega (arith, w.0, l) in
    ap (λ (b : Activation). b ∷ map (λ (a : Activation). release_raised home old new a) more) (freed_same home old new a low)
    ∙ ap (λ (bs : List Activation). a ∷ bs) (outer_same x segments home old new a.caller more h.1 (omega (arith, room, l)))

-- ---- guarded words keep what they hold

has_all : (gs : List ℕ) (g : ℕ) → Has gs g → Has (insert_all gs []) g
has_all [] g h = h
has_all (v ∷ more) g (inl e) = subst (λ w. Has (insert_all (v ∷ more) []) w) e (in_inserted v (insert_all more []))
has_all (v ∷ more) g (inr h) = still_inserted v g (insert_all more []) (has_all more g h)

has_left : (xs ys : List ℕ) (g : ℕ) → Has xs g → Has (xs ++ ys) g
has_left [] ys g h = absurd h
has_left (v ∷ more) ys g (inl e) = inl e
has_left (v ∷ more) ys g (inr h) = inr (has_left more ys g h)

has_right : (xs ys : List ℕ) (g : ℕ) → Has ys g → Has (xs ++ ys) g
has_right [] ys g h = h
has_right (v ∷ more) ys g h = inr (has_right more ys g h)

words_stay : (old new : List Segment) (acts : List Activation) → ((g : ℕ) → Has (slots_of acts) g → load_number 4 new g ≡ load_number 4 old g) → SameWords old new acts
words_stay old new [] h = tt
words_stay old new (a ∷ more) h = (λ g i. h g (has_left a.slots (slots_of more) g i), words_stay old new more (λ g i. h g (has_right a.slots (slots_of more) g i)))

-- the slots of all activations hold what they held
pub same_slot_words : (s : Recorded) (m : Memory) → KeepsMap (memory_of s) m → SameWords s.segments m.segments (s.first ∷ s.outer)
same_slot_words s m k = words_stay s.segments m.segments (s.first ∷ s.outer) (λ g i. k.guarded g (has_all (guarded_words s.beyond (s.first ∷ s.outer)) g (in_guarded s.beyond (s.first ∷ s.outer) g (inl i))))

-- ---- what is left of the first activation's slots

abbrev pub first_slots : Recorded → ℕ → ℕ → List ℕ
first_slots s old new = cond (nat_lt old new) (filter (stays_guarded s.home new) s.first.slots) s.first.slots

pub none_or : {A : Type 0} (a b : Option A) → option_or a b ≡ None → (a ≡ None) × (b ≡ None)
none_or (Some a) b e = absurd cc
none_or None b e = (refl, e)
