-- Codes that pop registers read them from where a prologue pushed them.
use Rattle.std.proofs.Common.{◌≡◌, ℕ, ◌+◌, ◌-◌, ◌*◌, ◌%◌, ◌^◌, ◌<◌, ◌≤◌, ◌||◌, suc, Bool, true, false, cond, List, [], ◌∷◌, ◌++◌, length, ap, sym, ◌∙◌, refl, arith, length-append, All}
use Rattle.std.specs.Prelude.{Result, Ok, sum_by, flat_map, filter, slice_index, slice_set, ◌==◌}
use Rattle.std.specs.List.{list_any, range_with_len}
use Rattle.std.proofs.lemmas.Bool.{eqb-true}
use Rattle.std.proofs.lemmas.List.Elements.{All-nil, All-cons, All-head, All-tail}
use Rattle.std.proofs.lemmas.List.Sums.{sum_by-cons}
use Rattle.eh_bus.specs.Segment.{Segment}
use Rattle.eh_bus.specs.Memory.{load_number}
use Rattle.thumb_core.specs.Registers.{write_register}
use Rattle.thumb_core.specs.Words.{load_words, loads_from, ◌>>=◌}
use Rattle.eh_codes.specs.declared.code.UnwindCode.{UnwindCode}
use Rattle.eh_codes.specs.Meaning.{Effect, Rises, Falls, Pops, Takes, Refuses, Finishes, effect}
use Rattle.asm_unwind.specs.Refusals.{has_register}
use Rattle.asm_unwind.specs.Meaning.{rise_of, fall_of, pops_of, is_other, code_rise, code_fall, code_pops, is_other_code, registers_in, InAll}
use Rattle.asm_unwind.proofs.KeptLemmas.{or_no}
use Rattle.eh_bytecode.specs.Meaning.{Goes, effect_step, run_codes, pop_step as popped_state}
use Rattle.eh_bytecode.specs.RecipeLaw.{Small}
use Rattle.eh_unwind_laws.specs.PrologueLaw.{words_from}
use Rattle.eh_unwind_laws.proofs.Steps.{at, Reaches, reaches_more, reaches_to}

-- registers that took their old values, in the order of stores
abbrev pub taken : List ℕ → List (ℕ × ℕ) → List ℕ → List ℕ
taken old [] r = r
taken old (store ∷ more) r = taken old more (slice_set r store.0 (slice_index old store.0))

pub taken-append : (old : List ℕ) (xs ys : List (ℕ × ℕ)) (r : List ℕ) → taken old (xs ++ ys) r ≡ taken old ys (taken old xs r)
taken-append old [] ys r = refl
taken-append old (x ∷ xs) ys r = taken-append old xs ys (slice_set r x.0 (slice_index old x.0))

-- the words of stores hold the old values
abbrev pub Holds : List Segment → List ℕ → (ℕ × ℕ) → Type 0
Holds segments old store = load_number 4 segments store.1 ≡ Ok (slice_index old store.0)

-- no register of a list is the stack pointer or pc
abbrev pub Plain : List ℕ → Type 0
Plain [] = Unit {0}
Plain (k ∷ more) = ((k == 13) ≡ false) × ((k == 15) ≡ false) × Plain more

plain-append : (xs ys : List ℕ) → Plain (xs ++ ys) → Plain xs × Plain ys
plain-append [] ys h = (tt, h)
plain-append (x ∷ xs) ys h = let more = plain-append xs ys h.2 in ((h.0, h.1, more.0), more.1)

no_pc : (registers : List ℕ) → Plain registers → list_any (λ k. k == 15) registers ≡ false
no_pc [] h = refl
no_pc (k ∷ more) h = rw (h.1) (no_pc more h.2)

plain_cases : (p : ℕ → Bool) (x : ℕ) (xs : List ℕ) (here : Bool) → p x ≡ here → p 13 ≡ false → p 15 ≡ false → Plain (filter p xs) → Plain (cond here (x ∷ filter p xs) (filter p xs))
plain_cases p x xs false s a b more = more
plain_cases p x xs true s a b more = (other 13 (x == 13) refl a, other 15 (x == 15) refl b, more)
  where
    clash : {X : Type 0} → true ≡ false → X
    clash e = cc

    other : (n : ℕ) (same : Bool) → (x == n) ≡ same → p n ≡ false → (x == n) ≡ false
    other n false e none = e
    other n true e none = clash (sym s ∙ ap p (eqb-true x n e) ∙ none)

plain_filter : (p : ℕ → Bool) (xs : List ℕ) → p 13 ≡ false → p 15 ≡ false → Plain (filter p xs)
plain_filter p [] a b = tt
plain_filter p (x ∷ xs) a b = plain_cases p x xs (p x) refl a b (plain_filter p xs a b)

pub plain_list : (registers : ℕ) → has_register registers 13 ≡ false → has_register registers 15 ≡ false → Plain (registers_in registers)
plain_list registers a b = plain_filter (has_register registers) (range_with_len 0 16) a b

-- a word written to a plain register is kept as it is
word_cases : (sp : Bool) (x : ℕ) → sp ≡ false → x < 2 ^ 32 → cond sp (x % 2 ^ 32 - x % 2 ^ 32 % 4) (x % 2 ^ 32) ≡ x
word_cases false x e small = omega arith
word_cases true x e small = cc

put_plain : (old r : List ℕ) (k : ℕ) → Small old → (k == 13) ≡ false → write_register r k (slice_index old k) ≡ slice_set r k (slice_index old k)
put_plain old r k small plain = ap (slice_set r k) (word_cases (k == 13) (slice_index old k) plain (small k))

-- words that stand one after the other are loaded
loaded : (segments : List Segment) (old : List ℕ) (base at : ℕ) (registers r : List ℕ) → Small old → Plain registers → base + at + 4 * length registers ≤ 2 ^ 32 →
    All (Holds segments old) (words_from (base + at) registers) →
    load_words segments base (loads_from at registers) r ≡ Ok (taken old (words_from (base + at) registers) r)
loaded segments old base at [] r small plain room holds = refl
loaded segments old base at (k ∷ more) r small plain room holds =
    let here : load_number 4 segments (base + at) ≡ Ok (slice_index old k) = All-head (Holds segments old) (k, base + at) (words_from (base + at + 4) more) holds in
    let place : (base + at) % 2 ^ 32 ≡ base + at = omega arith in
    let next : base + at + 4 ≡ base + (at + 4) = omega arith in
    let following : All (Holds segments old) (words_from (base + (at + 4)) more) = rw (← next) (All-tail (Holds segments old) (k, base + at) (words_from (base + at + 4) more) holds) in
    ap (λ a. load_number 4 segments a >>= (λ x. load_words segments base (loads_from (at + 4) more) (write_register r k x))) place
    ∙ ap (λ (o : Result ℕ _). o >>= (λ x. load_words segments base (loads_from (at + 4) more) (write_register r k x))) here
    ∙ ap (load_words segments base (loads_from (at + 4) more)) (put_plain old r k small plain.0)
    ∙ loaded segments old base (at + 4) more (slice_set r k (slice_index old k)) small plain.2 (omega arith) following
    ∙ ap (λ a. Ok (taken old (words_from a more) (slice_set r k (slice_index old k)))) (sym next)

-- an effect that only pops
one_pops : (segments : List Segment) (old : List ℕ) (v : ℕ) (r : List ℕ) (e : Effect) → Small old → is_other e ≡ false → rise_of e ≡ 0 → fall_of e ≡ 0 → Plain (pops_of e) → v + 4 * length (pops_of e) < 2 ^ 32 →
    All (Holds segments old) (words_from v (pops_of e)) → effect_step segments (at v r) e ≡ Goes (at (v + 4 * length (pops_of e)) (taken old (words_from v (pops_of e)) r))
one_pops segments old v r (Rises by) small other up down plain room holds = ap (λ v. Goes (at v r)) (let e : (v + by) % 2 ^ 32 ≡ v + 4 * 0 = omega (arith, up) in e)
one_pops segments old v r (Falls by) small other up down plain room holds = ap (λ v. Goes (at v r)) (let e : (v + (2 ^ 32 - by)) % 2 ^ 32 ≡ v + 4 * 0 = omega (arith, down) in e)
one_pops segments old v r (Pops registers) small other up down plain room holds =
    let zeros : v + 0 ≡ v = omega arith in
    let there : All (Holds segments old) (words_from (v + 0) registers) = rw zeros holds in
    let read : load_words segments v (loads_from 0 registers) r ≡ Ok (taken old (words_from v registers) r) =
    loaded segments old v 0 registers r small plain (omega arith) there ∙ ap (λ a. Ok (taken old (words_from a registers) r)) zeros in
    ap (popped_state (at v r) registers) read
    ∙ ap (λ w. Goes (record { vsp = w; r = taken old (words_from v registers) r; popped_pc = false || list_any (λ k. k == 15) registers })) (let e : (v + 4 * length registers) % 2 ^ 32 ≡ v + 4 * length registers = omega arith in e)
    ∙ ap (λ b. Goes (record { vsp = v + 4 * length registers; r = taken old (words_from v registers) r; popped_pc = false || b })) (no_pc registers plain)
one_pops segments old v r (Takes register) small other up down plain room holds = cc
one_pops segments old v r Refuses small other up down plain room holds = cc
one_pops segments old v r Finishes small other up down plain room holds = cc

words_from-append : (address : ℕ) (xs ys : List ℕ) → words_from address (xs ++ ys) ≡ words_from address xs ++ words_from (address + 4 * length xs) ys
words_from-append address [] ys = ap (λ a. words_from a ys) (let e : address ≡ address + 4 * 0 = omega arith in e)
words_from-append address (x ∷ xs) ys =
    ap (λ (l : List (ℕ × ℕ)). (x, address) ∷ l) (words_from-append (address + 4) xs ys)
    ∙ ap (λ a. words_from address (x ∷ xs) ++ words_from a ys) (let e : address + 4 + 4 * length xs ≡ address + 4 * suc (length xs) = omega arith in e)

-- what holds of the elements of two lists, holds of each list's
pub in_front : {X : Type 0} (P : X → Type 0) (xs ys : List X) → All P (xs ++ ys) → All P xs × All P ys
in_front P [] ys h = (All-nil P, h)
in_front P (x ∷ xs) ys h =
    let more = in_front P xs ys (All-tail P x (xs ++ ys) h) in
    (All-cons P x xs (All-head P x (xs ++ ys) h) more.0, more.1)

popping : (segments : List Segment) (old : List ℕ) (v : ℕ) (r : List ℕ) (codes : List UnwindCode) → Small old → sum_by code_rise codes ≡ 0 → sum_by code_fall codes ≡ 0 → list_any is_other_code codes ≡ false →
    Plain (flat_map code_pops codes) → v + 4 * length (flat_map code_pops codes) < 2 ^ 32 → All (Holds segments old) (words_from v (flat_map code_pops codes)) →
    Reaches segments (at v r) codes (at (v + 4 * length (flat_map code_pops codes)) (taken old (words_from v (flat_map code_pops codes)) r))
popping segments old v r [] small up down keep plain room holds = λ following. ap (λ v. run_codes segments (at v r) following) (let e : v ≡ v + 4 * 0 = omega arith in e)
popping segments old v r (code ∷ codes) small up down keep plain room holds =
    let first : List ℕ = code_pops code in
    let rest : List ℕ = flat_map code_pops codes in
    let other = or_no (is_other_code code) (list_any is_other_code codes) keep in
    let ups : code_rise code + sum_by code_rise codes ≡ 0 = sym (sum_by-cons code_rise code codes) ∙ up in
    let lows : code_fall code + sum_by code_fall codes ≡ 0 = sym (sum_by-cons code_fall code codes) ∙ down in
    let both = plain-append first rest plain in
    let count : length (first ++ rest) ≡ length first + length rest = length-append first rest in
    let split : words_from v (first ++ rest) ≡ words_from v first ++ words_from (v + 4 * length first) rest = words_from-append v first rest in
    let parts = in_front (Holds segments old) (words_from v first) (words_from (v + 4 * length first) rest) (rw split at holds) in
    let there : at (v + 4 * length first + 4 * length rest) (taken old (words_from (v + 4 * length first) rest) (taken old (words_from v first) r)) ≡ at (v + 4 * length (first ++ rest)) (taken old (words_from v (first ++ rest)) r) =
    ap (λ w. at w (taken old (words_from (v + 4 * length first) rest) (taken old (words_from v first) r))) (let e : v + 4 * length first + 4 * length rest ≡ v + 4 * length (first ++ rest) = omega (arith, count) in e)
    ∙ ap (at (v + 4 * length (first ++ rest))) (sym (taken-append old (words_from v first) (words_from (v + 4 * length first) rest) r) ∙ ap (λ l. taken old l r) (sym split)) in
    reaches_to segments (at v r) (at (v + 4 * length first + 4 * length rest) (taken old (words_from (v + 4 * length first) rest) (taken old (words_from v first) r))) (at (v + 4 * length (first ++ rest)) (taken old (words_from v (first ++ rest)) r)) (code ∷ codes) there
    (reaches_more segments (at v r) (at (v + 4 * length first) (taken old (words_from v first) r)) (at (v + 4 * length first + 4 * length rest) (taken old (words_from (v + 4 * length first) rest) (taken old (words_from v first) r))) code codes
    (one_pops segments old v r (effect code) small other.0 (omega (arith, ups)) (omega (arith, lows)) both.0 (omega (arith, count)) parts.0)
    (popping segments old (v + 4 * length first) (taken old (words_from v first) r) codes small (omega (arith, ups)) (omega (arith, lows)) other.1 both.1 (omega (arith, count)) parts.1))

-- codes that pop just a list of registers
pub pops_list : (segments : List Segment) (old : List ℕ) (v : ℕ) (r registers : List ℕ) (codes : List UnwindCode) → Small old → InAll codes 0 0 registers → Plain registers → v + 4 * length registers < 2 ^ 32 →
    All (Holds segments old) (words_from v registers) → Reaches segments (at v r) codes (at (v + 4 * length registers) (taken old (words_from v registers) r))
pops_list segments old v r registers codes small law plain room holds =
    let is : flat_map code_pops codes ≡ registers = law.pop in
    reaches_to segments (at v r) (at (v + 4 * length (flat_map code_pops codes)) (taken old (words_from v (flat_map code_pops codes)) r)) (at (v + 4 * length registers) (taken old (words_from v registers) r)) codes
    (ap (λ l. at (v + 4 * length l) (taken old (words_from v l) r)) is)
    (popping segments old v r codes small law.raise law.lower law.keep (rw is plain) (rw is room) (rw is holds))
