-- A table of facts by slots, as a list place by place.
use Rattle.std.proofs.Common.{ℕ, ◌≡◌, ◌<◌, ◌+◌, ◌-◌, List, [], ◌∷◌, ◌++◌, length, get_or, set, replicate, take, cond, Option, Some, None, Result, Ok, Err, zero, suc, sym, ◌∙◌, ap, subst, refl, ⊎_elim, arith}
use Rattle.std.specs.Prelude.{OnOk, is_ok}
use Rattle.std.proofs.lemmas.Bool.{cases_eq}
use Rattle.std.proofs.lemmas.Option.{same_Some, none-some}
use Rattle.std.proofs.lemmas.List.{same_lists, get_or_read, get_or-set_same, get_or-set_other, length-set, length-append}
use Rattle.frame_facts.specs.declared.facts.Fact.{Fact}
use Rattle.frame_flow.specs.declared.facts.PlaceFact.{PlaceFact}
use Rattle.frame_flow.specs.Table.{no_one, fact_in, table, IsTable}

pub long : (slots : List (Option ℕ)) (known : List PlaceFact) → length (table slots known) ≡ length slots
long [] known = refl
long (s ∷ more) known = ap suc (long more known)

-- the fact of a place
pub at_slot : (slots : List (Option ℕ)) (known : List PlaceFact) (p : ℕ) → get_or (table slots known) p None ≡ fact_in known (get_or slots p None)
at_slot [] known p = refl
at_slot (s ∷ more) known zero = refl
at_slot (s ∷ more) known (suc p) = at_slot more known p

pub none_known : (n : ℕ) (known : List PlaceFact) → table (replicate n None) known ≡ replicate n None
none_known zero known = refl
none_known (suc n) known = ap (λ l. None ∷ l) (none_known n known)

nowhere : (n p k : ℕ) → get_or (replicate n None) p None ≡ Some k → ⊥
nowhere zero p k e = none-some k e
nowhere (suc n) zero k e = none-some k e
nowhere (suc n) (suc p) k e = nowhere n p k e

pub none_is_table : (slots : List (Option ℕ)) (n : ℕ) (known : List PlaceFact) → slots ≡ replicate n None → IsTable slots known
none_is_table slots n known e = record {
  within = λ p k s. absurd (nowhere n p k (subst (λ (l : List (Option ℕ)). get_or l p None ≡ Some k) e s));
  own = λ p k s. absurd (nowhere n p k (subst (λ (l : List (Option ℕ)). get_or l p None ≡ Some k) e s));
}

-- at a place of a list what stands past its end is never asked
within : (xs : List (Option Fact)) (k : ℕ) (d e : Option Fact) → k < length xs → get_or xs k d ≡ get_or xs k e
within [] k d e l = absurd (omega (arith, l))
within (x ∷ more) zero d e l = refl
within (x ∷ more) (suc k) d e l = within more k d e (omega (arith, l))

-- two tables are one where each place has one fact
same_tables : (xs ys : List (Option Fact)) → length xs ≡ length ys → ((p : ℕ) → get_or xs p None ≡ get_or ys p None) → xs ≡ ys
same_tables xs ys l f = same_lists xs ys l (λ k d m. within xs k d None m ∙ (f k ∙ within ys k None d (omega (arith, m, l))))

abbrev At : ℕ → Fact → PlaceFact
At p f = record { place = p; fact = f }

-- another place of the same slot is the same place
one_slot : (slots : List (Option ℕ)) (known : List PlaceFact) (p q k : ℕ) → IsTable slots known → get_or slots p None ≡ Some k → get_or slots q None ≡ Some k → q ≡ p
one_slot slots known p q k t a b = sym (t.own q k b) ∙ t.own p k a

-- ---- a fact that is known already is written anew

others_known : (slots : List (Option ℕ)) (known : List PlaceFact) (p q k : ℕ) (f : Fact) → IsTable slots known → get_or slots p None ≡ Some k → (q ≡ p → ⊥)
    → (o : Option ℕ) → get_or slots q None ≡ o → fact_in (set known k (At p f)) o ≡ fact_in known o
others_known slots known p q k f t here other None e = refl
others_known slots known p q k f t here other (Some j) e =
    ap (λ (x : PlaceFact). Some x.fact) (get_or-set_other known k j (At p f) no_one (λ (same : j ≡ k). other (one_slot slots known p q k t here (subst (λ (i : ℕ). get_or slots q None ≡ Some i) same e))))

pub write_known : (slots : List (Option ℕ)) (known : List PlaceFact) (p k : ℕ) (f : Fact) → IsTable slots known → p < length slots → get_or slots p None ≡ Some k
    → table slots (set known k (At p f)) ≡ set (table slots known) p (Some f)
write_known slots known p k f t l here =
    same_tables (table slots (set known k (At p f))) (set (table slots known) p (Some f))
    (long slots (set known k (At p f)) ∙ (sym (long slots known) ∙ sym (length-set (table slots known) p (Some f))))
    (λ q. at_slot slots (set known k (At p f)) q ∙ ⊎_elim
    (λ (same : q ≡ p).
    subst (λ (i : ℕ). fact_in (set known k (At p f)) (get_or slots i None) ≡ get_or (set (table slots known) p (Some f)) i None) (sym same)
    (ap (fact_in (set known k (At p f))) here
    ∙ (ap (λ (x : PlaceFact). Some x.fact) (get_or-set_same known k (At p f) no_one (t.within p k here))
    ∙ sym (get_or-set_same (table slots known) p (Some f) None (omega (arith, l, long slots known))))))
    (λ (other : q ≡ p → ⊥).
    others_known slots known p q k f t here other (get_or slots q None) refl ∙ (sym (at_slot slots known q) ∙ sym (get_or-set_other (table slots known) p q (Some f) None other)))
    (cases_eq q p))

pub known_table : (slots : List (Option ℕ)) (known : List PlaceFact) (p k : ℕ) (f : Fact) → IsTable slots known → get_or slots p None ≡ Some k → IsTable slots (set known k (At p f))
known_table slots known p k f t here = record {
  within = λ q j e. omega (arith, t.within q j e, length-set known k (At p f));
  own = λ q j e. ⊎_elim
      (λ (same : j ≡ k).
      subst (λ (i : ℕ). (get_or (set known k (At p f)) i no_one).place ≡ q) (sym same)
      (ap (λ (x : PlaceFact). x.place) (get_or-set_same known k (At p f) no_one (t.within p k here)) ∙ sym (one_slot slots known p q k t here (subst (λ (i : ℕ). get_or slots q None ≡ Some i) same e))))
      (λ (other : j ≡ k → ⊥). ap (λ (x : PlaceFact). x.place) (get_or-set_other known k j (At p f) no_one other) ∙ t.own q j e)
      (cases_eq j k);
}

-- ---- a place gets its first fact

last_known : (known : List PlaceFact) (x : PlaceFact) → get_or (known ++ x ∷ []) (length known) no_one ≡ x
last_known [] x = refl
last_known (y ∷ more) x = last_known more x

still_known : (known : List PlaceFact) (x : PlaceFact) (j : ℕ) → j < length known → get_or (known ++ x ∷ []) j no_one ≡ get_or known j no_one
still_known [] x j l = absurd (omega (arith, l))
still_known (y ∷ more) x zero l = refl
still_known (y ∷ more) x (suc j) l = still_known more x j (omega (arith, l))

others_new : (slots : List (Option ℕ)) (known : List PlaceFact) (x : PlaceFact) (q : ℕ) → IsTable slots known → (o : Option ℕ) → get_or slots q None ≡ o → fact_in (known ++ x ∷ []) o ≡ fact_in known o
others_new slots known x q t None e = refl
others_new slots known x q t (Some j) e = ap (λ (y : PlaceFact). Some y.fact) (still_known known x j (t.within q j e))

pub write_new : (slots : List (Option ℕ)) (known : List PlaceFact) (p : ℕ) (f : Fact) → IsTable slots known → p < length slots
    → table (set slots p (Some (length known))) (known ++ At p f ∷ []) ≡ set (table slots known) p (Some f)
write_new slots known p f t l =
    let slots' = set slots p (Some (length known)) in
    let known' = known ++ At p f ∷ [] in
    same_tables (table slots' known') (set (table slots known) p (Some f))
    (long slots' known' ∙ (length-set slots p (Some (length known)) ∙ (sym (long slots known) ∙ sym (length-set (table slots known) p (Some f)))))
    (λ q. at_slot slots' known' q ∙ ⊎_elim
    (λ (same : q ≡ p).
    subst (λ (i : ℕ). fact_in known' (get_or slots' i None) ≡ get_or (set (table slots known) p (Some f)) i None) (sym same)
    (ap (fact_in known') (get_or-set_same slots p (Some (length known)) None l)
    ∙ (ap (λ (x : PlaceFact). Some x.fact) (last_known known (At p f))
    ∙ sym (get_or-set_same (table slots known) p (Some f) None (omega (arith, l, long slots known))))))
    (λ (other : q ≡ p → ⊥).
    ap (fact_in known') (get_or-set_other slots p q (Some (length known)) None other)
    ∙ (others_new slots known (At p f) q t (get_or slots q None) refl ∙ (sym (at_slot slots known q) ∙ sym (get_or-set_other (table slots known) p q (Some f) None other))))
    (cases_eq q p))

pub new_table : (slots : List (Option ℕ)) (known : List PlaceFact) (p : ℕ) (f : Fact) → IsTable slots known → p < length slots → IsTable (set slots p (Some (length known))) (known ++ At p f ∷ [])
new_table slots known p f t l = record {
  within = λ q j e. ⊎_elim
      (λ (same : q ≡ p). omega (arith, one_more known (At p f), first q j same e))
      (λ (other : q ≡ p → ⊥). omega (arith, one_more known (At p f), t.within q j (before q j other e)))
      (cases_eq q p);
  own = λ q j e. ⊎_elim
      (λ (same : q ≡ p).
      subst (λ (i : ℕ). (get_or (known ++ At p f ∷ []) i no_one).place ≡ q) (first q j same e) (ap (λ (x : PlaceFact). x.place) (last_known known (At p f)) ∙ sym same))
      (λ (other : q ≡ p → ⊥).
      let old = before q j other e in ap (λ (x : PlaceFact). x.place) (still_known known (At p f) j (t.within q j old)) ∙ t.own q j old)
      (cases_eq q p);
}
  where
    first : (q j : ℕ) → q ≡ p → get_or (set slots p (Some (length known))) q None ≡ Some j → length known ≡ j
    first q j same e = same_Some (length known) j (sym (get_or-set_same slots p (Some (length known)) None l) ∙ subst (λ (i : ℕ). get_or (set slots p (Some (length known))) i None ≡ Some j) same e)

    before : (q j : ℕ) → (q ≡ p → ⊥) → get_or (set slots p (Some (length known))) q None ≡ Some j → get_or slots q None ≡ Some j
    before q j other e = sym (get_or-set_other slots p q (Some (length known)) None other) ∙ e

    one_more : (xs : List PlaceFact) (x : PlaceFact) → length (xs ++ x ∷ []) ≡ length xs + 1
    one_more xs x = omega (arith, length-append xs (x ∷ []))

-- ---- as calls see them

new_is : (slots : List (Option ℕ)) (n : ℕ) (known : List PlaceFact) → slots ≡ replicate n None → table slots known ≡ replicate n None
new_is slots n known e = ap (λ (l : List (Option ℕ)). table l known) e ∙ none_known n known

none_taken : (n : ℕ) (none : List (Option ℕ)) → none ≡ [] → take n none ≡ []
none_taken zero none e = refl
none_taken (suc n) none e = ap (take (suc n)) e

empty_slots : (before slots : List (Option ℕ)) (n m : ℕ) → before ≡ [] → m ≡ 0 → slots ≡ take n before ++ replicate (n - m) None → slots ≡ replicate n None
empty_slots before slots n m e z is =
    let rest : n - m ≡ n = omega (arith, z) in
    is
    ∙ (ap (λ (l : List (Option ℕ)). l ++ replicate (n - m) None) (none_taken n before e)
    ∙ ap (λ (k : ℕ). let l : List (Option ℕ) = replicate k None in l) rest)

-- a table that is made anew has no fact, whether or not memory runs out
pub blank_table : {E : Type 0} (before slots : List (Option ℕ)) (known : List PlaceFact) (n m : ℕ) (r : Result (Unit {0}) E) → before ≡ [] → m ≡ 0
    → slots ≡ cond (is_ok r) (take n before ++ replicate (n - m) None) before → IsTable slots known
blank_table before slots known n m (Ok u) e z is = none_is_table slots n known (empty_slots before slots n m e z is)
blank_table before slots known n m (Err fault) e z is = none_is_table slots 0 known (is ∙ e)

-- .. and has as many places as are asked for where it doesn't
pub blank_is : {E : Type 0} (before slots : List (Option ℕ)) (known : List PlaceFact) (n m : ℕ) (r : Result (Unit {0}) E) → before ≡ [] → m ≡ 0
    → slots ≡ cond (is_ok r) (take n before ++ replicate (n - m) None) before → OnOk r (table slots known ≡ replicate n None)
blank_is before slots known n m (Ok u) e z is = new_is slots n known (empty_slots before slots n m e z is)
blank_is before slots known n m (Err fault) e z is = tt

pub slot_here : (slots : List (Option ℕ)) (p : ℕ) (x o : Option ℕ) → p < length slots → x ≡ get_or slots p x → x ≡ o → get_or slots p None ≡ o
slot_here slots p x o l e is = sym (get_or_read slots p x l e None) ∙ is

pub room : (slots : List (Option ℕ)) (known : List PlaceFact) (now : List (Option Fact)) (p : ℕ) → table slots known ≡ now → p < length now → p < length slots
room slots known now p view l = omega (arith, l, ap length view, long slots known)

pub got : (slots : List (Option ℕ)) (known : List PlaceFact) (now : List (Option Fact)) (p k : ℕ) (x : PlaceFact) → table slots known ≡ now → get_or slots p None ≡ Some k → k < length known → x ≡ get_or known k x
    → Some x.fact ≡ get_or now p None
got slots known now p k x view here l e =
    ap (λ (y : PlaceFact). Some y.fact) (get_or_read known k x l e no_one)
    ∙ (ap (fact_in known) (sym here) ∙ (sym (at_slot slots known p) ∙ ap (λ (t : List (Option Fact)). get_or t p None) view))

pub wrote_known : (slots : List (Option ℕ)) (known : List PlaceFact) (now : List (Option Fact)) (p k : ℕ) (f : Fact) → IsTable slots known → table slots known ≡ now → p < length slots → get_or slots p None ≡ Some k
    → table slots (set known k (At p f)) ≡ set now p (Some f)
wrote_known slots known now p k f t view l here = write_known slots known p k f t l here ∙ ap (λ (l : List (Option Fact)). set l p (Some f)) view

pub wrote_new : (slots : List (Option ℕ)) (known known' : List PlaceFact) (now : List (Option Fact)) (p n : ℕ) (f : Fact) → IsTable slots known → table slots known ≡ now → p < length slots → n ≡ length known → known' ≡ known ++ At p f ∷ []
    → table (set slots p (Some n)) known' ≡ set now p (Some f)
wrote_new slots known known' now p n f t view l is all = rw (is, all) (write_new slots known p f t l ∙ ap (λ (l : List (Option Fact)). set l p (Some f)) view)

pub newer_table : (slots : List (Option ℕ)) (known known' : List PlaceFact) (p n : ℕ) (f : Fact) → IsTable slots known → p < length slots → n ≡ length known → known' ≡ known ++ At p f ∷ [] → IsTable (set slots p (Some n)) known'
newer_table slots known known' p n f t l is all = rw (is, all) (new_table slots known p f t l)
