-- A mark is written into a list of marks, and a place put on the list of places.
use Rattle.std.proofs.Common.{ℕ, ◌≡◌, ◌<◌, ◌≤◌, inr, Bool, true, false, List, [], ◌∷◌, ◌++◌, length, set, sym, ◌∙◌, subst, refl, ⊎_elim, arith, le_refl}
use Rattle.std.proofs.lemmas.Bool.{cases_eq, true≢false}
use Rattle.std.proofs.lemmas.Bool.Decides.{Decides-eqb}
use Rattle.std.proofs.lemmas.Cmp.{nat_eq_equiv}
use Rattle.std.proofs.lemmas.List.{get_or-set_same, get_or-set_other, get_or_append_left, length-set, length_push}
use Rattle.std.proofs.lemmas.List.Elements.{Contains-push, Contains-push_cases, Contains-append_left}
use Rattle.std.proofs.lemmas.Map.Keys.{IsDistinct-push}
use Rattle.std.proofs.lemmas.Map.Made.{is_member-Decides, length-le_from_is_member}
use Rattle.std.specs.Prelude.{nat_eq}
use Rattle.std.specs.List.{Contains, IsDistinct, list_any}
use Rattle.frame_graph.specs.FlowGraph.{FlowGraph}
use Rattle.frame_graph.specs.Reach.{IsReached}
use Rattle.frame_reach.specs.declared.marks.TheConstants.{MOST_REACHED}
use Rattle.frame_reach.specs.Marks.{IsPad, IsTarget, IsTooLong}
use Rattle.frame_reach.specs.Held.{SearchView, is_set}
use Rattle.frame_reach.specs.Prologue.{places}
use Rattle.frame_reach.specs.Search.{AreSound, Grow, IsPutIn}

-- ---- lists of different places

-- a test that fails is false
not_true : (b : Bool) → (b ≡ true → ⊥) → b ≡ false
not_true true n = absurd (n refl)
not_true false n = refl

pub once_more : (xs : List ℕ) (p : ℕ) → IsDistinct nat_eq xs → (Contains xs p → ⊥) → IsDistinct nat_eq (xs ++ p ∷ [])
once_more xs p d n = IsDistinct-push nat_eq_equiv xs p d (not_true (list_any (nat_eq p) xs) (λ h. n ((is_member-Decides Decides-eqb xs p).0 h)))

-- different places that are all on a list are no more than it has
pub no_more : (xs ys : List ℕ) → IsDistinct nat_eq xs → ((p : ℕ) → Contains xs p → Contains ys p) → length xs ≤ length ys
no_more xs ys d all = length-le_from_is_member nat_eq_equiv xs ys d (λ q h. (is_member-Decides Decides-eqb ys q).1 (all q ((is_member-Decides Decides-eqb xs q).0 h)))

-- ---- one step after the other

pub same : (h : SearchView) → Grow h h
same h = record { reached = λ p e. e; target = λ p e. e; pad = λ p e. e; longer = le_refl (length h.places); kept = λ k l. refl }

pub then : (a b c : SearchView) → Grow a b → Grow b c → Grow a c
then a b c g h = record {
  reached = λ p e. h.reached p (g.reached p e);
  target = λ p e. h.target p (g.target p e);
  pad = λ p e. h.pad p (g.pad p e);
  longer = omega (arith, g.longer, h.longer);
  kept = λ k l. h.kept k (omega (arith, l, g.longer)) ∙ g.kept k l;
}

-- ---- a mark is set

pub marked : (xs : List Bool) (p : ℕ) → p < length xs → is_set (set xs p true) p ≡ true
marked xs p l = get_or-set_same xs p true false l

stays : (xs : List Bool) (p : ℕ) → p < length xs → (q : ℕ) → is_set xs q ≡ true → is_set (set xs p true) q ≡ true
stays xs p l q h = ⊎_elim
    (λ (e : q ≡ p). subst (λ (x : ℕ). is_set (set xs p true) x ≡ true) (sym e) (marked xs p l))
    (λ (n : q ≡ p → ⊥). get_or-set_other xs p q true false n ∙ h)
    (cases_eq q p)

-- what holds of the place and of those that were marked holds of those that are
back : (xs : List Bool) (p : ℕ) (P : ℕ → Type 0) → P p → ((q : ℕ) → is_set xs q ≡ true → P q) → (q : ℕ) → is_set (set xs p true) q ≡ true → P q
back xs p P here before q h = ⊎_elim
    (λ (e : q ≡ p). subst P (sym e) here)
    (λ (n : q ≡ p → ⊥). before q (sym (get_or-set_other xs p q true false n) ∙ h))
    (cases_eq q p)

module _ (s : FlowGraph) (h : SearchView) (p : ℕ) (a : AreSound s h) where
  -- ---- a place is put on the list

  abbrev pub with_place : List ℕ → SearchView
  with_place ps = record h { reached = set h.reached p true; places = ps }

  unlisted : is_set h.reached p ≡ false → Contains h.places p → ⊥
  unlisted off c = true≢false (sym ((a.listed.all p).0 c) ∙ off)

  pub added : p < places s → IsReached s p → is_set h.reached p ≡ false → length h.places < MOST_REACHED → AreSound s (with_place (h.places ++ p ∷ []))
  added l r off few =
      let in_list : p < length h.reached = omega (arith, l, a.reached_long) in record {
        reached_long = length-set h.reached p true ∙ a.reached_long;
        target_long = a.target_long;
        pad_long = a.pad_long;
        listed = record {
          once = once_more h.places p a.listed.once (unlisted off);
          all = λ q. (
            λ (c : Contains (h.places ++ p ∷ []) q). ⊎_elim
                (λ (old : Contains h.places q). stays h.reached p in_list q ((a.listed.all q).0 old))
                (λ (new : p ≡ q). subst (λ (x : ℕ). is_set (set h.reached p true) x ≡ true) new (marked h.reached p in_list))
                (Contains-push_cases h.places p q c),
            back h.reached p (λ (x : ℕ). Contains (h.places ++ p ∷ []) x) (Contains-push h.places p) (λ x e. Contains-append_left h.places (p ∷ []) x ((a.listed.all x).1 e)) q,
          );
        };
        few = omega (arith, length_push h.places p, few);
        reached = back h.reached p (λ (x : ℕ). IsReached s x) r a.reached;
        target = a.target;
        pad = a.pad;
      }

  pub added_grow : p < places s → Grow h (with_place (h.places ++ p ∷ []))
  added_grow l = record {
    reached = stays h.reached p (omega (arith, l, a.reached_long));
    target = λ q e. e;
    pad = λ q e. e;
    longer = omega (arith, length_push h.places p);
    kept = λ k m. get_or_append_left h.places (p ∷ []) 0 k m;
  }

  pub put_done : (ps : List ℕ) → ps ≡ h.places ++ p ∷ [] → p < places s → IsReached s p → is_set h.reached p ≡ false → length h.places < MOST_REACHED
      → AreSound s (with_place ps) × Grow h (with_place ps) × IsPutIn (with_place ps) p
  put_done ps e l r off few =
      subst (λ (x : List ℕ). AreSound s (with_place x) × Grow h (with_place x) × IsPutIn (with_place x) p) (sym e)
      (added l r off few, added_grow l, marked h.reached p (omega (arith, l, a.reached_long)))

  -- or there are too many already
  pub full : IsReached s p → is_set h.reached p ≡ false → MOST_REACHED ≤ length h.places → IsTooLong s
  full r off most = (
    h.places ++ p ∷ [],
    once_more h.places p a.listed.once (unlisted off),
    λ q c. ⊎_elim
        (λ (old : Contains h.places q). a.reached q ((a.listed.all q).0 old))
        (λ (new : p ≡ q). subst (λ (x : ℕ). IsReached s x) new r)
        (Contains-push_cases h.places p q c),
    omega (arith, length_push h.places p, most),
  )

  -- ---- a place is marked as a target

  abbrev pub with_target : SearchView
  with_target = record h { target = set h.target p true }

  pub aimed : p < places s → IsTarget s p → AreSound s with_target
  aimed l t = record {
    reached_long = a.reached_long;
    target_long = length-set h.target p true ∙ a.target_long;
    pad_long = a.pad_long;
    listed = record { once = a.listed.once; all = a.listed.all };
    few = a.few;
    reached = a.reached;
    target = back h.target p (λ (x : ℕ). IsTarget s x) t a.target;
    pad = a.pad;
  }

  pub aimed_grow : p < places s → Grow h with_target
  aimed_grow l = record {
    reached = λ q e. e;
    target = stays h.target p (omega (arith, l, a.target_long));
    pad = λ q e. e;
    longer = le_refl (length h.places);
    kept = λ k m. refl;
  }

  -- ---- and as a landing pad

  abbrev pub with_pad : SearchView
  with_pad = record h { target = set h.target p true; pad = set h.pad p true }

  pub landed : p < places s → IsPad s p → AreSound s with_pad
  landed l d = record {
    reached_long = a.reached_long;
    target_long = length-set h.target p true ∙ a.target_long;
    pad_long = length-set h.pad p true ∙ a.pad_long;
    listed = record { once = a.listed.once; all = a.listed.all };
    few = a.few;
    reached = a.reached;
    target = back h.target p (λ (x : ℕ). IsTarget s x) (inr d) a.target;
    pad = back h.pad p (λ (x : ℕ). IsPad s x) d a.pad;
  }

  pub landed_grow : p < places s → Grow h with_pad
  landed_grow l = record {
    reached = λ q e. e;
    target = stays h.target p (omega (arith, l, a.target_long));
    pad = stays h.pad p (omega (arith, l, a.pad_long));
    longer = le_refl (length h.places);
    kept = λ k m. refl;
  }
