-- The first refusal of an index: its length, or the lowest row with a fault.
use Rattle.std.proofs.Common.{◌≡◌, ℕ, zero, suc, ◌+◌, ◌*◌, ◌%◌, ◌<◌, ◌≤◌, ◌==◌, Bool, true, false, cond, ◌∷◌, length, map, Option, Some, None, refl, ap, sym, subst, ◌∙◌, arith}
use Rattle.std.specs.List.{range_with_len}
use Rattle.std.proofs.lemmas.Bool.Decides.{nat_tests}
use Rattle.std.proofs.lemmas.Bool.{false≢true}
use Rattle.elf_image.specs.Image.{Image}
use Rattle.eh_index.specs.declared.fault.IndexFault.{IndexFault}
use Rattle.eh_index.specs.declared.fault.IndexFault.TheVariants.{Length, OutsideImage, Unsorted}
use Rattle.eh_index.specs.Rows.{entry_count}
use Rattle.eh_index.specs.Refusal.{first_of, entry_refusal, index_refusal, is_outside, is_unsorted}
use Rattle.eh_table_laws.specs.Indexes.{IsFine, IsFirst, IndexVerdict, RefusalsAreTold}
use Rattle.eh_table_laws.proofs.Refused.{fine_from, inside_from, inside_to, unsorted_from}

-- the first that gives a refusal, and none before it
record FoundAt (f : ℕ → Option IndexFault) (low n : ℕ) (fault : IndexFault) : Type 0 where
  k : ℕ
  inside : k < n
  here : f (low + k) ≡ Some fault
  before : (j : ℕ) → j < k → f (low + j) ≡ None

found_from : (f : ℕ → Option IndexFault) (low n : ℕ) (fault : IndexFault) → first_of (map f (range_with_len low n)) ≡ Some fault → FoundAt f low n fault
found_from f low zero fault h = absurd cc
found_from f low (suc n) fault h = go (f low) refl h (λ k. found_from f (low + 1) n fault k)
  where
    same : f (low + 0) ≡ f low
    same = ap f (let e : low + 0 ≡ low = omega arith in e)

    next : (j : ℕ) → f (low + suc j) ≡ f (low + 1 + j)
    next j = ap f (let e : low + suc j ≡ low + 1 + j = omega arith in e)

    go : (o : Option IndexFault) → f low ≡ o → first_of (o ∷ map f (range_with_len (low + 1) n)) ≡ Some fault
        → (first_of (map f (range_with_len (low + 1) n)) ≡ Some fault → FoundAt f (low + 1) n fault) → FoundAt f low (suc n) fault
    go (Some x) e h further = record { k = 0; inside = omega arith; here = same ∙ e ∙ h; before = λ j b. absurd (omega arith) }
    go None e h further = let r = further h in record { k = suc r.k; inside = omega (arith, r.inside); here = next r.k ∙ r.here; before = λ j b. earlier r j b }
      where
        earlier : (r : FoundAt f (low + 1) n fault) (j : ℕ) → j < suc r.k → f (low + j) ≡ None
        earlier r zero b = same ∙ e
        earlier r (suc j) b = next j ∙ r.before j (omega arith)

none_from : (f : ℕ → Option IndexFault) (low n : ℕ) → first_of (map f (range_with_len low n)) ≡ None → (j : ℕ) → j < n → f (low + j) ≡ None
none_from f low zero h j inside = absurd (omega arith)
none_from f low (suc n) h j inside = go (f low) refl h (λ k i below. none_from f (low + 1) n k i below) j inside
  where
    go : (o : Option IndexFault) → f low ≡ o → first_of (o ∷ map f (range_with_len (low + 1) n)) ≡ None
        → (first_of (map f (range_with_len (low + 1) n)) ≡ None → (i : ℕ) → i < n → f (low + 1 + i) ≡ None) → (j : ℕ) → j < suc n → f (low + j) ≡ None
    go (Some x) e h further j inside = absurd cc
    go None e h further zero inside = ap f (let e : low + 0 ≡ low = omega arith in e) ∙ e
    go None e h further (suc j) inside = ap f (let e : low + suc j ≡ low + 1 + j = omega arith in e) ∙ further h j (omega arith)

-- ---- a row

fine : (image : Image) (k : ℕ) → entry_refusal image k ≡ None → IsFine image k
unfolding entry_refusal
fine image k h = go (is_outside image k) (is_unsorted image k) refl refl h
  where
    go : (b c : Bool) → is_outside image k ≡ b → is_unsorted image k ≡ c → cond b (Some (OutsideImage k)) (cond c (Some (Unsorted k)) None) ≡ None → IsFine image k
    go true c e f h = absurd cc
    go false true e f h = absurd cc
    go false false e f h = fine_from image k e f

refused : (image : Image) (k : ℕ) (fault : IndexFault) → IsFirst image k → entry_refusal image k ≡ Some fault → IndexVerdict image (Some fault)
unfolding entry_refusal
refused image k fault first h = go (is_outside image k) (is_unsorted image k) refl refl h
  where
    go : (b c : Bool) → is_outside image k ≡ b → is_unsorted image k ≡ c → cond b (Some (OutsideImage k)) (cond c (Some (Unsorted k)) None) ≡ Some fault → IndexVerdict image (Some fault)
    go true c e f h = subst (λ (o : Option IndexFault). IndexVerdict image o) h (first, λ inside. false≢true (sym (inside_to image k inside) ∙ e))
    go false true e f h = let u = unsorted_from image k f in subst (λ (o : Option IndexFault). IndexVerdict image o) h (first, inside_from image k e, u.0, u.1)
    go false false e f h = absurd cc

-- ---- the index

starts : (k : ℕ) → 0 + k ≡ k
starts k = omega arith

told : (image : Image) → length image.index_bytes % 8 ≡ 0 → (o : Option IndexFault) → first_of (map (entry_refusal image) (range_with_len 0 (entry_count image))) ≡ o → IndexVerdict image o
told image whole None h = (whole, λ k there. fine image k (ap (entry_refusal image) (sym (starts k)) ∙ none_from (entry_refusal image) 0 (entry_count image) h k (omega arith)))
told image whole (Some fault) h =
    let r = found_from (entry_refusal image) 0 (entry_count image) fault h in
    refused image r.k fault (record {
      whole = whole;
      there = inside r.k r.inside;
      before = λ j b. fine image j (ap (entry_refusal image) (sym (starts j)) ∙ r.before j b);
    }) (ap (entry_refusal image) (sym (starts r.k)) ∙ r.here)
  where
    inside : (k : ℕ) → k < entry_count image → 8 * k + 8 ≤ length image.index_bytes
    inside k h = omega arith

pub refusals_are_told : RefusalsAreTold
unfolding index_refusal
refusals_are_told image = go (length image.index_bytes % 8 == 0) refl
  where
    go : (b : Bool) → (length image.index_bytes % 8 == 0) ≡ b → IndexVerdict image (cond b (first_of (map (entry_refusal image) (range_with_len 0 (entry_count image)))) (Some Length))
    go true e = told image (let w : length image.index_bytes % 8 ≡ 0 = grind (arith, nat_tests) in w) (first_of (map (entry_refusal image) (range_with_len 0 (entry_count image)))) refl
    go false e = λ h. absurd (grind (arith, nat_tests))
