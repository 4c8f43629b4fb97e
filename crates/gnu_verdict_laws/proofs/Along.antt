-- What the scopes of a whole range say at an offset.
use Rattle.std.proofs.Common.{◌≡◌, ℕ, ◌+◌, ◌<◌, ◌≤◌, ◌==◌, ◌&&◌, Bool, true, false, cond, nat_le, nat_lt, List, [], ◌∷◌, ◌++◌, Option, Some, None, refl, sym, ap, ◌∙◌, arith, inl, inr, ◌⊎◌, append_assoc}
use Rattle.std.specs.Prelude.{unwrap_or, Result, Ok, Err}
use Rattle.std.proofs.lemmas.Bool.{cases_lt}
use Rattle.std.proofs.lemmas.Bool.Decides.{nat_tests}
use Rattle.eh_phase.specs.Firsts.{or_else, first_some}
use Rattle.eh_phase.specs.Verdict.{Meeting}
use Rattle.gnu_lsda.specs.declared.records.Record.{Record}
use Rattle.gnu_lsda.specs.declared.records.RecordFault.{RecordFault}
use Rattle.gnu_lsda.specs.Heads.{Area}
use Rattle.gnu_descriptors.specs.declared.scopes.GnuDescriptor.{GnuDescriptor}
use Rattle.gnu_descriptors.specs.Scopes.{uncovered_part, pad_of, is_cleaning, record_descriptors, end_after, item_descriptors, scopes_from}
use Rattle.gnu_verdict_laws.specs.Verdicts.{GnuVerdict, Violated, Passed, is_record_at, record_at, chain_hit, record_says, cleanups_by, pads_of}
use Rattle.gnu_verdict_laws.proofs.Hearing.{said, own_pads}
use Rattle.gnu_verdict_laws.proofs.Saying.{Says, pads_after, landing_pads, says_both, says_none, gap_in, gap_below, gap_above, told_out, told_passed, told_in}

-- records rise: each begins at the end of the one before it or above, and ends within the range
abbrev pub Rise : ℕ → ℕ → List (Result Record RecordFault) → Type 0
Rise size before [] = Unit {0}
Rise size before (Ok site ∷ more) = (before ≤ site.start) × (site.start + site.size ≤ size) × Rise size (site.start + site.size) more
Rise size before (Err fault ∷ more) = ⊥

covers_is : (o : ℕ) (site : Record) → site.start ≤ o → o < site.start + site.size → is_record_at o site ≡ true
covers_is o site h k = grind (arith, nat_tests)

below_isnt : (o : ℕ) (site : Record) → o < site.start → is_record_at o site ≡ false
below_isnt o site h = grind (arith, nat_tests)

above_isnt : (o : ℕ) (site : Record) → site.start + site.size ≤ o → is_record_at o site ≡ false
above_isnt o site h = grind (arith, nat_tests)

empty_isnt : (o : ℕ) (site : Record) → site.size ≡ 0 → is_record_at o site ≡ false
empty_isnt o site h = grind (arith, nat_tests)

zero_is : (n : ℕ) → (n == 0) ≡ true → n ≡ 0
zero_is n h = grind (arith, nat_tests)

-- no record above the offset covers it
record_above : (size before o : ℕ) (rs : List (Result Record RecordFault)) → Rise size before rs → o < before → record_at o rs ≡ None
record_above size before o [] r h = refl
record_above size before o (Ok site ∷ more) r h =
    rw (below_isnt o site (let b = r.0 in omega arith)) (record_above size (site.start + site.size) o more r.2 (let b = r.0 in omega arith))
record_above size before o (Err fault ∷ more) r h = absurd r

-- below where the records go on nothing is said
silent : (m : Meeting) (o start size : ℕ) (a : Area) (at before : ℕ) (rs : List (Result Record RecordFault)) → at ≤ before → Rise size before rs → o < at
    → Says m o (scopes_from start size a at rs) None []
silent m o start size a at before [] le r h = gap_below m o at size h
silent m o start size a at before (Err fault ∷ more) le r h = absurd r
silent m o start size a at before (Ok site ∷ more) le r h =
    let b = r.0 in
    by_size (site.size == 0) refl (silent m o start size a at (site.start + site.size) more (omega arith) r.2 h)
    (silent m o start size a (site.start + site.size) (site.start + site.size) more (omega arith) r.2 (omega arith))
  where
    own : Says m o (uncovered_part at site.start ++ record_descriptors start a site) None []
    own =
        says_both m o (uncovered_part at site.start) (record_descriptors start a site) None None [] [] (gap_below m o at site.start h)
        (told_out m o start a site (below_isnt o site (let b = r.0 in omega arith)))

    by_size : (b : Bool) → (site.size == 0) ≡ b → Says m o (scopes_from start size a at more) None [] → Says m o (scopes_from start size a (site.start + site.size) more) None []
        → Says m o (item_descriptors start a at (Ok site) ++ scopes_from start size a (end_after at (Ok site)) more) None []
    by_size true e same later = rw e same
    by_size false e same later =
        rw e (says_both m o (uncovered_part at site.start ++ record_descriptors start a site) (scopes_from start size a (site.start + site.size) more) None None [] [] own later)

-- a verdict with the cleanups in front of it
pub record Means (m : Meeting) (o : ℕ) (scopes : List GnuDescriptor) (v : GnuVerdict) (cleanups : List ℕ) : Type 0 where
  pub verdict : unwrap_or (first_some (said m o) scopes) Passed ≡ v
  pub pads : own_pads m o scopes ≡ cleanups

means : (m : Meeting) (o : ℕ) (scopes : List GnuDescriptor) (g : Option GnuVerdict) (ps : List ℕ) (v : GnuVerdict) (qs : List ℕ) → Says m o scopes g ps → unwrap_or g Passed ≡ v → ps ≡ qs → Means m o scopes v qs
means m o scopes g ps v qs s e f = record { verdict = ap (λ h. unwrap_or h Passed) s.first ∙ e; pads = s.pads ∙ f }

-- after scopes that say nothing it is what the others mean
means_after : (m : Meeting) (o : ℕ) (xs ys : List GnuDescriptor) (v : GnuVerdict) (ps : List ℕ) → Says m o xs None [] → Means m o ys v ps → Means m o (xs ++ ys) v ps
means_after m o xs ys v ps s t =
    let both = says_both m o xs ys None (first_some (said m o) ys) [] (own_pads m o ys) s (record { first = refl; pads = refl }) in
    means m o (xs ++ ys) (first_some (said m o) ys) (own_pads m o ys) v ps both t.verdict t.pads

-- the record that covers the offset, in front of scopes that say nothing there
hit_verdict : (hit : Option GnuVerdict) → unwrap_or (or_else (or_else None hit) None) Passed ≡ unwrap_or hit Passed
hit_verdict None = refl
hit_verdict (Some v) = refl

hit_pads : (hit : Option GnuVerdict) (c : Bool) (pad : ℕ) → pads_after (or_else None hit) (pads_after None [] (landing_pads hit c pad)) [] ≡ cleanups_by hit c pad
hit_pads None true pad = refl
hit_pads None false pad = refl
hit_pads (Some v) c pad = refl

covered : (m : Meeting) (o start : ℕ) (a : Area) (at : ℕ) (site : Record) (rest : List GnuDescriptor) → site.start ≤ o → is_record_at o site ≡ true → Says m o rest None []
    → Means m o ((uncovered_part at site.start ++ record_descriptors start a site) ++ rest) (record_says m a (Some site)) (pads_of start m a (Some site))
covered m o start a at site rest above e silent_rest = by_pad (site.pad == 0) refl
  where
    gap_first : Says m o (uncovered_part at site.start) None []
    gap_first = gap_above m o at site.start above

    by_pad : (b : Bool) → (site.pad == 0) ≡ b
        → Means m o ((uncovered_part at site.start ++ record_descriptors start a site) ++ rest) (cond (site.pad == 0) Passed (unwrap_or (chain_hit m a site.action) Passed))
        (cond (site.pad == 0) [] (cleanups_by (chain_hit m a site.action) (is_cleaning a site.action) (pad_of start site)))
    by_pad true p =
        let own = says_both m o (uncovered_part at site.start) (record_descriptors start a site) None None [] [] gap_first (told_passed m o start a site p) in
        let all = says_both m o (uncovered_part at site.start ++ record_descriptors start a site) rest None None [] [] own silent_rest in
        means m o ((uncovered_part at site.start ++ record_descriptors start a site) ++ rest) None [] _ _ all (rw p refl) (rw p refl)
    by_pad false p =
        let hit = chain_hit m a site.action in
        let pads = landing_pads hit (is_cleaning a site.action) (pad_of start site) in
        let own = says_both m o (uncovered_part at site.start) (record_descriptors start a site) None hit [] pads gap_first (told_in m o start a site e p) in
        let all = says_both m o (uncovered_part at site.start ++ record_descriptors start a site) rest (or_else None hit) None (pads_after None [] pads) [] own silent_rest in
        means m o ((uncovered_part at site.start ++ record_descriptors start a site) ++ rest) _ _ _ _ all (hit_verdict hit ∙ rw p refl) (hit_pads hit (is_cleaning a site.action) (pad_of start site) ∙ rw p refl)

-- scopes mean what a record, or none, says
abbrev pub Decides : Meeting → ℕ → ℕ → Area → Option Record → List GnuDescriptor → Type 0
Decides m o start a r scopes = Means m o scopes (record_says m a r) (pads_of start m a r)

-- along records
pub along : (m : Meeting) (o start size : ℕ) (a : Area) (at before : ℕ) (rs : List (Result Record RecordFault)) → at ≤ before → Rise size before rs → at ≤ o → o < size
    → Decides m o start a (record_at o rs) (scopes_from start size a at rs)
along m o start size a at before [] le r h k = means m o (uncovered_part at size) (Some Violated) [] Violated [] (gap_in m o at size h k) refl refl
along m o start size a at before (Err fault ∷ more) le r h k = absurd r
along m o start size a at before (Ok site ∷ more) le r h k =
    let b = r.0 in
    by_size (site.size == 0) refl (along m o start size a at (site.start + site.size) more (omega arith) r.2 h k)
    (λ past. along m o start size a (site.start + site.size) (site.start + site.size) more (omega arith) r.2 past k)
  where
    by_end : site.start ≤ o → (site.start + site.size ≤ o → Decides m o start a (record_at o more) (scopes_from start size a (site.start + site.size) more))
        → (o < site.start + site.size) ⊎ (site.start + site.size ≤ o)
        → Decides m o start a (record_at o (Ok site ∷ more)) ((uncovered_part at site.start ++ record_descriptors start a site) ++ scopes_from start size a (site.start + site.size) more)
    by_end above later (inl below) =
        let there = covers_is o site above below in
        rw there
        (covered m o start a at site (scopes_from start size a (site.start + site.size) more) above there
        (silent m o start size a (site.start + site.size) (site.start + site.size) more (omega arith) r.2 below))
    by_end above later (inr past) =
        let none = above_isnt o site past in
        let quiet : Says m o (uncovered_part at site.start ++ record_descriptors start a site) None [] =
        says_both m o (uncovered_part at site.start) (record_descriptors start a site) None None [] [] (gap_above m o at site.start above) (told_out m o start a site none) in
        rw none
        (means_after m o (uncovered_part at site.start ++ record_descriptors start a site) (scopes_from start size a (site.start + site.size) more) (record_says m a (record_at o more)) (pads_of start m a (record_at o more))
        quiet (later past))

    by_place : (site.start + site.size ≤ o → Decides m o start a (record_at o more) (scopes_from start size a (site.start + site.size) more))
        → (o < site.start) ⊎ (site.start ≤ o)
        → Decides m o start a (record_at o (Ok site ∷ more)) ((uncovered_part at site.start ++ record_descriptors start a site) ++ scopes_from start size a (site.start + site.size) more)
    by_place later (inl below) =
        let rest = scopes_from start size a (site.start + site.size) more in
        let none = below_isnt o site below in
        let none_later : record_at o more ≡ None = record_above size (site.start + site.size) o more r.2 (omega arith) in
        let first : Says m o (uncovered_part at site.start ++ record_descriptors start a site) (Some Violated) [] =
        says_both m o (uncovered_part at site.start) (record_descriptors start a site) (Some Violated) None [] [] (gap_in m o at site.start h below) (told_out m o start a site none) in
        let all = says_both m o (uncovered_part at site.start ++ record_descriptors start a site) rest (Some Violated) (first_some (said m o) rest) [] (own_pads m o rest) first (record { first = refl; pads = refl }) in
        rw (none, none_later) (means m o ((uncovered_part at site.start ++ record_descriptors start a site) ++ rest) (Some Violated) [] Violated [] all refl refl)
    by_place later (inr above) = by_end above later (cases_lt o (site.start + site.size))

    by_size : (b : Bool) → (site.size == 0) ≡ b → Decides m o start a (record_at o more) (scopes_from start size a at more)
        → (site.start + site.size ≤ o → Decides m o start a (record_at o more) (scopes_from start size a (site.start + site.size) more))
        → Decides m o start a (record_at o (Ok site ∷ more)) (item_descriptors start a at (Ok site) ++ scopes_from start size a (end_after at (Ok site)) more)
    by_size true e same later = rw (e, empty_isnt o site (zero_is site.size e)) same
    by_size false e same later = rw e (by_place later (cases_lt o site.start))
