-- Fields that stand one after the other share no byte.
use Rattle.std.proofs.Common.{◌≡◌, ℕ, ◌+◌, ◌≤◌, ◌<◌, Bool, true, false, cond, List, [], ◌∷◌, ◌++◌, length, refl, sym, ◌∙◌, arith, subst}
use Rattle.std.specs.List.{filter}
use Rattle.std.proofs.lemmas.Bool.{true≢false}
use Rattle.asm_relocatable.specs.declared.place.Section.{Section}
use Rattle.asm_relocatable.specs.declared.place.Section.TheVariants.{Text, Rodata, Extab, Init, Bss}
use Rattle.asm_relocatable.specs.Sections.{same_section}
use Rattle.asm_relocatable.specs.declared.object.Reloc.{Reloc}
use Rattle.asm_relocatable.specs.Fields.{StandInOrder, bytes_at}
use Rattle.asm_object.proofs.ObjectLaws.{law_of_fields}
use Rattle.asm_relocatable.specs.Relocations.{field_size}
use Rattle.eh_link.specs.FieldLaw.{IsInField, IsInNoField}
use Rattle.link_laws.specs.AssembledLaw.{AssembledFieldsStandAlone}

-- ---- sizes and sections

itself : (s : Section) → same_section s s ≡ true
itself Text = refl
itself Rodata = refl
itself Extab = refl
itself Init = refl
itself Bss = refl

-- ---- fields in order

abbrev pub kept : Section → List Reloc → List Reloc
kept section relocs = filter (λ reloc. same_section reloc.section section) relocs

-- all fields stand after a place in front of the first
pub none_before : (section : Section) (offset from : ℕ) (relocs : List Reloc) (end : ℕ) → offset < from → StandInOrder from (kept section relocs) end → IsInNoField section offset relocs
none_before section offset from [] end h s = tt
none_before section offset from (reloc ∷ more) end h s =
    by (same_section reloc.section section) refl s (λ k t. none_before section offset (reloc.offset + field_size reloc) more end k t) (λ t. none_before section offset from more end h t)
  where
    by : (b : Bool) → same_section reloc.section section ≡ b → StandInOrder from (cond b (reloc ∷ kept section more) (kept section more)) end
        → (offset < reloc.offset + field_size reloc → StandInOrder (reloc.offset + field_size reloc) (kept section more) end → IsInNoField section offset more)
        → (StandInOrder from (kept section more) end → IsInNoField section offset more)
        → (IsInField section offset reloc → ⊥) × IsInNoField section offset more
    by true e s following there = ((λ f. outside offset from reloc.offset h s.0 f.from), following (omega (arith, h, s.0)) s.1)
      where
        outside : (offset from at : ℕ) → offset < from → from ≤ at → at ≤ offset → ⊥
        outside offset from at h k l = omega (arith, h, k, l)
    by false e s following there = ((λ f. true≢false (sym f.here ∙ e)), there s)

-- a field of the section stands after the place where the fields begin, and before their end
stands_after : (section : Section) (from : ℕ) (before : List Reloc) (reloc : Reloc) (after : List Reloc) (end : ℕ) → same_section reloc.section section ≡ true
    → StandInOrder from (kept section (before ++ reloc ∷ after)) end → (from ≤ reloc.offset) × StandInOrder (reloc.offset + field_size reloc) (kept section after) end
stands_after section from [] reloc after end here s =
    let P : Bool → Type 0 = λ b. StandInOrder from (cond b (reloc ∷ kept section after) (kept section after)) end in subst P here s
stands_after section from (x ∷ before) reloc after end here s =
    by (same_section x.section section) s (λ t. stands_after section (x.offset + field_size x) before reloc after end here t) (λ t. stands_after section from before reloc after end here t)
  where
    by : (b : Bool) → StandInOrder from (cond b (x ∷ kept section (before ++ reloc ∷ after)) (kept section (before ++ reloc ∷ after))) end
        → (StandInOrder (x.offset + field_size x) (kept section (before ++ reloc ∷ after)) end → (x.offset + field_size x ≤ reloc.offset) × StandInOrder (reloc.offset + field_size reloc) (kept section after) end)
        → (StandInOrder from (kept section (before ++ reloc ∷ after)) end → (from ≤ reloc.offset) × StandInOrder (reloc.offset + field_size reloc) (kept section after) end)
        → (from ≤ reloc.offset) × StandInOrder (reloc.offset + field_size reloc) (kept section after) end
    by true s following there = (omega (arith, s.0, (following s.1).0), (following s.1).1)
    by false s following there = there s

order_ends : (from : ℕ) (relocs : List Reloc) (end : ℕ) → StandInOrder from relocs end → from ≤ end
order_ends from [] end s = s
order_ends from (reloc ∷ more) end s = omega (arith, s.0, order_ends (reloc.offset + field_size reloc) more end s.1)

-- no other field has a byte of this one
apart : (section : Section) (offset from : ℕ) (before : List Reloc) (reloc : Reloc) (after : List Reloc) (end : ℕ) → IsInField section offset reloc
    → StandInOrder from (kept section (before ++ reloc ∷ after)) end → IsInNoField section offset (before ++ after)
apart section offset from [] reloc after end f s =
    let here = f.here in
    let there = stands_after section from [] reloc after end here s in
    none_before section offset (reloc.offset + field_size reloc) after end (f.below) there.1
apart section offset from (x ∷ before) reloc after end f s =
    by (same_section x.section section) refl s (λ t. apart section offset (x.offset + field_size x) before reloc after end f t) (λ t. apart section offset from before reloc after end f t)
  where
    here : same_section reloc.section section ≡ true
    here = f.here

    by : (b : Bool) → same_section x.section section ≡ b
        → StandInOrder from (cond b (x ∷ kept section (before ++ reloc ∷ after)) (kept section (before ++ reloc ∷ after))) end
        → (StandInOrder (x.offset + field_size x) (kept section (before ++ reloc ∷ after)) end → IsInNoField section offset (before ++ after))
        → (StandInOrder from (kept section (before ++ reloc ∷ after)) end → IsInNoField section offset (before ++ after))
        → (IsInField section offset x → ⊥) × IsInNoField section offset (before ++ after)
    by true e s following there =
        let later = (stands_after section (x.offset + field_size x) before reloc after end here s.1).0 in
        ((λ g. outside offset x.offset (field_size x) reloc.offset later f.from g.below), following s.1)
      where
        outside : (offset at size next : ℕ) → at + size ≤ next → next ≤ offset → offset < at + size → ⊥
        outside offset at size next k l m = omega (arith, k, l, m)
    by false e s following there = ((λ g. true≢false (sym g.here ∙ e)), there s)

-- ---- the law

pub law_of_assembled : AssembledFieldsStandAlone
law_of_assembled stmts object before reloc after few e relocs =
    let section = reloc.section in
    let P : List Reloc → Type 0 = λ l. StandInOrder 0 (kept section l) (length (bytes_at section object)) in
    let order = subst P relocs (law_of_fields stmts object section few e) in
    let end = order_ends (reloc.offset + field_size reloc) (kept section after) (length (bytes_at section object)) (stands_after section 0 before reloc after (length (bytes_at section object)) (itself section) order).1 in
    record {
      alone = λ offset f. apart section offset 0 before reloc after (length (bytes_at section object)) f order;
      whole = end;
    }
