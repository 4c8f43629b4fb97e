-- An audit says nothing against an image exactly where the checker accepts it.
use Rattle.std.proofs.Common.{◌≡◌, List, [], ◌∷◌, true, Option, Some, None, refl}
use Rattle.std.specs.Prelude.{◌↔◌}
use Rattle.std.specs.Option.{is_none}
use Rattle.std.specs.List.{list_all}
use Rattle.std.proofs.lemmas.Bool.{and_parts}
use Rattle.std.proofs.lemmas.List.Elements.{All-nil, All-cons, All-head, All-tail}
use Rattle.elf_image.specs.Functions.{Function}
use Rattle.elf_image.specs.Image.{Image}
use Rattle.eh_index.specs.Refusal.{index_refusal}
use Rattle.eh_types.proofs.Meaning.{fault_no_graph}
use Rattle.eh_types.specs.declared.fault.TypeFault.{TypeFault}
use Rattle.frame_check.specs.Roots.{flow_graph_of, roots_of}
use Rattle.frame_check.specs.Accepts.{IsWell, AreWell, IsAccepted}
use Rattle.frame_audit.specs.Audits.{Audit, AreTypes, IsAudit, is_clear}
use Rattle.frame_audit.specs.Listing.{FunctionAudit, AreAudited}
use Rattle.frame_audit.proofs.Listed.{unlisted_is_well}

none_is : {X : Type 0} (o : Option X) → is_none o ≡ true → o ≡ None
none_is None e = refl
none_is (Some x) e = absurd (cc)

all_well : (image : Image) (fs : List Function) (xs : List FunctionAudit) → AreAudited image fs xs → list_all (λ (a : FunctionAudit). is_none a.unwell) xs ≡ true → AreWell image fs
all_well image [] [] h e = All-nil (λ f. IsWell (flow_graph_of image f))
all_well image [] (x ∷ xs) h e = absurd h
all_well image (f ∷ fs) [] h e = absurd h
all_well image (f ∷ fs) (x ∷ xs) h e =
    let two = and_parts (is_none x.unwell) (list_all (λ (a : FunctionAudit). is_none a.unwell) xs) e in
    All-cons (λ g. IsWell (flow_graph_of image g)) f fs ((unlisted_is_well image f x h.0).0 (none_is x.unwell two.0)) (all_well image fs xs h.1 two.1)

none_listed : (image : Image) (fs : List Function) (xs : List FunctionAudit) → AreAudited image fs xs → AreWell image fs → list_all (λ (a : FunctionAudit). is_none a.unwell) xs ≡ true
none_listed image [] [] h w = refl
none_listed image [] (x ∷ xs) h w = absurd h
none_listed image (f ∷ fs) [] h w = absurd h
none_listed image (f ∷ fs) (x ∷ xs) h w =
    let one : x.unwell ≡ None = (unlisted_is_well image f x h.0).1 (All-head (λ g. IsWell (flow_graph_of image g)) f fs w) in
    let rest = none_listed image fs xs h.1 (All-tail (λ g. IsWell (flow_graph_of image g)) f fs w) in
    rw one rest

typed : (image : Image) (t : Option TypeFault) → AreTypes image t → is_none t ≡ true → AreTypes image None
typed image None h e = h
typed image (Some fault) h e = absurd (cc)

untyped : (image : Image) (t : Option TypeFault) → AreTypes image t → IsAccepted image → is_none t ≡ true
untyped image None h a = refl
untyped image (Some fault) h a = absurd (fault_no_graph image (roots_of image) fault h a.types a.graph)

pub clear_is_accepted : (image : Image) (x : Audit) → index_refusal image ≡ None → IsAudit image x → (is_clear x ≡ true) ↔ IsAccepted image
unfolding is_clear
clear_is_accepted image x read is = (forth, back)
  where
    forth : is_clear x ≡ true → IsAccepted image
    forth e =
        let two = and_parts (list_all (λ (a : FunctionAudit). is_none a.unwell) x.functions) (is_none x.types) e in
        let graph = typed image x.types is.types two.1 in
        record { index = read; functions = all_well image image.functions x.functions is.functions two.0; types = graph.0; graph = graph.1 }

    back : IsAccepted image → is_clear x ≡ true
    back a = rw (none_listed image image.functions x.functions is.functions a.functions) (untyped image x.types is.types a)
