-- How subobjects are told apart by their names.
use Rattle.std.proofs.Common.{◌∷◌, ◌++◌, ◌∙◌, ap, sym, Some, None}
use Rattle.std.proofs.lemmas.List.Sums.{AllPass-from_list_all, list_all-from_AllPass}
use Rattle.eh_types.specs.declared.kind.Base.{Base}
use Rattle.eh_match.specs.Paths.{root_of}
use Rattle.eh_match.specs.Subobjects.{same_root}
use Rattle.eh_match.specs.Laws.{SubobjectsAreTold, PathsArePublicByStep}
use Rattle.eh_match.proofs.Equal.{same_from, apart_roots, offsets_eq, roots_eq}
use Rattle.eh_match.proofs.Names.{plain_paths_are_named, virtual_paths_are_named}

pub subobjects_are_told : SubobjectsAreTold
subobjects_are_told g = record {
  plain = λ one other p q.
      let a = plain_paths_are_named one p in
      let b = plain_paths_are_named other q in (
        λ same. sym a.1 ∙ offsets_eq g one other same ∙ b.1,
        λ spans. same_from g one other (a.1 ∙ spans ∙ sym b.1) (ap (λ r. same_root g r (root_of other)) a.0 ∙ ap (same_root g None) b.0),
      );
  mixed = λ one before after step p v q.
      let a = plain_paths_are_named one p in
      let b = virtual_paths_are_named before after step v q in (
        apart_roots g one (before ++ step ∷ after) (ap (λ r. same_root g r (root_of (before ++ step ∷ after))) a.0 ∙ ap (same_root g None) b.0),
        apart_roots g (before ++ step ∷ after) one (ap (λ r. same_root g r (root_of one)) b.0 ∙ ap (same_root g (Some step.ty)) a.0),
      );
  by_virtual = λ before after before' after' step step' v p v' p'.
      let a = virtual_paths_are_named before after step v p in
      let b = virtual_paths_are_named before' after' step' v' p' in
      let roots = ap (λ r. same_root g r (root_of (before' ++ step' ∷ after'))) a.0 ∙ ap (same_root g (Some step.ty)) b.0 in (
        λ same. (sym roots ∙ roots_eq g (before ++ step ∷ after) (before' ++ step' ∷ after') same, sym a.1 ∙ offsets_eq g (before ++ step ∷ after) (before' ++ step' ∷ after') same ∙ b.1),
        λ both. same_from g (before ++ step ∷ after) (before' ++ step' ∷ after') (a.1 ∙ both.1 ∙ sym b.1) (roots ∙ both.0),
      );
}

pub paths_are_public_by_step : PathsArePublicByStep
paths_are_public_by_step steps = (AllPass-from_list_all (λ (b : Base). b.is_public) steps, list_all-from_AllPass (λ (b : Base). b.is_public) steps)
