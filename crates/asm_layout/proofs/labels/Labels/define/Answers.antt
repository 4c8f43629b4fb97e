use Rattle.std.proofs.Common.{◌≡◌, ◌∷◌, [], ◌++◌, map, sym, ap, ◌∙◌, is_some, arith}
use Rattle.std.specs.Map.{lookup}
use Rattle.std.proofs.lemmas.Grind.{common_steps}
use Rattle.std.proofs.lemmas.List.{append-nil}
use Rattle.indexmap.proofs.CallerLemmas.{insert_entry-new}
use Rattle.eh_word.specs.Names.{same_bytes}
use Rattle.asm_layout.specs.Labels.{label_places, is_among, label_unless}
use Rattle.asm_layout.specs.LabelSteps.{blank_label}
use Rattle.asm_layout.proofs.LayoutLaws.{is_among-named_in}
use Rattle.asm_layout.proofs.labels.Labels.define.Goals.{in-Occupied, in-Vacant}
use Rattle.asm_layout.proofs.labels.Labels.define.Goals as goal

-- whether the name is among the labels, by the copy of it in the map
among : (c : goal.Joined-branch-3) → is_among c.args.name.now (label_places c.args.self.now) ≡ is_some (lookup (same_bytes c.in_ok-copy_name.field-0) c.self.inside.map.entries)
among c =
    is_among-named_in c.args.name.now c.args.self.now
    ∙ sym (λ j. is_some (lookup (same_bytes (c.in_ok-copy_name.ensures j)) (c.self.view_is j)))

pub returns-clause-there : goal.returns-clause-there
returns-clause-there c = elim c.match-branch-3.branch [
  | in-Occupied w ↦
      let found = rw w.in-Occupied.is at c.in_ok-self-inside.ensures.found in
      rw w.result-is (sym (among c ∙ found.0))
  | in-Vacant w ↦
      let found = rw w.in-Vacant.is at c.in_ok-self-inside.ensures.found in
      rw w.result-is (sym (among c ∙ ap is_some found))
]

pub returns-clause-labels : goal.returns-clause-labels
returns-clause-labels c =
    let now = c.args.self.now in
    elim c.match-branch-3.branch [
      | in-Occupied w ↦
          let found = rw w.in-Occupied.is at c.in_ok-self-inside.ensures.found in
          let all = c.self.view_is ∙ sym (ap (λ b. now ++ map blank_label (label_unless b c.args.name.now c.args.place)) (among c ∙ found.0) ∙ append-nil now) in
          rw (w.result-is, w.self-inside-is) (rw (← all) (grind (arith, common_steps)))
      | in-Vacant w ↦
          let found = rw w.in-Vacant.is at c.in_ok-self-inside.ensures.found in
          let put = c.in_ok-self-inside.ensures.update.1 w.insert.result.now
          ∙ insert_entry-new same_bytes c.self.inside.map c.in_ok-copy_name.field-0 w.insert.result.now found
          ∙ (λ j. c.self.view_is j ++ (c.in_ok-copy_name.ensures j, w.insert.ensures.value j) ∷ [])
          ∙ ap (λ b. now ++ map blank_label (label_unless b c.args.name.now c.args.place)) (sym (among c ∙ ap is_some found)) in
          rw (w.result-is, w.self-inside-is) (rw (← put) (grind (arith, common_steps)))
    ]
