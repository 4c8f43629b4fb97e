use Rattle.std.proofs.Common.{ap, sym, ◌∙◌, map, Bool, cond, refl}
use Rattle.asm_layout.specs.LabelSteps.{entry_with_type}
use Rattle.asm_layout.proofs.LayoutLaws.{Entry, set_value-map, unchanged}
use Rattle.asm_layout.proofs.labels.Labels.set_function.Goals.{in-Some, in_default}
use Rattle.asm_layout.proofs.labels.Labels.set_function.Goals as goal

pub returns : goal.returns
returns c =
    let q = c.args.name.now in
    let b = c.args.function in
    let es = c.self.inside.map.entries in
    let changed = λ (t : Bool) (e : Entry). record e.1 { function = cond t b e.1.function } in
    elim c.match-get_mut.branch [
      | in-Some w ↦
          ap (λ s. s.map.entries) w.self-inside-is ∙ (c.get_mut.follows.holds _).0
          ∙ set_value-map q changed (λ e. refl) es c.get_mut.ensures.unique w.in-Some.label.now (sym w.in-Some.ensures.value)
          ∙ ap (map (entry_with_type q b)) c.self.view_is
      | in_default w ↦
          ap (λ s. s.map.entries) w.self-inside-is ∙ ap (λ m. m.entries) c.get_mut.follows.holds-at-none
          ∙ unchanged q changed (λ e. refl) es (sym w.in_default.ensures.value)
          ∙ ap (map (entry_with_type q b)) c.self.view_is
    ]
