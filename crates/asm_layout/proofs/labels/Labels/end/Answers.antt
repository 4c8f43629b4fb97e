use Rattle.std.proofs.Common.{ap, sym, ◌∙◌, map, option_map, Bool, cond, refl}
use Rattle.std.specs.Map.{set_value}
use Rattle.asm_statements.specs.declared.statement.StmtKind.TheVariants.{Size}
use Rattle.eh_word.specs.Names.{same_bytes}
use Rattle.asm_layout.specs.Labels.{find, label_places, size_between}
use Rattle.asm_layout.specs.LabelSteps.{entry_after}
use Rattle.asm_layout.proofs.LayoutLaws.{Entry, find-named_in, set_value-map, unchanged}
use Rattle.asm_layout.proofs.labels.Labels.end.Goals.{in-Some, in_default}
use Rattle.asm_layout.proofs.labels.Labels.end.Goals as goal

pub returns : goal.returns
returns c =
    let q = c.args.name.now in
    let end = c.args.end in
    let es = c.self.inside.map.entries in
    let changed = λ (t : Bool) (e : Entry). record e.1 { size = cond t (size_between (find e.0 (label_places es)) end) e.1.size } in
    elim c.match-get_mut.branch [
      | in-Some w ↦
          ap (λ s. s.map.entries) w.self-inside-is ∙ (c.get_mut.follows.holds _).0
          ∙ ap (λ n. set_value (same_bytes q) es (record w.in-Some.label.now { size = n })) (w.size_between-label.ensures ∙ ap (λ p. size_between p end) (sym (find-named_in q es ∙ ap (option_map (λ l. l.place)) (sym w.in-Some.ensures.value))))
          ∙ set_value-map q changed (λ e. refl) es c.get_mut.ensures.unique w.in-Some.label.now (sym w.in-Some.ensures.value)
          ∙ ap (λ l. map (entry_after (label_places l) (Size q) end) l) c.self.view_is
      | in_default w ↦
          ap (λ s. s.map.entries) w.self-inside-is ∙ ap (λ m. m.entries) c.get_mut.follows.holds-at-none
          ∙ unchanged q changed (λ e. refl) es (sym w.in_default.ensures.value)
          ∙ ap (λ l. map (entry_after (label_places l) (Size q) end) l) c.self.view_is
    ]
