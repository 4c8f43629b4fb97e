use Rattle.std.proofs.Common.{◌≡◌, ℕ, List, take, sym, ap, ◌∙◌, arith}
use Rattle.thread_memory.specs.declared.owners.Holding.{Holding}
use Rattle.eh_cxa.specs.Words.{Write, set_slot_words}
use Rattle.thread_memory.specs.Owners.{changes_from}
use Rattle.thread_memory.proofs.Entering.{map_stays}
use Rattle.thread_memory.proofs.Freeing.{free_after_changes}
use Rattle.thread_memory.proofs.Noting.{shows_one, first_written}
use Rattle.thread_memory.proofs.owners.Owners.show.Goals as goal

pub loop-slot-preserved : goal.loop-slot-preserved
loop-slot-preserved g c =
    let d : Holding = record { owner = Rattle.std.proofs.Common.None; state = 0 } in
    rw (c.show_slot.ensures d, c.loop-slot.invariant) (sym (shows_one c.args.old c.args.new c.loop-slot.slot c.args.self.now.slots d _ (omega arith)))

pub returns-clause-memory : goal.returns-clause-memory
returns-clause-memory g c =
    let all : c.loop-slot.slot ≡ c.args.self.now.used = omega arith in
    c.loop-slot.invariant
    ∙ ap (λ (k : ℕ). set_slot_words (changes_from c.args.old c.args.new 0 (take k c.args.self.now.slots)) (g.B.Bus.memory c.args.bus.now)) all
    ∙ ap (λ (ws : List Write). set_slot_words ws (g.B.Bus.memory c.args.bus.now)) (first_written c.args.old c.args.new c.args.self.now.used c.args.self.now.slots c.args.self.now.rest)

pub returns-clause-free : goal.returns-clause-free
returns-clause-free g c =
    let all : c.loop-slot.slot ≡ c.args.self.now.used = omega arith in
    λ free. free_after_changes c.args.old c.args.new c.args.self.now.used c.args.self.now.slots _ _
    (c.loop-slot.invariant ∙ ap (λ (k : ℕ). set_slot_words (changes_from c.args.old c.args.new 0 (take k c.args.self.now.slots)) (g.B.Bus.memory c.args.bus.now)) all) free

pub returns-clause-map : goal.returns-clause-map
returns-clause-map g c =
    let all : c.loop-slot.slot ≡ c.args.self.now.used = omega arith in
    map_stays c.args.old c.args.new c.args.self.now.slots (g.B.Bus.memory c.args.bus.now) _
    (c.loop-slot.invariant
    ∙ ap (λ (k : ℕ). set_slot_words (changes_from c.args.old c.args.new 0 (take k c.args.self.now.slots)) (g.B.Bus.memory c.args.bus.now)) all
    ∙ ap (λ (ws : List Write). set_slot_words ws (g.B.Bus.memory c.args.bus.now)) (first_written c.args.old c.args.new c.args.self.now.used c.args.self.now.slots c.args.self.now.rest))
    (g.met.B.Bus.is_map c.args.bus.now) (omega arith)
