use Rattle.std.proofs.Common.{sym, ◌∙◌}
use Rattle.mem_buses.specs.Pages.{CanStore}
use Rattle.eh_bus.specs.Memory.{load_fault}
use Rattle.mem_buses.proofs.PageLaws.{no_part, load_aligned, located, cell_number, cell_fault}
use Rattle.mem_buses.proofs.paged.load_by_page.Goals as goal

can : (c : goal.In-None) → CanStore c.args.n c.args.pages.now c.args.parts.now c.args.a c.in-Some.found.part c.in-Some.found.at
can c =
    located c.args.n c.args.pages.now c.args.parts.now c.args.a _ _ c.requires.width (load_aligned c.args.n c.args.a (sym c.load_fault.ensures ∙ c.in-None.is)) c.requires.sound
    c.in-Some.ensures.inside c.in-Some.ensures.covers c.in-Some.ensures.place c.in-Some.ensures.cell

pub returns-in-None-clause-room : goal.returns-in-None-clause-room
returns-in-None-clause-room c = (can c).room

pub returns-in-None-clause-number : goal.returns-in-None-clause-number
returns-in-None-clause-number c = cell_number c.args.n c.args.pages.now c.args.parts.now c.args.a _ _ c.requires.sound (can c)

pub returns-in-None-clause-ok : goal.returns-in-None-clause-ok
returns-in-None-clause-ok c =
    cell_fault c.args.n c.args.pages.now c.args.parts.now no_part c.args.a _ (λ s. load_fault c.args.n c.args.a) c.in-Some.ensures.inside c.in-Some.ensures.place
    ∙ (sym c.load_fault.ensures ∙ c.in-None.is)

pub returns-in-Some-load_fault-clause-fault : goal.returns-in-Some-load_fault-clause-fault
returns-in-Some-load_fault-clause-fault c =
    cell_fault c.args.n c.args.pages.now c.args.parts.now no_part c.args.a _ (λ s. load_fault c.args.n c.args.a) c.in-Some.ensures.inside c.in-Some.ensures.place
    ∙ (sym c.load_fault.ensures ∙ c.in-Some-load_fault.is)
