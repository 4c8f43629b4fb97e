use Rattle.std.proofs.Common.{sym, ◌∙◌, ◌≡◌, None, slice_index_or}
use Rattle.mem_buses.specs.Pages.{segment_at, byte_of}
use Rattle.eh_bus.specs.Memory.{store_fault}
use Rattle.mem_buses.proofs.PageLaws.{no_part, store_aligned, located, cell_fault, write_of}
use Rattle.mem_buses.proofs.paged.store_by_page.Goals as goal

passed : (c : goal.In-None) → store_fault c.args.n c.args.guards.now (segment_at (byte_of c.args.pages.now) (slice_index_or c.args.parts.now c.in-Some.found.part no_part)) c.args.a ≡ None
passed c = sym (c.store_fault.ensures (segment_at (byte_of c.args.pages.now) (slice_index_or c.args.parts.now c.in-Some.found.part no_part)) (write_of c.args.parts.now c.in-Some.found.part no_part _ c.in-Some.ensures.inside)) ∙ c.in-None.is

pub returns-in-None-clause-cell : goal.returns-in-None-clause-cell
returns-in-None-clause-cell c =
    located c.args.n c.args.pages.now c.args.parts.now c.args.a _ _ c.requires.width (store_aligned c.args.n c.args.guards.now (segment_at (byte_of c.args.pages.now) (slice_index_or c.args.parts.now c.in-Some.found.part no_part)) c.args.a (passed c)) c.requires.sound
    c.in-Some.ensures.inside c.in-Some.ensures.covers c.in-Some.ensures.place c.in-Some.ensures.cell

pub returns-in-None-clause-ok : goal.returns-in-None-clause-ok
returns-in-None-clause-ok c =
    cell_fault c.args.n c.args.pages.now c.args.parts.now no_part c.args.a _ (λ s. store_fault c.args.n c.args.guards.now s c.args.a) c.in-Some.ensures.inside c.in-Some.ensures.place
    ∙ passed c

pub returns-in-Some-store_fault-clause-fault : goal.returns-in-Some-store_fault-clause-fault
returns-in-Some-store_fault-clause-fault c =
    cell_fault c.args.n c.args.pages.now c.args.parts.now no_part c.args.a _ (λ s. store_fault c.args.n c.args.guards.now s c.args.a) c.in-Some.ensures.inside c.in-Some.ensures.place
    ∙ (sym (c.store_fault.ensures (segment_at (byte_of c.args.pages.now) (slice_index_or c.args.parts.now c.in-Some.found.part no_part)) (write_of c.args.parts.now c.in-Some.found.part no_part _ c.in-Some.ensures.inside)) ∙ c.in-Some-store_fault.is)
