use Rattle.std.proofs.Common.{sym, ◌∙◌, ◌≡◌, refl, None, inl, inr, slice_index_or}
use Rattle.mem_buses.specs.Pages.{CanStore, segment_at, byte_of}
use Rattle.eh_bus.specs.Memory.{fetch_fault}
use Rattle.mem_buses.proofs.PageLaws.{no_part, fetch_aligned, located, cell_number, cell_fault, exec_of}
use Rattle.mem_buses.proofs.paged.fetch_by_page.Goals as goal

passed : (c : goal.In-None) → fetch_fault (segment_at (byte_of c.args.pages.now) (slice_index_or c.args.parts.now c.in-Some.found.part no_part)) c.args.a ≡ None
passed c = sym (c.fetch_fault.ensures (segment_at (byte_of c.args.pages.now) (slice_index_or c.args.parts.now c.in-Some.found.part no_part)) (exec_of c.args.parts.now c.in-Some.found.part no_part _ c.in-Some.ensures.inside)) ∙ c.in-None.is

can : (c : goal.In-None) → CanStore 2 c.args.pages.now c.args.parts.now c.args.a c.in-Some.found.part c.in-Some.found.at
can c =
    located 2 c.args.pages.now c.args.parts.now c.args.a _ _ (inr (inl refl)) (fetch_aligned (segment_at (byte_of c.args.pages.now) (slice_index_or c.args.parts.now c.in-Some.found.part no_part)) c.args.a (passed c)) c.requires.sound
    c.in-Some.ensures.inside c.in-Some.ensures.covers c.in-Some.ensures.place c.in-Some.ensures.cell

pub returns-in-None-clause-room : goal.returns-in-None-clause-room
returns-in-None-clause-room c = (can c).room

pub returns-in-None-clause-number : goal.returns-in-None-clause-number
returns-in-None-clause-number c = cell_number 2 c.args.pages.now c.args.parts.now c.args.a _ _ c.requires.sound (can c)

pub returns-in-None-clause-ok : goal.returns-in-None-clause-ok
returns-in-None-clause-ok c =
    cell_fault 2 c.args.pages.now c.args.parts.now no_part c.args.a _ (λ s. fetch_fault s c.args.a) c.in-Some.ensures.inside c.in-Some.ensures.place ∙ passed c

pub returns-in-Some-fetch_fault-clause-fault : goal.returns-in-Some-fetch_fault-clause-fault
returns-in-Some-fetch_fault-clause-fault c =
    cell_fault 2 c.args.pages.now c.args.parts.now no_part c.args.a _ (λ s. fetch_fault s c.args.a) c.in-Some.ensures.inside c.in-Some.ensures.place
    ∙ (sym (c.fetch_fault.ensures (segment_at (byte_of c.args.pages.now) (slice_index_or c.args.parts.now c.in-Some.found.part no_part)) (exec_of c.args.parts.now c.in-Some.found.part no_part _ c.in-Some.ensures.inside)) ∙ c.in-Some-fetch_fault.is)
