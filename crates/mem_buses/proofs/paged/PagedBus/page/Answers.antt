use Rattle.std.proofs.Common.{sym, ◌∙◌, arith}
use Rattle.mem_buses.proofs.PageLaws.{page_has, page_not, page_byte}
use Rattle.mem_buses.proofs.paged.PagedBus.page.Goals as goal

pub returns-in_default-clause-none : goal.returns-in_default-clause-none
returns-in_default-clause-none c =
    let bus = c.args.self.now in
    page_not bus.pages bus.parts.items bus.guards (0, 0) c.args.number bus.owned (sym c.place.ensures ∙ c.in_default.is)

pub page-requires : goal.page-requires
page-requires c =
    let bus = c.args.self.now in
    let q = bus.sound.number c.args.number c.in-Some.place (sym c.place.ensures ∙ c.in-Some.is) in
    omega (arith, q.0, bus.sound.bytes)

pub returns-clause-bytes : goal.returns-clause-bytes
returns-clause-bytes c =
    let bus = c.args.self.now in
    let e = sym c.place.ensures ∙ c.in-Some.is in
    record {
      sized = c.page.ensures.sized;
      byte = λ k h. c.page.ensures.byte k h ∙ page_byte bus.pages bus.parts.items c.args.number c.in-Some.place k bus.sound bus.used bus.owned e h;
    }

pub returns-clause-some : goal.returns-clause-some
returns-clause-some c =
    let bus = c.args.self.now in
    let q = bus.sound.number c.args.number c.in-Some.place (sym c.place.ensures ∙ c.in-Some.is) in
    rw q.1 at (page_has bus.pages bus.parts.items bus.guards (0, 0) c.in-Some.place bus.used bus.owned q.0)
