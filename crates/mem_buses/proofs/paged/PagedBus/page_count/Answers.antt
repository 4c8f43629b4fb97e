use Rattle.std.proofs.Common.{sym, ◌∙◌, map, ◌/◌}
use Rattle.std.proofs.lemmas.List.{length-map}
use Rattle.eh_bus.specs.declared.map.TheConstants.{PAGE_SIZE}
use Rattle.mem_buses.proofs.PageLaws.{page_numbers}
use Rattle.mem_buses.proofs.paged.PagedBus.page_count.Goals as goal

pub returns : goal.returns
returns c =
    let bus = c.args.self.now in
    (map (λ a. a / PAGE_SIZE) bus.pages.firsts, (page_numbers bus.pages bus.parts.items _ _ bus.sound bus.used bus.owned, c.count.ensures ∙ sym (length-map bus.pages.firsts (λ a. a / PAGE_SIZE))))
