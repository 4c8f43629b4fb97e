use Rattle.std.proofs.Common.{sym, ◌∙◌}
use Rattle.mem_buses.proofs.PageBuild.{if_ready}
use Rattle.mem_buses.proofs.pages.Pages.cell_for.Goals as goal

pub returns-in-None : goal.returns-in-None
returns-in-None c =
    if_ready c.args.self.now c.add_page.new.self c.args.a _ c.add_page.result c.requires.sound c.requires.room (sym c.cell.ensures ∙ c.in-None.is) c.add_page.ensures.page c.add_page.ensures.cell
