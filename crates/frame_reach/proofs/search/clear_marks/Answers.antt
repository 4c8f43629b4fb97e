use Rattle.frame_reach.proofs.Found.{unmarked_anew}
use Rattle.frame_reach.proofs.search.clear_marks.Goals as goal

pub returns : goal.returns
returns c = unmarked_anew c.clear.new.self.items c.resize.new.self.items c.args.count _ c.resize.result c.clear.ensures.items c.clear.ensures.len c.resize.ensures.items
