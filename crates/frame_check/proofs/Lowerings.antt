-- The lowering places of an image, in the words of its instructions.
use Rattle.std.proofs.Common.{ℕ, ◌≡◌, sym, ◌∙◌}
use Rattle.std.specs.Prelude.{List}
use Rattle.elf_image.specs.Functions.{Function}
use Rattle.elf_image.specs.Image.{Image}
use Rattle.frame_graph.specs.Laws.{LoweringPlacesAreCopies}
use Rattle.frame_reach.specs.Laws.{MarksExist}
use Rattle.frame_check.specs.Roots.{flow_graph_of}
use Rattle.frame_check.specs.Accepts.{IsLowering}
use Rattle.frame_check.specs.Laws.{IsLoweredAt, LoweringsAreCopies}

pub lowerings_are_copies : LoweringPlacesAreCopies → MarksExist → LoweringsAreCopies
lowerings_are_copies copies exist image functions a = (there, back)
  where
    there : IsLowering image functions a → IsLoweredAt image functions a
    there i =
        let w = (copies (flow_graph_of image i.function) i.marks.reached i.place).0 i.lowers in
        record {
          function = i.function;
          among = i.among;
          before = w.before;
          place = i.place;
          register = w.register;
          minuend = w.minuend;
          subtrahend = w.subtrahend;
          address = i.address;
          after = i.address ∙ w.address;
          subtraction = w.subtraction;
          copy = w.copy;
          first = (i.are.reached w.before).0 w.first;
          second = (i.are.reached i.place).0 w.second;
        }

    back : IsLoweredAt image functions a → IsLowering image functions a
    back l =
        let m = exist (flow_graph_of image l.function) in
        record {
          function = l.function;
          among = l.among;
          marks = m.0;
          are = m.1;
          place = l.place;
          lowers = (copies (flow_graph_of image l.function) m.0.reached l.place).1 (record {
            before = l.before;
            register = l.register;
            minuend = l.minuend;
            subtrahend = l.subtrahend;
            address = sym l.address ∙ l.after;
            subtraction = l.subtraction;
            copy = l.copy;
            first = (m.1.reached l.before).1 l.first;
            second = (m.1.reached l.place).1 l.second;
          });
          address = l.address;
        }
