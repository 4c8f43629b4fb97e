use Rattle.std.proofs.Common.{◌≡◌, ◌+◌, ◌-◌, ◌*◌, drop}
use Rattle.eh_bus.specs.Memory.{store_words}
use Rattle.mem_buses.specs.Pages.{PagesMake, byte_of, segments_at}
use Rattle.mem_buses.proofs.paged.write_near.Given as goal

abbrev pub invariant-loop-word : goal.invariant-loop-word
invariant-loop-word l = record {
  stand : PagesMake l.pages l.parts (segments_at (byte_of l.pages) l.parts);
  places : l.pages.places ≡ l.initial.pages.places;
  at : l.at ≡ l.near.at + (l.a - l.near.start) + 4 * l.word-index;
  run : store_words (segments_at (byte_of l.pages) l.parts) (l.a + 4 * l.word-index) (drop l.word-index l.words) ≡ store_words (segments_at (byte_of l.initial.pages) l.parts) l.a l.words;
}
