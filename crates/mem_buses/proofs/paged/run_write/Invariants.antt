use Rattle.std.proofs.Common.{◌≡◌, ◌%◌, ◌<◌, length, drop}
use Rattle.eh_bus.specs.Memory.{store_words}
use Rattle.mem_buses.specs.Pages.{PagesMake, byte_of, segments_at}
use Rattle.mem_buses.proofs.paged.run_write.Given as goal

abbrev pub invariant-loop-word : goal.invariant-loop-word
invariant-loop-word l = record {
  aligned : l.word-index < length l.words → l.at % 4 ≡ 0;
  stand : PagesMake l.pages l.parts (segments_at (byte_of l.pages) l.parts);
  places : l.pages.places ≡ l.initial.pages.places;
  run : store_words (segments_at (byte_of l.pages) l.parts) l.at (drop l.word-index l.words) ≡ store_words (segments_at (byte_of l.initial.pages) l.parts) l.a l.words;
}
