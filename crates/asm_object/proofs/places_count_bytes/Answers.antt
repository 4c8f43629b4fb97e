use Rattle.asm_object.proofs.PlaceLaws.{law_of_ends, law_of_places, law_of_bytes}
use Rattle.asm_object.proofs.places_count_bytes.Goals as goal

pub returns : goal.returns
returns c = record { end = law_of_ends; before = law_of_places; there = law_of_bytes }
