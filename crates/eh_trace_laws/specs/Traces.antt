-- The lines of the trace, in letters and digits (docs/guide/command-line.md, "What is written").
use Rattle.std.specs.Prelude.{◌≡◌, ◌≢◌, ◌⊎◌, ℕ, ◌-◌, ◌<◌, ◌≤◌, min, List, [], ◌∷◌, ◌++◌, length, take, flat_map, replicate, codes, decimal, Some, None}
use Rattle.eh_word.specs.Address.{address_text}
use Rattle.elf_image.specs.Functions.{Function}
use Rattle.elf_image.specs.Image.{Image}
use Rattle.eh_trace.specs.Text.{event_line, trace_text, place_text, named_place, offset_text, type_text, bytes_text, holder, all_of}
use Rattle.eh_trace.specs.Trace.{Trace}
use Rattle.eh_trace.specs.declared.event.Event.{Event}
use Rattle.eh_trace.specs.declared.event.EventKind.{EventKind}
use Rattle.eh_trace.specs.declared.event.EventKind.TheVariants.{Throw, Rethrow, Cleanup, Catch, Unexpected}

-- what is said of a thrown object: its address, its type's name, and its first bytes, at most 16
abbrev pub throw_line_text : (ℕ → List ℕ) → Event → List ℕ
throw_line_text names e = address_text e.a ++ codes " " ++ type_text (names e.b) ++ codes " " ++ bytes_text (take (min e.count 16) e.bytes)

-- .. and of a pad: where it stands, and sp there
abbrev pub pad : Image → Event → List ℕ
pad image e = place_text image e.a ++ codes " sp " ++ address_text e.b

-- the line of an event, by its kind
abbrev pub LineIs : EventKind → List ℕ → Image → (ℕ → List ℕ) → Event → Type 0
LineIs kind line image names e = e.kind ≡ kind → event_line image names e ≡ line

pub record EventsAreWritten (image : Image) (names : ℕ → List ℕ) (e : Event) : Type 0 where
  pub throw : LineIs Throw (codes "throw " ++ throw_line_text names e ++ codes "\n") image names e
  pub rethrow : LineIs Rethrow (codes "rethrow " ++ throw_line_text names e ++ codes "\n") image names e
  pub cleanup : LineIs Cleanup (codes "cleanup " ++ pad image e ++ codes "\n") image names e
  pub catch : LineIs Catch (codes "catch " ++ pad image e ++ codes " object " ++ address_text e.c ++ codes "\n") image names e
  pub unexpected : LineIs Unexpected (codes "unexpected " ++ pad image e ++ codes "\n") image names e

-- ---- names, bytes and places

-- a byte that is printed, and one that isn't
abbrev pub IsPrinted : ℕ → Type 0
IsPrinted b = (33 ≤ b) × (b ≤ 126)

abbrev pub ArePrinted : List ℕ → Type 0
ArePrinted [] = Unit {0}
ArePrinted (b ∷ more) = IsPrinted b × ArePrinted more

-- a type's name of 1 to 64 printed bytes is written as it is, of a longer one the first 64 bytes, and an empty one is a question mark
pub record NamesAreWritten : Type 0 where
  pub empty : type_text [] ≡ codes "?"
  pub whole : (name : List ℕ) → 1 ≤ length name → length name ≤ 64 → ArePrinted name → type_text name ≡ name
  pub front : (name : List ℕ) → 64 < length name → ArePrinted name → type_text name ≡ take 64 name
  pub other : (b : ℕ) → (b < 33) ⊎ (126 < b) → type_text (b ∷ []) ≡ codes "?"
  pub no_bytes : bytes_text [] ≡ codes "-"

-- digits that don't begin with a zero, but for one alone
abbrev pub IsBare : List ℕ → Type 0
IsBare [] = ⊥
IsBare (d ∷ []) = Unit {0}
IsBare (d ∷ e ∷ more) = d ≢ 48

-- an offset is an address without the zeros before it
pub record IsWithoutZeros (n : ℕ) : Type 0 where
  pub zeros : ℕ
  pub is : address_text n ≡ replicate zeros 48 ++ offset_text n
  pub bare : IsBare (offset_text n)

-- an address is written by the function that holds it and the offset from its start, or after a question mark
pub record PlacesAreWritten : Type 0 where
  pub inside : (image : Image) (f : Function) (a : ℕ) → holder image a ≡ Some f → place_text image a ≡ named_place f.name (a - f.start)
  pub outside : (image : Image) (a : ℕ) → holder image a ≡ None → place_text image a ≡ codes "?+" ++ offset_text a
  pub offset : (n : ℕ) → IsWithoutZeros n
  pub named : (name : List ℕ) (offset : ℕ) → ArePrinted name → named_place name offset ≡ name ++ codes "+" ++ offset_text offset

-- ---- traces

-- a line for each event that is kept, and where more than 10,000 came a line that says how many more
pub record TracesAreWritten : Type 0 where
  pub events : (image : Image) (names : ℕ → List ℕ) (e : Event) → EventsAreWritten image names e
  pub names : NamesAreWritten
  pub places : PlacesAreWritten
  pub few : (image : Image) (names : ℕ → List ℕ) (t : Trace) → all_of t ≤ 10000 → trace_text image names t ≡ flat_map (event_line image names) t.kept
  pub more : (image : Image) (names : ℕ → List ℕ) (t : Trace) → 10000 < all_of t
      → trace_text image names t ≡ flat_map (event_line image names) t.kept ++ (codes "and " ++ decimal (all_of t - 10000) ++ codes " more events\n")
