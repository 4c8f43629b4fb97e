-- The text of a trace. Each line ends in a line feed.
use Rattle.std.specs.Prelude.{ℕ, ◌+◌, ◌-◌, ◌==◌, ◌&&◌, nat_le, nat_lt, min, List, [], ◌∷◌, ◌++◌, map, take, find, flat_map, codes, decimal, Option, Some, None, if◌then◌else◌}
use Rattle.hex.specs.Hex.{encode_lower}
use Rattle.eh_word.specs.Address.{address_text}
use Rattle.elf_image.specs.Image.{Image}
use Rattle.elf_image.specs.Functions.{Function, is_inside}
use Rattle.eh_trace.specs.declared.event.EventKind.{EventKind}
use Rattle.eh_trace.specs.declared.event.EventKind.TheVariants.{Throw, Rethrow, Cleanup, Catch, Unexpected}
use Rattle.eh_trace.specs.declared.event.Event.{Event}
use Rattle.eh_trace.specs.declared.event.TheConstants.{MAX_BYTES}
use Rattle.eh_trace.specs.declared.events.TheConstants.{MAX_KEPT}
use Rattle.eh_trace.specs.declared.text.TheConstants.{MAX_TYPE_NAME}
use Rattle.eh_trace.specs.Trace.{Trace}

-- ---- numbers

-- digits without the zeros before them, but for the last digit
unfoldable pub without_zeros : List ℕ → List ℕ
without_zeros [] = []
without_zeros (d ∷ []) = d ∷ []
without_zeros (d ∷ e ∷ more) = if d == 48 then without_zeros (e ∷ more) else d ∷ e ∷ more

abbrev pub offset_text : ℕ → List ℕ
offset_text n = without_zeros (address_text n)

-- ---- names and bytes

-- a byte that isn't printed, and a blank, are question marks
abbrev pub printable_byte : ℕ → ℕ
printable_byte b = if nat_le 33 b && nat_le b 126 then b else 63

unfoldable pub type_text : List ℕ → List ℕ
type_text [] = codes "?"
type_text (b ∷ more) = map printable_byte (take MAX_TYPE_NAME (b ∷ more))

unfoldable pub bytes_text : List ℕ → List ℕ
bytes_text [] = codes "-"
bytes_text (b ∷ more) = encode_lower (b ∷ more)

-- ---- places: a function and an offset in it

abbrev pub named_place : List ℕ → ℕ → List ℕ
named_place name offset = map printable_byte name ++ codes "+" ++ offset_text offset

-- the function that holds the address
abbrev pub holder : Image → ℕ → Option Function
holder image a = find (is_inside a) image.functions

-- an address in no function stands after a question mark
abbrev pub place_in : Option Function → ℕ → List ℕ
place_in None a = named_place (codes "?") a
place_in (Some f) a = named_place f.name (a - f.start)

unfoldable pub place_text : Image → ℕ → List ℕ
place_text image a = place_in (holder image a) a

-- ---- lines

-- names are by a type's address
unfoldable pub thrown_text : (ℕ → List ℕ) → Event → List ℕ
thrown_text names e =
    address_text e.a ++ codes " " ++ type_text (names e.b) ++ codes " " ++ bytes_text (take (min e.count MAX_BYTES) e.bytes)

unfoldable pub entered_text : Image → Event → List ℕ
entered_text image e = place_text image e.a ++ codes " sp " ++ address_text e.b

abbrev pub line_of : EventKind → Image → (ℕ → List ℕ) → Event → List ℕ
line_of Throw image names e = codes "throw " ++ thrown_text names e ++ codes "\n"
line_of Rethrow image names e = codes "rethrow " ++ thrown_text names e ++ codes "\n"
line_of Cleanup image names e = codes "cleanup " ++ entered_text image e ++ codes "\n"
line_of Catch image names e = codes "catch " ++ entered_text image e ++ codes " object " ++ address_text e.c ++ codes "\n"
line_of Unexpected image names e = codes "unexpected " ++ entered_text image e ++ codes "\n"

unfoldable pub event_line : Image → (ℕ → List ℕ) → Event → List ℕ
event_line image names e = line_of e.kind image names e

-- how many events came, of all kinds
abbrev pub all_of : Trace → ℕ
all_of t = t.throws + t.rethrows + t.cleanups + t.catches + t.unexpected

abbrev pub after_line : ℕ → List ℕ
after_line count = codes "and " ++ decimal count ++ codes " more events\n"

-- those that came after the last that is kept
unfoldable pub more_line : ℕ → List ℕ
more_line all = if nat_lt MAX_KEPT all then after_line (all - MAX_KEPT) else []

abbrev pub trace_text : Image → (ℕ → List ℕ) → Trace → List ℕ
trace_text image names t = flat_map (event_line image names) t.kept ++ more_line (all_of t)
