-- The functions of an image.
use Rattle.std.specs.Prelude.{ℕ, ◌+◌, ◌-◌, ◌%◌, ◌==◌, ◌<◌, ◌≤◌, not, ◌&&◌, nat_le, nat_lt, min, Bool, if◌then◌else◌, List, [], ◌∷◌, fold, find, Option, Some, None, is_some}
use Rattle.std.specs.Ordering.{nat_cmp}
use Rattle.std.specs.BTreeMap.{insert_entry, is_at}
use Rattle.std.specs.Map.{lookup, values_of}
use Rattle.elf_image.specs.Segments.{Segment, holds, segment_end}
use Rattle.elf_image.specs.Symbols.{Symbol}
use Rattle.elf_image.specs.declared.symbol.TheConstants.{STT_FUNC, SHN_UNDEF}

pub record Function : Type 0 where
  pub name : List ℕ
  pub start : ℕ
  -- the first address above it
  pub end : ℕ

-- a defined symbol of type STT_FUNC whose value has bit 0 set, as Thumb code's has
abbrev pub is_thumb_function : Symbol → Bool
is_thumb_function s = s.info % 16 == STT_FUNC && s.value % 2 == 1 && not (s.section == SHN_UNDEF)

abbrev pub segment_at : List Segment → ℕ → Option Segment
segment_at segments a = find (holds a) segments

-- the symbol's range in a segment that is read-only and may be executed; a size of 0 reaches to the segment's end
abbrev pub function_in : Symbol → Option Segment → Option Function
function_in s None = None
function_in s (Some segment) =
    if segment.exec && not segment.write
    then Some (record { name = s.name; start = s.value - 1; end = if s.size == 0 then segment_end segment else min (segment_end segment) (s.value - 1 + s.size) })
    else None

-- the function of a symbol, if it is one
unfoldable pub function_of_symbol : List Segment → Symbol → Option Function
function_of_symbol segments s = if is_thumb_function s then function_in s (segment_at segments (s.value - 1)) else None

-- entries in ascending order; the first at one start counts
abbrev pub insert_first : List (ℕ × Function) → Option Function → List (ℕ × Function)
insert_first entries None = entries
insert_first entries (Some f) = if is_some (lookup (is_at (nat_cmp f.start)) entries) then entries else insert_entry nat_cmp entries f.start f

abbrev pub functions_by_start : List Segment → List Symbol → List (ℕ × Function)
functions_by_start segments symbols = fold (λ entries s. insert_first entries (function_of_symbol segments s)) [] symbols

abbrev pub next_start : List Function → ℕ → ℕ
next_start [] none = none
next_start (f ∷ more) none = f.start

-- each function is cut off at the start of the next
abbrev pub clip_ends : List Function → List Function
clip_ends [] = []
clip_ends (f ∷ more) = record f { end = min f.end (next_start more f.end) } ∷ clip_ends more

unfoldable pub functions_of : List Segment → List Symbol → List Function
functions_of segments symbols = clip_ends (values_of (functions_by_start segments symbols))

-- ---- what holds of the functions of every image

-- they ascend from an address on and don't overlap
abbrev pub FunctionsFrom : ℕ → List Function → Type 0
FunctionsFrom low [] = Unit {0}
FunctionsFrom low (f ∷ more) = (low ≤ f.start) × (f.start < f.end) × FunctionsFrom f.end more

-- the function holds the address
abbrev pub is_inside : ℕ → Function → Bool
is_inside a f = nat_le f.start a && nat_lt a f.end
