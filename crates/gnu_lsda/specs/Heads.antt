-- The head of a language-specific data area of the GNU C++ personality routine ("Exception handling tables" of the GNU toolchain; the
-- encodings are those of the Linux Standard Base, "DWARF Exception Header Encoding"; docs/rules/gnu-tables.md): three bytes of encodings, where
-- the type table stands, and how long the call-site table is.
use Rattle.std.specs.Prelude.{ℕ, ◌+◌, ◌*◌, ◌==◌, ◌||◌, nat_lt, if◌then◌else◌, List, length, slice_index, Option, Some, None, Result, Ok, Err}
use Rattle.gnu_lsda.specs.declared.lsda.HeadFault.{HeadFault}
use Rattle.gnu_lsda.specs.declared.lsda.HeadFault.TheVariants.{Short, Format}
use Rattle.gnu_lsda.specs.declared.lsda.TheConstants.{OMITTED, ABSOLUTE, RELATIVE, ULEB128}
use Rattle.gnu_lsda.specs.Leb128.{uleb128_at}
use Rattle.gnu_lsda.specs.Entries.{Form, words_after}

-- the area: the bytes of its segment, the address of the first of them, the base of the type table, the place of the first call-site
-- record, and how many bytes the call-site table has
pub record Area : Type 0 where
  pub bytes : List ℕ
  pub address : ℕ
  pub types : Option ℕ
  pub records : ℕ
  pub size : ℕ

abbrev pub byte_at : List ℕ → ℕ → Option ℕ
byte_at bytes at = if nat_lt at (length bytes) then Some (slice_index bytes at) else None

-- goes on with what is there
abbrev pub with_byte : Option ℕ → (ℕ → Result Area HeadFault) → Result Area HeadFault
with_byte None further = Err Short
with_byte (Some byte) further = further byte

abbrev pub with_number : Option (ℕ × ℕ) → (ℕ → ℕ → Result Area HeadFault) → Result Area HeadFault
with_number None further = Err Short
with_number (Some found) further = further found.0 found.1

-- the fields of records are ULEB128 numbers, and so is the size of their table, which comes before it
abbrev pub sites_at : List ℕ → ℕ → Option ℕ → ℕ → Result Area HeadFault
sites_at bytes address types place =
    with_byte (byte_at bytes place) (λ encoding.
    if encoding == ULEB128
    then with_number (uleb128_at bytes (place + 1)) (λ size next. Ok (record { bytes = bytes; address = address; types = types; records = next; size = size }))
    else Err Format)

-- there is no type table, or its base is as many bytes after the number as the number says
abbrev pub types_at : List ℕ → ℕ → ℕ → Result Area HeadFault
types_at bytes address place =
    with_byte (byte_at bytes place) (λ encoding.
    if encoding == OMITTED then sites_at bytes address None (place + 1)
    else (if encoding == ABSOLUTE || encoding == RELATIVE
    then with_number (uleb128_at bytes (place + 1)) (λ displacement next. sites_at bytes address (Some (next + displacement)) next)
    else Err Format))

-- landing pads are counted from the function's start
abbrev pub area_at : List ℕ → ℕ → ℕ → Result Area HeadFault
area_at bytes address place =
    with_byte (byte_at bytes place) (λ encoding. if encoding == OMITTED then types_at bytes address (place + 1) else Err Format)

-- the area stands after the words of code
abbrev pub area_after : Form → Option ℕ → Result Area HeadFault
area_after f None = Err Short
area_after f (Some words) = area_at f.bytes f.address (f.place + 8 + 4 * words)

abbrev pub area_of : Form → Result Area HeadFault
area_of f = area_after f (words_after f)
