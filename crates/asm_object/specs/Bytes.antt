-- The bytes of numbers and instructions, the lowest byte first (docs/rules/sources.md; DDI 0419).
use Rattle.std.specs.Prelude.{ℕ, ◌/◌, ◌%◌, ◌==◌, if◌then◌else◌, List, [], ◌∷◌, ◌++◌, replicate, flat_map}
use Rattle.byteorder.specs.Endian.{little_bytes}
use Rattle.asm_object.specs.declared.bytes.TheConstants.{FILLER}
use Rattle.thumb_encode.specs.declared.code.Code.{Code}
use Rattle.thumb_encode.specs.declared.code.Code.TheVariants.{Half, Pair}

abbrev pub byte_bytes : ℕ → List ℕ
byte_bytes n = little_bytes 1 n

abbrev pub half_bytes : ℕ → List ℕ
half_bytes n = little_bytes 2 n

abbrev pub word_bytes : ℕ → List ℕ
word_bytes n = little_bytes 4 n

abbrev pub code_bytes : Code → List ℕ
code_bytes (Half half) = half_bytes half
code_bytes (Pair first second) = half_bytes first ++ half_bytes second

-- so many halfwords of `mov r8, r8`
abbrev pub fillers : ℕ → List ℕ
fillers count = flat_map half_bytes (replicate count FILLER)

-- the filling of a text: a zero byte if the number of bytes is odd, then filler instructions
abbrev pub filling_bytes : ℕ → List ℕ
filling_bytes count = (if count % 2 == 1 then 0 ∷ [] else []) ++ fillers (count / 2)
