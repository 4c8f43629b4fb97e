-- Descriptors are read as they were written.
use Rattle.std.proofs.Common.{◌≡◌, ℕ, ◌+◌, ◌*◌, ◌%◌, ◌^◌, ◌<◌, ◌≤◌, ◌==◌, true, false, List, [], ◌∷◌, ◌++◌, length, drop, Some, None, refl, sym, ap, ◌∙◌, arith, append_assoc, length-append}
use Rattle.std.specs.Prelude.{nat_le, Result, Ok}
use Rattle.std.proofs.Math.Seq.{drop-append_seam}
use Rattle.std.proofs.lemmas.Bool.Decides.{nat_tests}
use Rattle.std.proofs.lemmas.List.{drop-drop, length-drop}
use Rattle.byteorder.specs.Endian.{little_number, little_bytes}
use Rattle.byteorder.specs.Numbers.{little_number-reads_back}
use Rattle.eh_word.specs.Words.{number_at, prel31_of}
use Rattle.eh_codes.specs.Rows.{prel31_to, even}
use Rattle.eh_codes.proofs.RowLaws.{seen_back}
use Rattle.eh_desc.specs.declared.descriptor.CatchType.{CatchType}
use Rattle.eh_desc.specs.declared.descriptor.CatchType.TheVariants.{All, AllFails, One}
use Rattle.eh_desc.specs.declared.descriptor.Desc.{Desc}
use Rattle.eh_desc.specs.declared.descriptor.DescFault.{DescFault}
use Rattle.eh_desc.specs.declared.descriptor.DescKind.{DescKind}
use Rattle.eh_desc.specs.declared.descriptor.DescKind.TheVariants as read
use Rattle.eh_desc.specs.declared.descriptor.NextDesc.{NextDesc}
use Rattle.eh_desc.specs.declared.descriptor.NextDesc.TheVariants.{End}
use Rattle.eh_desc.specs.declared.descriptor.NextDesc.TheVariants as found
use Rattle.eh_desc.specs.declared.descriptor.TheConstants.{ALL_FAILS}
use Rattle.eh_desc.specs.Grammar.{Form, word_at, address_at, catch_type, has_types, kind_at, next_desc_at, items_from}
use Rattle.eh_desc.specs.Laws.{pad_of}
use Rattle.eh_desc.proofs.Items.{one, over}
use Rattle.eh_desc.proofs.Marks.{law_of_cleanups, law_of_catches, law_of_specifications}
use Rattle.gnu_compact.specs.declared.descriptor.OwnDescriptor.{OwnDescriptor}
use Rattle.gnu_compact.specs.declared.descriptor.OwnKind.{OwnKind}
use Rattle.gnu_compact.specs.declared.descriptor.OwnKind.TheVariants.{Specification, Catch, Cleanup}
use Rattle.gnu_compact.specs.Descriptors.{type_word, kind_size, scope_bytes, kind_bytes, descriptors_bytes}
use Rattle.gnu_compact.specs.Laws.{IsPad, IsTaken, IsDescriptor, AreDescriptors, desc_of_own, items_as, descriptors_size}

-- ---- words

drop_more : (n m : ℕ) (xs : List ℕ) → drop (n + m) xs ≡ drop m (drop n xs)
drop_more n m xs = sym (drop-drop m n xs)

pub number_there : (bytes : List ℕ) (place : ℕ) → place + 4 ≤ length bytes → number_at 4 bytes place ≡ Some (little_number 4 (drop place bytes))
unfolding number_at
number_there bytes place h = let e : nat_le (place + 4) (length bytes) ≡ true = grind (arith, nat_tests) in rw e refl

-- a word that stands at a place, and what stands after it
pub word_there : (bytes rest : List ℕ) (place w : ℕ) → w < 2 ^ 32 → drop place bytes ≡ little_bytes 4 w ++ rest
    → (number_at 4 bytes place ≡ Some w) × (drop (place + 4) bytes ≡ rest)
word_there bytes rest place w low h =
    let size : length (drop place bytes) ≡ 4 + length rest = ap length h ∙ length-append (little_bytes 4 w) rest in
    let inside : place + 4 ≤ length bytes = omega (arith, length-drop place bytes, size) in (
      number_there bytes place inside ∙ ap Some (ap (λ (xs : List ℕ). little_number 4 xs) h ∙ little_number-reads_back 4 w rest low),
      drop_more place 4 bytes ∙ ap (drop 4) h ∙ drop-append_seam (little_bytes 4 w) rest,
    )

-- the scope at a place of a wide table
scope_there : (t : Form) (rest : List ℕ) (place len off : ℕ) → t.wide ≡ true → 0 < len → len < 2 ^ 32 → off < 2 ^ 32 → drop place t.bytes ≡ scope_bytes len off ++ rest
    → (next_desc_at t place ≡ kind_at t place len off (place + 8)) × (drop (place + 8) t.bytes ≡ rest)
scope_there t rest place len off wide some len_low off_low h =
    let first = word_there t.bytes (little_bytes 4 off ++ rest) place len len_low (h ∙ append_assoc (little_bytes 4 len) (little_bytes 4 off) rest) in
    let second = word_there t.bytes rest (place + 4) off off_low first.1 in
    let there : word_at t place ≡ Some len = first.0 in
    let next : word_at t (place + 4) ≡ Some off = second.0 in
    let isnt : (len == 0) ≡ false = grind (arith, nat_tests) in
    let same : place + 4 + 4 ≡ place + 8 = omega arith in
    (rw (there, isnt, wide, next) refl, ap (λ n. drop n t.bytes) (sym same) ∙ second.1)

-- ---- single descriptors

small_word : (n : ℕ) → n < 2 ^ 32 → n % 2 ^ 32 ≡ n
small_word n h = omega arith

-- a descriptor by its parts, and the place after it
abbrev found_by : ℕ → ℕ → ℕ → ℕ → DescKind → ℕ → NextDesc
found_by at next start size kind after = found.One (record { at = at; next = next; start = start; size = size; kind = kind }) after

same_found : (at at' next next' start size after after' : ℕ) (kind kind' : DescKind) → at ≡ at' → next ≡ next' → kind ≡ kind' → after ≡ after'
    → found_by at next start size kind after ≡ found_by at' next' start size kind' after'
same_found at at' next next' start size after after' kind kind' a n k f =
    ap (λ x. found_by x next start size kind after) a ∙ ap (λ x. found_by at' x start size kind after) n ∙ ap (λ x. found_by at' next' start size x after) k
    ∙ ap (λ x. found_by at' next' start size kind' x) f

-- what is known of a descriptor in a table: the table is wide, and the place has an address below 2 ^ 30
record Place (t : Form) (place at : ℕ) : Type 0 where
  wide : t.wide ≡ true
  is : t.address + place ≡ at
  low : at + 16 ≤ 2 ^ 30

address_is : (t : Form) (place at k : ℕ) → Place t place at → k ≤ 16 → address_at t (place + k) ≡ at + k
address_is t place at k p h = let is = p.is in let low = p.low in omega arith

here_is : (t : Form) (place at : ℕ) → Place t place at → address_at t place ≡ at
here_is t place at p = let is = p.is in let low = p.low in omega arith

-- a landing pad's word leads to it
pad_back : (t : Form) (place at pad : ℕ) → Place t place at → IsPad pad → pad_of t (place + 8) (prel31_to ((at + 8) % 2 ^ 32) pad) ≡ pad
pad_back t place at pad p is =
    let own : (at + 8) % 2 ^ 32 ≡ at + 8 = let low = p.low in omega arith in
    let low : at + 8 < 2 ^ 30 = let l = p.low in omega arith in
    ap (λ a. even (prel31_of a (prel31_to ((at + 8) % 2 ^ 32) pad))) (address_is t place at 8 p (omega arith))
    ∙ ap (λ a. even (prel31_of (at + 8) (prel31_to a pad))) own
    ∙ ap even (seen_back (at + 8) pad low is.0)
    ∙ (let e = is.1 in let r : even pad ≡ pad = omega arith in r)

pad_low : (place pad : ℕ) → prel31_to place pad < 2 ^ 31
pad_low place pad = omega arith

type_low : (place : ℕ) (takes : CatchType) → type_word place takes < 2 ^ 32
type_low place All = omega arith
type_low place AllFails = omega arith
type_low place (One address) = omega arith

-- a type word says its type
type_back : (place : ℕ) (takes : CatchType) → place < 2 ^ 30 → IsTaken place takes → catch_type place (type_word place takes) ≡ takes
type_back place All low is = refl
type_back place AllFails low is = refl
type_back place (One address) low is =
    let word = type_word place (One address) in
    let some : 0 < word = is.1 in
    let below : word < ALL_FAILS = is.2 in
    let a : (word == 0xFFFFFFFF) ≡ false = grind (arith, nat_tests) in
    let b : (word == 0xFFFFFFFE) ≡ false = grind (arith, nat_tests) in
    let c : (word == 0) ≡ false = grind (arith, nat_tests) in
    let back : (place + word) % 2 ^ 32 ≡ address = let l = is.0 in omega arith in
    rw (a, b, c) (ap One back)

-- what stands at a place, and the bytes after it
abbrev Stands : Form → ℕ → ℕ → List ℕ → OwnDescriptor → Type 0
Stands t place at rest d = (next_desc_at t place ≡ found.One (desc_of_own t.start at d) (place + kind_size d.kind)) × (drop (place + kind_size d.kind) t.bytes ≡ rest)

specification_there : (t : Form) (rest : List ℕ) (place at offset size : ℕ) → Place t place at → IsDescriptor at (record { offset = offset; size = size; kind = Specification })
    → drop place t.bytes ≡ kind_bytes at size offset Specification ++ rest → Stands t place at rest (record { offset = offset; size = size; kind = Specification })
specification_there t rest place at offset size p is h =
    let e = is.offset_even in
    let l = is.offset_low in
    let whole : (offset + 1) % 2 ^ 32 ≡ offset + 1 = omega arith in
    let own : drop place t.bytes ≡ scope_bytes size (offset + 1) ++ (little_bytes 4 0 ++ rest) =
    h ∙ ap (λ o. (scope_bytes size o ++ little_bytes 4 0) ++ rest) whole ∙ append_assoc (scope_bytes size (offset + 1)) (little_bytes 4 0) rest in
    let scope = scope_there t (little_bytes 4 0 ++ rest) place size (offset + 1) p.wide is.some is.size_low (omega arith) own in
    let count = word_there t.bytes rest (place + 8) 0 (omega arith) scope.1 in
    let none : word_at t (place + 8) ≡ Some 0 = count.0 in
    let size_is : length (drop (place + 8) t.bytes) ≡ 4 + length rest = ap length scope.1 ∙ length-append (little_bytes 4 0) rest in
    let inside : place + 8 + 4 + 4 * 0 ≤ length t.bytes = omega (arith, length-drop (place + 8) t.bytes, size_is) in
    let types : has_types t (place + 8 + 4) 0 ≡ true = grind (arith, nat_tests) in
    let same : place + 8 + 4 ≡ place + 12 = omega arith in (
      scope.0 ∙ (law_of_specifications t place size offset (place + 8) 0 is.size_even is.offset_even (omega arith) types).0 none
          ∙ same_found (address_at t place) at (address_at t (place + 8 + 4 + 4 * 0)) (at + 12) ((t.start + offset) % 2 ^ 32) size (place + 8 + 4 + 4 * 0) (place + 12)
          (read.Spec (address_at t (place + 8 + 4)) 0 None) (read.Spec (at + 12) 0 None)
          (here_is t place at p) (ap (address_at t) (let z : place + 8 + 4 + 4 * 0 ≡ place + 12 = omega arith in z) ∙ address_is t place at 12 p (omega arith))
          (ap (λ a. read.Spec a 0 None) (ap (address_at t) same ∙ address_is t place at 12 p (omega arith))) (omega arith),
      ap (λ n. drop n t.bytes) (sym same) ∙ count.1,
    )

cleanup_there : (t : Form) (rest : List ℕ) (place at offset size pad : ℕ) → Place t place at → IsDescriptor at (record { offset = offset; size = size; kind = Cleanup pad })
    → drop place t.bytes ≡ kind_bytes at size offset (Cleanup pad) ++ rest → Stands t place at rest (record { offset = offset; size = size; kind = Cleanup pad })
cleanup_there t rest place at offset size pad p is h =
    let word = prel31_to ((at + 8) % 2 ^ 32) pad in
    let scope = scope_there t (little_bytes 4 word ++ rest) place size offset p.wide is.some is.size_low is.offset_low
    (h ∙ append_assoc (scope_bytes size offset) (little_bytes 4 word) rest) in
    let low : word < 2 ^ 32 = omega (arith, pad_low ((at + 8) % 2 ^ 32) pad) in
    let leads = word_there t.bytes rest (place + 8) word low scope.1 in
    let there : word_at t (place + 8) ≡ Some word = leads.0 in
    let same : place + 8 + 4 ≡ place + 12 = omega arith in (
      scope.0 ∙ law_of_cleanups t place size offset (place + 8) word is.size_even is.offset_even there
          ∙ same_found (address_at t place) at (address_at t (place + 8 + 4)) (at + 12) ((t.start + offset) % 2 ^ 32) size (place + 8 + 4) (place + 12)
          (read.Cleanup (pad_of t (place + 8) word)) (read.Cleanup pad)
          (here_is t place at p) (ap (address_at t) same ∙ address_is t place at 12 p (omega arith))
          (ap (λ a. read.Cleanup a) (pad_back t place at pad p is.kind)) same,
      ap (λ n. drop n t.bytes) (sym same) ∙ leads.1,
    )

catch_there : (t : Form) (rest : List ℕ) (place at offset size pad : ℕ) (takes : CatchType) → Place t place at
    → IsDescriptor at (record { offset = offset; size = size; kind = Catch pad takes })
    → drop place t.bytes ≡ kind_bytes at size offset (Catch pad takes) ++ rest → Stands t place at rest (record { offset = offset; size = size; kind = Catch pad takes })
catch_there t rest place at offset size pad takes p is h =
    let e = is.size_even in
    let l = is.size_low in
    let far = p.low in
    let whole : (size + 1) % 2 ^ 32 ≡ size + 1 = omega arith in
    let third : ((at + 8) % 2 ^ 32 + 4) % 2 ^ 32 ≡ at + 12 = omega arith in
    let word = prel31_to ((at + 8) % 2 ^ 32) pad in
    let type = type_word (at + 12) takes in
    let own : drop place t.bytes ≡ scope_bytes (size + 1) offset ++ (little_bytes 4 word ++ (little_bytes 4 type ++ rest)) =
    h ∙ ap (λ s. (scope_bytes s offset ++ (little_bytes 4 word ++ little_bytes 4 (type_word (((at + 8) % 2 ^ 32 + 4) % 2 ^ 32) takes))) ++ rest) whole
    ∙ ap (λ a. (scope_bytes (size + 1) offset ++ (little_bytes 4 word ++ little_bytes 4 (type_word a takes))) ++ rest) third
    ∙ append_assoc (scope_bytes (size + 1) offset) (little_bytes 4 word ++ little_bytes 4 type) rest
    ∙ ap (λ l. scope_bytes (size + 1) offset ++ l) (append_assoc (little_bytes 4 word) (little_bytes 4 type) rest) in
    let scope = scope_there t (little_bytes 4 word ++ (little_bytes 4 type ++ rest)) place (size + 1) offset p.wide (omega arith) (omega arith) is.offset_low own in
    let small : word < 2 ^ 31 = pad_low ((at + 8) % 2 ^ 32) pad in
    let leads = word_there t.bytes (little_bytes 4 type ++ rest) (place + 8) word (omega (arith, small)) scope.1 in
    let says = word_there t.bytes rest (place + 8 + 4) type (type_low (at + 12) takes) leads.1 in
    let there : word_at t (place + 8) ≡ Some word = leads.0 in
    let second : word_at t (place + 8 + 4) ≡ Some type = says.0 in
    let same : place + 8 + 8 ≡ place + 16 = omega arith in
    let twelve : place + 8 + 4 ≡ place + 12 = omega arith in
    let takes_is : catch_type (address_at t (place + 8 + 4)) type ≡ takes =
    ap (λ a. catch_type a type) (ap (address_at t) twelve ∙ address_is t place at 12 p (omega arith)) ∙ type_back (at + 12) takes (omega arith) is.kind.1 in (
      scope.0 ∙ (law_of_catches t place size offset (place + 8) word type is.size_even is.offset_even small second).0 there
          ∙ same_found (address_at t place) at (address_at t (place + 8 + 8)) (at + 16) ((t.start + offset) % 2 ^ 32) size (place + 8 + 8) (place + 16)
          (read.Catch (pad_of t (place + 8) word) false (catch_type (address_at t (place + 8 + 4)) type)) (read.Catch pad false takes)
          (here_is t place at p) (ap (address_at t) same ∙ address_is t place at 16 p (omega arith))
          (ap (λ a. read.Catch a false (catch_type (address_at t (place + 8 + 4)) type)) (pad_back t place at pad p is.kind.0) ∙ ap (λ k. read.Catch pad false k) takes_is) same,
      ap (λ n. drop n t.bytes) (let z : place + 16 ≡ place + 8 + 4 + 4 = omega arith in z) ∙ says.1,
    )

kind_there : (t : Form) (rest : List ℕ) (place at offset size : ℕ) (kind : OwnKind) → Place t place at → IsDescriptor at (record { offset = offset; size = size; kind = kind })
    → drop place t.bytes ≡ kind_bytes at size offset kind ++ rest → Stands t place at rest (record { offset = offset; size = size; kind = kind })
kind_there t rest place at offset size Specification p is h = specification_there t rest place at offset size p is h
kind_there t rest place at offset size (Catch pad takes) p is h = catch_there t rest place at offset size pad takes p is h
kind_there t rest place at offset size (Cleanup pad) p is h = cleanup_there t rest place at offset size pad p is h

-- ---- all of them

kind_large : (kind : OwnKind) → (12 ≤ kind_size kind) × (kind_size kind ≤ 16)
kind_large Specification = (omega arith, omega arith)
kind_large (Catch pad takes) = (omega arith, omega arith)
kind_large (Cleanup pad) = (omega arith, omega arith)

size_some : (ds : List OwnDescriptor) → 4 ≤ descriptors_size ds
size_some [] = omega arith
size_some (d ∷ more) = omega (arith, size_some more)

list_ends : (t : Form) (rest : List ℕ) (place : ℕ) → drop place t.bytes ≡ little_bytes 4 0 ++ rest → End ≡ next_desc_at t place
list_ends t rest place h =
    let there : word_at t place ≡ Some 0 = (word_there t.bytes rest place 0 (omega arith) h).0 in
    rw there refl

pub items_back : (t : Form) (rest : List ℕ) (place at : ℕ) (ds : List OwnDescriptor) → t.wide ≡ true → t.address + place ≡ at → at + descriptors_size ds ≤ 2 ^ 30
    → AreDescriptors at ds → drop place t.bytes ≡ descriptors_bytes at ds ++ rest → items_from t place ≡ items_as t.start at ds
items_back t rest place at [] wide is low each h = over t place (list_ends t rest place h)
items_back t rest place at (d ∷ more) wide is low each h =
    let next = at + kind_size d.kind in
    let some = size_some more in
    let whole : next % 2 ^ 32 ≡ next = omega arith in
    let own : drop place t.bytes ≡ kind_bytes at d.size d.offset d.kind ++ (descriptors_bytes next more ++ rest) =
    h ∙ ap (λ n. (kind_bytes at d.size d.offset d.kind ++ descriptors_bytes n more) ++ rest) whole
    ∙ append_assoc (kind_bytes at d.size d.offset d.kind) (descriptors_bytes next more) rest in
    let p : Place t place at = record { wide = wide; is = is; low = omega (arith, kind_large d.kind, some) } in
    let stands = kind_there t (descriptors_bytes next more ++ rest) place at d.offset d.size d.kind p each.0 own in
    let after : t.address + (place + kind_size d.kind) ≡ next = omega arith in
    one t place (desc_of_own t.start at d) (place + kind_size d.kind) (sym stands.0)
    ∙ ap (λ (l : List (Result Desc DescFault)). Ok (desc_of_own t.start at d) ∷ l) (items_back t rest (place + kind_size d.kind) next more wide after (omega arith) each.1 stands.1)
