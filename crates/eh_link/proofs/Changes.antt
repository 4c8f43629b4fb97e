-- What a change of a field writes lies within the bytes.
use Rattle.std.proofs.Common.{◌≡◌, ℕ, ◌+◌, ◌*◌, ◌/◌, ◌%◌, ◌^◌, ◌≤◌, ◌<◌, Bool, true, false, cond, List, length, drop, get_or, Option, Some, None, Result, Ok, Err, ℤ, refl, ap, arith, nat_le, nat_lt, min}
use Rattle.std.proofs.lemmas.Bool.Decides.{nat_tests}
use Rattle.std.proofs.lemmas.List.{at_drop_more}
use Rattle.byteorder.specs.Endian.{little_number}
use Rattle.thumb_encode.specs.Codes.{with_field, refused_if, target_field}
use Rattle.thumb_encode.specs.declared.code.Code.TheVariants as code
use Rattle.thumb_isa.specs.declared.encode_fault.EncodeFault.{EncodeFault}
use Rattle.thumb_isa.specs.declared.encode_fault.EncodeFault.TheVariants.{RegisterRange}
use Rattle.asm_relocatable.specs.declared.place.Section.{Section}
use Rattle.asm_relocatable.specs.declared.object.Reloc.{Reloc}
use Rattle.eh_link.specs.declared.names.Meaning.{Meaning}
use Rattle.asm_relocatable.specs.declared.relocation.FieldKind.{FieldKind}
use Rattle.asm_relocatable.specs.declared.relocation.FieldKind.TheVariants.{Absolute, Relative, Prel31, Call, Jump, CondJump}
use Rattle.eh_link.specs.declared.field.Change.{Change}
use Rattle.eh_link.specs.declared.field.Change.TheVariants.{Keep, Half, Word, Unreachable}
use Rattle.eh_link.specs.Layout.{address_at}
use Rattle.eh_link.specs.Fields.{size_of, branch, distance, filling, change_by, change_of, apply_change, fill_fields, unreachable_in, unreachable_at, lower}
use Rattle.asm_relocatable.specs.Relocations.{width}

size_le_4 : (c : Change) → size_of c ≤ 4
size_le_4 Keep = omega arith
size_le_4 (Half x) = omega arith
size_le_4 (Word x) = omega arith
size_le_4 Unreachable = omega arith

halves : (r : Result ℕ EncodeFault) (f : ℕ → ℕ) → size_of (branch (with_field r (λ t. code.Half (f t)))) ≤ 2
halves (Ok t) f = omega arith
halves (Err e) f = omega arith

cond_halves : (b : Bool) (r : Result ℕ EncodeFault) (f : ℕ → ℕ) → size_of (branch (refused_if b RegisterRange (with_field r (λ t. code.Half (f t))))) ≤ 2
cond_halves true r f = omega arith
cond_halves false r f = halves r f

pub filling_fits : (kind : FieldKind) (m : Meaning) (a : ℤ) (p : ℕ) (there : List ℕ) → size_of (filling kind m a p there) ≤ width kind
filling_fits Absolute m a p there = omega arith
filling_fits Relative m a p there = omega arith
filling_fits Prel31 m a p there = omega arith
filling_fits Call m a p there = size_le_4 (filling Call m a p there)
filling_fits Jump m a p there = halves (target_field (2 ^ 11) (distance m a p)) (λ t. 0xe000 + t)
filling_fits CondJump m a p there =
    cond_halves (nat_lt 13 (little_number 2 there / 2 ^ 8 % 2 ^ 4)) (target_field (2 ^ 8) (distance m a p)) (λ t. 0xd000 + little_number 2 there / 2 ^ 8 % 2 ^ 4 * 2 ^ 8 + t)

within : (b : Bool) (n : ℕ) (c : Change) → size_of c ≤ n → size_of (cond b c Keep) ≤ n
within true n c h = h
within false n c h = omega arith

tested : (kind : FieldKind) (m : Meaning) (a : ℤ) (p : ℕ) (there : List ℕ) (b : Bool) → b ≡ nat_le (width kind) (length there)
    → size_of (cond b (filling kind m a p there) Keep) ≤ length there
tested kind m a p there true e = let h : width kind ≤ length there = grind (arith, nat_tests) in omega (arith, filling_fits kind m a p there, h)
tested kind m a p there false e = omega arith

pub change_fits : (kind : Option FieldKind) (meaning : Option Meaning) (a : ℤ) (p : ℕ) (there : List ℕ) → size_of (change_by kind meaning a p there) ≤ length there
change_fits (Some kind) (Some m) a p there = tested kind m a p there (nat_le (width kind) (length there)) refl
change_fits (Some kind) None a p there = omega arith
change_fits None (Some m) a p there = omega arith
change_fits None None a p there = omega arith

pub lower_none : (a : Option ℕ) → lower a None ≡ a
lower_none None = refl
lower_none (Some a) = refl

pub lower_assoc : (a b c : Option ℕ) → lower (lower a b) c ≡ lower a (lower b c)
lower_assoc None b c = refl
lower_assoc (Some a) None c = refl
lower_assoc (Some a) (Some b) None = lower_none (lower (Some a) (Some b))
lower_assoc (Some a) (Some b) (Some c) = let e : min (min a b) c ≡ min a (min b c) = omega arith in ap Some e

pub filled_more : (means : List ℕ → Option Meaning) (section : Section) (start : ℕ) (bytes : List ℕ) (xs : List Reloc) (i : ℕ) (d : Reloc) → i < length xs
    → fill_fields means section start bytes (drop i xs)
    ≡ fill_fields means section start (apply_change (change_of means section start bytes (get_or xs i d)) (get_or xs i d).offset bytes) (drop (i + 1) xs)
filled_more means section start bytes xs i d h = at_drop_more (fill_fields means section start bytes) xs i d h

pub unreachable_more : (means : List ℕ → Option Meaning) (section : Section) (start : ℕ) (bytes : List ℕ) (xs : List Reloc) (i : ℕ) (d : Reloc) → i < length xs
    → unreachable_in means section start bytes (drop i xs)
    ≡ lower (unreachable_at (change_of means section start bytes (get_or xs i d)) (address_at start (get_or xs i d).offset))
    (unreachable_in means section start (apply_change (change_of means section start bytes (get_or xs i d)) (get_or xs i d).offset bytes) (drop (i + 1) xs))
unreachable_more means section start bytes xs i d h = at_drop_more (unreachable_in means section start bytes) xs i d h

pub ruleset fills = (filled_more, unreachable_more, lower_none, lower_assoc)
