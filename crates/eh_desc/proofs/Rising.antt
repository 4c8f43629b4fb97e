-- A descriptor ends among the bytes of its table, so that addresses rise.
use Rattle.std.proofs.Common.{◌≡◌, ℕ, zero, suc, ◌+◌, ◌-◌, ◌*◌, ◌≤◌, ◌<◌, Bool, true, false, cond, List, length, Option, Some, None, refl, arith, sym, subst, ◌%◌, ◌/◌, ◌^◌, ◌==◌}
use Rattle.std.specs.Prelude.{Result, Ok, Err, nat_le, nat_lt, not}
use Rattle.std.proofs.lemmas.Bool.Decides.{nat_tests}
use Rattle.eh_word.specs.Words.{number_at}
use Rattle.eh_codes.specs.declared.words.TheConstants.{LANDING_PAD_MARK}
use Rattle.eh_bytecode.specs.declared.codes.CodesFault.{CodesFault}
use Rattle.eh_bytecode.specs.Codes.{table_codes}
use Rattle.eh_desc.specs.declared.descriptor.Desc.{Desc}
use Rattle.eh_desc.specs.declared.descriptor.DescFault.{DescFault}
use Rattle.eh_desc.specs.declared.descriptor.DescFault.TheVariants.{Short, Kind, Count}
use Rattle.eh_desc.specs.declared.descriptor.DescKind.TheVariants.{Spec}
use Rattle.eh_desc.specs.declared.descriptor.NextDesc.{NextDesc}
use Rattle.eh_desc.specs.declared.descriptor.NextDesc.TheVariants.{End, One, Fault}
use Rattle.eh_desc.specs.declared.descriptor.TheConstants.{MOST_TYPES}
use Rattle.eh_desc.specs.Grammar.{Form, word_at, address_at, with_word, cleanup_at, catch_at, has_types, spec_with_pad, types_at, specification_at, kind_at, next_desc_at, descriptor_of, with_further_items, items_in, items_from, if_codes, items_after}
use Rattle.eh_desc.specs.Laws.{Rise, DescriptorsRise}
use Rattle.eh_desc.proofs.Room.{room}
use Rattle.eh_desc.proofs.Items.{one_next}

-- what stands at a place ends among the bytes
abbrev IsInside : Form → NextDesc → Type 0
IsInside t End = Unit {0}
IsInside t (Fault fault) = Unit {0}
IsInside t (One desc next) = next ≤ length t.bytes

-- a word that is there ends among the bytes
with_inside : (t : Form) (at : ℕ) (o : Option ℕ) (f : ℕ → NextDesc) → word_at t at ≡ o → ((w : ℕ) → at + 4 ≤ length t.bytes → IsInside t (f w)) → IsInside t (with_word o f)
with_inside t at None f e each = tt
with_inside t at (Some w) f e each = each w (room t.bytes at w e)

either : (t : Form) (b : Bool) (x y : NextDesc) → IsInside t x → IsInside t y → IsInside t (cond b x y)
either t true x y h k = h
either t false x y h k = k

cleanup_inside : (t : Form) (place len off at : ℕ) → IsInside t (cleanup_at t place len off at)
cleanup_inside t place len off at = with_inside t at _ _ refl (λ w h. h)

catch_inside : (t : Form) (place len off at : ℕ) → IsInside t (catch_at t place len off at)
catch_inside t place len off at = with_inside t at _ _ refl (λ w h. with_inside t (at + 4) _ _ refl (λ v k. omega (arith, k)))

padded_inside : (t : Form) (place len off types count : ℕ) → IsInside t (spec_with_pad t place len off types count)
padded_inside t place len off types count = with_inside t (types + 4 * count) _ _ refl (λ w h. h)

types_inside : (t : Form) (place len off types count : ℕ) (padded there : Bool) → has_types t types count ≡ there
    → IsInside t (cond (not there) (Fault Short) (cond padded (spec_with_pad t place len off types count) (descriptor_of t place len off (Spec (address_at t types) count None) (types + 4 * count))))
types_inside t place len off types count padded false e = tt
types_inside t place len off types count padded true e =
    either t padded (spec_with_pad t place len off types count) (descriptor_of t place len off (Spec (address_at t types) count None) (types + 4 * count))
    (padded_inside t place len off types count) (grind (arith, nat_tests))

specification_inside : (t : Form) (place len off at : ℕ) → IsInside t (specification_at t place len off at)
specification_inside t place len off at = with_inside t at _ _ refl (λ w h.
    either t (nat_lt MOST_TYPES (w % LANDING_PAD_MARK)) (Fault Count) (types_at t place len off (at + 4) (w % LANDING_PAD_MARK) (nat_le LANDING_PAD_MARK w)) tt
    (types_inside t place len off (at + 4) (w % LANDING_PAD_MARK) (nat_le LANDING_PAD_MARK w) _ refl))

kind_inside : (t : Form) (place len off at : ℕ) → IsInside t (kind_at t place len off at)
kind_inside t place len off at =
    either t (off % 2 == 0) _ _ (either t (len % 2 == 0) (cleanup_at t place len off at) (catch_at t place len off at) (cleanup_inside t place len off at) (catch_inside t place len off at))
    (either t (len % 2 == 0) (specification_at t place len off at) (Fault Kind) (specification_inside t place len off at) tt)

found_inside : (t : Form) (place : ℕ) → IsInside t (next_desc_at t place)
found_inside t place = with_inside t place _ _ refl (λ first h.
    either t (first == 0) End (cond t.wide (with_word (word_at t (place + 4)) (λ off. kind_at t place first off (place + 8))) (kind_at t place (first % 2 ^ 16) (first / 2 ^ 16) (place + 4))) tt
    (either t t.wide (with_word (word_at t (place + 4)) (λ off. kind_at t place first off (place + 8))) (kind_at t place (first % 2 ^ 16) (first / 2 ^ 16) (place + 4))
    (with_inside t (place + 4) _ _ refl (λ off k. kind_inside t place first off (place + 8))) (kind_inside t place (first % 2 ^ 16) (first / 2 ^ 16) (place + 4))))

one_inside : (t : Form) (place : ℕ) (f : NextDesc) → next_desc_at t place ≡ f → IsInside t f
one_inside t place f e = subst (IsInside t) e (found_inside t place)

-- addresses that don't wrap keep their order
kept : (address place next most : ℕ) → address + most < 2 ^ 32 → place + 4 ≤ next → next ≤ most → (address + place) % 2 ^ 32 < (address + next) % 2 ^ 32
kept address place next most low further inside = omega arith

rise_in : (n : ℕ) (t : Form) (place : ℕ) → t.address + length t.bytes < 2 ^ 32 → Rise (items_in n t place)
rise_in zero t place low = tt
rise_in (suc n) t place low = go (next_desc_at t place) refl (λ next. rise_in n t next low)
  where
    go : (f : NextDesc) → next_desc_at t place ≡ f → ((next : ℕ) → Rise (items_in n t next)) → Rise (with_further_items (λ next. items_in n t next) f)
    go End e each = tt
    go (Fault fault) e each = tt
    go (One desc next) e each =
        let further = one_next t place (One desc next) e in
        let inside : next ≤ length t.bytes = one_inside t place (One desc next) e in
        let order = kept t.address place next (length t.bytes) low further.0 inside in
        (subst (λ a. a < desc.next) (sym further.1) (subst (λ b. address_at t place < b) (sym further.2) order), each next)

rise_from : (t : Form) (place : ℕ) → t.address + length t.bytes < 2 ^ 32 → Rise (items_from t place)
unfolding items_from
rise_from t place low = rise_in (length t.bytes - place) t place low

where_rise : (r : Result (List ℕ) CodesFault) (items : List (Result Desc DescFault)) → Rise items → Rise (if_codes r items)
where_rise (Ok codes) items h = h
where_rise (Err fault) items h = tt

after_rise : (start address : ℕ) (bytes : List ℕ) (o : Option ℕ) → address + length bytes < 2 ^ 32 → Rise (items_after start address bytes o)
after_rise start address bytes None low = tt
after_rise start address bytes (Some first) low = rise_from _ _ low

pub law_of_rising : DescriptorsRise
law_of_rising start address bytes low = where_rise (table_codes bytes) _ (after_rise start address bytes (number_at 4 bytes 0) low)
