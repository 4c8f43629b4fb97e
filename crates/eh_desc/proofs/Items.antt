-- One descriptor more.
use Rattle.std.proofs.Common.{◌≡◌, ℕ, zero, suc, ◌+◌, ◌-◌, ◌*◌, ◌≤◌, ◌<◌, Bool, true, false, cond, List, [], ◌∷◌, length, Option, Some, None, refl, arith, ◌∙◌, ap, sym, subst, ◌%◌, ◌/◌, ◌^◌, ◌==◌}
use Rattle.std.specs.Prelude.{Result, Ok, Err, nat_le, nat_lt, not}
use Rattle.std.proofs.lemmas.Bool.Decides.{nat_tests}
use Rattle.eh_word.specs.Words.{number_at}
use Rattle.eh_codes.specs.Words.{personality_of_word, code_words_after}
use Rattle.eh_codes.specs.declared.words.TheConstants.{LANDING_PAD_MARK, WIDE_PERSONALITY}
use Rattle.eh_bytecode.specs.declared.codes.CodesFault.{CodesFault}
use Rattle.eh_bytecode.specs.Codes.{table_codes}
use Rattle.eh_desc.specs.declared.descriptor.Desc.{Desc}
use Rattle.eh_desc.specs.declared.descriptor.DescFault.{DescFault}
use Rattle.eh_desc.specs.declared.descriptor.DescFault.TheVariants.{Short, Kind, Count}
use Rattle.eh_desc.specs.declared.descriptor.DescKind.TheVariants.{Spec}
use Rattle.eh_desc.specs.declared.descriptor.NextDesc.{NextDesc}
use Rattle.eh_desc.specs.declared.descriptor.NextDesc.TheVariants.{End, One, Fault}
use Rattle.eh_desc.specs.declared.descriptor.TheConstants.{MOST_TYPES}
use Rattle.eh_desc.specs.Grammar.{Form, word_at, address_at, with_word, cleanup_at, catch_at, has_types, spec_with_pad, types_at, specification_at, kind_at, next_desc_at, descriptor_of, with_further_items, items_in, items_from, if_codes, items_after}
use Rattle.eh_desc.specs.Laws.{Follow, DescriptorsFollow}
use Rattle.eh_desc.proofs.Room.{room}

-- a descriptor that stands at a place names its address and that of the place after it, which is further on
abbrev pub IsNext : Form → ℕ → NextDesc → Type 0
IsNext t place End = Unit {0}
IsNext t place (Fault fault) = Unit {0}
IsNext t place (One desc next) = (place + 4 ≤ next) × (desc.at ≡ address_at t place) × (desc.next ≡ address_at t next)

with_next : (t : Form) (place : ℕ) (o : Option ℕ) (f : ℕ → NextDesc) → ((w : ℕ) → IsNext t place (f w)) → IsNext t place (with_word o f)
with_next t place None f each = tt
with_next t place (Some w) f each = each w

either : (t : Form) (place : ℕ) (b : Bool) (x y : NextDesc) → IsNext t place x → IsNext t place y → IsNext t place (cond b x y)
either t place true x y h k = h
either t place false x y h k = k

cleanup_next : (t : Form) (place len off at : ℕ) → place ≤ at → IsNext t place (cleanup_at t place len off at)
cleanup_next t place len off at h = with_next t place (word_at t at) _ (λ w. (omega arith, refl, refl))

catch_next : (t : Form) (place len off at : ℕ) → place ≤ at → IsNext t place (catch_at t place len off at)
catch_next t place len off at h = with_next t place (word_at t at) _ (λ w. with_next t place (word_at t (at + 4)) _ (λ v. (omega arith, refl, refl)))

types_next : (t : Form) (place len off types count : ℕ) (padded : Bool) → place + 4 ≤ types → IsNext t place (types_at t place len off types count padded)
types_next t place len off types count padded h =
    either t place (not (has_types t types count)) (Fault Short) _ tt
    (either t place padded (spec_with_pad t place len off types count) (descriptor_of t place len off (Spec (address_at t types) count None) (types + 4 * count))
    (with_next t place (word_at t (types + 4 * count)) _ (λ w. (omega arith, refl, refl))) (omega arith, refl, refl))

specification_next : (t : Form) (place len off at : ℕ) → place ≤ at → IsNext t place (specification_at t place len off at)
specification_next t place len off at h = with_next t place (word_at t at) _ (λ w.
    either t place (nat_lt MOST_TYPES (w % LANDING_PAD_MARK)) (Fault Count) (types_at t place len off (at + 4) (w % LANDING_PAD_MARK) (nat_le LANDING_PAD_MARK w)) tt
    (types_next t place len off (at + 4) (w % LANDING_PAD_MARK) (nat_le LANDING_PAD_MARK w) (omega arith)))

kind_next : (t : Form) (place len off at : ℕ) → place ≤ at → IsNext t place (kind_at t place len off at)
kind_next t place len off at h =
    either t place (off % 2 == 0) _ _ (either t place (len % 2 == 0) (cleanup_at t place len off at) (catch_at t place len off at) (cleanup_next t place len off at h) (catch_next t place len off at h))
    (either t place (len % 2 == 0) (specification_at t place len off at) (Fault Kind) (specification_next t place len off at h) tt)

found_next : (t : Form) (place : ℕ) → IsNext t place (next_desc_at t place)
found_next t place = with_next t place (word_at t place) _ (λ first.
    either t place (first == 0) End (cond t.wide (with_word (word_at t (place + 4)) (λ off. kind_at t place first off (place + 8))) (kind_at t place (first % 2 ^ 16) (first / 2 ^ 16) (place + 4))) tt
    (either t place t.wide (with_word (word_at t (place + 4)) (λ off. kind_at t place first off (place + 8))) (kind_at t place (first % 2 ^ 16) (first / 2 ^ 16) (place + 4))
    (with_next t place (word_at t (place + 4)) _ (λ off. kind_next t place first off (place + 8) (omega arith))) (kind_next t place (first % 2 ^ 16) (first / 2 ^ 16) (place + 4) (omega arith))))

pub one_next : (t : Form) (place : ℕ) (f : NextDesc) → next_desc_at t place ≡ f → IsNext t place f
one_next t place f e = subst (IsNext t place) e (found_next t place)

-- what stands at a place past the bytes can't be read
word_cases : (t : Form) (place : ℕ) (o : Option ℕ) → word_at t place ≡ o → ((word : ℕ) → o ≡ Some word → place + 4 ≤ length t.bytes) × (o ≡ None → next_desc_at t place ≡ Fault Short)
word_cases t place None e = (λ word h. absurd cc, λ h. rw e refl)
word_cases t place (Some w) e = (λ word h. room t.bytes place w e, λ h. absurd cc)

past : (t : Form) (place : ℕ) → length t.bytes ≤ place → next_desc_at t place ≡ Fault Short
past t place h = past_cases (word_at t place) refl
  where
    past_cases : (o : Option ℕ) → word_at t place ≡ o → next_desc_at t place ≡ Fault Short
    past_cases None e = (word_cases t place None e).1 refl
    past_cases (Some w) e = let inside = room t.bytes place w e in absurd (omega arith)

inside_one : (t : Form) (place : ℕ) (desc : Desc) (next : ℕ) → next_desc_at t place ≡ One desc next → place < length t.bytes
inside_one t place desc next e = inside_cases (nat_le (length t.bytes) place) refl
  where
    inside_cases : (out : Bool) → nat_le (length t.bytes) place ≡ out → place < length t.bytes
    inside_cases true s =
        let far : length t.bytes ≤ place = grind (arith, nat_tests) in
        let short : ◌≡◌ {A = NextDesc} (Fault Short) (One desc next) = sym (past t place far) ∙ e in absurd cc
    inside_cases false s = grind (arith, nat_tests)

-- more room than there are bytes gives no more descriptors
same_items : (n m : ℕ) (t : Form) (place : ℕ) → length t.bytes - place ≤ n → length t.bytes - place ≤ m → items_in n t place ≡ items_in m t place
same_items zero zero t place h k = refl
same_items zero (suc m) t place h k = sym (ap (with_further_items (λ next. items_in m t next)) (past t place (omega arith)))
same_items (suc n) zero t place h k = ap (with_further_items (λ next. items_in n t next)) (past t place (omega arith))
same_items (suc n) (suc m) t place h k = go (next_desc_at t place) refl (λ next a b. same_items n m t next a b)
  where
    go : (f : NextDesc) → next_desc_at t place ≡ f → ((next : ℕ) → length t.bytes - next ≤ n → length t.bytes - next ≤ m → items_in n t next ≡ items_in m t next) →
        with_further_items (λ next. items_in n t next) f ≡ with_further_items (λ next. items_in m t next) f
    go End e same = refl
    go (Fault fault) e same = refl
    go (One desc next) e same =
        let further = one_next t place (One desc next) e in
        let inside = inside_one t place desc next e in
        ap (λ l. Ok desc ∷ l) (same next (omega (arith, further.0, inside)) (omega (arith, further.0, inside)))

items_more : (t : Form) (place : ℕ) → items_from t place ≡ with_further_items (λ next. items_in (length t.bytes - place) t next) (next_desc_at t place)
unfolding items_from
items_more t place = same_items (length t.bytes - place) (suc (length t.bytes - place)) t place (omega arith) (omega arith)

pub over : (t : Form) (place : ℕ) → End ≡ next_desc_at t place → items_from t place ≡ []
over t place e = items_more t place ∙ ap (with_further_items (λ next. items_in (length t.bytes - place) t next)) (sym e)

pub fault : (t : Form) (place : ℕ) (why : DescFault) → Fault why ≡ next_desc_at t place → items_from t place ≡ Err why ∷ []
fault t place why e = items_more t place ∙ ap (with_further_items (λ next. items_in (length t.bytes - place) t next)) (sym e)

pub one : (t : Form) (place : ℕ) (desc : Desc) (next : ℕ) → One desc next ≡ next_desc_at t place → items_from t place ≡ Ok desc ∷ items_from t next
unfolding items_from
one t place desc next e =
    let further = one_next t place (One desc next) (sym e) in
    items_more t place ∙ ap (with_further_items (λ next. items_in (length t.bytes - place) t next)) (sym e)
    ∙ ap (λ l. Ok desc ∷ l) (same_items (length t.bytes - place) (length t.bytes - next) t next (omega (arith, further.0)) (omega arith))

-- ---- the law

follow_in : (n : ℕ) (t : Form) (place : ℕ) → Follow (address_at t place) (items_in n t place)
follow_in zero t place = refl
follow_in (suc n) t place = go (next_desc_at t place) refl (λ next. follow_in n t next)
  where
    go : (f : NextDesc) → next_desc_at t place ≡ f → ((next : ℕ) → Follow (address_at t next) (items_in n t next)) → Follow (address_at t place) (with_further_items (λ next. items_in n t next) f)
    go End e each = tt
    go (Fault fault) e each = refl
    go (One desc next) e each =
        let further = one_next t place (One desc next) e in
        (further.1, subst (λ a. Follow a (items_in n t next)) (sym further.2) (each next))

follow_from : (t : Form) (place : ℕ) → Follow (address_at t place) (items_from t place)
unfolding items_from
follow_from t place = follow_in (length t.bytes - place) t place

where_follow : (r : Result (List ℕ) CodesFault) (address : ℕ) (items : List (Result Desc DescFault)) → Follow address items → Follow address (if_codes r items)
where_follow (Ok codes) address items h = h
where_follow (Err fault) address items h = tt

pub law_of_descriptors : DescriptorsFollow
law_of_descriptors start address bytes first is =
    where_follow (table_codes bytes) _ (items_after start address bytes (number_at 4 bytes 0))
    (subst (λ (o : Option ℕ). Follow ((address + (4 + 4 * code_words_after first)) % 2 ^ 32) (items_after start address bytes o)) (sym is)
    (follow_from (record { bytes = bytes; address = address; start = start; wide = personality_of_word first == WIDE_PERSONALITY }) (4 + 4 * code_words_after first)))

-- ---- what is left, as the iterator keeps it

pub left_one : (gone : Bool) (t : Form) (place : ℕ) (all : List (Result Desc DescFault)) (desc : Desc) (next : ℕ) → gone ≡ false → cond gone [] (items_from t place) ≡ all →
    One desc next ≡ next_desc_at t place → all ≡ Ok desc ∷ cond gone [] (items_from t next)
left_one true t place all desc next e is here = cc
left_one false t place all desc next e is here = sym is ∙ one t place desc next here

pub left_fault : (gone : Bool) (t : Form) (place : ℕ) (all : List (Result Desc DescFault)) (why : DescFault) → gone ≡ false → cond gone [] (items_from t place) ≡ all →
    Fault why ≡ next_desc_at t place → all ≡ Err why ∷ []
left_fault true t place all why e is here = cc
left_fault false t place all why e is here = sym is ∙ fault t place why here
