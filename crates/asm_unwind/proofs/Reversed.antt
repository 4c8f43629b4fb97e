-- The codes and the bytes of directives in reverse order.
use Rattle.std.proofs.Common.{◌≡◌, ℕ, ◌+◌, ◌-◌, ◌<◌, Bool, true, false, cond, List, [], ◌∷◌, ◌++◌, length, get_or, take, drop, ap, sym, ◌∙◌, refl, append_assoc, append-nil, arith}
use Rattle.std.specs.Prelude.{not, take_while, flat_map, reverse}
use Rattle.std.proofs.lemmas.List.{reverse-append}
use Rattle.std.proofs.lemmas.Grind.{flat_map-append}
use Rattle.std.proofs.lemmas.List.{take_more}
use Rattle.std.proofs.Math.Seq.{take-length}
use Rattle.std.proofs.lemmas.List.Elements.{filter-append}
use Rattle.std.proofs.lemmas.List.Sums.{take_while-cons}
use Rattle.asm_unwind.specs.declared.directive.UnwindDirective.{UnwindDirective}
use Rattle.asm_unwind.specs.Refusals.{is_frame_pointer}
use Rattle.asm_unwind.specs.Codes.{is_no_pad, with_pads_if, before_frame_pointer, from_frame_pointer, directive_codes, reversed_codes, reversed_bytes, codes_of, bytecode_of}

-- the codes of a directive stand after those of the ones that follow it in the text
pub reversed_codes-cons : (d : UnwindDirective) (xs : List UnwindDirective) → reversed_codes (d ∷ xs) ≡ reversed_codes xs ++ directive_codes d
reversed_codes-cons d xs =
    let turned : reverse (d ∷ xs) ≡ reverse xs ++ d ∷ [] = reverse-append (d ∷ []) xs in
    ap (flat_map directive_codes) turned ∙ flat_map-append directive_codes (reverse xs) (d ∷ []) ∙ ap (λ l. reversed_codes xs ++ l) (append-nil (directive_codes d))

-- the bytes of two lists, one after the other
pub reversed_bytes-append : (xs ys : List UnwindDirective) → reversed_bytes (xs ++ ys) ≡ reversed_bytes ys ++ reversed_bytes xs
unfolding reversed_bytes
reversed_bytes-append xs ys = simp (reverse-append, flat_map-append)

kept-append : (pads : Bool) (xs ys : List UnwindDirective) → with_pads_if pads (xs ++ ys) ≡ with_pads_if pads xs ++ with_pads_if pads ys
kept-append true xs ys = refl
kept-append false xs ys = filter-append is_no_pad xs ys

-- the bytes of a list are those of its last directive, and then those of the others
pub last_first : (pads : Bool) (done pushed bytes : List ℕ) (rest : List UnwindDirective) (d : UnwindDirective) →
    0 < length rest →
    pushed ≡ done ++ reversed_bytes (with_pads_if pads (get_or rest (length rest - 1) d ∷ [])) →
    done ++ reversed_bytes (with_pads_if pads rest) ≡ bytes →
    pushed ++ reversed_bytes (with_pads_if pads (take (length rest - 1) rest)) ≡ bytes
last_first pads done pushed bytes rest d some p was =
    let front : List UnwindDirective = take (length rest - 1) rest in
    let last : UnwindDirective = get_or rest (length rest - 1) d in
    let back : (length rest - 1) + 1 ≡ length rest = omega arith in
    let whole : rest ≡ front ++ last ∷ [] =
    sym (take-length rest) ∙ ap (λ n. take n rest) (sym back) ∙ take_more rest (length rest - 1) d (omega arith) in
    let parts : reversed_bytes (with_pads_if pads rest) ≡ reversed_bytes (with_pads_if pads (last ∷ [])) ++ reversed_bytes (with_pads_if pads front) =
    ap (λ l. reversed_bytes (with_pads_if pads l)) whole ∙ ap reversed_bytes (kept-append pads front (last ∷ [])) ∙ reversed_bytes-append (with_pads_if pads front) (with_pads_if pads (last ∷ [])) in
    ap (λ l. l ++ reversed_bytes (with_pads_if pads front)) p
    ∙ append_assoc done (reversed_bytes (with_pads_if pads (last ∷ []))) (reversed_bytes (with_pads_if pads front))
    ∙ ap (λ l. done ++ l) (sym parts) ∙ was

-- no directive is left
pub none_left : (pads : Bool) (done bytes : List ℕ) (rest : List UnwindDirective) → length rest < 1 →
    done ++ reversed_bytes (with_pads_if pads rest) ≡ bytes → done ≡ bytes
unfolding reversed_bytes
none_left true done bytes [] h was = sym (append-nil done) ∙ was
none_left false done bytes [] h was = sym (append-nil done) ∙ was
none_left pads done bytes (d ∷ rest) h was = absurd (omega arith)

-- what is left out of one directive, and what isn't
pub bytes_of_one : (pads : Bool) (d : UnwindDirective) → is_no_pad d ≡ false → pads ≡ false → with_pads_if pads (d ∷ []) ≡ []
bytes_of_one pads d is none = rw (none, is) refl

pub take_while_front : (p : UnwindDirective → Bool) (xs : List UnwindDirective) → take (length (take_while p xs)) xs ≡ take_while p xs
take_while_front p [] = refl
take_while_front p (x ∷ xs) = rw take_while-cons (elim (p x) as (λ b. take (length (cond b (x ∷ take_while p xs) [])) (x ∷ xs) ≡ cond b (x ∷ take_while p xs) []) [
  | true ↦ ap (λ (l : List UnwindDirective). x ∷ l) (take_while_front p xs)
  | false ↦ refl
])

-- the bytecode is that of the directives from the first frame pointer on, without pads, and then that of those before
pub split_at_frame_pointer : (xs front after : List UnwindDirective) →
    front ≡ take (length (take_while (λ d. not (is_frame_pointer d)) xs)) xs →
    after ≡ drop (length (take_while (λ d. not (is_frame_pointer d)) xs)) xs →
    bytecode_of xs ≡ reversed_bytes (with_pads_if false after) ++ reversed_bytes (with_pads_if true front)
unfolding bytecode_of codes_of reversed_bytes
split_at_frame_pointer xs front after f b =
    rw (f, b, take_while_front) (reversed_bytes-append (before_frame_pointer xs) (with_pads_if false (from_frame_pointer xs)))
