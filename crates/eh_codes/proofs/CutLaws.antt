-- The bytes of codes are cut into these codes.
use Rattle.std.proofs.Common.{◌≡◌, ◌≢◌, ℕ, zero, suc, replicate, ◌+◌, ◌-◌, ◌*◌, ◌/◌, ◌%◌, ◌^◌, ◌<◌, ◌==◌, Bool, true, false, List, [], ◌∷◌, ◌++◌, map, length, Option, Some, refl, arith, ◌∙◌, ap, sym, append_assoc, length-append}
use Rattle.std.specs.Prelude.{flat_map}
use Rattle.std.specs.Option.{option_map_or}
use Rattle.std.specs.Result.{result_ok}
use Rattle.std.proofs.lemmas.Bool.{eqb-true, eqb-false}
use Rattle.std.proofs.lemmas.Grind.{common_steps}
use Rattle.std.proofs.lemmas.List.Elements.{All-head, All-tail}
use Rattle.eh_codes.specs.declared.code.UnwindCode.{UnwindCode}
use Rattle.eh_codes.specs.declared.code.UnwindCode.TheVariants.{Raise, Lower, Refuse, PopMask, Restore, PopRange, PopRangeAndLr, Finish, PopLow, RaiseLong}
use Rattle.eh_codes.specs.declared.code.TheConstants.{FINISH}
use Rattle.eh_codes.specs.Bytes.{code_bytes, shortest_uleb128, IsCode, HasBytes}
use Rattle.eh_codes.specs.Table.{code_front}
use Rattle.eh_codes.specs.Cut.{Is, Bad, split_codes_after, split_codes_from}
use Rattle.eh_codes.specs.Laws.{CodesAreCut, NumbersRead}
use Rattle.eh_codes.proofs.CutSteps.{cut_nothing}
use Rattle.eh_codes.proofs.Table as table

pub law_of_numbers : NumbersRead
law_of_numbers n more small = grind (arith, common_steps)

-- the bytes that belong to a code are passed over
pub passed : (own : List ℕ) (place : ℕ) (after : List ℕ) → split_codes_after (length own) place (own ++ after) ≡ split_codes_from (place + length own) after
unfolding split_codes_from
passed [] place after = ap (λ p. split_codes_after 0 p after) (let e : place ≡ place + 0 = omega arith in e)
passed (byte ∷ own) place after = passed own (place + 1) after ∙ ap (λ p. split_codes_from p after) (let e : place + 1 + length own ≡ place + suc (length own) = omega arith in e)

one_cut : (code : UnwindCode) (first : ℕ) (own : List ℕ) (place : ℕ) (after : List ℕ) → code_front first (own ++ after) ≡ Some (code, suc (length own)) →
    split_codes_from place ((first ∷ own) ++ after) ≡ Is code ∷ split_codes_from (place + suc (length own)) after
unfolding split_codes_from
one_cut code first own place after is =
    ap (λ found. option_map_or (λ (found : UnwindCode × ℕ). Is found.0 ∷ split_codes_after (found.1 - 1) (place + 1) (own ++ after)) found (Bad place ∷ [])) is
    ∙ ap (λ (n : ℕ). Is code ∷ split_codes_after n (place + 1) (own ++ after)) (let e : suc (length own) - 1 ≡ length own = omega arith in e)
    ∙ ap (λ l. Is code ∷ l) (passed own (place + 1) after ∙ ap (λ p. split_codes_from p after) (let e : place + 1 + length own ≡ place + suc (length own) = omega arith in e))

found : (code same : UnwindCode) (n m : ℕ) → same ≡ code → n ≡ m → ◌≡◌ {A = Option (UnwindCode × ℕ)} (Some (same, n)) (Some (code, m))
found code same n m e f = λ i. Some (e i, f i)

raise_cut : (words place : ℕ) (after : List ℕ) → IsCode (Raise words) → split_codes_from place (code_bytes (Raise words) ++ after) ≡ Is (Raise words) ∷ split_codes_from (place + 1) after
raise_cut words place after h =
    one_cut (Raise words) (0 + words) [] place after
    (table.raise (0 + words) after (omega arith) ∙ found (Raise words) (Raise ((0 + words) % 2 ^ 6)) 1 1 (ap Raise (let e : (0 + words) % 2 ^ 6 ≡ words = omega arith in e)) refl)

lower_cut : (words place : ℕ) (after : List ℕ) → IsCode (Lower words) → split_codes_from place (code_bytes (Lower words) ++ after) ≡ Is (Lower words) ∷ split_codes_from (place + 1) after
lower_cut words place after h =
    one_cut (Lower words) (0x40 + words) [] place after
    (table.lower (0x40 + words) after (omega arith) (omega arith) ∙ found (Lower words) (Lower ((0x40 + words) % 2 ^ 6)) 1 1 (ap Lower (let e : (0x40 + words) % 2 ^ 6 ≡ words = omega arith in e)) refl)

restore_cut : (register place : ℕ) (after : List ℕ) → IsCode (Restore register) → split_codes_from place (code_bytes (Restore register) ++ after) ≡ Is (Restore register) ∷ split_codes_from (place + 1) after
restore_cut register place after h =
    let small : register < 16 = h.0 in
    let same : (0x90 + register) % 2 ^ 4 ≡ register = omega arith in
    one_cut (Restore register) (0x90 + register) [] place after
    (table.restore (0x90 + register) after (omega arith) (omega arith) (λ e. h.1 (sym same ∙ e)) (λ e. h.2 (sym same ∙ e))
    ∙ found (Restore register) (Restore ((0x90 + register) % 2 ^ 4)) 1 1 (ap Restore same) refl)

range_cut : (last place : ℕ) (after : List ℕ) → IsCode (PopRange last) → split_codes_from place (code_bytes (PopRange last) ++ after) ≡ Is (PopRange last) ∷ split_codes_from (place + 1) after
range_cut last place after h =
    one_cut (PopRange last) (0xA0 + last) [] place after
    (table.range (0xA0 + last) after (omega arith) (omega arith) ∙ found (PopRange last) (PopRange ((0xA0 + last) % 2 ^ 3)) 1 1 (ap PopRange (let e : (0xA0 + last) % 2 ^ 3 ≡ last = omega arith in e)) refl)

range_and_lr_cut : (last place : ℕ) (after : List ℕ) → IsCode (PopRangeAndLr last) → split_codes_from place (code_bytes (PopRangeAndLr last) ++ after) ≡ Is (PopRangeAndLr last) ∷ split_codes_from (place + 1) after
range_and_lr_cut last place after h =
    one_cut (PopRangeAndLr last) (0xA8 + last) [] place after
    (table.range_and_lr (0xA8 + last) after (omega arith) (omega arith) ∙ found (PopRangeAndLr last) (PopRangeAndLr ((0xA8 + last) % 2 ^ 3)) 1 1 (ap PopRangeAndLr (let e : (0xA8 + last) % 2 ^ 3 ≡ last = omega arith in e)) refl)

mask_cut : (mask place : ℕ) (after : List ℕ) → IsCode (PopMask mask) → split_codes_from place (code_bytes (PopMask mask) ++ after) ≡ Is (PopMask mask) ∷ split_codes_from (place + 2) after
mask_cut mask place after h = mask_cases (mask / 256 == 0) refl
  where
    read : (code_front (0x80 + mask / 256) (mask % 256 ∷ after) ≡ Some (PopMask ((0x80 + mask / 256) % 2 ^ 4 * 2 ^ 8 + mask % 256), 2)) → split_codes_from place (code_bytes (PopMask mask) ++ after) ≡ Is (PopMask mask) ∷ split_codes_from (place + 2) after
    read is =
        let small : mask < 2 ^ 12 = h.0 in
        one_cut (PopMask mask) (0x80 + mask / 256) (mask % 256 ∷ []) place after
        (is ∙ found (PopMask mask) (PopMask ((0x80 + mask / 256) % 2 ^ 4 * 2 ^ 8 + mask % 256)) 2 2 (ap PopMask (let e : (0x80 + mask / 256) % 2 ^ 4 * 2 ^ 8 + mask % 256 ≡ mask = omega arith in e)) refl)

    mask_cases : (low : Bool) → (mask / 256 == 0) ≡ low → split_codes_from place (code_bytes (PopMask mask) ++ after) ≡ Is (PopMask mask) ∷ split_codes_from (place + 2) after
    mask_cases true s =
        let zeros : mask / 256 ≡ 0 = eqb-true (mask / 256) 0 s in
        let some : mask ≢ 0 = h.1 in
        read (table.mask_low (0x80 + mask / 256) (mask % 256) after (omega arith) (omega arith) (omega arith))
    mask_cases false s =
        let some : mask / 256 ≢ 0 = eqb-false (mask / 256) 0 s in
        let small : mask < 2 ^ 12 = h.0 in
        let clear : mask / 2 ^ 9 % 2 ≡ 0 = h.2 in
        read (table.mask_high (0x80 + mask / 256) (mask % 256) after (omega arith) (omega arith) (omega arith) (omega arith))

low_cut : (mask place : ℕ) (after : List ℕ) → IsCode (PopLow mask) → split_codes_from place (code_bytes (PopLow mask) ++ after) ≡ Is (PopLow mask) ∷ split_codes_from (place + 2) after
low_cut mask place after h = one_cut (PopLow mask) 0xB1 (mask ∷ []) place after (table.low 0xB1 mask after refl h.0 h.1)

long_cut : (words place : ℕ) (after : List ℕ) → HasBytes (RaiseLong words) → split_codes_from place (code_bytes (RaiseLong words) ++ after) ≡ Is (RaiseLong words) ∷ split_codes_from (place + suc (length (shortest_uleb128 words))) after
long_cut words place after h =
    one_cut (RaiseLong words) 0xB2 (shortest_uleb128 words) place after
    (table.long 0xB2 (shortest_uleb128 words ++ after) refl ∙ ap (λ r. table.long_by (result_ok r)) (law_of_numbers words after h)
    ∙ found (RaiseLong words) (RaiseLong words) (1 + length (shortest_uleb128 words)) (suc (length (shortest_uleb128 words))) refl (omega arith))

each_cut : (code : UnwindCode) (place : ℕ) (after : List ℕ) → IsCode code → HasBytes code → split_codes_from place (code_bytes code ++ after) ≡ Is code ∷ split_codes_from (place + length (code_bytes code)) after
each_cut (Raise words) place after h fit = raise_cut words place after h
each_cut (Lower words) place after h fit = lower_cut words place after h
each_cut Refuse place after h fit = one_cut Refuse 0x80 (0 ∷ []) place after (table.refuse 0x80 after refl)
each_cut (PopMask mask) place after h fit = mask_cut mask place after h
each_cut (Restore register) place after h fit = restore_cut register place after h
each_cut (PopRange last) place after h fit = range_cut last place after h
each_cut (PopRangeAndLr last) place after h fit = range_and_lr_cut last place after h
each_cut Finish place after h fit = one_cut Finish 0xB0 [] place after (table.finish 0xB0 after refl)
each_cut (PopLow mask) place after h fit = low_cut mask place after h
each_cut (RaiseLong words) place after h fit = long_cut words place after fit

pub law_of_codes : CodesAreCut
law_of_codes [] place after is fit = ap (λ p. split_codes_from p after) (let e : place ≡ place + 0 = omega arith in e)
law_of_codes (code ∷ codes) place after is fit =
    let own : List ℕ = code_bytes code in
    let others : List ℕ = flat_map code_bytes codes in
    let all : place + length own + length others ≡ place + length (own ++ others) = omega (arith, length-append own others) in
    ap (split_codes_from place) (append_assoc own others after)
    ∙ each_cut code place (others ++ after) (All-head IsCode code codes is) (All-head HasBytes code codes fit)
    ∙ ap (λ l. Is code ∷ l) (law_of_codes codes (place + length own) after (All-tail IsCode code codes is) (All-tail HasBytes code codes fit) ∙ ap (λ p. map Is codes ++ split_codes_from p after) all)

-- "finish" that fills up the words of an entry is cut into as many codes
pub finish_cut : (n place : ℕ) → split_codes_from place (replicate n FINISH) ≡ replicate n (Is Finish)
finish_cut zero place = cut_nothing place
finish_cut (suc n) place = one_cut Finish FINISH [] place (replicate n FINISH) (table.finish FINISH (replicate n FINISH) refl) ∙ ap (λ l. Is Finish ∷ l) (finish_cut n (place + 1))
