-- Offsets that are near their base.
use Rattle.std.proofs.Common.{◌≡◌, ◌≢◌, ℕ, ◌/◌, ◌^◌, bit_and, ◌+◌, ◌*◌, ◌<◌, Bool, ℤ, pos, arith, List, ◌∷◌, ◌∙◌, ap, sym, cond, ◌==◌}
use Rattle.std.specs.Prelude.{◌+ℤ◌, ◌-ℤ◌, ◌≤ℤ◌, slice_set}
use Rattle.std.specs.Int.{bit_at}
use Rattle.std.proofs.lemmas.Int.{ints, to_z-of_z}
use Rattle.std.proofs.lemmas.Nat.Bits.{shr_and_one, bit_at-lt}
use Rattle.thumb_core.proofs.Listed.{listed_from, listed_more}
use Rattle.eh_bytecode.specs.declared.recipe.Src.{Src}
use Rattle.eh_bytecode.specs.Recipe.{IsNear, fill_sources, word_source}

pub near_high : (v : ℤ) → IsNear v → v ≤ℤ pos 65536
near_high v h = grind (arith, ints)

pub near_low : (v : ℤ) → IsNear v → (pos 0 -ℤ pos 65536) ≤ℤ v
near_low v h = grind (arith, ints)

pub ruleset signs = (ints, to_z-of_z)

next_offset : (offset : ℤ) (words : ℕ) → offset +ℤ pos (4 * words) +ℤ pos 4 ≡ offset +ℤ pos (4 * (words + 1))
next_offset offset words = omega (arith, ints)

pub fill_more : (based : Bool) (offset at : ℤ) (words k list : ℕ) (src new : List Src) → k < 16 → bit_at list k ≡ 1 → at ≡ offset +ℤ pos (4 * words) → new ≡ slice_set src k (word_source based at) →
    fill_sources based (offset +ℤ pos (4 * (words + 1))) (listed_from (k + 1) list) new ≡ fill_sources based (offset +ℤ pos (4 * words)) (listed_from k list) src
fill_more based offset at words k list src new low set e is =
    let more : listed_from k list ≡ k ∷ listed_from (k + 1) list = listed_more k list low ∙ ap (λ (b : ℕ). cond (b == 1) (k ∷ listed_from (k + 1) list) (listed_from (k + 1) list)) set in
    sym (ap (λ l. fill_sources based (offset +ℤ pos (4 * words)) l src) more
    ∙ ap (λ (o : ℤ). fill_sources based o (listed_from (k + 1) list) (slice_set src k (word_source based (offset +ℤ pos (4 * words))))) (next_offset offset words)
    ∙ ap (λ l. fill_sources based (offset +ℤ pos (4 * (words + 1))) (listed_from (k + 1) list) l) (ap (λ (o : ℤ). slice_set src k (word_source based o)) (sym e) ∙ sym is))

pub fill_less : (based : Bool) (o : ℤ) (k list : ℕ) (src : List Src) → k < 16 → bit_at list k ≡ 0 → fill_sources based o (listed_from (k + 1) list) src ≡ fill_sources based o (listed_from k list) src
fill_less based o k list src low clear =
    sym (ap (λ l. fill_sources based o l src) (listed_more k list low ∙ ap (λ (b : ℕ). cond (b == 1) (k ∷ listed_from (k + 1) list) (listed_from (k + 1) list)) clear))

pub fill_step : (based : Bool) (offset at : ℤ) (words next k list : ℕ) (src new : List Src) (r : Src) → k < 16 → bit_and (list / 2 ^ k) 1 ≡ 1 → at ≡ offset +ℤ pos (4 * words) → r ≡ word_source based at →
    new ≡ slice_set src k r → next ≡ words + 1 → fill_sources based (offset +ℤ pos (4 * next)) (listed_from (k + 1) list) new ≡ fill_sources based (offset +ℤ pos (4 * words)) (listed_from k list) src
fill_step based offset at words next k list src new r low set e f is n =
    ap (λ (m : ℕ). fill_sources based (offset +ℤ pos (4 * m)) (listed_from (k + 1) list) new) n
    ∙ fill_more based offset at words k list src new low (sym (shr_and_one list k) ∙ set) e (is ∙ ap (slice_set src k) f)

pub fill_past : (based : Bool) (offset : ℤ) (words next k list : ℕ) (src new : List Src) → k < 16 → bit_and (list / 2 ^ k) 1 ≢ 1 → new ≡ src → next ≡ words →
    fill_sources based (offset +ℤ pos (4 * next)) (listed_from (k + 1) list) new ≡ fill_sources based (offset +ℤ pos (4 * words)) (listed_from k list) src
fill_past based offset words next k list src new low clear is n =
    let two : bit_at list k < 2 = bit_at-lt list k in
    let one : bit_at list k ≢ 1 = λ e. clear (shr_and_one list k ∙ e) in
    ap (λ (m : ℕ). fill_sources based (offset +ℤ pos (4 * m)) (listed_from (k + 1) list) new) n ∙ ap (fill_sources based (offset +ℤ pos (4 * words)) (listed_from (k + 1) list)) is
    ∙ fill_less based (offset +ℤ pos (4 * words)) k list src low (omega arith)
