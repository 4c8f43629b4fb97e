-- Bytes: a number's bytes are bytes, and the bytes of the number that is read are those that were read.
use Rattle.std.proofs.Common.{◌≡◌, ℕ, zero, suc, ◌+◌, ◌*◌, ◌/◌, ◌%◌, ◌^◌, ◌<◌, ◌≤◌, List, [], ◌∷◌, length, get_or, take, refl, sym, ap, ◌∙◌, arith}
use Rattle.std.proofs.Math.Nat.{div-div-eq-div-mul, pow-succ', mod-lt}
use Rattle.std.proofs.lemmas.List.Elements.{All-append, All-drop, All-take}
use Rattle.std.specs.Int.{byte_at, bytes_low_first}
use Rattle.byteorder.specs.Endian.{little_from}
use Rattle.byteorder.specs.Numbers.{little_from-cons}
use Rattle.eh_bus.specs.Segment.{Segment, AreBytes, with_number_at}

byte_small : (i n : ℕ) → byte_at i n < 256
byte_small zero n = mod-lt n (omega arith)
byte_small (suc i) n = mod-lt (n / 256 ^ suc i) (omega arith)

cons_bytes : (x : ℕ) (xs : List ℕ) → x < 256 → AreBytes xs → (k d : ℕ) → k < length (x ∷ xs) → get_or (x ∷ xs) k d < 256
cons_bytes x xs h r zero d l = h
cons_bytes x xs h r (suc k) d l = r k d (omega arith)

pub bytes_small : (i n x : ℕ) → AreBytes (bytes_low_first i n x)
bytes_small i zero x = λ k d h. absurd (omega arith)
bytes_small i (suc n) x = cons_bytes (byte_at i x) (bytes_low_first (suc i) n x) (byte_small i x) (bytes_small (suc i) n x)

-- a write keeps bytes bytes
pub with_bytes : (n a v : ℕ) (s : Segment) → AreBytes s.bytes → AreBytes (with_number_at n s a v).bytes
with_bytes n a v s b =
    let Byte : ℕ → Type 0 = λ x. x < 256 in
    All-append Byte _ _ (All-take Byte _ s.bytes b) (All-append Byte _ _ (bytes_small 0 n v) (All-drop Byte _ s.bytes b))

byte_next : (i x : ℕ) → byte_at (suc i) x ≡ byte_at i (x / 256)
byte_next zero x = refl
byte_next (suc i) x = ap (λ (p : ℕ). x / p % 256) (pow-succ' 256 (suc i)) ∙ ap (λ (q : ℕ). q % 256) (sym (div-div-eq-div-mul x 256 (256 ^ suc i)))

bytes_next : (i n x : ℕ) → bytes_low_first (suc i) n x ≡ bytes_low_first i n (x / 256)
bytes_next i zero x = refl
bytes_next i (suc n) x = rw (byte_next i x, bytes_next (suc i) n x) refl

-- what was read and is written again is as it was
pub bytes_back : (n : ℕ) (xs : List ℕ) → n ≤ length xs → AreBytes xs → bytes_low_first 0 n (little_from 0 n xs) ≡ take n xs
bytes_back zero xs h b = refl
bytes_back (suc n) [] h b = absurd (omega arith)
bytes_back (suc n) (x ∷ xs) h b =
    let y = little_from 0 n xs in
    let small : x < 256 = b 0 0 (omega arith) in
    let low : (x + 256 * y) % 256 ≡ x = omega arith in
    let high : (x + 256 * y) / 256 ≡ y = omega arith in
    let next = bytes_back n xs (omega arith) (λ k d l. b (suc k) d (omega arith)) in
    rw (little_from-cons 0 n x xs, bytes_next 0 n (x + 256 * y), low, high, next) refl
