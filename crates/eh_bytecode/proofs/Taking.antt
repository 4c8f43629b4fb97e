-- A code that is taken, its first byte first.
use Rattle.std.proofs.Common.{◌≡◌, ℕ, zero, suc, ◌+◌, ◌-◌, ◌≤◌, ◌<◌, List, ◌∷◌, length, drop, Option, Some, None, refl, arith, ◌∙◌, ap, sym, length-drop, option_map}
use Rattle.eh_codes.specs.declared.code.UnwindCode.{UnwindCode}
use Rattle.eh_codes.specs.Table.{code_front}
use Rattle.eh_bytecode.specs.Codes.{first_code, code_and_rest}
use Rattle.eh_bytecode.proofs.Unwinds.{front_bounds}

-- ---- what is taken, by what stands at the front

pub took : (bytes left : List ℕ) (code : UnwindCode) (size : ℕ) (o : Option (UnwindCode × ℕ)) → o ≡ Some (code, size) → left ≡ drop (size - 1) bytes → (Some code, left) ≡ code_and_rest o bytes
took bytes left code size o is rest = ap (λ l. (Some code, l)) rest ∙ ap (λ o. code_and_rest o bytes) (sym is)

pub took_none : (bytes left : List ℕ) (o : Option (UnwindCode × ℕ)) → o ≡ None → left ≡ bytes → (None, left) ≡ code_and_rest o bytes
took_none bytes left o is rest = ap (λ (l : List ℕ). (None, l)) rest ∙ ap (λ o. code_and_rest o bytes) (sym is)

-- ---- what stood at the front, by what was taken

dropped : (size : ℕ) (first : ℕ) (more : List ℕ) → 1 ≤ size → drop size (first ∷ more) ≡ drop (size - 1) more
dropped zero first more h = absurd (omega arith)
dropped (suc n) first more h = ap (λ k. drop k more) (let e : n ≡ suc n - 1 = omega arith in e)

-- a code stood at the front of bytes, and these are left after it
pub record Took (left : List ℕ) (code : UnwindCode) (following : List ℕ) : Type 0 where
  pub size : ℕ
  pub is : Some (code, size) ≡ first_code left
  pub rest : following ≡ drop size left

took_by : (first : ℕ) (more following : List ℕ) (code : UnwindCode) (o : Option (UnwindCode × ℕ)) → code_front first more ≡ o → (Some code, following) ≡ code_and_rest o more → Took (first ∷ more) code following
took_by first more following code None is e = let no : Some code ≡ None = ap (λ (p : Option UnwindCode × List ℕ). p.0) e in absurd cc
took_by first more following code (Some found) is e =
    let same_code : Some code ≡ Some found.0 = ap (λ (p : Option UnwindCode × List ℕ). p.0) e in
    let same : Some (code, found.1) ≡ first_code (first ∷ more) = ap (λ (c : Option UnwindCode). option_map (λ code. (code, found.1)) c) same_code ∙ sym is in
    let bounds = front_bounds (first ∷ more) code found.1 same in
    let rest : following ≡ drop (found.1 - 1) more = ap (λ (p : Option UnwindCode × List ℕ). p.1) e in
    record { size = found.1; is = same; rest = rest ∙ sym (dropped found.1 first more bounds.0) }

pub took_code : (first : ℕ) (left more following : List ℕ) (code : UnwindCode) → left ≡ first ∷ more → (Some code, following) ≡ code_and_rest (code_front first more) more → Took left code following
took_code first left more following code is e = rw is (took_by first more following code (code_front first more) refl e)

none_by : (first : ℕ) (more following : List ℕ) (o : Option (UnwindCode × ℕ)) → code_front first more ≡ o → (None, following) ≡ code_and_rest o more → (None ≡ first_code (first ∷ more)) × (following ≡ more)
none_by first more following None is e = (sym is, ap (λ (p : Option UnwindCode × List ℕ). p.1) e)
none_by first more following (Some found) is e = let no : None ≡ Some found.0 = ap (λ (p : Option UnwindCode × List ℕ). p.0) e in absurd cc

pub record TookNone (left following : List ℕ) : Type 0 where
  pub is : None ≡ first_code left
  pub some : 0 < length left
  pub one : length left ≡ length following + 1

pub took_nothing : (first : ℕ) (left more following : List ℕ) → left ≡ first ∷ more → (None, following) ≡ code_and_rest (code_front first more) more → TookNone left following
took_nothing first left more following is e =
    let h = none_by first more following (code_front first more) refl e in
    rw is (record { is = h.0; some = omega arith; one = omega (arith, ap length h.1) })

-- fewer bytes are left
pub took_less : (left following : List ℕ) (code : UnwindCode) → Took left code following → length following < length left
took_less left following code t =
    let bounds = front_bounds left code t.size t.is in
    omega (arith, ap length t.rest, length-drop t.size left, bounds.0, bounds.1)
