-- Entries that are put in by rising keys stand in their order.
use Rattle.std.proofs.Common.{◌≡◌, ℕ, ◌+◌, ◌<◌, ◌≤◌, List, [], ◌∷◌, ◌++◌, map, fold, None, refl, sym, ap, ◌∙◌, arith, append_assoc, append-nil}
use Rattle.std.specs.Map.{values_of}
use Rattle.std.specs.Ordering.{nat_cmp}
use Rattle.std.specs.BTreeMap.{insert_entry}
use Rattle.elf_image.proofs.Entries.{cmp_greater, at_key, lookup_rest}

-- every key is below the number
abbrev pub Below : {X : Type 0} → ℕ → List (ℕ × X) → Type 0
Below k [] = Unit {0}
Below k (e ∷ es) = (e.0 < k) × Below k es

pub below_more : {X : Type 0} (k m : ℕ) (es : List (ℕ × X)) → k ≤ m → Below k es → Below m es
below_more k m [] h b = tt
below_more k m (e ∷ es) h b = (omega (arith, b.0), below_more k m es h b.1)

pub below_push : {X : Type 0} (k m : ℕ) (v : X) (es : List (ℕ × X)) → k < m → Below k es → Below m (es ++ (k, v) ∷ [])
below_push k m v [] h b = (h, tt)
below_push k m v (e ∷ es) h b = (omega (arith, b.0), below_push k m v es h b.1)

pub insert_last : {X : Type 0} (k : ℕ) (v : X) (es : List (ℕ × X)) → Below k es → insert_entry nat_cmp es k v ≡ es ++ (k, v) ∷ []
insert_last k v [] b = refl
insert_last k v (e ∷ es) b = rw (cmp_greater k e.0 b.0) (ap (λ (l : List (ℕ × _)). e ∷ l) (insert_last k v es b.1))

pub lookup_above : {X : Type 0} (k : ℕ) (es : List (ℕ × X)) → Below k es → at_key k es ≡ None
lookup_above k [] b = refl
lookup_above k (e ∷ es) b = lookup_rest k e es (λ h. omega (arith, h, b.0)) ∙ lookup_above k es b.1

-- keys of things rise from a number on
abbrev pub KeysFrom : {A : Type 0} → (A → ℕ) → ℕ → List A → Type 0
KeysFrom key low [] = Unit {0}
KeysFrom key low (x ∷ xs) = (low ≤ key x) × KeysFrom key (key x + 1) xs

pub keys_lower : {A : Type 0} (key : A → ℕ) (low high : ℕ) (xs : List A) → low ≤ high → KeysFrom key high xs → KeysFrom key low xs
keys_lower key low high [] h k = tt
keys_lower key low high (x ∷ xs) h k = (omega (arith, k.0), k.1)

-- they are entries by their keys
abbrev pub keyed : {A X : Type 0} → (A → ℕ) → (A → X) → List A → List (ℕ × X)
keyed key value xs = map (λ x. (key x, value x)) xs

-- where each step puts one thing in, all stand in their order behind those that were there
pub put_all : {A S X : Type 0} (key : A → ℕ) (value : A → X) (shown : A → S) (step : List (ℕ × X) → S → List (ℕ × X))
    → ((es : List (ℕ × X)) (x : A) → Below (key x) es → step es (shown x) ≡ insert_entry nat_cmp es (key x) (value x))
    → (low : ℕ) (es : List (ℕ × X)) (xs : List A) → Below low es → KeysFrom key low xs → fold step es (map shown xs) ≡ es ++ keyed key value xs
put_all key value shown step puts low es [] b k = sym (append-nil es)
put_all key value shown step puts low es (x ∷ xs) b k =
    let here : Below (key x) es = below_more low (key x) es k.0 b in
    let one : step es (shown x) ≡ es ++ (key x, value x) ∷ [] = puts es x here ∙ insert_last (key x) (value x) es here in
    ap (λ (l : List (ℕ × _)). fold step l (map shown xs)) one
    ∙ put_all key value shown step puts (key x + 1) (es ++ (key x, value x) ∷ []) xs (below_push (key x) (key x + 1) (value x) es (omega arith) here) k.1
    ∙ append_assoc es ((key x, value x) ∷ []) (keyed key value xs)

pub values_keyed : {A X : Type 0} (key : A → ℕ) (value : A → X) (xs : List A) → values_of (keyed key value xs) ≡ map value xs
values_keyed key value [] = refl
values_keyed key value (x ∷ xs) = ap (λ (l : List _). value x ∷ l) (values_keyed key value xs)

-- steps that put nothing in
pub put_none : {A S X : Type 0} (shown : A → S) (step : List (ℕ × X) → S → List (ℕ × X)) → ((es : List (ℕ × X)) (x : A) → step es (shown x) ≡ es)
    → (es : List (ℕ × X)) (xs : List A) → fold step es (map shown xs) ≡ es
put_none shown step same es [] = refl
put_none shown step same es (x ∷ xs) = ap (λ (l : List (ℕ × _)). fold step l (map shown xs)) (same es x) ∙ put_none shown step same es xs
