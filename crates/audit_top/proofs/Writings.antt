-- Texts that are written one after the other.
use Rattle.std.proofs.Common.{◌≡◌, ℕ, ◌+◌, ◌<◌, ◌≤◌, List, [], ◌∷◌, ◌++◌, length, take, drop, get_or, Option, Result, Ok, Err, refl, sym, ap, subst, ◌∙◌, append-nil}
use Rattle.std.specs.Prelude.{flat_map}
use Rattle.std.proofs.lemmas.Grind.{flat_map-append}
use Rattle.std.proofs.lemmas.List.{take_all, take_more, drop_more, take-append-drop}
use Rattle.std.proofs.KnownBytes.{Appends-trans}
use Rattle.std.specs.Io.KnownBytes.{Appends}
use Rattle.eh_port.specs.Causes.{Rose}
use Rattle.eh_port.specs.Writing.{AppendsFewer}
use Rattle.eh_port.proofs.Parts.{part_none, part_whole, part_fewer, part_first, part_then}
use Rattle.cmd_answers.specs.declared.stop.Stop.{Stop}
use Rattle.cmd_answers.specs.declared.stop.Stop.TheVariants.{Read, Write, Memory}
use Rattle.audit_top.specs.Writing.{Writes}

-- all of a text
pub wrote_all : {T : Type 0} (value : T) (a b : Option (List ℕ)) (f g : ℕ) (text : List ℕ) → Appends a b text → g ≡ f → Writes text (Ok value) a b f g
wrote_all value a b f g text p k = record { ok = p; kept = k; part = part_whole a b text p; read = λ e. absurd (cc); write = λ e. absurd (cc); memory = λ e. absurd (cc) }

-- a first part of it, where a write failed
pub wrote_fewer : {T : Type 0} (a b : Option (List ℕ)) (f g : ℕ) (text : List ℕ) → AppendsFewer a b text → Rose f g → Writes {T = T} text (Err Write) a b f g
wrote_fewer a b f g text p rose = record {
  ok = tt;
  kept = tt;
  part = part_fewer a b text p;
  read = λ e. absurd (let no : Write ≡ Read = cc in cc);
  write = λ e. rose;
  memory = λ e. absurd (let no : Write ≡ Memory = cc in cc);
}

-- nothing of it, where there was no memory
pub wrote_none : {T : Type 0} (a : Option (List ℕ)) (f : ℕ) (text : List ℕ) → Writes {T = T} text (Err Memory) a a f f
wrote_none a f text = record {
  ok = tt;
  kept = tt;
  part = part_none a text;
  read = λ e. absurd (let no : Memory ≡ Read = cc in cc);
  write = λ e. absurd (let no : Memory ≡ Write = cc in cc);
  memory = λ e. refl;
}

-- a text that was written whole, and what came of the next
pub wrote_then : {T : Type 0} (result : Result T Stop) (a b c : Option (List ℕ)) (f g h : ℕ) (x y : List ℕ) → Appends a b x → g ≡ f → Writes y result b c g h → Writes (x ++ y) result a c f h
wrote_then (Ok value) a b c f g h x y p k w = wrote_all value a c f h (x ++ y) (Appends-trans a b c x y p w.ok) (w.kept ∙ k)
wrote_then (Err stop) a b c f g h x y p k w = record {
  ok = tt;
  kept = tt;
  part = part_then a b c x y p w.part;
  read = w.read;
  write = λ e. subst (λ (n : ℕ). Rose n h) k (w.write e);
  memory = λ e. w.memory e ∙ k;
}

-- a text that was not written whole, and so nothing of the next
pub wrote_early : {T U : Type 0} (stop : Stop) (a b : Option (List ℕ)) (f g : ℕ) (x y : List ℕ) → Writes {T = U} x (Err stop) a b f g → Writes {T = T} (x ++ y) (Err stop) a b f g
wrote_early stop a b f g x y w = record {
  ok = tt;
  kept = tt;
  part = part_first a b x y w.part;
  read = λ e. w.read (let is : stop ≡ Read = cc in ap Err is);
  write = λ e. w.write (let is : stop ≡ Write = cc in ap Err is);
  memory = λ e. w.memory (let is : stop ≡ Memory = cc in ap Err is);
}

-- .. of which another value is told
pub wrote_as : {T U : Type 0} (value : T) (other : U) (a b : Option (List ℕ)) (f g : ℕ) (text : List ℕ) → Writes text (Ok other) a b f g → Writes text (Ok value) a b f g
wrote_as value other a b f g text w = wrote_all value a b f g text w.ok w.kept

pub stopped_as : {T U : Type 0} (stop : Stop) (a b : Option (List ℕ)) (f g : ℕ) (text : List ℕ) → Writes {T = U} text (Err stop) a b f g → Writes {T = T} text (Err stop) a b f g
stopped_as stop a b f g text w = record {
  ok = tt;
  kept = tt;
  part = w.part;
  read = λ e. w.read (let is : stop ≡ Read = cc in ap Err is);
  write = λ e. w.write (let is : stop ≡ Write = cc in ap Err is);
  memory = λ e. w.memory (let is : stop ≡ Memory = cc in ap Err is);
}

-- ---- the texts of a list

one_more : {X : Type 0} (f : X → List ℕ) (xs : List X) (i : ℕ) (d : X) → i < length xs → flat_map f (take (i + 1) xs) ≡ flat_map f (take i xs) ++ f (get_or xs i d)
one_more f xs i d h =
    ap (flat_map f) (take_more xs i d h) ∙ flat_map-append f (take i xs) (get_or xs i d ∷ []) ∙ ap (λ (y : List ℕ). flat_map f (take i xs) ++ y) (rw append-nil refl)

all_parts : {X : Type 0} (f : X → List ℕ) (xs : List X) (i : ℕ) (d : X) → i < length xs
    → flat_map f xs ≡ flat_map f (take i xs) ++ (f (get_or xs i d) ++ flat_map f (drop (i + 1) xs))
all_parts {X = X} f xs i d h =
    ap (flat_map f) (sym (take-append-drop i xs)) ∙ flat_map-append f (take i xs) (drop i xs)
    ∙ ap (λ (ys : List X). flat_map f (take i xs) ++ flat_map f ys) (drop_more xs i d h)

-- the texts of all are written
pub all_wrote : {T X : Type 0} (value : T) (f : X → List ℕ) (xs : List X) (i : ℕ) (a b : Option (List ℕ)) (m n : ℕ) → length xs ≤ i → Appends a b (flat_map f (take i xs)) → n ≡ m → Writes (flat_map f xs) (Ok value) a b m n
all_wrote {T = T} {X = X} value f xs i a b m n over p kept = wrote_all value a b m n (flat_map f xs) (subst (λ (ys : List X). Appends a b (flat_map f ys)) (take_all i xs over) p) kept

module _ {X : Type 0} (f : X → List ℕ) (xs : List X) (i : ℕ) (x : X) (a b c : Option (List ℕ)) (m n o : ℕ) (within : i < length xs) (is : x ≡ get_or xs i x) (before : Appends a b (flat_map f (take i xs))) (kept : n ≡ m) where
  -- the text of the next is written
  pub next_wrote : Appends b c (f x) → Appends a c (flat_map f (take (i + 1) xs))
  next_wrote p =
      let q : Appends b c (f (get_or xs i x)) = subst (λ (y : X). Appends b c (f y)) is p in
      subst (λ (text : List ℕ). Appends a c text) (sym (one_more f xs i x within)) (Appends-trans a b c (flat_map f (take i xs)) (f (get_or xs i x)) before q)

  -- .. or not
  pub next_stopped : {T U : Type 0} (stop : Stop) → Writes {T = U} (f x) (Err stop) b c n o → Writes {T = T} (flat_map f xs) (Err stop) a c m o
  next_stopped {T = T} {U = U} stop w =
      let v : Writes {T = T} (f (get_or xs i x)) (Err stop) b c n o = subst (λ (y : X). Writes {T = T} (f y) (Err stop) b c n o) is (stopped_as stop b c n o (f x) w) in
      let rest : Writes {T = T} (f (get_or xs i x) ++ flat_map f (drop (i + 1) xs)) (Err stop) b c n o = wrote_early stop b c n o (f (get_or xs i x)) (flat_map f (drop (i + 1) xs)) v in
      subst (λ (text : List ℕ). Writes {T = T} text (Err stop) a c m o) (sym (all_parts f xs i x within)) (wrote_then (Err stop) a b c m n o (flat_map f (take i xs)) (f (get_or xs i x) ++ flat_map f (drop (i + 1) xs)) before kept rest)
