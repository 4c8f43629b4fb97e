-- Which files a call asks for, by the calls that it makes.
use Rattle.std.proofs.Common.{◌≡◌, ◌≤◌, ◌<◌, ◌⊎◌, ℕ, ◌+◌, suc, List, [], ◌∷◌, Bor, Option, Some, None, IfSome, length, take, drop, get_or, refl, sym, ap, ◌∙◌, inl, inr, arith}
use Rattle.std.specs.List.{fold}
use Rattle.std.proofs.lemmas.List.{drop_more, take_all, take-map, map_more, length-map}
use Rattle.std.proofs.lemmas.List.Sums.{fold_push}
use Rattle.eh_port.specs.FileList.{answer_of}
use Rattle.eh_port.specs.declared.files.FileAnswer.{FileAnswer}
use Rattle.eh_port.specs.declared.files.FileAnswer.TheVariants.{Found, Missing, TooLong}
use Rattle.cmd_input.specs.AsksFor.{AsksFor, and_after, up_to_unavailable}
use Rattle.cmd_answers.specs.Files.{IsUnavailable, FileState, file_state}
use Rattle.cmd_answers.specs.Words.{texts}
use Rattle.cmd_input.specs.declared.sources.TheConstants.{FILE_LIMIT}

-- the files of a call
abbrev Held : Type 0
Held = List (List ℕ × List ℕ)

each : {X : Type 0} (o : Option X) (P : X → Type 0) → ((x : X) → P x) → IfSome o P
each None P f = tt
each (Some x) P f = f x

-- what ended by less, and for another lack
pub asks_more : (names : List (List ℕ)) (ended lacks ended' lacks' : Type 0) (files files' : FileState)
    → (ended' → ended) → (ended' → lacks → lacks') → AsksFor names ended lacks files files' → AsksFor names ended' lacks' files files'
asks_more names ended lacks ended' lacks' files files' went lacked a = record {
  count = a.count;
  within = a.within;
  is = a.is;
  told = a.told;
  whole = λ h. a.whole (went h);
  all = λ h. either h (a.all (went h));
}
  where
    either : ended' → lacks ⊎ (a.count ≡ length names) → lacks' ⊎ (a.count ≡ length names)
    either h (inl l) = inl (lacked h l)
    either h (inr e) = inr e

-- .. or what did not end
pub asks_never : (names : List (List ℕ)) (ended lacks ended' lacks' : Type 0) (files files' : FileState)
    → (ended' → ⊥) → AsksFor names ended lacks files files' → AsksFor names ended' lacks' files files'
asks_never names ended lacks ended' lacks' files files' never a =
    asks_more names ended lacks ended' lacks' files files' (λ h. absurd (never h)) (λ h l. absurd (never h)) a

-- no name
pub asks_none : (ended lacks : Type 0) (files files' : FileState) → files'.asked ≡ files.asked → AsksFor [] ended lacks files files'
asks_none ended lacks files files' e = record {
  count = 0;
  within = omega arith;
  is = e;
  told = each files.held _ (λ held. omega arith);
  whole = λ _. each files.held _ (λ held. refl);
  all = λ _. inr refl;
}

-- one name
one_there : (answer : FileAnswer) → 1 ≡ and_after answer 0
one_there (Found bytes) = refl
one_there Missing = refl
one_there TooLong = refl

at_least : (answer : FileAnswer) (after : ℕ) → 1 ≤ and_after answer after
at_least (Found bytes) after = omega arith
at_least Missing after = omega arith
at_least TooLong after = omega arith

lacks_here : (answer : FileAnswer) (after : ℕ) → IsUnavailable answer → and_after answer after ≡ 1
lacks_here (Found bytes) after l = absurd l
lacks_here Missing after l = refl
lacks_here TooLong after l = refl

pub asks_one : (name : List ℕ) (ended lacks : Type 0) (held held' : Option Held) (faults faults' asked asked' : ℕ) (with_name : ℕ → List ℕ → ℕ) → asked' ≡ with_name asked name
    → AsksFor (name ∷ []) ended lacks (file_state held faults asked with_name) (file_state held' faults' asked' with_name)
asks_one name ended lacks held held' faults faults' asked asked' with_name e = record {
  count = 1;
  within = omega arith;
  is = e;
  told = each held _ (λ files. at_least (answer_of files name FILE_LIMIT) 0);
  whole = λ _. each held _ (λ files. one_there (answer_of files name FILE_LIMIT));
  all = λ _. inr refl;
}

-- ---- names one after the other

-- there are at most all
within_all : (held : Held) (names : List (List ℕ)) → up_to_unavailable held names ≤ length names
within_all held [] = omega arith
within_all held (name ∷ names) = go (answer_of held name FILE_LIMIT) (up_to_unavailable held names) (length names) (within_all held names)
  where
    go : (answer : FileAnswer) (after most : ℕ) → after ≤ most → and_after answer after ≤ suc most
    go (Found bytes) after most h = omega (arith, h)
    go Missing after most h = omega arith
    go TooLong after most h = omega arith

module _ (names : List (Bor (List ℕ))) (i : ℕ) (d : Bor (List ℕ)) (lt : i < length names) where
  -- what is kept with the name of this turn
  pub kept_with : (with_name : ℕ → List ℕ → ℕ) (first before now : ℕ)
      → before ≡ fold with_name first (texts (take i names)) → now ≡ with_name before (get_or names i d).now
      → now ≡ fold with_name first (texts (take (i + 1) names))
  kept_with with_name first before now e f =
      let grown = ap (fold with_name first) (map_more (λ (w : Bor (List ℕ)). w.now) names i d lt) ∙ fold_push with_name first (texts (take i names)) (get_or names i d).now in
      f ∙ ap (λ k. with_name k (get_or names i d).now) e ∙ sym grown

  from_here : (held : Held) → up_to_unavailable held (texts names) ≡ i + up_to_unavailable held (texts (drop i names))
      → up_to_unavailable held (texts names) ≡ i + and_after (answer_of held (get_or names i d).now FILE_LIMIT) (up_to_unavailable held (texts (drop (i + 1) names)))
  from_here held e = e ∙ ap (λ (l : List (Bor (List ℕ))). i + up_to_unavailable held (texts l)) (drop_more names i d lt)

  -- its file is there
  pub goes_after : (bytes : List ℕ) (told now : Option Held) → now ≡ told
      → IfSome told (λ held. up_to_unavailable held (texts names) ≡ i + up_to_unavailable held (texts (drop i names)))
      → IfSome now (λ held. Found bytes ≡ answer_of held (get_or names i d).now FILE_LIMIT)
      → IfSome told (λ held. up_to_unavailable held (texts names) ≡ (i + 1) + up_to_unavailable held (texts (drop (i + 1) names)))
  goes_after bytes None now s e found = tt
  goes_after bytes (Some held) now s e found =
      let f : Found bytes ≡ answer_of held (get_or names i d).now FILE_LIMIT = rw s at found in
      let here : up_to_unavailable held (texts names) ≡ i + (1 + up_to_unavailable held (texts (drop (i + 1) names))) =
      from_here held e ∙ ap (λ (answer : FileAnswer). i + and_after answer (up_to_unavailable held (texts (drop (i + 1) names)))) (sym f) in
      omega (arith, here)

  -- the call ended with this name, at a file that is missing or too long, or early
  stops_there : (told : Option Held)
      → IfSome told (λ held. up_to_unavailable held (texts names) ≡ i + up_to_unavailable held (texts (drop i names)))
      → IfSome told (λ held. i + 1 ≤ up_to_unavailable held (texts names))
  stops_there None e = tt
  stops_there (Some held) e =
      let least = at_least (answer_of held (get_or names i d).now FILE_LIMIT) (up_to_unavailable held (texts (drop (i + 1) names))) in
      omega (arith, from_here held e, least)

  ends_there : (answer : FileAnswer) → IsUnavailable answer → (told now : Option Held) → now ≡ told
      → IfSome told (λ held. up_to_unavailable held (texts names) ≡ i + up_to_unavailable held (texts (drop i names)))
      → IfSome now (λ held. answer ≡ answer_of held (get_or names i d).now FILE_LIMIT)
      → IfSome told (λ held. i + 1 ≡ up_to_unavailable held (texts names))
  ends_there answer l None now s e found = tt
  ends_there answer l (Some held) now s e found =
      let f : answer ≡ answer_of held (get_or names i d).now FILE_LIMIT = rw s at found in
      let here = from_here held e ∙ ap (λ (answer : FileAnswer). i + and_after answer (up_to_unavailable held (texts (drop (i + 1) names)))) (sym f) in
      omega (arith, here, lacks_here answer (up_to_unavailable held (texts (drop (i + 1) names))) l)

  is_first : (with_name : ℕ → List ℕ → ℕ) (first now : ℕ) → now ≡ fold with_name first (texts (take (i + 1) names)) → now ≡ fold with_name first (take (i + 1) (texts names))
  is_first with_name first now e = e ∙ ap (fold with_name first) (sym (take-map (λ (w : Bor (List ℕ)). w.now) (i + 1) names))

  inside : i + 1 ≤ length (texts names)
  inside = omega (arith, lt, length-map names (λ (w : Bor (List ℕ)). w.now))

  pub asks_to_unavailable : (answer : FileAnswer) → IsUnavailable answer → (lacks : Type 0) → lacks → (files files' : FileState) (before : ℕ) (now : Option Held) → now ≡ files.held
      → before ≡ fold files.with_name files.asked (texts (take i names)) → files'.asked ≡ files.with_name before (get_or names i d).now
      → IfSome files.held (λ held. up_to_unavailable held (texts names) ≡ i + up_to_unavailable held (texts (drop i names)))
      → IfSome now (λ held. answer ≡ answer_of held (get_or names i d).now FILE_LIMIT)
      → (ended : Type 0) → AsksFor (texts names) ended lacks files files'
  asks_to_unavailable answer l lacks so files files' before now s e f told found ended = record {
    count = i + 1;
    within = inside;
    is = is_first files.with_name files.asked files'.asked (kept_with files.with_name files.asked before files'.asked e f);
    told = stops_there files.held told;
    whole = λ _. ends_there answer l files.held now s told found;
    all = λ _. inl so;
  }

  pub asks_early : (files files' : FileState) (before : ℕ)
      → before ≡ fold files.with_name files.asked (texts (take i names)) → files'.asked ≡ files.with_name before (get_or names i d).now
      → IfSome files.held (λ held. up_to_unavailable held (texts names) ≡ i + up_to_unavailable held (texts (drop i names)))
      → (ended lacks : Type 0) → (ended → ⊥) → AsksFor (texts names) ended lacks files files'
  asks_early files files' before e f told ended lacks never = record {
    count = i + 1;
    within = inside;
    is = is_first files.with_name files.asked files'.asked (kept_with files.with_name files.asked before files'.asked e f);
    told = stops_there files.held told;
    whole = λ h. absurd (never h);
    all = λ h. absurd (never h);
  }

-- all of them
pub asks_all : (names : List (Bor (List ℕ))) (i : ℕ) (ended lacks : Type 0) (files files' : FileState)
    → length names ≤ i
    → files'.asked ≡ fold files.with_name files.asked (texts (take i names))
    → IfSome files.held (λ held. up_to_unavailable held (texts names) ≡ i + up_to_unavailable held (texts (drop i names)))
    → AsksFor (texts names) ended lacks files files'
asks_all names i ended lacks files files' le e told = record {
  count = length (texts names);
  within = omega arith;
  is = e ∙ ap (λ l. fold files.with_name files.asked (texts l)) (take_all i names le) ∙ ap (fold files.with_name files.asked) (sym (take_all (length (texts names)) (texts names) (omega arith)));
  told = at_most files.held told;
  whole = λ _. exactly files.held told;
  all = λ _. inr refl;
}
  where
    size : length (texts names) ≡ length names
    size = length-map names (λ (w : Bor (List ℕ)). w.now)

    at_most : (o : Option Held) → IfSome o (λ held. up_to_unavailable held (texts names) ≡ i + up_to_unavailable held (texts (drop i names)))
        → IfSome o (λ held. length (texts names) ≤ up_to_unavailable held (texts names))
    at_most None e = tt
    at_most (Some held) e = omega (arith, e, le, size)

    exactly : (o : Option Held) → IfSome o (λ held. up_to_unavailable held (texts names) ≡ i + up_to_unavailable held (texts (drop i names)))
        → IfSome o (λ held. length (texts names) ≡ up_to_unavailable held (texts names))
    exactly None e = tt
    exactly (Some held) e = omega (arith, e, le, size, within_all held (texts names))
