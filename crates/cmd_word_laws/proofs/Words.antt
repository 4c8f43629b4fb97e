-- Which words are which command.
use Rattle.std.specs.Prelude.{if◌then◌else◌, is_some, ◌||◌, nat_le, take, slice_index_or, codes}
use Rattle.std.specs.List.{list_all}
use Rattle.std.specs.Str.{bytes_eq}
use Rattle.std.proofs.Common.{◌≡◌, ◌↔◌, ◌⊎◌, inl, inr, ℕ, ◌-◌, ◌≤◌, ◌&&◌, Bool, true, false, List, [], ◌∷◌, ◌++◌, length, Option, option_map, Some, None, not, refl, sym, ap, subst, ◌∙◌, arith, append_assoc}
use Rattle.std.proofs.Math.Seq.{take-append_seam}
use Rattle.std.proofs.lemmas.Bool.{leb-true, le-leb, and_parts, and_from, true≢false, false≢true}
use Rattle.std.proofs.lemmas.Bool.Decides.{Decides-eqb}
use Rattle.std.proofs.lemmas.List.{get_or_push, length-append}
use Rattle.std.proofs.lemmas.Option.{same_Some, none-some}
use Rattle.std.proofs.lemmas.Slice.Eq.{bytes_eq-Decides, ends_is}
use Rattle.cmd_input.specs.Words.{Command, FlatFile, BuildSources, CheckFile, CheckSources, RunFile, RunSources, RunGnu, RunThreads, GenerateProgram, budget_of, flat_command, is_source, are_sources, build_command, image_name, check_command, files_command, with_budget, run_command, frame_number, with_frame, force_command, is_schedule, are_program, thread_files, with_elements, threads_command, gnu_command, program_number, program_functions, program_of, gen_command, command_of}
use Rattle.cmd_input.specs.declared.words.Request.{Request}
use Rattle.cmd_input.specs.declared.words.Task.{Task}
use Rattle.cmd_input.specs.declared.words.Task.TheVariants.{Run, Walk, Force}
use Rattle.cmd_word_laws.specs.Words.{IsNumber, IsBudget, IsSource, AllAreSources, AreSources, IsImage, AreProgram, IsSchedule, AreRunWords, AreWordsOf, WordsAreCommands}
use Rattle.cmd_word_laws.proofs.Numbers.{number, budget, program, functions}

-- ---- names

source : (name : List ℕ) → (is_source name ≡ true) ↔ IsSource name
source name = let e = ends_is Decides-eqb name (codes ".s") (is_source name) refl in (λ t. (take (length name - 2) name, e.0 t), λ s. e.1 s.0 s.1)

all_sources : (names : List (List ℕ)) → (list_all is_source names ≡ true) ↔ AllAreSources names
all_sources [] = (λ _. tt, λ _. refl)
all_sources (name ∷ names) = (
  λ e. let p = and_parts (is_source name) (list_all is_source names) e in ((source name).0 p.0, (all_sources names).0 p.1),
  λ h. and_from (is_source name) (list_all is_source names) ((source name).1 h.0) ((all_sources names).1 h.1),
)

sources : (names : List (List ℕ)) → (are_sources names ≡ true) ↔ AreSources names
unfolding are_sources
sources names = (
  λ e.
      let p = and_parts (nat_le 1 (length names) && nat_le (length names) 16) (list_all is_source names) e in
      let q = and_parts (nat_le 1 (length names)) (nat_le (length names) 16) p.0 in
      record { some = leb-true 1 (length names) q.0; few = leb-true (length names) 16 q.1; all = (all_sources names).0 p.1 },
  λ h. and_from (nat_le 1 (length names) && nat_le (length names) 16) (list_all is_source names)
      (and_from (nat_le 1 (length names)) (nat_le (length names) 16) (le-leb 1 (length names) h.some) (le-leb (length names) 16 h.few))
      ((all_sources names).1 h.all),
)

alone : (name : List ℕ) → IsSource name → AreSources (name ∷ [])
alone name s = record { some = omega arith; few = omega arith; all = (s, tt) }

no_sources : (name : List ℕ) → IsImage name → are_sources (name ∷ []) ≡ false
no_sources name h = go (are_sources (name ∷ [])) refl
  where
    go : (t : Bool) → are_sources (name ∷ []) ≡ t → t ≡ false
    go true e = absurd (h.no_source ((sources (name ∷ [])).0 e).all.0)
    go false e = refl

-- names are those of sources, or there is one of an image
abbrev Files : (List (List ℕ) → Command) → (List ℕ → Command) → List (List ℕ) → Command → Type 0
Files of_sources of_file names c = ((c ≡ of_sources names) × AreSources names) ⊎ ((name : List ℕ) × (names ≡ name ∷ []) × (c ≡ of_file name) × IsImage name)

module _ (of_sources : List (List ℕ) → Command) (of_file : List ℕ → Command) (c : Command) where
  one : (names : List (List ℕ)) → are_sources names ≡ false → option_map of_file (image_name names) ≡ Some c → Files of_sources of_file names c
  one [] p e = absurd (none-some c e)
  one (name ∷ []) p e = go (nat_le 1 (length name)) refl e
    where
      go : (t : Bool) → nat_le 1 (length name) ≡ t → option_map of_file (if t then Some name else None) ≡ Some c → Files of_sources of_file (name ∷ []) c
      go true q e =
          inr (name, refl, sym (same_Some (of_file name) c e), record { some = leb-true 1 (length name) q; no_source = λ s. true≢false (sym ((sources (name ∷ [])).1 (alone name s)) ∙ p) })
      go false q e = absurd (none-some c e)
  one (name ∷ more ∷ names) p e = absurd (none-some c e)

  by_names : (names : List (List ℕ)) → (if are_sources names then Some (of_sources names) else option_map of_file (image_name names)) ≡ Some c → Files of_sources of_file names c
  by_names names e = go (are_sources names) refl e
    where
      go : (t : Bool) → are_sources names ≡ t → (if t then Some (of_sources names) else option_map of_file (image_name names)) ≡ Some c → Files of_sources of_file names c
      go true p e = inl (sym (same_Some (of_sources names) c e), (sources names).0 p)
      go false p e = one names p e

of_sources_is : (names : List (List ℕ)) (found : Command) (other : Option Command) → AreSources names → (if are_sources names then Some found else other) ≡ Some found
of_sources_is names found other h = ap (λ t. if t then Some found else other) ((sources names).1 h)

of_file_is : (name : List ℕ) (found : Option Command) (of_file : List ℕ → Command) → IsImage name
    → (if are_sources (name ∷ []) then found else option_map of_file (image_name (name ∷ []))) ≡ Some (of_file name)
of_file_is name found of_file h =
    ap (λ t. if t then found else option_map of_file (image_name (name ∷ []))) (no_sources name h)
    ∙ ap (λ t. option_map of_file (if t then Some name else None)) (le-leb 1 (length name) h.some)

-- ---- `flat`, `build`, `check` and `gen`

flat_to : (rest : List (List ℕ)) (c : Command) → flat_command rest ≡ Some c → AreWordsOf c (codes "flat" ∷ rest)
unfolding flat_command
flat_to [] c e = absurd (none-some c e)
flat_to (name ∷ []) c e = absurd (none-some c e)
flat_to (name ∷ word ∷ []) c e = go (nat_le 1 (length name)) (budget_of word) refl refl e
  where
    go : (t : Bool) (o : Option ℕ) → nat_le 1 (length name) ≡ t → budget_of word ≡ o → (if t then option_map (FlatFile name) o else None) ≡ Some c → AreWordsOf c (codes "flat" ∷ name ∷ word ∷ [])
    go true (Some n) p q e = subst (λ d. AreWordsOf d (codes "flat" ∷ name ∷ word ∷ [])) (same_Some (FlatFile name n) c e) (word, refl, leb-true 1 (length name) p, (budget word n).0 q)
    go true None p q e = absurd (none-some c e)
    go false o p q e = absurd (none-some c e)
flat_to (name ∷ word ∷ more ∷ rest) c e = absurd (none-some c e)

flat_from : (name word : List ℕ) (n : ℕ) → 1 ≤ length name → IsBudget word n → flat_command (name ∷ word ∷ []) ≡ Some (FlatFile name n)
unfolding flat_command
flat_from name word n h b =
    ap (λ t. if t then option_map (FlatFile name) (budget_of word) else None) (le-leb 1 (length name) h) ∙ ap (option_map (FlatFile name)) ((budget word n).1 b)

image : (name : List ℕ) → ((nat_le 1 (length name) && not (is_source name)) ≡ true) ↔ IsImage name
image name = (
  λ e. let p = and_parts (nat_le 1 (length name)) (not (is_source name)) e in record { some = leb-true 1 (length name) p.0; no_source = λ s. true≢false (sym ((source name).1 s) ∙ unnot (is_source name) p.1) },
  λ h. and_from (nat_le 1 (length name)) (not (is_source name)) (le-leb 1 (length name) h.some) (no_source (is_source name) refl h),
)
  where
    unnot : (t : Bool) → not t ≡ true → t ≡ false
    unnot true e = absurd (false≢true e)
    unnot false e = refl

    no_source : (t : Bool) → is_source name ≡ t → IsImage name → not t ≡ true
    no_source true e h = absurd (h.no_source ((source name).0 e))
    no_source false e h = refl

gnu_to : (rest : List (List ℕ)) (c : Command) → gnu_command rest ≡ Some c → AreWordsOf c (codes "gnu" ∷ rest)
unfolding gnu_command
gnu_to [] c e = absurd (none-some c e)
gnu_to (name ∷ []) c e = absurd (none-some c e)
gnu_to (name ∷ word ∷ []) c e = go (nat_le 1 (length name) && not (is_source name)) (budget_of word) refl refl e
  where
    go : (t : Bool) (o : Option ℕ) → (nat_le 1 (length name) && not (is_source name)) ≡ t → budget_of word ≡ o → (if t then option_map (RunGnu name) o else None) ≡ Some c
        → AreWordsOf c (codes "gnu" ∷ name ∷ word ∷ [])
    go true (Some n) p q e = subst (λ d. AreWordsOf d (codes "gnu" ∷ name ∷ word ∷ [])) (same_Some (RunGnu name n) c e) (word, refl, (image name).0 p, (budget word n).0 q)
    go true None p q e = absurd (none-some c e)
    go false o p q e = absurd (none-some c e)
gnu_to (name ∷ word ∷ more ∷ rest) c e = absurd (none-some c e)

gnu_from : (name word : List ℕ) (n : ℕ) → IsImage name → IsBudget word n → gnu_command (name ∷ word ∷ []) ≡ Some (RunGnu name n)
unfolding gnu_command
gnu_from name word n h b =
    ap (λ t. if t then option_map (RunGnu name) (budget_of word) else None) ((image name).1 h) ∙ ap (option_map (RunGnu name)) ((budget word n).1 b)

build_to : (names : List (List ℕ)) (c : Command) → build_command names ≡ Some c → AreWordsOf c (codes "build" ∷ names)
unfolding build_command
build_to names c e = go (are_sources names) refl e
  where
    go : (t : Bool) → are_sources names ≡ t → (if t then Some (BuildSources names) else None) ≡ Some c → AreWordsOf c (codes "build" ∷ names)
    go true p e = subst (λ d. AreWordsOf d (codes "build" ∷ names)) (same_Some (BuildSources names) c e) (refl, (sources names).0 p)
    go false p e = absurd (none-some c e)

build_from : (names : List (List ℕ)) → AreSources names → build_command names ≡ Some (BuildSources names)
unfolding build_command
build_from names h = of_sources_is names (BuildSources names) None h

check_to : (names : List (List ℕ)) (c : Command) → check_command names ≡ Some c → AreWordsOf c (codes "check" ∷ names)
unfolding check_command
check_to names c e = elim (by_names CheckSources CheckFile c names e) [
  | inl h ↦ subst (λ d. AreWordsOf d (codes "check" ∷ names)) (sym h.0) (refl, h.1)
  | inr h ↦ subst (λ d. AreWordsOf d (codes "check" ∷ names)) (sym h.2) (ap (λ l. codes "check" ∷ l) h.1, h.3)
]

check_sources_from : (names : List (List ℕ)) → AreSources names → check_command names ≡ Some (CheckSources names)
unfolding check_command
check_sources_from names h = of_sources_is names (CheckSources names) (option_map CheckFile (image_name names)) h

check_from : (name : List ℕ) → IsImage name → check_command (name ∷ []) ≡ Some (CheckFile name)
unfolding check_command
check_from name h = of_file_is name (Some (CheckSources (name ∷ []))) CheckFile h

gen_to : (rest : List (List ℕ)) (c : Command) → gen_command rest ≡ Some c → AreWordsOf c (codes "gen" ∷ rest)
unfolding gen_command
gen_to [] c e = absurd (none-some c e)
gen_to (first ∷ []) c e = absurd (none-some c e)
gen_to (first ∷ second ∷ []) c e = go (program_number first) (program_functions second) refl refl e
  where
    go : (o p : Option ℕ) → program_number first ≡ o → program_functions second ≡ p → program_of o p ≡ Some c → AreWordsOf c (codes "gen" ∷ first ∷ second ∷ [])
    go None p q r e = absurd (none-some c e)
    go (Some k) None q r e = absurd (none-some c e)
    go (Some k) (Some m) q r e =
        let number = (program first k).0 q in
        let count = (functions second m).0 r in
        subst (λ d. AreWordsOf d (codes "gen" ∷ first ∷ second ∷ [])) (same_Some (GenerateProgram k m) c e) (first, second, refl, number.0, number.1, count.0, count.1, count.2)
gen_to (first ∷ second ∷ more ∷ rest) c e = absurd (none-some c e)

gen_from : (first second : List ℕ) (k m : ℕ) → IsNumber 10 first k → k ≤ 4294967295 → IsNumber 4 second m → 1 ≤ m → m ≤ 4000 → gen_command (first ∷ second ∷ []) ≡ Some (GenerateProgram k m)
unfolding gen_command
gen_from first second k m number most count some few =
    ap (λ o. program_of o (program_functions second)) ((program first k).1 (number, most)) ∙ ap (option_map (GenerateProgram k)) ((functions second m).1 (count, some, few))

-- ---- `run`, `walk` and `force`

-- words that there are have a last one
last_of : {X : Type 0} (x : X) (xs : List X) → (front : List X) × (last : X) × (x ∷ xs ≡ front ++ last ∷ [])
last_of x [] = ([], x, refl)
last_of x (y ∷ ys) = let s = last_of y ys in (x ∷ s.0, s.1, ap (λ l. x ∷ l) s.2)

module _ (names : List (List ℕ)) (word : List ℕ) where
  back : length (names ++ word ∷ []) - 1 ≡ length names
  back = let size = length-append names (word ∷ []) in omega (arith, size)

  some : nat_le 1 (length (names ++ word ∷ [])) ≡ true
  some = let size = length-append names (word ∷ []) in le-leb 1 (length (names ++ word ∷ [])) (omega (arith, size))

  front : take (length (names ++ word ∷ []) - 1) (names ++ word ∷ []) ≡ names
  front = ap (λ n. take n (names ++ word ∷ [])) back ∙ take-append_seam names (word ∷ [])

  last : slice_index_or (names ++ word ∷ []) (length (names ++ word ∷ []) - 1) [] ≡ word
  last = ap (λ n. slice_index_or (names ++ word ∷ []) n []) back ∙ get_or_push names word [] (length names) refl

  run_push : (t : Task) → run_command t (names ++ word ∷ []) ≡ with_budget t names (budget_of word)
  unfolding run_command
  run_push t = rw (some, front, last) refl

  force_push : force_command (names ++ word ∷ []) ≡ with_frame names (frame_number word)
  unfolding force_command
  force_push = rw (some, front, last) refl

  threads_push : threads_command (names ++ word ∷ []) ≡ with_elements names (budget_of word)
  unfolding threads_command
  threads_push = rw (some, front, last) refl

  files_push : (budget : ℕ) → thread_files (names ++ word ∷ []) budget ≡ (if is_schedule word && are_program names then Some (RunThreads (names ++ word ∷ []) budget) else None)
  unfolding thread_files
  files_push budget = rw (some, front, last) refl

-- words that ask for a run have a budget as the last one, and files before it
pub record RunParts (t : Task) (rest : List (List ℕ)) (c : Command) : Type 0 where
  pub names : List (List ℕ)
  pub word : List ℕ
  pub budget : ℕ
  pub is : rest ≡ names ++ word ∷ []
  pub number : IsBudget word budget
  pub files : files_command names (record { task = t; budget = budget }) ≡ Some c

run_to : (t : Task) (rest : List (List ℕ)) (c : Command) → run_command t rest ≡ Some c → RunParts t rest c
unfolding run_command
run_to t [] c e = absurd (none-some c e)
run_to t (first ∷ rest) c e =
    let parts = last_of first rest in
    go parts.0 parts.1 parts.2 (budget_of parts.1) refl (sym (run_push parts.0 parts.1 t) ∙ ap (run_command t) (sym parts.2) ∙ e)
  where
    go : (names : List (List ℕ)) (word : List ℕ) → first ∷ rest ≡ names ++ word ∷ [] → (o : Option ℕ) → budget_of word ≡ o → with_budget t names o ≡ Some c → RunParts t (first ∷ rest) c
    go names word is None q e = absurd (none-some c e)
    go names word is (Some n) q e = record { names = names; word = word; budget = n; is = is; number = (budget word n).0 q; files = e }

run_from : (t : Task) (names : List (List ℕ)) (word : List ℕ) (n : ℕ) (c : Command) → IsBudget word n → files_command names (record { task = t; budget = n }) ≡ Some c → run_command t (names ++ word ∷ []) ≡ Some c
run_from t names word n c b e = run_push names word t ∙ ap (with_budget t names) ((budget word n).1 b) ∙ e

-- .. and those of `force` the number of a frame after it
pub record ForceParts (rest : List (List ℕ)) (c : Command) : Type 0 where
  pub words : List (List ℕ)
  pub word : List ℕ
  pub frame : ℕ
  pub is : rest ≡ words ++ word ∷ []
  pub number : IsNumber 4 word frame
  pub run : run_command (Force frame) words ≡ Some c

frame : (word : List ℕ) (n : ℕ) → (frame_number word ≡ Some n) ↔ IsNumber 4 word n
unfolding frame_number
frame word n = number 4 n word

force_to : (rest : List (List ℕ)) (c : Command) → force_command rest ≡ Some c → ForceParts rest c
unfolding force_command
force_to [] c e = absurd (none-some c e)
force_to (first ∷ rest) c e =
    let parts = last_of first rest in
    go parts.0 parts.1 parts.2 (frame_number parts.1) refl (sym (force_push parts.0 parts.1) ∙ ap force_command (sym parts.2) ∙ e)
  where
    go : (words : List (List ℕ)) (word : List ℕ) → first ∷ rest ≡ words ++ word ∷ [] → (o : Option ℕ) → frame_number word ≡ o → with_frame words o ≡ Some c → ForceParts (first ∷ rest) c
    go words word is None q e = absurd (none-some c e)
    go words word is (Some n) q e = record { words = words; word = word; frame = n; is = is; number = (frame word n).0 q; run = e }

force_from : (words : List (List ℕ)) (word : List ℕ) (n : ℕ) (c : Command) → IsNumber 4 word n → run_command (Force n) words ≡ Some c → force_command (words ++ word ∷ []) ≡ Some c
force_from words word n c h e = force_push words word ∙ ap (with_frame words) ((frame word n).1 h) ∙ e

-- the files of a run
files_to : (t : Task) (n : ℕ) (names words : List (List ℕ)) (c : Command) → AreRunWords t n names words → files_command names (record { task = t; budget = n }) ≡ Some c → AreWordsOf c words
unfolding files_command
files_to t n names words c are e = elim (by_names (λ files. RunSources files (record { task = t; budget = n })) (λ name. RunFile name (record { task = t; budget = n })) c names e) [
  | inl h ↦ subst (λ d. AreWordsOf d words) (sym h.0) (are, h.1)
  | inr h ↦ subst (λ d. AreWordsOf d words) (sym h.2) (subst (λ files. AreRunWords t n files words) h.1 are, h.3)
]

files_sources : (names : List (List ℕ)) (request : Request) → AreSources names → files_command names request ≡ Some (RunSources names request)
unfolding files_command
files_sources names request h = of_sources_is names (RunSources names request) (option_map (λ name. RunFile name request) (image_name names)) h

files_file : (name : List ℕ) (request : Request) → IsImage name → files_command (name ∷ []) request ≡ Some (RunFile name request)
unfolding files_command
files_file name request h = of_file_is name (Some (RunSources (name ∷ []) request)) (λ file. RunFile file request) h

run_words : (rest : List (List ℕ)) (c : Command) → run_command Run rest ≡ Some c → AreWordsOf c (codes "run" ∷ rest)
run_words rest c e = let p = run_to Run rest c e in files_to Run p.budget p.names (codes "run" ∷ rest) c (p.word, ap (λ l. codes "run" ∷ l) p.is, p.number) p.files

walk_words : (rest : List (List ℕ)) (c : Command) → run_command Walk rest ≡ Some c → AreWordsOf c (codes "walk" ∷ rest)
walk_words rest c e = let p = run_to Walk rest c e in files_to Walk p.budget p.names (codes "walk" ∷ rest) c (p.word, ap (λ l. codes "walk" ∷ l) p.is, p.number) p.files

force_words : (rest : List (List ℕ)) (c : Command) → force_command rest ≡ Some c → AreWordsOf c (codes "force" ∷ rest)
force_words rest c e =
    let p = force_to rest c e in
    let q = run_to (Force p.frame) p.words c p.run in
    let is : rest ≡ q.names ++ q.word ∷ p.word ∷ [] = p.is ∙ ap (λ l. l ++ p.word ∷ []) q.is ∙ append_assoc q.names (q.word ∷ []) (p.word ∷ []) in
    files_to (Force p.frame) q.budget q.names (codes "force" ∷ rest) c (q.word, p.word, ap (λ l. codes "force" ∷ l) is, q.number, p.number) q.files

-- ---- `threads`

schedules : (name : List ℕ) → (is_schedule name ≡ true) ↔ IsSchedule name
schedules name = let e = ends_is Decides-eqb name (codes ".sched") (is_schedule name) refl in (λ t. (take (length name - 6) name, e.0 t), λ s. e.1 s.0 s.1)

one_image : (files : List (List ℕ)) → are_sources files ≡ false → is_some (image_name files) ≡ true → (name : List ℕ) × (files ≡ name ∷ []) × IsImage name
one_image [] p e = absurd (false≢true e)
one_image (name ∷ []) p e = go (nat_le 1 (length name)) refl e
  where
    go : (t : Bool) → nat_le 1 (length name) ≡ t → is_some (if t then Some name else None) ≡ true → (other : List ℕ) × (name ∷ [] ≡ other ∷ []) × IsImage other
    go true q e = (name, refl, record { some = leb-true 1 (length name) q; no_source = λ s. true≢false (sym ((sources (name ∷ [])).1 (alone name s)) ∙ p) })
    go false q e = absurd (false≢true e)
one_image (name ∷ more ∷ names) p e = absurd (false≢true e)

program_to : (files : List (List ℕ)) → are_program files ≡ true → AreProgram files
unfolding are_program
program_to files e = go (are_sources files) refl e
  where
    go : (t : Bool) → are_sources files ≡ t → (t || is_some (image_name files)) ≡ true → AreProgram files
    go true p e = inl ((sources files).0 p)
    go false p e = inr (one_image files p e)

program_from : (files : List (List ℕ)) → AreProgram files → are_program files ≡ true
unfolding are_program
program_from files h = elim h [
  | inl s ↦ ap (λ t. t || is_some (image_name files)) ((sources files).1 s)
  | inr i ↦
      ap (λ l. are_sources l || is_some (image_name l)) i.1
      ∙ ap (λ t. t || is_some (image_name (i.0 ∷ []))) (no_sources i.0 i.2)
      ∙ ap (λ t. is_some (if t then Some i.0 else None)) (le-leb 1 (length i.0) i.2.some)
]

files_words : (names : List (List ℕ)) (word : List ℕ) (n : ℕ) (rest : List (List ℕ)) (c : Command) → rest ≡ names ++ word ∷ [] → IsBudget word n → thread_files names n ≡ Some c
    → AreWordsOf c (codes "threads" ∷ rest)
unfolding thread_files
files_words [] word n rest c is b e = absurd (none-some c e)
files_words (first ∷ more) word n rest c is b e =
    let parts = last_of first more in
    go parts.0 parts.1 parts.2 (is_schedule parts.1 && are_program parts.0) refl (sym (files_push parts.0 parts.1 n) ∙ ap (λ l. thread_files l n) (sym parts.2) ∙ e)
  where
    go : (files : List (List ℕ)) (schedule : List ℕ) → first ∷ more ≡ files ++ schedule ∷ [] → (t : Bool) → (is_schedule schedule && are_program files) ≡ t
        → (if t then Some (RunThreads (files ++ schedule ∷ []) n) else None) ≡ Some c → AreWordsOf c (codes "threads" ∷ rest)
    go files schedule at false q e = absurd (none-some c e)
    go files schedule at true q e =
        let p = and_parts (is_schedule schedule) (are_program files) q in
        let all : rest ≡ files ++ schedule ∷ word ∷ [] = is ∙ ap (λ l. l ++ word ∷ []) at ∙ append_assoc files (schedule ∷ []) (word ∷ []) in
        subst (λ d. AreWordsOf d (codes "threads" ∷ rest)) (same_Some (RunThreads (files ++ schedule ∷ []) n) c e)
        (files, schedule, word, refl, ap (λ l. codes "threads" ∷ l) all, program_to files p.1, (schedules schedule).0 p.0, b)

threads_words : (rest : List (List ℕ)) (c : Command) → threads_command rest ≡ Some c → AreWordsOf c (codes "threads" ∷ rest)
unfolding threads_command
threads_words [] c e = absurd (none-some c e)
threads_words (first ∷ rest) c e =
    let parts = last_of first rest in
    go parts.0 parts.1 parts.2 (budget_of parts.1) refl (sym (threads_push parts.0 parts.1) ∙ ap threads_command (sym parts.2) ∙ e)
  where
    go : (names : List (List ℕ)) (word : List ℕ) → first ∷ rest ≡ names ++ word ∷ [] → (o : Option ℕ) → budget_of word ≡ o → with_elements names o ≡ Some c
        → AreWordsOf c (codes "threads" ∷ first ∷ rest)
    go names word is None q e = absurd (none-some c e)
    go names word is (Some n) q e = files_words names word n (first ∷ rest) c is ((budget word n).0 q) e

threads_from : (files : List (List ℕ)) (schedule number : List ℕ) (n : ℕ) → AreProgram files → IsSchedule schedule → IsBudget number n
    → threads_command (files ++ schedule ∷ number ∷ []) ≡ Some (RunThreads (files ++ schedule ∷ []) n)
threads_from files schedule number n p s b =
    ap threads_command (sym (append_assoc files (schedule ∷ []) (number ∷ [])))
    ∙ threads_push (files ++ schedule ∷ []) number ∙ ap (with_elements (files ++ schedule ∷ [])) ((budget number n).1 b)
    ∙ files_push files schedule n
    ∙ ap (λ t. if t then Some (RunThreads (files ++ schedule ∷ []) n) else None) (and_from (is_schedule schedule) (are_program files) ((schedules schedule).1 s) (program_from files p))

-- ---- by the first word

-- the command by the first word, from one of the names on
abbrev by_threads : List ℕ → List (List ℕ) → Option Command
by_threads word rest = if bytes_eq word (codes "threads") then threads_command rest else None

abbrev by_gnu : List ℕ → List (List ℕ) → Option Command
by_gnu word rest = if bytes_eq word (codes "gnu") then gnu_command rest else by_threads word rest

abbrev by_force : List ℕ → List (List ℕ) → Option Command
by_force word rest = if bytes_eq word (codes "force") then force_command rest else by_gnu word rest

abbrev by_walk : List ℕ → List (List ℕ) → Option Command
by_walk word rest = if bytes_eq word (codes "walk") then run_command Walk rest else by_force word rest

abbrev by_gen : List ℕ → List (List ℕ) → Option Command
by_gen word rest = if bytes_eq word (codes "gen") then gen_command rest else by_walk word rest

abbrev by_run : List ℕ → List (List ℕ) → Option Command
by_run word rest = if bytes_eq word (codes "run") then run_command Run rest else by_gen word rest

abbrev by_check : List ℕ → List (List ℕ) → Option Command
by_check word rest = if bytes_eq word (codes "check") then check_command rest else by_run word rest

abbrev by_build : List ℕ → List (List ℕ) → Option Command
by_build word rest = if bytes_eq word (codes "build") then build_command rest else by_check word rest

by_word : (word name : List ℕ) (rest : List (List ℕ)) (found other : Option Command) (c : Command) → (found ≡ Some c → AreWordsOf c (name ∷ rest)) → (other ≡ Some c → AreWordsOf c (word ∷ rest))
    → (if bytes_eq word name then found else other) ≡ Some c → AreWordsOf c (word ∷ rest)
by_word word name rest found other c f g e = go (bytes_eq word name) refl e
  where
    go : (t : Bool) → bytes_eq word name ≡ t → (if t then found else other) ≡ Some c → AreWordsOf c (word ∷ rest)
    go true p e = subst (λ w. AreWordsOf c (w ∷ rest)) (sym ((bytes_eq-Decides word name).0 p)) (f e)
    go false p e = g e

words_of : (words : List (List ℕ)) (c : Command) → command_of words ≡ Some c → AreWordsOf c words
unfolding command_of
words_of [] c e = absurd (none-some c e)
words_of (word ∷ rest) c e =
    let threads = by_word word (codes "threads") rest (threads_command rest) None c (threads_words rest c) (λ f. absurd (none-some c f)) in
    let gnu = by_word word (codes "gnu") rest (gnu_command rest) (by_threads word rest) c (gnu_to rest c) threads in
    let force = by_word word (codes "force") rest (force_command rest) (by_gnu word rest) c (force_words rest c) gnu in
    let walk = by_word word (codes "walk") rest (run_command Walk rest) (by_force word rest) c (walk_words rest c) force in
    let gen = by_word word (codes "gen") rest (gen_command rest) (by_walk word rest) c (gen_to rest c) walk in
    let run = by_word word (codes "run") rest (run_command Run rest) (by_gen word rest) c (run_words rest c) gen in
    let check = by_word word (codes "check") rest (check_command rest) (by_run word rest) c (check_to rest c) run in
    let build = by_word word (codes "build") rest (build_command rest) (by_check word rest) c (build_to rest c) check in
    by_word word (codes "flat") rest (flat_command rest) (by_build word rest) c (flat_to rest c) build e

run_command_of : (t : Task) (n : ℕ) (names words : List (List ℕ)) (c : Command) → AreRunWords t n names words → files_command names (record { task = t; budget = n }) ≡ Some c → command_of words ≡ Some c
unfolding command_of
run_command_of Run n names words c h e = ap command_of h.1 ∙ run_from Run names h.0 n c h.2 e
run_command_of Walk n names words c h e = ap command_of h.1 ∙ run_from Walk names h.0 n c h.2 e
run_command_of (Force frame) n names words c h e =
    ap command_of h.2 ∙ ap force_command (sym (append_assoc names (h.0 ∷ []) (h.1 ∷ []))) ∙ force_from (names ++ h.0 ∷ []) h.1 frame c h.4 (run_from (Force frame) names h.0 n c h.3 e)

command_is : (c : Command) (words : List (List ℕ)) → AreWordsOf c words → command_of words ≡ Some c
unfolding command_of
command_is (FlatFile name n) words h = ap command_of h.1 ∙ flat_from name h.0 n h.2 h.3
command_is (BuildSources names) words h = ap command_of h.0 ∙ build_from names h.1
command_is (CheckFile name) words h = ap command_of h.0 ∙ check_from name h.1
command_is (CheckSources names) words h = ap command_of h.0 ∙ check_sources_from names h.1
command_is (RunFile name request) words h = run_command_of request.task request.budget (name ∷ []) words (RunFile name request) h.0 (files_file name request h.1)
command_is (RunSources names request) words h = run_command_of request.task request.budget names words (RunSources names request) h.0 (files_sources names request h.1)
command_is (RunGnu name n) words h = ap command_of h.1 ∙ gnu_from name h.0 n h.2 h.3
command_is (RunThreads names n) words h = ap command_of h.4 ∙ threads_from h.0 h.1 h.2 n h.5 h.6 h.7 ∙ ap (λ l. Some (RunThreads l n)) (sym h.3)
command_is (GenerateProgram k m) words h = ap command_of h.2 ∙ gen_from h.0 h.1 k m h.3 h.4 h.5 h.6 h.7

none_of : (words : List (List ℕ)) → ((c : Command) → AreWordsOf c words → ⊥) → command_of words ≡ None
none_of words h = go (command_of words) refl
  where
    go : (o : Option Command) → command_of words ≡ o → command_of words ≡ None
    go None e = e
    go (Some c) e = absurd (h c (words_of words c e))

pub commands : WordsAreCommands
commands = record {
  is = λ words c. (words_of words c, command_is c words);
  none = λ words. (λ e c h. none-some c (sym e ∙ command_is c words h), none_of words);
}
