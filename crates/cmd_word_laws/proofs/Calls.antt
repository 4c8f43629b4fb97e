-- What any call of the program has done.
use Rattle.std.specs.Prelude.{IfSome, IsErr, take, drop, length, ◌↔◌}
use Rattle.std.specs.List.{fold}
use Rattle.std.proofs.Common.{◌≡◌, ◌⊎◌, inl, inr, ℕ, ◌+◌, ◌-◌, ◌^◌, ◌<◌, ◌≤◌, min, true≢false, List, [], ◌∷◌, ◌++◌, Option, Result, Some, None, Ok, Err, refl, sym, ap, subst, ◌∙◌, arith, append_assoc, length-append, take-append-drop, take_all, take_at, le_refl}
use Rattle.std.proofs.lemmas.Bool.{cases_lt}
use Rattle.eh_port.specs.Causes.{Rose}
use Rattle.eh_port.specs.FileList.{answer_of}
use Rattle.eh_port.specs.declared.files.FileAnswer.{FileAnswer}
use Rattle.eh_port.specs.declared.files.FileAnswer.TheVariants.{Found, Missing, TooLong}
use Rattle.elf_image.specs.Image.{Image, image_of}
use Rattle.elf_image.specs.declared.fault.ImageFault.{ImageFault}
use Rattle.frame_check.specs.Accepts.{IsAccepted}
use Rattle.cmd_input.specs.Accepting.{IsRefusedBy, IsUnaccepted}
use Rattle.cmd_input.specs.AsksFor.{command_files, and_after, up_to_unavailable}
use Rattle.cmd_input.specs.Building.{found_text, files_of}
use Rattle.cmd_top.specs.cmd_perform.FlatReport.{IsTooLarge}
use Rattle.cmd_input.specs.Loading.{Report}
use Rattle.cmd_top.specs.cmd_perform.Report.{Reports, IfTold, LacksFile, Refuses}
use Rattle.cmd_input.specs.Sources.{NamedText, and_rest, all_answers}
use Rattle.cmd_top.specs.cmd_perform.Unfit.{RefusedHeld}
use Rattle.cmd_input.specs.Words.{Command, FlatFile, BuildSources, CheckFile, CheckSources, RunFile, RunSources, RunGnu, RunThreads, GenerateProgram, command_of}
use Rattle.cmd_top.specs.cmd_perform.Yields.{DoesPart, RefusedOf}
use Rattle.cmd_answers.specs.Files.{IsUnavailable}
use Rattle.cmd_word_laws.specs.Answers.{IsConclusive}
use Rattle.cmd_word_laws.specs.Calls.{Call, IsCall, WroteFirst, WentUp, IsSameCount, names_in, IsLacking, SomeAreLacking, AllAreHeld, AskedFor, AreUnaccepted, CallsAreTold}
use Rattle.cmd_word_laws.proofs.Answers.{conclusive, told_of, reported}

-- ---- what was written

first_part : (Says : Report → Type 0) (before now : List ℕ) → DoesPart Says (Some before) (Some now) → WroteFirst Says before now
first_part Says before now (inl kept) = inl kept
first_part Says before now (inr part) = inr (record {
  report = part.0;
  is = part.1;
  written = take part.2.0 part.0.text;
  rest = drop part.2.0 part.0.text;
  parts = sym (take-append-drop part.2.0 part.0.text);
  wrote = part.2.1;
})

abbrev partly : Call → List (List ℕ × List ℕ) → List ℕ → Option (List ℕ) → Type 0
partly c held bytes left = DoesPart (Reports (command_of c.words) held bytes) c.old.output c.new.output

part : (c : Call) (held : List (List ℕ × List ℕ)) (bytes before now : List ℕ)
    → IsCall c → c.files.held ≡ Some held → c.old.input ≡ Some bytes → c.old.output ≡ Some before → c.new.output ≡ Some now
    → WroteFirst (Reports (command_of c.words) held bytes) before now
part c held bytes before now h e f g k =
    let files_told = subst (λ o. IfTold (command_of c.words) o c.old.input c.new.input (partly c)) e h.part in
    let input_told = subst (λ o. IfTold (command_of c.words) (Some held) o c.new.input (partly c)) f files_told in
    let done : partly c held bytes c.new.input = told_of (command_of c.words) held bytes c.new.input (partly c) input_told in
    let from : DoesPart (Reports (command_of c.words) held bytes) (Some before) c.new.output =
    subst (λ o. DoesPart (Reports (command_of c.words) held bytes) o c.new.output) g done in
    first_part (Reports (command_of c.words) held bytes) before now (subst (λ o. DoesPart (Reports (command_of c.words) held bytes) (Some before) o) k from)

-- ---- counts of faults

went : (last before now : ℕ) → min (before + 1) last ≤ now → (before < now) ⊎ (last ≤ now)
went last before now h = elim (cases_lt before now) [
  | inl up ↦ inl up
  | inr same ↦ inr (omega (arith, h, same))
]

went_up : (before now : ℕ) → Rose before now → WentUp before now
went_up before now h = went (2 ^ 64 - 1) before now h

has_not : (last before now : ℕ) → now ≤ before → now < last → min (before + 1) last ≤ now → ⊥
has_not last before now same below h = omega (arith, same, below, h)

not_up : (before now : ℕ) → IsSameCount before now → Rose before now → ⊥
not_up before now s h = has_not (2 ^ 64 - 1) before now s.is_same s.below h

either_up : (a b c d : ℕ) → Rose a b ⊎ Rose c d → WentUp a b ⊎ WentUp c d
either_up a b c d (inl h) = inl (went_up a b h)
either_up a b c d (inr h) = inr (went_up c d h)

-- ---- files that aren't there

is_one : (answer : FileAnswer) → IsUnavailable answer → (answer ≡ Missing) ⊎ (answer ≡ TooLong)
is_one (Found bytes) h = absurd h
is_one Missing h = inl refl
is_one TooLong h = inr refl

one_is : (answer : FileAnswer) → (answer ≡ Missing) ⊎ (answer ≡ TooLong) → IsUnavailable answer
one_is answer (inl e) = subst IsUnavailable (sym e) tt
one_is answer (inr e) = subst IsUnavailable (sym e) tt

of_one : (held : List (List ℕ × List ℕ)) (name : List ℕ) → IsUnavailable (answer_of held name 4194304) ↔ (IsLacking held name ⊎ ⊥)
of_one held name = (
  λ h. inl (is_one (answer_of held name 4194304) h),
  λ s. elim s [
    | inl l ↦ one_is (answer_of held name 4194304) l
    | inr never ↦ absurd never
  ],
)

from_rest : (name : List ℕ) (answer : FileAnswer) (rest : Result (List NamedText) (List ℕ)) → IsErr (and_rest (found_text name answer) rest)
    → ((answer ≡ Missing) ⊎ (answer ≡ TooLong)) ⊎ IsErr rest
from_rest name (Found bytes) (Ok all) h = absurd (true≢false (sym h))
from_rest name (Found bytes) (Err line) h = inr refl
from_rest name Missing rest h = inl (inl refl)
from_rest name TooLong rest h = inl (inr refl)

to_rest : (name : List ℕ) (answer : FileAnswer) (rest : Result (List NamedText) (List ℕ)) → ((answer ≡ Missing) ⊎ (answer ≡ TooLong)) ⊎ IsErr rest
    → IsErr (and_rest (found_text name answer) rest)
to_rest name (Found bytes) (Ok all) (inl lacks) = absurd (one_is (Found bytes) lacks)
to_rest name (Found bytes) (Ok all) (inr h) = absurd (true≢false (sym h))
to_rest name (Found bytes) (Err line) h = refl
to_rest name Missing rest h = refl
to_rest name TooLong rest h = refl

some_lack : (held : List (List ℕ × List ℕ)) (names : List (List ℕ)) → IsErr (files_of held names) → SomeAreLacking held names
unfolding all_answers
some_lack held [] h = absurd (true≢false (sym h))
some_lack held (name ∷ names) h = elim (from_rest name (answer_of held name 4194304) (files_of held names) h) [
  | inl l ↦ inl l
  | inr more ↦ inr (some_lack held names more)
]

lack_some : (held : List (List ℕ × List ℕ)) (names : List (List ℕ)) → SomeAreLacking held names → IsErr (files_of held names)
unfolding all_answers
lack_some held [] h = absurd h
lack_some held (name ∷ names) (inl l) = to_rest name (answer_of held name 4194304) (files_of held names) (inl l)
lack_some held (name ∷ names) (inr more) = to_rest name (answer_of held name 4194304) (files_of held names) (inr (lack_some held names more))

lacks : (command : Option Command) (held : List (List ℕ × List ℕ)) → LacksFile command held ↔ SomeAreLacking held (names_in command)
lacks None held = (λ h. h, λ h. h)
lacks (Some (FlatFile name budget)) held = of_one held name
lacks (Some (BuildSources names)) held = (some_lack held names, lack_some held names)
lacks (Some (CheckFile name)) held = of_one held name
lacks (Some (CheckSources names)) held = (some_lack held names, lack_some held names)
lacks (Some (RunFile name request)) held = of_one held name
lacks (Some (RunSources names request)) held = (some_lack held names, lack_some held names)
lacks (Some (RunGnu name budget)) held = (some_lack held (name ∷ []), lack_some held (name ∷ []))
lacks (Some (RunThreads names budget)) held = (some_lack held names, lack_some held names)
lacks (Some (GenerateProgram number functions)) held = (λ h. h, λ h. h)

lacking : (c : Call) (held : List (List ℕ × List ℕ)) → IsCall c → c.files.held ≡ Some held → IsConclusive c.status → (c.status ≡ 10) ↔ SomeAreLacking held (names_in (command_of c.words))
lacking c held h e k =
    let is : (c.status ≡ 10) ↔ LacksFile (command_of c.words) held =
    subst (λ o. IfSome o (λ files. (c.status ≡ 10) ↔ LacksFile (command_of c.words) files)) e (h.missing (conclusive c.status k)) in
    (λ s. (lacks (command_of c.words) held).0 (is.0 s), λ s. is.1 ((lacks (command_of c.words) held).1 s))

-- ---- refusals

IsOne : Result Image ImageFault → Type 0
IsOne (Ok image) = Unit {0}
IsOne (Err fault) = ⊥

image_in : Image → Result Image ImageFault → Image
image_in other (Ok image) = image
image_in other (Err fault) = other

unaccepted_by : (read : Result Image ImageFault) → IsRefusedBy read ↔ ((image : Image) → read ≡ Ok image → IsAccepted image → ⊥)
unfolding IsOne image_in
unaccepted_by (Ok image) = (λ h other e accepted. h (subst IsAccepted (sym (ap (image_in image) e)) accepted), λ h. h image refl)
unaccepted_by (Err fault) = (λ h image e accepted. subst IsOne (sym e) tt, λ h. tt)

refusal_of : (c : Call) (held : List (List ℕ × List ℕ)) → IsCall c → c.files.held ≡ Some held → IsConclusive c.status → Refuses (command_of c.words) held c.old.input c.status
refusal_of c held h e k = subst (λ o. IfSome o (λ files. Refuses (command_of c.words) files c.old.input c.status)) e (h.refused (conclusive c.status k))

of_held : (Unfit : List ℕ → Type 0) (answer : FileAnswer) (bytes : List ℕ) (input : Option (List ℕ)) (status : ℕ) → answer ≡ Found bytes
    → RefusedHeld (RefusedOf Unfit) answer input status → (status ≡ 3) ↔ Unfit bytes
of_held Unfit answer bytes input status e h = subst (λ (a : FileAnswer). RefusedHeld (RefusedOf Unfit) a input status) e h

unaccepted : (c : Call) (held : List (List ℕ × List ℕ)) (name bytes : List ℕ) → answer_of held name 4194304 ≡ Found bytes
    → RefusedHeld (RefusedOf IsUnaccepted) (answer_of held name 4194304) c.old.input c.status → (c.status ≡ 3) ↔ AreUnaccepted bytes
unaccepted c held name bytes e h =
    let is : (c.status ≡ 3) ↔ IsUnaccepted bytes = of_held IsUnaccepted (answer_of held name 4194304) bytes c.old.input c.status e h in
    (λ s. (unaccepted_by (image_of bytes)).0 (is.0 s), λ s. is.1 ((unaccepted_by (image_of bytes)).1 s))

-- ---- files that were asked for

named : (command : Option Command) → command_files command ≡ names_in command
named None = refl
named (Some (FlatFile name budget)) = refl
named (Some (BuildSources names)) = refl
named (Some (CheckFile name)) = refl
named (Some (CheckSources names)) = refl
named (Some (RunFile name request)) = refl
named (Some (RunSources names request)) = refl
named (Some (RunGnu name budget)) = refl
named (Some (RunThreads names budget)) = refl
named (Some (GenerateProgram number functions)) = refl

all_held : (held : List (List ℕ × List ℕ)) (names : List (List ℕ)) → AllAreHeld held names → up_to_unavailable held names ≡ length names
all_held held [] h = refl
all_held held (name ∷ names) h =
    let here : up_to_unavailable held (name ∷ names) ≡ 1 + up_to_unavailable held names = ap (λ (a : FileAnswer). and_after a (up_to_unavailable held names)) h.0.1 in
    omega (arith, here, all_held held names h.1)

ends_here : (answer : FileAnswer) (after : ℕ) → (answer ≡ Missing) ⊎ (answer ≡ TooLong) → and_after answer after ≡ 1
ends_here answer after (inl e) = ap (λ (a : FileAnswer). and_after a after) e
ends_here answer after (inr e) = ap (λ (a : FileAnswer). and_after a after) e

first_lacking : (held : List (List ℕ × List ℕ)) (before after : List (List ℕ)) (name : List ℕ) → AllAreHeld held before → IsLacking held name
    → up_to_unavailable held (before ++ name ∷ after) ≡ length before + 1
first_lacking held [] after name h l = ends_here (answer_of held name 4194304) (up_to_unavailable held after) l
first_lacking held (one ∷ before) after name h l =
    let here : up_to_unavailable held (one ∷ (before ++ name ∷ after)) ≡ 1 + up_to_unavailable held (before ++ name ∷ after) =
    ap (λ (a : FileAnswer). and_after a (up_to_unavailable held (before ++ name ∷ after))) h.0.1 in
    omega (arith, here, first_lacking held before after name h.1 l)

taken_up_to : (before after : List (List ℕ)) (name : List ℕ) → take (length before + 1) (before ++ name ∷ after) ≡ before ++ name ∷ []
taken_up_to before after name =
    ap (take (length before + 1)) (sym (append_assoc before (name ∷ []) after))
    ∙ take_at (before ++ name ∷ []) after (length before + 1) (length-append before (name ∷ []))

asked_for : (c : Call) (held : List (List ℕ × List ℕ)) (wanted : List (List ℕ)) (n : ℕ) → IsCall c → c.files.held ≡ Some held → IsConclusive c.status
    → up_to_unavailable held (names_in (command_of c.words)) ≡ n → take n (names_in (command_of c.words)) ≡ wanted → AskedFor c wanted
asked_for c held wanted n h e k up taken =
    let names : List (List ℕ) = command_files (command_of c.words) in
    let count : h.asked.count ≡ up_to_unavailable held names =
    subst (λ o. IfSome o (λ files. h.asked.count ≡ up_to_unavailable files (command_files (command_of c.words)))) e (h.asked.whole (conclusive c.status k)) in
    let same : names ≡ names_in (command_of c.words) = named (command_of c.words) in
    h.asked.is
    ∙ ap (λ m. fold c.files.with_name c.files.asked (take m names)) (count ∙ ap (up_to_unavailable held) same ∙ up)
    ∙ ap (λ l. fold c.files.with_name c.files.asked (take n l)) same
    ∙ ap (fold c.files.with_name c.files.asked) taken

-- ---- all

pub calls : CallsAreTold
calls = record {
  part = part;
  read = λ c h e. either_up _ _ _ _ (h.read e);
  write = λ c h e. went_up _ _ (h.write e);
  memory = λ c h e. ((h.memory e).0, (h.memory e).1.input, (h.memory e).1.output);
  whole = λ c held bytes h e f files input output. elim (h.complete (not_up _ _ files) (not_up _ _ input) (not_up _ _ output)) [
    | inl none_left ↦ inl none_left
    | inr told ↦ inr (reported c.words c.files held bytes c.old c.new c.status told e f)
  ];
  most = λ c h. h.bounded;
  lacking = lacking;
  unaccepted = λ c held name bytes h e k is found.
      unaccepted c held name bytes found (subst (λ o. Refuses o held c.old.input c.status) is (refusal_of c held h e k));
  not_run = λ c held name bytes budget h e k is found. elim is [
    | inl run ↦ unaccepted c held name bytes found (subst (λ o. Refuses o held c.old.input c.status) run (refusal_of c held h e k))
    | inr walk ↦ unaccepted c held name bytes found (subst (λ o. Refuses o held c.old.input c.status) walk (refusal_of c held h e k))
  ];
  too_large = λ c held name bytes budget h e k is found.
      of_held IsTooLarge (answer_of held name 4194304) bytes c.old.input c.status found (subst (λ o. Refuses o held c.old.input c.status) is (refusal_of c held h e k));
  asked = λ c held h e k all.
      asked_for c held (names_in (command_of c.words)) (length (names_in (command_of c.words))) h e k (all_held held (names_in (command_of c.words)) all)
      (take_all (length (names_in (command_of c.words))) (names_in (command_of c.words)) (le_refl (length (names_in (command_of c.words)))));
  asked_up_to = λ c held before after name h e k is all l.
      asked_for c held (before ++ name ∷ []) (length before + 1) h e k
      (ap (up_to_unavailable held) is ∙ first_lacking held before after name all l)
      (ap (take (length before + 1)) is ∙ taken_up_to before after name);
}
