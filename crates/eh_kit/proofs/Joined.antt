-- Pieces of text that are added one after the other are the lines of a function. Each lemma stands first over any pieces.
use Rattle.std.proofs.Common.{◌≡◌, ℕ, ◌+◌, add-one, zero-add, ap, map, cond, List, [], ◌∷◌, ◌++◌, Result, Ok, Err, append_assoc, append-nil, ◌∙◌, sym, refl}
use Rattle.std.specs.Prelude.{OnOk, codes, flat_map, is_ok}
use Rattle.std.specs.List.{range_with_len}
use Rattle.std.proofs.lemmas.List.Concat.{flat_map-append}
use Rattle.std.proofs.lemmas.List.FromFn.{map-range_with_len_more}
use Rattle.eh_kit.specs.declared.program.FunctionName.{FunctionName}
use Rattle.eh_kit.specs.declared.program.FunctionName.TheVariants.{Numbered}
use Rattle.eh_kit.specs.declared.program.FunctionKind.{FunctionKind}
use Rattle.eh_kit.specs.declared.program.Caller.{Caller}
use Rattle.eh_kit.specs.Program.{random_number, next_number, nth_caller, kind_of, callee_of, main_function, callers}
use Rattle.eh_kit.specs.ProgramText.{line_text, caller_lines, boom_lines, generated_text, name_text, lines_text, call_lines, after_catch, caught_lines, scope_lines}

call_shape : (out n m nl typed isfun start save push at call after pops : List ℕ)
    → (((((((((((out ++ typed) ++ n) ++ (isfun ++ nl)) ++ n) ++ (start ++ (nl ++ (save ++ (nl ++ (push ++ (nl ++ at))))))) ++ n) ++ call) ++ m) ++ (nl ++ after)) ++ n) ++ (pops ++ nl))
    ≡ out ++ flat_map (λ (line : List ℕ). line ++ nl) ((typed ++ n ++ isfun) ∷ (n ++ start) ∷ save ∷ push ∷ (at ++ n ++ call ++ m) ∷ (after ++ n ++ pops) ∷ [])
call_shape out n m nl typed isfun start save push at call after pops = simp (append_assoc, append-nil)

call_joined : (out : List ℕ) (name callee : FunctionName)
    → (((((((((((out ++ codes ".type ") ++ name_text name) ++ codes ", %function\n") ++ name_text name) ++ codes ": .fnstart\n.save {r4, lr}\npush {r4, lr}\n.Lb") ++ name_text name) ++ codes ": bl ") ++ name_text callee) ++ codes "\n.Le") ++ name_text name) ++ codes ": pop {r4, pc}\n")
    ≡ out ++ lines_text (call_lines name callee)
unfolding call_lines
call_joined out name callee =
    call_shape out (name_text name) (name_text callee) (codes "\n") (codes ".type ") (codes ", %function") (codes ": .fnstart") (codes ".save {r4, lr}") (codes "push {r4, lr}")
    (codes ".Lb") (codes ": bl ") (codes ".Le") (codes ": pop {r4, pc}")

pub called : {E : Type 0} (r : Result (Unit {0}) E) (name callee : FunctionName) (out a b c d e f : List ℕ)
    → a ≡ out ++ codes ".type " ++ name_text name
    → b ≡ a ++ codes ", %function\n" ++ name_text name
    → c ≡ b ++ codes ": .fnstart\n.save {r4, lr}\npush {r4, lr}\n.Lb" ++ name_text name
    → d ≡ c ++ codes ": bl " ++ name_text callee
    → e ≡ d ++ codes "\n.Le" ++ name_text name
    → f ≡ cond (is_ok r) (e ++ codes ": pop {r4, pc}\n") e
    → OnOk r (f ≡ out ++ lines_text (call_lines name callee))
called (Ok u) name callee out a b c d e f ea eb ec ed ee ef = rw (ef, ee, ed, ec, eb, ea) (call_joined out name callee)
called (Err x) name callee out a b c d e f ea eb ec ed ee ef = tt

caught_shape : (out n nl pad begins ends : List ℕ) (after : List (List ℕ))
    → (((out ++ pad) ++ n) ++ (begins ++ (nl ++ (ends ++ nl)))) ++ flat_map (λ (line : List ℕ). line ++ nl) after
    ≡ out ++ flat_map (λ (line : List ℕ). line ++ nl) ((pad ++ n ++ begins) ∷ ends ∷ after)
caught_shape out n nl pad begins ends after = simp append_assoc

caught_joined : (out : List ℕ) (name : FunctionName)
    → (((out ++ codes ".Lp") ++ name_text name) ++ codes ": bl __cxa_begin_catch\nbl __cxa_end_catch\n") ++ lines_text (after_catch name) ≡ out ++ lines_text (caught_lines name)
unfolding caught_lines
caught_joined out name = caught_shape out (name_text name) (codes "\n") (codes ".Lp") (codes ": bl __cxa_begin_catch") (codes "bl __cxa_end_catch") (after_catch name)

pub caught : {E : Type 0} (r : Result (Unit {0}) E) (name : FunctionName) (out a b c after : List ℕ)
    → after ≡ lines_text (after_catch name)
    → a ≡ out ++ codes ".Lp" ++ name_text name
    → b ≡ a ++ codes ": bl __cxa_begin_catch\nbl __cxa_end_catch\n"
    → c ≡ cond (is_ok r) (b ++ after) b
    → OnOk r (c ≡ out ++ lines_text (caught_lines name))
caught (Ok u) name out a b c after eo ea eb ec = rw (ec, eb, ea, eo) (caught_joined out name)
caught (Err x) name out a b c after eo ea eb ec = tt

scope_shape : (out n nl index handler half begin mark comma minus word prel what : List ℕ)
    → ((((((((((((((out ++ (index ++ (nl ++ (handler ++ (nl ++ half))))) ++ n) ++ begin) ++ n) ++ mark) ++ comma) ++ n) ++ minus) ++ n) ++ (nl ++ word)) ++ n) ++ prel) ++ what) ++ nl)
    ≡ out ++ flat_map (λ (line : List ℕ). line ++ nl) (index ∷ handler ∷ (half ++ n ++ begin ++ n ++ mark ++ comma ++ n ++ minus ++ n) ∷ (word ++ n ++ prel ++ what) ∷ [])
scope_shape out n nl index handler half begin mark comma minus word prel what = simp (append_assoc, append-nil)

scope_joined : (out : List ℕ) (name : FunctionName) (mark what : List ℕ)
    → ((((((((((((((out ++ codes ".personalityindex 0\n.handlerdata\n.half .Le") ++ name_text name) ++ codes "-.Lb") ++ name_text name) ++ mark) ++ codes ", .Lb") ++ name_text name) ++ codes "-") ++ name_text name) ++ codes "\n.word .Lp") ++ name_text name) ++ codes "(prel31), ") ++ what) ++ codes "\n")
    ≡ out ++ lines_text (scope_lines name mark what)
unfolding scope_lines
scope_joined out name mark what =
    scope_shape out (name_text name) (codes "\n") (codes ".personalityindex 0") (codes ".handlerdata") (codes ".half .Le") (codes "-.Lb") mark (codes ", .Lb") (codes "-")
    (codes ".word .Lp") (codes "(prel31), ") what

pub scope_told : {E : Type 0} (r : Result (Unit {0}) E) (name : FunctionName) (mark what out a b c d e f g h i : List ℕ)
    → a ≡ out ++ codes ".personalityindex 0\n.handlerdata\n.half .Le" ++ name_text name
    → b ≡ a ++ codes "-.Lb" ++ name_text name
    → c ≡ b ++ mark
    → d ≡ c ++ codes ", .Lb" ++ name_text name
    → e ≡ d ++ codes "-" ++ name_text name
    → f ≡ e ++ codes "\n.word .Lp" ++ name_text name
    → g ≡ f ++ codes "(prel31), "
    → h ≡ g ++ what
    → i ≡ cond (is_ok r) (h ++ codes "\n") h
    → OnOk r (i ≡ out ++ lines_text (scope_lines name mark what))
scope_told (Ok u) name mark what out a b c d e f g h i ea eb ec ed ee ef eg eh ei = rw (ei, eh, eg, ef, ee, ed, ec, eb, ea) (scope_joined out name mark what)
scope_told (Err x) name mark what out a b c d e f g h i ea eb ec ed ee ef eg eh ei = tt

pub lines-append : (p q : List (List ℕ)) → lines_text (p ++ q) ≡ lines_text p ++ lines_text q
lines-append p q = flat_map-append line_text p q

-- lines after lines
pub after_lines : {E : Type 0} (r : Result (Unit {0}) E) (out a b : List ℕ) (p q : List (List ℕ))
    → a ≡ out ++ lines_text p → OnOk r (b ≡ a ++ lines_text q) → OnOk r (b ≡ out ++ lines_text (p ++ q))
after_lines (Ok u) out a b p q ea eb = rw (eb, ea, lines-append p q) (append_assoc out (lines_text p) (lines_text q))
after_lines (Err x) out a b p q ea eb = tt

-- ---- the functions one after the other

-- what stands in the text before the function of number i
unfoldable pub before : ℕ → ℕ → ℕ → List ℕ
before number functions i = lines_text (codes ".global main" ∷ flat_map caller_lines (main_function ∷ map (nth_caller number functions) (range_with_len 0 i)))

pub before_first : (number functions : ℕ) (out a b : List ℕ) → out ≡ [] → a ≡ out ++ codes ".global main\n" → b ≡ a ++ lines_text (caller_lines main_function)
    → b ≡ before number functions 0
unfolding before
before_first number functions out a b eo ea eb = rw (eb, ea, eo, append-nil (caller_lines main_function)) refl

more_callers : (number functions i : ℕ)
    → flat_map caller_lines (main_function ∷ map (nth_caller number functions) (range_with_len 0 (i + 1)))
    ≡ flat_map caller_lines (main_function ∷ map (nth_caller number functions) (range_with_len 0 i)) ++ caller_lines (nth_caller number functions i)
more_callers number functions i =
    ap (λ (fs : List Caller). flat_map caller_lines (main_function ∷ fs)) (map-range_with_len_more (nth_caller number functions) 0 i i (zero-add i))
    ∙ (flat_map-append caller_lines (main_function ∷ map (nth_caller number functions) (range_with_len 0 i)) (nth_caller number functions i ∷ [])
    ∙ ap (λ (l : List (List ℕ)). flat_map caller_lines (main_function ∷ map (nth_caller number functions) (range_with_len 0 i)) ++ l) (append-nil (caller_lines (nth_caller number functions i))))

pub drawn_more : (number i x : ℕ) → x ≡ random_number number i → next_number x ≡ random_number number (i + 1)
unfolding random_number
drawn_more number i x e = rw (add-one i, e) refl

next_joined : (number functions i : ℕ) → before number functions i ++ lines_text (caller_lines (nth_caller number functions i)) ≡ before number functions (i + 1)
unfolding before
next_joined number functions i =
    sym (ap (λ (l : List (List ℕ)). lines_text (codes ".global main" ∷ l)) (more_callers number functions i)
    ∙ lines-append (codes ".global main" ∷ flat_map caller_lines (main_function ∷ map (nth_caller number functions) (range_with_len 0 i))) (caller_lines (nth_caller number functions i)))

pub before_next : (number functions i x : ℕ) (callee : FunctionName) (kind : FunctionKind) (out next : List ℕ) → out ≡ before number functions i → x ≡ random_number number (i + 1)
    → callee ≡ callee_of functions i → kind ≡ kind_of x
    → next ≡ out ++ lines_text (caller_lines (record { name = Numbered i; callee = callee; kind = kind })) → next ≡ before number functions (i + 1)
before_next number functions i x callee kind out next eo ex ec ek en = rw (en, eo, ek, ec, ex) (next_joined number functions i)

pub whole_text : (number functions i : ℕ) (out all : List ℕ) → i ≡ functions → out ≡ before number functions i → all ≡ out ++ lines_text boom_lines
    → all ≡ generated_text number functions
unfolding generated_text before
whole_text number functions i out all ei eo ea = rw (ea, eo, ei) (sym (lines-append (codes ".global main" ∷ flat_map caller_lines (callers number functions)) boom_lines))
