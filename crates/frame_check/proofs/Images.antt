-- The roles of an image, function by function.
use Rattle.std.proofs.Common.{◌≡◌, ◌≢◌, ℕ, ◌+◌, ◌%◌, ◌^◌, ◌==◌, ◌||◌, ◌<◌, ◌≤◌, ◌⊎◌, inl, inr, Bool, true, false, if◌then◌else◌, List, [], ◌∷◌, ◌++◌, refl, sym, ap, ◌∙◌, subst, arith, le-leb, lt-ltb}
use Rattle.std.specs.Prelude.{All, Contains}
use Rattle.std.proofs.lemmas.Bool.{eqb-true, and_parts, leb-true, ltb-true}
use Rattle.std.proofs.lemmas.List.Folds.{list_any-append}
use Rattle.std.proofs.lemmas.List.Elements.{Contains-push, Contains-push_cases, Contains-append_left, All-contains, All-cons, All-head, All-tail}
use Rattle.elf_image.specs.Functions.{Function, FunctionsFrom, is_inside}
use Rattle.elf_image.specs.Image.{Image}
use Rattle.run_images.specs.Start.{begins_function}
use Rattle.frame_graph.specs.FlowGraph.{FlowGraph}
use Rattle.frame_graph.specs.Places.{address_of}
use Rattle.frame_graph.specs.Lowering.{is_lowering}
use Rattle.frame_graph.specs.Reach.{IsReached}
use Rattle.frame_reach.specs.Marks.{Marks, AreMarks}
use Rattle.frame_reach.specs.Prologue.{prologue, lines, places}
use Rattle.frame_reach.specs.Laws.{MarksAgree}
use Rattle.frame_check.specs.declared.pushes.ProloguePush.{ProloguePush}
use Rattle.frame_check.specs.declared.roles.Role.{Role}
use Rattle.frame_check.specs.declared.roles.TheConstants.{NO_ROLE}
use Rattle.frame_check.specs.Roles.{Table, no_table, look}
use Rattle.frame_check.specs.Roots.{flow_graph_of}
use Rattle.frame_check.specs.Pushes.{pushes_of}
use Rattle.frame_check.specs.Marking.{saves_over, IsMarked}
use Rattle.frame_check.specs.Accepts.{IsInstr, IsLowering, saves_at, AreRoles}
use Rattle.frame_check.proofs.Lines.{IsFrom, pushes_inside}

-- ---- PUSHes elsewhere

pub over_other : (before : ℕ) (xs : List ProloguePush) (a : ℕ) → All (λ (x : ProloguePush). x.at ≢ a) xs → saves_over before xs a ≡ before
over_other before [] a h = refl
over_other before (x ∷ xs) a h = go (x.at == a) refl (over_other before xs a (All-tail (λ (y : ProloguePush). y.at ≢ a) x xs h))
  where
    go : (t : Bool) → (x.at == a) ≡ t → saves_over before xs a ≡ before → saves_over (if t then x.saves else before) xs a ≡ before
    go true t r = absurd (All-head (λ (y : ProloguePush). y.at ≢ a) x xs h (eqb-true x.at a t))
    go false t r = r

is_within : (a : ℕ) (f : Function) → f.start ≤ a → a < f.end → is_inside a f ≡ true
is_within a f l h = rw (le-leb f.start a l, lt-ltb a f.end h) refl

pub record Within (a : ℕ) (f : Function) : Type 0 where
  pub above : f.start ≤ a
  pub below : a < f.end

within : (a : ℕ) (f : Function) → is_inside a f ≡ true → Within a f
within a f e = let two = and_parts _ _ e in record { above = leb-true _ _ two.0; below = ltb-true _ _ two.1 }

-- ---- functions before others

pub functions_before : (low : ℕ) (done more : List Function) (f : Function) → FunctionsFrom low (done ++ f ∷ more)
    → All (λ (g : Function). g.end ≤ f.start) done × (low ≤ f.start) × (f.start < f.end)
functions_before low [] more f h = ((λ k d l. absurd (omega arith)), h.0, h.1)
functions_before low (g ∷ done) more f h =
    let later = functions_before g.end done more f h.2 in
    (All-cons (λ (x : Function). x.end ≤ f.start) g done later.1 later.0, omega (arith, h.0, h.1, later.1), later.2)

-- ---- roles

blank_look : (a : ℕ) → look no_table a ≡ NO_ROLE
unfolding look
blank_look a = go (a % 2 == 1)
  where
    go : (t : Bool) → (if t then NO_ROLE else NO_ROLE) ≡ NO_ROLE
    go true = refl
    go false = refl

pub no_roles : (image : Image) → AreRoles image [] no_table
no_roles image = record {
  instr = λ a. ((λ e. absurd (let f : false ≡ true = sym (ap (λ (x : Role). x.is_instr) (blank_look a)) ∙ e in cc)), (λ i. absurd (omega (arith, (i.among).1))));
  lowers = λ a. ((λ e. absurd (let f : false ≡ true = sym (ap (λ (x : Role). x.lowers) (blank_look a)) ∙ e in cc)), (λ i. absurd (omega (arith, (i.among).1))));
  starts = λ a. ap (λ (x : Role). x.is_function) (blank_look a);
  saves = λ f m a c am i. absurd (omega (arith, c.1));
  blank = λ a away. ap (λ (x : Role). x.saves) (blank_look a);
}

pub roles_more : (image : Image) (done : List Function) (f : Function) (m : Marks) (old new : Table) → f.start % 2 ≡ 0 → f.end + 4 ≤ 2 ^ 32
    → All (λ (g : Function). g.end ≤ f.start) done → MarksAgree → AreMarks (flow_graph_of image f) m → AreRoles image done old → IsMarked (flow_graph_of image f) m old new
    → AreRoles image (done ++ f ∷ []) new
unfolding saves_at
roles_more image done f m old new even low before agree are x y = record { instr = λ a. (there a, back a); lowers = λ a. (low_there a, low_back a); starts = starts; saves = saves; blank = blank }
  where
    s : FlowGraph
    s = flow_graph_of image f

    pushes : List ProloguePush
    pushes = pushes_of (prologue (flow_graph_of image f) m) f.start (lines (flow_graph_of image f) m.target (places (flow_graph_of image f)) 0)

    inside : All (λ (p : ProloguePush). IsFrom (flow_graph_of image f) 0 p.at) (pushes_of (prologue (flow_graph_of image f) m) f.start (lines (flow_graph_of image f) m.target (places (flow_graph_of image f)) 0))
    inside = pushes_inside (flow_graph_of image f) m (prologue (flow_graph_of image f) m) even low

    there : (a : ℕ) → (look new a).is_instr ≡ true → IsInstr image (done ++ f ∷ []) a
    there a e = go ((y.instr a).0 e)
      where
        go : ((look old a).is_instr ≡ true) ⊎ ((p : ℕ) × IsReached (flow_graph_of image f) p × (a ≡ address_of (flow_graph_of image f) p)) → IsInstr image (done ++ f ∷ []) a
        go (inl h) =
            let i = (x.instr a).0 h in
            record { function = i.function; among = Contains-append_left done (f ∷ []) i.function i.among; place = i.place; reached = i.reached; address = i.address }
        go (inr (p, r, h)) = record { function = f; among = Contains-push done f; place = p; reached = r; address = h }

    back : (a : ℕ) → IsInstr image (done ++ f ∷ []) a → (look new a).is_instr ≡ true
    back a i = go (Contains-push_cases done f i.function i.among)
      where
        go : Contains done i.function ⊎ (f ≡ i.function) → (look new a).is_instr ≡ true
        go (inl c) = (y.instr a).1 (inl ((x.instr a).1 (record { function = i.function; among = c; place = i.place; reached = i.reached; address = i.address })))
        go (inr e) =
            (y.instr a).1
            (inr (i.place, subst (λ (g : Function). IsReached (flow_graph_of image g) i.place) (sym e) i.reached, i.address ∙ ap (λ (g : Function). address_of (flow_graph_of image g) i.place) (sym e)))

    low_there : (a : ℕ) → (look new a).lowers ≡ true → IsLowering image (done ++ f ∷ []) a
    low_there a e = go ((y.lowers a).0 e)
      where
        go : ((look old a).lowers ≡ true) ⊎ ((p : ℕ) × (is_lowering (flow_graph_of image f) m.reached p ≡ true) × (a ≡ address_of (flow_graph_of image f) p)) → IsLowering image (done ++ f ∷ []) a
        go (inl h) =
            let i = (x.lowers a).0 h in
            record { function = i.function; among = Contains-append_left done (f ∷ []) i.function i.among; marks = i.marks; are = i.are; place = i.place; lowers = i.lowers; address = i.address }
        go (inr (p, l, h)) = record { function = f; among = Contains-push done f; marks = m; are = are; place = p; lowers = l; address = h }

    low_back : (a : ℕ) → IsLowering image (done ++ f ∷ []) a → (look new a).lowers ≡ true
    low_back a i = go (Contains-push_cases done f i.function i.among)
      where
        here : AreMarks (flow_graph_of image f) i.marks → is_lowering (flow_graph_of image f) i.marks.reached i.place ≡ true → a ≡ address_of (flow_graph_of image f) i.place
            → (look new a).lowers ≡ true
        here bm l h =
            let same = agree (flow_graph_of image f) m i.marks are bm in
            (y.lowers a).1 (inr (i.place, ap (λ (z : Marks). is_lowering (flow_graph_of image f) z.reached i.place) same ∙ l, h))

        go : Contains done i.function ⊎ (f ≡ i.function) → (look new a).lowers ≡ true
        go (inl c) =
            (y.lowers a).1
            (inl ((x.lowers a).1 (record { function = i.function; among = c; marks = i.marks; are = i.are; place = i.place; lowers = i.lowers; address = i.address })))
        go (inr e) =
            subst
            (λ (g : Function). AreMarks (flow_graph_of image g) i.marks → is_lowering (flow_graph_of image g) i.marks.reached i.place ≡ true → a ≡ address_of (flow_graph_of image g) i.place
            → (look new a).lowers ≡ true) e here i.are i.lowers i.address

    starts : (a : ℕ) → (look new a).is_function ≡ begins_function (done ++ f ∷ []) a
    starts a =
        y.starts a ∙ ap (λ (b : Bool). b || (f.start == a)) (x.starts a)
        ∙ sym (list_any-append (λ (g : Function). g.start == a) done (f ∷ []) ∙ ap (λ (b : Bool). begins_function done a || b) (or_false (f.start == a)))
      where
        or_false : (b : Bool) → (b || false) ≡ b
        or_false true = refl
        or_false false = refl

    -- what this function's PUSHes leave
    outside : (a : ℕ) → ((is_inside a f ≡ true) → ⊥) → (look new a).saves ≡ (look old a).saves
    outside a away = y.saves a ∙ over_other ((look old a).saves) _ a (λ k d l e. let h = inside k d l in away (is_within a f (omega (arith, h.above, e)) (omega (arith, h.below, e))))

    apart : (a : ℕ) (g : Function) → Contains done g → is_inside a g ≡ true → (is_inside a f ≡ true) → ⊥
    apart a g c i j =
        let e = All-contains (λ (z : Function). z.end ≤ f.start) done g before c in
        let p = within a g i in
        let q = within a f j in
        omega (arith, e, p.below, q.above)

    saves : (g : Function) (n : Marks) (a : ℕ) → Contains (done ++ f ∷ []) g → AreMarks (flow_graph_of image g) n → is_inside a g ≡ true → (look new a).saves ≡ saves_at (flow_graph_of image g) n a
    saves g n a c am i = go (Contains-push_cases done f g c)
      where
        here : AreMarks (flow_graph_of image f) n → is_inside a f ≡ true → (look new a).saves ≡ saves_at (flow_graph_of image f) n a
        here bm j =
            let same = agree (flow_graph_of image f) m n are bm in
            y.saves a
            ∙ ap (λ (z : ℕ). saves_over z (pushes_of (prologue (flow_graph_of image f) m) f.start (lines (flow_graph_of image f) m.target (places (flow_graph_of image f)) 0)) a) (x.blank a (λ h d k. apart a h d k j))
            ∙ ap (λ (z : Marks). saves_over 0 (pushes_of (prologue (flow_graph_of image f) z) f.start (lines (flow_graph_of image f) z.target (places (flow_graph_of image f)) 0)) a) same

        go : Contains done g ⊎ (f ≡ g) → (look new a).saves ≡ saves_at (flow_graph_of image g) n a
        go (inl d) = outside a (apart a g d i) ∙ x.saves g n a d am i
        go (inr e) =
            subst (λ (h : Function). AreMarks (flow_graph_of image h) n → is_inside a h ≡ true → (look new a).saves ≡ saves_at (flow_graph_of image h) n a) e here am i

    blank : (a : ℕ) → ((g : Function) → Contains (done ++ f ∷ []) g → is_inside a g ≡ true → ⊥) → (look new a).saves ≡ 0
    blank a away = outside a (away f (Contains-push done f)) ∙ x.blank a (λ g c. away g (Contains-append_left done (f ∷ []) g c))
