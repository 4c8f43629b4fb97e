-- Roles, as they are marked one after the other.
use Rattle.std.proofs.Common.{◌≡◌, ℕ, ◌==◌, ◌||◌, ◌⊎◌, inl, inr, Bool, true, false, cond, if◌then◌else◌, List, [], ◌∷◌, ◌++◌, refl, sym, ap, ◌∙◌, arith}
use Rattle.std.specs.Prelude.{Contains}
use Rattle.std.proofs.lemmas.Bool.{eqb-true, eqb-false, true≢false}
use Rattle.std.proofs.lemmas.List.Elements.{Contains-push, Contains-push_cases, Contains-append_left, Contains-append_right, Contains-append_cases}
use Rattle.frame_graph.specs.FlowGraph.{FlowGraph}
use Rattle.frame_graph.specs.Places.{address_of}
use Rattle.frame_graph.specs.Lowering.{is_lowering}
use Rattle.frame_graph.specs.Reach.{IsReached}
use Rattle.frame_graph.proofs.NoLowering.{lowering_is_reached}
use Rattle.frame_reach.specs.Marks.{Marks, AreMarks, AreThePlaces}
use Rattle.frame_reach.specs.Prologue.{prologue, lines, places}
use Rattle.frame_check.specs.declared.roles.Role.{Role}
use Rattle.frame_check.specs.declared.pushes.ProloguePush.{ProloguePush}
use Rattle.frame_check.specs.Roles.{Table, look}
use Rattle.frame_check.specs.Pushes.{pushes_of}
use Rattle.frame_check.specs.Marking.{with_instr, with_lowers, with_start, with_saves, ChangesRole, AreInstrs, AreLowered, AreSaved, saves_over, IsMarked}

-- what a look-up finds after a change of one role
pub turned : (X : Type 0) (part : Role → X) (change : Role → Role) (a b : ℕ) (old new : Table) → ChangesRole change a old new
    → part (look new b) ≡ (if b == a then part (change (look old b)) else part (look old b))
turned X part change a b old new t = go (b == a) refl
  where
    go : (q : Bool) → (b == a) ≡ q → part (look new b) ≡ cond q (part (change (look old b))) (part (look old b))
    go true q =
        let same : b ≡ a = eqb-true b a q in
        ap (λ (k : ℕ). part (look new k)) same ∙ ap part t.here ∙ ap (λ (k : ℕ). part (change (look old k))) (sym same)
    go false q = ap part (t.there b (eqb-false b a q))

-- a part that the change leaves is as it was
pub left : (X : Type 0) (part : Role → X) (change : Role → Role) (a b : ℕ) (old new : Table) → ((x : Role) → part (change x) ≡ part x) → ChangesRole change a old new
    → part (look new b) ≡ part (look old b)
left X part change a b old new k t = turned X part change a b old new t ∙ go (b == a)
  where
    go : (q : Bool) → cond q (part (change (look old b))) (part (look old b)) ≡ part (look old b)
    go true = k (look old b)
    go false = refl

-- ---- instructions

pub instrs_none : (s : FlowGraph) (x : Table) → AreInstrs s [] x x
instrs_none s x = record {
  instr = λ a. (inl, λ o. back a o);
  lowers = λ a. refl;
  starts = λ a. refl;
  saves = λ a. refl;
}
  where
    back : (a : ℕ) → ((look x a).is_instr ≡ true) ⊎ ((p : ℕ) × Contains [] p × (a ≡ address_of s p)) → (look x a).is_instr ≡ true
    back a (inl e) = e
    back a (inr (p, c, e)) = absurd (omega (arith, c.1))

pub instrs_more : (s : FlowGraph) (ps : List ℕ) (p : ℕ) (old mid new : Table) → AreInstrs s ps old mid → ChangesRole with_instr (address_of s p) mid new → AreInstrs s (ps ++ p ∷ []) old new
instrs_more s ps p old mid new x t = record {
  instr = λ a. (there a, back a);
  lowers = λ a. left Bool (λ y. y.lowers) with_instr (address_of s p) a mid new (λ y. refl) t ∙ x.lowers a;
  starts = λ a. left Bool (λ y. y.is_function) with_instr (address_of s p) a mid new (λ y. refl) t ∙ x.starts a;
  saves = λ a. left ℕ (λ y. y.saves) with_instr (address_of s p) a mid new (λ y. refl) t ∙ x.saves a;
}
  where
    is : (a : ℕ) → (look new a).is_instr ≡ cond (a == address_of s p) true ((look mid a).is_instr)
    is a = turned Bool (λ y. y.is_instr) with_instr (address_of s p) a mid new t

    more : (a : ℕ) → ((look old a).is_instr ≡ true) ⊎ ((q : ℕ) × Contains ps q × (a ≡ address_of s q))
        → ((look old a).is_instr ≡ true) ⊎ ((q : ℕ) × Contains (ps ++ p ∷ []) q × (a ≡ address_of s q))
    more a (inl e) = inl e
    more a (inr (q, c, e)) = inr (q, Contains-append_left ps (p ∷ []) q c, e)

    there : (a : ℕ) → (look new a).is_instr ≡ true → ((look old a).is_instr ≡ true) ⊎ ((q : ℕ) × Contains (ps ++ p ∷ []) q × (a ≡ address_of s q))
    there a e = go (a == address_of s p) refl (sym (is a) ∙ e)
      where
        go : (t : Bool) → (a == address_of s p) ≡ t → cond t true ((look mid a).is_instr) ≡ true
            → ((look old a).is_instr ≡ true) ⊎ ((q : ℕ) × Contains (ps ++ p ∷ []) q × (a ≡ address_of s q))
        go true t f = inr (p, Contains-push ps p, eqb-true a (address_of s p) t)
        go false t f = more a ((x.instr a).0 f)

    back : (a : ℕ) → ((look old a).is_instr ≡ true) ⊎ ((q : ℕ) × Contains (ps ++ p ∷ []) q × (a ≡ address_of s q)) → (look new a).is_instr ≡ true
    back a o = go (a == address_of s p) refl
      where
        from : ((look old a).is_instr ≡ true) ⊎ ((q : ℕ) × Contains (ps ++ p ∷ []) q × (a ≡ address_of s q)) → (a == address_of s p) ≡ false
            → (look mid a).is_instr ≡ true
        from (inl e) t = (x.instr a).1 (inl e)
        from (inr (q, c, e)) t = part (Contains-push_cases ps p q c)
          where
            part : Contains ps q ⊎ (p ≡ q) → (look mid a).is_instr ≡ true
            part (inl d) = (x.instr a).1 (inr (q, d, e))
            part (inr same) = absurd (eqb-false a (address_of s p) t (e ∙ ap (address_of s) (sym same)))

        go : (t : Bool) → (a == address_of s p) ≡ t → (look new a).is_instr ≡ true
        go true t = is a ∙ ap (λ (b : Bool). cond b true ((look mid a).is_instr)) t
        go false t = is a ∙ ap (λ (b : Bool). cond b true ((look mid a).is_instr)) t ∙ from o t

-- ---- lowering places

pub lowered_none : (s : FlowGraph) (reached : ℕ → Bool) (x : Table) → AreLowered s reached [] x x
lowered_none s reached x = record {
  instr = λ a. refl;
  lowers = λ a. (inl, λ o. back a o);
  starts = λ a. refl;
  saves = λ a. refl;
}
  where
    back : (a : ℕ) → ((look x a).lowers ≡ true) ⊎ ((q : ℕ) × Contains [] q × (is_lowering s reached q ≡ true) × (a ≡ address_of s q)) → (look x a).lowers ≡ true
    back a (inl e) = e
    back a (inr (q, c, l, e)) = absurd (omega (arith, c.1))

-- of a place that is none nothing is told
pub lowered_not : (s : FlowGraph) (reached : ℕ → Bool) (p : ℕ) (x : Table) → is_lowering s reached p ≡ false → AreLowered s reached (p ∷ []) x x
lowered_not s reached p x h = record {
  instr = λ a. refl;
  lowers = λ a. (inl, λ o. back a o);
  starts = λ a. refl;
  saves = λ a. refl;
}
  where
    back : (a : ℕ) → ((look x a).lowers ≡ true) ⊎ ((q : ℕ) × Contains (p ∷ []) q × (is_lowering s reached q ≡ true) × (a ≡ address_of s q)) → (look x a).lowers ≡ true
    back a (inl e) = e
    back a (inr (q, c, l, e)) = part (Contains-push_cases [] p q c)
      where
        part : Contains [] q ⊎ (p ≡ q) → (look x a).lowers ≡ true
        part (inl d) = absurd (omega (arith, d.1))
        part (inr same) = absurd (true≢false (sym l ∙ ap (is_lowering s reached) (sym same) ∙ h))

pub lowered_one : (s : FlowGraph) (reached : ℕ → Bool) (p : ℕ) (old new : Table) → is_lowering s reached p ≡ true → ChangesRole with_lowers (address_of s p) old new
    → AreLowered s reached (p ∷ []) old new
lowered_one s reached p old new h t = record {
  instr = λ a. left Bool (λ y. y.is_instr) with_lowers (address_of s p) a old new (λ y. refl) t;
  lowers = λ a. (there a, back a);
  starts = λ a. left Bool (λ y. y.is_function) with_lowers (address_of s p) a old new (λ y. refl) t;
  saves = λ a. left ℕ (λ y. y.saves) with_lowers (address_of s p) a old new (λ y. refl) t;
}
  where
    is : (a : ℕ) → (look new a).lowers ≡ cond (a == address_of s p) true ((look old a).lowers)
    is a = turned Bool (λ y. y.lowers) with_lowers (address_of s p) a old new t

    there : (a : ℕ) → (look new a).lowers ≡ true → ((look old a).lowers ≡ true) ⊎ ((q : ℕ) × Contains (p ∷ []) q × (is_lowering s reached q ≡ true) × (a ≡ address_of s q))
    there a e = go (a == address_of s p) refl (sym (is a) ∙ e)
      where
        go : (t : Bool) → (a == address_of s p) ≡ t → cond t true ((look old a).lowers) ≡ true
            → ((look old a).lowers ≡ true) ⊎ ((q : ℕ) × Contains (p ∷ []) q × (is_lowering s reached q ≡ true) × (a ≡ address_of s q))
        go true t f = inr (p, Contains-push [] p, h, eqb-true a (address_of s p) t)
        go false t f = inl f

    back : (a : ℕ) → ((look old a).lowers ≡ true) ⊎ ((q : ℕ) × Contains (p ∷ []) q × (is_lowering s reached q ≡ true) × (a ≡ address_of s q)) → (look new a).lowers ≡ true
    back a o = go (a == address_of s p) refl
      where
        from : ((look old a).lowers ≡ true) ⊎ ((q : ℕ) × Contains (p ∷ []) q × (is_lowering s reached q ≡ true) × (a ≡ address_of s q)) → (a == address_of s p) ≡ false
            → (look old a).lowers ≡ true
        from (inl e) t = e
        from (inr (q, c, l, e)) t = part (Contains-push_cases [] p q c)
          where
            part : Contains [] q ⊎ (p ≡ q) → (look old a).lowers ≡ true
            part (inl d) = absurd (omega (arith, d.1))
            part (inr same) = absurd (eqb-false a (address_of s p) t (e ∙ ap (address_of s) (sym same)))

        go : (t : Bool) → (a == address_of s p) ≡ t → (look new a).lowers ≡ true
        go true t = is a ∙ ap (λ (b : Bool). cond b true ((look old a).lowers)) t
        go false t = is a ∙ ap (λ (b : Bool). cond b true ((look old a).lowers)) t ∙ from o t

pub lowered_more : (s : FlowGraph) (reached : ℕ → Bool) (ps : List ℕ) (p : ℕ) (old mid new : Table) → AreLowered s reached ps old mid → AreLowered s reached (p ∷ []) mid new
    → AreLowered s reached (ps ++ p ∷ []) old new
lowered_more s reached ps p old mid new x y = record {
  instr = λ a. y.instr a ∙ x.instr a;
  lowers = λ a. (there a, back a);
  starts = λ a. y.starts a ∙ x.starts a;
  saves = λ a. y.saves a ∙ x.saves a;
}
  where
    there : (a : ℕ) → (look new a).lowers ≡ true
        → ((look old a).lowers ≡ true) ⊎ ((q : ℕ) × Contains (ps ++ p ∷ []) q × (is_lowering s reached q ≡ true) × (a ≡ address_of s q))
    there a e = go ((y.lowers a).0 e)
      where
        more : ((look old a).lowers ≡ true) ⊎ ((q : ℕ) × Contains ps q × (is_lowering s reached q ≡ true) × (a ≡ address_of s q))
            → ((look old a).lowers ≡ true) ⊎ ((q : ℕ) × Contains (ps ++ p ∷ []) q × (is_lowering s reached q ≡ true) × (a ≡ address_of s q))
        more (inl f) = inl f
        more (inr (q, c, l, f)) = inr (q, Contains-append_left ps (p ∷ []) q c, l, f)

        go : ((look mid a).lowers ≡ true) ⊎ ((q : ℕ) × Contains (p ∷ []) q × (is_lowering s reached q ≡ true) × (a ≡ address_of s q))
            → ((look old a).lowers ≡ true) ⊎ ((q : ℕ) × Contains (ps ++ p ∷ []) q × (is_lowering s reached q ≡ true) × (a ≡ address_of s q))
        go (inl f) = more ((x.lowers a).0 f)
        go (inr (q, c, l, f)) = inr (q, Contains-append_right ps (p ∷ []) q c, l, f)

    back : (a : ℕ) → ((look old a).lowers ≡ true) ⊎ ((q : ℕ) × Contains (ps ++ p ∷ []) q × (is_lowering s reached q ≡ true) × (a ≡ address_of s q)) → (look new a).lowers ≡ true
    back a (inl e) = (y.lowers a).1 (inl ((x.lowers a).1 (inl e)))
    back a (inr (q, c, l, e)) = part (Contains-append_cases ps (p ∷ []) q c)
      where
        part : Contains ps q ⊎ Contains (p ∷ []) q → (look new a).lowers ≡ true
        part (inl d) = (y.lowers a).1 (inl ((x.lowers a).1 (inr (q, d, l, e))))
        part (inr d) = (y.lowers a).1 (inr (q, d, l, e))

-- ---- saves

pub saved_none : (x : Table) → AreSaved [] x x
saved_none x = record { instr = λ a. refl; lowers = λ a. refl; starts = λ a. refl; saves = λ a. refl }

over_more : (before : ℕ) (xs : List ProloguePush) (x : ProloguePush) (a : ℕ) → saves_over before (xs ++ x ∷ []) a ≡ (if x.at == a then x.saves else saves_over before xs a)
over_more before [] x a = refl
over_more before (y ∷ ys) x a = over_more (if y.at == a then y.saves else before) ys x a

turn_eq : (a b : ℕ) → (a == b) ≡ (b == a)
turn_eq a b = go (a == b) refl (b == a) refl
  where
    go : (p : Bool) → (a == b) ≡ p → (q : Bool) → (b == a) ≡ q → p ≡ q
    go true p true q = refl
    go false p false q = refl
    go true p false q = absurd (eqb-false b a q (sym (eqb-true a b p)))
    go false p true q = absurd (eqb-false a b p (sym (eqb-true b a q)))

pub saved_more : (xs : List ProloguePush) (x : ProloguePush) (old mid new : Table) → AreSaved xs old mid → ChangesRole (with_saves x.saves) x.at mid new → AreSaved (xs ++ x ∷ []) old new
saved_more xs x old mid new y t = record {
  instr = λ a. left Bool (λ z. z.is_instr) (with_saves x.saves) x.at a mid new (λ z. refl) t ∙ y.instr a;
  lowers = λ a. left Bool (λ z. z.lowers) (with_saves x.saves) x.at a mid new (λ z. refl) t ∙ y.lowers a;
  starts = λ a. left Bool (λ z. z.is_function) (with_saves x.saves) x.at a mid new (λ z. refl) t ∙ y.starts a;
  saves = λ a. saves a;
}
  where
    saves : (a : ℕ) → (look new a).saves ≡ saves_over ((look old a).saves) (xs ++ x ∷ []) a
    saves a =
        turned ℕ (λ z. z.saves) (with_saves x.saves) x.at a mid new t
        ∙ ap (λ (n : ℕ). if a == x.at then x.saves else n) (y.saves a)
        ∙ ap (λ (b : Bool). if b then x.saves else saves_over ((look old a).saves) xs a) (turn_eq a x.at)
        ∙ sym (over_more ((look old a).saves) xs x a)

-- ---- a function

pub marked_all : (s : FlowGraph) (m : Marks) (ps : List ℕ) (pushes : List ProloguePush) (old first low second new : Table) → AreMarks s m → AreThePlaces m ps
    → AreInstrs s ps old first → AreLowered s m.reached ps first low → ChangesRole with_start s.start low second → pushes ≡ pushes_of (prologue s m) s.start (lines s m.target (places s) 0) → AreSaved pushes second new
    → IsMarked s m old new
marked_all s m ps pushes old first low second new am the x w t e y = record { instr = λ a. (there a, back a); lowers = λ a. (low_there a, low_back a); starts = starts; saves = saves }
  where
    kept : (a : ℕ) → (look new a).is_instr ≡ (look first a).is_instr
    kept a = y.instr a ∙ left Bool (λ z. z.is_instr) with_start s.start a low second (λ z. refl) t ∙ w.instr a

    there : (a : ℕ) → (look new a).is_instr ≡ true → ((look old a).is_instr ≡ true) ⊎ ((p : ℕ) × IsReached s p × (a ≡ address_of s p))
    there a f = go ((x.instr a).0 (sym (kept a) ∙ f))
      where
        go : ((look old a).is_instr ≡ true) ⊎ ((p : ℕ) × Contains ps p × (a ≡ address_of s p)) → ((look old a).is_instr ≡ true) ⊎ ((p : ℕ) × IsReached s p × (a ≡ address_of s p))
        go (inl g) = inl g
        go (inr (p, c, g)) = inr (p, (am.reached p).0 ((the.all p).0 c), g)

    back : (a : ℕ) → ((look old a).is_instr ≡ true) ⊎ ((p : ℕ) × IsReached s p × (a ≡ address_of s p)) → (look new a).is_instr ≡ true
    back a (inl g) = kept a ∙ (x.instr a).1 (inl g)
    back a (inr (p, r, g)) = kept a ∙ (x.instr a).1 (inr (p, (the.all p).1 ((am.reached p).1 r), g))

    lowered : (a : ℕ) → (look new a).lowers ≡ (look low a).lowers
    lowered a = y.lowers a ∙ left Bool (λ z. z.lowers) with_start s.start a low second (λ z. refl) t

    low_there : (a : ℕ) → (look new a).lowers ≡ true → ((look old a).lowers ≡ true) ⊎ ((p : ℕ) × (is_lowering s m.reached p ≡ true) × (a ≡ address_of s p))
    low_there a f = go ((w.lowers a).0 (sym (lowered a) ∙ f))
      where
        go : ((look first a).lowers ≡ true) ⊎ ((p : ℕ) × Contains ps p × (is_lowering s m.reached p ≡ true) × (a ≡ address_of s p))
            → ((look old a).lowers ≡ true) ⊎ ((p : ℕ) × (is_lowering s m.reached p ≡ true) × (a ≡ address_of s p))
        go (inl g) = inl (sym (x.lowers a) ∙ g)
        go (inr (p, c, l, g)) = inr (p, l, g)

    low_back : (a : ℕ) → ((look old a).lowers ≡ true) ⊎ ((p : ℕ) × (is_lowering s m.reached p ≡ true) × (a ≡ address_of s p)) → (look new a).lowers ≡ true
    low_back a (inl g) = lowered a ∙ (w.lowers a).1 (inl (x.lowers a ∙ g))
    low_back a (inr (p, l, g)) = lowered a ∙ (w.lowers a).1 (inr (p, (the.all p).1 (lowering_is_reached s m.reached p l), l, g))

    either : (b c : Bool) → (if b then true else c) ≡ (c || b)
    either true true = refl
    either true false = refl
    either false true = refl
    either false false = refl

    starts : (a : ℕ) → (look new a).is_function ≡ ((look old a).is_function || (s.start == a))
    starts a =
        y.starts a ∙ turned Bool (λ z. z.is_function) with_start s.start a low second t
        ∙ ap (λ (b : Bool). if a == s.start then true else b) (w.starts a ∙ x.starts a)
        ∙ either (a == s.start) ((look old a).is_function)
        ∙ ap (λ (b : Bool). (look old a).is_function || b) (turn_eq a s.start)

    saves : (a : ℕ) → (look new a).saves ≡ saves_over ((look old a).saves) (pushes_of (prologue s m) s.start (lines s m.target (places s) 0)) a
    saves a =
        y.saves a
        ∙ ap (λ (n : ℕ). saves_over n pushes a) (left ℕ (λ z. z.saves) with_start s.start a low second (λ z. refl) t ∙ w.saves a ∙ x.saves a)
        ∙ ap (λ (l : List ProloguePush). saves_over ((look old a).saves) l a) e
