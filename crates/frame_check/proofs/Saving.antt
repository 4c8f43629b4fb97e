-- The words that are told of the PUSHes of a prologue are its saves, all of them and no others.
use Rattle.std.proofs.Common.{◌≡◌, ◌≢◌, ℕ, zero, suc, ◌+◌, ◌-◌, ◌*◌, ◌/◌, ◌%◌, ◌^◌, ◌==◌, ◌&&◌, ◌<◌, ◌≤◌, ◌⊎◌, ◌↔◌, inl, inr, Bool, true, false, cond, if◌then◌else◌, nat_lt, nat_le, List, [], ◌∷◌, ◌++◌, length, map, take, set, Option, Some, None, refl, sym, ap, ◌∙◌, subst, arith, append_assoc}
use Rattle.std.specs.Prelude.{All, Contains, option_and_then, option_map}
use Rattle.std.specs.Int.{bit_at}
use Rattle.std.specs.Option.{option_map_or}
use Rattle.std.proofs.lemmas.Bool.{eqb-false, ltb-true, ltb-false}
use Rattle.std.proofs.lemmas.Nat.Bits.{bit_at_cat_low, bit_at_cat_high, bit_at_above}
use Rattle.std.proofs.lemmas.List.{take_more_set, length-set, take_all, map-append}
use Rattle.std.proofs.lemmas.List.Elements.{All-nil, All-cons, All-append, All-map, All-weaker, Contains-push_cases}
use Rattle.run_images.specs.thumb_core.Words.{registers_of_list}
use Rattle.thumb_isa.specs.declared.instr.Instr.{Instr}
use Rattle.thumb_isa.specs.declared.instr.Instr.TheVariants.{Push}
use Rattle.frame_facts.specs.declared.facts.Fact.{Fact}
use Rattle.frame_facts.specs.declared.saves.Save.{Save}
use Rattle.frame_facts.specs.declared.saves.Prologue.{Prologue}
use Rattle.frame_facts.specs.declared.saves.TheConstants.{MOST_SAVES}
use Rattle.frame_facts.specs.declared.straight.Straight.{Straight}
use Rattle.frame_facts.specs.Saves.{saves_of}
use Rattle.frame_facts.specs.declared.facts.Source.{Source}
use Rattle.frame_facts.specs.declared.facts.Source.TheVariants.{Entry, SpAt, Other}
use Rattle.frame_facts.specs.declared.facts.TheConstants.{DEEPEST}
use Rattle.frame_facts.specs.After.{effect}
use Rattle.frame_facts.specs.Facts.{source}
use Rattle.frame_facts.specs.Prologues.{is_callers, may_stand, save_of_word, with_save, with_push_saves, prologue_after, with_instruction, run_with_end, run_on, empty_run}
use Rattle.frame_graph.specs.frame_code.declared.standing.Standing.{Standing}
use Rattle.frame_graph.specs.frame_code.declared.standing.Standing.TheVariants.{Instruction, Udf, Nothing}
use Rattle.frame_graph.specs.FlowGraph.{FlowGraph}
use Rattle.frame_graph.specs.Places.{address_of, standing_at}
use Rattle.frame_reach.specs.Marks.{Marks}
use Rattle.frame_reach.specs.Prologue.{prologue, places, is_led_to, line_by, line_at, lines}
use Rattle.frame_reach.specs.Laws.{IsRun, begins, takes}
use Rattle.frame_reach.proofs.Stands.{stands_below}
use Rattle.frame_check.specs.declared.pushes.ProloguePush.{ProloguePush}
use Rattle.frame_check.specs.Pushes.{Pushing, pushing, pushings, is_saved, word_bit, word_bits, mark_push, pushes_of}
use Rattle.frame_check.specs.Marking.{saves_over}
use Rattle.frame_check.specs.Accepts.{saves_at}
use Rattle.frame_check.specs.Laws.{IsPush, IsWord, SavesAreWords}
use Rattle.frame_check.proofs.Images.{over_other}
use Rattle.frame_check.proofs.Lines.{IsFrom, unsome, line_is, next_address, pushings_from}

-- ---- bits

abbrev one_bit : Bool → ℕ
one_bit true = 1
one_bit false = 0

bit_times : (p : Prologue) (lowest k : ℕ) → word_bit p lowest k ≡ one_bit (is_saved p (lowest - 4 * k)) * 2 ^ k
bit_times p lowest k = go (is_saved p (lowest - 4 * k))
  where
    go : (b : Bool) → (if b then 2 ^ k else 0) ≡ one_bit b * 2 ^ k
    go true = omega arith
    go false = omega arith

one_below : (b : Bool) → one_bit b < 2
one_below true = omega arith
one_below false = omega arith

pub bits_below : (p : Prologue) (lowest n : ℕ) → word_bits p lowest n < 2 ^ n
unfolding word_bits
bits_below p lowest zero = omega arith
bits_below p lowest (suc n) = go (is_saved p (lowest - 4 * n)) (bits_below p lowest n)
  where
    go : (b : Bool) → word_bits p lowest n < 2 ^ n → word_bits p lowest n + (if b then 2 ^ n else 0) < 2 ^ suc n
    go true l = omega arith
    go false l = omega arith

bit_is : (p : Prologue) (lowest n k : ℕ) → k < n → bit_at (word_bits p lowest n) k ≡ one_bit (is_saved p (lowest - 4 * k))
unfolding word_bits
bit_is p lowest zero k l = absurd (omega arith)
bit_is p lowest (suc n) k l = sum ∙ go (nat_lt k n) refl (λ h. bit_is p lowest n k h)
  where
    sum : bit_at (word_bits p lowest n + word_bit p lowest n) k ≡ bit_at (one_bit (is_saved p (lowest - 4 * n)) * 2 ^ n + word_bits p lowest n) k
    sum = ap (λ (x : ℕ). bit_at x k) (ap (λ x. word_bits p lowest n + x) (bit_times p lowest n) ∙ omega arith)

    go : (b : Bool) → nat_lt k n ≡ b → (k < n → bit_at (word_bits p lowest n) k ≡ one_bit (is_saved p (lowest - 4 * k)))
        → bit_at (one_bit (is_saved p (lowest - 4 * n)) * 2 ^ n + word_bits p lowest n) k ≡ one_bit (is_saved p (lowest - 4 * k))
    go true q rec = bit_at_cat_low (one_bit (is_saved p (lowest - 4 * n))) n (word_bits p lowest n) k (ltb-true k n q) ∙ rec (ltb-true k n q)
    go false q rec =
        let same : k ≡ n = omega (arith, ltb-false k n q) in
        let none : k - n ≡ 0 = omega arith in
        bit_at_cat_high (one_bit (is_saved p (lowest - 4 * n))) n (word_bits p lowest n) k (bits_below p lowest n) (omega arith)
        ∙ ap (λ (x : ℕ). bit_at (one_bit (is_saved p (lowest - 4 * n))) x) none
        ∙ small (is_saved p (lowest - 4 * n)) ∙ ap (λ (x : ℕ). one_bit (is_saved p (lowest - 4 * x))) (sym same)
      where
        small : (b : Bool) → bit_at (one_bit b) 0 ≡ one_bit b
        small true = refl
        small false = refl

-- ---- where a run stands among the PUSHes

found_over : (before : ℕ) (xs : List ProloguePush) (x : ProloguePush) (ys : List ProloguePush) → All (λ (y : ProloguePush). y.at ≢ x.at) ys → saves_over before (xs ++ x ∷ ys) x.at ≡ x.saves
found_over before [] x ys h = go (x.at == x.at) refl
  where
    go : (t : Bool) → (x.at == x.at) ≡ t → saves_over (if t then x.saves else before) ys x.at ≡ x.saves
    go true t = over_other x.saves ys x.at h
    go false t = absurd (eqb-false x.at x.at t refl)
found_over before (z ∷ xs) x ys h = found_over (if z.at == x.at then z.saves else before) xs x ys h

-- the PUSHes before a run's place, and those from there on
record IsCut (s : FlowGraph) (m : Marks) (p : ℕ) (run : Straight) : Type 0 where
  pub before : List Pushing
  pub fuel : ℕ
  pub parts : pushings (empty_run s.start) (lines s m.target (places s) 0) ≡ before ++ pushings run (lines s m.target fuel p)
  pub enough : places s ≤ fuel + p
  pub here : run.prologue.end ≡ address_of s p

line_there : (s : FlowGraph) (m : Marks) (p : ℕ) (i : Instr) (size : ℕ) → standing_at s p ≡ Instruction i size → is_led_to m.target p size ≡ false → line_at s m.target p ≡ Some (i, size)
line_there s m p i size e f = ap (line_by m.target p) e ∙ ap (λ (b : Bool). if b then None else Some (i, size)) f

one_more : (s : FlowGraph) (m : Marks) (p fuel : ℕ) (run next : Straight) (i : Instr) (size : ℕ) → standing_at s p ≡ Instruction i size → is_led_to m.target p size ≡ false → with_instruction run i size ≡ Some next
    → pushings run (lines s m.target (suc fuel) p) ≡ pushing run i ++ pushings next (lines s m.target fuel (p + size / 2))
unfolding pushings
one_more s m p fuel run next i size e f t =
    ap (λ (o : Option (Instr × ℕ)). pushings run (option_map_or (λ line. line ∷ lines s m.target fuel (p + line.1 / 2)) o [])) (line_there s m p i size e f)
    ∙ ap (λ (o : Option Straight). option_map_or (λ t. pushing run i ++ pushings t (lines s m.target fuel (p + size / 2))) o []) t

is_cut : (s : FlowGraph) (m : Marks) (p : ℕ) (run : Straight) → s.start % 2 ≡ 0 → s.end + 4 ≤ 2 ^ 32 → IsRun s m p run → IsCut s m p run
is_cut s m _ _ even low begins = record { before = []; fuel = places s; parts = refl; enough = omega arith; here = omega arith }
is_cut s m _ _ even low (takes {p} {run} {next} {i} {size} r e f t) = go (is_cut s m p run even low r)
  where
    half : (size ≡ 2) ⊎ (size ≡ 4) → 1 ≤ size / 2
    half (inl n) = omega (arith, n)
    half (inr n) = omega (arith, n)

    by : (d : IsCut s m p run) (fuel : ℕ) → d.fuel ≡ fuel → IsCut s m (p + size / 2) next
    by d zero q = absurd (omega (arith, d.enough, stands_below s p i size e, q))
    by d (suc fuel) q =
        let l = line_is s m.target p (i, size) (line_there s m p i size e f) in
        let h = half l.size in
        record {
          before = d.before ++ pushing run i;
          fuel = fuel;
          parts = d.parts ∙ ap (λ (n : ℕ). d.before ++ pushings run (lines s m.target n p)) q ∙ ap (λ z. d.before ++ z) (one_more s m p fuel run next i size e f t) ∙ (rw append_assoc refl);
          enough = omega (arith, d.enough, q, h);
          here = next_address s p size run next i low d.here l t;
        }

    go : IsCut s m p run → IsCut s m (p + size / 2) next
    go d = by d d.fuel refl

-- what is told at a PUSH
told : (s : FlowGraph) (m : Marks) (p : ℕ) (run : Straight) (list : ℕ) → s.start % 2 ≡ 0 → s.end + 4 ≤ 2 ^ 32 → IsPush s m p run list
    → saves_at s m (address_of s p) ≡ word_bits (prologue s m) (run.fact.depth + 4 * length (registers_of_list list)) (length (registers_of_list list))
unfolding saves_at pushes_of
told s m p run list even low x = go (is_cut s m p run even low x.comes) (is_cut s m p run even low x.comes).fuel refl
  where
    half : (x.size ≡ 2) ⊎ (x.size ≡ 4) → 1 ≤ x.size / 2
    half (inl n) = omega (arith, n)
    half (inr n) = omega (arith, n)

    go : (d : IsCut s m p run) (fuel : ℕ) → d.fuel ≡ fuel
        → saves_over 0 (map (mark_push (prologue s m)) (pushings (empty_run s.start) (lines s m.target (places s) 0))) (address_of s p) ≡ word_bits (prologue s m) (run.fact.depth + 4 * length (registers_of_list list)) (length (registers_of_list list))
    go d zero q = absurd (omega (arith, d.enough, stands_below s p (Push list) x.size x.stands, q))
    go d (suc fuel) q =
        let l = line_is s m.target p (Push list, x.size) (line_there s m p (Push list) x.size x.stands x.free) in
        let whole = d.parts ∙ ap (λ (n : ℕ). d.before ++ pushings run (lines s m.target n p)) q ∙ ap (λ z. d.before ++ z) (one_more s m p fuel run x.next (Push list) x.size x.stands x.free x.takes) in
        let from = pushings_from s m.target fuel (p + x.size / 2) x.next even low (next_address s p x.size run x.next (Push list) low d.here l x.takes) in
        let h = half l.size in
        let apart = All-map (λ (y : ProloguePush). y.at ≢ run.prologue.end) (mark_push (prologue s m)) (pushings x.next (lines s m.target fuel (p + x.size / 2)))
        (All-weaker (λ (y : Pushing). IsFrom s (p + x.size / 2) y.at) (λ (y : Pushing). y.at ≢ run.prologue.end) (λ y z e. omega (arith, z.above, h, e, d.here)) (pushings x.next (lines s m.target fuel (p + x.size / 2))) from) in
        ap (λ (a : ℕ). saves_over 0 (map (mark_push (prologue s m)) (pushings (empty_run s.start) (lines s m.target (places s) 0))) a) (sym d.here)
        ∙ ap (λ l. saves_over 0 (map (mark_push (prologue s m)) l) run.prologue.end) whole
        ∙ ap (λ l. saves_over 0 l run.prologue.end) (map-append (mark_push (prologue s m)) d.before (pushing run (Push list) ++ pushings x.next (lines s m.target fuel (p + x.size / 2))))
        ∙ found_over 0 (map (mark_push (prologue s m)) d.before) (mark_push (prologue s m) (record { at = run.prologue.end; lowest = run.fact.depth + 4 * length (registers_of_list list); words = length (registers_of_list list) }))
        (map (mark_push (prologue s m)) (pushings x.next (lines s m.target fuel (p + x.size / 2)))) apart

-- ---- elsewhere

record StandsBy (s : FlowGraph) (m : Marks) (a : ℕ) : Type 0 where
  pub place : ℕ
  pub run : Straight
  pub list : ℕ
  pub push : IsPush s m place run list
  pub address : a ≡ address_of s place

abbrev nothing : (X : Type 0) → Option X
nothing X = None

line_back : (s : FlowGraph) (target : ℕ → Bool) (p : ℕ) (i : Instr) (size : ℕ) → line_at s target p ≡ Some (i, size) → (standing_at s p ≡ Instruction i size) × (is_led_to target p size ≡ false)
line_back s target p i size e = go (standing_at s p) refl e
  where
    go : (x : Standing) → standing_at s p ≡ x → line_by target p x ≡ Some (i, size) → (standing_at s p ≡ Instruction i size) × (is_led_to target p size ≡ false)
    go Udf f e = absurd (cc)
    go Nothing f e = absurd (cc)
    go (Instruction j n) f e = by (is_led_to target p n) refl e
      where
        by : (t : Bool) → is_led_to target p n ≡ t → cond t (nothing (Instr × ℕ)) (Some (j, n)) ≡ Some (i, size) → (standing_at s p ≡ Instruction i size) × (is_led_to target p size ≡ false)
        by true q e = absurd (cc)
        by false q e =
            let one : j ≡ i = ap (λ (x : Instr × ℕ). x.0) (unsome (j, n) (i, size) e) in
            let two : n ≡ size = ap (λ (x : Instr × ℕ). x.1) (unsome (j, n) (i, size) e) in
            (f ∙ ap (λ k. Instruction k n) one ∙ ap (Instruction i) two, ap (is_led_to target p) (sym two) ∙ q)

stands_by : (s : FlowGraph) (m : Marks) (fuel p : ℕ) (run : Straight) → s.end + 4 ≤ 2 ^ 32 → IsRun s m p run → run.prologue.end ≡ address_of s p
    → All (λ (x : Pushing). StandsBy s m x.at) (pushings run (lines s m.target fuel p))
unfolding pushings
stands_by s m zero p run low r e = All-nil (λ (x : Pushing). StandsBy s m x.at)
stands_by s m (suc fuel) p run low r e = go (line_at s m.target p) refl (λ q t h k. stands_by s m fuel q t low h k)
  where
    here : (i : Instr) (size : ℕ) (t : Straight) → line_at s m.target p ≡ Some (i, size) → with_instruction run i size ≡ Some t → All (λ (x : Pushing). StandsBy s m x.at) (pushing run i)
    here (Push list) size t f g =
        let b = line_back s m.target p (Push list) size f in
        All-cons (λ (x : Pushing). StandsBy s m x.at) _ []
        (record { place = p; run = run; list = list; push = record { size = size; next = t; comes = r; stands = b.0; free = b.1; takes = g }; address = e })
        (All-nil (λ (x : Pushing). StandsBy s m x.at))
    here i size t f g = All-nil (λ (x : Pushing). StandsBy s m x.at)

    rest : (i : Instr) (size : ℕ) → line_at s m.target p ≡ Some (i, size) → (o : Option Straight) → with_instruction run i size ≡ o
        → ((q : ℕ) (t : Straight) → IsRun s m q t → t.prologue.end ≡ address_of s q → All (λ (x : Pushing). StandsBy s m x.at) (pushings t (lines s m.target fuel q)))
        → All (λ (x : Pushing). StandsBy s m x.at) (option_map_or (λ t. pushing run i ++ pushings t (lines s m.target fuel (p + size / 2))) o [])
    rest i size f None g rec = All-nil (λ (x : Pushing). StandsBy s m x.at)
    rest i size f (Some t) g rec =
        let b = line_back s m.target p i size f in
        All-append (λ (x : Pushing). StandsBy s m x.at) (pushing run i) (pushings t (lines s m.target fuel (p + size / 2))) (here i size t f g)
        (rec (p + size / 2) t (takes r b.0 b.1 g) (next_address s p size run t i low e (line_is s m.target p (i, size) f) g))

    go : (o : Option (Instr × ℕ)) → line_at s m.target p ≡ o
        → ((q : ℕ) (t : Straight) → IsRun s m q t → t.prologue.end ≡ address_of s q → All (λ (x : Pushing). StandsBy s m x.at) (pushings t (lines s m.target fuel q)))
        → All (λ (x : Pushing). StandsBy s m x.at) (pushings run (option_map_or (λ line. line ∷ lines s m.target fuel (p + line.1 / 2)) o []))
    go None f rec = All-nil (λ (x : Pushing). StandsBy s m x.at)
    go (Some (i, size)) f rec = rest i size f (with_instruction run i size) refl rec

elsewhere : (s : FlowGraph) (m : Marks) (a : ℕ) → s.end + 4 ≤ 2 ^ 32 → ((p : ℕ) (run : Straight) (list : ℕ) → IsPush s m p run list → a ≡ address_of s p → ⊥) → saves_at s m a ≡ 0
unfolding saves_at pushes_of
elsewhere s m a low away =
    over_other 0 (map (mark_push (prologue s m)) (pushings (empty_run s.start) (lines s m.target (places s) 0))) a
    (All-map (λ (y : ProloguePush). y.at ≢ a) (mark_push (prologue s m)) (pushings (empty_run s.start) (lines s m.target (places s) 0))
    (All-weaker (λ (y : Pushing). StandsBy s m y.at) (λ (y : Pushing). y.at ≢ a) (λ y z e. away z.place z.run z.list z.push (sym e ∙ z.address)) (pushings (empty_run s.start) (lines s m.target (places s) 0))
    (stands_by s m (places s) 0 (empty_run s.start) low begins (omega arith))))

-- ---- every save

grown : (xs : List Save) (c : ℕ) (new x : Save) → Contains (take (c + 1) (set xs c new)) x → Contains (take c xs) x ⊎ (new ≡ x)
grown xs c new x h = go (nat_lt c (length xs)) refl
  where
    go : (t : Bool) → nat_lt c (length xs) ≡ t → Contains (take c xs) x ⊎ (new ≡ x)
    go true t = Contains-push_cases (take c xs) new x (subst (λ (l : List Save). Contains l x) (take_more_set xs c new (ltb-true _ _ t)) h)
    go false t =
        let l = ltb-false _ _ t in
        let none : take (c + 1) (set xs c new) ≡ take c xs = take_all (c + 1) (set xs c new) (omega (arith, l, length-set xs c new)) ∙ set_past xs c new l ∙ sym (take_all c xs l) in
        inl (subst (λ (l : List Save). Contains l x) none h)
      where
        set_past : (ys : List Save) (k : ℕ) (y : Save) → length ys ≤ k → set ys k y ≡ ys
        set_past [] k y l = refl
        set_past (z ∷ ys) zero y l = absurd (omega arith)
        set_past (z ∷ ys) (suc k) y l = ap (λ (w : List Save). z ∷ w) (set_past ys k y (omega arith))

saved_offset : (offset : ℕ) (held : Source) (x : Save) → save_of_word offset held ≡ Some x → x.offset ≡ offset
saved_offset offset (Entry k) x e = go (is_callers k) e
  where
    go : (t : Bool) → (if t then Some (record { reg = k; offset = offset }) else None) ≡ Some x → x.offset ≡ offset
    go true e = sym (ap (λ (y : Save). y.offset) (unsome _ _ e))
    go false e = absurd (cc)
saved_offset offset (SpAt k) x e = absurd (cc)
saved_offset offset Other x e = absurd (cc)

pushed_saves : (p q : Prologue) (f : Fact) (regs : List ℕ) (x : Save) → with_push_saves p f regs ≡ Some q → Contains (saves_of q) x
    → Contains (saves_of p) x ⊎ ((k : ℕ) × (k < length regs) × (x.offset + 4 * k ≡ f.depth + 4 * length regs))
pushed_saves p q f [] x e h = inl (subst (λ (r : Prologue). Contains (saves_of r) x) (sym (unsome _ _ e)) h)
pushed_saves p q f (reg ∷ more) x e h = go (with_push_saves p f more) refl e
    (λ mid m c. pushed_saves p mid f more x m c)
  where
    later : Contains (saves_of p) x ⊎ ((k : ℕ) × (k < length more) × (x.offset + 4 * k ≡ f.depth + 4 * length more))
        → Contains (saves_of p) x ⊎ ((k : ℕ) × (k < length (reg ∷ more)) × (x.offset + 4 * k ≡ f.depth + 4 * length (reg ∷ more)))
    later (inl d) = inl d
    later (inr (k, l, d)) = inr (k + 1, omega (arith, l), omega (arith, d))

    last : (mid : Prologue) (new : Save) → (Contains (saves_of mid) x → Contains (saves_of p) x ⊎ ((k : ℕ) × (k < length (reg ∷ more)) × (x.offset + 4 * k ≡ f.depth + 4 * length (reg ∷ more)))) → save_of_word (f.depth + 4 * length (reg ∷ more)) (source f reg) ≡ Some new
        → Contains (saves_of mid) x ⊎ (new ≡ x) → Contains (saves_of p) x ⊎ ((k : ℕ) × (k < length (reg ∷ more)) × (x.offset + 4 * k ≡ f.depth + 4 * length (reg ∷ more)))
    last mid new rec s (inl c) = rec c
    last mid new rec s (inr same) =
        let at = ap (λ (y : Save). y.offset) (sym same) ∙ saved_offset (f.depth + 4 * length (reg ∷ more)) (source f reg) new s in
        inr (0, omega arith, omega (arith, at))

    room : (mid : Prologue) (new : Save) → (Contains (saves_of mid) x → Contains (saves_of p) x ⊎ ((k : ℕ) × (k < length (reg ∷ more)) × (x.offset + 4 * k ≡ f.depth + 4 * length (reg ∷ more)))) → save_of_word (f.depth + 4 * length (reg ∷ more)) (source f reg) ≡ Some new
        → (t : Bool) → cond t (Some (record mid { count = mid.count + 1; saves = set mid.saves mid.count new })) (nothing Prologue) ≡ Some q → Contains (saves_of p) x ⊎ ((k : ℕ) × (k < length (reg ∷ more)) × (x.offset + 4 * k ≡ f.depth + 4 * length (reg ∷ more)))
    room mid new rec s false g = absurd (cc)
    room mid new rec s true g = last mid new rec s (grown mid.saves mid.count new x (subst (λ (r : Prologue). Contains (saves_of r) x) (sym (unsome _ _ g)) h))

    saves : (mid : Prologue) → (Contains (saves_of mid) x → Contains (saves_of p) x ⊎ ((k : ℕ) × (k < length (reg ∷ more)) × (x.offset + 4 * k ≡ f.depth + 4 * length (reg ∷ more)))) → (o : Option Save) → save_of_word (f.depth + 4 * length (reg ∷ more)) (source f reg) ≡ o → with_save o mid ≡ Some q
        → Contains (saves_of p) x ⊎ ((k : ℕ) × (k < length (reg ∷ more)) × (x.offset + 4 * k ≡ f.depth + 4 * length (reg ∷ more)))
    saves mid rec None s g = rec (subst (λ (r : Prologue). Contains (saves_of r) x) (sym (unsome _ _ g)) h)
    saves mid rec (Some new) s g = room mid new rec s (nat_lt mid.count MOST_SAVES) g

    go : (o : Option Prologue) → with_push_saves p f more ≡ o → option_and_then (with_save (save_of_word (f.depth + 4 * length (reg ∷ more)) (source f reg))) o ≡ Some q
        → ((mid : Prologue) → with_push_saves p f more ≡ Some mid → Contains (saves_of mid) x → Contains (saves_of p) x ⊎ ((k : ℕ) × (k < length more) × (x.offset + 4 * k ≡ f.depth + 4 * length more)))
        → Contains (saves_of p) x ⊎ ((k : ℕ) × (k < length (reg ∷ more)) × (x.offset + 4 * k ≡ f.depth + 4 * length (reg ∷ more)))
    go None m e rec = absurd (cc)
    go (Some mid) m e rec = saves mid (λ c. later (rec mid m c)) (save_of_word (f.depth + 4 * length (reg ∷ more)) (source f reg)) refl e

-- what an instruction of the run saves
record IsOne (s : FlowGraph) (m : Marks) (x : Save) : Type 0 where
  pub place : ℕ
  pub run : Straight
  pub list : ℕ
  pub word : ℕ
  pub push : IsPush s m place run list
  pub is : IsWord run list word x.offset

taken_saves : (run t : Straight) (i : Instr) (size : ℕ) → with_instruction run i size ≡ Some t → (q : Prologue) × (prologue_after run i ≡ Some q) × (saves_of t.prologue ≡ saves_of q)
taken_saves run t i size e = go (nat_le run.fact.depth DEEPEST && may_stand i) (prologue_after run i) refl e
  where
    by : (q : Prologue) (o : Option Fact) → option_map (λ (f : Fact). record { fact = f; prologue = record q { end = (run.prologue.end + size) % 2 ^ 32 } }) o ≡ Some t
        → saves_of t.prologue ≡ saves_of q
    by q None e = absurd (cc)
    by q (Some f) e = sym (ap (λ (z : Straight). saves_of z.prologue) (unsome _ _ e))

    go : (b : Bool) (o : Option Prologue) → prologue_after run i ≡ o → (if b then option_and_then (run_with_end run i size) o else None) ≡ Some t → (q : Prologue) × (prologue_after run i ≡ Some q) × (saves_of t.prologue ≡ saves_of q)
    go false o p e = absurd (cc)
    go true None p e = absurd (cc)
    go true (Some q) p e = (q, p, by q (effect (record q { end = (run.prologue.end + size) % 2 ^ 32 }) false run.prologue.end i run.fact) e)

one_saves : (s : FlowGraph) (m : Marks) (p size : ℕ) (i : Instr) (run t : Straight) (x : Save) → IsRun s m p run → standing_at s p ≡ Instruction i size → is_led_to m.target p size ≡ false → with_instruction run i size ≡ Some t
    → Contains (saves_of t.prologue) x → Contains (saves_of run.prologue) x ⊎ IsOne s m x
one_saves s m p size (Push list) run t x r e f g h = go (taken_saves run t (Push list) size g)
  where
    by : Contains (saves_of run.prologue) x ⊎ ((k : ℕ) × (k < length (registers_of_list list)) × (x.offset + 4 * k ≡ run.fact.depth + 4 * length (registers_of_list list))) → Contains (saves_of run.prologue) x ⊎ IsOne s m x
    by (inl c) = inl c
    by (inr (k, l, w)) = inr (record { place = p; run = run; list = list; word = k; push = record { size = size; next = t; comes = r; stands = e; free = f; takes = g }; is = (l, w) })

    go : (q : Prologue) × (prologue_after run (Push list) ≡ Some q) × (saves_of t.prologue ≡ saves_of q) → Contains (saves_of run.prologue) x ⊎ IsOne s m x
    go (q, b, c) = by (pushed_saves run.prologue q run.fact (registers_of_list list) x b (subst (λ (l : List Save). Contains l x) c h))
one_saves s m p size i run t x r e f g h = go (taken_saves run t i size g)
  where
    go : (q : Prologue) × (prologue_after run i ≡ Some q) × (saves_of t.prologue ≡ saves_of q) → Contains (saves_of run.prologue) x ⊎ IsOne s m x
    go (q, b, c) = inl (subst (λ (l : List Save). Contains l x) (c ∙ ap saves_of (sym (unsome run.prologue q b))) h)

each_from : (s : FlowGraph) (m : Marks) (fuel p : ℕ) (run : Straight) (x : Save) → IsRun s m p run → Contains (saves_of (run_on run (lines s m.target fuel p)).prologue) x
    → Contains (saves_of run.prologue) x ⊎ IsOne s m x
each_from s m zero p run x r h = inl h
each_from s m (suc fuel) p run x r h = go (line_at s m.target p) refl h (λ q t k c. each_from s m fuel q t x k c)
  where
    by : (i : Instr) (size : ℕ) (t : Straight) → with_instruction run i size ≡ Some t → standing_at s p ≡ Instruction i size → is_led_to m.target p size ≡ false → Contains (saves_of t.prologue) x ⊎ IsOne s m x
        → Contains (saves_of run.prologue) x ⊎ IsOne s m x
    by i size t g e n (inl c) = one_saves s m p size i run t x r e n g c
    by i size t g e n (inr c) = inr c

    rest : (i : Instr) (size : ℕ) → line_at s m.target p ≡ Some (i, size) → (o : Option Straight) → with_instruction run i size ≡ o
        → Contains (saves_of (option_map_or (λ t. run_on t (lines s m.target fuel (p + size / 2))) o run).prologue) x
        → ((q : ℕ) (t : Straight) → IsRun s m q t → Contains (saves_of (run_on t (lines s m.target fuel q)).prologue) x → Contains (saves_of t.prologue) x ⊎ IsOne s m x)
        → Contains (saves_of run.prologue) x ⊎ IsOne s m x
    rest i size f None g h rec = inl h
    rest i size f (Some t) g h rec =
        let b = line_back s m.target p i size f in
        by i size t g b.0 b.1 (rec (p + size / 2) t (takes r b.0 b.1 g) h)

    go : (o : Option (Instr × ℕ)) → line_at s m.target p ≡ o → Contains (saves_of (run_on run (option_map_or (λ line. line ∷ lines s m.target fuel (p + line.1 / 2)) o [])).prologue) x
        → ((q : ℕ) (t : Straight) → IsRun s m q t → Contains (saves_of (run_on t (lines s m.target fuel q)).prologue) x → Contains (saves_of t.prologue) x ⊎ IsOne s m x)
        → Contains (saves_of run.prologue) x ⊎ IsOne s m x
    go None f h rec = inl h
    go (Some (i, size)) f h rec = rest i size f (with_instruction run i size) refl h rec

-- ---- the law

pub saves_are_words : SavesAreWords
unfolding prologue
saves_are_words = record { bits = bits; past = past; elsewhere = λ s m a even low away. elsewhere s m a low away; each = each }
  where
    lone : (b : Bool) → (one_bit b ≡ 1) ↔ (b ≡ true)
    lone true = ((λ e. refl), (λ e. refl))
    lone false = ((λ e. absurd (omega arith)), (λ e. absurd (cc)))

    bits : (s : FlowGraph) (m : Marks) (p : ℕ) (run : Straight) (list k offset : ℕ) → s.start % 2 ≡ 0 → s.end + 4 ≤ 2 ^ 32 → IsPush s m p run list → IsWord run list k offset
        → (bit_at (saves_at s m (address_of s p)) k ≡ 1) ↔ (is_saved (prologue s m) offset ≡ true)
    bits s m p run list k offset even low x w =
        let at : run.fact.depth + 4 * length (registers_of_list list) - 4 * k ≡ offset = omega (arith, w.1) in
        let bit = ap (λ (n : ℕ). bit_at n k) (told s m p run list even low x) ∙ bit_is (prologue s m) (run.fact.depth + 4 * length (registers_of_list list)) (length (registers_of_list list)) k w.0
        ∙ ap (λ (n : ℕ). one_bit (is_saved (prologue s m) n)) at in
        let both = lone (is_saved (prologue s m) offset) in
        ((λ e. both.0 (sym bit ∙ e)), (λ e. bit ∙ both.1 e))

    past : (s : FlowGraph) (m : Marks) (p : ℕ) (run : Straight) (list k : ℕ) → s.start % 2 ≡ 0 → s.end + 4 ≤ 2 ^ 32 → IsPush s m p run list → length (registers_of_list list) ≤ k
        → bit_at (saves_at s m (address_of s p)) k ≡ 0
    past s m p run list k even low x l =
        ap (λ (n : ℕ). bit_at n k) (told s m p run list even low x)
        ∙ bit_at_above (word_bits (prologue s m) (run.fact.depth + 4 * length (registers_of_list list)) (length (registers_of_list list))) (length (registers_of_list list)) k (bits_below (prologue s m) (run.fact.depth + 4 * length (registers_of_list list)) (length (registers_of_list list))) l

    each : (s : FlowGraph) (m : Marks) (x : Save) → Contains (saves_of (prologue s m)) x → (p : ℕ) × (run : Straight) × (list : ℕ) × (k : ℕ) × IsPush s m p run list × IsWord run list k x.offset
    each s m x h = go (each_from s m (places s) 0 (empty_run s.start) x begins h)
      where
        go : Contains (saves_of (empty_run s.start).prologue) x ⊎ IsOne s m x → (p : ℕ) × (run : Straight) × (list : ℕ) × (k : ℕ) × IsPush s m p run list × IsWord run list k x.offset
        go (inl c) = absurd (omega (arith, c.1))
        go (inr o) = (o.place, o.run, o.list, o.word, o.push, o.is)
