-- Running a recipe is unwinding by its codes.
use Rattle.std.proofs.Common.{◌≡◌, ℕ, ◌+◌, ◌-◌, ◌*◌, ◌%◌, ◌^◌, ◌<◌, ◌==◌, ◌||◌, Bool, true, false, not, cond, List, [], ◌∷◌, ◌++◌, length, Option, Some, None, refl, arith, ◌∙◌, ap, sym, ℤ, pos}
use Rattle.std.specs.Prelude.{Result, Ok, Err, ◌+ℤ◌, ◌-ℤ◌, ◌≤ℤ◌, is_some, unwrap_or, slice_index, slice_index_or, slice_set}
use Rattle.std.specs.Int.{w32, cast_unsigned}
use Rattle.std.specs.List.{list_any}
use Rattle.std.proofs.lemmas.Grind.{common_steps}
use Rattle.std.proofs.lemmas.Int.{ints}
use Rattle.eh_word.specs.Words.{plus_offset}
use Rattle.eh_bus.specs.Segment.{Segment}
use Rattle.eh_bus.specs.Memory.{load_number}
use Rattle.eh_bus.specs.declared.fault.BusFault.{BusFault}
use Rattle.thumb_core.specs.Words.{Load, load_words, loads_from, ◌>>=◌}
use Rattle.thumb_core.specs.Registers.{write_register, word_in}
use Rattle.eh_codes.specs.Cut.{Item, Is, Bad}
use Rattle.eh_codes.specs.Meaning.{Effect, Rises, Falls, Pops, Takes, Refuses, Finishes, effect}
use Rattle.eh_bytecode.specs.declared.frame.UnwindEnd.{UnwindEnd}
use Rattle.eh_bytecode.specs.declared.frame.UnwindState.{UnwindState}
use Rattle.eh_bytecode.specs.declared.recipe.Src.{Src}
use Rattle.eh_bytecode.specs.declared.recipe.Src.TheVariants.{Same}
use Rattle.eh_bytecode.specs.declared.recipe.Recipe.{Recipe}
use Rattle.eh_bytecode.specs.declared.recipe.RecipeFault.{RecipeFault}
use Rattle.eh_bytecode.specs.declared.recipe.RecipeFault.TheVariants as fault
use Rattle.eh_bytecode.specs.declared.recipe.PartialRecipe.{PartialRecipe}
use Rattle.eh_bytecode.specs.Meaning.{effect_step, pop_step, continue_unwind, run_codes, finish_registers, begin_unwind, unwind_result}
use Rattle.eh_bytecode.specs.Recipe.{Goes, Ends, sum_after, sums_on, sums, recipe, recipe_of, empty_recipe, unless_far, is_same, is_far, IsNear, word_source, fill_sources}
use Rattle.eh_bytecode.specs.RecipeLaw.{Loads, loads_at, in_front, loads_more, loads_on, loads_of, is_loaded, finish_recipe, or_unreadable, Small, RecipesRun}
use Rattle.eh_bytecode.proofs.Near.{near_high, near_low}

-- ---- words that are loaded

each_load : {A : Type 0} (o : Result ℕ BusFault) (f g : ℕ → Result A BusFault) → ((x : ℕ) → f x ≡ g x) → (o >>= f) ≡ (o >>= g)
each_load (Ok x) f g h = h x
each_load (Err e) f g h = refl

load_next : (o : Result ℕ BusFault) (f : ℕ → Result (List ℕ) BusFault) (g : List ℕ → Result (List ℕ) BusFault) → (o >>= (λ x. f x >>= g)) ≡ ((o >>= f) >>= g)
load_next (Ok x) f g = refl
load_next (Err e) f g = refl

load-append : (m : List Segment) (b : ℕ) (first rest : List Load) (r : List ℕ) → load_words m b (first ++ rest) r ≡ (load_words m b first r >>= (λ s. load_words m b rest s))
load-append m b [] rest r = refl
load-append m b (l ∷ more) rest r =
    each_load (load_number 4 m ((b + l.at) % 2 ^ 32)) _ _ (λ x. load-append m b more rest (write_register r l.reg x))
    ∙ load_next (load_number 4 m ((b + l.at) % 2 ^ 32)) (λ x. load_words m b more (write_register r l.reg x)) (λ s. load_words m b rest s)

same_place : (b j : ℕ) (off : ℤ) → (pos 0 -ℤ pos 65536) ≤ℤ off → (plus_offset b off + j) % 2 ^ 32 ≡ (b + cast_unsigned w32 (off +ℤ pos j)) % 2 ^ 32
same_place b j off low = grind (arith, ints)

next_place : (off : ℤ) (j : ℕ) → off +ℤ pos (j + 4) ≡ off +ℤ pos j +ℤ pos 4
next_place off j = omega (arith, ints)

loads_same : (m : List Segment) (b : ℕ) (off : ℤ) (j : ℕ) (registers r : List ℕ) → (pos 0 -ℤ pos 65536) ≤ℤ off → load_words m (plus_offset b off) (loads_from j registers) r ≡ load_words m b (loads_at (off +ℤ pos j) registers) r
loads_same m b off j [] r low = refl
loads_same m b off j (k ∷ more) r low =
    ap (λ a. load_number 4 m a >>= (λ x. load_words m (plus_offset b off) (loads_from (j + 4) more) (write_register r k x))) (same_place b j off low)
    ∙ each_load (load_number 4 m ((b + cast_unsigned w32 (off +ℤ pos j)) % 2 ^ 32)) _ _
    (λ x. loads_same m b off (j + 4) more (write_register r k x) low ∙ ap (λ (o : ℤ). load_words m b (loads_at o more) (write_register r k x)) (next_place off j))

first_place : (off : ℤ) → off +ℤ pos 0 ≡ off
first_place off = omega (arith, ints)

pub loads_first : (m : List Segment) (b v : ℕ) (off : ℤ) (registers r : List ℕ) → IsNear off → v ≡ plus_offset b off → load_words m v (loads_from 0 registers) r ≡ load_words m b (loads_at off registers) r
loads_first m b v off registers r near e =
    ap (λ p. load_words m p (loads_from 0 registers) r) e ∙ loads_same m b off 0 registers r (near_low off near) ∙ ap (λ (o : ℤ). load_words m b (loads_at o registers) r) (first_place off)

pub loaded_same : (off : ℤ) (registers : List ℕ) → is_loaded 15 (loads_at off registers) ≡ list_any (λ k. k == 15) registers
loaded_same off [] = refl
loaded_same off (k ∷ more) = ap (λ b. (k == 15) || b) (loaded_same (off +ℤ pos 4) more)

pub loaded-append : (xs ys : List Load) → is_loaded 15 (xs ++ ys) ≡ (is_loaded 15 xs || is_loaded 15 ys)
loaded-append [] ys = refl
loaded-append (x ∷ xs) ys = elim (x.reg == 15) as (λ b. (b || is_loaded 15 (xs ++ ys)) ≡ ((b || is_loaded 15 xs) || is_loaded 15 ys)) [
  | true ↦ refl
  | false ↦ loaded-append xs ys
]

-- ---- registers whose source is their own value keep it

-- a register takes a word and a source, and another keeps both
one_set : (src : List Src) (r : List ℕ) (j k x : ℕ) (of : Src) → length src ≡ 16 → length r ≡ 16 → is_same of ≡ false → is_same (slice_index_or (slice_set src j of) k Same) ≡ true →
    (is_same (slice_index_or src k Same) ≡ true) × (slice_index (slice_set r j x) k ≡ slice_index r k)
one_set src r j k x of sources wide other same = (grind (arith, common_steps), grind (arith, common_steps))

from_other : (based : Bool) (off : ℤ) → is_same (word_source based off) ≡ false
from_other true off = refl
from_other false off = refl

abbrev pub Keeps : List Src → List Src → List ℕ → List ℕ → Type 0
Keeps src fill_sources r new =
    (length new ≡ 16) × ((k : ℕ) → is_same (slice_index_or fill_sources k Same) ≡ true → (is_same (slice_index_or src k Same) ≡ true) × (slice_index new k ≡ slice_index r k))

keeps_on : (o : Result ℕ BusFault) (f : ℕ → Result (List ℕ) BusFault) (src last : List Src) (j : ℕ) (of : Src) (r new : List ℕ) → length src ≡ 16 → length r ≡ 16 → is_same of ≡ false →
    ((x : ℕ) → length (write_register r j x) ≡ 16 → length (slice_set src j of) ≡ 16 → f x ≡ Ok new → Keeps (slice_set src j of) last (write_register r j x) new) →
    (o >>= f) ≡ Ok new → Keeps src last r new
keeps_on (Err e) f src last j of r new sources wide other each h = cc
keeps_on (Ok x) f src last j of r new sources wide other each h =
    let wider : length (write_register r j x) ≡ 16 = grind (arith, common_steps) in
    let longer : length (slice_set src j of) ≡ 16 = grind (arith, common_steps) in
    let all = each x wider longer h in (
      all.0,
      λ k own.
          let following = all.1 k own in
          let first = one_set src r j k (word_in j x) of sources wide other following.0 in
          (first.0, following.1 ∙ first.1),
    )

keeps : (m : List Segment) (b : ℕ) (based : Bool) (at off : ℤ) (registers : List ℕ) (src : List Src) (r new : List ℕ) → length src ≡ 16 → length r ≡ 16 →
    load_words m b (loads_at at registers) r ≡ Ok new → Keeps src (fill_sources based off registers src) r new
keeps m b based at off [] src r new sources wide is =
    let same : r ≡ new = cc in
    (sym (ap length same) ∙ wide, λ k own. (own, sym (ap (λ l. slice_index l k) same)))
keeps m b based at off (j ∷ more) src r new sources wide is =
    keeps_on (load_number 4 m ((b + cast_unsigned w32 at) % 2 ^ 32)) (λ x. load_words m b (loads_at (at +ℤ pos 4) more) (write_register r j x)) src (fill_sources based (off +ℤ pos 4) more (slice_set src j (word_source based off))) j (word_source based off) r new sources wide (from_other based off)
    (λ x wider longer h. keeps m b based (at +ℤ pos 4) (off +ℤ pos 4) more (slice_set src j (word_source based off)) (write_register r j x) new longer wider h) is

length-filled : (based : Bool) (off : ℤ) (registers : List ℕ) (src : List Src) → length src ≡ 16 → length (fill_sources based off registers src) ≡ 16
length-filled based off [] src h = h
length-filled based off (k ∷ more) src h = length-filled based (off +ℤ pos 4) more (slice_set src k (word_source based off)) (grind (arith, common_steps))

-- ---- a sum and the state of an unwinding that stand for each other

pub record Stands (old : List ℕ) (s : PartialRecipe) (t : UnwindState) : Type 0 where
  pub place : t.vsp ≡ plus_offset (slice_index old (unwrap_or s.base 13)) s.vsp
  pub near : IsNear s.vsp
  pub wide : length t.r ≡ 16
  pub sources : length s.src ≡ 16
  pub same : (k : ℕ) → is_same (slice_index_or s.src k Same) ≡ true → slice_index t.r k ≡ slice_index old k

-- once the virtual stack pointer was taken, it isn't taken again, and nothing is loaded from the stack pointer
none_from_sp : (off : ℤ) (items : List Item) → (loads_on true off items).from_sp ≡ []
none_from_sp off [] = refl
none_from_sp off (Bad place ∷ _) = refl
none_from_sp off (Is code ∷ more) = none_more (effect code) off (λ o. none_from_sp o more)
  where
    none_more : (e : Effect) (off : ℤ) → ((o : ℤ) → (loads_on true o more).from_sp ≡ []) → (loads_more (λ based offset. loads_on based offset more) true off e).from_sp ≡ []
    none_more (Rises by) off each = each (off +ℤ pos by)
    none_more (Falls by) off each = each (off -ℤ pos by)
    none_more (Pops registers) off each = each (off +ℤ pos (4 * length registers))
    none_more (Takes register) off each = each (pos 0)
    none_more Refuses off each = refl
    none_more Finishes off each = refl

with_near : (s : PartialRecipe) (of : Recipe) (f : PartialRecipe → Result Recipe RecipeFault) (P : Type 0) → sums_on f (unless_far s) ≡ Ok of → (IsNear s.vsp → f s ≡ Ok of → P) → P
with_near s of f P h each = near_cases (is_far s.vsp) refl
  where
    near_cases : (far : Bool) → is_far s.vsp ≡ far → P
    near_cases true e =
        let none : ◌≡◌ {A = Result Recipe RecipeFault} (sums_on f (unless_far s)) (Ok of) = h in
        absurd (grind (arith, e, none))
    near_cases false e = each e (let some : f s ≡ Ok of = grind (arith, e, h) in some)

taken : (b : Bool) (sum : PartialRecipe) (of : Recipe) (f : PartialRecipe → Result Recipe RecipeFault) → sums_on f (cond b (Ends (Err fault.NotStatic)) (Goes sum)) ≡ Ok of → (b ≡ false) × (f sum ≡ Ok of)
taken true sum of f h = cc
taken false sum of f h = (refl, h)

base_kept : (items : List Item) (s : PartialRecipe) (of : Recipe) (k : ℕ) → s.base ≡ Some k → sums s items ≡ Ok of → of.base ≡ k
base_kept [] s of k is h = let e : recipe_of s ≡ of = cc in ap (λ (r : Recipe). r.base) (sym e) ∙ ap (λ b. unwrap_or b 13) is
base_kept (Bad place ∷ _) s of k is h = cc
base_kept (Is code ∷ more) s of k is h = kept_more (effect code) h (λ n. base_kept more n of k)
  where
    kept_more : (e : Effect) → sums_on (λ n. sums n more) (sum_after s e) ≡ Ok of → ((n : PartialRecipe) → n.base ≡ Some k → sums n more ≡ Ok of → of.base ≡ k) → of.base ≡ k
    kept_more (Rises by) h each = with_near (record s { vsp = s.vsp +ℤ pos by }) of (λ n. sums n more) (of.base ≡ k) h (λ near h. each (record s { vsp = s.vsp +ℤ pos by }) is h)
    kept_more (Falls by) h each = with_near (record s { vsp = s.vsp -ℤ pos by }) of (λ n. sums n more) (of.base ≡ k) h (λ near h. each (record s { vsp = s.vsp -ℤ pos by }) is h)
    kept_more (Pops registers) h each =
        with_near (record s { vsp = s.vsp +ℤ pos (4 * length registers); src = fill_sources (is_some s.base) s.vsp registers s.src }) of (λ n. sums n more) (of.base ≡ k) h
        (λ near h. each (record s { vsp = s.vsp +ℤ pos (4 * length registers); src = fill_sources (is_some s.base) s.vsp registers s.src }) is h)
    kept_more (Takes register) h each =
        let none = (taken (is_some s.base || not (is_same (slice_index_or s.src register Same))) (record s { base = Some register; vsp = pos 0 }) of (λ n. sums n more) h).0 in
        let some : is_some s.base ≡ true = ap is_some is in
        absurd (grind (arith, none, some))
    kept_more Refuses h each = cc
    kept_more Finishes h each = let e : recipe_of s ≡ of = cc in ap (λ (r : Recipe). r.base) (sym e) ∙ ap (λ b. unwrap_or b 13) is

-- ---- the rest of a run

abbrev pub run_to : List Segment → List ℕ → Recipe → Bool → List ℕ → List Load → List Load → Result (List ℕ) UnwindEnd
run_to m old of pc r sp base =
    or_unreadable (load_words m (slice_index old 13) sp r) (λ s.
    or_unreadable (load_words m (slice_index old of.base) base s) (λ u. Ok (finish_recipe of pc old u)))

abbrev pub run_on : List Segment → List ℕ → Recipe → UnwindState → Loads → Result (List ℕ) UnwindEnd
run_on m old of t load_number = run_to m old of (t.popped_pc || (is_loaded 15 load_number.from_sp || is_loaded 15 load_number.from_base)) t.r load_number.from_sp load_number.from_base

or_nothing : (b : Bool) → b ≡ (b || false)
or_nothing true = refl
or_nothing false = refl

ended : (old : List ℕ) (s : PartialRecipe) (t : UnwindState) (of : Recipe) → Stands old s t → recipe_of s ≡ of → finish_registers t ≡ finish_recipe of (t.popped_pc || false) old t.r
ended old s t of h e =
    ap (λ v. slice_set (cond t.popped_pc t.r (slice_set t.r 15 (slice_index t.r 14))) 13 v) (h.place ∙ ap (λ (r : Recipe). plus_offset (slice_index old r.base) r.vsp) e)
    ∙ ap (λ b. slice_set (cond b t.r (slice_set t.r 15 (slice_index t.r 14))) 13 (plus_offset (slice_index old of.base) of.vsp)) (or_nothing t.popped_pc)

vsp_rises : (b v n : ℕ) (off : ℤ) → IsNear off → v ≡ plus_offset b off → (v + n) % 2 ^ 32 ≡ plus_offset b (off +ℤ pos n)
vsp_rises b v n off near e = ap (λ p. (p + n) % 2 ^ 32) e ∙ same_place b n off (near_low off near)

vsp_falls : (b v n : ℕ) (off : ℤ) → (pos 0 -ℤ pos 65536) ≤ℤ off → off ≤ℤ pos 65536 → (pos 0 -ℤ pos 65536) ≤ℤ (off -ℤ pos n) → v ≡ plus_offset b off → (v + (2 ^ 32 - n)) % 2 ^ 32 ≡ plus_offset b (off -ℤ pos n)
vsp_falls b v n off low high last e = grind (arith, ints)

at_base : (b : ℕ) → b < 2 ^ 32 → b ≡ plus_offset b (pos 0)
at_base b h = grind (arith, ints)

-- ---- pops

abbrev pub popped : UnwindState → List ℕ → List ℕ → UnwindState
popped t registers r = record { vsp = (t.vsp + 4 * length registers) % 2 ^ 32; r = r; popped_pc = t.popped_pc || list_any (λ k. k == 15) registers }

pc_sp : (p a b c d : Bool) → d ≡ (a || b) → ((p || a) || (b || c)) ≡ (p || (d || c))
pc_sp true a b c d e = refl
pc_sp false true b c d e = ap (λ x. x || c) (sym e)
pc_sp false false b c d e = ap (λ x. x || c) (sym e)

pc_base : (p a c d : Bool) → d ≡ (a || c) → ((p || a) || c) ≡ (p || d)
pc_base true a c d e = refl
pc_base false a c d e = sym e

on_read : (o : Result (List ℕ) BusFault) (t : UnwindState) (registers : List ℕ) (further : UnwindState → Result (List ℕ) UnwindEnd) (g : List ℕ → Result (List ℕ) BusFault) (h : List ℕ → Result (List ℕ) UnwindEnd) →
    ((r : List ℕ) → o ≡ Ok r → further (popped t registers r) ≡ or_unreadable (g r) h) → continue_unwind further (pop_step t registers o) ≡ or_unreadable (o >>= g) h
on_read (Ok r) t registers further g h each = each r refl
on_read (Err e) t registers further g h each = refl

pops_sp : (m : List Segment) (old : List ℕ) (of : Recipe) (t : UnwindState) (registers : List ℕ) (off : ℤ) (l : Loads) (further : UnwindState → Result (List ℕ) UnwindEnd) →
    IsNear off → t.vsp ≡ plus_offset (slice_index old 13) off →
    ((r : List ℕ) → load_words m (slice_index old 13) (loads_at off registers) t.r ≡ Ok r → further (popped t registers r) ≡ run_on m old of (popped t registers r) l) →
    continue_unwind further (pop_step t registers (load_words m t.vsp (loads_from 0 registers) t.r)) ≡ run_on m old of t (in_front false (loads_at off registers) l)
pops_sp m old of t registers off l further near place each =
    let first : List Load = loads_at off registers in
    let pc : Bool = t.popped_pc || (is_loaded 15 (first ++ l.from_sp) || is_loaded 15 l.from_base) in
    let rest : List ℕ → Result (List ℕ) UnwindEnd = λ s. or_unreadable (load_words m (slice_index old of.base) l.from_base s) (λ u. Ok (finish_recipe of pc old u)) in
    let same : ((t.popped_pc || list_any (λ k. k == 15) registers) || (is_loaded 15 l.from_sp || is_loaded 15 l.from_base)) ≡ pc =
    pc_sp t.popped_pc (list_any (λ k. k == 15) registers) (is_loaded 15 l.from_sp) (is_loaded 15 l.from_base) (is_loaded 15 (first ++ l.from_sp))
    (loaded-append first l.from_sp ∙ ap (λ b. b || is_loaded 15 l.from_sp) (loaded_same off registers)) in
    ap (λ o. continue_unwind further (pop_step t registers o)) (loads_first m (slice_index old 13) t.vsp off registers t.r near place)
    ∙ on_read (load_words m (slice_index old 13) first t.r) t registers further (λ r. load_words m (slice_index old 13) l.from_sp r) rest
    (λ r is. each r is ∙ ap (λ b. run_to m old of b r l.from_sp l.from_base) same)
    ∙ ap (λ o. or_unreadable o rest) (sym (load-append m (slice_index old 13) first l.from_sp t.r))

pops_base : (m : List Segment) (old : List ℕ) (of : Recipe) (t : UnwindState) (registers : List ℕ) (off : ℤ) (base : List Load) (further : UnwindState → Result (List ℕ) UnwindEnd) →
    IsNear off → t.vsp ≡ plus_offset (slice_index old of.base) off →
    ((r : List ℕ) → load_words m (slice_index old of.base) (loads_at off registers) t.r ≡ Ok r → further (popped t registers r) ≡ run_to m old of ((popped t registers r).popped_pc || is_loaded 15 base) r [] base) →
    continue_unwind further (pop_step t registers (load_words m t.vsp (loads_from 0 registers) t.r)) ≡ run_to m old of (t.popped_pc || is_loaded 15 (loads_at off registers ++ base)) t.r [] (loads_at off registers ++ base)
pops_base m old of t registers off base further near place each =
    let first : List Load = loads_at off registers in
    let pc : Bool = t.popped_pc || is_loaded 15 (first ++ base) in
    let same : ((t.popped_pc || list_any (λ k. k == 15) registers) || is_loaded 15 base) ≡ pc =
    pc_base t.popped_pc (list_any (λ k. k == 15) registers) (is_loaded 15 base) (is_loaded 15 (first ++ base))
    (loaded-append first base ∙ ap (λ b. b || is_loaded 15 base) (loaded_same off registers)) in
    ap (λ o. continue_unwind further (pop_step t registers o)) (loads_first m (slice_index old of.base) t.vsp off registers t.r near place)
    ∙ on_read (load_words m (slice_index old of.base) first t.r) t registers further (λ r. load_words m (slice_index old of.base) base r) (λ u. Ok (finish_recipe of pc old u))
    (λ r is. each r is ∙ ap (λ b. run_to m old of b r [] base) same)
    ∙ ap (λ o. or_unreadable o (λ u. Ok (finish_recipe of pc old u))) (sym (load-append m (slice_index old of.base) first base t.r))

-- ---- one effect more

-- what is known of the codes after an effect
abbrev pub Further : List Segment → List ℕ → Recipe → List Item → Type 0
Further m old of more = (s : PartialRecipe) (t : UnwindState) → Stands old s t → sums s more ≡ Ok of → run_codes m t more ≡ run_on m old of t (loads_on (is_some s.base) s.vsp more)

rise : (m : List Segment) (old : List ℕ) (of : Recipe) (more : List Item) (s : PartialRecipe) (t : UnwindState) (by : ℕ) → Stands old s t → sums_on (λ n. sums n more) (sum_after s (Rises by)) ≡ Ok of → Further m old of more →
    continue_unwind (λ n. run_codes m n more) (effect_step m t (Rises by)) ≡ run_on m old of t (loads_on (is_some s.base) (s.vsp +ℤ pos by) more)
rise m old of more s t by h is each =
    let next : PartialRecipe = record s { vsp = s.vsp +ℤ pos by } in
    let moved_to : UnwindState = record t { vsp = (t.vsp + by) % 2 ^ 32 } in
    with_near next of (λ n. sums n more) (run_codes m moved_to more ≡ run_on m old of t (loads_on (is_some s.base) (s.vsp +ℤ pos by) more)) is
    (λ near further. each next moved_to
    (record { place = vsp_rises (slice_index old (unwrap_or s.base 13)) t.vsp by s.vsp h.near h.place; near = near; wide = h.wide; sources = h.sources; same = h.same }) further)

fall : (m : List Segment) (old : List ℕ) (of : Recipe) (more : List Item) (s : PartialRecipe) (t : UnwindState) (by : ℕ) → Stands old s t → sums_on (λ n. sums n more) (sum_after s (Falls by)) ≡ Ok of → Further m old of more →
    continue_unwind (λ n. run_codes m n more) (effect_step m t (Falls by)) ≡ run_on m old of t (loads_on (is_some s.base) (s.vsp -ℤ pos by) more)
fall m old of more s t by h is each =
    let next : PartialRecipe = record s { vsp = s.vsp -ℤ pos by } in
    let moved_to : UnwindState = record t { vsp = (t.vsp + (2 ^ 32 - by)) % 2 ^ 32 } in
    with_near next of (λ n. sums n more) (run_codes m moved_to more ≡ run_on m old of t (loads_on (is_some s.base) (s.vsp -ℤ pos by) more)) is
    (λ near further. each next moved_to
    (record { place = vsp_falls (slice_index old (unwrap_or s.base 13)) t.vsp by s.vsp (near_low s.vsp h.near) (near_high s.vsp h.near) (near_low (s.vsp -ℤ pos by) near) h.place; near = near; wide = h.wide; sources = h.sources; same = h.same }) further)

not_or : (a b : Bool) → (a || not b) ≡ false → (a ≡ false) × (b ≡ true)
not_or true b h = cc
not_or false true h = (refl, refl)
not_or false false h = cc

takes_on : (m : List Segment) (old : List ℕ) (of : Recipe) (more : List Item) (s : PartialRecipe) (t : UnwindState) (k : ℕ) → Small old → Stands old s t → sums_on (λ n. sums n more) (sum_after s (Takes k)) ≡ Ok of → Further m old of more →
    continue_unwind (λ n. run_codes m n more) (effect_step m t (Takes k)) ≡ run_on m old of t (loads_on true (pos 0) more)
takes_on m old of more s t k small h is each =
    let next : PartialRecipe = record s { base = Some k; vsp = pos 0 } in
    let two = taken (is_some s.base || not (is_same (slice_index_or s.src k Same))) next of (λ n. sums n more) is in
    let own = h.same k (not_or (is_some s.base) (is_same (slice_index_or s.src k Same)) two.0).1 in
    each next (record t { vsp = slice_index t.r k })
    (record { place = own ∙ at_base (slice_index old k) (small k); near = refl; wide = h.wide; sources = h.sources; same = h.same }) two.1

-- the state after pops
after_pops : (m : List Segment) (old : List ℕ) (s : PartialRecipe) (t : UnwindState) (registers r : List ℕ) (b : ℕ) → Stands old s t → IsNear (s.vsp +ℤ pos (4 * length registers)) →
    load_words m b (loads_at s.vsp registers) t.r ≡ Ok r →
    Stands old (record s { vsp = s.vsp +ℤ pos (4 * length registers); src = fill_sources (is_some s.base) s.vsp registers s.src }) (popped t registers r)
after_pops m old s t registers r b h near is =
    let kept = keeps m b (is_some s.base) s.vsp s.vsp registers s.src t.r r h.sources h.wide is in
    record {
      place = vsp_rises (slice_index old (unwrap_or s.base 13)) t.vsp (4 * length registers) s.vsp h.near h.place;
      near = near;
      wide = kept.0;
      sources = length-filled (is_some s.base) s.vsp registers s.src h.sources;
      same = λ k own. (kept.1 k own).1 ∙ h.same k (kept.1 k own).0;
    }

pop_on : (m : List Segment) (old : List ℕ) (of : Recipe) (more : List Item) (s : PartialRecipe) (t : UnwindState) (registers : List ℕ) → Stands old s t → sums_on (λ n. sums n more) (sum_after s (Pops registers)) ≡ Ok of → Further m old of more →
    continue_unwind (λ n. run_codes m n more) (effect_step m t (Pops registers))
    ≡ run_on m old of t (in_front (is_some s.base) (loads_at s.vsp registers) (loads_on (is_some s.base) (s.vsp +ℤ pos (4 * length registers)) more))
pop_on m old of more s t registers h is each =
    let next : PartialRecipe = record s { vsp = s.vsp +ℤ pos (4 * length registers); src = fill_sources (is_some s.base) s.vsp registers s.src } in
    with_near next of (λ n. sums n more)
    (continue_unwind (λ n. run_codes m n more) (effect_step m t (Pops registers)) ≡ run_on m old of t (in_front (is_some s.base) (loads_at s.vsp registers) (loads_on (is_some s.base) (s.vsp +ℤ pos (4 * length registers)) more))) is
    (λ near further. go s.base refl near further)
  where
    next_off : ℤ
    next_off = s.vsp +ℤ pos (4 * length registers)

    go : (o : Option ℕ) → s.base ≡ o → IsNear (s.vsp +ℤ pos (4 * length registers)) → sums (record s { vsp = s.vsp +ℤ pos (4 * length registers); src = fill_sources (is_some s.base) s.vsp registers s.src }) more ≡ Ok of →
        continue_unwind (λ n. run_codes m n more) (effect_step m t (Pops registers)) ≡ run_on m old of t (in_front (is_some s.base) (loads_at s.vsp registers) (loads_on (is_some s.base) (s.vsp +ℤ pos (4 * length registers)) more))
    go None e near further =
        let l : Loads = loads_on (is_some s.base) (s.vsp +ℤ pos (4 * length registers)) more in
        let none : is_some s.base ≡ false = ap is_some e in
        let place : t.vsp ≡ plus_offset (slice_index old 13) s.vsp = h.place ∙ ap (λ b. plus_offset (slice_index old (unwrap_or b 13)) s.vsp) e in
        pops_sp m old of t registers s.vsp l (λ n. run_codes m n more) h.near place
        (λ r is. each _ (popped t registers r) (after_pops m old s t registers r (slice_index old 13) h near is) further)
        ∙ ap (λ b. run_on m old of t (in_front b (loads_at s.vsp registers) l)) (sym none)
    go (Some k) e near further =
        let l : Loads = loads_on (is_some s.base) (s.vsp +ℤ pos (4 * length registers)) more in
        let some : is_some s.base ≡ true = ap is_some e in
        let base : of.base ≡ k = base_kept more _ of k e further in
        let place : t.vsp ≡ plus_offset (slice_index old of.base) s.vsp = h.place ∙ ap (λ b. plus_offset (slice_index old (unwrap_or b 13)) s.vsp) e ∙ ap (λ b. plus_offset (slice_index old b) s.vsp) (sym base) in
        let nothing : l.from_sp ≡ [] = ap (λ b. (loads_on b (s.vsp +ℤ pos (4 * length registers)) more).from_sp) some ∙ none_from_sp (s.vsp +ℤ pos (4 * length registers)) more in
        pops_base m old of t registers s.vsp l.from_base (λ n. run_codes m n more) h.near place
        (λ r is. each _ (popped t registers r) (after_pops m old s t registers r (slice_index old of.base) h near is) further
        ∙ ap (λ sp. run_to m old of ((popped t registers r).popped_pc || (is_loaded 15 sp || is_loaded 15 l.from_base)) r sp l.from_base) nothing)
        ∙ ap (λ sp. run_to m old of (t.popped_pc || (is_loaded 15 sp || is_loaded 15 (loads_at s.vsp registers ++ l.from_base))) t.r sp (loads_at s.vsp registers ++ l.from_base)) (sym nothing)
        ∙ ap (λ b. run_on m old of t (in_front b (loads_at s.vsp registers) l)) (sym some)

effect_on : (m : List Segment) (old : List ℕ) (of : Recipe) (more : List Item) (s : PartialRecipe) (t : UnwindState) (e : Effect) → Small old → Stands old s t → sums_on (λ n. sums n more) (sum_after s e) ≡ Ok of → Further m old of more →
    continue_unwind (λ n. run_codes m n more) (effect_step m t e) ≡ run_on m old of t (loads_more (λ based offset. loads_on based offset more) (is_some s.base) s.vsp e)
effect_on m old of more s t (Rises by) small h is each = rise m old of more s t by h is each
effect_on m old of more s t (Falls by) small h is each = fall m old of more s t by h is each
effect_on m old of more s t (Pops registers) small h is each = pop_on m old of more s t registers h is each
effect_on m old of more s t (Takes k) small h is each = takes_on m old of more s t k small h is each
effect_on m old of more s t Refuses small h is each = cc
effect_on m old of more s t Finishes small h is each = ap Ok (ended old s t of h (let e : recipe_of s ≡ of = cc in e))

runs_as : (m : List Segment) (old : List ℕ) (of : Recipe) (items : List Item) → Small old → Further m old of items
runs_as m old of [] small s t h is = ap Ok (ended old s t of h (let e : recipe_of s ≡ of = cc in e))
runs_as m old of (Bad place ∷ _) small s t h is = cc
runs_as m old of (Is code ∷ more) small s t h is = effect_on m old of more s t (effect code) small h is (runs_as m old of more small)

pub law_of_recipes : RecipesRun
unfolding unwind_result recipe loads_of
law_of_recipes m r items of wide small is =
    runs_as m r of items small empty_recipe (begin_unwind r)
    (record { place = at_base (slice_index r 13) (small 13); near = refl; wide = wide; sources = refl; same = λ k own. refl }) is
