-- What one scope says at an offset, and what the descriptors that stand for scopes say there.
use Rattle.std.proofs.Common.{◌≡◌, ℕ, suc, take, ◌+◌, ◌-◌, ◌*◌, ◌%◌, ◌^◌, ◌<◌, ◌≤◌, ◌==◌, ◌&&◌, Bool, true, false, cond, nat_le, nat_lt, List, [], ◌∷◌, ◌++◌, map, Option, Some, None, refl, sym, ap, ◌∙◌, arith}
use Rattle.std.specs.Prelude.{is_some, unwrap_or, find, Result, Ok}
use Rattle.std.specs.List.{filter_map, cons_option, before_first, position_or_len}
use Rattle.std.proofs.lemmas.Bool.Decides.{nat_tests}
use Rattle.elf_image.specs.declared.limits.TheConstants.{ADDRESS_LIMIT}
use Rattle.eh_desc.specs.declared.descriptor.CatchType.{CatchType}
use Rattle.eh_desc.specs.declared.descriptor.CatchType.TheVariants.{All, AllFails, One}
use Rattle.eh_desc.specs.declared.descriptor.DescKind.TheVariants as kind
use Rattle.eh_desc.specs.declared.descriptor.Desc.{Desc}
use Rattle.eh_desc.specs.declared.descriptor.DescFault.{DescFault}
use Rattle.eh_match.specs.declared.rules.Match.{Match}
use Rattle.eh_match.specs.declared.rules.Match.TheVariants.{Failed, Object, PointerToBase, Unreadable}
use Rattle.eh_phase.specs.declared.verdict.Verdict.{Verdict}
use Rattle.eh_phase.specs.declared.verdict.Verdict.TheVariants.{Barrier, ObjectRead, Terminate}
use Rattle.eh_phase.specs.Firsts.{or_else, first_some}
use Rattle.eh_phase.specs.Verdict.{Meeting, in_scope, is_hit, first_hit, by_match as verdict_by, desc_verdict_by, desc_verdict, heard, verdict_of}
use Rattle.gnu_compact.specs.declared.descriptor.OwnDescriptor.{OwnDescriptor}
use Rattle.gnu_compact.specs.declared.descriptor.OwnKind.{OwnKind}
use Rattle.gnu_compact.specs.declared.descriptor.OwnKind.TheVariants.{Specification, Catch, Cleanup}
use Rattle.gnu_compact.specs.Descriptors.{kind_size}
use Rattle.gnu_compact.specs.Laws.{read_kind, desc_of_own, items_as, descriptors_size}
use Rattle.gnu_descriptors.specs.declared.scopes.GnuDescriptor.{GnuDescriptor}
use Rattle.gnu_verdict_laws.specs.Verdicts.{GnuVerdict, Violated, Passed, CaughtBy, CantRead, by_match}
use Rattle.gnu_descriptors.specs.Filters.{filter_in}
use Rattle.gnu_verdict_laws.specs.Read.{items_at, barrier_as, verdict_as, pad_by, pad_at, cleanups_at}

-- ---- one scope

abbrev pub covers_own : ℕ → OwnDescriptor → Bool
covers_own o d = nat_le d.offset o && nat_lt o (d.offset + d.size)

abbrev pub catch_says : Meeting → CatchType → Option ℕ → Option GnuVerdict
catch_says m takes None = None
catch_says m All (Some filter) = Some (CaughtBy filter (Object m.object))
catch_says m AllFails (Some filter) = None
catch_says m (One type) (Some filter) = by_match filter (m.matched type)

abbrev pub kind_says : Meeting → OwnKind → Option ℕ → Option GnuVerdict
kind_says m Specification filter = Some Violated
kind_says m (Catch pad takes) filter = catch_says m takes filter
kind_says m (Cleanup pad) filter = None

abbrev pub said : Meeting → ℕ → GnuDescriptor → Option GnuVerdict
said m o s = cond (covers_own o s.descriptor) (kind_says m s.descriptor.kind s.filter) None

abbrev pub kind_pad : OwnKind → Option ℕ
kind_pad Specification = None
kind_pad (Catch pad takes) = None
kind_pad (Cleanup pad) = Some pad

abbrev pub own_pad : ℕ → GnuDescriptor → Option ℕ
own_pad o s = cond (covers_own o s.descriptor) (kind_pad s.descriptor.kind) None

abbrev pub own_pads : Meeting → ℕ → List GnuDescriptor → List ℕ
own_pads m o scopes = filter_map (own_pad o) (before_first (λ s. is_some (said m o s)) scopes)

-- ---- scopes that are told of a range

-- a catch of a type or of everything has a filter, and nothing else has one
abbrev pub IsCatch : CatchType → Option ℕ → Type 0
IsCatch All (Some filter) = Unit {0}
IsCatch (One type) (Some filter) = Unit {0}
IsCatch AllFails filter = ⊥
IsCatch All None = ⊥
IsCatch (One type) None = ⊥

abbrev pub IsTold : OwnKind → Option ℕ → Type 0
IsTold Specification filter = filter ≡ None
IsTold (Catch pad takes) filter = IsCatch takes filter
IsTold (Cleanup pad) filter = filter ≡ None

pub record IsScoped (size : ℕ) (s : GnuDescriptor) : Type 0 where
  pub within : s.descriptor.offset + s.descriptor.size ≤ size
  pub told : IsTold s.descriptor.kind s.filter

abbrev pub AreScoped : ℕ → List GnuDescriptor → Type 0
AreScoped size [] = Unit {0}
AreScoped size (s ∷ more) = IsScoped size s × AreScoped size more

-- the filters of scopes that stand from a place on
abbrev pub Knows : List (ℕ × ℕ) → ℕ → List GnuDescriptor → Type 0
Knows filters place [] = Unit {0}
Knows filters place (s ∷ more) = (filter_in filters place ≡ s.filter) × Knows filters (place + kind_size s.descriptor.kind) more

-- ---- both say the same

-- neither says anything, or the one says what the other does
abbrev pub Same : List (ℕ × ℕ) → Option Verdict → Option GnuVerdict → Type 0
Same filters None None = Unit {0}
Same filters (Some v) (Some g) = verdict_as filters (Some v) ≡ Some g
Same filters None (Some g) = ⊥
Same filters (Some v) None = ⊥

first_same : (filters : List (ℕ × ℕ)) (v w : Option Verdict) (g h : Option GnuVerdict) → Same filters v g → Same filters w h → Same filters (or_else v w) (or_else g h)
first_same filters None w None h one more = more
first_same filters (Some v) w (Some g) h one more = one
first_same filters None w (Some g) h one more = absurd one
first_same filters (Some v) w None h one more = absurd one

pub same_verdict : (filters : List (ℕ × ℕ)) (v : Option Verdict) (g : Option GnuVerdict) → Same filters v g → verdict_as filters v ≡ Some (unwrap_or g Passed)
same_verdict filters None None h = refl
same_verdict filters (Some v) (Some g) h = h
same_verdict filters None (Some g) h = absurd h
same_verdict filters (Some v) None h = absurd h

same_some : (filters : List (ℕ × ℕ)) (v : Option Verdict) (g : Option GnuVerdict) → Same filters v g → is_some v ≡ is_some g
same_some filters None None h = refl
same_some filters (Some v) (Some g) h = refl
same_some filters None (Some g) h = absurd h
same_some filters (Some v) None h = absurd h

match_same : (filters : List (ℕ × ℕ)) (place filter : ℕ) (hit : Match) → filter_in filters place ≡ Some filter → Same filters (verdict_by place hit) (by_match filter hit)
match_same filters place filter Failed known = tt
match_same filters place filter (Object object) known = ap (λ f. Some (barrier_as (Object object) f)) known
match_same filters place filter (PointerToBase pointer) known = ap (λ f. Some (barrier_as (PointerToBase pointer) f)) known
match_same filters place filter (Unreadable a) known = refl

catch_same : (filters : List (ℕ × ℕ)) (m : Meeting) (place pad : ℕ) (takes : CatchType) (filter : Option ℕ) → IsCatch takes filter → filter_in filters place ≡ filter
    → Same filters (desc_verdict_by m place (kind.Catch pad false takes)) (catch_says m takes filter)
catch_same filters m place pad All (Some filter) is known = ap (λ f. Some (barrier_as (Object m.object) f)) known
catch_same filters m place pad (One type) (Some filter) is known = match_same filters place filter (m.matched type) known
catch_same filters m place pad AllFails (Some filter) is known = absurd is
catch_same filters m place pad AllFails None is known = absurd is
catch_same filters m place pad All None is known = absurd is
catch_same filters m place pad (One type) None is known = absurd is

none_hit : (types : List ℕ) (matched : ℕ → Match) → types ≡ [] → first_hit (map matched types) ≡ Failed
none_hit types matched e = rw e refl

specification_same : (filters : List (ℕ × ℕ)) (m : Meeting) (place at : ℕ) → m.types (kind.Spec at 0 None) ≡ [] → filter_in filters place ≡ None
    → Same filters (desc_verdict_by m place (kind.Spec at 0 None)) (Some Violated)
specification_same filters m place at none known =
    rw (none_hit (m.types (kind.Spec at 0 None)) m.matched none) (ap (λ f. Some (barrier_as (Object m.object) f)) known)

kind_same : (filters : List (ℕ × ℕ)) (m : Meeting) (place : ℕ) (k : OwnKind) (filter : Option ℕ) → ((at : ℕ) → m.types (kind.Spec at 0 None) ≡ []) → IsTold k filter
    → filter_in filters place ≡ filter → Same filters (desc_verdict_by m place (read_kind place k)) (kind_says m k filter)
kind_same filters m place Specification filter none is known = specification_same filters m place (place + 12) (none (place + 12)) (known ∙ is)
kind_same filters m place (Catch pad takes) filter none is known = catch_same filters m place pad takes filter is known
kind_same filters m place (Cleanup pad) filter none is known = tt

scope_same : (filters : List (ℕ × ℕ)) (b c : Bool) (v : Option Verdict) (g : Option GnuVerdict) → b ≡ c → Same filters v g → Same filters (cond b v None) (cond c g None)
scope_same filters true true v g e h = h
scope_same filters false false v g e h = tt
scope_same filters true false v g e h = absurd cc
scope_same filters false true v g e h = absurd cc

-- the scope of a descriptor holds the same offsets
pub in_scope_is : (start size place o : ℕ) (s : GnuDescriptor) → start + size ≤ ADDRESS_LIMIT → IsScoped size s → o < size → in_scope (start + o) (desc_of_own start place s.descriptor) ≡ covers_own o s.descriptor
in_scope_is start size place o s low is inside =
    let within = is.within in
    let first : (start + s.descriptor.offset) % 2 ^ 32 ≡ start + s.descriptor.offset = omega arith in
    let last : (start + s.descriptor.offset + s.descriptor.size) % 2 ^ 32 ≡ start + s.descriptor.offset + s.descriptor.size = omega arith in
    ap (λ n. nat_le n (start + o) && nat_lt (start + o) ((n + s.descriptor.size) % 2 ^ 32)) first
    ∙ ap (λ n. nat_le (start + s.descriptor.offset) (start + o) && nat_lt (start + o) n) last
    ∙ moved
  where
    le_moved : (k a b : ℕ) → nat_le (k + a) (k + b) ≡ nat_le a b
    le_moved k a b = grind (arith, nat_tests)

    lt_moved : (k a b c : ℕ) → nat_lt (k + a) (k + b + c) ≡ nat_lt a (b + c)
    lt_moved k a b c = grind (arith, nat_tests)

    moved : (nat_le (start + s.descriptor.offset) (start + o) && nat_lt (start + o) (start + s.descriptor.offset + s.descriptor.size)) ≡ covers_own o s.descriptor
    moved = rw (le_moved start s.descriptor.offset o, lt_moved start o s.descriptor.offset s.descriptor.size) refl

-- what is asked of scopes and of an object
pub record IsHeard (filters : List (ℕ × ℕ)) (m : Meeting) (start size o : ℕ) : Type 0 where
  pub low : start + size ≤ ADDRESS_LIMIT
  pub inside : o < size
  pub none_named : (types : ℕ) → m.types (kind.Spec types 0 None) ≡ []

one_same : (filters : List (ℕ × ℕ)) (m : Meeting) (start size place o : ℕ) (s : GnuDescriptor) → IsHeard filters m start size o → IsScoped size s → filter_in filters place ≡ s.filter
    → Same filters (heard m (start + o) (Ok (desc_of_own start place s.descriptor))) (said m o s)
one_same filters m start size place o s h is known =
    scope_same filters (in_scope (start + o) (desc_of_own start place s.descriptor)) (covers_own o s.descriptor) (desc_verdict m (desc_of_own start place s.descriptor)) (kind_says m s.descriptor.kind s.filter)
    (in_scope_is start size place o s h.low is h.inside) (kind_same filters m place s.descriptor.kind s.filter h.none_named is.told known)

pub all_same : (filters : List (ℕ × ℕ)) (m : Meeting) (start size place o : ℕ) (scopes : List GnuDescriptor) → IsHeard filters m start size o → AreScoped size scopes → Knows filters place scopes
    → Same filters (verdict_of m (start + o) (items_at start place scopes)) (first_some (said m o) scopes)
unfolding verdict_of first_some
all_same filters m start size place o [] h are knows = tt
all_same filters m start size place o (s ∷ more) h are knows =
    first_same filters (heard m (start + o) (Ok (desc_of_own start place s.descriptor)))
    (first_some (heard m (start + o)) (items_at start (place + kind_size s.descriptor.kind) more)) (said m o s) (first_some (said m o) more)
    (one_same filters m start size place o s h are.0 knows.0)
    (all_same filters m start size (place + kind_size s.descriptor.kind) o more h are.1 knows.1)

-- ---- cleanups

kind_pad_is : (place : ℕ) (k : OwnKind) → pad_by (read_kind place k) ≡ kind_pad k
kind_pad_is place Specification = refl
kind_pad_is place (Catch pad takes) = refl
kind_pad_is place (Cleanup pad) = refl

pad_is : (start size place o : ℕ) (s : GnuDescriptor) → start + size ≤ ADDRESS_LIMIT → IsScoped size s → o < size
    → pad_at (start + o) (Ok (desc_of_own start place s.descriptor)) ≡ own_pad o s
pad_is start size place o s low is inside =
    rw (in_scope_is start size place o s low is inside, kind_pad_is place s.descriptor.kind) refl

-- one item more in front
abbrev pub with_pad : Option ℕ → List ℕ → List ℕ
with_pad pad more = cons_option pad more

before_step : {X : Type 0} (p : X → Bool) (x : X) (xs : List X) → before_first p (x ∷ xs) ≡ cond (p x) [] (x ∷ before_first p xs)
before_step p x xs = by_test (p x) refl
  where
    by_test : (b : Bool) → p x ≡ b → before_first p (x ∷ xs) ≡ cond b [] (x ∷ before_first p xs)
    by_test true e = rw e refl
    by_test false e = rw e (ap (λ n. take n (x ∷ xs)) (let one : 1 + position_or_len p xs ≡ suc (position_or_len p xs) = omega arith in one))

pad_cases : {X : Type 0} (f : X → Option ℕ) (b : Bool) (x : X) (ys : List X) → filter_map f (cond b [] (x ∷ ys)) ≡ cond b [] (with_pad (f x) (filter_map f ys))
pad_cases f true x ys = refl
pad_cases f false x ys = refl

pub pad_step : {X : Type 0} (f : X → Option ℕ) (p : X → Bool) (x : X) (xs : List X)
    → filter_map f (before_first p (x ∷ xs)) ≡ cond (p x) [] (with_pad (f x) (filter_map f (before_first p xs)))
pad_step f p x xs = ap (filter_map f) (before_step p x xs) ∙ pad_cases f (p x) x (before_first p xs)

pub pads_same : (filters : List (ℕ × ℕ)) (m : Meeting) (start size place o : ℕ) (scopes : List GnuDescriptor) → IsHeard filters m start size o → AreScoped size scopes → Knows filters place scopes
    → cleanups_at m (start + o) (items_at start place scopes) ≡ own_pads m o scopes
pads_same filters m start size place o [] h are knows = refl
pads_same filters m start size place o (s ∷ more) h are knows =
    let item = desc_of_own start place s.descriptor in
    let next = place + kind_size s.descriptor.kind in
    let speaks : is_some (heard m (start + o) (Ok item)) ≡ is_some (said m o s) =
    same_some filters (heard m (start + o) (Ok item)) (said m o s) (one_same filters m start size place o s h are.0 knows.0) in
    let pad = pad_is start size place o s h.low are.0 h.inside in
    let rest = pads_same filters m start size next o more h are.1 knows.1 in
    pad_step (pad_at (start + o)) (λ i. is_some (heard m (start + o) i)) (Ok item) (items_at start next more)
    ∙ ap (λ b. cond b [] (with_pad (pad_at (start + o) (Ok item)) (cleanups_at m (start + o) (items_at start next more)))) speaks
    ∙ ap (λ p. cond (is_some (said m o s)) [] (with_pad p (cleanups_at m (start + o) (items_at start next more)))) pad
    ∙ ap (λ ps. cond (is_some (said m o s)) [] (with_pad (own_pad o s) ps)) rest
    ∙ sym (pad_step (own_pad o) (λ t. is_some (said m o t)) s more)
