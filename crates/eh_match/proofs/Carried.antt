-- What a walk carries tells what the condition on the paths says.
use Rattle.std.proofs.Common.{◌≡◌, ℕ, List, [], ◌∷◌, Bool, true, false, cond, Option, Some, None, Result, refl, ◌∙◌, ap}
use Rattle.std.specs.Prelude.{filter, find, map, ◌&&◌, option_map, if◌then◌else◌}
use Rattle.std.specs.List.{fold, list_all}
use Rattle.eh_bus.specs.Segment.{Segment}
use Rattle.eh_types.specs.declared.kind.Base.{Base}
use Rattle.eh_types.specs.declared.graph.TheConstants.{MOST_PATHS}
use Rattle.eh_types.specs.Graph.{Row, same_type}
use Rattle.eh_match.specs.declared.path.Path.{Path}
use Rattle.eh_match.specs.declared.seen.BaseLookup.{BaseLookup}
use Rattle.eh_match.specs.declared.seen.BaseLookup.TheVariants.{Nothing, One, Parted}
use Rattle.eh_match.specs.Paths.{paths, end_of, is_public}
use Rattle.eh_match.specs.Address.{address}
use Rattle.eh_match.specs.Subobjects.{same_subobject, sole, chosen}
use Rattle.eh_match.specs.Rules.{base_at}
use Rattle.eh_match.specs.Walk.{empty_path, path_of, with_path_if_wanted, with_path, public_address, or_public_address, public_at}
use Rattle.eh_match.proofs.PathLemmas.{summary, path_of_whole}

same_map : (A B : Type 0) (f h : A → B) → ((x : A) → f x ≡ h x) → (xs : List A) → map f xs ≡ map h xs
same_map A B f h e [] = refl
same_map A B f h e (x ∷ xs) = ap (λ y. y ∷ map f xs) (e x) ∙ ap (λ ys. h x ∷ ys) (same_map A B f h e xs)

filtered : (g : List Row) (w : ℕ) (segments : List Segment) (ty : ℕ) (at : Result ℕ ℕ) (s : BaseLookup) (ps : List (List Base))
    → fold (with_path_if_wanted g w) s (map (summary segments ty at) ps) ≡ fold (with_path g) s (map (summary segments ty at) (filter (λ steps. same_type g (end_of ty steps) w) ps))
unfolding with_path_if_wanted
filtered g w segments ty at s [] = refl
filtered g w segments ty at s (p ∷ more) =
    elim (same_type g (end_of ty p) w)
    as (λ b. fold (with_path_if_wanted g w) (if b then with_path g s (summary segments ty at p) else s) (map (summary segments ty at) more) ≡ fold (with_path g) s (map (summary segments ty at) (cond b (p ∷ filter (λ steps. same_type g (end_of ty steps) w) more) (filter (λ steps. same_type g (end_of ty steps) w) more)))) [
      | true ↦ filtered g w segments ty at (with_path g s (summary segments ty at p)) more
      | false ↦ filtered g w segments ty at s more
    ]

stays : (g : List Row) (ps : List Path) → fold (with_path g) Parted ps ≡ Parted
stays g [] = refl
stays g (p ∷ more) = stays g more

abbrev or_found : List Segment → Result ℕ ℕ → Option (Result ℕ ℕ) → List (List Base) → Option (Result ℕ ℕ)
or_found segments at (Some a) ps = Some a
or_found segments at None ps = option_map (address segments at) (find is_public ps)

or_found-more : (segments : List Segment) (ty : ℕ) (at : Result ℕ ℕ) (held : Option (Result ℕ ℕ)) (p : List Base) (more : List (List Base))
    → or_found segments at (or_public_address held (summary segments ty at p)) more ≡ or_found segments at held (p ∷ more)
or_found-more segments ty at (Some a) p more = refl
or_found-more segments ty at None p more =
    elim (is_public p) as (λ b. or_found segments at (if b then Some (address segments at p) else None) more ≡ option_map (address segments at) (cond b (Some p) (find is_public more))) [ true ↦ refl | false ↦ refl ]

after_one : (g : List Row) (segments : List Segment) (ty : ℕ) (at : Result ℕ ℕ) (first : List Base) (held : Option (Result ℕ ℕ)) (ps : List (List Base))
    → public_address (fold (with_path g) (One (summary segments ty at first) held) (map (summary segments ty at) ps)) ≡ cond (list_all (same_subobject g first) ps) (or_found segments at held ps) None
after_one g segments ty at first None [] = refl
after_one g segments ty at first (Some a) [] = refl
after_one g segments ty at first held (p ∷ more) =
    elim (same_subobject g first p)
    as (λ b. public_address (fold (with_path g) (if b then One (summary segments ty at first) (or_public_address held (summary segments ty at p)) else Parted) (map (summary segments ty at) more)) ≡ cond (b && list_all (same_subobject g first) more) (or_found segments at held (p ∷ more)) None) [
      | true ↦ after_one g segments ty at first (or_public_address held (summary segments ty at p)) more ∙ ap (λ f. cond (list_all (same_subobject g first) more) f None) (or_found-more segments ty at held p more)
      | false ↦ ap public_address (stays g (map (summary segments ty at) more))
    ]

found_in : (segments : List Segment) (at : Result ℕ ℕ) (b : Bool) (found : Option (List Base)) → cond b (option_map (address segments at) found) None ≡ option_map (address segments at) (cond b found None)
found_in segments at true found = refl
found_in segments at false found = refl

judged : (g : List Row) (segments : List Segment) (ty : ℕ) (at : Result ℕ ℕ) (ps : List (List Base)) → public_address (fold (with_path g) Nothing (map (summary segments ty at) ps)) ≡ option_map (address segments at) (sole g ps)
judged g segments ty at [] = refl
judged g segments ty at (p ∷ more) =
    after_one g segments ty at p (public_at (summary segments ty at p)) more
    ∙ ap (λ f. cond (list_all (same_subobject g p) more) f None) (or_found-more segments ty at None p more)
    ∙ found_in segments at (list_all (same_subobject g p) more) (find is_public (p ∷ more))

pub carried : (g : List Row) (segments : List Segment) (w ty : ℕ) (at : Result ℕ ℕ)
    → public_address (fold (with_path_if_wanted g w) Nothing (map (path_of segments (empty_path ty at)) (paths g MOST_PATHS ty))) ≡ base_at g segments ty at w
unfolding chosen
carried g segments w ty at =
    ap (λ ps. public_address (fold (with_path_if_wanted g w) Nothing ps)) (same_map (List Base) Path (path_of segments (empty_path ty at)) (summary segments ty at) (path_of_whole segments ty at) (paths g MOST_PATHS ty))
    ∙ ap public_address (filtered g w segments ty at Nothing (paths g MOST_PATHS ty))
    ∙ judged g segments ty at (filter (λ steps. same_type g (end_of ty steps) w) (paths g MOST_PATHS ty))
