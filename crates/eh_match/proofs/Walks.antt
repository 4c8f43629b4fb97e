-- The paths of a type by one step.
use Rattle.std.proofs.Common.{◌≡◌, ℕ, ◌-◌, ◌<◌, zero, suc, List, [], ◌∷◌, ◌++◌, refl, arith, ◌∙◌, ap, sym, map}
use Rattle.std.specs.List.{flat_map, fold}
use Rattle.std.proofs.lemmas.List.Sums.{fold-append}
use Rattle.eh_bus.specs.Segment.{Segment}
use Rattle.eh_types.specs.declared.kind.Base.{Base}
use Rattle.eh_types.specs.Graph.{Row, bases_of}
use Rattle.eh_match.specs.declared.path.Path.{Path}
use Rattle.eh_match.specs.declared.seen.BaseLookup.{BaseLookup}
use Rattle.eh_match.specs.Paths.{paths}
use Rattle.eh_match.specs.Walk.{along, path_of, with_path_if_wanted}

-- the paths that go on from a path
abbrev pub walked : List Row → List Segment → ℕ → Path → List Path
walked g segments n p = map (path_of segments p) (paths g n p.ty)

pub paths_none : (g : List Row) (segments : List Segment) (n : ℕ) (p : Path) → n ≡ 0 → walked g segments n p ≡ []
unfolding paths
paths_none g segments zero p e = refl
paths_none g segments (suc n) p e = grind arith

map_append : (A B : Type 0) (f : A → B) (xs ys : List A) → map f (xs ++ ys) ≡ map f xs ++ map f ys
map_append A B f [] ys = refl
map_append A B f (x ∷ xs) ys = ap (λ zs. f x ∷ zs) (map_append A B f xs ys)

map_map : (A B C : Type 0) (f : B → C) (h : A → B) (xs : List A) → map f (map h xs) ≡ map (λ x. f (h x)) xs
map_map A B C f h [] = refl
map_map A B C f h (x ∷ xs) = ap (λ zs. f (h x) ∷ zs) (map_map A B C f h xs)

by_bases : (g : List Row) (segments : List Segment) (n : ℕ) (p : Path) (bases : List Base)
    → map (path_of segments p) (flat_map (λ b. map (λ steps. b ∷ steps) (paths g n b.ty)) bases) ≡ flat_map (λ b. walked g segments n (along segments p b)) bases
by_bases g segments n p [] = refl
by_bases g segments n p (b ∷ more) =
    map_append (List Base) Path (path_of segments p) (map (λ steps. b ∷ steps) (paths g n b.ty)) (flat_map (λ c. map (λ steps. c ∷ steps) (paths g n c.ty)) more)
    ∙ ap (λ front. front ++ map (path_of segments p) (flat_map (λ c. map (λ steps. c ∷ steps) (paths g n c.ty)) more)) (map_map (List Base) (List Base) Path (path_of segments p) (λ steps. b ∷ steps) (paths g n b.ty))
    ∙ ap (λ rest. walked g segments n (along segments p b) ++ rest) (by_bases g segments n p more)

pub paths_some : (g : List Row) (segments : List Segment) (n : ℕ) (p : Path) → 0 < n → walked g segments n p ≡ p ∷ flat_map (λ b. walked g segments (n - 1) (along segments p b)) (bases_of g p.ty)
unfolding paths
paths_some g segments zero p h = grind arith
paths_some g segments (suc n) p h = rw (let e : suc n - 1 ≡ n = omega arith in e) (ap (λ rest. p ∷ rest) (by_bases g segments n p (bases_of g p.ty)))

-- where a walk over the bases begins, and a base further on
pub walk_begun : (g : List Row) (segments : List Segment) (w n : ℕ) (p : Path) (s noted_s : BaseLookup) (bases : List Base) → 0 < n → noted_s ≡ with_path_if_wanted g w s p → bases ≡ bases_of g p.ty
    → fold (with_path_if_wanted g w) noted_s (flat_map (λ b. walked g segments (n - 1) (along segments p b)) bases) ≡ fold (with_path_if_wanted g w) s (walked g segments n p)
walk_begun g segments w n p s noted_s bases h k e =
    let all : List Base → List Path = flat_map (λ b. walked g segments (n - 1) (along segments p b)) in
    ap (λ t. fold (with_path_if_wanted g w) t (all bases)) k ∙ ap (λ bs. fold (with_path_if_wanted g w) (with_path_if_wanted g w s p) (all bs)) e ∙ sym (ap (fold (with_path_if_wanted g w) s) (paths_some g segments n p h))

pub walk_on : (g : List Row) (segments : List Segment) (w n : ℕ) (p : Path) (seen next : BaseLookup) (left : List Base) (b : Base) (more : List Base) (end : BaseLookup) → left ≡ b ∷ more
    → next ≡ fold (with_path_if_wanted g w) seen (walked g segments (n - 1) (along segments p b)) → fold (with_path_if_wanted g w) seen (flat_map (λ b. walked g segments (n - 1) (along segments p b)) left) ≡ end
    → fold (with_path_if_wanted g w) next (flat_map (λ b. walked g segments (n - 1) (along segments p b)) more) ≡ end
walk_on g segments w n p seen next left b more end e k h =
    let all : List Base → List Path = flat_map (λ b. walked g segments (n - 1) (along segments p b)) in
    ap (λ t. fold (with_path_if_wanted g w) t (all more)) k
    ∙ sym (fold-append (with_path_if_wanted g w) seen (walked g segments (n - 1) (along segments p b)) (all more))
    ∙ sym (ap (λ bs. fold (with_path_if_wanted g w) seen (all bs)) e)
    ∙ h
