-- The paths of a type are the chains of base steps from it.
use Rattle.std.proofs.Common.{◌≡◌, ℕ, ◌<◌, ◌≤◌, zero, suc, List, [], ◌∷◌, ◌++◌, length, min, map, refl, arith, ◌∙◌, ap, subst, inl, inr, length-append}
use Rattle.std.specs.List.{flat_map, sum_by}
use Rattle.std.proofs.lemmas.List.Sums.{sum_by-cons}
use Rattle.eh_types.specs.declared.kind.Base.{Base}
use Rattle.eh_types.specs.declared.graph.TheConstants.{MOST_PATHS}
use Rattle.eh_types.specs.Graph.{Row, bases_of, IsCounted}
use Rattle.eh_match.specs.Paths.{paths}
use Rattle.eh_match.specs.Laws.{IsChain, PathsAreAllChains, PathsGoDepthFirst}
use Rattle.eh_match.proofs.Members.{Among, among_from, contains_from, among_map, among_map_from, among_flat_map, among_flat_map_from, sum_by-among}

-- the paths by a base
abbrev by_base : List Row → ℕ → Base → List (List Base)
by_base g n b = map (λ steps. b ∷ steps) (paths g n b.ty)

pub chain_among : (g : List Row) (n ty : ℕ) (steps : List Base) → IsChain g ty steps → length steps < n → Among (paths g n ty) steps
unfolding paths
chain_among g zero ty steps c l = absurd (omega (arith, l))
chain_among g (suc n) ty [] c l = inl refl
chain_among g (suc n) ty (b ∷ more) c l =
    inr (among_flat_map (by_base g n) (bases_of g ty) b (b ∷ more) (among_from (bases_of g ty) b c.0) (among_map (λ steps. b ∷ steps) (paths g n b.ty) more (chain_among g n b.ty more c.1 (omega (arith, l)))))

pub among_chain : (g : List Row) (n ty : ℕ) (steps : List Base) → Among (paths g n ty) steps → IsChain g ty steps
unfolding paths
among_chain g zero ty steps h = absurd h
among_chain g (suc n) ty steps (inl e) = subst (IsChain g ty) e tt
among_chain g (suc n) ty steps (inr h) =
    let by = among_flat_map_from (by_base g n) (bases_of g ty) steps h in
    let rest = among_map_from (λ more. by.0 ∷ more) (paths g n (by.0).ty) steps by.2 in
    subst (IsChain g ty) rest.2 (contains_from (bases_of g ty) by.0 by.1, among_chain g n (by.0).ty rest.0 rest.1)

pub chain_short : (g : List Row) (count : ℕ → ℕ) → IsCounted g count → (ty : ℕ) (steps : List Base) → IsChain g ty steps → length steps < count ty
chain_short g count counted ty [] c = omega (arith, counted.counts ty)
chain_short g count counted ty (b ∷ more) c =
    omega (arith, counted.counts ty, chain_short g count counted b.ty more c.1, sum_by-among (λ (d : Base). count d.ty) (bases_of g ty) b (among_from (bases_of g ty) b c.0))

pub chains_among : (g : List Row) (count : ℕ → ℕ) → IsCounted g count → (ty : ℕ) (steps : List Base) → IsChain g ty steps → Among (paths g MOST_PATHS ty) steps
chains_among g count counted ty steps c = chain_among g MOST_PATHS ty steps c (omega (arith, chain_short g count counted ty steps c, counted.few ty))

pub paths_are_all_chains : PathsAreAllChains
paths_are_all_chains g count counted ty steps =
    (λ h. among_chain g MOST_PATHS ty steps (among_from (paths g MOST_PATHS ty) steps h), λ c. contains_from (paths g MOST_PATHS ty) steps (chains_among g count counted ty steps c))

same_over : (count : ℕ → ℕ) (n : ℕ) (h k : Base → List (List Base)) → ((b : Base) → count b.ty ≤ n → h b ≡ k b) → (bs : List Base) → sum_by (λ b. count b.ty) bs ≤ n → flat_map h bs ≡ flat_map k bs
same_over count n h k e [] l = refl
same_over count n h k e (b ∷ more) l =
    let s = sum_by-cons (λ (c : Base). count c.ty) b more in
    ap (λ xs. xs ++ flat_map h more) (e b (omega (arith, s, l))) ∙ ap (λ xs. k b ++ xs) (same_over count n h k e more (omega (arith, s, l)))

-- a greater bound adds no path
pub paths_whole : (g : List Row) (count : ℕ → ℕ) → IsCounted g count → (n k ty : ℕ) → count ty ≤ n → count ty ≤ k → paths g n ty ≡ paths g k ty
unfolding paths
paths_whole g count c zero k ty h l = absurd (omega (arith, c.counts ty, h))
paths_whole g count c (suc n) zero ty h l = absurd (omega (arith, c.counts ty, l))
paths_whole g count c (suc n) (suc k) ty h l =
    ap (λ ps. [] ∷ ps) (same_over count (min n k) (by_base g n) (by_base g k) (λ b j. ap (map (λ steps. b ∷ steps)) (paths_whole g count c n k b.ty (omega (arith, j)) (omega (arith, j)))) (bases_of g ty) (omega (arith, c.counts ty, h, l)))

length_map : (A B : Type 0) (f : A → B) (xs : List A) → length (map f xs) ≡ length xs
length_map A B f [] = refl
length_map A B f (x ∷ xs) = omega (arith, length_map A B f xs)

long_over : (count : ℕ → ℕ) (n : ℕ) (h : Base → List (List Base)) → ((b : Base) → count b.ty ≤ n → length (h b) ≡ count b.ty) → (bs : List Base) → sum_by (λ b. count b.ty) bs ≤ n → length (flat_map h bs) ≡ sum_by (λ b. count b.ty) bs
long_over count n h e [] l = refl
long_over count n h e (b ∷ more) l =
    let s = sum_by-cons (λ (c : Base). count c.ty) b more in
    omega (arith, s, length-append (h b) (flat_map h more), e b (omega (arith, s, l)), long_over count n h e more (omega (arith, s, l)))

-- there are as many as are counted
pub length-paths : (g : List Row) (count : ℕ → ℕ) → IsCounted g count → (n ty : ℕ) → count ty ≤ n → length (paths g n ty) ≡ count ty
unfolding paths
length-paths g count c zero ty h = absurd (omega (arith, c.counts ty, h))
length-paths g count c (suc n) ty h =
    omega (arith, c.counts ty, long_over count n (by_base g n) (λ b j. length_map (List Base) (List Base) (λ steps. b ∷ steps) (paths g n b.ty) ∙ length-paths g count c n b.ty j) (bases_of g ty) (omega (arith, c.counts ty, h)))

-- the list by one step, whole again at each base
paths_next : (g : List Row) (count : ℕ → ℕ) → IsCounted g count → (n ty : ℕ) → MOST_PATHS ≡ suc n → paths g (suc n) ty ≡ [] ∷ flat_map (by_base g MOST_PATHS) (bases_of g ty)
unfolding paths
paths_next g count c n ty e =
    ap (λ ps. [] ∷ ps) (same_over count n (by_base g n) (by_base g MOST_PATHS) (λ b j. ap (map (λ steps. b ∷ steps)) (paths_whole g count c n MOST_PATHS b.ty j (c.few b.ty))) (bases_of g ty) (omega (arith, c.counts ty, c.few ty, e)))

pub paths_go_depth_first : PathsGoDepthFirst
paths_go_depth_first g count counted ty = record { order = paths_next g count counted 255 ty refl; number = length-paths g count counted MOST_PATHS ty (counted.few ty) }
