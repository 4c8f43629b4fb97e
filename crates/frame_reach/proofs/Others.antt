-- What else than targets is reached: the entry, and what stands after an instruction.
use Rattle.std.proofs.Common.{ℕ, ◌≡◌, ◌+◌, ◌-◌, ◌/◌, ◌⊎◌, inl, inr, Bool, true, false, [], Option, Some, None, refl, ap, ⊎_elim, arith, zero, suc}
use Rattle.std.specs.Prelude.{if◌then◌else◌, option_and_then}
use Rattle.std.specs.List.{Contains}
use Rattle.std.proofs.lemmas.List.Elements.{Contains-append_cases}
use Rattle.std.proofs.lemmas.Option.{same_Some, none-some}
use Rattle.thumb_isa.specs.declared.instr.Instr.{Instr}
use Rattle.frame_code.specs.declared.standing.Standing.{Standing}
use Rattle.frame_code.specs.declared.standing.Standing.TheVariants.{Instruction, Udf, Nothing}
use Rattle.frame_graph.specs.declared.edges.Edge.{Edge}
use Rattle.frame_graph.specs.FlowGraph.{FlowGraph}
use Rattle.frame_graph.specs.Places.{is_code_of, address_of, place_of, standing_at}
use Rattle.frame_code.specs.Branches.{reaches_next, branch_target}
use Rattle.frame_code.specs.Standing.{instruction_of}
use Rattle.frame_graph.specs.Edges.{edges_to, fall_through_edges, straight_by, straight_edges}
use Rattle.frame_graph.specs.Sites.{site_at, edges_from, edges_of}
use Rattle.frame_graph.specs.Reach.{entry, along}
use Rattle.frame_reach.specs.Laws.{OthersAreAfter}
use Rattle.frame_reach.proofs.Stands.{stands_size}

none : {X : Type 0} (x : X) → Contains [] x → ⊥
none x c = omega (arith, c.1)

-- an edge to an address leads to its place
edge_to : (clobbers : ℕ) (o : Option ℕ) (w : Edge) → Contains (edges_to clobbers o) w → o ≡ Some w.to
edge_to clobbers None w c = absurd (none w c)
edge_to clobbers (Some p) w (zero, l, e) = ap (λ (x : Edge). Some x.to) e
edge_to clobbers (Some p) w (suc k, l, e) = absurd (omega (arith, l))

halved : (s : FlowGraph) (p size q : ℕ) → (size ≡ 2) ⊎ (size ≡ 4) → place_of s (address_of s p + size) ≡ Some q → q ≡ p + size / 2
halved s p size q even e = by_test (is_code_of s (address_of s p + size)) e
  where
    by_test : (b : Bool) → (if b then Some ((address_of s p + size - s.start) / 2) else None) ≡ Some q → q ≡ p + size / 2
    by_test true e =
        let is : (address_of s p + size - s.start) / 2 ≡ q = same_Some ((address_of s p + size - s.start) / 2) q e in ⊎_elim
        (λ (two : size ≡ 2). omega (arith, is, two))
        (λ (four : size ≡ 4). omega (arith, is, four))
        even
    by_test false e = absurd (none-some q e)

on_edge : (s : FlowGraph) (a : ℕ) (i : Instr) (size : ℕ) (w : Edge) (b : Bool) → Contains (if b then edges_to 0 (place_of s (a + size)) else []) w → (b ≡ true) × (place_of s (a + size) ≡ Some w.to)
on_edge s a i size w true c = (refl, edge_to 0 (place_of s (a + size)) w c)
on_edge s a i size w false c = absurd (none w c)

abbrev Comes : FlowGraph → ℕ → ℕ → Standing → Type 0
Comes s p q t =
    ((i : Instr) × (size : ℕ) × (t ≡ Instruction i size) × (reaches_next i ≡ true) × (place_of s (address_of s p + size) ≡ Some q))
    ⊎ (option_and_then (place_of s) (option_and_then (branch_target (address_of s p)) (instruction_of t)) ≡ Some q)

comes : (s : FlowGraph) (p : ℕ) (t : Standing) (w : Edge) → Contains (straight_by s (address_of s p) t) w → Comes s p w.to t
comes s p (Instruction i size) w c =
    let a = address_of s p in ⊎_elim
    (λ (l : Contains (fall_through_edges s a i size) w). let o = on_edge s a i size w (reaches_next i) l in inl (i, size, refl, o.0, o.1))
    (λ (r : Contains (edges_to 0 (option_and_then (place_of s) (branch_target a i))) w). inr (edge_to 0 (option_and_then (place_of s) (branch_target a i)) w r))
    (Contains-append_cases (fall_through_edges s a i size) (edges_to 0 (option_and_then (place_of s) (branch_target a i))) w c)
comes s p Udf w c = absurd (none w c)
comes s p Nothing w c = absurd (none w c)

pub others_are_after : OthersAreAfter
unfolding edges_of
others_are_after s _ entry = inl refl
others_are_after s _ (along {p} {w} r c) = inr (⊎_elim
    (λ (l : Contains (straight_edges s p) w). ⊎_elim
    (λ (n : (i : Instr) × (size : ℕ) × (standing_at s p ≡ Instruction i size) × (reaches_next i ≡ true) × (place_of s (address_of s p + size) ≡ Some w.to)).
    inr (p, n.0, n.1, r, n.2, n.3, halved s p n.1 w.to (stands_size s p n.0 n.1 n.2) n.4))
    (λ (b : option_and_then (place_of s) (option_and_then (branch_target (address_of s p)) (instruction_of (standing_at s p))) ≡ Some w.to). inl (inl (p, r, b)))
    (comes s p (standing_at s p) w l))
    (λ (d : Contains (edges_from s (site_at s p)) w). inl (inr (p, w, r, d, refl)))
    (Contains-append_cases (straight_edges s p) (edges_from s (site_at s p)) w c))
