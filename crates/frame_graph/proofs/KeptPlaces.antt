-- What is kept of the places of a function, one place after the other.
use Rattle.std.proofs.Common.{ℕ, ◌≡◌, ◌<◌, ◌≤◌, ◌+◌, ◌*◌, ◌-◌, ◌/◌, ◌%◌, Bool, List, [], ◌∷◌, ◌++◌, length, length-append, slice_index_or, Option, sym, ap, ◌∙◌, subst, arith}
use Rattle.std.proofs.Math.ListN.{get_or-append}
use Rattle.std.proofs.Math.Seq.{get_or-append_seam}
use borrow.Author.Count.{below_more}
use Rattle.thumb_isa.specs.declared.profile.Profile.{Profile}
use Rattle.run_images.specs.Profiles.{profile_of}
use Rattle.frame_code.specs.declared.standing.Standing.{Standing}
use Rattle.frame_graph.specs.declared.kept_places.KeptPlace.{KeptPlace}
use Rattle.frame_graph.specs.FlowGraph.{FlowGraph}
use Rattle.frame_code.specs.Standing.{standing_by}
use Rattle.frame_graph.specs.Places.{is_code_of, is_place, halfword_of, standing_at}
use Rattle.frame_graph.specs.KeptPlaces.{ArePlaces, place_contents}

-- nothing is kept
pub none_kept : (s : FlowGraph) (places : List KeptPlace) → length places ≡ 0 → ArePlaces s places
none_kept s places e = record { each = λ k d h. absurd (omega arith) }

Stands : FlowGraph → List KeptPlace → ℕ → Type 0
Stands s places k = (d : KeptPlace) → slice_index_or places k d ≡ place_contents s k

-- a place more
one_more : (s : FlowGraph) (places : List KeptPlace) (p : KeptPlace) → ArePlaces s places → p ≡ place_contents s (length places) → ArePlaces s (places ++ p ∷ [])
unfolding Stands
one_more s places p kept is = record {
  each = λ k d h.
      below_more (Stands s (places ++ p ∷ [])) (length places) (λ i l. λ e. get_or-append places (p ∷ []) e i l ∙ kept.each i e l) (λ e. get_or-append_seam places p [] e ∙ is) k
      (omega (arith, h, length-append places (p ∷ [])))
      d;
}

abbrev held : Bool → Standing → KeptPlace
held code standing = record { code = code; standing = standing }

same_held : (a b : Bool) (x y : Standing) → a ≡ b → x ≡ y → held a x ≡ held b y
same_held a b x y e f = cc

-- a place more, by the profile, its halfword and that of the next
pub read_more : (s : FlowGraph) (places : List KeptPlace) (k : ℕ) (code : Bool) (profile : Profile) (first second : Option ℕ) (standing : Standing) → length places ≡ k → ArePlaces s places
    → code ≡ is_place s k → profile ≡ profile_of s.image → first ≡ halfword_of s k → second ≡ halfword_of s (k + 1) → standing ≡ standing_by profile first second
    → ArePlaces s (places ++ record { code = code; standing = standing } ∷ [])
unfolding standing_at
read_more s places k code profile first second standing len kept is pr f g by =
    let at : standing ≡ standing_at s k =
    by ∙ (ap (λ (p : Profile). standing_by p first second) pr ∙ (ap (λ (o : Option ℕ). standing_by (profile_of s.image) o second) f ∙ ap (λ (o : Option ℕ). standing_by (profile_of s.image) (halfword_of s k) o) g)) in
    one_more s places (held code standing) kept (subst (λ (n : ℕ). held code standing ≡ place_contents s n) (sym len) (same_held code (is_place s k) standing (standing_at s k) is at))

-- whether an address is code, by what is kept of its place
pub code_kept : (s t : FlowGraph) (places : List KeptPlace) (a : ℕ) (d : KeptPlace) → t ≡ s → ArePlaces t places → t.start ≤ a → (a - t.start) % 2 ≡ 0
    → (a - t.start) / 2 < length places → (slice_index_or places ((a - t.start) / 2) d).code ≡ is_code_of s a
code_kept s t places a d is kept low even within =
    let at : t.start + 2 * ((a - t.start) / 2) ≡ a = omega arith in
    ap (λ (p : KeptPlace). p.code) (kept.each ((a - t.start) / 2) d within) ∙ (ap (λ (b : ℕ). is_code_of t b) at ∙ ap (λ (x : FlowGraph). is_code_of x a) is)
