-- What the exception index says of a function that is well.
use Rattle.std.proofs.Common.{◌≡◌, ℕ, zero, suc, ◌≤◌, ◌||◌, ◌⊎◌, inl, inr, Bool, true, false, nat_lt, List, [], ◌∷◌, length, Some, Err, refl, ap, ◌∙◌, arith}
use Rattle.std.specs.Prelude.{Contains, nat_eq}
use Rattle.std.specs.List.{list_any, IsDistinct}
use Rattle.std.proofs.lemmas.Bool.{ltb-true, ltb-false}
use Rattle.eh_codes.specs.declared.row.Entry.{Entry}
use Rattle.eh_desc.specs.eh_bytecode.declared.recipe.Recipe.{Recipe}
use Rattle.eh_desc.specs.declared.descriptor.DescFault.{DescFault}
use Rattle.frame_facts.specs.declared.cause.FrameCause.TheVariants as cause
use Rattle.frame_entries.specs.declared.unwinding.EntrySummary.{EntrySummary}
use Rattle.frame_entries.specs.declared.unwinding.EntrySummary.TheVariants.{Finds, Refused, BadBytecode, GenericModel}
use Rattle.frame_graph.specs.FlowGraph.{FlowGraph}
use Rattle.frame_entries.specs.Scopes.{Item, is_fault}
use Rattle.frame_graph.specs.Sites.{items_at, unwinding_at, site_at, entry_at, begins_above}
use Rattle.frame_graph.specs.Reach.{IsReached}
use Rattle.frame_reach.specs.declared.marks.TheConstants.{MOST_REACHED}
use Rattle.frame_check.specs.Accepts.{IsWell}
use Rattle.frame_check.specs.Laws.{WellFunctions}

codes : (s : FlowGraph) → IsWell s → ((r : Recipe) × (unwinding_at s s.start ≡ Finds r)) ⊎ (unwinding_at s s.start ≡ Refused)
codes s w = go (unwinding_at s s.start) refl
  where
    go : (u : EntrySummary) → unwinding_at s s.start ≡ u → ((r : Recipe) × (unwinding_at s s.start ≡ Finds r)) ⊎ (unwinding_at s s.start ≡ Refused)
    go (Finds r) e = inl (r, e)
    go Refused e = inr e
    go BadBytecode e = absurd (w.start cause.BadBytecode e)
    go GenericModel e = absurd (w.start cause.GenericModel e)

some_fault : (items : List Item) (fault : DescFault) → Contains items (Err fault) → list_any is_fault items ≡ true
some_fault [] fault c = absurd (omega (arith, c.1))
some_fault (x ∷ items) fault (zero, l, e) = ap (λ (b : Bool). b || list_any is_fault items) (ap is_fault e)
some_fault (x ∷ items) fault (suc k, l, e) = ap (λ (b : Bool). is_fault x || b) (some_fault items fault (k, omega (arith, l), e)) ∙ or_true (is_fault x)
  where
    or_true : (b : Bool) → (b || true) ≡ true
    or_true true = refl
    or_true false = refl

sites : (s : FlowGraph) (p site : ℕ) (e : Entry) → IsWell s → IsReached s p → site_at s p ≡ Some site → entry_at s site ≡ Some e → e.start ≤ s.start
sites s p site e w r f g = go (nat_lt s.start e.start) refl
  where
    go : (t : Bool) → nat_lt s.start e.start ≡ t → e.start ≤ s.start
    go true t = absurd (w.start cause.SplitEntry (p, site, r, f, ap (begins_above s.start) g ∙ t))
    go false t = ltb-false s.start e.start t

few : (s : FlowGraph) (ps : List ℕ) → IsWell s → IsDistinct nat_eq ps → ((p : ℕ) → Contains ps p → IsReached s p) → length ps ≤ MOST_REACHED
few s ps w d r = go (nat_lt MOST_REACHED (length ps)) refl
  where
    go : (t : Bool) → nat_lt MOST_REACHED (length ps) ≡ t → length ps ≤ MOST_REACHED
    go true t = absurd (w.start cause.TooLong (ps, d, r, ltb-true MOST_REACHED (length ps) t))
    go false t = ltb-false MOST_REACHED (length ps) t

pub well_functions : WellFunctions
well_functions = record {
  codes = codes;
  descriptors = λ s fault w c. w.start cause.BadDescriptor (some_fault (items_at s s.start) fault c);
  sites = sites;
  few = few;
}
