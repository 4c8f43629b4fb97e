-- The checker and phase 2 agree on a site: its scope, the entry that covers it, and its landing pads (IHI 0038;
-- docs/rules/acceptance.md, "Sites"; docs/rules/phases-and-exceptions.md).
use Rattle.std.specs.Prelude.{◌≡◌, ◌↔◌, ℕ, ◌+◌, ◌<◌, ◌≤◌, true, false, Bool, Option, Some, None, Ok}
use Rattle.eh_codes.specs.Cut.{split_codes}
use Rattle.eh_bytecode.specs.declared.recipe.Recipe.{Recipe}
use Rattle.eh_bytecode.specs.Recipe.{recipe}
use Rattle.eh_desc.specs.declared.descriptor.Desc.{Desc}
use Rattle.eh_phase.specs.declared.phase2.Entered.{Entered}
use Rattle.eh_phase.specs.declared.phase2.Entered.TheVariants.{Cleanup, Catch, Spec, Unexpected, Terminate}
use Rattle.eh_phase.specs.declared.phase2.Goal.{Goal}
use Rattle.eh_phase.specs.declared.walk.CoveringEntry.{CoveringEntry}
use Rattle.eh_phase.specs.Verdict.{in_scope}
use Rattle.eh_phase.specs.Phases.{Frame, enter_item}
use Rattle.eh_phase.specs.Frames.{entry_contents_at}
use Rattle.frame_entries.specs.declared.unwinding.EntrySummary.TheVariants.{Finds}
use Rattle.frame_graph.specs.FlowGraph.{FlowGraph}
use Rattle.frame_entries.specs.Scopes.{is_scope_at, is_cleanup_at, pad_for}
use Rattle.frame_graph.specs.Sites.{items_at, unwinding_at}
use Rattle.frame_entries.specs.Unwinding.{pop_once}

-- A scope has the sites from its start to below its end, its size in bytes above the start. If the end is past the last address, it has
-- none.
pub record IsInScope (site : ℕ) (d : Desc) : Type 0 where
  pub from : d.start ≤ site
  pub below : site < d.start + d.size
  pub low : d.start + d.size < 4294967296

-- a descriptor has the same sites in its scope, and these are they
pub record ScopesAreOne : Type 0 where
  pub same : (site : ℕ) (d : Desc) → is_scope_at site d ≡ in_scope site d
  pub checker : (site : ℕ) (d : Desc) → d.start < 4294967296 → d.size < 4294967296 → (is_scope_at site d ≡ true) ↔ IsInScope site d
  pub phases : (site : ℕ) (d : Desc) → d.start < 4294967296 → d.size < 4294967296 → (in_scope site d ≡ true) ↔ IsInScope site d

-- ---- the covering entry

-- phase 2 has unwind instructions at a site, and this is their recipe
pub record HasRecipe (s : FlowGraph) (site : ℕ) (of : Recipe) : Type 0 where
  pub covered : CoveringEntry
  pub covers : entry_contents_at s.image site ≡ Some covered
  pub recipe : recipe (split_codes covered.codes) ≡ Ok of
  pub once : pop_once (split_codes covered.codes) ≡ true

-- The checker finds a recipe if and only if phase 2 has such unwind instructions, and they pop no register twice. Both see the same
-- descriptors.
pub record EntriesAreOne : Type 0 where
  pub found : (s : FlowGraph) (site : ℕ) (of : Recipe) → unwinding_at s site ≡ Finds of → HasRecipe s site of
  pub finds : (s : FlowGraph) (site : ℕ) (of : Recipe) → HasRecipe s site of → unwinding_at s site ≡ Finds of
  pub items : (s : FlowGraph) (site : ℕ) (c : CoveringEntry) → entry_contents_at s.image site ≡ Some c → items_at s site ≡ c.descs

-- ---- landing pads

-- the landing pad of what is entered
abbrev pub landing_pad_of : Entered → Option ℕ
landing_pad_of (Cleanup vrs pad next site) = Some pad
landing_pad_of (Catch vrs pad) = Some pad
landing_pad_of (Spec vrs pad) = Some pad
landing_pad_of Unexpected = None
landing_pad_of (Terminate cause) = None

abbrev pub is_cleanup_entered : Entered → Bool
is_cleanup_entered (Cleanup vrs pad next site) = true
is_cleanup_entered (Catch vrs pad) = false
is_cleanup_entered (Spec vrs pad) = false
is_cleanup_entered Unexpected = false
is_cleanup_entered (Terminate cause) = false

-- What phase 2 enters for a descriptor of a frame is the landing pad to which the checker has an edge from the frame's site. It is a
-- cleanup if and only if the checker takes it for one. Nothing out of scope is entered, and every cleanup in scope is.
pub record PadsAreOne : Type 0 where
  pub pad : (g : Goal) (f : Frame) (d : Desc) (e : Entered) → enter_item g f (Ok d) ≡ Some e → pad_for f.site d ≡ landing_pad_of e
  pub cleanup : (g : Goal) (f : Frame) (d : Desc) (e : Entered) → enter_item g f (Ok d) ≡ Some e → is_cleanup_at f.site d ≡ is_cleanup_entered e
  pub outside : (g : Goal) (f : Frame) (d : Desc) → is_scope_at f.site d ≡ false → enter_item g f (Ok d) ≡ None
  pub cleans : (g : Goal) (f : Frame) (d : Desc) → is_cleanup_at f.site d ≡ true → (e : Entered) × (enter_item g f (Ok d) ≡ Some e)
