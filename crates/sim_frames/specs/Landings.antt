-- Frames and recorded activations side by side, and which of them phase 2 enters.
use Rattle.std.specs.Prelude.{◌≡◌, ℕ, true, List, ◌∷◌, ◌++◌, Result, Ok, Some, [], slice_index, ◌≤◌, ◌<◌, length, drop, All, ◌⊎◌}
use Rattle.eh_desc.specs.declared.descriptor.Desc.{Desc}
use Rattle.eh_desc.specs.declared.descriptor.DescFault.{DescFault}
use Rattle.eh_phase.specs.Phases.{Frame, vrs_of, places, from_address, enter_item}
use Rattle.eh_phase.specs.Verdict.{in_scope}
use Rattle.frame_entries.specs.Scopes.{pad_of}
use Rattle.eh_phase.specs.declared.phase2.Entered.{Entered}
use Rattle.eh_phase.specs.declared.phase2.Goal.{Goal}
use Rattle.thumb_core.specs.declared.regs.TheConstants.{SP}
use Rattle.sim_relation.specs.sim_machines.Activations.{Activation, slots_of, Caller, registers_of}
use Rattle.eh_phase.specs.Cleanups.{is_reached_in}
use Rattle.eh_bus.specs.Lists.{Has}
use Rattle.eh_phase.specs.Laws.{IsInOrder}
use Rattle.eh_phase.specs.Firsts.{first_some}
use Rattle.sim_relation.specs.sim_machines.ActivationMachine.{passed_frame_count}
use Rattle.elf_image.specs.Image.{Image}
use Rattle.eh_phase.specs.Frames.{entry_contents_at, site_of}
use Rattle.eh_phase.specs.declared.walk.CoveringEntry.{CoveringEntry}
use Rattle.eh_bus.specs.Segment.{Segment}
use Rattle.frame_check.specs.Accepts.{Accepted}
use Rattle.eh_desc.specs.declared.descriptor.DescKind.TheVariants as kind
use Rattle.eh_phase.specs.declared.phase2.Entered.TheVariants as enters
use Rattle.sim_relation.specs.Holds.{AreWithin, IsWhole}
use Rattle.sim_relation.specs.Chain.{StandsAtCall}

-- a cleanup of the frame's own, by the descriptor in its list
pub record IsCleanupOf (f : Frame) (pad next : ℕ) : Type 0 where
  pub before : List (Result Desc DescFault)
  pub desc : Desc
  pub after : List (Result Desc DescFault)
  pub items : f.items ≡ before ++ Ok desc ∷ after
  pub scope : in_scope f.site desc ≡ true
  pub kind : desc.kind ≡ kind.Cleanup pad
  pub later : next ≡ desc.next

-- a descriptor in scope of a frame, with a pad
pub record Offers (f : Frame) (pad : ℕ) : Type 0 where
  pub before : List (Result Desc DescFault)
  pub desc : Desc
  pub after : List (Result Desc DescFault)
  pub items : f.items ≡ before ++ Ok desc ∷ after
  pub scope : in_scope f.site desc ≡ true
  pub kind : pad_of desc.kind ≡ Some pad

abbrev pub OfFrame : Goal → Frame → Entered → Type 0
OfFrame g f (enters.Cleanup vrs pad next site) = (vrs ≡ vrs_of f) × (site ≡ f.site) × IsCleanupOf f pad next
OfFrame g f (enters.Catch vrs pad) = (vrs ≡ vrs_of f) × Offers f pad × (f.sp ≡ g.sp)
OfFrame g f (enters.Spec vrs pad) = (vrs ≡ vrs_of f) × Offers f pad × (f.sp ≡ g.sp)
OfFrame g f enters.Unexpected = Unit {0}
OfFrame g f (enters.Terminate why) = Unit {0}

-- each frame has the sp at which its activation stands
abbrev pub Fit : ℕ → List Frame → List Activation → Type 0
Fit sp [] acts = Unit {0}
Fit sp (f ∷ more) [] = ⊥
Fit sp (f ∷ more) (a ∷ acts) = (f.sp ≡ sp) × (slice_index f.r SP ≡ sp) × Fit a.caller.sp more acts

-- the slots of each activation lie between its sp and the sp that it recorded; these sps rise up to a top
abbrev pub Rise : ℕ → ℕ → List Activation → Type 0
Rise top sp [] = Unit {0}
Rise top sp (a ∷ more) = AreWithin sp a × (sp ≤ a.caller.sp) × (a.caller.sp ≤ top) × Rise top a.caller.sp more

-- the barrier is within reach from a cleanup on
abbrev pub ReachesOn : Goal → Frame → List Frame → Entered → Type 0
ReachesOn g f outer (enters.Cleanup vrs pad next site) = is_reached_in g (places next (f ∷ outer)) ≡ true
ReachesOn g f outer (enters.Catch vrs pad) = Unit {0}
ReachesOn g f outer (enters.Spec vrs pad) = Unit {0}
ReachesOn g f outer enters.Unexpected = Unit {0}
ReachesOn g f outer (enters.Terminate why) = Unit {0}

-- an entered frame, with its activation, those inside it that are cut, and those outside
pub record LandsIn (g : Goal) (from top low : ℕ) (fs : List Frame) (acts : List Activation) (e : Entered) : Type 0 where
  pub cut : List Activation
  pub first : Activation
  pub more : List Activation
  pub all : acts ≡ cut ++ first ∷ more
  pub passed : drop (passed_frame_count g from fs) acts ≡ first ∷ more
  pub inner : List Frame
  pub frame : Frame
  pub outer : List Frame
  pub frames : fs ≡ inner ++ frame ∷ outer
  pub beside : length inner ≡ length cut
  pub reach : All IsInOrder fs → is_reached_in g (places from fs) ≡ true → ReachesOn g frame outer e
  pub of : OfFrame g frame e
  pub in_first : length cut ≡ 0 → first_some (enter_item g frame) (from_address from frame.items) ≡ Some e
  pub fit : Fit frame.sp (frame ∷ outer) (first ∷ more)
  pub high : low ≤ frame.sp
  pub under : frame.sp ≤ top
  pub below : (s : ℕ) → Has (slots_of cut) s → (low ≤ s) × (s < frame.sp)

-- the frame's descriptors are those of the entry that covers its site
pub record Reads (image : Image) (f : Frame) : Type 0 where
  pub covered : CoveringEntry
  pub covers : entry_contents_at image f.site ≡ Some covered
  pub items : f.items ≡ covered.descs

-- an activation outside the first stands at the call of the one inside it, and its frame has what that one recorded
pub record AtCall (x : Accepted) (segments : List Segment) (f : Frame) (a : Activation) : Type 0 where
  pub inside : Caller
  pub stands : StandsAtCall x segments inside a
  pub whole : IsWhole inside
  pub site : f.site ≡ site_of (registers_of inside)
  pub registers : f.r ≡ registers_of inside

pub record AtFirst (at : ℕ) (r : List ℕ) (first : Activation) (f : Frame) (a : Activation) : Type 0 where
  pub is : a ≡ first
  pub site : f.site ≡ at
  pub registers : f.r ≡ r

abbrev pub IsLocated : Accepted → List Segment → ℕ → List ℕ → Activation → Frame → Activation → Type 0
IsLocated x segments site r first f a = Reads x.image f × (AtFirst site r first f a ⊎ AtCall x segments f a)
