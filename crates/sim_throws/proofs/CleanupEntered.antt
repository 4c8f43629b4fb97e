-- A cleanup that a throw enters is in progress in the activation of its frame; and the goal of its throw is the barrier that was written.
use Rattle.std.proofs.Common.{◌≡◌, ℕ, ◌+◌, ◌*◌, ◌^◌, ◌<◌, arith, inl, inr, List, [], ◌∷◌, refl, sym, subst, ◌∙◌, Some, ◌≤◌, ◌==◌, ◌&&◌, not, Bool, true, false, ◌++◌, None, ap}
use Rattle.std.proofs.lemmas.Bool.{cases_lt, cases_eq}
use Rattle.std.specs.Prelude.{Ok, slice_index}
use Rattle.std.specs.List.{list_any}
use Rattle.std.proofs.lemmas.Bool.Decides.{nat_tests}
use Rattle.eh_bus.specs.Map.{IsMap}
use Rattle.eh_bus.specs.Memory.{Memory}
use Rattle.eh_bus.specs.declared.map.TheConstants.{POOL_START, SLOT_SIZE}
use Rattle.eh_bus.proofs.PartLaws.{host_back, host_other}
use Rattle.eh_cxa.specs.Words.{word, set_slot_word, Write, set_slot_words, write}
use Rattle.eh_cxa.specs.declared.layout.TheConstants.{SLOTS, SLOT_WORDS, BARRIER_SP, BARRIER_OBJECT, BARRIER_DESCRIPTOR, BARRIER_POINTER, BARRIER_WORD_3, BARRIER_WORD_4}
use Rattle.eh_cxa.specs.Throw.{set_barrier_of}
use Rattle.eh_cxa.specs.declared.globals.BarrierWords.{BarrierWords}
use Rattle.eh_cxa.proofs.Pools.{put_is_map}
use Rattle.eh_cxa.specs.Lists.{Cleanup}
use Rattle.eh_phase.specs.Cleanups.{is_reached}
use Rattle.eh_phase.specs.declared.phase2.Goal.{Goal}
use Rattle.thumb_core.specs.Registers.{reg, all_of}
use Rattle.thumb_core.specs.declared.regs.TheConstants.{SP}
use Rattle.frame_facts.specs.Branches.{call_changes}
use Rattle.frame_facts.specs.Facts.{forget_registers}
use Rattle.frame_entries.specs.Scopes.{is_scope_at, is_cleanup_at, is_one, is_cleanup}
use Rattle.sim_frames.specs.frame_graph.Sites.{is_scoped, site_at, items_at}
use Rattle.sim_frames.specs.frame_flow.Causes.{is_call}
use Rattle.sim_machines.specs.frame_check.Accepts.{Accepted}
use Rattle.sim_machines.specs.frame_check.Roots.{flow_graph_of}
use Rattle.sim_machines.specs.Activations.{Activation, Recorded, frames_at}
use Rattle.sim_frames.specs.sim_relation.Chain.{code, regs_at}
use Rattle.sim_frames.specs.sim_relation.Cleanups.{by_sp, IsEntered}
use Rattle.sim_frames.specs.sim_relation.Stands.{Keeps, IsProgram}
use Rattle.sim_frames.specs.Frames.{IsSiteOf}
use Rattle.sim_frames.proofs.Agreement.{called_site, same_registers}
use Rattle.sim_throws.proofs.After.{Enters}
use Rattle.sim_frames.proofs.CodeBytes.{codes_are_recipes}
use Rattle.sim_frames.specs.Landings.{IsCleanupOf, Reads, AtFirst, AtCall}
use Rattle.sim_frames.proofs.Located.{covered_items}
use Rattle.sim_frames.proofs.Outwards.{at_sp}
use Rattle.sim_frames.proofs.Pads.{any_there, no_leaf}
use Rattle.sim_frames.proofs.PadStands.{sp_same}
use Rattle.sim_frames.proofs.Sites.{clobbered_depth, clobbered_below, clobbered_kept, kept_same}

-- ---- words of the barrier

put_same : (m : Memory) (slot k v : ℕ) → IsMap m → slot < SLOTS → k < SLOT_WORDS → v < 2 ^ 32 → word (set_slot_word m slot k v) slot k ≡ v
unfolding word set_slot_word
put_same m slot k v is l h small = host_back m (POOL_START + SLOT_SIZE * slot + 4 * k) v is.segments (omega (arith, l, h)) (omega (arith, l, h)) small

put_else : (m : Memory) (slot k j v : ℕ) → (k ≡ j → ⊥) → word (set_slot_word m slot k v) slot j ≡ word m slot j
unfolding word set_slot_word
put_else m slot k j v differ = elim (cases_lt k j) [
  | inl below ↦ host_other m (POOL_START + SLOT_SIZE * slot + 4 * k) v (POOL_START + SLOT_SIZE * slot + 4 * j) (inl (omega (arith, below)))
  | inr above ↦ elim (cases_lt j k) [
    | inl less ↦ host_other m (POOL_START + SLOT_SIZE * slot + 4 * k) v (POOL_START + SLOT_SIZE * slot + 4 * j) (inr (omega (arith, less)))
    | inr most ↦ absurd (differ (omega (arith, above, most)))
  ]
]

-- writes of a slot at other places
abbrev pub AreElse : ℕ → ℕ → List Write → Type 0
AreElse slot j [] = Unit {0}
AreElse slot j (w ∷ more) = (w.slot ≡ slot) × (w.place ≡ j → ⊥) × AreElse slot j more

pub puts_else : (ws : List Write) (m : Memory) (slot j : ℕ) → AreElse slot j ws → word (set_slot_words ws m) slot j ≡ word m slot j
puts_else [] m slot j h = refl
puts_else (w ∷ more) m slot j h =
    puts_else more (set_slot_word m w.slot w.place w.value) slot j h.2 ∙ subst (λ (t : ℕ). word (set_slot_word m t w.place w.value) slot j ≡ word m slot j) (sym h.0) (put_else m slot w.place j w.value h.1)

pub barrier_sp : (m : Memory) (slot : ℕ) (b : BarrierWords) → IsMap m → slot < SLOTS → b.sp < 2 ^ 32 → word (set_slot_words (set_barrier_of (Some slot) b) m) slot BARRIER_SP ≡ b.sp
barrier_sp m slot b is l small =
    let ws : List Write = write slot BARRIER_OBJECT b.object ∷ (write slot BARRIER_DESCRIPTOR b.desc ∷ (write slot BARRIER_POINTER b.pointer ∷ (write slot BARRIER_WORD_3 0 ∷ (write slot BARRIER_WORD_4 0 ∷ [])))) in
    let h : AreElse slot BARRIER_SP ws = (refl, λ e. (omega (arith, e)), (refl, λ e. (omega (arith, e)), (refl, λ e. (omega (arith, e)), (refl, λ e. (omega (arith, e)), (refl, λ e. (omega (arith, e)), tt))))) in
    puts_else ws (set_slot_word m slot BARRIER_SP b.sp) slot BARRIER_SP h ∙ put_same m slot BARRIER_SP b.sp is l (omega arith) small

pub barrier_desc : (m : Memory) (slot : ℕ) (b : BarrierWords) → IsMap m → slot < SLOTS → b.desc < 2 ^ 32 → word (set_slot_words (set_barrier_of (Some slot) b) m) slot BARRIER_DESCRIPTOR ≡ b.desc
barrier_desc m slot b is l small =
    let ws : List Write = write slot BARRIER_POINTER b.pointer ∷ (write slot BARRIER_WORD_3 0 ∷ (write slot BARRIER_WORD_4 0 ∷ [])) in
    let h : AreElse slot BARRIER_DESCRIPTOR ws = (refl, λ e. (omega (arith, e)), (refl, λ e. (omega (arith, e)), (refl, λ e. (omega (arith, e)), tt))) in
    puts_else ws (set_slot_word (set_slot_word (set_slot_word m slot BARRIER_SP b.sp) slot BARRIER_OBJECT b.object) slot BARRIER_DESCRIPTOR b.desc) slot BARRIER_DESCRIPTOR h
    ∙ put_same (set_slot_word (set_slot_word m slot BARRIER_SP b.sp) slot BARRIER_OBJECT b.object) slot BARRIER_DESCRIPTOR b.desc
    (put_is_map (set_slot_word m slot BARRIER_SP b.sp) slot BARRIER_OBJECT b.object (put_is_map m slot BARRIER_SP b.sp is)) l (omega arith) small

-- ---- the cleanup

module _ (x : Accepted) (is : IsProgram x) (s : Recorded) (k : Keeps x s) (site : ℕ) (here : IsSiteOf x s site) (deep : is_call here.instr ≡ true → 4 ≤ here.at.fact.depth) (n : Enters x is s k site here) (slot pad next : ℕ)
    (c : IsCleanupOf n.frame pad next) (g : Goal) (reach : is_reached g next (frames_at x.image None n.frame.site (by_sp n.frame.sp) n.first n.more).frames ≡ true) where
  abbrev pub begun : Cleanup
  begun = record { slot = slot; next = next; sp = n.frame.sp; site = n.frame.site }

  cleans_it : is_cleanup_at n.frame.site c.desc ≡ true
  cleans_it = ap (λ b. b && is_cleanup c.desc.kind) c.scope ∙ ap is_cleanup c.kind

  reads : Reads x.image n.frame
  reads = n.located.0

  -- a gate in the scope of a descriptor has something on the stack, and so has a call
  not_flat : site_at (flow_graph_of x.image here.at.function) here.at.place ≡ Some n.frame.site → is_scoped (flow_graph_of x.image here.at.function) n.frame.site ≡ true → here.at.fact.depth ≡ 0 → ⊥
  not_flat there scoped flat = go (is_call here.instr) refl
    where
      leaf : (a b d : Bool) → a ≡ false → b ≡ true → d ≡ true → (not a && b && d) ≡ true
      leaf false true true e h i = refl
      leaf true b d e h i = absurd cc
      leaf false false d e h i = absurd cc
      leaf false true false e h i = absurd cc

      go : (b : Bool) → is_call here.instr ≡ b → ⊥
      go true e = let room = deep e in omega (arith, room, flat)
      go false e =
          no_leaf x is here.at.function here.at.marks s.first.function here.at.of here.at.place here.at.fact here.at.state here.instr here.stands n.frame.site there
          (leaf (is_call here.instr) (here.at.fact.depth == 0) (is_scoped (flow_graph_of x.image here.at.function) n.frame.site) e (let t : (here.at.fact.depth == 0) ≡ true = grind (arith, nat_tests) in t) scoped)

  at_first : AtFirst site (all_of s.regs) s.first n.frame n.first → IsEntered x s.segments g begun n.first n.more
  at_first one =
      let at = here.at in
      let items : items_at (flow_graph_of x.image at.function) n.frame.site ≡ c.before ++ Ok c.desc ∷ c.after = covered_items (flow_graph_of x.image at.function) n.frame.site reads.covered reads.covers ∙ sym reads.items ∙ c.items in
      let there : site_at (flow_graph_of x.image at.function) at.place ≡ Some n.frame.site = here.is_site ∙ ap Some (sym one.site) in
      let sp_is : n.frame.sp ≡ reg s.regs SP = sym n.register ∙ ap (λ (r : List ℕ). slice_index r SP) one.registers ∙ same_registers s.regs k.sound SP (omega arith) in
      let scoped : is_scoped (flow_graph_of x.image at.function) n.frame.site ≡ true =
      ap (list_any (is_one (is_scope_at n.frame.site))) items ∙ any_there (is_one (is_scope_at n.frame.site)) c.before (Ok c.desc) c.after c.scope in
      let lower = at.holds.lower in
      subst (λ (a : Activation). IsEntered x s.segments g begun a n.more) (sym one.is) (record {
        function = at.function;
        marks = at.marks;
        of = at.of;
        place = at.place;
        fact = at.fact;
        state = at.state;
        site = there;
        lower = omega (arith, sp_is, lower);
        at_depth = λ b. let e = at.holds.describes.sp b in omega (arith, sp_is, e);
        below = elim (cases_eq at.fact.depth 0) [
          | inl flat ↦ absurd (not_flat there scoped flat)
          | inr deep ↦ omega (arith, sp_is, lower, deep)
        ];
        saves = at.holds.saves;
        before = c.before;
        cleanup = c.desc;
        after = c.after;
        items = items;
        cleans = cleans_it;
        next = c.later;
        reach = subst (λ (a : Activation). is_reached g next (frames_at x.image None n.frame.site (by_sp n.frame.sp) a n.more).frames ≡ true) one.is reach;
      })

  at_call : AtCall x s.segments n.frame n.first → IsEntered x s.segments g begun n.first n.more
  at_call two =
      let out = two.stands in
      let items : items_at (flow_graph_of x.image out.function) n.frame.site ≡ c.before ++ Ok c.desc ∷ c.after = covered_items (flow_graph_of x.image out.function) n.frame.site reads.covered reads.covers ∙ sym reads.items ∙ c.items in
      let there : site_at (flow_graph_of x.image out.function) out.place ≡ Some n.frame.site =
      called_site x is (codes_are_recipes x is) s.segments k.corresponds.map.segments two.inside n.first out two.whole ∙ ap Some (sym two.site) in
      let sp_is : n.frame.sp ≡ reg (regs_at two.inside) SP = sym n.register ∙ ap (λ (r : List ℕ). slice_index r SP) two.registers ∙ sp_same two.inside two.whole.count in
      let lower = out.holds.lower in
      let depth = clobbered_depth call_changes out.fact in
      let room = out.room in
      let high = n.rest.rise.1 in
      record {
        function = out.function;
        marks = out.marks;
        of = out.of;
        place = out.place;
        fact = out.fact;
        state = out.state;
        site = there;
        lower = omega (arith, sp_is, lower, depth);
        at_depth = λ b. let e = out.holds.describes.sp (clobbered_below call_changes out.fact ∙ b) in omega (arith, sp_is, e, depth);
        below = below two sp_is;
        saves = kept_same (code x out.function out.marks).prologue (forget_registers call_changes out.fact) out.fact n.first s.segments (sym depth) (sym (clobbered_kept call_changes out.fact)) out.holds.saves;
        before = c.before;
        cleanup = c.desc;
        after = c.after;
        items = items;
        cleans = cleans_it;
        next = c.later;
        reach = reach;
      }
    where
      below : (two : AtCall x s.segments n.frame n.first) → n.frame.sp ≡ reg (regs_at two.inside) SP → n.frame.sp < n.first.caller.sp
      below two e =
          let room = two.stands.room in
          let w : reg (regs_at two.inside) SP ≡ two.inside.sp = sym (sp_same two.inside two.whole.count) ∙ at_sp two.inside two.whole.count in
          omega (arith, e, w, room)

  -- it was entered there
  pub cleanup_entered : IsEntered x s.segments g begun n.first n.more
  cleanup_entered = elim n.located.1 [
    | inl one ↦ at_first one
    | inr two ↦ at_call two
  ]
