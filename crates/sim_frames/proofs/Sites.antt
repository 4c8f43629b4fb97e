-- What becomes of the frame of an activation that stands at a site: at a gate, at a call, and at the call that the one inside it recorded.
use Rattle.std.proofs.Common.{◌≡◌, ℕ, true, Some, List, [], ◌∷◌, ◌++◌, refl, ◌≤◌, take, sym, subst, ◌==◌, false, arith, Bool, cond, ◌+◌, Option, None, ◌%◌, ◌<◌, inl, inr, ap, ◌∙◌, ◌-◌, ◌^◌, length}
use Rattle.std.specs.Prelude.{Ok, Contains, Result, Err, slice_index, option_and_then}
use Rattle.std.specs.List.{list_any, list_all}
use Rattle.std.proofs.lemmas.Bool.{and_parts, eqb-true}
use Rattle.std.specs.Option.{option_map_or}
use Rattle.std.proofs.lemmas.List.Elements.{All-contains, Contains-append_left, Contains-append_right}
use Rattle.std.proofs.lemmas.List.{get_or-take, length-take-le}
use Rattle.eh_codes.specs.Cut.{split_codes}
use Rattle.eh_bytecode.specs.Recipe.{recipe}
use Rattle.eh_bytecode.specs.declared.recipe.Recipe.{Recipe}
use Rattle.eh_phase.specs.Frames.{entry_contents_at, site_of}
use Rattle.eh_phase.specs.declared.walk.CoveringEntry.{CoveringEntry}
use Rattle.frame_entries.specs.Unwinding.{pop_once}
use Rattle.frame_check.specs.Accepts.{Accepted, IsWell}
use Rattle.frame_facts.specs.declared.facts.Fact.{Fact}
use Rattle.frame_facts.specs.Facts.{forget_register, forget_registers}
use Rattle.eh_bus.specs.Segment.{Segment}
use Rattle.frame_facts.specs.declared.saves.Prologue.{Prologue}
use Rattle.frame_facts.specs.Saves.{saves_of}
use Rattle.sim_relation.specs.sim_machines.Activations.{Activation, Caller, registers_of}
use Rattle.thumb_core.specs.declared.regs.Regs.{Regs}
use Rattle.frame_facts.proofs.Described.{clobbering_described}
use Rattle.thumb_core.specs.Words.{registers_of_list}
use Rattle.frame_facts.specs.Branches.{call_changes}
use Rattle.frame_facts.specs.Agrees.{at_site, agreement}
use Rattle.thumb_isa.specs.declared.instr.Instr.{Instr}
use Rattle.thumb_isa.specs.declared.instr.Instr.TheVariants.{Bl, Blx}
use Rattle.thumb_isa.specs.declared.instr.Decoded.{Decoded}
use Rattle.thumb_isa.specs.declared.instr.Decoded.TheVariants.{Is, Undefined, Unpredictable, NotInProfile}
use Rattle.thumb_isa.specs.Rows.{Row, fits_row, first_fit, rows, late_rows, decode_result, late_decode_result, decode_result_for}
use Rattle.thumb_isa.specs.declared.profile.Profile.{Profile}
use Rattle.thumb_isa.specs.declared.profile.Profile.TheVariants.{One, Two}
use Rattle.run_images.specs.Profiles.{profile_of}
use Rattle.frame_code.specs.declared.standing.Standing.TheVariants.{Instruction, Udf}
use Rattle.frame_code.specs.Standing.{standing_of_decoded, is_udf, wide_of, standing_by}
use Rattle.frame_graph.specs.Places.{halfword_of, standing_at, address_of}
use Rattle.thumb_isa.specs.Range.{size_of}
use Rattle.frame_graph.specs.FlowGraph.{FlowGraph}
use Rattle.elf_image.specs.Functions.{Function}
use Rattle.eh_bus.specs.Map.{AreSegments}
use Rattle.eh_bus.specs.declared.map.TheConstants.{STACK_START, STACK_END}
use Rattle.frame_dataflow.specs.Flow.{met}
use Rattle.frame_dataflow.proofs.Work.{contains_head}
use Rattle.thumb_core.specs.Registers.{reg}
use Rattle.frame_facts.specs.declared.cause.FrameCause.{FrameCause}
use Rattle.frame_facts.specs.declared.cause.FrameCause.TheVariants.{Undecodable, BranchOut, CallNotFunction}
use Rattle.frame_entries.specs.declared.unwinding.EntrySummary.{EntrySummary}
use Rattle.frame_entries.specs.declared.unwinding.EntrySummary.TheVariants.{Finds}
use Rattle.frame_graph.specs.Reach.{IsReached}
use Rattle.frame_graph.specs.Sites.{site_at, unwinding_at}
use Rattle.frame_graph.specs.Edges.{instruction_at, is_undecodable, branches_out, calls_nothing}
use Rattle.frame_check.specs.frame_reach.Marks.{Marks}
use Rattle.frame_flow.specs.Causes.{cause_if, causes_of_result, after_at, site_causes, is_call, instruction_causes, causes_at, entry_causes as unwound_causes}
use Rattle.frame_flow.specs.Flows.{IsStateOf}
use Rattle.frame_flow.proofs.Causing.{found_are_met}
use Rattle.frame_flow.proofs.Reaching.{state_reached}
use Rattle.frame_check.specs.Roots.{flow_graph_of}
use Rattle.frame_check.proofs.frame_reach.Stands.{stands_inside}
use Rattle.frame_check.specs.Judged.{IsPlaced}
use Rattle.frame_check.proofs.Wells.{placed_at}
use Rattle.frame_graph.specs.Sites as flow_graph_site
use Rattle.sim_relation.specs.sim_code.Recipes.{IsRecipe, AreRegisters}
use Rattle.sim_relation.specs.Holds.{AreKept, Holds, IsWhole}
use Rattle.sim_relation.specs.Chain.{IsOf, code, StandsAtCall}
use Rattle.sim_relation.specs.Stands.{IsProgram}
use Rattle.sim_relation.proofs.sim_code.Entries.{site_unwinds, finds_covered, IsCovered, refused_covered}
use Rattle.sim_relation.proofs.Flows.{none_stands, stands_instruction}
use Rattle.sim_frames.proofs.Outwards.{Unwinds, GoesOut, IsNew}
use Rattle.sim_relation.proofs.sim_code.Results.{unwound_registers}
use Rattle.sim_frames.proofs.Unwinds.{gives_back, GivesBack}
use Rattle.sim_relation.proofs.Moves.{after_call}

-- codes that cover a site of an accepted image, with a recipe, pop each register once, sp never, and load at multiples of 4
abbrev pub CodesAreRecipes : Accepted → Type 0
CodesAreRecipes x = (site : ℕ) (covered : CoveringEntry) (of : Recipe) → entry_contents_at x.image site ≡ Some covered → recipe (split_codes covered.codes) ≡ Ok of → pop_once (split_codes covered.codes) ≡ true
    → IsRecipe (split_codes covered.codes) of

-- ---- what a fact clobbers

pub clobbered_depth : (xs : List ℕ) (f : Fact) → (forget_registers xs f).depth ≡ f.depth
clobbered_depth [] f = refl
clobbered_depth (k ∷ more) f = clobbered_depth more (forget_register k f)

pub clobbered_below : (xs : List ℕ) (f : Fact) → (forget_registers xs f).below ≡ f.below
clobbered_below [] f = refl
clobbered_below (k ∷ more) f = clobbered_below more (forget_register k f)

pub clobbered_kept : (xs : List ℕ) (f : Fact) → (forget_registers xs f).kept ≡ f.kept
clobbered_kept [] f = refl
clobbered_kept (k ∷ more) f = clobbered_kept more (forget_register k f)

pub kept_same : (p : Prologue) (f g : Fact) (a : Activation) (segments : List Segment) → g.depth ≡ f.depth → g.kept ≡ f.kept → AreKept segments a p f → AreKept segments a p g
kept_same p f g a segments d k h s c =
    let w = h s (subst (λ n. Contains (take n (saves_of p)) s) k c) in
    record { low = w.low; deep = subst (λ n. s.offset ≤ n) (sym d) w.deep; holds = w.holds; slot = w.slot }

-- what holds of a fact holds of it with registers clobbered
pub clobbered_holds : (p : Prologue) (f : Fact) (a : Activation) (segments : List Segment) (regs : Regs) (xs : List ℕ) → list_any (λ (j : ℕ). j == 13) xs ≡ false → Holds p f a segments regs
    → Holds p (forget_registers xs f) a segments regs
clobbered_holds p f a segments regs xs no_sp h = record {
  entry = h.entry;
  saved = h.saved;
  link = h.link;
  describes = clobbering_described h.entry a.caller.sp xs f regs regs h.describes (λ k e. refl) no_sp;
  lower = let d = clobbered_depth xs f in omega (arith, h.lower, d);
  saves = kept_same p f (forget_registers xs f) a segments (clobbered_depth xs f) (clobbered_kept xs f) h.saves;
}

calls_keep_sp : list_any (λ (j : ℕ). j == 13) call_changes ≡ false
unfolding registers_of_list
calls_keep_sp = refl

pub site_holds : (p : Prologue) (call : Bool) (f : Fact) (a : Activation) (segments : List Segment) (regs : Regs) → Holds p f a segments regs → Holds p (at_site call f) a segments regs
site_holds p true f a segments regs h = clobbered_holds p f a segments regs call_changes calls_keep_sp h
site_holds p false f a segments regs h = h

-- ---- sizes of calls

abbrev call_sized : Instr → ℕ → Bool
call_sized (Bl off) size = size == 4
call_sized (Blx m) size = size == 2
call_sized i size = true

abbrev is_sized : Decoded → Bool
is_sized (Is i size) = call_sized i size
is_sized Undefined = true
is_sized Unpredictable = true
is_sized NotInProfile = true

either : (b : Bool) (x y : Decoded) → is_sized x ≡ true → is_sized y ≡ true → is_sized (cond b x y) ≡ true
either true x y p q = p
either false x y p q = q

fit_sized : (rs : List Row) (first second : ℕ) → list_all (λ row. is_sized (row.means first second)) rs ≡ true → is_sized (first_fit rs first second) ≡ true
fit_sized [] first second h = refl
fit_sized (row ∷ more) first second h =
    let two = and_parts (is_sized (row.means first second)) (list_all (λ row. is_sized (row.means first second)) more) h in
    either (fits_row row first second) (row.means first second) (first_fit more first second) two.0 (fit_sized more first second two.1)

decoded_sized : (p : Profile) (first second : ℕ) → is_sized (decode_result_for p first second) ≡ true
unfolding decode_result late_decode_result
decoded_sized One first second = fit_sized rows first second refl
decoded_sized Two first second = fit_sized (late_rows ++ rows) first second refl

of_decoded_sized : (d : Decoded) (i : Instr) (size : ℕ) → is_sized d ≡ true → standing_of_decoded d ≡ Instruction i size → call_sized i size ≡ true
of_decoded_sized (Is j n) i size h e = let a : j ≡ i = cc in let b : n ≡ size = cc in subst (λ (k : Instr). call_sized k size ≡ true) a (subst (λ (m : ℕ). call_sized j m ≡ true) b h)
of_decoded_sized Undefined i size h e = absurd cc
of_decoded_sized Unpredictable i size h e = absurd cc
of_decoded_sized NotInProfile i size h e = absurd cc

stands_sized : (s : FlowGraph) (p : ℕ) (i : Instr) (size : ℕ) → standing_at s p ≡ Instruction i size → call_sized i size ≡ true
unfolding standing_at
stands_sized s p i size e = by_halves (halfword_of s p) (halfword_of s (p + 1)) e
  where
    wide : (first : ℕ) (o : Option ℕ) → wide_of (profile_of s.image) first o ≡ Instruction i size → call_sized i size ≡ true
    wide first None e = absurd cc
    wide first (Some second) e = of_decoded_sized (decode_result_for (profile_of s.image) first second) i size (decoded_sized (profile_of s.image) first second) e

    by_size : (u b : Bool) (first : ℕ) (o : Option ℕ) → cond u Udf (cond b (standing_of_decoded (decode_result_for (profile_of s.image) first 0)) (wide_of (profile_of s.image) first o)) ≡ Instruction i size → call_sized i size ≡ true
    by_size true b first o e = absurd cc
    by_size false true first o e = of_decoded_sized (decode_result_for (profile_of s.image) first 0) i size (decoded_sized (profile_of s.image) first 0) e
    by_size false false first o e = wide first o e

    by_halves : (o w : Option ℕ) → standing_by (profile_of s.image) o w ≡ Instruction i size → call_sized i size ≡ true
    by_halves None w e = absurd cc
    by_halves (Some first) w e = by_size (is_udf first) (size_of first == 2) first w e

-- ---- a place with a site

module _ (x : Accepted) (is : IsProgram x) (recipes : CodesAreRecipes x) (f : Function) (m : Marks) (start : ℕ) (of : IsOf x start f m) (p : ℕ) (fact : Fact)
    (state : IsStateOf (code x f m) p fact) (i : Instr) (at : instruction_at (flow_graph_of x.image f) p ≡ Some i) (site : ℕ) (site_is : site_at (flow_graph_of x.image f) p ≡ Some site)
    (low : f.start ≤ site) where
  abbrev s : FlowGraph
  s = flow_graph_of x.image f

  reached : IsReached s p
  reached = state_reached (code x f m) p fact state

  well : IsWell s
  well = All-contains (λ (g : Function). IsWell (flow_graph_of x.image g)) x.image.functions f is.sound.functions of.among

  not_found : (cause : FrameCause) → Contains (causes_at (code x f m) p fact) cause → ⊥
  not_found cause h = none_stands x f m is.sound of.among of.are p cause (met state ((found_are_met (code x f m) cause p fact).1 h))

  at_the_site : (cause : FrameCause) → Contains (unwound_causes (code x f m).prologue (unwinding_at s site) (is_call i) fact) cause → Contains (causes_at (code x f m) p fact) cause
  unfolding causes_at
  at_the_site cause h =
      let here : Contains (site_causes (code x f m) (is_call i) fact site) cause = Contains-append_left (unwound_causes (code x f m).prologue (unwinding_at s site) (is_call i) fact) _ cause h in
      let site_part : Contains (option_map_or (site_causes (code x f m) (is_call i) fact) (site_at s p) []) cause = rw site_is here in
      let instr_part : Contains (instruction_causes (code x f m) p fact i) cause = Contains-append_right (causes_of_result (after_at (code x f m) p fact i)) _ cause site_part in
      let last : Contains (option_map_or (instruction_causes (code x f m) p fact) (instruction_at s p) []) cause = rw at instr_part in
      Contains-append_right (cause_if (is_undecodable s p) Undecodable) _ cause
      (Contains-append_right (cause_if (branches_out s p) BranchOut) _ cause
      (Contains-append_right (cause_if (calls_nothing s p) CallNotFunction) _ cause last))

  -- the recipe of the site agrees with each state there
  pub agrees : (r : Recipe) → unwinding_at s site ≡ Finds r → agreement (code x f m).prologue r (is_call i) fact ≡ Ok tt
  agrees r finds = go (agreement (code x f m).prologue r (is_call i) fact) refl
    where
      go : (o : Result (Unit {0}) FrameCause) → agreement (code x f m).prologue r (is_call i) fact ≡ o → agreement (code x f m).prologue r (is_call i) fact ≡ Ok tt
      go (Ok tt) e = e
      go (Err cause) e =
          let one : Contains (causes_of_result (agreement (code x f m).prologue r (is_call i) fact)) cause = rw e (contains_head cause []) in
          absurd (not_found cause (at_the_site cause (subst (λ (u : EntrySummary). Contains (unwound_causes (code x f m).prologue u (is_call i) fact) cause) (sym finds) one)))

  -- what becomes of its frame
  pub unwinds : (a : Activation) (ss : List Segment) (regs : Regs) (old : List ℕ) → Holds (code x f m).prologue (at_site (is_call i) fact) a ss regs → IsWhole a.caller → AreRegisters old
      → ((k : ℕ) → k < 15 → slice_index old k ≡ reg regs k) → AreSegments ss → STACK_START ≤ reg regs 13 → a.caller.sp ≤ STACK_END → reg regs 13 % 4 ≡ 0 → Unwinds x.image ss site old a.caller
  unwinds a ss regs old h whole are same segments above top aligned = elim (site_unwinds s p site well reached site_is low) [
    | inl finds ↦ inr (inr (goes finds.0 finds.1))
    | inr refused ↦ elim (refused_covered s site refused) [
      | inl none ↦ inl none
      | inr stuck ↦ inr (inl stuck)
    ]
  ]
    where
      goes : (r : Recipe) → unwinding_at s site ≡ Finds r → GoesOut x.image ss site old a.caller
      goes r finds =
          let c : IsCovered s site r = finds_covered s site r finds in
          let is_recipe : recipe (split_codes c.covered.codes) ≡ Ok r = ap (λ (b : List ℕ). recipe (split_codes b)) c.codes ∙ c.has.recipe in
          let once : pop_once (split_codes c.covered.codes) ≡ true = ap (λ (b : List ℕ). pop_once (split_codes b)) c.codes ∙ c.has.once in
          let back : GivesBack ss old (split_codes c.covered.codes) a.caller =
          gives_back (code x f m).prologue r (is_call i) fact a ss regs old (split_codes c.covered.codes) (agrees r finds) h whole are.count are.small same (recipes site c.covered r c.covers is_recipe once) segments above top aligned in
          record {
            covered = c.covered;
            covers = c.covers;
            of = r;
            recipe = is_recipe;
            new = back.new;
            unwinds = back.unwinds;
            is = record { registers = unwound_registers ss old back.new (split_codes c.covered.codes) are back.unwinds; saved = back.saved; sp = back.sp; pc = back.pc };
          }

-- ---- at the call that the activation inside recorded

call_site : (a back : ℕ) (i : Instr) (size : ℕ) → is_call i ≡ true → call_sized i size ≡ true → a % 2 ≡ 0 → a + size < 2 ^ 31 → back ≡ a + size + 1
    → flow_graph_site.site_of a i ≡ Some ((back - back % 2 + (2 ^ 32 - 2)) % 2 ^ 32)
call_site a back (Bl off) size c z even low e = let four : size ≡ 4 = eqb-true size 4 z in ap Some (let n : (a + 2) % 2 ^ 32 ≡ (back - back % 2 + (2 ^ 32 - 2)) % 2 ^ 32 = omega (arith, four, even, low, e) in n)
call_site a back (Blx k) size c z even low e = let two : size ≡ 2 = eqb-true size 2 z in ap Some (let n : a ≡ (back - back % 2 + (2 ^ 32 - 2)) % 2 ^ 32 = omega (arith, two, even, low, e) in n)
call_site a back i size c z even low e = absurd cc

low_site : (a site : ℕ) (i : Instr) → is_call i ≡ true → a + 2 < 2 ^ 32 → flow_graph_site.site_of a i ≡ Some site → a ≤ site
low_site a site (Bl off) c l e = let n : (a + 2) % 2 ^ 32 ≡ site = cc in omega (arith, n, l)
low_site a site (Blx k) c l e = let n : a ≡ site = cc in omega (arith, n)
low_site a site i c l e = absurd cc

module _ (x : Accepted) (is : IsProgram x) (recipes : CodesAreRecipes x) (ss : List Segment) (segments : AreSegments ss) (c : Caller) (a : Activation) (out : StandsAtCall x ss c a) where
  abbrev there : FlowGraph
  there = flow_graph_of x.image out.function

  placed : IsPlaced out.function
  placed = subst IsPlaced out.of.among.2 (placed_at x.image out.of.among.0 out.function is.image out.of.among.1)

  instr_there : instruction_at there out.place ≡ Some out.instr
  instr_there = stands_instruction there out.place out.instr out.size out.stands

  back_is : slice_index (registers_of c) 15 ≡ c.back → site_of (registers_of c) ≡ (c.back - c.back % 2 + (2 ^ 32 - 2)) % 2 ^ 32
  back_is e = ap (λ (k : ℕ). (k - k % 2 + (2 ^ 32 - 2)) % 2 ^ 32) e

  pub site_there : slice_index (registers_of c) 15 ≡ c.back → site_at there out.place ≡ Some (site_of (registers_of c))
  site_there e =
      let inside = stands_inside there out.place out.instr out.size out.stands in
      ap (option_and_then (flow_graph_site.site_of (address_of there out.place))) instr_there
      ∙ call_site (address_of there out.place) c.back out.instr out.size out.call (stands_sized there out.place out.instr out.size out.stands) (omega (arith, placed.even)) (omega (arith, inside, placed.low)) out.back
      ∙ ap Some (sym (back_is e))

  pub unwinds_outside : (new : List ℕ) → slice_index (registers_of c) 15 ≡ c.back → IsWhole c → STACK_START ≤ c.sp → a.caller.sp ≤ STACK_END → IsNew c new → Unwinds x.image ss (site_of (registers_of c)) new a.caller
  unwinds_outside new e whole above top n =
      unwinds x is recipes out.function out.marks a.function out.of out.place out.fact out.state out.instr instr_there (site_of (registers_of c)) (site_there e) low_there a ss regs new
      (subst (λ (b : Bool). Holds (code x out.function out.marks).prologue (at_site b out.fact) a ss regs) (sym out.call) moved) out.whole n.registers
      (λ k l. sym (get_or-take 15 new k 0 l)) segments (omega (arith, above, sp_there)) top (omega (arith, sp_there, whole.aligned))
    where
      regs : Regs
      regs = record { r = take 15 new; pc = 0; n = false; z = false; c = false; v = false }

      fifteen : length (take 15 new) ≡ 15
      fifteen = length-take-le 15 new (let count = n.registers.count in omega (arith, count))

      sp_there : reg regs 13 ≡ c.sp
      sp_there = get_or-take 15 new 13 0 (omega arith) ∙ n.sp

      saved_there : (j : ℕ) → j < 8 → slice_index (take 15 new) (j + 4) ≡ slice_index c.saved j
      saved_there j h = get_or-take 15 new (j + 4) 0 (omega (arith, h)) ∙ n.saved (j + 4) (omega arith) (omega (arith, h)) ∙ by_number (j + 4 == 14) refl
        where
          by_number : (b : Bool) → (j + 4 == 14) ≡ b → cond b c.back (slice_index c.saved (j + 4 - 4)) ≡ slice_index c.saved j
          by_number true e = absurd (let w = eqb-true (j + 4) 14 e in omega (arith, w, h))
          by_number false e = ap (λ k. slice_index c.saved k) (let k : j + 4 - 4 ≡ j = omega arith in k)

      moved : Holds (code x out.function out.marks).prologue (at_site true out.fact) a ss regs
      moved = after_call (code x out.function out.marks).prologue out.fact a ss c regs whole.count fifteen out.holds saved_there sp_there

      low_there : out.function.start ≤ site_of (registers_of c)
      low_there =
          let inside = stands_inside there out.place out.instr out.size out.stands in
          let two = placed.low in
          let b = back_is e in
          let l = low_site (address_of there out.place) (site_of (registers_of c)) out.instr out.call (omega (arith, inside, two, sized out.instr out.size out.call (stands_sized there out.place out.instr out.size out.stands)))
          (ap (option_and_then (flow_graph_site.site_of (address_of there out.place))) (sym instr_there) ∙ site_there e) in
          omega (arith, l)
        where
          sized : (i : Instr) (size : ℕ) → is_call i ≡ true → call_sized i size ≡ true → 2 ≤ size
          sized (Bl off) size c z = let four : size ≡ 4 = eqb-true size 4 z in omega (arith, four)
          sized (Blx k) size c z = let two : size ≡ 2 = eqb-true size 2 z in omega (arith, two)
          sized i size c z = absurd cc
