-- What a throw enters can be landed in, in both machines: descriptors' addresses are words, and so are sites and stack pointers.
use Rattle.std.proofs.Common.{◌<◌, ◌^◌, List, [], ◌∷◌, ℕ, Option, Some, None, Bool, true, false, cond, zero, suc, ◌+◌, ◌*◌, ◌/◌, ◌%◌, ◌==◌, nat_lt, nat_le, not, arith, ◌-◌, length, ◌≡◌, subst, ◌++◌, refl, sym, ap, ◌∙◌}
use Rattle.std.specs.Prelude.{Result, Ok, Err, option_map, slice_index}
use Rattle.std.proofs.lemmas.Option.{same_Some, none-some}
use Rattle.eh_desc.specs.declared.descriptor.Desc.{Desc}
use Rattle.eh_desc.specs.declared.descriptor.DescFault.{DescFault}
use Rattle.eh_desc.specs.declared.descriptor.NextDesc.{NextDesc}
use Rattle.eh_desc.specs.Grammar.{with_word, Form, word_at, cleanup_at, catch_at, has_types, spec_with_pad, types_at, specification_at, kind_at, next_desc_at, with_further_items, items_in, items_from, items_after, if_codes, body_items, items_of}
use Rattle.eh_desc.specs.declared.descriptor.DescFault.TheVariants.{Short}
use Rattle.eh_desc.specs.declared.descriptor.DescKind.TheVariants.{Spec}
use Rattle.eh_word.specs.Words.{number_at}
use Rattle.eh_codes.specs.declared.row.EntryBody.{EntryBody}
use Rattle.eh_codes.specs.declared.row.EntryBody.TheVariants.{CantUnwind, Inline, Table}
use Rattle.eh_codes.specs.Words.{code_words_after}
use Rattle.eh_bytecode.specs.Codes.{table_codes}
use Rattle.eh_bytecode.specs.declared.codes.CodesFault.{CodesFault}
use Rattle.eh_codes.specs.declared.row.Entry.{Entry}
use Rattle.elf_image.specs.Image.{Image}
use Rattle.eh_index.specs.Covering.{covering}
use Rattle.eh_index.specs.Places.{table_of}
use Rattle.eh_index.specs.Rows.{entries_of}
use Rattle.eh_phase.specs.Frames.{codes_of, with_items, entry_contents, entry_contents_at, frame_and_outer, frame_of, site_of, end_of_frames}
use Rattle.eh_phase.specs.declared.walk.CoveringEntry.{CoveringEntry}
use Rattle.eh_phase.specs.Phases.{Frame, Frames, phase1, phase2}
use Rattle.eh_codes.specs.Cut.{split_codes}
use Rattle.eh_bytecode.specs.Recipe.{recipe}
use Rattle.eh_bytecode.specs.declared.recipe.Recipe.{Recipe}
use Rattle.eh_bytecode.specs.declared.recipe.RecipeFault.{RecipeFault}
use Rattle.sim_machines.specs.Activations.{if_recipe, activation_frames, Caller, Activation, registers_of, ends_at, outer_frames, Recorded, reg_in, first_place}
use Rattle.thumb_core.specs.declared.ends.Cause.TheVariants.{NoHandler, LeavesCleanup}
use Rattle.eh_phase.specs.Laws.{goal_of}
use Rattle.eh_phase.specs.Verdict.{Meeting}
use Rattle.eh_phase.specs.declared.phase1.Barrier.{Barrier}
use Rattle.eh_phase.specs.declared.phase2.Entered.{Entered}
use Rattle.thumb_core.specs.Registers.{all_of}
use Rattle.thumb_core.specs.declared.regs.TheConstants.{SP}
use Rattle.sim_machines.specs.frame_check.Accepts.{Accepted}
use Rattle.sim_machines.specs.Landings.{AreBelow, Lands}
use Rattle.eh_desc.specs.declared.descriptor.NextDesc.TheVariants as what
use Rattle.eh_desc.specs.Grammar as grammar
use Rattle.eh_phase.specs.declared.phase1.Found.TheVariants as found
use Rattle.eh_phase.specs.declared.phase2.Entered.TheVariants as enters
use Rattle.sim_frames.specs.Frames.{ThrowsAt}
use Rattle.sim_frames.specs.sim_relation.Stands.{Keeps, IsProgram}
use Rattle.sim_frames.specs.Landings.{LandsIn, OfFrame}
use Rattle.sim_throws.proofs.ThrowLands.{recorded_frames, throw_lands, throw_cuts}

-- ---- descriptors

abbrev pub AreSmall : List (Result Desc DescFault) → Type 0
AreSmall [] = Unit {0}
AreSmall (Ok d ∷ more) = (d.at < 2 ^ 32) × (d.next < 2 ^ 32) × AreSmall more
AreSmall (Err fault ∷ more) = AreSmall more

abbrev SmallFound : NextDesc → Type 0
SmallFound what.End = Unit {0}
SmallFound (what.One d next) = (d.at < 2 ^ 32) × (d.next < 2 ^ 32)
SmallFound (what.Fault fault) = Unit {0}

with_small : (o : Option ℕ) (f : ℕ → NextDesc) → ((w : ℕ) → SmallFound (f w)) → SmallFound (with_word o f)
with_small None f h = tt
with_small (Some w) f h = h w

if_small : (b : Bool) (x y : NextDesc) → SmallFound x → SmallFound y → SmallFound (cond b x y)
if_small true x y p q = p
if_small false x y p q = q

module _ (t : Form) where
  cleanup_small : (place len off at : ℕ) → SmallFound (cleanup_at t place len off at)
  cleanup_small place len off at = with_small (word_at t at) _ (λ pad. (omega arith, omega arith))

  catch_small : (place len off at : ℕ) → SmallFound (catch_at t place len off at)
  catch_small place len off at = with_small (word_at t at) _ (λ pad. with_small (word_at t (at + 4)) _ (λ type. (omega arith, omega arith)))

  padded_small : (place len off types count : ℕ) → SmallFound (spec_with_pad t place len off types count)
  padded_small place len off types count = with_small (word_at t (types + 4 * count)) _ (λ pad. (omega arith, omega arith))

  types_small : (place len off types count : ℕ) (padded : Bool) → SmallFound (types_at t place len off types count padded)
  types_small place len off types count padded = go (has_types t types count) padded
    where
      go : (b c : Bool) → SmallFound (cond (not b) (what.Fault Short) (cond c (spec_with_pad t place len off types count) (grammar.descriptor_of t place len off (Spec (grammar.address_at t types) count None) (types + 4 * count))))
      go true true = padded_small place len off types count
      go true false = (omega arith, omega arith)
      go false c = tt

  specification_small : (place len off at : ℕ) → SmallFound (specification_at t place len off at)
  specification_small place len off at = with_small (word_at t at) _ (λ count. if_small (nat_lt _ (count % _)) _ _ tt (types_small place len off (at + 4) (count % _) (nat_le _ count)))

  kind_small : (place len off at : ℕ) → SmallFound (kind_at t place len off at)
  kind_small place len off at =
      if_small (off % 2 == 0) _ _
      (if_small (len % 2 == 0) _ _ (cleanup_small place len off at) (catch_small place len off at))
      (if_small (len % 2 == 0) _ _ (specification_small place len off at) tt)

  found_small : (place : ℕ) → SmallFound (next_desc_at t place)
  found_small place =
      with_small (word_at t place) _ (λ first. if_small (first == 0) _ _ tt
      (if_small t.wide _ _ (with_small (word_at t (place + 4)) _ (λ off. kind_small place first off (place + 8))) (kind_small place (first % 2 ^ 16) (first / 2 ^ 16) (place + 4))))

  items_small : (most place : ℕ) → AreSmall (items_in most t place)
  items_small zero place = tt
  items_small (suc most) place = go (next_desc_at t place) (found_small place) (λ next. items_small most next)
    where
      go : (o : NextDesc) → SmallFound o → ((next : ℕ) → AreSmall (items_in most t next)) → AreSmall (with_further_items (λ next. items_in most t next) o)
      go what.End s later = tt
      go (what.One d next) s later = (s.0, s.1, later next)
      go (what.Fault fault) s later = tt

from_small : (t : Form) (place : ℕ) → AreSmall (items_from t place)
unfolding items_from
from_small t place = items_small t (length t.bytes - place) place

body_small : (start : ℕ) (body : EntryBody) (bytes : List ℕ) → AreSmall (body_items start body bytes)
body_small start CantUnwind bytes = tt
body_small start (Inline word) bytes = tt
body_small start (Table a) bytes = go (table_codes bytes) (number_at 4 bytes 0)
  where
    go : (r : Result (List ℕ) CodesFault) (o : Option ℕ) → AreSmall (if_codes r (items_after start a bytes o))
    go (Err fault) o = tt
    go (Ok codes) None = tt
    go (Ok codes) (Some first) = from_small _ (4 + 4 * code_words_after first)

entry_small : (e : Entry) (o : Option (List ℕ)) → AreSmall (items_of e o)
entry_small e None = tt
entry_small e (Some bytes) = body_small e.start e.body bytes

pub covered_small : (image : Image) (site : ℕ) (c : CoveringEntry) → entry_contents_at image site ≡ Some c → AreSmall c.descs
unfolding entry_contents_at
covered_small image site c e = go (covering (entries_of image) site) e
  where
    some : (x : Entry) (o : Option (List ℕ)) → option_map (with_items x (table_of image x)) o ≡ Some c → AreSmall c.descs
    some x None e = absurd (none-some c e)
    some x (Some codes) e = subst (λ (d : CoveringEntry). AreSmall d.descs) (same_Some (with_items x (table_of image x) codes) c e) (entry_small x (table_of image x))

    go : (o : Option Entry) → entry_contents image o ≡ Some c → AreSmall c.descs
    go None e = absurd (none-some c e)
    go (Some x) e = some x (codes_of x.body (table_of image x)) e

-- ---- frames

abbrev pub Good : Frame → Type 0
Good f = AreSmall f.items × (f.site < 2 ^ 32)

abbrev pub AllGood : List Frame → Type 0
AllGood [] = Unit {0}
AllGood (f ∷ more) = Good f × AllGood more

pub good_at : (inner : List Frame) (f : Frame) (outer : List Frame) → AllGood (inner ++ f ∷ outer) → Good f
good_at [] f outer h = h.0
good_at (x ∷ inner) f outer h = good_at inner f outer h.1

pub good_framed : (image : Image) (further : Frames) (site : ℕ) (r : List ℕ) → site < 2 ^ 32 → AllGood further.frames → AllGood (activation_frames further site r (entry_contents_at image site)).frames
good_framed image further site r low h = go (entry_contents_at image site) refl
  where
    by_recipe : (c : CoveringEntry) (d : Result Recipe RecipeFault) → AreSmall c.descs → AllGood (frame_and_outer (frame_of site r c) (if_recipe d further)).frames
    by_recipe c (Ok done) s = ((s, low), h)
    by_recipe c (Err why) s = ((s, low), tt)

    go : (o : Option CoveringEntry) → entry_contents_at image site ≡ o → AllGood (activation_frames further site r o).frames
    go None e = tt
    go (Some c) e = by_recipe c (recipe (split_codes c.codes)) (covered_small image site c e)

pub good_outside : (image : Image) (place : Option ℕ) (c : Caller) (acts : List Activation) → AllGood (outer_frames image place c acts).frames
good_outside image place c [] = go (ends_at place 0)
  where
    go : (b : Bool) → AllGood (cond b (end_of_frames LeavesCleanup) (end_of_frames NoHandler)).frames
    go true = tt
    go false = tt
good_outside image place c (a ∷ more) = go (ends_at place (length (a ∷ more))) (good_outside image place a.caller more)
  where
    go : (b : Bool) → AllGood (outer_frames image place a.caller more).frames
        → AllGood (cond b (end_of_frames LeavesCleanup) (activation_frames (outer_frames image place a.caller more) (site_of (registers_of c)) (registers_of c) (entry_contents_at image (site_of (registers_of c))))).frames
    go true h = tt
    go false h = good_framed image (outer_frames image place a.caller more) (site_of (registers_of c)) (registers_of c) (omega arith) h

pub small_next : (before : List (Result Desc DescFault)) (d : Desc) (after : List (Result Desc DescFault)) → AreSmall (before ++ Ok d ∷ after) → (d.at < 2 ^ 32) × (d.next < 2 ^ 32)
small_next [] d after h = (h.0, h.1)
small_next (Ok x ∷ before) d after h = small_next before d after h.2
small_next (Err fault ∷ before) d after h = small_next before d after h

-- ---- a landing

module _ (x : Accepted) (is : IsProgram x) (s : Recorded) (k : Keeps x s) (site : ℕ) (low : site < 2 ^ 32) (throws : ThrowsAt x s site) (m : Meeting) (b : Barrier)
    (search : phase1 m (recorded_frames x is s k site throws (first_place s.cleanups)) ≡ found.Barrier b) where
  abbrev there : LandsIn (goal_of b) 0 s.home.1 (reg_in s SP) (recorded_frames x is s k site throws None).frames (s.first ∷ s.outer) (phase2 (goal_of b) 0 (recorded_frames x is s k site throws None))
  there = throw_lands x is s k site throws m b search

  good : Good there.frame
  good =
      good_at there.inner there.frame there.outer (subst AllGood there.frames
      (good_framed x.image (outer_frames x.image None s.first.caller s.outer) site (all_of s.regs) low (good_outside x.image None s.first.caller s.outer)))

  small_sp : there.frame.sp < 2 ^ 32
  small_sp = let a = there.under in let h = k.corresponds.map.home.high in omega (arith, a, h)

  register_sp : slice_index there.frame.r SP ≡ there.frame.sp
  register_sp = there.fit.1

  -- what phase 2 enters leaves no slot of those that it cuts, and gives a cleanup words
  pub throw_lands_there : Lands s there.cut (phase2 (goal_of b) 0 (recorded_frames x is s k site throws None))
  throw_lands_there = go (phase2 (goal_of b) 0 (recorded_frames x is s k site throws None)) there.of
    where
      at_sp : (r : List ℕ) → r ≡ there.frame.r → AreBelow s there.cut (slice_index r SP)
      at_sp r e = subst (λ n. AreBelow s there.cut n) (sym (ap (λ (q : List ℕ). slice_index q SP) e ∙ register_sp)) (throw_cuts x is s k site throws m b search)

      go : (e : Entered) → OfFrame (goal_of b) there.frame e → Lands s there.cut e
      go (enters.Cleanup vrs pad next at) h =
          let c = h.2 in
          let small = small_next c.before c.desc c.after (subst AreSmall c.items good.0) in
          let sp : slice_index vrs.r SP ≡ there.frame.sp = ap (λ v. slice_index v.r SP) h.0 ∙ register_sp in
          let place = h.1 in
          let later = c.later in
          let next_small = small.1 in
          let site_small = good.1 in
          let sp_small = small_sp in
          (at_sp vrs.r (ap (λ v. v.r) h.0), omega (arith, sp, sp_small), omega (arith, later, next_small), omega (arith, place, site_small))
      go (enters.Catch vrs pad) h = at_sp vrs.r (ap (λ v. v.r) h.0)
      go (enters.Spec vrs pad) h = at_sp vrs.r (ap (λ v. v.r) h.0)
      go enters.Unexpected h = tt
      go (enters.Terminate why) h = tt
