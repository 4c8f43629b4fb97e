-- What a decode cache has of an address is the instruction there, where its halfwords stand.
use Rattle.std.proofs.Common.{◌≡◌, ℕ, ◌<◌, List, length, Option, Some, None, slice_index_or, slice_set, sym, subst, ◌∙◌, inl, inr}
use Rattle.std.proofs.lemmas.Bool.{cases_eq}
use Rattle.std.proofs.lemmas.List.{get_or-set_same, get_or-set_other}
use Rattle.eh_bus.specs.Memory.{Memory}
use Rattle.thumb_isa.specs.declared.instr.Instr.{Instr}
use Rattle.thumb_isa.specs.declared.profile.Profile.TheVariants.{One}
use Rattle.thumb_core.specs.Outcome.{Outcome}
use Rattle.thumb_core.specs.Step.{effect, step_of}
use Rattle.thumb_core.specs.declared.regs.Regs.{Regs}
use Rattle.thumb_ahead.proofs.Stored.{step_is}
use Rattle.thumb_core.specs.declared.halfwords.Halfwords.{Halfwords}
use Rattle.thumb_core.specs.Standing.{HasHalfwords}
use Rattle.thumb_core.proofs.Standing.{is_pair, by_halfwords}
use Rattle.run_flat.specs.declared.decode_cache.TheConstants.{LINES}
use Rattle.run_flat.specs.declared.decode_cache.RawCacheLine.{RawCacheLine}
use Rattle.run_flat.specs.Cached.{IsInstrAt, IsLine, IsOfLine}

pub is_there : (m : Memory) (a : ℕ) (line : RawCacheLine) → IsOfLine line → HasHalfwords m a line.halfwords → IsInstrAt m a line.instr line.size
is_there m a line of stand = record { there = by_halfwords One m a line.halfwords stand ∙ of.decoded; range = of.range }

pub is_of_line : (m : Memory) (a : ℕ) (h : Halfwords) (i : Instr) (size : ℕ) → IsInstrAt m a i size → HasHalfwords m a h
    → IsOfLine (record { halfwords = h; instr = i; size = size })
is_of_line m a h i size is stand = record {
  pair = is_pair m a h stand;
  decoded = sym (by_halfwords One m a h stand) ∙ is.there;
  range = is.range;
}

pub set_line : (lines : List (Option RawCacheLine)) (n : ℕ) (line : RawCacheLine) → n < length lines → ((k : ℕ) → k < LINES → IsLine (slice_index_or lines k None)) → IsOfLine line
    → (k : ℕ) → k < LINES → IsLine (slice_index_or (slice_set lines n (Some line)) k None)
set_line lines n line within old of k below = elim (cases_eq k n) [
  | inl same ↦ subst (λ (j : ℕ). IsLine (slice_index_or (slice_set lines n (Some line)) j None)) (sym same)
      (subst (λ (o : Option RawCacheLine). IsLine o) (sym (get_or-set_same lines n (Some line) None within)) of)
  | inr other ↦ subst (λ (o : Option RawCacheLine). IsLine o) (sym (get_or-set_other lines n k (Some line) None other)) (old k below)
]

-- its effect is a step
pub is_step : (regs : Regs) (m : Memory) (i : Instr) (size : ℕ) (o : Outcome) → IsInstrAt m regs.pc i size → o ≡ effect i size regs m → o ≡ step_of regs m
is_step regs m i size o at e = e ∙ sym (step_is One regs m i size at.there)
