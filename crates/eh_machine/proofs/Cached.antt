-- What a decode cache has of an address is what is fetched there, where its halfwords stand.
use Rattle.std.proofs.Common.{◌≡◌, ℕ, ◌<◌, Bool, List, length, true, slice_index_or, slice_set, sym, subst, ◌∙◌, inl, inr}
use Rattle.std.proofs.lemmas.Bool.{cases_eq}
use Rattle.std.proofs.lemmas.List.{get_or-set_same, get_or-set_other}
use Rattle.eh_bus.specs.Memory.{Memory}
use Rattle.thumb_core.specs.declared.halfwords.Halfwords.{Halfwords}
use Rattle.thumb_core.specs.Standing.{HasHalfwords}
use Rattle.thumb_core.proofs.Standing.{is_pair, by_halfwords}
use Rattle.sim_machines.specs.Program.{Program, profile_in}
use Rattle.eh_machine.specs.declared.pass.CheckedInstr.{CheckedInstr}
use Rattle.eh_machine.specs.declared.decode_cache.TheConstants.{LINES}
use Rattle.eh_machine.specs.declared.decode_cache.CacheLine.{CacheLine}
use Rattle.eh_machine.specs.Passes.{HasRoles, IsFetched}
use Rattle.eh_machine.specs.Cached.{IsLine, IsOfLine}

-- ---- a line

pub is_fetched : (p : Program) (m : Memory) (a : ℕ) (line : CacheLine) → IsOfLine p line → line.address ≡ a → HasHalfwords m a line.halfwords → IsFetched p a m line.fetched
is_fetched p m a line of same stand = record {
  there = by_halfwords (profile_in p) m a line.halfwords stand ∙ of.decoded;
  range = of.range;
  roles = subst (λ (x : ℕ). HasRoles p x line.fetched) same of.roles;
}

pub is_of_line : (p : Program) (m : Memory) (a : ℕ) (h : Halfwords) (at : CheckedInstr) (round : ℕ) (begins : Bool) → IsFetched p a m at → begins ≡ (p.look a).is_function → HasHalfwords m a h
    → IsLine p (record { address = a; halfwords = h; fetched = at; confirmed = round; is_kept = true; begins = begins })
is_of_line p m a h at round begins is told stand = λ e. record {
  pair = is_pair m a h stand;
  decoded = sym (by_halfwords (profile_in p) m a h stand) ∙ is.there;
  range = is.range;
  roles = is.roles;
  begins = told;
}

pub set_line : (p : Program) (lines : List CacheLine) (n : ℕ) (line : CacheLine) → n < length lines → ((k : ℕ) (d : CacheLine) → k < LINES → IsLine p (slice_index_or lines k d)) → IsLine p line
    → (k : ℕ) (d : CacheLine) → k < LINES → IsLine p (slice_index_or (slice_set lines n line) k d)
set_line p lines n line within old of k d below = elim (cases_eq k n) [
  | inl same ↦ subst (λ (j : ℕ). IsLine p (slice_index_or (slice_set lines n line) j d)) (sym same)
      (subst (λ (o : CacheLine). IsLine p o) (sym (get_or-set_same lines n line d within)) of)
  | inr other ↦ subst (λ (o : CacheLine). IsLine p o) (sym (get_or-set_other lines n k line d other)) (old k d below)
]
