-- Tags that are added one after the other.
use Rattle.std.specs.Prelude.{All}
use Rattle.std.proofs.Common.{◌≡◌, ℕ, zero, suc, ◌-◌, ◌<◌, List, [], ◌∷◌, ◌++◌, refl, arith}
use Rattle.std.proofs.lemmas.List.Elements.{All-push}
use Rattle.thread_schedule.specs.declared.tags.TheConstants.{TAGS}
use Rattle.eh_threads.specs.Tags.{with_tag, with_tags}

pub one_tag : (thread n : ℕ) (tags : List ℕ) → 0 < n → with_tags thread n tags ≡ with_tags thread (n - 1) (with_tag thread tags)
one_tag thread zero tags h = absurd (omega arith)
one_tag thread (suc n) tags h = let e : suc n - 1 ≡ n = omega arith in rw e refl

-- one tag more that is a digit
pub tag_fits : (tags : List ℕ) (thread : ℕ) → All (λ (tag : ℕ). tag < TAGS) tags → thread < TAGS → All (λ (tag : ℕ). tag < TAGS) (tags ++ thread ∷ [])
tag_fits tags thread h fits = All-push (λ (tag : ℕ). tag < TAGS) tags thread h fits
