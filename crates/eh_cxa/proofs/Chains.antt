-- Chains of control blocks, and what a call does to one.
use Rattle.std.proofs.Common.{◌≡◌, ℕ, ◌<◌, inl, inr, List, [], ◌∷◌, Option, Some, None, refl, sym, ◌∙◌}
use Rattle.eh_bus.specs.Lists.{Has}
use Rattle.eh_cxa.specs.declared.layout.TheConstants.{SLOTS}
use Rattle.eh_cxa.specs.Words.{block_slot}
use Rattle.eh_cxa.specs.Words.{chain_word, word_if_block}
use Rattle.eh_cxa.specs.Stands.{Chain}
use Rattle.eh_cxa.proofs.Pools.{slot_small}

-- only the slot that the head names counts
pub chain_head : (next : ℕ → ℕ) (h k : ℕ) (xs : List ℕ) → block_slot k ≡ block_slot h → Chain next h xs → Chain next k xs
chain_head next h k [] e c = e ∙ c
chain_head next h k (x ∷ xs) e c = (e ∙ c.0, c.1)

-- and only the links of the slots that it runs through
pub chain_same : (next next' : ℕ → ℕ) (h : ℕ) (xs : List ℕ) → ((s : ℕ) → s < SLOTS → Has xs s → next' s ≡ next s) → Chain next h xs → Chain next' h xs
chain_same next next' h [] e c = c
chain_same next next' h (x ∷ xs) e c =
    let same : next' x ≡ next x = e x (slot_small h x c.0) (inl refl) in
    (c.0, rw same (chain_same next next' (next x) xs (λ s l p. e s l (inr p)) c.1))

pub chain_small : (next : ℕ → ℕ) (h : ℕ) (xs : List ℕ) (s : ℕ) → Chain next h xs → Has xs s → s < SLOTS
chain_small next h [] s c p = absurd p
chain_small next h (x ∷ xs) s c (inl e) = let l = slot_small h x c.0 in rw (← e) l
chain_small next h (x ∷ xs) s c (inr p) = chain_small next (next x) xs s c.1 p

-- a link that is no control block counts as 0
pub block_slot_chained : (k : ℕ) → block_slot (chain_word k) ≡ block_slot k
block_slot_chained k = by_cases (block_slot k) refl
  where
    by_cases : (o : Option ℕ) → block_slot k ≡ o → block_slot (word_if_block k o) ≡ block_slot k
    by_cases (Some s) e = refl
    by_cases None e = Rattle.eh_cxa.proofs.Pools.block_slot_zero ∙ sym e

pub chain_pop : (next : ℕ → ℕ) (k : ℕ) (xs : List ℕ) → Chain next k xs → Chain next (chain_word k) xs
chain_pop next k xs c = chain_head next k (chain_word k) xs (block_slot_chained k) c
