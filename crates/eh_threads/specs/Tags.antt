-- The thread of each event that is kept (docs/guide/walks-and-threads.md, "Ends and runs").
use Rattle.std.specs.Prelude.{ℕ, zero, suc, ◌-◌, nat_lt, List, [], ◌∷◌, ◌++◌, length, if◌then◌else◌}
use Rattle.eh_trace.specs.declared.events.TheConstants.{MAX_KEPT}

-- adds a tag, unless as many as events are ever kept are there
abbrev pub with_tag : ℕ → List ℕ → List ℕ
with_tag thread tags = if nat_lt (length tags) MAX_KEPT then tags ++ thread ∷ [] else tags

abbrev pub with_tags : ℕ → ℕ → List ℕ → List ℕ
with_tags thread zero tags = tags
with_tags thread (suc n) tags = with_tags thread n (with_tag thread tags)

-- the events that have no tag yet get the thread's
abbrev pub tags_up_to : ℕ → ℕ → List ℕ → List ℕ
tags_up_to thread kept tags = with_tags thread (kept - length tags) tags
