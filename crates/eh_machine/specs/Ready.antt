-- An image with its decoded instructions, and the memories in which confirmed ones aren't read again.
use Rattle.eh_bus.specs.Memory.{Memory}
use Rattle.frame_check.specs.Accepts.{Accepted}
use Rattle.eh_machine.specs.Cached.{IsConfirmed}
use Rattle.eh_machine.specs.declared.decode_cache.DecodeCache.{DecodeCache}

pub record CachedImage : Type 0 where
  pub image : Accepted
  pub cache : DecodeCache

-- what was confirmed stands fast in this memory, and so in each with the same map
abbrev pub IsReady : Memory → CachedImage → Type 0
IsReady m d = IsConfirmed m d.cache
