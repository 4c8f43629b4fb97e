-- One descriptor more.
use Rattle.std.proofs.Common.{◌≡◌, ℕ, ◌+◌, ◌%◌, ◌^◌, ◌<◌, List, ◌++◌, length, get_or, drop, append_assoc}
use Rattle.std.proofs.lemmas.List.{at_drop_more}
use Rattle.gnu_compact.specs.declared.descriptor.OwnDescriptor.{OwnDescriptor}
use Rattle.gnu_compact.specs.Descriptors.{kind_size, descriptor_bytes, descriptors_bytes}

pub descriptors_more : (place : ℕ) (ds : List OwnDescriptor) (i : ℕ) (d : OwnDescriptor) → i < length ds
    → descriptors_bytes place (drop i ds)
    ≡ descriptor_bytes place (get_or ds i d) ++ descriptors_bytes ((place + kind_size (get_or ds i d).kind) % 2 ^ 32) (drop (i + 1) ds)
descriptors_more place ds i d h = at_drop_more (descriptors_bytes place) ds i d h

pub ruleset steps = (descriptors_more, append_assoc)
