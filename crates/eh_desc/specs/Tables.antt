-- A table as contracts see it.
use Rattle.std.specs.Prelude.{ℕ, ◌+◌, ◌/◌, ◌%◌, ◌^◌, if◌then◌else◌, Option, Some, option_map}
use Rattle.eh_desc.specs.declared.descriptor.Table.{Table}
use Rattle.eh_desc.specs.declared.descriptor.Scope.{Scope}
use Rattle.eh_desc.specs.Grammar.{Form, word_at}

abbrev pub form : Table → Form
form t = record { bytes = t.bytes.now; address = t.address; start = t.start; wide = t.wide }

-- the scope whose first word stands at a place
abbrev pub scope_at : Form → ℕ → ℕ → Option Scope
scope_at t place first =
    if t.wide then option_map (λ offset. record { length = first; offset = offset; place = place + 8 }) (word_at t (place + 4))
    else Some (record { length = first % 2 ^ 16; offset = first / 2 ^ 16; place = place + 4 })
