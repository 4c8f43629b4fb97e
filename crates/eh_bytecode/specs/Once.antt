-- The registers that unwind instructions pop, and that they pop none twice.
use Rattle.std.specs.Prelude.{ℕ, ◌==◌, List, [], ◌∷◌, ◌++◌}
use Rattle.std.specs.List.{IsDistinct}
use Rattle.eh_codes.specs.Cut.{Item, Is, Bad}
use Rattle.eh_codes.specs.Meaning.{Effect, Rises, Falls, Pops, Takes, Refuses, Finishes, effect}

-- the registers that an effect pops, before those that the instructions after it pop; refusing and finishing end the instructions
abbrev pub with_popped_first : Effect → List ℕ → List ℕ
with_popped_first (Rises by) more = more
with_popped_first (Falls by) more = more
with_popped_first (Pops registers) more = registers ++ more
with_popped_first (Takes register) more = more
with_popped_first Refuses more = []
with_popped_first Finishes more = []

-- the registers that instructions pop before they end, in the order of popping
abbrev pub popped_registers : List Item → List ℕ
popped_registers [] = []
popped_registers (Bad place ∷ _) = []
popped_registers (Is code ∷ more) = with_popped_first (effect code) (popped_registers more)

-- none of them twice
abbrev pub PopsOnce : List Item → Type 0
PopsOnce items = IsDistinct (λ j k. j == k) (popped_registers items)
