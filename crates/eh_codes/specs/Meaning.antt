-- What the unwinding instructions do (IHI 0038, "Frame unwinding instructions").
use Rattle.std.specs.Prelude.{ℕ, ◌+◌, ◌-◌, ◌*◌, ◌==◌, List, [], ◌∷◌, ◌++◌, filter}
use Rattle.std.specs.Int.{bit_at}
use Rattle.std.specs.List.{range_with_len}
use Rattle.eh_codes.specs.declared.code.UnwindCode.{UnwindCode}
use Rattle.eh_codes.specs.declared.code.UnwindCode.TheVariants.{Raise, Lower, Refuse, PopMask, Restore, PopRange, PopRangeAndLr, Finish, PopLow, RaiseLong}
use Rattle.eh_codes.specs.declared.code.TheConstants.{LONG_LEAST}

-- The effect of an instruction. The virtual stack pointer rises or falls by a number of bytes; or registers are popped,
-- in this order, and it moves past them; or it is set from a register; or unwinding is refused; or the instructions
-- end.
pub data Effect : Type 0 where
  Rises : (by : ℕ) → Effect
  Falls : (by : ℕ) → Effect
  Pops : (registers : List ℕ) → Effect
  Takes : (register : ℕ) → Effect
  Refuses : Effect
  Finishes : Effect

-- the registers of a mask whose bit 0 stands for the register `least`, the lowest first
abbrev pub registers_of_mask : ℕ → ℕ → ℕ → List ℕ
registers_of_mask least width mask = filter (λ register. bit_at mask (register - least) == 1) (range_with_len least width)

abbrev pub effect : UnwindCode → Effect
effect (Raise words) = Rises (words * 4 + 4)
effect (Lower words) = Falls (words * 4 + 4)
effect Refuse = Refuses
effect (PopMask mask) = Pops (registers_of_mask 4 12 mask)
effect (Restore register) = Takes register
effect (PopRange last) = Pops (range_with_len 4 (last + 1))
effect (PopRangeAndLr last) = Pops (range_with_len 4 (last + 1) ++ 14 ∷ [])
effect Finish = Finishes
effect (PopLow mask) = Pops (registers_of_mask 0 4 mask)
effect (RaiseLong words) = Rises (LONG_LEAST + words * 4)
