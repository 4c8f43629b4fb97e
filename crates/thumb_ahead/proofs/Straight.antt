-- What writes sp by a push alone and takes no branch, once it is done, goes on to the next instruction and leaves sp, or lowers it by the words
-- that it pushes.
use Rattle.std.proofs.Common.{◌≡◌, ◌≢◌, ℕ, ℤ, ◌+◌, ◌-◌, ◌*◌, ◌%◌, ◌^◌, ◌<◌, ◌≤◌, ◌==◌, Bool, true, false, not, cond, List, length, slice_index, refl, sym, ap, subst, arith, inl, inr}
use Rattle.std.proofs.lemmas.List.{get_or-set_same, get_or-set_other}
use Rattle.eh_bus.specs.Memory.{Memory}
use Rattle.thumb_isa.specs.Range.{InRange}
use Rattle.thumb_isa.specs.declared.instr.Instr.{Instr}
use Rattle.thumb_isa.specs.Nature.{BranchesTo, BranchesIf, BranchesOn, Calls, ReturnsBy, Gates, Nature, Works, Idles, Derives, AddsHigh, MovesHigh, Transfers, StoresList, LoadsList, RaisesSp, LowersSp, PushesList, PopsList, Goes, nature, derived_register, transfer_register, WritesWell}
use Rattle.thumb_isa.proofs.Natures.{all_write_well}
use Rattle.thumb_core.specs.declared.regs.TheConstants.{SP, PC}
use Rattle.thumb_core.specs.declared.regs.Regs.{Regs}
use Rattle.thumb_core.specs.declared.regs.Stepped.{Stepped}
use Rattle.thumb_core.specs.declared.regs.Stepped.TheVariants.{Done, Call, Return, Gate, Trap}
use Rattle.thumb_core.specs.Registers.{reg, even, write_register, with_reg, with_pc, with_next, word_in}
use Rattle.thumb_core.specs.Branch.{passes_condition, takes_branch, write_high}
use Rattle.thumb_core.specs.Words.{registers_of_list}
use Rattle.thumb_core.specs.Outcome.{Outcome}
use Rattle.thumb_core.specs.Lists.{bytes_of}
use Rattle.thumb_core.specs.Step.{effect}
use Rattle.thumb_core.specs.NatureLaws as left
use Rattle.thumb_core.specs.NatureLaws.{UnlessTrap, Stays, Puts, PutsAtMost, PutsHigh, BranchesWhere, Fits}
use Rattle.thumb_core.proofs.Natures.{fits}
use Rattle.thumb_ahead.specs.Ahead.{nature_falls_through, nature_branches, nature_pushed_registers, is_fall_through, branches, pushed_registers}
use Rattle.thumb_ahead.specs.UndoRecord.{lowest}
use Rattle.thumb_ahead.proofs.Stored.{OnGo, AreWords}

-- what was done, where n words are pushed
pub record GoesOn (n size : ℕ) (regs : Regs) (what : Stepped) (after : Regs) : Type 0 where
  pub done : what ≡ Done
  pub pc : after.pc ≡ even ((regs.pc + size) % 2 ^ 32)
  pub low : lowest (reg regs SP) n ≤ reg after SP
  pub high : reg after SP ≤ reg regs SP

abbrev pub Onward : ℕ → ℕ → Regs → Outcome → Type 0
Onward n size regs o = OnGo o.0 (GoesOn n size regs o.0 o.1)

beside : (regs : Regs) (k x : ℕ) → k ≢ 13 → reg (with_reg regs k x) SP ≡ reg regs SP
beside regs k x apart = get_or-set_other regs.r k 13 (word_in k x) 0 (omega (arith, apart))

of_parts : (n size : ℕ) (regs : Regs) (o : Outcome) (what : Stepped) (after : Regs) → o.0 ≡ what → o.1 ≡ after → OnGo what (GoesOn n size regs what after) → Onward n size regs o
of_parts n size regs o what after w a x =
    subst (λ (v : Stepped). OnGo v (GoesOn n size regs v o.1)) (sym w) (subst (λ (r : Regs). OnGo what (GoesOn n size regs what r)) (sym a) x)

-- ---- what a nature says of an outcome

on_goes : (r : List ℕ) (n size : ℕ) (regs : Regs) (o : Outcome) → lowest (reg regs SP) n ≤ slice_index r SP → slice_index r SP ≤ reg regs SP → left.GoesOn r size regs o → Onward n size regs o
on_goes r n size regs o low high g =
    let sp : reg o.1 SP ≡ slice_index r SP = ap (λ (x : List ℕ). slice_index x SP) g.registers in
    of_parts n size regs o Done o.1 g.done refl (record { done = refl; pc = g.pc; low = omega (arith, low, sp); high = omega (arith, high, sp) })

stays_goes : (size : ℕ) (regs : Regs) (o : Outcome) → Stays size regs o → Onward 0 size regs o
stays_goes size regs o g = on_goes regs.r 0 size regs o (omega arith) (omega arith) g

list_goes : (k x size : ℕ) (regs : Regs) (o : Outcome) → k ≢ 13 → left.GoesOn (write_register regs.r k x) size regs o → Onward 0 size regs o
list_goes k x size regs o apart g = let same = beside regs k x apart in on_goes (write_register regs.r k x) 0 size regs o (omega (arith, same)) (omega (arith, same)) g

puts_goes : (d size : ℕ) (regs : Regs) (o : Outcome) → d ≢ 13 → Puts d size regs o → Onward 0 size regs o
puts_goes d size regs o apart p = list_goes d p.value size regs o apart p.on

at_most_goes : (d size : ℕ) (regs : Regs) (o : Outcome) → d < 8 → PutsAtMost d size regs o → Onward 0 size regs o
at_most_goes d size regs o low (inl p) = puts_goes d size regs o (λ e. omega (arith, low, e)) p
at_most_goes d size regs o low (inr g) = stays_goes size regs o g

unless_trap : (what : Stepped) (P Q : Type 0) → (P → OnGo what Q) → UnlessTrap what P → OnGo what Q
unless_trap Done P Q f p = f p
unless_trap (Call target ret) P Q f p = f p
unless_trap (Return to) P Q f p = f p
unless_trap (Gate number) P Q f p = f p
unless_trap (Trap trap) P Q f p = tt

-- sp after a push of n words, which there is room for
sp_after : (regs : Regs) (n : ℕ) → length regs.r ≡ 15 → reg regs SP < 2 ^ 32 → 4 * n ≤ reg regs SP
    → reg (with_reg regs SP ((reg regs SP + (2 ^ 32 - 4 * n)) % 2 ^ 32)) SP ≡ lowest (reg regs SP) n
sp_after regs n count small room =
    let a = (reg regs SP + (2 ^ 32 - 4 * n)) % 2 ^ 32 in
    let read : reg (with_reg regs SP a) SP ≡ word_in SP a = get_or-set_same regs.r 13 (word_in SP a) 0 (omega (arith, count)) in
    let is : a ≡ reg regs SP - 4 * n = omega (arith, small, room) in
    rw (read, is) (omega (arith, small))

push_goes : (list size : ℕ) (regs : Regs) (o : Outcome) → length regs.r ≡ 15 → AreWords regs → 4 * length (registers_of_list list) ≤ reg regs SP
    → left.GoesOn (write_register regs.r SP ((reg regs SP + (2 ^ 32 - bytes_of list)) % 2 ^ 32)) size regs o → Onward (length (registers_of_list list)) size regs o
push_goes list size regs o count small room g =
    let n = length (registers_of_list list) in
    let sp = sp_after regs n count (small 13) room in
    on_goes (write_register regs.r SP ((reg regs SP + (2 ^ 32 - bytes_of list)) % 2 ^ 32)) n size regs o (omega (arith, sp)) (omega (arith, sp)) g

high_goes : (d size : ℕ) (regs : Regs) (o : Outcome) → not (d == SP) ≡ true → (d == PC) ≡ false → PutsHigh d size regs o → Onward 0 size regs o
high_goes d size regs o fall_through taken p = of_parts 0 size regs o Done (write_high d p.value size regs) p.done p.leaves (go (d == SP) (d == PC) refl fall_through taken)
  where
    go : (a b : Bool) → (d == SP) ≡ a → not a ≡ true → b ≡ false → GoesOn 0 size regs Done (cond b (with_pc regs p.value) (with_next size (with_reg regs d p.value)))
    go true b e f h = absurd (cc)
    go false true e f h = absurd (cc)
    go false false e f h =
        let apart : d ≢ 13 = λ same. let g : true ≡ false = subst (λ (k : ℕ). (k == SP) ≡ false) same e in cc in
        let same = beside regs d p.value apart in
        record { done = refl; pc = refl; low = omega (arith, same); high = omega (arith, same) }

branch_goes : (b : Bool) (off : ℤ) (size : ℕ) (regs : Regs) (o : Outcome) → b ≡ false → BranchesWhere b off size regs o → Onward 0 size regs o
branch_goes true off size regs o e w = absurd (cc)
branch_goes false off size regs o e w = of_parts 0 size regs o Done (with_next size regs) w.done w.leaves (record { done = refl; pc = refl; low = omega arith; high = omega arith })

-- ---- every nature of these

nature_goes : (n : Nature) (size : ℕ) (regs : Regs) (o : Outcome) → Fits n size regs o → nature_falls_through n ≡ true → nature_branches n regs ≡ false → WritesWell n
    → length regs.r ≡ 15 → AreWords regs → 4 * length (nature_pushed_registers n) ≤ reg regs SP → Onward (length (nature_pushed_registers n)) size regs o
nature_goes (Works d) size regs o f fall_through taken w count small room = puts_goes d size regs o w.1 f
nature_goes Idles size regs o f fall_through taken w count small room = stays_goes size regs o f
nature_goes (Derives v) size regs o f fall_through taken w count small room = at_most_goes (derived_register v) size regs o w f
nature_goes (AddsHigh d k) size regs o f fall_through taken w count small room = high_goes d size regs o fall_through taken f
nature_goes (MovesHigh d k) size regs o f fall_through taken w count small room = high_goes d size regs o fall_through taken f
nature_goes (Transfers t) size regs o f fall_through taken w count small room =
    unless_trap o.0 (PutsAtMost (transfer_register t) size regs o) (GoesOn 0 size regs o.0 o.1) (at_most_goes (transfer_register t) size regs o w) f
nature_goes (StoresList k list) size regs o f fall_through taken w count small room =
    unless_trap o.0 (left.GoesOn (write_register regs.r k (reg regs k + bytes_of list)) size regs o) (GoesOn 0 size regs o.0 o.1)
    (list_goes k (reg regs k + bytes_of list) size regs o (λ e. omega (arith, w, e))) f
nature_goes (PushesList list) size regs o f fall_through taken w count small room =
    unless_trap o.0 (left.GoesOn (write_register regs.r SP ((reg regs SP + (2 ^ 32 - bytes_of list)) % 2 ^ 32)) size regs o) (GoesOn (length (registers_of_list list)) size regs o.0 o.1)
    (push_goes list size regs o count small room) f
nature_goes (LoadsList k list) size regs o f fall_through taken w count small room = absurd (cc)
nature_goes (RaisesSp off) size regs o f fall_through taken w count small room = absurd (cc)
nature_goes (LowersSp off) size regs o f fall_through taken w count small room = absurd (cc)
nature_goes (PopsList list) size regs o f fall_through taken w count small room = absurd (cc)
nature_goes (Goes (BranchesTo off)) size regs o f fall_through taken w count small room = absurd (cc)
nature_goes (Goes (BranchesIf c off)) size regs o f fall_through taken w count small room = branch_goes (passes_condition c regs) off size regs o taken f
nature_goes (Goes (BranchesOn nonzero k off)) size regs o f fall_through taken w count small room = branch_goes (takes_branch nonzero (reg regs k)) off size regs o taken f
nature_goes (Goes (Calls off)) size regs o f fall_through taken w count small room = absurd (cc)
nature_goes (Goes (ReturnsBy k)) size regs o f fall_through taken w count small room = absurd (cc)
nature_goes (Goes (Gates number)) size regs o f fall_through taken w count small room = absurd (cc)

pub effect_goes : (i : Instr) (size : ℕ) (regs : Regs) (m : Memory) → is_fall_through i ≡ true → branches i regs ≡ false → InRange i → length regs.r ≡ 15 → AreWords regs
    → 4 * length (pushed_registers i) ≤ reg regs SP → Onward (length (pushed_registers i)) size regs (effect i size regs m)
effect_goes i size regs m fall_through taken range count small room =
    nature_goes (nature i) size regs (effect i size regs m) (fits i size regs m) fall_through taken (all_write_well i range) count small room
