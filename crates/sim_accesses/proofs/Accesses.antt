-- Loads into low registers, and stores: both machines do the same, and what every event keeps is kept. A store meets no slot.
use Rattle.std.proofs.Common.{◌≡◌, ℕ, List, [], ◌∷◌, refl, ◌==◌, false, subst, arith, ◌||◌, Bool, true, cond, filter, ap, ◌∙◌, ◌+◌, ◌%◌, ◌^◌, get_or, Result, Ok, Err, sym, zero, suc, ◌-◌, ◌<◌, ◌≤◌, ◌⊎◌, inl, inr, nat_lt, length, pos, negsuc}
use Rattle.std.specs.Prelude.{Contains, take}
use Rattle.std.specs.List.{list_any}
use Rattle.std.proofs.lemmas.Bool.{eqb-true, cases_lt, le-ltb}
use Rattle.std.specs.Int.{bit_at}
use Rattle.std.proofs.lemmas.Bool.Decides.{nat_tests}
use Rattle.std.proofs.lemmas.List.{get_or-set_other, get_or-take, get_or_past, get_or_append_left, length-take}
use Rattle.std.proofs.lemmas.Nat.Bits.{bit_at_above}
use Rattle.frame_facts.specs.declared.facts.Fact.{Fact}
use Rattle.frame_facts.specs.Facts.{forget_register, forget_registers, with_source}
use Rattle.eh_bus.specs.Segment.{Segment}
use Rattle.thumb_core.specs.Registers.{reg, base, write_register, word_in, all_of, with_reg, with_next, with_all}
use Rattle.thumb_core.specs.declared.regs.Regs.{Regs}
use Rattle.frame_facts.specs.declared.saves.Prologue.{Prologue}
use Rattle.frame_facts.specs.Saves.{saves_of, stack_word}
use Rattle.frame_facts.proofs.Described.{clobbering_described}
use Rattle.sim_machines.specs.Activations.{Activation, Recorded, reg_in, memory_of}
use Rattle.thumb_core.specs.Words.{numbers, registers_of_list, loads_from, load_words, ◌>>=◌}
use Rattle.eh_bus.specs.Memory.{load_number, Memory, load, store, store_run}
use Rattle.eh_bus.specs.declared.fault.BusFault.{BusFault}
use Rattle.frame_facts.specs.declared.cause.FrameCause.{FrameCause}
use Rattle.eh_bus.proofs.MapLaws.{store_is_map, run_is_map}
use Rattle.thumb_isa.specs.declared.instr.Instr.{Instr}
use Rattle.thumb_core.specs.Access.{load_result, store_end, reg_access, imm_access}
use Rattle.thumb_core.specs.Lists.{load_list, ldm_end, bytes_of, words_of}
use Rattle.thumb_core.specs.Outcome.{Outcome as Stepping, with_memory}
use Rattle.thumb_core.specs.declared.regs.TheConstants.{SP}
use Rattle.thumb_core.specs.declared.regs.Stepped.TheVariants.{Done}
use Rattle.frame_facts.specs.declared.facts.Source.TheVariants.{Other}
use Rattle.frame_facts.specs.After.{after_of}
use Rattle.frame_facts.specs.Machine.{Means}
use Rattle.frame_code.specs.declared.standing.Standing.TheVariants.{Instruction}
use Rattle.frame_graph.specs.Places.{address_of, standing_at}
use Rattle.frame_check.specs.Accepts.{Accepted}
use Rattle.frame_check.specs.Roots.{flow_graph_of}
use Rattle.thumb_isa.specs.declared.instr.Instr.TheVariants.{LdrLit, MemReg, MemImm, MemSp, Stm, Ldm}
use Rattle.thumb_core.specs.Data.{forward}
use Rattle.sim_relation.specs.Holds.{Holds}
use Rattle.sim_relation.specs.Chain.{code, StandsAt}
use Rattle.sim_relation.specs.Stands.{Keeps, IsProgram, DoesAt, Turns}
use Rattle.sim_accesses.proofs.Callers.{only_callers, word_means, written_holds}
use Rattle.sim_relation.proofs.Goes.{chain_top}
use Rattle.sim_relation.proofs.Moves.{moved_holds}
use Rattle.sim_relation.proofs.Onward.{IsOn, next_pc, next_even, on_turns}
use Rattle.sim_prologue.specs.sim_code.Bounds.{Bounds}
use Rattle.sim_accesses.specs.Events.{IsAccess}

-- ---- registers that a fact clobbers

clobbered_depth : (ks : List ℕ) (f : Fact) → (forget_registers ks f).depth ≡ f.depth
clobbered_depth [] f = refl
clobbered_depth (k ∷ more) f = clobbered_depth more (forget_register k f)

clobbered_kept : (ks : List ℕ) (f : Fact) → (forget_registers ks f).kept ≡ f.kept
clobbered_kept [] f = refl
clobbered_kept (k ∷ more) f = clobbered_kept more (forget_register k f)

pub clobbered_holds : (p : Prologue) (f : Fact) (a : Activation) (segments : List Segment) (regs new : Regs) (ks : List ℕ) → Holds p f a segments regs
    → ((k : ℕ) → list_any (λ j. j == k) ks ≡ false → reg new k ≡ reg regs k) → list_any (λ j. j == 13) ks ≡ false → Holds p (forget_registers ks f) a segments new
clobbered_holds p f a segments regs new ks h same sp = record {
  entry = h.entry;
  saved = h.saved;
  link = h.link;
  describes = clobbering_described h.entry a.caller.sp ks f regs new h.describes same sp;
  lower = omega (arith, h.lower, same 13 sp, clobbered_depth ks f);
  saves = λ v c. let kept = h.saves v (subst (λ n. Contains (take n (saves_of p)) v) (clobbered_kept ks f) c) in
      record { low = kept.low; deep = omega (arith, kept.deep, clobbered_depth ks f); holds = kept.holds; slot = kept.slot };
}

-- ---- register lists

none_listed : (q : ℕ → Bool) (k : ℕ) (xs : List ℕ) → q k ≡ false → list_any (λ j. j == k) (filter q xs) ≡ false
none_listed q k [] e = refl
none_listed q k (j ∷ more) e = go (q j) refl (none_listed q k more e)
  where
    differ : (c : Bool) → (j == k) ≡ c → q j ≡ true → c ≡ false
    differ true h t = absurd (let same : q k ≡ true = subst (λ n. q n ≡ true) (eqb-true j k h) t in cc)
    differ false h t = refl

    go : (b : Bool) → q j ≡ b → list_any (λ j. j == k) (filter q more) ≡ false → list_any (λ j. j == k) (cond b (j ∷ filter q more) (filter q more)) ≡ false
    go true h r = ap (λ b. b || list_any (λ j. j == k) (filter q more)) (differ (j == k) refl h) ∙ r
    go false h r = r

pub not_listed : (mask k : ℕ) → bit_at mask k ≡ 0 → list_any (λ j. j == k) (registers_of_list mask) ≡ false
unfolding registers_of_list
not_listed mask k e = none_listed (λ j. bit_at mask j == 1) k numbers (let b : (bit_at mask k == 1) ≡ false = ap (λ n. n == 1) e in b)

-- words loaded into registers leave the others
pub load_others : (segments : List Segment) (base at : ℕ) (ks r new : List ℕ) → load_words segments base (loads_from at ks) r ≡ Ok new → (k : ℕ) → list_any (λ j. j == k) ks ≡ false
    → get_or new k 0 ≡ get_or r k 0
load_others segments base at [] r new e k n = let same : r ≡ new = cc in ap (λ (l : List ℕ). get_or l k 0) (sym same)
load_others segments base at (j ∷ more) r new e k n = go (load_number 4 segments ((base + at) % 2 ^ 32)) e (λ v f m. load_others segments base (at + 4) more (write_register r j v) new f k m)
  where
    apart : (b : Bool) → (j == k) ≡ b → (b || list_any (λ j. j == k) more) ≡ false → (k ≡ j → ⊥) × (list_any (λ j. j == k) more ≡ false)
    apart true h m = absurd cc
    apart false h m = (λ e. absurd (let t : (j == k) ≡ true = grind (arith, nat_tests) in cc), m)

    go : (o : Result ℕ BusFault) → (o >>= λ v. load_words segments base (loads_from (at + 4) more) (write_register r j v)) ≡ Ok new
        → ((v : ℕ) → load_words segments base (loads_from (at + 4) more) (write_register r j v) ≡ Ok new → list_any (λ j. j == k) more ≡ false → get_or new k 0 ≡ get_or (write_register r j v) k 0)
        → get_or new k 0 ≡ get_or r k 0
    go (Err fault) f later = absurd cc
    go (Ok v) f later = let w = apart (j == k) refl n in later v f w.1 ∙ get_or-set_other r j k (word_in j v) 0 w.0

-- ---- an event

same_ok : (a b : Fact) → ◌≡◌ {A = Result Fact FrameCause} (Ok a) (Ok b) → a ≡ b
same_ok a b e = cc

module _ (x : Accepted) (is : IsProgram x) (s : Recorded) (k : Keeps x s) (at : StandsAt x s.first s.segments s.regs s.regs.pc) (i : Instr) (size : ℕ)
    (stands : standing_at (flow_graph_of x.image at.function) at.place ≡ Instruction i size) where
  abbrev f : Fact
  f = at.fact

  abbrev P : Prologue
  P = (code x at.function at.marks).prologue

  abbrev lowering : Bool
  lowering = (code x at.function at.marks).lowers at.place

  abbrev place : ℕ
  place = address_of (flow_graph_of x.image at.function) at.place

  abbrev pub On : Stepping → Type 0
  On = IsOn x is s k at i size stands

  pub pc_after : (s.regs.pc + size) % 2 ^ 32 - (s.regs.pc + size) % 2 ^ 32 % 2 ≡ s.regs.pc + size
  pc_after = omega (arith, next_pc x is s k at i size stands, next_even x is s k at i size stands)

  pub top : s.first.caller.sp < 2 ^ 32
  top = let home = k.corresponds.map.home in let above = chain_top x s.segments s.home s.first.caller s.outer k.chain in omega (arith, above, home.high)

  -- registers are left, and the memory is as before
  pub plain_on : (regs : Regs) (h : Fact) → after_of P lowering place i f ≡ Ok h → regs.pc ≡ s.regs.pc → Holds P h s.first s.segments (with_next size regs) → On (Done, with_next size regs, memory_of s)
  plain_on regs h e same holds = record {
    map = k.corresponds.map;
    pc = ap (λ n. (n + size) % 2 ^ 32 - (n + size) % 2 ^ 32 % 2) same ∙ pc_after;
    holds = λ r g e'. subst (λ y. Holds P y s.first s.segments (with_next size regs)) (same_ok h g (sym e ∙ e')) holds;
  }

  pub loaded_on : (r : Result ℕ BusFault) (t : ℕ) (h : Fact) → after_of P lowering place i f ≡ Ok h → ((v : ℕ) → r ≡ Ok v → Holds P h s.first s.segments (with_next size (with_reg s.regs t v)))
      → On (with_memory (load_result r t size s.regs) (memory_of s))
  loaded_on (Err fault) t h e g = tt
  loaded_on (Ok v) t h e g = plain_on (with_reg s.regs t v) h e refl (g v refl)

  lost_on : (r : Result ℕ BusFault) (t : ℕ) → t < 8 → after_of P lowering place i f ≡ Ok (forget_register t f) → On (with_memory (load_result r t size s.regs) (memory_of s))
  lost_on r t low e = loaded_on r t (forget_register t f) e (λ v o. written_holds P f s.first s.segments s.regs (with_next size (with_reg s.regs t v)) t (word_in t v) Other at.holds low k.sound.words.count refl tt)

  -- a store
  stored_on : (n a v : ℕ) → after_of P lowering place i f ≡ Ok f → On (store_end (store n (memory_of s) a v) size s.regs s.regs)
  stored_on n a v e = go (store n (memory_of s) a v) refl
    where
      go : (o : Result (Unit {0}) BusFault × Memory) → store n (memory_of s) a v ≡ o → On (store_end o size s.regs s.regs)
      go (Err fault, m) w = tt
      go (Ok tt, m) w = record {
        map = store_is_map n (memory_of s) a v m w k.corresponds.map;
        pc = pc_after;
        holds = λ r g e'. subst (λ y. Holds P y s.first s.segments (with_next size s.regs)) (same_ok f g (sym e ∙ e'))
            (moved_holds P f s.first s.segments s.regs (with_next size s.regs) at.holds (λ j. inr refl) refl);
      }

  -- a run of stores, and a low register written
  run_on : (a n v : ℕ) (ws : List ℕ) → n < 8 → after_of P lowering place i f ≡ Ok (forget_register n f) → On (store_end (store_run (memory_of s) a ws) size s.regs (with_reg s.regs n v))
  run_on a n v ws low e = go (store_run (memory_of s) a ws) refl
    where
      go : (o : Result (Unit {0}) BusFault × Memory) → store_run (memory_of s) a ws ≡ o → On (store_end o size s.regs (with_reg s.regs n v))
      go (Err fault, m) w = tt
      go (Ok tt, m) w = record {
        map = run_is_map (memory_of s) a ws m w k.corresponds.map;
        pc = pc_after;
        holds = λ r g e'. subst (λ y. Holds P y s.first s.segments (with_next size (with_reg s.regs n v))) (same_ok (forget_register n f) g (sym e ∙ e'))
            (written_holds P f s.first s.segments s.regs (with_next size (with_reg s.regs n v)) n (word_in n v) Other at.holds low k.sound.words.count refl tt);
      }

  either : (b : Bool) (y z : Stepping) → On y → On z → On (cond b y z)
  either true y z p q = p
  either false y z p q = q

  -- STR STRH STRB LDRSB LDR LDRH LDRB LDRSH
  reg_on : (op t a : ℕ) → t < 8 → ((b : Bool) → nat_lt op 3 ≡ b → after_of P lowering place i f ≡ Ok (cond b f (forget_register t f))) → On (reg_access op t a size s.regs (memory_of s))
  reg_on op t a low e = go (op == 0) refl (op == 1) refl (op == 2) refl
    where
      stores : nat_lt op 3 ≡ true → (n : ℕ) → On (store_end (store n (memory_of s) a (reg s.regs t % 256 ^ n)) size s.regs s.regs)
      stores h n = stored_on n a (reg s.regs t % 256 ^ n) (e true h)

      loading : nat_lt op 3 ≡ false → (r : Result ℕ BusFault) → On (with_memory (load_result r t size s.regs) (memory_of s))
      loading h r = lost_on r t low (e false h)

      go : (b0 : Bool) → (op == 0) ≡ b0 → (b1 : Bool) → (op == 1) ≡ b1 → (b2 : Bool) → (op == 2) ≡ b2 → On (reg_access op t a size s.regs (memory_of s))
      go true h0 b1 h1 b2 h2 = rw h0 (stores (ap (λ n. nat_lt n 3) (eqb-true op 0 h0)) 4)
      go false h0 true h1 b2 h2 = rw (h0, h1) (stores (ap (λ n. nat_lt n 3) (eqb-true op 1 h1)) 2)
      go false h0 false h1 true h2 = rw (h0, h1, h2) (stores (ap (λ n. nat_lt n 3) (eqb-true op 2 h2)) 1)
      go false h0 false h1 false h2 =
          let none : nat_lt op 3 ≡ false = le-ltb op 3 (high (cases_lt op 3)) in
          rw (h0, h1, h2)
          (either (op == 3) _ _ (loading none _) (either (op == 4) _ _ (loading none _) (either (op == 5) _ _ (loading none _) (either (op == 6) _ _ (loading none _) (loading none _)))))
        where
          high : (op < 3) ⊎ (3 ≤ op) → 3 ≤ op
          high (inl l) = absurd (few op l h0 h1 h2)
            where
              few : (n : ℕ) → n < 3 → (n == 0) ≡ false → (n == 1) ≡ false → (n == 2) ≡ false → ⊥
              few zero l a b c = absurd cc
              few (suc zero) l a b c = absurd cc
              few (suc (suc zero)) l a b c = absurd cc
              few (suc (suc (suc n))) l a b c = absurd (omega (arith, l))
          high (inr l) = l

  -- STR LDR STRB LDRB STRH LDRH
  imm_on : (op t a : ℕ) → op < 6 → t < 8 → ((b : Bool) → ((op == 1) || (op == 3) || (op == 5)) ≡ b → after_of P lowering place i f ≡ Ok (cond b (forget_register t f) f)) → On (imm_access op t a size s.regs (memory_of s))
  imm_on zero t a l low e = stored_on 4 a (reg s.regs t % 256 ^ 4) (e false refl)
  imm_on (suc zero) t a l low e = lost_on (load 4 (memory_of s) a) t low (e true refl)
  imm_on (suc (suc zero)) t a l low e = stored_on 1 a (reg s.regs t % 256 ^ 1) (e false refl)
  imm_on (suc (suc (suc zero))) t a l low e = lost_on (load 1 (memory_of s) a) t low (e true refl)
  imm_on (suc (suc (suc (suc zero)))) t a l low e = stored_on 2 a (reg s.regs t % 256 ^ 2) (e false refl)
  imm_on (suc (suc (suc (suc (suc zero))))) t a l low e = lost_on (load 2 (memory_of s) a) t low (e true refl)
  imm_on (suc (suc (suc (suc (suc (suc op)))))) t a l low e = absurd (omega (arith, l))

  -- a load of a word of the stack
  word_on : (t off : ℕ) → t < 8 → after_of P lowering place i f ≡ Ok (with_source f t (stack_word P f (pos off)))
      → On (with_memory (load_result (load 4 (memory_of s) ((reg_in s SP + off) % 2 ^ 32)) t size s.regs) (memory_of s))
  word_on t off low e = loaded_on (load 4 (memory_of s) ((reg_in s SP + off) % 2 ^ 32)) t (with_source f t (stack_word P f (pos off))) e
      (λ v o. written_holds P f s.first s.segments s.regs (with_next size (with_reg s.regs t v)) t (word_in t v) (stack_word P f (pos off)) at.holds low k.sound.words.count refl
      (subst (λ w. Means at.holds.entry s.first.caller.sp (stack_word P f (pos off)) w) (sym (low_word t v low))
      (word_means P f s.first s.segments s.regs at.holds k.whole (only_callers _ at.marks) top off v o)))
    where
      low_word : (d v : ℕ) → d < 8 → word_in d v ≡ v % 2 ^ 32
      low_word d v l = let no : (d == 13) ≡ false = grind (arith, nat_tests) in ap (λ b. cond b (v % 2 ^ 32 - v % 2 ^ 32 % 4) (v % 2 ^ 32)) no

  -- LDM
  module _ (n list : ℕ) (low : n < 8) (few : list < 2 ^ 8) (e : after_of P lowering place i f ≡ Ok (forget_register n (forget_registers (registers_of_list list) f))) where
    abbrev a : ℕ
    a = reg s.regs n

    module _ (r : List ℕ) (w : load_list list a s.regs (memory_of s) ≡ Ok r) where
      others : (j : ℕ) → list_any (λ m. m == j) (registers_of_list list) ≡ false → get_or (take 15 r) j 0 ≡ get_or s.regs.r j 0
      others j h = elim (cases_lt j 15) [
        | inl l ↦ get_or-take 15 r j 0 l ∙ load_others s.segments a 0 (registers_of_list list) (all_of s.regs) r w j h
            ∙ get_or_append_left s.regs.r (s.regs.pc ∷ []) 0 j (let c = k.sound.words.count in let m : j < length s.regs.r = omega (arith, l, c) in m)
        | inr l ↦ get_or_past (take 15 r) j 0 (omega (arith, length-take 15 r, l)) ∙ sym (get_or_past s.regs.r j 0 (let c = k.sound.words.count in let m : length s.regs.r ≤ j = omega (arith, l, c) in m))
      ]

      first : Holds P (forget_registers (registers_of_list list) f) s.first s.segments (with_next size (with_all s.regs r))
      first = clobbered_holds P f s.first s.segments s.regs (with_next size (with_all s.regs r)) (registers_of_list list) at.holds others (not_listed list 13 (bit_at_above list 8 13 few (omega arith)))

      based : (b : Bool) → Holds P (forget_register n (forget_registers (registers_of_list list) f)) s.first s.segments (with_next size (with_all s.regs (cond b r (write_register r n (a + bytes_of list)))))
      based b = clobbered_holds P (forget_registers (registers_of_list list) f) s.first s.segments (with_next size (with_all s.regs r)) (with_next size (with_all s.regs (cond b r (write_register r n (a + bytes_of list))))) (n ∷ []) first
          (λ j h. same b j h) (let no : (n == 13) ≡ false = grind (arith, nat_tests) in ap (λ c. c || false) no)
        where
          same : (b : Bool) (j : ℕ) → ((n == j) || false) ≡ false → get_or (take 15 (cond b r (write_register r n (a + bytes_of list)))) j 0 ≡ get_or (take 15 r) j 0
          same true j h = refl
          same false j h = elim (cases_lt j 15) [
            | inl l ↦ get_or-take 15 (write_register r n (a + bytes_of list)) j 0 l ∙ get_or-set_other r n j (word_in n (a + bytes_of list)) 0 (λ q. differ q h) ∙ sym (get_or-take 15 r j 0 l)
            | inr l ↦ get_or_past (take 15 (write_register r n (a + bytes_of list))) j 0 (omega (arith, length-take 15 (write_register r n (a + bytes_of list)), l)) ∙ sym (get_or_past (take 15 r) j 0 (omega (arith, length-take 15 r, l)))
          ]
            where
              differ : j ≡ n → ((n == j) || false) ≡ false → ⊥
              differ q h = absurd (let t : (n == j) ≡ true = grind (arith, nat_tests) in cc)

    ldm_on : On (ldm_end (load_list list a s.regs (memory_of s)) n list size s.regs (memory_of s))
    ldm_on = go (load_list list a s.regs (memory_of s)) refl
      where
        go : (o : Result (List ℕ) BusFault) → load_list list a s.regs (memory_of s) ≡ o → On (ldm_end o n list size s.regs (memory_of s))
        go (Err fault) w = tt
        go (Ok r) w = plain_on (with_all s.regs (cond (bit_at list n == 1) r (write_register r n (a + bytes_of list)))) (forget_register n (forget_registers (registers_of_list list) f)) e refl (based r w (bit_at list n == 1))

-- ---- whole

pub access_turns : (x : Accepted) (s : Recorded) (i : Instr) (input : List ℕ) → IsProgram x → Keeps x s → DoesAt x s i → Bounds i → IsAccess i → Turns x s input
access_turns x s (LdrLit t off) input is k does range acc =
    on_turns x is s k does.at (LdrLit t off) does.size does.stands refl refl refl refl input
    (lost_on x is s k does.at (LdrLit t off) does.size does.stands (load 4 (memory_of s) (forward (base s.regs) off)) t range.0 refl) does.reached
access_turns x s (MemReg op t n m) input is k does range acc =
    on_turns x is s k does.at (MemReg op t n m) does.size does.stands refl refl refl refl input
    (reg_on x is s k does.at (MemReg op t n m) does.size does.stands op t ((reg s.regs n + reg s.regs m) % 2 ^ 32) range.1
    (λ b h. ap (λ (c : Bool). let o : Result Fact FrameCause = Ok (cond c does.at.fact (forget_register t does.at.fact)) in o) h)) does.reached
access_turns x s (MemImm op t n off) input is k does range acc =
    on_turns x is s k does.at (MemImm op t n off) does.size does.stands refl refl refl refl input
    (imm_on x is s k does.at (MemImm op t n off) does.size does.stands op t (forward (reg s.regs n) off) range.0 range.1
    (λ b h. ap (λ (c : Bool). let o : Result Fact FrameCause = Ok (cond c (forget_register t does.at.fact) does.at.fact) in o) h)) does.reached
access_turns x s (MemSp false t off) input is k does range acc =
    on_turns x is s k does.at (MemSp false t off) does.size does.stands refl refl refl refl input
    (stored_on x is s k does.at (MemSp false t off) does.size does.stands 4 (forward (reg s.regs SP) off) (reg s.regs t % 256 ^ 4) refl) does.reached
access_turns x s (MemSp true t (negsuc off)) input is k does range acc = absurd range.1
access_turns x s (MemSp true t (pos off)) input is k does range acc =
    let low : off < 4096 = omega (arith, range.1.0) in
    let a : forward (reg s.regs SP) (pos off) ≡ (reg_in s SP + off) % 2 ^ 32 = omega (arith, low) in
    on_turns x is s k does.at (MemSp true t (pos off)) does.size does.stands refl refl refl refl input
    (subst (λ (n : ℕ). IsOn x is s k does.at (MemSp true t (pos off)) does.size does.stands (with_memory (load_result (load 4 (memory_of s) n) t does.size s.regs) (memory_of s))) (sym a)
    (word_on x is s k does.at (MemSp true t (pos off)) does.size does.stands t off range.0 refl)) does.reached
access_turns x s (Stm n list) input is k does range acc =
    on_turns x is s k does.at (Stm n list) does.size does.stands refl refl refl refl input
    (run_on x is s k does.at (Stm n list) does.size does.stands (reg s.regs n) n (reg s.regs n + bytes_of list) (words_of list s.regs) range.0 refl) does.reached
access_turns x s (Ldm n list) input is k does range acc =
    on_turns x is s k does.at (Ldm n list) does.size does.stands refl refl refl refl input
    (ldm_on x is s k does.at (Ldm n list) does.size does.stands n list range.0 range.2 refl) does.reached
access_turns x s i input is k does range acc = absurd acc
