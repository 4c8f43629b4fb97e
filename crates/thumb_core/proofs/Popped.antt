-- A POP and an LDM in two parts: the low registers, and pc's word after them.
use Rattle.std.proofs.Common.{◌≡◌, ℕ, ◌+◌, ◌%◌, ◌^◌, ◌<◌, List, [], ◌∷◌, ◌++◌, refl, ap, subst, ◌∙◌, arith, length, take, slice_index, Err, Ok, append-nil, length-append}
use Rattle.std.specs.Int.{bit_at}
use Rattle.std.proofs.Math.ListN.{length-set, set}
use Rattle.std.proofs.Math.Seq.{take-append_seam}
use Rattle.std.proofs.lemmas.List.{take_more_set, set-append_left, set-append_right, get_or-append_right}
use Rattle.eh_bus.specs.Memory.{Memory, load_number}
use Rattle.eh_bus.specs.declared.fault.BusFault.{BusFault}
use Rattle.thumb_core.specs.declared.regs.TheConstants.{SP, PC}
use Rattle.thumb_core.specs.declared.regs.Regs.{Regs}
use Rattle.thumb_core.specs.declared.regs.CoreTrap.TheVariants.{EvenTarget}
use Rattle.thumb_core.specs.declared.regs.Stepped.TheVariants.{Return, Trap}
use Rattle.thumb_core.specs.Registers.{write_register, word_in, reg, with_pc, with_reg}
use Rattle.thumb_core.specs.Words.{registers_of_list, words_in, load_words, loads_from}
use Rattle.thumb_core.specs.Outcome.{plain_outcome, fault_outcome}
use Rattle.thumb_core.specs.Lists.{bytes_of, load_list, ldm, ldm_end, pop, pop_end}
use Rattle.thumb_core.proofs.Listed.{listed_from}
use Rattle.thumb_core.proofs.Loaded.{listed_low, low_none, with_pc_high, with_lr_high, load_list_low}

-- what the low registers of a mask are loaded to
pub record Low (mask a : ℕ) (regs : Regs) (m : Memory) (r : List ℕ) : Type 0 where
  pub count : length regs.r ≡ 15
  pub size : length r ≡ 15
  pub loaded : load_words m.segments a (loads_from 0 (registers_of_list (mask % 2 ^ 8))) regs.r ≡ Ok r

-- how many bytes they take
abbrev pub low_bytes : ℕ → ℕ
low_bytes mask = bytes_of (mask % 2 ^ 8)

list_low : (mask a : ℕ) (regs : Regs) (m : Memory) (r : List ℕ) → Low mask a regs m r → listed_from 8 mask ≡ [] → load_list mask a regs m ≡ Ok (r ++ (regs.pc ∷ []))
list_low mask a regs m r low high = rw (load_list_low mask a regs m low.count, low.loaded, high) refl

list_fault : (mask a : ℕ) (regs : Regs) (m : Memory) (e : BusFault) → length regs.r ≡ 15
    → load_words m.segments a (loads_from 0 (registers_of_list (mask % 2 ^ 8))) regs.r ≡ Err e → load_list mask a regs m ≡ Err e
list_fault mask a regs m e count f = rw (load_list_low mask a regs m count, f) refl

put_last : (r : List ℕ) (pc x : ℕ) → length r ≡ 15 → write_register (r ++ (pc ∷ [])) 15 x ≡ r ++ (word_in PC x ∷ [])
put_last r pc x size = set-append_right r (pc ∷ []) 15 15 (word_in PC x) size (omega arith)

list_pc : (mask a x : ℕ) (regs : Regs) (m : Memory) (r : List ℕ) → Low mask a regs m r → listed_from 8 mask ≡ 15 ∷ []
    → load_number 4 m.segments ((a + low_bytes mask) % 2 ^ 32) ≡ Ok x → load_list mask a regs m ≡ Ok (r ++ (word_in PC x ∷ []))
list_pc mask a x regs m r low high e = rw (load_list_low mask a regs m low.count, low.loaded, high, e) (ap Ok (put_last r regs.pc x low.size))

list_pc_fault : (mask a : ℕ) (e : BusFault) (regs : Regs) (m : Memory) (r : List ℕ) → Low mask a regs m r → listed_from 8 mask ≡ 15 ∷ []
    → load_number 4 m.segments ((a + low_bytes mask) % 2 ^ 32) ≡ Err e → load_list mask a regs m ≡ Err e
list_pc_fault mask a e regs m r low high f = rw (load_list_low mask a regs m low.count, low.loaded, high, f) refl

-- ---- registers

front_put : (r : List ℕ) (k y x : ℕ) → length r ≡ 15 → k < 15 → take 15 (write_register (r ++ (y ∷ [])) k x) ≡ write_register r k x
front_put r k y x size l =
    let count : length (write_register r k x) ≡ 15 = length-set r k (word_in k x) ∙ size in
    rw (set-append_left r (y ∷ []) k (word_in k x) (rw size l))
    (subst (λ n. take n (write_register r k x ++ (y ∷ [])) ≡ write_register r k x) count (take-append_seam (write_register r k x) (y ∷ [])))

front : (r : List ℕ) (y : ℕ) → length r ≡ 15 → take 15 (r ++ (y ∷ [])) ≡ r
front r y size = subst (λ n. take n (r ++ (y ∷ [])) ≡ r) size (take-append_seam r (y ∷ []))

last : (r : List ℕ) (y : ℕ) → length r ≡ 15 → slice_index (r ++ (y ∷ [])) 15 ≡ y
last r y size = get_or-append_right r (y ∷ []) 15 15 0 size (omega arith)

word_same : (d x y : ℕ) → x % 2 ^ 32 ≡ y % 2 ^ 32 → word_in d x ≡ word_in d y
word_same d x y e = rw e refl

bytes_none : (mask : ℕ) → listed_from 8 mask ≡ [] → bytes_of mask ≡ low_bytes mask
bytes_none mask high = rw (listed_low mask, high, append-nil) refl

bytes_pc : (mask : ℕ) → listed_from 8 mask ≡ 15 ∷ [] → bytes_of mask ≡ low_bytes mask + 4
bytes_pc mask high = rw (listed_low mask, high, length-append) (omega arith)

-- ---- a POP

pub pop_fault : (mask size : ℕ) (regs : Regs) (m : Memory) (e : BusFault) → length regs.r ≡ 15
    → load_words m.segments (reg regs SP) (loads_from 0 (registers_of_list (mask % 2 ^ 8))) regs.r ≡ Err e → pop mask size regs m ≡ fault_outcome e regs m
pop_fault mask size regs m e count f = ap (λ l. pop_end l mask size regs m) (list_fault mask (reg regs SP) regs m e count f)

no_pc : (mask : ℕ) → mask % 2 ^ 15 < 2 ^ 8 → bit_at mask PC ≡ 0 → listed_from 8 mask ≡ []
no_pc mask l b = with_pc_high mask l ∙ rw b refl

has_pc : (mask : ℕ) → mask % 2 ^ 15 < 2 ^ 8 → bit_at mask PC ≡ 1 → listed_from 8 mask ≡ 15 ∷ []
has_pc mask l b = with_pc_high mask l ∙ rw b refl

pub pop_plain : (mask size : ℕ) (regs : Regs) (m : Memory) (r : List ℕ) → Low mask (reg regs SP) regs m r → mask % 2 ^ 15 < 2 ^ 8 → bit_at mask PC ≡ 0
    → pop mask size regs m ≡ plain_outcome size (with_reg (record regs { r = r }) SP ((reg regs SP + low_bytes mask) % 2 ^ 32)) m
pop_plain mask size regs m r low l b =
    let high = no_pc mask l b in
    let a = reg regs SP in
    let same : word_in SP (a + low_bytes mask) ≡ word_in SP ((a + low_bytes mask) % 2 ^ 32) = word_same SP _ _ (omega arith) in
    rw (list_low mask a regs m r low high, b, front_put r SP regs.pc (a + bytes_of mask) low.size (omega arith), bytes_none mask high, same) refl

pub pop_pc_fault : (mask size : ℕ) (e : BusFault) (regs : Regs) (m : Memory) (r : List ℕ) → Low mask (reg regs SP) regs m r → mask % 2 ^ 15 < 2 ^ 8 → bit_at mask PC ≡ 1
    → load_number 4 m.segments ((reg regs SP + low_bytes mask) % 2 ^ 32) ≡ Err e → pop mask size regs m ≡ fault_outcome e regs m
pop_pc_fault mask size e regs m r low l b f = ap (λ l. pop_end l mask size regs m) (list_pc_fault mask (reg regs SP) e regs m r low (has_pc mask l b) f)

pub pop_even : (mask size x : ℕ) (regs : Regs) (m : Memory) (r : List ℕ) → Low mask (reg regs SP) regs m r → mask % 2 ^ 15 < 2 ^ 8 → bit_at mask PC ≡ 1
    → load_number 4 m.segments ((reg regs SP + low_bytes mask) % 2 ^ 32) ≡ Ok x → x < 2 ^ 32 → x % 2 ≡ 0 → pop mask size regs m ≡ (Trap (EvenTarget x), regs, m)
pop_even mask size x regs m r low l b f small even =
    let word : word_in PC x ≡ x = omega arith in
    rw (list_pc mask (reg regs SP) x regs m r low (has_pc mask l b) f, b, last r (word_in PC x) low.size, word, even) refl

pub pop_return : (mask size x : ℕ) (regs : Regs) (m : Memory) (r : List ℕ) → Low mask (reg regs SP) regs m r → mask % 2 ^ 15 < 2 ^ 8 → bit_at mask PC ≡ 1
    → load_number 4 m.segments ((reg regs SP + low_bytes mask) % 2 ^ 32) ≡ Ok x → x < 2 ^ 32 → x % 2 ≡ 1
    → pop mask size regs m ≡ (Return x, with_pc (with_reg (record regs { r = r }) SP (((reg regs SP + low_bytes mask) % 2 ^ 32 + 4) % 2 ^ 32)) x, m)
pop_return mask size x regs m r low l b f small odd =
    let a = reg regs SP in
    let high = has_pc mask l b in
    let word : word_in PC x ≡ x = omega arith in
    let whole : x % 2 ^ 32 ≡ x = omega arith in
    let same : word_in SP (a + (low_bytes mask + 4)) ≡ word_in SP (((a + low_bytes mask) % 2 ^ 32 + 4) % 2 ^ 32) = word_same SP _ _ (omega arith) in
    rw (list_pc mask a x regs m r low high f, b, last r (word_in PC x) low.size, word, odd, front_put r SP x (a + bytes_of mask) low.size (omega arith), bytes_pc mask high, same, whole, odd) refl

-- ---- an LDM

pub ldm_fault : (n mask size : ℕ) (regs : Regs) (m : Memory) (e : BusFault) → length regs.r ≡ 15
    → load_words m.segments (reg regs n) (loads_from 0 (registers_of_list (mask % 2 ^ 8))) regs.r ≡ Err e → ldm n mask size regs m ≡ fault_outcome e regs m
ldm_fault n mask size regs m e count f = ap (λ l. ldm_end l n mask size regs m) (list_fault mask (reg regs n) regs m e count f)

pub ldm_kept : (n mask size : ℕ) (regs : Regs) (m : Memory) (r : List ℕ) → Low mask (reg regs n) regs m r → mask < 2 ^ 8 → bit_at mask n ≡ 1
    → ldm n mask size regs m ≡ plain_outcome size (record regs { r = r }) m
ldm_kept n mask size regs m r low l b = rw (list_low mask (reg regs n) regs m r low (low_none mask l), b, front r regs.pc low.size) refl

pub ldm_after : (n mask size : ℕ) (regs : Regs) (m : Memory) (r : List ℕ) → Low mask (reg regs n) regs m r → mask < 2 ^ 8 → n < 15 → bit_at mask n ≡ 0
    → ldm n mask size regs m ≡ plain_outcome size (with_reg (record regs { r = r }) n ((reg regs n + low_bytes mask) % 2 ^ 32)) m
ldm_after n mask size regs m r low l k b =
    let a = reg regs n in
    let high = low_none mask l in
    let same : word_in n (a + low_bytes mask) ≡ word_in n ((a + low_bytes mask) % 2 ^ 32) = word_same n _ _ (omega arith) in
    rw (list_low mask a regs m r low high, b, front_put r n regs.pc (a + bytes_of mask) low.size k, bytes_none mask high, same) refl

-- ---- the words of a PUSH

pub pushed_none : (mask : ℕ) → mask < 2 ^ 15 → mask % 2 ^ 14 < 2 ^ 8 → bit_at mask 14 ≡ 0 → registers_of_list mask ≡ registers_of_list (mask % 2 ^ 8)
pushed_none mask h l b = rw (listed_low mask, with_lr_high mask h l, b, append-nil) refl

pub pushed_lr : (mask : ℕ) → mask < 2 ^ 15 → mask % 2 ^ 14 < 2 ^ 8 → bit_at mask 14 ≡ 1 → registers_of_list mask ≡ registers_of_list (mask % 2 ^ 8) ++ (14 ∷ [])
pushed_lr mask h l b = rw (listed_low mask, with_lr_high mask h l, b) refl

pub words_append : (r ks js : List ℕ) → words_in r (ks ++ js) ≡ words_in r ks ++ words_in r js
words_append r [] js = refl
words_append r (k ∷ more) js = rw (words_append r more js) refl

-- one word more
pub take_word : (words r ks : List ℕ) (n k : ℕ) → n < length words → take n words ≡ words_in r ks → take (n + 1) (set words n (slice_index r k)) ≡ words_in r (ks ++ (k ∷ []))
take_word words r ks n k l e = rw (words_append r ks (k ∷ []), ← e) (take_more_set words n (slice_index r k) l)
