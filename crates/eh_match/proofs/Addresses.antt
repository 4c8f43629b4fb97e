-- Where paths lead.
use Rattle.std.proofs.Common.{◌≡◌, ℕ, suc, ◌+◌, ◌-◌, ◌%◌, ◌^◌, ◌<◌, List, [], ◌∷◌, refl, arith, ◌∙◌, ap, sym, true, Ok, Err}
use Rattle.std.specs.Prelude.{if◌then◌else◌}
use Rattle.std.specs.List.{sum_by}
use Rattle.std.specs.Int.{cast_unsigned, w32}
use Rattle.std.proofs.Math.Nat.{mod-add-mod, mod-eq_of_lt, add-mod_left}
use Rattle.std.proofs.lemmas.List.Sums.{fold-append, sum_by-cons}
use Rattle.eh_bus.specs.Segment.{Segment}
use Rattle.eh_types.specs.declared.kind.Base.{Base}
use Rattle.eh_match.specs.Paths.{at_offset}
use Rattle.eh_match.specs.Address.{address, address_after_step, by_vtable, load_or_address, or_address, plus_distance}
use Rattle.eh_match.specs.Laws.{are_plain, PlainStepsAdd, OffsetsAreSigned, VirtualStepsGoByTheVtable, AddressesFollow}
use Rattle.eh_match.proofs.Names.{not_virtual, rest_plain}

plain_moved : (segments : List Segment) (a : ℕ) (steps : List Base) → are_plain steps ≡ true → address segments (Ok (a % 2 ^ 32)) steps ≡ Ok ((a + sum_by (λ b. cast_unsigned w32 b.offset) steps) % 2 ^ 32)
plain_moved segments a [] e = ap (λ n. Ok (n % 2 ^ 32)) (let s : a ≡ a + 0 = omega arith in s)
plain_moved segments a (b ∷ more) e =
    ap (λ v. address segments (if v then by_vtable segments (a % 2 ^ 32) b.offset (load_or_address segments (a % 2 ^ 32)) else Ok (at_offset (a % 2 ^ 32) b.offset)) more) (not_virtual b (are_plain more) e)
    ∙ ap (λ n. address segments (Ok n) more) (mod-add-mod a (2 ^ 32) (cast_unsigned w32 b.offset))
    ∙ plain_moved segments (a + cast_unsigned w32 b.offset) more (rest_plain b (are_plain more) e)
    ∙ ap (λ n. Ok (n % 2 ^ 32)) (let s = sum_by-cons (λ (c : Base). cast_unsigned w32 c.offset) b more in omega (arith, s))

pub plain_steps_add : PlainStepsAdd
plain_steps_add segments a steps l e = ap (λ n. address segments (Ok n) steps) (sym (mod-eq_of_lt l)) ∙ plain_moved segments a steps e

pub offsets_are_signed : OffsetsAreSigned
offsets_are_signed a k l = (
  λ h. mod-eq_of_lt h,
  λ h.
      let back : a + (2 ^ 32 - suc k) ≡ 2 ^ 32 + (a - (k + 1)) = omega (arith, h, l) in
      let below : a - (k + 1) < 2 ^ 32 = omega (arith, l) in
      ap (λ n. n % 2 ^ 32) back ∙ add-mod_left (2 ^ 32) (a - (k + 1)) ∙ mod-eq_of_lt below,
)

pub virtual_steps_go_by_the_vtable : VirtualStepsGoByTheVtable
virtual_steps_go_by_the_vtable segments a step more v =
    let start = ap (λ b. address segments (if b then by_vtable segments a step.offset (load_or_address segments a) else Ok (at_offset a step.offset)) more) v in
    record {
      added = λ vtable distance e f.
          start ∙ ap (λ w. address segments (by_vtable segments a step.offset (or_address a w)) more) e ∙ ap (λ w. address segments (plus_distance a (or_address (at_offset vtable step.offset) w)) more) f;
      no_vtable = λ fault e. start ∙ ap (λ w. address segments (by_vtable segments a step.offset (or_address a w)) more) e ∙ stays a more;
      no_distance = λ vtable fault e f.
          start ∙ ap (λ w. address segments (by_vtable segments a step.offset (or_address a w)) more) e ∙ ap (λ w. address segments (plus_distance a (or_address (at_offset vtable step.offset) w)) more) f ∙ stays (at_offset vtable step.offset) more;
    }
  where
    stays : (refused : ℕ) (steps : List Base) → address segments (Err refused) steps ≡ Err refused
    stays refused [] = refl
    stays refused (b ∷ steps) = stays refused steps

pub addresses_follow : AddressesFollow
addresses_follow segments at before after = fold-append (address_after_step segments) at before after
