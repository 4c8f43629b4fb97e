use Rattle.std.proofs.Common.{◌≡◌, ℕ, ◌+◌, ◌-◌, ◌≤◌, List, ◌++◌, length, take, drop, replicate, min, refl, sym, ap, ◌∙◌, arith}
use Rattle.std.proofs.lemmas.List.{length-take, length-drop, length-append, length-replicate, take_min}
use Rattle.std.proofs.lemmas.List.Edits.{length-paste, paste_all, paste-paste}
use Rattle.std.proofs.lemmas.Slice.{put_mid-paste}
use Rattle.std.proofs.Math.Seq.{paste}
use borrow.Rule.Slice.PartMut.{put_mid}
use Rattle.eh_word.specs.Bytes.{zeros}
use Rattle.mem_buses.proofs.pages.put_given.Goals as goal

-- two parts that are written one after the other
put_both : (at n size : ℕ) (xs g z : List ℕ) → length g ≡ n → length z ≡ size - n → n ≤ size → at + size ≤ length xs
    → put_mid (at + n) (at + size - (at + n)) (put_mid at (at + n - at) xs g) z ≡ take at xs ++ ((g ++ z) ++ drop (at + size) xs)
put_both at n size xs g z e f h l =
    let first : put_mid at (at + n - at) xs g ≡ paste xs at g n = put_mid-paste at (at + n - at) xs g g n refl (omega arith) (sym e) in
    let second = put_mid-paste (at + n) (at + size - (at + n)) (paste xs at g n) z z (size - n) refl (omega arith) (sym f) in
    let end : at + (n + (size - n)) ≡ at + size = omega arith in
    ap (λ (ys : List ℕ). put_mid (at + n) (at + size - (at + n)) ys z) first ∙ second ∙ paste-paste xs at g z n (size - n) (sym e) (sym f) (omega arith)
    ∙ paste_all xs at (g ++ z) (n + (size - n)) (omega (arith, length-append g z)) ∙ ap (λ (m : ℕ). take at xs ++ ((g ++ z) ++ drop m xs)) end

put_zeros : (at size n : ℕ) (xs given g z : List ℕ) → n ≡ min size (length given) → at + size ≤ length xs → g ≡ take n given
    → z ≡ replicate (length (take (at + size - (at + n)) (drop (at + n) (put_mid at (at + n - at) xs g)))) 0
    → put_mid (at + n) (at + size - (at + n)) (put_mid at (at + n - at) xs g) z ≡ take at xs ++ ((take size given ++ zeros (size - length given)) ++ drop (at + size) xs)
unfolding zeros
put_zeros at size n xs given g z e l f h =
    let count : length g ≡ n = ap length f ∙ omega (arith, length-take n given) in
    let first : put_mid at (at + n - at) xs g ≡ paste xs at g n = put_mid-paste at (at + n - at) xs g g n refl (omega arith) (sym count) in
    let room : length (put_mid at (at + n - at) xs g) ≡ length xs = ap length first ∙ length-paste xs at g n (omega arith) (omega arith) in
    let rest : length (take (at + size - (at + n)) (drop (at + n) (put_mid at (at + n - at) xs g))) ≡ size - n = omega (arith, length-take {A = ℕ}, length-drop {A = ℕ}) in
    let zs : z ≡ zeros (size - length given) = h ∙ ap (λ (m : ℕ). replicate m 0) (rest ∙ omega arith) in
    let gs : g ≡ take size given = f ∙ ap (λ (m : ℕ). take m given) e ∙ take_min size given in
    put_both at n size xs g z count (omega (arith, ap length zs, length-replicate {A = ℕ} (size - length given) 0)) (omega arith) l
    ∙ ap (λ (ys : List ℕ). take at xs ++ ((ys ++ z) ++ drop (at + size) xs)) gs ∙ ap (λ (ys : List ℕ). take at xs ++ ((take size given ++ ys) ++ drop (at + size) xs)) zs

pub returns : goal.returns
returns c = put_zeros c.args.at c.args.size c.min-count.result c.args.bytes.now c.args.given.now _ _ c.min-count.ensures c.requires c.copy_from_slice.ensures.after (c.fill.ensures.after (λ y e. e))
