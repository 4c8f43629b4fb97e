-- Whether a recipe agrees with a fact, by the first register that fails; and that it does so on facts that are less vague.
use Rattle.std.proofs.Common.{ℕ, ◌≡◌, inl, inr, Bool, true, false, not, cond, eqb, ltb, leb, ◌&&◌, ◌||◌, IsTrue, List, [], ◌∷◌, Option, Some, None, Err, Ok, sym, ◌∙◌, ap, subst, refl, get_or, ℤ, pos}
use Rattle.std.specs.Prelude.{◌-ℤ◌, int_le, is_none, Result}
use Rattle.std.specs.Ordering.{int_eq}
use Rattle.std.specs.Option.{option_map_or}
use Rattle.std.specs.List.{find}
use Rattle.std.proofs.lemmas.Bool.{false≢true, true≢false}
use Rattle.std.proofs.lemmas.Option.{none-some}
use Rattle.eh_bytecode.specs.declared.recipe.Src.{Src}
use Rattle.eh_bytecode.specs.declared.recipe.Src.TheVariants.{Same, FromSp, FromBase}
use Rattle.eh_bytecode.specs.declared.recipe.Recipe.{Recipe}
use Rattle.thumb_core.specs.Words.{numbers}
use Rattle.frame_facts.specs.declared.cause.FrameCause.{FrameCause}
use Rattle.frame_facts.specs.declared.cause.FrameCause.TheVariants.{CallState, FramePointerLost}
use Rattle.frame_facts.specs.declared.facts.Source.{Source}
use Rattle.frame_facts.specs.declared.facts.Fact.{Fact}
use Rattle.frame_facts.specs.declared.saves.Prologue.{Prologue}
use Rattle.frame_facts.specs.Facts.{source, is_entry, IsVaguer, IsAtMost}
use Rattle.frame_facts.specs.Saves.{word}
use Rattle.frame_facts.specs.Branches.{call_changes}
use Rattle.frame_facts.specs.Agrees.{at_site, stack_place, base_at, is_lost, word_from, recipe_source, lies_whole, in_frame, gives_cfa, gives_caller_value, has_no_room, fails_register, agreement_by, agreement}
use Rattle.frame_facts.proofs.Vaguer.{source_vaguer, clobbered_vaguer}
use Rattle.frame_facts.proofs.Following.{word_vaguer, entry_vaguer}

module _ (p : Prologue) (r : Recipe) (is_call : Bool) (f here : Fact) where
  agreed_is : here ≡ at_site is_call f → agreement_by (find (fails_register p r is_call here) numbers) (is_lost r here) r.base ≡ agreement p r is_call f
  agreed_is e = ap (λ g. agreement_by (find (fails_register p r is_call g) numbers) (is_lost r g) r.base) e

  pub agreed_lost : here ≡ at_site is_call f → find (fails_register p r is_call here) numbers ≡ None → is_lost r here ≡ true → Err (FramePointerLost r.base) ≡ agreement p r is_call f
  agreed_lost e none lost = sym (ap (λ o. agreement_by o (is_lost r here) r.base) none ∙ ap (λ b. agreement_by None b r.base) lost) ∙ agreed_is e

  pub agreed_ok : here ≡ at_site is_call f → find (fails_register p r is_call here) numbers ≡ None → is_lost r here ≡ false → Ok tt ≡ agreement p r is_call f
  agreed_ok e none lost = sym (ap (λ o. agreement_by o (is_lost r here) r.base) none ∙ ap (λ b. agreement_by None b r.base) lost) ∙ agreed_is e

pub agreed_fails : (p : Prologue) (r : Recipe) (is_call : Bool) (f here : Fact) (reg : ℕ) → here ≡ at_site is_call f → find (fails_register p r is_call here) numbers ≡ Some reg → Err (CallState reg) ≡ agreement p r is_call f
agreed_fails p r is_call f here reg e some = sym (ap (λ o. agreement_by o (is_lost r here) r.base) some) ∙ ap (λ g. agreement_by (find (fails_register p r is_call g) numbers) (is_lost r g) r.base) e

-- ---- on a fact that is less vague

site_vaguer : (is_call : Bool) (f g : Fact) → IsAtMost f g → IsAtMost (at_site is_call f) (at_site is_call g)
site_vaguer true f g x = clobbered_vaguer call_changes f g x
site_vaguer false f g x = x

place_follows : (s t : Source) (k : ℕ) → IsVaguer s t → stack_place t ≡ Some k → stack_place s ≡ Some k
place_follows s t k (inl e) h = ap stack_place e ∙ h
place_follows s t k (inr e) h = absurd (none-some k (sym (ap stack_place e) ∙ h))

sp_follows : (a b : Bool) (d d' k : ℕ) → (IsTrue a → IsTrue b) → d ≡ d' → cond b None (Some d') ≡ Some k → cond a None (Some d) ≡ Some k
sp_follows a true d d' k h e is = absurd (none-some k is)
sp_follows true false d d' k h e is = absurd (false≢true (h refl))
sp_follows false false d d' k h e is = ap Some e ∙ is

some_either : (b : Bool) (o o' u u' : Option ℕ) (k : ℕ) → (o' ≡ Some k → o ≡ Some k) → (u' ≡ Some k → u ≡ Some k) → cond b o' u' ≡ Some k → cond b o u ≡ Some k
some_either true o o' u u' k v w = v
some_either false o o' u u' k v w = w

base_follows : (f g : Fact) (base k : ℕ) → IsAtMost f g → base_at g base ≡ Some k → base_at f base ≡ Some k
base_follows f g base k x =
    some_either (eqb base 13) (cond f.below None (Some f.depth)) (cond g.below None (Some g.depth)) (stack_place (source f base)) (stack_place (source g base)) k
    (sp_follows f.below g.below f.depth g.depth k x.below x.depth) (place_follows (source f base) (source g base) k (source_vaguer f g base x))

lost_follows : (r : Recipe) (f g : Fact) → IsAtMost f g → is_lost r g ≡ false → is_lost r f ≡ false
lost_follows r f g x h = split (eqb r.base 13) (base_at g r.base) refl h
  where
    split : (b : Bool) (o : Option ℕ) → base_at g r.base ≡ o → (not b && is_none o) ≡ false → (not b && is_none (base_at f r.base)) ≡ false
    split true o e h = refl
    split false None e h = absurd (true≢false h)
    split false (Some k) e h = ap is_none (base_follows f g r.base k x e)

from_vaguer : (p : Prologue) (f g : Fact) (base : ℕ) (offset : ℤ) → IsAtMost f g → IsVaguer (word_from p f (base_at f base) offset) (word_from p g (base_at g base) offset)
from_vaguer p f g base offset x = split (base_at g base) refl
  where
    split : (o : Option ℕ) → base_at g base ≡ o → IsVaguer (word_from p f (base_at f base) offset) (word_from p g o offset)
    split None e = inr refl
    split (Some k) e = subst (λ o. IsVaguer (word_from p f o offset) (word p g.kept k offset)) (sym (base_follows f g base k x e)) (word_vaguer p f.kept g.kept k offset x.kept)

found_vaguer : (p : Prologue) (r : Recipe) (f g : Fact) (reg : ℕ) (src : Src) → IsAtMost f g → IsVaguer (recipe_source p r f reg src) (recipe_source p r g reg src)
found_vaguer p r f g reg Same x = source_vaguer f g (cond (eqb reg 15) 14 reg) x
found_vaguer p r f g reg (FromSp offset) x = from_vaguer p f g 13 offset x
found_vaguer p r f g reg (FromBase offset) x = from_vaguer p f g r.base offset x

whole_follows : (f g : Fact) (base : ℕ) (offset : ℤ) → IsAtMost f g → lies_whole g (base_at g base) offset ≡ true → lies_whole f (base_at f base) offset ≡ true
whole_follows f g base offset x h = split (base_at g base) refl h
  where
    split : (o : Option ℕ) → base_at g base ≡ o → lies_whole g o offset ≡ true → lies_whole f (base_at f base) offset ≡ true
    split None e h = absurd (false≢true h)
    split (Some k) e h = ap (λ o. lies_whole f o offset) (base_follows f g base k x e) ∙ ap (λ d. int_le (pos 4) (pos k -ℤ offset) && int_le (pos k -ℤ offset) (pos d)) x.depth ∙ h

frame_follows : (r : Recipe) (f g : Fact) (src : Src) → IsAtMost f g → in_frame r g src ≡ true → in_frame r f src ≡ true
frame_follows r f g Same x h = refl
frame_follows r f g (FromSp offset) x h = whole_follows f g 13 offset x h
frame_follows r f g (FromBase offset) x h = whole_follows f g r.base offset x h

cfa_follows : (r : Recipe) (f g : Fact) → IsAtMost f g → gives_cfa r g ≡ true → gives_cfa r f ≡ true
cfa_follows r f g x h = split (base_at g r.base) refl h
  where
    split : (o : Option ℕ) → base_at g r.base ≡ o → option_map_or (λ at. int_eq (pos at) r.vsp) o false ≡ true → gives_cfa r f ≡ true
    split None e h = absurd (false≢true h)
    split (Some k) e h = ap (λ o. option_map_or (λ at. int_eq (pos at) r.vsp) o false) (base_follows f g r.base k x e) ∙ h

true_either : (b a a' c c' : Bool) → (a' ≡ true → a ≡ true) → (c' ≡ true → c ≡ true) → cond b a' c' ≡ true → cond b a c ≡ true
true_either true a a' c c' v w = v
true_either false a a' c c' v w = w

gives_follows : (p : Prologue) (r : Recipe) (f g : Fact) (reg : ℕ) → IsAtMost f g → gives_caller_value p r g reg ≡ true → gives_caller_value p r f reg ≡ true
gives_follows p r f g reg x =
    let src = get_or r.src reg Same in
    let seen = found_vaguer p r f g reg src x in
    true_either (eqb reg 13) (gives_cfa r f) (gives_cfa r g)
    (cond (eqb reg 15) (is_entry 14 (recipe_source p r f reg src)) (cond (leb 4 reg && ltb reg 12) (is_entry reg (recipe_source p r f reg src)) (in_frame r f src)))
    (cond (eqb reg 15) (is_entry 14 (recipe_source p r g reg src)) (cond (leb 4 reg && ltb reg 12) (is_entry reg (recipe_source p r g reg src)) (in_frame r g src)))
    (cfa_follows r f g x)
    (true_either (eqb reg 15) (is_entry 14 (recipe_source p r f reg src)) (is_entry 14 (recipe_source p r g reg src))
    (cond (leb 4 reg && ltb reg 12) (is_entry reg (recipe_source p r f reg src)) (in_frame r f src)) (cond (leb 4 reg && ltb reg 12) (is_entry reg (recipe_source p r g reg src)) (in_frame r g src))
    (entry_vaguer 14 (recipe_source p r f reg src) (recipe_source p r g reg src) seen)
    (true_either (leb 4 reg && ltb reg 12) (is_entry reg (recipe_source p r f reg src)) (is_entry reg (recipe_source p r g reg src)) (in_frame r f src) (in_frame r g src)
    (entry_vaguer reg (recipe_source p r f reg src) (recipe_source p r g reg src) seen) (frame_follows r f g src x)))

-- where the frame pointer is known, a register that is fine stays so
fails_follows : (p : Prologue) (r : Recipe) (is_call : Bool) (f g : Fact) (reg : ℕ) → IsAtMost f g → is_lost r g ≡ false → fails_register p r is_call g reg ≡ false → fails_register p r is_call f reg ≡ false
fails_follows p r is_call f g reg x l h =
    let a = neither (has_no_room is_call g reg) (not (is_lost r g) && not (gives_caller_value p r g reg)) h in
    let good : gives_caller_value p r g reg ≡ true = found_good (is_lost r g) (gives_caller_value p r g reg) l a.1 in
    ap (λ b. b || (not (is_lost r f) && not (gives_caller_value p r f reg))) (ap (λ d. is_call && eqb reg 14 && ltb d 4) x.depth ∙ a.0)
    ∙ ap (λ b. not b && not (gives_caller_value p r f reg)) (lost_follows r f g x l)
    ∙ ap not (gives_follows p r f g reg x good)
  where
    neither : (a b : Bool) → (a || b) ≡ false → (a ≡ false) × (b ≡ false)
    neither true b h = absurd (true≢false h)
    neither false b h = (refl, h)

    found_good : (l b : Bool) → l ≡ false → (not l && not b) ≡ false → b ≡ true
    found_good true b e h = absurd (true≢false e)
    found_good false true e h = refl
    found_good false false e h = absurd (true≢false h)

none_follows : (q r : ℕ → Bool) (xs : List ℕ) → ((k : ℕ) → r k ≡ false → q k ≡ false) → find r xs ≡ None → find q xs ≡ None
none_follows q r [] h e = refl
none_follows q r (k ∷ xs) h e = split (r k) refl (λ d. none_follows q r xs h d) e
  where
    split : (b : Bool) → r k ≡ b → (find r xs ≡ None → find q xs ≡ None) → cond b (Some k) (find r xs) ≡ None → cond (q k) (Some k) (find q xs) ≡ None
    split true d rest e = absurd (none-some k (sym e))
    split false d rest e = ap (λ b. cond b (Some k) (find q xs)) (h k d) ∙ rest e

answer_parts : (o : Option ℕ) (lost : Bool) (base : ℕ) → agreement_by o lost base ≡ Ok tt → (o ≡ None) × (lost ≡ false)
answer_parts (Some reg) lost base h = absurd (err_ok (CallState reg) h)
  where
    err_ok : (e : FrameCause) → (let r : Result (Unit {0}) FrameCause = Err e in r) ≡ Ok tt → ⊥
    err_ok e h = cc
answer_parts None true base h = absurd (err_ok (FramePointerLost base) h)
  where
    err_ok : (e : FrameCause) → (let r : Result (Unit {0}) FrameCause = Err e in r) ≡ Ok tt → ⊥
    err_ok e h = cc
answer_parts None false base h = (refl, refl)

-- where a recipe agrees with a fact, it agrees with a fact that is less vague
pub agrees_vaguer : (p : Prologue) (r : Recipe) (is_call : Bool) (f g : Fact) → IsAtMost f g → agreement p r is_call g ≡ Ok tt → agreement p r is_call f ≡ Ok tt
agrees_vaguer p r is_call f g x h =
    let y = site_vaguer is_call f g x in
    let w = answer_parts (find (fails_register p r is_call (at_site is_call g)) numbers) (is_lost r (at_site is_call g)) r.base h in
    sym (agreed_ok p r is_call f (at_site is_call f) refl
    (none_follows (fails_register p r is_call (at_site is_call f)) (fails_register p r is_call (at_site is_call g)) numbers (λ k e. fails_follows p r is_call (at_site is_call f) (at_site is_call g) k y w.1 e) w.0)
    (lost_follows r (at_site is_call f) (at_site is_call g) y w.1))
