-- Which images are of the second profile.
use Rattle.std.proofs.Common.{ℕ, ◌≡◌, ◌==◌, Bool, true, false, if◌then◌else◌, List, Option, Some, None, refl, sym, ap, ◌∙◌, subst}
use Rattle.std.specs.Prelude.{option_and_then, codes}
use Rattle.std.proofs.lemmas.Bool.{eqb-true, eq-eqb}
use Rattle.elf_image.specs.Image.{Image, symbol_in, word_of}
use Rattle.thumb_isa.specs.declared.profile.Profile.{Profile}
use Rattle.thumb_isa.specs.declared.profile.Profile.TheVariants.{One, Two}
use Rattle.run_images.specs.declared.profile.TheConstants.{PROFILE_SYMBOL}
use Rattle.run_images.specs.Profiles.{profile_by, profile_of, NamesSecond, SecondIsNamed}

-- the symbol's name, letter by letter
name_is : PROFILE_SYMBOL.now ≡ codes "__ehabi_profile"
name_is = refl

by_word : (o : Option ℕ) → profile_by o ≡ Two → o ≡ Some 2
by_word None h = absurd cc
by_word (Some word) h = go (word == 2) refl h
  where
    go : (b : Bool) → (word == 2) ≡ b → (if b then Two else One) ≡ Two → Some word ≡ Some 2
    go true e h = ap (λ (n : ℕ). Some n) (eqb-true word 2 e)
    go false e h = absurd cc

parts : (f : ℕ → Option ℕ) (o : Option ℕ) (w : ℕ) → option_and_then f o ≡ Some w → (a : ℕ) × (o ≡ Some a) × (f a ≡ Some w)
parts f None w h = absurd cc
parts f (Some a) w h = (a, refl, h)

two_or_one : (p : Profile) → (p ≡ Two → ⊥) → p ≡ One
two_or_one One h = refl
two_or_one Two h = absurd (h refl)

named : (image : Image) → profile_of image ≡ Two → NamesSecond image
unfolding profile_of
named image h =
    let w = parts (word_of image) (symbol_in image PROFILE_SYMBOL.now) 2 (by_word (option_and_then (word_of image) (symbol_in image PROFILE_SYMBOL.now)) h) in
    record { address = w.0; symbol = subst (λ (name : List ℕ). symbol_in image name ≡ Some w.0) name_is w.1; word = w.2 }

two : (image : Image) → NamesSecond image → profile_of image ≡ Two
unfolding profile_of
two image x =
    ap (λ (name : List ℕ). profile_by (option_and_then (word_of image) (symbol_in image name))) name_is
    ∙ (ap (λ (o : Option ℕ). profile_by (option_and_then (word_of image) o)) x.symbol ∙ ap profile_by x.word)

not_two : (image : Image) → profile_of image ≡ One → NamesSecond image → ⊥
not_two image e x = let t : profile_of image ≡ Two = two image x in cc

pub second_is_named : SecondIsNamed
second_is_named = record {
  second = λ image. (named image, two image);
  first = λ image. (not_two image, λ n. two_or_one (profile_of image) (λ e. n (named image e)));
}
