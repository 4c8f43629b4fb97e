-- The profile by which an image is decoded: the second exactly if the image has the symbol `__ehabi_profile` and the
-- word there, in the bytes of a read-only segment, is 2 (docs/rules/instructions.md, "Profiles").
use Rattle.std.specs.Prelude.{ℕ, ◌≡◌, ◌↔◌, ◌==◌, if◌then◌else◌, Option, Some, None, option_and_then, codes}
use Rattle.elf_image.specs.Image.{Image, symbol_in, word_of}
use Rattle.thumb_isa.specs.declared.profile.Profile.{Profile}
use Rattle.thumb_isa.specs.declared.profile.Profile.TheVariants.{One, Two}
use Rattle.run_images.specs.declared.profile.TheConstants.{PROFILE_SYMBOL, SECOND_PROFILE}

abbrev pub profile_by : Option ℕ → Profile
profile_by None = One
profile_by (Some word) = if word == SECOND_PROFILE then Two else One

unfoldable pub profile_of : Image → Profile
profile_of image = profile_by (option_and_then (word_of image) (symbol_in image PROFILE_SYMBOL.now))

-- ---- the law, in letters and digits

-- the symbol, and the word at its address
pub record NamesSecond (image : Image) : Type 0 where
  pub address : ℕ
  pub symbol : symbol_in image (codes "__ehabi_profile") ≡ Some address
  pub word : word_of image address ≡ Some 2

-- an image is of the second profile exactly if it has both; every other image is of the first
pub record SecondIsNamed : Type 0 where
  pub second : (image : Image) → (profile_of image ≡ Two) ↔ NamesSecond image
  pub first : (image : Image) → (profile_of image ≡ One) ↔ (NamesSecond image → ⊥)
