-- The profile of the rewritten image.
use Rattle.std.proofs.Common.{◌≡◌, ℕ, ◌+◌, ◌-◌, ◌<◌, ◌&&◌, nat_le, nat_eq, Bool, true, false, cond, List, [], ◌∷◌, ◌++◌, length, map, Option, Some, None, IfSome, Ok, refl, sym, ap, subst, ◌∙◌}
use Rattle.std.specs.Prelude.{find, option_map, option_and_then, All}
use Rattle.std.specs.Option.{option_or}
use Rattle.std.proofs.lemmas.Bool.{lt-leb}
use Rattle.std.proofs.lemmas.List.Folds.{find-append}
use Rattle.std.proofs.lemmas.List.Elements.{All-head, All-tail}
use Rattle.elf_image.specs.Segments.{Segment}
use Rattle.elf_image.specs.Image.{Image, image_of, symbol_in, holds_word, word_in, word_of}
use Rattle.elf_write.specs.Parts.{own_segment}
use Rattle.thumb_isa.specs.declared.profile.Profile.{Profile}
use Rattle.thumb_isa.specs.declared.profile.Profile.TheVariants.{One, Two}
use Rattle.run_images.specs.Profiles.{profile_by, profile_of}
use Rattle.run_images.specs.declared.profile.TheConstants.{PROFILE_SYMBOL}
use Rattle.eh_types.specs.declared.vtables.TheConstants.{FUNDAMENTAL, CLASS, SINGLE, MANY, POINTER}
use Rattle.gnu_rewrite.specs.declared.symbols.TheConstants.{PROFILE}
use Rattle.gnu_rewrite.specs.Segments.{tables_start, new_bytes, read_only, segment_from}
use Rattle.gnu_rewrite.specs.Parts.{new_tables}
use Rattle.gnu_rewrite_laws.specs.Laws.{rewritten_image, IsProfileBelow, ProfileStays, SecondProfileStays}
use Rattle.gnu_rewrite_laws.proofs.Good.{law_of_segments}
use Rattle.gnu_rewrite_laws.proofs.Names.{law_of_names}

-- ---- words

module _ (a : ℕ) (old new : List Segment) where
  found : (s : Segment) → find (holds_word a) old ≡ Some s → find (holds_word a) (old ++ new) ≡ Some s
  found s e = find-append (holds_word a) old new ∙ ap (λ (o : Option Segment). option_or o (find (holds_word a) new)) e

  none_more : find (holds_word a) new ≡ None → find (holds_word a) (old ++ new) ≡ find (holds_word a) old
  none_more none = find-append (holds_word a) old new ∙ by (find (holds_word a) old)
    where
      by : (o : Option Segment) → option_or o (find (holds_word a) new) ≡ o
      by None = none
      by (Some s) = refl

-- the new segment has no word below it
none_below : (start a : ℕ) (bytes : List ℕ) → a < start → find (holds_word a) (map own_segment (segment_from start bytes)) ≡ None
none_below start a bytes below = by (nat_eq (length bytes) 0)
  where
    no_word : (b c : Bool) → b ≡ false → cond (b && c) (Some (own_segment (read_only start bytes))) None ≡ None
    no_word true c e = absurd cc
    no_word false c e = refl

    by : (b : Bool) → find (holds_word a) (map own_segment (cond b [] (read_only start bytes ∷ []))) ≡ None
    by true = refl
    by false = no_word (nat_le start a) _ (lt-leb start a below)

-- ---- the profile

module _ (file : List ℕ) (image : Image) (h : image_of file ≡ Ok image) where
  abbrev new : List Segment
  new = map own_segment (segment_from (tables_start image) (new_bytes image (new_tables image)))

  segments : (rewritten_image image).segments ≡ image.segments ++ new
  segments = law_of_segments file image h

  symbol : symbol_in (rewritten_image image) PROFILE_SYMBOL.now ≡ symbol_in image PROFILE_SYMBOL.now
  symbol =
      let P : List ℕ → Type 0 = λ name. symbol_in (rewritten_image image) name ≡ symbol_in image name in
      let one = All-tail P FUNDAMENTAL.now (CLASS.now ∷ SINGLE.now ∷ MANY.now ∷ POINTER.now ∷ PROFILE.now ∷ []) (law_of_names file image h) in
      let two = All-tail P CLASS.now (SINGLE.now ∷ MANY.now ∷ POINTER.now ∷ PROFILE.now ∷ []) one in
      let three = All-tail P SINGLE.now (MANY.now ∷ POINTER.now ∷ PROFILE.now ∷ []) two in
      let four = All-tail P MANY.now (POINTER.now ∷ PROFILE.now ∷ []) three in
      All-head P PROFILE.now [] (All-tail P POINTER.now (PROFILE.now ∷ []) four)

  by_symbol : profile_of (rewritten_image image) ≡ profile_by (option_and_then (word_of (rewritten_image image)) (symbol_in image PROFILE_SYMBOL.now))
  unfolding profile_of
  by_symbol = ap (λ (o : Option ℕ). profile_by (option_and_then (word_of (rewritten_image image)) o)) symbol

  word_is : (a : ℕ) (o : Option Segment) → find (holds_word a) (image.segments ++ new) ≡ o → word_of (rewritten_image image) a ≡ option_map (word_in a) o
  word_is a o e = ap (option_map (word_in a)) (ap (find (holds_word a)) segments ∙ e)

  same : IsProfileBelow image → profile_of (rewritten_image image) ≡ profile_of image
  unfolding profile_of
  same below = by_symbol ∙ by (symbol_in image PROFILE_SYMBOL.now) below
    where
      by : (o : Option ℕ) → IfSome o (λ at. at < tables_start image) → profile_by (option_and_then (word_of (rewritten_image image)) o) ≡ profile_by (option_and_then (word_of image) o)
      by None b = refl
      by (Some a) b = ap profile_by (word_is a (find (holds_word a) image.segments) (none_more a image.segments new (none_below (tables_start image) a _ b)))

  second : profile_of image ≡ Two → profile_of (rewritten_image image) ≡ Two
  unfolding profile_of
  second is = by_symbol ∙ by (symbol_in image PROFILE_SYMBOL.now) is
    where
      by_word : (a : ℕ) (o : Option Segment) → find (holds_word a) image.segments ≡ o → profile_by (option_map (word_in a) o) ≡ Two → profile_by (word_of (rewritten_image image) a) ≡ Two
      by_word a None e t = absurd cc
      by_word a (Some s) e t = ap profile_by (word_is a (Some s) (found a image.segments new s e)) ∙ t

      by : (o : Option ℕ) → profile_by (option_and_then (word_of image) o) ≡ Two → profile_by (option_and_then (word_of (rewritten_image image)) o) ≡ Two
      by None t = absurd cc
      by (Some a) t = by_word a (find (holds_word a) image.segments) refl t

pub law_of_profile : ProfileStays
law_of_profile = same

pub law_of_second : SecondProfileStays
law_of_second = second
