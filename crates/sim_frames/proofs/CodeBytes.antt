-- The codes that cover a site of an image are bytes, as those of its segments are; so those of an accepted image are recipes of the kind that
-- unwinding wants.
use Rattle.std.proofs.Common.{ℕ, ◌<◌, List, [], ◌∷◌, arith, ◌++◌, zero, suc, drop, ◌^◌, ◌==◌, Bool, true, false, cond, take, ◌≡◌, ◌||◌, not, nat_lt, subst, length, ◌-◌, map, Option, Some, None, refl}
use Rattle.std.specs.Prelude.{All, Ok, Err, Contains, Result, find, option_map}
use Rattle.std.proofs.lemmas.List.Elements.{All-head, All-tail, All-contains}
use Rattle.std.specs.List.{flat_map}
use Rattle.std.specs.Result.{result_ok}
use Rattle.std.proofs.lemmas.Option.{same_Some, none-some}
use Rattle.byteorder.specs.Endian.{little_number}
use Rattle.eh_bytecode.specs.Codes.{words_in, is_reserved, inline_codes, codes_of_words, table_codes}
use Rattle.eh_codes.specs.Words.{bytes_of_word, personality_of_word, code_in_first, code_words_after, code_of_words}
use Rattle.eh_codes.specs.declared.words.TheConstants.{COMPACT_MARK}
use Rattle.eh_bytecode.specs.declared.codes.CodesFault.TheVariants.{Generic, Reserved, Short}
use Rattle.elf_image.specs.Image.{Image}
use Rattle.eh_word.specs.Bytes.{zeros}
use Rattle.eh_bus.specs.Built.{zeros_at}
use Rattle.eh_bus.specs.Map.{IsMap}
use Rattle.eh_bus.specs.Segment.{Segment, AreBytes}
use Rattle.eh_bus.specs.declared.map.TheConstants.{POOL_SIZE, POOL_START, STACK_SIZE, STACK_START}
use Rattle.run_images.specs.Start.{image_start, memory_segment}
use Rattle.eh_codes.specs.declared.row.Entry.{Entry}
use Rattle.eh_codes.specs.declared.row.EntryBody.{EntryBody}
use Rattle.eh_codes.specs.declared.row.EntryBody.TheVariants.{CantUnwind, Inline, Table}
use Rattle.eh_index.specs.Covering.{covering}
use Rattle.eh_index.specs.Places.{holds_byte, bytes_at, table_of}
use Rattle.eh_index.specs.Rows.{entries_of}
use Rattle.eh_bytecode.specs.declared.codes.CodesFault.{CodesFault}
use Rattle.eh_phase.specs.Frames.{codes_of, with_items, entry_contents, entry_contents_at}
use Rattle.eh_phase.specs.declared.walk.CoveringEntry.{CoveringEntry}
use Rattle.frame_dataflow.proofs.Work.{contains_tail}
use Rattle.frame_flow.proofs.Instance.{mapped}
use Rattle.frame_check.specs.Accepts.{Accepted}
use Rattle.elf_image.specs.Segments as loaded
use Rattle.sim_relation.specs.sim_code.Recipes.{Bytes}
use Rattle.sim_relation.proofs.sim_code.Finds.{found_in}
use Rattle.sim_relation.specs.Stands.{IsProgram}
use Rattle.sim_relation.proofs.sim_code.CodesAre.{codes_are}
use Rattle.sim_frames.proofs.Sites.{CodesAreRecipes}

-- ---- bytes

bytes_of : (xs : List ℕ) → All (λ (b : ℕ). b < 256) xs → Bytes xs
bytes_of [] a = tt
bytes_of (x ∷ xs) a = (let h = All-head (λ (b : ℕ). b < 256) x xs a in omega (arith, h), bytes_of xs (All-tail (λ (b : ℕ). b < 256) x xs a))

bytes_left : (xs ys : List ℕ) → Bytes (xs ++ ys) → Bytes xs
bytes_left [] ys b = tt
bytes_left (x ∷ xs) ys b = (b.0, bytes_left xs ys b.1)

bytes_both : (xs ys : List ℕ) → Bytes xs → Bytes ys → Bytes (xs ++ ys)
bytes_both [] ys a b = b
bytes_both (x ∷ xs) ys a b = (a.0, bytes_both xs ys a.1 b)

bytes_drop : (n : ℕ) (xs : List ℕ) → Bytes xs → Bytes (drop n xs)
bytes_drop zero xs b = b
bytes_drop (suc n) [] b = tt
bytes_drop (suc n) (x ∷ xs) b = bytes_drop n xs b.1

-- ---- words

abbrev Words : List ℕ → Type 0
Words [] = Unit {0}
Words (w ∷ more) = (w < 2 ^ 32) × Words more

words_small : (bytes : List ℕ) → Bytes bytes → Words (words_in bytes)
words_small [] b = tt
words_small (x ∷ []) b = tt
words_small (x ∷ y ∷ []) b = tt
words_small (x ∷ y ∷ z ∷ []) b = tt
words_small (x ∷ y ∷ z ∷ u ∷ more) b =
    let h = b.0 in
    let i = b.1.0 in
    let j = b.1.1.0 in
    let k = b.1.1.1.0 in
    (let l : little_number 4 (x ∷ y ∷ z ∷ u ∷ []) < 2 ^ 32 = omega (arith, h, i, j, k) in l, words_small more b.1.1.1.1)

word_bytes : (w : ℕ) → w < 2 ^ 32 → Bytes (bytes_of_word w)
word_bytes w h = (omega (arith, h), (omega arith, (omega arith, (omega arith, tt))))

first_bytes : (w : ℕ) → Bytes (code_in_first w)
first_bytes w = go (personality_of_word w == 0)
  where
    go : (b : Bool) → Bytes (drop (cond b 1 2) (bytes_of_word w))
    go true = (omega arith, (omega arith, (omega arith, tt)))
    go false = (omega arith, (omega arith, tt))

after_bytes : (n : ℕ) (ws : List ℕ) → Words ws → Bytes (flat_map bytes_of_word (take n ws))
after_bytes zero ws h = tt
after_bytes (suc n) [] h = tt
after_bytes (suc n) (w ∷ more) h = bytes_both (bytes_of_word w) (flat_map bytes_of_word (take n more)) (word_bytes w h.0) (after_bytes n more h.1)

-- ---- codes

inline_bytes : (word : ℕ) (codes : List ℕ) → inline_codes word ≡ Ok codes → Bytes codes
inline_bytes word codes e = go (nat_lt word COMPACT_MARK) (is_reserved word || not (personality_of_word word == 0)) e
  where
    go : (a b : Bool) → cond a (Err Generic) (cond b (Err Reserved) (Ok (code_in_first word))) ≡ Ok codes → Bytes codes
    go true b e = absurd cc
    go false true e = absurd cc
    go false false e = let same : code_in_first word ≡ codes = cc in subst Bytes same (first_bytes word)

words_bytes : (ws codes : List ℕ) → Words ws → codes_of_words ws ≡ Ok codes → Bytes codes
words_bytes [] codes h e = absurd cc
words_bytes (first ∷ more) codes h e = go (nat_lt first COMPACT_MARK) (is_reserved first) (nat_lt (length more) (code_words_after first)) e
  where
    go : (a b c : Bool) → cond a (Err Generic) (cond b (Err Reserved) (cond c (Err Short) (Ok (code_of_words (first ∷ more))))) ≡ Ok codes → Bytes codes
    go true b c e = absurd cc
    go false true c e = absurd cc
    go false false true e = absurd cc
    go false false false e =
        let same : code_of_words (first ∷ more) ≡ codes = cc in
        subst Bytes same (bytes_both (code_in_first first) (flat_map bytes_of_word (take (code_words_after first) more)) (first_bytes first) (after_bytes (code_words_after first) more h.1))

table_bytes : (bytes codes : List ℕ) → Bytes bytes → table_codes bytes ≡ Ok codes → Bytes codes
unfolding table_codes
table_bytes bytes codes b e = words_bytes (words_in bytes) codes (words_small bytes b) e

-- ---- an image's

module _ (image : Image) (map_is : IsMap (image_start image).memory) where
  segment_bytes : (s : loaded.Segment) → Contains image.segments s → Bytes s.bytes
  segment_bytes s c =
      let there : Contains (image_start image).memory.segments (memory_segment s) =
      contains_tail (memory_segment s) (zeros_at STACK_START STACK_SIZE) (zeros_at POOL_START POOL_SIZE ∷ map memory_segment image.segments) (contains_tail (memory_segment s) (zeros_at POOL_START POOL_SIZE) (map memory_segment image.segments) (mapped memory_segment image.segments s c)) in
      bytes_left s.bytes (zeros (s.size - length s.bytes)) (bytes_of (s.bytes ++ zeros (s.size - length s.bytes))
      (All-contains (λ (t : Segment). AreBytes t.bytes) (image_start image).memory.segments (memory_segment s) map_is.segments.bytes there))

  at_bytes : (a : ℕ) (bytes : List ℕ) → bytes_at image.segments a ≡ Some bytes → Bytes bytes
  at_bytes a bytes e = go (find (holds_byte a) image.segments) refl e
    where
      go : (o : Option loaded.Segment) → find (holds_byte a) image.segments ≡ o → option_map (λ (s : loaded.Segment). drop (a - s.start) s.bytes) o ≡ Some bytes → Bytes bytes
      go None is e = absurd (none-some bytes e)
      go (Some s) is e = subst Bytes (same_Some (drop (a - s.start) s.bytes) bytes e) (bytes_drop (a - s.start) s.bytes (segment_bytes s (found_in (holds_byte a) image.segments s is).0))

  body_bytes : (body : EntryBody) (o : Option (List ℕ)) (codes : List ℕ) → ((bytes : List ℕ) → o ≡ Some bytes → Bytes bytes) → codes_of body o ≡ Some codes → Bytes codes
  body_bytes CantUnwind o codes all e = absurd (none-some codes e)
  body_bytes (Inline word) o codes all e = go (inline_codes word) refl e
    where
      go : (r : Result (List ℕ) CodesFault) → inline_codes word ≡ r → result_ok r ≡ Some codes → Bytes codes
      go (Err fault) is e = absurd (none-some codes e)
      go (Ok c) is e = subst Bytes (same_Some c codes e) (inline_bytes word c is)
  body_bytes (Table a) None codes all e = absurd (none-some codes e)
  body_bytes (Table a) (Some bytes) codes all e = go (table_codes bytes) refl e
    where
      go : (r : Result (List ℕ) CodesFault) → table_codes bytes ≡ r → result_ok r ≡ Some codes → Bytes codes
      go (Err fault) is e = absurd (none-some codes e)
      go (Ok c) is e = subst Bytes (same_Some c codes e) (table_bytes bytes c (all bytes refl) is)

  entry_bytes : (e : Entry) (bytes : List ℕ) → table_of image e ≡ Some bytes → Bytes bytes
  entry_bytes e bytes is = go e.body is
    where
      go : (body : EntryBody) → table_of image (record e { body = body }) ≡ Some bytes → Bytes bytes
      go CantUnwind is = absurd (none-some bytes is)
      go (Inline word) is = absurd (none-some bytes is)
      go (Table a) is = at_bytes a bytes is

  pub covered_bytes : (site : ℕ) (covered : CoveringEntry) → entry_contents_at image site ≡ Some covered → Bytes covered.codes
  unfolding entry_contents_at
  covered_bytes site covered e = go (covering (entries_of image) site) e
    where
      some : (x : Entry) (o : Option (List ℕ)) → codes_of x.body (table_of image x) ≡ o → option_map (with_items x (table_of image x)) o ≡ Some covered → Bytes covered.codes
      some x None is e = absurd (none-some covered e)
      some x (Some codes) is e = subst (λ (c : CoveringEntry). Bytes c.codes) (same_Some (with_items x (table_of image x) codes) covered e) (body_bytes x.body (table_of image x) codes (entry_bytes x) is)

      go : (o : Option Entry) → entry_contents image o ≡ Some covered → Bytes covered.codes
      go None e = absurd (none-some covered e)
      go (Some x) e = some x (codes_of x.body (table_of image x)) refl e

-- the codes of an accepted image
pub codes_are_recipes : (x : Accepted) → IsProgram x → CodesAreRecipes x
codes_are_recipes x is site covered of covers is_recipe once = codes_are covered.codes of (covered_bytes x.image is.map site covered covers) is_recipe once
