-- One address more.
use Rattle.std.proofs.Common.{◌≡◌, ℕ, zero, suc, ◌+◌, Bool, true, false, cond, List, [], ◌∷◌, ◌++◌, map, filter, refl, ap, ◌∙◌, arith, append-nil, append_assoc}
use Rattle.std.specs.List.{range_with_len}
use Rattle.elf_image.specs.Image.{Image, is_code_in}
use Rattle.gnu_rewrite.specs.Marks.{is_marked, marks_from}

abbrev mark_at : Image → ℕ → ℕ × Bool
mark_at image a = (a, is_code_in image a)

abbrev marks_of_all : Image → ℕ → List ℕ → List (ℕ × Bool)
marks_of_all image start these = map (mark_at image) (filter (is_marked image start) these)

range_more : (a n : ℕ) → range_with_len a (n + 1) ≡ range_with_len a n ++ (a + n) ∷ []
range_more a zero = let e : a ≡ a + 0 = omega arith in ap (λ (x : ℕ). x ∷ []) e
range_more a (suc n) =
    let e : suc n + 1 ≡ suc (n + 1) = omega arith in
    let f : a + 1 + n ≡ a + suc n = omega arith in
    ap (range_with_len a) e ∙ ap (λ (l : List ℕ). a ∷ l) (range_more (a + 1) n ∙ ap (λ (x : ℕ). range_with_len (a + 1) n ++ x ∷ []) f)

last_step : (image : Image) (b : Bool) (x : ℕ) (more : List ℕ) (tail : List (ℕ × Bool)) → map (mark_at image) more ≡ tail → map (mark_at image) (cond b (x ∷ more) more) ≡ cond b (mark_at image x ∷ tail) tail
last_step image true x more tail h = ap (λ (l : List (ℕ × Bool)). mark_at image x ∷ l) h
last_step image false x more tail h = h

cond_more : (b : Bool) (x : ℕ × Bool) (xs ys : List (ℕ × Bool)) → cond b (x ∷ (xs ++ ys)) (xs ++ ys) ≡ cond b (x ∷ xs) xs ++ ys
cond_more true x xs ys = refl
cond_more false x xs ys = refl

both : (image : Image) (start : ℕ) (these more : List ℕ) → marks_of_all image start (these ++ more) ≡ marks_of_all image start these ++ marks_of_all image start more
both image start [] more = refl
both image start (a ∷ these) more =
    last_step image (is_marked image start a) a (filter (is_marked image start) (these ++ more)) (marks_of_all image start these ++ marks_of_all image start more) (both image start these more)
    ∙ cond_more (is_marked image start a) (mark_at image a) (marks_of_all image start these) (marks_of_all image start more)
    ∙ ap (λ (l : List (ℕ × Bool)). l ++ marks_of_all image start more) (sym_step (is_marked image start a))
  where
    sym_step : (b : Bool) → cond b (mark_at image a ∷ marks_of_all image start these) (marks_of_all image start these) ≡ map (mark_at image) (cond b (a ∷ filter (is_marked image start) these) (filter (is_marked image start) these))
    sym_step true = refl
    sym_step false = refl

last_of : (image : Image) (b : Bool) (a : ℕ) → b ≡ true → map (mark_at image) (cond b (a ∷ []) []) ≡ mark_at image a ∷ []
last_of image true a h = refl
last_of image false a h = absurd cc

none_of : (image : Image) (b : Bool) (a : ℕ) → b ≡ false → map (mark_at image) (cond b (a ∷ []) []) ≡ []
none_of image true a h = absurd cc
none_of image false a h = refl

pub marks_more : (image : Image) (start n a : ℕ) → a ≡ start + n → is_marked image start a ≡ true → marks_from image start (n + 1) ≡ marks_from image start n ++ (a, is_code_in image a) ∷ []
marks_more image start n a e h =
    let f : a ≡ start + n = e in
    ap (marks_of_all image start) (range_more start n) ∙ both image start (range_with_len start n) ((start + n) ∷ [])
    ∙ ap (λ (l : List (ℕ × Bool)). marks_from image start n ++ l) (rw (← f) (last_of image (is_marked image start a) a h))

pub marks_same : (image : Image) (start n a : ℕ) → a ≡ start + n → is_marked image start a ≡ false → marks_from image start (n + 1) ≡ marks_from image start n
marks_same image start n a e h =
    let f : a ≡ start + n = e in
    ap (marks_of_all image start) (range_more start n) ∙ both image start (range_with_len start n) ((start + n) ∷ [])
    ∙ ap (λ (l : List (ℕ × Bool)). marks_from image start n ++ l) (rw (← f) (none_of image (is_marked image start a) a h)) ∙ append-nil (marks_from image start n)

pub marks_none : (image : Image) (start : ℕ) (xs : List (ℕ × Bool)) → xs ++ marks_from image start 0 ≡ xs
marks_none image start xs = append-nil xs

pub ruleset marking = (marks_more, marks_same, marks_none, append_assoc)
