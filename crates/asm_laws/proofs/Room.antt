-- `.align` goes on to a multiple, and zeroed data is counted.
use Rattle.asm_layout.specs.declared.walk.TheConstants.{MOST_BYTES}
use Rattle.std.proofs.Common.{◌≡◌, ℕ, pos, suc, zero, ◌%◌, ◌^◌, ◌≤◌, ◌<◌, Bool, false, List, [], ◌∷◌, ◌++◌, length, Ok, refl, sym, ap, ◌∙◌, arith, append-nil, subst}
use Rattle.eh_word.specs.Bytes.{gap, next_multiple}
use Rattle.asm_statements.specs.declared.statement.Stmt.{Stmt}
use Rattle.asm_statements.specs.declared.statement.StmtKind.TheVariants as statement
use Rattle.asm_relocatable.specs.declared.place.Section.{Section}
use Rattle.asm_relocatable.specs.declared.place.Section.TheVariants.{Text, Rodata, Extab, Init, Bss}
use Rattle.asm_layout.specs.declared.walk.Sizes.{Sizes}
use Rattle.asm_layout.specs.declared.walk.Walk.{Walk}
use Rattle.asm_layout.specs.Functions.{entries_of, no_frame}
use Rattle.asm_layout.specs.Labels.{labels_of}
use Rattle.asm_layout.specs.Sizes.{sum_64, multiple, size_in, sizes_with_more, is_too_large}
use Rattle.asm_layout.specs.Walks.{start, next, cursor_place, walk_after, sizes_with_pool}
use Rattle.asm_relocatable.specs.declared.object.Object.{Object}
use Rattle.asm_object.specs.After.{refusals_from}
use Rattle.asm_object.specs.Objects.{assembled_object, object_of}
use Rattle.asm_object.specs.Pieces.{place_at}
use Rattle.asm_object.proofs.LabelLaws.{small_after}
use Rattle.asm_object.proofs.ObjectLaws.{taken, ends_small, entries_count}
use Rattle.asm_object.proofs.PlaceLaws.{walks_on}
use Rattle.asm_laws.specs.RowLaw.{walk_over}
use Rattle.asm_laws.specs.RoomLaw.{align_at, AlignsReachMultiples, ZeroedDataIsCounted}

fewer : (a b : ℕ) → a ≤ b → b < 2 ^ 64 → a < 2 ^ 64
fewer a b h k = omega (arith, h, k)

-- a source has few bytes in a section after some statements
few_bytes : (stmts before more : List Stmt) (object : Object) (section : Section) → stmts ≡ before ++ more → length stmts < 2 ^ 64 → object_of stmts ≡ Ok object
    → size_in (walk_over stmts before).at.sizes section ≤ MOST_BYTES
few_bytes stmts before more object section same few e =
    let entries = entries_of stmts in
    let labels = labels_of entries stmts in
    let t = taken stmts object e in
    let R : List Stmt → Type 0 = λ s. refusals_from entries labels start s ≡ [] in
    let T : List Stmt → Type 0 = λ s. is_too_large (sizes_with_pool (walk_after entries start s)) ≡ false in
    small_after entries labels before more section (fewer _ _ (entries_count no_frame stmts) few) (subst R same t.unrefused) (subst T same (ends_small entries start 0 stmts t.small))

grown_here : (sizes : Sizes) (section : Section) (by : ℕ) → size_in (sizes_with_more sizes section by) section ≡ sum_64 (size_in sizes section) by
grown_here sizes Text by = refl
grown_here sizes Rodata by = refl
grown_here sizes Extab by = refl
grown_here sizes Init by = refl
grown_here sizes Bss by = refl

-- the gap to a multiple leads to it
filled : (n m : ℕ) → n ≤ 3 → m ≤ MOST_BYTES → sum_64 m (gap m (multiple (pos n))) ≡ next_multiple m (2 ^ n)
filled zero m h k = omega (arith, k)
filled (suc zero) m h k = omega (arith, k)
filled (suc (suc zero)) m h k = omega (arith, k)
filled (suc (suc (suc zero))) m h k = omega (arith, k)
filled (suc (suc (suc (suc n)))) m h k = absurd (omega (arith, h))

pub law_of_aligns : AlignsReachMultiples
unfolding walk_after
law_of_aligns before more line n object low few e =
    let stmts = before ++ align_at line n ∷ more in
    let entries = entries_of stmts in
    let walk = walk_over stmts before in
    let section = walk.at.section in
    let on : walk_over stmts (before ++ align_at line n ∷ []) ≡ next entries walk (statement.Align (pos n)) = walks_on entries start before (align_at line n ∷ []) in
    ap (λ (w : Walk). cursor_place w.at) on
    ∙ ap (place_at section) (grown_here walk.at.sizes section (gap (size_in walk.at.sizes section) (multiple (pos n)))
    ∙ filled n (size_in walk.at.sizes section) low (few_bytes stmts before (align_at line n ∷ more) object section refl few e))

joined_bss : (stmts : List Stmt) → (assembled_object stmts).bss ≡ (walk_after (entries_of stmts) start stmts).at.sizes.bss % 2 ^ 32
unfolding assembled_object
joined_bss stmts = refl

pub law_of_zeroed : ZeroedDataIsCounted
law_of_zeroed stmts object few e =
    ap (λ (o : Object). o.bss) (taken stmts object e).object_is ∙ joined_bss stmts
    ∙ low (walk_over stmts stmts).at.sizes.bss (few_bytes stmts stmts [] object Bss (sym (append-nil stmts)) few e)
  where
    low : (n : ℕ) → n ≤ MOST_BYTES → n % 2 ^ 32 ≡ n
    low n h = omega (arith, h)
