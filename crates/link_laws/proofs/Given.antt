-- What a statement gives stands at its place in its section, with its fields among those of the object, and no other field in it.
use Rattle.asm_layout.specs.declared.walk.TheConstants.{MOST_BYTES}
use Rattle.std.proofs.Common.{◌≡◌, ℕ, ◌+◌, ◌≤◌, ◌<◌, ◌^◌, not, Bool, true, false, cond, List, [], ◌∷◌, ◌++◌, length, drop, Option, Some, None, refl, sym, ap, ◌∙◌, arith, length-append, subst}
use Rattle.std.proofs.lemmas.Bool.{true≢false}
use Rattle.std.proofs.lemmas.Grind.{flat_map-append}
use Rattle.asm_statements.specs.declared.statement.Stmt.{Stmt}
use Rattle.asm_statements.specs.declared.statement.StmtKind.{StmtKind}
use Rattle.asm_unwind.specs.declared.entry.EntryWords.{EntryWords}
use Rattle.thumb_isa.specs.declared.encode_fault.EncodeFault.{EncodeFault}
use Rattle.asm_layout.specs.declared.fault.AsmWhat.TheVariants.{UndefinedLocal, PoolTooFar, Placement}
use Rattle.asm_relocatable.specs.declared.place.Place.{Place}
use Rattle.asm_relocatable.specs.declared.place.Section.{Section}
use Rattle.asm_relocatable.specs.declared.place.Section.TheVariants.{Text, Rodata, Extab, Init, Bss}
use Rattle.asm_layout.specs.declared.walk.Walk.{Walk}
use Rattle.asm_layout.specs.Functions.{entries_of, no_frame}
use Rattle.asm_layout.specs.Labels.{NamePlace, labels_of}
use Rattle.asm_layout.specs.Sizes.{size_in, is_too_large}
use Rattle.asm_layout.specs.Walks.{start, next, cursor_place, coming_pool, walk_after, sizes_with_pool}
use Rattle.asm_relocatable.specs.Sections.{same_section}
use Rattle.asm_relocatable.specs.declared.object.Object.{Object}
use Rattle.asm_relocatable.specs.declared.object.Reloc.{Reloc}
use Rattle.asm_object.specs.Objects.{assembled_object}
use Rattle.asm_relocatable.specs.Fields.{StandInOrder, bytes_at}
use Rattle.asm_object.specs.Pieces.{Piece, own_piece, bytes_in, relocs_in, pieces_of}
use Rattle.asm_object.specs.Refusals.{are_names_known, encode_fault, encode_or, is_pool_too_far, is_misplaced, refusal}
use Rattle.asm_relocatable.specs.Relocations.{field_size}
use Rattle.asm_object.proofs.PlaceLaws.{Fewer, earlier, law_of_bytes, law_of_ends, none_after, none_parts, not_large, own_stands, refusal_parts, split, walks_on}
use Rattle.asm_object.proofs.ObjectLaws.{IsTaken, OfSection, AllOwn, of_in, all_own, all_stand, earlier_stand, ends_small, entries_count, same_is}
use Rattle.eh_link.specs.FieldLaw.{IsInNoField}
use Rattle.asm_laws.specs.RowLaw.{walk_over}
use Rattle.link_laws.specs.LabelLaw.{Has}
use Rattle.link_laws.proofs.Labels.{has_left, has_right}
use Rattle.asm_object.proofs.Statements.{walk_sets}
use Rattle.asm_layout.specs.Placing.{word_place, place_stmts_from}
use Rattle.asm_object.specs.After.{pieces_from, refusals_from}

-- ---- bytes in no field

outside_before : (j from at : ℕ) → j < from → from ≤ at → at ≤ j → ⊥
outside_before j from at h k l = omega (arith, h, k, l)

outside_after : (j at end : ℕ) → j < at → at ≤ end → end ≤ j → ⊥
outside_after j at end h k l = omega (arith, h, k, l)

-- in none of another section
none_elsewhere : (t s : Section) (relocs : List Reloc) (j : ℕ) → OfSection t relocs → same_section t s ≡ false → IsInNoField s j relocs
none_elsewhere t s [] j h e = tt
none_elsewhere t s (reloc ∷ more) j h e = ((λ f. true≢false (sym f.here ∙ ap (λ u. same_section u s) h.0.there ∙ e)), none_elsewhere t s more j h.1 e)

-- in none that stands after it
pub none_after_it : (s : Section) (from : ℕ) (relocs : List Reloc) (end j : ℕ) → StandInOrder from relocs end → j < from → IsInNoField s j relocs
none_after_it s from [] end j h lt = tt
none_after_it s from (reloc ∷ more) end j h lt =
    ((λ f. outside_before j from reloc.offset lt h.0 f.from), none_after_it s (reloc.offset + field_size reloc) more end j h.1 (omega (arith, lt, h.0)))

order_ends : (from : ℕ) (relocs : List Reloc) (end : ℕ) → StandInOrder from relocs end → from ≤ end
order_ends from [] end s = s
order_ends from (reloc ∷ more) end s = omega (arith, s.0, order_ends (reloc.offset + field_size reloc) more end s.1)

-- in none that ends before it
pub none_before_it : (s : Section) (from : ℕ) (relocs : List Reloc) (end j : ℕ) → StandInOrder from relocs end → end ≤ j → IsInNoField s j relocs
none_before_it s from [] end j h le = tt
none_before_it s from (reloc ∷ more) end j h le = (
  (λ f. outside_after j (reloc.offset + field_size reloc) end f.below (order_ends (reloc.offset + field_size reloc) more end h.1) le),
  none_before_it s (reloc.offset + field_size reloc) more end j h.1 le,
)

pub none_in_both : (s : Section) (xs ys : List Reloc) (j : ℕ) → IsInNoField s j xs → IsInNoField s j ys → IsInNoField s j (xs ++ ys)
none_in_both s [] ys j h k = k
none_in_both s (x ∷ xs) ys j h k = (h.0, none_in_both s xs ys j h.1 k)

abbrev the_none : List Reloc
the_none = []

relocs_both : (s : Section) (xs ys : List Piece) → relocs_in s (xs ++ ys) ≡ relocs_in s xs ++ relocs_in s ys
relocs_both s xs ys = flat_map-append (λ p. cond (same_section p.place.section s) p.relocs the_none) xs ys

-- ---- a statement where the walk stands

pub itself : (s : Section) → same_section s s ≡ true
itself Text = refl
itself Rodata = refl
itself Extab = refl
itself Init = refl
itself Bss = refl

record There (entries : List (Option EntryWords)) (labels : List NamePlace) (walk : Walk) (stmt : Stmt) (more : List Stmt) : Type 0 where
  word : Option ℕ
  word_is : word ≡ word_place walk stmt.kind (coming_pool entries walk (stmt ∷ more))
  known : are_names_known labels stmt.kind ≡ true
  unfaulted : encode_fault labels stmt.kind (cursor_place walk.at).offset word ≡ None
  in_place : is_misplaced stmt.kind walk.at.section ≡ false
  pieces : pieces_from entries labels walk (stmt ∷ more) ≡ own_piece labels stmt.kind (cursor_place walk.at) word ∷ pieces_from entries labels (next entries walk stmt.kind) more
  later : refusals_from entries labels (next entries walk stmt.kind) more ≡ []

names_known : (labels : List NamePlace) (kind : StmtKind) (section : Section) (place : ℕ) (word : Option ℕ) → refusal labels kind section place word ≡ None → are_names_known labels kind ≡ true
unfolding refusal
names_known labels kind section place word e = by (are_names_known labels kind) (encode_fault labels kind place word) (is_pool_too_far place word) (is_misplaced kind section) e
  where
    by : (k : Bool) (fault : Option EncodeFault) (far misplaced : Bool)
        → cond (not k) (Some UndefinedLocal) (encode_or fault (cond far (Some PoolTooFar) (cond misplaced (Some Placement) None))) ≡ None → k ≡ true
    by true fault far misplaced e = refl
    by false fault far misplaced e = absurd (cc)

there : (entries : List (Option EntryWords)) (labels : List NamePlace) (walk : Walk) (stmt : Stmt) (more : List Stmt) → walk_sets entries labels walk stmt.kind ≡ []
    → refusals_from entries labels walk (stmt ∷ more) ≡ [] → There entries labels walk stmt more
unfolding pieces_of place_stmts_from walk_after
there entries labels walk stmt more none r =
    let word = word_place walk stmt.kind (coming_pool entries walk (stmt ∷ more)) in
    let own = none_parts stmt.line (refusal labels stmt.kind walk.at.section (cursor_place walk.at).offset word) (refusals_from entries labels (next entries walk stmt.kind) more) r in
    let parts = refusal_parts labels stmt.kind walk.at.section (cursor_place walk.at).offset word own.0 in
    record {
      word = word;
      word_is = refl;
      known = names_known labels stmt.kind walk.at.section (cursor_place walk.at).offset word own.0;
      unfaulted = parts.0;
      in_place = parts.1.1;
      pieces = ap (λ set. (set ++ own_piece labels stmt.kind (cursor_place walk.at) word ∷ []) ++ pieces_from entries labels (next entries walk stmt.kind) more) none;
      later = own.1;
    }

abbrev no_bytes : List ℕ
no_bytes = []

-- its bytes come first, and those of the statements after it follow
own_first : (entries : List (Option EntryWords)) (labels : List NamePlace) (walk : Walk) (stmt : Stmt) (more : List Stmt) (t : There entries labels walk stmt more)
    → bytes_in walk.at.section (pieces_from entries labels walk (stmt ∷ more))
    ≡ (own_piece labels stmt.kind (cursor_place walk.at) t.word).bytes ++ bytes_in walk.at.section (pieces_from entries labels (next entries walk stmt.kind) more)
own_first entries labels walk stmt more t =
    let own = own_piece labels stmt.kind (cursor_place walk.at) t.word in
    let rest = pieces_from entries labels (next entries walk stmt.kind) more in
    ap (bytes_in walk.at.section) t.pieces
    ∙ ap (λ b. cond b own.bytes no_bytes ++ bytes_in walk.at.section rest) (ap (λ (p : Place). same_section p.section walk.at.section) (own_stands labels stmt.kind (cursor_place walk.at) t.word) ∙ itself walk.at.section)

relocs_first : (entries : List (Option EntryWords)) (labels : List NamePlace) (walk : Walk) (stmt : Stmt) (more : List Stmt) (t : There entries labels walk stmt more)
    → relocs_in walk.at.section (pieces_from entries labels walk (stmt ∷ more))
    ≡ (own_piece labels stmt.kind (cursor_place walk.at) t.word).relocs ++ relocs_in walk.at.section (pieces_from entries labels (next entries walk stmt.kind) more)
relocs_first entries labels walk stmt more t =
    let own = own_piece labels stmt.kind (cursor_place walk.at) t.word in
    let rest = pieces_from entries labels (next entries walk stmt.kind) more in
    ap (relocs_in walk.at.section) t.pieces
    ∙ ap (λ b. cond b own.relocs the_none ++ relocs_in walk.at.section rest) (ap (λ (p : Place). same_section p.section walk.at.section) (own_stands labels stmt.kind (cursor_place walk.at) t.word) ∙ itself walk.at.section)

-- the section ends after them, and the fields of the statements after it stand there
ends_at : (entries : List (Option EntryWords)) (labels : List NamePlace) (walk : Walk) (stmt : Stmt) (more : List Stmt) (t : There entries labels walk stmt more) → Fewer entries
    → refusals_from entries labels walk (stmt ∷ more) ≡ [] → is_too_large (sizes_with_pool (walk_after entries walk (stmt ∷ more))) ≡ false
    → size_in (next entries walk stmt.kind).at.sizes walk.at.section ≡ (cursor_place walk.at).offset + length (own_piece labels stmt.kind (cursor_place walk.at) t.word).bytes
unfolding walk_after
ends_at entries labels walk stmt more t few r h =
    let s = walk.at.section in
    let after = next entries walk stmt.kind in
    let own = own_piece labels stmt.kind (cursor_place walk.at) t.word in
    exact (size_in walk.at.sizes s) (size_in after.at.sizes s) (length own.bytes) (length (bytes_in s (pieces_from entries labels after more))) _ _
    (law_of_ends entries labels walk (stmt ∷ more) s few r h) (law_of_ends entries labels after more s few t.later h)
    (ap length (own_first entries labels walk stmt more t) ∙ length-append own.bytes (bytes_in s (pieces_from entries labels after more)))
  where
    exact : (a b own rest all end : ℕ) → a + all ≡ end → b + rest ≡ end → all ≡ own + rest → b ≡ a + own
    exact a b own rest all end h k l = omega (arith, h, k, l)

later_stand : (entries : List (Option EntryWords)) (labels : List NamePlace) (walk : Walk) (stmt : Stmt) (more : List Stmt) (t : There entries labels walk stmt more) → Fewer entries
    → is_too_large (sizes_with_pool (walk_after entries walk (stmt ∷ more))) ≡ false
    → StandInOrder (size_in (next entries walk stmt.kind).at.sizes walk.at.section) (relocs_in walk.at.section (pieces_from entries labels (next entries walk stmt.kind) more))
    (size_in (sizes_with_pool (walk_after entries (next entries walk stmt.kind) more)) walk.at.section)
unfolding walk_after
later_stand entries labels walk stmt more t few h = all_stand entries labels (next entries walk stmt.kind) more walk.at.section few t.later h

within : (a x end : ℕ) → a + x ≡ end → end ≤ MOST_BYTES → a ≤ MOST_BYTES
within a x end e h = omega (arith, e, h)

end_small : (entries : List (Option EntryWords)) (labels : List NamePlace) (walk : Walk) (stmt : Stmt) (more : List Stmt) (t : There entries labels walk stmt more) → Fewer entries
    → is_too_large (sizes_with_pool (walk_after entries walk (stmt ∷ more))) ≡ false
    → size_in (next entries walk stmt.kind).at.sizes walk.at.section ≤ MOST_BYTES
unfolding walk_after
end_small entries labels walk stmt more t few h =
    let s = walk.at.section in
    let after = next entries walk stmt.kind in
    within (size_in after.at.sizes s) _ (size_in (sizes_with_pool (walk_after entries after more)) s) (law_of_ends entries labels after more s few t.later h) (not_large (sizes_with_pool (walk_after entries after more)) s h)

-- ---- a statement of a source

joined_bytes : (s : Section) (stmts : List Stmt) → same_section s Bss ≡ false
    → bytes_at s (assembled_object stmts) ≡ bytes_in s (pieces_from (entries_of stmts) (labels_of (entries_of stmts) stmts) start stmts)
unfolding assembled_object
joined_bytes Text stmts e = refl
joined_bytes Rodata stmts e = refl
joined_bytes Extab stmts e = refl
joined_bytes Init stmts e = refl
joined_bytes Bss stmts e = absurd (true≢false e)

pub joined_relocs : (stmts : List Stmt)
    → (assembled_object stmts).relocs
    ≡ relocs_in Text (pieces_from (entries_of stmts) (labels_of (entries_of stmts) stmts) start stmts)
    ++ relocs_in Rodata (pieces_from (entries_of stmts) (labels_of (entries_of stmts) stmts) start stmts)
    ++ relocs_in Extab (pieces_from (entries_of stmts) (labels_of (entries_of stmts) stmts) start stmts)
    ++ relocs_in Init (pieces_from (entries_of stmts) (labels_of (entries_of stmts) stmts) start stmts)
unfolding assembled_object
joined_relocs stmts = refl

-- fields of a section are among those of the object
pub has_of_section : (s : Section) (pieces : List Piece) (reloc : Reloc) → same_section s Bss ≡ false → Has (relocs_in s pieces) reloc
    → Has (relocs_in Text pieces ++ relocs_in Rodata pieces ++ relocs_in Extab pieces ++ relocs_in Init pieces) reloc
has_of_section Text pieces reloc e h =
    has_left (relocs_in Text pieces ++ relocs_in Rodata pieces ++ relocs_in Extab pieces) (relocs_in Init pieces) reloc
    (has_left (relocs_in Text pieces ++ relocs_in Rodata pieces) (relocs_in Extab pieces) reloc (has_left (relocs_in Text pieces) (relocs_in Rodata pieces) reloc h))
has_of_section Rodata pieces reloc e h =
    has_left (relocs_in Text pieces ++ relocs_in Rodata pieces ++ relocs_in Extab pieces) (relocs_in Init pieces) reloc
    (has_left (relocs_in Text pieces ++ relocs_in Rodata pieces) (relocs_in Extab pieces) reloc (has_right (relocs_in Text pieces) (relocs_in Rodata pieces) reloc h))
has_of_section Extab pieces reloc e h =
    has_left (relocs_in Text pieces ++ relocs_in Rodata pieces ++ relocs_in Extab pieces) (relocs_in Init pieces) reloc
    (has_right (relocs_in Text pieces ++ relocs_in Rodata pieces) (relocs_in Extab pieces) reloc h)
has_of_section Init pieces reloc e h = has_right (relocs_in Text pieces ++ relocs_in Rodata pieces ++ relocs_in Extab pieces) (relocs_in Init pieces) reloc h
has_of_section Bss pieces reloc e h = absurd (true≢false e)

-- in no field of a section is in none of the object
pub none_of_section : (s : Section) (pieces : List Piece) (j : ℕ) → AllOwn pieces → IsInNoField s j (relocs_in s pieces)
    → IsInNoField s j (relocs_in Text pieces ++ relocs_in Rodata pieces ++ relocs_in Extab pieces ++ relocs_in Init pieces)
none_of_section s pieces j own h =
    none_in_both s (relocs_in Text pieces ++ relocs_in Rodata pieces ++ relocs_in Extab pieces) (relocs_in Init pieces) j
    (none_in_both s (relocs_in Text pieces ++ relocs_in Rodata pieces) (relocs_in Extab pieces) j
    (none_in_both s (relocs_in Text pieces) (relocs_in Rodata pieces) j (one Text) (one Rodata)) (one Extab)) (one Init)
  where
    one : (t : Section) → IsInNoField s j (relocs_in t pieces)
    one t = by (same_section t s) refl
      where
        by : (b : Bool) → same_section t s ≡ b → IsInNoField s j (relocs_in t pieces)
        by true e = let P : Section → Type 0 = λ u. IsInNoField s j (relocs_in u pieces) in subst P (sym (same_is t s e)) h
        by false e = none_elsewhere t s (relocs_in t pieces) j (of_in t pieces own) e

-- what a statement that sets no pieces of its own gives: its bytes at its place, its fields, and that no other field lies in them
pub record Given (stmts before : List Stmt) (kind : StmtKind) (object : Object) : Type 0 where
  pub in_place : is_misplaced kind (walk_over stmts before).at.section ≡ false
  pub has_bytes : same_section (walk_over stmts before).at.section Bss ≡ false
  pub word : Option ℕ
  pub rest : List Stmt
  pub rest_is : stmts ≡ before ++ rest
  pub word_is : word ≡ word_place (walk_over stmts before) kind (coming_pool (entries_of stmts) (walk_over stmts before) rest)
  pub known : are_names_known (labels_of (entries_of stmts) stmts) kind ≡ true
  pub unfaulted : encode_fault (labels_of (entries_of stmts) stmts) kind (cursor_place (walk_over stmts before).at).offset word ≡ None
  pub after : List ℕ
  pub bytes :
      drop (cursor_place (walk_over stmts before).at).offset (bytes_at (walk_over stmts before).at.section object)
      ≡ (own_piece (labels_of (entries_of stmts) stmts) kind (cursor_place (walk_over stmts before).at) word).bytes ++ after
  pub small : (cursor_place (walk_over stmts before).at).offset + length (own_piece (labels_of (entries_of stmts) stmts) kind (cursor_place (walk_over stmts before).at) word).bytes ≤ MOST_BYTES
  pub fields : (reloc : Reloc) → Has (own_piece (labels_of (entries_of stmts) stmts) kind (cursor_place (walk_over stmts before).at) word).relocs reloc → Has object.relocs reloc
  pub others :
      (j : ℕ) → (cursor_place (walk_over stmts before).at).offset ≤ j
      → j < (cursor_place (walk_over stmts before).at).offset + length (own_piece (labels_of (entries_of stmts) stmts) kind (cursor_place (walk_over stmts before).at) word).bytes
      → IsInNoField (walk_over stmts before).at.section j (own_piece (labels_of (entries_of stmts) stmts) kind (cursor_place (walk_over stmts before).at) word).relocs
      → IsInNoField (walk_over stmts before).at.section j object.relocs

fewer : (a b : ℕ) → a ≤ b → b < 2 ^ 64 → a < 2 ^ 64
fewer a b h k = omega (arith, h, k)

-- a statement that is data or an instruction, in a section that has bytes
pub given : (stmts before more : List Stmt) (line : ℕ) (kind : StmtKind) (object : Object) → stmts ≡ before ++ record { line = line; kind = kind } ∷ more → length stmts < 2 ^ 64 → IsTaken stmts object
    → walk_sets (entries_of stmts) (labels_of (entries_of stmts) stmts) (walk_over stmts before) kind ≡ []
    → (is_misplaced kind (walk_over stmts before).at.section ≡ false → same_section (walk_over stmts before).at.section Bss ≡ false) → Given stmts before kind object
given stmts before more line kind object same few t none has =
    let entries = entries_of stmts in
    let labels = labels_of entries stmts in
    let walk = walk_over stmts before in
    let s = walk.at.section in
    let stmt : Stmt = record { line = line; kind = kind } in
    let rest = stmt ∷ more in
    let few_entries = fewer _ _ (entries_count no_frame stmts) few in
    let R : List Stmt → Type 0 = λ l. refusals_from entries labels start l ≡ [] in
    let T : List Stmt → Type 0 = λ l. is_too_large (sizes_with_pool (walk_after entries start l)) ≡ false in
    let unrefused = subst R same t.unrefused in
    let large = subst T same (ends_small entries start 0 stmts t.small) in
    let r = none_after entries labels start before rest unrefused in
    let h : is_too_large (sizes_with_pool (walk_after entries walk rest)) ≡ false = ap (λ w. is_too_large (sizes_with_pool w)) (sym (walks_on entries start before rest)) ∙ large in
    let own = there entries labels walk stmt more none r in
    let piece = own_piece labels kind (cursor_place walk.at) own.word in
    let bytes_there = has own.in_place in
    let pieces = pieces_from entries labels start stmts in
    let first = earlier entries labels start before rest in
    let parts : pieces ≡ first ++ pieces_from entries labels walk rest = ap (pieces_from entries labels start) same ∙ split entries labels start before rest in
    let relocs : relocs_in s pieces ≡ relocs_in s first ++ (piece.relocs ++ relocs_in s (pieces_from entries labels (next entries walk kind) more)) =
    ap (relocs_in s) parts ∙ relocs_both s first (pieces_from entries labels walk rest) ∙ ap (λ l. relocs_in s first ++ l) (relocs_first entries labels walk stmt more own) in
    let object_relocs = ap (λ (o : Object). o.relocs) t.object_is ∙ joined_relocs stmts in
    let end = ends_at entries labels walk stmt more own few_entries r h in
    record {
      in_place = own.in_place;
      has_bytes = bytes_there;
      word = own.word;
      rest = rest;
      rest_is = same;
      word_is = own.word_is;
      known = own.known;
      unfaulted = own.unfaulted;
      after = bytes_in s (pieces_from entries labels (next entries walk kind) more);
      bytes =
          ap (λ (o : Object). drop (cursor_place walk.at).offset (bytes_at s o)) t.object_is
          ∙ ap (drop (cursor_place walk.at).offset) (joined_bytes s stmts bytes_there ∙ ap (λ l. bytes_in s (pieces_from entries labels start l)) same)
          ∙ law_of_bytes entries labels before rest s few_entries unrefused large
          ∙ own_first entries labels walk stmt more own;
      small = let P : ℕ → Type 0 = λ n. n ≤ MOST_BYTES in subst P end (end_small entries labels walk stmt more own few_entries h);
      fields = λ reloc has_it.
          let P : List Reloc → Type 0 = λ l. Has l reloc in
          subst P (sym object_relocs)
          (has_of_section s pieces reloc bytes_there
          (subst P (sym relocs) (has_right (relocs_in s first) _ reloc (has_left piece.relocs (relocs_in s (pieces_from entries labels (next entries walk kind) more)) reloc has_it))));
      others = λ j from below none_own.
          let P : List Reloc → Type 0 = λ l. IsInNoField s j l in
          subst P (sym object_relocs)
          (none_of_section s pieces j (all_own entries labels start stmts)
          (subst P (sym relocs)
          (none_in_both s (relocs_in s first) _ j
          (none_before_it s _ (relocs_in s first) (size_in walk.at.sizes s) j (earlier_stand entries labels start before rest s few_entries unrefused large) from)
          (none_in_both s piece.relocs _ j none_own
          (none_after_it s (size_in (next entries walk kind).at.sizes s) (relocs_in s (pieces_from entries labels (next entries walk kind) more)) _ j (later_stand entries labels walk stmt more own few_entries h) (omega (arith, below, end)))))));
    }
