-- Branches and literals of a source lead to the labels of its own text.
use Rattle.asm_layout.specs.declared.walk.TheConstants.{MOST_BYTES}
use Rattle.std.proofs.Common.{◌≡◌, ℕ, ◌+◌, ◌-◌, ◌*◌, ◌/◌, ◌%◌, ◌^◌, ◌≤◌, ◌<◌, ◌⊎◌, inl, inr, ◌||◌, Bool, true, false, cond, List, [], ◌∷◌, ◌++◌, length, drop, map, ℤ, pos, ◌-ℤ◌, Option, Some, None, Result, Ok, Err, refl, sym, ap, ◌∙◌, arith, subst}
use Rattle.std.proofs.lemmas.Bool.{true≢false}
use Rattle.std.proofs.lemmas.Bool.Decides.{nat_tests}
use Rattle.std.proofs.lemmas.Int.{ints}
use Rattle.std.specs.Result.{result_err}
use Rattle.eh_word.specs.Names.{same_bytes}
use Rattle.asm_statements.specs.declared.statement.Stmt.{Stmt}
use Rattle.asm_statements.specs.declared.statement.StmtKind.{StmtKind}
use Rattle.asm_statements.specs.declared.statement.StmtKind.TheVariants as statement
use Rattle.asm_unwind.specs.declared.entry.EntryWords.{EntryWords}
use Rattle.thumb_isa.specs.declared.instr.Instr.{Instr}
use Rattle.thumb_isa.specs.declared.instr.Instr.TheVariants as instr
use Rattle.thumb_encode.specs.Codes.{encode_result}
use Rattle.thumb_encode.specs.declared.code.Code.{Code}
use Rattle.thumb_isa.specs.declared.encode_fault.EncodeFault.{EncodeFault}
use Rattle.thumb_core.specs.Registers.{base as core_base}
use Rattle.thumb_core.specs.Data.{forward}
use Rattle.asm_relocatable.specs.declared.place.Place.{Place}
use Rattle.asm_relocatable.specs.declared.place.Section.TheVariants.{Text}
use Rattle.asm_layout.specs.declared.walk.Walk.{Walk}
use Rattle.asm_layout.specs.Functions.{entries_of, no_frame}
use Rattle.asm_layout.specs.Labels.{NamePlace, find, is_among, label_unless, new_labels, labels_from, labels_of, name_with_label, labels_in}
use Rattle.asm_layout.specs.Sizes.{size_in, is_instruction, is_too_large}
use Rattle.asm_layout.specs.Walks.{start, next, cursor_place, coming_pool, walk_after, sizes_with_pool}
use Rattle.asm_relocatable.specs.Sections.{same_section}
use Rattle.asm_relocatable.specs.declared.object.Object.{Object}
use Rattle.asm_relocatable.specs.declared.object.ObjSymbol.{ObjSymbol}
use Rattle.asm_object.specs.Instructions.{in_text, text_place, branch, branch_to, place_difference, pc, base, literal, label_literal, literal_to}
use Rattle.asm_object.specs.Objects.{assembled_object, symbol_of}
use Rattle.asm_object.specs.ObjectLaw.{symbol_place}
use Rattle.asm_object.specs.Pieces.{Piece, place_at, own_piece, bytes_of_code, bytes_in, pieces_of}
use Rattle.asm_object.specs.Refusals.{encode_fault, refusal}
use Rattle.asm_object.proofs.PlaceLaws.{Fewer, own_stands, none_parts, none_after, refusal_parts, not_false, not_large, text_here, law_of_ends, law_of_bytes}
use Rattle.asm_object.proofs.ObjectLaws.{IsTaken, taken, ends_small, entries_count}
use Rattle.asm_object.proofs.LabelLaws.{small_after}
use Rattle.asm_laws.specs.RowLaw.{walk_over}
use Rattle.asm_laws.specs.MarkLaw.{text_after}
use Rattle.eh_link.proofs.Branches.{bl_means, b_means, b_cond_means, bl_is_small, b_is_small, b_cond_is_small}
use Rattle.link_laws.specs.BranchLaw.{GoesTo, ReachesFromItsBase, Leads, BranchesLead, CondBranchesLead, CallsLead, WideBranchesLead, ZeroBranchesLead, AddressesLead, LoadsLead}
use Rattle.link_laws.proofs.Codes.{Means, adr_means, load_means, wide_means, zero_means, code_there}
use Rattle.asm_object.proofs.Statements.{walk_sets, walk_pieces}
use Rattle.asm_layout.specs.Placing.{word_place, place_stmts_from}
use Rattle.asm_object.specs.After.{pieces_from, refusals_from}

-- ---- labels that are found

within : (a x end : ℕ) → a + x ≡ end → end ≤ MOST_BYTES → a ≤ MOST_BYTES
within a x end e h = omega (arith, e, h)

found_or : (name : List ℕ) (labels : List NamePlace) (kind : StmtKind) (place q : Place) (rest : List NamePlace) → find name (new_labels labels kind place ++ rest) ≡ Some q
    → (q ≡ place) ⊎ (find name rest ≡ Some q)
unfolding find
found_or name labels (statement.Label other) place q rest e = by (is_among other labels) e
  where
    by : (b : Bool) → find name (label_unless b other place ++ rest) ≡ Some q → (q ≡ place) ⊎ (find name rest ≡ Some q)
    by true e = inr e
    by false e = own (same_bytes name other) e
      where
        own : (b : Bool) → cond b (Some place) (find name rest) ≡ Some q → (q ≡ place) ⊎ (find name rest ≡ Some q)
        own true e = inl (cc)
        own false e = inr e
found_or name labels _ place q rest e = inr e

-- a label stands within what a section may have
pub found_small : (entries : List (Option EntryWords)) (given labels : List NamePlace) (walk : Walk) (stmts : List Stmt) (name : List ℕ) (q : Place) → Fewer entries
    → refusals_from entries given walk stmts ≡ [] → is_too_large (sizes_with_pool (walk_after entries walk stmts)) ≡ false
    → find name (labels_from entries labels walk stmts) ≡ Some q → q.offset ≤ MOST_BYTES
unfolding labels_in place_stmts_from find walk_after
found_small entries given labels walk [] name q few r h e = absurd (cc)
found_small entries given labels walk (stmt ∷ more) name q few r h e =
    let after = next entries walk stmt.kind in
    let new = new_labels labels stmt.kind (cursor_place walk.at) in
    let word = word_place walk stmt.kind (coming_pool entries walk (stmt ∷ more)) in
    let parts = none_parts stmt.line (refusal given stmt.kind walk.at.section (cursor_place walk.at).offset word) (refusals_from entries given after more) r in
    let small = within (size_in walk.at.sizes walk.at.section) _ (size_in (sizes_with_pool (walk_after entries after more)) walk.at.section)
    (law_of_ends entries given walk (stmt ∷ more) walk.at.section few r h) (not_large (sizes_with_pool (walk_after entries after more)) walk.at.section h) in
    elim (found_or name labels stmt.kind (cursor_place walk.at) q (labels_from entries (labels ++ new) after more) e) [
      | inl is ↦ let P : Place → Type 0 = λ p. p.offset ≤ MOST_BYTES in subst P (sym is) small
      | inr rest ↦ found_small entries given (labels ++ new) after more name q few parts.1 h rest
    ]

record Found (name : List ℕ) (labels : List NamePlace) (at : Place) : Type 0 where
  place : Place
  found : find name labels ≡ Some place
  section : place.section ≡ at.section
  offset : place.offset % 2 ^ 32 ≡ at.offset

symbol_found : (entries : List (Option EntryWords)) (stmts : List Stmt) (name : List ℕ) (labels : List NamePlace) (at : Place)
    → symbol_place name (map (λ label. symbol_of (name_with_label entries stmts label)) labels) ≡ Some at → Found name labels at
unfolding find
symbol_found entries stmts name [] at e = absurd (cc)
symbol_found entries stmts name (label ∷ more) at e = by (same_bytes name label.name) refl e (symbol_found entries stmts name more at)
  where
    low : Place → Place
    low p = record { section = p.section; offset = p.offset % 2 ^ 32 }

    symbols : List ObjSymbol
    symbols = map (λ l. symbol_of (name_with_label entries stmts l)) more

    by : (b : Bool) → same_bytes name label.name ≡ b
        → cond b (Some (record { section = label.place.section; offset = label.place.offset % 2 ^ 32 })) (symbol_place name (map (λ l. symbol_of (name_with_label entries stmts l)) more)) ≡ Some at
        → (symbol_place name (map (λ l. symbol_of (name_with_label entries stmts l)) more) ≡ Some at → Found name more at)
        → Found name (label ∷ more) at
    by true s e rest =
        let same : record { section = label.place.section; offset = label.place.offset % 2 ^ 32 } ≡ at = cc in
        record {
          place = label.place;
          found = ap (λ b. cond b (Some label.place) (find name more)) s;
          section = ap (λ (p : Place). p.section) same;
          offset = ap (λ (p : Place). p.offset) same;
        }
    by false s e rest =
        let later = rest e in
        record {
          place = later.place;
          found = ap (λ b. cond b (Some label.place) (find name more)) s ∙ later.found;
          section = later.section;
          offset = later.offset;
        }

-- ---- a statement of a source

joined_text : (stmts : List Stmt) → (assembled_object stmts).text ≡ bytes_in Text (pieces_from (entries_of stmts) (labels_of (entries_of stmts) stmts) start stmts)
unfolding assembled_object
joined_text stmts = refl

pub joined_symbols : (stmts : List Stmt) → (assembled_object stmts).symbols ≡ map (λ label. symbol_of (name_with_label (entries_of stmts) stmts label)) (labels_of (entries_of stmts) stmts)
unfolding assembled_object
joined_symbols stmts = refl

fewer : (a b : ℕ) → a ≤ b → b < 2 ^ 64 → a < 2 ^ 64
fewer a b h k = omega (arith, h, k)

abbrev no_bytes : List ℕ
no_bytes = []

-- the bytes of a statement that has one piece, and of those after it
one_piece : (entries : List (Option EntryWords)) (labels : List NamePlace) (walk : Walk) (kind : StmtKind) (rest : List Piece) (word : Option ℕ)
    → walk_sets entries labels walk kind ≡ [] → same_section walk.at.section Text ≡ true
    → bytes_in Text (walk_pieces entries labels walk word kind ++ rest) ≡ (own_piece labels kind (cursor_place walk.at) word).bytes ++ bytes_in Text rest
one_piece entries labels walk kind rest word none text =
    let own = own_piece labels kind (cursor_place walk.at) word in
    ap (λ set. bytes_in Text ((set ++ own ∷ []) ++ rest)) none
    ∙ ap (λ b. cond b own.bytes no_bytes ++ bytes_in Text rest) (ap (λ (p : Place). same_section p.section Text) (own_stands labels kind (cursor_place walk.at) word) ∙ text)

-- what an instruction is in the pieces of its source
record Placed (entries : List (Option EntryWords)) (labels : List NamePlace) (walk : Walk) (stmt : Stmt) (more : List Stmt) : Type 0 where
  text : same_section walk.at.section Text ≡ true
  word : Option ℕ
  unfaulted : encode_fault labels stmt.kind (cursor_place walk.at).offset word ≡ None
  after : List ℕ
  bytes : bytes_in Text (pieces_from entries labels walk (stmt ∷ more)) ≡ (own_piece labels stmt.kind (cursor_place walk.at) word).bytes ++ after

placed : (entries : List (Option EntryWords)) (labels : List NamePlace) (walk : Walk) (stmt : Stmt) (more : List Stmt) → refusals_from entries labels walk (stmt ∷ more) ≡ []
    → walk_sets entries labels walk stmt.kind ≡ [] → is_instruction stmt.kind ≡ true → Placed entries labels walk stmt more
unfolding pieces_of place_stmts_from walk_after
placed entries labels walk stmt more r none is =
    let word = word_place walk stmt.kind (coming_pool entries walk (stmt ∷ more)) in
    let own = none_parts stmt.line (refusal labels stmt.kind walk.at.section (cursor_place walk.at).offset word) (refusals_from entries labels (next entries walk stmt.kind) more) r in
    let parts = refusal_parts labels stmt.kind walk.at.section (cursor_place walk.at).offset word own.0 in
    let text = not_false (same_section walk.at.section Text) (in_its_place (is_instruction stmt.kind) _ _ _ is parts.1.1) in
    let rest = pieces_from entries labels (next entries walk stmt.kind) more in
    record { text = text; word = word; unfaulted = parts.0; after = bytes_in Text rest; bytes = one_piece entries labels walk stmt.kind rest word none text }
  where
    in_its_place : (b other x y : Bool) → b ≡ true → cond (b || other) x y ≡ false → x ≡ false
    in_its_place true other x y e m = m
    in_its_place false other x y e m = absurd (true≢false (sym e))

-- the bytes of an instruction of an accepted source stand at its place in the text, and the encoder takes it
record Stood (stmts before : List Stmt) (kind : StmtKind) (object : Object) : Type 0 where
  place_is : (cursor_place (walk_over stmts before).at).offset ≡ text_after stmts before
  small : (cursor_place (walk_over stmts before).at).offset ≤ MOST_BYTES
  word : Option ℕ
  unfaulted : encode_fault (labels_of (entries_of stmts) stmts) kind (cursor_place (walk_over stmts before).at).offset word ≡ None
  after : List ℕ
  bytes : drop (cursor_place (walk_over stmts before).at).offset object.text ≡ (own_piece (labels_of (entries_of stmts) stmts) kind (cursor_place (walk_over stmts before).at) word).bytes ++ after

stood : (stmts before more : List Stmt) (line : ℕ) (kind : StmtKind) (object : Object) → stmts ≡ before ++ record { line = line; kind = kind } ∷ more → length stmts < 2 ^ 64 → IsTaken stmts object
    → walk_sets (entries_of stmts) (labels_of (entries_of stmts) stmts) (walk_over stmts before) kind ≡ [] → is_instruction kind ≡ true → Stood stmts before kind object
stood stmts before more line kind object same few t none is =
    let entries = entries_of stmts in
    let labels = labels_of entries stmts in
    let walk = walk_over stmts before in
    let rest = record { line = line; kind = kind } ∷ more in
    let few_entries = fewer _ _ (entries_count no_frame stmts) few in
    let R : List Stmt → Type 0 = λ s. refusals_from entries labels start s ≡ [] in
    let T : List Stmt → Type 0 = λ s. is_too_large (sizes_with_pool (walk_after entries start s)) ≡ false in
    let unrefused = subst R same t.unrefused in
    let small = subst T same (ends_small entries start 0 stmts t.small) in
    let own = placed entries labels walk (record { line = line; kind = kind }) more (none_after entries labels start before rest unrefused) none is in
    let place = text_here walk.at.sizes walk.at.section own.text in
    record {
      place_is = place;
      small = small_after entries labels before rest walk.at.section few_entries unrefused small;
      word = own.word;
      unfaulted = own.unfaulted;
      after = own.after;
      bytes =
          ap (λ n. drop n object.text) place
          ∙ ap (λ (o : Object). drop walk.at.sizes.text o.text) t.object_is
          ∙ ap (drop walk.at.sizes.text) (joined_text stmts ∙ ap (λ s. bytes_in Text (pieces_from entries labels start s)) same)
          ∙ law_of_bytes entries labels before rest Text few_entries unrefused small
          ∙ own.bytes;
    }

-- ---- names

-- a label of the text, by its symbol
record Named_there (stmts : List Stmt) (name : List ℕ) (to : ℕ) : Type 0 where
  found : text_place (labels_of (entries_of stmts) stmts) name ≡ Some to
  small : to ≤ MOST_BYTES

low : (n m : ℕ) → n ≤ MOST_BYTES → n % 2 ^ 32 ≡ m → n ≡ m
low n m h e = omega (arith, h, e)

named_there : (stmts : List Stmt) (name : List ℕ) (object : Object) (to : ℕ) → length stmts < 2 ^ 64 → IsTaken stmts object → symbol_place name object.symbols ≡ Some (place_at Text to)
    → Named_there stmts name to
named_there stmts name object to few t e =
    let entries = entries_of stmts in
    let labels = labels_of entries stmts in
    let there = symbol_found entries stmts name labels (place_at Text to)
    (ap (symbol_place name) (sym (ap (λ (o : Object). o.symbols) t.object_is ∙ joined_symbols stmts)) ∙ e) in
    let small = found_small entries labels [] start stmts name there.place (fewer _ _ (entries_count no_frame stmts) few) t.unrefused (ends_small entries start 0 stmts t.small) there.found in
    let is = low there.place.offset to small there.offset in
    let P : ℕ → Type 0 = λ n. n ≤ MOST_BYTES in
    record {
      found =
          ap in_text there.found
          ∙ ap (λ s. cond (same_section s Text) (Some there.place.offset) None) there.section
          ∙ ap Some is;
      small = subst P is small;
    }

-- ---- offsets

pub minus_small : (to from : ℕ) → to ≤ MOST_BYTES + 8 → from ≤ MOST_BYTES + 8 → place_difference to from ≡ pos to -ℤ pos from
minus_small to from h k = grind (arith, ints, nat_tests)

pub goes : (place to : ℕ) → place ≤ MOST_BYTES → to ≤ MOST_BYTES → GoesTo place to (place_difference to (pc place))
goes place to h k regs text fits at =
    let from : pc place ≡ place + 4 = omega (arith, h) in
    let displacement : place_difference to (pc place) ≡ pos to -ℤ pos (place + 4) = ap (place_difference to) from ∙ minus_small to (place + 4) (omega (arith, k)) (omega (arith, h)) in
    ap (λ off. forward ((regs.pc + 4) % 2 ^ 32) off) displacement
    ∙ ap (λ n. forward ((n + 4) % 2 ^ 32) (pos to -ℤ pos (place + 4))) at
    ∙ comes text place to h k fits
  where
    comes : (text place to : ℕ) → place ≤ MOST_BYTES → to ≤ MOST_BYTES → text + to < 2 ^ 32 → forward ((text + place + 4) % 2 ^ 32) (pos to -ℤ pos (place + 4)) ≡ text + to
    comes text place to h k fits = grind (arith, ints, nat_tests)

pub reaches : (place to : ℕ) → place ≤ MOST_BYTES → to ≤ MOST_BYTES → ReachesFromItsBase place to (literal to place)
reaches place to h k regs text fourth fits at =
    let from : base place ≡ (place + 4) / 4 * 4 = omega (arith, h) in
    let displacement : literal to place ≡ pos to -ℤ pos ((place + 4) / 4 * 4) = ap (place_difference to) from ∙ minus_small to ((place + 4) / 4 * 4) (omega (arith, k)) (omega (arith, h)) in
    ap (λ off. forward (core_base regs) off) displacement
    ∙ ap (λ n. forward ((n + 4) % 2 ^ 32 - (n + 4) % 2 ^ 32 % 4) (pos to -ℤ pos ((place + 4) / 4 * 4))) at
    ∙ comes text place to ((place + 4) / 4 * 4) h k fourth fits refl
  where
    comes : (text place to from : ℕ) → place ≤ MOST_BYTES → to ≤ MOST_BYTES → text % 4 ≡ 0 → text + to < 2 ^ 32 → from ≡ (place + 4) / 4 * 4
        → forward ((text + place + 4) % 2 ^ 32 - (text + place + 4) % 2 ^ 32 % 4) (pos to -ℤ pos from) ≡ text + to
    comes text place to from h k fourth fits e = grind (arith, ints, nat_tests)

-- ---- the laws

pub record Coded (r : Result Code EncodeFault) : Type 0 where
  pub code : Code
  pub is : r ≡ Ok code

pub coded : (r : Result Code EncodeFault) → result_err r ≡ None → Coded r
coded (Ok c) e = record { code = c; is = refl }
coded (Err fault) e = absurd (cc)

leads : (Comes : ℕ → ℕ → ℤ → Type 0) (i : ℤ → Instr) (off : ℤ) (text : List ℕ) (place to : ℕ) (after : List ℕ) → result_err (encode_result (i off)) ≡ None
    → drop place text ≡ bytes_of_code (encode_result (i off)) ++ after → ((c : Code) → encode_result (i off) ≡ Ok c → Means c (i off)) → Comes place to off → Leads Comes i text place to
leads Comes i off text place to after unfaulted bytes means comes =
    let own = coded (encode_result (i off)) unfaulted in
    let known = means own.code own.is in
    record {
      offset = off;
      reads = record {
        encoding = own.code;
        there = code_there own.code text place after (bytes ∙ ap (λ r. bytes_of_code r ++ after) own.is) known.small;
        means = known.means;
      };
      comes = comes;
    }

-- where the text has come to is where the statement stands
moved_to : (Comes : ℕ → ℕ → ℤ → Type 0) (i : ℤ → Instr) (text : List ℕ) (place at to : ℕ) → place ≡ at → Leads Comes i text place to → Leads Comes i text at to
moved_to Comes i text place at to e h = let P : ℕ → Type 0 = λ n. Leads Comes i text n to in subst P e h

branch_goes : (stmts : List Stmt) (name : List ℕ) (place to : ℕ) → place ≤ MOST_BYTES → Named_there stmts name to → GoesTo place to (branch (labels_of (entries_of stmts) stmts) name place)
branch_goes stmts name place to h there =
    let P : Option ℕ → Type 0 = λ o. GoesTo place to (branch_to o place) in
    subst P (sym there.found) (goes place to h there.small)

literal_reaches : (stmts : List Stmt) (name : List ℕ) (place to : ℕ) → place ≤ MOST_BYTES → Named_there stmts name to
    → ReachesFromItsBase place to (label_literal (labels_of (entries_of stmts) stmts) name place)
literal_reaches stmts name place to h there =
    let P : Option ℕ → Type 0 = λ o. ReachesFromItsBase place to (literal_to o place) in
    subst P (sym there.found) (reaches place to h there.small)

pub law_of_branches : BranchesLead
law_of_branches before more line name object to few e symbol =
    let stmts = before ++ record { line = line; kind = statement.B name } ∷ more in
    let t = taken stmts object e in
    let own = stood stmts before more line (statement.B name) object refl few t refl refl in
    let place = (cursor_place (walk_over stmts before).at).offset in
    let off = branch (labels_of (entries_of stmts) stmts) name place in
    moved_to GoesTo instr.B object.text place (text_after stmts before) to own.place_is
    (leads GoesTo instr.B off object.text place to own.after own.unfaulted own.bytes (λ c is. record { means = b_means off c is; small = b_is_small off c is })
    (branch_goes stmts name place to own.small (named_there stmts name object to few t symbol)))

pub law_of_conditions : CondBranchesLead
law_of_conditions cond before more line name object to few e symbol =
    let stmts = before ++ record { line = line; kind = statement.BCond cond name } ∷ more in
    let t = taken stmts object e in
    let own = stood stmts before more line (statement.BCond cond name) object refl few t refl refl in
    let place = (cursor_place (walk_over stmts before).at).offset in
    let off = branch (labels_of (entries_of stmts) stmts) name place in
    moved_to GoesTo (instr.BCond cond) object.text place (text_after stmts before) to own.place_is
    (leads GoesTo (instr.BCond cond) off object.text place to own.after own.unfaulted own.bytes (λ c is. record { means = b_cond_means cond off c is; small = b_cond_is_small cond off c is })
    (branch_goes stmts name place to own.small (named_there stmts name object to few t symbol)))

pub law_of_calls : CallsLead
law_of_calls before more line name object to few e symbol =
    let stmts = before ++ record { line = line; kind = statement.Bl name } ∷ more in
    let t = taken stmts object e in
    let own = stood stmts before more line (statement.Bl name) object refl few t refl refl in
    let place = (cursor_place (walk_over stmts before).at).offset in
    let off = branch (labels_of (entries_of stmts) stmts) name place in
    moved_to GoesTo instr.Bl object.text place (text_after stmts before) to own.place_is
    (leads GoesTo instr.Bl off object.text place to own.after own.unfaulted own.bytes (λ c is. record { means = bl_means off c is; small = bl_is_small off c is })
    (branch_goes stmts name place to own.small (named_there stmts name object to few t symbol)))

pub law_of_wide_branches : WideBranchesLead
law_of_wide_branches before more line name object to few e symbol =
    let stmts = before ++ record { line = line; kind = statement.BWide name } ∷ more in
    let t = taken stmts object e in
    let own = stood stmts before more line (statement.BWide name) object refl few t refl refl in
    let place = (cursor_place (walk_over stmts before).at).offset in
    let off = branch (labels_of (entries_of stmts) stmts) name place in
    moved_to GoesTo instr.BWide object.text place (text_after stmts before) to own.place_is
    (leads GoesTo instr.BWide off object.text place to own.after own.unfaulted own.bytes (λ c is. wide_means off c is)
    (branch_goes stmts name place to own.small (named_there stmts name object to few t symbol)))

pub law_of_zero_branches : ZeroBranchesLead
law_of_zero_branches nonzero n before more line name object to few e symbol =
    let stmts = before ++ record { line = line; kind = statement.Cbz nonzero n name } ∷ more in
    let t = taken stmts object e in
    let own = stood stmts before more line (statement.Cbz nonzero n name) object refl few t refl refl in
    let place = (cursor_place (walk_over stmts before).at).offset in
    let off = branch (labels_of (entries_of stmts) stmts) name place in
    moved_to GoesTo (instr.Cbz nonzero n) object.text place (text_after stmts before) to own.place_is
    (leads GoesTo (instr.Cbz nonzero n) off object.text place to own.after own.unfaulted own.bytes (λ c is. zero_means nonzero n off c is)
    (branch_goes stmts name place to own.small (named_there stmts name object to few t symbol)))

pub law_of_addresses : AddressesLead
law_of_addresses d before more line name object to few e symbol =
    let stmts = before ++ record { line = line; kind = statement.Adr d name } ∷ more in
    let t = taken stmts object e in
    let own = stood stmts before more line (statement.Adr d name) object refl few t refl refl in
    let place = (cursor_place (walk_over stmts before).at).offset in
    let off = label_literal (labels_of (entries_of stmts) stmts) name place in
    moved_to ReachesFromItsBase (instr.Adr d) object.text place (text_after stmts before) to own.place_is
    (leads ReachesFromItsBase (instr.Adr d) off object.text place to own.after own.unfaulted own.bytes (λ c is. adr_means d off c is)
    (literal_reaches stmts name place to own.small (named_there stmts name object to few t symbol)))

pub law_of_loads : LoadsLead
law_of_loads t before more line name object to few e symbol =
    let stmts = before ++ record { line = line; kind = statement.LdrLabel t name } ∷ more in
    let is = taken stmts object e in
    let own = stood stmts before more line (statement.LdrLabel t name) object refl few is refl refl in
    let place = (cursor_place (walk_over stmts before).at).offset in
    let off = label_literal (labels_of (entries_of stmts) stmts) name place in
    moved_to ReachesFromItsBase (instr.LdrLit t) object.text place (text_after stmts before) to own.place_is
    (leads ReachesFromItsBase (instr.LdrLit t) off object.text place to own.after own.unfaulted own.bytes (λ c code. load_means t off c code)
    (literal_reaches stmts name place to own.small (named_there stmts name object to few is symbol)))
