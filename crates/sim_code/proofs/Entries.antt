-- The entry that covers a site of a function of an accepted image is that of the function's start; and what the checker read of it is what the
-- frames of a throw have.
use Rattle.std.proofs.Common.{◌≡◌, ℕ, ◌<◌, ◌⊎◌, Option, Some, ◌≤◌, inl, inr, nat_le, Bool, true, false, cond, List, [], ◌∷◌, None, refl, arith, ap, ◌∙◌, sym}
use Rattle.std.specs.Prelude.{fold, Ok, Err, Result, option_map}
use Rattle.std.proofs.lemmas.Bool.{leb-true, leb-false}
use Rattle.eh_codes.specs.declared.row.Entry.{Entry}
use Rattle.eh_index.specs.Covering.{covering}
use Rattle.eh_index.specs.Rows.{entries_of}
use Rattle.frame_check.specs.frame_graph.FlowGraph.{FlowGraph}
use Rattle.frame_check.specs.frame_graph.Sites.{entry_at, site_at, unwinding_by, unwinding_at, items_by, items_at}
use Rattle.frame_check.specs.frame_graph.Reach.{IsReached}
use Rattle.frame_check.specs.Accepts.{IsWell}
use Rattle.frame_check.proofs.Entries.{well_functions}
use Rattle.eh_bytecode.specs.declared.recipe.Recipe.{Recipe}
use Rattle.frame_check.specs.frame_entries.declared.unwinding.EntrySummary.TheVariants.{Finds, Refused}
use Rattle.eh_codes.specs.Cut.{split_codes}
use Rattle.eh_codes.specs.declared.row.EntryBody.{EntryBody}
use Rattle.eh_bytecode.specs.Recipe.{recipe}
use Rattle.eh_phase.specs.Frames.{codes_of, entry_contents_at, with_items, entry_contents}
use Rattle.frame_check.specs.frame_entries.Unwinding.{pop_once, by_recipe, summary_of_fault, summary_of_read, summary_of_body}
use Rattle.eh_bytecode.specs.declared.recipe.RecipeFault.TheVariants.{Refuses, BadCode, NotStatic}
use Rattle.eh_bytecode.specs.declared.recipe.RecipeFault.{RecipeFault}
use Rattle.eh_bytecode.specs.declared.codes.CodesFault.{CodesFault}
use Rattle.eh_bytecode.specs.declared.codes.CodesFault.TheVariants.{Short, Generic, Reserved}
use Rattle.eh_codes.specs.declared.row.EntryBody.TheVariants.{CantUnwind, Inline, Table}
use Rattle.eh_bytecode.specs.Codes.{inline_codes, table_codes}
use Rattle.eh_index.specs.Places.{table_of}
use Rattle.eh_phase.specs.declared.walk.CoveringEntry.{CoveringEntry}
use Rattle.elf_image.specs.Image.{Image}

-- ---- one entry covers the start and each site

-- what covers an address above another covers that one too, unless it begins above it
abbrev pub IsShared : ℕ → Option Entry → Option Entry → Type 0
IsShared at o p = (o ≡ p) ⊎ ((e : Entry) × (o ≡ Some e) × (at < e.start))

module _ (at site : ℕ) (low : at ≤ site) where
  step : (x : Entry) (o p : Option Entry) → IsShared at o p → IsShared at (cond (nat_le x.start site) (Some x) o) (cond (nat_le x.start at) (Some x) p)
  step x o p h = go (nat_le x.start site) (nat_le x.start at) refl refl
    where
      go : (b c : Bool) → nat_le x.start site ≡ b → nat_le x.start at ≡ c → IsShared at (cond b (Some x) o) (cond c (Some x) p)
      go true true i j = inl refl
      go true false i j = inr (x, refl, leb-false x.start at j)
      go false true i j = absurd (omega (arith, low, leb-false x.start site i, leb-true x.start at j))
      go false false i j = h

  shared : (xs : List Entry) (o p : Option Entry) → IsShared at o p
      → IsShared at (fold (λ found (e : Entry). cond (nat_le e.start site) (Some e) found) o xs) (fold (λ found (e : Entry). cond (nat_le e.start at) (Some e) found) p xs)
  shared [] o p h = h
  shared (x ∷ xs) o p h = shared xs (cond (nat_le x.start site) (Some x) o) (cond (nat_le x.start at) (Some x) p) (step x o p h)

  pub covering_shared : (entries : List Entry) → IsShared at (covering entries site) (covering entries at)
  covering_shared entries = shared entries None None (inl refl)

-- the entry of a reached site is that of the start
pub entry_of_start : (s : FlowGraph) (p site : ℕ) → IsWell s → IsReached s p → site_at s p ≡ Some site → s.start ≤ site → entry_at s site ≡ entry_at s s.start
entry_of_start s p site w r is low = elim (covering_shared s.start site low (entries_of s.image)) [
  | inl same ↦ same
  | inr above ↦ (let e = above.0 in let here = above.1 in absurd (omega (arith, above.2, well_functions.sites s p site e w r is here)))
]

pub unwinding_of_start : (s : FlowGraph) (p site : ℕ) → IsWell s → IsReached s p → site_at s p ≡ Some site → s.start ≤ site → unwinding_at s site ≡ unwinding_at s s.start
unfolding unwinding_at
unwinding_of_start s p site w r is low = ap (unwinding_by s) (entry_of_start s p site w r is low)

pub items_of_start : (s : FlowGraph) (p site : ℕ) → IsWell s → IsReached s p → site_at s p ≡ Some site → s.start ≤ site → items_at s site ≡ items_at s s.start
unfolding items_at
items_of_start s p site w r is low = ap (items_by s) (entry_of_start s p site w r is low)

-- so its codes give a recipe, or nothing unwinds there
pub site_unwinds : (s : FlowGraph) (p site : ℕ) → IsWell s → IsReached s p → site_at s p ≡ Some site → s.start ≤ site → ((r : Recipe) × (unwinding_at s site ≡ Finds r)) ⊎ (unwinding_at s site ≡ Refused)
site_unwinds s p site w r is low = elim (well_functions.codes s w) [
  | inl finds ↦ inl (finds.0, unwinding_of_start s p site w r is low ∙ finds.1)
  | inr refused ↦ inr (unwinding_of_start s p site w r is low ∙ refused)
]

-- ---- what the checker read is what covers the site

-- codes that have a recipe and pop no register twice
pub record HasCodes (body : EntryBody) (bytes : Option (List ℕ)) (of : Recipe) : Type 0 where
  pub codes : List ℕ
  pub are : codes_of body bytes ≡ Some codes
  pub recipe : recipe (split_codes codes) ≡ Ok of
  pub once : pop_once (split_codes codes) ≡ true

-- no codes, or codes that refuse
abbrev pub HasNone : EntryBody → Option (List ℕ) → Type 0
HasNone body bytes = (codes_of body bytes ≡ None) ⊎ ((codes : List ℕ) × (codes_of body bytes ≡ Some codes) × (recipe (split_codes codes) ≡ Err Refuses))

by_recipe_finds : (o : Result Recipe RecipeFault) (once : Bool) (of : Recipe) → by_recipe o once ≡ Finds of → (o ≡ Ok of) × (once ≡ true)
by_recipe_finds (Ok r) true of e = (let same : r ≡ of = cc in ap Ok same, refl)
by_recipe_finds (Ok r) false of e = absurd cc
by_recipe_finds (Err BadCode) once of e = absurd cc
by_recipe_finds (Err Refuses) once of e = absurd cc
by_recipe_finds (Err NotStatic) once of e = absurd cc

by_recipe_refused : (o : Result Recipe RecipeFault) (once : Bool) → by_recipe o once ≡ Refused → o ≡ Err Refuses
by_recipe_refused (Ok r) true e = absurd cc
by_recipe_refused (Ok r) false e = absurd cc
by_recipe_refused (Err BadCode) once e = absurd cc
by_recipe_refused (Err Refuses) once e = refl
by_recipe_refused (Err NotStatic) once e = absurd cc

fault_finds : (f : CodesFault) (of : Recipe) → summary_of_fault f ≡ Finds of → ⊥
fault_finds Short of e = absurd cc
fault_finds Generic of e = absurd cc
fault_finds Reserved of e = absurd cc

fault_refused : (f : CodesFault) → summary_of_fault f ≡ Refused → ⊥
fault_refused Short e = absurd cc
fault_refused Generic e = absurd cc
fault_refused Reserved e = absurd cc

body_finds : (body : EntryBody) (bytes : Option (List ℕ)) (of : Recipe) → summary_of_body body bytes ≡ Finds of → HasCodes body bytes of
body_finds CantUnwind bytes of e = absurd cc
body_finds (Inline word) bytes of e = go (inline_codes word) refl e
  where
    go : (o : Result (List ℕ) CodesFault) → inline_codes word ≡ o → summary_of_read o ≡ Finds of → HasCodes (Inline word) bytes of
    go (Ok codes) is e = let w = by_recipe_finds (recipe (split_codes codes)) (pop_once (split_codes codes)) of e in record { codes = codes; are = rw is refl; recipe = w.0; once = w.1 }
    go (Err fault) is e = absurd (fault_finds fault of e)
body_finds (Table a) None of e = absurd cc
body_finds (Table a) (Some bytes) of e = go (table_codes bytes) refl e
  where
    go : (o : Result (List ℕ) CodesFault) → table_codes bytes ≡ o → summary_of_read o ≡ Finds of → HasCodes (Table a) (Some bytes) of
    go (Ok codes) is e = let w = by_recipe_finds (recipe (split_codes codes)) (pop_once (split_codes codes)) of e in record { codes = codes; are = rw is refl; recipe = w.0; once = w.1 }
    go (Err fault) is e = absurd (fault_finds fault of e)

body_refused : (body : EntryBody) (bytes : Option (List ℕ)) → summary_of_body body bytes ≡ Refused → HasNone body bytes
body_refused CantUnwind bytes e = inl refl
body_refused (Inline word) bytes e = go (inline_codes word) refl e
  where
    go : (o : Result (List ℕ) CodesFault) → inline_codes word ≡ o → summary_of_read o ≡ Refused → HasNone (Inline word) bytes
    go (Ok codes) is e = inr (codes, rw is refl, by_recipe_refused (recipe (split_codes codes)) (pop_once (split_codes codes)) e)
    go (Err fault) is e = absurd (fault_refused fault e)
body_refused (Table a) None e = absurd cc
body_refused (Table a) (Some bytes) e = go (table_codes bytes) refl e
  where
    go : (o : Result (List ℕ) CodesFault) → table_codes bytes ≡ o → summary_of_read o ≡ Refused → HasNone (Table a) (Some bytes)
    go (Ok codes) is e = inr (codes, rw is refl, by_recipe_refused (recipe (split_codes codes)) (pop_once (split_codes codes)) e)
    go (Err fault) is e = absurd (fault_refused fault e)

-- what covers a site whose codes give a recipe
pub record IsCovered (s : FlowGraph) (site : ℕ) (of : Recipe) : Type 0 where
  pub entry : Entry
  pub at : entry_at s site ≡ Some entry
  pub has : HasCodes entry.body (table_of s.image entry) of
  pub covered : CoveringEntry
  pub covers : entry_contents_at s.image site ≡ Some covered
  pub codes : covered.codes ≡ has.codes
  pub descs : covered.descs ≡ items_at s site

pub finds_covered : (s : FlowGraph) (site : ℕ) (of : Recipe) → unwinding_at s site ≡ Finds of → IsCovered s site of
unfolding unwinding_at entry_contents_at items_at
finds_covered s site of e = go (entry_at s site) refl e
  where
    go : (o : Option Entry) → entry_at s site ≡ o → unwinding_by s o ≡ Finds of → IsCovered s site of
    go None is e = absurd cc
    go (Some x) is e =
        let has = body_finds x.body (table_of s.image x) of e in
        record {
          entry = x;
          at = is;
          has = has;
          covered = with_items x (table_of s.image x) has.codes;
          covers = ap (entry_contents s.image) is ∙ ap (option_map (with_items x (table_of s.image x))) has.are;
          codes = refl;
          descs = sym (ap (items_by s) is);
        }

-- where nothing unwinds, nothing covers the site or the codes refuse
pub record IsStuck (image : Image) (site : ℕ) : Type 0 where
  pub covered : CoveringEntry
  pub covers : entry_contents_at image site ≡ Some covered
  pub refuses : recipe (split_codes covered.codes) ≡ Err Refuses

pub refused_covered : (s : FlowGraph) (site : ℕ) → unwinding_at s site ≡ Refused → (entry_contents_at s.image site ≡ None) ⊎ IsStuck s.image site
unfolding unwinding_at entry_contents_at
refused_covered s site e = go (entry_at s site) refl e
  where
    go : (o : Option Entry) → entry_at s site ≡ o → unwinding_by s o ≡ Refused → (entry_contents_at s.image site ≡ None) ⊎ IsStuck s.image site
    go None is e = inl (ap (entry_contents s.image) is)
    go (Some x) is e = elim (body_refused x.body (table_of s.image x) e) [
      | inl none ↦ inl (ap (entry_contents s.image) is ∙ ap (option_map (with_items x (table_of s.image x))) none)
      | inr some ↦ inr (record {
        covered = with_items x (table_of s.image x) some.0;
        covers = ap (entry_contents s.image) is ∙ ap (option_map (with_items x (table_of s.image x))) some.1;
        refuses = some.2;
      })
    ]
