-- The entry that covers a site, for the checker and for phase 2.
use Rattle.std.proofs.Common.{◌≡◌, ℕ, Bool, true, false, List, Option, Some, None, Result, Ok, Err, refl, sym, ap, ◌∙◌}
use Rattle.std.specs.Prelude.{option_map}
use Rattle.std.specs.Result.{result_ok}
use Rattle.eh_codes.specs.Cut.{split_codes}
use Rattle.eh_codes.specs.declared.row.Entry.{Entry}
use Rattle.eh_codes.specs.declared.row.EntryBody.{EntryBody}
use Rattle.eh_codes.specs.declared.row.EntryBody.TheVariants.{CantUnwind, Inline, Table}
use Rattle.eh_index.specs.Places.{table_of}
use Rattle.eh_bytecode.specs.Codes.{inline_codes, table_codes}
use Rattle.eh_bytecode.specs.Recipe.{recipe}
use Rattle.eh_bytecode.specs.declared.codes.CodesFault.{CodesFault}
use Rattle.eh_bytecode.specs.declared.codes.CodesFault.TheVariants.{Short, Generic, Reserved}
use Rattle.eh_bytecode.specs.declared.recipe.Recipe.{Recipe}
use Rattle.eh_bytecode.specs.declared.recipe.RecipeFault.{RecipeFault}
use Rattle.eh_bytecode.specs.declared.recipe.RecipeFault.TheVariants.{BadCode, Refuses, NotStatic}
use Rattle.eh_desc.specs.Grammar.{items_of}
use Rattle.eh_phase.specs.declared.walk.CoveringEntry.{CoveringEntry}
use Rattle.eh_phase.specs.Frames.{codes_of, with_items, entry_contents, entry_contents_at}
use Rattle.frame_entries.specs.declared.unwinding.EntrySummary.TheVariants.{Finds}
use Rattle.frame_graph.specs.FlowGraph.{FlowGraph}
use Rattle.frame_graph.specs.Sites.{entry_at, unwinding_by, unwinding_at, items_by, items_at}
use Rattle.frame_entries.specs.Unwinding.{pop_once, by_recipe, summary_of_codes, summary_of_fault, summary_of_read, summary_of_body}
use Rattle.frame_laws.specs.SiteLaws.{HasRecipe, EntriesAreOne}

-- codes, with their recipe
record HasCodes (body : EntryBody) (bytes : Option (List ℕ)) (of : Recipe) : Type 0 where
  pub codes : List ℕ
  pub are : codes_of body bytes ≡ Some codes
  pub recipe : recipe (split_codes codes) ≡ Ok of
  pub once : pop_once (split_codes codes) ≡ true

by_recipe_finds : (o : Result Recipe RecipeFault) (once : Bool) (of : Recipe) → by_recipe o once ≡ Finds of → (o ≡ Ok of) × (once ≡ true)
by_recipe_finds (Ok r) true of e = let same : r ≡ of = cc in (ap (λ x. Ok x) same, refl)
by_recipe_finds (Ok r) false of e = absurd cc
by_recipe_finds (Err BadCode) once of e = absurd cc
by_recipe_finds (Err Refuses) once of e = absurd cc
by_recipe_finds (Err NotStatic) once of e = absurd cc

fault_finds : (f : CodesFault) (of : Recipe) → summary_of_fault f ≡ Finds of → ⊥
fault_finds Short of e = absurd cc
fault_finds Generic of e = absurd cc
fault_finds Reserved of e = absurd cc

read_finds : (o : Result (List ℕ) CodesFault) (of : Recipe) → summary_of_read o ≡ Finds of
    → (codes : List ℕ) × (result_ok o ≡ Some codes) × (recipe (split_codes codes) ≡ Ok of) × (pop_once (split_codes codes) ≡ true)
read_finds (Ok codes) of e = let w = by_recipe_finds (recipe (split_codes codes)) (pop_once (split_codes codes)) of e in (codes, refl, w.0, w.1)
read_finds (Err fault) of e = absurd (fault_finds fault of e)

body_finds : (body : EntryBody) (bytes : Option (List ℕ)) (of : Recipe) → summary_of_body body bytes ≡ Finds of → HasCodes body bytes of
body_finds CantUnwind bytes of e = absurd cc
body_finds (Inline word) bytes of e = let w = read_finds (inline_codes word) of e in record { codes = w.0; are = w.1; recipe = w.2; once = w.3 }
body_finds (Table a) None of e = absurd cc
body_finds (Table a) (Some bytes) of e = let w = read_finds (table_codes bytes) of e in record { codes = w.0; are = w.1; recipe = w.2; once = w.3 }

found : (s : FlowGraph) (site : ℕ) (of : Recipe) → unwinding_at s site ≡ Finds of → HasRecipe s site of
unfolding unwinding_at entry_contents_at
found s site of e = go (entry_at s site) refl e
  where
    go : (o : Option Entry) → entry_at s site ≡ o → unwinding_by s o ≡ Finds of → HasRecipe s site of
    go None is e = absurd cc
    go (Some x) is e =
        let has = body_finds x.body (table_of s.image x) of e in
        record {
          covered = with_items x (table_of s.image x) has.codes;
          covers = ap (entry_contents s.image) is ∙ ap (option_map (with_items x (table_of s.image x))) has.are;
          recipe = has.recipe;
          once = has.once;
        }

-- ---- and back

recipe_finds : (codes : List ℕ) (of : Recipe) → recipe (split_codes codes) ≡ Ok of → pop_once (split_codes codes) ≡ true → summary_of_codes codes ≡ Finds of
recipe_finds codes of r once = ap (λ o. by_recipe o (pop_once (split_codes codes))) r ∙ ap (λ b. by_recipe (Ok of) b) once

read_back : (o : Result (List ℕ) CodesFault) (codes : List ℕ) (of : Recipe) → result_ok o ≡ Some codes → recipe (split_codes codes) ≡ Ok of → pop_once (split_codes codes) ≡ true → summary_of_read o ≡ Finds of
read_back (Ok other) codes of is r once =
    let same : other ≡ codes = cc in ap summary_of_codes same ∙ recipe_finds codes of r once
read_back (Err fault) codes of is r once = absurd cc

body_back : (body : EntryBody) (bytes : Option (List ℕ)) (codes : List ℕ) (of : Recipe) → codes_of body bytes ≡ Some codes → recipe (split_codes codes) ≡ Ok of → pop_once (split_codes codes) ≡ true
    → summary_of_body body bytes ≡ Finds of
body_back CantUnwind bytes codes of is r once = absurd cc
body_back (Inline word) bytes codes of is r once = read_back (inline_codes word) codes of is r once
body_back (Table a) None codes of is r once = absurd cc
body_back (Table a) (Some bytes) codes of is r once = read_back (table_codes bytes) codes of is r once

-- what covers a site has an entry's codes and descriptors
with_codes : (x : Entry) (bytes : Option (List ℕ)) (o : Option (List ℕ)) (c : CoveringEntry) → option_map (with_items x bytes) o ≡ Some c → (o ≡ Some c.codes) × (items_of x bytes ≡ c.descs)
with_codes x bytes None c e = absurd cc
with_codes x bytes (Some codes) c e =
    let same : with_items x bytes codes ≡ c = cc in (ap (λ (v : CoveringEntry). Some v.codes) same, ap (λ (v : CoveringEntry). v.descs) same)

finds : (s : FlowGraph) (site : ℕ) (of : Recipe) → HasRecipe s site of → unwinding_at s site ≡ Finds of
unfolding unwinding_at entry_contents_at
finds s site of h = go (entry_at s site) refl
  where
    go : (o : Option Entry) → entry_at s site ≡ o → unwinding_by s (entry_at s site) ≡ Finds of
    go None is = absurd (let none : None ≡ Some h.covered = sym (ap (entry_contents s.image) is) ∙ h.covers in cc)
    go (Some x) is =
        let some = with_codes x (table_of s.image x) _ h.covered (sym (ap (entry_contents s.image) is) ∙ h.covers) in
        ap (unwinding_by s) is ∙ body_back x.body (table_of s.image x) h.covered.codes of some.0 h.recipe h.once

items : (s : FlowGraph) (site : ℕ) (c : CoveringEntry) → entry_contents_at s.image site ≡ Some c → items_at s site ≡ c.descs
unfolding items_at entry_contents_at
items s site c e = go (entry_at s site) refl
  where
    go : (o : Option Entry) → entry_at s site ≡ o → items_by s (entry_at s site) ≡ c.descs
    go None is = absurd (let none : None ≡ Some c = sym (ap (entry_contents s.image) is) ∙ e in cc)
    go (Some x) is = ap (items_by s) is ∙ (with_codes x (table_of s.image x) _ c (sym (ap (entry_contents s.image) is) ∙ e)).1

pub entries : EntriesAreOne
entries = record { found = found; finds = finds; items = items }
