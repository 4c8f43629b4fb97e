-- What the entry of a site says of a frame there, by the entry.
use Rattle.std.proofs.Common.{◌≡◌, ℕ, List, [], refl, ◌∙◌, ap, cond, ◌==◌, Bool, true, false, Option, Some, None, Result, Ok, Err}
use Rattle.std.specs.Prelude.{option_map}
use Rattle.std.specs.Result.{result_ok}
use Rattle.elf_image.specs.Image.{Image}
use Rattle.eh_codes.specs.declared.row.Entry.{Entry}
use Rattle.eh_codes.specs.declared.row.EntryBody.{EntryBody}
use Rattle.eh_codes.specs.declared.row.EntryBody.TheVariants.{CantUnwind, Inline}
use Rattle.thumb_core.specs.declared.ends.Cause.TheVariants.{CannotUnwind}
use Rattle.eh_index.specs.Rows.{entries_of}
use Rattle.eh_index.specs.Covering.{covering}
use Rattle.eh_bytecode.specs.Codes.{inline_codes}
use Rattle.eh_bytecode.specs.declared.codes.CodesFault.{CodesFault}
use Rattle.eh_desc.specs.declared.descriptor.Desc.{Desc}
use Rattle.eh_desc.specs.declared.descriptor.DescFault.{DescFault}
use Rattle.eh_phase.specs.declared.verdict.Verdict.TheVariants as says
use Rattle.eh_phase.specs.declared.phase2.Goal.{Goal}
use Rattle.eh_phase.specs.declared.phase2.Entered.TheVariants as enters
use Rattle.eh_phase.specs.Firsts.{first_some}
use Rattle.eh_phase.specs.Verdict.{Meeting, verdict_of}
use Rattle.eh_phase.specs.Phases.{Frame, enter_item, from_address, from_descriptor}
use Rattle.eh_phase.specs.Frames.{entry_contents, entry_contents_at, with_items}
use Rattle.eh_phase.specs.Passed.{verdict_or_codes_by, verdict_or_codes, enters_by, enters_at, unless}

-- ---- phase 1

pub said_in : (m : Meeting) (image : Image) (site : ℕ) (o : Option Entry) → o ≡ covering (entries_of image) site → verdict_or_codes_by m site (entry_contents image o) ≡ verdict_or_codes m image site
unfolding verdict_or_codes entry_contents_at
said_in m image site o e = ap (λ o. verdict_or_codes_by m site (entry_contents image o)) e

pub said_never : (m : Meeting) (image : Image) (site : ℕ) (e : Entry) → e.body ≡ CantUnwind → verdict_or_codes_by m site (entry_contents image (Some e)) ≡ Err (says.Terminate CannotUnwind)
said_never m image site e is = ap (λ (b : EntryBody). verdict_or_codes_by m site (entry_contents image (Some (record { start = e.start; body = b })))) is

pub said_inline : (m : Meeting) (image : Image) (site : ℕ) (e : Entry) (word : ℕ) (codes : List ℕ) → e.body ≡ Inline word → inline_codes word ≡ Ok codes
    → verdict_or_codes_by m site (entry_contents image (Some e)) ≡ Ok codes
unfolding verdict_of first_some
said_inline m image site e word codes is ok =
    ap (λ (b : EntryBody). verdict_or_codes_by m site (entry_contents image (Some (record { start = e.start; body = b })))) is
    ∙ ap (λ (o : Result (List ℕ) CodesFault). verdict_or_codes_by m site (option_map (with_items (record { start = e.start; body = Inline word }) None) (result_ok o))) ok

pub said_unread : (m : Meeting) (image : Image) (site : ℕ) (e : Entry) (word : ℕ) (fault : CodesFault) → e.body ≡ Inline word → inline_codes word ≡ Err fault
    → verdict_or_codes_by m site (entry_contents image (Some e)) ≡ Err (says.Terminate CannotUnwind)
said_unread m image site e word fault is bad =
    ap (λ (b : EntryBody). verdict_or_codes_by m site (entry_contents image (Some (record { start = e.start; body = b })))) is
    ∙ ap (λ (o : Result (List ℕ) CodesFault). verdict_or_codes_by m site (option_map (with_items (record { start = e.start; body = Inline word }) None) (result_ok o))) bad

-- ---- phase 2

pub enters_in : (g : Goal) (from : ℕ) (image : Image) (f : Frame) (o : Option Entry) → o ≡ covering (entries_of image) f.site → enters_by g from f (entry_contents image o) ≡ enters_at g from image f
unfolding enters_at entry_contents_at
enters_in g from image f o e = ap (λ o. enters_by g from f (entry_contents image o)) e

pub enters_never : (g : Goal) (from : ℕ) (image : Image) (f : Frame) (e : Entry) → e.body ≡ CantUnwind → enters_by g from f (entry_contents image (Some e)) ≡ Err (enters.Terminate CannotUnwind)
enters_never g from image f e is = ap (λ (b : EntryBody). enters_by g from f (entry_contents image (Some (record { start = e.start; body = b })))) is

-- of no items none is left from an address on
from_nothing : (at : ℕ) (b : Bool) → cond b [] (from_descriptor at []) ≡ []
unfolding from_descriptor
from_nothing at true = refl
from_nothing at false = refl

quiet_nothing : (g : Goal) (from : ℕ) (f : Frame) (codes : List ℕ) → unless codes (first_some (enter_item g f) (from_address from [])) ≡ Ok codes
unfolding first_some
quiet_nothing g from f codes = ap (λ (items : List (Result Desc DescFault)). unless codes (first_some (enter_item g f) items)) (from_nothing from (from == 0))

pub enters_inline : (g : Goal) (from : ℕ) (image : Image) (f : Frame) (e : Entry) (word : ℕ) (codes : List ℕ) → e.body ≡ Inline word → inline_codes word ≡ Ok codes
    → enters_by g from f (entry_contents image (Some e)) ≡ Ok codes
enters_inline g from image f e word codes is ok =
    ap (λ (b : EntryBody). enters_by g from f (entry_contents image (Some (record { start = e.start; body = b })))) is
    ∙ ap (λ (o : Result (List ℕ) CodesFault). enters_by g from f (option_map (with_items (record { start = e.start; body = Inline word }) None) (result_ok o))) ok
    ∙ quiet_nothing g from f codes

pub enters_unread : (g : Goal) (from : ℕ) (image : Image) (f : Frame) (e : Entry) (word : ℕ) (fault : CodesFault) → e.body ≡ Inline word → inline_codes word ≡ Err fault
    → enters_by g from f (entry_contents image (Some e)) ≡ Err (enters.Terminate CannotUnwind)
enters_unread g from image f e word fault is bad =
    ap (λ (b : EntryBody). enters_by g from f (entry_contents image (Some (record { start = e.start; body = b })))) is
    ∙ ap (λ (o : Result (List ℕ) CodesFault). enters_by g from f (option_map (with_items (record { start = e.start; body = Inline word }) None) (result_ok o))) bad
