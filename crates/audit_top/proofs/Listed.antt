-- A list of what isn't well is empty exactly where nothing is said against the image.
use Rattle.std.proofs.Common.{◌≡◌, ℕ, List, [], ◌∷◌, ◌++◌, ◌-◌, ◌==◌, length, Bool, true, false, Option, Some, None, refl, sym, ap, subst, arith}
use Rattle.std.specs.Prelude.{◌&&◌, flat_map}
use Rattle.std.specs.Option.{is_none}
use Rattle.std.specs.List.{list_all}
use Rattle.std.proofs.lemmas.Bool.{and_parts}
use Rattle.std.proofs.lemmas.Bool.Decides.{nat_tests}
use Rattle.eh_types.specs.declared.fault.TypeFault.{TypeFault}
use Rattle.frame_audit.specs.Audits.{Audit, is_clear}
use Rattle.frame_audit.specs.Listing.{FunctionAudit}
use Rattle.frame_audit.specs.declared.functions.FrameFinding.{FrameFinding}
use Rattle.frame_audit.proofs.Listed.{unlisted_is_well}
use Rattle.gnu_index.specs.declared.tables.RefusedEntry.{RefusedEntry}
use Rattle.cmd_answers.specs.declared.status.TheConstants.{DONE}
use Rattle.cmd_lines.specs.CheckText.{cause_text}
use Rattle.audit_top.specs.Laws.{LinesAreOfUnwell, StatusIsOfList}
use Rattle.audit_top.specs.Report.{clear_status}
use Rattle.audit_top.specs.Text.{entry_line, address_end, finding_line, function_line, unwell_line, types_text, found_text, listed_text}

-- a text that ends in some text isn't empty
ends_some : (xs ys : List ℕ) → (ys ≡ [] → ⊥) → xs ++ ys ≡ [] → ⊥
ends_some [] ys n e = n e
ends_some (x ∷ xs) ys n e = cc

both_none : (xs ys : List ℕ) → xs ++ ys ≡ [] → (xs ≡ []) × (ys ≡ [])
both_none [] ys e = (refl, e)
both_none (x ∷ xs) ys e = absurd (cc)

begun : (x : ℕ) (xs : List ℕ) → x ∷ xs ≡ [] → ⊥
begun x xs e = cc

line_some : (a : FunctionAudit) (u : FrameFinding) → unwell_line a u ≡ [] → ⊥
line_some a u e = ends_some (cause_text a.name (u.at - a.start) u.cause) (address_end u.at) (λ e2. begun _ _ e2) e

no_line : (a : FunctionAudit) (o : Option FrameFinding) → finding_line a o ≡ [] → o ≡ None
no_line a None e = refl
no_line a (Some u) e = absurd (line_some a u e)

none_is : {X : Type 0} (o : Option X) → is_none o ≡ true → o ≡ None
none_is None e = refl
none_is (Some x) e = absurd (cc)

pub lines_are_of_unwell : LinesAreOfUnwell
lines_are_of_unwell image f a is = ((λ e. (unlisted_is_well image f a is).0 (no_line a a.unwell e)), (λ w. ap (finding_line a) ((unlisted_is_well image f a is).1 w)))

-- ---- all of them

clear_lines : (xs : List FunctionAudit) → list_all (λ (a : FunctionAudit). is_none a.unwell) xs ≡ true → flat_map function_line xs ≡ []
clear_lines [] e = refl
clear_lines (a ∷ xs) e =
    let two = and_parts (is_none a.unwell) (list_all (λ (b : FunctionAudit). is_none b.unwell) xs) e in
    let one : function_line a ≡ [] = ap (finding_line a) (none_is a.unwell two.0) in
    subst (λ (text : List ℕ). text ++ flat_map function_line xs ≡ []) (sym one) (clear_lines xs two.1)

lines_clear : (xs : List FunctionAudit) → flat_map function_line xs ≡ [] → list_all (λ (a : FunctionAudit). is_none a.unwell) xs ≡ true
lines_clear [] e = refl
lines_clear (a ∷ xs) e =
    let two = both_none (function_line a) (flat_map function_line xs) e in
    let one : a.unwell ≡ None = no_line a a.unwell two.0 in
    let rest = lines_clear xs two.1 in
    rw one rest

types_none : (t : Option TypeFault) → types_text t ≡ [] → is_none t ≡ true
types_none None e = refl
types_none (Some fault) e = absurd (begun _ _ e)

pub both_true : (p q : Bool) → p ≡ true → q ≡ true → (p && q) ≡ true
both_true p q e h = rw e h

cleared : (clear : Bool) → clear_status clear ≡ DONE → clear ≡ true
cleared true e = refl
cleared false e = absurd (omega (arith, e))

pub none_refused : (refused : List RefusedEntry) → (length refused == 0) ≡ true → refused ≡ []
none_refused [] e = refl
none_refused (r ∷ refused) e = absurd (let none : length (r ∷ refused) ≡ 0 = grind (arith, nat_tests) in omega (arith, none))

pub no_refused : (refused : List RefusedEntry) → refused ≡ [] → (length refused == 0) ≡ true
no_refused refused e = rw e refl

pub no_lines : (x : Audit) → is_clear x ≡ true → found_text x ≡ []
unfolding is_clear
no_lines x e =
    let two = and_parts (list_all (λ (a : FunctionAudit). is_none a.unwell) x.functions) (is_none x.types) e in
    let types : types_text x.types ≡ [] = ap types_text (none_is x.types two.1) in
    subst (λ (text : List ℕ). text ++ types_text x.types ≡ []) (sym (clear_lines x.functions two.0)) types

pub no_line_is_clear : (x : Audit) → found_text x ≡ [] → is_clear x ≡ true
unfolding is_clear
no_line_is_clear x e =
    let two = both_none (flat_map function_line x.functions) (types_text x.types) e in
    both_true _ _ (lines_clear x.functions two.0) (types_none x.types two.1)

-- ---- .. and of the refused entries

no_entry_lines : (refused : List RefusedEntry) → flat_map entry_line refused ≡ [] → refused ≡ []
no_entry_lines [] e = refl
no_entry_lines (r ∷ refused) e =
    let two = both_none (entry_line r) (flat_map entry_line refused) e in
    absurd (begun _ _ two.0)

pub status_is_of_list : StatusIsOfList
status_is_of_list refused x = (forth, back)
  where
    forth : clear_status (length refused == 0 && is_clear x) ≡ DONE → listed_text refused x ≡ []
    forth e =
        let two = and_parts (length refused == 0) (is_clear x) (cleared (length refused == 0 && is_clear x) e) in
        subst (λ (entries : List RefusedEntry). flat_map entry_line entries ++ found_text x ≡ []) (sym (none_refused refused two.0)) (no_lines x two.1)

    back : listed_text refused x ≡ [] → clear_status (length refused == 0 && is_clear x) ≡ DONE
    back e =
        let two = both_none (flat_map entry_line refused) (found_text x) e in
        ap clear_status (both_true _ _ (no_refused refused (no_entry_lines refused two.0)) (no_line_is_clear x two.1))
