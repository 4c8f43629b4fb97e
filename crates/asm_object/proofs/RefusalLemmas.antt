-- The first refusal of a statement, by what it is.
use Rattle.std.proofs.Common.{◌≡◌, ℕ, Bool, true, false, not, List, Option, Some, None, is_some, if◌then◌else◌, Result, refl, ap, sym, arith}
use Rattle.std.specs.List.{list_all}
use Rattle.asm_statements.specs.declared.statement.Expr.{Expr}
use Rattle.asm_statements.specs.declared.statement.StmtKind.{StmtKind}
use Rattle.thumb_encode.specs.declared.code.Code.{Code}
use Rattle.thumb_isa.specs.declared.encode_fault.EncodeFault.{EncodeFault}
use Rattle.asm_layout.specs.declared.fault.AsmWhat.{AsmWhat}
use Rattle.asm_layout.specs.declared.fault.AsmWhat.TheVariants.{UndefinedLocal}
use Rattle.asm_layout.specs.declared.given.Width.{Width}
use Rattle.asm_layout.specs.declared.given.Width.TheVariants.{Byte, Half, Word}
use Rattle.asm_layout.specs.Given.{StmtData, FieldsOf, field_limit}
use Rattle.asm_layout.specs.Sorts.{Sort, DataOf, sort_of, sort_data, stmt_data}
use Rattle.asm_layout.specs.Labels.{NamePlace}
use Rattle.asm_object.specs.Values.{number, is_word_known}
use Rattle.asm_object.specs.Refusals.{is_sort_known, sort_fault, fields_fault, encode_or, numbers_refusal, data_refusal, first_refusal}

abbrev judged : List NamePlace → List Expr → Option ℕ → Option AsmWhat
judged labels fields most =
    if list_all (λ field. is_some (number labels field)) fields then encode_or (fields_fault labels most fields) None else Some UndefinedLocal

pub numbered : (labels : List NamePlace) (width : Width) (most : ℕ) (fields : List Expr) → field_limit width ≡ Some most → numbers_refusal labels most fields ≡ data_refusal labels (FieldsOf width fields)
numbered labels Byte most fields e = sym (ap (judged labels fields) e)
numbered labels Half most fields e = sym (ap (judged labels fields) e)
numbered labels Word most fields e = grind arith

pub addressed : (labels : List NamePlace) (width : Width) (fields : List Expr) → field_limit width ≡ None → (if list_all (λ word. is_word_known labels word) fields then None else Some UndefinedLocal) ≡ data_refusal labels (FieldsOf width fields)
addressed labels Byte fields e = grind arith
addressed labels Half fields e = grind arith
addressed labels Word fields e = refl

of_sort : (labels : List NamePlace) (s : Sort) (d : StmtData) (code : Option (Result Code EncodeFault)) → sort_data s ≡ Some d
    → data_refusal labels d ≡ (if is_sort_known labels s then encode_or (sort_fault labels s code) None else Some UndefinedLocal)
of_sort labels (DataOf g) d code e = grind arith
of_sort labels _ d code e = grind arith

pub of_data : (labels : List NamePlace) (kind : StmtKind) (d : StmtData) (code : Option (Result Code EncodeFault)) → stmt_data kind ≡ Some d → data_refusal labels d ≡ first_refusal labels kind code
of_data labels kind d code e = of_sort labels (sort_of kind) d code e

pub first_stays : (known : Bool) (fault : Option EncodeFault) (rest : Option AsmWhat) → is_some (if known then encode_or fault None else Some UndefinedLocal) ≡ true
    → (if known then encode_or fault None else Some UndefinedLocal) ≡ (if not known then Some UndefinedLocal else encode_or fault rest)
first_stays true None rest h = grind arith
first_stays true (Some fault) rest h = refl
first_stays false fault rest h = refl

pub then_rest : (known : Bool) (fault : Option EncodeFault) (rest : Option AsmWhat) → is_some (if known then encode_or fault None else Some UndefinedLocal) ≡ false
    → rest ≡ (if not known then Some UndefinedLocal else encode_or fault rest)
then_rest true None rest h = refl
then_rest true (Some fault) rest h = grind arith
then_rest false fault rest h = grind arith
