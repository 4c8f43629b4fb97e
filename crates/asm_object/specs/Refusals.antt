-- Why a statement is refused at its place (docs/rules/sources.md, "Refusals of statements").
use Rattle.std.specs.Prelude.{ℕ, ◌-◌, ◌*◌, ◌==◌, ◌&&◌, ◌||◌, not, ℤ, pos, negsuc, Bool, true, false, nat_lt, nat_le, if◌then◌else◌, List, length, Option, Some, None, is_some, Result}
use Rattle.std.specs.List.{list_all}
use Rattle.std.specs.Result.{result_err}
use Rattle.asm_statements.specs.declared.statement.Expr.{Expr}
use Rattle.asm_statements.specs.declared.statement.StmtKind.{StmtKind}
use Rattle.asm_statements.specs.declared.statement.StmtKind.TheVariants as stmt
use Rattle.thumb_isa.specs.declared.instr.Instr.{Instr}
use Rattle.thumb_encode.specs.declared.code.Code.{Code}
use Rattle.thumb_isa.specs.declared.encode_fault.EncodeFault.{EncodeFault}
use Rattle.thumb_isa.specs.declared.encode_fault.EncodeFault.TheVariants.{RegisterRange, ImmediateRange}
use Rattle.asm_relocatable.specs.declared.place.Section.{Section}
use Rattle.asm_relocatable.specs.declared.place.Section.TheVariants.{Text, Bss}
use Rattle.asm_layout.specs.declared.fault.AsmWhat.{AsmWhat}
use Rattle.asm_layout.specs.declared.fault.AsmWhat.TheVariants.{UndefinedLocal, Encode, PoolTooFar, Placement}
use Rattle.asm_layout.specs.Sizes.{is_instruction}
use Rattle.asm_layout.specs.declared.given.Width.{Width}
use Rattle.asm_layout.specs.Given.{StmtData, FieldsOf, TextOf, ZerosOf, field_limit, takes_addresses}
use Rattle.asm_layout.specs.Sorts.{Operation, Nameless, Undefined, AdrOf, LdrOf, LdrValue, BTo, BCondTo, BlTo, BWideTo, CbzTo, Sort, CodeOf, DataOf, Filling, AboutName, Bare, sort_of, stmt_data}
use Rattle.asm_relocatable.specs.Sections.{same_section}
use Rattle.asm_layout.specs.Labels.{NamePlace}
use Rattle.asm_object.specs.Values.{is_known, is_word_known, number}
use Rattle.asm_object.specs.declared.refusal.TheConstants.{MOST_TO_POOL}
use Rattle.asm_object.specs.Instructions.{text_place, base, instruction, encode_option}

-- the names of an instruction may be used
abbrev pub are_operands_known : List NamePlace → Operation → Bool
are_operands_known labels (Nameless _) = true
are_operands_known labels (Undefined _) = true
are_operands_known labels (AdrOf _ name) = is_some (text_place labels name)
are_operands_known labels (LdrOf _ name) = is_some (text_place labels name)
are_operands_known labels (LdrValue _ value) = is_word_known labels value
are_operands_known labels (BTo name) = is_known labels name
are_operands_known labels (BCondTo _ name) = is_known labels name
are_operands_known labels (BlTo name) = is_known labels name
are_operands_known labels (BWideTo name) = is_some (text_place labels name)
are_operands_known labels (CbzTo _ _ name) = is_some (text_place labels name)

-- a field is known if it is a number, or if its width takes addresses and its names may be used
abbrev pub is_field_known : List NamePlace → Width → Expr → Bool
is_field_known labels width field = if takes_addresses width then is_word_known labels field else is_some (number labels field)

-- the names of data may be used
abbrev pub are_fields_known : List NamePlace → StmtData → Bool
are_fields_known labels (FieldsOf width fields) = list_all (λ field. is_field_known labels width field) fields
are_fields_known labels (TextOf _ _) = true
are_fields_known labels (ZerosOf _) = true

abbrev pub is_sort_known : List NamePlace → Sort → Bool
is_sort_known labels (CodeOf _ operation) = are_operands_known labels operation
is_sort_known labels (DataOf d) = are_fields_known labels d
is_sort_known labels (Filling _) = true
is_sort_known labels (AboutName name) = is_known labels name
is_sort_known labels Bare = true

-- the names of a statement may be used
abbrev pub are_names_known : List NamePlace → StmtKind → Bool
are_names_known labels kind = is_sort_known labels (sort_of kind)

-- a number from -limit to 2 * limit - 1
abbrev pub fits_field : ℕ → Option ℤ → Bool
fits_field most (Some (pos n)) = nat_lt n (2 * most)
fits_field most (Some (negsuc n)) = nat_lt n most
fits_field most None = true

abbrev pub fault_unless : Bool → EncodeFault → Option EncodeFault
fault_unless holds fault = if holds then None else Some fault

abbrev pub coded_fault : Option (Result Code EncodeFault) → Option EncodeFault
coded_fault None = None
coded_fault (Some code) = result_err code

abbrev pub instruction_fault : Option Instr → Option EncodeFault
instruction_fault i = coded_fault (encode_option i)

abbrev pub is_from_zero_to : ℕ → ℤ → Bool
is_from_zero_to most (pos n) = nat_le n most
is_from_zero_to most (negsuc n) = false

abbrev pub is_natural : ℤ → Bool
is_natural (pos n) = true
is_natural (negsuc n) = false

-- why an instruction has no code, given the result of the encoder. For `ldr rt, =value` only the register counts
abbrev pub operation_fault : Operation → Option (Result Code EncodeFault) → Option EncodeFault
operation_fault (Nameless _) code = coded_fault code
operation_fault (Undefined imm) code = fault_unless (is_from_zero_to 255 imm) ImmediateRange
operation_fault (AdrOf _ _) code = coded_fault code
operation_fault (LdrOf _ _) code = coded_fault code
operation_fault (LdrValue t _) code = fault_unless (nat_lt t 8) RegisterRange
operation_fault (BTo _) code = coded_fault code
operation_fault (BCondTo _ _) code = coded_fault code
operation_fault (BlTo _) code = coded_fault code
operation_fault (BWideTo _) code = coded_fault code
operation_fault (CbzTo _ _ _) code = coded_fault code

-- why a number doesn't fit its field, if there is a limit
abbrev pub fields_fault : List NamePlace → Option ℕ → List Expr → Option EncodeFault
fields_fault labels None fields = None
fields_fault labels (Some most) fields = fault_unless (list_all (λ field. fits_field most (number labels field)) fields) ImmediateRange

-- why a number of data doesn't fit
abbrev pub data_fault : List NamePlace → StmtData → Option EncodeFault
data_fault labels (FieldsOf width fields) = fields_fault labels (field_limit width) fields
data_fault labels (TextOf _ _) = None
data_fault labels (ZerosOf n) = fault_unless (is_natural n) ImmediateRange

abbrev pub sort_fault : List NamePlace → Sort → Option (Result Code EncodeFault) → Option EncodeFault
sort_fault labels (CodeOf _ operation) code = operation_fault operation code
sort_fault labels (DataOf d) code = data_fault labels d
sort_fault labels (Filling _) code = None
sort_fault labels (AboutName _) code = None
sort_fault labels Bare code = None

abbrev pub encode_fault_by : List NamePlace → StmtKind → Option (Result Code EncodeFault) → Option EncodeFault
encode_fault_by labels kind code = sort_fault labels (sort_of kind) code

abbrev pub encode_fault : List NamePlace → StmtKind → ℕ → Option ℕ → Option EncodeFault
encode_fault labels kind place word = encode_fault_by labels kind (encode_option (instruction labels kind place word))

-- a pool word is more than 1,020 bytes after the base of its `ldr`
abbrev pub is_pool_too_far : ℕ → Option ℕ → Bool
is_pool_too_far place (Some word) = nat_lt MOST_TO_POOL (word - base place)
is_pool_too_far place None = false

abbrev pub has_fields : List Expr → Bool
has_fields fields = not (length fields == 0)

-- data gives bytes, and not zeros alone
abbrev pub has_bytes_in : Option StmtData → Bool
has_bytes_in None = false
has_bytes_in (Some (FieldsOf _ fields)) = has_fields fields
has_bytes_in (Some (TextOf text closed)) = if closed then true else not (length text == 0)
has_bytes_in (Some (ZerosOf _)) = false

abbrev pub has_bytes : StmtKind → Bool
has_bytes kind = has_bytes_in (stmt_data kind)

abbrev pub starts_function : StmtKind → Bool
starts_function stmt.FnStart = true
starts_function _ = false

-- an instruction or a `.fnstart` outside the text, bytes in bss
abbrev pub is_misplaced : StmtKind → Section → Bool
is_misplaced kind section =
    if is_instruction kind || starts_function kind then not (same_section section Text)
    else has_bytes kind && same_section section Bss

abbrev pub encode_or : Option EncodeFault → Option AsmWhat → Option AsmWhat
encode_or (Some fault) later = Some (Encode fault)
encode_or None later = later

-- why the numbers of fields are refused: one is unknown, or else one doesn't fit
abbrev pub numbers_refusal : List NamePlace → ℕ → List Expr → Option AsmWhat
numbers_refusal labels most fields =
    if list_all (λ field. is_some (number labels field)) fields then encode_or (fields_fault labels (Some most) fields) None else Some UndefinedLocal

-- why data is refused
abbrev pub data_refusal : List NamePlace → StmtData → Option AsmWhat
data_refusal labels d = if are_fields_known labels d then encode_or (data_fault labels d) None else Some UndefinedLocal

-- why names and encodings are refused
abbrev pub first_refusal : List NamePlace → StmtKind → Option (Result Code EncodeFault) → Option AsmWhat
first_refusal labels kind code =
    if are_names_known labels kind then encode_or (encode_fault_by labels kind code) None else Some UndefinedLocal

-- the lowest refusal of names, encodings, pools and places
unfoldable pub refusal : List NamePlace → StmtKind → Section → ℕ → Option ℕ → Option AsmWhat
refusal labels kind section place word =
    if not (are_names_known labels kind) then Some UndefinedLocal
    else encode_or (encode_fault labels kind place word)
    (if is_pool_too_far place word then Some PoolTooFar
    else (if is_misplaced kind section then Some Placement else None))
