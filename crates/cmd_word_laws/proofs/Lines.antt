-- What the lines of refusals are.
use Rattle.std.specs.Prelude.{nat_le, codes, decimal, map, if◌then◌else◌}
use Rattle.std.proofs.Common.{◌≡◌, inl, inr, ℕ, ◌<◌, ◌≤◌, ◌==◌, ◌&&◌, cond, List, [], ◌∷◌, ◌++◌, refl, ap, ◌∙◌, arith, append_assoc}
use Rattle.std.proofs.lemmas.Bool.{le-leb, lt-leb, cases_lt, ne_eqb}
use Rattle.frame_facts.specs.CauseNames.{cause_name}
use Rattle.frame_facts.specs.declared.cause.FrameCause.{FrameCause}
use Rattle.frame_facts.specs.declared.cause.FrameCause.TheVariants as cause
use Rattle.eh_trace.specs.Text.{printable_byte, offset_text}
use Rattle.cmd_lines.specs.CheckText.{register_name, cause_detail}
use Rattle.cmd_word_laws.specs.Lines.{IsShownAs, IsShown, IsFunctionLine, RefusalsAreWritten}

-- ---- names of functions

is_printed : (b : ℕ) → 33 ≤ b → b ≤ 126 → printable_byte b ≡ b
is_printed b low high = ap (λ c. cond (c && nat_le b 126) b 63) (le-leb 33 b low) ∙ ap (λ c. cond c b 63) (le-leb b 126 high)

is_low : (b : ℕ) → b < 33 → printable_byte b ≡ 63
is_low b h = ap (λ c. cond (c && nat_le b 126) b 63) (lt-leb 33 b h)

is_high : (b : ℕ) → 33 ≤ b → 126 < b → printable_byte b ≡ 63
is_high b low h = ap (λ c. cond (c && nat_le b 126) b 63) (le-leb 33 b low) ∙ ap (λ c. cond c b 63) (lt-leb b 126 h)

shown_as : (b : ℕ) → IsShownAs b (printable_byte b)
shown_as b = elim (cases_lt b 33) [
  | inl below ↦ inr (inl below, is_low b below)
  | inr low ↦ elim (cases_lt 126 b) [
    | inl above ↦ inr (inr above, is_high b low above)
    | inr high ↦ inl (low, high, is_printed b low high)
  ]
]

shows : (name : List ℕ) → IsShown name (map printable_byte name)
shows [] = tt
shows (b ∷ name) = (shown_as b, shows name)

-- what is said of a cause stands after its name in the line
function : (name : List ℕ) (offset : ℕ) (what : FrameCause) (letters : List ℕ) → cause_name what ++ cause_detail what ≡ letters → IsFunctionLine what letters name offset
function name offset what letters e =
    let place = map printable_byte name ++ codes "+" ++ offset_text offset ++ codes ": " in
    record {
      shown = map printable_byte name;
      named = shows name;
      line = ap (λ l. l ++ codes "\n") (append_assoc place (cause_name what) (cause_detail what) ∙ ap (λ l. place ++ l) e);
    }

-- ---- registers

low_register : (number : ℕ) → number < 13 → register_name number ≡ codes "r" ++ decimal number
low_register number h =
    ap (λ t. if t then codes "sp" else (if number == 14 then codes "lr" else (if number == 15 then codes "pc" else codes "r" ++ decimal number))) (ne_eqb number 13 (λ e. omega (arith, h, e)))
    ∙ ap (λ t. if t then codes "lr" else (if number == 15 then codes "pc" else codes "r" ++ decimal number)) (ne_eqb number 14 (λ e. omega (arith, h, e)))
    ∙ ap (λ t. if t then codes "pc" else codes "r" ++ decimal number) (ne_eqb number 15 (λ e. omega (arith, h, e)))

-- ---- all

pub refusals : RefusalsAreWritten
refusals = record {
  sources = record {
    not_ascii = λ name line column. refl;
    line_too_long = λ name line column. refl;
    too_many_lines = λ name line column. refl;
    bad_token = λ name line column. refl;
    unknown_mnemonic = λ name line column. refl;
    unknown_directive = λ name line column. refl;
    bad_operand = λ name line column. refl;
    number_range = λ name line column. refl;
  };
  objects = record {
    duplicate_label = λ name line. refl;
    undefined_local = λ name line. refl;
    pool_too_far = λ name line. refl;
    section_too_large = λ name line. refl;
    placement = λ name line. refl;
    register_range = λ name line. refl;
    list_empty = λ name line. refl;
    immediate_range = λ name line. refl;
    immediate_align = λ name line. refl;
    target_range = λ name line. refl;
    outside_function = λ name line. refl;
    nested_function = λ name line. refl;
    save_range = λ name line. refl;
    pad_range = λ name line. refl;
    two_personalities = λ name line. refl;
    after_cantunwind = λ name line. refl;
    too_long = λ name line. refl;
  };
  schedules = λ name offset. refl;
  links = record { duplicate = λ name. refl; undefined = λ name. refl; no_entry = refl; too_large = refl; relocation_range = λ place. refl };
  images = record {
    truncated = λ need. refl;
    not_elf = refl;
    class = refl;
    machine = refl;
    version = refl;
    kind = refl;
    entry_size = refl;
    no_symbols = refl;
    segment_range = refl;
    segment_overlap = refl;
    index_range = refl;
    too_large = refl;
    entry = refl;
  };
  indexes = record { size = refl; outside_image = λ row. refl; unsorted = λ row. refl };
  types = record { unreadable = λ at. refl; writable = λ at. refl; name_too_long = λ at. refl; cyclic = λ at. refl; too_many_paths = λ at. refl };
  functions = record {
    undecodable = λ name offset. function name offset cause.Undecodable (codes "Undecodable") refl;
    branch_out = λ name offset. function name offset cause.BranchOut (codes "BranchOut") refl;
    indirect_branch = λ name offset. function name offset cause.IndirectBranch (codes "IndirectBranch") refl;
    call_not_function = λ name offset. function name offset cause.CallNotFunction (codes "CallNotFunction") refl;
    sp_write = λ name offset. function name offset cause.SpWrite (codes "SpWrite") refl;
    join_depth = λ name offset. function name offset cause.JoinDepth (codes "JoinDepth") refl;
    return_state = λ name offset. function name offset cause.ReturnState (codes "ReturnState") refl;
    call_state = λ reg name offset. function name offset (cause.CallState reg) (codes "CallState " ++ register_name reg) refl;
    frame_pointer_lost = λ reg name offset. function name offset (cause.FramePointerLost reg) (codes "FramePointerLost " ++ register_name reg) refl;
    bad_bytecode = λ name offset. function name offset cause.BadBytecode (codes "BadBytecode") refl;
    bad_descriptor = λ name offset. function name offset cause.BadDescriptor (codes "BadDescriptor") refl;
    pad_depth = λ name offset. function name offset cause.PadDepth (codes "PadDepth") refl;
    throw_in_leaf_scope = λ name offset. function name offset cause.ThrowInLeafScope (codes "ThrowInLeafScope") refl;
    split_entry = λ name offset. function name offset cause.SplitEntry (codes "SplitEntry") refl;
    generic_model = λ name offset. function name offset cause.GenericModel (codes "GenericModel") refl;
    too_long = λ name offset. function name offset cause.TooLong (codes "TooLong") refl;
  };
  registers = record { low = low_register; sp = refl; lr = refl; pc = refl };
}
