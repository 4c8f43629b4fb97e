-- Type information, and what matching reads of it (docs/rules/types-and-matching.md, docs/rules/types-and-matching.md).
use Rattle.std.specs.Prelude.{◌≡◌}
use Rattle.eh_types.specs.declared.graph.TheConstants as eh_types-graph
use Rattle.eh_types.specs.declared.types.TheConstants as eh_types-types
use Rattle.eh_types.specs.declared.vtables.TheConstants as eh_types-vtables
use Rattle.eh_types.specs.declared.words.TheConstants as eh_types-words
use Rattle.eh_match.specs.declared.rules.TheConstants as eh_match-rules

-- the numbers that the definitions of eh_types cite
pub record TypeNumbers : Type 0 where
  pub most_paths : eh_types-graph.MOST_PATHS ≡ 256
  pub local_mark : eh_types-graph.LOCAL_MARK ≡ 42
  pub name_limit : eh_types-types.NAME_LIMIT ≡ 1024
  pub name : eh_types-types.NAME ≡ 4
  pub bases : eh_types-types.BASES ≡ 16
  pub base_size : eh_types-types.BASE_SIZE ≡ 8
  pub vtable_point : eh_types-vtables.VTABLE_POINT ≡ 8
  pub first : eh_types-vtables.FIRST ≡ 8
  pub second : eh_types-vtables.SECOND ≡ 12
  pub word_size : eh_types-words.WORD_SIZE ≡ 4

-- the numbers that the definitions of eh_match cite
pub record MatchNumbers : Type 0 where
  pub void_name : eh_match-rules.VOID_NAME ≡ 118
  pub function_mark : eh_match-rules.FUNCTION_MARK ≡ 70
  pub const_bit : eh_match-rules.CONST_BIT ≡ 0
  pub volatile_bit : eh_match-rules.VOLATILE_BIT ≡ 1
  pub transaction_safe_bit : eh_match-rules.TRANSACTION_SAFE_BIT ≡ 5
  pub noexcept_bit : eh_match-rules.NOEXCEPT_BIT ≡ 6
