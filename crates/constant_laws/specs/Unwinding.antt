-- Unwinding instructions, rows of the index, words of tables and descriptors (IHI 0038; docs/rules/unwind-tables.md, docs/rules/unwind-tables.md,
-- docs/rules/unwind-tables.md).
use Rattle.std.specs.Prelude.{◌≡◌}
use Rattle.eh_word.specs.declared.words.TheConstants as eh_word-words
use Rattle.eh_codes.specs.declared.code.TheConstants as eh_codes-code
use Rattle.eh_codes.specs.declared.row.TheConstants as eh_codes-row
use Rattle.eh_codes.specs.declared.words.TheConstants as eh_codes-words
use Rattle.eh_bytecode.specs.declared.recipe.TheConstants as eh_bytecode-recipe
use Rattle.eh_desc.specs.declared.descriptor.TheConstants as eh_desc-descriptor

-- the numbers that the definitions of eh_word cite
pub record WordNumbers : Type 0 where
  pub uleb128_bytes : eh_word-words.ULEB128_BYTES ≡ 5
  pub uleb128_last : eh_word-words.ULEB128_LAST ≡ 0x0F
  pub uleb128_more : eh_word-words.ULEB128_MORE ≡ 0x80

-- the numbers that the definitions of eh_codes cite
pub record CodeNumbers : Type 0 where
  pub raise : eh_codes-code.RAISE ≡ 0x00
  pub lower : eh_codes-code.LOWER ≡ 0x40
  pub pop_mask : eh_codes-code.POP_MASK ≡ 0x80
  pub restore : eh_codes-code.RESTORE ≡ 0x90
  pub pop_range : eh_codes-code.POP_RANGE ≡ 0xA0
  pub pop_range_and_lr : eh_codes-code.POP_RANGE_AND_LR ≡ 0xA8
  pub finish : eh_codes-code.FINISH ≡ 0xB0
  pub pop_low : eh_codes-code.POP_LOW ≡ 0xB1
  pub raise_long : eh_codes-code.RAISE_LONG ≡ 0xB2
  pub long_least : eh_codes-code.LONG_LEAST ≡ 0x204
  pub cant_unwind : eh_codes-row.CANT_UNWIND ≡ 1
  pub row_size : eh_codes-row.ROW_SIZE ≡ 8
  pub prel31_limit : eh_codes-row.PREL31_LIMIT ≡ 0x80000000
  pub compact_mark : eh_codes-words.COMPACT_MARK ≡ 0x80000000
  pub compact_top : eh_codes-words.COMPACT_TOP ≡ 0x80
  pub most_personality : eh_codes-words.MOST_PERSONALITY ≡ 2
  pub wide_personality : eh_codes-words.WIDE_PERSONALITY ≡ 2
  pub reference_mark : eh_codes-words.REFERENCE_MARK ≡ 0x80000000
  pub landing_pad_mark : eh_codes-words.LANDING_PAD_MARK ≡ 0x80000000

-- the numbers that the definitions of eh_bytecode cite
pub record RecipeNumbers : Type 0 where
  pub most_offset : eh_bytecode-recipe.MOST_OFFSET ≡ 65536

-- the numbers that the definitions of eh_desc cite
pub record DescriptorNumbers : Type 0 where
  pub all : eh_desc-descriptor.ALL ≡ 0xFFFFFFFF
  pub all_fails : eh_desc-descriptor.ALL_FAILS ≡ 0xFFFFFFFE
  pub most_types : eh_desc-descriptor.MOST_TYPES ≡ 1024
