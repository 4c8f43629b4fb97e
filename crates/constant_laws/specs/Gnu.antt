-- GNU tables and the descriptors that replace them (docs/rules/gnu-tables.md).
use Rattle.std.specs.Prelude.{◌≡◌, codes}
use Rattle.gnu_lsda.specs.declared.actions.TheConstants as gnu_lsda-actions
use Rattle.gnu_lsda.specs.declared.fault.TheConstants as gnu_lsda-fault
use Rattle.gnu_lsda.specs.declared.lsda.TheConstants as gnu_lsda-lsda
use Rattle.gnu_compact.specs.declared.codes.TheConstants as gnu_compact-codes
use Rattle.gnu_compact.specs.declared.descriptor.TheConstants as gnu_compact-descriptor
use Rattle.gnu_index.specs.declared.refusal.TheConstants as gnu_index-refusal
use Rattle.gnu_rewrite.specs.declared.limits.TheConstants as gnu_rewrite-limits
use Rattle.gnu_rewrite.specs.declared.segments.TheConstants as gnu_rewrite-segments
use Rattle.gnu_rewrite.specs.declared.symbols.TheConstants as gnu_rewrite-symbols

-- the numbers that the definitions of gnu_lsda cite
pub record GnuTableNumbers : Type 0 where
  pub absolute : gnu_lsda-lsda.ABSOLUTE ≡ 0
  pub relative : gnu_lsda-lsda.RELATIVE ≡ 0x10
  pub uleb128 : gnu_lsda-lsda.ULEB128 ≡ 1
  pub omitted : gnu_lsda-lsda.OMITTED ≡ 0xFF
  pub most_actions : gnu_lsda-actions.MOST_ACTIONS ≡ 64
  pub too_many_words : gnu_lsda-fault.TOO_MANY_WORDS ≡ 255

-- the numbers that the definitions of gnu_compact cite
pub record DescriptorByteNumbers : Type 0 where
  pub most_codes : gnu_compact-codes.MOST_CODES ≡ 1022
  pub scope_size : gnu_compact-descriptor.SCOPE_SIZE ≡ 8

-- the number that the definitions of gnu_index cite
pub record GnuImageNumbers : Type 0 where
  pub sites_limit : gnu_index-refusal.SITES_LIMIT ≡ 1048576

-- the numbers and the name that the definitions of gnu_rewrite cite
pub record GnuTranslationNumbers : Type 0 where
  pub segment_step : gnu_rewrite-segments.SEGMENT_STEP ≡ 4096
  pub file_limit : gnu_rewrite-limits.FILE_LIMIT ≡ 16777216
  pub mark_name_size : gnu_rewrite-limits.MARK_NAME_SIZE ≡ 3
  pub profile : gnu_rewrite-symbols.PROFILE.now ≡ codes "__ehabi_profile"
