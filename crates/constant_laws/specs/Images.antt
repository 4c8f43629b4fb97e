-- ELF images, read and written (docs/rules/elf.md).
use Rattle.std.specs.Prelude.{◌≡◌}
use Rattle.elf_image.specs.declared.format.TheConstants as elf_image-format
use Rattle.elf_image.specs.declared.limits.TheConstants as elf_image-limits
use Rattle.elf_image.specs.declared.symbol.TheConstants as elf_image-symbol
use Rattle.elf_write.specs.declared.layout.TheConstants as elf_write-layout

-- the numbers that the definitions of elf_image cite
pub record ImageNumbers : Type 0 where
  pub file_header_size : elf_image-format.FILE_HEADER_SIZE ≡ 52
  pub program_header_size : elf_image-format.PROGRAM_HEADER_SIZE ≡ 32
  pub section_header_size : elf_image-format.SECTION_HEADER_SIZE ≡ 40
  pub et_exec : elf_image-format.ET_EXEC ≡ 2
  pub em_arm : elf_image-format.EM_ARM ≡ 40
  pub eabi_version : elf_image-format.EABI_VERSION ≡ 5
  pub pt_load : elf_image-format.PT_LOAD ≡ 1
  pub pt_arm_exidx : elf_image-format.PT_ARM_EXIDX ≡ 0x70000001
  pub sht_symtab : elf_image-format.SHT_SYMTAB ≡ 2
  pub sht_strtab : elf_image-format.SHT_STRTAB ≡ 3
  pub address_limit : elf_image-limits.ADDRESS_LIMIT ≡ 0x30000000
  pub memory_limit : elf_image-limits.MEMORY_LIMIT ≡ 1048576
  pub segment_limit : elf_image-limits.SEGMENT_LIMIT ≡ 1024
  pub symbol_limit : elf_image-limits.SYMBOL_LIMIT ≡ 65536
  pub function_limit : elf_image-limits.FUNCTION_LIMIT ≡ 4096
  pub symbol_size : elf_image-symbol.SYMBOL_SIZE ≡ 16
  pub stt_func : elf_image-symbol.STT_FUNC ≡ 2
  pub shn_undef : elf_image-symbol.SHN_UNDEF ≡ 0

-- the numbers that the definitions of elf_write cite
pub record WriterNumbers : Type 0 where
  pub sht_progbits : elf_write-layout.SHT_PROGBITS ≡ 1
  pub shn_abs : elf_write-layout.SHN_ABS ≡ 0xFFF1
  pub abi_flags : elf_write-layout.ABI_FLAGS ≡ 0x05000000
