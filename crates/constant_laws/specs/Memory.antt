-- The memory map, images in memory and their profiles, and control blocks (docs/rules/memory.md, docs/rules/instructions.md,
-- docs/rules/phases-and-exceptions.md).
use Rattle.std.specs.Prelude.{◌≡◌, codes}
use Rattle.eh_bus.specs.declared.map.TheConstants as eh_bus-map
use Rattle.run_images.specs.declared.memory.TheConstants as run_images-memory
use Rattle.run_images.specs.declared.profile.TheConstants as run_images-profile
use Rattle.eh_cxa.specs.declared.layout.TheConstants as eh_cxa-layout
use Rattle.eh_cxa.specs.declared.state.TheConstants as eh_cxa-state

-- the numbers that the definitions of eh_bus cite
pub record BusNumbers : Type 0 where
  pub stack_start : eh_bus-map.STACK_START ≡ 0x3FFF0000
  pub stack_size : eh_bus-map.STACK_SIZE ≡ 65536
  pub stack_end : eh_bus-map.STACK_END ≡ 0x40000000
  pub pool_start : eh_bus-map.POOL_START ≡ 0x38000000
  pub pool_size : eh_bus-map.POOL_SIZE ≡ 32768
  pub pool_end : eh_bus-map.POOL_END ≡ 0x38008000
  pub slot_size : eh_bus-map.SLOT_SIZE ≡ 512
  pub closed_size : eh_bus-map.CLOSED_SIZE ≡ 128
  pub open_word : eh_bus-map.OPEN_WORD ≡ 84
  pub image_end : eh_bus-map.IMAGE_END ≡ 0x30000000
  pub max_image_size : eh_bus-map.MAX_IMAGE_SIZE ≡ 1048576
  pub page_size : eh_bus-map.PAGE_SIZE ≡ 4096
  pub page_count : eh_bus-map.PAGE_COUNT ≡ 262144

-- the numbers that the definitions of run_images cite
pub record StartNumbers : Type 0 where
  pub code_start : run_images-memory.CODE_START ≡ 0x8000
  pub profile_symbol : run_images-profile.PROFILE_SYMBOL.now ≡ codes "__ehabi_profile"
  pub second_profile : run_images-profile.SECOND_PROFILE ≡ 2

-- the numbers that the definitions of eh_cxa cite
pub record BlockNumbers : Type 0 where
  pub slots : eh_cxa-layout.SLOTS ≡ 64
  pub slot_words : eh_cxa-layout.SLOT_WORDS ≡ 128
  pub closed_words : eh_cxa-layout.CLOSED_WORDS ≡ 32
  pub block : eh_cxa-layout.BLOCK ≡ 40
  pub object : eh_cxa-layout.OBJECT ≡ 128
  pub object_bytes : eh_cxa-layout.OBJECT_BYTES ≡ 384
  pub state : eh_cxa-layout.STATE ≡ 0
  pub size : eh_cxa-layout.SIZE ≡ 1
  pub type : eh_cxa-layout.TYPE ≡ 2
  pub destructor : eh_cxa-layout.DESTRUCTOR ≡ 3
  pub count : eh_cxa-layout.COUNT ≡ 4
  pub next_caught : eh_cxa-layout.NEXT_CAUGHT ≡ 5
  pub class : eh_cxa-layout.CLASS ≡ 10
  pub barrier_sp : eh_cxa-layout.BARRIER_SP ≡ 18
  pub barrier_object : eh_cxa-layout.BARRIER_OBJECT ≡ 19
  pub barrier_descriptor : eh_cxa-layout.BARRIER_DESCRIPTOR ≡ 20
  pub barrier_pointer : eh_cxa-layout.BARRIER_POINTER ≡ 21
  pub barrier_word_3 : eh_cxa-layout.BARRIER_WORD_3 ≡ 22
  pub barrier_word_4 : eh_cxa-layout.BARRIER_WORD_4 ≡ 23
  pub cleanup_next : eh_cxa-layout.CLEANUP_NEXT ≡ 24
  pub cleanup_sp : eh_cxa-layout.CLEANUP_SP ≡ 25
  pub cleanup_site : eh_cxa-layout.CLEANUP_SITE ≡ 26
  pub next_cleanup : eh_cxa-layout.NEXT_CLEANUP ≡ 27
  pub class_low : eh_cxa-layout.CLASS_LOW ≡ 0x42414845
  pub class_high : eh_cxa-layout.CLASS_HIGH ≡ 0x00545249
  pub free : eh_cxa-state.FREE ≡ 0
  pub fresh : eh_cxa-state.FRESH ≡ 1
  pub flying : eh_cxa-state.FLYING ≡ 2
  pub landed : eh_cxa-state.LANDED ≡ 3
  pub caught : eh_cxa-state.CAUGHT ≡ 4
  pub ended : eh_cxa-state.ENDED ≡ 5
