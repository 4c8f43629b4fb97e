-- The text of the stubs, piece by piece (Itanium C++ ABI, "Run-Time Type Information", for the objects).
use Rattle.std.specs.Prelude.{ℕ, List, ◌++◌, codes}

-- a function that other objects may call, with these lines between `.fnstart` and `.fnend`
abbrev pub function : List ℕ → List ℕ → List ℕ
function name lines =
    codes ".global " ++ name ++ codes "\n.type " ++ name ++ codes ", %function\n"
    ++ name ++ codes ": .fnstart\n" ++ lines ++ codes ".fnend\n"

-- a function that returns after its gate
abbrev pub gate : List ℕ → List ℕ → List ℕ
gate name number = function name (codes "svc #" ++ number ++ codes "\nbx lr\n")

-- a function whose gate never returns
abbrev pub last_gate : List ℕ → List ℕ → List ℕ
last_gate name number = function name (codes "svc #" ++ number ++ codes "\n")

-- a vtable by whose address a type's kind is told: 16 zero bytes
abbrev pub vtable : List ℕ → List ℕ
vtable name = codes ".global " ++ name ++ codes "\n" ++ name ++ codes ": .zero 16\n"

abbrev pub fundamental : List ℕ
fundamental = codes "_ZTVN10__cxxabiv123__fundamental_type_infoE"

-- a fundamental type of this name, whose words are the vtable's address plus 8 and the address of its name
abbrev pub fundamental_type : List ℕ → List ℕ
fundamental_type name =
    codes ".global _ZTI" ++ name ++ codes "\n_ZTI" ++ name ++ codes ": .word "
    ++ fundamental ++ codes "+8, .Ln" ++ name ++ codes "\n"

abbrev pub type_name : List ℕ → List ℕ
type_name name = codes ".Ln" ++ name ++ codes ": .asciz \"" ++ name ++ codes "\"\n"

abbrev pub functions_text : List ℕ
functions_text =
    function (codes "_start") (codes ".save {r4, lr}\npush {r4, lr}\nbl main\npop {r4, pc}\n")
    ++ gate (codes "__cxa_allocate_exception") (codes "16")
    ++ gate (codes "__cxa_free_exception") (codes "17")
    ++ last_gate (codes "__cxa_throw") (codes "18")
    ++ gate (codes "__cxa_begin_catch") (codes "19")
    ++ function (codes "__cxa_end_catch") (codes ".save {r4, lr}\npush {r4, lr}\nsvc #20\nmovs r4, r0\nbeq .Ld\ncmp r1, #0\n"
    ++ codes "beq .Lf\nblx r1\n.Lf: movs r0, r4\nsvc #17\n.Ld: pop {r4, pc}\n")
    ++ last_gate (codes "__cxa_rethrow") (codes "21")
    ++ last_gate (codes "__cxa_end_cleanup") (codes "22")
    ++ last_gate (codes "__cxa_call_unexpected") (codes "23")
    ++ last_gate (codes "_ZSt9terminatev") (codes "24")
    ++ gate (codes "_ZSt19uncaught_exceptionsv") (codes "25")
    ++ gate (codes "putchar") (codes "1")
    ++ gate (codes "getchar") (codes "2")
    ++ last_gate (codes "exit") (codes "0")

abbrev pub data_text : List ℕ
data_text =
    vtable fundamental
    ++ vtable (codes "_ZTVN10__cxxabiv117__class_type_infoE")
    ++ vtable (codes "_ZTVN10__cxxabiv120__si_class_type_infoE")
    ++ vtable (codes "_ZTVN10__cxxabiv121__vmi_class_type_infoE")
    ++ vtable (codes "_ZTVN10__cxxabiv119__pointer_type_infoE")
    ++ fundamental_type (codes "i")
    ++ fundamental_type (codes "v")
    ++ type_name (codes "i")
    ++ type_name (codes "v")

-- the source of the stubs
unfoldable pub stubs_text : List ℕ
stubs_text = codes ".text\n" ++ functions_text ++ codes ".section .rodata\n" ++ data_text
