-- On words: a throw, its barrier and its landing.
use Rattle.std.specs.Prelude.{ℕ, Bool, true, false, List, [], ◌∷◌, Option, Some, None, Result, Ok, Err, if◌then◌else◌, ◌+◌}
use Rattle.eh_cxa.specs.declared.globals.Globals.{Globals}
use Rattle.eh_cxa.specs.declared.globals.BarrierWords.{BarrierWords}
use Rattle.eh_cxa.specs.declared.globals.CxaFault.{CxaFault}
use Rattle.eh_cxa.specs.declared.globals.CxaFault.TheVariants.{BadObject}
use Rattle.eh_cxa.specs.declared.layout.TheConstants.{STATE, TYPE, DESTRUCTOR, CLASS, CLASS_LOW, CLASS_HIGH, BARRIER_SP, BARRIER_OBJECT, BARRIER_DESCRIPTOR, BARRIER_POINTER, BARRIER_WORD_3, BARRIER_WORD_4}
use Rattle.eh_cxa.specs.declared.state.TheConstants.{FLYING, LANDED}
use Rattle.eh_cxa.specs.States.{state_of_word, is_fresh, is_flying}
use Rattle.eh_cxa.specs.Words.{Pool, Write, write, block, object, Done, one_more}

pub record Throw : Type 0 where
  pub ty : ℕ
  pub destructor : ℕ

abbrev pub throw_by : Bool → Globals → ℕ → Throw → Done (Result ℕ CxaFault)
throw_by false g s t = record { answer = Err BadObject; globals = g; writes = [] }
throw_by true g s t = record {
  answer = Ok (block s);
  globals = record { caught = g.caught; cleanup = g.cleanup; uncaught = one_more g.uncaught };
  writes = write s TYPE t.ty ∷ (write s DESTRUCTOR t.destructor ∷ (write s CLASS CLASS_LOW ∷ (write s (CLASS + 1) CLASS_HIGH ∷ (write s STATE FLYING ∷ []))));
}

-- s is the slot whose object is thrown; None if the address isn't an object's
abbrev pub start_throw_of : Pool → Globals → Option ℕ → Throw → Done (Result ℕ CxaFault)
start_throw_of w g None t = record { answer = Err BadObject; globals = g; writes = [] }
start_throw_of w g (Some s) t = throw_by (is_fresh (state_of_word (w s STATE))) g s t

-- the result of a throw, without the control block
abbrev pub throw_fault : Pool → Option ℕ → Result (Unit {0}) CxaFault
throw_fault w None = Err BadObject
throw_fault w (Some s) = if is_fresh (state_of_word (w s STATE)) then Ok tt else Err BadObject

-- a result without the control block
abbrev pub without_block : Result ℕ CxaFault → Result (Unit {0}) CxaFault
without_block (Ok b) = Ok tt
without_block (Err e) = Err e

abbrev pub set_barrier_of : Option ℕ → BarrierWords → List Write
set_barrier_of None b = []
set_barrier_of (Some s) b =
    write s BARRIER_SP b.sp ∷ (write s BARRIER_OBJECT b.object ∷ (write s BARRIER_DESCRIPTOR b.desc
    ∷ (write s BARRIER_POINTER b.pointer ∷ (write s BARRIER_WORD_3 0 ∷ (write s BARRIER_WORD_4 0 ∷ [])))))

abbrev pub no_barrier : BarrierWords
no_barrier = record { sp = 0; object = 0; desc = 0; pointer = 0 }

abbrev pub barrier_of : Pool → Option ℕ → BarrierWords
barrier_of w None = no_barrier
barrier_of w (Some s) = record { sp = w s BARRIER_SP; object = w s BARRIER_OBJECT; desc = w s BARRIER_DESCRIPTOR; pointer = w s BARRIER_POINTER }

-- the object and its type
abbrev pub object_and_type : Pool → Option ℕ → ℕ × ℕ
object_and_type w None = (0, 0)
object_and_type w (Some s) = (object s, w s TYPE)

abbrev pub land_by : Bool → ℕ → List Write
land_by true s = write s STATE LANDED ∷ []
land_by false s = []

abbrev pub land_of : Pool → Option ℕ → List Write
land_of w None = []
land_of w (Some s) = land_by (is_flying (state_of_word (w s STATE))) s
