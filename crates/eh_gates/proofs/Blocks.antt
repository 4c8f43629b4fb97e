-- The control blocks that calls answer are those of slots.
use Rattle.std.specs.Prelude.{IsSome}
use Rattle.std.proofs.Common.{◌≡◌, ℕ, ◌==◌, Bool, true, false, List, Option, Some, None, Result, Ok, Err, refl, sym, ap, ◌∙◌, subst}
use Rattle.eh_bus.specs.Memory.{Memory}
use Rattle.eh_cxa.specs.declared.globals.Globals.{Globals}
use Rattle.eh_cxa.specs.declared.globals.CleanupWords.{CleanupWords}
use Rattle.eh_cxa.specs.declared.globals.CxaFault.{CxaFault}
use Rattle.eh_cxa.specs.declared.layout.TheConstants.{STATE, CLEANUP_SP}
use Rattle.eh_cxa.specs.States.{state_of_word, is_fresh, is_caught}
use Rattle.eh_cxa.specs.Words.{Pool, block, object, block_slot, object_slot, Done, call_result}
use Rattle.eh_cxa.specs.Throw.{Throw, start_throw_of, throw_by, object_and_type}
use Rattle.eh_cxa.specs.Catch.{rethrow_of, rethrow_at, rethrow_by}
use Rattle.eh_cxa.specs.Cleanup.{end_cleanup_of, end_cleanup_at, end_cleanup_by}
use Rattle.eh_cxa.proofs.Pools.{slot_small, slot_of_block_is, object_small, slot_of_object_is}

some_slot : (o : Option ℕ) (s : ℕ) → o ≡ Some s → IsSome o
some_slot o s e = subst (λ (v : Option ℕ). IsSome v) (sym e) refl

-- a block that is some slot's
abbrev Answers : Result ℕ CxaFault → Type 0
Answers r = (b : ℕ) → r ≡ Ok b → IsSome (block_slot b)

refused_answers : (why : CxaFault) → Answers (Err why)
refused_answers why b e = absurd (cc)

block_answers : (a s : ℕ) → block_slot a ≡ Some s → Answers (Ok (block s))
block_answers a s e b f =
    let same : block s ≡ b = cc in
    some_slot (block_slot b) s (subst (λ (x : ℕ). block_slot x ≡ Some s) same (slot_of_block_is s (slot_small a s e)))

rethrow_by_answers : (b : Bool) (w : Pool) (g : Globals) (s : ℕ) → block_slot g.caught ≡ Some s → Answers (rethrow_by b w g s).answer
rethrow_by_answers true w g s e = block_answers g.caught s e
rethrow_by_answers false w g s e = refused_answers _

rethrow_at_answers : (w : Pool) (g : Globals) (o : Option ℕ) → block_slot g.caught ≡ o → Answers (rethrow_at w g o).answer
rethrow_at_answers w g None e = refused_answers _
rethrow_at_answers w g (Some s) e = rethrow_by_answers (is_caught (state_of_word (w s STATE))) w g s e

pub rethrow_block : (w : Pool) (g : Globals) (b : ℕ) → Ok b ≡ (rethrow_of w g).answer → IsSome (block_slot b)
rethrow_block w g b e = rethrow_at_answers w g (block_slot g.caught) refl b (sym e)

object_answers : (a s : ℕ) → object_slot a ≡ Some s → Answers (Ok (block s))
object_answers a s e b f =
    let same : block s ≡ b = cc in
    some_slot (block_slot b) s (subst (λ (x : ℕ). block_slot x ≡ Some s) same (slot_of_block_is s (object_small a s e)))

throw_by_answers : (b : Bool) (g : Globals) (s a : ℕ) (t : Throw) → object_slot a ≡ Some s → Answers (throw_by b g s t).answer
throw_by_answers true g s a t e = object_answers a s e
throw_by_answers false g s a t e = refused_answers _

throw_answers : (w : Pool) (g : Globals) (a : ℕ) (o : Option ℕ) (t : Throw) → object_slot a ≡ o → Answers (start_throw_of w g o t).answer
throw_answers w g a None t e = refused_answers _
throw_answers w g a (Some s) t e = throw_by_answers (is_fresh (state_of_word (w s STATE))) g s a t e

pub throw_block : (w : Pool) (g : Globals) (a b : ℕ) (t : Throw) → Ok b ≡ (start_throw_of w g (object_slot a) t).answer → IsSome (block_slot b)
throw_block w g a b t e = throw_answers w g a (object_slot a) t refl b (sym e)

abbrev CleanupAnswers : Result (ℕ × CleanupWords) CxaFault → Type 0
CleanupAnswers r = (b : ℕ) (c : CleanupWords) → r ≡ Ok (b, c) → IsSome (block_slot b)

abbrev first_of : Result (ℕ × CleanupWords) CxaFault → Result ℕ CxaFault
first_of (Ok p) = Ok p.0
first_of (Err why) = Err why

refused_cleanup : (why : CxaFault) → CleanupAnswers (Err why)
refused_cleanup why b c e = absurd (cc)

cleanup_by_answers : (b : Bool) (w : Pool) (g : Globals) (s : ℕ) → block_slot g.cleanup ≡ Some s → CleanupAnswers (end_cleanup_by b w g s).answer
cleanup_by_answers true w g s e b c f = block_answers g.cleanup s e b (ap first_of f)
cleanup_by_answers false w g s e b c f = absurd (cc)

cleanup_at_answers : (w : Pool) (g : Globals) (sp : ℕ) (o : Option ℕ) → block_slot g.cleanup ≡ o → CleanupAnswers (end_cleanup_at w g sp o).answer
cleanup_at_answers w g sp None e = refused_cleanup _
cleanup_at_answers w g sp (Some s) e = cleanup_by_answers (w s CLEANUP_SP == sp) w g s e

pub cleanup_block : (w : Pool) (g : Globals) (sp b : ℕ) (c : CleanupWords) → Ok (b, c) ≡ (end_cleanup_of w g sp).answer → IsSome (block_slot b)
cleanup_block w g sp b c e = cleanup_at_answers w g sp (block_slot g.cleanup) refl b c (sym e)

-- the object of a slot's block is that slot's
thrown_at : (w : Pool) (a : ℕ) (o : Option ℕ) → block_slot a ≡ o → IsSome o → IsSome (object_slot (object_and_type w o).0)
thrown_at w a None e h = absurd (cc)
thrown_at w a (Some s) e h = some_slot (object_slot (object s)) s (slot_of_object_is s (slot_small a s e))

pub thrown_object : (w : Pool) (a : ℕ) → IsSome (block_slot a) → IsSome (object_slot (object_and_type w (block_slot a)).0)
thrown_object w a h = thrown_at w a (block_slot a) refl h
