-- Cleanups in progress, as writes of words.
use Rattle.std.specs.Prelude.{ℕ, ◌==◌, Bool, true, false, [], ◌∷◌, Option, Some, None, Result, Ok}
use Rattle.eh_cxa.specs.declared.globals.Globals.{Globals}
use Rattle.eh_cxa.specs.declared.globals.CleanupWords.{CleanupWords}
use Rattle.eh_cxa.specs.declared.globals.CxaFault.{CxaFault}
use Rattle.eh_cxa.specs.declared.globals.CxaFault.TheVariants.{NoCleanup, CleanupElsewhere}
use Rattle.eh_cxa.specs.declared.layout.TheConstants.{CLEANUP_NEXT, CLEANUP_SP, CLEANUP_SITE, NEXT_CLEANUP}
use Rattle.eh_cxa.specs.Words.{Pool, write, block, block_slot, Done, chain_word}
use Rattle.eh_cxa.specs.Catch.{call_refusal}

-- the new cleanup becomes the innermost in progress
abbrev pub cleanup_at : Globals → ℕ → CleanupWords → Option ℕ → Done (Unit {0})
cleanup_at g ucb c None = record { answer = tt; globals = g; writes = [] }
cleanup_at g ucb c (Some s) = record {
  answer = tt;
  globals = record { caught = g.caught; cleanup = ucb; uncaught = g.uncaught };
  writes = write s CLEANUP_NEXT c.next ∷ (write s CLEANUP_SP c.sp ∷ (write s CLEANUP_SITE c.site ∷ (write s NEXT_CLEANUP g.cleanup ∷ [])));
}

abbrev pub begin_cleanup_of : Globals → ℕ → CleanupWords → Done (Unit {0})
begin_cleanup_of g ucb c = cleanup_at g ucb c (block_slot ucb)

-- whether the sp is the one that the cleanup was entered with
abbrev pub end_cleanup_by : Bool → Pool → Globals → ℕ → Done (Result (ℕ × CleanupWords) CxaFault)
end_cleanup_by false w g s = call_refusal CleanupElsewhere g
end_cleanup_by true w g s = record {
  answer = Ok (block s, record { next = w s CLEANUP_NEXT; sp = w s CLEANUP_SP; site = w s CLEANUP_SITE });
  globals = record { caught = g.caught; cleanup = chain_word (w s NEXT_CLEANUP); uncaught = g.uncaught };
  writes = [];
}

abbrev pub end_cleanup_at : Pool → Globals → ℕ → Option ℕ → Done (Result (ℕ × CleanupWords) CxaFault)
end_cleanup_at w g sp None = call_refusal NoCleanup g
end_cleanup_at w g sp (Some s) = end_cleanup_by (w s CLEANUP_SP == sp) w g s

abbrev pub end_cleanup_of : Pool → Globals → ℕ → Done (Result (ℕ × CleanupWords) CxaFault)
end_cleanup_of w g sp = end_cleanup_at w g sp (block_slot g.cleanup)

-- the sp with which the innermost cleanup in progress was entered
abbrev pub innermost_at : Pool → Option ℕ → Option ℕ
innermost_at w None = None
innermost_at w (Some s) = Some (w s CLEANUP_SP)

abbrev pub innermost_of : Pool → Globals → Option ℕ
innermost_of w g = innermost_at w (block_slot g.cleanup)
