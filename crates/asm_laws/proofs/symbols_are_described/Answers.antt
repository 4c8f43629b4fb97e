use Rattle.asm_laws.proofs.Symbols.{law_of_functions, law_of_objects, law_of_no_functions, law_of_globals, law_of_locals}
use Rattle.asm_laws.proofs.symbols_are_described.Goals as goal

pub returns : goal.returns
returns c = record { functions = law_of_functions; objects = law_of_objects; others = law_of_no_functions; globals = law_of_globals; locals = law_of_locals }
