use Rattle.gnu_rewrite_laws.proofs.Good.{law_of_good, law_of_writing, law_of_files}
use Rattle.gnu_rewrite_laws.proofs.translated_parts_are_good.Goals as goal

pub returns : goal.returns
returns c = record { good = law_of_good; written = law_of_writing; read = law_of_files }
