use Rattle.std.proofs.Common.{refl}
use Rattle.asm_read.specs.Forms.{directives, a_to_b, c_to_l, m_to_z, rows}
use Rattle.asm_line_laws.proofs.forms_take_no_more.Goals as goal

pub returns : goal.returns
unfolding rows directives a_to_b c_to_l m_to_z
returns c = refl
