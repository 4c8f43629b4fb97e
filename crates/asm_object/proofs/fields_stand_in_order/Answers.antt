use Rattle.asm_object.proofs.ObjectLaws.{law_of_fields, law_of_sections, law_of_kinds}
use Rattle.asm_object.proofs.fields_stand_in_order.Goals as goal

pub returns : goal.returns
returns c = record { fields = law_of_fields; sections = law_of_sections; kinds = law_of_kinds }
