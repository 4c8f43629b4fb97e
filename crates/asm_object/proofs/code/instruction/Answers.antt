use Rattle.std.proofs.Common.{◌≡◌, ◌<◌, ◌∙◌, ℤ, ap, Some, rules}
use Rattle.std.proofs.lemmas.Int.{to_z-of_z}
use lib.Signed.{mag}
use mir.Val.{SFits, to_z, of_z}
use mir.Syntax.{w32, w64}
use borrow.Author.Rules.{sfits_of}
use Rattle.asm_statements.specs.Computations.{offset, unsigned_field, of_register_number, of_two_registers_number}
use Rattle.thumb_isa.specs.declared.instr.Instr.TheVariants.{AddRdSp, AddSp, SubSp, MemImm, MemSp, Svc, LdrLit, Adr, BCond, B, Bl, BWide, Cbz}
use Rattle.asm_object.proofs.code.instruction.Goals as goal

-- an offset that a call returned, as an instruction holds it
held : (x y : ℤ) → mag x < 2147483648 → x ≡ y → to_z w32 (of_z w32 x) ≡ y
held x y small e = to_z-of_z w32 x (sfits_of small) ∙ e

-- .. and one that was given
taken : (x given : ℤ) → mag x < 2147483648 → SFits w64 given → x ≡ offset (to_z w64 (of_z w64 given)) → to_z w32 (of_z w32 x) ≡ offset given
taken x given small fits e = held x _ small e ∙ ap offset (to_z-of_z w64 given fits)

pub returns-in-AddRdSp : goal.returns-in-AddRdSp
returns-in-AddRdSp c =
    let fits : SFits w64 c.in-AddRdSp.off = search rules in
    rw c.in-AddRdSp.is (ap (λ off. Some (AddRdSp c.in-AddRdSp.d off)) (taken c.offset.result c.in-AddRdSp.off c.offset.type_inv fits c.offset.ensures))

pub returns-in-AddSp : goal.returns-in-AddSp
returns-in-AddSp c =
    let fits : SFits w64 c.in-AddSp.off = search rules in
    rw c.in-AddSp.is (ap (λ off. Some (AddSp off)) (taken c.offset-in-AddSp.result c.in-AddSp.off c.offset-in-AddSp.type_inv fits c.offset-in-AddSp.ensures))

pub returns-in-SubSp : goal.returns-in-SubSp
returns-in-SubSp c =
    let fits : SFits w64 c.in-SubSp.off = search rules in
    rw c.in-SubSp.is (ap (λ off. Some (SubSp off)) (taken c.offset-in-SubSp.result c.in-SubSp.off c.offset-in-SubSp.type_inv fits c.offset-in-SubSp.ensures))

pub returns-in-MemImm : goal.returns-in-MemImm
returns-in-MemImm c =
    let fits : SFits w64 c.in-MemImm.off = search rules in
    rw c.in-MemImm.is (ap (λ off. Some (MemImm c.in-MemImm.op c.in-MemImm.t c.in-MemImm.n off)) (taken c.offset-in-MemImm.result c.in-MemImm.off c.offset-in-MemImm.type_inv fits c.offset-in-MemImm.ensures))

pub returns-in-MemSp : goal.returns-in-MemSp
returns-in-MemSp c =
    let fits : SFits w64 c.in-MemSp.off = search rules in
    rw c.in-MemSp.is (ap (λ off. Some (MemSp c.in-MemSp.load c.in-MemSp.t off)) (taken c.offset-in-MemSp.result c.in-MemSp.off c.offset-in-MemSp.type_inv fits c.offset-in-MemSp.ensures))

pub returns-in-RegisterNumber : goal.returns-in-RegisterNumber
returns-in-RegisterNumber c =
    let fits : SFits w64 c.in-RegisterNumber.imm = search rules in
    rw c.in-RegisterNumber.is (ap (λ it. Some it.instr) c.of_register_number.ensures ∙ ap (λ imm. Some (of_register_number c.in-RegisterNumber.what c.in-RegisterNumber.d imm).instr) (to_z-of_z w64 c.in-RegisterNumber.imm fits))

pub returns-in-TwoRegistersNumber : goal.returns-in-TwoRegistersNumber
returns-in-TwoRegistersNumber c =
    let fits : SFits w64 c.in-TwoRegistersNumber.imm = search rules in
    rw c.in-TwoRegistersNumber.is (ap (λ it. Some it.instr) c.of_two_registers_number.ensures ∙ ap (λ imm. Some (of_two_registers_number c.in-TwoRegistersNumber.what c.in-TwoRegistersNumber.d c.in-TwoRegistersNumber.n imm).instr) (to_z-of_z w64 c.in-TwoRegistersNumber.imm fits))

pub returns-in-Svc : goal.returns-in-Svc
returns-in-Svc c =
    let fits : SFits w64 c.in-Svc.imm = search rules in
    rw c.in-Svc.is (ap (λ imm. Some (Svc imm)) (c.unsigned_field.ensures ∙ ap unsigned_field (to_z-of_z w64 c.in-Svc.imm fits)))

pub returns-in-LdrPool : goal.returns-in-LdrPool
returns-in-LdrPool c = rw c.in-LdrPool.is (ap (λ off. Some (LdrLit c.in-LdrPool.t off)) (held c.word_literal.result _ c.word_literal.type_inv c.word_literal.ensures))

pub returns-in-Adr : goal.returns-in-Adr
returns-in-Adr c = rw c.in-Adr.is (ap (λ off. Some (Adr c.in-Adr.d off)) (held c.label_literal.result _ c.label_literal.type_inv c.label_literal.ensures))

pub returns-in-LdrLabel : goal.returns-in-LdrLabel
returns-in-LdrLabel c = rw c.in-LdrLabel.is (ap (λ off. Some (LdrLit c.in-LdrLabel.t off)) (held c.label_literal-in-LdrLabel.result _ c.label_literal-in-LdrLabel.type_inv c.label_literal-in-LdrLabel.ensures))

pub returns-in-B : goal.returns-in-B
returns-in-B c = rw c.in-B.is (ap (λ off. Some (B off)) (held c.branch-labels.result _ c.branch-labels.type_inv c.branch-labels.ensures))

pub returns-in-BCond : goal.returns-in-BCond
returns-in-BCond c = rw c.in-BCond.is (ap (λ off. Some (BCond c.in-BCond.cond off)) (held c.branch-labels-in-BCond.result _ c.branch-labels-in-BCond.type_inv c.branch-labels-in-BCond.ensures))

pub returns-in-Bl : goal.returns-in-Bl
returns-in-Bl c = rw c.in-Bl.is (ap (λ off. Some (Bl off)) (held c.branch-labels-in-Bl.result _ c.branch-labels-in-Bl.type_inv c.branch-labels-in-Bl.ensures))

pub returns-in-Cbz : goal.returns-in-Cbz
returns-in-Cbz c = rw c.in-Cbz.is (ap (λ off. Some (Cbz c.in-Cbz.nonzero c.in-Cbz.n off)) (held c.branch-labels-in-Cbz.result _ c.branch-labels-in-Cbz.type_inv c.branch-labels-in-Cbz.ensures))

pub returns-in-BWide : goal.returns-in-BWide
returns-in-BWide c = rw c.in-BWide.is (ap (λ off. Some (BWide off)) (held c.branch-labels-in-BWide.result _ c.branch-labels-in-BWide.type_inv c.branch-labels-in-BWide.ensures))
