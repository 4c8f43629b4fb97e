-- The lines of a statement as texts.
use Rattle.std.proofs.Common.{◌≡◌, ℕ, zero, suc, [], ◌∷◌, ◌++◌, pos, negsuc, refl, ap, arith, codes}
use Rattle.std.proofs.lemmas.Fmt.{decimal_digit}
use Rattle.std.specs.Fmt.{signed_decimal}
use Rattle.asm_statements.specs.declared.statement.StmtKind.TheVariants.{Label, TwoRegisters, ThreeRegisters, RegisterNumber, TwoRegistersNumber, AddRdSp, AddSp, SubSp, Rsbs, Adr, LdrLabel, LdrPool, MemImm, MemReg, MemSp, Push, Pop, Stm, LdmBack, Ldm, B, BCond, Bl, Cbz, BWide, Bx, Blx, Svc, Udf, Hint, Barrier, Text, Data, Bss, Rodata, Global, TypeFunction, TypeObject, Size, Words, Halves, Bytes, Ascii, Asciz, Space, Align, Pool, FnStart, FnEnd, Save, Pad, SetFp, CantUnwind, PersonalityIndex, HandlerData}
use Rattle.asm_line_laws.specs.Written.{register, line, statement_line, other_lines}
use Rattle.asm_line_laws.specs.Lines.{LinesAreWritten}

rsbs_text : (d m : ℕ) → (line (codes "rsbs") (register d ++ (codes ", " ++ (register m ++ (codes ", #" ++ signed_decimal (pos 0))))) ∷ []) ≡ (line (codes "rsbs") (register d ++ (codes ", " ++ (register m ++ codes ", #0"))) ∷ [])
rsbs_text d m =
    let e : signed_decimal (pos 0) ≡ 48 ∷ [] = decimal_digit 0 (omega arith) in
    ap (λ x. line (codes "rsbs") (register d ++ (codes ", " ++ (register m ++ (codes ", #" ++ x)))) ∷ []) e

pub lines_written : LinesAreWritten
unfolding statement_line other_lines
lines_written (Label n) h = absurd h
lines_written (Rsbs d m) h = rsbs_text d m
lines_written (MemImm op t n (pos zero)) h = refl
lines_written (MemImm op t n (pos (suc off))) h = refl
lines_written (MemImm op t n (negsuc off)) h = refl
lines_written (MemSp load t (pos zero)) h = refl
lines_written (MemSp load t (pos (suc off))) h = refl
lines_written (MemSp load t (negsuc off)) h = refl
lines_written (BCond zero n) h = refl
lines_written (BCond (suc zero) n) h = refl
lines_written (BCond (suc (suc zero)) n) h = refl
lines_written (BCond (suc (suc (suc zero))) n) h = refl
lines_written (BCond (suc (suc (suc (suc cond)))) n) h = refl
lines_written (TwoRegisters what d m) h = refl
lines_written (ThreeRegisters what d n m) h = refl
lines_written (RegisterNumber what d imm) h = refl
lines_written (TwoRegistersNumber what d n imm) h = refl
lines_written (AddRdSp d off) h = refl
lines_written (AddSp off) h = refl
lines_written (SubSp off) h = refl
lines_written (Adr d n) h = refl
lines_written (LdrLabel t n) h = refl
lines_written (LdrPool t v) h = refl
lines_written (MemReg op t n m) h = refl
lines_written (Push list) h = refl
lines_written (Pop list) h = refl
lines_written (Stm n list) h = refl
lines_written (LdmBack n list) h = refl
lines_written (Ldm n list) h = refl
lines_written (B n) h = refl
lines_written (Bl n) h = refl
lines_written (Cbz nonzero r n) h = refl
lines_written (BWide n) h = refl
lines_written (Bx m) h = refl
lines_written (Blx m) h = refl
lines_written (Svc imm) h = refl
lines_written (Udf imm) h = refl
lines_written (Hint n) h = refl
lines_written (Barrier op) h = refl
lines_written Text h = refl
lines_written Data h = refl
lines_written Bss h = refl
lines_written Rodata h = refl
lines_written (Global n) h = refl
lines_written (TypeFunction n) h = refl
lines_written (TypeObject n) h = refl
lines_written (Size n) h = refl
lines_written (Words es) h = refl
lines_written (Halves es) h = refl
lines_written (Bytes es) h = refl
lines_written (Ascii bytes) h = refl
lines_written (Asciz bytes) h = refl
lines_written (Space n) h = refl
lines_written (Align n) h = refl
lines_written Pool h = refl
lines_written FnStart h = refl
lines_written FnEnd h = refl
lines_written (Save list) h = refl
lines_written (Pad n) h = refl
lines_written (SetFp r off) h = refl
lines_written CantUnwind h = refl
lines_written (PersonalityIndex n) h = refl
lines_written HandlerData h = refl
