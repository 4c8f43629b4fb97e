-- Every statement of the law.
use Rattle.std.proofs.Common.{◌≡◌, ℕ, zero, suc, ◌<◌, true, false, List, [], ◌∷◌, Ok, ℤ, pos, negsuc, arith}
use Rattle.asm_statements.specs.declared.statement.StmtKind.{StmtKind}
use Rattle.asm_statements.specs.declared.statement.StmtKind.TheVariants.{Label, TwoRegisters, ThreeRegisters, RegisterNumber, TwoRegistersNumber, AddRdSp, AddSp, SubSp, Rsbs, Adr, LdrLabel, LdrPool, MemImm, MemReg, MemSp, Push, Pop, Stm, LdmBack, Ldm, B, BCond, Bl, Cbz, BWide, Bx, Blx, Svc, Udf, Hint, Barrier, Text, Data, Bss, Rodata, Global, TypeFunction, TypeObject, Size, Words, Halves, Bytes, Ascii, Asciz, Space, Align, Pool, FnStart, FnEnd, Save, Pad, SetFp, CantUnwind, PersonalityIndex, HandlerData}
use Rattle.asm_read.specs.Reading.{stmt, source_stmts}
use Rattle.asm_line_laws.specs.Written.{statement_line, IsWritable, ReadsBack}
use Rattle.asm_line_laws.proofs.Chosen.{label_is}
use Rattle.asm_line_laws.proofs.Plain.{bx_line, blx_line, nop_line, yield_line, wfe_line, wfi_line, sev_line, dsb_line, dmb_line, isb_line, text_line, data_section_line, bss_line, pool_line, fnstart_line, fnend_line, cantunwind_line, handlerdata_line, rodata_line}
use Rattle.asm_line_laws.proofs.Computing.{two_lines, three_lines, number_lines, two_number_lines}
use Rattle.asm_line_laws.proofs.Accesses.{str_index_line, strh_index_line, strb_index_line, ldrsb_index_line, ldr_index_line, ldrh_index_line, ldrb_index_line, ldrsh_index_line, str_offset_line, ldr_offset_line, strb_offset_line, ldrb_offset_line, strh_offset_line, ldrh_offset_line, ldr_sp_line, str_sp_line}
use Rattle.asm_line_laws.proofs.Listing.{push_line, pop_line, stm_line, ldm_back_line, ldm_line, save_line}
use Rattle.asm_line_laws.proofs.Expressing.{words_line, halves_line, bytes_line, pool_word_line}
use Rattle.asm_line_laws.proofs.Quoting.{ascii_line, asciz_line}
use Rattle.asm_line_laws.proofs.Aliases.{others}
use Rattle.asm_line_laws.proofs.Numbered.{add_register_sp_line, add_sp_line, sub_sp_line, svc_line, udf_line, space_line, pad_line, index_line, setfp_line, align_line, rsbs_line}
use Rattle.asm_line_laws.proofs.Naming.{b_line, b_wide_line, bl_line, cbz_line, cbnz_line, beq_line, bne_line, bcs_line, bcc_line, bmi_line, bpl_line, bvs_line, bvc_line, bhi_line, bls_line, bge_line, blt_line, bgt_line, ble_line, global_line, function_line, object_line, adr_line, ldr_label_line, size_line}

access_lines : (op t n m : ℕ) → IsWritable (MemReg op t n m) → source_stmts (statement_line (MemReg op t n m)) ≡ Ok (stmt 1 (MemReg op t n m) ∷ [])
unfolding statement_line
access_lines zero t n m h = str_index_line t n m h.1 h.2 h.3
access_lines (suc zero) t n m h = strh_index_line t n m h.1 h.2 h.3
access_lines (suc (suc zero)) t n m h = strb_index_line t n m h.1 h.2 h.3
access_lines (suc (suc (suc zero))) t n m h = ldrsb_index_line t n m h.1 h.2 h.3
access_lines (suc (suc (suc (suc zero)))) t n m h = ldr_index_line t n m h.1 h.2 h.3
access_lines (suc (suc (suc (suc (suc zero))))) t n m h = ldrh_index_line t n m h.1 h.2 h.3
access_lines (suc (suc (suc (suc (suc (suc zero)))))) t n m h = ldrb_index_line t n m h.1 h.2 h.3
access_lines (suc (suc (suc (suc (suc (suc (suc zero))))))) t n m h = ldrsh_index_line t n m h.1 h.2 h.3
access_lines (suc (suc (suc (suc (suc (suc (suc (suc op)))))))) t n m h = absurd (let few = h.0 in omega arith)

offset_lines : (op t n : ℕ) (z : ℤ) → IsWritable (MemImm op t n z) → source_stmts (statement_line (MemImm op t n z)) ≡ Ok (stmt 1 (MemImm op t n z) ∷ [])
unfolding statement_line
offset_lines zero t n z h = str_offset_line t n z h.1 h.2 h.4 (h.3 (omega arith))
offset_lines (suc zero) t n z h = ldr_offset_line t n z h.1 h.2 h.4 (h.3 (omega arith))
offset_lines (suc (suc zero)) t n z h = strb_offset_line t n z h.1 h.2 h.4
offset_lines (suc (suc (suc zero))) t n z h = ldrb_offset_line t n z h.1 h.2 h.4
offset_lines (suc (suc (suc (suc zero)))) t n z h = strh_offset_line t n z h.1 h.2 h.4
offset_lines (suc (suc (suc (suc (suc zero))))) t n z h = ldrh_offset_line t n z h.1 h.2 h.4
offset_lines (suc (suc (suc (suc (suc (suc op)))))) t n z h = absurd (let few = h.0 in omega arith)

branch_lines : (op : ℕ) (n : List ℕ) → IsWritable (BCond op n) → source_stmts (statement_line (BCond op n)) ≡ Ok (stmt 1 (BCond op n) ∷ [])
unfolding statement_line
branch_lines zero n h = beq_line n h.1
branch_lines (suc zero) n h = bne_line n h.1
branch_lines (suc (suc zero)) n h = bcs_line n h.1
branch_lines (suc (suc (suc zero))) n h = bcc_line n h.1
branch_lines (suc (suc (suc (suc zero)))) n h = bmi_line n h.1
branch_lines (suc (suc (suc (suc (suc zero))))) n h = bpl_line n h.1
branch_lines (suc (suc (suc (suc (suc (suc zero)))))) n h = bvs_line n h.1
branch_lines (suc (suc (suc (suc (suc (suc (suc zero))))))) n h = bvc_line n h.1
branch_lines (suc (suc (suc (suc (suc (suc (suc (suc zero)))))))) n h = bhi_line n h.1
branch_lines (suc (suc (suc (suc (suc (suc (suc (suc (suc zero))))))))) n h = bls_line n h.1
branch_lines (suc (suc (suc (suc (suc (suc (suc (suc (suc (suc zero)))))))))) n h = bge_line n h.1
branch_lines (suc (suc (suc (suc (suc (suc (suc (suc (suc (suc (suc zero))))))))))) n h = blt_line n h.1
branch_lines (suc (suc (suc (suc (suc (suc (suc (suc (suc (suc (suc (suc zero)))))))))))) n h = bgt_line n h.1
branch_lines (suc (suc (suc (suc (suc (suc (suc (suc (suc (suc (suc (suc (suc zero))))))))))))) n h = ble_line n h.1
branch_lines (suc (suc (suc (suc (suc (suc (suc (suc (suc (suc (suc (suc (suc (suc op)))))))))))))) n h = absurd (let few = h.0 in omega arith)

hint_lines : (op : ℕ) → op < 5 → source_stmts (statement_line (Hint op)) ≡ Ok (stmt 1 (Hint op) ∷ [])
unfolding statement_line
hint_lines zero h = nop_line
hint_lines (suc zero) h = yield_line
hint_lines (suc (suc zero)) h = wfe_line
hint_lines (suc (suc (suc zero))) h = wfi_line
hint_lines (suc (suc (suc (suc zero)))) h = sev_line
hint_lines (suc (suc (suc (suc (suc op))))) h = absurd (omega arith)

barrier_lines : (op : ℕ) → op < 3 → source_stmts (statement_line (Barrier op)) ≡ Ok (stmt 1 (Barrier op) ∷ [])
unfolding statement_line
barrier_lines zero h = dsb_line
barrier_lines (suc zero) h = dmb_line
barrier_lines (suc (suc zero)) h = isb_line
barrier_lines (suc (suc (suc op))) h = absurd (omega arith)

canonical : (kind : StmtKind) → IsWritable kind → source_stmts (statement_line kind) ≡ Ok (stmt 1 kind ∷ [])
unfolding statement_line
canonical (Label n) h = label_is n h.0 (let few = h.1 in omega arith)
canonical (TwoRegisters what d m) h = two_lines what d m h
canonical (ThreeRegisters what d n m) h = three_lines what d n m h
canonical (RegisterNumber what d z) h = number_lines what d z h
canonical (TwoRegistersNumber what d n z) h = two_number_lines what d n z h
canonical (AddRdSp d z) h = add_register_sp_line d z h.0 h.1
canonical (AddSp z) h = add_sp_line z h
canonical (SubSp z) h = sub_sp_line z h
canonical (Rsbs d m) h = rsbs_line d m h.0 h.1
canonical (Adr d n) h = adr_line d n h.0 h.1
canonical (LdrLabel t n) h = ldr_label_line t n h.0 h.1
canonical (LdrPool t e) h = pool_word_line t e h.0 h.1 h.2
canonical (MemImm op t n z) h = offset_lines op t n z h
canonical (MemReg op t n m) h = access_lines op t n m h
canonical (MemSp true t z) h = ldr_sp_line t z h.0 h.1
canonical (MemSp false t z) h = str_sp_line t z h.0 h.1
canonical (Push list) h = push_line list h
canonical (Pop list) h = pop_line list h
canonical (Stm n list) h = stm_line n list h.0 h.1
canonical (LdmBack n list) h = ldm_back_line n list h.0 h.1
canonical (Ldm n list) h = ldm_line n list h.0 h.1 h.2
canonical (B n) h = b_line n h
canonical (BCond op n) h = branch_lines op n h
canonical (Bl n) h = bl_line n h
canonical (Cbz true m n) h = cbnz_line m n h.0 h.1
canonical (Cbz false m n) h = cbz_line m n h.0 h.1
canonical (BWide n) h = b_wide_line n h
canonical (Bx m) h = bx_line m h
canonical (Blx m) h = blx_line m h
canonical (Svc z) h = svc_line z h
canonical (Udf z) h = udf_line z h
canonical (Hint n) h = hint_lines n h
canonical (Barrier op) h = barrier_lines op h
canonical Text h = text_line
canonical Data h = data_section_line
canonical Bss h = bss_line
canonical Rodata h = rodata_line
canonical (Global n) h = global_line n h
canonical (TypeFunction n) h = function_line n h
canonical (TypeObject n) h = object_line n h
canonical (Size n) h = size_line n h
canonical (Words es) h = words_line es h
canonical (Halves es) h = halves_line es h
canonical (Bytes es) h = bytes_line es h
canonical (Ascii bs) h = ascii_line bs h
canonical (Asciz bs) h = asciz_line bs h
canonical (Space z) h = space_line z h
canonical (Align (pos n)) h = align_line n h
canonical (Align (negsuc n)) h = absurd h
canonical Pool h = pool_line
canonical FnStart h = fnstart_line
canonical FnEnd h = fnend_line
canonical (Save list) h = save_line list h
canonical (Pad z) h = pad_line z h
canonical (SetFp r z) h = setfp_line r z h.0 h.1
canonical CantUnwind h = cantunwind_line
canonical (PersonalityIndex z) h = index_line z h
canonical HandlerData h = handlerdata_line

pub reads_back : ReadsBack
reads_back kind h = (canonical kind h, others kind h)
