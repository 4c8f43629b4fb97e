-- Each row of the table reads a line of the statement that it makes.
use Rattle.std.proofs.Common.{inl, inr, ℕ, List, [], ◌∷◌, refl, sym, subst, codes, true, false}
use Rattle.asm_read.specs.declared.form.Operands.{Operands}
use Rattle.asm_statements.specs.declared.statement.StmtKind.TheVariants.{MemImm, MemSp}
use Rattle.asm_read.specs.Statements.{stmt_of_makes}
use Rattle.asm_read.specs.Fits.{no_operands}
use Rattle.asm_read.specs.Patterns.{pieces_of}
use Rattle.asm_read.specs.Forms.{TableRow, directives, a_to_b, c_to_l, m_to_z}
use Rattle.asm_line_laws.specs.Lines.{lines, OneStands}
use Rattle.asm_line_laws.proofs.Going.{Goes}
use Rattle.asm_line_laws.proofs.Patterns.{base_alone_stands, base_alone_stands_zero, base_back_list_stands, base_index_stands, base_list_stands, base_offset_stands, count_stands, name_function_stands, name_object_stands, name_size_stands, nothing_stands, one_name_stands, one_number_stands, one_register_stands, one_text_stands, power_stands, register_list_stands, register_name_stands, register_number_stands, register_sp_count_stands, register_sp_number_stands, register_value_stands, rodata_name_stands, sp_alone_stands, sp_alone_stands_zero, sp_number_stands, sp_offset_stands, three_registers_stands, two_registers_number_stands, two_registers_stands, two_registers_zero_stands, values_stands, word_values_stands}

-- where the pieces of a row stand, one of the lines of its statement does
abbrev pub ReadsItsLine : TableRow → Type 0
ReadsItsLine row = (source : List ℕ) (from : ℕ) (o : Operands) → Goes (pieces_of row.form.operands) source (no_operands from) o → OneStands source row.word from (lines (stmt_of_makes source row.form.makes o))

abbrev pub Each : (TableRow → Type 0) → List TableRow → Type 0
Each P [] = Unit {0}
Each P (row ∷ more) = P row × Each P more

pub directives_read : Each ReadsItsLine directives
unfolding directives
directives_read = (
  λ source from o g. inr (inr (inl (refl, values_stands source from o g))),
  (
    λ source from o g. inr (inr (inl (refl, word_values_stands source from o g))),
    (
      λ source from o g. elim (power_stands source from o g) [ inl s ↦ inl (refl, s) | inr s ↦ inr (inl (refl, s)) ],
      (
        λ source from o g. inl (refl, one_text_stands source from o g),
        (
          λ source from o g. inl (refl, one_text_stands source from o g),
          (
            λ source from o g. inl (refl, nothing_stands source from o g),
            (
              λ source from o g. inl (refl, values_stands source from o g),
              (
                λ source from o g. inl (refl, nothing_stands source from o g),
                (
                  λ source from o g. inl (refl, nothing_stands source from o g),
                  (
                    λ source from o g. inl (refl, nothing_stands source from o g),
                    (
                      λ source from o g. inl (refl, nothing_stands source from o g),
                      (
                        λ source from o g. inl (refl, one_name_stands source from o g),
                        (
                          λ source from o g. inr (inl (refl, one_name_stands source from o g)),
                          (
                            λ source from o g. inl (refl, values_stands source from o g),
                            (
                              λ source from o g. inl (refl, nothing_stands source from o g),
                              (
                                λ source from o g. inr (inl (refl, word_values_stands source from o g)),
                                (
                                  λ source from o g. inr (inl (refl, nothing_stands source from o g)),
                                  (
                                    λ source from o g. elim (power_stands source from o g) [ inl s ↦ inr (inr (inl (refl, s))) | inr s ↦ inr (inr (inr (inl (refl, s)))) ],
                                    (
                                      λ source from o g. elim (count_stands source from o g) [ inl s ↦ inr (inl (refl, s)) | inr s ↦ inl (refl, s) ],
                                      (
                                        λ source from o g. elim (count_stands source from o g) [ inl s ↦ inl (refl, s) | inr s ↦ inr (inl (refl, s)) ],
                                        (
                                          λ source from o g. inl (refl, nothing_stands source from o g),
                                          (
                                            λ source from o g. inl (refl, register_list_stands source from o g),
                                            (
                                              λ source from o g. inl (refl, rodata_name_stands source from o g),
                                              (
                                                λ source from o g. elim (register_sp_count_stands source from o g) [ inl s ↦ inr (inl (refl, s)) | inr s ↦ inl (refl, s) ],
                                                (
                                                  λ source from o g. inr (inl (refl, values_stands source from o g)),
                                                  (
                                                    λ source from o g. inl (refl, name_size_stands source from o g),
                                                    (
                                                      λ source from o g. elim (count_stands source from o g) [ inl s ↦ inl (refl, s) | inr s ↦ inr (inl (refl, s)) ],
                                                      (
                                                        λ source from o g. inl (refl, nothing_stands source from o g),
                                                        (
                                                          λ source from o g. inl (refl, name_function_stands source from o g),
                                                          (
                                                            λ source from o g. inl (refl, name_object_stands source from o g),
                                                            (
                                                              λ source from o g. inl (refl, word_values_stands source from o g),
                                                              (
                                                                λ source from o g. elim (count_stands source from o g) [ inl s ↦ inr (inr (inl (refl, s))) | inr s ↦ inr (inr (inr (inl (refl, s)))) ],
                                                                tt,
                                                              ),
                                                            ),
                                                          ),
                                                        ),
                                                      ),
                                                    ),
                                                  ),
                                                ),
                                              ),
                                            ),
                                          ),
                                        ),
                                      ),
                                    ),
                                  ),
                                ),
                              ),
                            ),
                          ),
                        ),
                      ),
                    ),
                  ),
                ),
              ),
            ),
          ),
        ),
      ),
    ),
  ),
)

pub a_to_b_read : Each ReadsItsLine a_to_b
unfolding a_to_b
a_to_b_read = (
  λ source from o g. inl (refl, two_registers_stands source from o g),
  (
    λ source from o g. inl (refl, register_sp_number_stands source from o g),
    (
      λ source from o g. inl (refl, sp_number_stands source from o g),
      (
        λ source from o g. inl (refl, two_registers_stands source from o g),
        (
          λ source from o g. inl (refl, register_number_stands source from o g),
          (
            λ source from o g. inl (refl, three_registers_stands source from o g),
            (
              λ source from o g. inl (refl, two_registers_number_stands source from o g),
              (
                λ source from o g. inl (refl, register_name_stands source from o g),
                (
                  λ source from o g. inl (refl, two_registers_stands source from o g),
                  (
                    λ source from o g. inl (refl, two_registers_number_stands source from o g),
                    (
                      λ source from o g. inl (refl, two_registers_stands source from o g),
                      (
                        λ source from o g. inl (refl, one_name_stands source from o g),
                        (
                          λ source from o g. inl (refl, one_name_stands source from o g),
                          (
                            λ source from o g. inl (refl, one_name_stands source from o g),
                            (
                              λ source from o g. inl (refl, one_name_stands source from o g),
                              (
                                λ source from o g. inl (refl, one_name_stands source from o g),
                                (
                                  λ source from o g. inl (refl, one_name_stands source from o g),
                                  (
                                    λ source from o g. inl (refl, one_name_stands source from o g),
                                    (
                                      λ source from o g. inl (refl, one_name_stands source from o g),
                                      (
                                        λ source from o g. inr (inl (refl, one_name_stands source from o g)),
                                        (
                                          λ source from o g. inl (refl, two_registers_stands source from o g),
                                          (
                                            λ source from o g. inl (refl, one_name_stands source from o g),
                                            (
                                              λ source from o g. inl (refl, one_name_stands source from o g),
                                              (
                                                λ source from o g. inr (inl (refl, one_name_stands source from o g)),
                                                (
                                                  λ source from o g. inl (refl, one_name_stands source from o g),
                                                  (
                                                    λ source from o g. inl (refl, one_name_stands source from o g),
                                                    (
                                                      λ source from o g. inl (refl, one_register_stands source from o g),
                                                      (
                                                        λ source from o g. inl (refl, one_name_stands source from o g),
                                                        (
                                                          λ source from o g. inl (refl, one_name_stands source from o g),
                                                          (
                                                            λ source from o g. inl (refl, one_name_stands source from o g),
                                                            (
                                                              λ source from o g. inl (refl, one_name_stands source from o g),
                                                              (
                                                                λ source from o g. inl (refl, one_name_stands source from o g),
                                                                (
                                                                  λ source from o g. inl (refl, one_register_stands source from o g),
                                                                  tt,
                                                                ),
                                                              ),
                                                            ),
                                                          ),
                                                        ),
                                                      ),
                                                    ),
                                                  ),
                                                ),
                                              ),
                                            ),
                                          ),
                                        ),
                                      ),
                                    ),
                                  ),
                                ),
                              ),
                            ),
                          ),
                        ),
                      ),
                    ),
                  ),
                ),
              ),
            ),
          ),
        ),
      ),
    ),
  ),
)

pub c_to_l_read : Each ReadsItsLine c_to_l
unfolding c_to_l
c_to_l_read = (
  λ source from o g. inl (refl, register_name_stands source from o g),
  (
    λ source from o g. inl (refl, register_name_stands source from o g),
    (
      λ source from o g. inl (refl, two_registers_stands source from o g),
      (
        λ source from o g. inl (refl, register_number_stands source from o g),
        (
          λ source from o g. inl (refl, two_registers_stands source from o g),
          (
            λ source from o g. inl (refl, nothing_stands source from o g),
            (
              λ source from o g. inl (refl, nothing_stands source from o g),
              (
                λ source from o g. inl (refl, two_registers_stands source from o g),
                (
                  λ source from o g. inl (refl, nothing_stands source from o g),
                  (
                    λ source from o g. inl (refl, base_back_list_stands source from o g),
                    (
                      λ source from o g. inl (refl, base_list_stands source from o g),
                      (
                        λ source from o g. inl (refl, register_name_stands source from o g),
                        (
                          λ source from o g. inl (refl, register_value_stands source from o g),
                          (
                            λ source from o g. inl (refl, sp_offset_stands source from o g),
                            (
                              λ source from o g. subst (λ z. OneStands source (codes "ldr") from (lines (MemSp true o.first z))) (sym (sp_alone_stands_zero source from o g)) (inr (inl (refl, sp_alone_stands source from o g))),
                              (
                                λ source from o g. inl (refl, base_offset_stands source from o g),
                                (
                                  λ source from o g. subst (λ z. OneStands source (codes "ldr") from (lines (MemImm 1 o.first o.second z))) (sym (base_alone_stands_zero source from o g)) (inr (inl (refl, base_alone_stands source from o g))),
                                  (
                                    λ source from o g. inl (refl, base_index_stands source from o g),
                                    (
                                      λ source from o g. inl (refl, base_offset_stands source from o g),
                                      (
                                        λ source from o g. subst (λ z. OneStands source (codes "ldrb") from (lines (MemImm 3 o.first o.second z))) (sym (base_alone_stands_zero source from o g)) (inr (inl (refl, base_alone_stands source from o g))),
                                        (
                                          λ source from o g. inl (refl, base_index_stands source from o g),
                                          (
                                            λ source from o g. inl (refl, base_offset_stands source from o g),
                                            (
                                              λ source from o g. subst (λ z. OneStands source (codes "ldrh") from (lines (MemImm 5 o.first o.second z))) (sym (base_alone_stands_zero source from o g)) (inr (inl (refl, base_alone_stands source from o g))),
                                              (
                                                λ source from o g. inl (refl, base_index_stands source from o g),
                                                (
                                                  λ source from o g. inl (refl, base_index_stands source from o g),
                                                  (
                                                    λ source from o g. inl (refl, base_index_stands source from o g),
                                                    (
                                                      λ source from o g. inl (refl, two_registers_number_stands source from o g),
                                                      (
                                                        λ source from o g. inl (refl, two_registers_stands source from o g),
                                                        (
                                                          λ source from o g. inl (refl, two_registers_number_stands source from o g),
                                                          (
                                                            λ source from o g. inl (refl, two_registers_stands source from o g),
                                                            tt,
                                                          ),
                                                        ),
                                                      ),
                                                    ),
                                                  ),
                                                ),
                                              ),
                                            ),
                                          ),
                                        ),
                                      ),
                                    ),
                                  ),
                                ),
                              ),
                            ),
                          ),
                        ),
                      ),
                    ),
                  ),
                ),
              ),
            ),
          ),
        ),
      ),
    ),
  ),
)

pub m_to_z_read : Each ReadsItsLine m_to_z
unfolding m_to_z
m_to_z_read = (
  λ source from o g. inl (refl, two_registers_stands source from o g),
  (
    λ source from o g. inl (refl, register_number_stands source from o g),
    (
      λ source from o g. inl (refl, two_registers_stands source from o g),
      (
        λ source from o g. inl (refl, register_number_stands source from o g),
        (
          λ source from o g. inl (refl, register_number_stands source from o g),
          (
            λ source from o g. inl (refl, two_registers_stands source from o g),
            (
              λ source from o g. inl (refl, two_registers_stands source from o g),
              (
                λ source from o g. inl (refl, nothing_stands source from o g),
                (
                  λ source from o g. inl (refl, two_registers_stands source from o g),
                  (
                    λ source from o g. inl (refl, register_list_stands source from o g),
                    (
                      λ source from o g. inl (refl, register_list_stands source from o g),
                      (
                        λ source from o g. inl (refl, two_registers_stands source from o g),
                        (
                          λ source from o g. inl (refl, two_registers_stands source from o g),
                          (
                            λ source from o g. inl (refl, two_registers_stands source from o g),
                            (
                              λ source from o g. inl (refl, two_registers_stands source from o g),
                              (
                                λ source from o g. inl (refl, two_registers_zero_stands source from o g),
                                (
                                  λ source from o g. inl (refl, two_registers_stands source from o g),
                                  (
                                    λ source from o g. inl (refl, three_registers_stands source from o g),
                                    (
                                      λ source from o g. inl (refl, nothing_stands source from o g),
                                      (
                                        λ source from o g. inl (refl, base_back_list_stands source from o g),
                                        (
                                          λ source from o g. inl (refl, sp_offset_stands source from o g),
                                          (
                                            λ source from o g. subst (λ z. OneStands source (codes "str") from (lines (MemSp false o.first z))) (sym (sp_alone_stands_zero source from o g)) (inr (inl (refl, sp_alone_stands source from o g))),
                                            (
                                              λ source from o g. inl (refl, base_offset_stands source from o g),
                                              (
                                                λ source from o g. subst (λ z. OneStands source (codes "str") from (lines (MemImm 0 o.first o.second z))) (sym (base_alone_stands_zero source from o g)) (inr (inl (refl, base_alone_stands source from o g))),
                                                (
                                                  λ source from o g. inl (refl, base_index_stands source from o g),
                                                  (
                                                    λ source from o g. inl (refl, base_offset_stands source from o g),
                                                    (
                                                      λ source from o g. subst (λ z. OneStands source (codes "strb") from (lines (MemImm 2 o.first o.second z))) (sym (base_alone_stands_zero source from o g)) (inr (inl (refl, base_alone_stands source from o g))),
                                                      (
                                                        λ source from o g. inl (refl, base_index_stands source from o g),
                                                        (
                                                          λ source from o g. inl (refl, base_offset_stands source from o g),
                                                          (
                                                            λ source from o g. subst (λ z. OneStands source (codes "strh") from (lines (MemImm 4 o.first o.second z))) (sym (base_alone_stands_zero source from o g)) (inr (inl (refl, base_alone_stands source from o g))),
                                                            (
                                                              λ source from o g. inl (refl, base_index_stands source from o g),
                                                              (
                                                                λ source from o g. inl (refl, sp_number_stands source from o g),
                                                                (
                                                                  λ source from o g. inl (refl, register_number_stands source from o g),
                                                                  (
                                                                    λ source from o g. inl (refl, three_registers_stands source from o g),
                                                                    (
                                                                      λ source from o g. inl (refl, two_registers_number_stands source from o g),
                                                                      (
                                                                        λ source from o g. inl (refl, one_number_stands source from o g),
                                                                        (
                                                                          λ source from o g. inl (refl, two_registers_stands source from o g),
                                                                          (
                                                                            λ source from o g. inl (refl, two_registers_stands source from o g),
                                                                            (
                                                                              λ source from o g. inl (refl, two_registers_stands source from o g),
                                                                              (
                                                                                λ source from o g. inl (refl, one_number_stands source from o g),
                                                                                (
                                                                                  λ source from o g. inl (refl, three_registers_stands source from o g),
                                                                                  (
                                                                                    λ source from o g. inl (refl, two_registers_stands source from o g),
                                                                                    (
                                                                                      λ source from o g. inl (refl, two_registers_stands source from o g),
                                                                                      (
                                                                                        λ source from o g. inl (refl, nothing_stands source from o g),
                                                                                        (
                                                                                          λ source from o g. inl (refl, nothing_stands source from o g),
                                                                                          (
                                                                                            λ source from o g. inl (refl, nothing_stands source from o g),
                                                                                            tt,
                                                                                          ),
                                                                                        ),
                                                                                      ),
                                                                                    ),
                                                                                  ),
                                                                                ),
                                                                              ),
                                                                            ),
                                                                          ),
                                                                        ),
                                                                      ),
                                                                    ),
                                                                  ),
                                                                ),
                                                              ),
                                                            ),
                                                          ),
                                                        ),
                                                      ),
                                                    ),
                                                  ),
                                                ),
                                              ),
                                            ),
                                          ),
                                        ),
                                      ),
                                    ),
                                  ),
                                ),
                              ),
                            ),
                          ),
                        ),
                      ),
                    ),
                  ),
                ),
              ),
            ),
          ),
        ),
      ),
    ),
  ),
)
