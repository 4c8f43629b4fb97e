-- The fields of what a row of the table means are within their bounds, row by row.
use Rattle.std.proofs.Common.{◌≡◌, ℕ, subst, List, [], ◌∷◌, ◌+◌, ◌*◌, ◌^◌, ◌==◌, arith, pos}
use Rattle.thumb_isa.specs.declared.instr.Instr.{Instr}
use Rattle.thumb_isa.specs.declared.instr.Decoded.TheVariants.{Is}
use Rattle.thumb_isa.specs.Rows.{Row, rows, high_register, right_amount, bl_offset}
use Rattle.thumb_isa.specs.Fields.{field, signed_value}
use Rattle.thumb_isa.specs.declared.instr.Instr.TheVariants.{ShiftImm, AddSubReg, AddSubImm3, Imm8, Alu, AddHigh, CmpHigh, MovHigh, Bx, Blx, LdrLit, MemReg, MemImm, MemSp, Adr, AddRdSp, AddSp, SubSp, Extend, Rev, Push, Pop, Hint, Stm, Ldm, BCond, Svc, B, Bl, Barrier}
use Rattle.sim_code.specs.Bounds.{Bounds}

is_same : (j i : Instr) (k n : ℕ) → Is j k ≡ Is i n → Bounds j → Bounds i
is_same j i k n e b = let same : j ≡ i = cc in subst Bounds same b

-- each row that is an instruction cuts its fields
abbrev pub AllMean : List Row → Type 0
AllMean [] = Unit {0}
AllMean (row ∷ more) = ((f s : ℕ) (i : Instr) (n : ℕ) → row.means f s ≡ Is i n → Bounds i) × AllMean more

pub rows_mean : AllMean rows
rows_mean = (
  (λ f s i n e. absurd cc),
  (
    (λ f s i n e. absurd cc),
    (
      (λ f s i n e. absurd cc),
      (
        (λ f s i n e. absurd cc),
        (
          (λ f s i n e. absurd cc),
          (
            (λ f s i n e. absurd cc),
            (
              (λ f s i n e. absurd cc),
              (
                (λ f s i n e. absurd cc),
                (
                  (λ f s i n e. absurd cc),
                  (
                    (λ f s i n e. absurd cc),
                    (
                      (λ f s i n e. absurd cc),
                      (
                        (λ f s i n e. absurd cc),
                        (
                          (λ f s i n e. absurd cc),
                          (
                            (λ f s i n e. absurd cc),
                            (
                              (λ f s i n e. absurd cc),
                              (
                                (λ f s i n e. absurd cc),
                                (
                                  (λ f s i n e. absurd cc),
                                  (
                                    (λ f s i n e. absurd cc),
                                    (
                                      (λ f s i n e. absurd cc),
                                      (
                                        (λ f s i n e. absurd cc),
                                        (
                                          (λ f s i n e. absurd cc),
                                          (
                                            (λ f s i n e. absurd cc),
                                            (
                                              (λ f s i n e. absurd cc),
                                              (
                                                (λ f s i n e. absurd cc),
                                                (
                                                  (λ f s i n e. absurd cc),
                                                  (
                                                    (λ f s i n e. absurd cc),
                                                    (
                                                      (λ f s i n e. absurd cc),
                                                      (
                                                        (λ f s i n e. absurd cc),
                                                        (
                                                          (λ f s i n e. absurd cc),
                                                          (
                                                            (λ f s i n e. absurd cc),
                                                            (
                                                              (λ f s i n e. absurd cc),
                                                              (
                                                                (λ f s i n e. absurd cc),
                                                                (
                                                                  (λ f s i n e. absurd cc),
                                                                  (
                                                                    (λ f s i n e. absurd cc),
                                                                    (
                                                                      (λ f s i n e. absurd cc),
                                                                      (
                                                                        (λ f s i n e. absurd cc),
                                                                        (
                                                                          (λ f s i n e. absurd cc),
                                                                          (
                                                                            (λ f s i n e. absurd cc),
                                                                            (
                                                                              (λ f s i n e. absurd cc),
                                                                              (
                                                                                (λ f s i n e. absurd cc),
                                                                                (
                                                                                  (λ f s i n e. absurd cc),
                                                                                  (
                                                                                    (λ f s i n e. absurd cc),
                                                                                    (
                                                                                      (λ f s i n e. absurd cc),
                                                                                      (
                                                                                        (λ f s i n e. is_same (ShiftImm 0 (field f 0 3) (field f 3 3) (field f 6 5)) i 2 n e (omega arith)),
                                                                                        (
                                                                                          (λ f s i n e. is_same (ShiftImm 1 (field f 0 3) (field f 3 3) (right_amount f)) i 2 n e (omega arith)),
                                                                                          (
                                                                                            (λ f s i n e. is_same (ShiftImm 2 (field f 0 3) (field f 3 3) (right_amount f)) i 2 n e (omega arith)),
                                                                                            (
                                                                                              (λ f s i n e. is_same (AddSubReg (field f 9 1 == 1) (field f 0 3) (field f 3 3) (field f 6 3)) i 2 n e (omega arith)),
                                                                                              (
                                                                                                (λ f s i n e. is_same (AddSubImm3 (field f 9 1 == 1) (field f 0 3) (field f 3 3) (field f 6 3)) i 2 n e (omega arith)),
                                                                                                (
                                                                                                  (λ f s i n e. is_same (Imm8 (field f 11 2) (field f 8 3) (field f 0 8)) i 2 n e (omega arith)),
                                                                                                  (
                                                                                                    (λ f s i n e. is_same (Alu (field f 6 4) (field f 0 3) (field f 3 3)) i 2 n e (omega arith)),
                                                                                                    (
                                                                                                      (λ f s i n e. is_same (AddHigh (high_register f) (field f 3 4)) i 2 n e (omega arith)),
                                                                                                      (
                                                                                                        (λ f s i n e. is_same (CmpHigh (high_register f) (field f 3 4)) i 2 n e (tt)),
                                                                                                        (
                                                                                                          (λ f s i n e. is_same (MovHigh (high_register f) (field f 3 4)) i 2 n e ((omega arith, omega arith))),
                                                                                                          (
                                                                                                            (λ f s i n e. is_same (Bx (field f 3 4)) i 2 n e (tt)),
                                                                                                            (
                                                                                                              (λ f s i n e. is_same (Blx (field f 3 4)) i 2 n e (tt)),
                                                                                                              (
                                                                                                                (λ f s i n e. is_same (LdrLit (field f 8 3) (pos (field f 0 8 * 4))) i 2 n e ((omega arith, (omega arith, omega arith)))),
                                                                                                                (
                                                                                                                  (λ f s i n e. is_same (MemReg (field f 9 3) (field f 0 3) (field f 3 3) (field f 6 3)) i 2 n e ((omega arith, omega arith))),
                                                                                                                  (
                                                                                                                    (λ f s i n e. is_same (MemImm (field f 11 1) (field f 0 3) (field f 3 3) (pos (field f 6 5 * 4))) i 2 n e ((omega arith, omega arith))),
                                                                                                                    (
                                                                                                                      (λ f s i n e. is_same (MemImm (2 + field f 11 1) (field f 0 3) (field f 3 3) (pos (field f 6 5))) i 2 n e ((omega arith, omega arith))),
                                                                                                                      (
                                                                                                                        (λ f s i n e. is_same (MemImm (4 + field f 11 1) (field f 0 3) (field f 3 3) (pos (field f 6 5 * 2))) i 2 n e ((omega arith, omega arith))),
                                                                                                                        (
                                                                                                                          (λ f s i n e. is_same (MemSp (field f 11 1 == 1) (field f 8 3) (pos (field f 0 8 * 4))) i 2 n e ((omega arith, (omega arith, omega arith)))),
                                                                                                                          (
                                                                                                                            (λ f s i n e. is_same (Adr (field f 8 3) (pos (field f 0 8 * 4))) i 2 n e (omega arith)),
                                                                                                                            (
                                                                                                                              (λ f s i n e. is_same (AddRdSp (field f 8 3) (pos (field f 0 8 * 4))) i 2 n e ((omega arith, (omega arith, omega arith)))),
                                                                                                                              (
                                                                                                                                (λ f s i n e. is_same (AddSp (pos (field f 0 7 * 4))) i 2 n e ((omega arith, omega arith))),
                                                                                                                                (
                                                                                                                                  (λ f s i n e. is_same (SubSp (pos (field f 0 7 * 4))) i 2 n e ((omega arith, omega arith))),
                                                                                                                                  (
                                                                                                                                    (λ f s i n e. is_same (Extend (field f 6 2) (field f 0 3) (field f 3 3)) i 2 n e (omega arith)),
                                                                                                                                    (
                                                                                                                                      (λ f s i n e. is_same (Rev (field f 6 2) (field f 0 3) (field f 3 3)) i 2 n e (omega arith)),
                                                                                                                                      (
                                                                                                                                        (λ f s i n e. is_same (Rev 3 (field f 0 3) (field f 3 3)) i 2 n e (omega arith)),
                                                                                                                                        (
                                                                                                                                          (λ f s i n e. is_same (Push (field f 0 8 + field f 8 1 * 2 ^ 14)) i 2 n e ((omega arith, omega arith, omega arith))),
                                                                                                                                          (
                                                                                                                                            (λ f s i n e. is_same (Pop (field f 0 8 + field f 8 1 * 2 ^ 15)) i 2 n e ((omega arith, omega arith, omega arith))),
                                                                                                                                            (
                                                                                                                                              (λ f s i n e. is_same (Hint (field f 4 4)) i 2 n e (tt)),
                                                                                                                                              (
                                                                                                                                                (λ f s i n e. is_same (Stm (field f 8 3) (field f 0 8)) i 2 n e ((omega arith, omega arith, omega arith))),
                                                                                                                                                (
                                                                                                                                                  (λ f s i n e. is_same (Ldm (field f 8 3) (field f 0 8)) i 2 n e ((omega arith, omega arith, omega arith))),
                                                                                                                                                  (
                                                                                                                                                    (λ f s i n e. is_same (BCond (field f 8 4) (signed_value 9 (field f 0 8 * 2))) i 2 n e (tt)),
                                                                                                                                                    (
                                                                                                                                                      (λ f s i n e. is_same (BCond (field f 8 4) (signed_value 9 (field f 0 8 * 2))) i 2 n e (tt)),
                                                                                                                                                      (
                                                                                                                                                        (λ f s i n e. is_same (BCond (field f 8 4) (signed_value 9 (field f 0 8 * 2))) i 2 n e (tt)),
                                                                                                                                                        (
                                                                                                                                                          (λ f s i n e. is_same (Svc (field f 0 8)) i 2 n e (tt)),
                                                                                                                                                          (
                                                                                                                                                            (λ f s i n e. is_same (B (signed_value 12 (field f 0 11 * 2))) i 2 n e (tt)),
                                                                                                                                                            (
                                                                                                                                                              (λ f s i n e. is_same (Bl (bl_offset f s)) i 4 n e (tt)),
                                                                                                                                                              (
                                                                                                                                                                (λ f s i n e. is_same (Barrier 0 (field s 0 4)) i 4 n e (tt)),
                                                                                                                                                                (
                                                                                                                                                                  (λ f s i n e. is_same (Barrier 1 (field s 0 4)) i 4 n e (tt)),
                                                                                                                                                                  (
                                                                                                                                                                    (λ f s i n e. is_same (Barrier 2 (field s 0 4)) i 4 n e (tt)),
                                                                                                                                                                    tt,
                                                                                                                                                                  ),
                                                                                                                                                                ),
                                                                                                                                                              ),
                                                                                                                                                            ),
                                                                                                                                                          ),
                                                                                                                                                        ),
                                                                                                                                                      ),
                                                                                                                                                    ),
                                                                                                                                                  ),
                                                                                                                                                ),
                                                                                                                                              ),
                                                                                                                                            ),
                                                                                                                                          ),
                                                                                                                                        ),
                                                                                                                                      ),
                                                                                                                                    ),
                                                                                                                                  ),
                                                                                                                                ),
                                                                                                                              ),
                                                                                                                            ),
                                                                                                                          ),
                                                                                                                        ),
                                                                                                                      ),
                                                                                                                    ),
                                                                                                                  ),
                                                                                                                ),
                                                                                                              ),
                                                                                                            ),
                                                                                                          ),
                                                                                                        ),
                                                                                                      ),
                                                                                                    ),
                                                                                                  ),
                                                                                                ),
                                                                                              ),
                                                                                            ),
                                                                                          ),
                                                                                        ),
                                                                                      ),
                                                                                    ),
                                                                                  ),
                                                                                ),
                                                                              ),
                                                                            ),
                                                                          ),
                                                                        ),
                                                                      ),
                                                                    ),
                                                                  ),
                                                                ),
                                                              ),
                                                            ),
                                                          ),
                                                        ),
                                                      ),
                                                    ),
                                                  ),
                                                ),
                                              ),
                                            ),
                                          ),
                                        ),
                                      ),
                                    ),
                                  ),
                                ),
                              ),
                            ),
                          ),
                        ),
                      ),
                    ),
                  ),
                ),
              ),
            ),
          ),
        ),
      ),
    ),
  ),
)
