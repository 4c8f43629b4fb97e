-- One piece of a form.
use Rattle.std.proofs.lemmas.List.{drop_all, drop_more}
use Rattle.std.proofs.Common.{◌<◌, ◌≤◌, ◌+◌, length, drop, map, get_or, ◌≡◌, ℕ, List, Option, Ok, Err}
use Rattle.asm_read.specs.declared.line.LineEnd.{LineEnd}
use Rattle.asm_read.specs.Forms.{CodeRow, row_of}
use Rattle.asm_read.specs.Search.{first_fit}
use Rattle.asm_read.specs.declared.form.Piece.{Piece}
use Rattle.asm_read.specs.declared.form.Operands.{Operands}
use Rattle.asm_read.specs.Fits.{read_pieces, piece_at, end_at}

module _ (ps : List Piece) (i : ℕ) (d : Piece) (line : List ℕ) (o : Operands) where
  pub fits_ok : (next : Operands) → i < length ps → piece_at (get_or ps i d) line o ≡ Ok next → read_pieces (drop i ps) line o ≡ read_pieces (drop (i + 1) ps) line next
  unfolding read_pieces
  fits_ok next h e = rw (drop_more ps i d h, e)

  pub fits_err : (s : LineEnd) → i < length ps → piece_at (get_or ps i d) line o ≡ Err s → read_pieces (drop i ps) line o ≡ Err s
  unfolding read_pieces
  fits_err s h e = rw (drop_more ps i d h, e)

pub fits_end : (ps : List Piece) (i : ℕ) (line : List ℕ) (o : Operands) → length ps ≤ i → read_pieces (drop i ps) line o ≡ end_at line o
unfolding read_pieces
fits_end ps i line o h = rw (drop_all i ps h)

pub rows_end : (rows : List CodeRow) (i : ℕ) (word line : List ℕ) (from : ℕ) (best : Option LineEnd) → length rows ≤ i → first_fit (map row_of (drop i rows)) word line from best ≡ Err best
unfolding first_fit
rows_end rows i word line from best h = rw (drop_all i rows h)
