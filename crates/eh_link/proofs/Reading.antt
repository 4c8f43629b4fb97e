-- The index reads back: its words lead to the addresses of its rows.
use Rattle.std.proofs.Common.{◌≡◌, [], ◌∷◌, ◌++◌, length, All, arith, length-append}
use Rattle.std.proofs.lemmas.List.Elements.{All-push}
use Rattle.std.proofs.lemmas.List.Sorted.{All-permutation}
use Rattle.eh_codes.specs.Laws.{IsLow}
use Rattle.eh_codes.proofs.RowBytes.{law_of_saying}
use Rattle.eh_link.specs.Index.{closing}
use Rattle.eh_link.specs.IndexLaw.{object_rows, index_rows, RowsAscend, RowsAreKept, SameStartsKeepTheirOrder, IndexReadsBack}
use Rattle.eh_link.proofs.Sorting.{order_never_falls, order_moves, order_keeps_starts}
use Rattle.eh_link.proofs.Standing.{order_length}

pub law_of_reading : IndexReadsBack
law_of_reading all end table low below h =
    let len : length (index_rows all) ≡ length (object_rows all) = order_length (object_rows all) in
    let each : All IsLow (index_rows all) = All-permutation IsLow (object_rows all) (index_rows all) (order_moves (object_rows all)) low in
    let last : IsLow (closing end) = record { start = below; body = tt } in
    law_of_saying table (index_rows all ++ closing end ∷ []) (All-push IsLow (index_rows all) (closing end) each last)
    (omega (arith, len, h, length-append (index_rows all) (closing end ∷ [])))

pub law_of_order : RowsAscend
law_of_order all = order_never_falls (object_rows all)

pub law_of_rows : RowsAreKept
law_of_rows all = order_moves (object_rows all)

pub law_of_starts : SameStartsKeepTheirOrder
law_of_starts all start = order_keeps_starts start (object_rows all)
