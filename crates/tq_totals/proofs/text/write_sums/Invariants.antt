-- A field was written for each of the sums so far.
use Rattle.std.proofs.Common.{ℕ, List, ◌++◌, map, pos}
use Rattle.std.specs.List.{range_with_len}
use Rattle.std.specs.Prelude.{slice_index_or}
use Rattle.tq_table.specs.Amounts.{number_text}
use Rattle.tq_table.specs.Writing.{IsWriting}
use Rattle.tq_totals.specs.Text.{places_of}
use Rattle.tq_totals.proofs.text.write_sums.Given as goal

abbrev pub invariant-sums : goal.invariant-sums
invariant-sums l = (text : List ℕ) (fields : List (List ℕ)) → IsWriting l.initial.writer text fields
    → IsWriting l.writer text (fields ++ map (λ place. number_text (places_of l.summed l.places place) (slice_index_or l.sums place (pos 0))) (range_with_len 0 l.place))
