-- A field was written for each of the values so far.
use Rattle.std.proofs.Common.{ℕ, List, ◌++◌, map, pos}
use Rattle.std.specs.List.{range_with_len}
use Rattle.std.specs.Prelude.{slice_index_or}
use Rattle.tq_base.specs.Contents.{Int}
use Rattle.tq_table.specs.Writing.{IsWriting}
use Rattle.tq_totals.specs.Text.{amount_field, places_of}
use Rattle.tq_totals.proofs.text.write_group.Given as goal

abbrev pub invariant-values : goal.invariant-values
invariant-values l = (text : List ℕ) (fields : List (List ℕ)) → IsWriting l.initial.writer text fields
    → IsWriting l.writer text (fields ++ map (λ place. amount_field (places_of l.by l.places place) (slice_index_or l.values place (Int (pos 0)))) (range_with_len 0 l.place))
