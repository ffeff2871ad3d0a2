-- The number of events of rows.
use Rattle.std.proofs.Common.{◌≡◌, ◌+◌, ◌<◌, ◌≤◌, ◌*◌, if◌then◌else◌, Bool, true, false, ◌==◌, ◌++◌, ◌∷◌, ℕ, List, [], length, map, sum_by, take, refl, sym, ap, ◌∙◌, arith}
use Rattle.std.proofs.lemmas.List.{length-take-le, take_more}
use Rattle.std.proofs.lemmas.List.Sums.{sum_by-append, sum_by-cons}
use Rattle.std.specs.Prelude.{slice_index_or}
use Rattle.tq_base.specs.declared.fragment.Fragment.{Fragment}
use Rattle.tq_base.specs.declared.period.TheConstants.{FOREVER}
use Rattle.tq_base.specs.RowLists.{RowList}
use Rattle.tq_event.specs.Loading.{event_count}
use Rattle.tq_event.specs.Tables.{entries_from, row_entry}
use Rattle.tq_event.proofs.TableLemmas.{entries_put}
use Rattle.tq_load.specs.Combining.{period_events}

-- the rows have the events of their periods, whichever their table
pub told_events : (table : ℕ) (rows : List Fragment) → sum_by event_count (map (row_entry table) rows) ≡ sum_by period_events (map (λ (row : Fragment). row.period) rows)
told_events table [] = refl
told_events table (row ∷ rows) =
    sum_by-cons event_count (row_entry table row) (map (row_entry table) rows)
    ∙ ap (λ n. event_count (row_entry table row) + n) (told_events table rows)
    ∙ sym (sum_by-cons period_events row.period (map (λ (r : Fragment). r.period) rows))

one_or_two : (b : Bool) → (if b then 1 else 2) ≤ 2
one_or_two true = omega arith
one_or_two false = omega arith

-- a row has at most two events
pub few_events : (table : ℕ) (rows : List Fragment) → sum_by event_count (map (row_entry table) rows) ≤ 2 * length rows
few_events table [] = omega arith
few_events table (row ∷ rows) =
    omega (arith, sum_by-cons event_count (row_entry table row) (map (row_entry table) rows), few_events table rows, one_or_two (row.period.end == FOREVER))

-- one more table
pub one_more_table : (tables : List RowList) (place : ℕ) (rows : RowList) → place < length tables → rows ≡ slice_index_or tables place rows
    → sum_by event_count (entries_from 0 (take (place + 1) tables)) ≡ sum_by event_count (entries_from 0 (take place tables)) + sum_by event_count (map (row_entry place) rows.items)
one_more_table tables place rows here is =
    let put : take (place + 1) tables ≡ take place tables ++ rows ∷ [] = take_more tables place rows here ∙ ap (λ (r : RowList). take place tables ++ r ∷ []) (sym is) in
    ap (sum_by event_count) (entries_put (take place tables) (take (place + 1) tables) rows place put (length-take-le place tables (omega (arith, here))))
    ∙ sum_by-append event_count (entries_from 0 (take place tables)) (map (row_entry place) rows.items)
