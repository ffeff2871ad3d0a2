-- Rows that fit the tables of a catalogue: those of a history over it, and of tables that hold what it holds.
use Rattle.std.proofs.Common.{◌≡◌, ℕ, zero, suc, ◌+◌, ◌<◌, ◌==◌, ◌&&◌, nat_le, nat_lt, Bool, true, false, List, [], ◌∷◌, take, drop, get_or, refl, subst}
use Rattle.std.specs.Prelude.{All, filter, if◌then◌else◌}
use Rattle.std.proofs.Math.Seq.{split_at}
use Rattle.std.proofs.lemmas.Bool.{eqb-true}
use Rattle.std.proofs.lemmas.List.Elements.{All-cons, All-filter, All-map}
use Rattle.tq_base.specs.declared.catalogue.Catalogue.{Catalogue}
use Rattle.tq_base.specs.declared.fragment.Fragment.{Fragment}
use Rattle.tq_base.specs.Fragments.{at}
use Rattle.tq_base.specs.Periods.{holds}
use Rattle.tq_event.specs.declared.event.Event.{Event}
use Rattle.tq_event.specs.declared.event.Event.TheVariants.{Start, End}
use Rattle.tq_event.specs.History.{CanHappen, IsHistory, Row as AnyRow, end_of, rows_from, rows_of, valid_at}
use Rattle.tq_event.specs.Recorded.{HasTable}
use Rattle.tq_event.specs.Tables.{rows_in}
use Rattle.tq_exec.specs.Answers.{as_of, in_tables}
use Rattle.tq_exec.specs.Fitting.{AreAllFitting, AreFitting, HeldRowsFit}
use Rattle.tq_exec.proofs.NumberLemmas.{first_of, none_of, one_of, others_of, stands}

-- ---- tables of rows

-- what is valid in tables whose rows fit
pub tables_fit : (catalogue : Catalogue) (tables : List (List Fragment)) → AreAllFitting catalogue tables → AreFitting catalogue (in_tables tables)
tables_fit catalogue tables all table t =
    All-map (HasTable catalogue table) (λ (row : Fragment). row.values) (filter (λ (row : Fragment). holds row.period t) (rows_in tables table))
    (All-filter (λ (row : Fragment). holds row.period t) (λ (row : Fragment). HasTable catalogue table row.values) (rows_in tables table) (all table))

-- ---- histories

module _ (catalogue : Catalogue) where
  -- what the event starts fits its table
  abbrev Fits : Event → Type 0
  Fits (Start table values at) = HasTable catalogue table values
  Fits (End table row at) = Unit {0}

  happened : (before : List Event) (event : Event) → CanHappen catalogue before event → Fits event
  happened before (Start t v when) can = can
  happened before (End t r when) can = tt

  history_fits : (events : List Event) → IsHistory catalogue events → All Fits events
  history_fits events history k d less =
      happened (take k events) (get_or events k d) (history (take k events) (get_or events k d) (drop (suc k) events) (split_at events k d less)).1

  abbrev InTable : ℕ → AnyRow → Type 0
  InTable table row = HasTable catalogue table row.values

  rows_fit : (table next : ℕ) (events : List Event) → All Fits events → All (InTable table) (rows_from table next events)
  rows_fit table next [] all = none_of (InTable table)
  rows_fit table next (Start t v when ∷ events) all =
      by_table (t == table) refl (rows_fit table (next + 1) events (others_of Fits (Start t v when) events all)) (rows_fit table next events (others_of Fits (Start t v when) events all))
    where
      new : AnyRow
      new = record { number = next; values = v; from = when; to = end_of table next events }

      by_table : (b : Bool) → (t == table) ≡ b → All (InTable table) (rows_from table (next + 1) events) → All (InTable table) (rows_from table next events)
          → All (InTable table) (if b then new ∷ rows_from table (next + 1) events else rows_from table next events)
      by_table true e after same =
          All-cons (InTable table) new (rows_from table (next + 1) events)
          (subst (λ k. HasTable catalogue k v) (eqb-true t table e) (first_of Fits (Start t v when) events all)) after
      by_table false e after same = same
  rows_fit table next (End t r when ∷ events) all = rows_fit table next events (others_of Fits (End t r when) events all)

  taken_fit : (n : ℕ) (events : List Event) → All Fits events → All Fits (take n events)
  taken_fit zero events all = none_of Fits
  taken_fit (suc n) [] all = none_of Fits
  taken_fit (suc n) (event ∷ events) all = All-cons Fits event (take n events) (first_of Fits event events all) (taken_fit n events (others_of Fits event events all))

  -- the rows of a table
  pub rows_of_fit : (events : List Event) (n table : ℕ) → IsHistory catalogue events → All (InTable table) (rows_of events n table)
  rows_of_fit events n table history = rows_fit table 0 (take n events) (taken_fit n events (history_fits events history))

  -- the rows that a history makes valid
  pub fit_as_of : (events : List Event) (n : ℕ) → IsHistory catalogue events → AreFitting catalogue (as_of events n)
  fit_as_of events n history table t =
      All-map (HasTable catalogue table) (λ (row : AnyRow). row.values) (filter (λ (row : AnyRow). nat_le row.from t && nat_lt t row.to) (rows_from table 0 (take n events)))
      (All-filter (λ (row : AnyRow). nat_le row.from t && nat_lt t row.to) (InTable table) (rows_from table 0 (take n events))
      (rows_fit table 0 (take n events) (taken_fit n events (history_fits events history))))

-- a row is valid at its start, so the history has it too
pub held_fit : HeldRowsFit
held_fit catalogue tables history n is hold table k d less =
    let row = get_or (rows_in tables table) k d in
    let t = row.period.start in
    one_of (HasTable catalogue table) (valid_at history n table t) row.values
    (subst (λ count. 0 < count) (hold table t row.values) (stands (rows_in tables table) k d less))
    (fit_as_of catalogue history n is table t)
