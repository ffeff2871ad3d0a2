-- The rows that a plan needs are enough for its answer.
use Rattle.std.proofs.Common.{◌≡◌, ◌<◌, ◌≤◌, ◌-◌, ℕ, zero, suc, Bool, true, false, if◌then◌else◌, List, [], ◌∷◌, Option, None, Some, arith, get_or, inl, inr, length, refl, subst, sym}
use Rattle.std.specs.Prelude.{All, IsSomeAnd, IsTrue, slice_get}
use Rattle.std.proofs.lemmas.Bool.{cases_lt}
use Rattle.std.proofs.lemmas.List.{get_or_default}
use Rattle.tq_base.specs.declared.catalogue.Catalogue.{Catalogue}
use Rattle.tq_base.specs.declared.catalogue.Schema.{Schema}
use Rattle.tq_base.specs.declared.key_range.KeyRange.{KeyRange}
use Rattle.tq_base.specs.Periods.{holds}
use Rattle.tq_base.specs.RowLists.{RowList}
use Rattle.tq_event.specs.Tables.{lists_of, rows_in}
use Rattle.tq_plan.specs.declared.plans.Plan.{Plan}
use Rattle.tq_plan.specs.declared.plans.QueryPlan.{QueryPlan}
use Rattle.tq_plan.specs.declared.plans.QuerySource.{QuerySource}
use Rattle.tq_plan.specs.Plans.{tables_in, tables_of}
use Rattle.tq_plan.specs.Scope.{is_numbered}
use Rattle.tq_plan.specs.ValidPlans.{AreQueriesOver, HasColumns, IsQueryOver}
use Rattle.tq_agg.specs.Grouping.{Row}
use Rattle.tq_exec.specs.Answers.{in_tables, lists_at, times_at, times_by, times_in, times_in_right, ValidRows}
use Rattle.tq_exec.specs.Fitting.{AreAllFitting, AreFitting}
use Rattle.tq_exec.specs.Ordinary.{ordinary}
use Rattle.tq_exec.specs.Reads.{AreReadTables, AreSomeRowsIn, FitsTable, HasNeededRows, HasQueryKeys, HasSourceKeys, ranges_with}
use Rattle.tq_exec.specs.Scan.{AreOfSources, AreRowsOf, SameCounts}
use Rattle.tq_exec.proofs.NumberLemmas.{first_of, none_of, others_of}
use Rattle.tq_exec.proofs.PartitionPartLemmas.{no_table, table_rows}
use Rattle.tq_exec.proofs.ProductLemmas.{same_selected}
use Rattle.tq_exec.proofs.SourceLemmas.{rows_needed}
use Rattle.tq_exec.proofs.TableLemmas.{ordinary_same}

-- ---- one query at one instant

-- the rows of the source's table are enough for the query
record AreNeeded (query : QueryPlan) (valid other : ValidRows) (t : ℕ) (source : QuerySource) : Type 0 where
  ranges : List KeyRange
  has : HasSourceKeys query source ranges
  rows : AreSomeRowsIn ranges (valid source.table t) (other source.table t)

module _ (catalogue : Catalogue) (valid other : ValidRows) (query : QueryPlan) (t : ℕ) (fit : AreFitting catalogue valid) where
  rows_of_source : (source : QuerySource) → HasColumns catalogue source → AreNeeded query valid other t source → AreRowsOf query.test source (valid source.table t) (other source.table t)
  rows_of_source source has needed =
      rows_needed catalogue query source (λ key. 1 ≤ ranges_with needed.ranges key) (valid source.table t) (other source.table t) has (fit source.table t) needed.has needed.rows.same needed.rows.at_most

  rows_of_sources : (sources : List QuerySource) → All (HasColumns catalogue) sources → All (AreNeeded query valid other t) sources → AreOfSources query.test valid t sources (lists_at other t (tables_in sources))
  rows_of_sources [] has needed = tt
  rows_of_sources (source ∷ sources) has needed = (
    rows_of_source source (first_of (HasColumns catalogue) source sources has) (first_of (AreNeeded query valid other t) source sources needed),
    rows_of_sources sources (others_of (HasColumns catalogue) source sources has) (others_of (AreNeeded query valid other t) source sources needed),
  )

  ordinary_needed : IsQueryOver catalogue query → All (AreNeeded query valid other t) query.sources → SameCounts (ordinary query (lists_at other t (tables_of query))) (ordinary query (lists_at valid t (tables_of query)))
  ordinary_needed over needed =
      ordinary_same query (lists_at other t (tables_of query)) (lists_at valid t (tables_of query)) over.items
      (same_selected query.test valid t query.sources (lists_at other t (tables_in query.sources)) over.sources (rows_of_sources query.sources over.columns needed))

-- ---- tables that were read

-- a place at which there is something is one of the list
there : {X : Type 0} (P : X → Type 0) (xs : List X) (k : ℕ) → IsSomeAnd (slice_get xs k) P → k < length xs
there P [] k is = absurd is
there P (x ∷ xs) zero is = omega arith
there P (x ∷ xs) (suc k) is = let rest = there P xs k is in omega (arith, rest)

-- the rows of a table by its number
rows_by_number : (tables : List RowList) (table : ℕ) (d : RowList) → table < length tables → rows_in (lists_of tables) table ≡ (get_or tables table d).items
rows_by_number tables table d within = table_rows tables table (get_or tables table d) within (λ e. get_or_default tables table d e within)

module _ (catalogue : Catalogue) (valid : ValidRows) (plan : Plan) (tables : List RowList) (read : AreReadTables catalogue valid plan tables) where
  -- a table that is in the catalogue
  table_read : (table : ℕ) (d : RowList) → table < length catalogue.tables → HasNeededRows valid plan table (rows_in (lists_of tables) table)
  table_read table d within =
      let here : table < length tables = omega (arith, within, read.many) in
      subst (HasNeededRows valid plan table) (sym (rows_by_number tables table d here)) (read.each table d here).needed

  no_rows : RowList
  no_rows = record { width = 0; items = [] }

  sources_needed : (query : QueryPlan) (t : ℕ) → IsTrue (holds plan.window t) → IsQueryOver catalogue query
      → ((table : ℕ) → (rows : HasNeededRows valid plan table (rows_in (lists_of tables) table)) → HasQueryKeys table rows.ranges query)
      → All (AreNeeded query valid (in_tables (lists_of tables)) t) query.sources
  sources_needed query t inside over has k d less =
      let source : QuerySource = get_or query.sources k d in
      let rows = table_read source.table no_rows (there (λ (s : Schema). (source.width ≡ length s.columns) × (source.numbered ≡ is_numbered s.columns)) catalogue.tables source.table (over.columns k d less)) in
      record {
        ranges = rows.ranges;
        has = has source.table rows k d less refl;
        rows = rows.same t inside;
      }

  times_needed : (query : QueryPlan) (v : Row) (t : ℕ) → IsTrue (holds plan.window t) → AreFitting catalogue valid → IsQueryOver catalogue query
      → ((table : ℕ) → (rows : HasNeededRows valid plan table (rows_in (lists_of tables) table)) → HasQueryKeys table rows.ranges query)
      → times_in (in_tables (lists_of tables)) query v t ≡ times_in valid query v t
  times_needed query v t inside fit over has =
      ordinary_needed catalogue valid (in_tables (lists_of tables)) query t fit over (sources_needed query t inside over has) v

  right_needed : (right : Option QueryPlan) (v : Row) (t : ℕ) → IsTrue (holds plan.window t) → AreFitting catalogue valid → ((query : QueryPlan) → right ≡ Some query → IsQueryOver catalogue query)
      → ((query : QueryPlan) → right ≡ Some query → (table : ℕ) → (rows : HasNeededRows valid plan table (rows_in (lists_of tables) table)) → HasQueryKeys table rows.ranges query)
      → times_in_right (in_tables (lists_of tables)) right v t ≡ times_in_right valid right v t
  right_needed None v t inside fit over has = refl
  right_needed (Some query) v t inside fit over has = times_needed query v t inside fit (over query refl) (has query refl)

  -- the plan has the same answer over the tables that were read
  pub answer_needed : AreFitting catalogue valid → AreQueriesOver catalogue plan → (v : Row) (t : ℕ) → times_at (in_tables (lists_of tables)) plan v t ≡ times_at valid plan v t
  answer_needed fit over v t = by (holds plan.window t) refl
    where
      by : (b : Bool) → holds plan.window t ≡ b → (if b then times_by (in_tables (lists_of tables)) plan v t else 0) ≡ (if b then times_by valid plan v t else 0)
      by true inside =
          let left = times_needed plan.left v t inside fit over.0 (λ table rows. rows.needed.0) in
          let right = right_needed plan.right v t inside fit over.1 (λ query is table rows. rows.needed.1 query is) in
          λ i. left i - right i
      by false outside = refl

  -- and their rows fit
  pub tables_read_fit : AreAllFitting catalogue (lists_of tables)
  tables_read_fit table = elim (cases_lt table (length tables)) [
    | inl within ↦ subst (All (FitsTable catalogue table)) (sym (rows_by_number tables table no_rows within)) (read.each table no_rows within).fit
    | inr past ↦ subst (All (FitsTable catalogue table)) (sym (no_table tables table (omega (arith, past)))) (none_of (FitsTable catalogue table))
  ]
