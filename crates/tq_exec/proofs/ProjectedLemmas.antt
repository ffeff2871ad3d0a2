-- Rows of which only wanted values are kept fit the tables that they fitted, and are valid when they were.
use Rattle.std.proofs.Common.{◌≡◌, ◌≢◌, ℕ, Bool, true, false, List, [], ◌∷◌, map, Option, Some, None, refl, sym, ap, ◌∙◌, subst, arith}
use Rattle.std.specs.Prelude.{All, IsSomeAnd, slice_get}
use Rattle.std.proofs.lemmas.List.Elements.{All-map, All-weaker}
use Rattle.tq_base.specs.declared.catalogue.Catalogue.{Catalogue}
use Rattle.tq_base.specs.declared.catalogue.Column.{Column}
use Rattle.tq_base.specs.declared.catalogue.Kind.{Kind}
use Rattle.tq_base.specs.declared.catalogue.Kind.TheVariants as kind
use Rattle.tq_base.specs.declared.catalogue.Schema.{Schema}
use Rattle.tq_base.specs.declared.fragment.Fragment.{Fragment}
use Rattle.tq_base.specs.declared.value.Value.{Value}
use Rattle.tq_base.specs.Catalogues.{Fit, IsOfKind}
use Rattle.tq_base.specs.Contents.{Int, Text}
use Rattle.tq_base.specs.Fragments.{at}
use Rattle.tq_base.specs.Layers.{IsLayers}
use Rattle.tq_base.specs.Periods.{holds}
use Rattle.tq_event.specs.Projection.{projected_row, projected_value, projected_values, wanted_of}
use Rattle.tq_event.specs.Recorded.{HasTable}
use Rattle.tq_event.specs.Tables.{rows_in}
use Rattle.tq_agg.specs.Grouping.{Row}
use Rattle.tq_plan.specs.declared.plans.Plan.{Plan}
use Rattle.tq_plan.specs.ValidPlans.{AreQueriesOver}
use Rattle.tq_exec.specs.Fitting.{AreFitting}
use Rattle.tq_exec.proofs.HeldRows as held
use Rattle.tq_exec.proofs.NumberLemmas.{zero_fits}
use Rattle.tq_exec.specs.Answers.{in_tables, times_at, ValidRows}
use Rattle.tq_exec.specs.Required.{AllColumnsSuffice, ProjectedRowsFit, ProjectedTablesAnswer, ProjectedTablesFit, ProjectedTablesHold, RequiredColumnsSuffice, Serve, projected_in}

-- ---- no list of wanted columns

all_values : (row : Row) → projected_values [] row ≡ row
unfolding projected_values
all_values [] = refl
all_values (v ∷ vs) = refl

all_rows : (rows : List Row) → map (projected_values []) rows ≡ rows
all_rows [] = refl
all_rows (row ∷ rows) = λ i. all_values row i ∷ all_rows rows i

-- where nothing is told of any table, what is valid is kept whole
all_kept : (valid : ValidRows) → projected_in [] valid ≡ valid
all_kept valid = λ i table t. all_rows (valid table t) i

pub all_tell : AllColumnsSuffice
all_tell valid plan v t = ap (λ (rows : ValidRows). times_at rows plan v t) (all_kept valid)

-- ---- rows that fit

kept_kind : (k : Kind) (w : Bool) (v : Value) → IsOfKind k v → IsOfKind k (projected_value w v)
kept_kind k true v is = is
kept_kind kind.Int false (Int n) is = zero_fits
kept_kind kind.Int false (Text t) is = absurd is
kept_kind kind.Text false (Int n) is = absurd is
kept_kind kind.Text false (Text t) is = omega arith

kept_fit : (columns : List Column) (wanted : List Bool) (values : Row) → Fit columns values → Fit columns (projected_values wanted values)
unfolding projected_values
kept_fit [] [] [] fit = fit
kept_fit [] (w ∷ ws) [] fit = fit
kept_fit [] wanted (v ∷ vs) fit = absurd fit
kept_fit (c ∷ cs) wanted [] fit = absurd fit
kept_fit (c ∷ cs) [] (v ∷ vs) fit = fit
kept_fit (c ∷ cs) (w ∷ ws) (v ∷ vs) fit = (kept_kind c.kind w v fit.0, kept_fit cs ws vs fit.1)

kept_has : (catalogue : Catalogue) (table : ℕ) (wanted : List Bool) (values : Row) → HasTable catalogue table values → HasTable catalogue table (projected_values wanted values)
kept_has catalogue table wanted values has = by (slice_get catalogue.tables table) has
  where
    by : (found : Option Schema) → IsSomeAnd found (λ (s : Schema). Fit s.columns values) → IsSomeAnd found (λ (s : Schema). Fit s.columns (projected_values wanted values))
    by None is = is
    by (Some s) is = kept_fit s.columns wanted values is

pub rows_fit : ProjectedRowsFit
rows_fit wanted catalogue valid fit table t =
    let own = wanted_of wanted table in
    All-map (HasTable catalogue table) (projected_values own) (valid table t)
    (All-weaker (HasTable catalogue table) (λ row. HasTable catalogue table (projected_values own row)) (kept_has catalogue table own) (valid table t) (fit table t))

pub tables_fit : ProjectedTablesFit
tables_fit wanted catalogue tables kept are fit table =
    let own = wanted_of wanted table in
    let Fits : Fragment → Type 0 = λ row. HasTable catalogue table row.values in
    subst (All Fits) (sym (are table))
    (All-map Fits (projected_row own) (rows_in tables table)
    (All-weaker Fits (λ row. Fits (projected_row own row)) (λ row. kept_has catalogue table own row.values) (rows_in tables table) (fit table)))

-- ---- rows that are valid

kept_at : (wanted : List Bool) (rows : List Fragment) (t : ℕ) → at (map (projected_row wanted) rows) t ≡ map (projected_values wanted) (at rows t)
kept_at wanted [] t = refl
kept_at wanted (row ∷ rows) t = by (holds row.period t) refl (kept_at wanted rows t)
  where
    by : (b : Bool) → holds row.period t ≡ b → at (map (projected_row wanted) rows) t ≡ map (projected_values wanted) (at rows t) → at (map (projected_row wanted) (row ∷ rows)) t ≡ map (projected_values wanted) (at (row ∷ rows) t)
    by true is rest = rw is (ap (λ l. projected_values wanted row.values ∷ l) rest)
    by false is rest = rw is rest

pub tables_hold : ProjectedTablesHold
tables_hold wanted tables kept are table t = ap (λ rows. at rows t) (are table) ∙ kept_at (wanted_of wanted table) (rows_in tables table) t

-- ---- answers

module _ (named : RequiredColumnsSuffice) (all : AllColumnsSuffice) (catalogue : Catalogue) (valid : ValidRows) (plan : Plan) (fit : AreFitting catalogue valid) (over : AreQueriesOver catalogue plan) where
  -- each row stands as often in the answer
  times_stay : (wanted : List (List Bool)) → (wanted ≢ [] → Serve wanted plan) → (v : Row) (t : ℕ) → times_at (projected_in wanted valid) plan v t ≡ times_at valid plan v t
  times_stay [] serve v t = all valid plan v t
  times_stay (w ∷ ws) serve v t = named (w ∷ ws) catalogue valid plan fit over (serve (λ none. cc)) v t

pub tables_tell : RequiredColumnsSuffice → AllColumnsSuffice → ProjectedTablesAnswer
tables_tell named all wanted catalogue tables kept plan table are fit over serve is =
    let valid = in_tables tables in
    let times : in_tables kept ≡ projected_in wanted valid = λ i number t. tables_hold wanted tables kept are number t i in
    let stay = times_stay named all catalogue valid plan (held.tables_fit catalogue tables fit) over wanted serve in
    let same : times_at (projected_in wanted valid) plan ≡ times_at valid plan = λ i v t. stay v t i in
    record {
      columns = is.columns;
      layers = subst (λ (count : Row → ℕ → ℕ). IsLayers count table.rows) (ap (λ (rows : ValidRows). times_at rows plan) times ∙ same) is.layers;
    }
