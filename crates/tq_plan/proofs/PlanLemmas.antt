-- The items of a statement's plan are valid, and its sources are contiguous and have the columns of their tables.
use Rattle.std.proofs.Common.{◌≡◌, ℕ, ◌+◌, length, ◌&&◌, ◌||◌, Bool, true, false, if◌then◌else◌, List, [], ◌∷◌, ◌++◌, map, Option, Some, None, Result, Ok, Err, refl, sym, ap, ◌∙◌, subst, arith}
use Rattle.std.specs.Prelude.{All, IsSomeAnd, slice_get}
use Rattle.std.specs.List.{list_all, list_any}
use Rattle.std.specs.Str.{bytes_eq}
use Rattle.std.specs.Option.{is_some, unwrap_or}
use Rattle.std.specs.Result.{result_unwrap_or}
use Rattle.std.proofs.lemmas.Bool.{false≢true}
use Rattle.std.proofs.lemmas.List.{length-append, length-map, map-append}
use Rattle.std.proofs.lemmas.List.Elements.{All-push}
use Rattle.std.proofs.lemmas.List.Folds.{list_all-append, list_any-append}
use Rattle.tq_base.specs.declared.catalogue.Kind.{Kind}
use Rattle.tq_base.specs.declared.catalogue.Kind.TheVariants as kind
use Rattle.tq_base.specs.declared.catalogue.Catalogue.{Catalogue}
use Rattle.tq_base.specs.declared.catalogue.Column.{Column}
use Rattle.tq_base.specs.declared.catalogue.Schema.{Schema}
use Rattle.tq_base.specs.Catalogues.{table_number}
use Rattle.tq_base.specs.Results.{and_then}
use Rattle.tq_base.specs.declared.form.Form.{Form}
use Rattle.tq_sql.specs.declared.statement.Statement.{Statement}
use Rattle.tq_sql.specs.declared.statement.ColumnRef.{ColumnRef}
use Rattle.tq_sql.specs.declared.statement.What.{What}
use Rattle.tq_sql.specs.declared.statement.What.TheVariants as what
use Rattle.tq_sql.specs.declared.statement.Item.{Item}
use Rattle.tq_sql.specs.declared.statement.Query.{Query}
use Rattle.tq_sql.specs.declared.statement.SourceRef.{SourceRef}
use Rattle.tq_plan.specs.declared.fault.PlanFault.{PlanFault}
use Rattle.tq_plan.specs.declared.fault.PlanFault.TheVariants.{DuplicateAlias, NotGrouped, UnequalColumns}
use Rattle.tq_plan.specs.declared.plans.Output.{Output}
use Rattle.tq_plan.specs.declared.plans.Output.TheVariants as output
use Rattle.tq_plan.specs.declared.plans.Plan.{Plan}
use Rattle.tq_plan.specs.declared.plans.QueryPlan.{QueryPlan}
use Rattle.tq_plan.specs.declared.plans.QuerySource.{QuerySource}
use Rattle.tq_plan.specs.ValidPlans as standing
use Rattle.tq_plan.specs.Plans.{column_output, group_after, grouped_sum, has_aggregate, is_aggregate, is_groupable, output_of, outputs_after, plan_of, query_of, right_of, same_kinds, sum_output, with_kinds, column_names}
use Rattle.tq_plan.specs.Conditions.{where_of}
use Rattle.tq_plan.specs.Scope.{Field, Sources, add_numbered, add_source, add_table, alias_of, is_numbered, no_sources, resolved, source_of, sources_after}
use Rattle.tq_plan.specs.Windows.{window_plan}
use Rattle.tq_plan.specs.ValidPlans.{HasColumns, IsPlanOver, IsQueryOver, AreContiguousFrom, is_valid_item}

-- the result of a call in two steps comes from both
record Both {A B E : Type 0} (first : Result A E) (next : A → Result B E) (b : B) : Type 0 where
  value : A
  first_gives : first ≡ Ok value
  then_gives : next value ≡ Ok b

both : {A B E : Type 0} (first : Result A E) (next : A → Result B E) (b : B) → and_then first next ≡ Ok b → Both first next b
both (Ok a) next b is = record { value = a; first_gives = refl; then_gives = is }
both (Err e) next b is = cc

abbrev Pair : Type 0
Pair = Output × Kind

ok_is : {A E : Type 0} (a b : A) → (let left : Result A E = Ok a in left) ≡ Ok b → a ≡ b
ok_is a b is = ap (λ r. result_unwrap_or r b) is

-- ---- each item is valid, and counts or sums if the statement's item does

record Stands (counted : Bool) (group : List ℕ) (aggregate : Bool) (one : Pair) : Type 0 where
  may : is_valid_item counted group one.0 ≡ true
  kept : standing.is_aggregate one.0 ≡ aggregate

as_made : (counted : Bool) (group : List ℕ) (aggregate : Bool) (made one : Pair) → (let left : Result Pair PlanFault = Ok made in left) ≡ Ok one → Stands counted group aggregate made → Stands counted group aggregate one
as_made counted group aggregate made one is = subst (Stands counted group aggregate) (ok_is made one is)

column_stands : (counted : Bool) (group : List ℕ) (meaning : ℕ × Kind) (one : Pair) → column_output counted group meaning ≡ Ok one → Stands counted group false one
column_stands counted group meaning one is = by_test (is_groupable counted group meaning.0) refl is
  where
    by_test : (b : Bool) → is_groupable counted group meaning.0 ≡ b → (if b then Ok (output.Column meaning.0, meaning.1) else Err NotGrouped) ≡ Ok one → Stands counted group false one
    by_test true stands made = as_made counted group false (output.Column meaning.0, meaning.1) one made (record { may = stands; kept = refl })
    by_test false stands made = cc

sum_stands : (counted : Bool) (first : ℕ) (more : List ℕ) (place : ℕ) (k : Kind) (one : Pair) → sum_output place k ≡ Ok one → Stands counted (first ∷ more) true one
sum_stands counted first more place kind.Int one is = as_made counted (first ∷ more) true (output.Sum place, kind.Int) one is (record { may = refl; kept = refl })
sum_stands counted first more place kind.Text one is = cc

grouped_stands : (fields : List Field) (counted : Bool) (group : List ℕ) (column : ColumnRef) (one : Pair) → grouped_sum fields group column ≡ Ok one → Stands counted group true one
grouped_stands fields counted [] column one is = cc
grouped_stands fields counted (first ∷ more) column one is =
    let b = both (resolved fields column) (λ meaning. sum_output meaning.0 meaning.1) one is in
    sum_stands counted first more b.value.0 b.value.1 one b.then_gives

output_stands : (fields : List Field) (counted : Bool) (group : List ℕ) (w : What) (one : Pair) → output_of fields counted group w ≡ Ok one → Stands counted group (is_aggregate w) one
output_stands fields counted group (what.Column column) one is =
    let b = both (resolved fields column) (column_output counted group) one is in
    column_stands counted group b.value one b.then_gives
output_stands fields counted group what.Count one is = as_made counted group true (output.Count, kind.Int) one is (record { may = refl; kept = refl })
output_stands fields counted group (what.Sum column) one is = grouped_stands fields counted group column one is

-- ---- all items

abbrev outputs_of : List Pair → List Output
outputs_of = map (λ (one : Pair). one.0)

record AllStand (counted : Bool) (group : List ℕ) (aggregate : Bool) (outputs : List Pair) : Type 0 where
  may : list_all (is_valid_item counted group) (outputs_of outputs) ≡ true
  kept : list_any standing.is_aggregate (outputs_of outputs) ≡ aggregate

one_more : (counted : Bool) (group : List ℕ) (before this : Bool) (done : List Pair) (one : Pair) → AllStand counted group before done → Stands counted group this one → AllStand counted group (before || this) (done ++ one ∷ [])
one_more counted group before this done one all stands = record {
  may =
      ap (list_all (is_valid_item counted group)) (map-append (λ (p : Pair). p.0) done (one ∷ []))
      ∙ list_all-append (is_valid_item counted group) (outputs_of done) (one.0 ∷ [])
      ∙ (λ i. all.may i && (stands.may i && true));
  kept =
      ap (list_any standing.is_aggregate) (map-append (λ (p : Pair). p.0) done (one ∷ []))
      ∙ list_any-append standing.is_aggregate (outputs_of done) (one.0 ∷ [])
      ∙ (λ i. all.kept i || (stands.kept i || false))
      ∙ ap (λ b. before || b) (or-false this);
}
  where
    or-false : (b : Bool) → (b || false) ≡ b
    or-false true = refl
    or-false false = refl

or-assoc : (a b c : Bool) → ((a || b) || c) ≡ (a || (b || c))
or-assoc true b c = refl
or-assoc false b c = refl

or-nil : (a : Bool) → (a || false) ≡ a
or-nil true = refl
or-nil false = refl

all_stand : (fields : List Field) (counted : Bool) (group : List ℕ) (before : Bool) (done : List Pair) (items : List Item) (outputs : List Pair) → AllStand counted group before done
    → outputs_after fields counted group done items ≡ Ok outputs → AllStand counted group (before || has_aggregate items) outputs
all_stand fields counted group before done [] outputs all is =
    subst (λ a. AllStand counted group a outputs) (sym (or-nil before)) (subst (AllStand counted group before) (ok_is done outputs is) all)
all_stand fields counted group before done (item ∷ items) outputs all is =
    let b = both (output_of fields counted group item.what) (λ one. outputs_after fields counted group (done ++ one ∷ []) items) outputs is in
    subst (λ a. AllStand counted group a outputs) (or-assoc before (is_aggregate item.what) (has_aggregate items))
    (all_stand fields counted group (before || is_aggregate item.what) (done ++ b.value ∷ []) items outputs
    (one_more counted group before (is_aggregate item.what) done b.value all (output_stands fields counted group item.what b.value b.first_gives)) b.then_gives)

-- ---- the sources are contiguous

-- the place after the last one
abbrev end_of : ℕ → List QuerySource → ℕ
end_of place [] = place
end_of place (source ∷ sources) = end_of (place + source.width) sources

stand_more : (place : ℕ) (sources : List QuerySource) (one : QuerySource) → AreContiguousFrom place sources → one.first ≡ end_of place sources → AreContiguousFrom place (sources ++ one ∷ [])
stand_more place [] one stand is = (is, tt)
stand_more place (source ∷ sources) one stand is = (stand.0, stand_more (place + source.width) sources one stand.1 is)

end_more : (place : ℕ) (sources : List QuerySource) (one : QuerySource) → end_of place (sources ++ one ∷ []) ≡ end_of place sources + one.width
end_more place [] one = refl
end_more place (source ∷ sources) one = end_more (place + source.width) sources one

record AreInLine (catalogue : Catalogue) (s : Sources) : Type 0 where
  stand : AreContiguousFrom 0 s.sources
  ends : end_of 0 s.sources ≡ length s.fields
  columns : All (HasColumns catalogue) s.sources

one_more_source : (catalogue : Catalogue) (s : Sources) (alias : List ℕ) (table : ℕ) (schema : Schema) → slice_get catalogue.tables table ≡ Some schema → AreInLine catalogue s
    → AreInLine catalogue (record {
      sources = s.sources ++ source_of table (length s.fields) schema.columns ∷ [];
      aliases = s.aliases ++ alias ∷ [];
      fields = s.fields ++ map (λ column. (alias, column)) schema.columns;
    })
one_more_source catalogue s alias table schema known line = record {
  stand = stand_more 0 s.sources (source_of table (length s.fields) schema.columns) line.stand (sym line.ends);
  ends =
      end_more 0 s.sources (source_of table (length s.fields) schema.columns)
      ∙ (λ i. line.ends i + length schema.columns)
      ∙ ap (λ n. length s.fields + n) (sym (length-map schema.columns (λ (column : Column). (alias, column))))
      ∙ sym (length-append s.fields (map (λ (column : Column). (alias, column)) schema.columns));
  columns = All-push (HasColumns catalogue) s.sources (source_of table (length s.fields) schema.columns) line.columns has;
}
  where
    has : HasColumns catalogue (source_of table (length s.fields) schema.columns)
    has = subst (λ o. IsSomeAnd o (λ (t : Schema). (length schema.columns ≡ length t.columns) × (is_numbered schema.columns ≡ is_numbered t.columns))) (sym known) (refl, refl)

in_line_after_table : (catalogue : Catalogue) (s more : Sources) (alias : List ℕ) (table : ℕ) (schema : Option Schema) → slice_get catalogue.tables table ≡ schema → AreInLine catalogue s
    → add_table s alias table schema ≡ Ok more → AreInLine catalogue more
in_line_after_table catalogue s more alias table None known line is = cc
in_line_after_table catalogue s more alias table (Some schema) known line is = by_test (list_any (λ earlier. bytes_eq earlier alias) s.aliases) is
  where
    by_test : (b : Bool)
        → (if b then Err DuplicateAlias else Ok (record { sources = s.sources ++ source_of table (length s.fields) schema.columns ∷ []; aliases = s.aliases ++ alias ∷ []; fields = s.fields ++ map (λ column. (alias, column)) schema.columns })) ≡ Ok more
        → AreInLine catalogue more
    by_test true made = cc
    by_test false made = subst (AreInLine catalogue) (ok_is _ more made) (one_more_source catalogue s alias table schema known line)

in_line_after_number : (catalogue : Catalogue) (s more : Sources) (alias : List ℕ) (number : Option ℕ) → AreInLine catalogue s → add_numbered catalogue s alias number ≡ Ok more → AreInLine catalogue more
in_line_after_number catalogue s more alias None line is = cc
in_line_after_number catalogue s more alias (Some table) line is = in_line_after_table catalogue s more alias table (slice_get catalogue.tables table) refl line is

are_in_line : (catalogue : Catalogue) (s all : Sources) (sources : List SourceRef) → AreInLine catalogue s → sources_after catalogue s sources ≡ Ok all → AreInLine catalogue all
are_in_line catalogue s all [] line is = subst (AreInLine catalogue) (ok_is s all is) line
are_in_line catalogue s all (source ∷ sources) line is =
    let b = both (add_source catalogue s source) (λ more. sources_after catalogue more sources) all is in
    are_in_line catalogue b.value all sources (in_line_after_number catalogue s b.value (alias_of source) (table_number catalogue source.table) line b.first_gives) b.then_gives

none_yet : (catalogue : Catalogue) → AreInLine catalogue no_sources
none_yet catalogue = record { stand = tt; ends = refl; columns = λ k d less. absurd (omega (arith, less)) }

-- ---- the queries of a plan

query_stands : (catalogue : Catalogue) (query : Query) (plan : QueryPlan) (kinds : List Kind) → query_of catalogue query ≡ Ok (plan, kinds) → IsQueryOver catalogue plan
query_stands catalogue query plan kinds is =
    let s = both (sources_after catalogue no_sources query.sources) _ (plan, kinds) is in
    let w = both (where_of s.value.fields query.cond) _ (plan, kinds) s.then_gives in
    let g = both (group_after s.value.fields [] query.group) _ (plan, kinds) w.then_gives in
    let o = both (outputs_after s.value.fields (has_aggregate query.items) g.value [] query.items) _ (plan, kinds) g.then_gives in
    let all = all_stand s.value.fields (has_aggregate query.items) g.value false [] query.items o.value (record { may = refl; kept = refl }) o.first_gives in
    let line = are_in_line catalogue no_sources s.value query.sources (none_yet catalogue) s.first_gives in
    let made : record { sources = s.value.sources; test = w.value; group = g.value; outputs = outputs_of o.value } ≡ plan = ap (λ (p : QueryPlan × List Kind). p.0) (ok_is _ (plan, kinds) o.then_gives) in
    subst (IsQueryOver catalogue) made
    (record { items = ap (λ c. list_all (is_valid_item c g.value) (outputs_of o.value)) all.kept ∙ all.may; sources = line.stand; columns = line.columns })

pub left_stands : (catalogue : Catalogue) (plan : Plan) → IsPlanOver catalogue plan → IsQueryOver catalogue plan.left
left_stands catalogue plan is =
    let w = both (window_plan is.form is.statement.window) _ plan is.planned in
    let l = both (query_of catalogue is.statement.left) _ plan w.then_gives in
    let r = both (right_of catalogue l.value.1 is.statement.right) _ plan l.then_gives in
    let made : record { window = w.value; columns = column_names is.statement.left.items; left = l.value.0; right = r.value } ≡ plan = ok_is _ plan r.then_gives in
    subst (λ p. IsQueryOver catalogue p.left) made (query_stands catalogue is.statement.left l.value.0 l.value.1 l.first_gives)

right_query : (catalogue : Catalogue) (kinds : List Kind) (query : Option Query) (plan : QueryPlan) → right_of catalogue kinds query ≡ Ok (Some plan) → IsQueryOver catalogue plan
right_query catalogue kinds None plan is = absurd (false≢true (ap (λ o. is_some o) (ok_is None (Some plan) is)))
right_query catalogue kinds (Some query) plan is =
    let q = both (query_of catalogue query) (with_kinds kinds) (Some plan) is in
    let made = by_kinds q.value (same_kinds kinds q.value.1) q.then_gives in
    subst (IsQueryOver catalogue) made (query_stands catalogue query q.value.0 q.value.1 q.first_gives)
  where
    by_kinds : (right : QueryPlan × List Kind) (b : Bool) → (if b then Ok (Some right.0) else Err UnequalColumns) ≡ Ok (Some plan) → right.0 ≡ plan
    by_kinds right true same = ap (λ o. unwrap_or o plan) (ok_is (Some right.0) (Some plan) same)
    by_kinds right false same = cc

pub right_stands : (catalogue : Catalogue) (plan : Plan) (query : QueryPlan) → IsPlanOver catalogue plan → plan.right ≡ Some query → IsQueryOver catalogue query
right_stands catalogue plan query is some =
    let w = both (window_plan is.form is.statement.window) _ plan is.planned in
    let l = both (query_of catalogue is.statement.left) _ plan w.then_gives in
    let r = both (right_of catalogue l.value.1 is.statement.right) _ plan l.then_gives in
    let made : record { window = w.value; columns = column_names is.statement.left.items; left = l.value.0; right = r.value } ≡ plan = ok_is _ plan r.then_gives in
    right_query catalogue l.value.1 is.statement.right query (r.first_gives ∙ ap Ok (ap (λ p. p.right) made ∙ some))

-- the window of a plan is the statement's
pub window_is : (form : Form) (catalogue : Catalogue) (statement : Statement) (plan : Plan) → plan_of form catalogue statement ≡ Ok plan → window_plan form statement.window ≡ Ok plan.window
window_is form catalogue statement plan is =
    let w = both (window_plan form statement.window) _ plan is in
    let l = both (query_of catalogue statement.left) _ plan w.then_gives in
    let r = both (right_of catalogue l.value.1 statement.right) _ plan l.then_gives in
    let made : record { window = w.value; columns = column_names statement.left.items; left = l.value.0; right = r.value } ≡ plan = ok_is _ plan r.then_gives in
    w.first_gives ∙ ap (λ (p : Plan). Ok p.window) made
