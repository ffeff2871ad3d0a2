-- The parts of a statement that are planned by themselves, in the order of the planner, and the number of names in the
-- text before each. This project's own.
use Rattle.std.specs.Prelude.{ℕ, ◌+◌, List, [], ◌∷◌, ◌++◌, take, Option, None, Some}
use Rattle.tq_sql.specs.declared.statement.ColumnRef.{ColumnRef}
use Rattle.tq_sql.specs.declared.statement.Cond.{Cond, fold-Cond}
use Rattle.tq_sql.specs.declared.statement.Cond.TheOpen.{Cond-F}
use Rattle.tq_sql.specs.declared.statement.Item.{Item}
use Rattle.tq_sql.specs.declared.statement.Query.{Query}
use Rattle.tq_sql.specs.declared.statement.SourceRef.{SourceRef}
use Rattle.tq_sql.specs.declared.statement.Statement.{Statement}
use Rattle.tq_sql.specs.declared.statement.Term.{Term}
use Rattle.tq_sql.specs.declared.statement.Term.TheVariants as term
use Rattle.tq_sql.specs.declared.statement.What.{What}
use Rattle.tq_sql.specs.declared.statement.What.TheVariants as what
use Rattle.tq_diagnostics.specs.Probes.{QueryPart, Column, Count, Equality, Sum}

-- ---- the number of names that are written

-- the name after AS or after a table, or none
abbrev pub alias_size : Option (List ℕ) → ℕ
alias_size None = 0
alias_size (Some alias) = 1

-- `column`, or `source.column`
abbrev pub column_size : ColumnRef → ℕ
column_size column = alias_size column.source + 1

abbrev pub source_size : SourceRef → ℕ
source_size source = alias_size source.alias + 1

abbrev pub term_size : Term → ℕ
term_size (term.Column column) = column_size column
term_size (term.Int number) = 0
term_size (term.Text text) = 0

abbrev pub what_size : What → ℕ
what_size (what.Column column) = column_size column
what_size what.Count = 0
what_size (what.Sum column) = column_size column

abbrev pub item_size : Item → ℕ
item_size item = alias_size item.alias + what_size item.what

-- ---- the parts of each clause, and the number of names after it

-- the first name of a column: that of its source, if it has one
abbrev pub first_name : List ℕ → Option (List ℕ) → List ℕ
first_name column None = column
first_name column (Some source) = source

abbrev pub column_part : List SourceRef → ℕ → ColumnRef → QueryPart
column_part sources at column =
    record { at = at; name = first_name column.column column.source; sources = sources; probe = Column column }

abbrev pub sum_part : List SourceRef → List ColumnRef → ℕ → ColumnRef → QueryPart
sum_part sources group at column =
    record { at = at; name = first_name column.column column.source; sources = sources; probe = Sum column group }

-- each source together with those before it
abbrev pub source_parts : List SourceRef → ℕ → ℕ → List SourceRef → List QueryPart
source_parts all number at [] = []
source_parts all number at (source ∷ sources) =
    record { at = at; name = source.table; sources = take (number + 1) all; probe = Count }
    ∷ source_parts all (number + 1) (at + source_size source) sources

abbrev pub after_sources : ℕ → List SourceRef → ℕ
after_sources at [] = at
after_sources at (source ∷ sources) = after_sources (at + source_size source) sources

abbrev pub term_parts : List SourceRef → ℕ → Term → List QueryPart
term_parts all at (term.Column column) = column_part all at column ∷ []
term_parts all at (term.Int number) = []
term_parts all at (term.Text text) = []

-- the first name of two terms: none if both are a number or a text
abbrev pub term_name : Term → List ℕ → List ℕ
term_name (term.Column column) other = first_name column.column column.source
term_name (term.Int number) other = other
term_name (term.Text text) other = other

-- a comparison of two terms
abbrev pub equality_part : List SourceRef → ℕ → Term → Term → QueryPart
equality_part all at left right = record { at = at; name = term_name left (term_name right []); sources = all; probe = Equality left right }

-- the left term, the right one, and the comparison of both
abbrev pub pair_part : List SourceRef → ℕ → Term × Term → List QueryPart
pair_part all at pair = term_parts all at pair.0 ++ term_parts all (at + term_size pair.0) pair.1 ++ equality_part all at pair.0 pair.1 ∷ []

abbrev pub after_pair : ℕ → Term × Term → ℕ
after_pair at pair = (at + term_size pair.0) + term_size pair.1

abbrev pub pair_parts : List SourceRef → ℕ → List (Term × Term) → List QueryPart
pair_parts all at [] = []
pair_parts all at (pair ∷ pairs) = pair_part all at pair ++ pair_parts all (after_pair at pair) pairs

abbrev pub after_pairs : ℕ → List (Term × Term) → ℕ
after_pairs at [] = at
after_pairs at (pair ∷ pairs) = after_pairs (after_pair at pair) pairs

abbrev pub group_parts : List SourceRef → ℕ → List ColumnRef → List QueryPart
group_parts all at [] = []
group_parts all at (column ∷ columns) = column_part all at column ∷ group_parts all (at + column_size column) columns

abbrev pub after_group : ℕ → List ColumnRef → ℕ
after_group at [] = at
after_group at (column ∷ columns) = after_group (at + column_size column) columns

-- a column; for a sum the column, and then the sum, grouped as the query is
abbrev pub what_parts : List SourceRef → List ColumnRef → ℕ → What → List QueryPart
what_parts all group at (what.Column column) = column_part all at column ∷ []
what_parts all group at what.Count = []
what_parts all group at (what.Sum column) = column_part all at column ∷ sum_part all group at column ∷ []

abbrev pub item_parts : List SourceRef → List ColumnRef → ℕ → List Item → List QueryPart
item_parts all group at [] = []
item_parts all group at (item ∷ items) = what_parts all group at item.what ++ item_parts all group (at + item_size item) items

abbrev pub after_items : ℕ → List Item → ℕ
after_items at [] = at
after_items at (item ∷ items) = after_items (at + item_size item) items

-- ---- the comparisons of a condition

abbrev pub pairs_step : Cond-F (List (Term × Term)) → List (Term × Term)
pairs_step (Cond-F.Is left sign right) = (left, right) ∷ []
pairs_step (Cond-F.And a b) = a ++ b
pairs_step (Cond-F.Or a b) = a ++ b
pairs_step (Cond-F.Not a) = a

-- the pairs of terms that a condition compares, from the left
unfoldable pub pairs_of : Cond → List (Term × Term)
pairs_of cond = fold-Cond (List (Term × Term)) pairs_step cond

-- those after WHERE
abbrev pub where_pairs : Option Cond → List (Term × Term)
where_pairs None = []
where_pairs (Some cond) = pairs_of cond

-- ---- queries and statements

-- the numbers of names before the clauses of a query that comes after n names: items, sources, condition, groups
abbrev pub clause_starts : ℕ → Query → ℕ
clause_starts at query = after_sources (after_items at query.items) query.sources

abbrev pub group_at : ℕ → Query → ℕ
group_at at query = after_pairs (clause_starts at query) (where_pairs query.cond)

abbrev pub after_query : ℕ → Query → ℕ
after_query at query = after_group (group_at at query) query.group

-- the parts of a query: its sources, the comparisons after WHERE, the columns after GROUP BY, the items
abbrev pub query_parts : ℕ → Query → List QueryPart
query_parts at query =
    source_parts query.sources 0 (after_items at query.items) query.sources ++ pair_parts query.sources (clause_starts at query) (where_pairs query.cond)
    ++ group_parts query.sources (group_at at query) query.group ++ item_parts query.sources query.group at query.items

abbrev pub right_parts : ℕ → Option Query → List QueryPart
right_parts at None = []
right_parts at (Some query) = query_parts at query

-- the parts of the left query, then those of the query after EXCEPT ALL
abbrev pub statement_parts : Statement → List QueryPart
statement_parts statement = query_parts 0 statement.left ++ right_parts (after_query 0 statement.left) statement.right
