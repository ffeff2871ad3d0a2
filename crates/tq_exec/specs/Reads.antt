-- The rows that a plan needs of each table of a `Db`, and the parts in which they are read. This project's own.
use Rattle.std.specs.Prelude.{◌≡◌, ◌<◌, ◌≤◌, ◌&&◌, ◌++◌, ℕ, ℤ, cond, int_le, IsTrue, List, [], ◌∷◌, All, Some, length, map, slice_index_or, ⊤}
use Rattle.std.proofs.Props.{props}
use Rattle.std.specs.List.{flat_map, sum_by}
use Rattle.tq_base.specs.declared.catalogue.Catalogue.{Catalogue}
use Rattle.tq_base.specs.declared.fragment.Fragment.{Fragment}
use Rattle.tq_base.specs.declared.key_range.KeyRange.{KeyRange}
use Rattle.tq_base.specs.declared.period.Period.{Period}
use Rattle.tq_base.specs.Fragments.{at, occurrences}
use Rattle.tq_base.specs.KeyRanges.{key_of}
use Rattle.tq_base.specs.Periods.{holds}
use Rattle.tq_base.specs.RowLists.{RowList}
use Rattle.tq_event.specs.declared.event.Event.{Event}
use Rattle.tq_event.specs.Recorded.{HasTable}
use Rattle.tq_plan.specs.declared.plans.Plan.{Plan}
use Rattle.tq_plan.specs.declared.plans.QueryPlan.{QueryPlan}
use Rattle.tq_plan.specs.declared.plans.QuerySource.{QuerySource}
use Rattle.tq_condition.specs.Ordinary.{admits}
use Rattle.tq_plan.specs.KeyRanges.{HasKey, key_at}
use Rattle.tq_agg.specs.Grouping.{Row}
use Rattle.tq_store.specs.Laws.{TileWindow}
use Rattle.tq_store.specs.Rows.{IsWithin, whole_window}
use Rattle.tq_scan.specs.declared.window.Part.{Part}
use Rattle.tq_store.specs.Valid.{ArePart, width_of}
use Rattle.tq_table.specs.Merging.{AreOfWidth}
use Rattle.tq_exec.specs.Answers.{ValidRows}
use Rattle.tq_exec.specs.declared.key_ranges.TableKeys.{TableKeys}
use Rattle.tq_exec.specs.declared.read_pieces.ReadPiece.{ReadPiece}
use Rattle.tq_exec.specs.declared.read_pieces.TablePieces.{TablePieces}

-- ---- keys and ranges

-- 1 if the key is in the range, else 0
abbrev pub is_key_in : ℤ → KeyRange → ℕ
is_key_in key range = cond (int_le range.low key && int_le key range.high) 1 0

-- the number of the ranges with the key
abbrev pub ranges_with : List KeyRange → ℤ → ℕ
ranges_with ranges key = sum_by (is_key_in key) ranges

-- no key is in two ranges
abbrev pub AreApart : List KeyRange → Type 0
AreApart ranges = (key : ℤ) → ranges_with ranges key ≤ 1

-- ---- the keys that a plan needs

-- for each joined row that passes the query's condition, the key of the source's row is in one of the ranges
abbrev pub HasSourceKeys : QueryPlan → QuerySource → List KeyRange → Type 0
HasSourceKeys query source ranges = (row : Row) → HasKey source row → IsTrue (admits query.test row) → 1 ≤ ranges_with ranges (key_at source row)

-- the same for each source of the table
abbrev pub HasQueryKeys : ℕ → List KeyRange → QueryPlan → Type 0
HasQueryKeys table ranges query = All (λ (source : QuerySource). source.table ≡ table → HasSourceKeys query source ranges) query.sources

-- the same for both queries of the plan
abbrev pub HasPlanKeys : ℕ → List KeyRange → Plan → Type 0
HasPlanKeys table ranges plan = HasQueryKeys table ranges plan.left × ((query : QueryPlan) → plan.right ≡ Some query → HasQueryKeys table ranges query)

-- ---- rows that are enough for a plan

-- each of these valid rows is in the list equally often if its key is in a range, and at most as often otherwise
pub record AreSomeRowsIn (ranges : List KeyRange) (valid rows : List Row) : Type 0 where
  pub same : (v : Row) → 1 ≤ ranges_with ranges (key_of v) → occurrences rows v ≡ occurrences valid v
  pub at_most : (v : Row) → occurrences rows v ≤ occurrences valid v

-- at each instant of the window, the list has the valid rows of the table that the plan needs
pub record HasNeededRows (valid : ValidRows) (plan : Plan) (table : ℕ) (rows : List Fragment) : Type 0 where
  pub ranges : List KeyRange
  pub needed : HasPlanKeys table ranges plan
  pub same : (t : ℕ) → IsTrue (holds plan.window t) → AreSomeRowsIn ranges (valid table t) (at rows t)

-- the row fits the table
abbrev pub FitsTable : Catalogue → ℕ → Fragment → Type 0
FitsTable catalogue table row = HasTable catalogue table row.values

-- rows of a table that are enough for the plan, and fit the table
pub record IsReadTable (catalogue : Catalogue) (valid : ValidRows) (plan : Plan) (table : ℕ) (rows : RowList) : Type 0 where
  pub needed : HasNeededRows valid plan table rows.items
  pub fit : All (FitsTable catalogue table) rows.items

-- the same for each table
pub record AreReadTables (catalogue : Catalogue) (valid : ValidRows) (plan : Plan) (tables : List RowList) : Type 0 where
  pub many : length tables ≡ length catalogue.tables
  pub each : (table : ℕ) (d : RowList) → table < length tables → IsReadTable catalogue valid plan table (slice_index_or tables table d)

-- ---- rows that are read in pieces

-- a piece for each of the parts
abbrev pub pieces_for : TableKeys → List Part → List ReadPiece
pieces_for table_keys parts = map (λ part. record { table_keys = table_keys; part = part }) parts

-- parts that tile the window of the keys, and the pieces that come after theirs
pub record StartsWith (history : List Event) (n : ℕ) (window : Period) (table_keys : TableKeys) (pieces : List ReadPiece) : Type 0 where
  pub parts : List Part
  pub tile : TileWindow history n table_keys.keys window parts
  pub rest : List ReadPiece
  pub are : pieces ≡ pieces_for table_keys parts ++ rest

-- the pieces are parts that tile the window of the first range, then those of the next range, and so on
abbrev pub AreCut : List Event → ℕ → Period → ℕ → List KeyRange → List ReadPiece → Type 0
AreCut history n window table [] pieces = pieces ≡ []
AreCut history n window table (keys ∷ ranges) pieces =
    (first : StartsWith history n window (record { table = table; keys = keys }) pieces) × AreCut history n window table ranges first.rest

-- the keys of a table that the plan needs, in pieces
pub record IsCut (history : List Event) (n : ℕ) (plan : Plan) (table : ℕ) (pieces : TablePieces) : Type 0 where
  pub same : pieces.table ≡ table
  pub ranges : List KeyRange
  pub apart : AreApart ranges
  pub needed : HasPlanKeys table ranges plan
  pub cut : AreCut history n plan.window table ranges pieces.pieces.items

-- the same for each of `count` tables
pub record AreAllCut (history : List Event) (n : ℕ) (plan : Plan) (count : ℕ) (tables : List TablePieces) : Type 0 where
  pub many : length tables ≡ count
  pub each : (table : ℕ) (d : TablePieces) → table < length tables → IsCut history n plan table (slice_index_or tables table d)

-- the pieces of all tables, one table after the other
abbrev pub all_pieces : List TablePieces → List ReadPiece
all_pieces tables = flat_map (λ (table : TablePieces). table.pieces.items) tables

-- the piece has keys and versions of the window of its keys
abbrev pub IsPieceIn : List Event → ℕ → Period → ReadPiece → Type 0
IsPieceIn history n window piece = IsWithin (whole_window history n piece.table_keys.keys window) piece.part

-- the rows of a piece, as wide as its table
pub record IsRead (catalogue : Catalogue) (history : List Event) (n : ℕ) (window : Period) (piece : ReadPiece) (rows : RowList) : Type 0 where
  pub part : ArePart history n piece.table_keys.table piece.table_keys.keys window piece.part rows.items
  pub wide : AreOfWidth (width_of catalogue piece.table_keys.table) rows

-- each list has the rows of the piece at its place
abbrev pub AreRead : Catalogue → List Event → ℕ → Period → List ReadPiece → List RowList → Type 0
AreRead catalogue history n window [] [] = ⊤
AreRead catalogue history n window [] (rows ∷ lists) = ⊥
AreRead catalogue history n window (piece ∷ pieces) [] = ⊥
AreRead catalogue history n window (piece ∷ pieces) (rows ∷ lists) = IsRead catalogue history n window piece rows × AreRead catalogue history n window pieces lists

-- ---- a piece lies in its window in one way at most

pub piece_prop : (history : List Event) (n : ℕ) (window : Period) (piece : ReadPiece) → IsProp (IsPieceIn history n window piece)
piece_prop history n window piece = hlevel props
