-- Rows of one key that overlap, and gaps between rows of one key. A row's key is the value in its first column. Of two
-- rows of one key, the earlier one starts first; if both start at the same instant, it comes first in the table. This
-- project's own.
use Rattle.std.specs.Prelude.{ℕ, ◌+◌, ◌==◌, ◌&&◌, ◌||◌, Bool, not, nat_le, nat_lt, if◌then◌else◌, List, [], ◌∷◌, Option, Some, None, IsPermutation, IsSorted}
use Rattle.std.specs.List.{count_by, filter, filter_map, fold, list_any}
use Rattle.std.specs.Ordering.{nat_cmp, on, then_cmp}
use Rattle.std.specs.declared.cmp.Ordering.{Ordering}
use Rattle.tq_base.specs.NormalizedKeys.{normalized_key}
use Rattle.tq_base.specs.RowValues.{value_at}
use Rattle.tq_base.specs.declared.fragment.Fragment.{Fragment}
use Rattle.tq_check.specs.declared.findings.Finding.{Finding}
use Rattle.tq_check.specs.declared.findings.Finding.TheVariants.{Overlap, Gap}
use Rattle.tq_check.specs.declared.findings.KeyPair.{KeyPair}
use Rattle.tq_check.specs.declared.key_rows.KeyedRow.{KeyedRow}

-- the row at a place of the table. The number of its key is `normalized_key` of the value in its first column:
-- different for different numbers of 64 signed bits, and ordered as they are.
abbrev pub keyed : Fragment → ℕ → KeyedRow
keyed row place = record { key = normalized_key (value_at row.values 0); start = row.period.start; end = row.period.end; place = place }

-- the rows from a place of the table on
unfoldable pub keyed_from : ℕ → List Fragment → List KeyedRow
keyed_from place [] = []
keyed_from place (row ∷ rows) = keyed row place ∷ keyed_from (place + 1) rows

-- the rows of a table
abbrev pub keyed_rows : List Fragment → List KeyedRow
keyed_rows rows = keyed_from 0 rows

-- whether the rows have the same key and the first is the earlier one
abbrev pub is_earlier : KeyedRow → KeyedRow → Bool
is_earlier row other = (row.key == other.key) && (nat_lt row.start other.start || ((row.start == other.start) && nat_lt row.place other.place))

-- whether an earlier row of its key is valid at the start of the row
abbrev pub is_overlapping : List KeyedRow → KeyedRow → Bool
is_overlapping rows row = list_any (λ other. is_earlier other row && nat_lt row.start other.end) rows

-- whether the row ends a gap: its key has earlier rows, and each of them ends before the row starts
abbrev pub is_after_gap : List KeyedRow → KeyedRow → Bool
is_after_gap rows row =
    list_any (λ other. is_earlier other row) rows && not (list_any (λ other. is_earlier other row && nat_le row.start other.end) rows)

abbrev pub is_finding : Finding → List KeyedRow → KeyedRow → Bool
is_finding Overlap rows row = is_overlapping rows row
is_finding Gap rows row = is_after_gap rows row

-- how many rows of a table start while an earlier row of their key is valid; how many gaps there are between the rows
-- of a key, for all keys
abbrev pub count_of : Finding → List Fragment → ℕ
count_of finding rows = count_by (is_finding finding (keyed_rows rows)) (keyed_rows rows)

-- ---- which rows are listed

-- by key, then by start, then by place
abbrev pub key_order_cmp : KeyedRow → KeyedRow → Ordering
key_order_cmp =
    then_cmp (then_cmp (on (λ (row : KeyedRow). row.key) nat_cmp) (on (λ (row : KeyedRow). row.start) nat_cmp))
    (on (λ (row : KeyedRow). row.place) nat_cmp)

-- the rows of the table in this order
pub record IsKeyOrder (rows : List Fragment) (order : List KeyedRow) : Type 0 where
  pub permuted : IsPermutation (keyed_rows rows) order
  pub sorted : IsSorted key_order_cmp order

-- the one that ends later; the first if both end together
abbrev pub further : Option KeyedRow → KeyedRow → KeyedRow
further None row = row
further (Some earlier) row = if nat_le row.end earlier.end then earlier else row

-- the same, so that the rows of a list can be taken one by one
abbrev pub later_end : Option KeyedRow → KeyedRow → Option KeyedRow
later_end earlier row = Some (further earlier row)

-- of the earlier rows of its key the one that ends last, if there are any
abbrev pub furthest : List KeyedRow → KeyedRow → Option KeyedRow
furthest rows row = fold later_end None (filter (λ other. is_earlier other row) rows)

-- the row starts before the earlier one ends; it starts after the earlier one ended
abbrev pub is_found : Finding → KeyPair → Bool
is_found Overlap pair = nat_lt pair.row.start pair.earlier.end
is_found Gap pair = nat_lt pair.earlier.end pair.row.start

-- the row and the earlier one, if they are what is looked for
abbrev pub found_pair : Finding → Option KeyedRow → KeyedRow → Option KeyPair
found_pair finding None row = None
found_pair finding (Some earlier) row =
    if is_found finding (record { earlier = earlier; row = row }) then Some (record { earlier = earlier; row = row }) else None

-- the rows that overlap, or that end a gap, in this order, each with the earlier row of its key that ends last
abbrev pub pairs_of : Finding → List KeyedRow → List KeyPair
pairs_of finding order = filter_map (λ row. found_pair finding (furthest order row) row) order
