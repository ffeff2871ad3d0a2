-- The rows of tables that are read in pieces.
use Rattle.std.proofs.Common.{◌≡◌, ℕ, zero, suc, ◌+◌, ◌*◌, ◌<◌, ◌≤◌, ◌⊎◌, Bool, true, false, cond, List, [], ◌∷◌, ◌++◌, append-nil, append_assoc, drop, get_or, inl, inr, length, take, refl, sym, ap, ◌∙◌, arith, subst}
use Rattle.std.specs.Prelude.{◌&&◌, All, Contains, IsTrue, T, int_le}
use Rattle.std.specs.Int.Signed.{le_z_yes}
use Rattle.std.proofs.Math.Nat.{add-mul}
use Rattle.std.specs.Ordering.{eq_by_cmp}
use Rattle.std.proofs.lemmas.Bool.Decides.{nat_tests}
use Rattle.std.proofs.lemmas.Grind.{flat_map-append}
use Rattle.std.proofs.lemmas.List.{get_or-map, get_or_default, length-map, take-append-drop}
use Rattle.std.proofs.lemmas.List.Concat.{flat_map-cons}
use Rattle.std.proofs.lemmas.List.Elements.{All-append, All-cons, All-head, All-map, All-nil, All-tail}
use Rattle.std.proofs.lemmas.List.Sums.{sum_by-cons}
use Rattle.tq_base.specs.declared.catalogue.Catalogue.{Catalogue}
use Rattle.tq_base.specs.declared.fragment.Fragment.{Fragment}
use Rattle.tq_base.specs.declared.key_range.KeyRange.{KeyRange}
use Rattle.tq_base.specs.declared.period.Period.{Period}
use Rattle.tq_base.specs.Copies.{copies-append, copies-sum_by, tally}
use Rattle.tq_base.specs.Fragments.{at, copies, occurrences}
use Rattle.tq_base.specs.KeyRanges.{key_of}
use Rattle.tq_base.specs.Periods.{holds}
use Rattle.tq_base.specs.RowLists.{RowList}
use Rattle.tq_base.specs.ValueOrder.{same_from_eq, values_cmp}
use Rattle.tq_event.specs.declared.event.Event.{Event}
use Rattle.tq_event.specs.History.{IsHistory, Row as AnyRow, rows_of, valid_at}
use Rattle.tq_event.specs.Recorded.{HasTable}
use Rattle.tq_scan.specs.declared.window.Part.{Part}
use Rattle.tq_store.specs.Rows.{whole_window, within_window}
use Rattle.tq_store.specs.Laws.{PartsAreValid, TileWindow}
use Rattle.tq_store.specs.Valid.{ArePart, AreParts, AreValidIn, HasKeyIn, RowAtInstant, fragment_at, row_at, width_of}
use Rattle.tq_plan.specs.declared.plans.Plan.{Plan}
use Rattle.tq_agg.specs.Grouping.{Row}
use Rattle.tq_table.specs.Merging.{all_rows, AreOfWidth}
use Rattle.tq_exec.specs.Answers.{as_of}
use Rattle.tq_exec.specs.declared.key_ranges.TableKeys.{TableKeys}
use Rattle.tq_exec.specs.declared.read_pieces.ReadPiece.{ReadPiece}
use Rattle.tq_exec.specs.declared.read_pieces.TablePieces.{TablePieces}
use Rattle.tq_exec.specs.Reads.{AreApart, AreCut, AreRead, AreSomeRowsIn, FitsTable, IsCut, IsPieceIn, IsRead, IsReadTable, all_pieces, is_key_in, pieces_for, ranges_with}
use Rattle.tq_exec.proofs.HeldRows.{rows_of_fit}

-- ---- rows of other keys have no copies

abbrev ones : Bool → ℕ
ones b = cond b 1 0

no_tally : (h c : Bool) → c ≡ false → let none : ℕ = 0 in none ≡ cond h (cond c 1 0) 0
no_tally true c e = ap ones (sym e)
no_tally false c e = refl

has_key : (keys : KeyRange) (v : Row) (rows : List Fragment) (t : ℕ) → All (λ (row : Fragment). HasKeyIn keys row.values) rows → 0 < copies rows v t → HasKeyIn keys v
has_key keys v [] t all some = absurd (omega (arith, some))
has_key keys v (row ∷ rows) t all some = by_first (has_key keys v rows t (All-tail (λ (r : Fragment). HasKeyIn keys r.values) row rows all)) (eq_by_cmp values_cmp row.values v) refl
  where
    by_first : (0 < copies rows v t → HasKeyIn keys v) → (b : Bool) → eq_by_cmp values_cmp row.values v ≡ b → HasKeyIn keys v
    by_first later true e = subst (HasKeyIn keys) (same_from_eq row.values v e) (All-head (λ (r : Fragment). HasKeyIn keys r.values) row rows all)
    by_first later false e = later (omega (arith, some, copies-sum_by (row ∷ rows) v t, copies-sum_by rows v t, sum_by-cons (tally v t) row rows, no_tally (holds row.period t) (eq_by_cmp values_cmp row.values v) e))

-- ---- rows of a range of keys

-- the key of a row is in the range, or it is not
key_cases : (v : Row) (keys : KeyRange) → (HasKeyIn keys v × (is_key_in (key_of v) keys ≡ 1)) ⊎ ((HasKeyIn keys v → ⊥) × (is_key_in (key_of v) keys ≡ 0))
key_cases v keys = by (int_le keys.low (key_of v)) (int_le (key_of v) keys.high) refl refl
  where
    by : (a b : Bool) → int_le keys.low (key_of v) ≡ a → int_le (key_of v) keys.high ≡ b → (HasKeyIn keys v × (is_key_in (key_of v) keys ≡ 1)) ⊎ ((HasKeyIn keys v → ⊥) × (is_key_in (key_of v) keys ≡ 0))
    by true true low high = inl (record { low = le_z_yes (subst (λ b. T b) (sym low) tt); high = le_z_yes (subst (λ b. T b) (sym high) tt) }, λ i. cond (low i && high i) 1 0)
    by true false low high = inr (λ has. absurd (subst (λ b. T b) high has.high.le), λ i. cond (low i && high i) 1 0)
    by false b low high = inr (λ has. absurd (subst (λ b. T b) low has.low.le), λ i. cond (low i && int_le (key_of v) keys.high) 1 0)

no_times : (n : ℕ) → 0 ≡ 0 * n
no_times n = omega arith

module _ (history : List Event) (n table : ℕ) (window : Period) (keys : KeyRange) (rows : List Fragment) (valid : AreValidIn history n table keys window rows) (all : All (λ (row : Fragment). HasKeyIn keys row.values) rows) where
  -- a row with a key of the range is valid as often, and no other one is
  rows_in_range : (t : ℕ) → IsTrue (holds window t) → (v : Row) → copies rows v t ≡ is_key_in (key_of v) keys * occurrences (valid_at history n table t) v
  rows_in_range t inside v = elim (key_cases v keys) [
    | inl has ↦ valid t v has.0 inside ∙ sym (once (occurrences (valid_at history n table t) v)) ∙ ap (λ k. k * occurrences (valid_at history n table t) v) (sym has.1)
    | inr lacks ↦ by_count (copies rows v t) refl lacks.0 ∙ no_times (occurrences (valid_at history n table t) v) ∙ ap (λ k. k * occurrences (valid_at history n table t) v) (sym lacks.1)
  ]
    where
      once : (k : ℕ) → 1 * k ≡ k
      once k = omega arith

      by_count : (k : ℕ) → copies rows v t ≡ k → (HasKeyIn keys v → ⊥) → copies rows v t ≡ 0
      by_count zero e lacks = e
      by_count (suc k) e lacks = absurd (lacks (has_key keys v rows t all (omega (arith, e))))

-- ---- rows of parts fit their table

starts_inside : (window : Period) → IsTrue (holds window window.start)
starts_inside window = grind (arith, nat_tests, window.ordered)

module _ (catalogue : Catalogue) (history : List Event) (n table : ℕ) (range : KeyRange) (window : Period) (is : IsHistory catalogue history) where
  row_fits : (row : AnyRow) → Contains (rows_of history n table) row → HasTable catalogue table row.values
  row_fits row stands =
      let (k, less, same) = stands in
      subst (λ (r : AnyRow). HasTable catalogue table r.values) same (rows_of_fit catalogue history n table is k row less)

  part_fits : (part : Part) (rows : List Fragment) → ArePart history n table range window part rows → All (FitsTable catalogue table) rows
  part_fits part rows are k d less =
      let t = window.start in
      let here = are.same t (starts_inside window) in
      let many : length rows ≡ length are.rows = sym (length-map rows (fragment_at t)) ∙ ap length here ∙ length-map are.rows (row_at t) in
      let within : k < length are.rows = omega (arith, less, many) in
      let e : AnyRow = record { number = 0; values = []; from = 0; to = 0 } in
      let found : AnyRow = get_or are.rows k e in
      let none : RowAtInstant = record { values = []; valid = false } in
      let values : (get_or rows k d).values ≡ found.values =
      ap (λ (r : RowAtInstant). r.values) (sym (get_or-map (fragment_at t) rows k d none less) ∙ ap (λ l. get_or l k none) here ∙ get_or-map (row_at t) are.rows k e none within) in
      let known = ((are.are.just found).0 (k, within, get_or_default are.rows k found e within)).known in
      subst (HasTable catalogue table) (sym values) (row_fits found known)

  pub parts_fit : (parts : List Part) (lists : List RowList) → AreParts history n table range window parts lists → All (FitsTable catalogue table) (all_rows lists)
  parts_fit [] [] are = All-nil (FitsTable catalogue table)
  parts_fit [] (rows ∷ lists) are = absurd are
  parts_fit (part ∷ parts) [] are = absurd are
  parts_fit (part ∷ parts) (rows ∷ lists) are =
      subst (All (FitsTable catalogue table)) (sym (flat_map-cons (λ (r : RowList). r.items) rows lists))
      (All-append (FitsTable catalogue table) rows.items (all_rows lists) (part_fits part rows.items are.0) (parts_fit parts lists are.1))

-- ---- lists that have the rows of pieces

module _ (c : Catalogue) (es : List Event) (n : ℕ) (window : Period) where
  -- the list at each place has the rows of the piece there
  pub read_in_order : (pieces : List ReadPiece) (lists : List RowList) → length lists ≡ length pieces
      → ((i : ℕ) (d : RowList) → i < length pieces → (p : ReadPiece) → IsRead c es n window (get_or pieces i p) (get_or lists i d)) → AreRead c es n window pieces lists
  read_in_order [] [] len each = tt
  read_in_order [] (rows ∷ lists) len each = absurd (omega (arith, len))
  read_in_order (piece ∷ pieces) [] len each = absurd (omega (arith, len))
  read_in_order (piece ∷ pieces) (rows ∷ lists) len each =
      (each 0 rows (omega arith) piece, read_in_order pieces lists (omega (arith, len)) (λ i d less p. each (suc i) d (omega (arith, less)) p))

  -- those of the first pieces, and those of the others
  pub read_long : (first rest : List ReadPiece) (lists : List RowList) → AreRead c es n window (first ++ rest) lists → length first ≤ length lists
  read_long [] rest lists read = omega arith
  read_long (piece ∷ first) rest [] read = absurd read
  read_long (piece ∷ first) rest (rows ∷ lists) read = let later = read_long first rest lists read.1 in omega (arith, later)

  pub read_first : (first rest : List ReadPiece) (lists : List RowList) → AreRead c es n window (first ++ rest) lists → AreRead c es n window first (take (length first) lists)
  read_first [] rest lists read = tt
  read_first (piece ∷ first) rest [] read = absurd read
  read_first (piece ∷ first) rest (rows ∷ lists) read = (read.0, read_first first rest lists read.1)

  pub read_rest : (first rest : List ReadPiece) (lists : List RowList) → AreRead c es n window (first ++ rest) lists → AreRead c es n window rest (drop (length first) lists)
  read_rest [] rest lists read = read
  read_rest (piece ∷ first) rest [] read = absurd read
  read_rest (piece ∷ first) rest (rows ∷ lists) read = read_rest first rest lists read.1

  -- those of the parts of one range
  module _ (table_keys : TableKeys) where
    pub parts_read : (parts : List Part) (lists : List RowList) → AreRead c es n window (pieces_for table_keys parts) lists → AreParts es n table_keys.table table_keys.keys window parts lists
    parts_read [] [] read = tt
    parts_read [] (rows ∷ lists) read = absurd read
    parts_read (part ∷ parts) [] read = absurd read
    parts_read (part ∷ parts) (rows ∷ lists) read = (read.0.part, parts_read parts lists read.1)

    pub parts_wide : (parts : List Part) (lists : List RowList) → AreRead c es n window (pieces_for table_keys parts) lists → All (AreOfWidth (width_of c table_keys.table)) lists
    parts_wide [] [] read = All-nil (AreOfWidth (width_of c table_keys.table))
    parts_wide [] (rows ∷ lists) read = absurd read
    parts_wide (part ∷ parts) [] read = absurd read
    parts_wide (part ∷ parts) (rows ∷ lists) read = All-cons (AreOfWidth (width_of c table_keys.table)) rows lists read.0.wide (parts_wide parts lists read.1)

  -- the rows of the piece at a place, whose keys and part were read one by one
  pub read_at : (pieces : List ReadPiece) (i : ℕ) (one other d : ReadPiece) (rows : RowList) → i < length pieces
      → ArePart es n (get_or pieces i one).table_keys.table (get_or pieces i one).table_keys.keys window (get_or pieces i other).part rows.items → AreOfWidth (width_of c (get_or pieces i one).table_keys.table) rows
      → IsRead c es n window (get_or pieces i d) rows
  read_at pieces i one other d rows less are wide =
      let same = get_or_default pieces i one d less in
      let part = get_or_default pieces i other one less in
      subst (λ p. IsRead c es n window p rows) same
      (record { part = subst (λ (p : ReadPiece). ArePart es n (get_or pieces i one).table_keys.table (get_or pieces i one).table_keys.keys window p.part rows.items) part are; wide = wide })

  -- ---- pieces of tables that are cut

  pieces_of_range_in : (table_keys : TableKeys) (parts : List Part) → TileWindow es n table_keys.keys window parts → All (IsPieceIn es n window) (pieces_for table_keys parts)
  pieces_of_range_in table_keys parts tile =
      All-map (IsPieceIn es n window) (λ (part : Part). record { table_keys = table_keys; part = part }) parts
      (λ k d less. within_window tile.window (whole_window es n table_keys.keys window) (get_or parts k d) tile.whole (tile.tiles.inside k d less))

  pub pieces_of_table_in : (table : ℕ) (ranges : List KeyRange) (pieces : List ReadPiece) → AreCut es n window table ranges pieces → All (IsPieceIn es n window) pieces
  pieces_of_table_in table [] pieces cut = subst (All (IsPieceIn es n window)) (sym cut) (All-nil (IsPieceIn es n window))
  pieces_of_table_in table (keys ∷ ranges) pieces cut =
      let table_keys : TableKeys = record { table = table; keys = keys } in
      let first = cut.0 in
      subst (All (IsPieceIn es n window)) (sym first.are)
      (All-append (IsPieceIn es n window) (pieces_for table_keys first.parts) first.rest (pieces_of_range_in table_keys first.parts first.tile) (pieces_of_table_in table ranges first.rest cut.1))

  -- the pieces of some ranges, and those of one more
  pub cut_more : (table : ℕ) (ranges : List KeyRange) (keys : KeyRange) (pieces : List ReadPiece) (parts : List Part) → AreCut es n window table ranges pieces → TileWindow es n keys window parts
      → AreCut es n window table (ranges ++ keys ∷ []) (pieces ++ pieces_for (record { table = table; keys = keys }) parts)
  cut_more table [] keys pieces parts cut tile =
      let mine : List ReadPiece = pieces_for (record { table = table; keys = keys }) parts in
      (record { parts = parts; tile = tile; rest = []; are = ap (λ l. l ++ mine) cut ∙ sym (append-nil mine) }, refl)
  cut_more table (first ∷ ranges) keys pieces parts cut tile =
      let mine : List ReadPiece = pieces_for (record { table = table; keys = keys }) parts in
      let one = cut.0 in (
        record {
          parts = one.parts;
          tile = one.tile;
          rest = one.rest ++ mine;
          are = ap (λ l. l ++ mine) one.are ∙ append_assoc (pieces_for (record { table = table; keys = first }) one.parts) one.rest mine;
        },
        cut_more table ranges keys one.rest parts cut.1 tile,
      )

  abbrev ArePiecesIn : TablePieces → Type 0
  ArePiecesIn table = All (IsPieceIn es n window) table.pieces.items

  pub pieces_in : (tables : List TablePieces) → All ArePiecesIn tables → All (IsPieceIn es n window) (all_pieces tables)
  pieces_in [] inside = All-nil (IsPieceIn es n window)
  pieces_in (table ∷ tables) inside =
      subst (All (IsPieceIn es n window)) (sym (flat_map-cons (λ (t : TablePieces). t.pieces.items) table tables))
      (All-append (IsPieceIn es n window) table.pieces.items (all_pieces tables) (All-head ArePiecesIn table tables inside) (pieces_in tables (All-tail ArePiecesIn table tables inside)))

-- the pieces from a table on
pieces_from : (tables : List TablePieces) (i : ℕ) (d : TablePieces) → i < length tables → all_pieces (drop i tables) ≡ (get_or tables i d).pieces.items ++ all_pieces (drop (suc i) tables)
pieces_from [] i d less = absurd (omega (arith, less))
pieces_from (table ∷ tables) zero d less = flat_map-cons (λ (t : TablePieces). t.pieces.items) table tables
pieces_from (table ∷ tables) (suc i) d less = pieces_from tables i d (omega (arith, less))

-- the lists of one table, if those of the tables from it on are left
module _ (c : Catalogue) (es : List Event) (n : ℕ) (window : Period) (tables : List TablePieces) (i : ℕ) (d : TablePieces) (less : i < length tables)
    (lists : List RowList) (read : AreRead c es n window (all_pieces (drop i tables)) lists) where
  abbrev own : List ReadPiece
  own = (get_or tables i d).pieces.items

  here : AreRead c es n window (own ++ all_pieces (drop (i + 1) tables)) lists
  here =
      let next : suc i ≡ i + 1 = omega arith in
      subst (λ ps. AreRead c es n window ps lists) (pieces_from tables i d less ∙ ap (λ k. own ++ all_pieces (drop k tables)) next) read

  pub lists_long : length (get_or tables i d).pieces.items ≤ length lists
  lists_long = read_long c es n window own (all_pieces (drop (i + 1) tables)) lists here

  pub table_read : AreRead c es n window (get_or tables i d).pieces.items (take (length (get_or tables i d).pieces.items) lists)
  table_read = read_first c es n window own (all_pieces (drop (i + 1) tables)) lists here

  pub later_read : AreRead c es n window (all_pieces (drop (i + 1) tables)) (drop (length (get_or tables i d).pieces.items) lists)
  later_read = read_rest c es n window own (all_pieces (drop (i + 1) tables)) lists here

-- ---- the rows of a table

-- the rows of no pieces
none_read : (c : Catalogue) (es : List Event) (n : ℕ) (window : Period) (lists : List RowList) → AreRead c es n window [] lists → all_rows lists ≡ []
none_read c es n window [] read = refl
none_read c es n window (rows ∷ lists) read = absurd read

-- the lists of some pieces, and the others
all_rows_split : (k : ℕ) (lists : List RowList) → all_rows lists ≡ all_rows (take k lists) ++ all_rows (drop k lists)
all_rows_split k lists = ap all_rows (sym (take-append-drop k lists)) ∙ flat_map-append (λ (rows : RowList). rows.items) (take k lists) (drop k lists)

module _ (c : Catalogue) (es : List Event) (n : ℕ) (window : Period) (table : ℕ) (history : IsHistory c es) (few : length es ≤ 16777216) (within : n ≤ length es) (law : PartsAreValid) where
  -- the lists of the first range, and those of the others
  module _ (keys : KeyRange) (ranges : List KeyRange) (pieces : List ReadPiece) (lists : List RowList) (cut : AreCut es n window table (keys ∷ ranges) pieces) (read : AreRead c es n window pieces lists) where
    abbrev range : TableKeys
    range = record { table = table; keys = keys }

    in_order : AreRead c es n window (pieces_for range cut.0.parts ++ cut.0.rest) lists
    in_order = subst (λ ps. AreRead c es n window ps lists) cut.0.are read

    abbrev many : ℕ
    many = length (pieces_for range cut.0.parts)

    first_read : AreRead c es n window (pieces_for range cut.0.parts) (take many lists)
    first_read = read_first c es n window (pieces_for range cut.0.parts) cut.0.rest lists in_order

    others_read : AreRead c es n window cut.0.rest (drop many lists)
    others_read = read_rest c es n window (pieces_for range cut.0.parts) cut.0.rest lists in_order

    first_parts : AreParts es n table keys window cut.0.parts (take many lists)
    first_parts = parts_read c es n window range cut.0.parts (take many lists) first_read

    first_copies : (t : ℕ) → IsTrue (holds window t) → (v : Row) → copies (all_rows (take many lists)) v t ≡ is_key_in (key_of v) keys * occurrences (valid_at es n table t) v
    first_copies =
        let valid = law c es n table keys window cut.0.parts (take many lists) history few within cut.0.tile first_parts in
        rows_in_range es n table window keys (all_rows (take many lists)) valid.0 valid.1

  -- a row is valid as often as it is in the table, in each range with its key
  copies_in_ranges : (ranges : List KeyRange) (pieces : List ReadPiece) (lists : List RowList) → AreCut es n window table ranges pieces → AreRead c es n window pieces lists
      → (t : ℕ) → IsTrue (holds window t) → (v : Row) → copies (all_rows lists) v t ≡ ranges_with ranges (key_of v) * occurrences (valid_at es n table t) v
  copies_in_ranges [] pieces lists cut read t inside v =
      ap (λ rows. copies rows v t) (none_read c es n window lists (subst (λ ps. AreRead c es n window ps lists) cut read)) ∙ no_times (occurrences (valid_at es n table t) v)
  copies_in_ranges (keys ∷ ranges) pieces lists cut read t inside v =
      let k : ℕ = many keys ranges pieces lists cut read in
      let valid : ℕ = occurrences (valid_at es n table t) v in
      ap (λ rows. copies rows v t) (all_rows_split k lists)
      ∙ copies-append (all_rows (take k lists)) (all_rows (drop k lists)) v t
      ∙ ap (λ m. m + copies (all_rows (drop k lists)) v t) (first_copies keys ranges pieces lists cut read t inside v)
      ∙ ap (λ m. is_key_in (key_of v) keys * valid + m) (copies_in_ranges ranges cut.0.rest (drop k lists) cut.1 (others_read keys ranges pieces lists cut read) t inside v)
      ∙ sym (add-mul (is_key_in (key_of v) keys) (ranges_with ranges (key_of v)) valid)
      ∙ ap (λ m. m * valid) (sym (sum_by-cons (is_key_in (key_of v)) keys ranges))

  -- if the ranges are apart, each row with a key of one of them is there as often as it is valid
  some_rows : (ranges : List KeyRange) (pieces : List ReadPiece) (lists : List RowList) (rows : List Fragment) → AreApart ranges → AreCut es n window table ranges pieces → AreRead c es n window pieces lists → rows ≡ all_rows lists
      → (t : ℕ) → IsTrue (holds window t) → AreSomeRowsIn ranges (valid_at es n table t) (at rows t)
  some_rows ranges pieces lists rows apart cut read are t inside = record {
    same = λ v has. by_number v (ranges_with ranges (key_of v)) refl has (apart (key_of v));
    at_most = λ v. at_most v (ranges_with ranges (key_of v)) refl (apart (key_of v));
  }
    where
      counted : (v : Row) (k : ℕ) → ranges_with ranges (key_of v) ≡ k → copies rows v t ≡ k * occurrences (valid_at es n table t) v
      counted v k e = ap (λ l. copies l v t) are ∙ copies_in_ranges ranges pieces lists cut read t inside v ∙ ap (λ m. m * occurrences (valid_at es n table t) v) e

      by_number : (v : Row) (k : ℕ) → ranges_with ranges (key_of v) ≡ k → 1 ≤ ranges_with ranges (key_of v) → ranges_with ranges (key_of v) ≤ 1 → copies rows v t ≡ occurrences (valid_at es n table t) v
      by_number v zero e some one = absurd (omega (arith, e, some))
      by_number v (suc zero) e some one = let all = counted v 1 e in omega (arith, all)
      by_number v (suc (suc k)) e some one = absurd (omega (arith, e, one))

      at_most : (v : Row) (k : ℕ) → ranges_with ranges (key_of v) ≡ k → ranges_with ranges (key_of v) ≤ 1 → copies rows v t ≤ occurrences (valid_at es n table t) v
      at_most v zero e one = let none = counted v 0 e in omega (arith, none)
      at_most v (suc zero) e one = let all = counted v 1 e in omega (arith, all)
      at_most v (suc (suc k)) e one = absurd (omega (arith, e, one))

  rows_fit : (ranges : List KeyRange) (pieces : List ReadPiece) (lists : List RowList) → AreCut es n window table ranges pieces → AreRead c es n window pieces lists → All (FitsTable c table) (all_rows lists)
  rows_fit [] pieces lists cut read = subst (All (FitsTable c table)) (sym (none_read c es n window lists (subst (λ ps. AreRead c es n window ps lists) cut read))) (All-nil (FitsTable c table))
  rows_fit (keys ∷ ranges) pieces lists cut read =
      let k : ℕ = many keys ranges pieces lists cut read in
      subst (All (FitsTable c table)) (sym (all_rows_split k lists))
      (All-append (FitsTable c table) (all_rows (take k lists)) (all_rows (drop k lists))
      (parts_fit c es n table keys window history cut.0.parts (take k lists) (first_parts keys ranges pieces lists cut read))
      (rows_fit ranges cut.0.rest (drop k lists) cut.1 (others_read keys ranges pieces lists cut read)))

  -- the lists are as wide as the table
  pub table_is_wide : (ranges : List KeyRange) (pieces : List ReadPiece) (lists : List RowList) → AreCut es n window table ranges pieces → AreRead c es n window pieces lists → All (AreOfWidth (width_of c table)) lists
  table_is_wide [] pieces lists cut read = no_lists lists (subst (λ ps. AreRead c es n window ps lists) cut read)
    where
      no_lists : (lists : List RowList) → AreRead c es n window [] lists → All (AreOfWidth (width_of c table)) lists
      no_lists [] read = All-nil (AreOfWidth (width_of c table))
      no_lists (rows ∷ lists) read = absurd read
  table_is_wide (keys ∷ ranges) pieces lists cut read =
      let k : ℕ = many keys ranges pieces lists cut read in
      subst (All (AreOfWidth (width_of c table))) (take-append-drop k lists)
      (All-append (AreOfWidth (width_of c table)) (take k lists) (drop k lists)
      (parts_wide c es n window (record { table = table; keys = keys }) cut.0.parts (take k lists) (first_read keys ranges pieces lists cut read))
      (table_is_wide ranges cut.0.rest (drop k lists) cut.1 (others_read keys ranges pieces lists cut read)))

module _ (c : Catalogue) (es : List Event) (n : ℕ) (plan : Plan) (history : IsHistory c es) (few : length es ≤ 16777216) (within : n ≤ length es) (law : PartsAreValid) where
  -- the rows of the pieces of a table, one after the other, are those that the plan needs, and fit the table
  pub table_is_read : (table : TablePieces) (lists : List RowList) (rows : RowList) → IsCut es n plan table.table table → AreRead c es n plan.window table.pieces.items lists → rows.items ≡ all_rows lists
      → IsReadTable c (as_of es n) plan table.table rows
  table_is_read table lists rows cut read are = record {
    needed = record {
      ranges = cut.ranges;
      needed = cut.needed;
      same = some_rows c es n plan.window table.table history few within law cut.ranges table.pieces.items lists rows.items cut.apart cut.cut read are;
    };
    fit = subst (All (FitsTable c table.table)) (sym are) (rows_fit c es n plan.window table.table history few within law cut.ranges table.pieces.items lists cut.cut read);
  }
