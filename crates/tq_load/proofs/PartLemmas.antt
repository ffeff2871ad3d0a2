-- The rows of a part, and of a part that follows it.
use Rattle.std.proofs.Common.{◌≡◌, ◌≤◌, ◌<◌, ◌+◌, ◌-◌, ◌++◌, ◌∷◌, ◌==◌, ℕ, zero, suc, Bool, true, false, List, [], drop, take, map, length, refl, sym, ap, subst, ◌∙◌, arith}
use Rattle.std.specs.Prelude.{Ok, slice_range}
use Rattle.std.proofs.lemmas.List.{drop-drop, drop-take, map-append, take-append-drop, take-take, take_all}
use Rattle.csv.specs.Machine.{next_record}
use Rattle.csv.specs.Reading.{records_from, strip_bom}
use Rattle.csv.specs.declared.parser.State.TheVariants as st
use Rattle.tq_base.specs.declared.form.Form.{Form}
use Rattle.tq_base.specs.declared.catalogue.Column.{Column}
use Rattle.tq_base.specs.declared.fragment.Fragment.{Fragment}
use Rattle.tq_base.specs.RowLists.{RowList}
use Rattle.tq_event.specs.Projection.{projected_row, projected_rows}
use Rattle.tq_event.specs.Loading.{begins_with_bom, csv_records, entry_of}
use Rattle.tq_event.specs.Tables.{row_entry}
use Rattle.tq_load.specs.declared.part.Part.{Part}
use Rattle.tq_load.specs.Feeds.{ends_in_feed}
use Rattle.tq_load.specs.Parts.{AreRowsOfPart, AreRowsOfTable, EndsRecords, IsCut, PartParses, ParseRows, state_after}
use Rattle.tq_load.proofs.ChainLemmas.{ends_on, records_apart, no_bom}
use Rattle.tq_load.proofs.FeedLemmas.{last_behind}

-- ---- records

pub tell_both : (form : Form) (columns : List Column) (records more : List (List (List ℕ))) (rows others : List Fragment) → ParseRows form columns records rows → ParseRows form columns more others → ParseRows form columns (records ++ more) (rows ++ others)
tell_both form columns records more rows others first second table =
    map-append (entry_of form table columns) records more
    ∙ ap (λ l. l ++ map (entry_of form table columns) more) (first table)
    ∙ ap (λ l. map (λ row. Ok (row_entry table row)) rows ++ l) (second table)
    ∙ sym (map-append (λ row. Ok (row_entry table row)) rows others)

part_tells_both : (form : Form) (start : ℕ) (columns : List Column) (records more : List (List (List ℕ))) (rows others : List Fragment) → PartParses form start columns records rows → ParseRows form columns more others
    → PartParses form start columns (records ++ more) (rows ++ others)
part_tells_both form zero columns [] more rows others first second = absurd first
part_tells_both form zero columns (header ∷ records) more rows others first second = tell_both form columns records more rows others first second
part_tells_both form (suc start) columns records more rows others first second = tell_both form columns records more rows others first second

pub whole_told : (form : Form) (columns : List Column) (records : List (List (List ℕ))) (rows : List Fragment) → PartParses form 0 columns records rows → ParseRows form columns (drop 1 records) rows
whole_told form columns [] rows tells = absurd tells
whole_told form columns (header ∷ records) rows tells = tells

-- ---- bytes

pub mark_taken : (n : ℕ) (bytes : List ℕ) → begins_with_bom bytes ≡ false → begins_with_bom (take n bytes) ≡ false
mark_taken zero bytes none = refl
mark_taken (suc n) [] none = refl
mark_taken (suc zero) (a ∷ bytes) none = refl
mark_taken (suc (suc n)) (a ∷ []) none = refl
mark_taken (suc (suc zero)) (a ∷ b ∷ bytes) none = refl
mark_taken (suc (suc (suc n))) (a ∷ b ∷ []) none = refl
mark_taken (suc (suc (suc n))) (a ∷ b ∷ c ∷ bytes) none = none

pub ranges : (bytes : List ℕ) (start middle end : ℕ) → start ≤ middle → middle ≤ end → slice_range bytes start end ≡ slice_range bytes start middle ++ slice_range bytes middle end
ranges bytes start middle end first second =
    let n = middle - start in
    let m = end - middle in
    let whole : end - start ≡ n + m = omega (arith, first, second) in
    let place : start + n ≡ middle = omega (arith, first) in
    let rest = drop start bytes in
    ap (λ k. take k rest) whole
    ∙ sym (take-append-drop n (take (n + m) rest))
    ∙ ap (λ l. l ++ drop n (take (n + m) rest)) (take-take n (n + m) rest (omega arith))
    ∙ ap (λ l. take n rest ++ l) (drop-take n m rest ∙ ap (take m) (drop-drop n start bytes ∙ ap (λ k. drop k bytes) place))

pub taken : (bytes : List ℕ) (place : ℕ) → slice_range bytes 0 place ≡ take place bytes
taken bytes place = let many : place - 0 ≡ place = omega arith in rw many refl

-- ---- where records end

-- the concatenation of bytes after which records begin
ends_both : (bytes more : List ℕ) → EndsRecords bytes → begins_with_bom more ≡ false → EndsRecords more → EndsRecords (bytes ++ more)
ends_both bytes more first none second = ends_on bytes more first (λ e. none) ∙ ap (state_after st.StartRecord) (sym (no_bom more none)) ∙ second

-- a part that ends after a line feed is empty, or its last byte is that line feed
pub part_ends : (bytes : List ℕ) (start end : ℕ) → start ≤ end → (ends_in_feed (slice_range bytes start end) ≡ true → EndsRecords (slice_range bytes start end)) → ends_in_feed (take end bytes) ≡ true
    → EndsRecords (slice_range bytes start end)
unfolding strip_bom state_after
part_ends bytes start end upto ends feed = by (slice_range bytes start end) refl
  where
    both : take end bytes ≡ take start bytes ++ slice_range bytes start end
    both = sym (taken bytes end) ∙ ranges bytes 0 start end (omega arith) upto ∙ ap (λ l. l ++ slice_range bytes start end) (taken bytes start)

    by : (part : List ℕ) → slice_range bytes start end ≡ part → EndsRecords (slice_range bytes start end)
    by [] is = rw is refl
    by (b ∷ part) is =
        ends (ap ends_in_feed is ∙ ap (λ n. n == 10) (sym (last_behind (take start bytes) b part 0 0)) ∙ ap (λ l. ends_in_feed (take start bytes ++ l)) (sym is) ∙ ap ends_in_feed (sym both) ∙ feed)

records_parted : (bytes : List ℕ) (start place end : ℕ) → start ≤ place → place ≤ end → EndsRecords (slice_range bytes start place) → begins_with_bom (drop place bytes) ≡ false
    → csv_records (slice_range bytes start end) ≡ csv_records (slice_range bytes start place) ++ csv_records (slice_range bytes place end)
records_parted bytes start place end some upto ends none =
    ap csv_records (ranges bytes start place end some upto) ∙ records_apart (slice_range bytes start place) (slice_range bytes place end) ends (mark_taken (end - place) (drop place bytes) none)

no_records : csv_records [] ≡ []
unfolding records_from next_record strip_bom
no_records = refl

no_bytes : (bytes : List ℕ) (start : ℕ) → slice_range bytes start start ≡ []
no_bytes bytes start = let none : start - start ≡ 0 = omega arith in rw none refl

-- ---- parts

module _ (form : Form) (columns : List Column) (bytes : List ℕ) (first second both : Part) (rows others all : RowList) (next : first.end ≡ second.start)
    (starts : both.start ≡ first.start) (ends : both.end ≡ second.end) (wide : all.width ≡ rows.width) (are : all.items ≡ rows.items ++ others.items)
    (is_first : AreRowsOfPart form columns bytes first rows) (is_second : AreRowsOfPart form columns bytes second others) where
  told_upto : (start place : ℕ) → first.start ≡ start → second.start ≡ place → PartParses form start columns (csv_records (slice_range bytes start second.end)) (rows.items ++ others.items)
  told_upto start zero at begins =
      let over : first.end ≡ 0 = next ∙ begins in
      let none : first.start ≡ 0 = omega (arith, over, is_first.part_of.ordered) in
      let tells : PartParses form 0 columns (csv_records (slice_range bytes 0 0)) rows.items = rw (none, over) at is_first.parsed in
      let nothing : PartParses form 0 columns [] rows.items = subst (λ l. PartParses form 0 columns l rows.items) (ap csv_records (no_bytes bytes 0) ∙ no_records) tells in
      absurd nothing
  told_upto start (suc place) at begins = by (suc place - start) refl
    where
      over : first.end ≡ suc place
      over = next ∙ begins

      tells : PartParses form start columns (csv_records (slice_range bytes start (suc place))) rows.items
      tells = rw (at, over) at is_first.parsed

      others_told : ParseRows form columns (csv_records (slice_range bytes (suc place) second.end)) others.items
      others_told = rw begins at is_second.parsed

      cut : IsCut bytes (suc place)
      cut = subst (IsCut bytes) begins (is_second.part_of.begins (λ e. omega (arith, begins, e)))

      behind : ends_in_feed (take (suc place) bytes) ≡ true → EndsRecords (slice_range bytes start (suc place))
      behind = rw (at, over) at is_first.ends

      upto : suc place ≤ second.end
      upto = omega (arith, begins, is_second.part_of.ordered)

      by : (n : ℕ) → suc place - start ≡ n → PartParses form start columns (csv_records (slice_range bytes start second.end)) (rows.items ++ others.items)
      by zero e =
          let here : start ≡ suc place = omega (arith, e, at, over, is_first.part_of.ordered) in
          let nothing : ParseRows form columns (csv_records (slice_range bytes (suc place) (suc place))) rows.items = rw here at tells in
          let none : ParseRows form columns [] rows.items = subst (λ l. ParseRows form columns l rows.items) (ap csv_records (no_bytes bytes (suc place)) ∙ no_records) nothing in
          rw here (tell_both form columns [] (csv_records (slice_range bytes (suc place) second.end)) rows.items others.items none others_told)
      by (suc n) e =
          let some : start < suc place = omega (arith, e) in
          rw (records_parted bytes start (suc place) second.end (omega (arith, some)) upto (behind cut.feed) cut.no_bom)
          (part_tells_both form start columns (csv_records (slice_range bytes start (suc place))) (csv_records (slice_range bytes (suc place) second.end)) rows.items others.items tells others_told)

  ends_upto : (start place : ℕ) → first.start ≡ start → second.start ≡ place → ends_in_feed (take second.end bytes) ≡ true → EndsRecords (slice_range bytes start second.end)
  ends_upto start zero at begins feed =
      let none : start ≡ 0 = omega (arith, at, next, begins, is_first.part_of.ordered) in
      let all : EndsRecords (slice_range bytes 0 second.end) = rw begins at (is_second.ends feed) in
      rw none all
  ends_upto start (suc place) at begins feed =
      let over : first.end ≡ suc place = next ∙ begins in
      let cut : IsCut bytes (suc place) = subst (IsCut bytes) begins (is_second.part_of.begins (λ e. omega (arith, begins, e))) in
      let behind : ends_in_feed (take (suc place) bytes) ≡ true → EndsRecords (slice_range bytes start (suc place)) = rw (at, over) at is_first.ends in
      let later : EndsRecords (slice_range bytes (suc place) second.end) = rw begins at (is_second.ends feed) in
      rw (ranges bytes start (suc place) second.end (omega (arith, at, over, is_first.part_of.ordered)) (omega (arith, begins, is_second.part_of.ordered)))
      (ends_both (slice_range bytes start (suc place)) (slice_range bytes (suc place) second.end) (behind cut.feed) (mark_taken (second.end - suc place) (drop (suc place) bytes) cut.no_bom) later)

  pub both_read : AreRowsOfPart form columns bytes both all
  both_read = record {
    part_of = record {
      ordered = omega (arith, starts, ends, next, is_first.part_of.ordered, is_second.part_of.ordered);
      within = omega (arith, ends, is_second.part_of.within);
      begins = λ some. rw starts (is_first.part_of.begins (λ e. some (starts ∙ e)));
    };
    wide = wide ∙ is_first.wide;
    parsed = rw (starts, ends, are) (told_upto first.start second.start refl refl);
    ends = rw (starts, ends) (ends_upto first.start second.start refl refl);
  }

-- the rows of both parts together are the whole rows of both with only the wanted values kept
pub both_kept : (wanted : List Bool) (one other rows others all : RowList) → all.width ≡ rows.width → all.items ≡ rows.items ++ others.items → rows ≡ projected_rows wanted one → others ≡ projected_rows wanted other
    → all ≡ projected_rows wanted (record { width = one.width; items = one.items ++ other.items })
both_kept wanted one other rows others all wide are first second =
    let width : all.width ≡ one.width = wide ∙ ap (λ (r : RowList). r.width) first in
    let items : all.items ≡ map (projected_row wanted) (one.items ++ other.items) =
    are
    ∙ ap (λ (r : RowList). r.items ++ others.items) first
    ∙ ap (λ (r : RowList). map (projected_row wanted) one.items ++ r.items) second
    ∙ sym (map-append (projected_row wanted) one.items other.items) in
    λ i. record { width = width i; items = items i }

-- the rows of the part that is the whole file
pub whole_read : (form : Form) (columns : List Column) (bytes : List ℕ) (part : Part) (rows : RowList) → part.start ≡ 0 → part.end ≡ length bytes → AreRowsOfPart form columns bytes part rows → AreRowsOfTable form columns bytes rows
whole_read form columns bytes part rows first last read =
    let many : length bytes - 0 ≡ length bytes = omega arith in
    let all : slice_range bytes 0 (length bytes) ≡ bytes = ap (λ n. take n bytes) many ∙ take_all (length bytes) bytes (omega arith) in
    let tells : PartParses form 0 columns (csv_records (slice_range bytes 0 (length bytes))) rows.items = rw (first, last) at read.parsed in
    record { wide = read.wide; parsed = whole_told form columns (csv_records bytes) rows.items (subst (λ l. PartParses form 0 columns (csv_records l) rows.items) all tells) }
