-- Equal rows in the order of their starts: which of them overlap or meet, by the greatest end so far.
use Rattle.std.proofs.Common.{◌≡◌, ◌∙◌, ℕ, suc, ◌+◌, ◌<◌, ◌≤◌, max, Bool, true, false, cond, not, ◌&&◌, ◌||◌, List, [], ◌∷◌, ap, refl, sym, arith, get_or}
use Rattle.std.specs.Prelude.{All, AllPairs, ◌==◌, nat_lt}
use Rattle.std.specs.List.{list_any}
use Rattle.std.specs.Ordering.{eq_by_cmp}
use Rattle.std.proofs.lemmas.Bool.Decides.{nat_tests}
use Rattle.std.proofs.lemmas.List.Elements.{All-cons, All-head, All-nil, All-tail}
use Rattle.std.proofs.lemmas.List.Folds.{list_any_none}
use Rattle.tq_base.specs.declared.fragment.Fragment.{Fragment}
use Rattle.tq_base.specs.declared.value.Value.{Value}
use Rattle.tq_base.specs.ValueOrder.{values_cmp, eq_from_same}
use Rattle.tq_check.specs.EqualRows.{count_rows, covers, ends_at, is_meeting, is_overlapping, meeting, overlapping, starts_at}
use Rattle.tq_check.specs.Runs.{adjacent_starts, overlapping_starts}

-- each row has these values
abbrev pub HaveValues : List Value → List Fragment → Type 0
HaveValues v rows = All (λ (row : Fragment). row.values ≡ v) rows

-- each row starts at the instant or earlier
abbrev StartBy : ℕ → List Fragment → Type 0
StartBy t rows = All (λ (row : Fragment). row.period.start ≤ t) rows

-- the rows of a run that were handled, those that are still to come, and the greatest end of those that were handled
record SeenRows (run : List Fragment) (v : List Value) (above later : List Fragment) (reach : ℕ) : Type 0 where
  pub split : (p : Fragment → Bool) → list_any p run ≡ (list_any p above || list_any p later)
  pub above_values : HaveValues v above
  pub later_values : HaveValues v later
  pub before : All (λ (row : Fragment). StartBy row.period.start above) later
  pub ascends : AllPairs (λ (a b : Fragment). a.period.start ≤ b.period.start) later
  pub reaches : (t : ℕ) → list_any (λ (row : Fragment). nat_lt t row.period.end) above ≡ nat_lt t reach
  pub ends : (t : ℕ) → nat_lt t reach ≡ false → list_any (λ (row : Fragment). row.period.end == t) above ≡ ((t == reach) && nat_lt 0 reach)

-- ---- tests

shuffle : (a b c d : Bool) → ((a || b) || (c || d)) ≡ ((a || c) || (b || d))
shuffle true b c d = refl
shuffle false true true d = refl
shuffle false true false d = refl
shuffle false false true d = refl
shuffle false false false d = refl

moved : (a b c : Bool) → (a || (b || c)) ≡ ((b || a) || c)
moved true true c = refl
moved true false c = refl
moved false true c = refl
moved false false c = refl

or_false : (b : Bool) → (b || false) ≡ b
or_false true = refl
or_false false = refl

and_false : (b : Bool) → (b && false) ≡ false
and_false true = refl
and_false false = refl

late : {t : ℕ} (z : Fragment) → t ≤ z.period.start → nat_lt z.period.start t ≡ false
late {t} z least = grind (arith, nat_tests, least)

-- a row that starts at the instant or earlier covers it or starts at it exactly if it ends later
seen_one : (v : List Value) (t : ℕ) (row : Fragment) → row.values ≡ v → row.period.start ≤ t → (covers v t row || starts_at v t row) ≡ nat_lt t row.period.end
seen_one v t row same by =
    let values : eq_by_cmp values_cmp v row.values ≡ true = eq_from_same v row.values (sym same) in
    let ordered : row.period.start < row.period.end = row.period.ordered in
    (λ i. (values i && (nat_lt row.period.start t && nat_lt t row.period.end)) || (values i && (row.period.start == t)))
    ∙ grind (arith, nat_tests, by, ordered)

seen_all : (v : List Value) (t : ℕ) (above : List Fragment) → HaveValues v above → StartBy t above
    → (list_any (covers v t) above || list_any (starts_at v t) above) ≡ list_any (λ (row : Fragment). nat_lt t row.period.end) above
seen_all v t [] values by = refl
seen_all v t (row ∷ above) values by =
    let Is : Fragment → Type 0 = λ (z : Fragment). z.values ≡ v in
    let By : Fragment → Type 0 = λ (z : Fragment). z.period.start ≤ t in
    let one = seen_one v t row (All-head Is row above values) (All-head By row above by) in
    let rest = seen_all v t above (All-tail Is row above values) (All-tail By row above by) in
    shuffle (covers v t row) (list_any (covers v t) above) (starts_at v t row) (list_any (starts_at v t) above) ∙ (λ i. one i || rest i)

-- whether a row with these values ends at the instant
ended_all : (v : List Value) (t : ℕ) (above : List Fragment) → HaveValues v above → list_any (ends_at v t) above ≡ list_any (λ (row : Fragment). row.period.end == t) above
ended_all v t [] values = refl
ended_all v t (row ∷ above) values =
    let Is : Fragment → Type 0 = λ (z : Fragment). z.values ≡ v in
    let same : eq_by_cmp values_cmp v row.values ≡ true = eq_from_same v row.values (sym (All-head Is row above values)) in
    λ i. (same i && (row.period.end == t)) || ended_all v t above (All-tail Is row above values) i

-- ---- one more row

reach_more : (t reach end : ℕ) → (nat_lt t end || nat_lt t reach) ≡ nat_lt t (max reach end)
reach_more t reach end = grind (arith, nat_tests)

-- after the greatest end, with one more row
end_more : (t reach end : ℕ) → 0 < end → nat_lt t (max reach end) ≡ false → ((end == t) || ((t == reach) && nat_lt 0 reach)) ≡ ((t == max reach end) && nat_lt 0 (max reach end))
end_more t reach end some past = grind (arith, nat_tests, some, past)

not_before : (t reach end : ℕ) → nat_lt t (max reach end) ≡ false → nat_lt t reach ≡ false
not_before t reach end past = grind (arith, nat_tests, past)

-- the rows to come do not start earlier
later_start : (row : Fragment) (rows : List Fragment) → AllPairs (λ (a b : Fragment). a.period.start ≤ b.period.start) (row ∷ rows) → All (λ (z : Fragment). row.period.start ≤ z.period.start) rows
later_start row rows ascends k d less = ascends 0 (suc k) d (omega arith) (omega (arith, less))

later_ascend : (row : Fragment) (rows : List Fragment) → AllPairs (λ (a b : Fragment). a.period.start ≤ b.period.start) (row ∷ rows) → AllPairs (λ (a b : Fragment). a.period.start ≤ b.period.start) rows
later_ascend row rows ascends i j d before less = ascends (suc i) (suc j) d (omega (arith, before)) (omega (arith, less))

seen_more : (run : List Fragment) (v : List Value) (above : List Fragment) (row : Fragment) (later : List Fragment) (reach : ℕ) → SeenRows run v above (row ∷ later) reach → SeenRows run v (row ∷ above) later (max reach row.period.end)
seen_more run v above row later reach seen =
    let Is : Fragment → Type 0 = λ (z : Fragment). z.values ≡ v in
    let Begun : Fragment → Type 0 = λ (z : Fragment). StartBy z.period.start above in
    let ordered : row.period.start < row.period.end = row.period.ordered in
    let starts = later_start row later seen.ascends in
    record {
      split = λ p. seen.split p ∙ moved (list_any p above) (p row) (list_any p later);
      above_values = All-cons Is row above (All-head Is row later seen.later_values) seen.above_values;
      later_values = All-tail Is row later seen.later_values;
      before = λ k d less. let z = get_or later k d in All-cons (λ (o : Fragment). o.period.start ≤ z.period.start) row above (starts k d less) (All-tail Begun row later seen.before k d less);
      ascends = later_ascend row later seen.ascends;
      reaches = λ t. (λ i. nat_lt t row.period.end || seen.reaches t i) ∙ reach_more t reach row.period.end;
      ends = λ t past. (λ i. (row.period.end == t) || seen.ends t (not_before t reach row.period.end past) i) ∙ end_more t reach row.period.end (omega (arith, ordered)) past;
    }

-- no row to come covers the start of the first of them, or ends there
none_covers : (v : List Value) (row : Fragment) (later : List Fragment) → All (λ (z : Fragment). row.period.start ≤ z.period.start) later → list_any (covers v row.period.start) (row ∷ later) ≡ false
none_covers v row later starts =
    list_any_none (covers v row.period.start) (row ∷ later)
    (λ k d less. none (get_or (row ∷ later) k d) (All-cons (λ (z : Fragment). row.period.start ≤ z.period.start) row later (omega arith) starts k d less))
  where
    none : (z : Fragment) → row.period.start ≤ z.period.start → covers v row.period.start z ≡ false
    none z least = (λ i. eq_by_cmp values_cmp v z.values && (late z least i && nat_lt row.period.start z.period.end)) ∙ and_false (eq_by_cmp values_cmp v z.values)

none_ends : (v : List Value) (row : Fragment) (later : List Fragment) → All (λ (z : Fragment). row.period.start ≤ z.period.start) later → list_any (ends_at v row.period.start) (row ∷ later) ≡ false
none_ends v row later starts =
    list_any_none (ends_at v row.period.start) (row ∷ later)
    (λ k d less. none (get_or (row ∷ later) k d) (All-cons (λ (z : Fragment). row.period.start ≤ z.period.start) row later (omega arith) starts k d less))
  where
    none : (z : Fragment) → row.period.start ≤ z.period.start → ends_at v row.period.start z ≡ false
    none z least =
        let ordered : z.period.start < z.period.end = z.period.ordered in
        let other : (z.period.end == row.period.start) ≡ false = grind (arith, nat_tests, least, ordered) in
        ap (λ b. eq_by_cmp values_cmp v z.values && b) other ∙ and_false (eq_by_cmp values_cmp v z.values)

module _ (run : List Fragment) (v : List Value) (above : List Fragment) (row : Fragment) (later : List Fragment) (reach : ℕ) (seen : SeenRows run v above (row ∷ later) reach) where
  Is : Fragment → Type 0
  Is z = z.values ≡ v

  own : row.values ≡ v
  own = All-head (λ (z : Fragment). z.values ≡ v) row later seen.later_values

  by_start : StartBy row.period.start above
  by_start = All-head (λ (z : Fragment). StartBy z.period.start above) row later seen.before

  covered : list_any (covers v row.period.start) run ≡ list_any (covers v row.period.start) above
  covered =
      seen.split (covers v row.period.start)
      ∙ ap (λ b. list_any (covers v row.period.start) above || b) (none_covers v row later (later_start row later seen.ascends))
      ∙ or_false (list_any (covers v row.period.start) above)

  ended : list_any (ends_at v row.period.start) run ≡ list_any (λ (z : Fragment). z.period.end == row.period.start) above
  ended =
      seen.split (ends_at v row.period.start)
      ∙ ap (λ b. list_any (ends_at v row.period.start) above || b) (none_ends v row later (later_start row later seen.ascends))
      ∙ or_false (list_any (ends_at v row.period.start) above)
      ∙ ended_all v row.period.start above seen.above_values

  -- the next row overlaps exactly if it starts before the greatest end
  overlaps : is_overlapping run above row ≡ nat_lt row.period.start reach
  overlaps =
      (λ i. list_any (covers (own i) row.period.start) run || list_any (starts_at (own i) row.period.start) above)
      ∙ ap (λ b. b || list_any (starts_at v row.period.start) above) covered
      ∙ seen_all v row.period.start above seen.above_values by_start
      ∙ seen.reaches row.period.start

  -- and meets exactly if it starts at it
  meets : is_meeting run above row ≡ (not (nat_lt row.period.start reach) && ((row.period.start == reach) && nat_lt 0 reach))
  meets =
      (λ i. not (overlaps i) && list_any (ends_at (own i) row.period.start) run)
      ∙ ap (λ b. not (nat_lt row.period.start reach) && b) ended
      ∙ past (nat_lt row.period.start reach) refl
    where
      past : (b : Bool) → nat_lt row.period.start reach ≡ b → (not b && list_any (λ (z : Fragment). z.period.end == row.period.start) above) ≡ (not b && ((row.period.start == reach) && nat_lt 0 reach))
      past true is = refl
      past false is = seen.ends row.period.start is

-- ---- a whole run

count_inside : (run : List Fragment) (v : List Value) (above later : List Fragment) (reach : ℕ) → SeenRows run v above later reach → count_rows (is_overlapping run) above later ≡ overlapping_starts reach later
unfolding count_rows overlapping_starts
count_inside run v above [] reach seen = refl
count_inside run v above (row ∷ later) reach seen =
    λ i. cond (overlaps run v above row later reach seen i) 1 0 + count_inside run v (row ∷ above) later (max reach row.period.end) (seen_more run v above row later reach seen) i

count_behind : (run : List Fragment) (v : List Value) (above later : List Fragment) (reach : ℕ) → SeenRows run v above later reach → count_rows (is_meeting run) above later ≡ adjacent_starts reach later
unfolding count_rows adjacent_starts
count_behind run v above [] reach seen = refl
count_behind run v above (row ∷ later) reach seen =
    λ i. cond (meets run v above row later reach seen i) 1 0 + count_behind run v (row ∷ above) later (max reach row.period.end) (seen_more run v above row later reach seen) i

before_all : (run : List Fragment) (v : List Value) → HaveValues v run → AllPairs (λ (a b : Fragment). a.period.start ≤ b.period.start) run → SeenRows run v [] run 0
before_all run v values ascends = record {
  split = λ p. refl;
  above_values = All-nil (λ (z : Fragment). z.values ≡ v);
  later_values = values;
  before = λ k d less. All-nil (λ (z : Fragment). z.period.start ≤ (get_or run k d).period.start);
  ascends = ascends;
  reaches = λ t. grind (arith, nat_tests);
  ends = λ t past. grind (arith, nat_tests);
}

-- in a run, those rows overlap that start before the greatest end of the rows before them
pub run_overlapping : (run : List Fragment) (v : List Value) → HaveValues v run → AllPairs (λ (a b : Fragment). a.period.start ≤ b.period.start) run → overlapping run ≡ overlapping_starts 0 run
run_overlapping run v values ascends = count_inside run v [] run 0 (before_all run v values ascends)

-- and those rows meet that start at it
pub run_meeting : (run : List Fragment) (v : List Value) → HaveValues v run → AllPairs (λ (a b : Fragment). a.period.start ≤ b.period.start) run → meeting run ≡ adjacent_starts 0 run
run_meeting run v values ascends = count_behind run v [] run 0 (before_all run v values ascends)
