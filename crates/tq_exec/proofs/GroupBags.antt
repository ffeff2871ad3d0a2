-- Lists in which each row stands as often have the same groups, counts and sums.
use Rattle.std.proofs.Common.{◌≡◌, ℕ, zero, suc, ◌+◌, ◌<◌, Bool, true, false, not, cond, List, [], ◌∷◌, ◌++◌, map, length, refl, sym, ap, ◌∙◌, arith}
use Rattle.std.specs.Prelude.{pos, ◌+ℤ◌, filter}
use Rattle.std.proofs.Math.IntN.{+ℤ_assoc, +ℤ_comm}
use Rattle.std.proofs.lemmas.List.Sums.{sum_by-cons}
use Rattle.tq_base.specs.Contents.{Int}
use Rattle.tq_base.specs.Fragments.{occurrences}
use Rattle.tq_base.specs.ValueOrder.{eq_from_same, same_from_eq}
use Rattle.tq_base.specs.RowValues.{number_of, value_at}
use Rattle.tq_condition.specs.Ordinary.{projection}
use Rattle.tq_agg.specs.Grouping.{Row, each_once, first_row, group_row, grouped_rows, same_row, sum_at}
use Rattle.tq_exec.specs.Scan.{SameCounts}
use Rattle.tq_exec.proofs.BagLemmas.{is_it, one_if, same_filtered, same_lengths, same_mapped, split}

-- ---- each row once

-- the row itself is left out, and every other stays
left_out : (row : Row) (rows : List Row) (v : Row) → occurrences (filter (λ other. not (same_row other row)) rows) v ≡ cond (same_row row v) 0 (occurrences rows v)
left_out row [] v = by_row (same_row row v)
  where
    by_row : (b : Bool) → occurrences [] v ≡ cond b 0 (occurrences [] v)
    by_row true = refl
    by_row false = refl
left_out row (u ∷ rows) v = by_both (same_row u row) (same_row row v) refl refl (left_out row rows v)
  where
    rest : List Row
    rest = filter (λ other. not (same_row other row)) rows

    by_both : (b c : Bool) → same_row u row ≡ b → same_row row v ≡ c → occurrences rest v ≡ cond (same_row row v) 0 (occurrences rows v)
        → occurrences (filter (λ other. not (same_row other row)) (u ∷ rows)) v ≡ cond (same_row row v) 0 (occurrences (u ∷ rows) v)
    by_both true true is this later =
        ap (λ b. occurrences (cond (not b) (u ∷ rest) rest) v) is ∙ later ∙ ap (λ b. cond b 0 (occurrences rows v)) this ∙ sym (ap (λ b. cond b 0 (occurrences (u ∷ rows) v)) this)
    by_both true false is this later =
        ap (λ b. occurrences (cond (not b) (u ∷ rest) rest) v) is ∙ later ∙ ap (λ b. cond b 0 (occurrences rows v)) this
        ∙ (let none : one_if (same_row u v) ≡ 0 = ap (λ w. one_if (same_row w v)) (same_from_eq u row is) ∙ ap one_if this in
        let more : occurrences rows v ≡ occurrences (u ∷ rows) v = omega (arith, none, sum_by-cons (is_it v) u rows) in
        more)
        ∙ sym (ap (λ b. cond b 0 (occurrences (u ∷ rows) v)) this)
    by_both false true is this later =
        ap (λ b. occurrences (cond (not b) (u ∷ rest) rest) v) is
        ∙ (let none : one_if (same_row u v) ≡ 0 = ap (λ w. one_if (same_row u w)) (sym (same_from_eq row v this)) ∙ ap one_if is in
        let gone : occurrences rest v ≡ 0 = later ∙ ap (λ b. cond b 0 (occurrences rows v)) this in
        let all : occurrences (u ∷ rest) v ≡ 0 = omega (arith, none, gone, sum_by-cons (is_it v) u rest) in
        all)
        ∙ sym (ap (λ b. cond b 0 (occurrences (u ∷ rows) v)) this)
    by_both false false is this later =
        ap (λ b. occurrences (cond (not b) (u ∷ rest) rest) v) is
        ∙ (let kept : occurrences rest v ≡ occurrences rows v = later ∙ ap (λ b. cond b 0 (occurrences rows v)) this in
        let both : occurrences (u ∷ rest) v ≡ occurrences (u ∷ rows) v = omega (arith, kept, sum_by-cons (is_it v) u rest, sum_by-cons (is_it v) u rows) in
        both)
        ∙ sym (ap (λ b. cond b 0 (occurrences (u ∷ rows) v)) this)

abbrev at_most_one : ℕ → ℕ
at_most_one zero = 0
at_most_one (suc n) = 1

counted_once : (rows : List Row) (v : Row) → occurrences (each_once rows) v ≡ at_most_one (occurrences rows v)
counted_once [] v = refl
counted_once (row ∷ rows) v = by_row (same_row row v) refl (left_out row (each_once rows) v) (counted_once rows v)
  where
    rest : List Row
    rest = filter (λ other. not (same_row other row)) (each_once rows)

    by_row : (b : Bool) → same_row row v ≡ b → occurrences rest v ≡ cond (same_row row v) 0 (occurrences (each_once rows) v) → occurrences (each_once rows) v ≡ at_most_one (occurrences rows v)
        → occurrences (row ∷ rest) v ≡ at_most_one (occurrences (row ∷ rows) v)
    by_row true is out once =
        let none : occurrences rest v ≡ 0 = out ∙ ap (λ b. cond b 0 (occurrences (each_once rows) v)) is in
        let one : occurrences (row ∷ rest) v ≡ 1 = omega (arith, none, sum_by-cons (is_it v) row rest, ap one_if is) in
        let all : occurrences (row ∷ rows) v ≡ suc (occurrences rows v) = omega (arith, sum_by-cons (is_it v) row rows, ap one_if is) in
        one ∙ sym (ap at_most_one all)
    by_row false is out once =
        let left : occurrences (row ∷ rest) v ≡ occurrences (each_once rows) v =
        (let kept = out ∙ ap (λ b. cond b 0 (occurrences (each_once rows) v)) is in omega (arith, kept, sum_by-cons (is_it v) row rest, ap one_if is)) in
        let right : occurrences (row ∷ rows) v ≡ occurrences rows v = omega (arith, sum_by-cons (is_it v) row rows, ap one_if is) in
        left ∙ once ∙ sym (ap at_most_one right)

same_once : (a b : List Row) → SameCounts a b → SameCounts (each_once a) (each_once b)
same_once a b same v = counted_once a v ∙ ap at_most_one (same v) ∙ sym (counted_once b v)

-- a row stands among them once stands among all
pub positive_once : (rows : List Row) (v : Row) → 0 < occurrences (each_once rows) v → 0 < occurrences rows v
positive_once rows v some = positive (occurrences rows v) (omega (arith, some, counted_once rows v))
  where
    positive : (n : ℕ) → 0 < at_most_one n → 0 < n
    positive zero some = some
    positive (suc n) some = omega arith

-- ---- sums

sum_middle : (place : ℕ) (before after : List Row) (row : Row) → sum_at place (before ++ row ∷ after) ≡ (number_of (value_at row place) +ℤ sum_at place (before ++ after))
sum_middle place [] after row = refl
sum_middle place (u ∷ before) after row =
    let one = number_of (value_at u place) in
    let this = number_of (value_at row place) in
    let rest = sum_at place (before ++ after) in
    ap (λ z. one +ℤ z) (sum_middle place before after row)
    ∙ sym (+ℤ_assoc one this rest) ∙ ap (λ z. z +ℤ rest) (+ℤ_comm one this) ∙ +ℤ_assoc this one rest

same_totals : (place : ℕ) (a b : List Row) → SameCounts a b → sum_at place a ≡ sum_at place b
same_totals place [] b same = ap (sum_at place) (no_row b same)
  where
    no_row : (b : List Row) → SameCounts [] b → [] ≡ b
    no_row [] same = refl
    no_row (u ∷ b) same = absurd (omega (arith, same u, sum_by-cons (is_it u) u b, ap one_if (eq_from_same u u refl)))
same_totals place (u ∷ a) b same =
    let here = sum_by-cons (is_it u) u a in
    let some : 0 < occurrences b u = omega (arith, same u, here, ap one_if (eq_from_same u u refl)) in
    let s = split b u some in
    ap (λ z. number_of (value_at u place) +ℤ z) (same_totals place a (s.before ++ s.after) (λ v. without a b u s.before s.after same s.is v))
    ∙ sym (sum_middle place s.before s.after u) ∙ sym (ap (sum_at place) s.is)
  where
    middle : (v : Row) (before after : List Row) (row : Row) → occurrences (before ++ row ∷ after) v ≡ is_it v row + occurrences (before ++ after) v
    middle v [] after row = sum_by-cons (is_it v) row after
    middle v (w ∷ before) after row =
        omega (arith, sum_by-cons (is_it v) w (before ++ row ∷ after), sum_by-cons (is_it v) w (before ++ after), middle v before after row)

    without : (a b : List Row) (u : Row) (before after : List Row) → SameCounts (u ∷ a) b → b ≡ before ++ u ∷ after → SameCounts a (before ++ after)
    without a b u before after same is v =
        omega (arith, same v, sum_by-cons (is_it v) u a, ap (λ l. occurrences l v) is, middle v before after u)

-- ---- groups

-- the rows of a key
abbrev pub of_key : List ℕ → List Row → Row → List Row
of_key keys rows key = filter (λ row. same_row (projection keys row) key) rows

-- the row that a key makes
abbrev pub made : List ℕ → List ℕ → List Row → Row → Row
made keys sums rows key = key ++ Int (pos (length (of_key keys rows key))) ∷ map (λ place. Int (sum_at place (of_key keys rows key))) sums

pub first_of_key : (keys : List ℕ) (rows : List Row) (key : Row) → 0 < occurrences (map (projection keys) rows) key → projection keys (first_row (of_key keys rows key)) ≡ key
first_of_key keys [] key some = absurd (omega (arith, some))
first_of_key keys (row ∷ rows) key some = by_first (same_row (projection keys row) key) refl (first_of_key keys rows key)
  where
    by_first : (b : Bool) → same_row (projection keys row) key ≡ b → (0 < occurrences (map (projection keys) rows) key → projection keys (first_row (of_key keys rows key)) ≡ key)
        → projection keys (first_row (of_key keys (row ∷ rows) key)) ≡ key
    by_first true is later = ap (λ b. projection keys (first_row (cond b (row ∷ of_key keys rows key) (of_key keys rows key)))) is ∙ same_from_eq (projection keys row) key is
    by_first false is later =
        ap (λ b. projection keys (first_row (cond b (row ∷ of_key keys rows key) (of_key keys rows key)))) is
        ∙ later (omega (arith, some, sum_by-cons (is_it key) (projection keys row) (map (projection keys) rows), ap one_if is))

-- what each key of a list makes
map_keys : (keys sums : List ℕ) (rows found : List Row) → ((key : Row) → 0 < occurrences found key → projection keys (first_row (of_key keys rows key)) ≡ key)
    → map (group_row keys sums) (map (of_key keys rows) found) ≡ map (made keys sums rows) found
map_keys keys sums rows [] first = refl
map_keys keys sums rows (key ∷ found) first =
    λ i. (first key (omega (arith, sum_by-cons (is_it key) key found, ap one_if (eq_from_same key key refl))) i
    ++ Int (pos (length (of_key keys rows key))) ∷ map (λ place. Int (sum_at place (of_key keys rows key))) sums)
    ∷ map_keys keys sums rows found (λ k some. first k (omega (arith, some, sum_by-cons (is_it k) key found))) i

-- the rows that groups make, key by key
pub by_keys : (keys sums : List ℕ) (rows : List Row) → grouped_rows keys sums rows ≡ map (made keys sums rows) (each_once (map (projection keys) rows))
by_keys keys sums rows =
    map_keys keys sums rows (each_once (map (projection keys) rows))
    (λ key some. first_of_key keys rows key (positive_once (map (projection keys) rows) key some))

same_sums_of : (a b : List Row) (sums : List ℕ) → SameCounts a b → map (λ place. Int (sum_at place a)) sums ≡ map (λ place. Int (sum_at place b)) sums
same_sums_of a b [] same = refl
same_sums_of a b (place ∷ sums) same = λ i. Int (same_totals place a b same i) ∷ same_sums_of a b sums same i

same_made : (keys sums : List ℕ) (a b : List Row) → SameCounts a b → (key : Row) → made keys sums a key ≡ made keys sums b key
same_made keys sums a b same key =
    let alike = same_filtered (λ row. same_row (projection keys row) key) a b same in
    λ i. key ++ Int (pos (same_lengths (of_key keys a key) (of_key keys b key) alike i)) ∷ same_sums_of (of_key keys a key) (of_key keys b key) sums alike i

pub map_alike : (f g : Row → Row) (rows : List Row) → ((row : Row) → f row ≡ g row) → map f rows ≡ map g rows
map_alike f g [] alike = refl
map_alike f g (row ∷ rows) alike = λ i. alike row i ∷ map_alike f g rows alike i

-- each row that groups make stands as often
pub same_groups : (keys sums : List ℕ) (a b : List Row) → SameCounts a b → SameCounts (grouped_rows keys sums a) (grouped_rows keys sums b)
same_groups keys sums a b same v =
    ap (λ l. occurrences l v) (by_keys keys sums a ∙ map_alike (made keys sums a) (made keys sums b) (each_once (map (projection keys) a)) (same_made keys sums a b same))
    ∙ same_mapped (made keys sums b) (each_once (map (projection keys) a)) (each_once (map (projection keys) b)) (same_once (map (projection keys) a) (map (projection keys) b) (same_mapped (projection keys) a b same)) v
    ∙ sym (ap (λ l. occurrences l v) (by_keys keys sums b))
