-- How often a row stands among those that groups make: each key that occurs makes one row.
use Rattle.std.proofs.Common.{◌≡◌, ◌<◌, ◌+◌, ◌++◌, ◌∙◌, ℕ, zero, suc, Bool, true, false, not, cond, List, [], ◌∷◌, ap, arith, length, map, refl, sym, take}
use Rattle.std.specs.Prelude.{◌+ℤ◌, filter}
use Rattle.std.proofs.lemmas.Bool.{false≢true}
use Rattle.std.proofs.lemmas.List.{take_at}
use Rattle.std.proofs.lemmas.List.Sums.{sum_by-cons}
use Rattle.std.proofs.lemmas.List.Elements.{filter-append}
use Rattle.std.proofs.Math.IntN.{+ℤ_assoc, +ℤ_comm, +ℤ_idl}
use Rattle.tq_base.specs.Fragments.{occurrences}
use Rattle.tq_base.specs.RowValues.{number_of, value_at}
use Rattle.tq_base.specs.ValueOrder.{eq_from_same, same_from_eq}
use Rattle.tq_condition.specs.Ordinary.{projection}
use Rattle.tq_agg.specs.Grouping.{Row, each_once, first_row, grouped_by, same_row, sum_at}
use Rattle.tq_exec.specs.Scan.{SameCounts}
use Rattle.tq_exec.proofs.BagLemmas.{is_it, one_if, split}
use Rattle.tq_exec.proofs.GroupBags.{first_of_key, of_key, positive_once}
use Rattle.tq_exec.proofs.GroupingLemmas.{length-projection}

-- ---- each row once

-- the row itself is left out, and every other stays
left_out : (row : Row) (rows : List Row) (v : Row) → occurrences (filter (λ other. not (same_row other row)) rows) v ≡ cond (same_row row v) 0 (occurrences rows v)
left_out row [] v = by_row (same_row row v)
  where
    by_row : (b : Bool) → occurrences [] v ≡ cond b 0 (occurrences [] v)
    by_row true = refl
    by_row false = refl
left_out row (u ∷ rows) v = by_both (same_row u row) (same_row row v) refl refl (left_out row rows v)
  where
    rest : List Row
    rest = filter (λ other. not (same_row other row)) rows

    by_both : (b c : Bool) → same_row u row ≡ b → same_row row v ≡ c → occurrences rest v ≡ cond (same_row row v) 0 (occurrences rows v)
        → occurrences (cond (not b) (u ∷ rest) rest) v ≡ cond c 0 (occurrences (u ∷ rows) v)
    by_both true true is this later = later ∙ ap (λ b. cond b 0 (occurrences rows v)) this
    by_both true false is this later =
        let none : one_if (same_row u v) ≡ 0 = ap (λ w. one_if (same_row w v)) (same_from_eq u row is) ∙ ap one_if this in
        let kept : occurrences rest v ≡ occurrences rows v = later ∙ ap (λ b. cond b 0 (occurrences rows v)) this in
        omega (arith, kept, none, sum_by-cons (is_it v) u rows)
    by_both false true is this later =
        let none : one_if (same_row u v) ≡ 0 = ap (λ w. one_if (same_row u w)) (sym (same_from_eq row v this)) ∙ ap one_if is in
        let gone : occurrences rest v ≡ 0 = later ∙ ap (λ b. cond b 0 (occurrences rows v)) this in
        omega (arith, none, gone, sum_by-cons (is_it v) u rest)
    by_both false false is this later =
        let kept : occurrences rest v ≡ occurrences rows v = later ∙ ap (λ b. cond b 0 (occurrences rows v)) this in
        omega (arith, kept, sum_by-cons (is_it v) u rest, sum_by-cons (is_it v) u rows)

abbrev pub at_most_one : ℕ → ℕ
at_most_one zero = 0
at_most_one (suc n) = 1

pub counted_once : (rows : List Row) (v : Row) → occurrences (each_once rows) v ≡ at_most_one (occurrences rows v)
counted_once [] v = refl
counted_once (row ∷ rows) v = by_row (same_row row v) refl (left_out row (each_once rows) v) (counted_once rows v)
  where
    rest : List Row
    rest = filter (λ other. not (same_row other row)) (each_once rows)

    by_row : (b : Bool) → same_row row v ≡ b → occurrences rest v ≡ cond (same_row row v) 0 (occurrences (each_once rows) v) → occurrences (each_once rows) v ≡ at_most_one (occurrences rows v)
        → occurrences (row ∷ rest) v ≡ at_most_one (occurrences (row ∷ rows) v)
    by_row true is out once =
        let none : occurrences rest v ≡ 0 = out ∙ ap (λ b. cond b 0 (occurrences (each_once rows) v)) is in
        let one : occurrences (row ∷ rest) v ≡ 1 = omega (arith, none, sum_by-cons (is_it v) row rest, ap one_if is) in
        let all : occurrences (row ∷ rows) v ≡ suc (occurrences rows v) = omega (arith, sum_by-cons (is_it v) row rows, ap one_if is) in
        one ∙ sym (ap at_most_one all)
    by_row false is out once =
        let left : occurrences (row ∷ rest) v ≡ occurrences (each_once rows) v =
        (let kept = out ∙ ap (λ b. cond b 0 (occurrences (each_once rows) v)) is in omega (arith, kept, sum_by-cons (is_it v) row rest, ap one_if is)) in
        let right : occurrences (row ∷ rows) v ≡ occurrences rows v = omega (arith, sum_by-cons (is_it v) row rows, ap one_if is) in
        left ∙ once ∙ sym (ap at_most_one right)

-- ---- sums

sum_middle : (place : ℕ) (before after : List Row) (row : Row) → sum_at place (before ++ row ∷ after) ≡ (number_of (value_at row place) +ℤ sum_at place (before ++ after))
sum_middle place [] after row = refl
sum_middle place (u ∷ before) after row =
    let one = number_of (value_at u place) in
    let this = number_of (value_at row place) in
    let rest = sum_at place (before ++ after) in
    ap (λ z. one +ℤ z) (sum_middle place before after row)
    ∙ sym (+ℤ_assoc one this rest) ∙ ap (λ z. z +ℤ rest) (+ℤ_comm one this) ∙ +ℤ_assoc this one rest

-- lists in which each row stands as often have the same sums
pub same_sum_at : (place : ℕ) (a b : List Row) → SameCounts a b → sum_at place a ≡ sum_at place b
same_sum_at place [] b same = ap (sum_at place) (no_row b same)
  where
    no_row : (b : List Row) → SameCounts [] b → [] ≡ b
    no_row [] same = refl
    no_row (u ∷ b) same = absurd (omega (arith, same u, sum_by-cons (is_it u) u b, ap one_if (eq_from_same u u refl)))
same_sum_at place (u ∷ a) b same =
    let here = sum_by-cons (is_it u) u a in
    let some : 0 < occurrences b u = omega (arith, same u, here, ap one_if (eq_from_same u u refl)) in
    let s = split b u some in
    ap (λ z. number_of (value_at u place) +ℤ z) (same_sum_at place a (s.before ++ s.after) (λ v. without s.before s.after s.is v))
    ∙ sym (sum_middle place s.before s.after u) ∙ sym (ap (sum_at place) s.is)
  where
    middle : (v : Row) (before after : List Row) → occurrences (before ++ u ∷ after) v ≡ is_it v u + occurrences (before ++ after) v
    middle v [] after = sum_by-cons (is_it v) u after
    middle v (w ∷ before) after =
        omega (arith, sum_by-cons (is_it v) w (before ++ u ∷ after), sum_by-cons (is_it v) w (before ++ after), middle v before after)

    without : (before after : List Row) → b ≡ before ++ u ∷ after → (v : Row) → occurrences a v ≡ occurrences (before ++ after) v
    without before after is v =
        omega (arith, same v, sum_by-cons (is_it v) u a, ap (λ l. occurrences l v) is, middle v before after)

-- ---- the rows that groups make

-- 1 if the group has rows and makes this row
abbrev pub shown : List Row → Row → Row → ℕ
shown group made v = cond (same_row made v) (at_most_one (length group)) 0

module _ (keys : List ℕ) where
  -- a key occurs as often as its group has rows
  pub key_counted : (rows : List Row) (key : Row) → occurrences (map (projection keys) rows) key ≡ length (of_key keys rows key)
  key_counted [] key = refl
  key_counted (row ∷ rows) key = by (same_row (projection keys row) key) refl (key_counted rows key)
    where
      by : (b : Bool) → same_row (projection keys row) key ≡ b → occurrences (map (projection keys) rows) key ≡ length (of_key keys rows key)
          → occurrences (map (projection keys) (row ∷ rows)) key ≡ length (cond b (row ∷ of_key keys rows key) (of_key keys rows key))
      by true is rest = omega (arith, rest, sum_by-cons (is_it key) (projection keys row) (map (projection keys) rows), ap one_if is)
      by false is rest = omega (arith, rest, sum_by-cons (is_it key) (projection keys row) (map (projection keys) rows), ap one_if is)

  pub key_long : (rows : List Row) (key : Row) → 0 < occurrences (map (projection keys) rows) key → length key ≡ length keys
  key_long [] key some = absurd (omega (arith, some))
  key_long (row ∷ rows) key some = by (same_row (projection keys row) key) refl (key_long rows key)
    where
      by : (b : Bool) → same_row (projection keys row) key ≡ b → (0 < occurrences (map (projection keys) rows) key → length key ≡ length keys) → length key ≡ length keys
      by true is rest = ap length (sym (same_from_eq (projection keys row) key is)) ∙ length-projection keys row
      by false is rest = rest (omega (arith, some, sum_by-cons (is_it key) (projection keys row) (map (projection keys) rows), ap one_if is))

  -- a list of keys of which one alone can make the row
  pub only_key : (make : Row → Row) (key v : Row) (b : Bool) → same_row (make key) v ≡ b → (found : List Row)
      → ((other : Row) → 0 < occurrences found other → same_row other key ≡ false → same_row (make other) v ≡ false)
      → occurrences (map make found) v ≡ cond b (occurrences found key) 0
  only_key make key v true is [] others = refl
  only_key make key v false is [] others = refl
  only_key make key v b is (other ∷ found) others =
      by (same_row other key) refl (only_key make key v b is found (λ u some. others u (omega (arith, some, sum_by-cons (is_it u) other found))))
    where
      here : occurrences (map make (other ∷ found)) v ≡ is_it v (make other) + occurrences (map make found) v
      here = sum_by-cons (is_it v) (make other) (map make found)

      both : (c : Bool) (n : ℕ) → one_if c + cond c n 0 ≡ cond c (1 + n) 0
      both true n = refl
      both false n = refl

      by : (c : Bool) → same_row other key ≡ c → occurrences (map make found) v ≡ cond b (occurrences found key) 0
          → occurrences (map make (other ∷ found)) v ≡ cond b (occurrences (other ∷ found) key) 0
      by true same rest =
          let this : one_if (same_row (make other) v) ≡ one_if b = ap (λ u. one_if (same_row (make u) v)) (same_from_eq other key same) ∙ ap one_if is in
          let more : 1 + occurrences found key ≡ occurrences (other ∷ found) key = omega (arith, sum_by-cons (is_it key) other found, ap one_if same) in
          let sum : occurrences (map make (other ∷ found)) v ≡ one_if b + cond b (occurrences found key) 0 = omega (arith, here, this, rest) in
          sum ∙ both b (occurrences found key) ∙ ap (λ n. cond b n 0) more
      by false differs rest =
          let self : 0 < occurrences (other ∷ found) other = omega (arith, sum_by-cons (is_it other) other found, ap one_if (eq_from_same other other refl)) in
          let this : one_if (same_row (make other) v) ≡ 0 = ap one_if (others other self differs) in
          let same : occurrences found key ≡ occurrences (other ∷ found) key = omega (arith, sum_by-cons (is_it key) other found, ap one_if differs) in
          let sum : occurrences (map make (other ∷ found)) v ≡ cond b (occurrences found key) 0 = omega (arith, here, this, rest) in
          sum ∙ ap (λ n. cond b n 0) same

  module _ (items : List Row → Row) where
    -- the row of a group: its key, and what is made of its rows
    abbrev pub group_made : List Row → Row
    group_made group = projection keys (first_row group) ++ items group

    -- what a key makes
    abbrev pub key_made : List Row → Row → Row
    key_made rows key = key ++ items (of_key keys rows key)

    pub by_key : (rows found : List Row) → ((key : Row) → 0 < occurrences found key → projection keys (first_row (of_key keys rows key)) ≡ key)
        → map group_made (map (of_key keys rows) found) ≡ map (key_made rows) found
    by_key rows [] first = refl
    by_key rows (key ∷ found) first =
        λ i. (first key (omega (arith, sum_by-cons (is_it key) key found, ap one_if (eq_from_same key key refl))) i ++ items (of_key keys rows key))
        ∷ by_key rows found (λ k some. first k (omega (arith, some, sum_by-cons (is_it k) key found))) i

    -- a row stands once among those of the groups, if its key occurs and makes it
    pub made_of_groups : (rows : List Row) (v : Row) → occurrences (map group_made (grouped_by keys rows)) v ≡ shown (of_key keys rows (take (length keys) v)) (key_made rows (take (length keys) v)) v
    made_of_groups rows v =
        ap (λ l. occurrences l v) (by_key rows found (λ key some. first_of_key keys rows key (positive_once all key some)))
        ∙ only_key (key_made rows) key v (same_row (key_made rows key) v) refl found apart
        ∙ ap (λ n. cond (same_row (key_made rows key) v) n 0) (counted_once all key ∙ ap at_most_one (key_counted rows key))
      where
        key : Row
        key = take (length keys) v

        all : List Row
        all = map (projection keys) rows

        found : List Row
        found = each_once all

        apart : (other : Row) → 0 < occurrences found other → same_row other key ≡ false → same_row (key_made rows other) v ≡ false
        apart other some differs = by (same_row (key_made rows other) v) refl
          where
            by : (b : Bool) → same_row (key_made rows other) v ≡ b → same_row (key_made rows other) v ≡ false
            by true is =
                let begins : take (length keys) (key_made rows other) ≡ other = take_at other (items (of_key keys rows other)) (length keys) (key_long rows other (positive_once all other some)) in
                let same : other ≡ key = sym begins ∙ ap (take (length keys)) (same_from_eq (key_made rows other) v is) in
                absurd (false≢true (sym differs ∙ eq_from_same other key same))
            by false is = is

-- ---- groups of two lists

pub occurrences-append : (a b : List Row) (v : Row) → occurrences (a ++ b) v ≡ occurrences a v + occurrences b v
occurrences-append [] b v = omega arith
occurrences-append (u ∷ a) b v = omega (arith, sum_by-cons (is_it v) u (a ++ b), sum_by-cons (is_it v) u a, occurrences-append a b v)

pub key-append : (keys : List ℕ) (a b : List Row) (key : Row) → of_key keys (a ++ b) key ≡ of_key keys a key ++ of_key keys b key
key-append keys a b key = filter-append (λ row. same_row (projection keys row) key) a b

pub sum-append : (place : ℕ) (a b : List Row) → sum_at place (a ++ b) ≡ (sum_at place a +ℤ sum_at place b)
sum-append place [] b = sym (+ℤ_idl (sum_at place b))
sum-append place (u ∷ a) b = ap (λ z. number_of (value_at u place) +ℤ z) (sum-append place a b) ∙ sym (+ℤ_assoc (number_of (value_at u place)) (sum_at place a) (sum_at place b))
