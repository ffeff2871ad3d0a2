-- The sums of the rows that the groups of parts make are what the groups of all rows make.
use Rattle.std.proofs.Common.{◌≡◌, ◌<◌, ◌+◌, ◌++◌, ◌∙◌, ℕ, ℤ, zero, suc, Bool, true, false, cond, List, [], ◌∷◌, ap, append_assoc, arith, length, map, refl, sum_by, sym, take}
use Rattle.std.specs.Prelude.{pos, ◌+ℤ◌}
use Rattle.std.specs.List.{flat_map, range_with_len}
use Rattle.std.proofs.lemmas.Bool.{false≢true}
use Rattle.std.proofs.lemmas.List.{length-append, take_at}
use Rattle.std.proofs.lemmas.List.Concat.{flat_map-cons}
use Rattle.std.proofs.lemmas.List.Sums.{sum_by-cons}
use Rattle.std.proofs.Math.IntN.{+ℤ_idr}
use Rattle.std.proofs.Math.Seq.{get_or-append_seam}
use Rattle.tq_base.specs.Contents.{Int}
use Rattle.tq_base.specs.Fragments.{occurrences}
use Rattle.tq_base.specs.RowValues.{number_of, value_at}
use Rattle.tq_base.specs.ValueOrder.{eq_from_same, same_from_eq}
use Rattle.tq_condition.specs.Ordinary.{projection}
use Rattle.tq_agg.specs.Grouping.{Row, same_row, sum_at}
use Rattle.tq_exec.proofs.BagLemmas.{is_it, one_if}
use Rattle.tq_exec.proofs.GroupBags.{of_key}
use Rattle.tq_split.proofs.AddingLemmas.{first_values}
use Rattle.tq_split.proofs.GroupLemmas.{at_most_one, key-append, key_counted, key_made, only_key, sum-append}

-- as often the number
abbrev pub times : ℕ → ℤ → ℤ
times zero z = pos 0
times (suc n) z = z +ℤ times n z

-- ---- rows that keys make

module _ (n : ℕ) (make : Row → Row) where
  abbrev keys : List ℕ
  keys = range_with_len 0 n

  -- each of the keys is that of the row that it makes
  abbrev Begin : List Row → Type 0
  Begin found = (key : Row) → 0 < occurrences found key → projection keys (make key) ≡ key

  later : (key : Row) (found : List Row) → Begin (key ∷ found) → Begin found
  later key found begin other some = begin other (omega (arith, some, sum_by-cons (is_it other) key found))

  own : (key : Row) (found : List Row) → 0 < occurrences (key ∷ found) key
  own key found = omega (arith, sum_by-cons (is_it key) key found, ap one_if (eq_from_same key key refl))

  made_keys : (found : List Row) → Begin found → map (projection keys) (map make found) ≡ found
  made_keys [] begin = refl
  made_keys (key ∷ found) begin = λ i. begin key (own key found) i ∷ made_keys found (later key found begin) i

  pub made_many : (found : List Row) (key : Row) → Begin found → length (of_key keys (map make found) key) ≡ occurrences found key
  made_many found key begin = sym (key_counted keys (map make found) key) ∙ ap (λ l. occurrences l key) (made_keys found begin)

  pub made_sum : (place : ℕ) (found : List Row) (key : Row) → Begin found → sum_at place (of_key keys (map make found) key) ≡ times (occurrences found key) (number_of (value_at (make key) place))
  made_sum place [] key begin = refl
  made_sum place (other ∷ found) key begin =
      ap (λ b. sum_at place (cond b (make other ∷ rest) rest)) (ap (λ k. same_row k key) (begin other (own other found)))
      ∙ by (same_row other key) refl (made_sum place found key (later other found begin))
    where
      rest : List Row
      rest = of_key keys (map make found) key

      z : ℤ
      z = number_of (value_at (make key) place)

      by : (b : Bool) → same_row other key ≡ b → sum_at place rest ≡ times (occurrences found key) z → sum_at place (cond b (make other ∷ rest) rest) ≡ times (occurrences (other ∷ found) key) z
      by true is sum =
          let more : suc (occurrences found key) ≡ occurrences (other ∷ found) key = omega (arith, sum_by-cons (is_it key) other found, ap one_if is) in
          (λ i. number_of (value_at (make (same_from_eq other key is i)) place) +ℤ sum i) ∙ ap (λ m. times m z) more
      by false differs sum =
          let same : occurrences found key ≡ occurrences (other ∷ found) key = omega (arith, sum_by-cons (is_it key) other found, ap one_if differs) in
          sum ∙ ap (λ m. times m z) same

-- ---- numbers of groups

-- the number of a group that is 0 without rows, and of two lists of rows is the sum of both
abbrev pub IsAdditive : (List Row → ℤ) → Type 0
IsAdditive f = (f [] ≡ pos 0) × ((a b : List Row) → f (a ++ b) ≡ (f a +ℤ f b))

abbrev pub AreAdditive : List (List Row → ℤ) → Type 0
AreAdditive [] = Unit {0}
AreAdditive (f ∷ fs) = IsAdditive f × AreAdditive fs

abbrev pub numbers_of : List (List Row → ℤ) → List Row → Row
numbers_of [] group = []
numbers_of (f ∷ fs) group = Int (f group) ∷ numbers_of fs group

numbers-append : (fs gs : List (List Row → ℤ)) (group : List Row) → numbers_of (fs ++ gs) group ≡ numbers_of fs group ++ numbers_of gs group
numbers-append [] gs group = refl
numbers-append (f ∷ fs) gs group = ap (λ l. Int (f group) ∷ l) (numbers-append fs gs group)

length-numbers : (fs : List (List Row → ℤ)) (group : List Row) → length (numbers_of fs group) ≡ length fs
length-numbers [] group = refl
length-numbers (f ∷ fs) group = ap suc (length-numbers fs group)

-- ---- the rows of the groups of parts

-- the keys of the groups of some rows, by places; a group that has no key there has no rows
pub record AreKeys (places : List ℕ) (found : List Row → List Row) : Type 0 where
  pub long : (rows : List Row) (key : Row) → 0 < occurrences (found rows) key → length key ≡ length places
  pub few : (rows : List Row) (key : Row) → occurrences (found rows) key ≡ at_most_one (occurrences (found rows) key)
  pub none : (rows : List Row) (key : Row) → occurrences (found rows) key ≡ 0 → of_key places rows key ≡ []

module _ (places : List ℕ) (fs : List (List Row → ℤ)) (additive : AreAdditive fs) (found : List Row → List Row) (are : AreKeys places found) where
  -- what a key makes of rows
  abbrev make : List Row → Row → Row
  make rows key = key_made places (numbers_of fs) rows key

  -- the rows that the groups make
  abbrev pub made : List Row → List Row
  made rows = map (make rows) (found rows)

  abbrev own_keys : List ℕ
  own_keys = range_with_len 0 (length places)

  begins : (rows : List Row) → Begin (length places) (make rows) (found rows)
  begins rows key some =
      let many = are.long rows key some in
      first_values (make rows key) (length places) (omega (arith, many, length-append key (numbers_of fs (of_key places rows key))))
      ∙ take_at key (numbers_of fs (of_key places rows key)) (length places) many

  -- the number of a group, read from the row that it makes
  one_sum : (rows : List Row) (key : Row) (before after : List (List Row → ℤ)) (f : List Row → ℤ) → fs ≡ before ++ f ∷ after → IsAdditive f
      → sum_at (length places + length before) (of_key own_keys (made rows) key) ≡ f (of_key places rows key)
  one_sum rows key before after f is adds =
      made_sum (length places) (make rows) (length places + length before) (found rows) key (begins rows) ∙ by (occurrences (found rows) key) refl
    where
      group : List Row
      group = of_key places rows key

      value : length key ≡ length places → value_at (make rows key) (length places + length before) ≡ Int (f group)
      value many =
          let place : length places + length before ≡ length (key ++ numbers_of before group) = omega (arith, many, length-append key (numbers_of before group), length-numbers before group) in
          ap (λ l. value_at (key ++ l) (length places + length before)) (ap (λ l. numbers_of l group) is ∙ numbers-append before (f ∷ after) group)
          ∙ ap (λ l. value_at l (length places + length before)) (sym (append_assoc key (numbers_of before group) (Int (f group) ∷ numbers_of after group)))
          ∙ ap (value_at ((key ++ numbers_of before group) ++ Int (f group) ∷ numbers_of after group)) place
          ∙ get_or-append_seam (key ++ numbers_of before group) (Int (f group)) (numbers_of after group) (Int (pos 0))

      z : ℤ
      z = number_of (value_at (make rows key) (length places + length before))

      by : (m : ℕ) → occurrences (found rows) key ≡ m → times m z ≡ f group
      by zero is_none = sym (ap f (are.none rows key is_none) ∙ adds.0)
      by (suc m) some =
          let once : suc m ≡ 1 = sym some ∙ are.few rows key ∙ ap at_most_one some in
          let here = value (are.long rows key (omega (arith, some))) in
          ap (λ c. times c z) once ∙ +ℤ_idr z ∙ ap number_of here

  -- and added over parts
  sums_add : (parts : List (List Row)) (key : Row) (before after : List (List Row → ℤ)) (f : List Row → ℤ) → fs ≡ before ++ f ∷ after → IsAdditive f
      → sum_at (length places + length before) (of_key own_keys (flat_map made parts) key) ≡ f (of_key places (flat_map (λ rows. rows) parts) key)
  sums_add [] key before after f is adds = sym adds.0
  sums_add (rows ∷ parts) key before after f is adds =
      let place = length places + length before in
      ap (λ l. sum_at place (of_key own_keys l key)) (flat_map-cons made rows parts)
      ∙ ap (sum_at place) (key-append own_keys (made rows) (flat_map made parts) key)
      ∙ sum-append place (of_key own_keys (made rows) key) (of_key own_keys (flat_map made parts) key)
      ∙ (λ i. one_sum rows key before after f is adds i +ℤ sums_add parts key before after f is adds i)
      ∙ sym (adds.1 (of_key places rows key) (of_key places (flat_map (λ (l : List Row). l) parts) key))
      ∙ ap f (sym (key-append places rows (flat_map (λ (l : List Row). l) parts) key) ∙ ap (λ l. of_key places l key) (sym (flat_map-cons (λ (l : List Row). l) rows parts)))

  many_add : (parts : List (List Row)) (key : Row) → length (of_key own_keys (flat_map made parts) key) ≡ sum_by (λ (rows : List Row). occurrences (found rows) key) parts
  many_add [] key = refl
  many_add (rows ∷ parts) key =
      let whole : length (of_key own_keys (flat_map made (rows ∷ parts)) key) ≡ length (of_key own_keys (made rows) key ++ of_key own_keys (flat_map made parts) key) =
      ap (λ l. length (of_key own_keys l key)) (flat_map-cons made rows parts) ∙ ap length (key-append own_keys (made rows) (flat_map made parts) key) in
      omega (
        arith,
        whole,
        length-append (of_key own_keys (made rows) key) (of_key own_keys (flat_map made parts) key),
        made_many (length places) (make rows) (found rows) key (begins rows),
        many_add parts key,
        sum_by-cons (λ (l : List Row). occurrences (found l) key) rows parts,
      )

  all_sums : (parts : List (List Row)) (key : Row) (before after : List (List Row → ℤ)) → fs ≡ before ++ after → AreAdditive after
      → map (λ place. Int (sum_at place (of_key own_keys (flat_map made parts) key))) (range_with_len (length places + length before) (length after)) ≡ numbers_of after (of_key places (flat_map (λ rows. rows) parts) key)
  all_sums parts key before [] is adds = refl
  all_sums parts key before (f ∷ after) is adds =
      let next : length places + length before + 1 ≡ length places + length (before ++ f ∷ []) = omega (arith, length-append before (f ∷ [])) in
      λ i. Int (sums_add parts key before after f is adds.0 i)
      ∷ (ap (λ start. map (λ place. Int (sum_at place (of_key own_keys (flat_map made parts) key))) (range_with_len start (length after))) next
      ∙ all_sums parts key (before ++ f ∷ []) after (is ∙ sym (append_assoc before (f ∷ []) after)) adds.1) i

  -- a row stands once among those of the groups, if its key is there and makes it
  pub made_once : (rows : List Row) (v : Row) → occurrences (made rows) v ≡ cond (same_row (make rows (take (length places) v)) v) (occurrences (found rows) (take (length places) v)) 0
  made_once rows v = only_key places (make rows) (take (length places) v) v (same_row (make rows (take (length places) v)) v) refl (found rows) apart
    where
      key : Row
      key = take (length places) v

      apart : (other : Row) → 0 < occurrences (found rows) other → same_row other key ≡ false → same_row (make rows other) v ≡ false
      apart other some differs = by (same_row (make rows other) v) refl
        where
          by : (b : Bool) → same_row (make rows other) v ≡ b → same_row (make rows other) v ≡ false
          by true is =
              let begin : take (length places) (make rows other) ≡ other = take_at other (numbers_of fs (of_key places rows other)) (length places) (are.long rows other some) in
              let same : other ≡ key = sym begin ∙ ap (take (length places)) (same_from_eq (make rows other) v is) in
              absurd (false≢true (sym differs ∙ eq_from_same other key same))
          by false is = is

  -- what the rows of all parts have for a key makes the row that all rows make, if it is there exactly if it is in a part
  pub parts_added : (parts : List (List Row)) (v : Row)
      → at_most_one (sum_by (λ (rows : List Row). occurrences (found rows) (take (length places) v)) parts) ≡ occurrences (found (flat_map (λ rows. rows) parts)) (take (length places) v)
      → cond (same_row (take (length places) v ++ map (λ place. Int (sum_at place (of_key own_keys (flat_map made parts) (take (length places) v)))) (range_with_len (length places) (length fs))) v)
      (at_most_one (length (of_key own_keys (flat_map made parts) (take (length places) v)))) 0
      ≡ occurrences (made (flat_map (λ rows. rows) parts)) v
  parts_added parts v there =
      let key = take (length places) v in
      let start : length places ≡ length places + 0 = omega arith in
      let sums = ap (λ a. map (λ place. Int (sum_at place (of_key own_keys (flat_map made parts) key))) (range_with_len a (length fs))) start ∙ all_sums parts key [] fs refl additive in
      (λ i. cond (same_row (key ++ sums i) v) ((ap at_most_one (many_add parts key) ∙ there) i) 0)
      ∙ sym (made_once (flat_map (λ (l : List Row). l) parts) v)
