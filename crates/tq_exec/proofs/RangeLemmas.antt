-- Rows partitioned into ranges of values: together the ranges have each row once, and their texts are that of all.
use Rattle.std.proofs.Common.{◌≡◌, ◌+◌, ◌<◌, ◌≤◌, ◌++◌, ◌∷◌, ◌∙◌, ℕ, zero, suc, Bool, true, false, cond, List, [], ap, arith, filter, inl, inr, length, map, refl, rules, subst, sum_by, sym}
use Rattle.std.specs.List.{range_with_len}
use Rattle.std.specs.Prelude.{◌==◌, All}
use Rattle.std.proofs.lemmas.Bool.{cases_lt}
use Rattle.std.proofs.lemmas.Bool.Decides.{nat_tests}
use Rattle.std.proofs.lemmas.List.{get_or_default, map-id, same_lists}
use Rattle.std.proofs.lemmas.List.FromFn.{filter_of_map_range_with_len_more, get_or-map-range_with_len, get_or-range_with_len, length-map-range_with_len, length-range_with_len}
use Rattle.std.proofs.lemmas.List.Elements.{All-filter}
use Rattle.std.proofs.lemmas.List.Sums.{sum_by-cons}
use Rattle.tq_base.specs.Copies.{copies-append}
use Rattle.tq_base.specs.declared.fragment.Fragment.{Fragment}
use Rattle.tq_base.specs.declared.value.Value.{Value}
use Rattle.tq_base.specs.Fragments.{copies}
use Rattle.tq_base.specs.Keys.{no_row}
use Rattle.tq_base.specs.Ranges.{AreAscending}
use Rattle.tq_base.specs.Relations.{row_at}
use Rattle.tq_run.specs.Results.{IsResultList}
use Rattle.tq_exec.specs.AnswerParts.{HaveAnswer}
use Rattle.tq_exec.specs.declared.answer_parts.AnswerPart.{AnswerPart}
use Rattle.tq_exec.specs.declared.answer_parts.Wanted.{Wanted}
use Rattle.tq_exec.specs.OutputRanges.{numbers_in, range_at, IsRange}
use Rattle.tq_exec.specs.Parts.{AreParts, RangesAreParts}
use Rattle.tq_exec.proofs.AnswerPartLemmas.{parts_answer}

-- ---- each row is in one range

differs : (r first : ℕ) → r < first → (r == first) ≡ false
differs r first less = search (rules, nat_tests, less)

differs_above : (r first : ℕ) → first < r → (r == first) ≡ false
differs_above r first less = search (rules, nat_tests, less)

is_same : (r first : ℕ) → r ≡ first → (r == first) ≡ true
is_same r first same = search (rules, nat_tests, same)

-- none of the ranges from the first on
counted_nowhere : (r n first count : ℕ) → r < first → sum_by (λ b. cond (r == b) n 0) (range_with_len first count) ≡ 0
counted_nowhere r n first zero less = refl
counted_nowhere r n first (suc count) less =
    let here = ap (λ c. cond c n 0) (differs r first less) in
    let rest = counted_nowhere r n (first + 1) count (omega (arith, less)) in
    omega (arith, sum_by-cons (λ b. cond (r == b) n 0) first (range_with_len (first + 1) count), here, rest)

-- one of the ranges from the first on
pub counted_once : (r n first count : ℕ) → first ≤ r → r < first + count → sum_by (λ b. cond (r == b) n 0) (range_with_len first count) ≡ n
counted_once r n first zero low high = absurd (omega (arith, low, high))
counted_once r n first (suc count) low high = elim (cases_lt first r) [
  | inl less ↦
      let here = ap (λ c. cond c n 0) (differs_above r first less) in
      let rest = counted_once r n (first + 1) count (omega (arith, less)) (omega (arith, high)) in
      omega (arith, sum_by-cons (λ b. cond (r == b) n 0) first (range_with_len (first + 1) count), here, rest)
  | inr least ↦
      let same : r ≡ first = omega (arith, low, least) in
      let here = ap (λ c. cond c n 0) (is_same r first same) in
      let rest = counted_nowhere r n (first + 1) count (omega (arith, same)) in
      omega (arith, sum_by-cons (λ b. cond (r == b) n 0) first (range_with_len (first + 1) count), here, rest)
]

-- ---- the copies of the ranges

one_more : (c : Bool) (row_of : ℕ → Fragment) (i : ℕ) (numbers : List ℕ) (v : List Value) (t : ℕ)
    → copies (map row_of (cond c (i ∷ numbers) numbers)) v t ≡ cond c (copies (row_of i ∷ []) v t) 0 + copies (map row_of numbers) v t
one_more true row_of i numbers v t = copies-append (row_of i ∷ []) (map row_of numbers) v t
one_more false row_of i numbers v t = omega arith

pub sum_of_none : (bs : List ℕ) → sum_by (λ b. 0) bs ≡ 0
sum_of_none [] = refl
sum_of_none (b ∷ bs) = omega (arith, sum_by-cons (λ (c : ℕ). 0) b bs, sum_of_none bs)

pub sum_of_both : (f g : ℕ → ℕ) (bs : List ℕ) → sum_by (λ b. f b + g b) bs ≡ sum_by f bs + sum_by g bs
sum_of_both f g [] = refl
sum_of_both f g (b ∷ bs) = omega (arith, sum_by-cons (λ c. f c + g c) b bs, sum_by-cons f b bs, sum_by-cons g b bs, sum_of_both f g bs)

partitioned : (range_of : ℕ → ℕ) (count : ℕ) → ((i : ℕ) → range_of i < count) → (row_of : ℕ → Fragment) (v : List Value) (t : ℕ) (numbers : List ℕ)
    → sum_by (λ b. copies (map row_of (filter (λ i. range_of i == b) numbers)) v t) (range_with_len 0 count) ≡ copies (map row_of numbers) v t
partitioned range_of count below row_of v t [] = sum_of_none (range_with_len 0 count)
partitioned range_of count below row_of v t (i ∷ numbers) =
    let ranges = range_with_len 0 count in
    let one = copies (row_of i ∷ []) v t in
    let others = λ (b : ℕ). copies (map row_of (filter (λ j. range_of j == b) numbers)) v t in
    let here = counted_once (range_of i) one 0 count (omega arith) (omega (arith, below i)) in
    let rest = partitioned range_of count below row_of v t numbers in
    ap (λ (f : ℕ → ℕ). sum_by f ranges) (λ k b. one_more (range_of i == b) row_of i (filter (λ j. range_of j == b) numbers) v t k)
    ∙ sum_of_both (λ b. cond (range_of i == b) one 0) others ranges
    ∙ omega (arith, here, rest, copies-append (row_of i ∷ []) (map row_of numbers) v t)

-- all rows by their numbers
numbered : (rows : List Fragment) → map (row_at rows) (range_with_len 0 (length rows)) ≡ rows
numbered rows =
    same_lists (map (row_at rows) (range_with_len 0 (length rows))) rows (length-map-range_with_len (row_at rows) 0 (length rows))
    (λ k d less.
    let within : k < length rows = omega (arith, less, length-map-range_with_len (row_at rows) 0 (length rows)) in
    get_or-map-range_with_len (row_at rows) 0 (length rows) k k d within (omega arith) ∙ get_or_default rows k no_row d within)

pub ranges_are_parts : RangesAreParts
ranges_are_parts rows ids count some v t =
    partitioned (range_at ids count) count (λ i. omega (arith, some)) (row_at rows) v t (range_with_len 0 (length rows))
    ∙ ap (λ l. copies l v t) (numbered rows)

-- the numbers of one row more
pub numbers_more : (ids : List ℕ) (count n range : ℕ) → numbers_in ids count (n + 1) range ≡ numbers_in ids count n range ++ cond (range_at ids count n == range) (n ∷ []) []
numbers_more ids count n range =
    ap (filter (λ number. range_at ids count number == range)) (sym (map-id (range_with_len 0 (n + 1))))
    ∙ filter_of_map_range_with_len_more (λ number. range_at ids count number == range) (λ number. number) 0 n n (omega arith)
    ∙ ap (λ l. filter (λ number. range_at ids count number == range) l ++ cond (range_at ids count n == range) (n ∷ []) []) (map-id (range_with_len 0 n))

-- the numbers of a range are those of rows
pub numbers_within : (ids : List ℕ) (count len range : ℕ) → All (λ number. number < len) (numbers_in ids count len range)
numbers_within ids count len range =
    All-filter (λ number. range_at ids count number == range) (λ number. number < len) (range_with_len 0 len)
    (λ k d less.
    let within : k < len = omega (arith, less, length-range_with_len 0 len) in
    omega (arith, get_or-range_with_len 0 len k d within, within))

-- ---- the parts of the ranges

-- where the ranges stand in order, their parts are those of all rows
pub have_layers : (wanted : Wanted) (width : ℕ) (rows : List Fragment) (ids : List ℕ) (count : ℕ) (ranges : List AnswerPart) → 1 ≤ count → IsResultList (IsRange wanted width rows ids count) count ranges → AreAscending (map (λ (r : AnswerPart). r.rows) ranges)
    → HaveAnswer wanted width (copies rows) (map (λ (r : AnswerPart). r.made) ranges)
have_layers wanted width rows ids count ranges some are order =
    let part = λ (i : ℕ). copies (map (row_at rows) (numbers_in ids count (length rows) i)) in
    parts_answer wanted width part ranges (copies rows)
    (subst (λ n. AreParts n part (copies rows)) (sym are.0) (ranges_are_parts rows ids count some))
    (λ i d less. are.1 i d (omega (arith, less, are.0)))
    order
