-- Bounds moved into a window, and what the rows that have begun by an instant and not ended add.
use Rattle.std.proofs.Common.{◌≡◌, ℕ, suc, ◌<◌, ◌≤◌, ℤ, pos, ◌+ℤ◌, ◌-ℤ◌, inl, inr, Bool, true, false, not, cond, ◌&&◌, ◌||◌, nat_le, nat_lt, List, [], ◌∷◌, length, take, get_or, map, refl, sym, subst, ap, ◌∙◌, arith}
use Rattle.std.specs.Prelude.{All, IsPermutation, IsSortedByKey, max, min}
use Rattle.std.specs.List.Sorted.{IsNonDecreasingBy}
use Rattle.std.specs.Ordering.{nat_cmp}
use Rattle.std.proofs.lemmas.Bool.{cases_lt, false≢true}
use Rattle.std.proofs.lemmas.Bool.Decides.{nat_tests}
use Rattle.std.proofs.lemmas.Int.{ints}
use Rattle.std.proofs.lemmas.List.{get_or-map, length-map}
use Rattle.std.proofs.lemmas.List.Elements.{All-head, All-map, All-tail}
use Rattle.std.proofs.lemmas.List.Sorted.{All-permutation, IsNonDecreasingBy-from_sort}
use Rattle.tq_base.specs.declared.period.Period.{Period}
use Rattle.tq_base.specs.declared.fragment.Fragment.{Fragment}
use Rattle.tq_base.specs.declared.sort_input.SortKey.{SortKey}
use Rattle.tq_base.specs.declared.sort_input.RunStart.TheVariants.{Unknown}
use Rattle.tq_base.specs.declared.sort_input.Side.TheVariants.{Left}
use Rattle.tq_base.specs.Keys.{key_row, no_row, IsSortKey, SortInputState}
use Rattle.tq_base.specs.Periods.{holds}
use Rattle.tq_base.specs.Sweep.{pairs_tail, upto, upto-cons, upto_none, Rises}
use Rattle.tq_agg.specs.declared.bounds.End.{End}
use Rattle.tq_agg.specs.declared.summands.Summand.{Summand}
use Rattle.tq_agg.specs.Bounds.{end_in, moved, start_in}
use Rattle.tq_agg.specs.Endpoints.{AreInOrder}
use Rattle.tq_agg.specs.Totals.{added, end_key, held_weight, key_weight, total_held, total_of, weight_of, AreSmallEnds, AreSmallKeys, HaveSmall, IsSmall}
use Rattle.tq_agg.proofs.Adding.{added-IsPermutation, added-map}

pub no_end : End
no_end = record { at = 0; row = 0; side = Left }

-- ---- bounds in the window

pub moved_within : (window : Period) (b : ℕ) → (window.start ≤ moved window b) × (moved window b ≤ window.end)
moved_within window b = let ordered : window.start < window.end = window.ordered in (omega arith, omega (arith, ordered))

moved_rises : (window : Period) (a b : ℕ) → a ≤ b → moved window a ≤ moved window b
moved_rises window a b le = omega (arith, le)

-- the keys' starts are in order
pub starts_in_order : (window : Period) (keys : List SortKey) → IsNonDecreasingBy (λ (k : SortKey). k.start) keys → AreInOrder window (map (start_in window) keys)
starts_in_order window keys rise = (
  λ i j d lt below.
      let inside : j < length keys = omega (arith, below, length-map keys (start_in window)) in
      let order = moved_rises window (get_or keys i no_key).start (get_or keys j no_key).start (rise i j no_key (omega (arith, lt)) inside) in
      omega (arith, order, get_or-map (start_in window) keys i no_key d (omega (arith, lt, inside)), get_or-map (start_in window) keys j no_key d inside),
  All-map (λ b. (window.start ≤ b) × (b ≤ window.end)) (start_in window) keys (λ i d lt. moved_within window (get_or keys i d).start),
)
  where
    no_key : SortKey
    no_key = record { prefix = 0; start = 0; row = 0; side = Left; run_start = Unknown }

-- and so are the ends
pub ends_in_order : (window : Period) (ends : List End) → IsSortedByKey (λ (e : End). e.at) nat_cmp ends → All (λ (e : End). (window.start ≤ e.at) × (e.at ≤ window.end)) ends
    → AreInOrder window (map (λ (e : End). e.at) ends)
ends_in_order window ends sorted within = (
  λ i j d lt below.
      let inside : j < length ends = omega (arith, below, length-map ends (λ (e : End). e.at)) in
      let order = IsNonDecreasingBy-from_sort (λ (e : End). e.at) ends sorted i j no_end (omega (arith, lt)) inside in
      omega (arith, order, get_or-map (λ (e : End). e.at) ends i no_end d (omega (arith, lt, inside)), get_or-map (λ (e : End). e.at) ends j no_end d inside),
  All-map (λ b. (window.start ≤ b) × (b ≤ window.end)) (λ (e : End). e.at) ends within,
)

-- ---- the keys and ends of a group

module _ (sort_input : SortInputState) (window : Period) (keys : List SortKey) (ends : List End) (same : IsPermutation (map (end_in sort_input window) keys) ends) where
  pub ends_within : All (λ (e : End). (window.start ≤ e.at) × (e.at ≤ window.end)) ends
  ends_within =
      All-permutation (λ (e : End). (window.start ≤ e.at) × (e.at ≤ window.end)) (map (end_in sort_input window) keys) ends same
      (All-map (λ (e : End). (window.start ≤ e.at) × (e.at ≤ window.end)) (end_in sort_input window) keys (λ i d lt. moved_within window (key_row sort_input (get_or keys i d)).period.end))

  pub keys_small : (s : Summand) → HaveSmall s (map (key_row sort_input) keys) → AreSmallKeys sort_input s keys
  keys_small s have i d lt = subst (λ (f : Fragment). IsSmall s f.values) (get_or-map (key_row sort_input) keys i d no_row lt) (have i no_row (omega (arith, lt, length-map keys (key_row sort_input))))

  pub ends_small : (s : Summand) → HaveSmall s (map (key_row sort_input) keys) → AreSmallEnds sort_input s ends
  ends_small s have =
      All-permutation (λ (e : End). IsSmall s (key_row sort_input (end_key e)).values) (map (end_in sort_input window) keys) ends same
      (All-map (λ (e : End). IsSmall s (key_row sort_input (end_key e)).values) (end_in sort_input window) keys (keys_small s have))

-- ---- at an instant

le_moved : (start end b t : ℕ) → start < end → nat_le (max start (min b end)) t ≡ (nat_le start t && (nat_le b t || nat_le end t))
le_moved start end b t ordered = grind (arith, nat_tests)

cut_cases : (a b s e : Bool) (w : ℤ) → (e ≡ true → s ≡ true) → cond (a && (s || b)) w (pos 0) -ℤ cond (a && (e || b)) w (pos 0) ≡ cond ((s && not e) && (a && not b)) w (pos 0)
cut_cases true true true true w ends = omega (arith, ints)
cut_cases true true true false w ends = omega (arith, ints)
cut_cases true true false true w ends = absurd (false≢true (ends refl))
cut_cases true true false false w ends = omega (arith, ints)
cut_cases true false true true w ends = omega (arith, ints)
cut_cases true false true false w ends = omega (arith, ints)
cut_cases true false false true w ends = absurd (false≢true (ends refl))
cut_cases true false false false w ends = omega (arith, ints)
cut_cases false true true true w ends = omega (arith, ints)
cut_cases false true true false w ends = omega (arith, ints)
cut_cases false true false true w ends = absurd (false≢true (ends refl))
cut_cases false true false false w ends = omega (arith, ints)
cut_cases false false true true w ends = omega (arith, ints)
cut_cases false false true false w ends = omega (arith, ints)
cut_cases false false false true w ends = absurd (false≢true (ends refl))
cut_cases false false false false w ends = omega (arith, ints)

not_le : (t b : ℕ) → nat_lt t b ≡ not (nat_le b t)
not_le t b = grind (arith, nat_tests)

-- what a row adds from its start on, without what it adds from its end on
cut_adds : (p window : Period) (t : ℕ) (w : ℤ) → cond (nat_le (moved window p.start) t) w (pos 0) -ℤ cond (nat_le (moved window p.end) t) w (pos 0) ≡ cond (holds p t && holds window t) w (pos 0)
cut_adds p window t w =
    (λ i. cond (le_moved window.start window.end p.start t window.ordered i) w (pos 0) -ℤ cond (le_moved window.start window.end p.end t window.ordered i) w (pos 0))
    ∙ cut_cases (nat_le window.start t) (nat_le window.end t) (nat_le p.start t) (nat_le p.end t) w (later p.start p.end p.ordered)
    ∙ (λ i. cond ((nat_le p.start t && sym (not_le t p.end) i) && (nat_le window.start t && sym (not_le t window.end) i)) w (pos 0))
  where
    later : (a b : ℕ) → a < b → nat_le b t ≡ true → nat_le a t ≡ true
    later a b lt is = grind (arith, nat_tests)

-- of elements in order, those up to the instant add what each adds from it on
none_added : {X : Type 0} (at : X → ℕ) (w : X → ℤ) (xs : List X) (t : ℕ) → All (λ b. t < b) (map at xs) → added (λ x. cond (nat_le (at x) t) (w x) (pos 0)) xs ≡ pos 0
none_added at w [] t later = refl
none_added at w (x ∷ xs) t later =
    let rest = none_added at w xs t (All-tail (λ b. t < b) (at x) (map at xs) later) in
    let first = not_yet (at x) (w x) (All-head (λ b. t < b) (at x) (map at xs) later) in
    omega (arith, ints, rest, first)
  where
    not_yet : (b : ℕ) (n : ℤ) → t < b → cond (nat_le b t) n (pos 0) ≡ pos 0
    not_yet b n lt = grind (arith, ints, nat_tests)

pub upto_added : {X : Type 0} (at : X → ℕ) (w : X → ℤ) (xs : List X) (t : ℕ) → Rises (map at xs) → added w (take (upto (map at xs) t) xs) ≡ added (λ x. cond (nat_le (at x) t) (w x) (pos 0)) xs
upto_added at w [] t rise = refl
upto_added {X} at w (x ∷ xs) t rise = elim (cases_lt t (at x)) [
  | inl before ↦
      let all : All (λ b. t < b) (at x ∷ map at xs) = later before in
      ap (λ n. added w (take n (x ∷ xs))) (upto_none (at x ∷ map at xs) t all) ∙ sym (none_added at w (x ∷ xs) t all)
  | inr past ↦
      ap (λ n. added w (take n (x ∷ xs))) (one_more past)
      ∙ ap (λ z. w x +ℤ z) (upto_added at w xs t (pairs_tail (λ a b. a ≤ b) (at x) (map at xs) rise))
      ∙ ap (λ z. z +ℤ added (λ y. cond (nat_le (at y) t) (w y) (pos 0)) xs) (sym (begun (at x) (w x) past))
]
  where
    later : t < at x → All (λ b. t < b) (at x ∷ map at xs)
    later before = λ i d lt. elim (cases_lt 0 i) [
      | inl some ↦ let le = rise 0 i d some lt in omega (arith, le, before)
      | inr none ↦ let first : get_or (at x ∷ map at xs) i d ≡ at x = ap (λ n. get_or (at x ∷ map at xs) n d) (let zero' : i ≡ 0 = omega (arith, none) in zero') in omega (arith, first, before)
    ]

    one_more : at x ≤ t → upto (at x ∷ map at xs) t ≡ suc (upto (map at xs) t)
    one_more past = let sum = upto-cons (at x) (map at xs) t in grind (arith, nat_tests)

    begun : (b : ℕ) (n : ℤ) → b ≤ t → cond (nat_le b t) n (pos 0) ≡ n
    begun b n le = grind (arith, ints, nat_tests)

module _ (sort_input : SortInputState) (window : Period) (s : Summand) (t : ℕ) where
  each_held : (keys : List SortKey) → All (IsSortKey sort_input) keys
      → added (λ k. cond (nat_le (start_in window k) t) (key_weight sort_input s k) (pos 0)) keys -ℤ added (λ k. cond (nat_le (end_in sort_input window k).at t) (key_weight sort_input s k) (pos 0)) keys
      ≡ added (held_weight s window t) (map (key_row sort_input) keys)
  each_held [] are = omega (arith, ints)
  each_held (k ∷ keys) are =
      let is : IsSortKey sort_input k = All-head (IsSortKey sort_input) k keys are in
      let row = key_row sort_input k in
      let start : cond (nat_le (start_in window k) t) (key_weight sort_input s k) (pos 0) ≡ cond (nat_le (moved window row.period.start) t) (weight_of s row.values) (pos 0) =
      ap (λ b. cond (nat_le (moved window b) t) (weight_of s row.values) (pos 0)) is.start in
      omega (arith, ints, start, cut_adds row.period window t (weight_of s row.values), each_held keys (All-tail (IsSortKey sort_input) k keys are))

  pub upto_held : (keys : List SortKey) (ends : List End) → All (IsSortKey sort_input) keys → IsPermutation (map (end_in sort_input window) keys) ends
      → Rises (map (start_in window) keys) → Rises (map (λ (e : End). e.at) ends)
      → total_of sort_input s (take (upto (map (start_in window) keys) t) keys) (take (upto (map (λ (e : End). e.at) ends) t) ends) ≡ total_held s window (map (key_row sort_input) keys) t
  upto_held keys ends are same rise ends_rise =
      let w : End → ℤ = λ e. cond (nat_le e.at t) (key_weight sort_input s (end_key e)) (pos 0) in
      omega (
        arith,
        ints,
        upto_added (start_in window) (key_weight sort_input s) keys t rise,
        upto_added (λ (e : End). e.at) (λ e. key_weight sort_input s (end_key e)) ends t ends_rise,
        added-IsPermutation w (map (end_in sort_input window) keys) ends same,
        added-map w (end_in sort_input window) keys,
        each_held keys are,
      )
