-- Values compared place by place.
use Rattle.std.proofs.Common.{◌≡◌, ◌≢◌, ◌∙◌, ◌+◌, ◌<◌, ◌≤◌, ℕ, List, [], ◌∷◌, ap, ap₂, arith, drop, get_or, length, map, min, refl, subst, sym}
use Rattle.std.specs.Prelude.{All}
use Rattle.std.specs.List.{range_with_len}
use Rattle.std.specs.Cmp.{nat_cmp_is}
use Rattle.std.specs.Ordering.{nat_cmp, ordering_then}
use Rattle.std.specs.declared.cmp.Ordering.{Ordering}
use Rattle.std.specs.declared.cmp.Ordering.TheVariants.{Less, Equal, Greater}
use Rattle.std.proofs.lemmas.List.{drop_more, length-drop, length-map}
use Rattle.std.proofs.lemmas.List.{get_or-map, get_or_default, same_lists}
use Rattle.std.proofs.lemmas.List.FromFn.{get_or-map-range_with_len, length-map-range_with_len}
use Rattle.tq_base.specs.Keys.{no_row}
use Rattle.tq_base.specs.Relations.{row_period_of}
use Rattle.tq_base.specs.ValueOrder.{value_cmp, values_cmp}
use Rattle.tq_base.specs.declared.fragment.Fragment.{Fragment}
use Rattle.tq_base.specs.declared.relation.RowPeriod.{RowPeriod}
use Rattle.tq_base.specs.declared.value.Value.{Value}
use Rattle.tq_report.specs.Times.{row_key}

-- the next place decides, or the places after it
pub next_place : (a b : List Value) (p : ℕ) (d : Value) → p < length a → p < length b
    → values_cmp (drop p a) (drop p b) ≡ ordering_then (value_cmp (get_or a p d) (get_or b p d)) (values_cmp (drop (p + 1) a) (drop (p + 1) b))
next_place a b p d in_a in_b = ap₂ values_cmp (drop_more a p d in_a) (drop_more b p d in_b)

pub decided : (first rest : Ordering) → first ≢ Equal → ordering_then first rest ≡ first
decided Less rest other = refl
decided Equal rest other = absurd (other refl)
decided Greater rest other = refl

pub undecided : (first rest : Ordering) → first ≡ Equal → ordering_then first rest ≡ rest
undecided first rest is = rw is refl

by_lengths : (a b : List Value) (p m n : ℕ) → length a + p ≡ m → length b + p ≡ n → min (length a) (length b) ≡ 0 → values_cmp a b ≡ nat_cmp m n
by_lengths [] [] p m n in_a in_b none = nat_cmp_is m n Equal (omega (arith, in_a, in_b))
by_lengths [] (y ∷ b) p m n in_a in_b none = nat_cmp_is m n Less (omega (arith, in_a, in_b))
by_lengths (x ∷ a) [] p m n in_a in_b none = nat_cmp_is m n Greater (omega (arith, in_a, in_b))
by_lengths (x ∷ a) (y ∷ b) p m n in_a in_b none = absurd (omega (arith, none))

-- after the last common place the lengths decide
pub rest_by_lengths : (a b : List Value) (p : ℕ) → p ≤ length a → p ≤ length b → min (length a) (length b) ≤ p
    → values_cmp (drop p a) (drop p b) ≡ nat_cmp (length a) (length b)
rest_by_lengths a b p in_a in_b past =
    let len_a = length-drop p a in
    let len_b = length-drop p b in
    by_lengths (drop p a) (drop p b) p (length a) (length b) (omega (arith, len_a, in_a)) (omega (arith, len_b, in_b)) (omega (arith, len_a, len_b, past))

-- ---- keys

abbrev keys : List Fragment → List RowPeriod
keys rows = map (row_key rows) (range_with_len 0 (length rows))

-- the key of each row has its number
pub keys_within : (rows : List Fragment) → All (λ (key : RowPeriod). key.row < length rows) (keys rows)
keys_within rows k d less =
    let within : k < length rows = omega (arith, less, length-map-range_with_len (row_key rows) 0 (length rows)) in
    subst (λ (key : RowPeriod). key.row < length rows) (sym (get_or-map-range_with_len (row_key rows) 0 (length rows) k k d within (omega arith))) within

-- the rows of the keys are the rows
pub keys_rows : (rows : List Fragment) → map (row_period_of rows) (keys rows) ≡ rows
keys_rows rows =
    let long = length-map-range_with_len (row_key rows) 0 (length rows) in
    same_lists (map (row_period_of rows) (keys rows)) rows (length-map (keys rows) (row_period_of rows) ∙ long)
    (λ k d less.
    let e : RowPeriod = record { row = 0; period = d.period } in
    let there : k < length (keys rows) = omega (arith, less, length-map (keys rows) (row_period_of rows)) in
    let within : k < length rows = omega (arith, there, long) in
    get_or-map (row_period_of rows) (keys rows) k e d there
    ∙ ap (row_period_of rows) (get_or-map-range_with_len (row_key rows) 0 (length rows) k k e within (omega arith))
    ∙ get_or_default rows k no_row d within)
