-- Lists of rows, each with values below those of every later list: the layers of the ranges, one after the other, are
-- the layers of all.
use Rattle.std.specs.Prelude.{◌≡◌, ℕ, suc, ◌+◌, ◌<◌, List, [], ◌∷◌, ◌++◌, length, slice_index_or, sum_by, refl, All}
use Rattle.std.specs.List.{flat_map, range_with_len}
use Rattle.std.proofs.Common.{ap, sym, ◌∙◌, arith, get_or}
use Rattle.std.specs.Ordering.{is_lt}
use Rattle.std.proofs.lemmas.List.Concat.{flat_map-cons}
use Rattle.std.proofs.lemmas.List.Elements.{All-append, All-nil}
use Rattle.std.proofs.lemmas.List.Sums.{sum_by-cons}
use Rattle.tq_base.specs.declared.value.Value.{Value}
use Rattle.tq_base.specs.declared.fragment.Fragment.{Fragment}
use Rattle.tq_base.specs.Copies.{copies-append}
use Rattle.tq_base.specs.Fragments.{fragment_cmp}
use Rattle.tq_base.specs.Groups.{below_differs, not_less, sorted-append, Below}
use Rattle.tq_base.specs.Layers.{IsCoalesced, IsLayers, TakesIn}

-- each row of the first list has values below those of each row of the second
abbrev pub AreBelow : List Fragment → List Fragment → Type 0
AreBelow rows others = All (λ f. All (λ g. Below f.values g.values) others) rows

-- the rows of each list are below those of every later list
abbrev pub AreAscending : List (List Fragment) → Type 0
AreAscending lists = (i j : ℕ) (d : List Fragment) → i < j → j < length lists → AreBelow (slice_index_or lists i d) (slice_index_or lists j d)

-- the concatenation of the lists
abbrev pub one_after_other : List (List Fragment) → List Fragment
one_after_other lists = flat_map (λ rows. rows) lists

-- ---- two lists

coalesced-append : (rows others : List Fragment) → IsCoalesced rows → IsCoalesced others → AreBelow rows others → IsCoalesced (rows ++ others)
coalesced-append rows others first second below =
    All-append (λ f. All (λ g. f.values ≡ g.values → TakesIn f.period g.period) (rows ++ others)) rows others
    (λ k d less.
    let f = get_or rows k d in
    All-append (λ g. f.values ≡ g.values → TakesIn f.period g.period) rows others (first k d less)
    (λ j e in' same. absurd (below_differs f.values (get_or others j e).values (below k d less j e in') same)))
    (λ k d less.
    let f = get_or others k d in
    All-append (λ g. f.values ≡ g.values → TakesIn f.period g.period) rows others
    (λ j e in' same. absurd (below_differs (get_or rows j e).values f.values (below j e in' k d less) (sym same)))
    (second k d less))

-- the layers of some values, followed by the layers of greater values, are the layers of both
pub layers_follow : (m n : List Value → ℕ → ℕ) (rows others : List Fragment) → IsLayers m rows → IsLayers n others → AreBelow rows others → IsLayers (λ v t. m v t + n v t) (rows ++ others)
layers_follow m n rows others first second below = record {
  ordered = sorted-append (λ x y. is_lt (fragment_cmp x y)) rows others first.ordered second.ordered
      (λ k d less j e in'. not_less (get_or rows j e) (get_or others k d) (below j e in' k d less));
  coalesced = coalesced-append rows others first.coalesced second.coalesced below;
  counted = λ v t. omega (arith, copies-append rows others v t, first.counted v t, second.counted v t);
}

-- ---- any number of lists

all_of : (P : Fragment → Type 0) (lists : List (List Fragment)) → ((j : ℕ) (d : List Fragment) → j < length lists → All P (get_or lists j d)) → All P (one_after_other lists)
all_of P [] each = All-nil P
all_of P (rows ∷ lists) each =
    rw (flat_map-cons (λ (l : List Fragment). l) rows lists)
    (All-append P rows (one_after_other lists) (each 0 rows (omega arith)) (all_of P lists (λ j d less. each (suc j) d (omega (arith, less)))))

-- if each list is the layers of a count of copies, their concatenation is the layers of the sum of the counts
pub layers_of_all : (count : ℕ → List Value → ℕ → ℕ) (first : ℕ) (lists : List (List Fragment)) → ((i : ℕ) (d : List Fragment) → i < length lists → IsLayers (count (first + i)) (get_or lists i d)) → AreAscending lists
    → IsLayers (λ v t. sum_by (λ i. count i v t) (range_with_len first (length lists))) (one_after_other lists)
layers_of_all count first [] each order = record { ordered = λ k d low high. absurd (omega (arith, low, high)); coalesced = All-nil _; counted = λ v t. refl }
layers_of_all count first (rows ∷ lists) each order =
    let here : IsLayers (count (first + 0)) rows = each 0 rows (omega arith) in
    let same : first + 0 ≡ first = omega arith in
    let rest = layers_of_all count (first + 1) lists
    (λ i d less. let next : first + suc i ≡ first + 1 + i = omega arith in rw next at (each (suc i) d (omega (arith, less))))
    (λ i j d before within. order (suc i) (suc j) d (omega (arith, before)) (omega (arith, within))) in
    let below : AreBelow rows (one_after_other lists) =
    λ k d less. all_of (λ g. Below (get_or rows k d).values g.values) lists (λ j e within. order 0 (suc j) e (omega arith) (omega (arith, within)) k d less) in
    let both = layers_follow (count (first + 0)) (λ v t. sum_by (λ i. count i v t) (range_with_len (first + 1) (length lists))) rows (one_after_other lists) here rest below in
    rw (flat_map-cons (λ (l : List Fragment). l) rows lists) (record {
      ordered = both.ordered;
      coalesced = both.coalesced;
      counted = λ v t. both.counted v t ∙ ap (λ n. count n v t + sum_by (λ i. count i v t) (range_with_len (first + 1) (length lists))) same ∙ sym (sum_by-cons (λ i. count i v t) first (range_with_len (first + 1) (length lists)));
    })
