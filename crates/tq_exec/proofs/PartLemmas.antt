-- The law of a divided execution: parts that add up to the whole have together its rows.
use Rattle.std.proofs.Common.{◌≡◌, ◌<◌, ◌+◌, ◌∙◌, ℕ, suc, List, [], ◌∷◌, ap, arith, get_or, length, refl, sum_by}
use Rattle.std.specs.List.{range_with_len}
use Rattle.std.proofs.lemmas.List.Sums.{sum_by-cons}
use Rattle.tq_base.specs.Copies.{copies-append}
use Rattle.tq_base.specs.Fragments.{copies}
use Rattle.tq_base.specs.Ranges.{layers_of_all}
use Rattle.tq_base.specs.RowLists.{RowList}
use Rattle.tq_agg.specs.Grouping.{Row}
use Rattle.tq_table.specs.Merging.{all_rows}
use Rattle.tq_exec.specs.Parts.{PartsHaveLayers, PartsHaveRows}

-- a sum over the elements of a list, by their numbers
pub by_number : {X : Type 0} (f : X → ℕ) (part : ℕ → ℕ) (first : ℕ) (xs : List X) → ((i : ℕ) (d : X) → i < length xs → f (get_or xs i d) ≡ part (first + i)) → sum_by f xs ≡ sum_by part (range_with_len first (length xs))
by_number f part first [] are = refl
by_number f part first (x ∷ xs) are =
    let here : f x ≡ part first = are 0 x (omega arith) ∙ ap part (let none : first + 0 ≡ first = omega arith in none) in
    let later = by_number f part (first + 1) xs (λ i d less. are (suc i) d (omega (arith, less)) ∙ ap part (let next : first + suc i ≡ first + 1 + i = omega arith in next)) in
    omega (arith, here, later, sum_by-cons f x xs, sum_by-cons part first (range_with_len (first + 1) (length xs)))

copies_of_all : (v : Row) (t : ℕ) (lists : List RowList) → copies (all_rows lists) v t ≡ sum_by (λ (l : RowList). copies l.items v t) lists
copies_of_all v t [] = refl
copies_of_all v t (l ∷ ls) = omega (arith, copies-append l.items (all_rows ls) v t, copies_of_all v t ls, sum_by-cons (λ (l : RowList). copies l.items v t) l ls)

pub parts_have_rows : PartsHaveRows
parts_have_rows v t lists part whole add_up are =
    copies_of_all v t lists
    ∙ by_number (λ (l : RowList). copies l.items v t) part 0 lists (λ i d less. are i d less ∙ ap part (let same : i ≡ 0 + i = omega arith in same))
    ∙ add_up

pub parts_have_layers : PartsHaveLayers
parts_have_layers lists part whole are each order =
    let layers = layers_of_all part 0 lists (λ i d less. let here : 0 + i ≡ i = omega arith in rw here (each i d less)) order in
    record {
      ordered = layers.ordered;
      coalesced = layers.coalesced;
      counted = λ v t. layers.counted v t ∙ are v t;
    }
