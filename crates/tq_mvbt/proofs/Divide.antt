-- Entries in the order of their low keys, split in the middle.
use Rattle.std.proofs.Common.{◌≡◌, ℕ, ◌+◌, ◌/◌, ◌<◌, ◌≤◌, List, length, take, drop, get_or, refl, arith, length-take, length-drop}
use Rattle.std.specs.Prelude.{All, IsPermutation}
use Rattle.std.specs.List.Sorted.{IsNonDecreasingBy}
use Rattle.std.proofs.lemmas.List.{take-append-drop, drop_more}
use Rattle.std.proofs.lemmas.Grind.{elements}
use Rattle.std.proofs.lemmas.List.Elements.{All-from_get_or}
use Rattle.tq_mvbt.specs.declared.entry.Entry.{Entry}
use Rattle.tq_mvbt.specs.Steps.{IsDivided}

below_middle : (xs : List Entry) (h : ℕ) (d : Entry) → h < length xs → IsNonDecreasingBy (λ e. e.low) xs → All (λ e. e.low ≤ (get_or xs h d).low) (take h xs)
below_middle xs h d l rises =
    All-from_get_or (λ e. e.low ≤ (get_or xs h d).low) (take h xs) d
    (λ i j. let k : i < h = omega (arith, j, length-take h xs) in let same : get_or (take h xs) i d ≡ get_or xs i d = grind (arith, elements) in rw same (rises i h d (omega arith) l))

above_middle : (xs : List Entry) (h : ℕ) (d : Entry) → h < length xs → IsNonDecreasingBy (λ e. e.low) xs → All (λ e. (get_or xs h d).low ≤ e.low) (drop h xs)
above_middle xs h d l rises =
    All-from_get_or (λ e. (get_or xs h d).low ≤ e.low) (drop h xs) d
    (λ i j. let k : h + i < length xs = omega (arith, j, length-drop h xs) in let same : get_or (drop h xs) i d ≡ get_or xs (h + i) d = grind (arith, elements) in rw same (rises h (h + i) d (omega arith) k))

pub divided : (items sorted : List Entry) (d : Entry) → 2 ≤ length items → IsPermutation items sorted → length sorted ≡ length items → IsNonDecreasingBy (λ e. e.low) sorted → IsDivided items (take (length items / 2) sorted) (drop (length items / 2) sorted) (get_or sorted (length items / 2) d).low
divided items sorted d many same len rises =
    let h = length items / 2 in
    let l : h < length sorted = omega arith in
    record {
      same = rw (take-append-drop) same;
      below = below_middle sorted h d l rises;
      above = above_middle sorted h d l rises;
      least = get_or sorted h d;
      rest = drop (h + 1) sorted;
      first = drop_more sorted h d l;
      middle_is = refl;
      lower_len = omega (arith, length-take h sorted);
      upper_len = omega (arith, length-drop h sorted);
    }

pub divided_by : (items sorted lower upper : List Entry) (n : ℕ) (d : Entry) → n ≡ length items → lower ≡ take (n / 2) sorted → upper ≡ drop (n / 2) sorted → 2 ≤ length items → IsPermutation items sorted → length sorted ≡ length items → IsNonDecreasingBy (λ e. e.low) sorted → IsDivided items lower upper (get_or upper 0 d).low
divided_by items sorted lower upper n d count front back many same len rises =
    let h = length items / 2 in
    let l : h < length sorted = omega arith in
    let first : get_or (drop h sorted) 0 d ≡ get_or sorted h d = rw (drop_more sorted h d l) refl in
    rw (front, back, count, first) (divided items sorted d many same len rises)
