-- The prefetched periods of keys, from one key on.
use Rattle.std.proofs.Common.{◌≡◌, ◌∙◌, ◌≤◌, ◌+◌, ◌-◌, ℕ, List, ap, arith, drop, length, map, sym, take, get_or}
use Rattle.std.specs.List.{slice_range}
use Rattle.std.proofs.lemmas.List.{drop-drop, drop-map, drop-take, length-drop, length-map, length-take-le, take-map, take-take}
use Rattle.tq_base.specs.declared.period.Period.{Period}
use Rattle.tq_base.specs.declared.sort_input.SortKey.{SortKey}
use Rattle.tq_base.specs.Keys.{no_row}
use Rattle.tq_table.specs.Prefetching.{periods_of_keys}

-- part of the prefetched periods is part of all
pub part : (all found : List Period) (from start end : ℕ) → found ≡ take (length found) (drop from all) → from ≤ start → start ≤ end → end ≤ from + length found
    → take (end - from - (start - from)) (drop (start - from) found) ≡ slice_range all start end
part all found from start end are after order there =
    let before = start - from in
    let len = end - from - before in
    let rest = length found - before in
    let split : length found ≡ before + rest = omega (arith, after, order, there) in
    let fits : len ≤ rest = omega (arith, after, order, there) in
    let many : len ≡ end - start = omega (arith, after, order, there) in
    let place : from + before ≡ start = omega (arith, after) in
    ap (λ l. take len (drop before l)) are
    ∙ ap (λ n. take len (drop before (take n (drop from all)))) split
    ∙ ap (take len) (drop-take before rest (drop from all))
    ∙ take-take len rest (drop before (drop from all)) fits
    ∙ ap (take len) (drop-drop before from all)
    ∙ ap (λ n. take n (drop (from + before) all)) many
    ∙ ap (λ n. take (end - start) (drop n all)) place

-- the periods of consecutive keys
pub of_part : (periods : List Period) (keys : List SortKey) (start until : ℕ) (found : List Period) → start ≤ until → until ≤ length keys → found ≡ periods_of_keys periods (slice_range keys start until)
    → found ≡ take (length found) (drop start (periods_of_keys periods keys))
of_part periods keys start until found order within are =
    let f : SortKey → Period = λ k. get_or periods k.row no_row.period in
    let all = drop start (map f keys) in
    let same : found ≡ take (until - start) all = are ∙ sym (take-map f (until - start) (drop start keys)) ∙ ap (take (until - start)) (sym (drop-map f start keys)) in
    let long : until - start ≤ length all = omega (arith, order, within, length-drop start (map f keys), length-map keys f) in
    let many : length found ≡ until - start = ap length same ∙ length-take-le (until - start) all long in
    same ∙ ap (λ n. take n all) (sym many)
