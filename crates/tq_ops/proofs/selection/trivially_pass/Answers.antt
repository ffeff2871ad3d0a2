use Rattle.std.proofs.Common.{◌≡◌, ◌<◌, ◌∙◌, ap, get_or, length, pos, sym, true, arith}
use Rattle.std.specs.List.{list_all}
use Rattle.std.proofs.lemmas.List.{get_or-map, length-map}
use Rattle.std.proofs.lemmas.List.Sums.{AllPass-from_list_all}
use Rattle.tq_base.specs.declared.fragment.Fragment.{Fragment}
use Rattle.tq_base.specs.Contents.{Int}
use Rattle.tq_base.specs.KeyRanges.{is_number_in}
use Rattle.tq_base.specs.Relations.{column_of}
use Rattle.tq_base.specs.RowValues.{value_at}
use Rattle.tq_condition.proofs.Sufficing.{number_there}
use Rattle.tq_ops.proofs.selection.trivially_pass.Goals as goal

pub returns : goal.returns
returns c = λ told k d less.
    let items = c.args.rows.now.items in
    let column = c.in-Some.sufficient_range.column in
    let range = c.in-Some.sufficient_range.range in
    let all : list_all (is_number_in range) (column_of items column) ≡ true = sym (c.are_numbers_in.ensures ∙ ap (list_all (is_number_in range)) c.column.ensures) ∙ told in
    let inside : k < length (column_of items column) = omega (arith, less, length-map items (λ (row : Fragment). value_at row.values column)) in
    let here : is_number_in range (get_or (column_of items column) k (Int (pos 0))) ≡ true = AllPass-from_list_all (is_number_in range) (column_of items column) all k (Int (pos 0)) inside in
    let cell : get_or (column_of items column) k (Int (pos 0)) ≡ value_at (get_or items k d).values column =
    get_or-map (λ (row : Fragment). value_at row.values column) items k d (Int (pos 0)) less in
    let there = number_there range (value_at (get_or items k d).values column) (sym (ap (is_number_in range) cell) ∙ here) in
    c.in-Some.ensures (get_or items k d).values there.0 there.1 there.2
