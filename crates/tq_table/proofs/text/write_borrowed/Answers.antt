use Rattle.std.proofs.Common.{◌≡◌, ◌∙◌, ◌<◌, ◌≤◌, ◌+◌, ◌-◌, ◌++◌, ◌∷◌, [], ℕ, List, ap, arith, drop, get_or, length, map, rules, subst, sym, take}
use Rattle.std.proofs.lemmas.List.{flat_map_more, get_or-take, length-take, take_more}
use Rattle.std.proofs.lemmas.List.Elements.{All-take}
use Rattle.csv.specs.Writing.{row_text}
use Rattle.tq_base.specs.declared.fragment.Fragment.{Fragment}
use Rattle.tq_base.specs.Keys.{no_row}
use Rattle.tq_base.specs.Values.{value_ref}
use Rattle.tq_table.specs.Text.{answer_format, row_fields, rows_text}
use Rattle.tq_table.specs.Writing.{HasWritten}
use Rattle.tq_table.proofs.BorrowLemmas.{next-row}
use Rattle.tq_table.proofs.text.write_borrowed.Goals as goal

pub overflow_add-to : goal.overflow_add-to
overflow_add-to c =
    let rows = c.args.rows.now in
    let end = c.args.end in
    let within : c.rows.row < length (take end rows) = omega (arith, length-take end rows, c.rows-test.true, c.requires.within) in
    let wide = All-take (λ (r : Fragment). length r.values ≡ c.width-width.result) end rows c.width-width.ensures in
    let next = next-row c.args.borrows.now (take end rows) c.rows.from c.rows.row c.width-width.result no_row c.rows.invariant.within within wide c.rows.invariant.rest in
    let fits : c.rows.from + c.width-width.result ≤ length c.args.borrows.now = next.fits in
    search rules

pub slice_bounds-write_row-end : goal.slice_bounds-write_row-end
slice_bounds-write_row-end c =
    let rows = c.args.rows.now in
    let end = c.args.end in
    let within : c.rows.row < length (take end rows) = omega (arith, length-take end rows, c.rows-test.true, c.requires.within) in
    let wide = All-take (λ (r : Fragment). length r.values ≡ c.width-width.result) end rows c.width-width.ensures in
    let next = next-row c.args.borrows.now (take end rows) c.rows.from c.rows.row c.width-width.result no_row c.rows.invariant.within within wide c.rows.invariant.rest in
    let fits : c.rows.from + c.width-width.result ≤ length c.args.borrows.now = next.fits in
    search rules

pub rows-preserved : goal.rows-preserved
rows-preserved c =
    let rows = c.args.rows.now in
    let end = c.args.end in
    let at = c.rows.row in
    let form = c.args.form in
    let within : at < length (take end rows) = omega (arith, length-take end rows, c.rows-test.true, c.requires.within) in
    let wide = All-take (λ (r : Fragment). length r.values ≡ c.width-width.result) end rows c.width-width.ensures in
    let next = next-row c.args.borrows.now (take end rows) c.rows.from at c.width-width.result no_row c.rows.invariant.within within wide c.rows.invariant.rest in
    let line = λ (row : Fragment). row_text answer_format (row_fields form row) in
    let so_far = take at rows in
    let here = get_or rows at no_row in
    let borrows = take (c.rows.from + c.width-width.result - c.rows.from) (drop c.rows.from c.args.borrows.now) in
    let row : Fragment = record { values = map value_ref borrows; period = c.period.result } in
    let part : borrows ≡ take c.width-width.result (drop c.rows.from c.args.borrows.now) = ap (λ n. take n (drop c.rows.from c.args.borrows.now)) (omega arith) in
    let values : map value_ref borrows ≡ here.values =
    ap (map value_ref) part ∙ next.front ∙ ap (λ (r : Fragment). r.values) (get_or-take end rows at no_row c.rows-test.true) in
    let is_row : row ≡ here = λ i. record { values = values i; period = c.period.ensures no_row i } in
    let longer : (text : List ℕ) → (text ++ rows_text form so_far) ++ line row ≡ text ++ rows_text form (take (at + 1) rows) = λ text.
    flat_map_more line text so_far row ∙ ap (λ (r : Fragment). text ++ rows_text form (so_far ++ r ∷ [])) is_row
    ∙ ap (λ l. text ++ rows_text form l) (sym (take_more rows at no_row (omega (arith, c.rows-test.true, c.requires.within)))) in
    record {
      within = next.fits;
      rest = next.rest;
      written = λ text is.
          let before = c.rows.invariant.written text is in
          let written = c.in_ok-write_row.ensures (text ++ rows_text form so_far) before in
          subst (HasWritten c.write_row.new.writer) (longer text) written;
    }
