use Rattle.std.proofs.Common.{◌∙◌, ◌++◌, ◌∷◌, [], ap, append_assoc, arith, get_or, map, sym, take}
use Rattle.std.proofs.lemmas.List.{map-append, take_more}
use Rattle.tq_base.specs.declared.fragment.Fragment.{Fragment}
use Rattle.tq_base.specs.Keys.{no_row}
use Rattle.tq_base.specs.RowValues.{value_at}
use Rattle.tq_exec.specs.Partitions.{partition_of}
use Rattle.tq_exec.proofs.partition_ids.ids_between.Goals as goal

pub rows-preserved : goal.rows-preserved
rows-preserved c =
    let rows = c.args.rows.now.items in
    let place = c.rows.number in
    let partition = λ (row : Fragment). partition_of c.args.cuts.now (value_at row.values c.args.column) in
    let before = map partition (take c.args.start rows) in
    ap (λ l. before ++ l) c.in_ok-push.ensures.items
    ∙ sym (append_assoc before c.rows.ids.items (c.id_of_row.result ∷ []))
    ∙ ap (λ l. l ++ c.id_of_row.result ∷ []) c.rows.invariant
    ∙ ap (λ n. map partition (take place rows) ++ n ∷ []) (c.id_of_row.ensures no_row)
    ∙ sym (ap (map partition) (take_more rows place no_row (omega (arith, c.rows-test.true, c.requires.within))) ∙ map-append partition (take place rows) (get_or rows place no_row ∷ []))
