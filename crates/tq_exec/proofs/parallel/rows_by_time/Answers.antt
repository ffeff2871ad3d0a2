use Rattle.std.proofs.Common.{◌∙◌, ℕ, ap, arith, length, subst, sym}
use Rattle.std.specs.Prelude.{All, slice_index_or}
use Rattle.std.proofs.lemmas.Result.{IfOk-weaker}
use Rattle.tq_base.specs.Fragments.{copies}
use Rattle.tq_base.specs.RowLists.{RowList}
use Rattle.tq_event.specs.Tables.{lists_of}
use Rattle.tq_exec.specs.Answers.{in_tables, times_at, times_within}
use Rattle.tq_exec.specs.Parts.{AddUp}
use Rattle.tq_table.specs.Merging.{AreOfWidth}
use Rattle.tq_exec.proofs.PartLemmas.{parts_have_rows}
use Rattle.tq_exec.proofs.PieceLemmas.{periods_are_parts, pieces_wide}
use Rattle.tq_exec.proofs.parallel.rows_by_time.Goals as goal

pub chained-requires : goal.chained-requires
chained-requires g c =
    let plan = c.args.plan.now in
    subst (λ outputs. All (AreOfWidth (length outputs)) c.in_ok-pieces.pieces.items) (sym c.get.ensures)
    (pieces_wide (in_tables (lists_of c.args.all.tables.now)) plan c.args.periods.now c.in_ok-pieces.pieces.items c.in_ok-pieces.ensures.many c.in_ok-pieces.ensures.pieces)

pub returns-clause-rows : goal.returns-clause-rows
returns-clause-rows g c v t =
    let plan = c.args.plan.now in
    let valid = in_tables (lists_of c.args.all.tables.now) in
    let periods = c.args.periods.now in
    let pieces = c.in_ok-pieces.pieces.items in
    let many = c.in_ok-pieces.ensures.many in
    let part = λ (i : ℕ). times_within valid plan (slice_index_or periods i plan.window) v t in
    let counted = parts_have_rows v t pieces part (times_at valid plan v t)
    (subst (λ n. AddUp n part (times_at valid plan v t)) (sym many) (periods_are_parts valid plan periods plan.window c.requires.tile v t))
    (λ i d less. (c.in_ok-pieces.ensures.pieces i d (omega (arith, less, many)) plan.window).counted v t) in
    IfOk-weaker c.owned.result _ _
    (λ relation same. ap (λ (r : RowList). copies r.items v t) same ∙ ap (λ l. copies l v t) c.in_ok-chained.ensures.rows ∙ counted)
    c.owned.ensures
