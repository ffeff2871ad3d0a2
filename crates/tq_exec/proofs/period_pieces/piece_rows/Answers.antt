use Rattle.std.proofs.Common.{◌≡◌, ◌∙◌, ap, length, subst, sym}
use Rattle.std.specs.Prelude.{All}
use Rattle.std.proofs.lemmas.Result.{IfOk-weaker}
use Rattle.tq_base.specs.declared.fragment.Fragment.{Fragment}
use Rattle.tq_base.specs.Fragments.{copies}
use Rattle.tq_event.specs.Tables.{lists_of}
use Rattle.tq_exec.specs.Answers.{in_tables}
use Rattle.tq_exec.specs.PeriodPieces.{IsPiece}
use Rattle.tq_exec.proofs.period_pieces.piece_rows.Goals as goal

pub returns : goal.returns
returns c =
    let lines = c.in_ok-coalesce.field-0 in
    let wide : All (λ (row : Fragment). length row.values ≡ length c.args.plan.now.left.outputs) lines =
    subst (λ w. All (λ (row : Fragment). length row.values ≡ w) lines) c.in_ok-rows.ensures.width c.in_ok-coalesce.ensures.width in
    IfOk-weaker c.copied-2.result _ (IsPiece (in_tables (lists_of c.args.snapshot.now.tables.now)) c.args.plan.now c.args.period.now)
    (λ rows same. record {
      wide = subst (All (λ (row : Fragment). length row.values ≡ length c.args.plan.now.left.outputs)) (sym same) wide;
      counted = λ v t. ap (λ r. copies r v t) same ∙ c.in_ok-coalesce.ensures.layers.counted v t ∙ c.in_ok-rows.ensures.rows v t;
    })
    c.copied-2.ensures
