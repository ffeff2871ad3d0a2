use Rattle.std.proofs.Common.{List, sym, subst}
use Rattle.std.proofs.lemmas.Result.{IfOk-weaker}
use Rattle.tq_base.specs.RowLists.{RowList}
use Rattle.tq_event.specs.Tables.{lists_of}
use Rattle.tq_exec.specs.Fitting.{AreAllFitting}
use Rattle.tq_profile.specs.Figures.{AreFigures}
use Rattle.tq_profile.proofs.profiles.explain_answer.Goals as goal

pub returns : goal.returns
returns c =
    IfOk-weaker c.figures_text.result _ _
    (λ text is. record {
      figures = c.in_ok-figures.figures;
      are_figures = subst (λ (tables : List RowList). AreFigures (lists_of tables) c.args.plan.now c.args.rows c.in_ok-figures.figures) c.get.ensures c.in_ok-figures.ensures;
      is = is;
    })
    c.figures_text.ensures

pub invariant_of-all : goal.invariant_of-all
invariant_of-all c = record { fit = subst (λ (tables : List RowList). AreAllFitting c.args.tables.now.catalogue (lists_of tables)) (sym c.get.ensures) c.requires.fit }
