use Rattle.std.proofs.Common.{◌∙◌, subst}
use Rattle.std.proofs.lemmas.Result.{IfOk-weaker}
use Rattle.tq_exec.specs.AnswerParts.{AreMade}
use Rattle.tq_exec.proofs.parallel.parts_of_found.Goals as goal

pub returns : goal.returns
returns g c =
    IfOk-weaker c.parts_of_rows.result _ _
    (λ made have. record {
      rows = have.rows;
      layers = record {
        ordered = have.layers.ordered;
        coalesced = have.layers.coalesced;
        counted = λ v t. have.layers.counted v t ∙ c.in_ok-rows.ensures.rows v t;
      };
      are = subst (λ width. AreMade c.args.wanted width have.rows made.items) c.in_ok-rows.ensures.width have.are;
    })
    c.parts_of_rows.ensures
