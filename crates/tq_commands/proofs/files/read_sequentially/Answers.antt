use Rattle.std.proofs.Common.{◌∙◌, ◌++◌, ap, sym}
use Rattle.std.specs.Vec.Iter.{into_iter_items}
use Rattle.std.proofs.lemmas.Result.{err_from_is_err_and}
use Rattle.tq_commands.proofs.ReadErrorLemmas.{middle_contained}
use Rattle.tq_commands.proofs.files.read_sequentially.Goals as goal

pub returns-in_err-read_table-clause-refused : goal.returns-in_err-read_table-clause-refused
returns-in_err-read_table-clause-refused g c =
    let fault = err_from_is_err_and c.from_residual.result c.from_residual.ensures.1 in
    let whole = ap (λ l. c.options.yielded ++ l) (sym c.in-Some.ensures.steps.0) ∙ c.options.invariant.reads in
    rw (fault.1, fault.2) (λ known. (
      c.in-Some.option,
      middle_contained c.options.yielded c.in-Some.option (into_iter_items c.next.new.self) c.args.options.items whole,
      c.in_err-read_table.ensures.refused known,
    ))
