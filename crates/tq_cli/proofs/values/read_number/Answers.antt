use Rattle.std.proofs.Common.{◌∙◌}
use Rattle.std.specs.Str.Parse.{ParsesUnsigned, ExplainsUnsignedError, HasUnsignedDigitsIfOk}
use Rattle.clap.specs.Words.{found_of}
use Rattle.clap.proofs.WalkLemmas.{one_text-rows}
use Rattle.tq_cli.proofs.RequestLemmas.{number_read}
use Rattle.tq_cli.proofs.values.read_number.Goals as goal

pub returns : goal.returns
returns c =
    let at = one_text-rows (found_of c.args.command.now) c.args.id.now in
    rw c.unwrap_or.ensures (number_read (λ bs r. ParsesUnsigned 32 10 bs r × ExplainsUnsignedError 10 bs r × HasUnsignedDigitsIfOk bs r) _ c.get_one.result (λ t x g. g.0)
    (λ e. c.get_one.ensures.none (at ∙ e)) (λ t e. c.get_one.ensures.value t (at ∙ e)))
