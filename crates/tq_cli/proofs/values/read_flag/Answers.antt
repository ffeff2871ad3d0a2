use Rattle.std.proofs.Common.{◌∙◌}
use Rattle.std.specs.Str.Parse.{ParsesBool}
use Rattle.clap.specs.Words.{found_of}
use Rattle.clap.proofs.WalkLemmas.{one_text-rows}
use Rattle.tq_cli.proofs.RequestLemmas.{flag_read}
use Rattle.tq_cli.proofs.values.read_flag.Goals as goal

pub returns : goal.returns
returns c =
    let at = one_text-rows (found_of c.args.command.now) c.args.id.now in
    rw c.unwrap_or.ensures (flag_read (λ bs r. ParsesBool bs r) _ c.get_one.result (λ t x g. g)
    (λ e. c.get_one.ensures.none (at ∙ e)) (λ t e. c.get_one.ensures.value t (at ∙ e)))
