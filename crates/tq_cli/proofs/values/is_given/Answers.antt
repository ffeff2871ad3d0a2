use Rattle.std.proofs.Common.{◌∙◌}
use Rattle.clap.specs.Words.{found_of}
use Rattle.clap.proofs.WalkLemmas.{first_value-rows}
use Rattle.tq_cli.proofs.RequestLemmas.{given_read}
use Rattle.tq_cli.proofs.values.is_given.Goals as goal

pub returns : goal.returns
returns c = c.is_some.ensures ∙ given_read c.get_str.result _ (c.get_str.ensures ∙ first_value-rows (found_of c.args.command.now) c.args.id.now)
