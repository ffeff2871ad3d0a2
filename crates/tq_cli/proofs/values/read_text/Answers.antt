use Rattle.std.proofs.Common.{rules, ◌∙◌}
use Rattle.clap.specs.Words.{found_of}
use Rattle.clap.proofs.WalkLemmas.{first_value-rows}
use Rattle.tq_cli.proofs.RequestLemmas.{text_read}
use Rattle.tq_cli.proofs.values.read_text.Goals as goal

pub returns : goal.returns
returns c = rw c.unwrap_or.ensures (text_read c.get_str.result _ _
    (c.get_str.ensures ∙ first_value-rows (found_of c.args.command.now) c.args.id.now) (search rules))
