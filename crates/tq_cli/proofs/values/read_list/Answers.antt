use Rattle.std.proofs.Common.{rules, ◌∙◌}
use Rattle.std.proofs.lemmas.Result.{IfOk-weaker}
use Rattle.clap.specs.Words.{found_of}
use Rattle.tq_cli.proofs.RequestLemmas.{list_words_read}
use Rattle.tq_cli.proofs.values.read_list.Goals as goal

pub returns : goal.returns
returns c =
    let words = list_words_read (found_of c.args.command.now) c.args.id.now c.get_strs.result _ c.unwrap_or.result c.get_strs.ensures c.unwrap_or.ensures (search rules) in
    IfOk-weaker c.words_bytes.result _ _ (λ all is. is ∙ words) c.words_bytes.ensures
