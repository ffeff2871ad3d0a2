use Rattle.std.proofs.Common.{rules, ◌≡◌, List, ℕ, None, codes, subst}
use Rattle.std.specs.List.{Any}
use Rattle.clap.specs.Words.{found_of}
use Rattle.tq_cli.specs.CommandLine.{AreDecimalsOf, decimal_in}
use Rattle.tq_cli.proofs.RequestLemmas.{err_gives, list_words_read}
use Rattle.tq_cli.proofs.layouts.read_decimals.Goals as goal

pub returns-in-Ok-clause-decimals : goal.returns-in-Ok-clause-decimals
returns-in-Ok-clause-decimals c =
    let words = list_words_read (found_of c.args.command.now) (codes "decimal") c.get_strs.result _ c.unwrap_or.result c.get_strs.ensures c.unwrap_or.ensures (search rules) in
    subst (λ (ws : List (List ℕ)). AreDecimalsOf ws c.in-Ok.decimals.items) words c.in-Ok.ensures.decimals

pub returns-in-Err-BadCommandLine-clause-refused : goal.returns-in-Err-BadCommandLine-clause-refused
returns-in-Err-BadCommandLine-clause-refused c =
    let words = list_words_read (found_of c.args.command.now) (codes "decimal") c.get_strs.result _ c.unwrap_or.result c.get_strs.ensures c.unwrap_or.ensures (search rules) in
    λ _. subst (λ (ws : List (List ℕ)). Any (λ (w : List ℕ). decimal_in w ≡ None) ws) words
    (err_gives c.decimals_of.result c.in-Err-BadCommandLine.field-0 _ c.in-Err-BadCommandLine.is c.decimals_of.ensures.refused c.in-Err-BadCommandLine.field-0-is)
