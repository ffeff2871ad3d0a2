use Rattle.std.proofs.Common.{rules, ◌<◌, ◌≤◌, ◌∙◌, ℕ, List, Contains, ap, inl, inr, subst}
use Rattle.std.specs.List.{Any}
use Rattle.clap.specs.Words.{found_of}
use Rattle.tq_cli.specs.CommandLine.{IsTablesOf, stdin_count}
use Rattle.tq_cli.proofs.RequestLemmas.{err_gives, table_words_read}
use Rattle.tq_cli.proofs.questions.read_tables.Goals as goal

pub returns-in-Ok-clause-refused : goal.returns-in-Ok-clause-refused
returns-in-Ok-clause-refused c =
    let words = table_words_read (found_of c.args.command.now) c.get_strs.result _ c.unwrap_or.result c.get_strs.ensures c.unwrap_or.ensures (search rules) in
    λ _. inr (
      c.in-Ok.tables.items,
      subst (λ (ws : List (List ℕ)). IsTablesOf ws c.in-Ok.tables.items) words c.in-Ok.ensures.tables,
      subst (λ (n : ℕ). c.args.inputs < n) (c.count_stdin.ensures ∙ ap stdin_count c.deref.ensures.value) c.if-count_stdin-inputs.true,
    )

pub returns-in-Ok-2-clause-tables : goal.returns-in-Ok-2-clause-tables
returns-in-Ok-2-clause-tables c =
    let words = table_words_read (found_of c.args.command.now) c.get_strs.result _ c.unwrap_or.result c.get_strs.ensures c.unwrap_or.ensures (search rules) in (
      subst (λ (ws : List (List ℕ)). IsTablesOf ws c.in-Ok.tables.items) words c.in-Ok.ensures.tables,
      subst (λ (n : ℕ). n ≤ c.args.inputs) (c.count_stdin.ensures ∙ ap stdin_count c.deref.ensures.value) c.if-count_stdin-inputs.false,
    )

pub returns-in-Err-BadCommandLine-clause-refused :
    goal.returns-in-Err-BadCommandLine-clause-refused
returns-in-Err-BadCommandLine-clause-refused c =
    let words = table_words_read (found_of c.args.command.now) c.get_strs.result _ c.unwrap_or.result c.get_strs.ensures c.unwrap_or.ensures (search rules) in
    λ _. inl (subst (λ (ws : List (List ℕ)). Any (λ (w : List ℕ). ¬ (Contains w 61)) ws) words
    (err_gives c.read_options.result c.in-Err-BadCommandLine.field-0 _ c.in-Err-BadCommandLine.is c.read_options.ensures.refused c.in-Err-BadCommandLine.field-0-is))
