use Rattle.std.proofs.Common.{rules, codes, true, ◌≡◌, ◌∙◌, ap, subst, ℕ, List}
use Rattle.clap.specs.Words.{found_of, rows_of}
use Rattle.tq_base.specs.declared.form.Form.{Form}
use Rattle.tq_cli.specs.CommandLine.{IsNoWindow, bytes_in, is_given, word_of}
use Rattle.tq_cli.proofs.questions.read_window.Goals as goal

pub returns-clause-refused : goal.returns-clause-refused
returns-clause-refused c =
    let rows = rows_of (found_of c.args.command.now) in
    let given : is_given (codes "window") rows ≡ true = search rules in
    let word = c.deref.ensures.value ∙ (c.in_ok-word.ensures ∙ ap bytes_in c.read_text.ensures) in
    let none = subst (λ (w : List ℕ). IsNoWindow c.read_form.result w) word (c.window_in.ensures.none c.in-None.is) in
    λ _. (given, subst (λ (form : Form). IsNoWindow form (word_of (codes "window") rows)) c.read_form.ensures none)
