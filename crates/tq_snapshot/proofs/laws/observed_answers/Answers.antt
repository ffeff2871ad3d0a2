use Rattle.std.proofs.Common.{◌≡◌, sym, ap, subst, ◌∙◌}
use Rattle.tq_event.specs.History.{valid_at}
use Rattle.tq_exec.specs.Answers.{IsAnswerOver, ValidRows, as_of}
use Rattle.tq_snapshot.proofs.laws.observed_answers.Goals as goal

pub returns : goal.returns
returns c = λ observed found n plan table later le answer.
    let same : as_of found n ≡ as_of observed n = λ i number t. (sym (ap (λ l. valid_at l n number t) later.1) ∙ c.prefixes_agree.ensures observed later.0 n number t le) i in
    subst (λ (valid : ValidRows). IsAnswerOver valid plan table) same answer
