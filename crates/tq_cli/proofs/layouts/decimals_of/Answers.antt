use Rattle.std.proofs.Common.{rules, arith, Bor, List, None, ◌∙◌, ◌≡◌, [], ◌∷◌, ◌++◌, ℕ, get_or}
use Rattle.std.proofs.lemmas.Grind.{common_steps}
use Rattle.tq_cli.specs.CommandLine.{bytes_in, decimal_in}
use Rattle.tq_cli.proofs.RequestLemmas.{Any-map_at, passed_on}
use Rattle.tq_cli.proofs.layouts.decimals_of.Goals as goal

pub returns-in_err-decimal_of-clause-refused : goal.returns-in_err-decimal_of-clause-refused
returns-in_err-decimal_of-clause-refused c =
    let word = get_or c.args.words.now c.words.word-index (record { ref_ptr = (0, 0); now = [] }) in
    let bytes : c.deref.result.now ≡ bytes_in word.now = c.deref.ensures.value ∙ c.in_ok-word.ensures in
    passed_on c.from_residual-in_err-decimal_of.result c.in_err-decimal_of.field-0.0 _ c.from_residual-in_err-decimal_of.ensures.1
    (λ bad. Any-map_at (λ (w : List ℕ). decimal_in w ≡ None) (λ (w : Bor (List ℕ)). bytes_in w.now) c.args.words.now c.words.word-index
    (record { ref_ptr = (0, 0); now = [] }) c.words-test.true
    (rw (← bytes) (c.in_err-decimal_of.ensures.refused bad)))

pub words-preserved : goal.words-preserved
words-preserved c =
    let decimal = c.in_ok-decimal_of.field-0 in
    let items : c.push.new.self.items ≡ c.words.all.items ++ decimal ∷ [] = search rules in
    grind (arith, common_steps)
