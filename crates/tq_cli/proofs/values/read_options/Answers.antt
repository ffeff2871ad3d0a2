use Rattle.std.proofs.Common.{rules, arith, Bor, List, ◌∙◌, ◌≡◌, [], ◌∷◌, ◌++◌, ℕ, Contains, get_or}
use Rattle.std.proofs.lemmas.Grind.{common_steps}
use Rattle.std.proofs.lemmas.List.Elements.{All-push}
use Rattle.tq_cli.specs.CommandLine.{bytes_in}
use Rattle.tq_cli.specs.declared.request.TableOption.{TableOption}
use Rattle.tq_cli.proofs.RequestLemmas.{Any-map_at, passed_on}
use Rattle.tq_cli.proofs.values.read_options.Goals as goal

pub returns-in_err-split_table-clause-refused : goal.returns-in_err-split_table-clause-refused
returns-in_err-split_table-clause-refused c =
    let word = get_or c.args.words.now c.words.word-index (record { ref_ptr = (0, 0); now = [] }) in
    let bytes : c.deref.result.now ≡ bytes_in word.now = c.deref.ensures.value ∙ c.in_ok-word.ensures in
    passed_on c.from_residual-in_err-split_table.result c.in_err-split_table.field-0.0 _ c.from_residual-in_err-split_table.ensures.1
    (λ bad. Any-map_at (λ (w : List ℕ). ¬ (Contains w 61)) (λ (w : Bor (List ℕ)). bytes_in w.now) c.args.words.now c.words.word-index
    (record { ref_ptr = (0, 0); now = [] }) c.words-test.true
    (λ has. c.in_err-split_table.ensures.refused bad (rw bytes has)))

pub words-preserved : goal.words-preserved
words-preserved c =
    let table = c.in_ok-split_table.field-0 in
    let items : c.push.new.self.items ≡ c.words.tables.items ++ table ∷ [] = search rules in (
      grind (arith, common_steps),
      rw items (All-push (λ (t : TableOption). ¬ (Contains t.name.items 61)) c.words.tables.items table c.words.invariant.1 (search rules)),
    )
