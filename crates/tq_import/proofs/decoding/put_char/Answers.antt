use Rattle.std.proofs.Common.{◌∙◌, ◌++◌, List, ap, arith, sym, take, ℕ}
use Rattle.std.proofs.lemmas.List.{take_more_set}
use Rattle.std.proofs.lemmas.Str.{encode_ascii}
use Rattle.tq_import.proofs.EncodingLemmas.{two_bytes, two_more}
use Rattle.tq_import.proofs.decoding.put_char.Goals as goal

pub returns-then-code-lt-FIRST_OF_TWO-clause-text : goal.returns-then-code-lt-FIRST_OF_TWO-clause-text
returns-then-code-lt-FIRST_OF_TWO-clause-text c =
    take_more_set c.args.into.now c.args.at c.args.code (omega arith)
    ∙ ap (λ (l : List ℕ). take c.args.at c.args.into.now ++ l) (sym (encode_ascii c.args.code (omega arith)))

pub returns-clause-text : goal.returns-clause-text
returns-clause-text c =
    two_more c.args.into.now c.args.at _ _ (omega arith)
    ∙ ap (λ (l : List ℕ). take c.args.at c.args.into.now ++ l) (sym (two_bytes c.args.code (omega arith) (omega arith)))
