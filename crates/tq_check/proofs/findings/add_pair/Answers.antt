use Rattle.std.proofs.Common.{◌≡◌, ◌∙◌, List, ◌≤◌, ◌∷◌, ◌++◌, ap, sym, arith, length, take}
use Rattle.std.proofs.lemmas.List.{take-append-le}
use Rattle.std.specs.List.{cons_option}
use Rattle.tq_check.specs.declared.findings.KeyPair.{KeyPair}
use Rattle.tq_check.proofs.findings.add_pair.Goals as goal

-- after a hundred pairs nothing more is listed
full : (listed rest : List KeyPair) (pair : KeyPair) → 100 ≤ length listed → take 100 (listed ++ rest) ≡ take 100 (listed ++ pair ∷ rest)
full listed rest pair many = take-append-le 100 listed rest many ∙ sym (take-append-le 100 listed (pair ∷ rest) many)

pub returns-else-len-lt-LISTED-clause-first : goal.returns-else-len-lt-LISTED-clause-first
returns-else-len-lt-LISTED-clause-first c rest =
    let listed = c.args.findings.now.first.items in
    full listed rest c.in-Some.pair (omega (arith, c.if-len-lt-LISTED.false, c.len.ensures))
    ∙ ap (λ o. take 100 (listed ++ cons_option o rest)) (sym c.in-Some.is)
