use Rattle.std.proofs.Common.{arith, sym}
use Rattle.std.proofs.lemmas.Grind.{common_steps}
use Rattle.tq_sql.proofs.TokenLemmas.{token_next, with_all_one}
use Rattle.tq_sql.proofs.tokens.tokens.Goals as goal

pub bytes-preserved : goal.bytes-preserved
bytes-preserved c =
    let rest = c.bytes.rest.now in
    let within = c.in_ok-kind.ensures.within in
    let step = token_next c.bytes.at c.in_ok-kind.size c.in_ok-kind.kind rest (omega arith) (grind (arith, common_steps)) (sym c.in_ok-kind.ensures.value) within.0 within.1 in
    record { place = grind (arith, common_steps); same = grind (arith, common_steps, step, with_all_one) }
