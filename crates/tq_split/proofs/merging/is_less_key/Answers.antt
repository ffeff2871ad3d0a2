use Rattle.std.proofs.Common.{◌<◌, rules}
use Rattle.std.proofs.lemmas.Bool.Decides.{nat_tests}
use Rattle.tq_split.proofs.AnswerLemmas.{first_keys_below, keys_below}
use Rattle.tq_split.proofs.merging.is_less_key.Goals as goal

pub returns-in-Some-Some-clause-below : goal.returns-in-Some-Some-clause-below
returns-in-Some-Some-clause-below c values others is_key is_other less =
    let below : c.in-Some-Some.key < c.in-Some-Some.other = search (rules, nat_tests, less) in
    keys_below c.in-Some-Some.key c.in-Some-Some.other values others (rw c.in-Some-Some.is-0 at is_key) (rw c.in-Some-Some.is-1 at is_other) below

pub returns-in-Some-Some-clause-first : goal.returns-in-Some-Some-clause-first
returns-in-Some-Some-clause-first c values others n is_key is_other less =
    let below : c.in-Some-Some.key < c.in-Some-Some.other = search (rules, nat_tests, less) in
    first_keys_below c.in-Some-Some.key c.in-Some-Some.other values others n (rw c.in-Some-Some.is-0 at is_key) (rw c.in-Some-Some.is-1 at is_other) below
