use Rattle.std.specs.Prelude.{IfOk, Result, Ok, Err}
use Rattle.tq_event.specs.History.{valid_at}
use Rattle.tq_exec.proofs.SourceLemmas.{rows_in_range}
use Rattle.tq_exec.proofs.as_of.AsOfSnapshot.rows.Goals as goal

-- what follows from both of what a result gives
if_both : {T E : Type 0} → (r : Result T E) {P Q R : T → Type 0} → IfOk r P → IfOk r Q → ((x : T) → P x → Q x → R x) → IfOk r R
if_both (Ok x) p q step = step x p q
if_both (Err e) p q step = p

pub returns : goal.returns
returns c = if_both c.rows_in.result c.rows_in.ensures.valid c.rows_in.ensures.keys (λ given valid keys.
    let events = c.args.self.now.db.now.events in
    let n = c.args.self.now.n in
    λ t inside. rows_in_range c.args.keys.now (valid_at events n c.args.table t) given.items t (λ v has. valid t v has inside) keys)
