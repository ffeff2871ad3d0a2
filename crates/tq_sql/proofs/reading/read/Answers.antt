use Rattle.std.proofs.Common.{◌≡◌, inr, length, map, sym, ap, ◌∙◌, arith}
use Rattle.std.specs.Prelude.{unwrap_or}
use Rattle.tq_sql.specs.Descent.{statement_at, stopped_at}
use Rattle.tq_sql.specs.Reading.{token_offset}
use Rattle.tq_sql.specs.TokenViews.{token_view}
use Rattle.tq_sql.proofs.FaultLemmas.{fault_within, place_is, stop_told}
use Rattle.tq_sql.proofs.StatementLemmas.{statement_sound}
use Rattle.tq_sql.proofs.reading.read.Goals as goal

pub returns-in-Ok-clause-statement : goal.returns-in-Ok-clause-statement
returns-in-Ok-clause-statement c =
    let ts = map token_view c.in_ok-found.found.items in
    let same : c.new-cursor.result ≡ ts = c.new-cursor.ensures ∙ ap (map token_view) c.deref.ensures.value in
    (ts, c.in_ok-found.ensures.tokens, statement_sound 32 ts c.statement-outcome.new.cursor c.in-Ok.statement (ap (statement_at 32) (sym same) ∙ c.in-Ok.ensures))

pub stopped-requires : goal.stopped-requires
stopped-requires c = λ other.
    let ts = map token_view c.in_ok-found.found.items in
    let same : c.new-cursor.result ≡ ts = c.new-cursor.ensures ∙ ap (map token_view) c.deref.ensures.value in
    let place : c.unwrap_or-at.result ≡ token_offset c.args.bytes.now c.statement-outcome.new.cursor = c.unwrap_or-at.ensures ∙ ap (λ o. unwrap_or o (length c.args.bytes.now)) c.offset.ensures ∙ sym (place_is c.args.bytes.now c.statement-outcome.new.cursor) in
    omega (arith, place, fault_within c.args.bytes.now ts c.statement-outcome.new.cursor c.in-Err.why c.in_ok-found.ensures.tokens (ap (statement_at 32) (sym same) ∙ c.in-Err.ensures other))

pub returns-clause-fault : goal.returns-clause-fault
returns-clause-fault c = λ other.
    let ts = map token_view c.in_ok-found.found.items in
    let same : c.new-cursor.result ≡ ts = c.new-cursor.ensures ∙ ap (map token_view) c.deref.ensures.value in
    let place : c.unwrap_or-at.result ≡ token_offset c.args.bytes.now c.statement-outcome.new.cursor = c.unwrap_or-at.ensures ∙ ap (λ o. unwrap_or o (length c.args.bytes.now)) c.offset.ensures ∙ sym (place_is c.args.bytes.now c.statement-outcome.new.cursor) in
    inr (stop_told c.args.bytes.now ts c.statement-outcome.new.cursor c.in-Err.why c.stopped.result c.in_ok-found.ensures.tokens (λ why. ap (statement_at 32) (sym same) ∙ c.in-Err.ensures why) (c.stopped.ensures ∙ ap (stopped_at c.in-Err.why) place) other)
