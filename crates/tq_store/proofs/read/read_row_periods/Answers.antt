use Rattle.std.proofs.Common.{◌%◌, ◌<◌, ◌∙◌, ℕ, None, ap, get_or}
use Rattle.tq_store.specs.declared.index.RowEvents.{RowEvents}
use Rattle.tq_store.specs.Stored.{end_as_of, times_of_row_period, times_of_key}
use Rattle.tq_store.proofs.ReadLemmas.{one_more, row_there}
use Rattle.tq_store.proofs.read.read_row_periods.Goals as goal

pub keys-preserved : goal.keys-preserved
keys-preserved c =
    let key : ℕ = get_or c.args.keys.now c.keys.key-index 0 in
    let there = row_there (λ (row : RowEvents). row.from < row.to) c.args.rows.now key c.index-rows-number.result (record { start = 0; end = None; from = 0; to = 0; key = 0 }) (c.requires c.keys.key-index 0 c.keys-test.true) c.index-rows-number.is in
    let number : ℕ = key % 4294967296 in
    let same =
    ap (λ f. record { number = number; from = f; to = c.period.result.end }) c.period.ensures.start
    ∙ ap (λ t. record { number = number; from = c.index-rows-number.result.from; to = t }) c.period.ensures.end
    ∙ ap (λ (r : RowEvents). record { number = number; from = r.from; to = end_as_of c.args.n r.end r.to }) there in
    one_more times_of_row_period (times_of_key c.args.rows.now c.args.n) c.keys.row_periods.items c.push.new.self.items (record { row = number; period = c.period.result }) c.args.keys.now c.keys.key-index 0 c.keys-test.true
    c.in_ok-push.ensures.items c.keys.invariant same
