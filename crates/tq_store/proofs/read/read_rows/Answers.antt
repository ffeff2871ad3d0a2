use Rattle.std.proofs.Common.{◌%◌, ◌∙◌, ℕ, None, ap, get_or}
use Rattle.tq_store.specs.declared.index.RowEvents.{RowEvents}
use Rattle.tq_store.specs.Stored.{IsStored, row_of_key, row_view, stored_row}
use Rattle.tq_store.proofs.ReadLemmas.{one_more, row_there}
use Rattle.tq_store.proofs.read.read_rows.Goals as goal

pub keys-preserved : goal.keys-preserved
keys-preserved c =
    let key : ℕ = get_or c.args.keys.now c.keys.key-index 0 in
    let there = row_there (IsStored c.args.events.now) c.args.rows.now key c.index-rows-number.result (record { start = 0; end = None; from = 0; to = 0; key = 0 }) (c.requires c.keys.key-index 0 c.keys-test.true) c.index-rows-number.is in
    one_more row_view (row_of_key c.args.events.now c.args.rows.now c.args.n) c.keys.found.items c.push.new.self.items c.in_ok-read_row.field-0 c.args.keys.now c.keys.key-index 0 c.keys-test.true c.in_ok-push.ensures.items c.keys.invariant
    (c.in_ok-read_row.ensures ∙ ap (λ (r : RowEvents). stored_row c.args.events.now c.args.n (key % 4294967296) r) there)
