use Rattle.std.proofs.Common.{◌≡◌, ◌<◌, ◌∙◌, ap, sym, length, get_or, arith}
use Rattle.std.specs.Option.{option_copied}
use Rattle.std.proofs.lemmas.List.{length-map}
use Rattle.std.proofs.lemmas.List.Elements.{All-push}
use Rattle.tq_base.specs.declared.fragment.Fragment.{Fragment}
use Rattle.tq_base.specs.SortInputs.{state_of}
use Rattle.tq_base.specs.Keys.{is_within, no_row, rows_on, IsFresh}
use Rattle.tq_base.proofs.SortKeyLemmas.{adds_key, adds_none, period_here}
use Rattle.tq_base.proofs.sort_input.SortInput.add_keys.Goals as goal
use Rattle.tq_base.proofs.sort_input.SortInput.add_keys.Goals.{then-is_within, else-is_within}

pub rows-preserved : goal.rows-preserved
rows-preserved c =
    let s = state_of c.args.self.now in
    let of = c.args.side in
    let window = option_copied c.args.window in
    let i = c.rows.row in
    let old = c.args.keys.now.items in
    let mid = c.rows.keys.items in
    let items = c.rows-rows.result.now.items in
    let less_there : i < length items = omega (arith, c.rows-test.true, ap length c.periods-period-items.ensures, length-map items (λ (row : Fragment). row.period)) in
    let less : i < length (rows_on s of) = omega (arith, less_there, ap length c.rows-rows.ensures) in
    let there : (get_or items i no_row).period ≡ c.period-item.result = period_here items c.periods-period-items.result.now i c.period-item.result c.periods-period-items.ensures less_there c.period-item.is in
    let period : (get_or (rows_on s of) i no_row).period ≡ c.period-item.result = ap (λ l. (get_or l i no_row).period) (sym c.rows-rows.ensures) ∙ there in
    let test : is_within window (get_or (rows_on s of) i no_row).period ≡ c.is_within.result = ap (is_within window) period ∙ sym c.is_within.ensures in
    elim c.if-is_within.branch [
      | then-is_within w ↦
          record {
            rows = rw (w.keys-is, w.push_reserved.ensures.items) (adds_key s of window i less old mid w.key_of.result (test ∙ w.if-is_within.true) w.key_of.ensures.side w.key_of.ensures.row c.rows.invariant.rows);
            are = λ before. rw (w.keys-is, w.push_reserved.ensures.items) (All-push (IsFresh s) mid w.key_of.result (c.rows.invariant.are before) w.key_of.ensures.key);
            room = rw w.keys-is (omega (arith, c.rows.invariant.room, w.push_reserved.ensures.len, w.push_reserved.ensures.capacity));
          }
      | else-is_within w ↦
          record {
            rows = rw w.keys-is (adds_none s of window i less old mid (test ∙ w.if-is_within.false) c.rows.invariant.rows);
            are = λ before. rw w.keys-is (c.rows.invariant.are before);
            room = rw w.keys-is (omega (arith, c.rows.invariant.room));
          }
    ]
