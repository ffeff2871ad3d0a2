use Rattle.std.proofs.Common.{◌≡◌, ◌∙◌, ◌++◌, ◌∷◌, [], ◌<◌, ◌+◌, ap, sym, arith, List, append_assoc, get_or, length, map, take}
use Rattle.std.proofs.lemmas.List.{length-map, map-append, take_more}
use Rattle.std.proofs.lemmas.List.{get_or-map}
use Rattle.tq_base.specs.declared.fragment.Fragment.{Fragment}
use Rattle.tq_base.specs.declared.period.Period.{Period}
use Rattle.tq_base.specs.declared.value.Value.{Value}
use Rattle.tq_event.specs.Entries.{Entry, entry_in}
use Rattle.tq_event.specs.Tables.{row_entry}
use Rattle.tq_event.proofs.entry.add_entries.Goals as goal

pub rows-preserved : goal.rows-preserved
rows-preserved c =
    let rows = c.args.rows.now.items in
    let table = c.args.table in
    let i = c.rows.number in
    let d : Fragment = record { values = []; period = c.period-item.result } in
    let seen : c.periods-period-items.result.now ≡ map (λ (row : Fragment). row.period) rows = c.periods-period-items.ensures in
    let less : i < length rows = omega (arith, c.rows-test.true, ap length seen, length-map rows (λ (row : Fragment). row.period)) in
    let values : c.in_ok-values.values ≡ (get_or rows i d).values = c.in_ok-values.ensures d in
    let period : c.period-item.result ≡ (get_or rows i d).period =
    c.period-item.is ∙ ap (λ ps. get_or ps i c.period-item.result) seen ∙ get_or-map (λ (row : Fragment). row.period) rows i d c.period-item.result less in
    let parsed : entry_in (c.in_ok-values.values, record { table = table; from = c.period-item.result.start; to = c.period-item.result.end }) ≡ row_entry table (get_or rows i d) =
    ap (λ (v : List Value). let e : Entry = record { table = table; values = v; from = c.period-item.result.start; to = c.period-item.result.end } in e) values
    ∙ ap (λ (p : Period). let e : Entry = record { table = table; values = (get_or rows i d).values; from = p.start; to = p.end } in e) period in
    let more : take (i + 1) rows ≡ take i rows ++ get_or rows i d ∷ [] = take_more rows i d less in
    let pushed : map entry_in c.push.new.self.items ≡ map entry_in c.rows.entries.items ++ row_entry table (get_or rows i d) ∷ [] =
    ap (map entry_in) c.in_ok-push.ensures.items ∙ map-append entry_in c.rows.entries.items _ ∙ ap (λ (e : Entry). map entry_in c.rows.entries.items ++ e ∷ []) parsed in
    let added : map (row_entry table) (take (i + 1) rows) ≡ map (row_entry table) (take i rows) ++ row_entry table (get_or rows i d) ∷ [] =
    ap (map (row_entry table)) more ∙ map-append (row_entry table) (take i rows) (get_or rows i d ∷ []) in
    pushed
    ∙ ap (λ es. es ++ row_entry table (get_or rows i d) ∷ []) c.rows.invariant
    ∙ append_assoc (map entry_in c.args.entries.now.items) (map (row_entry table) (take i rows)) (row_entry table (get_or rows i d) ∷ [])
    ∙ ap (λ es. map entry_in c.args.entries.now.items ++ es) (sym added)
