use Rattle.std.proofs.Common.{◌≡◌, ◌∙◌, ◌<◌, ℕ, List, ap, get_or, length, map, rules, subst, sym}
use Rattle.std.specs.Prelude.{All, Option}
use Rattle.tq_base.specs.declared.fragment.Fragment.{Fragment}
use Rattle.tq_base.specs.declared.parts.Place.{Place}
use Rattle.tq_base.specs.Keys.{no_row}
use Rattle.tq_base.specs.Parts.{periods_of, rows_at, rows_by_number}
use Rattle.tq_base.specs.Relations.{row_at}
use Rattle.tq_base.specs.RowLists.{RowList}
use Rattle.tq_base.proofs.RelationLemmas.{numbered_rows}
use Rattle.tq_base.proofs.relation.Relation.take_rows_ref.Goals as goal

pub returns-clause-rows : goal.returns-clause-rows
returns-clause-rows c =
    let r = c.self.inside in
    let periods = periods_of r.parts.items r.periods in
    let rows = rows_by_number r.parts.items r.columns.items 0 periods in
    let new = c.in_ok-take_parts.field-0.items in
    let numbers = c.args.numbers.now in
    let columns : c.in_ok-to_vec.field-0.items ≡ r.columns.items = search rules in
    let view : c.args.self.now.items ≡ rows = ap (λ (v : RowList). v.items) (sym c.self.view_is) in
    let are : c.periods.result.now ≡ map (λ (row : Fragment). row.period) rows = c.periods.ensures ∙ ap (map (λ (row : Fragment). row.period)) view in
    let within : All (λ number. number < length rows) numbers = subst (λ (v : List Fragment). All (λ number. number < length v) numbers) view c.requires in
    ap (λ (cs : List (Option Place)). rows_by_number new cs 0 c.in_ok-periods.periods.items) columns
    ∙ ap (rows_by_number new r.columns.items 0) (c.in_ok-periods.ensures ∙ ap (λ ps. map (λ number. get_or ps number no_row.period) numbers) are)
    ∙ numbered_rows r.parts.items new r.columns.items periods numbers
    (subst (λ parts. (k : ℕ) → k < length numbers → rows_at new k ≡ rows_at parts (get_or numbers k 0)) c.deref.ensures.value c.in_ok-take_parts.ensures.rows)
    within
    ∙ ap (λ v. map (row_at v) numbers) (sym view)
