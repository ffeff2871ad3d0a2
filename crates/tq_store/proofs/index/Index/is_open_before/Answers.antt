use Rattle.std.proofs.Common.{◌≡◌, ◌<◌, ◌∙◌, true, false, not, length, subst, refl, sym, ap, Some, ℕ}
use Rattle.std.specs.Prelude.{List, slice_get, slice_index_or, is_some}
use Rattle.std.proofs.lemmas.Option.{slice_get_read}
use Rattle.tq_event.specs.declared.event.Event.{Event}
use Rattle.tq_store.specs.declared.index.Index.{Index}
use Rattle.tq_store.specs.declared.index.RowEvents.{RowEvents}
use Rattle.tq_store.specs.Index.{IsIndexOf}
use Rattle.tq_store.proofs.SortKeyLemmas.{from_is_less, is_less}
use Rattle.tq_store.proofs.IndexLemmas.{IsKnown, known_row, not_opened, opened, opens}
use Rattle.tq_store.proofs.index.Index.is_open_before.Goals as goal

found : (es : List Event) (t row : ℕ) (index : Index) (rows : List RowEvents) (known : RowEvents) → IsIndexOf es t index → rows ≡ index.rows.items → row < length rows → known ≡ slice_index_or rows row known
    → IsKnown es t row known
found es t row index rows known is same less at_row = known_row es t row index known is (subst (λ r. slice_get r row ≡ Some known) same (slice_get_read rows (length rows) row known refl less at_row))

pub returns-then-is_none : goal.returns-then-is_none
returns-then-is_none c =
    let look = c.in-Some.ensures.lookup in
    let is = found c.args.events.now c.args.table c.args.row c.args.self.now c.deref.result.now c.in-Some.known.now c.requires c.deref.ensures.value look.3.0 look.1 in
    let from = ap (λ (k : RowEvents). k.from) is.same in
    let none : is_some c.in-Some.known.now.end ≡ false = c.is_none.ensures ∙ ap not c.if-is_none.true in (
      λ yes. opens c.args.events.now c.args.table c.args.row c.args.at c.in-Some.known.now is none (subst (λ n. n < c.args.at) from (from_is_less c.in-Some.known.now.from c.args.at (sym c.lt.ensures ∙ yes))),
      λ open_there. let less = subst (λ n. n < c.args.at) (sym from) (opened c.args.events.now c.args.table c.args.row c.args.at c.in-Some.known.now is open_there).1 in c.lt.ensures ∙ is_less c.in-Some.known.now.from c.args.at less,
    )

pub returns-else-is_none : goal.returns-else-is_none
returns-else-is_none c =
    let look = c.in-Some.ensures.lookup in
    let is = found c.args.events.now c.args.table c.args.row c.args.self.now c.deref.result.now c.in-Some.known.now c.requires c.deref.ensures.value look.3.0 look.1 in
    let some : is_some c.in-Some.known.now.end ≡ true = c.is_none.ensures ∙ ap not c.if-is_none.false in (
      λ yes. absurd (let no = c.if-is_none.false in let on : c.is_none.result ≡ true = yes in cc),
      λ open_there. absurd (let none = (opened c.args.events.now c.args.table c.args.row c.args.at c.in-Some.known.now is open_there).0 in cc),
    )

pub returns-in-None : goal.returns-in-None
returns-in-None c =
    let look = c.in-None.ensures.lookup in (
      λ yes. absurd (let wrong : false ≡ true = yes in cc),
      λ open_there. absurd (not_opened c.args.events.now c.args.table c.args.row c.args.at c.args.self.now c.requires (subst (λ (r : List RowEvents). Rattle.std.proofs.Common.◌≤◌ (length r) c.args.row) c.deref.ensures.value look.3) open_there),
    )
