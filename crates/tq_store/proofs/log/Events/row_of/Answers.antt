use Rattle.std.proofs.Common.{◌≡◌, ◌∙◌, ◌<◌, ◌≤◌, ap, get_or, length, subst, sym}
use Rattle.std.specs.Prelude.{IsSomeAnd, slice_get}
use Rattle.std.proofs.lemmas.Option.{get_or_from_slice_get, slice_get_within}
use Rattle.tq_base.specs.Relations.{values_at_number}
use Rattle.tq_store.specs.declared.index.Index.{Index}
use Rattle.tq_store.specs.declared.log.LoggedEvent.{LoggedEvent}
use Rattle.tq_store.specs.Index.{widths_of}
use Rattle.tq_store.specs.Stored.{IsStart, values_at}
use Rattle.tq_store.proofs.IndexLemmas.{width_at}
use Rattle.tq_store.proofs.LogLemmas.{started}
use Rattle.tq_store.proofs.log.Events.row_of.Goals as goal

pub bounds-self-inside-event : goal.bounds-self-inside-event
bounds-self-inside-event c =
    let indexes = c.self.inside.indexes.now in
    let log = c.self.inside.log.now in
    let e = c.index-self-number.result in
    let found = started indexes log c.args.number e c.self.invariant c.index-self-number.is (subst (λ es. IsSomeAnd (slice_get es c.args.number) IsStart) (sym c.self.view_is) c.requires) in
    subst (λ (x : LoggedEvent). x.table < length indexes) c.index-self-number.is (slice_get_within indexes e.table found.index found.there)

pub returns-clause-row : goal.returns-clause-row
returns-clause-row c =
    let indexes = c.self.inside.indexes.now in
    let log = c.self.inside.log.now in
    let e = c.index-self-number.result in
    let other = c.index-self-event.result in
    let found = started indexes log c.args.number e c.self.invariant c.index-self-number.is (subst (λ es. IsSomeAnd (slice_get es c.args.number) IsStart) (sym c.self.view_is) c.requires) in
    subst (λ (x : LoggedEvent). x.row < length (get_or indexes x.table other).kept.items) c.index-self-number.is
    (subst (λ (i : Index). e.row < length i.kept.items) (sym (get_or_from_slice_get indexes e.table found.index other found.there)) found.row)

pub returns-clause-values : goal.returns-clause-values
returns-clause-values c =
    let indexes = c.self.inside.indexes.now in
    let log = c.self.inside.log.now in
    let e = c.index-self-number.result in
    let other = c.index-self-event.result in
    let found = started indexes log c.args.number e c.self.invariant c.index-self-number.is (subst (λ es. IsSomeAnd (slice_get es c.args.number) IsStart) (sym c.self.view_is) c.requires) in
    subst (λ (x : LoggedEvent). values_at_number (get_or indexes x.table other).kept.items x.row ≡ values_at c.args.self.now c.args.number) c.index-self-number.is
    (ap (λ (i : Index). values_at_number i.kept.items e.row) (get_or_from_slice_get indexes e.table found.index other found.there)
    ∙ sym found.values ∙ ap (λ es. values_at es c.args.number) c.self.view_is)

pub returns-clause-narrow : goal.returns-clause-narrow
returns-clause-narrow c =
    let indexes = c.self.inside.indexes.now in
    let log = c.self.inside.log.now in
    let e = c.index-self-number.result in
    let other = c.index-self-event.result in
    let found = started indexes log c.args.number e c.self.invariant c.index-self-number.is (subst (λ es. IsSomeAnd (slice_get es c.args.number) IsStart) (sym c.self.view_is) c.requires) in
    let here = width_at indexes e.table found.index found.there in
    subst (λ (x : LoggedEvent). (get_or indexes x.table other).kept.width ≤ 4294967295) c.index-self-number.is
    (subst (λ (i : Index). i.kept.width ≤ 4294967295) (sym (get_or_from_slice_get indexes e.table found.index other found.there))
    (subst (λ n. n ≤ 4294967295) (get_or_from_slice_get (widths_of indexes) e.table found.index.kept.width 0 here)
    (c.self.invariant.narrow e.table 0 (slice_get_within (widths_of indexes) e.table found.index.kept.width here))))
