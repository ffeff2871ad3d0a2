use Rattle.std.proofs.Common.{◌≡◌, ◌++◌, ◌∷◌, ◌∙◌, ◌<◌, [], arith, length, subst, sym, ap, List}
use Rattle.std.specs.Prelude.{OnErr, Result, Ok, Err}
use Rattle.std.proofs.lemmas.List.{length-map}
use Rattle.tq_base.specs.declared.catalogue.Catalogue.{Catalogue}
use Rattle.tq_event.specs.declared.event.Event.{Event}
use Rattle.tq_event.specs.History.{IsAdmissible}
use Rattle.tq_event.specs.Recorded.{Recorded}
use Rattle.tq_store.specs.declared.index.Index.{Index}
use Rattle.tq_store.specs.declared.log.LoggedEvent.{LoggedEvent}
use Rattle.tq_store.specs.Index.{AreIndexes, CanTake, widths_of}
use Rattle.tq_store.specs.Log.{IsLoggedAs, IsLoggedDb, event_of, logged}
use Rattle.tq_store.proofs.AdmissibleLemmas.{can_take, fits_indexes, known_table}
use Rattle.tq_store.proofs.LogLemmas.{kept_db, pushed_db}
use Rattle.tq_store.proofs.db.Db.apply.Goals as goal

abbrev recorded : Catalogue → List Event → Recorded
recorded catalogue es = record { catalogue = catalogue; events = es }

any_err : {T E : Type 0} → (r : Result T E) {P : Type 0} → P → OnErr r P
any_err (Ok x) p = tt
any_err (Err e) p = p

pub take-requires-clause-next : goal.take-requires-clause-next
take-requires-clause-next c =
    let indexes = c.self.inside.indexes.items in
    let log = c.self.inside.log.items in
    let db = c.self.invariant.db in
    let fits = subst (λ (r : Recorded). IsAdmissible r.catalogue r.events c.args.event.now) (sym c.self.view_is) (c.admits.ensures.admissible.0 c.if-not-admits.false) in
    let items = ap length c.reserve.ensures.items in
    let counted = length-map log (event_of indexes) in
    record {
      events = logged indexes log;
      counted = omega (arith, counted, items, c.len.ensures, c.reserve.new.self.ok.0);
      are = db.indexed;
      can = can_take c.self.inside.catalogue (logged indexes log) indexes c.args.event.now db.tables db.indexed fits c.admits.ensures.finite;
    }

pub take-requires-clause-table : goal.take-requires-clause-table
take-requires-clause-table c =
    let es = logged c.self.inside.indexes.items c.self.inside.log.items in
    let fits = subst (λ (r : Recorded). IsAdmissible r.catalogue r.events c.args.event.now) (sym c.self.view_is) (c.admits.ensures.admissible.0 c.if-not-admits.false) in
    let known = known_table c.self.inside.catalogue es c.args.event.now fits.1 in
    omega (arith, known, c.self.invariant.db.tables)

pub take-requires-clause-width : goal.take-requires-clause-width
take-requires-clause-width c =
    let indexes = c.self.inside.indexes.items in
    let es = logged indexes c.self.inside.log.items in
    let fits = subst (λ (r : Recorded). IsAdmissible r.catalogue r.events c.args.event.now) (sym c.self.view_is) (c.admits.ensures.admissible.0 c.if-not-admits.false) in
    fits_indexes c.self.inside.catalogue es indexes c.args.event.now c.self.invariant.db.widths fits

pub invariant_of-self-in_err-take : goal.invariant_of-self-in_err-take
invariant_of-self-in_err-take c =
    let indexes = c.self.inside.indexes.items in
    let log = c.self.inside.log.items in
    subst (λ l. IsLoggedDb c.self.inside.catalogue l c.take.new.indexes.items) (sym c.reserve.ensures.items)
    (kept_db c.self.inside.catalogue log indexes c.take.new.indexes.items c.self.invariant (c.in_err-take.ensures.err (logged indexes log) c.self.invariant.db.indexed) c.take.ensures.len c.take.ensures.widths).0

pub returns-in_err-take-clause-err : goal.returns-in_err-take-clause-err
returns-in_err-take-clause-err c =
    let indexes = c.self.inside.indexes.items in
    let log = c.self.inside.log.items in
    let new = c.take.new.indexes.items in
    let same = (kept_db c.self.inside.catalogue log indexes new c.self.invariant (c.in_err-take.ensures.err (logged indexes log) c.self.invariant.db.indexed) c.take.ensures.len c.take.ensures.widths).1 in
    any_err c.from_residual-in_err-take.result (ap (recorded c.self.inside.catalogue) (ap (logged new) c.reserve.ensures.items ∙ same) ∙ c.self.view_is)

-- the history after the event
after : (r : Recorded) (catalogue : Catalogue) (log reserved pushed : List LoggedEvent) (old new deref : List Index) (event : Event) (e : LoggedEvent) → recorded catalogue (logged old log) ≡ r
    → IsLoggedDb catalogue log old → length r.events < 16777216 → IsAdmissible r.catalogue r.events event → CanTake (logged old log) event → AreIndexes (logged old log ++ event ∷ []) new
    → length new ≡ length old → widths_of new ≡ widths_of old → deref ≡ old → IsLoggedAs deref event e → reserved ≡ log → pushed ≡ reserved ++ e ∷ []
    → IsLoggedDb catalogue pushed new × (recorded catalogue (logged new pushed) ≡ recorded r.catalogue (r.events ++ event ∷ []))
after r catalogue log reserved pushed old new deref event e view before few fits takes are len widths deref_is as_logged reserved_is pushed_is =
    let counted = length-map log (event_of old) in
    let viewed = ap (λ (x : Recorded). length x.events) view in
    let grown = pushed_db catalogue log old new event e before (omega (arith, few, viewed, counted)) (subst (λ (x : Recorded). IsAdmissible x.catalogue x.events event) (sym view) fits) takes are len widths
    (subst (λ l. IsLoggedAs l event e) deref_is as_logged) in
    let list : pushed ≡ log ++ e ∷ [] = pushed_is ∙ ap (λ l. l ++ e ∷ []) reserved_is in (
      subst (λ l. IsLoggedDb catalogue l new) (sym list) grown.0,
      ap (recorded catalogue) (ap (logged new) list ∙ grown.1)
          ∙ ap (λ (x : Recorded). recorded x.catalogue (x.events ++ event ∷ [])) view,
    )

pub invariant_of-self-2 : goal.invariant_of-self-2
invariant_of-self-2 c =
    let indexes = c.self.inside.indexes.items in
    let log = c.self.inside.log.items in
    let es = logged indexes log in
    let db = c.self.invariant.db in
    let event = c.args.event.now in
    let admissible = c.admits.ensures.admissible.0 c.if-not-admits.false in
    let fits = subst (λ (r : Recorded). IsAdmissible r.catalogue r.events event) (sym c.self.view_is) admissible in
    let takes = can_take c.self.inside.catalogue es indexes event db.tables db.indexed fits c.admits.ensures.finite in
    let items = ap length c.reserve.ensures.items in
    let counted = length-map log (event_of indexes) in
    let number : length es ≡ c.len.result = omega (arith, counted, items, c.len.ensures, c.reserve.new.self.ok.0) in
    (after c.args.self.now c.self.inside.catalogue log c.reserve.new.self.items c.push_reserved.new.self.items indexes c.take.new.indexes.items c.deref.result.now event c.logged_event-next.result c.self.view_is
    c.self.invariant c.requires admissible takes (c.in_ok-take.ensures.ok es number db.indexed takes) c.take.ensures.len c.take.ensures.widths c.deref.ensures.value c.logged_event-next.ensures
    c.reserve.ensures.items c.push_reserved.ensures.items).0

pub returns-clause-events : goal.returns-clause-events
returns-clause-events c =
    let indexes = c.self.inside.indexes.items in
    let log = c.self.inside.log.items in
    let es = logged indexes log in
    let db = c.self.invariant.db in
    let event = c.args.event.now in
    let admissible = c.admits.ensures.admissible.0 c.if-not-admits.false in
    let fits = subst (λ (r : Recorded). IsAdmissible r.catalogue r.events event) (sym c.self.view_is) admissible in
    let takes = can_take c.self.inside.catalogue es indexes event db.tables db.indexed fits c.admits.ensures.finite in
    let items = ap length c.reserve.ensures.items in
    let counted = length-map log (event_of indexes) in
    let number : length es ≡ c.len.result = omega (arith, counted, items, c.len.ensures, c.reserve.new.self.ok.0) in
    (after c.args.self.now c.self.inside.catalogue log c.reserve.new.self.items c.push_reserved.new.self.items indexes c.take.new.indexes.items c.deref.result.now event c.logged_event-next.result c.self.view_is
    c.self.invariant c.requires admissible takes (c.in_ok-take.ensures.ok es number db.indexed takes) c.take.ensures.len c.take.ensures.widths c.deref.ensures.value c.logged_event-next.ensures
    c.reserve.ensures.items c.push_reserved.ensures.items).1
