use Rattle.std.proofs.Common.{◌≡◌, ◌++◌, ◌∷◌, ◌∙◌, [], Some, length, take, refl, subst, sym, ap, arith, List}
use Rattle.std.specs.Prelude.{slice_get}
use Rattle.std.proofs.lemmas.List.{take_all}
use Rattle.std.proofs.lemmas.Option.{slice_get_read}
use Rattle.tq_event.specs.declared.event.Event.{Event}
use Rattle.tq_event.specs.History.{IsAdmissible}
use Rattle.tq_snapshot.specs.OpenIndex.{IsOpenIndex}
use Rattle.tq_snapshot.proofs.OpenIndexLemmas.{next_admissible, one_more}
use Rattle.tq_snapshot.proofs.open_index.OpenIndex.of.Goals as goal

pub events-init : goal.events-init
events-init c = record { tables = c.in_ok-index.ensures.tables ∙ ap length c.get.ensures; index = c.in_ok-index.ensures.index }

pub take-requires-clause-index : goal.take-requires-clause-index
take-requires-clause-index c = subst (λ es. IsOpenIndex es c.events.index) (sym (ap (λ (l : List Event). l ++ take c.events.place c.args.events.now) c.none.ensures)) c.events.invariant.index

pub take-requires-clause-follows : goal.take-requires-clause-follows
take-requires-clause-follows c =
    let es = c.args.events.now in
    let e = c.index-events-place.result in
    let here : slice_get es c.events.place ≡ Some e = slice_get_read es (length es) c.events.place e refl c.events-test.true c.index-events-place.is in
    record {
      catalogue = c.args.catalogue.now;
      same = sym c.events.invariant.tables;
      admissible = subst (λ es. IsAdmissible c.args.catalogue.now es e) (sym (ap (λ (l : List Event). l ++ take c.events.place es) c.none.ensures)) (next_admissible c.args.catalogue.now es c.events.place e c.requires.history here);
    }

pub events-preserved : goal.events-preserved
events-preserved c =
    let es = c.args.events.now in
    let e = c.index-events-place.result in
    let here : slice_get es c.events.place ≡ Some e = slice_get_read es (length es) c.events.place e refl c.events-test.true c.index-events-place.is in
    record {
      tables = c.take.ensures.tables ∙ c.events.invariant.tables;
      index = subst (λ es. IsOpenIndex es c.take.new.self) (ap (λ xs. xs ++ e ∷ []) (ap (λ (l : List Event). l ++ take c.events.place es) c.none.ensures) ∙ one_more es c.events.place e here) c.in_ok-take.ensures.ok;
    }

pub returns-clause-tables : goal.returns-clause-tables
returns-clause-tables c = c.events.invariant.tables

pub returns-clause-index : goal.returns-clause-index
returns-clause-index c = subst (λ es. IsOpenIndex es c.events.index) (take_all c.events.place c.args.events.now (omega (arith, c.events-test.false))) c.events.invariant.index
