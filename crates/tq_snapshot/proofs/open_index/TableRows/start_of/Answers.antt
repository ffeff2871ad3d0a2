use Rattle.std.proofs.Common.{◌≡◌, ◌++◌, ◌∙◌, length, refl, sym, ap, subst, Some}
use Rattle.std.specs.Prelude.{IsSomeAnd, slice_get}
use Rattle.std.proofs.lemmas.Option.{slice_get_read, slice_get_within}
use Rattle.tq_event.specs.declared.event.Event.TheVariants.{Start}
use Rattle.tq_event.specs.Versions.{Life}
use Rattle.tq_store.specs.Stored.{IsStart}
use Rattle.tq_snapshot.proofs.OpenIndexLemmas.{same_life, start_there, started}
use Rattle.tq_snapshot.proofs.open_index.TableRows.start_of.Goals as goal

pub returns-clause-number : goal.returns-clause-number
returns-clause-number c =
    let es = c.args.published.now ++ c.args.pending.now in
    let starts = c.args.self.now.starts.items in
    let here : slice_get starts c.args.row ≡ Some c.index.result.now = slice_get_read starts (length starts) c.args.row c.index.result.now refl c.requires.row c.index.ensures in
    let one = started es c.args.table c.args.row c.index.result.now c.args.self.now c.requires.rows here in
    slice_get_within es c.index.result.now (Start c.args.table one.life.values one.life.from) (start_there es c.args.table c.args.row c.index.result.now one)

pub returns-clause-start : goal.returns-clause-start
returns-clause-start c =
    let es = c.args.published.now ++ c.args.pending.now in
    let starts = c.args.self.now.starts.items in
    let here : slice_get starts c.args.row ≡ Some c.index.result.now = slice_get_read starts (length starts) c.args.row c.index.result.now refl c.requires.row c.index.ensures in
    let one = started es c.args.table c.args.row c.index.result.now c.args.self.now c.requires.rows here in
    subst (λ o. IsSomeAnd o IsStart) (sym (start_there es c.args.table c.args.row c.index.result.now one)) tt

pub returns-clause-life : goal.returns-clause-life
returns-clause-life c = λ life stands.
    let es = c.args.published.now ++ c.args.pending.now in
    let starts = c.args.self.now.starts.items in
    let here : slice_get starts c.args.row ≡ Some c.index.result.now = slice_get_read starts (length starts) c.args.row c.index.result.now refl c.requires.row c.index.ensures in
    let one = started es c.args.table c.args.row c.index.result.now c.args.self.now c.requires.rows here in
    start_there es c.args.table c.args.row c.index.result.now one
    ∙ ap (λ (l : Life). Some (Start c.args.table l.values l.from)) (same_life es c.args.table c.args.row c.index.result.now life one stands)
