-- The effects of the calls of a writer and of a reader on what contracts see of them. This project's own.
use Rattle.std.specs.Prelude.{◌≡◌, ℕ, ◌-◌, ◌<◌, ◌≤◌, ◌⊎◌, List, ◌++◌, length, slice_get, IsSomeAnd, Some, None}
use mathlib.Core.List.{IsPrefix}
use Rattle.tq_base.specs.declared.catalogue.Catalogue.{Catalogue}
use Rattle.tq_base.specs.declared.form.Form.{Form}
use Rattle.tq_base.specs.declared.value.Value.{Value}
use Rattle.tq_event.specs.declared.event.Event.{Event}
use Rattle.tq_event.specs.History.{IsHistory, IsNotBefore, time_of}
use Rattle.tq_event.specs.Opening.{open_row}
use Rattle.tq_event.specs.Recorded.{HasTable}
use Rattle.tq_plan.specs.declared.plans.Plan.{Plan}
use Rattle.tq_table.specs.declared.table.Table.{Table}
use Rattle.tq_exec.specs.Answers.{IsPlanAnswer}
use Rattle.tq_exec.specs.Rendered.{IsRendered}
use Rattle.tq_exec.specs.declared.answer_text.RenderedAnswer.{RenderedAnswer}
use Rattle.tq_snapshot.specs.declared.faults.AskFault.{AskFault}
use Rattle.tq_snapshot.specs.declared.faults.AskFault.TheVariants as ask
use Rattle.tq_snapshot.specs.declared.faults.AppendFault.{AppendFault}
use Rattle.tq_snapshot.specs.declared.faults.AppendFault.TheVariants as append

-- ---- writers

-- the view of a writer: the published events, the pending events, and the limit on their number
pub record WriterState : Type 0 where
  pub published : List Event
  pub pending : List Event
  pub limit : ℕ

-- the published events, then the pending ones
abbrev pub all_of : WriterState → List Event
all_of w = w.published ++ w.pending

-- a row with these values may start
abbrev pub CanStart : Catalogue → WriterState → ℕ → List Value → ℕ → Type 0
CanStart catalogue w table values at = HasTable catalogue table values × IsNotBefore (all_of w) at × (length (all_of w) < w.limit)

-- the row may end: it is the first open one with these values
abbrev pub CanEndRow : Catalogue → WriterState → ℕ → List Value → ℕ → ℕ → Type 0
CanEndRow catalogue w table values at row =
    HasTable catalogue table values × IsNotBefore (all_of w) at × (open_row (all_of w) table values at ≡ Some row) × (length (all_of w) < w.limit)

-- the last event has this time, which is later than the instant
abbrev pub IsLater : List Event → ℕ → ℕ → Type 0
IsLater events at last = IsSomeAnd (slice_get events (length events - 1)) (λ e. time_of e ≡ last) × (at < last)

-- why the table does not take the values
abbrev pub IsTableRefusal : Catalogue → ℕ → List Value → AppendFault → Type 0
IsTableRefusal catalogue table values append.UnknownTable = length catalogue.tables ≤ table
IsTableRefusal catalogue table values append.BadValues = (table < length catalogue.tables) × (¬ HasTable catalogue table values)
IsTableRefusal catalogue table values (append.TooEarly last) = ⊥
IsTableRefusal catalogue table values append.NoOpenRow = ⊥
IsTableRefusal catalogue table values append.TooManyEvents = ⊥
IsTableRefusal catalogue table values append.OutOfMemory = ⊥

-- why no event of these values may follow at the instant: the first reason that applies
abbrev pub IsPrecluded : Catalogue → List Event → ℕ → List Value → ℕ → AppendFault → Type 0
IsPrecluded catalogue events table values at append.UnknownTable = length catalogue.tables ≤ table
IsPrecluded catalogue events table values at append.BadValues = (table < length catalogue.tables) × (¬ HasTable catalogue table values)
IsPrecluded catalogue events table values at (append.TooEarly last) = HasTable catalogue table values × IsLater events at last
IsPrecluded catalogue events table values at append.NoOpenRow = ⊥
IsPrecluded catalogue events table values at append.TooManyEvents = ⊥
IsPrecluded catalogue events table values at append.OutOfMemory = ⊥

-- why a start is refused: the first reason that applies
abbrev pub IsStartRefusal : Catalogue → WriterState → ℕ → List Value → ℕ → AppendFault → Type 0
IsStartRefusal catalogue w table values at append.UnknownTable = length catalogue.tables ≤ table
IsStartRefusal catalogue w table values at append.BadValues = (table < length catalogue.tables) × (¬ HasTable catalogue table values)
IsStartRefusal catalogue w table values at (append.TooEarly last) = HasTable catalogue table values × IsLater (all_of w) at last
IsStartRefusal catalogue w table values at append.NoOpenRow = ⊥
IsStartRefusal catalogue w table values at append.TooManyEvents = HasTable catalogue table values × IsNotBefore (all_of w) at × (length (all_of w) ≡ w.limit)
IsStartRefusal catalogue w table values at append.OutOfMemory = CanStart catalogue w table values at

-- why an end is refused: the first reason that applies
abbrev pub IsEndRefusal : Catalogue → WriterState → ℕ → List Value → ℕ → AppendFault → Type 0
IsEndRefusal catalogue w table values at append.UnknownTable = length catalogue.tables ≤ table
IsEndRefusal catalogue w table values at append.BadValues = (table < length catalogue.tables) × (¬ HasTable catalogue table values)
IsEndRefusal catalogue w table values at (append.TooEarly last) = HasTable catalogue table values × IsLater (all_of w) at last
IsEndRefusal catalogue w table values at append.NoOpenRow =
    HasTable catalogue table values × IsNotBefore (all_of w) at × (open_row (all_of w) table values at ≡ None)
IsEndRefusal catalogue w table values at append.TooManyEvents =
    (row : ℕ) × HasTable catalogue table values × IsNotBefore (all_of w) at × (open_row (all_of w) table values at ≡ Some row) × (length (all_of w) ≡ w.limit)
IsEndRefusal catalogue w table values at append.OutOfMemory = (row : ℕ) × CanEndRow catalogue w table values at row

-- ---- readers

-- an entry finds a history over the catalogue that begins with the observed events; the events found are observed then.
-- The view of a reader is the longest list that it has observed, which begins with each shorter one
pub record Entered (catalogue : Catalogue) (observed found : List Event) : Type 0 where
  pub later : IsPrefix observed found
  pub history : IsHistory catalogue found

-- the answer as of the first n events found
abbrev pub Answers : Catalogue → List Event → ℕ → Plan → List Event → Table → Type 0
Answers catalogue observed n plan found table = Entered catalogue observed found × (n ≤ length found) × IsPlanAnswer found n plan table

-- the same as text: the number of rows and the text are those of the answer
abbrev pub AnswersAsText : Form → Catalogue → List Event → ℕ → Plan → List Event → RenderedAnswer → Type 0
AnswersAsText form catalogue observed n plan found rendered = Entered catalogue observed found × (n ≤ length found) × IsRendered form (IsPlanAnswer found n plan) rendered

-- why there is no answer
abbrev pub Refuses : Catalogue → List Event → ℕ → List Event → AskFault → Type 0
Refuses catalogue observed n found (ask.TooNew seen) = Entered catalogue observed found × (seen ≡ length found) × (seen < n)
Refuses catalogue observed n found ask.Closed = found ≡ observed
Refuses catalogue observed n found ask.OutOfMemory = Entered catalogue observed found × (n ≤ length found)

-- why a value with `count` events has no answer as of the first `n`
abbrev pub FitsFault : ℕ → ℕ → AskFault → Type 0
FitsFault count n (ask.TooNew seen) = (seen ≡ count) × (count < n)
FitsFault count n ask.Closed = ⊥
FitsFault count n ask.OutOfMemory = n ≤ count

-- the events observed after learning a note: they begin with those observed before and with the note's, and are one of
-- the two
pub record IsLearned (observed note now : List Event) : Type 0 where
  pub kept : IsPrefix observed now
  pub learnt : IsPrefix note now
  pub one : (now ≡ observed) ⊎ (now ≡ note)
