-- Windows as a statement writes them: `[`, an instant, `-`, a bound, `)`. This project's own.
use Rattle.std.specs.Prelude.{◌≡◌, ℕ, ◌+◌, ◌-◌, Bool, true, false, ◌&&◌, if◌then◌else◌, ◌==◌, nat_lt, List, [], ◌∷◌, length, take, drop, reverse, position, Option, Some, None, option_map, refl, slice_index, Result, Ok, Err}
use Rattle.std.proofs.lemmas.Bool.{ltb-true}
use Rattle.std.proofs.Common.{arith}
use Rattle.tq_base.specs.Numbers.{instant_of, bound_of}
use Rattle.tq_base.specs.declared.form.Form.{Form}
use Rattle.tq_base.specs.declared.form.Form.TheVariants.{Numbers, Dates}
use Rattle.tq_base.specs.declared.period.Period.{Period}
use Rattle.tq_base.specs.declared.period.TheConstants.{FOREVER}
use Rattle.tq_plan.specs.declared.fault.PlanFault.{PlanFault}
use Rattle.tq_plan.specs.declared.fault.PlanFault.TheVariants.{BadWindow}

abbrev pub ordered_if : (start end : ℕ) (b : Bool) → nat_lt start end ≡ b → Option Period
ordered_if start end true is = Some record { start = start; end = end; ordered = ltb-true start end is }
ordered_if start end false is = None

-- the period from the start to the end, if the start is before the end
abbrev pub period_between : ℕ → ℕ → Option Period
period_between start end = ordered_if start end (nat_lt start end) refl

-- without the leading spaces
abbrev pub without_leading_spaces : List ℕ → List ℕ
without_leading_spaces [] = []
without_leading_spaces (b ∷ bs) = if b == 32 then without_leading_spaces bs else b ∷ bs

-- without the spaces at both ends
abbrev pub trimmed : List ℕ → List ℕ
trimmed bytes = reverse (without_leading_spaces (reverse (without_leading_spaces bytes)))

abbrev pub between : Option ℕ → Option ℕ → Option Period
between None end = None
between (Some start) None = None
between (Some start) (Some end) = period_between start end

-- the most dashes that an instant can have: none for a number, the ten bytes of a date
abbrev pub dashed_bytes : Form → ℕ
dashed_bytes Numbers = 0
dashed_bytes Dates = 10

-- the position of the first dash after the first n bytes
abbrev pub dash_after : ℕ → List ℕ → Option ℕ
dash_after many bytes = option_map (λ place. many + place) (position (λ b. b == 45) (drop many bytes))

-- an instant before the dash at this position, and a bound after it
abbrev pub around_dash : Form → List ℕ → Option ℕ → Option Period
around_dash form inside None = None
around_dash form inside (Some dash) = between (instant_of form (trimmed (take dash inside))) (bound_of form (trimmed (drop (dash + 1) inside)))

-- an instant, a dash and a bound, with spaces around the instant and the bound
abbrev pub period_in : Form → List ℕ → Option Period
period_in form inside = around_dash form inside (dash_after (dashed_bytes form) inside)

-- whether the text begins with `[` and ends with `)`
abbrev pub is_bracketed : List ℕ → Bool
is_bracketed text = nat_lt 1 (length text) && (slice_index text 0 == 91 && slice_index text (length text - 1) == 41)

-- the bytes between the first and the last
abbrev pub inside_of : List ℕ → List ℕ
inside_of text = take (length text - 2) (drop 1 text)

-- the period that the text writes
abbrev pub window_of : Form → List ℕ → Option Period
window_of form text = if is_bracketed text then period_in form (without_leading_spaces (inside_of text)) else None

-- every instant
abbrev pub always : Period
always = record { start = 0; end = FOREVER; ordered = omega arith }

abbrev pub window_or_fault : Option Period → Result Period PlanFault
window_or_fault None = Err BadWindow
window_or_fault (Some window) = Ok window

-- the window of a statement: what the text after PERIOD writes, or else all instants
abbrev pub window_plan : Form → Option (List ℕ) → Result Period PlanFault
window_plan form None = Ok always
window_plan form (Some text) = window_or_fault (window_of form text)
