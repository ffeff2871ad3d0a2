-- Two checks in sequence. This project's own.
use Rattle.std.specs.Prelude.{Result, Ok, Err}

-- the second check runs on the result of the first, and not at all after an error
abbrev pub and_then : {A B E : Type 0} → Result A E → (A → Result B E) → Result B E
and_then (Err fault) next = Err fault
and_then (Ok value) next = next value
