-- The clause of a statement in which a place is: that of the last word before it that begins a clause. Words in texts do
-- not count. This project's own.
use Rattle.std.specs.Prelude.{ℕ, Bool, false, not, ◌&&◌, if◌then◌else◌, List, [], ◌∷◌, ◌++◌, codes}
use Rattle.std.specs.List.{fold}
use Rattle.std.specs.Str.{str_eq_ignore_ascii_case}
use Rattle.tq_base.specs.Names.{is_name_byte}
use Rattle.tq_diagnostics.specs.NamePlaces.{quoted_after}
use Rattle.tq_diagnostics.specs.declared.clauses.Clause.{Clause}
use Rattle.tq_diagnostics.specs.declared.clauses.Clause.TheVariants.{From, Group, Select, Start, Where}

-- the clause after a word, given the one before it
abbrev pub clause_after : Clause → List ℕ → Clause
clause_after clause word =
    if str_eq_ignore_ascii_case word (codes "select") then Select
    else (if str_eq_ignore_ascii_case word (codes "from") then From
    else (if str_eq_ignore_ascii_case word (codes "where") then Where
    else (if str_eq_ignore_ascii_case word (codes "group") then Group
    else clause)))

-- the word so far and the clause before it, after a byte outside texts, or in one
abbrev pub word_after : Bool → List ℕ × Clause → ℕ → List ℕ × Clause
word_after quoted s byte = if not quoted && is_name_byte byte then (s.0 ++ byte ∷ [], s.1) else ([], clause_after s.1 s.0)

-- whether a text is open, the word so far, and the clause before it
abbrev pub step : Bool × (List ℕ × Clause) → ℕ → Bool × (List ℕ × Clause)
step s byte = (quoted_after s.0 byte, word_after s.0 s.1 byte)

abbrev pub steps : List ℕ → Bool × (List ℕ × Clause)
steps bytes = fold step (false, ([], Start)) bytes

-- the clause in which the end of the bytes is
abbrev pub clause_of : List ℕ → Clause
clause_of bytes = clause_after (steps bytes).1.1 (steps bytes).1.0
