-- What a statement can continue with after some text. This project's own.
use Rattle.std.specs.Prelude.{◌≡◌, ℕ, ◌+◌, Bool, true, false, if◌then◌else◌, List, [], ◌∷◌, ◌++◌, codes, length, Option, None, Some}
use Rattle.std.specs.Borrow.{Bor}
use Rattle.tq_sql.specs.Reading.{IsSqlFault}
use Rattle.tq_sql.specs.declared.fault.SqlFault.{SqlFault}

-- reading stops at this byte, or nowhere
abbrev pub StopsAt : List ℕ → Option ℕ → Type 0
StopsAt bytes None = (f : SqlFault) → IsSqlFault bytes f → ⊥
StopsAt bytes (Some at) = (f : SqlFault) × IsSqlFault bytes f × (f.at ≡ at)

-- the front, a space, and a sample
abbrev pub trial : List ℕ → List ℕ → List ℕ
trial front sample = (front ++ 32 ∷ []) ++ sample

-- reading the front and then the sample stops exactly before the sample
abbrev pub Stops : List ℕ → List ℕ → Type 0
Stops front sample = StopsAt (trial front sample) (Some (length front + 1))

-- whether a statement can continue after the front with the sample
abbrev pub CanContinue : List ℕ → List ℕ → Bool → Type 0
CanContinue front sample true = Stops front sample → ⊥
CanContinue front sample false = Stops front sample

-- the name of a sample after two spaces, if a statement can continue with it
abbrev pub name_if : Bool → List ℕ → List ℕ
name_if goes name = if goes then codes "  " ++ name else []

-- the names of the samples with which a statement can continue
abbrev pub AreContinuations : List ℕ → List (List ℕ × List ℕ) → List ℕ → Type 0
AreContinuations front [] reported = reported ≡ []
AreContinuations front (sample ∷ samples) reported =
    (goes : Bool) × CanContinue front sample.1 goes × ((rest : List ℕ) × AreContinuations front samples rest × (reported ≡ name_if goes sample.0 ++ rest))

-- a name and an example from a list of slices
abbrev pub named : Bor (List ℕ) × Bor (List ℕ) → List ℕ × List ℕ
named sample = (sample.0.now, sample.1.now)

-- every word and sign of the language, a name, a number, a text, and the end: the name of each in messages, and an
-- example
abbrev pub samples : List (List ℕ × List ℕ)
samples =
    (codes "VALIDTIME", codes "VALIDTIME") ∷ (codes "PERIOD", codes "PERIOD") ∷ (codes "SELECT", codes "SELECT")
    ∷ (codes "FROM", codes "FROM") ∷ (codes "WHERE", codes "WHERE") ∷ (codes "GROUP BY", codes "GROUP") ∷ (codes "BY", codes "BY")
    ∷ (codes "EXCEPT ALL", codes "EXCEPT") ∷ (codes "ALL", codes "ALL") ∷ (codes "a name", codes "x") ∷ (codes "a number", codes "0")
    ∷ (codes "a text", codes "''") ∷ (codes "COUNT", codes "COUNT") ∷ (codes "SUM", codes "SUM") ∷ (codes "AS", codes "AS")
    ∷ (codes "NOT", codes "NOT") ∷ (codes "AND", codes "AND") ∷ (codes "OR", codes "OR") ∷ (codes "= <> < <= > >=", codes "=")
    ∷ (codes "(", codes "(") ∷ (codes ")", codes ")") ∷ (codes ",", codes ",") ∷ (codes ".", codes ".") ∷ (codes "*", codes "*")
    ∷ (codes ";", codes ";") ∷ (codes "the end", []) ∷ []

-- a line of what a statement can continue with
abbrev pub IsExpected : List ℕ → List ℕ → Type 0
IsExpected front text = (reported : List ℕ) × AreContinuations front samples reported × (text ≡ codes "  expected:" ++ reported ++ codes "\n")
