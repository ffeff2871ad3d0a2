-- Laws of the grammar and of faults.
use Rattle.std.specs.Prelude.{◌≡◌, ◌⊎◌, ℕ, List}
use Rattle.tq_sql.specs.declared.fault.SqlFault.{SqlFault}
use Rattle.tq_sql.specs.declared.statement.Statement.{Statement}
use Rattle.tq_sql.specs.Grammar.{IsStatement}
use Rattle.tq_sql.specs.Reading.{IsSqlFault, ParsesTo}
use Rattle.tq_sql.specs.Tokens.{Token}

-- a list of tokens makes at most one statement
abbrev pub StatementsAreUnique : Type 0
StatementsAreUnique = (ts : List Token) (a b : Statement) → IsStatement ts a → IsStatement ts b → a ≡ b

-- a text that has a fault makes no statement
abbrev pub FaultsAreRefusals : Type 0
FaultsAreRefusals = (bytes : List ℕ) (f : SqlFault) (s : Statement) → IsSqlFault bytes f → ParsesTo bytes s → ⊥

-- a text has at most one fault
abbrev pub FaultsAreUnique : Type 0
FaultsAreUnique = (bytes : List ℕ) (f g : SqlFault) → IsSqlFault bytes f → IsSqlFault bytes g → f ≡ g

-- each text makes a statement or has a fault
abbrev pub TextsAreDecided : Type 0
TextsAreDecided = (bytes : List ℕ) → ((s : Statement) × ParsesTo bytes s) ⊎ ((f : SqlFault) × IsSqlFault bytes f)
