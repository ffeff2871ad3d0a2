-- The grammar: which lists of tokens make which statement.
-- After the SQL standard and the SQL/Temporal valid-time proposals; which of their forms there are,
-- and the limits, is this project's own.
--
--   statement = VALIDTIME [PERIOD text] query [EXCEPT ALL query] [;]
--   query     = SELECT item {, item} FROM source {, source} [WHERE or] [GROUP BY column {, column}]
--   item      = (column | COUNT ( * ) | SUM ( column )) [AS name]
--   column    = name | name . name
--   source    = name [[AS] name]
--   or        = and {OR and}
--   and       = not {AND not}
--   not       = NOT not | ( or ) | operand sign operand
--   operand   = column | number | text
--   sign      = = | <> | < | <= | > | >=
use Rattle.std.specs.Prelude.{◌≡◌, ◌⊎◌, ℕ, zero, suc, ◌≤◌, List, [], ◌∷◌, ◌++◌, length, Option, Some, None, IsTrue}
use Rattle.std.specs.Str.{is_utf8}
use Rattle.tq_base.specs.Names.{folded_name}
use Rattle.tq_base.specs.Numbers.{int_of}
use Rattle.tq_sql.specs.declared.statement.ColumnRef.{ColumnRef}
use Rattle.tq_sql.specs.declared.statement.Cond.{Cond}
use Rattle.tq_sql.specs.declared.statement.Cond.TheVariants as cond
use Rattle.tq_sql.specs.declared.statement.Item.{Item}
use Rattle.tq_sql.specs.declared.statement.Query.{Query}
use Rattle.tq_sql.specs.declared.statement.Sign.{Sign}
use Rattle.tq_sql.specs.declared.statement.Sign.TheVariants as sign
use Rattle.tq_sql.specs.declared.statement.SourceRef.{SourceRef}
use Rattle.tq_sql.specs.declared.statement.Statement.{Statement}
use Rattle.tq_sql.specs.declared.statement.Term.{Term}
use Rattle.tq_sql.specs.declared.statement.Term.TheVariants as term
use Rattle.tq_sql.specs.declared.statement.What.{What}
use Rattle.tq_sql.specs.declared.statement.What.TheVariants as what
use Rattle.tq_sql.specs.declared.token.TokenKind.{TokenKind}
use Rattle.tq_sql.specs.declared.token.TokenKind.TheVariants as k
use Rattle.tq_sql.specs.Tokens.{Token, unquoted}

-- ---- combinators

-- which lists of tokens make which values
abbrev pub Rule : Type 0 → Type 1
Rule A = List Token → A → Type 0

-- a token of the kind, and then the value
abbrev pub After : {A : Type 0} → TokenKind → Rule A → Rule A
After kind R [] x = ⊥
After kind R (t ∷ ts) x = (t.kind ≡ kind) × R ts x

-- the value, and then a token of the kind
abbrev pub Before : {A : Type 0} → TokenKind → Rule A → Rule A
Before kind R ts x = (a : List Token) × (t : Token) × (ts ≡ a ++ t ∷ []) × R a x × (t.kind ≡ kind)

-- one value, and then the other
abbrev pub Pair : {A B : Type 0} → Rule A → Rule B → Rule (A × B)
Pair R S ts x = (a : List Token) × (b : List Token) × (ts ≡ a ++ b) × R a x.0 × S b x.1

-- nothing, or the value
abbrev pub Optional : {A : Type 0} → Rule A → Rule (Option A)
Optional R ts None = ts ≡ []
Optional R ts (Some x) = R ts x

-- further values, each after a separator
abbrev pub More : {A : Type 0} → TokenKind → Rule A → Rule (List A)
More mark R ts [] = ts ≡ []
More mark R ts (x ∷ xs) = (t : Token) × (a : List Token) × (b : List Token) × (ts ≡ t ∷ (a ++ b)) × (t.kind ≡ mark) × R a x × More mark R b xs

-- one value or more, with separators between
abbrev pub Listed : {A : Type 0} → TokenKind → Rule A → Rule (List A)
Listed mark R ts [] = ⊥
Listed mark R ts (x ∷ xs) = Pair R (More mark R) ts (x, xs)

abbrev pub IsNothing : Rule (Unit {0})
IsNothing ts x = ts ≡ []

-- ---- names, columns, items and sources

-- a word that is a name, folded
abbrev pub IsName : Rule (List ℕ)
IsName ts n = (t : Token) × (ts ≡ t ∷ []) × (t.kind ≡ k.Name) × (folded_name t.text ≡ Some n)

-- column = name | name . name
abbrev pub IsColumnOf : Option (List ℕ) → Rule (List ℕ)
IsColumnOf None ts column = IsName ts column
IsColumnOf (Some source) ts column = Pair IsName (After k.Dot IsName) ts (source, column)

abbrev pub IsColumn : Rule ColumnRef
IsColumn ts c = IsColumnOf c.source ts c.column

-- column | COUNT ( * ) | SUM ( column )
abbrev pub IsWhat : Rule What
IsWhat ts (what.Column c) = IsColumn ts c
IsWhat ts what.Count = After k.Count (After k.Open (After k.Star (After k.Close IsNothing))) ts tt
IsWhat ts (what.Sum c) = After k.Sum (After k.Open (Before k.Close IsColumn)) ts c

-- item = (column | COUNT ( * ) | SUM ( column )) [AS name]
abbrev pub IsItem : Rule Item
IsItem ts i = Pair IsWhat (Optional (After k.As IsName)) ts (i.what, i.alias)

-- name | AS name
abbrev pub IsAlias : Rule (List ℕ)
IsAlias ts n = IsName ts n ⊎ After k.As IsName ts n

-- source = name [[AS] name]
abbrev pub IsSource : Rule SourceRef
IsSource ts s = Pair IsName (Optional IsAlias) ts (s.table, s.alias)

-- ---- conditions

-- a text in quotes, of UTF-8
abbrev pub IsText : Rule (List ℕ)
IsText ts s = (t : Token) × (ts ≡ t ∷ []) × (t.kind ≡ k.Text) × (s ≡ unquoted t.text) × IsTrue (is_utf8 s)

-- operand = column | number | text
abbrev pub IsOperand : Rule Term
IsOperand ts (term.Column c) = IsColumn ts c
IsOperand ts (term.Int n) = (t : Token) × (ts ≡ t ∷ []) × (t.kind ≡ k.Number) × (int_of t.text ≡ Some n)
IsOperand ts (term.Text s) = IsText ts s

abbrev pub kind_of : Sign → TokenKind
kind_of sign.Eq = k.Eq
kind_of sign.Ne = k.Ne
kind_of sign.Lt = k.Lt
kind_of sign.Le = k.Le
kind_of sign.Gt = k.Gt
kind_of sign.Ge = k.Ge

-- operand sign operand
pub record IsComparison (ts : List Token) (c : Cond) : Type 0 where
  pub left : Term
  pub sign : Sign
  pub right : Term
  pub value : c ≡ cond.Is left sign right
  pub spelled : Pair IsOperand (After (kind_of sign) IsOperand) ts (left, right)

-- parts combined from the left
abbrev pub join : (Cond → Cond → Cond) → List Cond → Cond → Cond
join both [] left = left
join both (c ∷ cs) left = join both cs (both left c)

-- one part or more with separators between, combined from the left
pub record IsChain (mark : TokenKind) (both : Cond → Cond → Cond) (R : Rule Cond) (ts : List Token) (c : Cond) : Type 0 where
  pub first : Cond
  pub more : List Cond
  pub value : c ≡ join both more first
  pub spelled : Listed mark R ts (first ∷ more)

-- and = not {AND not}
abbrev pub IsAnd : Rule Cond → Rule Cond
IsAnd R = IsChain k.And cond.And R

-- or = and {OR and}
abbrev pub IsOr : Rule Cond → Rule Cond
IsOr R = IsChain k.Or cond.Or (IsAnd R)

-- NOT not
pub record IsNegation (R : Rule Cond) (ts : List Token) (c : Cond) : Type 0 where
  pub inner : Cond
  pub value : c ≡ cond.Not inner
  pub spelled : After k.Not R ts inner

-- not = NOT not | ( or ) | operand sign operand, with at most `levels` levels of NOT and brackets
abbrev pub IsNot : ℕ → Rule Cond
IsNot zero ts c = IsComparison ts c
IsNot (suc levels) ts c = IsComparison ts c ⊎ IsNegation (IsNot levels) ts c ⊎ After k.Open (Before k.Close (IsOr (IsNot levels))) ts c

abbrev pub IsCondition : ℕ → Rule Cond
IsCondition levels = IsOr (IsNot levels)

-- ---- queries and statements

-- nothing, or GROUP BY column {, column}
abbrev pub IsGroup : Rule (List ColumnRef)
IsGroup ts [] = ts ≡ []
IsGroup ts (c ∷ cs) = After k.Group (After k.By (Listed k.Comma IsColumn)) ts (c ∷ cs)

-- query = SELECT item {, item} FROM source {, source} [WHERE or] [GROUP BY column {, column}], of at most four sources
pub record IsQuery (levels : ℕ) (ts : List Token) (q : Query) : Type 0 where
  pub spelled : After k.Select (Pair (Listed k.Comma IsItem) (After k.From (Pair (Listed k.Comma IsSource) (Pair (Optional (After k.Where (IsCondition levels))) IsGroup)))) ts (q.items, (q.sources, (q.cond, q.group)))
  pub few_sources : length q.sources ≤ 4

-- nothing, or a semicolon
abbrev pub IsEnd : Rule (Unit {0})
IsEnd ts x = (ts ≡ []) ⊎ After k.Semicolon IsNothing ts x

-- statement = VALIDTIME [PERIOD text] query [EXCEPT ALL query] [;], with at most `levels` levels in each condition
abbrev pub IsStatementWithin : ℕ → Rule Statement
IsStatementWithin levels ts s =
    After k.Validtime (Pair (Optional (After k.Period IsText)) (Pair (IsQuery levels) (Pair (Optional (After k.Except (After k.All (IsQuery levels)))) IsEnd))) ts
    (s.window, (s.left, (s.right, tt)))

-- the same with at most 32 levels
abbrev pub IsStatement : Rule Statement
IsStatement = IsStatementWithin 32
