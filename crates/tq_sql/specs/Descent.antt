-- A recursive descent over the grammar: each function returns a value and the tokens after it, or why reading stops and
-- before which tokens. There is one definition for each function of the code. Only contracts of private functions cite
-- this file; `read` and the laws are defined by Grammar.antt and Reading.antt.
use Rattle.std.specs.Prelude.{◌≡◌, ◌≢◌, ℕ, zero, suc, Bool, ◌||◌, if◌then◌else◌, ℤ, List, [], ◌∷◌, ◌++◌, length, drop, Option, Some, None, Result, Ok, Err}
use Rattle.std.specs.Borrow.{Bor}
use Rattle.std.specs.Str.{is_utf8}
use Rattle.tq_base.specs.Names.{folded_name}
use Rattle.tq_base.specs.Numbers.{int_of}
use Rattle.tq_sql.specs.declared.cursor.Refusal.{Refusal}
use Rattle.tq_sql.specs.declared.cursor.Refusal.TheVariants.{Memory, TooDeep, Unexpected}
use Rattle.tq_sql.specs.declared.fault.SqlFault.{SqlFault}
use Rattle.tq_sql.specs.declared.fault.SqlFaultKind.TheVariants as fault_kind
use Rattle.tq_sql.specs.declared.statement.ColumnRef.{ColumnRef}
use Rattle.tq_sql.specs.declared.statement.Cond.{Cond}
use Rattle.tq_sql.specs.declared.statement.Cond.TheVariants as cond
use Rattle.tq_sql.specs.declared.statement.Item.{Item}
use Rattle.tq_sql.specs.declared.statement.Query.{Query}
use Rattle.tq_sql.specs.declared.statement.Sign.{Sign}
use Rattle.tq_sql.specs.declared.statement.Sign.TheVariants as sign
use Rattle.tq_sql.specs.declared.statement.SourceRef.{SourceRef}
use Rattle.tq_sql.specs.declared.statement.Statement.{Statement}
use Rattle.tq_sql.specs.declared.statement.Term.{Term}
use Rattle.tq_sql.specs.declared.statement.Term.TheVariants as term
use Rattle.tq_sql.specs.declared.statement.What.{What}
use Rattle.tq_sql.specs.declared.statement.What.TheVariants as what
use Rattle.tq_sql.specs.declared.token.TokenKind.{TokenKind}
use Rattle.tq_sql.specs.declared.token.TokenKind.TheVariants as k
use Rattle.tq_sql.specs.Faults.{out_of_memory}
use Rattle.tq_sql.specs.Tokens.{Token, fault, same_kind, unquoted}

abbrev pub Outcome : Type 0 → Type 0
Outcome A = Result (A × List Token) (Refusal × List Token)

abbrev pub Reader : Type 0 → Type 0
Reader A = List Token → Outcome A

abbrev pub and_then : {A B : Type 0} → Outcome A → (A → Reader B) → Outcome B
and_then (Err e) f = Err e
and_then (Ok r) f = f r.0 r.1

infixl 10 ◌>>=◌
abbrev pub ◌>>=◌ : {A B : Type 0} → Reader A → (A → Reader B) → Reader B
p >>= f = λ ts. and_then (p ts) f

infixl 10 ◌>>◌
abbrev pub ◌>>◌ : {A B : Type 0} → Reader A → Reader B → Reader B
p >> q = p >>= (λ _. q)

abbrev pub pure : {A : Type 0} → A → Reader A
pure x = λ ts. Ok (x, ts)

abbrev pub stop : {A : Type 0} → Refusal → Reader A
stop why = λ ts. Err (why, ts)

abbrev pub given : {A : Type 0} → Option A → Reader A
given None = stop Unexpected
given (Some x) = pure x

-- ---- tokens

unfoldable pub kind_at : List Token → TokenKind
kind_at [] = k.End
kind_at (t ∷ ts) = t.kind

unfoldable pub next : List Token → List Token
next ts = drop 1 ts

unfoldable pub sees : TokenKind → List Token → Bool
sees kind ts = same_kind (kind_at ts) kind

unfoldable pub after : TokenKind → List Token → List Token
after kind ts = if sees kind ts then next ts else ts

-- takes the next token if it is of the kind
abbrev pub eat : TokenKind → Reader Bool
eat kind = λ ts. Ok (sees kind ts, after kind ts)

-- the bytes of the next token, which must be of the kind and is not taken
unfoldable pub peek_bytes : TokenKind → Reader (List ℕ)
peek_bytes kind [] = stop Unexpected []
peek_bytes kind (t ∷ ts) = if same_kind t.kind kind then Ok (t.text, t ∷ ts) else stop Unexpected (t ∷ ts)

-- the value, and the rest after the next token
abbrev pub taken : {A : Type 0} → A → Reader A
taken x = λ ts. Ok (x, next ts)

unfoldable pub expect : TokenKind → Reader (Unit {0})
expect kind = λ ts. if sees kind ts then Ok (tt, next ts) else stop Unexpected ts

unfoldable pub name_at : Reader (List ℕ)
name_at = do
  written ← peek_bytes k.Name
  name ← given (folded_name written)
  taken name

unfoldable pub number_at : Reader ℤ
number_at = do
  written ← peek_bytes k.Number
  n ← given (int_of written)
  taken n

unfoldable pub text_at : Reader (List ℕ)
text_at = do
  written ← peek_bytes k.Text
  if is_utf8 (unquoted written) then taken (unquoted written) else stop Unexpected

-- ---- lists and chains: the number bounds the iterations, and each iteration takes a token

abbrev pub more_from : {A B : Type 0} → TokenKind → Reader A → (B → A → B) → ℕ → B → Reader B
more_from mark p add zero all = pure all
more_from mark p add (suc n) all = do
  found ← eat mark
  if found then p >>= (λ x. more_from mark p add n (add all x)) else pure all

-- one value, and at most n more
abbrev pub listed_up_to : {A : Type 0} → TokenKind → Reader A → ℕ → Reader (List A)
listed_up_to mark p n = p >>= (λ x. more_from mark p (λ all y. all ++ y ∷ []) n (x ∷ []))

abbrev pub listed : {A : Type 0} → TokenKind → Reader A → Reader (List A)
listed mark p = p >>= (λ x ts. more_from mark p (λ all y. all ++ y ∷ []) (length ts) (x ∷ []) ts)

abbrev pub chain : TokenKind → (Cond → Cond → Cond) → Reader Cond → Reader Cond
chain mark both p = p >>= (λ x ts. more_from mark p both (length ts) x ts)

-- ---- items and sources

abbrev pub column_of : List ℕ → Option (List ℕ) → ColumnRef
column_of first None = record { source = None; column = first }
column_of first (Some second) = record { source = Some first; column = second }

-- the value after a token of the kind, if that token comes next
abbrev pub optional : {A : Type 0} → TokenKind → Reader A → Reader (Option A)
optional kind p = do
  found ← eat kind
  if found then (do x ← p; pure (Some x)) else pure None

unfoldable pub column_at : Reader ColumnRef
column_at = do
  first ← name_at
  second ← optional k.Dot name_at
  pure (column_of first second)

unfoldable pub what_at : Reader What
what_at = do
  is_count ← eat k.Count
  if is_count then (do expect k.Open; expect k.Star; expect k.Close; pure what.Count) else (do
    is_sum ← eat k.Sum
    if is_sum then (do expect k.Open; c ← column_at; expect k.Close; pure (what.Sum c)) else (do c ← column_at; pure (what.Column c)))

unfoldable pub item_alias_at : Reader (Option (List ℕ))
item_alias_at = optional k.As name_at

unfoldable pub item_at : Reader Item
item_at = do
  w ← what_at
  a ← item_alias_at
  pure (record { what = w; alias = a })

unfoldable pub items_at : Reader (List Item)
items_at = listed k.Comma item_at

unfoldable pub source_alias_at : Reader (Option (List ℕ))
source_alias_at = do
  is_as ← eat k.As
  (λ ts. if is_as || sees k.Name ts then and_then (name_at ts) (λ n. pure (Some n)) else Ok (None, ts))

unfoldable pub source_at : Reader SourceRef
source_at = do
  t ← name_at
  a ← source_alias_at
  pure (record { table = t; alias = a })

unfoldable pub sources_at : Reader (List SourceRef)
sources_at = listed_up_to k.Comma source_at 3

unfoldable pub columns_at : Reader (List ColumnRef)
columns_at = listed k.Comma column_at

-- ---- conditions

unfoldable pub operand_at : Reader Term
operand_at = λ ts. if sees k.Number ts then and_then (number_at ts) (λ n. pure (term.Int n))
    else (if sees k.Text ts then and_then (text_at ts) (λ s. pure (term.Text s))
    else and_then (column_at ts) (λ c. pure (term.Column c)))

unfoldable pub sign_of : TokenKind → Option Sign
sign_of k.Eq = Some sign.Eq
sign_of k.Ne = Some sign.Ne
sign_of k.Lt = Some sign.Lt
sign_of k.Le = Some sign.Le
sign_of k.Gt = Some sign.Gt
sign_of k.Ge = Some sign.Ge
sign_of _ = None

abbrev pub signed : Option Sign → Reader Sign
signed None = stop Unexpected
signed (Some s) = λ ts. Ok (s, next ts)

unfoldable pub sign_at : Reader Sign
sign_at = λ ts. signed (sign_of (kind_at ts)) ts

unfoldable pub comparison_at : Reader Cond
comparison_at = do
  left ← operand_at
  s ← sign_at
  right ← operand_at
  pure (cond.Is left s right)

-- a condition and its closing bracket
unfoldable pub closed : Reader Cond → Reader Cond
closed p = do
  c ← p
  expect k.Close
  pure c

-- with at most n levels of NOT and brackets
unfoldable pub not_at : ℕ → Reader Cond
not_at zero = λ ts. if sees k.Not ts then stop TooDeep ts else (if sees k.Open ts then stop TooDeep ts else comparison_at ts)
not_at (suc levels) = λ ts.
    if sees k.Not ts then and_then (not_at levels (next ts)) (λ c. pure (cond.Not c))
    else (if sees k.Open ts then closed (chain k.Or cond.Or (chain k.And cond.And (not_at levels))) (next ts)
    else comparison_at ts)

unfoldable pub and_at : ℕ → Reader Cond
and_at levels = chain k.And cond.And (not_at levels)

unfoldable pub or_at : ℕ → Reader Cond
or_at levels = chain k.Or cond.Or (and_at levels)

unfoldable pub condition_at : ℕ → Reader (Option Cond)
condition_at levels = optional k.Where (or_at levels)

-- ---- statements

-- the value after a token of the kind
abbrev pub preceded : {A : Type 0} → TokenKind → Reader A → Reader A
preceded kind p = do
  expect kind
  p

unfoldable pub group_at : Reader (List ColumnRef)
group_at = do
  found ← eat k.Group
  if found then preceded k.By columns_at else pure []

unfoldable pub query_at : ℕ → Reader Query
query_at levels = do
  expect k.Select
  is ← items_at
  expect k.From
  ss ← sources_at
  c ← condition_at levels
  g ← group_at
  pure (record { items = is; sources = ss; cond = c; group = g })

unfoldable pub window_at : Reader (Option (List ℕ))
window_at = optional k.Period text_at

unfoldable pub right_at : ℕ → Reader (Option Query)
right_at levels = optional k.Except (preceded k.All (query_at levels))

unfoldable pub ended : Reader (Unit {0})
ended [] = Ok (tt, [])
ended (t ∷ ts) = stop Unexpected (t ∷ ts)

unfoldable pub end_at : Reader (Unit {0})
end_at = do
  _ ← eat k.Semicolon
  ended

unfoldable pub body_at : ℕ → Reader Statement
body_at levels = do
  expect k.Validtime
  w ← window_at
  l ← query_at levels
  r ← right_at levels
  pure (record { window = w; left = l; right = r })

unfoldable pub statement_at : ℕ → Reader Statement
statement_at levels = do
  s ← body_at levels
  end_at
  pure s

-- the fault if reading stops at a byte
abbrev pub stopped_at : Refusal → ℕ → SqlFault
stopped_at Unexpected at = fault fault_kind.UnexpectedToken at
stopped_at TooDeep at = fault fault_kind.TooDeep at
stopped_at Memory at = out_of_memory

-- ---- what a reading function ensures: this outcome, unless an allocation failed

abbrev pub Reads : {A : Type 0} → Outcome A → Result A Refusal → List Token → Type 0
Reads outcome (Ok x) new = outcome ≡ Ok (x, new)
Reads outcome (Err e) new = e ≢ Memory → outcome ≡ Err (e, new)

abbrev pub Peeks : Outcome (List ℕ) → Result (Bor (List ℕ)) Refusal → List Token → Type 0
Peeks outcome (Ok x) ts = outcome ≡ Ok (x.now, ts)
Peeks outcome (Err e) ts = (e ≢ Memory) × (outcome ≡ Err (e, ts))
