-- The descent is steady, so no statement continues with the token before which it stops.
use Rattle.std.proofs.Common.{◌≡◌, ◌≢◌, inl, inr, ℕ, zero, suc, Bool, true, false, ◌||◌, cond, List, [], ◌∷◌, ◌++◌, length, refl, ap, subst, arith}
use Rattle.std.specs.Prelude.{Option, Some, None, Ok, Err}
use Rattle.std.specs.Str.{is_utf8}
use Rattle.tq_base.specs.Names.{folded_name}
use Rattle.tq_base.specs.Numbers.{int_of}
use Rattle.tq_sql.specs.declared.cursor.Refusal.{Refusal}
use Rattle.tq_sql.specs.declared.cursor.Refusal.TheVariants.{TooDeep, Unexpected}
use Rattle.tq_sql.specs.declared.statement.ColumnRef.{ColumnRef}
use Rattle.tq_sql.specs.declared.statement.Cond.{Cond}
use Rattle.tq_sql.specs.declared.statement.Cond.TheVariants as c
use Rattle.tq_sql.specs.declared.statement.Item.{Item}
use Rattle.tq_sql.specs.declared.statement.Query.{Query}
use Rattle.tq_sql.specs.declared.statement.Sign.{Sign}
use Rattle.tq_sql.specs.declared.statement.SourceRef.{SourceRef}
use Rattle.tq_sql.specs.declared.statement.Statement.{Statement}
use Rattle.tq_sql.specs.declared.statement.Term.TheVariants as term
use Rattle.tq_sql.specs.declared.statement.What.{What}
use Rattle.tq_sql.specs.declared.statement.What.TheVariants as what
use Rattle.tq_sql.specs.declared.token.TokenKind.{TokenKind}
use Rattle.tq_sql.specs.declared.token.TokenKind.TheVariants as k
use Rattle.tq_sql.specs.Tokens.{Token, unquoted}
use Rattle.tq_sql.specs.Grammar.{IsStatementWithin}
use Rattle.tq_sql.specs.Descent.{Outcome, Reader, pure, stop, given, kind_at, next, sees, eat, peek_bytes, taken, expect, name_at, number_at, text_at, more_from, listed, listed_up_to, chain, column_of, optional, column_at, what_at, item_alias_at, item_at, items_at, source_alias_at, source_at, sources_at, columns_at, operand_at, sign_of, signed, sign_at, comparison_at, closed, not_at, and_at, or_at, condition_at, preceded, group_at, query_at, window_at, right_at, ended, end_at, body_at, statement_at, ◌>>=◌}
use Rattle.tq_sql.proofs.StatementLemmas.{statement_complete}
use Rattle.tq_sql.proofs.SteadyLemmas.{Same, tail_of, Agreeing, AgreeingTo, Says, IsSteady, bind_steady, ok_says, unexpected_says, pure_steady, stop_steady, too_deep_steady, given_steady, either_steady, same_kinds, next_steady, if_steady, eat_steady, expect_steady, taken_steady, look_steady, behind_steady, optional_steady, more_steady, all_steady}

-- ---- names, numbers and texts

name_steady : {deep : Bool} → IsSteady deep name_at
unfolding name_at
name_steady =
    bind_steady (peek_bytes k.Name) (λ w. given (folded_name w) >>= (λ x. taken x)) (look_steady k.Name)
    (λ w. bind_steady (given (folded_name w)) (λ x. taken x) (given_steady (folded_name w)) (λ x. taken_steady x))

number_steady : {deep : Bool} → IsSteady deep number_at
unfolding number_at
number_steady =
    bind_steady (peek_bytes k.Number) (λ w. given (int_of w) >>= (λ x. taken x)) (look_steady k.Number)
    (λ w. bind_steady (given (int_of w)) (λ x. taken x) (given_steady (int_of w)) (λ x. taken_steady x))

text_steady : {deep : Bool} → IsSteady deep text_at
unfolding text_at
text_steady =
    bind_steady (peek_bytes k.Text) (λ w. cond (is_utf8 (unquoted w)) (taken (unquoted w)) (stop Unexpected)) (look_steady k.Text)
    (λ w. either_steady (is_utf8 (unquoted w)) (taken (unquoted w)) (stop Unexpected) (taken_steady (unquoted w)) stop_steady)

-- ---- lists and chains

list_steady : {A : Type 0} {deep : Bool} (mark : TokenKind) → mark ≢ k.End → (p : List Token → Outcome A) → IsSteady deep p → IsSteady deep (listed mark p)
list_steady mark real p steady =
    bind_steady p (λ x ts. more_from mark p (λ all y. all ++ y ∷ []) (length ts) (x ∷ []) ts) steady (λ x. all_steady mark real p (λ all y. all ++ y ∷ []) steady (x ∷ []))

few_steady : {A : Type 0} {deep : Bool} (mark : TokenKind) (p : List Token → Outcome A) (n : ℕ) → IsSteady deep p → IsSteady deep (listed_up_to mark p n)
few_steady mark p n steady = bind_steady p (λ x. more_from mark p (λ all y. all ++ y ∷ []) n (x ∷ [])) steady (λ x. more_steady mark p (λ all y. all ++ y ∷ []) steady n (x ∷ []))

chain_steady : {deep : Bool} (mark : TokenKind) → mark ≢ k.End → (both : Cond → Cond → Cond) (p : List Token → Outcome Cond) → IsSteady deep p → IsSteady deep (chain mark both p)
chain_steady mark real both p steady = bind_steady p (λ x ts. more_from mark p both (length ts) x ts) steady (λ x. all_steady mark real p both steady x)

-- ---- columns, items and sources

column_steady : {deep : Bool} → IsSteady deep column_at
unfolding column_at
column_steady =
    bind_steady name_at (λ first. optional k.Dot name_at >>= (λ second. pure (column_of first second))) name_steady
    (λ first. bind_steady (optional k.Dot name_at) (λ second. pure (column_of first second)) (optional_steady k.Dot name_at name_steady) (λ second. pure_steady (column_of first second)))

abbrev counted : Reader What
counted = expect k.Open >>= (λ _. expect k.Star >>= (λ _. expect k.Close >>= (λ _. pure what.Count)))

counted_steady : {deep : Bool} → IsSteady deep counted
counted_steady =
    bind_steady (expect k.Open) (λ _. expect k.Star >>= (λ _. expect k.Close >>= (λ _. pure what.Count))) (expect_steady k.Open)
    (λ _. bind_steady (expect k.Star) (λ _. expect k.Close >>= (λ _. pure what.Count)) (expect_steady k.Star)
    (λ _. bind_steady (expect k.Close) (λ _. pure what.Count) (expect_steady k.Close) (λ _. pure_steady what.Count)))

abbrev summed : Reader What
summed = expect k.Open >>= (λ _. column_at >>= (λ x. expect k.Close >>= (λ _. pure (what.Sum x))))

summed_steady : {deep : Bool} → IsSteady deep summed
summed_steady =
    bind_steady (expect k.Open) (λ _. column_at >>= (λ x. expect k.Close >>= (λ _. pure (what.Sum x)))) (expect_steady k.Open)
    (λ _. bind_steady column_at (λ x. expect k.Close >>= (λ _. pure (what.Sum x))) column_steady
    (λ x. bind_steady (expect k.Close) (λ _. pure (what.Sum x)) (expect_steady k.Close) (λ _. pure_steady (what.Sum x))))

abbrev plain : Reader What
plain = column_at >>= (λ x. pure (what.Column x))

plain_steady : {deep : Bool} → IsSteady deep plain
plain_steady = bind_steady column_at (λ x. pure (what.Column x)) column_steady (λ x. pure_steady (what.Column x))

what_steady : {deep : Bool} → IsSteady deep what_at
unfolding what_at
what_steady =
    bind_steady (eat k.Count) (λ is_count. cond is_count counted (eat k.Sum >>= (λ is_sum. cond is_sum summed plain))) (eat_steady k.Count)
    (λ is_count. either_steady is_count counted (eat k.Sum >>= (λ is_sum. cond is_sum summed plain)) counted_steady
    (bind_steady (eat k.Sum) (λ is_sum. cond is_sum summed plain) (eat_steady k.Sum) (λ is_sum. either_steady is_sum summed plain summed_steady plain_steady)))

item_alias_steady : {deep : Bool} → IsSteady deep item_alias_at
unfolding item_alias_at
item_alias_steady = optional_steady k.As name_at name_steady

abbrev of_item : What → Option (List ℕ) → Item
of_item w a = record { what = w; alias = a }

item_steady : {deep : Bool} → IsSteady deep item_at
unfolding item_at
item_steady =
    bind_steady what_at (λ w. item_alias_at >>= (λ a. pure (of_item w a))) what_steady
    (λ w. bind_steady item_alias_at (λ a. pure (of_item w a)) item_alias_steady (λ a. pure_steady (of_item w a)))

comma_real : k.Comma ≢ k.End
comma_real e = cc

pub items_steady : {deep : Bool} → IsSteady deep items_at
unfolding items_at
items_steady = list_steady k.Comma comma_real item_at item_steady

abbrev named : Reader (Option (List ℕ))
named = name_at >>= (λ n. pure (Some n))

named_steady : {deep : Bool} → IsSteady deep named
named_steady = bind_steady name_at (λ n. pure (Some n)) name_steady (λ n. pure_steady (Some n))

source_alias_steady : {deep : Bool} → IsSteady deep source_alias_at
unfolding source_alias_at
source_alias_steady {deep} = bind_steady (eat k.As) (λ is_as ts. cond (is_as || sees k.Name ts) (named ts) (Ok (None, ts))) (eat_steady k.As) by
  where
    by : (is_as : Bool) → IsSteady deep (λ ts. cond (is_as || sees k.Name ts) (named ts) (Ok (None, ts)))
    by true = named_steady
    by false = if_steady k.Name named (pure None) named_steady (pure_steady None)

abbrev of_source : List ℕ → Option (List ℕ) → SourceRef
of_source t a = record { table = t; alias = a }

source_steady : {deep : Bool} → IsSteady deep source_at
unfolding source_at
source_steady =
    bind_steady name_at (λ t. source_alias_at >>= (λ a. pure (of_source t a))) name_steady
    (λ t. bind_steady source_alias_at (λ a. pure (of_source t a)) source_alias_steady (λ a. pure_steady (of_source t a)))

pub sources_steady : {deep : Bool} → IsSteady deep sources_at
unfolding sources_at
sources_steady = few_steady k.Comma source_at 3 source_steady

columns_steady : {deep : Bool} → IsSteady deep columns_at
unfolding columns_at
columns_steady = list_steady k.Comma comma_real column_at column_steady

-- ---- conditions

operand_steady : {deep : Bool} → IsSteady deep operand_at
unfolding operand_at
operand_steady =
    if_steady k.Number (number_at >>= (λ n. pure (term.Int n))) (λ ts. cond (sees k.Text ts) ((text_at >>= (λ s. pure (term.Text s))) ts) ((column_at >>= (λ x. pure (term.Column x))) ts))
    (bind_steady number_at (λ n. pure (term.Int n)) number_steady (λ n. pure_steady (term.Int n)))
    (if_steady k.Text (text_at >>= (λ s. pure (term.Text s))) (column_at >>= (λ x. pure (term.Column x)))
    (bind_steady text_at (λ s. pure (term.Text s)) text_steady (λ s. pure_steady (term.Text s)))
    (bind_steady column_at (λ x. pure (term.Column x)) column_steady (λ x. pure_steady (term.Column x))))

signed_steady : {deep : Bool} (o : Option Sign) → IsSteady deep (signed o)
signed_steady None = stop_steady
signed_steady (Some s) = next_steady (pure s) (pure_steady s)

sign_steady : {deep : Bool} → IsSteady deep sign_at
unfolding sign_at
sign_steady {deep} = record { says = λ ts. (signed_steady (sign_of (kind_at ts))).says ts; suffix = λ ts. (signed_steady {deep = deep} (sign_of (kind_at ts))).suffix ts; agrees = agrees }
  where
    agrees : (t : Token) (rest more u v : List Token) → Same t rest more u v → AgreeingTo t rest more (signed (sign_of (kind_at u)) u) (signed (sign_of (kind_at v)) v)
    agrees t rest more u v same =
        let P = λ (kind : TokenKind). AgreeingTo t rest more (signed (sign_of (kind_at u)) u) (signed (sign_of kind) v) in
        subst P (same_kinds t rest more u v same) ((signed_steady {deep = deep} (sign_of (kind_at u))).agrees t rest more u v same)

pub comparison_steady : {deep : Bool} → IsSteady deep comparison_at
unfolding comparison_at
comparison_steady =
    bind_steady operand_at (λ left. sign_at >>= (λ s. operand_at >>= (λ right. pure (c.Is left s right)))) operand_steady
    (λ left. bind_steady sign_at (λ s. operand_at >>= (λ right. pure (c.Is left s right))) sign_steady
    (λ s. bind_steady operand_at (λ right. pure (c.Is left s right)) operand_steady (λ right. pure_steady (c.Is left s right))))

and_real : k.And ≢ k.End
and_real e = cc

or_real : k.Or ≢ k.End
or_real e = cc

pub chains_steady : {deep : Bool} (p : List Token → Outcome Cond) → IsSteady deep p → IsSteady deep (chain k.Or c.Or (chain k.And c.And p))
chains_steady p steady = chain_steady k.Or or_real c.Or (chain k.And c.And p) (chain_steady k.And and_real c.And p steady)

pub closed_steady : {deep : Bool} (p : List Token → Outcome Cond) → IsSteady deep p → IsSteady deep (closed p)
unfolding closed
closed_steady p steady =
    bind_steady p (λ x. expect k.Close >>= (λ _. pure x)) steady (λ x. bind_steady (expect k.Close) (λ _. pure x) (expect_steady k.Close) (λ _. pure_steady x))

pub not_steady : (levels : ℕ) → IsSteady true (not_at levels)
unfolding not_at
not_steady zero = if_steady k.Not (stop TooDeep) (λ ts. cond (sees k.Open ts) (stop TooDeep ts) (comparison_at ts)) too_deep_steady (if_steady k.Open (stop TooDeep) comparison_at too_deep_steady comparison_steady)
not_steady (suc levels) =
    let inner = not_steady levels in
    if_steady k.Not (λ ts. (not_at levels >>= (λ x. pure (c.Not x))) (next ts)) (λ ts. cond (sees k.Open ts) (closed (chain k.Or c.Or (chain k.And c.And (not_at levels))) (next ts)) (comparison_at ts))
    (next_steady (not_at levels >>= (λ x. pure (c.Not x))) (bind_steady (not_at levels) (λ x. pure (c.Not x)) inner (λ x. pure_steady (c.Not x))))
    (if_steady k.Open (λ ts. closed (chain k.Or c.Or (chain k.And c.And (not_at levels))) (next ts)) comparison_at
    (next_steady (closed (chain k.Or c.Or (chain k.And c.And (not_at levels)))) (closed_steady (chain k.Or c.Or (chain k.And c.And (not_at levels))) (chains_steady (not_at levels) inner)))
    comparison_steady)

or_steady : (levels : ℕ) → IsSteady true (or_at levels)
unfolding or_at and_at
or_steady levels = chains_steady (not_at levels) (not_steady levels)

condition_steady : (levels : ℕ) → IsSteady true (condition_at levels)
unfolding condition_at
condition_steady levels = optional_steady k.Where (or_at levels) (or_steady levels)

-- ---- queries and statements

pub group_steady : {deep : Bool} → IsSteady deep group_at
unfolding group_at
group_steady =
    bind_steady (eat k.Group) (λ found. cond found (preceded k.By columns_at) (pure [])) (eat_steady k.Group)
    (λ found. either_steady found (preceded k.By columns_at) (pure []) (behind_steady k.By columns_at columns_steady) (pure_steady []))

abbrev pub of_parts : List Item → List SourceRef → Option Cond → List ColumnRef → Query
of_parts is ss x g = record { items = is; sources = ss; cond = x; group = g }

query_steady : (levels : ℕ) → IsSteady true (query_at levels)
unfolding query_at
query_steady levels =
    bind_steady (expect k.Select) (λ _. items_at >>= (λ is. expect k.From >>= (λ _. sources_at >>= (λ ss. condition_at levels >>= (λ x. group_at >>= (λ g. pure (of_parts is ss x g))))))) (expect_steady k.Select)
    (λ _. bind_steady items_at (λ is. expect k.From >>= (λ _. sources_at >>= (λ ss. condition_at levels >>= (λ x. group_at >>= (λ g. pure (of_parts is ss x g)))))) items_steady
    (λ is. bind_steady (expect k.From) (λ _. sources_at >>= (λ ss. condition_at levels >>= (λ x. group_at >>= (λ g. pure (of_parts is ss x g))))) (expect_steady k.From)
    (λ _. bind_steady sources_at (λ ss. condition_at levels >>= (λ x. group_at >>= (λ g. pure (of_parts is ss x g)))) sources_steady
    (λ ss. bind_steady (condition_at levels) (λ x. group_at >>= (λ g. pure (of_parts is ss x g))) (condition_steady levels)
    (λ x. bind_steady group_at (λ g. pure (of_parts is ss x g)) group_steady (λ g. pure_steady (of_parts is ss x g)))))))

pub window_steady : {deep : Bool} → IsSteady deep window_at
unfolding window_at
window_steady = optional_steady k.Period text_at text_steady

right_steady : (levels : ℕ) → IsSteady true (right_at levels)
unfolding right_at
right_steady levels = optional_steady k.Except (preceded k.All (query_at levels)) (behind_steady k.All (query_at levels) (query_steady levels))

abbrev pub made : Option (List ℕ) → Query → Option Query → Statement
made w l r = record { window = w; left = l; right = r }

body_steady : (levels : ℕ) → IsSteady true (body_at levels)
unfolding body_at
body_steady levels =
    bind_steady (expect k.Validtime) (λ _. window_at >>= (λ w. query_at levels >>= (λ l. right_at levels >>= (λ r. pure (made w l r))))) (expect_steady k.Validtime)
    (λ _. bind_steady window_at (λ w. query_at levels >>= (λ l. right_at levels >>= (λ r. pure (made w l r)))) window_steady
    (λ w. bind_steady (query_at levels) (λ l. right_at levels >>= (λ r. pure (made w l r))) (query_steady levels)
    (λ l. bind_steady (right_at levels) (λ r. pure (made w l r)) (right_steady levels) (λ r. pure_steady (made w l r)))))

ended_steady : {deep : Bool} → IsSteady deep ended
unfolding ended
ended_steady {deep} = record { says = says; suffix = suffix; agrees = λ t rest more u v same. agrees t rest more u v same.back same.left same.right }
  where
    says : (ts : List Token) → Says deep (ended ts)
    says [] = ok_says deep (tt, [])
    says (t ∷ ts) = unexpected_says (Unit {0}) deep (t ∷ ts)

    suffix : (ts : List Token) → (front : List Token) × (ts ≡ front ++ tail_of (ended ts))
    suffix [] = ([], refl)
    suffix (t ∷ ts) = ([], refl)

    agrees : (t : Token) (rest more u v back : List Token) → u ≡ back ++ t ∷ rest → v ≡ back ++ t ∷ more → AgreeingTo t rest more (ended u) (ended v)
    agrees t rest more [] v [] l r = cc
    agrees t rest more [] v (b ∷ bs) l r = cc
    agrees t rest more (x ∷ u) [] [] l r = cc
    agrees t rest more (x ∷ u) [] (b ∷ bs) l r = cc
    agrees t rest more (x ∷ u) (y ∷ v) back l r = inl (refl, record { back = back; left = l; right = r })

pub end_steady : {deep : Bool} → IsSteady deep end_at
unfolding end_at
end_steady = bind_steady (eat k.Semicolon) (λ _. ended) (eat_steady k.Semicolon) (λ _. ended_steady)

pub statement_steady : (levels : ℕ) → IsSteady true (statement_at levels)
unfolding statement_at
statement_steady levels = bind_steady (body_at levels) (λ s. end_at >>= (λ _. pure s)) (body_steady levels) (λ s. bind_steady end_at (λ _. pure s) end_steady (λ _. pure_steady s))

-- if the descent stops before a token, no statement continues with it
pub no_more : (levels : ℕ) (front : List Token) (t : Token) (rest more : List Token) (why : Refusal) → statement_at levels (front ++ t ∷ rest) ≡ Err (why, t ∷ rest) → (s : Statement) → IsStatementWithin levels (front ++ t ∷ more) s → ⊥
no_more levels front t rest more why stops s is = by (statement_at levels (front ++ t ∷ rest)) stops ((statement_steady levels).agrees t rest more (front ++ t ∷ rest) (front ++ t ∷ more) (record { back = front; left = refl; right = refl }))
  where
    read : statement_at levels (front ++ t ∷ more) ≡ Ok (s, [])
    read = statement_complete levels (front ++ t ∷ more) s is

    differ : (r : Outcome Statement) (e : Refusal × List Token) → r ≡ Err e → r ≡ Ok (s, []) → ⊥
    differ (Ok r) e a b = cc
    differ (Err r) e a b = cc

    agree : (r q : Outcome Statement) → r ≡ Err (why, t ∷ rest) → q ≡ Ok (s, []) → Agreeing t rest more r q → ⊥
    agree (Ok r) q a b h = cc
    agree (Err r) (Ok q) a b h = h
    agree (Err r) (Err q) a b h = cc

    by : (r : Outcome Statement) → r ≡ Err (why, t ∷ rest) → AgreeingTo t rest more r (statement_at levels (front ++ t ∷ more)) → ⊥
    by r is_r (inl h) = agree r (statement_at levels (front ++ t ∷ more)) is_r read h
    by r is_r (inr h) = absurd (let same = ap length (ap tail_of is_r) in omega (arith, h, same))
