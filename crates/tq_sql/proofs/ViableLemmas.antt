-- If the descent stops, a statement begins with the tokens before that position.
use Rattle.std.proofs.Common.{◌≡◌, inl, inr, ℕ, Bool, true, false, List, [], ◌∷◌, ◌++◌, refl, ap, sym, ◌∙◌, subst, append-nil, lit≤}
use Rattle.std.specs.Prelude.{Option, None, Ok, Err}
use Rattle.tq_sql.specs.declared.cursor.Refusal.{Refusal}
use Rattle.tq_sql.specs.declared.cursor.Refusal.TheVariants.{Unexpected}
use Rattle.tq_sql.specs.declared.statement.ColumnRef.{ColumnRef}
use Rattle.tq_sql.specs.declared.statement.Cond.{Cond}
use Rattle.tq_sql.specs.declared.statement.Item.{Item}
use Rattle.tq_sql.specs.declared.statement.Query.{Query}
use Rattle.tq_sql.specs.declared.statement.SourceRef.{SourceRef}
use Rattle.tq_sql.specs.declared.statement.Statement.{Statement}
use Rattle.tq_sql.specs.declared.token.TokenKind.TheVariants as k
use Rattle.tq_sql.specs.Tokens.{Token}
use Rattle.tq_sql.specs.Grammar.{After, Pair, Optional, Listed, IsColumn, IsItem, IsSource, IsText, IsCondition, IsGroup, IsQuery, IsEnd, IsStatementWithin}
use Rattle.tq_sql.specs.Descent.{Outcome, pure, next, sees, expect, text_at, items_at, sources_at, columns_at, condition_at, preceded, group_at, query_at, window_at, right_at, ended, end_at, body_at, statement_at, ◌>>=◌}
use Rattle.tq_sql.proofs.ReaderLemmas.{kind_seen, after_seen, after_unseen}
use Rattle.tq_sql.proofs.ItemLemmas.{by_real, group_real, items_reader}
use Rattle.tq_sql.proofs.StatementLemmas.{IsBody, body_ends, body_sound, select_real, from_real, period_real, except_real, all_real, validtime_real, semicolon_real, where_reader, sources_sound, query_reader, window_reader}
use Rattle.tq_sql.proofs.OpenLemmas.{GoesOnAs, IsOpen, Example, token_of, err_pair, none_taken, wider, shaped_open, behind_open, optional_open, pair_open}
use Rattle.tq_sql.proofs.ViableItems.{FewSources, text_stops, column_example, text_example, item_example, source_example, listed_example, items_open, sources_open, columns_open}
use Rattle.tq_sql.proofs.ViableConditions.{condition_open}

-- ---- queries

group_open : IsOpen IsGroup group_at
unfolding group_at
group_open = record { open_at = λ ts rest why e. at ts rest why (sees k.Group ts) refl e }
  where
    listed_columns : (t : Token) (ts : List Token) (cs : List ColumnRef) → t.kind ≡ k.Group → After k.By (Listed k.Comma IsColumn) ts cs → IsGroup (t ∷ ts) cs
    listed_columns t [] cs is more = absurd more
    listed_columns t (u ∷ us) [] is more = absurd more.1
    listed_columns t (u ∷ us) (x ∷ cs) is more = (is, more)

    at : (ts rest : List Token) (why : Refusal) (found : Bool) → sees k.Group ts ≡ found → group_at ts ≡ Err (why, rest) → (front : List Token) × (ts ≡ front ++ rest) × GoesOnAs IsGroup front
    at ts rest why false s e = let none : ◌≡◌ {A = Outcome (List ColumnRef)} (Ok ([], ts)) (Err (why, rest)) = rw (s, after_unseen k.Group ts s) at e in cc
    at ts rest why true s e =
        let first = kind_seen k.Group ts s group_real in
        let o = (behind_open k.By by_real (Listed k.Comma IsColumn) columns_at (listed_example k.Comma IsColumn column_example) columns_open).open_at (next ts) rest why (rw (s, after_seen k.Group ts s) at e) in
        (first.0 ∷ o.0, first.1 ∙ ap (λ z. first.0 ∷ z) o.1, (o.2.0, o.2.1, listed_columns first.0 (o.0 ++ o.2.0) o.2.1 first.2 o.2.2))

abbrev of_parts : List Item → List SourceRef → Option Cond → List ColumnRef → Query
of_parts is ss x g = record { items = is; sources = ss; cond = x; group = g }

abbrev IsTail : ℕ → List Token → Option Cond × List ColumnRef → Type 0
IsTail levels = Pair (Optional (After k.Where (IsCondition levels))) IsGroup

abbrev IsFrom : ℕ → List Token → List SourceRef × (Option Cond × List ColumnRef) → Type 0
IsFrom levels = Pair FewSources (IsTail levels)

abbrev IsSelection : ℕ → List Token → List Item × (List SourceRef × (Option Cond × List ColumnRef)) → Type 0
IsSelection levels = Pair (Listed k.Comma IsItem) (After k.From (IsFrom levels))

tail_example : (levels : ℕ) → Example (IsTail levels)
tail_example levels = ([], (None, []), ([], [], refl, refl, refl))

from_example : (levels : ℕ) → Example (IsFrom levels)
unfolding listed_example tail_example
from_example levels =
    let ss = listed_example k.Comma IsSource source_example in
    (ss.0, (ss.1, (tail_example levels).1), (ss.0, [], sym (append-nil ss.0), (ss.2, lit≤ tt), (tail_example levels).2))

selection_example : (levels : ℕ) → Example (IsSelection levels)
selection_example levels =
    let is = listed_example k.Comma IsItem item_example in
    (is.0 ++ token_of k.From ∷ (from_example levels).0, (is.1, (from_example levels).1), (is.0, token_of k.From ∷ (from_example levels).0, refl, is.2, (refl, (from_example levels).2)))

selection_open : (levels : ℕ) → IsOpen (IsSelection levels) (items_at >>= (λ is. expect k.From >>= (λ _. sources_at >>= (λ ss. condition_at levels >>= (λ x. group_at >>= (λ g. pure (of_parts is ss x g)))))))
selection_open levels =
    pair_open (Listed k.Comma IsItem) (After k.From (IsFrom levels)) items_at (λ is. expect k.From >>= (λ _. sources_at >>= (λ ss. condition_at levels >>= (λ x. group_at >>= (λ g. pure (of_parts is ss x g)))))) items_reader.sound items_open
    (λ is. behind_open k.From from_real (IsFrom levels) (sources_at >>= (λ ss. condition_at levels >>= (λ x. group_at >>= (λ g. pure (of_parts is ss x g))))) (from_example levels)
    (pair_open FewSources (IsTail levels) sources_at (λ ss. condition_at levels >>= (λ x. group_at >>= (λ g. pure (of_parts is ss x g)))) (λ ts rest ss e. let s = sources_sound ts rest ss e in (s.0, s.1, (s.2, s.3))) sources_open
    (λ ss. pair_open (Optional (After k.Where (IsCondition levels))) IsGroup (condition_at levels) (λ x. group_at >>= (λ g. pure (of_parts is ss x g))) (where_reader levels).sound (condition_open levels)
    (λ x. shaped_open IsGroup group_at (λ g. of_parts is ss x g) group_open) ([], [], refl)) (tail_example levels)))
    (token_of k.From ∷ (from_example levels).0, (from_example levels).1, (refl, (from_example levels).2))

of_selection : (levels : ℕ) (ts : List Token) (x : List Item × (List SourceRef × (Option Cond × List ColumnRef))) → After k.Select (IsSelection levels) ts x → (q : Query) × IsQuery levels ts q
of_selection levels [] x is = absurd is
of_selection levels (s ∷ ts) x is = (of_parts x.0 x.1.0 x.1.1.0 x.1.1.1, by is.1.1 is.1.2 is.1.4)
  where
    by : (b : List Token) → ts ≡ is.1.0 ++ b → After k.From (IsFrom levels) b x.1 → IsQuery levels (s ∷ ts) (of_parts x.0 x.1.0 x.1.1.0 x.1.1.1)
    by [] same from = absurd from
    by (f ∷ b) same from = record { spelled = (is.0, (is.1.0, f ∷ b, same, is.1.3, (from.0, (from.1.0, from.1.1, from.1.2, from.1.3.0, from.1.4)))); few_sources = from.1.3.1 }

query_example : (levels : ℕ) → Example (IsQuery levels)
query_example levels =
    let made = of_selection levels (token_of k.Select ∷ (selection_example levels).0) (selection_example levels).1 (refl, (selection_example levels).2) in
    (token_of k.Select ∷ (selection_example levels).0, made.0, made.1)

query_open : (levels : ℕ) → IsOpen (IsQuery levels) (query_at levels)
unfolding query_at
query_open levels =
    wider (After k.Select (IsSelection levels)) (IsQuery levels) (expect k.Select >>= (λ _. items_at >>= (λ is. expect k.From >>= (λ _. sources_at >>= (λ ss. condition_at levels >>= (λ x. group_at >>= (λ g. pure (of_parts is ss x g)))))))) (of_selection levels)
    (behind_open k.Select select_real (IsSelection levels) (items_at >>= (λ is. expect k.From >>= (λ _. sources_at >>= (λ ss. condition_at levels >>= (λ x. group_at >>= (λ g. pure (of_parts is ss x g))))))) (selection_example levels) (selection_open levels))

-- ---- statements

text_open : IsOpen IsText text_at
text_open = record { open_at = λ ts rest why e. none_taken IsText text_example ts rest (text_stops ts rest why e) }

window_open : IsOpen (Optional (After k.Period IsText)) window_at
unfolding window_at
window_open = optional_open k.Period period_real IsText text_at text_open

abbrev IsRight : ℕ → List Token → Option Query → Type 0
IsRight levels = Optional (After k.Except (After k.All (IsQuery levels)))

right_open : (levels : ℕ) → IsOpen (IsRight levels) (right_at levels)
unfolding right_at
right_open levels = optional_open k.Except except_real (After k.All (IsQuery levels)) (preceded k.All (query_at levels)) (behind_open k.All all_real (IsQuery levels) (query_at levels) (query_example levels) (query_open levels))

abbrev made : Option (List ℕ) → Query → Option Query → Statement
made w l r = record { window = w; left = l; right = r }

abbrev IsQueries : ℕ → List Token → Query × Option Query → Type 0
IsQueries levels = Pair (IsQuery levels) (IsRight levels)

queries_example : (levels : ℕ) → Example (IsQueries levels)
queries_example levels = ((query_example levels).0, ((query_example levels).1, None), ((query_example levels).0, [], sym (append-nil (query_example levels).0), (query_example levels).2, refl))

abbrev IsWindowed : ℕ → List Token → Option (List ℕ) × (Query × Option Query) → Type 0
IsWindowed levels = Pair (Optional (After k.Period IsText)) (IsQueries levels)

windowed_example : (levels : ℕ) → Example (IsWindowed levels)
windowed_example levels = ((queries_example levels).0, (None, (queries_example levels).1), ([], (queries_example levels).0, refl, refl, (queries_example levels).2))

body_open : (levels : ℕ) → IsOpen (IsBody levels) (body_at levels)
unfolding body_at
body_open levels =
    wider (After k.Validtime (IsWindowed levels)) (IsBody levels) (expect k.Validtime >>= (λ _. window_at >>= (λ w. query_at levels >>= (λ l. right_at levels >>= (λ r. pure (made w l r)))))) (λ ts x is. (made x.0 x.1.0 x.1.1, is))
    (behind_open k.Validtime validtime_real (IsWindowed levels) (window_at >>= (λ w. query_at levels >>= (λ l. right_at levels >>= (λ r. pure (made w l r))))) (windowed_example levels)
    (pair_open (Optional (After k.Period IsText)) (IsQueries levels) window_at (λ w. query_at levels >>= (λ l. right_at levels >>= (λ r. pure (made w l r)))) window_reader.sound window_open
    (λ w. pair_open (IsQuery levels) (IsRight levels) (query_at levels) (λ l. right_at levels >>= (λ r. pure (made w l r))) (query_reader levels).sound (query_open levels)
    (λ l. shaped_open (IsRight levels) (right_at levels) (λ r. made w l r) (right_open levels)) ([], None, refl)) (queries_example levels)))

ended_stops : (ts rest : List Token) (why : Refusal) → ◌≡◌ {A = Outcome (Unit {0})} (ended ts) (Err (why, rest)) → rest ≡ ts
unfolding ended
ended_stops [] rest why e = cc
ended_stops (t ∷ ts) rest why e = sym (err_pair {A = Unit {0}} Unexpected why (t ∷ ts) rest e).1

end_open : (s : Statement) → IsOpen IsEnd (end_at >>= (λ _. pure s))
unfolding end_at
end_open s = shaped_open IsEnd end_at (λ _. s) (record { open_at = λ ts rest why e. at ts rest why (sees k.Semicolon ts) refl e })
  where
    at : (ts rest : List Token) (why : Refusal) (found : Bool) → sees k.Semicolon ts ≡ found → end_at ts ≡ Err (why, rest) → (front : List Token) × (ts ≡ front ++ rest) × GoesOnAs IsEnd front
    at ts rest why false found e = none_taken IsEnd ([], tt, inl refl) ts rest (ended_stops ts rest why (rw (after_unseen k.Semicolon ts found) at e))
    at ts rest why true found e =
        let first = kind_seen k.Semicolon ts found semicolon_real in
        (first.0 ∷ [], first.1 ∙ ap (λ z. first.0 ∷ z) (sym (ended_stops (next ts) rest why (rw (after_seen k.Semicolon ts found) at e))), ([], tt, inr (first.2, refl)))

pub statement_open : (levels : ℕ) → IsOpen (IsStatementWithin levels) (statement_at levels)
unfolding statement_at
statement_open levels = wider (Pair (IsBody levels) IsEnd) (IsStatementWithin levels) (body_at levels >>= (λ s. end_at >>= (λ _. pure s))) to (pair_open (IsBody levels) IsEnd (body_at levels) (λ s. end_at >>= (λ _. pure s)) (body_sound levels) (body_open levels) end_open ([], tt, inl refl))
  where
    to : (ts : List Token) (x : Statement × Unit {0}) → Pair (IsBody levels) IsEnd ts x → (y : Statement) × IsStatementWithin levels ts y
    to ts x is = let P : List Token → Type 0 = λ z. IsStatementWithin levels z x.0 in (x.0, subst P (sym is.2) (body_ends levels is.0 is.1 x.0 is.3 is.4))
