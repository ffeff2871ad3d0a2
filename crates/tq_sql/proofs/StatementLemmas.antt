-- The readers of queries and of whole statements.
use Rattle.std.proofs.Common.{◌≡◌, ◌≢◌, ◌≤◌, inl, inr, ℕ, Bool, true, false, ◌||◌, List, [], ◌∷◌, ◌++◌, length, refl, ap, sym, ◌∙◌, subst, append_assoc}
use Rattle.std.specs.Prelude.{Option, Ok, Err}
use Rattle.tq_sql.specs.declared.cursor.Refusal.{Refusal}
use Rattle.tq_sql.specs.declared.statement.ColumnRef.{ColumnRef}
use Rattle.tq_sql.specs.declared.statement.Cond.{Cond}
use Rattle.tq_sql.specs.declared.statement.Item.{Item}
use Rattle.tq_sql.specs.declared.statement.Query.{Query}
use Rattle.tq_sql.specs.declared.statement.SourceRef.{SourceRef}
use Rattle.tq_sql.specs.declared.statement.Statement.{Statement}
use Rattle.tq_sql.specs.declared.token.TokenKind.{TokenKind}
use Rattle.tq_sql.specs.declared.token.TokenKind.TheVariants as k
use Rattle.tq_sql.specs.Tokens.{Token, same_kind}
use Rattle.tq_sql.specs.Grammar.{After, Pair, Optional, Listed, IsItem, IsSource, IsText, IsCondition, IsGroup, IsQuery, IsEnd, IsStatementWithin}
use Rattle.tq_sql.specs.Descent.{Outcome, pure, kind_at, next, sees, expect, preceded, text_at, items_at, source_at, sources_at, or_at, condition_at, group_at, query_at, window_at, right_at, ended, end_at, body_at, statement_at, ◌>>=◌}
use Rattle.tq_sql.specs.Laws.{StatementsAreUnique}
use Rattle.tq_sql.proofs.ReaderLemmas.{IsReader, bind_ok, ok_pair, kind_seen, seen_here, next_of, after_seen, after_unseen, kind_of_first, or_false}
use Rattle.tq_sql.proofs.ConditionLemmas.{or_mark, or_goes, expect_some, expect_here}
use Rattle.tq_sql.proofs.ColumnLemmas.{nothing, optional_reader}
use Rattle.tq_sql.proofs.ComparisonLemmas.{condition_reader, text_sound, text_complete}
use Rattle.tq_sql.proofs.ItemLemmas.{items_goes, items_reader, source_goes, source_reader, group_goes, group_reader, group_stops}
use Rattle.tq_sql.proofs.ListingLemmas.{behind_reader, few_complete, few_sound, optional_stops}

pub select_real : k.Select ≢ k.End
select_real e = cc

pub from_real : k.From ≢ k.End
from_real e = cc

comma_real : k.Comma ≢ k.End
comma_real e = cc

pub where_real : k.Where ≢ k.End
where_real e = cc

pub period_real : k.Period ≢ k.End
period_real e = cc

pub except_real : k.Except ≢ k.End
except_real e = cc

pub all_real : k.All ≢ k.End
all_real e = cc

pub validtime_real : k.Validtime ≢ k.End
validtime_real e = cc

pub semicolon_real : k.Semicolon ≢ k.End
semicolon_real e = cc

-- ---- conditions after WHERE

abbrev pub where_goes : TokenKind → Bool
where_goes = or_mark k.Where or_goes

pub where_reader : (levels : ℕ) → IsReader (Optional (After k.Where (IsCondition levels))) where_goes (condition_at levels)
unfolding condition_at
where_reader levels = optional_reader k.Where where_real (IsCondition levels) or_goes (or_at levels) (condition_reader levels)

-- ---- sources

abbrev sources_goes : TokenKind → Bool
sources_goes = or_mark k.Comma source_goes

comma_ends_source : source_goes k.Comma ≡ false
unfolding same_kind
comma_ends_source = refl

pub sources_sound : (ts rest : List Token) (ss : List SourceRef) → sources_at ts ≡ Ok (ss, rest) → (front : List Token) × (ts ≡ front ++ rest) × Listed k.Comma IsSource front ss × (length ss ≤ 4)
unfolding sources_at
sources_sound ts rest ss e = few_sound k.Comma comma_real IsSource source_goes source_at source_reader comma_ends_source 3 ts rest ss e

sources_complete : (front rest : List Token) (ss : List SourceRef) → Listed k.Comma IsSource front ss → length ss ≤ 4 → sources_goes (kind_at rest) ≡ false → sources_at (front ++ rest) ≡ Ok (ss, rest)
unfolding sources_at
sources_complete front rest ss is few stop = few_complete k.Comma comma_real IsSource source_goes source_at source_reader comma_ends_source 3 front rest ss is few stop

-- ---- queries

-- the kinds with which a query can continue
abbrev pub query_goes : TokenKind → Bool
query_goes kind = (group_goes kind || where_goes kind) || sources_goes kind

from_ends_items : items_goes k.From ≡ false
unfolding same_kind
from_ends_items = refl

where_ends_sources : sources_goes k.Where ≡ false
unfolding same_kind
where_ends_sources = refl

group_ends_sources : sources_goes k.Group ≡ false
unfolding same_kind
group_ends_sources = refl

group_ends_condition : where_goes k.Group ≡ false
unfolding same_kind
group_ends_condition = refl

abbrev of_parts : List Item → List SourceRef → Option Cond → List ColumnRef → Query
of_parts is ss c g = record { items = is; sources = ss; cond = c; group = g }

regroup : (a b c d rest : List Token) (f : Token) → (a ++ (f ∷ (b ++ (c ++ d)))) ++ rest ≡ a ++ (f ∷ (b ++ (c ++ (d ++ rest))))
regroup a b c d rest f = simp append_assoc

query_sound : (levels : ℕ) (ts rest : List Token) (q : Query) → query_at levels ts ≡ Ok (q, rest) → (front : List Token) × (ts ≡ front ++ rest) × IsQuery levels front q
unfolding query_at
query_sound levels ts rest q e =
    let one = bind_ok (expect k.Select ts) (λ _. items_at >>= (λ is. expect k.From >>= (λ _. sources_at >>= (λ ss. condition_at levels >>= (λ c. group_at >>= (λ g. pure (of_parts is ss c g))))))) (q, rest) e in
    let two = bind_ok (items_at one.1) (λ is. expect k.From >>= (λ _. sources_at >>= (λ ss. condition_at levels >>= (λ c. group_at >>= (λ g. pure (of_parts is ss c g)))))) (q, rest) one.3 in
    let three = bind_ok (expect k.From two.1) (λ _. sources_at >>= (λ ss. condition_at levels >>= (λ c. group_at >>= (λ g. pure (of_parts two.0 ss c g))))) (q, rest) two.3 in
    let four = bind_ok (sources_at three.1) (λ ss. condition_at levels >>= (λ c. group_at >>= (λ g. pure (of_parts two.0 ss c g)))) (q, rest) three.3 in
    let five = bind_ok (condition_at levels four.1) (λ c. group_at >>= (λ g. pure (of_parts two.0 four.0 c g))) (q, rest) four.3 in
    let six = bind_ok (group_at five.1) (λ g. pure (of_parts two.0 four.0 five.0 g)) (q, rest) five.3 in
    let same = ok_pair (of_parts two.0 four.0 five.0 six.0) q six.1 rest six.3 in
    let s = expect_some k.Select ts one.1 select_real one.2 in
    let a = items_reader.sound one.1 two.1 two.0 two.2 in
    let f = expect_some k.From two.1 three.1 from_real three.2 in
    let b = sources_sound three.1 four.1 four.0 four.2 in
    let c = (where_reader levels).sound four.1 five.1 five.0 five.2 in
    let d = group_reader.sound five.1 six.1 six.0 six.2 in
    let front : List Token = s.0 ∷ (a.0 ++ (f.0 ∷ (b.0 ++ (c.0 ++ d.0)))) in
    let behind_from : two.1 ≡ f.0 ∷ (b.0 ++ (c.0 ++ (d.0 ++ rest))) = f.1 ∙ ap (λ z. f.0 ∷ z) (b.1 ∙ ap (λ z. b.0 ++ z) (c.1 ∙ ap (λ z. c.0 ++ z) (d.1 ∙ ap (λ z. d.0 ++ z) same.1))) in
    let whole : ts ≡ front ++ rest = s.1 ∙ ap (λ z. s.0 ∷ z) (a.1 ∙ ap (λ z. a.0 ++ z) behind_from ∙ sym (regroup a.0 b.0 c.0 d.0 rest f.0)) in
    let P : Query → Type 0 = λ z. IsQuery levels front z in
    (front, whole, subst P same.0 (record { spelled = (s.2, (a.0, f.0 ∷ (b.0 ++ (c.0 ++ d.0)), refl, a.2, (f.2, (b.0, c.0 ++ d.0, refl, b.2, (c.0, d.0, refl, c.2, d.2))))); few_sources = b.3 }))

query_parts : (levels : ℕ) (s f : Token) (a b c d rest : List Token) (q : Query) → s.kind ≡ k.Select → Listed k.Comma IsItem a q.items → f.kind ≡ k.From → Listed k.Comma IsSource b q.sources → length q.sources ≤ 4
    → Optional (After k.Where (IsCondition levels)) c q.cond → IsGroup d q.group → query_goes (kind_at rest) ≡ false → query_at levels (s ∷ (a ++ (f ∷ (b ++ (c ++ (d ++ rest)))))) ≡ Ok (q, rest)
unfolding query_at
query_parts levels s f a b c d rest q is_s is_a is_f is_b few is_c is_d stop =
    let parts = or_false (group_goes (kind_at rest) || where_goes (kind_at rest)) (sources_goes (kind_at rest)) stop in
    let more = or_false (group_goes (kind_at rest)) (where_goes (kind_at rest)) parts.0 in
    let one = expect_here k.Select s (a ++ (f ∷ (b ++ (c ++ (d ++ rest))))) is_s in
    let two = items_reader.complete a (f ∷ (b ++ (c ++ (d ++ rest)))) q.items is_a (ap items_goes (kind_of_first f (b ++ (c ++ (d ++ rest))) ∙ is_f) ∙ from_ends_items) in
    let three = expect_here k.From f (b ++ (c ++ (d ++ rest))) is_f in
    let before_group : sources_goes (kind_at (d ++ rest)) ≡ false = group_stops sources_goes group_ends_sources d rest q.group is_d parts.1 in
    let before_where : sources_goes (kind_at (c ++ (d ++ rest))) ≡ false = optional_stops k.Where (IsCondition levels) sources_goes where_ends_sources c (d ++ rest) q.cond is_c before_group in
    let four = sources_complete b (c ++ (d ++ rest)) q.sources is_b few before_where in
    let five = (where_reader levels).complete c (d ++ rest) q.cond is_c (group_stops where_goes group_ends_condition d rest q.group is_d more.1) in
    let six = group_reader.complete d rest q.group is_d more.0 in
    rw (one, two, three, four, five, six) refl

query_from : (levels : ℕ) (s : Token) (a u rest : List Token) (q : Query) → s.kind ≡ k.Select → Listed k.Comma IsItem a q.items
    → After k.From (Pair (Listed k.Comma IsSource) (Pair (Optional (After k.Where (IsCondition levels))) IsGroup)) u (q.sources, (q.cond, q.group)) → length q.sources ≤ 4 → query_goes (kind_at rest) ≡ false
    → query_at levels (s ∷ (a ++ (u ++ rest))) ≡ Ok (q, rest)
query_from levels s a [] rest q is_s is_a is few stop = absurd is
query_from levels s a (f ∷ u) rest q is_s is_a is few stop =
    let b = is.1.0 in let v = is.1.1 in
    let c = is.1.4.0 in let d = is.1.4.1 in
    let inner : u ≡ b ++ (c ++ d) = is.1.2 ∙ ap (λ z. b ++ z) is.1.4.2 in
    let flat : (b ++ (c ++ d)) ++ rest ≡ b ++ (c ++ (d ++ rest)) = simp append_assoc in
    let whole : s ∷ (a ++ (f ∷ (u ++ rest))) ≡ s ∷ (a ++ (f ∷ (b ++ (c ++ (d ++ rest))))) = ap (λ z. s ∷ (a ++ (f ∷ z))) (ap (λ z. z ++ rest) inner ∙ flat) in
    ap (query_at levels) whole ∙ query_parts levels s f a b c d rest q is_s is_a is.0 is.1.3 few is.1.4.3 is.1.4.4 stop

query_complete : (levels : ℕ) (front rest : List Token) (q : Query) → IsQuery levels front q → query_goes (kind_at rest) ≡ false → query_at levels (front ++ rest) ≡ Ok (q, rest)
query_complete levels [] rest q is stop = absurd is.spelled
query_complete levels (s ∷ front) rest q is stop =
    let a = is.spelled.1.0 in let u = is.spelled.1.1 in
    let whole : s ∷ (front ++ rest) ≡ s ∷ (a ++ (u ++ rest)) = ap (λ z. s ∷ z) (ap (λ z. z ++ rest) is.spelled.1.2 ∙ append_assoc a u rest) in
    ap (query_at levels) whole ∙ query_from levels s a u rest q is.spelled.0 is.spelled.1.3 is.spelled.1.4 is.few_sources stop

pub query_reader : (levels : ℕ) → IsReader (IsQuery levels) query_goes (query_at levels)
query_reader levels = record { sound = query_sound levels; complete = query_complete levels }

-- what a query begins with
query_stops : (levels : ℕ) (goes : TokenKind → Bool) → goes k.Select ≡ false → (b rest : List Token) (q : Query) → IsQuery levels b q → goes (kind_at (b ++ rest)) ≡ false
query_stops levels goes g [] rest q is = absurd is.spelled
query_stops levels goes g (s ∷ b) rest q is = ap goes (kind_of_first s (b ++ rest) ∙ is.spelled.0) ∙ g

-- ---- the window and the query after EXCEPT ALL

pub text_reader : IsReader IsText nothing text_at
text_reader = record { sound = text_sound; complete = λ front rest s is stop. text_complete front rest s is }

abbrev pub window_goes : TokenKind → Bool
window_goes = or_mark k.Period nothing

pub window_reader : IsReader (Optional (After k.Period IsText)) window_goes window_at
unfolding window_at
window_reader = optional_reader k.Period period_real IsText nothing text_at text_reader

abbrev pub right_goes : TokenKind → Bool
right_goes = or_mark k.Except query_goes

pub right_reader : (levels : ℕ) → IsReader (Optional (After k.Except (After k.All (IsQuery levels)))) right_goes (right_at levels)
unfolding right_at
right_reader levels = optional_reader k.Except except_real (After k.All (IsQuery levels)) query_goes (preceded k.All (query_at levels)) (behind_reader k.All all_real (IsQuery levels) query_goes (query_at levels) (query_reader levels))

-- ---- the end

ended_sound : (ts rest : List Token) → ◌≡◌ {A = Outcome (Unit {0})} (ended ts) (Ok (tt, rest)) → (ts ≡ []) × (rest ≡ [])
unfolding ended
ended_sound [] rest e = (refl, sym (ok_pair tt tt [] rest e).1)
ended_sound (t ∷ ts) rest e = cc

end_seen : (ts rest : List Token) (found : Bool) → sees k.Semicolon ts ≡ found → ◌≡◌ {A = Outcome (Unit {0})} (end_at ts) (Ok (tt, rest)) → IsEnd ts tt × (rest ≡ [])
unfolding end_at
end_seen ts rest false s e = let got = ended_sound ts rest (rw (after_unseen k.Semicolon ts s) at e) in (inl got.0, got.1)
end_seen ts rest true s e =
    let first = kind_seen k.Semicolon ts s semicolon_real in
    let got = ended_sound (next ts) rest (rw (after_seen k.Semicolon ts s) at e) in
    let whole : first.0 ∷ [] ≡ ts = sym (first.1 ∙ ap (λ z. first.0 ∷ z) got.0) in
    let P : List Token → Type 0 = λ z. IsEnd z tt in
    (subst P whole (inr (first.2, refl)), got.1)

end_unseen : sees k.Semicolon [] ≡ false
unfolding sees kind_at same_kind
end_unseen = refl

ended_nothing : ◌≡◌ {A = Outcome (Unit {0})} (ended []) (Ok (tt, []))
unfolding ended
ended_nothing = refl

end_complete : (ts : List Token) → IsEnd ts tt → ◌≡◌ {A = Outcome (Unit {0})} (end_at ts) (Ok (tt, []))
unfolding end_at
end_complete ts (inl is) = rw (is, after_unseen k.Semicolon [] end_unseen) ended_nothing
end_complete [] (inr is) = absurd is
end_complete (t ∷ ts) (inr is) =
    let here : t ∷ ts ≡ t ∷ [] = ap (λ z. t ∷ z) is.1 in
    let seen = seen_here t [] k.Semicolon is.0 in
    rw (here, after_seen k.Semicolon (t ∷ []) seen ∙ next_of t []) ended_nothing

end_stops : (goes : TokenKind → Bool) → goes k.Semicolon ≡ false → goes k.End ≡ false → (ts : List Token) → IsEnd ts tt → goes (kind_at ts) ≡ false
unfolding kind_at
end_stops goes g h [] is = h
end_stops goes g h (t ∷ ts) (inl is) = absurd (cc)
end_stops goes g h (t ∷ ts) (inr is) = ap goes is.0 ∙ g

-- ---- statements

abbrev made : Option (List ℕ) → Query → Option Query → Statement
made w l r = record { window = w; left = l; right = r }

-- a statement without its end
abbrev pub IsBody : ℕ → List Token → Statement → Type 0
IsBody levels ts s = After k.Validtime (Pair (Optional (After k.Period IsText)) (Pair (IsQuery levels) (Optional (After k.Except (After k.All (IsQuery levels)))))) ts (s.window, (s.left, s.right))

pub body_sound : (levels : ℕ) (ts rest : List Token) (s : Statement) → body_at levels ts ≡ Ok (s, rest) → (front : List Token) × (ts ≡ front ++ rest) × IsBody levels front s
unfolding body_at
body_sound levels ts rest s e =
    let one = bind_ok (expect k.Validtime ts) (λ _. window_at >>= (λ w. query_at levels >>= (λ l. right_at levels >>= (λ r. pure (made w l r))))) (s, rest) e in
    let two = bind_ok (window_at one.1) (λ w. query_at levels >>= (λ l. right_at levels >>= (λ r. pure (made w l r)))) (s, rest) one.3 in
    let three = bind_ok (query_at levels two.1) (λ l. right_at levels >>= (λ r. pure (made two.0 l r))) (s, rest) two.3 in
    let four = bind_ok (right_at levels three.1) (λ r. pure (made two.0 three.0 r)) (s, rest) three.3 in
    let same = ok_pair (made two.0 three.0 four.0) s four.1 rest four.3 in
    let v = expect_some k.Validtime ts one.1 validtime_real one.2 in
    let w = window_reader.sound one.1 two.1 two.0 two.2 in
    let l = (query_reader levels).sound two.1 three.1 three.0 three.2 in
    let r = (right_reader levels).sound three.1 four.1 four.0 four.2 in
    let front : List Token = v.0 ∷ (w.0 ++ (l.0 ++ r.0)) in
    let flat : (w.0 ++ (l.0 ++ r.0)) ++ rest ≡ w.0 ++ (l.0 ++ (r.0 ++ rest)) = simp append_assoc in
    let spelled : ts ≡ front ++ rest = v.1 ∙ ap (λ z. v.0 ∷ z) (w.1 ∙ ap (λ z. w.0 ++ z) (l.1 ∙ ap (λ z. l.0 ++ z) (r.1 ∙ ap (λ z. r.0 ++ z) same.1)) ∙ sym flat) in
    let P : Statement → Type 0 = λ z. IsBody levels front z in
    (front, spelled, subst P same.0 (v.2, (w.0, l.0 ++ r.0, refl, w.2, (l.0, r.0, refl, l.2, r.2))))

-- a body and an end are a statement
pub body_ends : (levels : ℕ) (a e : List Token) (s : Statement) → IsBody levels a s → IsEnd e tt → IsStatementWithin levels (a ++ e) s
body_ends levels [] e s is end = absurd is
body_ends levels (v ∷ a) e s is end =
    let w = is.1.0 in let l = is.1.4.0 in let r = is.1.4.1 in
    let flat : (w ++ (l ++ r)) ++ e ≡ w ++ (l ++ (r ++ e)) = simp append_assoc in
    let spelled : a ++ e ≡ w ++ (l ++ (r ++ e)) = ap (λ z. z ++ e) (is.1.2 ∙ ap (λ z. w ++ z) is.1.4.2) ∙ flat in
    (is.0, (w, l ++ (r ++ e), spelled, is.1.3, (l, r ++ e, refl, is.1.4.3, (r, e, refl, is.1.4.4, end))))

pub statement_sound : (levels : ℕ) (ts rest : List Token) (s : Statement) → statement_at levels ts ≡ Ok (s, rest) → IsStatementWithin levels ts s
unfolding statement_at
statement_sound levels ts rest s e =
    let whole = bind_ok (body_at levels ts) (λ x. end_at >>= (λ _. pure x)) (s, rest) e in
    let last = bind_ok (end_at whole.1) (λ _. pure whole.0) (s, rest) whole.3 in
    let end = end_seen whole.1 last.1 (sees k.Semicolon whole.1) refl last.2 in
    let is = ok_pair whole.0 s last.1 rest last.3 in
    let body = body_sound levels ts whole.1 whole.0 whole.2 in
    let P : List Token → Type 0 = λ z. IsStatementWithin levels z whole.0 in
    let Q : Statement → Type 0 = λ z. IsStatementWithin levels ts z in
    subst Q is.0 (subst P (sym body.1) (body_ends levels body.0 whole.1 whole.0 body.2 end.0))

select_no_period : window_goes k.Select ≡ false
unfolding same_kind
select_no_period = refl

except_ends_query : query_goes k.Except ≡ false
unfolding same_kind
except_ends_query = refl

semicolon_ends_query : query_goes k.Semicolon ≡ false
unfolding same_kind
semicolon_ends_query = refl

nothing_ends_query : query_goes k.End ≡ false
unfolding same_kind
nothing_ends_query = refl

semicolon_ends_right : right_goes k.Semicolon ≡ false
unfolding same_kind
semicolon_ends_right = refl

nothing_ends_right : right_goes k.End ≡ false
unfolding same_kind
nothing_ends_right = refl

statement_parts : (levels : ℕ) (v : Token) (w l r e : List Token) (s : Statement) → v.kind ≡ k.Validtime → Optional (After k.Period IsText) w s.window → IsQuery levels l s.left → Optional (After k.Except (After k.All (IsQuery levels))) r s.right → IsEnd e tt
    → statement_at levels (v ∷ (w ++ (l ++ (r ++ e)))) ≡ Ok (s, [])
unfolding statement_at body_at
statement_parts levels v w l r e s is_v is_w is_l is_r is_e =
    let one = expect_here k.Validtime v (w ++ (l ++ (r ++ e))) is_v in
    let two = window_reader.complete w (l ++ (r ++ e)) s.window is_w (query_stops levels window_goes select_no_period l (r ++ e) s.left is_l) in
    let at_end : query_goes (kind_at e) ≡ false = end_stops query_goes semicolon_ends_query nothing_ends_query e is_e in
    let three = (query_reader levels).complete l (r ++ e) s.left is_l (optional_stops k.Except (After k.All (IsQuery levels)) query_goes except_ends_query r e s.right is_r at_end) in
    let four = (right_reader levels).complete r e s.right is_r (end_stops right_goes semicolon_ends_right nothing_ends_right e is_e) in
    rw (one, two, three, four, end_complete e is_e) refl

pub statement_complete : (levels : ℕ) (ts : List Token) (s : Statement) → IsStatementWithin levels ts s → statement_at levels ts ≡ Ok (s, [])
statement_complete levels [] s is = absurd is
statement_complete levels (v ∷ ts) s is =
    let w = is.1.0 in let u = is.1.1 in
    let l = is.1.4.0 in let x = is.1.4.1 in
    let r = is.1.4.4.0 in let e = is.1.4.4.1 in
    let spelled : v ∷ ts ≡ v ∷ (w ++ (l ++ (r ++ e))) = ap (λ z. v ∷ z) (is.1.2 ∙ ap (λ z. w ++ z) (is.1.4.2 ∙ ap (λ z. l ++ z) is.1.4.4.2)) in
    ap (statement_at levels) spelled ∙ statement_parts levels v w l r e s is.0 is.1.3 is.1.4.3 is.1.4.4.3 is.1.4.4.4

-- if the descent stops, the tokens make no statement
pub no_statement : (levels : ℕ) (ts : List Token) (e : Refusal × List Token) → statement_at levels ts ≡ Err e → (s : Statement) → IsStatementWithin levels ts s → ⊥
no_statement levels ts e stops s is = differ (sym (statement_complete levels ts s is) ∙ stops)
  where
    differ : ◌≡◌ {A = Outcome Statement} (Ok (s, [])) (Err e) → ⊥
    differ q = cc

pub unique : StatementsAreUnique
unique ts a b is_a is_b = (ok_pair a b [] [] (sym (statement_complete 32 ts a is_a) ∙ statement_complete 32 ts b is_b)).0
