-- The readers of items, sources and the columns of a group.
use Rattle.std.proofs.Common.{◌≡◌, ◌≢◌, inl, inr, ℕ, Bool, true, false, List, [], ◌∷◌, ◌++◌, refl, ap, sym, ◌∙◌, subst, append_assoc}
use Rattle.std.specs.Prelude.{Option, Some, None, Ok}
use Rattle.tq_sql.specs.declared.statement.ColumnRef.{ColumnRef}
use Rattle.tq_sql.specs.declared.statement.Item.{Item}
use Rattle.tq_sql.specs.declared.statement.SourceRef.{SourceRef}
use Rattle.tq_sql.specs.declared.statement.What.{What}
use Rattle.tq_sql.specs.declared.statement.What.TheVariants as what
use Rattle.tq_sql.specs.declared.token.TokenKind.{TokenKind}
use Rattle.tq_sql.specs.declared.token.TokenKind.TheVariants as k
use Rattle.tq_sql.specs.Tokens.{Token, same_kind}
use Rattle.tq_sql.specs.Grammar.{After, Before, Optional, Listed, IsNothing, IsName, IsColumn, IsWhat, IsItem, IsAlias, IsSource, IsGroup}
use Rattle.tq_sql.specs.Descent.{Reader, and_then, pure, kind_at, next, sees, expect, name_at, column_at, what_at, item_alias_at, item_at, items_at, source_alias_at, source_at, columns_at, group_at, ◌>>=◌}
use Rattle.tq_sql.proofs.ReaderLemmas.{IsReader, bind_ok, ok_pair, kind_seen, seen_here, next_of, after_seen, after_unseen, kind_of_first, or_false}
use Rattle.tq_sql.proofs.ConditionLemmas.{or_mark, sees_kind, dot, seen_kind, expect_some, expect_here, open_real, close_real}
use Rattle.tq_sql.proofs.ColumnLemmas.{nothing, name_reader, optional_reader, column_reader}
use Rattle.tq_sql.proofs.ComparisonLemmas.{begins_more, begins_sees, column_begins}
use Rattle.tq_sql.proofs.ListingLemmas.{behind_reader, listed_reader, optional_stops}

pub count_real : k.Count ≢ k.End
count_real e = cc

pub sum_real : k.Sum ≢ k.End
sum_real e = cc

pub star_real : k.Star ≢ k.End
star_real e = cc

pub as_real : k.As ≢ k.End
as_real e = cc

pub comma_real : k.Comma ≢ k.End
comma_real e = cc

pub by_real : k.By ≢ k.End
by_real e = cc

pub group_real : k.Group ≢ k.End
group_real e = cc

-- ---- the kinds of items

abbrev counted : Reader What
counted = expect k.Open >>= (λ _. expect k.Star >>= (λ _. expect k.Close >>= (λ _. pure what.Count)))

abbrev summed : Reader What
summed = expect k.Open >>= (λ _. column_at >>= (λ c. expect k.Close >>= (λ _. pure (what.Sum c))))

abbrev WhatRead : List Token → List Token → What → Type 0
WhatRead ts rest x = (front : List Token) × (ts ≡ front ++ rest) × IsWhat front x

count_sound : (ts rest : List Token) (x : What) → sees k.Count ts ≡ true → counted (next ts) ≡ Ok (x, rest) → WhatRead ts rest x
count_sound ts rest x s e =
    let first = kind_seen k.Count ts s count_real in
    let one = bind_ok (expect k.Open (next ts)) (λ _. expect k.Star >>= (λ _. expect k.Close >>= (λ _. pure what.Count))) (x, rest) e in
    let two = bind_ok (expect k.Star one.1) (λ _. expect k.Close >>= (λ _. pure what.Count)) (x, rest) one.3 in
    let three = bind_ok (expect k.Close two.1) (λ _. pure what.Count) (x, rest) two.3 in
    let same = ok_pair what.Count x three.1 rest three.3 in
    let a = expect_some k.Open (next ts) one.1 open_real one.2 in
    let b = expect_some k.Star one.1 two.1 star_real two.2 in
    let c = expect_some k.Close two.1 three.1 close_real three.2 in
    let front : List Token = first.0 ∷ a.0 ∷ b.0 ∷ c.0 ∷ [] in
    let whole : ts ≡ front ++ rest = first.1 ∙ ap (λ z. first.0 ∷ z) (a.1 ∙ ap (λ z. a.0 ∷ z) (b.1 ∙ ap (λ z. b.0 ∷ z) (c.1 ∙ ap (λ z. c.0 ∷ z) same.1))) in
    let P : What → Type 0 = λ z. IsWhat front z in
    (front, whole, subst P same.0 (first.2, (a.2, (b.2, (c.2, refl)))))

sum_sound : (ts rest : List Token) (x : What) → sees k.Sum ts ≡ true → summed (next ts) ≡ Ok (x, rest) → WhatRead ts rest x
sum_sound ts rest x s e =
    let first = kind_seen k.Sum ts s sum_real in
    let one = bind_ok (expect k.Open (next ts)) (λ _. column_at >>= (λ c. expect k.Close >>= (λ _. pure (what.Sum c)))) (x, rest) e in
    let two = bind_ok (column_at one.1) (λ c. expect k.Close >>= (λ _. pure (what.Sum c))) (x, rest) one.3 in
    let three = bind_ok (expect k.Close two.1) (λ _. pure (what.Sum two.0)) (x, rest) two.3 in
    let same = ok_pair (what.Sum two.0) x three.1 rest three.3 in
    let a = expect_some k.Open (next ts) one.1 open_real one.2 in
    let b = column_reader.sound one.1 two.1 two.0 two.2 in
    let c = expect_some k.Close two.1 three.1 close_real three.2 in
    let front : List Token = first.0 ∷ a.0 ∷ (b.0 ++ c.0 ∷ []) in
    let last : two.1 ≡ (c.0 ∷ []) ++ rest = c.1 ∙ ap (λ z. c.0 ∷ z) same.1 in
    let inner : one.1 ≡ (b.0 ++ c.0 ∷ []) ++ rest = b.1 ∙ ap (λ z. b.0 ++ z) last ∙ sym (append_assoc b.0 (c.0 ∷ []) rest) in
    let whole : ts ≡ front ++ rest = first.1 ∙ ap (λ z. first.0 ∷ z) (a.1 ∙ ap (λ z. a.0 ∷ z) inner) in
    let P : What → Type 0 = λ z. IsWhat front z in
    (front, whole, subst P same.0 (first.2, (a.2, (b.0, c.0, refl, b.2, c.2))))

plain_sound : (ts rest : List Token) (x : What) → (column_at >>= (λ c. pure (what.Column c))) ts ≡ Ok (x, rest) → WhatRead ts rest x
plain_sound ts rest x e =
    let one = bind_ok (column_at ts) (λ c. pure (what.Column c)) (x, rest) e in
    let same = ok_pair (what.Column one.0) x one.1 rest one.3 in
    let a = column_reader.sound ts one.1 one.0 one.2 in
    let P : What → Type 0 = λ z. IsWhat a.0 z in
    (a.0, a.1 ∙ ap (λ z. a.0 ++ z) same.1, subst P same.0 a.2)

what_seen : (ts rest : List Token) (x : What) (is_count is_sum : Bool) → sees k.Count ts ≡ is_count → sees k.Sum ts ≡ is_sum → what_at ts ≡ Ok (x, rest) → WhatRead ts rest x
unfolding what_at
what_seen ts rest x true is_sum a b e = count_sound ts rest x a (rw (a, after_seen k.Count ts a) at e)
what_seen ts rest x false true a b e = sum_sound ts rest x b (rw (a, after_unseen k.Count ts a, b, after_seen k.Sum ts b) at e)
what_seen ts rest x false false a b e = plain_sound ts rest x (rw (a, after_unseen k.Count ts a, b, after_unseen k.Sum ts b) at e)

sum_not_count : same_kind k.Sum k.Count ≡ false
unfolding same_kind
sum_not_count = refl

name_not_count : same_kind k.Name k.Count ≡ false
unfolding same_kind
name_not_count = refl

name_not_sum : same_kind k.Name k.Sum ≡ false
unfolding same_kind
name_not_sum = refl

close_stops_column : dot k.Close ≡ false
unfolding same_kind
close_stops_column = refl

count_complete : (front rest : List Token) → After k.Count (After k.Open (After k.Star (After k.Close IsNothing))) front tt → what_at (front ++ rest) ≡ Ok (what.Count, rest)
unfolding what_at
count_complete [] rest is = absurd is
count_complete (t ∷ []) rest is = absurd is.1
count_complete (t ∷ u ∷ []) rest is = absurd is.1.1
count_complete (t ∷ u ∷ v ∷ []) rest is = absurd is.1.1.1
count_complete (t ∷ u ∷ v ∷ w ∷ more) rest is =
    let here : t ∷ u ∷ v ∷ w ∷ (more ++ rest) ≡ t ∷ u ∷ v ∷ w ∷ rest = ap (λ z. t ∷ u ∷ v ∷ w ∷ (z ++ rest)) is.1.1.1.1 in
    let seen = seen_here t (u ∷ v ∷ w ∷ rest) k.Count is.0 in
    let moved = after_seen k.Count (t ∷ u ∷ v ∷ w ∷ rest) seen ∙ next_of t (u ∷ v ∷ w ∷ rest) in
    rw (here, seen, moved, expect_here k.Open u (v ∷ w ∷ rest) is.1.0, expect_here k.Star v (w ∷ rest) is.1.1.0, expect_here k.Close w rest is.1.1.1.0) refl

sum_complete : (front rest : List Token) (c : ColumnRef) → After k.Sum (After k.Open (Before k.Close IsColumn)) front c → what_at (front ++ rest) ≡ Ok (what.Sum c, rest)
unfolding what_at
sum_complete [] rest c is = absurd is
sum_complete (t ∷ []) rest c is = absurd is.1
sum_complete (t ∷ u ∷ inner) rest c is =
    let a = is.1.1.0 in let last = is.1.1.1 in
    let regrouped : inner ++ rest ≡ a ++ (last ∷ rest) = ap (λ z. z ++ rest) is.1.1.2 ∙ append_assoc a (last ∷ []) rest in
    let unseen = seen_kind t (u ∷ (inner ++ rest)) k.Sum k.Count false is.0 sum_not_count in
    let kept = after_unseen k.Count (t ∷ u ∷ (inner ++ rest)) unseen in
    let seen = seen_here t (u ∷ (inner ++ rest)) k.Sum is.0 in
    let moved = after_seen k.Sum (t ∷ u ∷ (inner ++ rest)) seen ∙ next_of t (u ∷ (inner ++ rest)) in
    let stops : dot (kind_at (last ∷ rest)) ≡ false = ap dot (kind_of_first last rest ∙ is.1.1.4) ∙ close_stops_column in
    rw (unseen, kept, seen, moved, expect_here k.Open u (inner ++ rest) is.1.0, regrouped, column_reader.complete a (last ∷ rest) c is.1.1.3 stops, expect_here k.Close last rest is.1.1.4) refl

plain_complete : (front rest : List Token) (c : ColumnRef) → IsColumn front c → dot (kind_at rest) ≡ false → what_at (front ++ rest) ≡ Ok (what.Column c, rest)
unfolding what_at
plain_complete front rest c is stop =
    let first = begins_more k.Name front rest (column_begins c.source c.column front is) in
    let a = begins_sees k.Name k.Count (front ++ rest) false first name_not_count in
    let b = begins_sees k.Name k.Sum (front ++ rest) false first name_not_sum in
    rw (a, after_unseen k.Count (front ++ rest) a, b, after_unseen k.Sum (front ++ rest) b, column_reader.complete front rest c is stop) refl

what_complete : (front rest : List Token) (x : What) → IsWhat front x → dot (kind_at rest) ≡ false → what_at (front ++ rest) ≡ Ok (x, rest)
what_complete front rest (what.Column c) is stop = plain_complete front rest c is stop
what_complete front rest what.Count is stop = count_complete front rest is
what_complete front rest (what.Sum c) is stop = sum_complete front rest c is

pub what_reader : IsReader IsWhat dot what_at
what_reader = record { sound = λ ts rest x e. what_seen ts rest x (sees k.Count ts) (sees k.Sum ts) refl refl e; complete = what_complete }

-- ---- items

alias_reader : IsReader (Optional (After k.As IsName)) (or_mark k.As nothing) item_alias_at
unfolding item_alias_at
alias_reader = optional_reader k.As as_real IsName nothing name_at name_reader

abbrev pub item_goes : TokenKind → Bool
item_goes = or_mark k.As dot

as_stops : dot k.As ≡ false
unfolding same_kind
as_stops = refl

item_sound : (ts rest : List Token) (i : Item) → item_at ts ≡ Ok (i, rest) → (front : List Token) × (ts ≡ front ++ rest) × IsItem front i
unfolding item_at
item_sound ts rest i e =
    let one = bind_ok (what_at ts) (λ w. item_alias_at >>= (λ a. pure (record { what = w; alias = a }))) (i, rest) e in
    let two = bind_ok (item_alias_at one.1) (λ a. pure (record { what = one.0; alias = a })) (i, rest) one.3 in
    let made : Item = record { what = one.0; alias = two.0 } in
    let same = ok_pair made i two.1 rest two.3 in
    let a = what_reader.sound ts one.1 one.0 one.2 in
    let b = alias_reader.sound one.1 two.1 two.0 two.2 in
    let P : Item → Type 0 = λ z. IsItem (a.0 ++ b.0) z in
    (a.0 ++ b.0, a.1 ∙ ap (λ z. a.0 ++ z) (b.1 ∙ ap (λ z. b.0 ++ z) same.1) ∙ sym (append_assoc a.0 b.0 rest), subst P same.0 (a.0, b.0, refl, a.2, b.2))

item_complete : (front rest : List Token) (i : Item) → IsItem front i → item_goes (kind_at rest) ≡ false → item_at (front ++ rest) ≡ Ok (i, rest)
unfolding item_at
item_complete front rest i is stop =
    let parts = or_false (dot (kind_at rest)) (same_kind (kind_at rest) k.As) stop in
    let a = is.0 in let b = is.1 in
    let regrouped : front ++ rest ≡ a ++ (b ++ rest) = ap (λ z. z ++ rest) is.2 ∙ append_assoc a b rest in
    let first = what_complete a (b ++ rest) i.what is.3 (optional_stops k.As IsName dot as_stops b rest i.alias is.4 parts.0) in
    let second = alias_reader.complete b rest i.alias is.4 parts.1 in
    rw (regrouped, first, second) refl

pub item_reader : IsReader IsItem item_goes item_at
item_reader = record { sound = item_sound; complete = item_complete }

comma_ends_item : item_goes k.Comma ≡ false
unfolding same_kind
comma_ends_item = refl

abbrev pub items_goes : TokenKind → Bool
items_goes = or_mark k.Comma item_goes

pub items_reader : IsReader (Listed k.Comma IsItem) items_goes items_at
unfolding items_at
items_reader = listed_reader k.Comma comma_real IsItem item_goes item_at item_reader comma_ends_item

-- ---- sources

abbrev pub source_goes : TokenKind → Bool
source_goes = or_mark k.Name (or_mark k.As nothing)

abbrev AliasRead : List Token → List Token → Option (List ℕ) → Type 0
AliasRead ts rest o = (front : List Token) × (ts ≡ front ++ rest) × Optional IsAlias front o

-- a name that comes next
name_taken : (ts rest : List Token) (o : Option (List ℕ)) → and_then (name_at ts) (λ n. pure (Some n)) ≡ Ok (o, rest) → (n : List ℕ) × (front : List Token) × (ts ≡ front ++ rest) × IsName front n × (Some n ≡ o)
name_taken ts rest o e =
    let one = bind_ok (name_at ts) (λ n. pure (Some n)) (o, rest) e in
    let same = ok_pair (Some one.0) o one.1 rest one.3 in
    let a = name_reader.sound ts one.1 one.0 one.2 in
    (one.0, a.0, a.1 ∙ ap (λ z. a.0 ++ z) same.1, a.2, same.0)

source_alias_seen : (ts rest : List Token) (o : Option (List ℕ)) (is_as is_name : Bool) → sees k.As ts ≡ is_as → sees k.Name ts ≡ is_name → source_alias_at ts ≡ Ok (o, rest) → AliasRead ts rest o
unfolding source_alias_at
source_alias_seen ts rest o true is_name a b e =
    let first = kind_seen k.As ts a as_real in
    let got = name_taken (next ts) rest o (rw (a, after_seen k.As ts a) at e) in
    let P : Option (List ℕ) → Type 0 = λ z. Optional IsAlias (first.0 ∷ got.1) z in
    (first.0 ∷ got.1, first.1 ∙ ap (λ z. first.0 ∷ z) got.2, subst P got.4 (inr (first.2, got.3)))
source_alias_seen ts rest o false true a b e =
    let got = name_taken ts rest o (rw (a, after_unseen k.As ts a, b) at e) in
    let P : Option (List ℕ) → Type 0 = λ z. Optional IsAlias got.1 z in
    (got.1, got.2, subst P got.4 (inl got.3))
source_alias_seen ts rest o false false a b e =
    let same = ok_pair None o ts rest (rw (a, after_unseen k.As ts a, b) at e) in
    let P : Option (List ℕ) → Type 0 = λ z. Optional IsAlias [] z in
    ([], same.1, subst P same.0 refl)

name_not_as : same_kind k.Name k.As ≡ false
unfolding same_kind
name_not_as = refl

source_alias_complete : (front rest : List Token) (o : Option (List ℕ)) → Optional IsAlias front o → source_goes (kind_at rest) ≡ false → source_alias_at (front ++ rest) ≡ Ok (o, rest)
unfolding source_alias_at
source_alias_complete front rest None is stop =
    let parts = or_false (same_kind (kind_at rest) k.As) (same_kind (kind_at rest) k.Name) stop in
    let a = sees_kind k.As rest false parts.0 in
    let b = sees_kind k.Name rest false parts.1 in
    let here : front ++ rest ≡ rest = ap (λ z. z ++ rest) is in
    rw (here, a, after_unseen k.As rest a, b) refl
source_alias_complete front rest (Some n) (inl is) stop =
    let here : front ++ rest ≡ is.0 ∷ rest = ap (λ z. z ++ rest) is.1 in
    let a = seen_kind is.0 rest k.Name k.As false is.2 name_not_as in
    let b = seen_here is.0 rest k.Name is.2 in
    let named : name_at (is.0 ∷ rest) ≡ Ok (n, rest) = ap name_at (sym here) ∙ name_reader.complete front rest n is refl in
    rw (here, a, after_unseen k.As (is.0 ∷ rest) a, b, named) refl
source_alias_complete [] rest (Some n) (inr is) stop = absurd is
source_alias_complete (t ∷ front) rest (Some n) (inr is) stop =
    let a = seen_here t (front ++ rest) k.As is.0 in
    let moved = after_seen k.As (t ∷ (front ++ rest)) a ∙ next_of t (front ++ rest) in
    rw (a, moved, name_reader.complete front rest n is.1 refl) refl

source_sound : (ts rest : List Token) (s : SourceRef) → source_at ts ≡ Ok (s, rest) → (front : List Token) × (ts ≡ front ++ rest) × IsSource front s
unfolding source_at
source_sound ts rest s e =
    let one = bind_ok (name_at ts) (λ t. source_alias_at >>= (λ a. pure (record { table = t; alias = a }))) (s, rest) e in
    let two = bind_ok (source_alias_at one.1) (λ a. pure (record { table = one.0; alias = a })) (s, rest) one.3 in
    let made : SourceRef = record { table = one.0; alias = two.0 } in
    let same = ok_pair made s two.1 rest two.3 in
    let a = name_reader.sound ts one.1 one.0 one.2 in
    let b = source_alias_seen one.1 two.1 two.0 (sees k.As one.1) (sees k.Name one.1) refl refl two.2 in
    let P : SourceRef → Type 0 = λ z. IsSource (a.0 ++ b.0) z in
    (a.0 ++ b.0, a.1 ∙ ap (λ z. a.0 ++ z) (b.1 ∙ ap (λ z. b.0 ++ z) same.1) ∙ sym (append_assoc a.0 b.0 rest), subst P same.0 (a.0, b.0, refl, a.2, b.2))

source_complete : (front rest : List Token) (s : SourceRef) → IsSource front s → source_goes (kind_at rest) ≡ false → source_at (front ++ rest) ≡ Ok (s, rest)
unfolding source_at
source_complete front rest s is stop =
    let a = is.0 in let b = is.1 in
    let regrouped : front ++ rest ≡ a ++ (b ++ rest) = ap (λ z. z ++ rest) is.2 ∙ append_assoc a b rest in
    let first = name_reader.complete a (b ++ rest) s.table is.3 refl in
    let second = source_alias_complete b rest s.alias is.4 stop in
    rw (regrouped, first, second) refl

pub source_reader : IsReader IsSource source_goes source_at
source_reader = record { sound = source_sound; complete = source_complete }

-- ---- the columns of a group

comma_ends_column : dot k.Comma ≡ false
unfolding same_kind
comma_ends_column = refl

abbrev pub columns_goes : TokenKind → Bool
columns_goes = or_mark k.Comma dot

pub columns_reader : IsReader (Listed k.Comma IsColumn) columns_goes columns_at
unfolding columns_at
columns_reader = listed_reader k.Comma comma_real IsColumn dot column_at column_reader comma_ends_column

abbrev pub group_goes : TokenKind → Bool
group_goes = or_mark k.Group columns_goes

group_seen : (ts rest : List Token) (cs : List ColumnRef) (found : Bool) → sees k.Group ts ≡ found → group_at ts ≡ Ok (cs, rest) → (front : List Token) × (ts ≡ front ++ rest) × IsGroup front cs
unfolding group_at
group_seen ts rest cs false s e =
    let same = ok_pair [] cs ts rest (rw (s, after_unseen k.Group ts s) at e) in
    let P : List ColumnRef → Type 0 = λ z. IsGroup [] z in
    ([], same.1, subst P same.0 refl)
group_seen ts rest [] true s e = absurd (unlisted _ ((behind_reader k.By by_real (Listed k.Comma IsColumn) columns_goes columns_at columns_reader).sound (next ts) rest [] (rw (s, after_seen k.Group ts s) at e)).2)
  where
    unlisted : (front : List Token) → After k.By (Listed k.Comma IsColumn) front [] → ⊥
    unlisted [] is = is
    unlisted (t ∷ front) is = is.1
group_seen ts rest (c ∷ cs) true s e =
    let first = kind_seen k.Group ts s group_real in
    let inner = (behind_reader k.By by_real (Listed k.Comma IsColumn) columns_goes columns_at columns_reader).sound (next ts) rest (c ∷ cs) (rw (s, after_seen k.Group ts s) at e) in
    (first.0 ∷ inner.0, first.1 ∙ ap (λ z. first.0 ∷ z) inner.1, (first.2, inner.2))

group_complete : (front rest : List Token) (cs : List ColumnRef) → IsGroup front cs → group_goes (kind_at rest) ≡ false → group_at (front ++ rest) ≡ Ok (cs, rest)
unfolding group_at
group_complete front rest [] is stop =
    let parts = or_false (columns_goes (kind_at rest)) (same_kind (kind_at rest) k.Group) stop in
    let unseen = sees_kind k.Group rest false parts.1 in
    let here : front ++ rest ≡ rest = ap (λ z. z ++ rest) is in
    rw (here, unseen, after_unseen k.Group rest unseen) refl
group_complete [] rest (c ∷ cs) is stop = absurd is
group_complete (t ∷ front) rest (c ∷ cs) is stop =
    let parts = or_false (columns_goes (kind_at rest)) (same_kind (kind_at rest) k.Group) stop in
    let seen = seen_here t (front ++ rest) k.Group is.0 in
    let moved = after_seen k.Group (t ∷ (front ++ rest)) seen ∙ next_of t (front ++ rest) in
    rw (seen, moved) ((behind_reader k.By by_real (Listed k.Comma IsColumn) columns_goes columns_at columns_reader).complete front rest (c ∷ cs) is.1 parts.0)

pub group_reader : IsReader IsGroup group_goes group_at
group_reader = record { sound = λ ts rest cs e. group_seen ts rest cs (sees k.Group ts) refl e; complete = group_complete }

pub group_stops : (goes : TokenKind → Bool) → goes k.Group ≡ false → (b rest : List Token) (cs : List ColumnRef) → IsGroup b cs → goes (kind_at rest) ≡ false → goes (kind_at (b ++ rest)) ≡ false
group_stops goes g b rest [] is e = let P : List Token → Type 0 = λ c. goes (kind_at (c ++ rest)) ≡ false in subst P (sym is) e
group_stops goes g [] rest (c ∷ cs) is e = absurd is
group_stops goes g (t ∷ b) rest (c ∷ cs) is e = ap goes (kind_of_first t (b ++ rest) ∙ is.0) ∙ g
