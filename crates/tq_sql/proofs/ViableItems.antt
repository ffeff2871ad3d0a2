-- If the readers of lists, names, columns, items and sources stop, a value begins with what they took.
use Rattle.std.proofs.Common.{◌≡◌, ◌≢◌, ◌≤◌, inl, inr, ℕ, suc, Bool, true, false, cond, List, [], ◌∷◌, ◌++◌, length, refl, ap, sym, ◌∙◌, subst, arith, append-nil, length-append}
use Rattle.std.specs.Prelude.{Option, Some, None, Ok, Err, codes}
use Rattle.std.specs.Str.{is_utf8}
use Rattle.std.proofs.lemmas.Str.{IsUtf8-nil, is_utf8-from_IsUtf8}
use Rattle.tq_base.specs.Names.{folded_name, is_reserved}
use Rattle.tq_base.specs.Numbers.{int_of}
use Rattle.tq_sql.specs.declared.cursor.Refusal.{Refusal}
use Rattle.tq_sql.specs.declared.cursor.Refusal.TheVariants.{Unexpected}
use Rattle.tq_sql.specs.declared.statement.ColumnRef.{ColumnRef}
use Rattle.tq_sql.specs.declared.statement.Cond.{Cond}
use Rattle.tq_sql.specs.declared.statement.Item.{Item}
use Rattle.tq_sql.specs.declared.statement.SourceRef.{SourceRef}
use Rattle.tq_sql.specs.declared.statement.Term.TheVariants as term
use Rattle.tq_sql.specs.declared.statement.What.{What}
use Rattle.tq_sql.specs.declared.statement.What.TheVariants as what
use Rattle.tq_sql.specs.declared.token.TokenKind.{TokenKind}
use Rattle.tq_sql.specs.declared.token.TokenKind.TheVariants as k
use Rattle.tq_sql.specs.Tokens.{Token, same_kind, unquoted}
use Rattle.tq_sql.specs.Grammar.{After, Before, Pair, Optional, Listed, IsNothing, IsName, IsColumn, IsWhat, IsItem, IsAlias, IsSource, IsText, IsOperand, join, IsChain}
use Rattle.tq_sql.specs.Descent.{Outcome, Reader, pure, stop, given, next, sees, peek_bytes, taken, expect, name_at, number_at, text_at, listed, listed_up_to, chain, column_of, optional, column_at, what_at, item_alias_at, item_at, items_at, source_alias_at, source_at, sources_at, columns_at, ◌>>=◌}
use Rattle.tq_sql.proofs.ReaderLemmas.{by_test, ok_pair, kind_seen, after_seen, after_unseen}
use Rattle.tq_sql.proofs.ConditionLemmas.{open_real, close_real}
use Rattle.tq_sql.proofs.ColumnLemmas.{name_sound, column_parts, column_reader, dot_real}
use Rattle.tq_sql.proofs.ItemLemmas.{count_real, sum_real, star_real, as_real, comma_real, what_reader, item_reader, source_reader}
use Rattle.tq_sql.proofs.ListingLemmas.{snoc}
use Rattle.tq_sql.proofs.OpenLemmas.{GoesOnAs, IsOpen, Example, token_of, bind_err, err_pair, none_taken, wider, pure_open, shaped_open, behind_open, optional_open, pair_open, before_open, list_open}

-- ---- lists and chains

pub list_begun : {A : Type 0} (mark : TokenKind) → mark ≢ k.End → (R : List Token → A → Type 0) (p : List Token → Outcome A)
    → ((ts rest : List Token) (x : A) → p ts ≡ Ok (x, rest) → (front : List Token) × (ts ≡ front ++ rest) × R front x) → IsOpen R p → IsOpen (Listed mark R) (listed mark p)
list_begun {A} mark real R p sound opened = record { open_at = at }
  where
    at : (ts rest : List Token) (why : Refusal) → listed mark p ts ≡ Err (why, rest) → (front : List Token) × (ts ≡ front ++ rest) × GoesOnAs (Listed mark R) front
    at ts rest why e =
        let o = list_open mark real R p snoc sound opened (λ mid. length mid) (λ x. x ∷ []) (length ts) ts rest why (λ x mid f. let s = sound ts mid x f in omega (arith, ap length s.1, length-append s.0 mid)) e in
        (o.0, o.1, (o.2.0, o.2.1 ∷ o.2.2, o.2.3))

pub few_begun : {A : Type 0} (mark : TokenKind) → mark ≢ k.End → (R : List Token → A → Type 0) (p : List Token → Outcome A) (n : ℕ)
    → ((ts rest : List Token) (x : A) → p ts ≡ Ok (x, rest) → (front : List Token) × (ts ≡ front ++ rest) × R front x) → IsOpen R p → IsOpen (λ ts xs. Listed mark R ts xs × (length xs ≤ suc n)) (listed_up_to mark p n)
few_begun {A} mark real R p n sound opened = record { open_at = at }
  where
    at : (ts rest : List Token) (why : Refusal) → listed_up_to mark p n ts ≡ Err (why, rest) → (front : List Token) × (ts ≡ front ++ rest) × GoesOnAs (λ us xs. Listed mark R us xs × (length xs ≤ suc n)) front
    at ts rest why e =
        let o = list_open mark real R p snoc sound opened (λ mid. n) (λ x. x ∷ []) n ts rest why (λ x mid f. omega arith) e in
        (o.0, o.1, (o.2.0, o.2.1 ∷ o.2.2, (o.2.3, omega (arith, o.2.4))))

pub chain_begun : (mark : TokenKind) → mark ≢ k.End → (both : Cond → Cond → Cond) (R : List Token → Cond → Type 0) (p : List Token → Outcome Cond)
    → ((ts rest : List Token) (x : Cond) → p ts ≡ Ok (x, rest) → (front : List Token) × (ts ≡ front ++ rest) × R front x) → IsOpen R p → IsOpen (IsChain mark both R) (chain mark both p)
chain_begun mark real both R p sound opened = record { open_at = at }
  where
    at : (ts rest : List Token) (why : Refusal) → chain mark both p ts ≡ Err (why, rest) → (front : List Token) × (ts ≡ front ++ rest) × GoesOnAs (IsChain mark both R) front
    at ts rest why e =
        let o = list_open mark real R p both sound opened (λ mid. length mid) (λ x. x) (length ts) ts rest why (λ x mid f. let s = sound ts mid x f in omega (arith, ap length s.1, length-append s.0 mid)) e in
        (o.0, o.1, (o.2.0, join both o.2.2 o.2.1, record { first = o.2.1; more = o.2.2; value = refl; spelled = o.2.3 }))

-- ---- names, numbers and texts: nothing is taken if they stop

look_keeps : (kind : TokenKind) (ts mid : List Token) (w : List ℕ) → peek_bytes kind ts ≡ Ok (w, mid) → mid ≡ ts
unfolding peek_bytes
look_keeps kind [] mid w e = cc
look_keeps kind (t ∷ ts) mid w e = elim (by_test (same_kind t.kind kind) e) [
  | inl s ↦ sym (ok_pair t.text w (t ∷ ts) mid s.1).1
  | inr s ↦ cc
]

look_stops : (kind : TokenKind) (ts rest : List Token) (why : Refusal) → peek_bytes kind ts ≡ Err (why, rest) → rest ≡ ts
unfolding peek_bytes
look_stops kind [] rest why e = sym (err_pair {A = List ℕ} Unexpected why [] rest e).1
look_stops kind (t ∷ ts) rest why e = elim (by_test (same_kind t.kind kind) e) [
  | inl s ↦ cc
  | inr s ↦ sym (err_pair {A = List ℕ} Unexpected why (t ∷ ts) rest s.1).1
]

given_stops : {A : Type 0} (o : Option A) (ts rest : List Token) (why : Refusal) → given o ts ≡ Err (why, rest) → rest ≡ ts
given_stops {A} None ts rest why e = sym (err_pair {A = A} Unexpected why ts rest e).1
given_stops (Some x) ts rest why e = cc

name_stops : (ts rest : List Token) (why : Refusal) → name_at ts ≡ Err (why, rest) → rest ≡ ts
unfolding name_at
name_stops ts rest why e = elim (bind_err (peek_bytes k.Name ts) (λ w. given (folded_name w) >>= (λ x. taken x)) (why, rest) e) [
  | inl s ↦ look_stops k.Name ts rest why s
  | inr s ↦ elim (bind_err (given (folded_name s.0) s.1) (λ x. taken x) (why, rest) s.3) [
    | inl g ↦ given_stops (folded_name s.0) s.1 rest why g ∙ look_keeps k.Name ts s.1 s.0 s.2
    | inr g ↦ cc
  ]
]

pub number_stops : (ts rest : List Token) (why : Refusal) → number_at ts ≡ Err (why, rest) → rest ≡ ts
unfolding number_at
number_stops ts rest why e = elim (bind_err (peek_bytes k.Number ts) (λ w. given (int_of w) >>= (λ x. taken x)) (why, rest) e) [
  | inl s ↦ look_stops k.Number ts rest why s
  | inr s ↦ elim (bind_err (given (int_of s.0) s.1) (λ x. taken x) (why, rest) s.3) [
    | inl g ↦ given_stops (int_of s.0) s.1 rest why g ∙ look_keeps k.Number ts s.1 s.0 s.2
    | inr g ↦ cc
  ]
]

valid_stops : (b : Bool) (s : List ℕ) (ts rest : List Token) (why : Refusal) → (cond b (taken s) (stop Unexpected)) ts ≡ Err (why, rest) → rest ≡ ts
valid_stops true s ts rest why e = cc
valid_stops false s ts rest why e = sym (err_pair {A = List ℕ} Unexpected why ts rest e).1

pub text_stops : (ts rest : List Token) (why : Refusal) → text_at ts ≡ Err (why, rest) → rest ≡ ts
unfolding text_at
text_stops ts rest why e = elim (bind_err (peek_bytes k.Text ts) (λ w. cond (is_utf8 (unquoted w)) (taken (unquoted w)) (stop Unexpected)) (why, rest) e) [
  | inl s ↦ look_stops k.Text ts rest why s
  | inr s ↦ valid_stops (is_utf8 (unquoted s.0)) (unquoted s.0) s.1 rest why s.3 ∙ look_keeps k.Text ts s.1 s.0 s.2
]

-- ---- examples: each begins with the name `a`

letter : Token
letter = record { at = 0; kind = k.Name; text = codes "a" }

name_example : Example IsName
unfolding is_reserved letter
name_example = (letter ∷ [], codes "a", (letter, refl, refl, refl))

pub column_example : Example IsColumn
column_example = (name_example.0, record { source = None; column = name_example.1 }, name_example.2)

pub text_example : Example IsText
text_example = (token_of k.Text ∷ [], [], (token_of k.Text, refl, refl, refl, is_utf8-from_IsUtf8 [] IsUtf8-nil))

pub operand_example : Example IsOperand
operand_example = (column_example.0, term.Column column_example.1, column_example.2)

pub item_example : Example IsItem
item_example = (column_example.0, record { what = what.Column column_example.1; alias = None }, (column_example.0, [], sym (append-nil column_example.0), column_example.2, refl))

pub source_example : Example IsSource
source_example = (name_example.0, record { table = name_example.1; alias = None }, (name_example.0, [], sym (append-nil name_example.0), name_example.2, refl))

unfoldable pub listed_example : {A : Type 0} (mark : TokenKind) (R : List Token → A → Type 0) → Example R → Example (Listed mark R)
listed_example mark R some = (some.0, some.1 ∷ [], (some.0, [], sym (append-nil some.0), some.2, refl))

-- ---- columns, items and sources

name_open : IsOpen IsName name_at
name_open = record { open_at = λ ts rest why e. none_taken IsName name_example ts rest (name_stops ts rest why e) }

pub column_open : IsOpen IsColumn column_at
unfolding column_at
column_open = wider (Pair IsName (Optional (After k.Dot IsName))) IsColumn (name_at >>= (λ first. optional k.Dot name_at >>= (λ second. pure (column_of first second)))) to
    (pair_open IsName (Optional (After k.Dot IsName)) name_at (λ first. optional k.Dot name_at >>= (λ second. pure (column_of first second))) name_sound name_open
    (λ first. shaped_open (Optional (After k.Dot IsName)) (optional k.Dot name_at) (λ second. column_of first second) (optional_open k.Dot dot_real IsName name_at name_open)) ([], None, refl))
  where
    to : (ts : List Token) (x : List ℕ × Option (List ℕ)) → Pair IsName (Optional (After k.Dot IsName)) ts x → (y : ColumnRef) × IsColumn ts y
    to ts x is = let P : List Token → Type 0 = λ z. IsColumn z (column_of x.0 x.1) in (column_of x.0 x.1, subst P (sym is.2) (column_parts is.0 is.1 x.0 x.1 is.3 is.4))

abbrev counted : Reader What
counted = expect k.Open >>= (λ _. expect k.Star >>= (λ _. expect k.Close >>= (λ _. pure what.Count)))

counted_open : IsOpen (After k.Open (After k.Star (After k.Close IsNothing))) counted
counted_open =
    behind_open k.Open open_real (After k.Star (After k.Close IsNothing)) (expect k.Star >>= (λ _. expect k.Close >>= (λ _. pure what.Count))) (token_of k.Star ∷ token_of k.Close ∷ [], tt, (refl, (refl, refl)))
    (behind_open k.Star star_real (After k.Close IsNothing) (expect k.Close >>= (λ _. pure what.Count)) (token_of k.Close ∷ [], tt, (refl, refl))
    (behind_open k.Close close_real IsNothing (pure what.Count) ([], tt, refl) (pure_open IsNothing what.Count)))

abbrev summed : Reader What
summed = expect k.Open >>= (λ _. column_at >>= (λ x. expect k.Close >>= (λ _. pure (what.Sum x))))

summed_open : IsOpen (After k.Open (Before k.Close IsColumn)) summed
summed_open =
    behind_open k.Open open_real (Before k.Close IsColumn) (column_at >>= (λ x. expect k.Close >>= (λ _. pure (what.Sum x))))
    (column_example.0 ++ token_of k.Close ∷ [], column_example.1, (column_example.0, token_of k.Close, refl, column_example.2, refl))
    (before_open k.Close IsColumn column_at what.Sum column_reader.sound column_open)

what_open : IsOpen IsWhat what_at
unfolding what_at
what_open = record { open_at = λ ts rest why e. at ts rest why (sees k.Count ts) (sees k.Sum ts) refl refl e }
  where
    at : (ts rest : List Token) (why : Refusal) (is_count is_sum : Bool) → sees k.Count ts ≡ is_count → sees k.Sum ts ≡ is_sum → what_at ts ≡ Err (why, rest) → (front : List Token) × (ts ≡ front ++ rest) × GoesOnAs IsWhat front
    at ts rest why true is_sum a b e =
        let first = kind_seen k.Count ts a count_real in
        let o = counted_open.open_at (next ts) rest why (rw (a, after_seen k.Count ts a) at e) in
        (first.0 ∷ o.0, first.1 ∙ ap (λ z. first.0 ∷ z) o.1, (o.2.0, what.Count, (first.2, o.2.2)))
    at ts rest why false true a b e =
        let first = kind_seen k.Sum ts b sum_real in
        let o = summed_open.open_at (next ts) rest why (rw (a, after_unseen k.Count ts a, b, after_seen k.Sum ts b) at e) in
        (first.0 ∷ o.0, first.1 ∙ ap (λ z. first.0 ∷ z) o.1, (o.2.0, what.Sum o.2.1, (first.2, o.2.2)))
    at ts rest why false false a b e =
        let o = (shaped_open IsColumn column_at what.Column column_open).open_at ts rest why (rw (a, after_unseen k.Count ts a, b, after_unseen k.Sum ts b) at e) in
        (o.0, o.1, (o.2.0, what.Column o.2.1, o.2.2))

item_alias_open : IsOpen (Optional (After k.As IsName)) item_alias_at
unfolding item_alias_at
item_alias_open = optional_open k.As as_real IsName name_at name_open

abbrev of_item : What → Option (List ℕ) → Item
of_item w a = record { what = w; alias = a }

item_open : IsOpen IsItem item_at
unfolding item_at
item_open = wider (Pair IsWhat (Optional (After k.As IsName))) IsItem (what_at >>= (λ w. item_alias_at >>= (λ a. pure (of_item w a)))) (λ ts x is. (of_item x.0 x.1, is))
    (pair_open IsWhat (Optional (After k.As IsName)) what_at (λ w. item_alias_at >>= (λ a. pure (of_item w a))) what_reader.sound what_open
    (λ w. shaped_open (Optional (After k.As IsName)) item_alias_at (λ a. of_item w a) item_alias_open) ([], None, refl))

pub items_open : IsOpen (Listed k.Comma IsItem) items_at
unfolding items_at
items_open = list_begun k.Comma comma_real IsItem item_at item_reader.sound item_open

source_alias_open : IsOpen (Optional IsAlias) source_alias_at
unfolding source_alias_at
source_alias_open = record { open_at = λ ts rest why e. at ts rest why (sees k.As ts) (sees k.Name ts) refl refl e }
  where
    at : (ts rest : List Token) (why : Refusal) (is_as is_name : Bool) → sees k.As ts ≡ is_as → sees k.Name ts ≡ is_name → source_alias_at ts ≡ Err (why, rest) → (front : List Token) × (ts ≡ front ++ rest) × GoesOnAs (Optional IsAlias) front
    at ts rest why true is_name a b e =
        let first = kind_seen k.As ts a as_real in
        let o = (shaped_open IsName name_at Some name_open).open_at (next ts) rest why (rw (a, after_seen k.As ts a) at e) in
        (first.0 ∷ o.0, first.1 ∙ ap (λ z. first.0 ∷ z) o.1, (o.2.0, Some o.2.1, inr (first.2, o.2.2)))
    at ts rest why false true a b e =
        let o = (shaped_open IsName name_at Some name_open).open_at ts rest why (rw (a, after_unseen k.As ts a, b) at e) in
        (o.0, o.1, (o.2.0, Some o.2.1, inl o.2.2))
    at ts rest why false false a b e =
        let none : ◌≡◌ {A = Outcome (Option (List ℕ))} (Ok (None, ts)) (Err (why, rest)) = rw (a, after_unseen k.As ts a, b) at e in cc

abbrev of_source : List ℕ → Option (List ℕ) → SourceRef
of_source t a = record { table = t; alias = a }

source_open : IsOpen IsSource source_at
unfolding source_at
source_open = wider (Pair IsName (Optional IsAlias)) IsSource (name_at >>= (λ t. source_alias_at >>= (λ a. pure (of_source t a)))) (λ ts x is. (of_source x.0 x.1, is))
    (pair_open IsName (Optional IsAlias) name_at (λ t. source_alias_at >>= (λ a. pure (of_source t a))) name_sound name_open
    (λ t. shaped_open (Optional IsAlias) source_alias_at (λ a. of_source t a) source_alias_open) ([], None, refl))

abbrev pub FewSources : List Token → List SourceRef → Type 0
FewSources ts ss = Listed k.Comma IsSource ts ss × (length ss ≤ 4)

pub sources_open : IsOpen FewSources sources_at
unfolding sources_at
sources_open = few_begun k.Comma comma_real IsSource source_at 3 source_reader.sound source_open

pub columns_open : IsOpen (Listed k.Comma IsColumn) columns_at
unfolding columns_at
columns_open = list_begun k.Comma comma_real IsColumn column_at column_reader.sound column_open
