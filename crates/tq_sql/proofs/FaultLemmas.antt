-- The fault of a text that is not a statement: its byte and its kind.
use Rattle.std.proofs.Common.{◌≡◌, ◌≢◌, ◌<◌, ◌≤◌, ◌⊎◌, inl, inr, ℕ, zero, suc, ◌+◌, ◌-◌, Bool, true, false, cond, List, [], ◌∷◌, ◌++◌, length, refl, ap, sym, ◌∙◌, subst, arith, append_assoc, append-nil}
use Rattle.std.specs.Prelude.{Result, Ok, Err, slice_get, option_map, unwrap_or, nat_lt}
use Rattle.std.proofs.lemmas.Bool.Decides.{nat_tests}
use Rattle.tq_sql.specs.declared.cursor.Refusal.{Refusal}
use Rattle.tq_sql.specs.declared.cursor.Refusal.TheVariants.{Memory, TooDeep, Unexpected}
use Rattle.tq_sql.specs.declared.fault.SqlFault.{SqlFault}
use Rattle.tq_sql.specs.declared.fault.SqlFaultKind.{SqlFaultKind}
use Rattle.tq_sql.specs.declared.fault.SqlFaultKind.TheVariants.{TooLong}
use Rattle.tq_sql.specs.declared.fault.SqlFaultKind.TheVariants as kind
use Rattle.tq_sql.specs.declared.statement.Statement.{Statement}
use Rattle.tq_sql.specs.declared.token.TokenKind.{TokenKind}
use Rattle.tq_sql.specs.Descent.{Outcome, statement_at, stopped_at}
use Rattle.tq_sql.specs.Faults.{out_of_memory}
use Rattle.tq_sql.specs.Grammar.{IsStatement, IsStatementWithin}
use Rattle.tq_sql.specs.Reading.{CanContinue, IsFaultBefore, IsSqlFault, IsStop, ParsesTo, StopsBefore, token_offset}
use Rattle.tq_sql.specs.Tokens.{Token, fault, is_space, then_rest, token_at, tokens_from, tokens_of, with_token}
use Rattle.tq_sql.specs.Laws.{FaultsAreRefusals, FaultsAreUnique, TextsAreDecided}
use Rattle.tq_sql.proofs.DeeperLemmas.{level_more, why_stopped}
use Rattle.tq_sql.proofs.PlaceLemmas.{no_more}
use Rattle.tq_sql.proofs.StatementLemmas.{no_statement, statement_sound}
use Rattle.tq_sql.proofs.ViableLemmas.{statement_open}

-- ---- tokens begin within the text

abbrev Within : ℕ → List Token → Type 0
Within n [] = Unit {0}
Within n (t ∷ ts) = (t.at ≤ n) × Within n ts

ok_list : (a b : List Token) → ◌≡◌ {A = Result (List Token) SqlFault} (Ok a) (Ok b) → a ≡ b
ok_list a b e = cc

with_within : (n : ℕ) (t : Token) (r : Result (List Token) SqlFault) (ts : List Token) → t.at ≤ n → ((us : List Token) → r ≡ Ok us → Within n us) → with_token t r ≡ Ok ts → Within n ts
with_within n t (Err e) ts le inner is = cc
with_within n t (Ok us) ts le inner is = let P : List Token → Type 0 = λ z. Within n z in subst P (ok_list (t ∷ us) ts is) (le, inner us refl)

rest_within : (n at : ℕ) (bytes : List ℕ) (rest : ℕ → Result (List Token) SqlFault) (r : Result (TokenKind × ℕ) SqlFault) (ts : List Token) → at ≤ n → ((left : ℕ) (us : List Token) → rest left ≡ Ok us → Within n us)
    → then_rest at bytes rest r ≡ Ok ts → Within n ts
rest_within n at bytes rest (Err e) ts le inner is = cc
rest_within n at bytes rest (Ok t) ts le inner is = with_within n _ (rest (t.1 - 1)) ts le (inner (t.1 - 1)) is

space_within : (n at b : ℕ) (bs : List ℕ) (space : Bool) (ts : List Token) → at ≤ n → ((left : ℕ) (us : List Token) → tokens_from left (suc at) bs ≡ Ok us → Within n us)
    → cond space (tokens_from 0 (suc at) bs) (then_rest at (b ∷ bs) (λ left. tokens_from left (suc at) bs) (token_at at (b ∷ bs))) ≡ Ok ts → Within n ts
space_within n at b bs true ts le inner is = inner 0 ts is
space_within n at b bs false ts le inner is = rest_within n at (b ∷ bs) (λ left. tokens_from left (suc at) bs) (token_at at (b ∷ bs)) ts le inner is

tokens_within : (n skip at : ℕ) (bytes : List ℕ) (ts : List Token) → at + length bytes ≤ n → tokens_from skip at bytes ≡ Ok ts → Within n ts
tokens_within n skip at [] ts le is = let P : List Token → Type 0 = λ z. Within n z in subst P (ok_list [] ts is) tt
tokens_within n (suc skip) at (b ∷ bs) ts le is = tokens_within n skip (suc at) bs ts (omega arith) is
tokens_within n zero at (b ∷ bs) ts le is = space_within n at b bs (is_space b) ts (omega arith) (λ left us e. tokens_within n left (suc at) bs us (omega arith) e) is

back_within : (n : ℕ) (front rest : List Token) → Within n (front ++ rest) → Within n rest
back_within n [] rest w = w
back_within n (t ∷ front) rest w = back_within n front rest w.1

-- a text that has tokens is at most as long as a statement can be
text_within : (bytes : List ℕ) (ts : List Token) → tokens_of bytes ≡ Ok ts → (length bytes ≤ 65536) × Within (length bytes) ts
text_within bytes ts is = by (nat_lt 65536 (length bytes)) refl is
  where
    by : (long : Bool) → nat_lt 65536 (length bytes) ≡ long → cond long (Err (fault TooLong 65536)) (tokens_from 0 0 bytes) ≡ Ok ts → (length bytes ≤ 65536) × Within (length bytes) ts
    by true test e = cc
    by false test e = (grind (arith, nat_tests), tokens_within (length bytes) 0 0 bytes ts (omega arith) e)

pub place_within : (bytes : List ℕ) (front rest : List Token) → tokens_of bytes ≡ Ok (front ++ rest) → token_offset bytes rest ≤ 65536
place_within bytes front [] is = (text_within bytes (front ++ []) is).0
place_within bytes front (t ∷ rest) is = let w = text_within bytes (front ++ t ∷ rest) is in omega (arith, w.0, (back_within (length bytes) front (t ∷ rest) w.1).0)

pub place_is : (bytes : List ℕ) (rest : List Token) → token_offset bytes rest ≡ unwrap_or (option_map (λ t. t.at) (slice_get rest 0)) (length bytes)
place_is bytes [] = refl
place_is bytes (t ∷ rest) = refl

-- ---- where the descent stops

pub stopped : (ts rest : List Token) (why : Refusal) → statement_at 32 ts ≡ Err (why, rest) → (front : List Token) × (ts ≡ front ++ rest) × CanContinue 32 front
stopped ts rest why is = (statement_open 32).open_at ts rest why is

-- no statement continues with the token
goes_on_never : (levels : ℕ) (front : List Token) (t : Token) (rest : List Token) (why : Refusal) → statement_at levels (front ++ t ∷ rest) ≡ Err (why, t ∷ rest) → CanContinue levels (front ++ t ∷ []) → ⊥
goes_on_never levels front t rest why is on =
    let P : List Token → Type 0 = λ z. IsStatementWithin levels z on.1 in
    no_more levels front t rest on.0 why is on.1 (subst P (append_assoc front (t ∷ []) on.0) on.2)

pub stops_before : (front rest : List Token) (why : Refusal) → statement_at 32 (front ++ rest) ≡ Err (why, rest) → StopsBefore front rest
stops_before front [] why is = λ s made. let P : List Token → Type 0 = λ z. IsStatement z s in no_statement 32 (front ++ []) (why, []) is s (subst P (sym (append-nil front)) made)
stops_before front (t ∷ rest) why is = goes_on_never 32 front t rest why is

-- the fault that the descent gives, by its kind and its place
fault_before : (front rest : List Token) (why : Refusal) (at : ℕ) → statement_at 32 (front ++ rest) ≡ Err (why, rest) → IsFaultBefore front rest (stopped_at why at).kind × ((stopped_at why at).at ≡ at)
fault_before front rest why at is = elim (why_stopped 32 (front ++ rest) rest why is) [
  | inl s ↦ subst P (sym s.0) (unexpected rest s.1, refl)
  | inr s ↦ subst P (sym s.0) (too_deep rest s.1 (omega (arith, s.2)), refl)
]
  where
    P : Refusal → Type 0
    P z = IsFaultBefore front rest (stopped_at z at).kind × ((stopped_at z at).at ≡ at)

    unexpected : (ts : List Token) → statement_at 33 (front ++ ts) ≡ Err (Unexpected, ts) → IsFaultBefore front ts kind.UnexpectedToken
    unexpected [] e = refl
    unexpected (t ∷ ts) e = inr (refl, goes_on_never 33 front t ts Unexpected e)

    too_deep : (ts : List Token) → statement_at 32 (front ++ ts) ≡ Err (TooDeep, ts) → 0 < length ts → IsFaultBefore front ts kind.TooDeep
    too_deep [] e some = absurd (omega arith)
    too_deep (t ∷ ts) e some = inl (refl, level_more 32 front t ts e)

-- what it means for the text that reading stops
pub stop_is : (bytes : List ℕ) (ts rest : List Token) (why : Refusal) → tokens_of bytes ≡ Ok ts → statement_at 32 ts ≡ Err (why, rest) → IsStop bytes (stopped_at why (token_offset bytes rest))
stop_is bytes ts rest why whole e =
    let s = stopped ts rest why e in
    let P : List Token → Type 0 = λ z. statement_at 32 z ≡ Err (why, rest) in
    let here = subst P s.1 e in
    let before = fault_before s.0 rest why (token_offset bytes rest) here in
    (s.0, rest, whole ∙ ap (λ z. Ok z) s.1, s.2, stops_before s.0 rest why here, before.0, before.1)

-- .. if no allocation failed
pub stop_told : (bytes : List ℕ) (ts rest : List Token) (why : Refusal) (f : SqlFault) → tokens_of bytes ≡ Ok ts → (why ≢ Memory → statement_at 32 ts ≡ Err (why, rest)) → f ≡ stopped_at why (token_offset bytes rest) → f ≢ out_of_memory → IsStop bytes f
stop_told bytes ts rest why f whole stops is other =
    let P : SqlFault → Type 0 = λ z. IsStop bytes z in
    subst P (sym is) (stop_is bytes ts rest why whole (stops (λ same. other (is ∙ ap (λ z. stopped_at z (token_offset bytes rest)) same))))

pub fault_within : (bytes : List ℕ) (ts rest : List Token) (why : Refusal) → tokens_of bytes ≡ Ok ts → statement_at 32 ts ≡ Err (why, rest) → token_offset bytes rest ≤ 65536
fault_within bytes ts rest why whole e = let s = stopped ts rest why e in place_within bytes s.0 rest (whole ∙ ap (λ z. Ok z) s.1)

-- ---- laws

ok_or_fault : (ts : List Token) (f : SqlFault) (r : Result (List Token) SqlFault) → r ≡ Ok ts → r ≡ Err f → ⊥
ok_or_fault ts f (Ok us) a b = cc
ok_or_fault ts f (Err e) a b = cc

no_whole : (front rest : List Token) (s : Statement) → StopsBefore front rest → IsStatement (front ++ rest) s → ⊥
no_whole front [] s stops is = let P : List Token → Type 0 = λ z. IsStatement z s in stops s (subst P (append-nil front) is)
no_whole front (t ∷ rest) s stops is = let P : List Token → Type 0 = λ z. IsStatement z s in stops (rest, s, subst P (sym (append_assoc front (t ∷ []) rest)) is)

pub refusals : FaultsAreRefusals
refusals bytes f s (inl is) makes = ok_or_fault makes.0 f (tokens_of bytes) makes.1 is
refusals bytes f s (inr is) makes =
    let same : makes.0 ≡ is.0 ++ is.1 = ok_list makes.0 (is.0 ++ is.1) (sym makes.1 ∙ is.2) in
    let P : List Token → Type 0 = λ z. IsStatement z s in
    no_whole is.0 is.1 s is.4 (subst P same makes.2)

goes_on_before : (a b : List Token) → CanContinue 32 (a ++ b) → CanContinue 32 a
goes_on_before a b on = let P : List Token → Type 0 = λ z. IsStatement z on.1 in (b ++ on.0, on.1, subst P (append_assoc a b on.0) on.2)

-- two splits of one list: at the same position, or one before the other
cuts : (a b c d : List Token) → a ++ b ≡ c ++ d → ((a ≡ c) × (b ≡ d)) ⊎ ((t : Token) × (us : List Token) × (b ≡ t ∷ us) × (vs : List Token) × (c ≡ (a ++ t ∷ []) ++ vs)) ⊎ ((t : Token) × (us : List Token) × (d ≡ t ∷ us) × (vs : List Token) × (a ≡ (c ++ t ∷ []) ++ vs))
cuts [] b [] d e = inl (refl, e)
cuts [] b (t ∷ c) d e = inr (inl (t, c ++ d, e, c, refl))
cuts (t ∷ a) b [] d e = inr (inr (t, a ++ b, sym e, a, refl))
cuts (t ∷ a) b (u ∷ c) d e =
    let heads : t ≡ u = cc in
    let tails : a ++ b ≡ c ++ d = cc in
    elim (cuts a b c d tails) [
      | inl s ↦ inl (rw heads (ap (λ z. u ∷ z) s.0), s.1)
      | inr s ↦ elim s [
        | inl l ↦ inr (inl (l.0, l.1, l.2, l.3, rw heads (ap (λ z. u ∷ z) l.4)))
        | inr r ↦ inr (inr (r.0, r.1, r.2, r.3, rw heads (ap (λ z. u ∷ z) r.4)))
      ]
    ]

never_before : (a b c : List Token) (t : Token) (us vs : List Token) → b ≡ t ∷ us → c ≡ (a ++ t ∷ []) ++ vs → StopsBefore a b → CanContinue 32 c → ⊥
never_before a b c t us vs is_b is_c stops on =
    let P : List Token → Type 0 = λ z. StopsBefore a z in
    let Q : List Token → Type 0 = λ z. CanContinue 32 z in
    subst P is_b stops (goes_on_before (a ++ t ∷ []) vs (subst Q is_c on))

err_fault : (f g : SqlFault) → ◌≡◌ {A = Result (List Token) SqlFault} (Err f) (Err g) → f ≡ g
err_fault f g e = cc

one_kind : (front rest : List Token) (x y : SqlFaultKind) → IsFaultBefore front rest x → IsFaultBefore front rest y → x ≡ y
one_kind front [] x y a b = a ∙ sym b
one_kind front (t ∷ rest) x y (inl a) (inl b) = a.0 ∙ sym b.0
one_kind front (t ∷ rest) x y (inl a) (inr b) = absurd (b.1 a.1)
one_kind front (t ∷ rest) x y (inr a) (inl b) = absurd (a.1 b.1)
one_kind front (t ∷ rest) x y (inr a) (inr b) = a.0 ∙ sym b.0

same_fault : (f g : SqlFault) → f.kind ≡ g.kind → f.at ≡ g.at → f ≡ g
same_fault f g kinds places = ap (λ z. fault z f.at) kinds ∙ ap (λ z. fault g.kind z) places

pub one_fault : FaultsAreUnique
one_fault bytes f g (inl a) (inl b) = err_fault f g (sym a ∙ b)
one_fault bytes f g (inl a) (inr b) = absurd (ok_or_fault (b.0 ++ b.1) f (tokens_of bytes) b.2 a)
one_fault bytes f g (inr a) (inl b) = absurd (ok_or_fault (a.0 ++ a.1) g (tokens_of bytes) a.2 b)
one_fault bytes f g (inr a) (inr b) =
    let same : a.0 ++ a.1 ≡ b.0 ++ b.1 = ok_list (a.0 ++ a.1) (b.0 ++ b.1) (sym a.2 ∙ b.2) in
    elim (cuts a.0 a.1 b.0 b.1 same) [
      | inl s ↦
          (let P : List Token → Type 0 = λ z. IsFaultBefore z a.1 f.kind in
          let Q : List Token → Type 0 = λ z. IsFaultBefore b.0 z f.kind in
          same_fault f g (one_kind b.0 b.1 f.kind g.kind (subst Q s.1 (subst P s.0 a.5)) b.5) (a.6 ∙ ap (λ z. token_offset bytes z) s.1 ∙ sym b.6))
      | inr s ↦ elim s [
        | inl l ↦ absurd (never_before a.0 a.1 b.0 l.0 l.1 l.3 l.2 l.4 a.4 b.3)
        | inr r ↦ absurd (never_before b.0 b.1 a.0 r.0 r.1 r.3 r.2 r.4 b.4 a.3)
      ]
    ]

read_or_not : (bytes : List ℕ) (ts : List Token) → tokens_of bytes ≡ Ok ts → (r : Outcome Statement) → statement_at 32 ts ≡ r → ((s : Statement) × ParsesTo bytes s) ⊎ ((f : SqlFault) × IsSqlFault bytes f)
read_or_not bytes ts whole (Ok r) e = inl (r.0, (ts, whole, statement_sound 32 ts r.1 r.0 e))
read_or_not bytes ts whole (Err r) e = inr (stopped_at r.0 (token_offset bytes r.1), inr (stop_is bytes ts r.1 r.0 whole e))

cut_or_not : (bytes : List ℕ) (r : Result (List Token) SqlFault) → tokens_of bytes ≡ r → ((s : Statement) × ParsesTo bytes s) ⊎ ((f : SqlFault) × IsSqlFault bytes f)
cut_or_not bytes (Ok ts) e = read_or_not bytes ts e (statement_at 32 ts) refl
cut_or_not bytes (Err f) e = inr (f, inl e)

pub decided : TextsAreDecided
decided bytes = cut_or_not bytes (tokens_of bytes) refl
