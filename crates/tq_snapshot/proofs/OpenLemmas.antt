-- The first open row with some values, by the lives of the rows and by the definition.
use Rattle.std.proofs.Common.{◌≡◌, ℕ, zero, suc, ◌+◌, ◌<◌, ◌≤◌, ◌==◌, ◌&&◌, not, Bool, true, false, cond, if◌then◌else◌, List, [], ◌∷◌, Option, Some, None, length, slice_get, nat_lt, inl, inr, refl, sym, ap, subst, ◌∙◌, arith, rules}
use Rattle.std.specs.Prelude.{IfSome, IsSomeAnd, is_some, position}
use Rattle.std.specs.List.{position_or_len}
use Rattle.std.specs.List.Sorted.{IsNonDecreasingBy}
use Rattle.std.specs.Option.{option_map, option_map_or}
use Rattle.std.specs.Ordering.{eq_by_cmp}
use Rattle.std.proofs.lemmas.List.Recursion.{is_position_or_len}
use Rattle.std.proofs.lemmas.Bool.{cases_lt}
use Rattle.std.proofs.lemmas.Bool.Decides.{nat_tests}
use Rattle.std.proofs.lemmas.Option.{get_or_from_slice_get, slice_get_within}
use Rattle.tq_base.specs.declared.period.TheConstants.{FOREVER}
use Rattle.tq_base.specs.declared.value.Value.{Value}
use Rattle.tq_base.specs.ValueOrder.{values_cmp}
use Rattle.tq_event.specs.declared.event.Event.{Event}
use Rattle.tq_event.specs.declared.event.Event.TheVariants.{Start, End}
use Rattle.tq_event.specs.History.{rows_of, time_of}
use Rattle.tq_event.specs.Opening.{is_open_like, open_row}
use Rattle.tq_event.specs.Versions.{Ending, Life, row_lives}
use Rattle.tq_store.specs.Index.{AreRowLives, IsOpenAt}
use Rattle.tq_store.proofs.LifeLemmas.{and-true, as_of, end_by, eqb-other, eqb-same, known_by, rows_known, starts_rise}
use Rattle.tq_store.proofs.IndexLemmas.{end_stands, start_stands}
use Rattle.tq_snapshot.specs.OpenIndex.{is_open_at, is_open_of}

-- ---- positions

set_index_of : {X : Type 0} → (X → Bool) → List X → ℕ
set_index_of p [] = 0
set_index_of p (x ∷ xs) = cond (p x) 0 (1 + set_index_of p xs)

place_is : {X : Type 0} (p : X → Bool) (xs : List X) → set_index_of p xs ≡ position_or_len p xs
unfolding set_index_of
place_is p xs = is_position_or_len (set_index_of p) p refl (λ x ys. refl) xs

abbrev Alike : {X Y : Type 0} → (X → Bool) → (Y → Bool) → List X → List Y → Type 0
Alike p q xs ys = (i : ℕ) → option_map p (slice_get xs i) ≡ option_map q (slice_get ys i)

same_length : {X Y : Type 0} (p : X → Bool) (q : Y → Bool) (xs : List X) (ys : List Y) → Alike p q xs ys → length xs ≡ length ys
same_length p q [] [] alike = refl
same_length p q [] (y ∷ ys) alike = absurd (let first = alike 0 in cc)
same_length p q (x ∷ xs) [] alike = absurd (let first = alike 0 in cc)
same_length p q (x ∷ xs) (y ∷ ys) alike = ap suc (same_length p q xs ys (λ i. alike (suc i)))

same_place : {X Y : Type 0} (p : X → Bool) (q : Y → Bool) (xs : List X) (ys : List Y) → Alike p q xs ys → set_index_of p xs ≡ set_index_of q ys
unfolding set_index_of
same_place p q [] [] alike = refl
same_place p q [] (y ∷ ys) alike = absurd (let first = alike 0 in cc)
same_place p q (x ∷ xs) [] alike = absurd (let first = alike 0 in cc)
same_place p q (x ∷ xs) (y ∷ ys) alike =
    let first : Some (p x) ≡ Some (q y) = alike 0 in
    let head : p x ≡ q y = cc in
    ap (λ b. cond b 0 (1 + set_index_of p xs)) head ∙ ap (λ n. cond (q y) 0 (1 + n)) (same_place p q xs ys (λ i. alike (suc i)))

same_position : {X Y : Type 0} (p : X → Bool) (q : Y → Bool) (xs : List X) (ys : List Y) → Alike p q xs ys → position p xs ≡ position q ys
same_position p q xs ys alike =
    let places = sym (place_is p xs) ∙ same_place p q xs ys alike ∙ place_is q ys in
    ap (λ n. cond (nat_lt n (length xs)) (Some n) None) places ∙ ap (λ m. cond (nat_lt (position_or_len q ys) m) (Some (position_or_len q ys)) None) (same_length p q xs ys alike)

-- ---- rows

less_is : (a b : ℕ) → a < b → nat_lt a b ≡ true
less_is a b less = search (rules, nat_tests, less)

-- whether a row with this life is open, started before the instant, and has these values
abbrev open_like : List Value → ℕ → Life → Bool
open_like values at l = not (is_some l.ending) && (nat_lt l.from at && eq_by_cmp values_cmp l.values values)

module _ (es : List Event) (t : ℕ) (good : AreRowLives es t) (values : List Value) (at : ℕ) where
  open_end : (i : ℕ) (l : Life) → slice_get (row_lives es t) i ≡ Some l → not (is_some l.ending) ≡ (end_by (length es) l.ending == FOREVER)
  open_end i l stands = by l.ending refl
    where
      by : (o : Option Ending) → l.ending ≡ o → not (is_some o) ≡ (end_by (length es) o == FOREVER)
      by None none = sym (eqb-same FOREVER)
      by (Some e) some =
          let ended = less_is e.event (length es) (slice_get_within es e.event (End t i e.at) (end_stands es t i l e stands some)) in
          let finite = subst (λ o. IfSome o (λ (x : Ending). x.at < FOREVER)) some (good i l stands).ends in
          sym (ap (λ b. (if b then e.at else FOREVER) == FOREVER) ended ∙ eqb-other e.at FOREVER (λ same. omega (arith, same, finite)))

  one_row : (i : ℕ) (l : Life) → slice_get (row_lives es t) i ≡ Some l → open_like values at l ≡ is_open_like values at (as_of (length es) i l)
  one_row i l stands = ap (λ b. b && (nat_lt l.from at && eq_by_cmp values_cmp l.values values)) (open_end i l stands)

  alike : (i : ℕ) → option_map (open_like values at) (slice_get (row_lives es t) i) ≡ option_map (is_open_like values at) (slice_get (rows_of es (length es) t) i)
  alike i = by (slice_get (row_lives es t) i) refl ∙ sym (ap (option_map (is_open_like values at)) (rows_known t 0 0 (length es) (length es) i i es (omega arith) (omega arith)))
    where
      by : (o : Option Life) → slice_get (row_lives es t) i ≡ o → option_map (open_like values at) o ≡ option_map (is_open_like values at) (known_by (length es) i o)
      by None none = refl
      by (Some l) stands =
          ap (λ b. Some b) (one_row i l stands)
          ∙ sym (ap (λ b. option_map (is_open_like values at) (if b then Some (as_of (length es) i l) else None)) (less_is l.start (length es) (slice_get_within es l.start (Start t l.values l.from) (start_stands es t i l stands))))

  pub open_row_is : position (open_like values at) (row_lives es t) ≡ open_row es t values at
  open_row_is = same_position (open_like values at) (is_open_like values at) (row_lives es t) (rows_of es (length es) t) alike

-- ---- the first position

place_first : {X : Type 0} (p : X → Bool) (xs : List X) (i : ℕ) (x : X) → slice_get xs i ≡ Some x → p x ≡ true → ((k : ℕ) (y : X) → k < i → slice_get xs k ≡ Some y → p y ≡ false) → set_index_of p xs ≡ i
unfolding set_index_of
place_first p [] i x here passes before = absurd (cc)
place_first p (y ∷ ys) zero x here passes before =
    let some : Some y ≡ Some x = here in
    let same : y ≡ x = cc in
    ap (λ b. cond b 0 (1 + set_index_of p ys)) (ap p same ∙ passes)
place_first p (y ∷ ys) (suc i) x here passes before =
    let first : p y ≡ false = before 0 y (omega arith) refl in
    let later : set_index_of p ys ≡ i = place_first p ys i x here passes (λ k z less there. before (suc k) z (omega (arith, less)) there) in
    let more : 1 + i ≡ suc i = omega arith in
    ap (λ b. cond b 0 (1 + set_index_of p ys)) first ∙ ap (λ n. 1 + n) later ∙ more

place_none : {X : Type 0} (p : X → Bool) (xs : List X) → ((k : ℕ) (y : X) → slice_get xs k ≡ Some y → p y ≡ false) → set_index_of p xs ≡ length xs
unfolding set_index_of
place_none p [] none = refl
place_none p (y ∷ ys) none =
    let first : p y ≡ false = none 0 y refl in
    let later : set_index_of p ys ≡ length ys = place_none p ys (λ k z there. none (suc k) z there) in
    let more : 1 + length ys ≡ suc (length ys) = omega arith in
    ap (λ b. cond b 0 (1 + set_index_of p ys)) first ∙ ap (λ n. 1 + n) later ∙ more

not_less : (a b : ℕ) → b ≤ a → nat_lt a b ≡ false
not_less a b le = search (rules, nat_tests, le)

position_first : {X : Type 0} (p : X → Bool) (xs : List X) (i : ℕ) (x : X) → slice_get xs i ≡ Some x → p x ≡ true → ((k : ℕ) (y : X) → k < i → slice_get xs k ≡ Some y → p y ≡ false) → position p xs ≡ Some i
position_first p xs i x here passes before =
    ap (λ n. cond (nat_lt n (length xs)) (Some n) None) (sym (place_is p xs) ∙ place_first p xs i x here passes before)
    ∙ ap (λ b. cond b (Some i) None) (less_is i (length xs) (slice_get_within xs i x here))

position_none : {X : Type 0} (p : X → Bool) (xs : List X) → ((k : ℕ) (y : X) → slice_get xs k ≡ Some y → p y ≡ false) → position p xs ≡ None
position_none p xs none =
    ap (λ n. cond (nat_lt n (length xs)) (Some n) None) (sym (place_is p xs) ∙ place_none p xs none)
    ∙ ap (λ b. cond b (Some (length xs)) None) (not_less (length xs) (length xs) (omega arith))

-- ---- the first open row of the values

not_ended : (o : Option Ending) → not (is_some o) ≡ true → o ≡ None
not_ended None is = refl
not_ended (Some e) is = absurd (cc)

-- the row is open and has these values
pub record IsOpenOf (es : List Event) (t row : ℕ) (values : List Value) : Type 0 where
  pub life : Life
  pub stands : slice_get (row_lives es t) row ≡ Some life
  pub none : life.ending ≡ None
  pub like : eq_by_cmp values_cmp life.values values ≡ true

pub open_of : (es : List Event) (t : ℕ) (values : List Value) (row : ℕ) → is_open_at (row_lives es t) values row ≡ true → IsOpenOf es t row values
open_of es t values row so = by (slice_get (row_lives es t) row) refl so
  where
    by : (o : Option Life) → slice_get (row_lives es t) row ≡ o → option_map_or (is_open_of values) o false ≡ true → IsOpenOf es t row values
    by None stands here = absurd (cc)
    by (Some l) stands here =
        let both = and-true (not (is_some l.ending)) (eq_by_cmp values_cmp l.values values) here in
        record { life = l; stands = stands; none = not_ended l.ending both.0; like = both.1 }

-- a later row starts no earlier
from_rises : (es : List Event) (t i j : ℕ) (l m : Life) → IsNonDecreasingBy time_of es → i ≤ j → slice_get (row_lives es t) i ≡ Some l → slice_get (row_lives es t) j ≡ Some m → l.from ≤ m.from
from_rises es t i j l m ordered le here there = elim (cases_lt i j) [
  | inl less ↦
      let d : Event = Start t m.values m.from in
      let rise = starts_rise t 0 0 i j es l m less here there in
      let last = slice_get_within es m.start d (start_stands es t j m there) in
      let times = ordered l.start m.start d (omega (arith, rise)) last in
      let first_is = ap time_of (get_or_from_slice_get es l.start (Start t l.values l.from) d (start_stands es t i l here)) in
      let last_is = ap time_of (get_or_from_slice_get es m.start d d (start_stands es t j m there)) in
      omega (arith, times, first_is, last_is)
  | inr past ↦
      let same : i ≡ j = omega (arith, le, past) in
      let both : Some l ≡ Some m = sym here ∙ ap (slice_get (row_lives es t)) same ∙ there in
      let life_is : l ≡ m = cc in
      let from_is = ap (λ (x : Life). x.from) life_is in
      omega (arith, from_is)
]

module _ (es : List Event) (t : ℕ) (good : AreRowLives es t) (values : List Value) (at : ℕ) where
  passes : (l : Life) → l.ending ≡ None → l.from < at → eq_by_cmp values_cmp l.values values ≡ true → open_like values at l ≡ true
  passes l none less like =
      ap (λ o. not (is_some o) && (nat_lt l.from at && eq_by_cmp values_cmp l.values values)) none
      ∙ ap (λ b. b && eq_by_cmp values_cmp l.values values) (less_is l.from at less) ∙ like

  passed : (row : ℕ) (l : Life) → slice_get (row_lives es t) row ≡ Some l → open_like values at l ≡ true → (is_open_at (row_lives es t) values row ≡ true) × (l.from < at)
  passed row l stands so =
      let both = and-true (not (is_some l.ending)) (nat_lt l.from at && eq_by_cmp values_cmp l.values values) so in
      let tests = and-true (nat_lt l.from at) (eq_by_cmp values_cmp l.values values) both.1 in
      let none : l.ending ≡ None = not_ended l.ending both.0 in (
        ap (λ o. option_map_or (is_open_of values) o false) stands
            ∙ ap (λ o. not (is_some o) && eq_by_cmp values_cmp l.values values) none ∙ tests.1,
        elim (cases_lt l.from at) [
          | inl less ↦ less
          | inr late ↦ absurd (let wrong : true ≡ false = sym tests.0 ∙ not_less l.from at late in cc)
        ],
      )

  pub first_is : (row : ℕ) → is_open_at (row_lives es t) values row ≡ true → ((r : ℕ) → is_open_at (row_lives es t) values r ≡ true → row ≤ r) → IsOpenAt es t row at → Some row ≡ open_row es t values at
  first_is row so least open_there =
      let o = open_of es t values row so in
      let here = subst (λ x. IsSomeAnd x (λ (l : Life). (l.ending ≡ None) × (l.from < at))) o.stands open_there in
      sym (position_first (open_like values at) (row_lives es t) row o.life o.stands (passes o.life o.none here.1 o.like) before)
      ∙ open_row_is es t good values at
    where
      before : (k : ℕ) (y : Life) → k < row → slice_get (row_lives es t) k ≡ Some y → open_like values at y ≡ false
      before k y less there = by (open_like values at y) refl
        where
          by : (b : Bool) → open_like values at y ≡ b → open_like values at y ≡ false
          by true passed_there = let from = least k (passed k y there passed_there).0 in absurd (omega (arith, from, less))
          by false not_so = not_so

  pub none_is : ((r : ℕ) → is_open_at (row_lives es t) values r ≡ false) → None ≡ open_row es t values at
  none_is none = sym (position_none (open_like values at) (row_lives es t) every) ∙ open_row_is es t good values at
    where
      every : (k : ℕ) (y : Life) → slice_get (row_lives es t) k ≡ Some y → open_like values at y ≡ false
      every k y there = by (open_like values at y) refl
        where
          by : (b : Bool) → open_like values at y ≡ b → open_like values at y ≡ false
          by true passed_there = absurd (let wrong : true ≡ false = sym (passed k y there passed_there).0 ∙ none k in cc)
          by false not_so = not_so

  pub late_is : (row : ℕ) → IsNonDecreasingBy time_of es → is_open_at (row_lives es t) values row ≡ true → ((r : ℕ) → is_open_at (row_lives es t) values r ≡ true → row ≤ r) → (IsOpenAt es t row at → ⊥) → None ≡ open_row es t values at
  late_is row ordered so least late = sym (position_none (open_like values at) (row_lives es t) every) ∙ open_row_is es t good values at
    where
      o : IsOpenOf es t row values
      o = open_of es t values row so

      from_at : at ≤ o.life.from
      from_at = elim (cases_lt o.life.from at) [
        | inl less ↦ absurd (late (subst (λ x. IsSomeAnd x (λ (l : Life). (l.ending ≡ None) × (l.from < at))) (sym o.stands) (o.none, less)))
        | inr le ↦ le
      ]

      every : (k : ℕ) (y : Life) → slice_get (row_lives es t) k ≡ Some y → open_like values at y ≡ false
      every k y there = by (open_like values at y) refl
        where
          by : (b : Bool) → open_like values at y ≡ b → open_like values at y ≡ false
          by true passed_there =
              let both = passed k y there passed_there in
              let early = both.1 in
              let rises = from_rises es t row k o.life y ordered (least k both.0) o.stands there in
              absurd (omega (arith, early, rises, from_at))
          by false not_so = not_so
