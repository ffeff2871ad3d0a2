-- The truths that a condition can have, part by part, and what follows for the row.
use Rattle.std.specs.Prelude.{◌≡◌, ℕ, ◌-◌, ◌+◌, Bool, true, false, not, ◌&&◌, ◌||◌, List, ◌++◌, length, if◌then◌else◌, nat_le, Option, Some, None, slice_get, refl, pos}
use mathlib.Core.Bool.{beq}
use Rattle.std.specs.Option.{unwrap_or}
use Rattle.std.proofs.Common.{sym, ap, ◌∙◌, subst, arith}
use Rattle.std.proofs.lemmas.Bool.{leb-true}
use Rattle.std.proofs.lemmas.List.{get_or-append-add}
use Rattle.std.proofs.Math.ListN.{get_or-append}
use Rattle.std.proofs.lemmas.Option.{get_or_from_slice_get, none-some, slice_get_within}
use Rattle.tq_base.specs.RowValues.{value_at}
use Rattle.tq_base.specs.declared.value.Value.{Value}
use Rattle.tq_base.specs.Contents.{Int}
use Rattle.tq_base.specs.ValueOrder.{value_cmp}
use Rattle.tq_condition.specs.declared.condition.Operand.{Operand}
use Rattle.tq_condition.specs.declared.condition.Operand.TheVariants.{Column, Literal}
use Rattle.tq_condition.specs.declared.condition.Compare.{Compare}
use Rattle.tq_condition.specs.declared.condition.Test.{Test, fold-Test, roll-Test}
use Rattle.tq_condition.specs.declared.condition.Test.TheFolds.{fold-roll-Test, ind-Test, map-Test}
use Rattle.tq_condition.specs.declared.condition.Test.TheOpen.{Test-F}
use Rattle.tq_condition.specs.declared.condition.Test.TheVariants.{Is, And, Or, Not, rolls-Is, rolls-And, rolls-Or, rolls-Not}
use Rattle.tq_condition.specs.Conditions.{accepts, operand_value, passes}
use Rattle.tq_condition.specs.Known.{agrees, may_be, may_be_step, may_compare, may_pass, part_value, row_value, IsKnownTest, IsKnownOperand}
use Rattle.tq_condition.proofs.Conditions.{passes-Is, passes-And, passes-Or, passes-Not}

abbrev pub Lookup : Type 0
Lookup = Operand → Option Value

-- both parts have to be true, or one of them false
abbrev pub both_may : Bool → Bool → Bool → Bool
both_may true a b = a && b
both_may false a b = a || b

abbrev pub either_may : Bool → Bool → Bool → Bool
either_may true a b = a || b
either_may false a b = a && b

pub may_be-Is : (value : Lookup) (left : Operand) (op : Compare) (right : Operand) (wanted : Bool) → may_be value (Is left op right) wanted ≡ may_compare op (value left) (value right) wanted
unfolding may_be
may_be-Is value left op right wanted =
    ap (λ t. fold-Test (Bool → Bool) (may_be_step value) t wanted) (sym (rolls-Is left op right)) ∙ ap (λ f. f wanted) (fold-roll-Test (Bool → Bool) (may_be_step value) (Test-F.Is left op right))

pub may_be-And : (value : Lookup) (a b : Test) (wanted : Bool) → may_be value (And a b) wanted ≡ both_may wanted (may_be value a wanted) (may_be value b wanted)
unfolding may_be
may_be-And value a b wanted =
    ap (λ t. fold-Test (Bool → Bool) (may_be_step value) t wanted) (sym (rolls-And a b)) ∙ ap (λ f. f wanted) (fold-roll-Test (Bool → Bool) (may_be_step value) (Test-F.And a b)) ∙ as_wanted wanted
  where
    as_wanted : (w : Bool) → may_be_step value (Test-F.And (fold-Test (Bool → Bool) (may_be_step value) a) (fold-Test (Bool → Bool) (may_be_step value) b)) w
        ≡ both_may w (fold-Test (Bool → Bool) (may_be_step value) a w) (fold-Test (Bool → Bool) (may_be_step value) b w)
    as_wanted true = refl
    as_wanted false = refl

pub may_be-Or : (value : Lookup) (a b : Test) (wanted : Bool) → may_be value (Or a b) wanted ≡ either_may wanted (may_be value a wanted) (may_be value b wanted)
unfolding may_be
may_be-Or value a b wanted =
    ap (λ t. fold-Test (Bool → Bool) (may_be_step value) t wanted) (sym (rolls-Or a b)) ∙ ap (λ f. f wanted) (fold-roll-Test (Bool → Bool) (may_be_step value) (Test-F.Or a b)) ∙ as_wanted wanted
  where
    as_wanted : (w : Bool) → may_be_step value (Test-F.Or (fold-Test (Bool → Bool) (may_be_step value) a) (fold-Test (Bool → Bool) (may_be_step value) b)) w
        ≡ either_may w (fold-Test (Bool → Bool) (may_be_step value) a w) (fold-Test (Bool → Bool) (may_be_step value) b w)
    as_wanted true = refl
    as_wanted false = refl

pub may_be-Not : (value : Lookup) (a : Test) (wanted : Bool) → may_be value (Not a) wanted ≡ may_be value a (not wanted)
unfolding may_be
may_be-Not value a wanted =
    ap (λ t. fold-Test (Bool → Bool) (may_be_step value) t wanted) (sym (rolls-Not a)) ∙ ap (λ f. f wanted) (fold-roll-Test (Bool → Bool) (may_be_step value) (Test-F.Not a))

-- ---- if all values are known

and_agrees : (a b w : Bool) → both_may w (agrees a w) (agrees b w) ≡ agrees (a && b) w
and_agrees true b true = refl
and_agrees false b true = refl
and_agrees true b false = refl
and_agrees false b false = refl

or_agrees : (a b w : Bool) → either_may w (agrees a w) (agrees b w) ≡ agrees (a || b) w
or_agrees true b true = refl
or_agrees false b true = refl
or_agrees true b false = refl
or_agrees false b false = refl

not_agrees : (a w : Bool) → agrees a (not w) ≡ agrees (not a) w
not_agrees a true = refl
not_agrees true false = refl
not_agrees false false = refl

abbrev IsDecided : List Value → Test → Type 0
IsDecided row t = (wanted : Bool) → may_be (λ operand. Some (operand_value operand row)) t wanted ≡ agrees (passes t row) wanted

decided_step : (row : List Value) (x : Test-F Test) (y : Test-F ((t : Test) × IsDecided row t)) → map-Test ((t : Test) × IsDecided row t) Test (λ e. e.0) y ≡ x → IsDecided row (roll-Test x)
decided_step row x (Test-F.Is left op right) is =
    subst (λ z. IsDecided row (roll-Test z)) is (subst (IsDecided row) (sym (rolls-Is left op right))
    (λ w. may_be-Is (λ operand. Some (operand_value operand row)) left op right w ∙ ap (λ b. agrees b w) (sym (passes-Is left op right row))))
decided_step row x (Test-F.And a b) is =
    subst (λ z. IsDecided row (roll-Test z)) is (subst (IsDecided row) (sym (rolls-And a.0 b.0))
    (λ w. may_be-And (λ operand. Some (operand_value operand row)) a.0 b.0 w ∙ (λ i. both_may w (a.1 w i) (b.1 w i)) ∙ and_agrees (passes a.0 row) (passes b.0 row) w ∙ ap (λ c. agrees c w) (sym (passes-And a.0 b.0 row))))
decided_step row x (Test-F.Or a b) is =
    subst (λ z. IsDecided row (roll-Test z)) is (subst (IsDecided row) (sym (rolls-Or a.0 b.0))
    (λ w. may_be-Or (λ operand. Some (operand_value operand row)) a.0 b.0 w ∙ (λ i. either_may w (a.1 w i) (b.1 w i)) ∙ or_agrees (passes a.0 row) (passes b.0 row) w ∙ ap (λ c. agrees c w) (sym (passes-Or a.0 b.0 row))))
decided_step row x (Test-F.Not a) is =
    subst (λ z. IsDecided row (roll-Test z)) is (subst (IsDecided row) (sym (rolls-Not a.0))
    (λ w. may_be-Not (λ operand. Some (operand_value operand row)) a.0 w ∙ a.1 (not w) ∙ not_agrees (passes a.0 row) w ∙ ap (λ c. agrees c w) (sym (passes-Not a.0 row))))

-- a condition can have only the truth that it has
pub pushable : (row : List Value) (t : Test) → IsDecided row t
pushable row = ind-Test (IsDecided row) (decided_step row)

-- ---- if some values are known

not_false : (a : Bool) → not a ≡ false → a ≡ true
not_false true is = refl
not_false false is = cc

and_fails : (w x y a b : Bool) → (x ≡ false → agrees a w ≡ false) → (y ≡ false → agrees b w ≡ false) → both_may w x y ≡ false → agrees (a && b) w ≡ false
and_fails true false y a b on_a on_b is = ap (λ c. c && b) (on_a refl)
and_fails true true false a b on_a on_b is = ap (λ c. a && c) (on_b refl) ∙ and-false a
  where
    and-false : (c : Bool) → (c && false) ≡ false
    and-false true = refl
    and-false false = refl
and_fails true true true a b on_a on_b is = cc
and_fails false false false a b on_a on_b is = λ i. not (not_false a (on_a refl) i && not_false b (on_b refl) i)
and_fails false false true a b on_a on_b is = cc
and_fails false true y a b on_a on_b is = cc

or_fails : (w x y a b : Bool) → (x ≡ false → agrees a w ≡ false) → (y ≡ false → agrees b w ≡ false) → either_may w x y ≡ false → agrees (a || b) w ≡ false
or_fails true false false a b on_a on_b is = λ i. on_a refl i || on_b refl i
or_fails true false true a b on_a on_b is = cc
or_fails true true y a b on_a on_b is = cc
or_fails false false y a b on_a on_b is = ap (λ c. not (c || b)) (not_false a (on_a refl))
or_fails false true false a b on_a on_b is = ap (λ c. not (a || c)) (not_false b (on_b refl)) ∙ or-true a
  where
    or-true : (c : Bool) → not (c || true) ≡ false
    or-true true = refl
    or-true false = refl
or_fails false true true a b on_a on_b is = cc

abbrev IsLookupOf : Lookup → List Value → Type 0
IsLookupOf value row = (operand : Operand) (v : Value) → value operand ≡ Some v → operand_value operand row ≡ v

abbrev IsSound : Lookup → List Value → Test → Type 0
IsSound value row t = (wanted : Bool) → may_be value t wanted ≡ false → agrees (passes t row) wanted ≡ false

compared : (value : Lookup) (row : List Value) → IsLookupOf value row → (left : Operand) (op : Compare) (right : Operand) (w : Bool) (o p : Option Value) → value left ≡ o → value right ≡ p
    → may_compare op o p w ≡ false → agrees (accepts op (value_cmp (operand_value left row) (operand_value right row))) w ≡ false
compared value row finds left op right w (Some v) (Some u) on_left on_right fails =
    ap (λ z. agrees (accepts op (value_cmp z (operand_value right row))) w) (finds left v on_left) ∙ ap (λ z. agrees (accepts op (value_cmp v z)) w) (finds right u on_right) ∙ fails
compared value row finds left op right w (Some v) None on_left on_right fails = cc
compared value row finds left op right w None p on_left on_right fails = cc

sound_step : (value : Lookup) (row : List Value) → IsLookupOf value row → (x : Test-F Test) (y : Test-F ((t : Test) × IsSound value row t)) → map-Test ((t : Test) × IsSound value row t) Test (λ e. e.0) y ≡ x → IsSound value row (roll-Test x)
sound_step value row finds x (Test-F.Is left op right) is =
    subst (λ z. IsSound value row (roll-Test z)) is (subst (IsSound value row) (sym (rolls-Is left op right))
    (λ w fails. ap (λ b. agrees b w) (passes-Is left op right row) ∙ compared value row finds left op right w (value left) (value right) refl refl (sym (may_be-Is value left op right w) ∙ fails)))
sound_step value row finds x (Test-F.And a b) is =
    subst (λ z. IsSound value row (roll-Test z)) is (subst (IsSound value row) (sym (rolls-And a.0 b.0))
    (λ w fails. ap (λ c. agrees c w) (passes-And a.0 b.0 row)
    ∙ and_fails w (may_be value a.0 w) (may_be value b.0 w) (passes a.0 row) (passes b.0 row) (a.1 w) (b.1 w) (sym (may_be-And value a.0 b.0 w) ∙ fails)))
sound_step value row finds x (Test-F.Or a b) is =
    subst (λ z. IsSound value row (roll-Test z)) is (subst (IsSound value row) (sym (rolls-Or a.0 b.0))
    (λ w fails. ap (λ c. agrees c w) (passes-Or a.0 b.0 row)
    ∙ or_fails w (may_be value a.0 w) (may_be value b.0 w) (passes a.0 row) (passes b.0 row) (a.1 w) (b.1 w) (sym (may_be-Or value a.0 b.0 w) ∙ fails)))
sound_step value row finds x (Test-F.Not a) is =
    subst (λ z. IsSound value row (roll-Test z)) is (subst (IsSound value row) (sym (rolls-Not a.0))
    (λ w fails. ap (λ c. agrees c w) (passes-Not a.0 row) ∙ sym (not_agrees (passes a.0 row) w) ∙ a.1 (not w) (sym (may_be-Not value a.0 w) ∙ fails)))

sound : (value : Lookup) (row : List Value) → IsLookupOf value row → (t : Test) → IsSound value row t
sound value row finds = ind-Test (IsSound value row) (sound_step value row finds)

part_is_lookup : (before part after : List Value) → IsLookupOf (part_value (length before) part) (before ++ (part ++ after))
part_is_lookup before part after (Column place) v is = by_place (nat_le (length before) place) refl
  where
    by_place : (b : Bool) → nat_le (length before) place ≡ b → value_at (before ++ (part ++ after)) place ≡ v
    by_place true known =
        let here : slice_get part (place - length before) ≡ Some v = sym (ap (λ c. if c then slice_get part (place - length before) else None) known) ∙ is in
        ap (value_at (before ++ (part ++ after))) (let sum : place ≡ length before + (place - length before) = omega (arith, leb-true (length before) place known) in sum)
        ∙ get_or-append-add before (part ++ after) (place - length before) (Int (pos 0))
        ∙ get_or-append part after (Int (pos 0)) (place - length before) (slice_get_within part (place - length before) v here)
        ∙ get_or_from_slice_get part (place - length before) v (Int (pos 0)) here
    by_place false known = absurd (none-some v (sym (ap (λ c. if c then slice_get part (place - length before) else None) known) ∙ is))
part_is_lookup before part after (Literal value) v is = ap (λ o. unwrap_or o v) is

-- if a part alone makes the condition fail, the row fails
pub part_loses_none : (test : Test) (before part after : List Value) → may_pass (length before) part test ≡ false → passes test (before ++ (part ++ after)) ≡ false
part_loses_none test before part after fails = sound (part_value (length before) part) (before ++ (part ++ after)) (part_is_lookup before part after) test true fails

-- ---- if a part determines all operands of a condition

pub known_Is : (test : Test) (left : Operand) (op : Compare) (right : Operand) (first count : ℕ) → test ≡ Is left op right → IsKnownOperand left first count → IsKnownOperand right first count → IsKnownTest test first count
known_Is test left op right first count is on_left on_right before part after long wide wanted =
    ap (λ t. may_be (part_value first part) t wanted) is ∙ may_be-Is (part_value first part) left op right wanted
    ∙ (λ i. may_compare op (on_left before part after long wide i) (on_right before part after long wide i) wanted)
    ∙ sym (ap (λ t. may_be (row_value (before ++ (part ++ after))) t wanted) is ∙ may_be-Is (row_value (before ++ (part ++ after))) left op right wanted)

pub known_And : (test one other : Test) (first count : ℕ) → test ≡ And one other → IsKnownTest one first count → IsKnownTest other first count → IsKnownTest test first count
known_And test one other first count is on_one on_other before part after long wide wanted =
    ap (λ t. may_be (part_value first part) t wanted) is ∙ may_be-And (part_value first part) one other wanted
    ∙ (λ i. both_may wanted (on_one before part after long wide wanted i) (on_other before part after long wide wanted i))
    ∙ sym (ap (λ t. may_be (row_value (before ++ (part ++ after))) t wanted) is ∙ may_be-And (row_value (before ++ (part ++ after))) one other wanted)

pub known_Or : (test one other : Test) (first count : ℕ) → test ≡ Or one other → IsKnownTest one first count → IsKnownTest other first count → IsKnownTest test first count
known_Or test one other first count is on_one on_other before part after long wide wanted =
    ap (λ t. may_be (part_value first part) t wanted) is ∙ may_be-Or (part_value first part) one other wanted
    ∙ (λ i. either_may wanted (on_one before part after long wide wanted i) (on_other before part after long wide wanted i))
    ∙ sym (ap (λ t. may_be (row_value (before ++ (part ++ after))) t wanted) is ∙ may_be-Or (row_value (before ++ (part ++ after))) one other wanted)

pub known_Not : (test inner : Test) (first count : ℕ) → test ≡ Not inner → IsKnownTest inner first count → IsKnownTest test first count
known_Not test inner first count is on_inner before part after long wide wanted =
    ap (λ t. may_be (part_value first part) t wanted) is ∙ may_be-Not (part_value first part) inner wanted
    ∙ on_inner before part after long wide (not wanted)
    ∙ sym (ap (λ t. may_be (row_value (before ++ (part ++ after))) t wanted) is ∙ may_be-Not (row_value (before ++ (part ++ after))) inner wanted)

-- ---- the last part of a pair decides it, or the first does

pub both_decided : (w x y : Bool) → not (beq y w) ≡ true → not w ≡ both_may w x y
both_decided true true false other = refl
both_decided true false false other = refl
both_decided true x true other = cc
both_decided false true true other = refl
both_decided false false true other = refl
both_decided false x false other = cc

pub both_left : (w x y : Bool) → not (beq y w) ≡ false → both_may w x y ≡ x
both_left true true true same = refl
both_left true false true same = refl
both_left true x false same = cc
both_left false true false same = refl
both_left false false false same = refl
both_left false x true same = cc

pub either_decided : (w x y : Bool) → beq y w ≡ true → w ≡ either_may w x y
either_decided true true true same = refl
either_decided true false true same = refl
either_decided true x false same = cc
either_decided false true false same = refl
either_decided false false false same = refl
either_decided false x true same = cc

pub either_left : (w x y : Bool) → beq y w ≡ false → either_may w x y ≡ x
either_left true true false other = refl
either_left true false false other = refl
either_left true x true other = cc
either_left false true true other = refl
either_left false false true other = refl
either_left false x false other = cc
