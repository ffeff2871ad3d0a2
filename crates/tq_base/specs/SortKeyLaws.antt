-- Laws of sort keys: they are ordered as the values of their rows.
use Rattle.std.specs.List.{range_with_len}
use Rattle.std.specs.Prelude.{zero, suc, ◌++◌, map, ◌≡◌, ◌^◌, ◌%◌, ◌<◌, ◌≤◌, ◌+◌, ◌*◌, ◌-◌, ℕ, min, Bool, true, false, nat_lt, nat_le, cond, List, [], ◌∷◌, length, drop, pos, negsuc, refl, All, IsSorted}
use Rattle.std.specs.Ordering.{is_lt, nat_cmp, ordering_reverse, ordering_then}
use Rattle.std.specs.Cmp.{IsTotalOrder, nat_cmp_total, on_total, ranked, then_total, tied_itself}
use Rattle.std.specs.declared.cmp.Ordering.{Ordering}
use Rattle.std.specs.declared.cmp.Ordering.TheVariants.{Less, Equal, Greater}
use Rattle.std.proofs.Common.{sym, ap, ◌∙◌, subst, arith, get_or, rules, inl, inr}
use Rattle.std.proofs.lemmas.Bool.{cases_lt}
use Rattle.std.proofs.lemmas.Bool.Decides.{nat_tests}
use Rattle.std.proofs.lemmas.List.Sorted.{ranks_by, sorted_far}
use Rattle.std.proofs.lemmas.Nat.{mod-mul-add}
use Rattle.std.proofs.lemmas.List.{append_assoc, get_or-append-add, get_or-drop, length-append, length-drop}
use Rattle.tq_base.specs.RowValues.{value_at}
use Rattle.tq_base.specs.declared.value.Value.{Value}
use Rattle.tq_base.specs.declared.sort_input.SortKey.{SortKey}
use Rattle.tq_base.specs.Contents.{Int, Text, has_exact_prefix}
use Rattle.tq_base.specs.NormalizedKeys.{prefix_number, prefixes_rise, prefixes_are_exact, normalized_key, HasBytes}
use Rattle.tq_base.specs.ValueOrder.{value_cmp, value_total, values_cmp, values_same, values_total}
use Rattle.tq_base.specs.Keys.{columns_on, first_prefix, key_row, key_cmp, key_values, is_exact, value_key_cmp, values_left, HaveRunStarts, BeginsWithBytes, IsSortKey, Rises, SortInputState, IsRunStart}

-- ---- what prefixes decide

less_is : (m n : ℕ) → m < n → nat_lt m n ≡ true
less_is m n less = search (rules, nat_tests, less)

not_less : (m n : ℕ) → n ≤ m → nat_lt m n ≡ false
not_less m n least = search (rules, nat_tests, least)

at_most : (m n : ℕ) → m ≤ n → nat_le m n ≡ true
at_most m n most = search (rules, nat_tests, most)

not_most : (m n : ℕ) → n < m → nat_le m n ≡ false
not_most m n less = search (rules, nat_tests, less)

number_is_exact : (prefix : ℕ) → 0 < prefix → prefix < 2 ^ 64 + 1 → is_exact prefix ≡ true
number_is_exact prefix least most = rw (less_is prefix (2 ^ 120) (omega (arith, most)), less_is 0 prefix least, less_is prefix (2 ^ 64 + 1) most) refl

wide_is_not_exact : (prefix : ℕ) → 2 ^ 64 + 1 ≤ prefix → prefix < 2 ^ 120 → is_exact prefix ≡ false
wide_is_not_exact prefix least most = rw (less_is prefix (2 ^ 120) most, less_is 0 prefix (omega (arith, least)), not_less prefix (2 ^ 64 + 1) least) refl

text_is_exact : (prefix len : ℕ) → 2 ^ 120 ≤ prefix → prefix % 256 ≡ len → is_exact prefix ≡ nat_lt len 15
text_is_exact prefix len least is = rw (not_less prefix (2 ^ 120) least, is) refl

text_len : (digits len : ℕ) → (2 ^ 120 + digits * 256 + min len 15) % 256 ≡ min len 15
text_len digits len =
    let parts : 2 ^ 120 + digits * 256 + min len 15 ≡ (2 ^ 112 + digits) * 256 + min len 15 = omega arith in
    ap (λ n. n % 256) parts ∙ mod-mul-add (2 ^ 112 + digits) 256 (min len 15) (omega arith)

short_is : (len : ℕ) → nat_lt (min len 15) 15 ≡ nat_le len 14
short_is len = elim (cases_lt len 15) [
  | inl less ↦ less_is (min len 15) 15 (omega (arith, less)) ∙ sym (at_most len 14 (omega (arith, less)))
  | inr least ↦ not_less (min len 15) 15 (omega (arith, least)) ∙ sym (not_most len 14 (omega (arith, least)))
]

-- a prefix shows by itself whether it determines its value
pub is_exact_value : (v : Value) → HasBytes v → is_exact (normalized_key v) ≡ has_exact_prefix v
is_exact_value (Int (pos n)) bytes = elim (cases_lt n (2 ^ 63)) [
  | inl less ↦ number_is_exact (2 ^ 63 + 1 + min n (2 ^ 63)) (omega arith) (omega (arith, less)) ∙ sym (less_is n (2 ^ 63) less)
  | inr least ↦ wide_is_not_exact (2 ^ 63 + 1 + min n (2 ^ 63)) (omega (arith, least)) (omega arith) ∙ sym (not_less n (2 ^ 63) least)
]
is_exact_value (Int (negsuc n)) bytes = elim (cases_lt n (2 ^ 63)) [
  | inl less ↦ number_is_exact (2 ^ 63 - n) (omega (arith, less)) (omega arith) ∙ sym (less_is n (2 ^ 63) less)
  | inr least ↦ let none : 2 ^ 63 - n ≡ 0 = omega (arith, least) in ap is_exact none ∙ sym (not_less n (2 ^ 63) least)
]
is_exact_value (Text t) bytes =
    text_is_exact (2 ^ 120 + prefix_number 14 0 t * 256 + min (length t) 15) (min (length t) 15) (omega arith) (text_len (prefix_number 14 0 t) (length t)) ∙ short_is (length t)

-- ---- the order of keys is that of their values

-- a lesser prefix belongs to lesser values
pub less_from_prefix : (u v : List Value) → BeginsWithBytes u → BeginsWithBytes v → first_prefix u < first_prefix v → values_cmp u v ≡ Less
less_from_prefix [] [] u_bytes v_bytes lt = absurd (omega (arith, lt))
less_from_prefix [] (y ∷ v) u_bytes v_bytes lt = refl
less_from_prefix (x ∷ u) [] u_bytes v_bytes lt = absurd (omega (arith, lt))
less_from_prefix (x ∷ u) (y ∷ v) u_bytes v_bytes lt = ap (λ r. ordering_then r (values_cmp u v)) (prefixes_rise x y u_bytes v_bytes lt)

none_exact : (prefix : ℕ) → prefix ≡ 0 → is_exact prefix ≡ true → ⊥
none_exact prefix none tells = let not_told : is_exact prefix ≡ false = ap is_exact none in cc

-- if the prefix determines the first values, they are equal, and the others decide
pub exact_firsts : (u v : List Value) → BeginsWithBytes u → BeginsWithBytes v → first_prefix u ≡ first_prefix v → is_exact (first_prefix u) ≡ true → values_cmp (drop 1 u) (drop 1 v) ≡ values_cmp u v
exact_firsts [] v u_bytes v_bytes same tells = absurd (none_exact 0 refl tells)
exact_firsts (x ∷ u) [] u_bytes v_bytes same tells = absurd (none_exact (normalized_key x) same tells)
exact_firsts (x ∷ u) (y ∷ v) u_bytes v_bytes same tells =
    let x_exact : has_exact_prefix x ≡ true = sym (is_exact_value x u_bytes) ∙ tells in
    let y_exact : has_exact_prefix y ≡ true = sym (is_exact_value y v_bytes) ∙ ap is_exact (sym same) ∙ tells in
    let equal : value_cmp x y ≡ Equal = subst (λ z. value_cmp x z ≡ Equal) (prefixes_are_exact x y u_bytes v_bytes x_exact y_exact same) (tied_itself value_total x) in
    sym (ap (λ o. ordering_then o (values_cmp u v)) equal)

-- the values that a prefix leaves to compare decide
left_decide : (u v : List Value) → BeginsWithBytes u → BeginsWithBytes v → first_prefix u ≡ first_prefix v → values_cmp (values_left (first_prefix u) u) (values_left (first_prefix u) v) ≡ values_cmp u v
left_decide u v u_bytes v_bytes same = by (is_exact (first_prefix u)) refl
  where
    by : (b : Bool) → is_exact (first_prefix u) ≡ b → values_cmp (cond b (drop 1 u) u) (cond b (drop 1 v) v) ≡ values_cmp u v
    by false is = refl
    by true is = exact_firsts u v u_bytes v_bytes same is

-- keys of rows are ordered as their compared values
pub as_values : (s : SortInputState) (a b : SortKey) → IsSortKey s a → IsSortKey s b → value_key_cmp s a b ≡ values_cmp (key_values s a) (key_values s b)
as_values s a b a_is b_is = split (nat_cmp a.prefix b.prefix) refl
  where
    left : Ordering
    left = values_cmp (values_left a.prefix (key_values s a)) (values_left b.prefix (key_values s b))

    split : (r : Ordering) → nat_cmp a.prefix b.prefix ≡ r → value_key_cmp s a b ≡ values_cmp (key_values s a) (key_values s b)
    split Less is =
        let lt : a.prefix < b.prefix = ranked a.prefix b.prefix Less (sym is) in
        ap (λ o. ordering_then o left) is ∙ sym (less_from_prefix (key_values s a) (key_values s b) a_is.bytes b_is.bytes (omega (arith, lt, a_is.prefix, b_is.prefix)))
    split Equal is =
        let same : a.prefix ≡ b.prefix = ranked a.prefix b.prefix Equal (sym is) in
        ap (λ o. ordering_then o left) is
        ∙ ap (λ n. values_cmp (values_left a.prefix (key_values s a)) (values_left n (key_values s b))) (sym same)
        ∙ ap (λ n. values_cmp (values_left n (key_values s a)) (values_left n (key_values s b))) a_is.prefix
        ∙ left_decide (key_values s a) (key_values s b) a_is.bytes b_is.bytes (sym a_is.prefix ∙ same ∙ b_is.prefix)
    split Greater is =
        let lt : b.prefix < a.prefix = ranked a.prefix b.prefix Greater (sym is) in
        let less = less_from_prefix (key_values s b) (key_values s a) b_is.bytes a_is.bytes (omega (arith, lt, a_is.prefix, b_is.prefix)) in
        ap (λ o. ordering_then o left) is ∙ sym (values_total.antisymm (key_values s a) (key_values s b) ∙ ap ordering_reverse less)

-- keys that compare as equal have equal values
pub told : (s : SortInputState) (a b : SortKey) → IsSortKey s a → IsSortKey s b → value_key_cmp s a b ≡ Equal → key_values s a ≡ key_values s b
told s a b a_is b_is equal = values_same (key_values s a) (key_values s b) (sym (as_values s a b a_is b_is) ∙ equal)

-- keys with equal values compare as equal
pub alike : (s : SortInputState) (a b : SortKey) → IsSortKey s a → IsSortKey s b → key_values s a ≡ key_values s b → value_key_cmp s a b ≡ Equal
alike s a b a_is b_is same =
    as_values s a b a_is b_is ∙ subst (λ v. values_cmp (key_values s a) v ≡ Equal) same (tied_itself values_total (key_values s a))

-- ---- sorted keys

pub value_key_cmp_total : (s : SortInputState) → IsTotalOrder (value_key_cmp s)
value_key_cmp_total s = then_total (on_total (λ (k : SortKey). k.prefix) nat_cmp_total) (on_total (λ (k : SortKey). values_left k.prefix (key_values s k)) values_total)

pub key_cmp_total : (s : SortInputState) → IsTotalOrder (key_cmp s)
key_cmp_total s = then_total (value_key_cmp_total s) (on_total (λ (k : SortKey). k.start) nat_cmp_total)

-- the values of sorted keys never decrease
pub rises : (s : SortInputState) (keys : List SortKey) → IsSorted (key_cmp s) keys → All (IsSortKey s) keys → Rises s keys
rises s keys sorted are i j d before short above =
    let a = get_or keys i d in
    let b = get_or keys j d in
    let not_below : is_lt (key_cmp s b a) ≡ false = sorted_far (λ x y. is_lt (key_cmp s x y)) (ranks_by (key_cmp_total s) (λ (k : SortKey). k)) keys sorted i j d (omega (arith, before)) short in
    let less : value_key_cmp s b a ≡ Less = as_values s b a (are j d short) (are i d (omega (arith, before, short))) ∙ (values_total.antisymm (key_values s b) (key_values s a) ∙ ap ordering_reverse above) in
    let below : is_lt (key_cmp s b a) ≡ true = ap (λ o. is_lt (ordering_then o (nat_cmp b.start a.start))) less in
    cc (not_below, below)

-- a run start that is right for two keys is right for the same two under other names
pub exact_same : (s : SortInputState) (a b x y : SortKey) → a ≡ x → b ≡ y → IsRunStart s a b → IsRunStart s x y
exact_same s a b x y a_is b_is tells = subst (λ k. IsRunStart s k y) a_is (subst (IsRunStart s a) b_is tells)

-- run starts that are right for all keys are right for the keys from a place on
pub run_starts_rest : (s : SortInputState) (keys : List SortKey) (start : ℕ) → HaveRunStarts s keys → HaveRunStarts s (drop start keys)
run_starts_rest s keys start run_starts i d less =
    let here : get_or (drop start keys) i d ≡ get_or keys (start + i) d = get_or-drop start keys i d in
    let next : get_or (drop start keys) (i + 1) d ≡ get_or keys (start + i + 1) d = get_or-drop start keys (i + 1) d ∙ ap (λ n. get_or keys n d) (let at : start + (i + 1) ≡ start + i + 1 = omega arith in at) in
    exact_same s (get_or keys (start + i) d) (get_or keys (start + i + 1) d) (get_or (drop start keys) i d) (get_or (drop start keys) (i + 1) d) (sym here) (sym next)
    (run_starts (start + i) d (omega (arith, less, length-drop start keys)))

-- ---- all columns

-- consecutive numbers, followed by the next one
pub numbers_more : (a n : ℕ) → range_with_len a (n + 1) ≡ range_with_len a n ++ (a + n) ∷ []
numbers_more a zero = ap (λ m. m ∷ []) (let same : a ≡ a + 0 = omega arith in same)
numbers_more a (suc n) =
    ap (range_with_len a) (let same : suc n + 1 ≡ suc (n + 1) = omega arith in same)
    ∙ ap (λ l. a ∷ l)
    (numbers_more (a + 1) n ∙ ap (λ m. range_with_len (a + 1) n ++ m ∷ []) (let same : a + 1 + n ≡ a + suc n = omega arith in same))

from_here : (before row : List Value) → map (value_at (before ++ row)) (range_with_len (length before) (length row)) ≡ row
from_here before [] = refl
from_here before (value ∷ row) = λ i. here i ∷ (moved ∙ from_here (before ++ value ∷ []) row) i
  where
    here : value_at (before ++ value ∷ row) (length before) ≡ value
    here =
        ap (value_at (before ++ value ∷ row)) (let same : length before ≡ length before + 0 = omega arith in same)
        ∙ get_or-append-add before (value ∷ row) 0 (Int (pos 0))

    moved : map (value_at (before ++ value ∷ row)) (range_with_len (length before + 1) (length row))
        ≡ map (value_at ((before ++ value ∷ []) ++ row)) (range_with_len (length (before ++ value ∷ [])) (length row))
    moved =
        ap (λ n. map (value_at (before ++ value ∷ row)) (range_with_len n (length row))) (let same : length before + 1 ≡ length (before ++ value ∷ []) = omega (arith, length-append before (value ∷ [])) in same)
        ∙ ap (λ l. map (value_at l) (range_with_len (length (before ++ value ∷ [])) (length row))) (sym (append_assoc before (value ∷ []) row))

-- a row's values at the places 0, 1, 2 and so on, one for each of its values, are the row
pub all_values : (row : List Value) (width : ℕ) → length row ≡ width → map (value_at row) (range_with_len 0 width) ≡ row
all_values row width wide = ap (λ n. map (value_at row) (range_with_len 0 n)) (sym wide) ∙ from_here [] row

-- if all columns are compared, a key's values are those of its row
pub whole_row : (s : SortInputState) (k : SortKey) (width : ℕ) → columns_on s k.side ≡ range_with_len 0 width → length (key_row s k).values ≡ width → key_values s k ≡ (key_row s k).values
whole_row s k width columns wide = ap (λ places. map (value_at (key_row s k).values) places) columns ∙ all_values (key_row s k).values width wide
