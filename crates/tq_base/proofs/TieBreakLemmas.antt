-- The values of keys that are still to compare, and lists of keys that are sorted run by run.
use Rattle.std.proofs.Common.{inl, inr, subst, ◌≡◌, ◌≢◌, ℕ, zero, suc, ◌+◌, ◌-◌, ◌<◌, ◌≤◌, Bool, true, false, List, [], ◌∷◌, ◌++◌, length, take, drop, map, get_or, refl, set, sym, ap, ◌∙◌, arith}
use Rattle.std.specs.Prelude.{◌*◌, All, IsPermutation, IsSorted, min, negsuc, pos}
use Rattle.std.specs.Cmp.{IsTotalOrder, nat_cmp_total, on_total, ranked as prefix_by, then_total, tied_itself}
use Rattle.std.specs.Cmp.Lexicographic.{slice_cmp}
use Rattle.std.specs.Ordering.{is_lt, is_ne, nat_cmp, ordering_reverse, ordering_then}
use Rattle.std.specs.declared.cmp.Ordering.{Ordering}
use Rattle.std.specs.declared.cmp.Ordering.TheVariants.{Less, Equal, Greater}
use Rattle.std.proofs.lemmas.Bool.{cases_lt}
use Rattle.std.proofs.lemmas.List.{append-nil, drop-drop, drop_all, get_or_default, get_or-append_right, get_or-drop, get_or-map, get_or-take, get_or_append_left, length-append, length-drop, length-map, length-take, map-append, take-take, take_all, take_more_set}
use Rattle.std.proofs.lemmas.List.Edits.{map_over_more}
use Rattle.std.proofs.lemmas.List.Elements.{All-drop, All-head, All-map, All-more, All-push, All-tail, All-take, All-weaker}
use Rattle.std.proofs.lemmas.List.Sorted.{length_permutation, All-permutation, IsPermutation-append_left, IsPermutation-append_right, IsPermutation-map}
use Rattle.std.proofs.lemmas.Slice.{drop-put_mid, take-put_mid}
use borrow.Rule.Slice.PartMut.{mid_of, post_of, put_mid, put_same}
use Rattle.tq_base.specs.RowValues.{value_at}
use Rattle.tq_base.specs.declared.value.Value.{Value}
use Rattle.tq_base.specs.declared.sort_input.SortKey.{SortKey}
use Rattle.tq_base.specs.declared.sort_input.RunStart.{RunStart}
use Rattle.tq_base.specs.declared.sort_input.RunStart.TheVariants.{Unknown, Begins, GoesOn}
use Rattle.tq_base.specs.declared.place_view.PlaceView.{PlaceView}
use Rattle.tq_base.specs.declared.sort_input.Side.{Side}
use Rattle.tq_base.specs.declared.sort_input.Side.TheVariants.{Left, Right}
use Rattle.tq_base.specs.Contents.{Int, Text}
use Rattle.tq_base.specs.Keys.{columns_on, first_prefix, key_cmp, key_row, held, key_values, is_exact, rows_on, prefix_start_cmp, HaveRunStarts, BeginsWithBytes, IsSortKey, SortInputState, IsRunStart}
use Rattle.tq_base.specs.SortKeyLaws.{as_values, less_from_prefix, exact_same, exact_firsts}
use Rattle.tq_base.specs.TieBreak.{first_text, from_cmp, goes_on, prefix_cmp, with_next_prefix, without_run_start, value_after, values_after, values_from, with_prefix, HaveNoRunStarts, HasNextPrefix, IsSameOrder, RunsDone, SameKeys, SameOrder}
use Rattle.tq_base.specs.NormalizedKeys.{prefix_number, prefix_number-lt}
use Rattle.tq_base.specs.ValueOrder.{value_cmp, values_cmp, values_same, values_total}
use Rattle.tq_base.specs.PlaceViews.{column_on, IsViewOf}
use Rattle.tq_base.proofs.ColumnLemmas.{column_here}
use Rattle.tq_base.proofs.SortKeyLemmas.{compared_at}

-- ---- the values that are left

pub after_none : (values : List Value) → values_after 0 values ≡ values
after_none [] = refl
after_none (Int n ∷ values) = refl
after_none (Text t ∷ values) = refl

-- the bytes of a text after its first 14, from a later byte on
pub after_tail : (offset : ℕ) (t : List ℕ) → 14 ≤ offset → drop (offset - 14) (drop 14 t) ≡ drop offset t
after_tail offset t far = drop-drop (offset - 14) 14 t ∙ ap (λ n. drop n t) (omega (arith, far))

after_more : (m n : ℕ) (values : List Value) → values_after (m + n) values ≡ values_after n (values_after m values)
after_more m n [] = refl
after_more m n (Int k ∷ values) = refl
after_more m n (Text t ∷ values) = ap (λ u. Text u ∷ values) (sym (drop-drop n m t))

drop_first : (offset : ℕ) (values : List Value) → drop 1 (values_after offset values) ≡ drop 1 values
drop_first offset [] = refl
drop_first offset (v ∷ values) = refl

-- texts with the same first bytes are ordered as the bytes that follow
same_front : (n : ℕ) (t u : List ℕ) → take n t ≡ take n u → slice_cmp nat_cmp (drop n t) (drop n u) ≡ slice_cmp nat_cmp t u
same_front zero t u same = refl
same_front (suc n) [] [] same = refl
same_front (suc n) [] (y ∷ u) same = absurd (let short : 0 ≡ suc (length (take n u)) = ap length same in omega (arith, short))
same_front (suc n) (x ∷ t) [] same = absurd (let short : suc (length (take n t)) ≡ 0 = ap length same in omega (arith, short))
same_front (suc n) (x ∷ t) (y ∷ u) same =
    let first : x ≡ y = ap (λ l. get_or l 0 x) same in
    let rest : take n t ≡ take n u = ap (λ l. drop 1 l) same in
    let equal : nat_cmp x y ≡ Equal = subst (λ z. nat_cmp x z ≡ Equal) first (tied_itself nat_cmp_total x) in
    same_front n t u rest ∙ sym (ap (λ r. ordering_then r (slice_cmp nat_cmp t u)) equal)

left_same : (n : ℕ) (u v : List Value) → take n (first_text u) ≡ take n (first_text v) → values_cmp (values_after n u) (values_after n v) ≡ values_cmp u v
left_same n [] [] same = refl
left_same n [] (y ∷ v) same = refl
left_same n (x ∷ u) [] same = refl
left_same n (Int x ∷ u) (Int y ∷ v) same = refl
left_same n (Int x ∷ u) (Text y ∷ v) same = refl
left_same n (Text x ∷ u) (Int y ∷ v) same = refl
left_same n (Text x ∷ u) (Text y ∷ v) same = ap (λ r. ordering_then r (values_cmp u v)) (same_front n x y same)

-- ---- what prefixes say about the first bytes of texts

-- texts with the same digits, and the same length as far as the prefix has it, begin with the same bytes
prefix_takes : (places d : ℕ) (s t : List ℕ) → All (λ byte. byte < 256) s → All (λ byte. byte < 256) t
    → min (length s) (places + 1) ≡ min (length t) (places + 1) → prefix_number places d s ≡ prefix_number places d t → take places s ≡ take places t
prefix_takes zero d s t s_bytes t_bytes alike same = refl
prefix_takes (suc places) d [] [] s_bytes t_bytes alike same = refl
prefix_takes (suc places) d [] (y ∷ t) s_bytes t_bytes alike same = absurd (omega (arith, alike))
prefix_takes (suc places) d (x ∷ s) [] s_bytes t_bytes alike same = absurd (omega (arith, alike))
prefix_takes (suc places) d (x ∷ s) (y ∷ t) s_bytes t_bytes alike same =
    split (nat_cmp x y) refl
    (λ z both. prefix_takes places (d * 256 + z) s t s_rest t_rest (omega (arith, alike)) both)
  where
    s_rest : All (λ byte. byte < 256) s
    s_rest = All-tail (λ byte. byte < 256) x s s_bytes

    t_rest : All (λ byte. byte < 256) t
    t_rest = All-tail (λ byte. byte < 256) y t t_bytes

    split : (r : Ordering) → nat_cmp x y ≡ r → ((z : ℕ) → prefix_number places (d * 256 + z) s ≡ prefix_number places (d * 256 + z) t → take places s ≡ take places t) → x ∷ take places s ≡ y ∷ take places t
    split Less is rest =
        let lt : x < y = prefix_by x y Less (sym is) in
        let less = prefix_number-lt places (d * 256 + x) (d * 256 + y) s t s_rest (omega arith) in absurd (omega (arith, less, same))
    split Equal is rest =
        let first : x ≡ y = prefix_by x y Equal (sym is) in
        ap (λ z. z ∷ take places s) first ∙ ap (λ l. y ∷ l) (rest x (same ∙ ap (λ z. prefix_number places (d * 256 + z) t) (sym first)))
    split Greater is rest =
        let lt : y < x = prefix_by x y Greater (sym is) in
        let less = prefix_number-lt places (d * 256 + y) (d * 256 + x) t s t_rest (omega arith) in absurd (omega (arith, less, same))

-- values with the same first prefix begin with the same 14 bytes, if they begin with a text
pub prefixes_share : (u v : List Value) → BeginsWithBytes u → BeginsWithBytes v → first_prefix u ≡ first_prefix v → take 14 (first_text u) ≡ take 14 (first_text v)
prefixes_share [] [] u_bytes v_bytes same = refl
prefixes_share [] (Int n ∷ v) u_bytes v_bytes same = refl
prefixes_share [] (Text t ∷ v) u_bytes v_bytes same = absurd (omega (arith, same))
prefixes_share (Int m ∷ u) [] u_bytes v_bytes same = refl
prefixes_share (Text s ∷ u) [] u_bytes v_bytes same = absurd (omega (arith, same))
prefixes_share (Int m ∷ u) (Int n ∷ v) u_bytes v_bytes same = refl
prefixes_share (Int (pos m) ∷ u) (Text t ∷ v) u_bytes v_bytes same = absurd (omega (arith, same))
prefixes_share (Int (negsuc m) ∷ u) (Text t ∷ v) u_bytes v_bytes same = absurd (omega (arith, same))
prefixes_share (Text s ∷ u) (Int (pos n) ∷ v) u_bytes v_bytes same = absurd (omega (arith, same))
prefixes_share (Text s ∷ u) (Int (negsuc n) ∷ v) u_bytes v_bytes same = absurd (omega (arith, same))
prefixes_share (Text s ∷ u) (Text t ∷ v) u_bytes v_bytes same =
    prefix_takes 14 0 s t u_bytes v_bytes (omega (arith, same)) (omega (arith, same))

-- ---- the values that are left of keys

pub from_at : (s : SortInputState) (k : SortKey) (row : List Value) (columns : List ℕ) (place column offset : ℕ) → row ≡ (key_row s k).values → columns ≡ columns_on s k.side → place < length columns → column ≡ get_or columns place 0
    → values_from s place offset k ≡ value_after offset (value_at row column) ∷ drop (place + 1) (key_values s k)
from_at s k row columns place column offset row_is columns_is less column_is =
    ap (values_after offset) (compared_at s k row columns place column row_is columns_is less column_is)

-- the same, with the value read from the column at the place
pub from_view : (s : SortInputState) (view : PlaceView) (k : SortKey) (place offset : ℕ) (value : Value) → length s.left_columns ≡ length s.right_columns → place < length s.left_columns → IsViewOf s place view
    → value ≡ value_at (column_on view k.side) k.row → values_from s place offset k ≡ value_after offset value ∷ drop (place + 1) (key_values s k)
from_view s view k place offset value same less is_view value_is =
    from_at s k (key_row s k).values (columns_on s k.side) place (get_or (columns_on s k.side) place 0) offset refl refl (there k.side) refl
    ∙ ap (λ v. value_after offset v ∷ drop (place + 1) (key_values s k))
    (sym (value_is ∙ ap (λ l. value_at l k.row) (is_view k.side) ∙ column_here (rows_on s k.side) (get_or (columns_on s k.side) place 0) k.row))
  where
    there : (of : Side) → place < length (columns_on s of)
    there Left = less
    there Right = omega (arith, less, same)

pub from_past : (s : SortInputState) (k : SortKey) (columns : List ℕ) (place offset : ℕ) → columns ≡ columns_on s k.side → length columns ≤ place → values_from s place offset k ≡ []
from_past s k columns place offset columns_is past =
    ap (values_after offset) (drop_all place (key_values s k) (omega (arith, past, ap length columns_is, length-map (columns_on s k.side) (value_at (key_row s k).values))))

-- the two values at a place decide first, then those after it
pub compared_from : (s : SortInputState) (place offset : ℕ) (a b : SortKey) (x y : Value) (u v : List Value) → values_from s place offset a ≡ x ∷ u → values_from s place offset b ≡ y ∷ v
    → ordering_then (ordering_then (value_cmp x y) (values_cmp u v)) (nat_cmp a.start b.start) ≡ from_cmp s place offset a b
compared_from s place offset a b x y u v a_is b_is =
    ap (λ o. ordering_then o (nat_cmp a.start b.start)) (ap (values_cmp (x ∷ u)) (sym b_is) ∙ ap (λ l. values_cmp l (values_from s place offset b)) (sym a_is))

pub compared_past : (s : SortInputState) (place offset : ℕ) (a b : SortKey) → values_from s place offset a ≡ [] → values_from s place offset b ≡ [] → nat_cmp a.start b.start ≡ from_cmp s place offset a b
compared_past s place offset a b a_is b_is =
    ap (λ o. ordering_then o (nat_cmp a.start b.start)) (ap (values_cmp []) (sym b_is) ∙ ap (λ l. values_cmp l (values_from s place offset b)) (sym a_is))

unlike : (r o t : Ordering) → is_ne r ≡ true → ordering_then (ordering_then r o) t ≡ r
unlike Less o t is = refl
unlike Equal o t is = cc
unlike Greater o t is = refl

-- if they differ, they decide
pub compared_unlike : (s : SortInputState) (place offset : ℕ) (a b : SortKey) (x y : Value) (u v : List Value) → values_from s place offset a ≡ x ∷ u → values_from s place offset b ≡ y ∷ v
    → is_ne (value_cmp x y) ≡ true → value_cmp x y ≡ from_cmp s place offset a b
compared_unlike s place offset a b x y u v a_is b_is differ =
    sym (unlike (value_cmp x y) (values_cmp u v) (nat_cmp a.start b.start) differ) ∙ compared_from s place offset a b x y u v a_is b_is

pub from_cmp_total : (s : SortInputState) (place offset : ℕ) → IsTotalOrder (from_cmp s place offset)
from_cmp_total s place offset = then_total (on_total (values_from s place offset) values_total) (on_total (λ (k : SortKey). k.start) nat_cmp_total)

next_column : (s : SortInputState) (place offset : ℕ) (k : SortKey) → values_from s (place + 1) 0 k ≡ drop 1 (values_from s place offset k)
next_column s place offset k =
    after_none (drop (place + 1) (key_values s k)) ∙ sym (drop-drop 1 place (key_values s k)) ∙ sym (drop_first offset (drop place (key_values s k)))

-- if a prefix determines the first value that is left, the other columns decide
pub exact_next : (s : SortInputState) (place offset : ℕ) (a b : SortKey) → HasNextPrefix s place offset a → HasNextPrefix s place offset b → a.prefix ≡ b.prefix → is_exact a.prefix ≡ true
    → IsSameOrder s place offset (place + 1) 0 a b
exact_next s place offset a b a_is b_is same tells =
    let u = values_from s place offset a in
    let v = values_from s place offset b in
    let decide : values_cmp (drop 1 u) (drop 1 v) ≡ values_cmp u v =
    exact_firsts u v a_is.bytes b_is.bytes (sym a_is.prefix ∙ same ∙ b_is.prefix) (ap is_exact (sym a_is.prefix) ∙ tells) in
    ap (λ w. values_cmp w (values_from s (place + 1) 0 b)) (next_column s place offset a) ∙ ap (values_cmp (drop 1 u)) (next_column s place offset b) ∙ decide

-- if the texts begin with the same bytes, the bytes that follow decide
pub shared_next : (s : SortInputState) (place offset len next : ℕ) (a b : SortKey) → next ≡ offset + len → take len (first_text (values_from s place offset a)) ≡ take len (first_text (values_from s place offset b))
    → IsSameOrder s place offset place next a b
shared_next s place offset len next a b next_is same =
    let later : (k : SortKey) → values_from s place next k ≡ values_after len (values_from s place offset k) =
    λ k. ap (λ n. values_after n (drop place (key_values s k))) next_is ∙ after_more offset len (drop place (key_values s k)) in
    ap (λ w. values_cmp w (values_from s place next b)) (later a)
    ∙ ap (values_cmp (values_after len (values_from s place offset a))) (later b)
    ∙ left_same len (values_from s place offset a) (values_from s place offset b) same

-- then keys are ordered as before too
from_same : (s : SortInputState) (place offset next next_offset : ℕ) (a b : SortKey) → IsSameOrder s place offset next next_offset a b → from_cmp s next next_offset a b ≡ from_cmp s place offset a b
from_same s place offset next next_offset a b same = ap (λ o. ordering_then o (nat_cmp a.start b.start)) same

prefix_decides : (s : SortInputState) (place offset : ℕ) (a b : SortKey) → HasNextPrefix s place offset a → HasNextPrefix s place offset b → a.prefix < b.prefix → from_cmp s place offset a b ≡ Less
prefix_decides s place offset a b a_is b_is lt =
    ap (λ o. ordering_then o (nat_cmp a.start b.start))
    (less_from_prefix (values_from s place offset a) (values_from s place offset b) a_is.bytes b_is.bytes (omega (arith, lt, a_is.prefix, b_is.prefix)))

-- one more text begins with the bytes that the texts so far have in common
pub shared_more : (s : SortInputState) (place offset : ℕ) (keys : List SortKey) (i : ℕ) (e : SortKey) (text : List ℕ) (len less_len : ℕ) → i < length keys → len ≤ length text → less_len ≤ length (take len text)
    → All (λ (k : SortKey). take len (first_text (values_from s place offset k)) ≡ take len text) (take i keys)
    → take less_len (take len text) ≡ take less_len (first_text (values_from s place offset (get_or keys i e)))
    → record {
      within : less_len ≤ length text;
      same : All (λ (k : SortKey). take less_len (first_text (values_from s place offset k)) ≡ take less_len text) (take (i + 1) keys);
    }
shared_more s place offset keys i e text len less_len less within fewer before here =
    let le : less_len ≤ len = omega (arith, fewer, length-take len text) in
    record {
      within = omega (arith, le, within);
      same = All-more (λ (k : SortKey). take less_len (first_text (values_from s place offset k)) ≡ take less_len text) keys i e less
          (All-weaker (λ (k : SortKey). take len (first_text (values_from s place offset k)) ≡ take len text) (λ (k : SortKey). take less_len (first_text (values_from s place offset k)) ≡ take less_len text)
          (λ k same. sym (take-take less_len len (first_text (values_from s place offset k)) le) ∙ ap (take less_len) same ∙ take-take less_len len text le) (take i keys) before)
          (sym here ∙ take-take less_len len text le);
    }

-- ---- all values

pub prefix_first : (s : SortInputState) (k : SortKey) → IsSortKey s k → HasNextPrefix s 0 0 k
prefix_first s k is = record {
  prefix = is.prefix ∙ ap first_prefix (sym (after_none (key_values s k)));
  bytes = subst BeginsWithBytes (sym (after_none (key_values s k))) is.bytes;
}

key_is_from : (s : SortInputState) (a b : SortKey) → IsSortKey s a → IsSortKey s b → key_cmp s a b ≡ from_cmp s 0 0 a b
key_is_from s a b a_is b_is =
    ap (λ o. ordering_then o (nat_cmp a.start b.start))
    (as_values s a b a_is b_is
    ∙ ap (λ w. values_cmp w (key_values s b)) (sym (after_none (key_values s a)))
    ∙ ap (values_cmp (values_after 0 (key_values s a))) (sym (after_none (key_values s b))))

pub key_sorted : (s : SortInputState) (keys : List SortKey) → All (IsSortKey s) keys → IsSorted (from_cmp s 0 0) keys → IsSorted (key_cmp s) keys
key_sorted s keys are sorted k d low high =
    ap is_lt (key_is_from s (get_or keys (k + 1) d) (get_or keys k d) (are (k + 1) d high) (are k d (omega (arith, high)))) ∙ sorted k d low high

-- ---- run starts

-- a property of all keys that does not depend on run starts holds of the same keys with other run starts
pub same_all : (P : SortKey → Type 0) (xs ys : List SortKey) → ((k : SortKey) → P k → P (without_run_start k)) → ((k : SortKey) → P (without_run_start k) → P k) → SameKeys xs ys → All P xs → All P ys
same_all P xs ys to from same all =
    let there : All P (map without_run_start ys) = All-permutation P (map without_run_start xs) (map without_run_start ys) same (All-map P without_run_start xs (λ i d less. to (get_or xs i d) (all i d less))) in
    λ i d less. from (get_or ys i d) (subst P (get_or-map without_run_start ys i d d less) (there i d (omega (arith, less, length-map ys without_run_start))))

pub prefix_all : (s : SortInputState) (place offset : ℕ) (xs ys : List SortKey) → SameKeys xs ys → All (HasNextPrefix s place offset) xs → All (HasNextPrefix s place offset) ys
prefix_all s place offset xs ys = same_all (HasNextPrefix s place offset) xs ys (λ k is. record { prefix = is.prefix; bytes = is.bytes }) (λ k is. record { prefix = is.prefix; bytes = is.bytes })

pub keys_all : (s : SortInputState) (xs ys : List SortKey) → SameKeys xs ys → All (IsSortKey s) xs → All (IsSortKey s) ys
keys_all s xs ys =
    same_all (IsSortKey s) xs ys
    (λ k is. record { stands = is.stands; prefix = is.prefix; bytes = is.bytes; start = is.start })
    (λ k is. record { stands = is.stands; prefix = is.prefix; bytes = is.bytes; start = is.start })

same_length : (xs ys : List SortKey) → SameKeys xs ys → length ys ≡ length xs
same_length xs ys same = sym (length-map ys without_run_start) ∙ length_permutation (map without_run_start xs) (map without_run_start ys) same ∙ length-map xs without_run_start

held_without_run_start : (s : SortInputState) (keys : List SortKey) → map (held s) (map without_run_start keys) ≡ map (held s) keys
held_without_run_start s [] = refl
held_without_run_start s (k ∷ keys) = ap (λ l. held s k ∷ l) (held_without_run_start s keys)

-- the same keys stand for the same rows
pub rows_same : (s : SortInputState) (xs ys : List SortKey) → SameKeys xs ys → IsPermutation (map (held s) xs) (map (held s) ys)
rows_same s xs ys same =
    subst (λ l. IsPermutation l (map (held s) ys)) (held_without_run_start s xs)
    (subst (IsPermutation (map (held s) (map without_run_start xs))) (held_without_run_start s ys) (IsPermutation-map (held s) (map without_run_start xs) (map without_run_start ys) same))

-- run starts differ
is_begins : RunStart → Bool
is_begins Unknown = false
is_begins Begins = true
is_begins GoesOn = false

is_unknown : RunStart → Bool
is_unknown Unknown = true
is_unknown Begins = false
is_unknown GoesOn = false

unknown_is : (s : SortInputState) (last k : SortKey) → k.run_start ≡ Unknown → IsRunStart s last k
unknown_is s last k none = (
  λ begins. absurd (let clash : is_unknown Unknown ≡ is_unknown Begins = ap is_unknown (sym none ∙ begins) in cc),
  λ goes. absurd (let clash : is_unknown Unknown ≡ is_unknown GoesOn = ap is_unknown (sym none ∙ goes) in cc),
)

begins_is : (s : SortInputState) (last k : SortKey) → k.run_start ≡ Begins → key_values s last ≢ key_values s k → IsRunStart s last k
begins_is s last k is differ = (λ begins. differ, λ goes. absurd (let clash : is_begins Begins ≡ is_begins GoesOn = ap is_begins (sym is ∙ goes) in cc))

goes_on_is : (s : SortInputState) (last k : SortKey) → key_values s last ≡ key_values s k → IsRunStart s last (goes_on k)
goes_on_is s last k same = (λ begins. absurd (let clash : is_begins GoesOn ≡ is_begins Begins = ap is_begins begins in cc), λ goes. same)

-- if every run start is `Unknown`, none is wrong
pub run_starts_none : (s : SortInputState) (keys : List SortKey) → HaveNoRunStarts keys → HaveRunStarts s keys
run_starts_none s keys none i d less = unknown_is s (get_or keys i d) (get_or keys (i + 1) d) (none (i + 1) d less)

-- run starts stay right when the former prefixes are set again
pub run_start_prefixes : (s : SortInputState) (prefix : ℕ) (keys : List SortKey) → HaveRunStarts s keys → HaveRunStarts s (map (with_prefix prefix) keys)
run_start_prefixes s prefix keys run_starts i d less =
    let above : i + 1 < length keys = omega (arith, less, length-map keys (with_prefix prefix)) in
    let next : get_or (map (with_prefix prefix) keys) (i + 1) d ≡ with_prefix prefix (get_or keys (i + 1) d) = get_or-map (with_prefix prefix) keys (i + 1) d d above in
    let here : get_or (map (with_prefix prefix) keys) i d ≡ with_prefix prefix (get_or keys i d) = get_or-map (with_prefix prefix) keys i d d (omega (arith, above)) in
    exact_same s (with_prefix prefix (get_or keys i d)) (with_prefix prefix (get_or keys (i + 1) d)) (get_or (map (with_prefix prefix) keys) i d) (get_or (map (with_prefix prefix) keys) (i + 1) d) (sym here) (sym next)
    (run_starts i d above)

run_start_at : (xs ys : List SortKey) → map without_run_start xs ≡ map without_run_start ys → (i : ℕ) (d : SortKey) → i < length xs → without_run_start (get_or xs i d) ≡ without_run_start (get_or ys i d)
run_start_at xs ys same i d less =
    let long : length xs ≡ length ys = sym (length-map xs without_run_start) ∙ ap length same ∙ length-map ys without_run_start in
    sym (get_or-map without_run_start xs i d d less) ∙ ap (λ l. get_or l i d) same ∙ get_or-map without_run_start ys i d d (omega (arith, less, long))

-- the order does not depend on run starts
pub run_starts_sorted : (s : SortInputState) (place offset : ℕ) (xs ys : List SortKey) → map without_run_start xs ≡ map without_run_start ys → IsSorted (from_cmp s place offset) xs → IsSorted (from_cmp s place offset) ys
run_starts_sorted s place offset xs ys same sorted k d low high =
    let long : length xs ≡ length ys = sym (length-map xs without_run_start) ∙ ap length same ∙ length-map ys without_run_start in
    let above : k + 1 < length xs = omega (arith, high, long) in
    ap (λ a. is_lt (from_cmp s place offset a (get_or ys k d))) (sym (run_start_at xs ys same (k + 1) d above))
    ∙ ap (λ b. is_lt (from_cmp s place offset (get_or xs (k + 1) d) b)) (sym (run_start_at xs ys same k d (omega (arith, above))))
    ∙ sorted k d low above

-- the first key may have any run start
pub first_run_start : (s : SortInputState) (xs ys : List SortKey) → map without_run_start ys ≡ map without_run_start xs → drop 1 ys ≡ drop 1 xs → HaveRunStarts s xs → HaveRunStarts s ys
first_run_start s xs ys same others run_starts i d less =
    let long : length ys ≡ length xs = sym (length-map ys without_run_start) ∙ ap length same ∙ length-map xs without_run_start in
    let at : 1 + i ≡ i + 1 = omega arith in
    let next : get_or ys (i + 1) d ≡ get_or xs (i + 1) d =
    ap (λ n. get_or ys n d) (sym at) ∙ sym (get_or-drop 1 ys i d) ∙ ap (λ l. get_or l i d) others ∙ get_or-drop 1 xs i d ∙ ap (λ n. get_or xs n d) at in
    let here : key_values s (get_or ys i d) ≡ key_values s (get_or xs i d) = ap (key_values s) (run_start_at ys xs same i d (omega (arith, less))) in
    let tells : IsRunStart s (get_or xs i d) (get_or ys (i + 1) d) = subst (IsRunStart s (get_or xs i d)) (sym next) (run_starts i d (omega (arith, less, long))) in
    (λ begins alike. tells.0 begins (sym here ∙ alike), λ goes. here ∙ tells.1 goes)

-- keys with other prefixes have other values
pub prefixes_differ : (s : SortInputState) (place offset : ℕ) (a b : SortKey) → HasNextPrefix s place offset a → HasNextPrefix s place offset b → a.prefix < b.prefix → key_values s a ≢ key_values s b
prefixes_differ s place offset a b a_is b_is lt same =
    let prefixes : first_prefix (values_from s place offset a) ≡ first_prefix (values_from s place offset b) = ap (λ values. first_prefix (values_after offset (drop place values))) same in
    absurd (omega (arith, lt, a_is.prefix, b_is.prefix, prefixes))

-- two lists with right run starts, one after the other, if the second list's first run start is right after the first
-- list
run_starts_join : (s : SortInputState) (xs ys : List SortKey) → HaveRunStarts s xs → HaveRunStarts s ys
    → ((d : SortKey) → 0 < length xs → 0 < length ys → IsRunStart s (get_or xs (length xs - 1) d) (get_or ys 0 d)) → HaveRunStarts s (xs ++ ys)
run_starts_join s xs ys xs_marks ys_marks seam k d high =
    let wide : k + 1 < length xs + length ys = omega (arith, high, length-append xs ys) in
    let here = get_or (xs ++ ys) k d in
    let next = get_or (xs ++ ys) (k + 1) d in
    elim (cases_lt (k + 1) (length xs)) [
      | inl inside ↦
          exact_same s (get_or xs k d) (get_or xs (k + 1) d) here next (sym (get_or_append_left xs ys d k (omega (arith, inside)))) (sym (get_or_append_left xs ys d (k + 1) inside))
          (xs_marks k d inside)
      | inr past ↦ elim (cases_lt k (length xs)) [
        | inl last ↦
            let end : k ≡ length xs - 1 = omega (arith, past, last) in
            let first : k + 1 - length xs ≡ 0 = omega (arith, last) in
            exact_same s (get_or xs (length xs - 1) d) (get_or ys 0 d) here next
            (ap (λ i. get_or xs i d) (sym end) ∙ sym (get_or_append_left xs ys d k last))
            (ap (λ i. get_or ys i d) (sym first) ∙ sym (get_or-append_right xs ys (length xs) (k + 1) d refl past))
            (seam d (omega (arith, last)) (omega (arith, wide, past)))
        | inr after ↦
            let following : k + 1 - length xs ≡ k - length xs + 1 = omega (arith, after) in
            exact_same s (get_or ys (k - length xs) d) (get_or ys (k - length xs + 1) d) here next
            (sym (get_or-append_right xs ys (length xs) k d refl after))
            (ap (λ i. get_or ys i d) (sym following) ∙ sym (get_or-append_right xs ys (length xs) (k + 1) d refl past))
            (ys_marks (k - length xs) d (omega (arith, after, wide)))
      ]
    ]

-- ---- one order after another

-- the order is still one of the same keys
pub order_same : (s : SortInputState) (place offset next next_offset : ℕ) (xs ys : List SortKey) → SameKeys xs ys → SameOrder s place offset next next_offset xs → SameOrder s place offset next next_offset ys
order_same s place offset next next_offset xs ys moved same =
    let Alike : SortKey → SortKey → Type 0 = IsSameOrder s place offset next next_offset in
    same_all (λ a. All (Alike a) ys) xs ys (λ k is. is) (λ k is. is) moved
    (λ i d less. same_all (Alike (get_or xs i d)) xs ys (λ k is. is) (λ k is. is) moved (same i d less))

-- also when they get other prefixes
pub order_by_prefix : (s : SortInputState) (place offset next next_offset prefix_place prefix_offset : ℕ) (keys : List SortKey) → SameOrder s place offset next next_offset keys
    → SameOrder s place offset next next_offset (map (with_next_prefix s prefix_place prefix_offset) keys)
order_by_prefix s place offset next next_offset prefix_place prefix_offset keys same =
    let Alike : SortKey → SortKey → Type 0 = IsSameOrder s place offset next next_offset in
    let to : SortKey → SortKey = with_next_prefix s prefix_place prefix_offset in
    All-map (λ a. All (Alike a) (map to keys)) to keys (λ i d less. All-map (Alike (to (get_or keys i d))) to keys (same i d less))

-- and an order of part of the keys
pub order_part : (s : SortInputState) (place offset next next_offset start len : ℕ) (keys : List SortKey) → SameOrder s place offset next next_offset keys
    → SameOrder s place offset next next_offset (mid_of start len keys)
order_part s place offset next next_offset start len keys same =
    let Alike : SortKey → SortKey → Type 0 = IsSameOrder s place offset next next_offset in
    All-take (λ a. All (Alike a) (mid_of start len keys)) len (drop start keys)
    (All-drop (λ a. All (Alike a) (mid_of start len keys)) start keys
    (λ i d less. All-take (Alike (get_or keys i d)) len (drop start keys) (All-drop (Alike (get_or keys i d)) start keys (same i d less))))

-- if the later place decides as the earlier one, and this one as all values do, so does the later place
pub order_then : (s : SortInputState) (place offset next next_offset : ℕ) (keys : List SortKey) → SameOrder s 0 0 place offset keys → SameOrder s place offset next next_offset keys → SameOrder s 0 0 next next_offset keys
order_then s place offset next next_offset keys first second i d less j e below = second i d less j e below ∙ first i d less j e below

-- if nothing is left to compare, all values are the same
all_alike : (s : SortInputState) (place offset : ℕ) (keys : List SortKey) → ((of : Side) → length (columns_on s of) ≤ place) → SameOrder s 0 0 place offset keys
    → (i j : ℕ) (d e : SortKey) → i < length keys → j < length keys → key_values s (get_or keys i d) ≡ key_values s (get_or keys j e)
all_alike s place offset keys past same i j d e less below =
    let a = get_or keys i d in
    let b = get_or keys j e in
    let none : values_cmp (values_from s place offset a) (values_from s place offset b) ≡ Equal =
    ap (λ l. values_cmp l (values_from s place offset b)) (from_past s a (columns_on s a.side) place offset refl (past a.side))
    ∙ ap (values_cmp []) (from_past s b (columns_on s b.side) place offset refl (past b.side)) in
    sym (after_none (key_values s a))
    ∙ values_same (values_from s 0 0 a) (values_from s 0 0 b) (sym (same i d less j e below) ∙ none)
    ∙ after_none (key_values s b)

-- so each key continues the run
pub going_on : (s : SortInputState) (place offset : ℕ) (keys : List SortKey) → ((of : Side) → length (columns_on s of) ≤ place) → SameOrder s 0 0 place offset keys → HaveRunStarts s (map goes_on keys)
going_on s place offset keys past same i d less =
    let above : i + 1 < length keys = omega (arith, less, length-map keys goes_on) in
    let below : i < length keys = omega (arith, above) in
    exact_same s (goes_on (get_or keys i d)) (goes_on (get_or keys (i + 1) d)) (get_or (map goes_on keys) i d) (get_or (map goes_on keys) (i + 1) d)
    (sym (get_or-map goes_on keys i d d below)) (sym (get_or-map goes_on keys (i + 1) d d above))
    (goes_on_is s (goes_on (get_or keys i d)) (get_or keys (i + 1) d) (all_alike s place offset keys past same i (i + 1) d d below above))

pub goes_on_without_run_start : (keys : List SortKey) → map without_run_start (map goes_on keys) ≡ map without_run_start keys
goes_on_without_run_start [] = refl
goes_on_without_run_start (k ∷ keys) = ap (λ l. without_run_start k ∷ l) (goes_on_without_run_start keys)

-- ---- order when no value is left

abbrev pub start_cmp : SortKey → SortKey → Ordering
start_cmp a b = nat_cmp a.start b.start

pub start_cmp_total : IsTotalOrder start_cmp
start_cmp_total = on_total (λ (k : SortKey). k.start) nat_cmp_total

-- after the last column, the starts decide
pub start_sorted : (s : SortInputState) (place offset : ℕ) (keys : List SortKey) → ((of : Side) → length (columns_on s of) ≤ place) → IsSorted start_cmp keys → IsSorted (from_cmp s place offset) keys
start_sorted s place offset keys past sorted k d low high =
    let a = get_or keys (k + 1) d in
    let b = get_or keys k d in
    ap is_lt (sym (compared_past s place offset a b (from_past s a (columns_on s a.side) place offset refl (past a.side)) (from_past s b (columns_on s b.side) place offset refl (past b.side)))) ∙ sorted k d low high

-- keys sorted by the values from a later place on, if these order them as before
pub sorted_before : (s : SortInputState) (place offset next next_offset : ℕ) (keys : List SortKey) → SameOrder s place offset next next_offset keys → IsSorted (from_cmp s next next_offset) keys → IsSorted (from_cmp s place offset) keys
sorted_before s place offset next next_offset keys same sorted k d low high =
    ap is_lt (sym (from_same s place offset next next_offset (get_or keys (k + 1) d) (get_or keys k d) (same (k + 1) d high k d (omega (arith, high))))) ∙ sorted k d low high

-- ---- prefixes taken again, and set back

pub prefix_cmp_total : IsTotalOrder prefix_cmp
prefix_cmp_total = on_total (λ (k : SortKey). k.prefix) nat_cmp_total

by_prefix : (r t : Ordering) → is_lt (ordering_then r t) ≡ false → is_lt r ≡ false
by_prefix Less t is = is
by_prefix Equal t is = refl
by_prefix Greater t is = refl

pub prefix_sorted : (keys : List SortKey) → IsSorted prefix_start_cmp keys → IsSorted prefix_cmp keys
prefix_sorted keys sorted k d low high =
    let a = get_or keys (k + 1) d in
    let b = get_or keys k d in
    by_prefix (nat_cmp a.prefix b.prefix) (nat_cmp a.start b.start) (sorted k d low high)

own_prefix : (prefix : ℕ) (k : SortKey) → k.prefix ≡ prefix → with_prefix prefix k ≡ k
own_prefix prefix k same = ap (λ r. with_prefix r k) (sym same)

given_back : (s : SortInputState) (place offset prefix : ℕ) (keys : List SortKey) → All (λ (k : SortKey). k.prefix ≡ prefix) keys → map (with_prefix prefix) (map (with_next_prefix s place offset) keys) ≡ keys
given_back s place offset prefix [] alike = refl
given_back s place offset prefix (k ∷ keys) alike = λ i.
    own_prefix prefix k (All-head (λ (k : SortKey). k.prefix ≡ prefix) k keys alike) i ∷ given_back s place offset prefix keys (All-tail (λ (k : SortKey). k.prefix ≡ prefix) k keys alike) i

without_run_start_prefixes : (prefix : ℕ) (keys : List SortKey) → map (with_prefix prefix) (map without_run_start keys) ≡ map without_run_start (map (with_prefix prefix) keys)
without_run_start_prefixes prefix [] = refl
without_run_start_prefixes prefix (k ∷ keys) = ap (λ l. without_run_start (with_prefix prefix k) ∷ l) (without_run_start_prefixes prefix keys)

module _ (s : SortInputState) (place offset next next_offset prefix : ℕ) (run mid : List SortKey) (moved : SameKeys (map (with_next_prefix s next next_offset) run) mid) where
  pub back_same : All (λ (k : SortKey). k.prefix ≡ prefix) run → SameKeys run (map (with_prefix prefix) mid)
  back_same alike =
      let there = map (with_next_prefix s next next_offset) run in
      subst (λ l. IsPermutation l (map without_run_start (map (with_prefix prefix) mid))) (without_run_start_prefixes prefix there ∙ ap (map without_run_start) (given_back s next next_offset prefix run alike))
      (subst (IsPermutation (map (with_prefix prefix) (map without_run_start there))) (without_run_start_prefixes prefix mid)
      (IsPermutation-map (with_prefix prefix) (map without_run_start there) (map without_run_start mid) moved))

  order_here : SameOrder s place offset next next_offset run → SameOrder s place offset next next_offset mid
  order_here same = order_same s place offset next next_offset (map (with_next_prefix s next next_offset) run) mid moved (order_by_prefix s place offset next next_offset next next_offset run same)

  pub back_sorted : SameOrder s place offset next next_offset run → IsSorted (from_cmp s next next_offset) mid → IsSorted (from_cmp s place offset) (map (with_prefix prefix) mid)
  back_sorted same sorted k d low high =
      let above : k + 1 < length mid = omega (arith, high, length-map mid (with_prefix prefix)) in
      let below : k < length mid = omega (arith, above) in
      ap (λ a. is_lt (from_cmp s place offset a (get_or (map (with_prefix prefix) mid) k d))) (get_or-map (with_prefix prefix) mid (k + 1) d d above)
      ∙ ap (λ b. is_lt (from_cmp s place offset (get_or mid (k + 1) d) b)) (get_or-map (with_prefix prefix) mid k d d below)
      ∙ ap is_lt (sym (from_same s place offset next next_offset (get_or mid (k + 1) d) (get_or mid k d) (order_here same (k + 1) d above k d below)))
      ∙ sorted k d low above

-- a loop over all keys has reached their end
pub map_over_all : (f : SortKey → SortKey) (xs ys : List SortKey) (i : ℕ) → length xs ≤ i → ys ≡ map f (take i xs) ++ drop i xs → ys ≡ map f xs
map_over_all f xs ys i past is =
    is ∙ ap (λ l. map f l ++ drop i xs) (take_all i xs past) ∙ ap (λ l. map f xs ++ l) (drop_all i xs past) ∙ append-nil (map f xs)

-- one more key has its prefix
pub prefix_now : (s : SortInputState) (place offset : ℕ) (xs ys : List SortKey) (i : ℕ) (e : SortKey) (prefix : ℕ) → i < length xs → i < length ys
    → ys ≡ map (with_next_prefix s place offset) (take i xs) ++ drop i xs → All (HasNextPrefix s place offset) (take i ys)
    → prefix ≡ first_prefix (values_from s place offset (get_or ys i e)) → BeginsWithBytes (values_from s place offset (get_or ys i e))
    → record {
      keys : set ys i (with_prefix prefix (get_or ys i e)) ≡ map (with_next_prefix s place offset) (take (i + 1) xs) ++ drop (i + 1) xs;
      prefixes : All (HasNextPrefix s place offset) (take (i + 1) (set ys i (with_prefix prefix (get_or ys i e))));
    }
prefix_now s place offset xs ys i e prefix less short are prefixes prefix_is bytes = record {
  keys =
      ap (λ r. set ys i (with_prefix r (get_or ys i e))) prefix_is
      ∙ map_over_more (with_next_prefix s place offset) xs ys i (get_or ys i e) less are (get_or_default ys i e (get_or ys i e) short);
  prefixes =
      subst (All (HasNextPrefix s place offset)) (sym (take_more_set ys i (with_prefix prefix (get_or ys i e)) short))
      (All-push (HasNextPrefix s place offset) (take i ys) (with_prefix prefix (get_or ys i e)) prefixes (record { prefix = prefix_is; bytes = bytes }));
}

-- ---- lists that are sorted run by run

sorted_join : {X : Type 0} (cmp : X → X → Ordering) (xs ys : List X) → IsSorted cmp xs → IsSorted cmp ys
    → ((d : X) → 0 < length xs → 0 < length ys → is_lt (cmp (get_or ys 0 d) (get_or xs (length xs - 1) d)) ≡ false) → IsSorted cmp (xs ++ ys)
sorted_join cmp xs ys xs_sorted ys_sorted seam k d low high =
    let wide : k + 1 < length xs + length ys = omega (arith, high, length-append xs ys) in
    elim (cases_lt (k + 1) (length xs)) [
      | inl inside ↦
          ap (λ x. is_lt (cmp x (get_or (xs ++ ys) k d))) (get_or_append_left xs ys d (k + 1) inside)
          ∙ ap (λ x. is_lt (cmp (get_or xs (k + 1) d) x)) (get_or_append_left xs ys d k (omega (arith, inside)))
          ∙ xs_sorted k d low inside
      | inr past ↦ elim (cases_lt k (length xs)) [
        | inl last ↦
            ap (λ x. is_lt (cmp x (get_or (xs ++ ys) k d))) (get_or-append_right xs ys (length xs) (k + 1) d refl past ∙ ap (λ i. get_or ys i d) (let first : k + 1 - length xs ≡ 0 = omega (arith, last) in first))
            ∙ ap (λ x. is_lt (cmp (get_or ys 0 d) x)) (get_or_append_left xs ys d k last ∙ ap (λ i. get_or xs i d) (let end : k ≡ length xs - 1 = omega (arith, past, last) in end))
            ∙ seam d (omega (arith, last)) (omega (arith, wide, past))
        | inr after ↦
            ap (λ x. is_lt (cmp x (get_or (xs ++ ys) k d))) (get_or-append_right xs ys (length xs) (k + 1) d refl past ∙ ap (λ i. get_or ys i d) (let next : k + 1 - length xs ≡ k - length xs + 1 = omega (arith, after) in next))
            ∙ ap (λ x. is_lt (cmp (get_or ys (k - length xs + 1) d) x)) (get_or-append_right xs ys (length xs) k d refl after)
            ∙ ys_sorted (k - length xs) d (omega arith) (omega (arith, after, wide))
      ]
    ]

one_prefix : (prefix : ℕ) (xs ys : List SortKey) → All (λ (k : SortKey). k.prefix ≡ prefix) xs → All (λ (k : SortKey). k.prefix ≡ prefix) ys → length xs ≡ length ys → map (λ (k : SortKey). k.prefix) xs ≡ map (λ (k : SortKey). k.prefix) ys
one_prefix prefix [] [] xs_alike ys_alike long = refl
one_prefix prefix [] (y ∷ ys) xs_alike ys_alike long = absurd (omega (arith, long))
one_prefix prefix (x ∷ xs) [] xs_alike ys_alike long = absurd (omega (arith, long))
one_prefix prefix (x ∷ xs) (y ∷ ys) xs_alike ys_alike long =
    let P : SortKey → Type 0 = λ (k : SortKey). k.prefix ≡ prefix in
    let first : x.prefix ≡ y.prefix = All-head P x xs xs_alike ∙ sym (All-head P y ys ys_alike) in
    let rest = one_prefix prefix xs ys (All-tail P x xs xs_alike) (All-tail P y ys ys_alike) (omega (arith, long)) in
    λ i. first i ∷ rest i

prefix_at : (xs ys : List SortKey) → map (λ (k : SortKey). k.prefix) xs ≡ map (λ (k : SortKey). k.prefix) ys → (i : ℕ) (d : SortKey) → i < length xs → (get_or xs i d).prefix ≡ (get_or ys i d).prefix
prefix_at xs ys same i d less =
    let long : length xs ≡ length ys = sym (length-map xs (λ (k : SortKey). k.prefix)) ∙ ap length same ∙ length-map ys (λ (k : SortKey). k.prefix) in
    sym (get_or-map (λ (k : SortKey). k.prefix) xs i d d.prefix less) ∙ ap (λ l. get_or l i d.prefix) same ∙ get_or-map (λ (k : SortKey). k.prefix) ys i d d.prefix (omega (arith, less, long))

rise_still : (xs ys : List SortKey) → map (λ (k : SortKey). k.prefix) xs ≡ map (λ (k : SortKey). k.prefix) ys → IsSorted prefix_cmp xs → IsSorted prefix_cmp ys
rise_still xs ys same sorted k d low high =
    let long : length xs ≡ length ys = sym (length-map xs (λ (k : SortKey). k.prefix)) ∙ ap length same ∙ length-map ys (λ (k : SortKey). k.prefix) in
    let above : k + 1 < length xs = omega (arith, high, long) in
    ap (λ n. is_lt (nat_cmp n (get_or ys k d).prefix)) (sym (prefix_at xs ys same (k + 1) d above))
    ∙ ap (λ n. is_lt (nat_cmp (get_or xs (k + 1) d).prefix n)) (sym (prefix_at xs ys same k d (omega (arith, above))))
    ∙ sorted k d low above

-- a prefix that is not below another, and differs from it, is above it
above_it : (m n : ℕ) → is_lt (nat_cmp n m) ≡ false → n ≢ m → m < n
above_it m n not_below differ = split (nat_cmp n m) refl
  where
    split : (r : Ordering) → nat_cmp n m ≡ r → m < n
    split Less is = absurd (let below : is_lt (nat_cmp n m) ≡ true = ap is_lt is in cc (below, not_below))
    split Equal is = absurd (differ (prefix_by n m Equal (sym is)))
    split Greater is = prefix_by n m Greater (sym is)

-- the first key, if any, gets the run start `Begins`
abbrev pub BeginsRun : List SortKey → Type 0
BeginsRun keys = (d : SortKey) → 0 < length keys → (get_or keys 0 d).run_start ≡ Begins

module _ (start len prefix : ℕ) (keys run : List SortKey) (inside : start + len ≤ length keys) (moved : SameKeys (mid_of start len keys) run) (alike : All (λ (k : SortKey). k.prefix ≡ prefix) (mid_of start len keys)) where
  abbrev joined : List SortKey
  joined = put_mid start len keys run

  run_len : length run ≡ len
  run_len = same_length (mid_of start len keys) run moved ∙ (let long : length (take len (drop start keys)) ≡ len = omega (arith, length-take len (drop start keys), length-drop start keys, inside) in long)

  run_alike : All (λ (k : SortKey). k.prefix ≡ prefix) run
  run_alike = same_all (λ (k : SortKey). k.prefix ≡ prefix) (mid_of start len keys) run (λ k is. is) (λ k is. is) moved alike

  prefixes_same : map (λ (k : SortKey). k.prefix) joined ≡ map (λ (k : SortKey). k.prefix) keys
  prefixes_same =
      let f : SortKey → ℕ = λ (k : SortKey). k.prefix in
      let apart : (l : List SortKey) → map f (put_mid start len keys l) ≡ map f (take start keys) ++ (map f l ++ map f (post_of start len keys)) =
      λ l. map-append f (take start keys) (l ++ post_of start len keys) ∙ ap (λ m. map f (take start keys) ++ m) (map-append f l (post_of start len keys)) in
      apart run
      ∙ ap (λ m. map f (take start keys) ++ (m ++ map f (post_of start len keys))) (one_prefix prefix run (mid_of start len keys) run_alike alike (same_length (mid_of start len keys) run moved))
      ∙ sym (apart (mid_of start len keys))
      ∙ ap (map f) (put_same start len keys)

  pub rise_joined : IsSorted prefix_cmp keys → IsSorted prefix_cmp joined
  rise_joined = rise_still keys joined (sym prefixes_same)

  first_of_run : (d : SortKey) → 0 < len → (get_or keys start d).prefix ≡ prefix
  first_of_run d some =
      ap (λ (k : SortKey). k.prefix) (sym (get_or-take len (drop start keys) 0 d some ∙ get_or-drop start keys 0 d ∙ ap (λ i. get_or keys i d) (let same : start + 0 ≡ start = omega arith in same)))
      ∙ alike 0 d (omega (arith, some, length-take len (drop start keys), length-drop start keys, inside))

  last_of_run : (d : SortKey) → 0 < len → (get_or keys (start + len - 1) d).prefix ≡ prefix
  last_of_run d some =
      let at : start + (len - 1) ≡ start + len - 1 = omega (arith, some) in
      ap (λ (k : SortKey). k.prefix) (sym (get_or-take len (drop start keys) (len - 1) d (omega (arith, some)) ∙ get_or-drop start keys (len - 1) d ∙ ap (λ i. get_or keys i d) at))
      ∙ alike (len - 1) d (omega (arith, some, length-take len (drop start keys), length-drop start keys, inside))

  pub apart_joined : 0 < len → IsSorted prefix_cmp keys → ((d : SortKey) → len < length (drop start keys) → (get_or (drop start keys) len d).prefix ≢ prefix)
      → (d : SortKey) → 0 < start + len → start + len < length joined → (get_or joined (start + len - 1) d).prefix < (get_or joined (start + len) d).prefix
  apart_joined some rise ends d positive short =
      let long : length joined ≡ length keys = sym (length-map joined (λ (k : SortKey). k.prefix)) ∙ ap length prefixes_same ∙ length-map keys (λ (k : SortKey). k.prefix) in
      let differ : (get_or keys (start + len) d).prefix ≢ prefix = λ same. ends d (omega (arith, short, long, length-drop start keys)) (ap (λ (k : SortKey). k.prefix) (get_or-drop start keys len d) ∙ same) in
      let last = last_of_run d some in
      let prior : start + len - 1 + 1 ≡ start + len = omega (arith, some) in
      let no_less : is_lt (nat_cmp (get_or keys (start + len) d).prefix prefix) ≡ false =
      ap (λ n. is_lt (nat_cmp (get_or keys (start + len) d).prefix n)) (sym last)
      ∙ ap (λ i. is_lt (nat_cmp (get_or keys i d).prefix (get_or keys (start + len - 1) d).prefix)) (sym prior)
      ∙ rise (start + len - 1) d (omega arith) (omega (arith, short, long, some)) in
      let above = above_it prefix (get_or keys (start + len) d).prefix no_less differ in
      let here = prefix_at joined keys prefixes_same (start + len - 1) d (omega (arith, short)) in
      let there = prefix_at joined keys prefixes_same (start + len) d short in
      omega (arith, above, here, there, last)

  rest_joined : HaveNoRunStarts (drop start keys) → HaveNoRunStarts (drop (start + len) joined)
  rest_joined rest =
      subst HaveNoRunStarts (drop-drop len start keys ∙ sym (drop-put_mid start len keys run (start + len) (omega arith) (omega (arith, inside)) run_len))
      (All-drop (λ (k : SortKey). k.run_start ≡ Unknown) len (drop start keys) rest)

  module _ (s : SortInputState) (place offset : ℕ) (some : 0 < len) (prefixes : All (HasNextPrefix s place offset) keys)
      (before : (d : SortKey) → 0 < start → start < length keys → (get_or keys (start - 1) d).prefix < (get_or keys start d).prefix) where
    front : length (take start keys) ≡ start
    front = omega (arith, length-take start keys, inside)

    last_before : (d : SortKey) → 0 < length (take start keys) → get_or (take start keys) (length (take start keys) - 1) d ≡ get_or keys (start - 1) d
    last_before d has = ap (λ n. get_or (take start keys) (n - 1) d) front ∙ get_or-take start keys (start - 1) d (omega (arith, has, front))

    before_is : (d : SortKey) → HasNextPrefix s place offset (get_or keys (start - 1) d)
    before_is d = prefixes (start - 1) d (omega (arith, inside, some))

    first_is : (d : SortKey) → 0 < length run → HasNextPrefix s place offset (get_or run 0 d)
    first_is d some_run =
        prefix_all s place offset (mid_of start len keys) run moved (All-take (HasNextPrefix s place offset) len (drop start keys) (All-drop (HasNextPrefix s place offset) start keys prefixes)) 0 d some_run

    lower : (d : SortKey) → 0 < length (take start keys) → 0 < length run → (get_or keys (start - 1) d).prefix < (get_or run 0 d).prefix
    lower d has some_run = omega (arith, before d (omega (arith, has, front)) (omega (arith, inside, some)), first_of_run d some, run_alike 0 d some_run)

    all_before : take start keys ++ run ≡ take (start + len) joined
    all_before = sym (take-put_mid start len keys run (start + len) (ap (λ n. start + n) (sym run_len)) (omega (arith, inside)))

    done_joined : IsSorted (from_cmp s place offset) (take start keys) → IsSorted (from_cmp s place offset) run → IsSorted (from_cmp s place offset) (take (start + len) joined)
    done_joined done sorted =
        subst (IsSorted (from_cmp s place offset)) all_before
        (sorted_join (from_cmp s place offset) (take start keys) run done sorted
        (λ d has some_run.
        let a = get_or keys (start - 1) d in
        let b = get_or run 0 d in
        let less : from_cmp s place offset a b ≡ Less = prefix_decides s place offset a b (before_is d) (first_is d some_run) (lower d has some_run) in
        ap (λ x. is_lt (from_cmp s place offset b x)) (last_before d has) ∙ ap is_lt ((from_cmp_total s place offset).antisymm b a ∙ ap ordering_reverse less)))

    run_starts_joined : HaveRunStarts s (take start keys) → HaveRunStarts s run → BeginsRun run → HaveRunStarts s (take (start + len) joined)
    run_starts_joined done run_starts first =
        subst (HaveRunStarts s) all_before
        (run_starts_join s (take start keys) run done run_starts
        (λ d has some_run. begins_is s (get_or (take start keys) (length (take start keys) - 1) d) (get_or run 0 d) (first d some_run)
        (λ same. prefixes_differ s place offset (get_or keys (start - 1) d) (get_or run 0 d) (before_is d) (first_is d some_run) (lower d has some_run)
        (ap (key_values s) (sym (last_before d has)) ∙ same))))

pub runs_start : (s : SortInputState) (place offset : ℕ) (keys : List SortKey) → IsSorted prefix_cmp keys → HaveNoRunStarts keys → RunsDone s place offset keys 0
runs_start s place offset keys rise none = record {
  within = omega arith;
  rise = rise;
  done = λ k d low high. absurd (omega (arith, high));
  run_starts = λ i d less. absurd (omega (arith, less));
  rest = none;
  apart = λ d positive short. absurd (omega (arith, positive));
}

-- a run that begins with its prefix is not empty
run_some_here : (keys : List SortKey) (start len prefix : ℕ) (e : SortKey) → start < length keys → prefix ≡ (get_or keys start e).prefix
    → ((d : SortKey) → len < length (drop start keys) → (get_or (drop start keys) len d).prefix ≢ prefix) → 0 < len
run_some_here keys start len prefix e less is ends = elim (cases_lt 0 len) [
  | inl some ↦ some
  | inr none ↦
      let at : start + len ≡ start = omega (arith, none) in
      absurd (ends e (omega (arith, none, less, length-drop start keys)) (ap (λ (k : SortKey). k.prefix) (get_or-drop start keys len e ∙ ap (λ i. get_or keys i e) at) ∙ sym is))
]

-- the keys from the place on
rest_is : (keys : List SortKey) (start : ℕ) → take (length keys - start) (drop start keys) ≡ drop start keys
rest_is keys start = take_all (length keys - start) (drop start keys) (omega (arith, length-drop start keys))

abbrev pub Ends : List SortKey → ℕ → ℕ → Type 0
Ends rest len prefix = (d : SortKey) → len < length rest → (get_or rest len d).prefix ≢ prefix

pub run_some : (keys : List SortKey) (start len prefix : ℕ) (e : SortKey) → start < length keys → prefix ≡ (get_or keys start e).prefix
    → Ends (take (length keys - start) (drop start keys)) len prefix → 0 < len
run_some keys start len prefix e less is ends = run_some_here keys start len prefix e less is (subst (λ l. Ends l len prefix) (rest_is keys start) ends)

same_size : (start len : ℕ) → start + len - start ≡ len
same_size start len = omega arith

-- the run as a part of the keys
pub run_part : (keys : List SortKey) (start len : ℕ) → len ≤ length (take (length keys - start) (drop start keys))
    → take len (take (length keys - start) (drop start keys)) ≡ mid_of start (start + len - start) keys
run_part keys start len within =
    ap (take len) (rest_is keys start) ∙ ap (λ m. take m (drop start keys)) (sym (same_size start len))

-- a part holds the same keys as before, and so do all keys together
pub same_put_mid : (start len : ℕ) (keys run : List SortKey) → SameKeys (mid_of start len keys) run → SameKeys keys (put_mid start len keys run)
same_put_mid start len keys run same =
    let front = map without_run_start (take start keys) in
    let end = map without_run_start (post_of start len keys) in
    let apart : (l : List SortKey) → front ++ (map without_run_start l ++ end) ≡ map without_run_start (put_mid start len keys l) =
    λ l. ap (λ m. front ++ m) (sym (map-append without_run_start l (post_of start len keys))) ∙ sym (map-append without_run_start (take start keys) (l ++ post_of start len keys)) in
    subst (λ l. IsPermutation l (map without_run_start (put_mid start len keys run))) (apart (mid_of start len keys) ∙ ap (map without_run_start) (put_same start len keys))
    (subst (IsPermutation (front ++ (map without_run_start (mid_of start len keys) ++ end))) (apart run)
    (IsPermutation-append_right front (map without_run_start (mid_of start len keys) ++ end) (map without_run_start run ++ end)
    (IsPermutation-append_left end (map without_run_start (mid_of start len keys)) (map without_run_start run) same)))

-- one more run is sorted
pub runs_more : (s : SortInputState) (place offset : ℕ) (keys run : List SortKey) (start len prefix : ℕ) (e : SortKey) → RunsDone s place offset keys start → All (HasNextPrefix s place offset) keys
    → start < length keys → prefix ≡ (get_or keys start e).prefix → len ≤ length (take (length keys - start) (drop start keys))
    → All (λ (k : SortKey). k.prefix ≡ prefix) (take len (take (length keys - start) (drop start keys)))
    → Ends (take (length keys - start) (drop start keys)) len prefix
    → SameKeys (mid_of start (start + len - start) keys) run → IsSorted (from_cmp s place offset) run → HaveRunStarts s run → BeginsRun run
    → RunsDone s place offset (put_mid start (start + len - start) keys run) (start + len)
runs_more s place offset keys run start len prefix e before prefixes less is within alike ends moved sorted run_starts first =
    let here : SameKeys (mid_of start len keys) run = subst (λ m. SameKeys (mid_of start m keys) run) (same_size start len) moved in
    let fits : len ≤ length (drop start keys) = subst (λ l. len ≤ length l) (rest_is keys start) within in
    let inside : start + len ≤ length keys = omega (arith, fits, less, length-drop start keys) in
    let stop : Ends (drop start keys) len prefix = subst (λ l. Ends l len prefix) (rest_is keys start) ends in
    let one : All (λ (k : SortKey). k.prefix ≡ prefix) (mid_of start len keys) = subst (λ l. All (λ (k : SortKey). k.prefix ≡ prefix) (take len l)) (rest_is keys start) alike in
    let some : 0 < len = run_some_here keys start len prefix e less is stop in
    let joined_same : SameKeys keys (put_mid start len keys run) = same_put_mid start len keys run here in
    subst (λ m. RunsDone s place offset (put_mid start m keys run) (start + len)) (sym (same_size start len))
    (record {
      within = omega (arith, inside, same_length keys (put_mid start len keys run) joined_same);
      rise = rise_joined start len prefix keys run inside here one before.rise;
      done = done_joined start len prefix keys run inside here one s place offset some prefixes before.apart before.done sorted;
      run_starts = run_starts_joined start len prefix keys run inside here one s place offset some prefixes before.apart before.run_starts run_starts first;
      rest = rest_joined start len prefix keys run inside here one before.rest;
      apart = apart_joined start len prefix keys run inside here one some before.rise stop;
    })

-- when all runs are sorted, all keys are
pub runs_end : (s : SortInputState) (place offset : ℕ) (keys : List SortKey) (start : ℕ) → RunsDone s place offset keys start → length keys ≤ start → IsSorted (from_cmp s place offset) keys
runs_end s place offset keys start before past = subst (IsSorted (from_cmp s place offset)) (take_all start keys past) before.done

pub runs_have_starts : (s : SortInputState) (place offset : ℕ) (keys : List SortKey) (start : ℕ) → RunsDone s place offset keys start → length keys ≤ start → HaveRunStarts s keys
runs_have_starts s place offset keys start before past = subst (HaveRunStarts s) (take_all start keys past) before.run_starts
