-- Rows that store only some columns.
use Rattle.std.proofs.Common.{◌≡◌, ◌<◌, ◌+◌, ◌*◌, zero, suc, ℕ, pos, List, [], ◌∷◌, ◌++◌, length, map, take, drop, get_or, refl, sym, ap, ◌∙◌, append_assoc, length-append, subst, arith}
use Rattle.std.specs.Prelude.{All}
use Rattle.std.proofs.Math.Seq.{drop-cons}
use Rattle.std.proofs.lemmas.List.{drop-drop, get_or-drop, get_or-map, get_or-take, length-map, length-take-le, map-append, take_more}
use Rattle.std.proofs.lemmas.List.Elements.{All-map}
use Rattle.tq_base.specs.declared.value.Value.{Value}
use Rattle.tq_base.specs.declared.fragment.Fragment.{Fragment}
use Rattle.tq_base.specs.declared.period.Period.{Period}
use Rattle.tq_base.specs.declared.rows.Slot.{Slot}
use Rattle.tq_base.specs.declared.rows.Slot.TheVariants.{Stored, Zero, Empty}
use Rattle.tq_base.specs.Contents.{Int, Text}
use Rattle.tq_base.specs.RowValues.{value_at}
use Rattle.tq_base.specs.RowLists.{RowList}
use Rattle.tq_base.specs.Slots.{kept_of, row_of_stored, values_of_stored, width_of_slots, slot_value, AreLeftOut, AreNumbered, AreSlots, IsLeftOut, IsText}

-- rows that store all columns are seen as stored
all_kept : (rows : List Fragment) → map (row_of_stored []) rows ≡ rows
all_kept [] = refl
all_kept (row ∷ rows) = λ i. row ∷ all_kept rows i

pub whole_list : (list : RowList) → record { width = width_of_slots [] list.width; items = map (row_of_stored []) list.items } ≡ list
whole_list list = λ i. record { width = list.width; items = all_kept list.items i }

-- rows without slots are seen as stored
pub seen_dense : (slots : List Slot) (dense list : RowList) → slots ≡ [] → record { width = width_of_slots slots dense.width; items = map (row_of_stored slots) dense.items } ≡ list → dense ≡ list
seen_dense slots dense list none is =
    sym (whole_list dense) ∙ ap (λ (s : List Slot). let seen : RowList = record { width = width_of_slots s dense.width; items = map (row_of_stored s) dense.items } in seen) (sym none) ∙ is

-- each row keeps its period
pub periods_seen : (slots : List Slot) (rows : List Fragment) → map (λ (row : Fragment). row.period) (map (row_of_stored slots) rows) ≡ map (λ (row : Fragment). row.period) rows
periods_seen slots [] = refl
periods_seen slots (row ∷ rows) = λ i. row.period ∷ periods_seen slots rows i

-- each row has a value for each slot
pub widths_seen : (slots : List Slot) (width : ℕ) (rows : List Fragment) → All (λ (row : Fragment). length row.values ≡ width) rows → All (λ (row : Fragment). length row.values ≡ width_of_slots slots width) (map (row_of_stored slots) rows)
widths_seen [] width rows wide = All-map (λ (row : Fragment). length row.values ≡ width) (row_of_stored []) rows wide
widths_seen (slot ∷ slots) width rows wide =
    All-map (λ (row : Fragment). length row.values ≡ length (slot ∷ slots)) (row_of_stored (slot ∷ slots)) rows (λ k d less. length-map (slot ∷ slots) (slot_value (get_or rows k d).values))

-- if some columns are left out, the values are those of the slots
pub seen_slots : (slots : List Slot) (kept : List Value) → (slots ≡ [] → ⊥) → values_of_stored slots kept ≡ map (slot_value kept) slots
seen_slots [] kept some = absurd (some refl)
seen_slots (slot ∷ slots) kept some = refl

-- and there is one for each slot
pub width_slots : (slots : List Slot) (kept : ℕ) → (slots ≡ [] → ⊥) → width_of_slots slots kept ≡ length slots
width_slots [] kept some = absurd (some refl)
width_slots (slot ∷ slots) kept some = refl

-- what holds of such slots
pub numbered_slots : (slots : List Slot) (kept : ℕ) (texts : List Value) → (slots ≡ [] → ⊥) → AreSlots slots kept texts → AreNumbered 0 slots kept
numbered_slots [] kept texts some are = absurd (some refl)
numbered_slots (slot ∷ slots) kept texts some are = are.0

pub text_slots : (slots : List Slot) (kept : ℕ) (texts : List Value) → (slots ≡ [] → ⊥) → AreSlots slots kept texts → texts ≡ Text [] ∷ []
text_slots [] kept texts some are = absurd (some refl)
text_slots (slot ∷ slots) kept texts some are = are.1

pub width_numbered : (slots : List Slot) (kept : ℕ) → AreNumbered 0 slots kept → width_of_slots slots kept ≡ length slots
unfolding AreNumbered
width_numbered [] kept numbered = sym numbered
width_numbered (slot ∷ slots) kept numbered = refl

-- the empty text is available, whichever slot needs it
pub text_ready : (slot : Slot) (texts : List Value) → texts ≡ Text [] ∷ [] → IsText slot texts
text_ready (Stored place) texts text = tt
text_ready Zero texts text = tt
text_ready Empty texts text = text

-- the value of a column in a row, by its slot
pub cell_seen : (slots : List Slot) (rows : List Fragment) (k column : ℕ) (slot : Slot) (d e : Fragment) → k < length (map (row_of_stored slots) rows)
    → ((values : List Value) → slot_value values slot ≡ value_at (values_of_stored slots values) column)
    → value_at (get_or (map (row_of_stored slots) rows) k d).values column ≡ slot_value (get_or rows k e).values slot
cell_seen slots rows k column slot d e less told =
    ap (λ (row : Fragment). value_at row.values column) (get_or-map (row_of_stored slots) rows k e d (omega (arith, less, length-map rows (row_of_stored slots))))
    ∙ sym (told (get_or rows k e).values)

-- the same for rows as contracts see them
pub cell_of : (slots : List Slot) (width : ℕ) (rows : List Fragment) (list : RowList) (k column : ℕ) (slot : Slot) (d e : Fragment) → record { width = width_of_slots slots width; items = map (row_of_stored slots) rows } ≡ list → k < length list.items
    → ((values : List Value) → slot_value values slot ≡ value_at (values_of_stored slots values) column)
    → value_at (get_or list.items k d).values column ≡ slot_value (get_or rows k e).values slot
cell_of slots width rows list k column slot d e seen less told =
    ap (λ (v : RowList). value_at (get_or v.items k d).values column) (sym seen)
    ∙ cell_seen slots rows k column slot d e (omega (arith, less, ap (λ (v : RowList). length v.items) seen)) told

-- the values of a row as contracts see it
pub row_seen : (slots : List Slot) (width : ℕ) (rows : List Fragment) (list : RowList) (k : ℕ) (d e : Fragment) → record { width = width_of_slots slots width; items = map (row_of_stored slots) rows } ≡ list → k < length list.items
    → values_of_stored slots (get_or rows k e).values ≡ (get_or list.items k d).values
row_seen slots width rows list k d e seen less =
    sym (ap (λ (v : RowList). (get_or v.items k d).values) (sym seen)
    ∙ ap (λ (row : Fragment). row.values) (get_or-map (row_of_stored slots) rows k e d (omega (arith, less, ap (λ (v : RowList). length v.items) seen, length-map rows (row_of_stored slots)))))

-- a copy of a row, after others that store the same columns, is seen as the row
pub copied_seen : (slots others : List Slot) (width wide : ℕ) (before after rows : List Fragment) (list from : RowList) (k : ℕ) (values : List Value) (period : Period) (d e : Fragment) → slots ≡ others
    → record { width = width_of_slots slots width; items = map (row_of_stored slots) before } ≡ list → record { width = width_of_slots others wide; items = map (row_of_stored others) rows } ≡ from → k < length from.items
    → values ≡ (get_or rows k e).values → period ≡ (get_or rows k e).period → after ≡ before ++ record { values = values; period = period } ∷ [] → map (row_of_stored slots) after ≡ list.items ++ get_or from.items k d ∷ []
copied_seen slots others width wide before after rows list from k values period d e alike seen is less here during put =
    let of_row : record { values = values; period = period } ≡ get_or rows k e = λ i. record { values = here i; period = during i } in
    let same : row_of_stored slots (get_or rows k e) ≡ get_or from.items k d =
    (λ i. row_of_stored (alike i) (get_or rows k e))
    ∙ sym (get_or-map (row_of_stored others) rows k e d (omega (arith, less, ap (λ (v : RowList). length v.items) is, length-map rows (row_of_stored others))))
    ∙ ap (λ (v : RowList). get_or v.items k d) is in
    ap (map (row_of_stored slots)) (put ∙ ap (λ (row : Fragment). before ++ row ∷ []) of_row)
    ∙ map-append (row_of_stored slots) before (get_or rows k e ∷ [])
    ∙ (λ i. map (row_of_stored slots) before ++ same i ∷ [])
    ∙ ap (λ (v : RowList). v.items ++ get_or from.items k d ∷ []) seen

-- the number of rows is the same
pub count_seen : (slots : List Slot) (width : ℕ) (rows : List Fragment) (list : RowList) → record { width = width_of_slots slots width; items = map (row_of_stored slots) rows } ≡ list → length list.items ≡ length rows
count_seen slots width rows list seen = ap (λ (v : RowList). length v.items) (sym seen) ∙ length-map rows (row_of_stored slots)

-- rows after others that store the same columns
pub joined_seen : (slots others : List Slot) (rows more all : List Fragment) → ((kept : List Value) → values_of_stored slots kept ≡ values_of_stored others kept) → all ≡ rows ++ more
    → map (row_of_stored slots) all ≡ map (row_of_stored slots) rows ++ map (row_of_stored others) more
joined_seen slots others rows more all alike joined =
    ap (map (row_of_stored slots)) joined
    ∙ map-append (row_of_stored slots) rows more
    ∙ (λ i. map (row_of_stored slots) rows ++ map (λ (row : Fragment). record { values = alike row.values i; period = row.period }) more)

-- ---- slots that are numbered

pub numbered-kept : (first : ℕ) (slots : List Slot) (end : ℕ) → AreNumbered first slots end → AreNumbered first (slots ++ Stored end ∷ []) (end + 1)
unfolding AreNumbered
numbered-kept first [] end are = (sym are, ap (λ n. n + 1) are)
numbered-kept first (Stored place ∷ slots) end are = (are.0, numbered-kept (first + 1) slots end are.1)
numbered-kept first (Zero ∷ slots) end are = numbered-kept first slots end are
numbered-kept first (Empty ∷ slots) end are = numbered-kept first slots end are

pub numbered-zero : (first : ℕ) (slots : List Slot) (end : ℕ) → AreNumbered first slots end → AreNumbered first (slots ++ Zero ∷ []) end
unfolding AreNumbered
numbered-zero first [] end are = are
numbered-zero first (Stored place ∷ slots) end are = (are.0, numbered-zero (first + 1) slots end are.1)
numbered-zero first (Zero ∷ slots) end are = numbered-zero first slots end are
numbered-zero first (Empty ∷ slots) end are = numbered-zero first slots end are

pub numbered-empty : (first : ℕ) (slots : List Slot) (end : ℕ) → AreNumbered first slots end → AreNumbered first (slots ++ Empty ∷ []) end
unfolding AreNumbered
numbered-empty first [] end are = are
numbered-empty first (Stored place ∷ slots) end are = (are.0, numbered-empty (first + 1) slots end are.1)
numbered-empty first (Zero ∷ slots) end are = numbered-empty first slots end are
numbered-empty first (Empty ∷ slots) end are = numbered-empty first slots end are

-- no slot is numbered yet
pub numbered-none : AreNumbered 0 [] 0
unfolding AreNumbered
numbered-none = refl

-- ---- values that are left out

pub left_out_none : (row : List Value) → AreLeftOut [] row
unfolding AreLeftOut
left_out_none row = tt

pub left_out_more : (slots : List Slot) (row : List Value) (k : ℕ) (slot : Slot) (value : Value) → k < length slots → k < length row → slot ≡ get_or slots k slot → value ≡ get_or row k value → IsLeftOut slot value → AreLeftOut (take k slots) (take k row) → AreLeftOut (take (k + 1) slots) (take (k + 1) row)
unfolding AreLeftOut
left_out_more [] row k slot value less within is here one all = absurd (omega (arith, less))
left_out_more (s ∷ slots) [] k slot value less within is here one all = absurd (omega (arith, within))
left_out_more (s ∷ slots) (v ∷ row) zero slot value less within is here one all = (subst (λ (x : Slot). IsLeftOut x v) is (subst (IsLeftOut slot) here one), tt)
left_out_more (s ∷ slots) (v ∷ row) (suc k) slot value less within is here one all =
    let next : suc k + 1 ≡ suc (k + 1) = omega arith in
    subst (λ n. AreLeftOut (take n (s ∷ slots)) (take n (v ∷ row))) (sym next)
    (all.0, left_out_more slots row k slot value (omega (arith, less)) (omega (arith, within)) is here one all.1)

-- ---- values that are stored

first_behind : (before : List Value) (v : Value) (after : List Value) → value_at (before ++ v ∷ after) (length before) ≡ v
first_behind [] v after = refl
first_behind (w ∷ before) v after = first_behind before v after

-- a row has one stored value for each numbered slot
pub length-kept_of : (first : ℕ) (slots : List Slot) (row : List Value) (end : ℕ) → length row ≡ length slots → AreNumbered first slots end → first + length (kept_of slots row) ≡ end
unfolding kept_of AreNumbered
length-kept_of first [] [] end wide are = omega (arith, are)
length-kept_of first [] (v ∷ row) end wide are = absurd (omega (arith, wide))
length-kept_of first (slot ∷ slots) [] end wide are = absurd (omega (arith, wide))
length-kept_of first (Stored place ∷ slots) (v ∷ row) end wide are = omega (arith, length-kept_of (first + 1) slots row end (omega (arith, wide)) are.1)
length-kept_of first (Zero ∷ slots) (v ∷ row) end wide are = length-kept_of first slots row end (omega (arith, wide)) are
length-kept_of first (Empty ∷ slots) (v ∷ row) end wide are = length-kept_of first slots row end (omega (arith, wide)) are

-- a row is seen as it was, after its values were stored after others
seen_behind : (before : List Value) (slots : List Slot) (row : List Value) (end : ℕ) → length row ≡ length slots → AreNumbered (length before) slots end → AreLeftOut slots row
    → map (slot_value (before ++ kept_of slots row)) slots ≡ row
unfolding kept_of AreNumbered AreLeftOut
seen_behind before [] [] end wide are out = refl
seen_behind before [] (v ∷ row) end wide are out = absurd (omega (arith, wide))
seen_behind before (slot ∷ slots) [] end wide are out = absurd (omega (arith, wide))
seen_behind before (Stored place ∷ slots) (v ∷ row) end wide are out =
    let more : length (before ++ v ∷ []) ≡ length before + 1 = length-append before (v ∷ []) in
    let numbered : AreNumbered (length (before ++ v ∷ [])) slots end = subst (λ n. AreNumbered n slots end) (sym more) are.1 in
    let moved : (before ++ v ∷ []) ++ kept_of slots row ≡ before ++ v ∷ kept_of slots row = append_assoc before (v ∷ []) (kept_of slots row) in
    let rest : map (slot_value (before ++ v ∷ kept_of slots row)) slots ≡ row = ap (λ l. map (slot_value l) slots) (sym moved) ∙ seen_behind (before ++ v ∷ []) slots row end (omega (arith, wide)) numbered out.1 in
    let here : value_at (before ++ v ∷ kept_of slots row) place ≡ v = ap (value_at (before ++ v ∷ kept_of slots row)) are.0 ∙ first_behind before v (kept_of slots row) in
    λ i. here i ∷ rest i
seen_behind before (Zero ∷ slots) (v ∷ row) end wide are out = λ i. sym out.0 i ∷ seen_behind before slots row end (omega (arith, wide)) are out.1 i
seen_behind before (Empty ∷ slots) (v ∷ row) end wide are out = λ i. sym out.0 i ∷ seen_behind before slots row end (omega (arith, wide)) are out.1 i

seen_again : (slots : List Slot) (row : List Value) (end : ℕ) → length row ≡ length slots → AreNumbered 0 slots end → AreLeftOut slots row → map (slot_value (kept_of slots row)) slots ≡ row
seen_again slots row end wide are out = seen_behind [] slots row end wide are out

-- one slot more
kept-append : (slots more : List Slot) (row rest : List Value) → length row ≡ length slots → kept_of (slots ++ more) (row ++ rest) ≡ kept_of slots row ++ kept_of more rest
unfolding kept_of
kept-append [] more [] rest wide = refl
kept-append [] more (v ∷ row) rest wide = absurd (omega (arith, wide))
kept-append (slot ∷ slots) more [] rest wide = absurd (omega (arith, wide))
kept-append (Stored place ∷ slots) more (v ∷ row) rest wide = ap (λ l. v ∷ l) (kept-append slots more row rest (omega (arith, wide)))
kept-append (Zero ∷ slots) more (v ∷ row) rest wide = kept-append slots more row rest (omega (arith, wide))
kept-append (Empty ∷ slots) more (v ∷ row) rest wide = kept-append slots more row rest (omega (arith, wide))

-- one more slot was handled
pub kept_more : (slots : List Slot) (row : List Value) (k : ℕ) (slot : Slot) (value : Value) → length row ≡ length slots → k < length slots → slot ≡ get_or slots k slot → value ≡ get_or row k value
    → kept_of (take (k + 1) slots) (take (k + 1) row) ≡ kept_of (take k slots) (take k row) ++ kept_of (slot ∷ []) (value ∷ [])
kept_more slots row k slot value wide less is here =
    let slots_more : take (k + 1) slots ≡ take k slots ++ slot ∷ [] = take_more slots k slot less ∙ ap (λ s. take k slots ++ s ∷ []) (sym is) in
    let row_more : take (k + 1) row ≡ take k row ++ value ∷ [] = take_more row k value (omega (arith, less, wide)) ∙ ap (λ v. take k row ++ v ∷ []) (sym here) in
    (λ i. kept_of (slots_more i) (row_more i))
    ∙ kept-append (take k slots) (slot ∷ []) (take k row) (value ∷ []) (length-take-le k row (omega (arith, less, wide)) ∙ sym (length-take-le k slots (omega (arith, less))))

pub kept_left : (slots : List Slot) (row : List Value) (k : ℕ) (slot : Slot) (value : Value) → length row ≡ length slots → k < length slots → slot ≡ get_or slots k slot → value ≡ get_or row k value
    → kept_of (drop k slots) (drop k row) ≡ kept_of (slot ∷ []) (value ∷ []) ++ kept_of (drop (k + 1) slots) (drop (k + 1) row)
kept_left slots row k slot value wide less is here =
    let next : suc k ≡ k + 1 = omega arith in
    let slots_left : drop k slots ≡ slot ∷ drop (k + 1) slots = drop-cons slots k slot less ∙ (λ i. sym is i ∷ drop (next i) slots) in
    let row_left : drop k row ≡ value ∷ drop (k + 1) row = drop-cons row k value (omega (arith, less, wide)) ∙ (λ i. sym here i ∷ drop (next i) row) in
    (λ i. kept_of (slots_left i) (row_left i)) ∙ kept-append (slot ∷ []) (drop (k + 1) slots) (value ∷ []) (drop (k + 1) row) refl

-- a value whose slot stores nothing is not among the stored ones
pub none_kept : (slot : Slot) (value : Value) → ((place : ℕ) → slot ≡ Stored place → ⊥) → kept_of (slot ∷ []) (value ∷ []) ≡ []
unfolding kept_of
none_kept (Stored place) value none = absurd (none place refl)
none_kept Zero value none = refl
none_kept Empty value none = refl

-- what is stored of two rows, from one place further on
pub left_next : (row other : List Value) (k : ℕ) → drop k row ≡ drop k other → drop (k + 1) row ≡ drop (k + 1) other
left_next row other k same = sym (drop-drop 1 k row) ∙ ap (drop 1) same ∙ drop-drop 1 k other

-- and its first value is the same
pub left_first : (row other : List Value) (k : ℕ) (d : Value) → drop k row ≡ drop k other → get_or row k d ≡ get_or other k d
left_first row other k d same =
    let here : k + 0 ≡ k = omega arith in
    ap (λ n. get_or row n d) (sym here) ∙ sym (get_or-drop k row 0 d) ∙ ap (λ l. get_or l 0 d) same ∙ get_or-drop k other 0 d ∙ ap (λ n. get_or other n d) here

-- a row that is pushed is seen as it was
pub pushed_seen : (slots : List Slot) (width : ℕ) (rows all : List Fragment) (list : RowList) (row : List Value) (period : Period) → (slots ≡ [] → ⊥)
    → record { width = width_of_slots slots width; items = map (row_of_stored slots) rows } ≡ list → length row ≡ list.width → AreNumbered 0 slots width → AreLeftOut slots row
    → all ≡ rows ++ record { values = kept_of slots row; period = period } ∷ [] → map (row_of_stored slots) all ≡ list.items ++ record { values = row; period = period } ∷ []
pushed_seen slots width rows all list row period some seen wide numbered out pushed =
    let many : length row ≡ length slots = wide ∙ ap (λ (v : RowList). v.width) (sym seen) ∙ width_slots slots width some in
    let again : values_of_stored slots (kept_of slots row) ≡ row = seen_slots slots (kept_of slots row) some ∙ seen_again slots row width many numbered out in
    ap (map (row_of_stored slots)) pushed
    ∙ map-append (row_of_stored slots) rows (record { values = kept_of slots row; period = period } ∷ [])
    ∙ (λ i. map (row_of_stored slots) rows ++ record { values = again i; period = period } ∷ [])
    ∙ ap (λ (v : RowList). v.items ++ record { values = row; period = period } ∷ []) seen

-- a value is this many places after the first value of its row
pub value_among : (items : List Fragment) (values : List Value) (width place k : ℕ) (d : Fragment) → k < length items → place < width
    → ((n : ℕ) (e : Fragment) → n < length items → (get_or items n e).values ≡ take width (drop (n * width) values))
    → value_at (get_or items k d).values place ≡ value_at values (k * width + place)
value_among items values width place k d less inside rows =
    ap (λ l. value_at l place) (rows k d less)
    ∙ get_or-take width (drop (k * width) values) place (Int (pos 0)) inside
    ∙ get_or-drop (k * width) values place (Int (pos 0))
