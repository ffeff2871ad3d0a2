-- What an import writes loads.
use Rattle.std.proofs.Common.{◌≡◌, ◌≢◌, ◌∙◌, ◌≤◌, ◌<◌, ◌+◌, ◌-◌, ◌^◌, ◌==◌, ◌⊎◌, ℕ, suc, Bool, true, false, List, [], ◌∷◌, ◌++◌, length, map, take, drop, get_or, slice_get, Option, Some, None, Result, Ok, Err, ap, append_assoc, append-nil, arith, codes, decimal, inl, inr, length-append, nat_le, nat_lt, refl, subst, sum_by, sym, w64, FitsSigned}
use Rattle.std.specs.Prelude.{◌&&◌, All, AllPairs, IfSome, ℤ, pos, negsuc, neg_ℤ, if◌then◌else◌, not, nat_eq, option_map, unwrap_or}
use Rattle.std.specs.Char.{is_ascii_digit, is_ascii_uppercase, to_ascii_lowercase}
use Rattle.std.specs.Fmt.{signed_decimal}
use Rattle.std.specs.List.{after_first, before_first, list_all, prefix_len}
use Rattle.std.specs.Option.{option_and_then}
use Rattle.std.specs.Str.{bytes_eq, is_utf8, str_eq_ignore_ascii_case}
use Rattle.std.specs.Str.Parse.{AllDigits, digits_value}
use Rattle.std.proofs.Math.Seq.{drop-append-add, drop-append_seam, take-append_seam}
use Rattle.std.proofs.lemmas.Bool.{and_left, and_parts, eq-eqb, eqb-true, false_from_ne_true, le-leb, lt-ltb, ltb-true}
use Rattle.std.proofs.lemmas.Bool.Decides.{nat_tests}
use Rattle.std.proofs.lemmas.Fmt.{decimal_is_IsNumeral}
use Rattle.std.proofs.lemmas.List.{length-map}
use Rattle.std.proofs.lemmas.List.Elements.{All-cons, All-head, All-tail}
use Rattle.std.proofs.lemmas.List.Sums.{sum_by-append, sum_by-cons}
use Rattle.std.proofs.lemmas.Slice.Eq.{bytes_eq-Decides}
use Rattle.std.proofs.lemmas.Str.Parse.{digit_from_value}
use Rattle.tq_base.specs.declared.catalogue.Column.{Column}
use Rattle.tq_base.specs.declared.catalogue.Kind.TheVariants as kind
use Rattle.tq_base.specs.declared.form.Form.{Form}
use Rattle.tq_base.specs.declared.form.Form.TheVariants.{Dates, Numbers}
use Rattle.tq_base.specs.declared.period.TheConstants.{FOREVER}
use Rattle.tq_base.specs.declared.value.Value.{Value}
use Rattle.tq_base.specs.Contents.{Int, Text as TextValue}
use Rattle.tq_base.specs.Dates.{date_in, day_of, is_date_text}
use Rattle.tq_base.specs.Names.{folded, folded_name, has_name_form, is_name, is_name_byte, is_name_start, is_reserved}
use Rattle.tq_base.specs.Numbers.{bound_of, instant_of, instant_text, int_of, natural_up_to}
use Rattle.tq_base.specs.Results.{and_then}
use Rattle.tq_base.specs.Sweep.{pairs_tail}
use Rattle.tq_base.proofs.DateLemmas.{natural_some, spelled_is}
use Rattle.tq_base.proofs.DateTextLemmas.{dates_told, digit_bounds}
use Rattle.tq_base.proofs.NameLemmas.{shown-folded}
use Rattle.tq_table.specs.Text.{bound_field}
use Rattle.tq_event.specs.Entries.{Entry}
use Rattle.tq_event.specs.Laws.{IsFoldedName}
use Rattle.tq_event.specs.Loading.{begins_with_bom, column_of, columns_after, entries_after, entry_of, event_count, has_column, has_two_boms, header_of, is_text, number_value, period_fields, period_of, value_fields, value_of}
use Rattle.tq_event.specs.Loading.{values_after as load_values}
use Rattle.tq_event.proofs.LoadLemmas.{add_ok, columns_first, next_ok, read_ok}
use Rattle.tq_event.proofs.LoadedLemmas.{passed}
use Rattle.tq_import.specs.declared.fault.RecordFault.{RecordFault}
use Rattle.tq_import.specs.declared.fault.RecordFaultKind.{RecordFaultKind}
use Rattle.tq_import.specs.declared.fault.RecordFaultKind.TheVariants.{BadFrom, BadTo, EmptyPeriod, FieldCount, NotUtf8, TextTooLong}
use Rattle.tq_import.specs.declared.plan.Conversion.{Conversion}
use Rattle.tq_import.specs.declared.plan.Conversion.TheVariants.{Number, Text}
use Rattle.tq_import.specs.declared.plan.NumberFormat.{NumberFormat}
use Rattle.tq_import.specs.declared.plan.PlannedColumn.{PlannedColumn}
use Rattle.tq_import.specs.declared.plan.Plan.{Plan}
use Rattle.tq_import.specs.declared.plan.TimeFormat.{TimeFormat}
use Rattle.tq_import.specs.Amounts.{units_in}
use Rattle.tq_import.specs.Dates.{without_midnight}
use Rattle.tq_import.specs.Imports.{at_number, column_field, kind_word, number_header, table_header}
use Rattle.tq_import.specs.Loads.{ImportedFilesLoad, ImportsLoad, imported_records}
use Rattle.tq_import.specs.Records.{at_place, convert, field_of, import_record, known, number_field, ordered, period_in, period_texts, row_number, values_after}
use Rattle.tq_import.specs.Tables.{AreTableColumns, columns_with, entries_in, entry_in, number_in, table_column, table_columns, table_kind, value_in, values_in}
use Rattle.tq_import.specs.declared.plan.TimeUnit.{TimeUnit}
use Rattle.tq_import.specs.declared.plan.TimeUnit.TheVariants.{Day, Second}
use Rattle.tq_import.specs.Times.{after_last, bound_in, end_of, form_in, form_of, instant_in, is_open, last_instant, written_in}
use Rattle.tq_import.proofs.ClockLemmas.{day_within, second_within}
use Rattle.tq_import.proofs.AmountLemmas.{units_fit}
use Rattle.tq_import.proofs.ReadBackLemmas.{Plain, plain_text, read_back_of}

-- ---- numbers

numeral_all : (ds : List ℕ) → AllDigits 10 ds → list_all is_ascii_digit ds ≡ true
numeral_all [] d = refl
numeral_all (c ∷ cs) d =
    let digit = digit_from_value c d.0 in
    let here : is_ascii_digit c ≡ true = grind (arith, nat_tests) in
    rw (here, numeral_all cs d.1) refl

natural_back : (limit n : ℕ) → n < 2 ^ 64 → n ≤ limit → natural_up_to limit (decimal n) ≡ Some n
natural_back limit n small within =
    let k = decimal_is_IsNumeral n small in
    let some : nat_lt 0 (length (decimal n)) ≡ true = lt-ltb 0 (length (decimal n)) k.0.0 in
    let all = numeral_all (decimal n) k.0.1 in
    let less : nat_le (digits_value 10 (decimal n)) limit ≡ true = ap (λ m. nat_le m limit) k.1 ∙ le-leb n limit within in
    rw (some, all, less) (ap Some k.1)

-- digits are read as an integer
positive_back : (ds : List ℕ) (n : ℕ) → natural_up_to (2 ^ 63 - 1) ds ≡ Some n → int_of ds ≡ Some (pos n)
positive_back [] n e = cc e
positive_back (b ∷ bs) n e = by (b == 45) refl
  where
    digit : is_ascii_digit b ≡ true
    digit = (and_parts (is_ascii_digit b) (list_all is_ascii_digit bs) (natural_some (2 ^ 63 - 1) n (b ∷ bs) (sym e)).0).0

    by : (t : Bool) → (b == 45) ≡ t → (if t then option_map (λ m. neg_ℤ (pos m)) (natural_up_to (2 ^ 63) bs) else option_map pos (natural_up_to (2 ^ 63 - 1) (b ∷ bs))) ≡ Some (pos n)
    by false i = ap (option_map pos) e
    by true i = absurd (omega (arith, eqb-true b 45 i, (digit_bounds b digit).0))

int_back : (z : ℤ) → FitsSigned w64 z → int_of (signed_decimal z) ≡ Some z
int_back (pos n) fits =
    let most : n ≤ 2 ^ 63 - 1 = omega (arith, fits.sfits) in
    positive_back (decimal n) n (natural_back (2 ^ 63 - 1) n (omega (arith, most)) most)
int_back (negsuc n) fits =
    let most : suc n ≤ 2 ^ 63 = omega (arith, fits.sfits) in
    ap (option_map (λ m. neg_ℤ (pos m))) (natural_back (2 ^ 63) (suc n) (omega (arith, most)) most)

-- ---- instants

not_word : (b : ℕ) (bs : List ℕ) → is_ascii_digit b ≡ true → str_eq_ignore_ascii_case (codes "forever") (b ∷ bs) ≡ false
not_word b bs digit =
    let other : nat_eq 102 (to_ascii_lowercase b) ≡ false = grind (arith, nat_tests) in
    and_left (nat_eq 102 (to_ascii_lowercase b)) _ other

not_forever : (form : Form) (bytes : List ℕ) (n : ℕ) → instant_of form bytes ≡ Some n → str_eq_ignore_ascii_case (codes "forever") bytes ≡ false
not_forever form [] n e = refl
not_forever Numbers (b ∷ bs) n e =
    not_word b bs (and_parts (is_ascii_digit b) (list_all is_ascii_digit bs) (natural_some (FOREVER - 1) n (b ∷ bs) (sym e)).0).0
not_forever Dates (b ∷ bs) n e = by (is_date_text (b ∷ bs)) refl e
  where
    by : (t : Bool) → is_date_text (b ∷ bs) ≡ t → (if t then day_of (date_in (b ∷ bs)) else None) ≡ Some n → str_eq_ignore_ascii_case (codes "forever") (b ∷ bs) ≡ false
    by true i f = not_word b bs (and_parts (is_ascii_digit b) (list_all is_ascii_digit (take 3 bs)) (spelled_is (b ∷ bs) i).year).0
    by false i f = cc f

-- an instant that can be written is read back
written_back : (form : Form) (n : ℕ) → n ≤ last_instant form → instant_of form (instant_text form n) ≡ Some n
written_back Numbers n within = natural_back (FOREVER - 1) n (omega (arith, within)) within
written_back Dates n within = dates_told.0 n within

instant_within : (times : TimeFormat) (field : List ℕ) (n : ℕ) → instant_in times field ≡ Some n → n ≤ last_instant (form_of times)
instant_within times field n e = by times.dates times.unit e
  where
    by : (dates : Option (List ℕ)) (unit : TimeUnit) → written_in dates unit field ≡ Some n → n ≤ last_instant (form_in dates unit)
    by None unit f = (natural_some (FOREVER - 1) n field (sym f)).2
    by (Some format) Day f = day_within format (without_midnight field) n f
    by (Some format) Second f = second_within format field n f

next_within : (form : Form) (last b : ℕ) → after_last form last ≡ Some b → b ≤ last_instant form
next_within form last b e = by (nat_lt last (last_instant form)) refl e
  where
    by : (t : Bool) → nat_lt last (last_instant form) ≡ t → (if t then Some (last + 1) else None) ≡ Some b → b ≤ last_instant form
    by true i f =
        let same : last + 1 ≡ b = cc f in
        omega (arith, same, ltb-true last (last_instant form) i)
    by false i f = cc f

end_within : (times : TimeFormat) (end b : ℕ) → end ≤ last_instant (form_of times) → end_of times end ≡ Some b → b ≤ last_instant (form_of times)
end_within times end b within e = by times.inclusive e
  where
    by : (t : Bool) → (if t then after_last (form_of times) end else Some end) ≡ Some b → b ≤ last_instant (form_of times)
    by true f = next_within (form_of times) end b f
    by false f = let same : end ≡ b = cc f in omega (arith, same, within)

bound_within : (times : TimeFormat) (field : List ℕ) (b : ℕ) → bound_in times field ≡ Some b → (b ≡ FOREVER) ⊎ (b ≤ last_instant (form_of times))
bound_within times field b e = by (is_open times.open field) (instant_in times field) refl e
  where
    by : (t : Bool) (o : Option ℕ) → instant_in times field ≡ o → (if t then Some FOREVER else option_and_then (end_of times) o) ≡ Some b → (b ≡ FOREVER) ⊎ (b ≤ last_instant (form_of times))
    by true o i f = inl (sym (cc f))
    by false None i f = cc f
    by false (Some end) i f = inr (end_within times end b (instant_within times field end i) f)

last_before : (form : Form) → last_instant form < FOREVER
last_before Numbers = omega arith
last_before Dates = omega arith

bound_back : (form : Form) (b : ℕ) → (b ≡ FOREVER) ⊎ (b ≤ last_instant form) → bound_of form (bound_field form b) ≡ Some b
bound_back form b (inl last) =
    let yes : (b == FOREVER) ≡ true = eq-eqb b FOREVER last in
    rw yes (ap Some (sym last))
bound_back form b (inr within) =
    let no : (b == FOREVER) ≡ false = grind (arith, nat_tests, last_before form) in
    let read = written_back form b within in
    let other = not_forever form (instant_text form b) b read in
    rw no (rw other read)

-- the period that is written is that of the record
record PeriodBack (plan : Plan) (fields : List (List ℕ)) (period : ℕ × ℕ) : Type 0 where
  pub read : period_of (form_of plan.times.now) (period_texts (form_of plan.times.now) period) ≡ Ok period
  pub from : unwrap_or (instant_in plan.times.now (field_of fields plan.from)) 0 ≡ period.0
  pub to : unwrap_or (bound_in plan.times.now (field_of fields plan.to)) 0 ≡ period.1

known_at : (place : ℕ) (kind : RecordFaultKind) (o : Option ℕ) (n : ℕ) → at_place place (known kind o) ≡ Ok n → o ≡ Some n
known_at place kind None n e = cc e
known_at place kind (Some m) n e = let same : m ≡ n = cc e in ap Some same

record Ordered (from to : ℕ) (period : ℕ × ℕ) : Type 0 where
  pub less : nat_lt from to ≡ true
  pub is : (from, to) ≡ period

ordered_at : (place from to : ℕ) (period : ℕ × ℕ) → at_place place (ordered from to) ≡ Ok period → Ordered from to period
ordered_at place from to period e = by (nat_lt from to) refl e
  where
    by : (t : Bool) → nat_lt from to ≡ t → at_place place (let r : Result (ℕ × ℕ) RecordFaultKind = if t then Ok (from, to) else Err EmptyPeriod in r) ≡ Ok period → Ordered from to period
    by true i f = record { less = i; is = cc f }
    by false i f = cc f

period_back : (plan : Plan) (fields : List (List ℕ)) (period : ℕ × ℕ) → period_in plan fields ≡ Ok period → PeriodBack plan fields period
period_back plan fields period e =
    let times = plan.times.now in
    let form = form_of times in
    let a = passed (at_place plan.from (known BadFrom (instant_in times (field_of fields plan.from)))) _ period e in
    let b = passed (at_place plan.to (known BadTo (bound_in times (field_of fields plan.to)))) _ period a.then_is in
    let from_is = known_at plan.from BadFrom (instant_in times (field_of fields plan.from)) a.value a.was in
    let to_is = known_at plan.to BadTo (bound_in times (field_of fields plan.to)) b.value b.was in
    let o = ordered_at plan.to a.value b.value period b.then_is in
    let from_back = written_back form a.value (instant_within times (field_of fields plan.from) a.value from_is) in
    let to_back = bound_back form b.value (bound_within times (field_of fields plan.to) b.value to_is) in
    let read : period_of form (period_texts form (a.value, b.value)) ≡ Ok (a.value, b.value) = rw (from_back, to_back) (rw o.less refl) in
    record {
      read = subst (λ (p : ℕ × ℕ). period_of form (period_texts form p) ≡ Ok p) o.is read;
      from = ap (λ (x : Option ℕ). unwrap_or x 0) from_is ∙ ap (λ (p : ℕ × ℕ). p.0) o.is;
      to = ap (λ (x : Option ℕ). unwrap_or x 0) to_is ∙ ap (λ (p : ℕ × ℕ). p.1) o.is;
    }

-- ---- values

place_passed : {A : Type 0} (place : ℕ) (r : Result A RecordFaultKind) (a : A) → at_place place r ≡ Ok a → r ≡ Ok a
place_passed place (Ok value) a e = let same : value ≡ a = cc e in ap Ok same
place_passed place (Err kind) a e = cc e

value_back : (format : NumberFormat) (conversion : Conversion) (field text : List ℕ) → convert format conversion field ≡ Ok text → value_of (table_kind conversion) text ≡ Ok (value_in format conversion field)
value_back format (Number places) field text e = by (units_in format places field) refl e
  where
    by : (o : Option ℤ) → units_in format places field ≡ o → number_field o ≡ Ok text → number_value (int_of text) ≡ Ok (Int (unwrap_or o (pos 0)))
    by None is f = cc f
    by (Some z) is f =
        let same : signed_decimal z ≡ text = cc f in
        let read : int_of text ≡ Some z = ap int_of (sym same) ∙ int_back z (units_fit format places field z is) in
        rw read refl
value_back format Text field text e = by (is_utf8 field) (nat_lt 1000 (length field)) refl refl e
  where
    by : (u l : Bool) → is_utf8 field ≡ u → nat_lt 1000 (length field) ≡ l
        → (let r : Result (List ℕ) RecordFaultKind = if not u then Err NotUtf8 else (if l then Err TextTooLong else Ok field) in r ≡ Ok text)
        → value_of kind.Text text ≡ Ok (TextValue field)
    by false l i j f = cc f
    by true true i j f = cc f
    by true false i j f =
        let same : field ≡ text = cc f in
        subst (λ (t : List ℕ). value_of kind.Text t ≡ Ok (TextValue field)) same (rw (i, j) refl)

-- the fields of the columns hold their values
record ValuesBack (format : NumberFormat) (columns : List PlannedColumn) (fields before out : List (List ℕ)) : Type 0 where
  pub texts : List (List ℕ)
  pub is : out ≡ before ++ texts
  pub many : length texts ≡ length columns
  pub read : (values : List Value) → load_values values (map table_column columns) texts ≡ Ok (values ++ values_in format columns fields)

values_back : (format : NumberFormat) (columns : List PlannedColumn) (fields before out : List (List ℕ)) → values_after before format columns fields ≡ Ok out → ValuesBack format columns fields before out
values_back format [] fields before out e =
    let same : before ≡ out = cc e in
    record { texts = []; is = sym same ∙ sym (append-nil before); many = refl; read = λ values. ap Ok (sym (append-nil values)) }
values_back format (c ∷ columns) fields before out e =
    let p = passed (at_place c.place (convert format c.conversion (field_of fields c.place))) _ out e in
    let rest = values_back format columns fields (before ++ p.value ∷ []) out p.then_is in
    let value = value_in format c.conversion (field_of fields c.place) in
    let here = value_back format c.conversion (field_of fields c.place) p.value (place_passed c.place _ p.value p.was) in
    record {
      texts = p.value ∷ rest.texts;
      is = rest.is ∙ append_assoc before (p.value ∷ []) rest.texts;
      many = omega (arith, rest.many);
      read = λ values. rw here (rest.read (values ++ value ∷ []) ∙ ap Ok (append_assoc values (value ∷ []) (values_in format columns fields)));
    }

-- the fields before the period hold the values of the row
record RowBack (plan : Plan) (number : ℕ) (fields out : List (List ℕ)) : Type 0 where
  pub many : length out ≡ length (table_columns plan)
  pub read : load_values [] (table_columns plan) out ≡ Ok (number_in plan.numbered number ++ values_in plan.numbers plan.columns fields)

row_back : (plan : Plan) (number : ℕ) (fields out : List (List ℕ)) → number ≤ 2 ^ 63 → values_after (row_number plan.numbered number) plan.numbers plan.columns fields ≡ Ok out → RowBack plan number fields out
row_back plan number fields out small e = by plan.numbered refl (values_back plan.numbers plan.columns fields (row_number plan.numbered number) out e)
  where
    by : (b : Bool) → plan.numbered ≡ b → ValuesBack plan.numbers plan.columns fields (row_number b number) out → RowBack plan number fields out
    by true is back =
        let first = int_back (pos (number - 1)) (record { sfits = omega (arith, small) }) in
        record {
          many = rw is (ap length back.is ∙ omega (arith, back.many, length-map plan.columns table_column));
          read = rw (is, back.is) (rw first (back.read (Int (pos (number - 1)) ∷ [])));
        }
    by false is back = record {
      many = rw is (ap length back.is ∙ back.many ∙ sym (length-map plan.columns table_column));
      read = rw (is, back.is) (back.read []);
    }

-- ---- records

front : (xs : List (List ℕ)) (a b : List ℕ) → value_fields (xs ++ a ∷ b ∷ []) ≡ xs
front xs a b =
    let len : length (xs ++ a ∷ b ∷ []) - 2 ≡ length xs = omega (arith, length-append xs (a ∷ b ∷ [])) in
    ap (λ (n : ℕ). take n (xs ++ a ∷ b ∷ [])) len ∙ take-append_seam xs (a ∷ b ∷ [])

back : (xs : List (List ℕ)) (a b : List ℕ) → period_fields (xs ++ a ∷ b ∷ []) ≡ a ∷ b ∷ []
back xs a b =
    let len : length (xs ++ a ∷ b ∷ []) - 2 ≡ length xs = omega (arith, length-append xs (a ∷ b ∷ [])) in
    ap (λ (n : ℕ). drop n (xs ++ a ∷ b ∷ [])) len ∙ drop-append_seam xs (a ∷ b ∷ [])

entry_made : (form : Form) (table : ℕ) (columns : List Column) (texts : List (List ℕ)) (a b : List ℕ) (values : List Value) (period : ℕ × ℕ) → length texts ≡ length columns
    → load_values [] columns texts ≡ Ok values → period_of form (a ∷ b ∷ []) ≡ Ok period
    → entry_of form table columns (texts ++ a ∷ b ∷ []) ≡ Ok (record { table = table; values = values; from = period.0; to = period.1 })
entry_made form table columns texts a b values period many read of_period =
    let wide : (length (texts ++ a ∷ b ∷ []) == length columns + 2) ≡ true = eq-eqb (length (texts ++ a ∷ b ∷ [])) (length columns + 2) (length-append texts (a ∷ b ∷ []) ∙ ap (λ (n : ℕ). n + 2) many) in
    rw (wide, front texts a b, back texts a b) (rw (read, of_period) refl)

-- a record without a fault is written as the row that it means
entry_back : (plan : Plan) (table number : ℕ) (fields line : List (List ℕ)) → number ≤ 2 ^ 63 → import_record plan number fields ≡ Ok line
    → entry_of (form_of plan.times.now) table (table_columns plan) line ≡ Ok (entry_in plan table number fields)
entry_back plan table number fields line small e =
    by (length fields == plan.width) (values_after (row_number plan.numbered number) plan.numbers plan.columns fields) refl (period_in plan fields) refl e
  where
    form : Form
    form = form_of plan.times.now

    by : (b : Bool) (v : Result (List (List ℕ)) RecordFault) → values_after (row_number plan.numbered number) plan.numbers plan.columns fields ≡ v
        → (p : Result (ℕ × ℕ) RecordFault) → period_in plan fields ≡ p
        → (let r : Result (List (List ℕ)) RecordFault = if not b then Err (record { kind = FieldCount; place = 0 }) else and_then v (λ values. and_then p (λ period. Ok (values ++ period_texts form period))) in r ≡ Ok line)
        → entry_of form table (table_columns plan) line ≡ Ok (entry_in plan table number fields)
    by false v i p j f = cc f
    by true (Err x) i p j f = cc f
    by true (Ok texts) i (Err x) j f = cc f
    by true (Ok texts) i (Ok period) j f =
        let same : texts ++ period_texts form period ≡ line = cc f in
        let row = row_back plan number fields texts small i in
        let per = period_back plan fields period j in
        subst (λ (l : List (List ℕ)). entry_of form table (table_columns plan) l ≡ Ok (entry_in plan table number fields)) same
        (rw (per.from, per.to) (entry_made form table (table_columns plan) texts _ _ _ period row.many row.read per.read))

number_passed : {A : Type 0} (number : ℕ) (r : Result A RecordFault) (a : A) → at_number number r ≡ Ok a → r ≡ Ok a
number_passed number (Ok value) a e = let same : value ≡ a = cc e in ap Ok same
number_passed number (Err fault) a e = cc e

entries_back : (plan : Plan) (limit table number : ℕ) (before : List Entry) (records lines : List (List (List ℕ))) → number + length records ≤ 2 ^ 63 + 1 → imported_records plan number records ≡ Ok lines
    → sum_by event_count (before ++ entries_in plan table number records) ≤ limit
    → entries_after (form_of plan.times.now) limit table (table_columns plan) number before lines ≡ Ok (before ++ entries_in plan table number records)
entries_back plan limit table number before [] lines small e within =
    let none : [] ≡ lines = cc e in
    subst (λ (l : List (List (List ℕ))). entries_after (form_of plan.times.now) limit table (table_columns plan) number before l ≡ Ok (before ++ [])) none (ap Ok (sym (append-nil before)))
entries_back plan limit table number before (fields ∷ records) lines small e within =
    let form = form_of plan.times.now in
    let columns = table_columns plan in
    let a = passed (at_number number (import_record plan number fields)) _ lines e in
    let b = passed (imported_records plan (number + 1) records) _ lines a.then_is in
    let same : a.value ∷ b.value ≡ lines = cc (b.then_is) in
    let entry = entry_in plan table number fields in
    let rest = entries_in plan table (number + 1) records in
    let made = entry_back plan table number fields a.value (omega (arith, small)) (number_passed number (import_record plan number fields) a.value a.was) in
    let shift : (before ++ entry ∷ []) ++ rest ≡ before ++ entry ∷ rest = append_assoc before (entry ∷ []) rest in
    let few : sum_by event_count before + event_count entry ≤ limit = omega (arith, within, sum_by-append event_count before (entry ∷ rest), sum_by-cons event_count entry rest) in
    let next = next_ok limit before entry (sum_by event_count before + event_count entry) refl few in
    subst (λ (l : List (List (List ℕ))). entries_after form limit table columns number before l ≡ Ok (before ++ entry ∷ rest)) same
    (add_ok form limit table columns number before a.value b.value (a.value ∷ b.value) refl entry (before ++ entry ∷ []) made next
    ∙ entries_back plan limit table (number + 1) (before ++ entry ∷ []) records b.value (omega (arith, small)) b.was (subst (λ (l : List Entry). sum_by event_count l ≤ limit) (sym shift) within)
    ∙ ap Ok shift)

-- ---- the header

not_colon : (b : ℕ) → is_name_start b ≡ true → not (b == 58) ≡ true
not_colon b h = grind (arith, nat_tests)

not_colon_byte : (b : ℕ) → is_name_byte b ≡ true → not (b == 58) ≡ true
not_colon_byte b h = grind (arith, nat_tests)

colon_later : (bytes kind : List ℕ) → list_all is_name_byte bytes ≡ true → prefix_len (λ (x : ℕ). not (x == 58)) (bytes ++ 58 ∷ kind) ≡ length bytes
colon_later [] kind h = refl
colon_later (b ∷ bs) kind h =
    let parts = and_parts (is_name_byte b) (list_all is_name_byte bs) h in
    let here = not_colon_byte b parts.0 in
    let more = colon_later bs kind parts.1 in
    rw here (omega (arith, more))

colon_at : (name kind : List ℕ) → has_name_form name ≡ true → prefix_len (λ (x : ℕ). not (x == 58)) (name ++ 58 ∷ kind) ≡ length name
colon_at [] kind h = cc h
colon_at (b ∷ bs) kind h =
    let parts = and_parts (is_name_start b) (list_all is_name_byte bs) h in
    let here = not_colon b parts.0 in
    let more = colon_later bs kind parts.1 in
    rw here (omega (arith, more))

name_before : (name kind : List ℕ) → has_name_form name ≡ true → before_first (λ b. b == 58) (name ++ 58 ∷ kind) ≡ name
name_before name kind h = ap (λ (n : ℕ). take n (name ++ 58 ∷ kind)) (colon_at name kind h) ∙ take-append_seam name (58 ∷ kind)

kind_after : (name kind : List ℕ) → has_name_form name ≡ true → after_first (λ b. b == 58) (name ++ 58 ∷ kind) ≡ kind
kind_after name kind h = ap (λ (n : ℕ). drop (n + 1) (name ++ 58 ∷ kind)) (colon_at name kind h) ∙ drop-append-add name (58 ∷ kind) 1

lower_twice : (b : ℕ) → to_ascii_lowercase (to_ascii_lowercase b) ≡ to_ascii_lowercase b
lower_twice b = grind (arith, nat_tests)

folded_twice : (bytes : List ℕ) → folded (folded bytes) ≡ folded bytes
folded_twice [] = refl
folded_twice (b ∷ bs) = rw (lower_twice b, folded_twice bs) refl

same_reserved : (bytes : List ℕ) → is_reserved (folded bytes) ≡ is_reserved bytes
unfolding is_reserved
same_reserved bytes = simp (folded_twice bytes)

-- a folded name is a name, and folded already
record FoldsToItself (name : List ℕ) : Type 0 where
  pub form : has_name_form name ≡ true
  pub again : folded_name name ≡ Some name

folds_to_itself : (name : List ℕ) → IsFoldedName name → FoldsToItself name
folds_to_itself name (bytes, is) = by (is_name bytes) refl is
  where
    by : (t : Bool) → is_name bytes ≡ t → (if t then Some (folded bytes) else None) ≡ Some name → FoldsToItself name
    by false i f = cc f
    by true i f =
        let same : folded bytes ≡ name = cc f in
        let most = and_parts (has_name_form bytes && nat_le (length bytes) 64) (not (is_reserved bytes)) i in
        let shape = has_name_form (folded bytes) && nat_le (length (folded bytes)) 64 in
        let lower = list_all (λ b. not (is_ascii_uppercase b)) (folded bytes) in
        let outer = and_parts shape lower (and_parts (shape && lower) _ (shown-folded bytes i)).0 in
        let first = and_parts (has_name_form (folded bytes)) (nat_le (length (folded bytes)) 64) outer.0 in
        let free : not (is_reserved (folded bytes)) ≡ true = rw (same_reserved bytes) most.1 in
        let named : is_name (folded bytes) ≡ true = rw (outer.0, free) refl in
        subst FoldsToItself same (record { form = first.0; again = rw named (ap Some (folded_twice bytes)) })

-- the field of a column in the header gives the column
column_back : (c : PlannedColumn) → IsFoldedName c.name → column_of (column_field c) ≡ Some (table_column c)
column_back c named = by c.conversion
  where
    itself : FoldsToItself c.name
    itself = folds_to_itself c.name named

    by : (conversion : Conversion) → column_of (c.name ++ kind_word conversion) ≡ Some (record { name = c.name; kind = table_kind conversion })
    by (Number places) = rw (name_before c.name (codes "int") itself.form, kind_after c.name (codes "int") itself.form, itself.again) refl
    by Text = rw (name_before c.name (codes "text") itself.form, kind_after c.name (codes "text") itself.form, itself.again) refl

name_at : (before : List Column) (c : Column) (rest : List Column) → get_or (map (λ (x : Column). x.name) (before ++ c ∷ rest)) (length before) [] ≡ c.name
name_at [] c rest = refl
name_at (d ∷ before) c rest = name_at before c rest

differ : (a b : List ℕ) → a ≢ b → bytes_eq a b ≡ false
differ a b other = false_from_ne_true (bytes_eq a b) (λ same. other ((bytes_eq-Decides a b).0 same))

not_taken : (before : List Column) (c : Column) (rest : List Column) → AllPairs (λ (a b : List ℕ). a ≢ b) (map (λ (x : Column). x.name) (before ++ c ∷ rest)) → has_column before c.name ≡ false
not_taken [] c rest pairs = refl
not_taken (d ∷ before) c rest pairs =
    let later : length before < length (map (λ (x : Column). x.name) (before ++ c ∷ rest)) = omega (arith, length-map (before ++ c ∷ rest) (λ (x : Column). x.name), length-append before (c ∷ rest)) in
    let apart : d.name ≢ get_or (map (λ (x : Column). x.name) (before ++ c ∷ rest)) (length before) [] = pairs 0 (suc (length before)) [] (omega arith) (omega (arith, later)) in
    let here : bytes_eq d.name c.name ≡ false = differ d.name c.name (subst (λ (n : List ℕ). d.name ≢ n) (name_at before c rest) apart) in
    let more = not_taken before c rest (pairs_tail (λ (a b : List ℕ). a ≢ b) d.name (map (λ (x : Column). x.name) (before ++ c ∷ rest)) pairs) in
    rw (here, more) refl

key_first : (before : List Column) (c : Column) (rest : List Column) → IfSome (slice_get (before ++ c ∷ rest) 0) (λ (d : Column). d.kind ≡ kind.Int) → ((length before == 0) && is_text c.kind) ≡ false
key_first [] c rest key = ap is_text key
key_first (d ∷ before) c rest key =
    let some : (length (d ∷ before) == 0) ≡ false = grind (arith, nat_tests) in
    and_left (length (d ∷ before) == 0) (is_text c.kind) some

columns_back : (before : List Column) (columns : List PlannedColumn) → All (λ (c : PlannedColumn). IsFoldedName c.name) columns
    → AllPairs (λ (a b : List ℕ). a ≢ b) (map (λ (x : Column). x.name) (before ++ map table_column columns))
    → IfSome (slice_get (before ++ map table_column columns) 0) (λ (d : Column). d.kind ≡ kind.Int)
    → columns_after before (map column_field columns) ≡ Ok (before ++ map table_column columns)
columns_back before [] named pairs key = ap Ok (sym (append-nil before))
columns_back before (c ∷ columns) named pairs key =
    let is_column = column_back c (All-head (λ (x : PlannedColumn). IsFoldedName x.name) c columns named) in
    let first = key_first before (table_column c) (map table_column columns) key in
    let new = not_taken before (table_column c) (map table_column columns) pairs in
    let shift : (before ++ table_column c ∷ []) ++ map table_column columns ≡ before ++ table_column c ∷ map table_column columns = append_assoc before (table_column c ∷ []) (map table_column columns) in
    rw (is_column, first, new) (
    columns_back (before ++ table_column c ∷ []) columns (All-tail (λ (x : PlannedColumn). IsFoldedName x.name) c columns named)
    (subst (λ (l : List Column). AllPairs (λ (a b : List ℕ). a ≢ b) (map (λ (x : Column). x.name) l)) (sym shift) pairs)
    (subst (λ (l : List Column). IfSome (slice_get l 0) (λ (d : Column). d.kind ≡ kind.Int)) (sym shift) key)
    ∙ ap Ok shift
    )

-- the column of row numbers, as one that is planned
abbrev row_column : PlannedColumn
row_column = record { place = 0; name = codes "row"; conversion = Number 0 }

row_named : IsFoldedName (codes "row")
unfolding is_reserved
row_named = (codes "row", refl)

header_made : (fields : List (List ℕ)) (columns : List Column) → length fields ≡ length columns → 0 < length columns → length columns ≤ 16 → columns_after [] fields ≡ Ok columns
    → header_of (fields ++ codes "from" ∷ codes "to" ∷ []) ≡ Ok columns
header_made fields columns many some few are =
    let long : nat_lt (length (fields ++ codes "from" ∷ codes "to" ∷ [])) 3 ≡ false = grind (arith, nat_tests, length-append fields (codes "from" ∷ codes "to" ∷ [])) in
    let fit : nat_lt 16 (length fields) ≡ false = grind (arith, nat_tests) in
    rw (long, front fields (codes "from") (codes "to"), back fields (codes "from") (codes "to")) (rw fit are)

columns_read : (numbered : Bool) (columns : List PlannedColumn) → AreTableColumns numbered columns → header_of (number_header numbered ++ map column_field columns ++ (codes "from" ∷ codes "to" ∷ [])) ≡ Ok (columns_with numbered columns)
columns_read true columns are =
    let table = are.table [] in
    header_made (map column_field (row_column ∷ columns)) (columns_with true columns)
    (length-map (row_column ∷ columns) column_field ∙ sym (length-map (row_column ∷ columns) table_column)) table.some table.few
    (columns_back [] (row_column ∷ columns) (All-cons (λ (c : PlannedColumn). IsFoldedName c.name) row_column columns row_named are.named) table.names table.key)
columns_read false columns are =
    let table = are.table [] in
    header_made (map column_field columns) (columns_with false columns)
    (length-map columns column_field ∙ sym (length-map columns table_column)) table.some table.few
    (columns_back [] columns are.named table.names table.key)

-- ---- the file

unmarked : (first : ℕ) (rest : List ℕ) → (first == 239) ≡ false → begins_with_bom (first ∷ rest) ≡ false
unmarked first [] other = refl
unmarked first (b ∷ []) other = refl
unmarked first (b ∷ c ∷ rest) other = rw other refl

pub no_marks : (text : List ℕ) → Plain text → has_two_boms text ≡ false
no_marks text p =
    let none : begins_with_bom text ≡ false = ap begins_with_bom p.is ∙ unmarked p.first p.rest p.other in
    rw none refl

pub loads_of : ImportsLoad
loads_of plan records text limit table before loadable e few within =
    let form = form_of plan.times.now in
    let (lines, are, is) = read_back_of plan records text loadable e in
    let columns = columns_first text (table_header plan) lines (no_marks text (plain_text plan records text loadable e)) is ∙ columns_read plan.numbered plan.columns loadable in
    let rows = entries_back plan limit table 2 before records lines (omega (arith, few)) are within in
    read_ok form limit table before text (table_columns plan) (before ++ entries_in plan table 2 records) columns
    (ap (λ (l : List (List (List ℕ))). entries_after form limit table (table_columns plan) 2 before (drop 1 l)) is ∙ rows)

pub files_load : ImportedFilesLoad
files_load plan records file name limit loadable e folded few within =
    let read = loads_of plan records file.bytes limit 0 [] loadable e few within in
    rw (folded, read) refl
