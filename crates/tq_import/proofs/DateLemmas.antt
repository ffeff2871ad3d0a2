-- The digits of a date, read in a format and written back.
use Rattle.std.proofs.Common.{◌≡◌, ◌∙◌, ◌<◌, ◌+◌, ◌==◌, ℕ, Bool, true, false, List, [], ◌∷◌, ◌++◌, Some, None, ap, append_assoc, arith, drop, get_or, length, refl, sym}
use Rattle.std.specs.Prelude.{if◌then◌else◌}
use Rattle.std.specs.Option.{option_and_then}
use Rattle.std.proofs.lemmas.List.{append-nil, drop_all, drop_more}
use Rattle.std.proofs.lemmas.Bool.{eqb-true}
use Rattle.tq_import.specs.Dates.{DateDigits, digits_in, more_digits, no_digits}
use Rattle.tq_import.specs.Laws.{written}

-- the digits so far, and then others
abbrev pub joined : DateDigits → DateDigits → DateDigits
joined a b = record { year = a.year ++ b.year; month = a.month ++ b.month; day = a.day ++ b.day }

-- the bytes are what the format writes of the digits that they add
pub record WrittenBack (format bytes : List ℕ) (digits out : DateDigits) : Type 0 where
  pub rest : DateDigits
  pub are : out ≡ joined digits rest
  pub is : written format rest ≡ bytes

none_more : (digits out : DateDigits) → digits_in [] digits [] ≡ Some out → out ≡ joined digits no_digits
none_more digits out e =
    let same : digits ≡ out = cc e in
    sym same ∙ (λ i. record { year = sym (append-nil digits.year) i; month = sym (append-nil digits.month) i; day = sym (append-nil digits.day) i })

-- what is read in a format is written back by it
pub written_back : (format : List ℕ) (digits : DateDigits) (bytes : List ℕ) (out : DateDigits) → digits_in format digits bytes ≡ Some out → WrittenBack format bytes digits out
written_back [] digits [] out e = record { rest = no_digits; are = none_more digits out e; is = refl }
written_back [] digits (b ∷ bytes) out e = cc e
written_back (mark ∷ format) digits [] out e = cc e
written_back (mark ∷ format) digits (b ∷ bytes) out e =
    by (mark == 100) (mark == 109) (mark == 121) (mark == b) refl refl refl refl e (λ more f. written_back format more bytes out f)
  where
    by : (d m y s : Bool) → (mark == 100) ≡ d → (mark == 109) ≡ m → (mark == 121) ≡ y → (mark == b) ≡ s
        → option_and_then (λ more. digits_in format more bytes)
        (if d then Some (record digits { day = digits.day ++ b ∷ [] }) else if m then Some (record digits { month = digits.month ++ b ∷ [] })
        else if y then Some (record digits { year = digits.year ++ b ∷ [] }) else if s then Some digits else None) ≡ Some out
        → ((more : DateDigits) → digits_in format more bytes ≡ Some out → WrittenBack format bytes more out)
        → WrittenBack (mark ∷ format) (b ∷ bytes) digits out
    by true m y s d_is m_is y_is s_is f back =
        let w = back (record digits { day = digits.day ++ b ∷ [] }) f in
        record {
          rest = record w.rest { day = b ∷ w.rest.day };
          are = w.are ∙ (λ i. record { year = digits.year ++ w.rest.year; month = digits.month ++ w.rest.month; day = append_assoc digits.day (b ∷ []) w.rest.day i });
          is = rw d_is (ap (λ (l : List ℕ). b ∷ l) w.is);
        }
    by false true y s d_is m_is y_is s_is f back =
        let w = back (record digits { month = digits.month ++ b ∷ [] }) f in
        record {
          rest = record w.rest { month = b ∷ w.rest.month };
          are = w.are ∙ (λ i. record { year = digits.year ++ w.rest.year; month = append_assoc digits.month (b ∷ []) w.rest.month i; day = digits.day ++ w.rest.day });
          is = rw (d_is, m_is) (ap (λ (l : List ℕ). b ∷ l) w.is);
        }
    by false false true s d_is m_is y_is s_is f back =
        let w = back (record digits { year = digits.year ++ b ∷ [] }) f in
        record {
          rest = record w.rest { year = b ∷ w.rest.year };
          are = w.are ∙ (λ i. record { year = append_assoc digits.year (b ∷ []) w.rest.year i; month = digits.month ++ w.rest.month; day = digits.day ++ w.rest.day });
          is = rw (d_is, m_is, y_is) (ap (λ (l : List ℕ). b ∷ l) w.is);
        }
    by false false false true d_is m_is y_is s_is f back =
        let w = back digits f in
        let same : mark ≡ b = eqb-true mark b s_is in
        record { rest = w.rest; are = w.are; is = rw (d_is, m_is, y_is) ((λ i. same i ∷ w.is i)) }
    by false false false false d_is m_is y_is s_is f back = cc f

-- ---- dates of ten bytes

next : (xs : List ℕ) (i n : ℕ) {rest : List ℕ} → i < length xs → n ≡ i + 1 → drop n xs ≡ rest → drop i xs ≡ get_or xs i 0 ∷ rest
next xs i n less is e = drop_more xs i 0 less ∙ ap (λ (l : List ℕ). get_or xs i 0 ∷ l) (ap (λ (k : ℕ). drop k xs) (sym is) ∙ e)

ten : (xs : List ℕ) → length xs ≡ 10 → xs ≡ get_or xs 0 0 ∷ get_or xs 1 0 ∷ get_or xs 2 0 ∷ get_or xs 3 0 ∷ get_or xs 4 0 ∷ get_or xs 5 0 ∷ get_or xs 6 0 ∷ get_or xs 7 0 ∷ get_or xs 8 0 ∷ get_or xs 9 0 ∷ []
ten xs is =
    next xs 0 1 (omega (arith, is)) (omega arith)
    (next xs 1 2 (omega (arith, is)) (omega arith)
    (next xs 2 3 (omega (arith, is)) (omega arith)
    (next xs 3 4 (omega (arith, is)) (omega arith)
    (next xs 4 5 (omega (arith, is)) (omega arith)
    (next xs 5 6 (omega (arith, is)) (omega arith)
    (next xs 6 7 (omega (arith, is)) (omega arith)
    (next xs 7 8 (omega (arith, is)) (omega arith)
    (next xs 8 9 (omega (arith, is)) (omega arith)
    (next xs 9 10 (omega (arith, is)) (omega arith)
    (drop_all 10 xs (omega (arith, is))))))))))))

day_first_digits : (s t a b c d e f g h i j : ℕ) → ((digits : DateDigits) → more_digits s c digits ≡ Some digits) → ((digits : DateDigits) → more_digits t f digits ≡ Some digits)
    → digits_in (100 ∷ 100 ∷ s ∷ 109 ∷ 109 ∷ t ∷ 121 ∷ 121 ∷ 121 ∷ 121 ∷ []) no_digits (a ∷ b ∷ c ∷ d ∷ e ∷ f ∷ g ∷ h ∷ i ∷ j ∷ [])
    ≡ Some (record { year = g ∷ h ∷ i ∷ j ∷ []; month = d ∷ e ∷ []; day = a ∷ b ∷ [] })
day_first_digits s t a b c d e f g h i j first second =
    ap (option_and_then (λ (more : DateDigits). digits_in (109 ∷ 109 ∷ t ∷ 121 ∷ 121 ∷ 121 ∷ 121 ∷ []) more (d ∷ e ∷ f ∷ g ∷ h ∷ i ∷ j ∷ []))) (first (record { year = []; month = []; day = a ∷ b ∷ [] }))
    ∙ ap (option_and_then (λ (more : DateDigits). digits_in (121 ∷ 121 ∷ 121 ∷ 121 ∷ []) more (g ∷ h ∷ i ∷ j ∷ []))) (second (record { year = []; month = d ∷ e ∷ []; day = a ∷ b ∷ [] }))

-- the digits of a date in `dd.mm.yyyy`
pub day_first_is : (format bytes : List ℕ) → length format ≡ 10 → length bytes ≡ 10
    → get_or format 0 0 ≡ 100
    → get_or format 1 0 ≡ 100
    → get_or format 3 0 ≡ 109
    → get_or format 4 0 ≡ 109
    → get_or format 6 0 ≡ 121
    → get_or format 7 0 ≡ 121
    → get_or format 8 0 ≡ 121
    → get_or format 9 0 ≡ 121
    → ((digits : DateDigits) → more_digits (get_or format 2 0) (get_or bytes 2 0) digits ≡ Some digits)
    → ((digits : DateDigits) → more_digits (get_or format 5 0) (get_or bytes 5 0) digits ≡ Some digits)
    → digits_in format no_digits bytes ≡ Some (record { year = get_or bytes 6 0 ∷ get_or bytes 7 0 ∷ get_or bytes 8 0 ∷ get_or bytes 9 0 ∷ []; month = get_or bytes 3 0 ∷ get_or bytes 4 0 ∷ []; day = get_or bytes 0 0 ∷ get_or bytes 1 0 ∷ [] })
day_first_is format bytes long many m0 m1 m3 m4 m6 m7 m8 m9 first second =
    let marks = ten format long ∙ (λ i. m0 i ∷ m1 i ∷ get_or format 2 0 ∷ m3 i ∷ m4 i ∷ get_or format 5 0 ∷ m6 i ∷ m7 i ∷ m8 i ∷ m9 i ∷ []) in
    (λ i. digits_in (marks i) no_digits (ten bytes many i))
    ∙ day_first_digits (get_or format 2 0) (get_or format 5 0) (get_or bytes 0 0) (get_or bytes 1 0) (get_or bytes 2 0) (get_or bytes 3 0) (get_or bytes 4 0) (get_or bytes 5 0) (get_or bytes 6 0) (get_or bytes 7 0) (get_or bytes 8 0) (get_or bytes 9 0) first second

year_first_digits : (s t a b c d e f g h i j : ℕ) → ((digits : DateDigits) → more_digits s e digits ≡ Some digits) → ((digits : DateDigits) → more_digits t h digits ≡ Some digits)
    → digits_in (121 ∷ 121 ∷ 121 ∷ 121 ∷ s ∷ 109 ∷ 109 ∷ t ∷ 100 ∷ 100 ∷ []) no_digits (a ∷ b ∷ c ∷ d ∷ e ∷ f ∷ g ∷ h ∷ i ∷ j ∷ [])
    ≡ Some (record { year = a ∷ b ∷ c ∷ d ∷ []; month = f ∷ g ∷ []; day = i ∷ j ∷ [] })
year_first_digits s t a b c d e f g h i j first second =
    ap (option_and_then (λ (more : DateDigits). digits_in (109 ∷ 109 ∷ t ∷ 100 ∷ 100 ∷ []) more (f ∷ g ∷ h ∷ i ∷ j ∷ []))) (first (record { year = a ∷ b ∷ c ∷ d ∷ []; month = []; day = [] }))
    ∙ ap (option_and_then (λ (more : DateDigits). digits_in (100 ∷ 100 ∷ []) more (i ∷ j ∷ []))) (second (record { year = a ∷ b ∷ c ∷ d ∷ []; month = f ∷ g ∷ []; day = [] }))

-- the digits of a date in `yyyy-mm-dd`
pub year_first_is : (format bytes : List ℕ) → length format ≡ 10 → length bytes ≡ 10
    → get_or format 0 0 ≡ 121
    → get_or format 1 0 ≡ 121
    → get_or format 2 0 ≡ 121
    → get_or format 3 0 ≡ 121
    → get_or format 5 0 ≡ 109
    → get_or format 6 0 ≡ 109
    → get_or format 8 0 ≡ 100
    → get_or format 9 0 ≡ 100
    → ((digits : DateDigits) → more_digits (get_or format 4 0) (get_or bytes 4 0) digits ≡ Some digits)
    → ((digits : DateDigits) → more_digits (get_or format 7 0) (get_or bytes 7 0) digits ≡ Some digits)
    → digits_in format no_digits bytes ≡ Some (record { year = get_or bytes 0 0 ∷ get_or bytes 1 0 ∷ get_or bytes 2 0 ∷ get_or bytes 3 0 ∷ []; month = get_or bytes 5 0 ∷ get_or bytes 6 0 ∷ []; day = get_or bytes 8 0 ∷ get_or bytes 9 0 ∷ [] })
year_first_is format bytes long many m0 m1 m2 m3 m5 m6 m8 m9 first second =
    let marks = ten format long ∙ (λ i. m0 i ∷ m1 i ∷ m2 i ∷ m3 i ∷ get_or format 4 0 ∷ m5 i ∷ m6 i ∷ get_or format 7 0 ∷ m8 i ∷ m9 i ∷ []) in
    (λ i. digits_in (marks i) no_digits (ten bytes many i))
    ∙ year_first_digits (get_or format 4 0) (get_or format 7 0) (get_or bytes 0 0) (get_or bytes 1 0) (get_or bytes 2 0) (get_or bytes 3 0) (get_or bytes 4 0) (get_or bytes 5 0) (get_or bytes 6 0) (get_or bytes 7 0) (get_or bytes 8 0) (get_or bytes 9 0) first second
