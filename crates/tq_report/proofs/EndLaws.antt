-- Ends of periods as they are written, read back by the definition of imports.
use Rattle.std.proofs.Common.{◌≡◌, ◌∙◌, ◌≤◌, ◌<◌, ◌-◌, ◌==◌, ◌⊎◌, ℕ, true, false, List, [], ◌∷◌, ◌++◌, Some, ap, arith, codes, decimal, inl, inr, length, nat_le, nat_lt, refl}
use Rattle.std.specs.Prelude.{◌/◌, nat_eq}
use Rattle.std.specs.Char.{is_ascii_digit}
use Rattle.std.specs.List.{list_all}
use Rattle.std.proofs.lemmas.Bool.{and_parts, le-leb, lt-ltb, ne_eqb}
use Rattle.std.proofs.lemmas.Bool.Decides.{nat_tests}
use Rattle.tq_base.specs.Dates.{CivilDate, date_of, date_text, digit, two_digits}
use Rattle.tq_base.specs.Numbers.{instant_of, instant_text}
use Rattle.tq_base.specs.declared.dates.TheConstants.{LAST_DAY}
use Rattle.tq_base.specs.declared.form.Form.{Form}
use Rattle.tq_base.specs.declared.form.Form.TheVariants.{Dates, Numbers}
use Rattle.tq_base.specs.declared.period.TheConstants.{FOREVER}
use Rattle.tq_import.specs.Dates.{day_in, without_midnight}
use Rattle.tq_import.specs.Times.{bound_in, is_open, last_instant}
use Rattle.tq_report.proofs.AmountLaws.{decimal_digits, natural_is}
use Rattle.tq_report.specs.ImportLaws.{answer_times}
use Rattle.tq_report.specs.Texts.{end_in}
use Rattle.tq_report.specs.declared.format.Format.TheVariants.{Csv}

-- every day with a date is read as it is printed
abbrev DaysAreRead : Type 0
DaysAreRead = (day : ℕ) → day ≤ LAST_DAY → instant_of Dates (instant_text Dates day) ≡ Some day

-- a text that begins with a digit is no open end
not_open : (b : ℕ) (bs : List ℕ) → 48 ≤ b → b ≤ 57 → is_open (codes "forever" ∷ []) (b ∷ bs) ≡ false
not_open b bs low high = let other : nat_eq 102 b ≡ false = ne_eqb 102 b (λ e. omega (arith, e, high)) in rw other refl

digits_not_open : (bytes : List ℕ) → 0 < length bytes → list_all is_ascii_digit bytes ≡ true → is_open (codes "forever" ∷ []) bytes ≡ false
digits_not_open [] some all = absurd (omega (arith, some))
digits_not_open (b ∷ bs) some all =
    let digit : is_ascii_digit b ≡ true = (and_parts (is_ascii_digit b) (list_all is_ascii_digit bs) all).0 in
    let low : 48 ≤ b = grind (arith, nat_tests) in
    let high : b ≤ 57 = grind (arith, nat_tests) in
    not_open b bs low high

date_not_open : (date : CivilDate) → is_open (codes "forever" ∷ []) (date_text date) ≡ false
date_not_open date =
    not_open (digit (date.year / 1000)) (digit (date.year / 100) ∷ (two_digits date.year ++ 45 ∷ two_digits date.month ++ 45 ∷ two_digits date.day)) (omega arith) (omega arith)

-- a date has no time of midnight
no_midnight : (date : CivilDate) → without_midnight (date_text date) ≡ date_text date
no_midnight date =
    let other : nat_eq (digit (date.year / 100)) 32 ≡ false = ne_eqb (digit (date.year / 100)) 32 (λ e. omega (arith, e)) in
    rw other refl

day_read : DaysAreRead → (day : ℕ) → day ≤ LAST_DAY → day_in (codes "yyyy-mm-dd") (without_midnight (date_text (date_of day))) ≡ Some day
day_read days day within =
    let early : nat_le day LAST_DAY ≡ true = le-leb day LAST_DAY within in
    ap (day_in (codes "yyyy-mm-dd")) (no_midnight (date_of day)) ∙ rw early at (days day within)

pub read_back : DaysAreRead → (form : Form) (end : ℕ) → 0 < end → (end ≤ last_instant form) ⊎ (end ≡ FOREVER)
    → bound_in (answer_times form) (end_in Csv form true end) ≡ Some end
read_back days Numbers end some (inr is) = rw is refl
read_back days Dates end some (inr is) = rw is refl
read_back days Numbers end some (inl within) =
    let last = end - 1 in
    let other : (end == FOREVER) ≡ false = ne_eqb end FOREVER (λ e. omega (arith, e, within)) in
    let d = decimal_digits last (omega (arith, within)) in
    let shut = digits_not_open (decimal last) d.some d.digits in
    let read = natural_is (FOREVER - 1) last (decimal last) d (omega (arith, within)) in
    let later : nat_lt last (FOREVER - 1) ≡ true = lt-ltb last (FOREVER - 1) (omega (arith, within, some)) in
    rw (other, shut, read, later) (ap Some (omega (arith, some)))
read_back days Dates end some (inl within) =
    let last = end - 1 in
    let other : (end == FOREVER) ≡ false = ne_eqb end FOREVER (λ e. omega (arith, e, within)) in
    let early : nat_le last LAST_DAY ≡ true = le-leb last LAST_DAY (omega (arith, within)) in
    let shut = date_not_open (date_of last) in
    let read = day_read days last (omega (arith, within)) in
    let later : nat_lt last LAST_DAY ≡ true = lt-ltb last LAST_DAY (omega (arith, within, some)) in
    rw (other, early, shut, read, later) (ap Some (omega (arith, some)))
