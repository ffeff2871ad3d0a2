-- The labels of days, as the code reads them off the text of a date.
use Rattle.std.proofs.Common.{◌≡◌, ◌∙◌, ◌≤◌, ◌<◌, ◌+◌, ◌*◌, ◌-◌, ◌++◌, ◌∷◌, [], ℕ, List, ap, ap₂, arith, get_or, length, sym, take, length-take}
use Rattle.std.proofs.lemmas.List.{get_or-take, take-take}
use Rattle.tq_base.specs.Numbers.{instant_text}
use Rattle.tq_base.specs.declared.form.Form.TheVariants.{Dates}
use Rattle.tq_base.proofs.DateTextLemmas.{text_of_day}
use Rattle.tq_totals.specs.Calendar.{label, month_in, quarter_digit}
use Rattle.tq_totals.specs.declared.unit.Unit.TheVariants.{Month, Quarter, Year}

-- the date of a day has ten bytes
ten : (day : ℕ) → day ≤ 3_652_058 → length (instant_text Dates day) ≡ 10
ten day most = ap length (text_of_day day most)

front : (into text : List ℕ) (n k : ℕ) → take n into ≡ text → k ≤ length text → take k into ≡ take k text
front into text n k is within =
    let long = ap length is in
    sym (take-take k n into (omega (arith, length-take n into))) ∙ ap (take k) is

front_at : (into text : List ℕ) (n k : ℕ) → take n into ≡ text → k < length text → get_or into k 0 ≡ get_or text k 0
front_at into text n k is within =
    let long = ap length is in
    sym (get_or-take n into k 0 (omega (arith, length-take n into))) ∙ ap (λ l. get_or l k 0) is

pub month_label : (into : List ℕ) (n day : ℕ) → day ≤ 3_652_058 → take n into ≡ instant_text Dates day → take 7 into ≡ label Month day
unfolding label
month_label into n day most is = front into (instant_text Dates day) n 7 is (omega (arith, ten day most))

pub year_label : (into : List ℕ) (n day : ℕ) → day ≤ 3_652_058 → take n into ≡ instant_text Dates day → take 4 into ≡ label Year day
unfolding label
year_label into n day most is = front into (instant_text Dates day) n 4 is (omega (arith, ten day most))

pub quarter_label : (into : List ℕ) (n day : ℕ) → day ≤ 3_652_058 → take n into ≡ instant_text Dates day
    → take 4 into ++ 45 ∷ 81 ∷ quarter_digit (month_in into) ∷ [] ≡ label Quarter day
unfolding label
quarter_label into n day most is =
    let text = instant_text Dates day in
    let long = ten day most in
    let year = front into text n 4 is (omega (arith, long)) in
    let tens = front_at into text n 5 is (omega (arith, long)) in
    let ones = front_at into text n 6 is (omega (arith, long)) in
    let month : month_in into ≡ month_in text = ap₂ (λ (a b : ℕ). 10 * (a - 48) + (b - 48)) tens ones in
    ap₂ (λ (y : List ℕ) (m : ℕ). y ++ 45 ∷ 81 ∷ quarter_digit m ∷ []) year month
