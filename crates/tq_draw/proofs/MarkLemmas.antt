-- The marks of a scale, their labels and the ruler.
use Rattle.std.proofs.Common.{All, ◌≡◌, ◌∙◌, ℕ, zero, suc, ◌+◌, ◌-◌, ◌*◌, ◌/◌, ◌<◌, ◌≤◌, ◌==◌, ◌&&◌, Bool, true, false, cond, nat_le, List, [], ◌∷◌, ◌++◌, ap, sym, arith, append_assoc, drop, get_or, inl, inr, length, length-append, refl, replicate, subst, take}
use Rattle.std.proofs.Math.Nat.{div-mul-le_self}
use Rattle.std.proofs.lemmas.Bool.{cases_Bool}
use Rattle.std.proofs.lemmas.Bool.Decides.{nat_tests}
use Rattle.std.proofs.lemmas.List.{drop-drop, drop_at, get_or-append_right, get_or_at, length-replicate, take_at}
use Rattle.std.proofs.lemmas.Nat.{div-add-mod', div_below, le-div}
use Rattle.tq_base.specs.Dates.{date_of, date_text}
use Rattle.tq_base.specs.Numbers.{instant_text}
use Rattle.tq_base.specs.declared.form.Form.TheVariants.{Dates}
use Rattle.tq_draw.specs.Calendar.{is_first}
use Rattle.tq_draw.specs.Laws.{AreApart, Covers, IsDayMark, MarksAreFirstDays}
use Rattle.tq_draw.specs.Marks.{cell_of, day_marks, days_to_mark, first_mark, labels_from, mark_label, mark_unit, marks_of, marks_text, ruler_from, ruler_text, spaced}
use Rattle.tq_draw.specs.Scales.{IsScale}
use Rattle.tq_draw.specs.declared.marks.Tick.{Tick}
use Rattle.tq_draw.specs.declared.scale.Scale.{Scale}
use Rattle.tq_draw.proofs.CalendarLemmas.{days_within, firsts}

-- ---- the cell that holds an instant

-- the cell's start is not after the instant, where `x` instants of the scale precede it
not_after : (x cells span : ℕ) → 0 < cells → 0 < span → ((x + 1) * cells - 1) / span * span / cells < x + 1
not_after x cells span some more =
    let scaled = (x + 1) * cells - 1 in
    let low : scaled / span * span ≤ scaled = div-mul-le_self scaled span in
    let least : 0 < (x + 1) * cells = omega arith in
    div_below (scaled / span * span) cells (x + 1) some (omega (arith, low, least))

-- and the next cell's start is
is_after : (x cells span : ℕ) → 0 < cells → 0 < span → x + 1 ≤ (((x + 1) * cells - 1) / span + 1) * span / cells
is_after x cells span some more =
    let scaled = (x + 1) * cells - 1 in
    let whole = div-add-mod' scaled span in
    let high : (x + 1) * cells ≤ (scaled / span + 1) * span = omega (arith, whole) in
    le-div (x + 1) ((scaled / span + 1) * span) cells some high

pub cell_covers : (scale : Scale) → IsScale scale → (instant : ℕ) → scale.first ≤ instant → instant < scale.last
    → Covers scale (cell_of scale instant) instant
cell_covers scale is instant from to =
    let x = instant - scale.first in
    let span = scale.last - scale.first in
    let some : 0 < span = omega arith in (
      omega (arith, not_after x scale.cells span is.some some, from),
      omega (arith, is_after x scale.cells span is.some some, from),
    )

-- ---- marks that are apart

-- each mark is on the cell of its instant, not before `from` and at least 12 cells after the mark before; `P` holds of its
-- instant
abbrev AreSpaced : (ℕ → Type 0) → Scale → ℕ → List Tick → Type 0
AreSpaced P scale from [] = Unit {0}
AreSpaced P scale from (mark ∷ marks) =
    (from ≤ mark.cell) × (mark.cell + 21 ≤ scale.cells) × (mark.cell ≡ cell_of scale mark.instant) × P mark.instant
    × AreSpaced P scale (mark.cell + 12) marks

both_from : (a b c d : ℕ) → (nat_le a b && nat_le c d) ≡ true → (a ≤ b) × (c ≤ d)
both_from a b c d is = (grind (arith, nat_tests), grind (arith, nat_tests))

spaced_are : (P : ℕ → Type 0) (scale : Scale) (from : ℕ) (days : List ℕ) → ((k d : ℕ) → k < length days → P (get_or days k d))
    → AreSpaced P scale from (spaced scale from days)
spaced_are P scale from [] all = tt
spaced_are P scale from (day ∷ days) all =
    let cell = cell_of scale day in
    let mark : Tick = record { cell = cell; instant = day } in
    let test = nat_le from cell && nat_le (cell + 21) scale.cells in
    let rest : (k d : ℕ) → k < length days → P (get_or days k d) = λ k d less. all (suc k) d (omega (arith, less)) in
    let here = all 0 0 (omega arith) in
    elim (cases_Bool test) [
      | inl passes ↦
          let both = both_from from cell (cell + 21) scale.cells passes in
          rw passes (both.0, both.1, refl, here, spaced_are P scale (cell + 12) days rest)
      | inr fails ↦ rw fails (spaced_are P scale from days rest)
    ]

later_cells : (P : ℕ → Type 0) (scale : Scale) (from : ℕ) (marks : List Tick) (k : ℕ) (d : Tick) → AreSpaced P scale from marks → k < length marks
    → from ≤ (get_or marks k d).cell
later_cells P scale from [] k d are less = absurd (omega arith)
later_cells P scale from (mark ∷ marks) zero d are less = are.0
later_cells P scale from (mark ∷ marks) (suc k) d are less =
    let later = later_cells P scale (mark.cell + 12) marks k d are.4 (omega (arith, less)) in omega (arith, later, are.0)

-- what is known of a mark
abbrev Known : (ℕ → Type 0) → Scale → Tick → Type 0
Known P scale mark = (mark.cell + 21 ≤ scale.cells) × (mark.cell ≡ cell_of scale mark.instant) × P mark.instant

known_at : (P : ℕ → Type 0) (scale : Scale) (from : ℕ) (marks : List Tick) (k : ℕ) (d : Tick) → AreSpaced P scale from marks → k < length marks
    → Known P scale (get_or marks k d)
known_at P scale from [] k d are less = absurd (omega arith)
known_at P scale from (mark ∷ marks) zero d are less = (are.1, are.2, are.3)
known_at P scale from (mark ∷ marks) (suc k) d are less = known_at P scale (mark.cell + 12) marks k d are.4 (omega (arith, less))

apart : (P : ℕ → Type 0) (scale : Scale) (from : ℕ) (marks : List Tick) → AreSpaced P scale from marks → AreApart marks
apart P scale from [] are k d less = absurd (omega arith)
apart P scale from (mark ∷ marks) are zero d less =
    let next : suc 0 ≡ 0 + 1 = omega arith in
    subst (λ (n : ℕ). mark.cell + 12 ≤ (get_or (mark ∷ marks) n d).cell) next
    (later_cells P scale (mark.cell + 12) marks 0 d are.4 (omega (arith, less)))
apart P scale from (mark ∷ marks) are (suc k) d less =
    let next : suc (k + 1) ≡ suc k + 1 = omega arith in
    subst (λ (n : ℕ). (get_or marks k d).cell + 12 ≤ (get_or (mark ∷ marks) n d).cell) next
    (apart P scale (mark.cell + 12) marks are.4 k d (omega (arith, less)))

-- ---- labels

abbrev IsDated : ℕ → Type 0
IsDated day = day ≤ 3652058

dated_text : (day : ℕ) → IsDated day → instant_text Dates day ≡ date_text (date_of day)
dated_text day dated = let test : nat_le day 3652058 ≡ true = grind (arith, nat_tests) in rw test refl

dated_label : (day : ℕ) → IsDated day → mark_label Dates day ≡ date_text (date_of day)
dated_label day dated =
    let test : nat_le day 3652058 ≡ true = grind (arith, nat_tests) in
    let other : (day == 1000000000000) ≡ false = grind (arith, nat_tests) in
    rw (test, other) refl

-- the labels from a column on, where the next mark is on this column or later
abbrev after_label : Scale → ℕ → Tick → List Tick → List ℕ → List ℕ
after_label scale column mark marks label =
    replicate (mark.cell - column) 32 ++ label ++ labels_from Dates scale (mark.cell + length label) marks

label_step : (scale : Scale) (column : ℕ) (mark : Tick) (marks : List Tick) → IsDated mark.instant
    → labels_from Dates scale column (mark ∷ marks) ≡ after_label scale column mark marks (date_text (date_of mark.instant))
label_step scale column mark marks dated = ap (after_label scale column mark marks) (dated_label mark.instant dated)

-- what follows spaces and a label of ten bytes
past_label : (n r : ℕ) (label rest : List ℕ) → length label ≡ 10 → drop (n + 10 + r) (replicate n 32 ++ label ++ rest) ≡ drop r rest
past_label n r label rest ten =
    let front = replicate n 32 ++ label in
    let long : length front ≡ n + 10 = omega (arith, length-append (replicate n 32) label, length-replicate {A = ℕ} n 32, ten) in
    sym (drop-drop r (n + 10) (front ++ rest)) ∙ ap (drop r) (drop_at front rest (n + 10) long)

label_here : (n : ℕ) (label rest : List ℕ) → length label ≡ 10 → take 10 (drop n (replicate n 32 ++ label ++ rest)) ≡ label
label_here n label rest ten =
    ap (λ l. take 10 (drop n l)) (append_assoc (replicate n 32) label rest)
    ∙ ap (take 10) (drop_at (replicate n 32) (label ++ rest) n (length-replicate n 32))
    ∙ take_at label rest 10 ten

label_at : (scale : Scale) (column from : ℕ) (marks : List Tick) (k : ℕ) (d : Tick) → column ≤ from → AreSpaced IsDated scale from marks → k < length marks
    → take 10 (drop ((get_or marks k d).cell - column) (labels_from Dates scale column marks)) ≡ date_text (date_of (get_or marks k d).instant)
label_at scale column from [] k d begun are less = absurd (omega arith)
label_at scale column from (mark ∷ marks) zero d begun are less =
    let label = date_text (date_of mark.instant) in
    ap (λ l. take 10 (drop (mark.cell - column) l)) (label_step scale column mark marks are.3)
    ∙ label_here (mark.cell - column) label (labels_from Dates scale (mark.cell + 10) marks) refl
label_at scale column from (mark ∷ marks) (suc k) d begun are less =
    let within : k < length marks = omega (arith, less) in
    let cell = (get_or marks k d).cell in
    let later = later_cells IsDated scale (mark.cell + 12) marks k d are.4 within in
    let label = date_text (date_of mark.instant) in
    let rest = labels_from Dates scale (mark.cell + 10) marks in
    let n = mark.cell - column in
    let r = cell - (mark.cell + 10) in
    let place : cell - column ≡ n + 10 + r = omega (arith, later, are.0, begun) in
    ap (λ l. take 10 (drop (cell - column) l)) (label_step scale column mark marks are.3)
    ∙ ap (λ p. take 10 (drop p (replicate n 32 ++ label ++ rest))) place
    ∙ ap (take 10) (past_label n r label rest refl)
    ∙ label_at scale (mark.cell + 10) (mark.cell + 12) marks k d (omega arith) are.4 within

-- ---- the ruler

ruler_at : (P : ℕ → Type 0) (scale : Scale) (cells column from : ℕ) (marks : List Tick) (k : ℕ) (d : Tick) → column ≤ from → AreSpaced P scale from marks
    → k < length marks → get_or (ruler_from cells column marks) ((get_or marks k d).cell - column) 0 ≡ 124
ruler_at P scale cells column from [] k d begun are less = absurd (omega arith)
ruler_at P scale cells column from (mark ∷ marks) zero d begun are less =
    let n = mark.cell - column in
    get_or_at (replicate n 45) 124 (ruler_from cells (mark.cell + 1) marks) 0 n (length-replicate n 45)
ruler_at P scale cells column from (mark ∷ marks) (suc k) d begun are less =
    let within : k < length marks = omega (arith, less) in
    let cell = (get_or marks k d).cell in
    let later = later_cells P scale (mark.cell + 12) marks k d are.4 within in
    let n = mark.cell - column in
    let rest = ruler_from cells (mark.cell + 1) marks in
    let past : n ≤ cell - column = omega (arith, later, are.0, begun) in
    let place : cell - column - n ≡ suc (cell - (mark.cell + 1)) = omega (arith, later, are.0, begun) in
    get_or-append_right (replicate n 45) (124 ∷ rest) n (cell - column) 0 (length-replicate n 45) past
    ∙ ap (λ p. get_or (124 ∷ rest) p 0) place
    ∙ ruler_at P scale cells (mark.cell + 1) (mark.cell + 12) marks k d (omega arith) are.4 within

-- ---- the law

abbrev InScale : Scale → ℕ → Type 0
InScale scale day = (is_first (mark_unit scale) day ≡ true) × (day ≤ 3652058) × (scale.first ≤ day) × (day < scale.last)

marks_spaced : (scale : Scale) → AreSpaced (InScale scale) scale 0 (day_marks scale)
unfolding day_marks
marks_spaced scale =
    let unit = mark_unit scale in
    spaced_are (InScale scale) scale 0 (days_to_mark scale)
    (λ k d less.
    let first = firsts unit scale.first scale.last k d less in
    let within = days_within unit scale.first scale.last k d less in
    (first.0, first.1, within.0, within.1))

only_dated : (scale : Scale) (from : ℕ) (marks : List Tick) → AreSpaced (InScale scale) scale from marks → AreSpaced IsDated scale from marks
only_dated scale from [] are = tt
only_dated scale from (mark ∷ marks) are = (are.0, are.1, are.2, are.3.1, only_dated scale (mark.cell + 12) marks are.4)

are_day_marks : (scale : Scale) → IsScale scale → marks_of Dates scale ≡ day_marks scale
    → All (IsDayMark scale (mark_unit scale)) (day_marks scale)
unfolding marks_text ruler_text
are_day_marks scale is same k d less =
    let marks = day_marks scale in
    let are = marks_spaced scale in
    let known = known_at (InScale scale) scale 0 marks k d are less in
    let mark = get_or marks k d in
    let day = known.2 in
    record {
      first = day.0;
      holds = subst (λ (cell : ℕ). Covers scale cell mark.instant) (sym known.1) (cell_covers scale is mark.instant day.2 day.3);
      room = known.0;
      label =
          ap (λ (n : ℕ). take n (drop mark.cell (labels_from Dates scale 0 (marks_of Dates scale)))) (let e : mark.cell + 10 - mark.cell ≡ 10 = omega arith in e)
          ∙ ap (λ (l : List Tick). take 10 (drop mark.cell (labels_from Dates scale 0 l))) same
          ∙ ap (λ (n : ℕ). take 10 (drop n (labels_from Dates scale 0 marks))) (let e : mark.cell ≡ mark.cell - 0 = omega arith in e)
          ∙ label_at scale 0 0 marks k d (omega arith) (only_dated scale 0 marks are) less
          ∙ sym (dated_text mark.instant day.1);
      ruler =
          ap (λ (l : List Tick). get_or (ruler_from scale.cells 0 l) mark.cell 0) same
          ∙ ap (λ (n : ℕ). get_or (ruler_from scale.cells 0 marks) n 0) (let e : mark.cell ≡ mark.cell - 0 = omega arith in e)
          ∙ ruler_at (InScale scale) scale scale.cells 0 0 marks k d (omega arith) are less;
    }

abbrev chosen : Scale → Bool → List Tick
chosen scale test = cond test (first_mark scale ∷ []) (day_marks scale)

one_apart : (mark : Tick) → AreApart (mark ∷ [])
one_apart mark k d less = absurd (omega arith)

pub marks_are_first_days : MarksAreFirstDays
unfolding marks_of
marks_are_first_days scale is =
    elim (cases_Bool (length (day_marks scale) == 0)) [
      | inl none ↦
          let first : marks_of Dates scale ≡ first_mark scale ∷ [] = ap (chosen scale) none in
          (inl first, subst AreApart (sym first) (one_apart (first_mark scale)))
      | inr some ↦
          let same : marks_of Dates scale ≡ day_marks scale = ap (chosen scale) some in (
            inr (subst (All (IsDayMark scale (mark_unit scale))) (sym same) (are_day_marks scale is same)),
            subst AreApart (sym same) (apart (InScale scale) scale 0 (day_marks scale) (marks_spaced scale)),
          )
    ]
