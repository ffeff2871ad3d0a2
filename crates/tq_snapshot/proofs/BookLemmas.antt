-- The one step of a book keeps its rule.
use Rattle.std.proofs.Common.{◌≡◌, ℕ, ◌+◌, ◌<◌, ◌≤◌, ◌==◌, Bool, true, false, List, [], ◌∷◌, ◌++◌, length, refl, ap, sym, subst, ◌∙◌, arith, inl, length-append, append-nil, None}
use Rattle.std.proofs.lemmas.Bool.{eqb-true}
use mathlib.Core.List.{IsPrefix}
use prog.Atomic.{either}
use Rattle.logbook.specs.Pages.{Cell, Goes, Moves, cell, keeps, no_nib, step}
use Rattle.tq_event.specs.declared.event.Event.{Event}
use Rattle.tq_snapshot.specs.Rules.{Appends, IsCounted}
use Rattle.tq_snapshot.proofs.PrefixLemmas.{begins_within, whole_begins}

abbrev pub hidden : List Event → List Event
hidden log = []

abbrev pub unmoved : List Event → List Event → ℕ → Type 0
unmoved before after answer = Unit {0}

-- whatever the word is found to be, the log continues as the rule says
goes_on : (log seen : List Event) (e : Event) (len : ℕ) → len ≤ length seen → IsPrefix seen log → (b : Bool) → (length log == len) ≡ b
    → Goes IsCounted hidden unmoved 0 (seen, (no_nib, None)) (λ n. either (n == len) (len + 1) n) (Appends (step 0 len (len + 1) e) (seen, (no_nib, None))) ((length log, true) ∷ (0, true) ∷ []) log
goes_on log seen e len low begins true is =
    let all : length log ≡ len = eqb-true (length log) len is in
    let within = begins_within seen log begins in
    let same : seen ≡ log = whole_begins seen log begins (omega (arith, all, low, within)) in
    let next : either (length log == len) (len + 1) (length log) ≡ length (log ++ e ∷ []) = rw is (let more = length-append log (e ∷ []) in omega (arith, more, all)) in (
      keeps,
      e ∷ [],
      None,
      tt,
      record { words = ap (λ (k : ℕ). (k, true) ∷ (0, true) ∷ []) next },
      inl (refl, refl),
      rw is (ap (λ w. w ++ e ∷ []) (sym same), ap length same ∙ all),
    )
goes_on log seen e len low begins false is =
    let next : either (length log == len) (len + 1) (length log) ≡ length (log ++ []) = rw is (ap length (sym (append-nil log))) in (
      keeps,
      [],
      None,
      tt,
      record { words = ap (λ (k : ℕ). (k, true) ∷ (0, true) ∷ []) next },
      inl (refl, refl),
      rw is tt,
    )

-- replacing a count by the next one is allowed
pub may_append : (seen : List Event) (e : Event) (len : ℕ) → len ≤ length seen
    → Moves IsCounted hidden unmoved 0 (seen, (no_nib, None)) (λ n. either (n == len) (len + 1) n) (Appends (step 0 len (len + 1) e) (seen, (no_nib, None)))
may_append seen e len low cells log kept begins away =
    let Next : List Cell → Type 0 = λ words. (0 < length words) × ((cell words 0).1 ≡ true) × Goes IsCounted hidden unmoved 0 (seen, (no_nib, None)) (λ n. either (n == len) (len + 1) n) (Appends (step 0 len (len + 1) e) (seen, (no_nib, None))) words log in
    subst Next (sym kept.words) (omega arith, refl, goes_on log seen e len low begins (length log == len) refl)
