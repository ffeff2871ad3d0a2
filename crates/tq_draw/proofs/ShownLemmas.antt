-- The rows that a picture shows, as the rows at some places.
use Rattle.std.proofs.Common.{◌≡◌, ◌∙◌, ℕ, ◌+◌, ◌<◌, Bool, true, false, cond, List, [], ◌∷◌, ◌++◌, map, take, length, get_or, ap, sym, append-nil}
use Rattle.std.proofs.lemmas.List.{map-append}
use Rattle.std.proofs.lemmas.List.Elements.{filter_more}
use Rattle.std.specs.List.{filter}
use Rattle.tq_base.specs.Keys.{no_row}
use Rattle.tq_base.specs.declared.fragment.Fragment.{Fragment}

abbrev pub at_places : List Fragment → List ℕ → List Fragment
at_places rows places = map (λ place. get_or rows place no_row) places

-- one more row, which is shown
pub shown_more : (p : Fragment → Bool) (rows : List Fragment) (places : List ℕ) (i : ℕ) → i < length rows
    → at_places rows places ≡ filter p (take i rows) → p (get_or rows i no_row) ≡ true
    → at_places rows (places ++ i ∷ []) ≡ filter p (take (i + 1) rows)
shown_more p rows places i within is passes =
    map-append (λ place. get_or rows place no_row) places (i ∷ [])
    ∙ ap (λ l. l ++ get_or rows i no_row ∷ []) is
    ∙ sym (filter_more p rows i no_row within ∙ ap (λ b. filter p (take i rows) ++ cond b (get_or rows i no_row ∷ []) []) passes)

-- one more row, which is not shown
pub shown_same : (p : Fragment → Bool) (rows : List Fragment) (places : List ℕ) (i : ℕ) → i < length rows
    → at_places rows places ≡ filter p (take i rows) → p (get_or rows i no_row) ≡ false
    → at_places rows places ≡ filter p (take (i + 1) rows)
shown_same p rows places i within is fails =
    is ∙ sym (filter_more p rows i no_row within ∙ ap (λ b. filter p (take i rows) ++ cond b (get_or rows i no_row ∷ []) []) fails
    ∙ append-nil (filter p (take i rows)))
