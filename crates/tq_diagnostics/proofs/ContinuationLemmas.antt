-- What reading shows for a sample, and for a list of samples.
use Rattle.std.proofs.Common.{◌≡◌, ◌∙◌, ℕ, ◌+◌, ◌<◌, Bool, true, false, not, nat_eq, List, ◌++◌, Some, None, ap, sym, refl, subst, length, get_or, drop, map, append_assoc}
use Rattle.std.proofs.lemmas.Bool.{eqb-true, eqb-false}
use Rattle.std.proofs.lemmas.List.{drop_more}
use Rattle.tq_sql.specs.Laws.{FaultsAreUnique}
use Rattle.tq_sql.specs.declared.fault.SqlFault.{SqlFault}
use Rattle.tq_diagnostics.specs.Expected.{AreContinuations, Stops, StopsAt, CanContinue, name_if, trial}

-- a reading that stops nowhere does not stop at the sample
pub tells_nowhere : (front sample : List ℕ) → StopsAt (trial front sample) None → CanContinue front sample true
tells_nowhere front sample none stop = none stop.0 stop.1

-- a reading that stops somewhere stops at the sample exactly if that is the place
pub tells_where : (front sample : List ℕ) (at : ℕ) → FaultsAreUnique → StopsAt (trial front sample) (Some at)
    → CanContinue front sample (not (nat_eq at (length front + 1)))
tells_where front sample at unique stop = split (nat_eq at (length front + 1)) refl
  where
    split : (b : Bool) → nat_eq at (length front + 1) ≡ b → CanContinue front sample (not (nat_eq at (length front + 1)))
    split true e = subst (λ b. CanContinue front sample (not b)) (sym e) (stop.0, stop.1, stop.2 ∙ eqb-true at (length front + 1) e)
    split false e = subst (λ b. CanContinue front sample (not b)) (sym e) other
      where
        other : Stops front sample → ⊥
        other its = eqb-false at (length front + 1) e (sym stop.2 ∙ ap (λ (f : SqlFault). f.at) (unique (trial front sample) stop.0 its.0 stop.1 its.1) ∙ its.2)

-- if the samples from this place on give one text, all of them give the text before it and then that text
abbrev pub Goes : {X : Type 0} → (X → List ℕ × List ℕ) → List ℕ → List X → List ℕ → List ℕ → ℕ → Type 0
Goes f front all initial text place = (rest : List ℕ) → AreContinuations front (map f (drop place all)) rest
    → (reported : List ℕ) × AreContinuations front (map f all) reported × (text ++ rest ≡ initial ++ reported)

-- one sample more
pub told_step : {X : Type 0} (f : X → List ℕ × List ℕ) (front : List ℕ) (all : List X) (initial text : List ℕ) (place : ℕ) (d : X) → place < length all
    → (goes : Bool) → CanContinue front (f (get_or all place d)).1 goes
    → Goes f front all initial text place → Goes f front all initial (text ++ name_if goes (f (get_or all place d)).0) (place + 1)
told_step f front all initial text place d within goes tells before rest is = moved (before whole (subst (λ l. AreContinuations front (map f l) whole) (sym (drop_more all place d within)) (goes, tells, (rest, is, refl))))
  where
    name : List ℕ
    name = name_if goes (f (get_or all place d)).0

    whole : List ℕ
    whole = name ++ rest

    moved : ((reported : List ℕ) × AreContinuations front (map f all) reported × (text ++ whole ≡ initial ++ reported))
        → (reported : List ℕ) × AreContinuations front (map f all) reported × ((text ++ name) ++ rest ≡ initial ++ reported)
    moved reported = (reported.0, reported.1, append_assoc text name rest ∙ reported.2)
