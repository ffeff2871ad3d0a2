-- The fold finds the first of the nearest names.
use Rattle.std.proofs.Common.{◌≡◌, ℕ, zero, suc, ◌+◌, ◌<◌, ◌≤◌, ◌⊎◌, inl, inr, Bool, true, false, if◌then◌else◌, List, [], ◌∷◌, ◌++◌, Option, Some, None, ap, sym, refl, subst, arith, nat_lt}
use Rattle.std.specs.List.{fold}
use Rattle.std.specs.Prelude.{All}
use Rattle.std.proofs.lemmas.Bool.Decides.{nat_tests}
use Rattle.tq_diagnostics.specs.Nearest.{Best, IsNearestIf, better, distance, nearest, reach}

-- of one element more
all_more : {X : Type 0} (P : X → Type 0) (x : X) (xs : List X) → P x → All P xs → All P (x ∷ xs)
all_more P x xs first rest zero d within = first
all_more P x xs first rest (suc k) d within = rest k d (omega (arith, within))

module _ (word : List ℕ) where
  -- what a fold from a distance finds: nothing, if no name is nearer than that; else the first of the nearest
  abbrev Finds : ℕ → Option (List ℕ) → List (List ℕ) → Best → Type 0
  Finds least before names best =
      ((best ≡ (least, before)) × All (λ other. least ≤ distance word other) names)
      ⊎ ((name : List ℕ) × (front : List (List ℕ)) × (back : List (List ℕ)) × (best ≡ (distance word name, Some name))
      × (names ≡ front ++ name ∷ back) × (distance word name < least)
      × All (λ other. distance word name < distance word other) front × All (λ other. distance word name ≤ distance word other) back)

  finds : (names : List (List ℕ)) (least : ℕ) (before : Option (List ℕ)) → Finds least before names (fold (better word) (least, before) names)
  finds [] least before = inl (refl, (λ k d within. absurd (omega (arith, within))))
  finds (name ∷ names) least before = by (nat_lt (distance word name) least) refl (λ l b. finds names l b)
    where
      by : (nearer : Bool) → nat_lt (distance word name) least ≡ nearer
          → ((l : ℕ) (b : Option (List ℕ)) → Finds l b names (fold (better word) (l, b) names))
          → Finds least before (name ∷ names) (fold (better word) (if nearer then (distance word name, Some name) else (least, before)) names)
      by true is later =
          let closer : distance word name < least = grind (arith, nat_tests) in
          elim (later (distance word name) (Some name)) [
            | inl none ↦ inr (name, [], names, none.0, refl, closer, (λ k d within. absurd (omega (arith, within))), none.1)
            | inr some ↦ inr (some.0, name ∷ some.1, some.2, some.3, ap (λ (l : List (List ℕ)). name ∷ l) some.4, omega (arith, some.5, closer), all_more (λ other. distance word some.0 < distance word other) name some.1 some.5 some.6, some.7)
          ]
      by false is later =
          let farther : least ≤ distance word name = grind (arith, nat_tests) in
          elim (later least before) [
            | inl none ↦ inl (none.0, all_more (λ other. least ≤ distance word other) name names farther none.1)
            | inr some ↦ inr (some.0, name ∷ some.1, some.2, some.3, ap (λ (l : List (List ℕ)). name ∷ l) some.4, some.5, all_more (λ other. distance word some.0 < distance word other) name some.1 (omega (arith, some.5, farther)) some.6, some.7)
          ]

  pub nearest_is : (names : List (List ℕ)) → IsNearestIf word names (nearest word names)
  unfolding nearest
  nearest_is names = elim (finds names (reach word) None) [
    | inl none ↦ subst (λ (best : Best). IsNearestIf word names best.1) (sym none.0) none.1
    | inr some ↦ subst (λ (best : Best). IsNearestIf word names best.1) (sym some.3)
        (record { before = some.1; after = some.2; among = some.4; near = some.5; first = some.6; least = some.7 })
  ]
