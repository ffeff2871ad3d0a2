-- Results with the numbers of their pieces go to the slots of their pieces.
use native.Mathlib.Decide.{dec_le, ℕ_discrete}
use mathlib.Core.Logic.{dite}
use Rattle.std.proofs.Common.{Option, Some, IsSomeAnd, get_or, set, subst, length-set, get_or-set_same, get_or-set_other, lt_of_not-le, ◌≡◌, ℕ, ◌+◌, ◌<◌, ◌≤◌, List, [], ◌∷◌, ◌++◌, length, refl, sym, ap, ◌∙◌, arith, append_assoc, append-nil, length-append}
use Rattle.std.proofs.Math.Seq.{get_or-append_seam}
use Rattle.std.proofs.lemmas.List.{map-append, get_or_append_left}
use Rattle.tq_run.specs.Counting.{times, EachOnce}
use Rattle.tq_run.specs.Results.{IsResultList}
use Rattle.tq_run.specs.Sharing.{numbers, ResultsRelate, AllFilled}
use Rattle.tq_run.proofs.Counts.{times-append, times_here, times_elsewhere}

pub no_items : {A : Type 0} (xs : List A) → length xs ≡ 0 → xs ≡ []
no_items [] e = refl
no_items (x ∷ xs) e = absurd (omega arith)

-- if no items remain, all are done
pub all_come : {A : Type 0} (done rest all : List A) → done ++ rest ≡ all → length rest ≡ 0 → done ≡ all
all_come done rest all is none = sym (append-nil done) ∙ ap (λ l. done ++ l) (sym (no_items rest none)) ∙ is

module _ {A : Type 0} where
  pub numbers-append : (xs ys : List (ℕ × A)) → numbers (xs ++ ys) ≡ numbers xs ++ numbers ys
  numbers-append xs ys = map-append (λ (q : ℕ × A). q.0) xs ys

  -- a number of a list that has each number below n exactly once is below n
  pub below_count : (n i : ℕ) (x : A) (done rest all : List (ℕ × A)) → EachOnce (numbers all) n → done ++ (i, x) ∷ rest ≡ all → i < n
  below_count n i x done rest all once is = elim (dec_le n i) [
    | yes h ↦
        let none = (once i).1 h in
        let split : numbers all ≡ numbers done ++ (i ∷ []) ++ numbers rest = ap numbers (sym is) ∙ numbers-append done ((i, x) ∷ rest) ∙ sym (append_assoc (numbers done) (i ∷ []) (numbers rest)) in
        let here = times_here i i refl in
        let both = times-append i (numbers done ++ i ∷ []) (numbers rest) in
        let left = times-append i (numbers done) (i ∷ []) in
        let same = ap (times i) split in
        absurd (omega arith)
    | no h ↦ lt_of_not-le h
  ]

module _ {A : Type 0} (relates : ℕ → A → Type 0) where
  relates_at : (i : ℕ) (x : A) (done rest all : List (ℕ × A)) → ResultsRelate relates all → done ++ (i, x) ∷ rest ≡ all → relates i x
  relates_at i x done rest all each is =
      let at = get_or-append_seam done (i, x) rest (i, x) in
      let long = length-append done ((i, x) ∷ rest) in
      let here = subst (ResultsRelate relates) (sym is) each (length done) (i, x) (omega arith) in
      subst (λ (q : ℕ × A). relates q.0 q.1) at here

  -- there are as many slots as pieces, and the slot of each number of the list has a result of its piece
  abbrev pub IsFilled : ℕ → List ℕ → List (Option A) → Type 0
  IsFilled count done places = (length places ≡ count) × ((i : ℕ) (d : Option A) → i < count → 1 ≤ times i done → IsSomeAnd (get_or places i d) (relates i))

  pub filled_none : (n : ℕ) (places : List (Option A)) → length places ≡ n → IsFilled n [] places
  filled_none n places e = (e, λ i d h t. absurd (omega arith))

  filled_more : (n i : ℕ) (x : A) (done : List ℕ) (places : List (Option A)) → i < n → relates i x → IsFilled n done places → IsFilled n (done ++ i ∷ []) (set places i (Some x))
  filled_more n i x done places h mine f = (length-set places i (Some x) ∙ f.0, each)
    where
      each : (j : ℕ) (d : Option A) → j < n → 1 ≤ times j (done ++ i ∷ []) → IsSomeAnd (get_or (set places i (Some x)) j d) (relates j)
      each j d l t = dite (ℕ_discrete j i)
          (λ same.
          let here = ap (λ z. get_or (set places i (Some x)) z d) same ∙ get_or-set_same places i (Some x) d (let e = f.0 in omega arith) in
          subst (λ o. IsSomeAnd o (relates j)) (sym here) (subst (λ z. relates z x) (sym same) mine))
          (λ other.
          let a = times-append j done (i ∷ []) in let none = times_elsewhere j i (λ e. other (sym e)) in
          subst (λ o. IsSomeAnd o (relates j)) (sym (get_or-set_other places i j (Some x) d other)) (f.1 j d l (omega arith)))

  -- one more result is put into its slot
  pub filled_next : (n i : ℕ) (x : A) (done rest all : List (ℕ × A)) (places : List (Option A)) → EachOnce (numbers all) n → ResultsRelate relates all → done ++ (i, x) ∷ rest ≡ all
      → IsFilled n (numbers done) places → IsFilled n (numbers (done ++ (i, x) ∷ [])) (set places i (Some x))
  filled_next n i x done rest all places once each is f =
      subst (λ l. IsFilled n l (set places i (Some x))) (sym (numbers-append done ((i, x) ∷ [])))
      (filled_more n i x (numbers done) places (below_count n i x done rest all once is) (relates_at i x done rest all each is) f)

  pub filled_all : (n : ℕ) (done : List ℕ) (places : List (Option A)) → EachOnce done n → IsFilled n done places → AllFilled relates n places
  filled_all n done places once f = (f.0, λ i d h. let t = (once i).0 h in f.1 i d h (omega arith))

  -- the next slot has a result of its piece
  pub next_filled : (n : ℕ) (done : List (Option A)) (s : Option A) (rest all : List (Option A)) → AllFilled relates n all → done ++ s ∷ rest ≡ all → IsSomeAnd s (relates (length done))
  next_filled n done s rest all f is =
      let long = length-append done (s ∷ rest) in let total = ap length is in let count = f.0 in
      let at = ap (λ l. get_or l (length done) s) (sym is) ∙ get_or-append_seam done s rest s in
      subst (λ o. IsSomeAnd o (relates (length done))) at (f.1 (length done) s (omega arith))

  -- one more result is taken out
  pub results_next : (n : ℕ) (x : A) (xs ys : List A) → relates n x → IsResultList relates n xs → ys ≡ xs ++ x ∷ [] → IsResultList relates (n + 1) ys
  results_next n x xs ys mine h is = subst (IsResultList relates (n + 1)) (sym is) (length-append xs (x ∷ []) ∙ ap (λ z. z + 1) h.0, each)
    where
      each : (i : ℕ) (d : A) → i < n + 1 → relates i (get_or (xs ++ x ∷ []) i d)
      each i d l = elim (dec_le n i) [
        | yes ge ↦ let len = h.0 in let here : length xs ≡ i = omega arith in let same : n ≡ i = omega arith in
            subst (λ z. relates i (get_or (xs ++ x ∷ []) z d)) here (subst (relates i) (sym (get_or-append_seam xs x [] d)) (subst (λ z. relates z x) same mine))
        | no lt ↦ let len = h.0 in let low = lt_of_not-le lt in subst (relates i) (sym (get_or_append_left xs (x ∷ []) d i (omega arith))) (h.1 i d low)
      ]
