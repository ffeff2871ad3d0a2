-- A sweep over starts and ends of periods: the invariant between two steps, and that each step preserves it.
use Rattle.std.proofs.Common.{◌≡◌, ℕ, suc, ◌+◌, ◌<◌, ◌≤◌, cond, List, [], ◌∷◌, ◌++◌, length, get_or, drop, map, count_by, sym, refl, ap, ◌∙◌, subst, arith, length-append}
use Rattle.std.specs.Prelude.{All, AllPairs, nat_le, IsSorted, IsPermutation}
use Rattle.std.specs.Ordering.{nat_cmp}
use Rattle.std.proofs.lemmas.List.{get_or_append_left, get_or_push, length-map, length-drop, drop_more}
use Rattle.std.proofs.lemmas.List.Sorted.{All-permutation, IsNonDecreasingBy-from_sort, sum_by-IsPermutation, length_permutation}
use Rattle.std.proofs.lemmas.List.Elements.{All-nil, All-cons, All-head, All-tail, All-push, All-weaker}
use Rattle.std.proofs.lemmas.List.Quantifiers.{all_pairs_push}
use Rattle.std.proofs.lemmas.List.Sums.{sum_by-cons, sum_by_push}
use Rattle.std.proofs.lemmas.Bool.Decides.{nat_tests}
use Rattle.tq_base.specs.declared.period.Period.{Period}
use Rattle.tq_base.specs.Periods.{holds}
use Rattle.tq_base.specs.Layers.{TakesIn}
use Rattle.tq_base.specs.Layering.{held, IsNested, IsLayering}

-- how many of the numbers are at most t
abbrev pub upto : List ℕ → ℕ → ℕ
upto xs t = count_by (λ x. nat_le x t) xs

abbrev pub Rises : List ℕ → Type 0
Rises xs = AllPairs (λ x y. x ≤ y) xs

pub upto-cons : (x : ℕ) (xs : List ℕ) (t : ℕ) → upto (x ∷ xs) t ≡ cond (nat_le x t) 1 0 + upto xs t
upto-cons x xs t = sum_by-cons (λ y. cond (nat_le y t) 1 0) x xs

pub upto-push : (xs : List ℕ) (x : ℕ) (t : ℕ) → upto (xs ++ x ∷ []) t ≡ upto xs t + cond (nat_le x t) 1 0
upto-push xs x t = sum_by_push (λ y. cond (nat_le y t) 1 0) xs x

pub held-cons : (p : Period) (ps : List Period) (t : ℕ) → held (p ∷ ps) t ≡ cond (holds p t) 1 0 + held ps t
held-cons p ps t = sum_by-cons (λ q. cond (holds q t) 1 0) p ps

pub held-push : (ps : List Period) (p : Period) (t : ℕ) → held (ps ++ p ∷ []) t ≡ held ps t + cond (holds p t) 1 0
held-push ps p t = sum_by_push (λ q. cond (holds q t) 1 0) ps p

-- a period holds an instant if it has begun and has not ended
held_one : (p : Period) (t : ℕ) → cond (holds p t) 1 0 + cond (nat_le p.end t) 1 0 ≡ cond (nat_le p.start t) 1 0
held_one p t = let o : p.start < p.end = p.ordered in grind (arith, nat_tests)

-- the number of periods that hold t: those that have begun without those that have ended
pub held-map : (ps : List Period) (t : ℕ) → held ps t + upto (map (λ p. p.end) ps) t ≡ upto (map (λ p. p.start) ps) t
held-map [] t = refl
held-map (p ∷ ps) t =
    omega (arith, held_one p t, held-map ps t, held-cons p ps t, upto-cons p.end (map (λ p. p.end) ps) t, upto-cons p.start (map (λ p. p.start) ps) t)

pub pairs_head : {X : Type 0} (R : X → X → Type 0) (x : X) (xs : List X) → AllPairs R (x ∷ xs) → All (R x) xs
pairs_head R x xs h k d lt = h 0 (suc k) d (omega arith) (omega arith)

pub pairs_tail : {X : Type 0} (R : X → X → Type 0) (x : X) (xs : List X) → AllPairs R (x ∷ xs) → AllPairs R xs
pairs_tail R x xs h i j d lt below = h (suc i) (suc j) d (omega arith) (omega arith)

pub pairs_front : {X : Type 0} (R : X → X → Type 0) (xs : List X) (y : X) → AllPairs R (xs ++ y ∷ []) → AllPairs R xs
pairs_front R xs y h i j d lt below =
    let all = h i j d lt (omega (arith, length-append xs (y ∷ []))) in
    rw (get_or_append_left xs (y ∷ []) d i (omega arith), get_or_append_left xs (y ∷ []) d j (omega arith)) at all

pub pairs_last : {X : Type 0} (R : X → X → Type 0) (xs : List X) (y : X) → AllPairs R (xs ++ y ∷ []) → All (λ x. R x y) xs
pairs_last R xs y h i d lt =
    let all = h i (length xs) d lt (omega (arith, length-append xs (y ∷ []))) in
    rw (get_or_append_left xs (y ∷ []) d i lt, get_or_push xs y d (length xs) refl) at all

pub all_front : {X : Type 0} (P : X → Type 0) (xs : List X) (y : X) → All P (xs ++ y ∷ []) → All P xs
all_front P xs y h i d lt =
    let all = h i d (omega (arith, length-append xs (y ∷ []))) in
    rw (get_or_append_left xs (y ∷ []) d i lt) at all

pub all_last : {X : Type 0} (P : X → Type 0) (xs : List X) (y : X) → All P (xs ++ y ∷ []) → P y
all_last P xs y h =
    let all = h (length xs) y (omega (arith, length-append xs (y ∷ []))) in
    rw (get_or_push xs y y (length xs) refl) at all

-- the invariant between two steps: the starts and ends still to come, the open starts, and the periods made
pub record Sweep (periods : List Period) (starts ends opened : List ℕ) (made : List Period) : Type 0 where
  pub balanced : (t : ℕ) → held made t + upto opened t + upto starts t ≡ held periods t + upto ends t
  pub paired : length opened + length starts ≡ length ends
  pub nested : IsNested made
  pub starts_rise : Rises starts
  pub ends_rise : Rises ends
  pub open_rises : Rises opened
  pub open_before_starts : All (λ s. All (λ r. r ≤ s) opened) starts
  pub open_before_ends : All (λ e. All (λ r. r < e) opened) ends
  pub made_before_ends : All (λ e. All (λ p. p.end ≤ e) made) ends
  pub made_before_starts : All (λ s. All (λ p. p.end < s) made) starts
  pub made_apart : All (λ r. All (λ p. p.start < r → p.end < r) made) opened

module _ (periods : List Period) where
  -- a start before the next end is opened
  pub opens : (s : ℕ) (starts : List ℕ) (e : ℕ) (ends opened : List ℕ) (made : List Period) → s < e → Sweep periods (s ∷ starts) (e ∷ ends) opened made → Sweep periods starts (e ∷ ends) (opened ++ s ∷ []) made
  opens s starts e ends opened made lt w = record {
    balanced = λ t. omega (arith, w.balanced t, upto-cons s starts t, upto-push opened s t);
    paired = omega (arith, w.paired, length-append opened (s ∷ []));
    nested = w.nested;
    starts_rise = pairs_tail (λ x y. x ≤ y) s starts w.starts_rise;
    ends_rise = w.ends_rise;
    open_rises = all_pairs_push (λ x y. x ≤ y) opened s w.open_rises (All-head (λ s. All (λ r. r ≤ s) opened) s starts w.open_before_starts);
    open_before_starts = λ k d below. All-push (λ r. r ≤ get_or starts k d) opened s (All-tail (λ s. All (λ r. r ≤ s) opened) s starts w.open_before_starts k d below) (pairs_head (λ x y. x ≤ y) s starts w.starts_rise k d below);
    open_before_ends = λ k d below. All-push (λ r. r < get_or (e ∷ ends) k d) opened s (w.open_before_ends k d below) (later k d below);
    made_before_ends = w.made_before_ends;
    made_before_starts = All-tail (λ s. All (λ p. p.end < s) made) s starts w.made_before_starts;
    made_apart = All-push (λ r. All (λ p. p.start < r → p.end < r) made) opened s w.made_apart (All-weaker (λ p. p.end < s) (λ p. p.start < s → p.end < s) (λ p before _. before) made (All-head (λ s. All (λ p. p.end < s) made) s starts w.made_before_starts));
  }
    where
      later : All (λ x. s < x) (e ∷ ends)
      later = All-cons (λ x. s < x) e ends lt (All-weaker (λ x. e ≤ x) (λ x. s < x) (λ x le. omega arith) ends (pairs_head (λ x y. x ≤ y) e ends w.ends_rise))

  -- a start at the next end cancels it
  pub cancels : (s : ℕ) (starts : List ℕ) (e : ℕ) (ends opened : List ℕ) (made : List Period) → s ≡ e → Sweep periods (s ∷ starts) (e ∷ ends) opened made → Sweep periods starts ends opened made
  cancels s starts e ends opened made same w = record {
    balanced = λ t. omega (arith, w.balanced t, upto-cons s starts t, upto-cons e ends t, ap {B = ℕ} (λ x. cond (nat_le x t) 1 0) same);
    paired = omega (arith, w.paired);
    nested = w.nested;
    starts_rise = pairs_tail (λ x y. x ≤ y) s starts w.starts_rise;
    ends_rise = pairs_tail (λ x y. x ≤ y) e ends w.ends_rise;
    open_rises = w.open_rises;
    open_before_starts = All-tail (λ s. All (λ r. r ≤ s) opened) s starts w.open_before_starts;
    open_before_ends = All-tail (λ e. All (λ r. r < e) opened) e ends w.open_before_ends;
    made_before_ends = All-tail (λ e. All (λ p. p.end ≤ e) made) e ends w.made_before_ends;
    made_before_starts = All-tail (λ s. All (λ p. p.end < s) made) s starts w.made_before_starts;
    made_apart = w.made_apart;
  }

  -- if every start to come is after the next end, the newest open start ends there
  pub closes : (starts : List ℕ) (e : ℕ) (ends opened : List ℕ) (p : Period) (made : List Period) → p.end ≡ e → All (λ s. e < s) starts → Sweep periods starts (e ∷ ends) (opened ++ p.start ∷ []) made → Sweep periods starts ends opened (made ++ p ∷ [])
  closes starts e ends opened p made same after w = record {
    balanced = λ t. omega (arith, w.balanced t, held-push made p t, upto-push opened p.start t, upto-cons e ends t, held_one p t, ap {B = ℕ} (λ x. cond (nat_le x t) 1 0) same);
    paired = omega (arith, w.paired, length-append opened (p.start ∷ []));
    nested = All-push (λ f. All (λ g. TakesIn f g) (made ++ p ∷ [])) made p
        (λ k d below. All-push (λ g. TakesIn (get_or made k d) g) made p (w.nested k d below) (λ begins meets. absurd (omega (arith, all_last (λ r. All (λ p. p.start < r → p.end < r) made) opened p.start w.made_apart k d below begins))))
        (All-push (λ g. TakesIn p g) made p (All-weaker (λ g. g.end ≤ e) (λ g. TakesIn p g) (λ g le begins meets. omega arith) made (All-head (λ e. All (λ p. p.end ≤ e) made) e ends w.made_before_ends)) (λ begins meets. omega arith));
    starts_rise = w.starts_rise;
    ends_rise = pairs_tail (λ x y. x ≤ y) e ends w.ends_rise;
    open_rises = pairs_front (λ x y. x ≤ y) opened p.start w.open_rises;
    open_before_starts = λ k d below. all_front (λ r. r ≤ get_or starts k d) opened p.start (w.open_before_starts k d below);
    open_before_ends = λ k d below. all_front (λ r. r < get_or ends k d) opened p.start (All-tail (λ e. All (λ r. r < e) (opened ++ p.start ∷ [])) e ends w.open_before_ends k d below);
    made_before_ends = λ k d below. All-push (λ q. q.end ≤ get_or ends k d) made p (All-tail (λ e. All (λ p. p.end ≤ e) made) e ends w.made_before_ends k d below) (let le = pairs_head (λ x y. x ≤ y) e ends w.ends_rise k d below in omega arith);
    made_before_starts = λ k d below. All-push (λ q. q.end < get_or starts k d) made p (w.made_before_starts k d below) (let lt = after k d below in omega arith);
    made_apart = λ k d below. All-push (λ q. q.start < get_or opened k d → q.end < get_or opened k d) made p (all_front (λ r. All (λ p. p.start < r → p.end < r) made) opened p.start w.made_apart k d below) (λ begins. absurd (omega (arith, pairs_last (λ x y. x ≤ y) opened p.start w.open_rises k d below)));
  }

-- no number is at most t if all are greater
pub upto_none : (xs : List ℕ) (t : ℕ) → All (λ x. t < x) xs → upto xs t ≡ 0
upto_none [] t above = refl
upto_none (x ∷ xs) t above =
    let first : t < x = All-head (λ x. t < x) x xs above in
    let rest = upto_none xs t (All-tail (λ x. t < x) x xs above) in
    let sum = upto-cons x xs t in
    grind (arith, nat_tests)

-- no period holds t if each ends at or before t
pub held_none : (ps : List Period) (t : ℕ) → All (λ p. p.end ≤ t) ps → held ps t ≡ 0
held_none [] t before = refl
held_none (p ∷ ps) t before =
    let first : p.end ≤ t = All-head (λ p. p.end ≤ t) p ps before in
    let rest = held_none ps t (All-tail (λ p. p.end ≤ t) p ps before) in
    let sum = held-cons p ps t in
    grind (arith, nat_tests)

upto_one : (x : ℕ) (n : ℕ) → n ≡ cond (nat_le x x) 1 0 → n ≡ 1
upto_one x n e = grind (arith, nat_tests)

-- if every start to come is after the next end, at least one start is open
pub some_open : (periods : List Period) (starts : List ℕ) (e : ℕ) (ends opened : List ℕ) (made : List Period) → All (λ s. e < s) starts → Sweep periods starts (e ∷ ends) opened made → 0 < length opened
some_open periods starts e ends [] made after w =
    absurd (omega (arith, w.balanced e, upto_none starts e after, held_none made e (All-head (λ e. All (λ p. p.end ≤ e) made) e ends w.made_before_ends), upto-cons e ends e, upto_one e _ refl))
some_open periods starts e ends (r ∷ opened) made after w = omega arith

-- at the end, the periods made are the layering
pub finished : (periods : List Period) (starts opened : List ℕ) (made : List Period) → Sweep periods starts [] opened made → IsLayering periods made
finished periods [] [] made w = record { nested = w.nested; held_alike = λ t. omega (arith, w.balanced t) }
finished periods (s ∷ starts) opened made w = absurd (omega (arith, w.paired))
finished periods [] (r ∷ opened) made w = absurd (omega (arith, w.paired))

Rises-from_sort : (xs : List ℕ) → IsSorted nat_cmp xs → Rises xs
Rises-from_sort xs sorted i j d lt below = IsNonDecreasingBy-from_sort (λ x. x) xs sorted i j d (omega arith) below

-- the invariant holds at first, with nothing open and nothing made
pub begun : (periods : List Period) (starts ends : List ℕ) → IsPermutation (map (λ p. p.start) periods) starts → IsSorted nat_cmp starts → IsPermutation (map (λ p. p.end) periods) ends → IsSorted nat_cmp ends → Sweep periods starts ends [] []
begun periods starts ends starts_same starts_sorted ends_same ends_sorted = record {
  balanced = λ t. omega (arith, held-map periods t, sum_by-IsPermutation (λ (x : ℕ). cond (nat_le x t) 1 0) (map (λ p. p.start) periods) starts starts_same, sum_by-IsPermutation (λ (x : ℕ). cond (nat_le x t) 1 0) (map (λ p. p.end) periods) ends ends_same);
  paired = omega (arith, length_permutation (map (λ p. p.start) periods) starts starts_same, length_permutation (map (λ p. p.end) periods) ends ends_same, length-map periods (λ (p : Period). p.start), length-map periods (λ (p : Period). p.end));
  nested = All-nil (λ f. All (λ g. TakesIn f g) []);
  starts_rise = Rises-from_sort starts starts_sorted;
  ends_rise = Rises-from_sort ends ends_sorted;
  open_rises = λ i j d lt below. absurd (omega arith);
  open_before_starts = λ k d below. All-nil (λ r. r ≤ get_or starts k d);
  open_before_ends = λ k d below. All-nil (λ r. r < get_or ends k d);
  made_before_ends = λ k d below. All-nil (λ p. p.end ≤ get_or ends k d);
  made_before_starts = λ k d below. All-nil (λ p. p.end < get_or starts k d);
  made_apart = All-nil (λ r. All (λ p. p.start < r → p.end < r) []);
}

-- every start from place i on is after the end, if the starts are in order and the one at place i is
pub all_after : (starts : List ℕ) (i e : ℕ) → Rises (drop i starts) → (i < length starts → e < get_or starts i 0) → All (λ s. e < s) (drop i starts)
all_after starts i e rise first k d below =
    let here : i < length starts = omega (arith, length-drop i starts) in
    let split = drop_more starts i 0 here in
    subst (All (λ s. e < s)) (sym split)
    (All-cons (λ s. e < s) (get_or starts i 0) (drop (i + 1) starts) (first here)
    (All-weaker (λ s. get_or starts i 0 ≤ s) (λ s. e < s) (λ s le. let lt = first here in omega arith) (drop (i + 1) starts)
    (pairs_head (λ x y. x ≤ y) (get_or starts i 0) (drop (i + 1) starts) (rw split at rise))))
    k d below

-- the rest of the list from place i on begins with the element at place i
pub drop_read : {X : Type 0} (xs : List X) (i : ℕ) (x : X) → i < length xs → x ≡ get_or xs i x → drop i xs ≡ x ∷ drop (i + 1) xs
drop_read xs i x lt is = drop_more xs i x lt ∙ ap (λ y. y ∷ drop (i + 1) xs) (sym is)

-- the steps, for lists that are given by equations
module _ (periods : List Period) {starts ends opened : List ℕ} {made : List Period} (w : Sweep periods starts ends opened made) where
  pub opens_by : (s e : ℕ) (starts' ends' : List ℕ) → starts ≡ s ∷ starts' → ends ≡ e ∷ ends' → s < e → Sweep periods starts' ends (opened ++ s ∷ []) made
  opens_by s e starts' ends' a b lt = rw b (opens periods s starts' e ends' opened made lt (rw (a, b) at w))

  pub cancels_by : (s e : ℕ) (starts' ends' : List ℕ) → starts ≡ s ∷ starts' → ends ≡ e ∷ ends' → s ≡ e → Sweep periods starts' ends' opened made
  cancels_by s e starts' ends' a b same = cancels periods s starts' e ends' opened made same (rw (a, b) at w)

  pub closes_by : (p : Period) (ends' opened' : List ℕ) → ends ≡ p.end ∷ ends' → opened ≡ opened' ++ p.start ∷ [] → All (λ s. p.end < s) starts → Sweep periods starts ends' opened' (made ++ p ∷ [])
  closes_by p ends' opened' a b after = closes periods starts p.end ends' opened' p made refl after (rw (a, b) at w)

  pub opened_before : (s e : ℕ) (ends' opened' : List ℕ) → ends ≡ e ∷ ends' → opened ≡ opened' ++ s ∷ [] → s < e
  opened_before s e ends' opened' a b =
      let v : Sweep periods starts (e ∷ ends') (opened' ++ s ∷ []) made = rw (a, b) at w in
      all_last (λ r. r < e) opened' s (All-head (λ e. All (λ r. r < e) (opened' ++ s ∷ [])) e ends' v.open_before_ends)

  pub some_open_by : (e : ℕ) (ends' : List ℕ) → ends ≡ e ∷ ends' → All (λ s. e < s) starts → 0 < length opened
  some_open_by e ends' a after = some_open periods starts e ends' opened made after (rw a at w)

-- a layering stays one in any order
pub reordered : (periods layering sorted : List Period) → IsPermutation layering sorted → IsLayering periods layering → IsLayering periods sorted
reordered periods layering sorted same is = record {
  nested = All-permutation (λ p. All (λ q. TakesIn p q) sorted) layering sorted same (λ k d lt. All-permutation (λ q. TakesIn (get_or layering k d) q) layering sorted same (is.nested k d lt));
  held_alike = λ t. sum_by-IsPermutation (λ (p : Period). cond (holds p t) 1 0) layering sorted same ∙ is.held_alike t;
}
