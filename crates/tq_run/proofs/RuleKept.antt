-- Each kind of step keeps the claims' rule.
use Rattle.std.proofs.Common.{◌≡◌, ◌≢◌, ⊎_elim, ℕ, ◌+◌, ◌%◌, ◌^◌, ◌<◌, ◌≤◌, min, Bool, true, false, cond, true≢false, List, [], ◌∷◌, ◌++◌, length, get_or, set, sum_by, refl, sym, ap, ◌∙◌, subst, arith, lt_of_not-le, length-append, length-set, get_or-set_same}
use mathlib.Core.Logic.{dite}
use mathlib.Core.Option.{none, some}
use native.Mathlib.Decide.{dec_le, ℕ_discrete}
use lib.ListN.{get_elem?}
use Rattle.atomic_table.specs.Table.{State, Me, step, keeps, stepped, Allows, Splits, Joins, Final, Seen}
use Rattle.atomic_table.proofs.Lists.{at_set, at_snoc}
use Rattle.tq_run.specs.declared.seat_view.SeatView.{SeatView}
use Rattle.tq_run.specs.Counting.{times, EachOnce}
use Rattle.tq_run.specs.ClaimRule.{times_in_all, is_marked, is_spent, added_view, after_split, after_join, spent_view, after_taking, after_exhausted, Fits, Claimed, ClaimRecords}
use Rattle.tq_run.proofs.Counts.{times-append, times_here, times_elsewhere}
use Rattle.tq_run.proofs.Views.{sum-set, sum-snoc, le-sum, marked-length, marked_one, one_left}

abbrev St : Type 0
St = State (Unit {0}) SeatView

-- the number of numbers of a view
abbrev many_of : SeatView → ℕ
many_of v = length v.taken

-- the number of times that a view has x
abbrev times_of : ℕ → SeatView → ℕ
times_of x v = times x v.taken

-- the rule for the lists, at the word n
record Listed (p n : ℕ) (views : List SeatView) : Type 0 where
  pub once : (x : ℕ) → x < min n p → times_in_all x views ≡ 1
  pub none : (x : ℕ) → min n p ≤ x → times_in_all x views ≡ 0
  pub many : sum_by many_of views ≡ min n p

-- a step on the word, after which seat id knows w

placed : (p : ℕ) (s : St) → Claimed p s → (id : ℕ) (v : SeatView) (n : ℕ) (w : SeatView) (c : List (ℕ × Unit {0})) → get_elem? s.views id ≡ some v → get_or s.words 0 0 ≤ n
    → Listed p n (set s.views id w) → n ≤ p + sum_by is_marked (set s.views id w)
    → is_spent w ≡ is_spent v → Fits p n (set s.views id w) id w → Claimed p (stepped s 0 n id c w keeps)
placed p s r id v n w c at rises listed past same fits =
    let one = r.one_word in
    let is : get_or (set s.words 0 n) 0 0 ≡ n = get_or-set_same s.words 0 n 0 (omega arith) in
    let wide : length (set s.views id w) ≡ length s.views = length-set s.views id w in
    let all = sum-set is_spent s.views id v w at in
    let spends : sum_by is_spent (set s.views id w) ≡ sum_by is_spent s.views = omega arith in
    let now : Listed p (get_or (set s.words 0 n) 0 0) (set s.views id w) = subst (λ z. Listed p z (set s.views id w)) (sym is) listed in record {
      one_word = length-set s.words 0 n ∙ one;
      small = r.small;
      once = now.once;
      none = now.none;
      many = now.many;
      past = subst (λ z. z ≤ p + sum_by is_marked (set s.views id w)) (sym is) past;
      seats = subst (λ z. z ≤ 16) (sym wide) r.seats;
      each = λ seat u e. subst (λ z. Fits p z (set s.views id w) seat u) (sym is)
          (⊎_elim
          (λ (t : (seat ≡ id) × (w ≡ u)). subst (λ (q : ℕ × SeatView). Fits p n (set s.views id w) q.0 q.1) (λ i. (sym t.0 i, t.1 i)) fits)
          (λ (t : (seat ≢ id) × (get_elem? s.views seat ≡ some u)). let old = r.each seat u t.1 in record {
            pieces = old.pieces;
            leads = λ f. let l = old.leads f in (l.0, wide ∙ l.1, spends ∙ l.2);
            exhausted = λ a b. let le = old.exhausted a b in omega arith;
            spent = old.spent;
          })
          (at_set s.views id seat w u e));
    }

-- the lists stay the same if the claimed number is not that of a piece
listed_past : (p n : ℕ) (s : St) → Claimed p s → (id : ℕ) (v : SeatView) → get_elem? s.views id ≡ some v → get_or s.words 0 0 ≡ n → p ≤ n → Listed p (n + 1) (set s.views id (after_exhausted v))
listed_past p n s r id v at word past =
    let views : List SeatView = set s.views id (after_exhausted v) in
    let a : min (get_or s.words 0 0) p ≡ p = omega arith in let b : min (n + 1) p ≡ p = omega arith in
    let all : (x : ℕ) → times_in_all x views ≡ times_in_all x s.views = λ x. let y = sum-set (times_of x) s.views id v (after_exhausted v) at in omega arith in
    let y = sum-set many_of s.views id v (after_exhausted v) at in let m = r.many in record {
      once = λ x l. all x ∙ r.once x (omega arith);
      none = λ x l. all x ∙ r.none x (omega arith);
      many = omega arith;
    }

-- the claimed number is added to one list
listed_more : (p n : ℕ) (s : St) → Claimed p s → (id : ℕ) (v : SeatView) → get_elem? s.views id ≡ some v → get_or s.words 0 0 ≡ n → n < p → Listed p (n + 1) (set s.views id (after_taking v n))
listed_more p n s r id v at word piece =
    let w : SeatView = after_taking v n in let views : List SeatView = set s.views id w in
    let a : min (get_or s.words 0 0) p ≡ n = omega arith in let b : min (n + 1) p ≡ n + 1 = omega arith in
    let all : (x : ℕ) → times_in_all x views ≡ times_in_all x s.views + times x (n ∷ []) = λ x. let y = sum-set (times_of x) s.views id v w at in let c = times-append x v.taken (n ∷ []) in omega arith in
    let y = sum-set many_of s.views id v w at in let m = r.many in let long = length-append v.taken (n ∷ []) in record {
      once = λ x l. let l' : x < n + 1 = omega arith in dite (ℕ_discrete n x)
          (λ here. let o = times_here x n here in let z = r.none x (omega arith) in let e = all x in omega arith)
          (λ other. let o = times_elsewhere x n other in let k = below x n other l' in let z = r.once x (omega arith) in let e = all x in omega arith);
      none = λ x l. let o = times_elsewhere x n (λ e. absurd (omega arith)) in let z = r.none x (omega arith) in let e = all x in omega arith;
      many = omega arith;
    }
  where
    below : (x n : ℕ) → n ≢ x → x < n + 1 → x < n
    below x n other l = elim (dec_le n x) [ yes h ↦ absurd (other (omega arith)) | no h ↦ lt_of_not-le h ]

pub takes : (p slots id : ℕ) (m : Me (Unit {0}) SeatView) → m.0.exhausted ≡ false → m.0.spent ≡ false → Allows (Claimed p) slots id m 0 (λ n. (n + 1) % 2 ^ 64) (ClaimRecords (step slots 0 1 0 none) m)
takes p slots id m not_exhausted fresh s r _ at _ =
    let v : SeatView = m.0 in let n : ℕ = get_or s.words 0 0 in
    let past = r.past in let few = r.seats in let little = r.small in let bound = marked-length s.views in
    let next : n + 1 ≡ (n + 1) % 2 ^ 64 = omega arith in
    let mine = r.each id v at in
    let sized = mine.pieces fresh in
    let wide = length-set s.views id in
    elim (dec_le p n) [
      | yes h ↦
          let w : SeatView = after_exhausted v in
          let t = sum-set is_marked s.views id v w at in
          let before : is_marked v ≡ 0 = ap (λ (z : Bool × Bool). cond z.0 1 (cond z.1 1 0)) (λ i. (fresh i, not_exhausted i)) in
          let after : is_marked w ≡ 1 = ap (λ (z : Bool). cond z 1 1) fresh in
          let x = sum-set is_spent s.views id v w at in (
            w,
            keeps,
            tt,
            subst (λ z. Claimed p (stepped s 0 z id m.1 w keeps)) next
                (placed p s r id v (n + 1) w m.1 at (omega arith) (listed_past p n s r id v at refl h) (omega arith) refl
                record {
                  pieces = λ _. sized;
                  leads = λ f. let l = mine.leads f in (l.0, wide w ∙ l.1, let l2 = l.2 in omega arith);
                  exhausted = λ _ _. omega arith;
                  spent = mine.spent;
                }),
            (refl, (λ lt. absurd (omega arith)), λ _. refl),
          )
      | no nh ↦
          let lt : n < p = lt_of_not-le nh in
          let w : SeatView = after_taking v n in
          let t = sum-set is_marked s.views id v w at in
          let same : is_marked v ≡ is_marked w = refl in
          let x = sum-set is_spent s.views id v w at in
          let many = r.many in let part = le-sum many_of s.views id v at in (
            w,
            keeps,
            tt,
            subst (λ z. Claimed p (stepped s 0 z id m.1 w keeps)) next
                (placed p s r id v (n + 1) w m.1 at (omega arith) (listed_more p n s r id v at refl lt) (omega arith) refl
                record {
                  pieces = λ _. sized;
                  leads = λ f. let l = mine.leads f in (l.0, wide w ∙ l.1, let l2 = l.2 in omega arith);
                  exhausted = λ y _. absurd (true≢false (sym y ∙ not_exhausted));
                  spent = λ y. absurd (true≢false (sym y ∙ fresh));
                }),
            (refl, (λ _. (refl, omega arith)), λ ge. absurd (omega arith)),
          )
    ]

off : false ≡ true → ⊥
off e = true≢false (sym e)

pub splits : (p id : ℕ) (v : SeatView) → v.first ≡ true → v.spent ≡ false → v.splits < 15 → Splits (Claimed p) id v (after_split v) (added_view v)
splits p id v lead fresh few s r at =
    let left : SeatView = after_split v in let right : SeatView = added_view v in let views : List SeatView = set s.views id left in
    let mine = r.each id v at in let l = mine.leads lead in
    let l1 = l.1 in let l2 = l.2 in
    let long : length (views ++ right ∷ []) ≡ length s.views + 1 = length-append views (right ∷ []) ∙ ap (λ z. z + 1) (length-set s.views id left) in
    let kept : (f : SeatView → ℕ) → f left ≡ f v → f right ≡ 0 → sum_by f (views ++ right ∷ []) ≡ sum_by f s.views = λ f a b. let t = sum-set f s.views id v left at in let t' = sum-snoc f views right in omega arith in
    let spends : sum_by is_spent (views ++ right ∷ []) ≡ sum_by is_spent s.views = kept is_spent refl refl in record {
      one_word = r.one_word;
      small = r.small;
      once = λ x h. kept (times_of x) refl refl ∙ r.once x h;
      none = λ x h. kept (times_of x) refl refl ∙ r.none x h;
      many = kept many_of refl refl ∙ r.many;
      past = let y = kept is_marked refl refl in let o = r.past in omega arith;
      seats = omega arith;
      each = λ seat u e. ⊎_elim
          (λ (was : get_elem? views seat ≡ some u). ⊎_elim
          (λ (t : (seat ≡ id) × (left ≡ u)). subst (λ (q : ℕ × SeatView). Fits p (get_or s.words 0 0) (views ++ right ∷ []) q.0 q.1) (λ i. (sym t.0 i, t.1 i)) record {
            pieces = mine.pieces;
            leads = λ _. (l.0, omega arith, spends ∙ l2);
            exhausted = mine.exhausted;
            spent = mine.spent;
          })
          (λ (t : (seat ≢ id) × (get_elem? s.views seat ≡ some u)). let old = r.each seat u t.1 in record {
            pieces = old.pieces;
            leads = λ f. absurd (t.0 ((old.leads f).0 ∙ sym l.0));
            exhausted = old.exhausted;
            spent = old.spent;
          })
          (at_set s.views id seat left u was))
          (λ (is : right ≡ u). subst (Fits p (get_or s.words 0 0) (views ++ right ∷ []) seat) is record {
            pieces = λ _. mine.pieces fresh;
            leads = λ f. absurd (off f);
            exhausted = λ f _. absurd (off f);
            spent = λ _. refl;
          })
          (at_snoc views right u seat e);
    }

pub joins : (p id : ℕ) (v : SeatView) (other : ℕ) (w : SeatView) → v.first ≡ true → v.spent ≡ false → w.spent ≡ false → Joins (Claimed p) id v other w (after_join v w) spent_view
joins p id v other w lead fresh unspent s r at apart there =
    let both : SeatView = after_join v w in let views : List SeatView = set s.views id both in let after : List SeatView = set views other spent_view in
    let mine = r.each id v at in let l = mine.leads lead in
    let l1 = l.1 in let l2 = l.2 in
    let long : length after ≡ length s.views = length-set views other spent_view ∙ length-set s.views id both in
    let kept : (f : SeatView → ℕ) → f both + f spent_view ≡ f v + f w → sum_by f after ≡ sum_by f s.views = λ f e. let t = sum-set f s.views id v both at in let t' = sum-set f views other w spent_view there in omega arith in
    let t = sum-set is_spent s.views id v both at in let t' = sum-set is_spent views other w spent_view there in
    let none : is_spent w ≡ 0 = ap (λ (b : Bool). cond b 1 0) unspent in
    let still : is_spent both ≡ is_spent v = refl in
    let one : is_spent spent_view ≡ 1 = refl in
    let spends : sum_by is_spent after ≡ sum_by is_spent s.views + 1 = omega arith in
    let counted : sum_by is_spent after ≡ v.joins + 1 = spends ∙ ap (λ z. z + 1) l2 in
    let times_kept : (x : ℕ) → times_in_all x after ≡ times_in_all x s.views = λ x. kept (times_of x) (let a = times-append x v.taken w.taken in omega arith) in
    let most = marked_one w in record {
      one_word = r.one_word;
      small = r.small;
      once = λ x h. times_kept x ∙ r.once x h;
      none = λ x h. times_kept x ∙ r.none x h;
      many = kept many_of (let a = length-append v.taken w.taken in omega arith) ∙ r.many;
      past = let y = sum-set is_marked s.views id v both at in let y' = sum-set is_marked views other w spent_view there in let o = r.past in omega arith;
      seats = subst (λ z. z ≤ 16) (sym long) r.seats;
      each = λ seat u e. ⊎_elim
          (λ (t : (seat ≡ other) × (spent_view ≡ u)). subst (Fits p (get_or s.words 0 0) after seat) t.1 record {
            pieces = λ f. absurd (off (sym f));
            leads = λ f. absurd (off f);
            exhausted = λ f _. absurd (off f);
            spent = λ _. refl;
          })
          (λ (was : (seat ≢ other) × (get_elem? views seat ≡ some u)). ⊎_elim
          (λ (t : (seat ≡ id) × (both ≡ u)). subst (λ (q : ℕ × SeatView). Fits p (get_or s.words 0 0) after q.0 q.1) (λ i. (sym t.0 i, t.1 i)) record {
            pieces = mine.pieces;
            leads = λ _. (l.0, long ∙ l1, counted);
            exhausted = mine.exhausted;
            spent = λ f. absurd (true≢false (sym f ∙ fresh));
          })
          (λ (t : (seat ≢ id) × (get_elem? s.views seat ≡ some u)). let old = r.each seat u t.1 in record {
            pieces = old.pieces;
            leads = λ f. absurd (t.0 ((old.leads f).0 ∙ sym l.0));
            exhausted = old.exhausted;
            spent = old.spent;
          })
          (at_set s.views id seat both u was.1))
          (at_set views other seat spent_view u e);
    }

-- if all others were joined, and the first seat found that no piece is left, its list has each piece once
pub closes : (p id : ℕ) (v : SeatView) (ws : List ℕ) (xs : List (Unit {0})) → v.first ≡ true → v.exhausted ≡ true → v.spent ≡ false → v.joins ≡ v.splits → Final (Seen (Claimed p) id v) ws xs → EachOnce v.taken p
closes p id v ws xs lead exhausted fresh level f x =
    let s = f.0 in let r = f.1.0 in let at = f.1.1 in
    let mine = r.each id v at in let l = mine.leads lead in let l1 = l.1 in let l2 = l.2 in
    let reached = mine.exhausted exhausted fresh in
    let a : min (get_or s.words 0 0) p ≡ p = omega arith in
    let none : is_spent v ≡ 0 = ap (λ (b : Bool). cond b 1 0) fresh in
    let sole : times_in_all x s.views ≡ times x v.taken = one_left (times_of x) s.views id v (λ j u e spent. ap (times x) ((r.each j u e).spent spent)) at none (omega arith) in
    ((λ lt. sym sole ∙ r.once x (omega arith)), λ ge. sym sole ∙ r.none x (omega arith))
