-- Groups of equal rows in a sorted list, and what the difference of one adds.
use Rattle.std.proofs.Common.{zero, suc, ◌≡◌, ◌≢◌, ℕ, ◌+◌, ◌-◌, ◌<◌, ◌≤◌, Bool, true, false, ◌&&◌, cond, List, [], ◌∷◌, ◌++◌, length, take, drop, get_or, sym, refl, ap, ◌∙◌, subst, arith, inl, inr, length-take, length-drop}
use Rattle.std.proofs.Math.Seq.{take-add}
use Rattle.std.specs.Prelude.{All, AllPairs}
use Rattle.std.specs.Ordering.{eq_by_cmp, ordering_reverse}
use Rattle.std.specs.declared.cmp.Ordering.{Ordering}
use Rattle.std.specs.declared.cmp.Ordering.TheVariants.{Less, Equal, Greater}
use Rattle.std.proofs.lemmas.Cmp.{tied_itself}
use Rattle.std.proofs.lemmas.Bool.{cases_lt}
use Rattle.std.proofs.lemmas.List.{get_or-take, get_or-drop, get_or_default}
use Rattle.std.proofs.lemmas.List.Elements.{All-head, All-tail}
use Rattle.std.proofs.lemmas.List.Sums.{sum_by-cons, sum_by-append}
use Rattle.tq_base.specs.declared.value.Value.{Value}
use Rattle.tq_base.specs.declared.period.Period.{Period}
use Rattle.tq_base.specs.declared.fragment.Fragment.{Fragment}
use Rattle.tq_base.specs.ValueOrder.{values_cmp, values_same, values_total, same_from_eq}
use Rattle.tq_base.specs.Periods.{holds}
use Rattle.tq_base.specs.Fragments.{copies}
use Rattle.tq_base.specs.Layering.{held, rows_of}
use Rattle.tq_base.specs.Sweep.{held-cons}
use Rattle.tq_base.specs.Copies.{tally, copies-sum_by, copies-append}
use Rattle.tq_base.specs.declared.sort_input.Side.{Side}
use Rattle.tq_base.specs.declared.sort_input.Side.TheVariants.{Left, Right}
use Rattle.tq_base.specs.Keys.{is_same_side, Held}
use Rattle.tq_ops.specs.Differences.{side_held, side_copies, AddsDifference, AreOfValues}
use Rattle.tq_ops.proofs.Counting.{one_if}

abbrev values : Held → List Value
values r = r.row.values

-- no row's values are greater than those of a later one
abbrev pub AreSorted : List Held → Type 0
AreSorted rows = AllPairs (λ (a b : Held). values_cmp a.row.values b.row.values ≢ Greater) rows

-- values of which neither is greater are equal
tied_values : (u v : List Value) → values_cmp u v ≢ Greater → values_cmp v u ≢ Greater → u ≡ v
tied_values u v not_above not_below = split (values_cmp u v) refl
  where
    split : (r : Ordering) → values_cmp u v ≡ r → u ≡ v
    split Less is = absurd (not_below (values_total.antisymm v u ∙ ap ordering_reverse is))
    split Equal is = values_same u v is
    split Greater is = absurd (not_above is)

itself_not_above : (u : List Value) → values_cmp u u ≢ Greater
itself_not_above u above = let tie = tied_itself values_total u in cc

not_above_later : (rows : List Held) → AreSorted rows → (d : Held) (i j : ℕ) → i ≤ j → j < length rows → values_cmp (get_or rows i d).row.values (get_or rows j d).row.values ≢ Greater
not_above_later rows sorted d i j le below = elim (cases_lt i j) [
  | inl less ↦ sorted i j d less below
  | inr least ↦
      let same : i ≡ j = omega (arith, le, least) in
      subst (λ k. values_cmp (get_or rows i d).row.values (get_or rows k d).row.values ≢ Greater) same (itself_not_above (get_or rows i d).row.values)
]

-- no group continues across the position
abbrev pub IsBoundary : List Held → ℕ → Type 0
IsBoundary rows start = (d : Held) → 0 < start → start < length rows → (get_or rows start d).row.values ≢ (get_or rows (start - 1) d).row.values

-- rows before a boundary have other values than the row at it
apart_before : (rows : List Held) (start : ℕ) → AreSorted rows → IsBoundary rows start → start < length rows → (d : Held) → All (λ r. values r ≢ values (get_or rows start d)) (take start rows)
apart_before rows start sorted boundary below d k e lt same =
    let before : k < start = omega (arith, length-take start rows) in
    let here : get_or (take start rows) k e ≡ get_or rows k e = get_or-take start rows k e before in
    let a = values (get_or rows k d) in
    let b = values (get_or rows (start - 1) d) in
    let c = values (get_or rows start d) in
    let equal : a ≡ c = ap values (get_or_default rows k d e (omega arith)) ∙ sym (ap values here) ∙ same in
    let one : values_cmp a b ≢ Greater = not_above_later rows sorted d k (start - 1) (omega arith) (omega arith) in
    let two : values_cmp b c ≢ Greater = not_above_later rows sorted d (start - 1) start (omega arith) below in
    boundary d (omega arith) below (sym (tied_values b c two (subst (λ v. values_cmp v b ≢ Greater) equal one)))

-- an element of the list
pub item_at : {X : Type 0} (xs : List X) (i : ℕ) → i < length xs → (x : X) × (x ≡ get_or xs i x)
item_at [] i lt = absurd (omega arith)
item_at (x ∷ xs) zero lt = (x, refl)
item_at (x ∷ xs) (suc i) lt = item_at xs i (omega arith)

-- the position after a group
module _ (rows : List Held) (start len : ℕ) (within : len ≤ length (drop start rows))
    (alike : (d : Held) → AreOfValues (get_or (drop start rows) 0 d).row.values (take len (drop start rows)))
    (ends : (d : Held) → len < length (drop start rows) → (get_or (drop start rows) len d).row.values ≢ (get_or (drop start rows) 0 d).row.values) where
  pub group_not_empty : start < length rows → 0 < len
  group_not_empty below = elim (cases_lt 0 len) [
    | inl more ↦ more
    | inr none ↦
        let zero' : len ≡ 0 = omega arith in
        let (x, is) = item_at rows start below in
        absurd (ends x (omega (arith, length-drop start rows)) (ap (λ i. values (get_or (drop start rows) i x)) zero'))
  ]

  pub group_ends : start < length rows → IsBoundary rows (start + len)
  group_ends below d positive inside same =
      let more = group_not_empty below in
      let long = length-drop start rows in
      let here : get_or (drop start rows) len d ≡ get_or rows (start + len) d = get_or-drop start rows len d in
      let last : get_or (take len (drop start rows)) (len - 1) d ≡ get_or rows (start + len - 1) d =
      get_or-take len (drop start rows) (len - 1) d (omega arith) ∙ get_or-drop start rows (len - 1) d ∙ ap (λ i. get_or rows i d) (omega arith) in
      ends d (omega (arith, long)) (ap values here ∙ same ∙ sym (ap values last) ∙ alike d (len - 1) d (omega (arith, length-take len (drop start rows))))

-- ---- counts

not_equal : (u v : List Value) → u ≢ v → eq_by_cmp values_cmp u v ≡ false
not_equal u v differ = split (eq_by_cmp values_cmp u v) refl
  where
    split : (b : Bool) → eq_by_cmp values_cmp u v ≡ b → b ≡ false
    split true is = absurd (differ (same_from_eq u v is))
    split false is = refl

copies-rows_of : (u v : List Value) (ps : List Period) (t : ℕ) → copies (rows_of u ps) v t ≡ cond (eq_by_cmp values_cmp u v) (held ps t) 0
copies-rows_of u v [] t = cases (eq_by_cmp values_cmp u v)
  where
    cases : (b : Bool) → let none : ℕ = 0 in none ≡ cond b none none
    cases true = refl
    cases false = refl
copies-rows_of u v (p ∷ ps) t =
    copies-sum_by (rows_of u (p ∷ ps)) v t ∙ sum_by-cons (tally v t) (record { values = u; period = p }) (rows_of u ps)
    ∙ ap (λ n. tally v t (record { values = u; period = p }) + n) (sym (copies-sum_by (rows_of u ps) v t) ∙ copies-rows_of u v ps t)
    ∙ cases (eq_by_cmp values_cmp u v) (holds p t)
    ∙ ap (λ n. cond (eq_by_cmp values_cmp u v) n 0) (sym (held-cons p ps t))
  where
    cases : (b h : Bool) → cond h (one_if b) 0 + cond b (held ps t) 0 ≡ cond b (one_if h + held ps t) 0
    cases true true = refl
    cases true false = refl
    cases false true = refl
    cases false false = refl

module _ (window : Period) (side : Side) (v : List Value) (t : ℕ) where
  side_copies-cons : (r : Held) (rows : List Held) → side_copies window side (r ∷ rows) v t ≡ one_if ((is_same_side side r.side && (holds r.row.period t && holds window t)) && eq_by_cmp values_cmp r.row.values v) + side_copies window side rows v t
  side_copies-cons r rows = sum_by-cons (λ (r : Held). one_if ((is_same_side side r.side && (holds r.row.period t && holds window t)) && eq_by_cmp values_cmp r.row.values v)) r rows

  side_held-cons : (r : Held) (rows : List Held) → side_held window side (r ∷ rows) t ≡ one_if (is_same_side side r.side && (holds r.row.period t && holds window t)) + side_held window side rows t
  side_held-cons r rows = sum_by-cons (λ (r : Held). one_if (is_same_side side r.side && (holds r.row.period t && holds window t))) r rows

  side_copies-append : (rows others : List Held) → side_copies window side (rows ++ others) v t ≡ side_copies window side rows v t + side_copies window side others v t
  side_copies-append rows others = sum_by-append (λ (r : Held). one_if ((is_same_side side r.side && (holds r.row.period t && holds window t)) && eq_by_cmp values_cmp r.row.values v)) rows others

  with_test : (a b c : Bool) → b ≡ c → one_if (a && b) ≡ cond c (one_if a) 0
  with_test true true c same = ap (λ (b : Bool). cond b (one_if true) 0) same
  with_test true false c same = ap (λ (b : Bool). cond b (one_if true) 0) same
  with_test false true c same = ap (λ (b : Bool). cond b (one_if false) 0) same
  with_test false false c same = ap (λ (b : Bool). cond b (one_if false) 0) same

  -- rows with the same values
  side_copies_alike : (u : List Value) (rows : List Held) → AreOfValues u rows → side_copies window side rows v t ≡ cond (eq_by_cmp values_cmp u v) (side_held window side rows t) 0
  side_copies_alike u [] alike = cases (eq_by_cmp values_cmp u v)
    where
      cases : (b : Bool) → let none : ℕ = 0 in none ≡ cond b none none
      cases true = refl
      cases false = refl
  side_copies_alike u (r ∷ rows) alike =
      let first : r.row.values ≡ u = All-head (λ (r : Held). r.row.values ≡ u) r rows alike in
      let rest = side_copies_alike u rows (All-tail (λ (r : Held). r.row.values ≡ u) r rows alike) in
      let one = with_test (is_same_side side r.side && (holds r.row.period t && holds window t)) (eq_by_cmp values_cmp r.row.values v) (eq_by_cmp values_cmp u v) (ap (λ w. eq_by_cmp values_cmp w v) first) in
      omega (arith, side_copies-cons r rows, rest, one, cases (eq_by_cmp values_cmp u v) (one_if (is_same_side side r.side && (holds r.row.period t && holds window t))) (side_held window side rows t) (side_held window side (r ∷ rows) t) (side_held-cons r rows))
    where
      cases : (b : Bool) (m n k : ℕ) → k ≡ m + n → cond b k 0 ≡ cond b m 0 + cond b n 0
      cases true m n k is = is
      cases false m n k is = refl

  -- rows with other values
  side_copies_apart : (rows : List Held) → All (λ r. r.row.values ≢ v) rows → side_copies window side rows v t ≡ 0
  side_copies_apart [] apart = refl
  side_copies_apart (r ∷ rows) apart =
      let one = with_test (is_same_side side r.side && (holds r.row.period t && holds window t)) (eq_by_cmp values_cmp r.row.values v) false (not_equal r.row.values v (All-head (λ (r : Held). r.row.values ≢ v) r rows apart)) in
      omega (arith, side_copies-cons r rows, one, side_copies_apart rows (All-tail (λ (r : Held). r.row.values ≢ v) r rows apart))

-- ---- the pass

-- the rows before the position are counted, and no group continues across it
pub record Grouping (window : Period) (rows : List Held) (start : ℕ) (out : List Fragment) : Type 0 where
  pub counted : (t : ℕ) (v : List Value) → copies out v t ≡ side_copies window Left (take start rows) v t - side_copies window Right (take start rows) v t
  pub boundary : IsBoundary rows start
  pub within : start ≤ length rows

pub adds_group : (window : Period) (rows : List Held) (start len : ℕ) (out new : List Fragment) (x : Held) → AreSorted rows → start < length rows → x ≡ get_or rows start x → start + len ≤ length rows
    → AreOfValues x.row.values (take len (drop start rows)) → IsBoundary rows (start + len) → AddsDifference window (take len (drop start rows)) x.row.values out new
    → Grouping window rows start out → Grouping window rows (start + len) new
adds_group window rows start len out new x sorted below is sufficient_range alike boundary adds w = record {
  counted = λ t v.
      let left = side_copies-append window Left v t done group in
      let right = side_copies-append window Right v t done group in
      let more = copies-append out (rows_of u adds.periods) v t in
      let there' = ap (λ l. copies l v t) adds.added in
      let shown = copies-rows_of u v adds.periods t in
      let l = side_copies_alike window Left v t u group alike in
      let r = side_copies_alike window Right v t u group alike in
      let both_left = ap (λ rs. side_copies window Left rs v t) all in
      let both_right = ap (λ rs. side_copies window Right rs v t) all in
      let apart = λ (same : u ≡ v). subst (λ w. All (λ (r : Held). r.row.values ≢ w) done) (sym (ap values is) ∙ same) (apart_before rows start sorted w.boundary below x) in
      split t v (eq_by_cmp values_cmp u v) refl left right more there' shown l r both_left both_right
      (λ same. side_copies_apart window Left v t done (apart same)) (λ same. side_copies_apart window Right v t done (apart same));
  boundary = boundary;
  within = sufficient_range;
}
  where
    u : List Value
    u = x.row.values

    done : List Held
    done = take start rows

    group : List Held
    group = take len (drop start rows)

    all : take (start + len) rows ≡ take start rows ++ take len (drop start rows)
    all = take-add start len rows

    split : (t : ℕ) (v : List Value) (b : Bool) → eq_by_cmp values_cmp u v ≡ b
        → side_copies window Left (done ++ group) v t ≡ side_copies window Left done v t + side_copies window Left group v t
        → side_copies window Right (done ++ group) v t ≡ side_copies window Right done v t + side_copies window Right group v t
        → copies (out ++ rows_of u adds.periods) v t ≡ copies out v t + copies (rows_of u adds.periods) v t
        → copies new v t ≡ copies (out ++ rows_of u adds.periods) v t
        → copies (rows_of u adds.periods) v t ≡ cond (eq_by_cmp values_cmp u v) (held adds.periods t) 0
        → side_copies window Left group v t ≡ cond (eq_by_cmp values_cmp u v) (side_held window Left group t) 0
        → side_copies window Right group v t ≡ cond (eq_by_cmp values_cmp u v) (side_held window Right group t) 0
        → side_copies window Left (take (start + len) rows) v t ≡ side_copies window Left (done ++ group) v t
        → side_copies window Right (take (start + len) rows) v t ≡ side_copies window Right (done ++ group) v t
        → (u ≡ v → side_copies window Left done v t ≡ 0) → (u ≡ v → side_copies window Right done v t ≡ 0)
        → copies new v t ≡ side_copies window Left (take (start + len) rows) v t - side_copies window Right (take (start + len) rows) v t
    split t v true equal left right more added shown l r all_left all_right none_left none_right =
        let same = same_from_eq u v equal in
        omega (arith, w.counted t v, left, right, more, added, shown ∙ ap (λ b. cond b (held adds.periods t) 0) equal, l ∙ ap (λ b. cond b (side_held window Left group t) 0) equal, r ∙ ap (λ b. cond b (side_held window Right group t) 0) equal, all_left, all_right, none_left same, none_right same, adds.counted t)
    split t v false differ left right more added shown l r all_left all_right none_left none_right =
        omega (arith, w.counted t v, left, right, more, added, shown ∙ ap (λ b. cond b (held adds.periods t) 0) differ, l ∙ ap (λ b. cond b (side_held window Left group t) 0) differ, r ∙ ap (λ b. cond b (side_held window Right group t) 0) differ, all_left, all_right)
