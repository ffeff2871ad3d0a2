-- A pass over groups of rows with equal values: the invariant between two groups, and that each group preserves it.
use Rattle.std.proofs.Common.{append-nil, length, ◌<◌, ◌-◌, inl, inr, length-append, ◌≡◌, ◌≢◌, ℕ, ◌+◌, Bool, true, false, cond, List, [], ◌∷◌, ◌++◌, get_or, map, sym, refl, ap, ◌∙◌, subst, arith, IfSome, slice_get}
use Rattle.std.specs.Prelude.{All, AllPairs, IsSorted, IsPermutation}
use Rattle.std.specs.Ordering.{eq_by_cmp, is_lt, ordering_reverse, ordering_then, nat_cmp}
use Rattle.std.specs.declared.cmp.Ordering.{Ordering}
use Rattle.std.specs.declared.cmp.Ordering.TheVariants.{Less, Equal, Greater}
use Rattle.std.proofs.lemmas.List.{length-map, get_or-map, get_or_append_left, get_or-append_right}
use Rattle.std.proofs.lemmas.Bool.{cases_lt}
use Rattle.std.proofs.lemmas.Bool.Decides.{nat_tests}
use Rattle.std.proofs.lemmas.Cmp.{tied_itself}
use Rattle.std.specs.List.Sorted.{IsSortedBy}
use Rattle.std.proofs.lemmas.List.Elements.{All-nil, All-cons, All-head, All-tail, All-append, All-weaker, All-map}
use Rattle.std.proofs.lemmas.List.Sums.{sum_by-cons}
use Rattle.std.proofs.lemmas.List.Sorted.{sorted_far, ranks_by}
use Rattle.tq_base.specs.declared.value.Value.{Value}
use Rattle.tq_base.specs.declared.period.Period.{Period}
use Rattle.tq_base.specs.declared.fragment.Fragment.{Fragment}
use Rattle.tq_base.specs.ValueOrder.{values_cmp, values_total, values_same}
use Rattle.tq_base.specs.Periods.{holds}
use Rattle.tq_base.specs.Fragments.{fragment_cmp, fragment_total, copies}
use Rattle.tq_base.specs.Copies.{tally, copies-sum_by, copies-append, copies-IsPermutation}
use Rattle.tq_base.specs.Layers.{TakesIn, IsCoalesced, IsLayers}
use Rattle.tq_base.specs.Layering.{held, IsNested}
use Rattle.tq_base.specs.Layering.{rows_of, AddsLayers, period_cmp}
use Rattle.tq_base.specs.Sweep.{pairs_head, pairs_tail, held-cons}

-- ---- lists

all_right : {X : Type 0} (P : X → Type 0) (xs ys : List X) → All P (xs ++ ys) → All P ys
all_right P [] ys h = h
all_right P (x ∷ xs) ys h = all_right P xs ys (All-tail P x (xs ++ ys) h)

pairs_right : {X : Type 0} (R : X → X → Type 0) (xs ys : List X) → AllPairs R (xs ++ ys) → AllPairs R ys
pairs_right R [] ys h = h
pairs_right R (x ∷ xs) ys h = pairs_right R xs ys (pairs_tail R x (xs ++ ys) h)

-- ---- the order of values

abbrev pub Below : List Value → List Value → Type 0
Below u v = values_cmp u v ≡ Less

abbrev pub NotAbove : List Value → List Value → Type 0
NotAbove u v = values_cmp u v ≢ Greater

pub below_differs : (u v : List Value) → Below u v → u ≢ v
below_differs u v below same =
    let self : Below v v = subst (λ w. Below w v) same below in
    let flip = values_total.antisymm v v in
    let back : values_cmp v v ≡ Greater = flip ∙ ap ordering_reverse self in
    cc

below_from : (u v : List Value) → NotAbove u v → u ≢ v → Below u v
below_from u v not_above differs = split (values_cmp u v) refl
  where
    split : (r : Ordering) → values_cmp u v ≡ r → Below u v
    split Less e = e
    split Equal e = absurd (differs (values_same u v e))
    split Greater e = absurd (not_above e)

pub below_then : (u v w : List Value) → Below u v → NotAbove v w → Below u w
below_then u v w below not_above = split (values_cmp v w) refl
  where
    split : (r : Ordering) → values_cmp v w ≡ r → Below u w
    split Less e = values_total.trans u v w below e
    split Equal e = subst (λ x. Below u x) (values_same v w e) below
    split Greater e = absurd (not_above e)

-- ---- copies of one group

one_group : (b h : Bool) (n : ℕ) → cond h (cond b 1 0) 0 + cond b n 0 ≡ cond b (cond h 1 0 + n) 0
one_group true true n = refl
one_group true false n = refl
one_group false true n = refl
one_group false false n = refl

-- if every fragment has the values v, only v has copies: one for each period that holds the instant
copies-group : (v : List Value) (fs : List Fragment) (w : List Value) (t : ℕ) → All (λ f. f.values ≡ v) fs → copies fs w t ≡ cond (eq_by_cmp values_cmp v w) (held (map (λ f. f.period) fs) t) 0
copies-group v [] w t alike = zero_either (eq_by_cmp values_cmp v w)
  where
    zero_either : (b : Bool) → let none : ℕ = 0 in none ≡ cond b none none
    zero_either true = refl
    zero_either false = refl
copies-group v (f ∷ fs) w t alike =
    let first : f.values ≡ v = All-head (λ f. f.values ≡ v) f fs alike in
    let rest = copies-group v fs w t (All-tail (λ f. f.values ≡ v) f fs alike) in
    let b = eq_by_cmp values_cmp v w in
    let h = holds f.period t in
    let n = held (map (λ g. g.period) fs) t in
    copies-sum_by (f ∷ fs) w t
    ∙ sum_by-cons (tally w t) f fs
    ∙ ap (λ m. tally w t f + m) (sym (copies-sum_by fs w t) ∙ rest)
    ∙ ap (λ u. cond h (cond (eq_by_cmp values_cmp u w) 1 0) 0 + cond b n 0) first
    ∙ one_group b h n
    ∙ ap (λ m. cond b m 0) (sym (held-cons f.period (map (λ g. g.period) fs) t))

rows_alike : (v : List Value) (ps : List Period) → All (λ f. f.values ≡ v) (rows_of v ps)
rows_alike v [] = All-nil (λ f. f.values ≡ v)
rows_alike v (p ∷ ps) = All-cons (λ f. f.values ≡ v) (record { values = v; period = p }) (rows_of v ps) refl (rows_alike v ps)

map-rows_of : (v : List Value) (ps : List Period) → map (λ (f : Fragment). f.period) (rows_of v ps) ≡ ps
map-rows_of v [] = refl
map-rows_of v (p ∷ ps) = ap (λ l. p ∷ l) (map-rows_of v ps)

-- a period holds its own start
holds_start : (p : Period) (n : ℕ) → n ≡ cond (holds p p.start) 1 0 → n ≡ 1
holds_start p n is = let ordered : p.start < p.end = p.ordered in grind (arith, nat_tests)

-- ---- the pass

-- the invariant between two groups: the rows still to come, and the table so far
pub record Grouping (rows rest table : List Fragment) : Type 0 where
  pub counted : (v : List Value) (t : ℕ) → copies table v t + copies rest v t ≡ copies rows v t
  pub coalesced : IsCoalesced table
  pub below : All (λ g. All (λ f. Below f.values g.values) table) rest
  pub rising : AllPairs (λ f g. NotAbove f.values g.values) rest
  pub ordered : IsSorted fragment_cmp table

-- two sorted lists, if nothing in the second is less than anything in the first
pub sorted-append : {X : Type 0} (lt : X → X → Bool) (xs ys : List X) → IsSortedBy lt xs → IsSortedBy lt ys → All (λ y. All (λ x. lt y x ≡ false) xs) ys → IsSortedBy lt (xs ++ ys)
sorted-append {X} lt xs ys first second across k d low high = elim (cases_lt (k + 1) (length xs)) [
  | inl inside ↦
      let one : k < length xs = omega arith in
      rw (get_or_append_left xs ys d (k + 1) inside, get_or_append_left xs ys d k one) (first k d (omega arith) inside)
  | inr past ↦
      let total = length-append xs ys in
      let next : k + 1 - length xs < length ys = omega (arith, total) in
      elim (cases_lt k (length xs)) [
        | inl last ↦
            rw (get_or-append_right xs ys (length xs) (k + 1) d refl past, get_or_append_left xs ys d k last)
            (across (k + 1 - length xs) d next k d last)
        | inr beyond ↦
            let step : k + 1 - length xs ≡ (k - length xs) + 1 = omega arith in
            rw (get_or-append_right xs ys (length xs) (k + 1) d refl past, get_or-append_right xs ys (length xs) k d refl beyond, step)
            (second (k - length xs) d (omega arith) (omega (arith, total)))
      ]
]

-- rows with lesser values are less
pub not_less : (f g : Fragment) → Below f.values g.values → is_lt (fragment_cmp g f) ≡ false
not_less f g below =
    let above : values_cmp g.values f.values ≡ Greater = values_total.antisymm g.values f.values ∙ ap ordering_reverse below in
    ap (λ r. is_lt (ordering_then (ordering_then r (nat_cmp g.period.start f.period.start)) (nat_cmp g.period.end f.period.end))) above

-- rows with the same values are ordered as their periods
rows_sorted : (v : List Value) (ps : List Period) → IsSorted period_cmp ps → IsSorted fragment_cmp (rows_of v ps)
rows_sorted v ps sorted k d low high =
    let row : Period → Fragment = λ p. record { values = v; period = p } in
    let short : k + 1 < length ps = omega (arith, length-map ps row) in
    let next = get_or-map row ps (k + 1) d.period d short in
    let here = get_or-map row ps k d.period d (omega arith) in
    let tied : values_cmp v v ≡ Equal = tied_itself values_total v in
    rw (next, here, tied) (sorted k d.period low short)

-- the table stays in order
table_ordered : (v : List Value) (table : List Fragment) (ps : List Period) → All (λ f. Below f.values v) table → IsSorted fragment_cmp table → IsSorted period_cmp ps → IsSorted fragment_cmp (table ++ rows_of v ps)
table_ordered v table ps below sorted in_order =
    sorted-append (λ x y. is_lt (fragment_cmp x y)) table (rows_of v ps) sorted (rows_sorted v ps in_order)
    (All-weaker (λ g. g.values ≡ v) (λ g. All (λ f. is_lt (fragment_cmp g f) ≡ false) table)
    (λ g same k d lt. not_less (get_or table k d) g (subst (λ u. Below (get_or table k d).values u) (sym same) (below k d lt))) (rows_of v ps) (rows_alike v ps))

-- rows of one group after rows with lesser values
coalesced-append : (v : List Value) (table : List Fragment) (ps : List Period) → All (λ f. Below f.values v) table → IsCoalesced table → IsNested ps → IsCoalesced (table ++ rows_of v ps)
coalesced-append v table ps below coalesced nested =
    All-append (λ f. All (λ g. f.values ≡ g.values → TakesIn f.period g.period) (table ++ added)) table added
    (λ k d lt.
    let f = get_or table k d in
    All-append (λ g. f.values ≡ g.values → TakesIn f.period g.period) table added (coalesced k d lt)
    (All-weaker (λ g. g.values ≡ v) (λ g. f.values ≡ g.values → TakesIn f.period g.period) (λ g is_v same. absurd (below_differs f.values v (below k d lt) (same ∙ is_v))) added (rows_alike v ps)))
    (All-map (λ f. All (λ g. f.values ≡ g.values → TakesIn f.period g.period) (table ++ added)) (λ p. record { values = v; period = p }) ps
    (λ k d lt.
    let p = get_or ps k d in
    All-append (λ g. v ≡ g.values → TakesIn p g.period) table added
    (All-weaker (λ g. Below g.values v) (λ g. v ≡ g.values → TakesIn p g.period) (λ g is_below same. absurd (below_differs g.values v is_below (sym same))) table below)
    (All-map (λ g. v ≡ g.values → TakesIn p g.period) (λ q. record { values = v; period = q }) ps (λ j e in'. λ same. nested k d lt j e in'))))
  where
    added : List Fragment
    added = rows_of v ps

-- the rows after a group have greater values
above_group : (v : List Value) (others : List Fragment) → All (λ g. NotAbove v g.values) others → AllPairs (λ f g. NotAbove f.values g.values) others → IfSome (slice_get others 0) (λ f. f.values ≢ v) → All (λ g. Below v g.values) others
above_group v [] not_above rising differs = All-nil (λ g. Below v g.values)
above_group v (h ∷ others) not_above rising differs =
    let first : Below v h.values = below_from v h.values (All-head (λ g. NotAbove v g.values) h others not_above) (λ same. differs (sym same)) in
    All-cons (λ g. Below v g.values) h others first
    (All-weaker (λ g. NotAbove h.values g.values) (λ g. Below v g.values) (λ g not_above. below_then v h.values g.values first not_above) others (pairs_head (λ f g. NotAbove f.values g.values) h others rising))

-- one group is added to the table
pub adds_group : (rows : List Fragment) (x : Fragment) (group others table new : List Fragment) → Grouping rows ((x ∷ group) ++ others) table → All (λ f. f.values ≡ x.values) (x ∷ group) → IfSome (slice_get others 0) (λ f. f.values ≢ x.values) → AddsLayers x.values (x ∷ group) table new → Grouping rows others new
adds_group rows x group others table new w alike differs adds = subst (Grouping rows others) (sym adds.added) (record {
  counted = λ u t. omega (arith, w.counted u t, copies-append table added u t, copies-append (x ∷ group) others u t, copies-group v (x ∷ group) u t alike, copies-group v added u t (rows_alike v ps), held_same u t);
  coalesced = coalesced-append v table ps table_below w.coalesced adds.is_layering.nested;
  below = λ k d lt. All-append (λ f. Below f.values (get_or others k d).values) table added
      (all_right (λ g. All (λ f. Below f.values g.values) table) (x ∷ group) others w.below k d lt)
      (All-weaker (λ f. f.values ≡ v) (λ f. Below f.values (get_or others k d).values) (λ f is_v. subst (λ u. Below u (get_or others k d).values) (sym is_v) (above k d lt)) added (rows_alike v ps));
  rising = rest_rising;
  ordered = table_ordered v table ps table_below w.ordered adds.in_order;
})
  where
    v : List Value
    v = x.values

    ps : List Period
    ps = adds.layering

    added : List Fragment
    added = rows_of v ps

    table_below : All (λ f. Below f.values v) table
    table_below = All-head (λ g. All (λ f. Below f.values g.values) table) x (group ++ others) w.below

    rest_rising : AllPairs (λ f g. NotAbove f.values g.values) others
    rest_rising = pairs_right (λ f g. NotAbove f.values g.values) (x ∷ group) others w.rising

    above : All (λ g. Below v g.values) others
    above = above_group v others (all_right (λ g. NotAbove v g.values) group others (pairs_head (λ f g. NotAbove f.values g.values) x (group ++ others) w.rising)) rest_rising differs

    held_same : (u : List Value) (t : ℕ) → cond (eq_by_cmp values_cmp v u) (held (map (λ f. f.period) added) t) 0 ≡ cond (eq_by_cmp values_cmp v u) (held (map (λ f. f.period) (x ∷ group)) t) 0
    held_same u t = ap (λ n. cond (eq_by_cmp values_cmp v u) n 0) (ap (λ l. held l t) (map-rows_of v ps) ∙ adds.is_layering.held_alike t)

rising-from_sort : (rows : List Fragment) → IsSorted fragment_cmp rows → AllPairs (λ f g. NotAbove f.values g.values) rows
rising-from_sort rows sorted i j d lt below above =
    let f = get_or rows i d in
    let g = get_or rows j d in
    let far : is_lt (fragment_cmp g f) ≡ false = sorted_far (λ x y. is_lt (fragment_cmp x y)) (ranks_by fragment_total (λ x. x)) rows sorted i j d (omega arith) below in
    let back : values_cmp g.values f.values ≡ Less = values_total.antisymm g.values f.values ∙ ap ordering_reverse above in
    let less : fragment_cmp g f ≡ Less = ap (λ r. ordering_then (ordering_then r (nat_cmp g.period.start f.period.start)) (nat_cmp g.period.end f.period.end)) back in
    let yes : is_lt (fragment_cmp g f) ≡ true = ap is_lt less in
    cc

-- the invariant holds before the first group
pub grouping_starts : (rows sorted : List Fragment) → IsPermutation rows sorted → IsSorted fragment_cmp sorted → Grouping rows sorted []
grouping_starts rows sorted same order = record {
  counted = λ v t. omega (arith, copies-IsPermutation rows sorted v t same);
  coalesced = All-nil (λ f. All (λ g. f.values ≡ g.values → TakesIn f.period g.period) []);
  below = λ k d lt. All-nil (λ f. Below f.values (get_or sorted k d).values);
  rising = rising-from_sort sorted order;
  ordered = λ k d low high. absurd (omega arith);
}

-- after the last group, the table is the layers
pub grouping_ends : (rows table : List Fragment) → Grouping rows [] table → IsLayers (copies rows) table
grouping_ends rows table w = record {
  ordered = w.ordered;
  coalesced = w.coalesced;
  counted = λ v t. omega (arith, w.counted v t);
}

-- one group, which may be empty, is added to the table
pub closes_group : (rows group others table new : List Fragment) (v : List Value) → Grouping rows (group ++ others) table → All (λ f. f.values ≡ v) group → IfSome (slice_get others 0) (λ f. f.values ≢ v) → AddsLayers v group table new → Grouping rows others new
closes_group rows [] others table new v w alike differs adds = subst (Grouping rows others) (sym (adds.added ∙ unchanged adds.layering adds.is_layering.held_alike)) w
  where
    unchanged : (ps : List Period) → ((t : ℕ) → held ps t ≡ 0) → table ++ rows_of v ps ≡ table
    unchanged [] none = append-nil table
    unchanged (p ∷ ps) none =
        let ordered : p.start < p.end = p.ordered in
        absurd (omega (arith, none p.start, held-cons p ps p.start, holds_start p _ refl))
closes_group rows (x ∷ group) others table new v w alike differs adds =
    let same : x.values ≡ v = All-head (λ f. f.values ≡ v) x group alike in
    adds_group rows x group others table new w
    (subst (λ u. All (λ f. f.values ≡ u) (x ∷ group)) (sym same) alike)
    (subst (λ u. IfSome (slice_get others 0) (λ f. f.values ≢ u)) (sym same) differs)
    (subst (λ u. AddsLayers u (x ∷ group) table new) (sym same) adds)
