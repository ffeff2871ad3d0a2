-- What the buckets add of a key stays the same when an empty one is put among them, and grows by a row that goes into one.
use Rattle.std.proofs.Common.{◌≡◌, ℕ, ◌+◌, ◌<◌, ◌≤◌, ℤ, pos, ◌+ℤ◌, ◌-ℤ◌, Bool, true, false, ◌&&◌, cond, nat_le, nat_lt, FitsSigned, List, [], ◌∷◌, ◌++◌, length, take, set, get_or, refl, sym, subst, ap, ◌∙◌, arith}
use Rattle.std.specs.Prelude.{All}
use Rattle.std.specs.Int.{w64}
use Rattle.std.specs.List.{insert}
use Rattle.std.proofs.lemmas.Bool.Decides.{nat_tests}
use Rattle.std.proofs.lemmas.Int.{ints}
use Rattle.std.proofs.lemmas.List.{get_or_default, map-append}
use Rattle.std.proofs.lemmas.List.Elements.{All-nil, All-push}
use Rattle.tq_base.specs.RowValues.{number_of, value_at}
use Rattle.tq_base.specs.declared.value.Value.{Value}
use Rattle.tq_base.specs.declared.period.Period.{Period}
use Rattle.tq_base.specs.declared.fragment.Fragment.{Fragment}
use Rattle.tq_base.specs.Keys.{no_row}
use Rattle.tq_base.specs.Periods.{holds}
use Rattle.tq_base.specs.Relations.{column_of, values_at_number}
use Rattle.tq_agg.specs.declared.changes.Change.{Change}
use Rattle.tq_agg.specs.declared.buckets.Bucket.{Bucket}
use Rattle.tq_agg.specs.declared.summands.Summand.{Summand}
use Rattle.tq_agg.specs.declared.summands.Summand.TheVariants.{Column}
use Rattle.tq_agg.specs.Buckets.{value_of}
use Rattle.tq_agg.specs.Changes.{bounds_of, bucket_change, changed_by, changed_upto, keyed_weight, weighed, AreChangesCut, ChangeInside}
use Rattle.tq_agg.specs.Grouping.{same_row}
use Rattle.tq_agg.specs.Totals.{added, weight_of}
use Rattle.tq_agg.proofs.Adding.{added-append, added-step}
use Rattle.tq_agg.proofs.Bucketing.{added-insert, added-set, number_at, All-insert}

-- ---- changes

-- what adds so much while it lasts has begun and not ended
pub own_while_it_lasts : (w : ℤ) (p : Period) (t : ℕ) → cond (nat_le p.start t) w (pos 0) -ℤ cond (nat_le p.end t) w (pos 0) ≡ cond (holds p t) w (pos 0)
own_while_it_lasts w p t = cases (nat_le p.start t) (nat_le p.end t) (nat_lt t p.end) refl refl refl
  where
    cases : (a b h : Bool) → nat_le p.start t ≡ a → nat_le p.end t ≡ b → nat_lt t p.end ≡ h → cond a w (pos 0) -ℤ cond b w (pos 0) ≡ cond (a && h) w (pos 0)
    cases true true true x y z = absurd (let ordered : p.start < p.end = p.ordered in grind (arith, nat_tests))
    cases true true false x y z = omega (arith, ints)
    cases true false true x y z = omega (arith, ints)
    cases true false false x y z = absurd (let ordered : p.start < p.end = p.ordered in grind (arith, nat_tests))
    cases false true h x y z = absurd (let ordered : p.start < p.end = p.ordered in grind (arith, nat_tests))
    cases false false h x y z = omega (arith, ints)

-- one more change
pub changed-push : (f : ℤ → ℤ) (changes : List Change) (c : Change) (t : ℕ) → changed_by f (changes ++ c ∷ []) t ≡ changed_by f changes t +ℤ cond (nat_le c.at t) (f c.weight) (pos 0)
changed-push f changes c t = added-append (λ (c : Change). cond (nat_le c.at t) (f c.weight) (pos 0)) changes (c ∷ []) ∙ omega (arith, ints)

-- a row adds its own while it lasts
pub changed_more : (f : ℤ → ℤ) (starts ends : List Change) (p : Period) (w : ℤ) (t : ℕ)
    → changed_upto f (starts ++ record { at = p.start; weight = w } ∷ []) (ends ++ record { at = p.end; weight = w } ∷ []) t ≡ changed_upto f starts ends t +ℤ cond (holds p t) (f w) (pos 0)
changed_more f starts ends p w t =
    let start : Change = record { at = p.start; weight = w } in
    let end : Change = record { at = p.end; weight = w } in
    omega (arith, ints, changed-push f starts start t, changed-push f ends end t, own_while_it_lasts (f w) p t)

-- one more change inside the window
pub inside-push : (window : Period) (changes : List Change) (c : Change) → window.start ≤ c.at → c.at ≤ window.end → FitsSigned w64 c.weight → ChangeInside window changes → ChangeInside window (changes ++ c ∷ [])
inside-push window changes c least most small inside = (
  subst (All (λ b. (window.start ≤ b) × (b ≤ window.end))) (sym (map-append (λ (c : Change). c.at) changes (c ∷ [])))
      (All-push (λ b. (window.start ≤ b) × (b ≤ window.end)) (bounds_of changes) c.at inside.0 (least, most)),
  All-push (λ (c : Change). FitsSigned w64 c.weight) changes c inside.1 small,
)

-- no changes
none_inside : (window : Period) → ChangeInside window []
none_inside window = (All-nil (λ x. (window.start ≤ x) × (x ≤ window.end)), All-nil (λ (c : Change). FitsSigned w64 c.weight))

-- ---- buckets

-- the changes of the bucket come at bounds of the window
abbrev pub AreCutIn : Period → Bucket → Type 0
AreCutIn window b = ChangeInside window b.changes.starts.items × ChangeInside window b.changes.ends.items

-- an empty bucket has no bounds outside the window
pub unchanged_is_cut : (window : Period) (buckets : List Bucket) (place : ℕ) (b : Bucket) → b.changes.starts.items ≡ [] → b.changes.ends.items ≡ [] → AreChangesCut window buckets → AreChangesCut window (insert buckets place b)
unchanged_is_cut window buckets place b no_starts no_ends cut =
    All-insert (AreCutIn window) buckets place b cut
    (subst (ChangeInside window) (sym no_starts) (none_inside window), subst (ChangeInside window) (sym no_ends) (none_inside window))

-- and it adds nothing
pub unchanged_adds : (f : ℤ → ℤ) (column : List Value) (t : ℕ) (key : List Value) (buckets : List Bucket) (place : ℕ) (b : Bucket) → b.changes.starts.items ≡ [] → b.changes.ends.items ≡ []
    → weighed f column t key (insert buckets place b) ≡ weighed f column t key buckets
unchanged_adds f column t key buckets place b no_starts no_ends =
    omega (arith, ints, added-insert (bucket_change f column t key) buckets place b, none (same_row (value_of column b ∷ []) key))
  where
    none : (s : Bool) → cond s (changed_upto f b.changes.starts.items b.changes.ends.items t) (pos 0) ≡ pos 0
    none true = ap (λ l. changed_upto f l b.changes.ends.items t) no_starts ∙ ap (λ l. changed_upto f [] l t) no_ends ∙ omega (arith, ints)
    none false = refl

-- a row that goes into the bucket of its value adds its own while it lasts
pub change_adds : (f : ℤ → ℤ) (column : List Value) (t : ℕ) (key : List Value) (buckets : List Bucket) (place : ℕ) (b new : Bucket) (v : Value) (p : Period) (w : ℤ) → place < length buckets → b ≡ get_or buckets place b → new.row ≡ b.row
    → value_of column b ≡ v → new.changes.starts.items ≡ b.changes.starts.items ++ record { at = p.start; weight = w } ∷ [] → new.changes.ends.items ≡ b.changes.ends.items ++ record { at = p.end; weight = w } ∷ []
    → weighed f column t key (set buckets place new) ≡ weighed f column t key buckets +ℤ cond (holds p t) (cond (same_row (v ∷ []) key) (f w) (pos 0)) (pos 0)
change_adds f column t key buckets place b new v p w lt is same of starts ends =
    omega (
      arith,
      ints,
      added-set (bucket_change f column t key) buckets place new lt b,
      ap (bucket_change f column t key) is,
      ap (λ v. cond (same_row (v ∷ []) key) (changed_upto f new.changes.starts.items new.changes.ends.items t) (pos 0)) (ap (value_at column) same ∙ of),
      ap (λ v. cond (same_row (v ∷ []) key) (changed_upto f b.changes.starts.items b.changes.ends.items t) (pos 0)) of,
      adds (same_row (v ∷ []) key),
    )
  where
    more : changed_upto f new.changes.starts.items new.changes.ends.items t ≡ changed_upto f b.changes.starts.items b.changes.ends.items t +ℤ cond (holds p t) (f w) (pos 0)
    more =
        ap (λ l. changed_upto f l new.changes.ends.items t) starts
        ∙ ap (λ l. changed_upto f (b.changes.starts.items ++ record { at = p.start; weight = w } ∷ []) l t) ends
        ∙ changed_more f b.changes.starts.items b.changes.ends.items p w t

    nothing : (h : Bool) → cond h (pos 0) (pos 0) ≡ pos 0
    nothing true = refl
    nothing false = refl

    adds : (s : Bool) → cond s (changed_upto f new.changes.starts.items new.changes.ends.items t) (pos 0)
        ≡ cond s (changed_upto f b.changes.starts.items b.changes.ends.items t) (pos 0) +ℤ cond (holds p t) (cond s (f w) (pos 0)) (pos 0)
    adds true = more
    adds false = omega (arith, ints, nothing (holds p t))

-- ---- rows

-- one more row
pub weighed_step : (column : ℕ) (window : Period) (s : Summand) (t : ℕ) (key : List Value) (rows : List Fragment) (i : ℕ) (period : Period) (w : ℤ) → i < length rows → ((d : Fragment) → period ≡ (get_or rows i d).period)
    → w ≡ weight_of s (values_at_number rows i)
    → keyed_weight column window s t key (take (i + 1) rows)
    ≡ keyed_weight column window s t key (take i rows) +ℤ cond (holds period t && holds window t) (cond (same_row (value_at (column_of rows column) i ∷ []) key) w (pos 0)) (pos 0)
weighed_step column window s t key rows i period w lt are of =
    let row = get_or rows i no_row in
    let each : Fragment → ℤ = λ r. cond (holds r.period t && holds window t) (cond (same_row (value_at r.values column ∷ []) key) (weight_of s r.values) (pos 0)) (pos 0) in
    added-step each rows i row lt (get_or_default rows i no_row row lt)
    ∙ ap (λ (p : Period). added each (take i rows) +ℤ cond (holds p t && holds window t) (cond (same_row (value_at row.values column ∷ []) key) (weight_of s row.values) (pos 0)) (pos 0)) (sym (are no_row))
    ∙ ap (λ v. added each (take i rows) +ℤ cond (holds period t && holds window t) (cond (same_row (v ∷ []) key) (weight_of s row.values) (pos 0)) (pos 0)) (sym (number_at rows column i))
    ∙ ap (λ n. added each (take i rows) +ℤ cond (holds period t && holds window t) (cond (same_row (value_at (column_of rows column) i ∷ []) key) n (pos 0)) (pos 0)) (sym of)

-- what the row of the number adds is the number in the summed column
pub weight_at : (rows : List Fragment) (summed number : ℕ) → number_of (value_at (column_of rows summed) number) ≡ weight_of (Column summed) (values_at_number rows number)
weight_at rows summed number = ap number_of (number_at rows summed number)
