-- What the first missing period of a row is.
use Rattle.std.proofs.Common.{◌≡◌, ◌∙◌, ℕ, zero, suc, ◌+◌, ◌-◌, ◌<◌, ◌≤◌, Bool, true, false, cond, not, Option, Some, None, ap, refl, sym, subst, arith, unwrap_or, inl, inr}
use Rattle.std.specs.Option.{option_map}
use Rattle.std.proofs.lemmas.Bool.{cases_lt}
use Rattle.tq_base.specs.RowValues.{value_at}
use Rattle.tq_check.specs.OrphanLaws.{IsFirstMissing, MissingPeriodsAreFirst, OtherRowsHaveParents}
use Rattle.tq_check.specs.Orphans.{first_instant, first_within, has_parent, missing_from, missing_in}
use Rattle.tq_check.specs.declared.missing.Missing.{Missing}
use Rattle.tq_check.proofs.InstantLemmas.{no_instant, one_instant}

-- the instant passes, and none before it does
record IsFound (test : ℕ → Bool) (at count k : ℕ) : Type 0 where
  pub least : at ≤ k
  pub less : k < at + count
  pub passes : test k ≡ true
  pub before : (t : ℕ) → at ≤ t → t < k → test t ≡ false

found_is : (test : ℕ → Bool) (count at k : ℕ) → first_instant test at count ≡ Some k → IsFound test at count k
found_is test zero at k is = let none : None ≡ Some k = sym (no_instant test at) ∙ is in cc
found_is test (suc count) at k is = by (test at) refl (found_is test count (at + 1) k)
  where
    by : (b : Bool) → test at ≡ b → (first_instant test (at + 1) count ≡ Some k → IsFound test (at + 1) count k) → IsFound test at (suc count) k
    by true here rest =
        let some : Some at ≡ Some k = sym (ap (λ b. cond b (Some at) (first_instant test (at + 1) count)) here) ∙ sym (one_instant test at count) ∙ is in
        let same : at ≡ k = cc in
        record {
          least = omega (arith, same);
          less = omega (arith, same);
          passes = sym (ap test same) ∙ here;
          before = λ t least less. absurd (omega (arith, least, less, same));
        }
    by false here rest =
        let found = rest (sym (ap (λ b. cond b (Some at) (first_instant test (at + 1) count)) here) ∙ sym (one_instant test at count) ∙ is) in
        let least = found.least in
        let less = found.less in
        record {
          least = omega (arith, least);
          less = omega (arith, less);
          passes = found.passes;
          before = λ t t_least t_less. elim (cases_lt at t) [
            | inl after ↦ found.before t (omega (arith, after)) t_less
            | inr most ↦ let same : at ≡ t = omega (arith, t_least, most) in subst (λ n. test n ≡ false) same here
          ];
        }

none_is : (test : ℕ → Bool) (count at : ℕ) → first_instant test at count ≡ None → (t : ℕ) → at ≤ t → t < at + count → test t ≡ false
none_is test zero at is t least less = absurd (omega (arith, least, less))
none_is test (suc count) at is t least less = by (test at) refl (none_is test count (at + 1))
  where
    by : (b : Bool) → test at ≡ b → (first_instant test (at + 1) count ≡ None → (u : ℕ) → at + 1 ≤ u → u < at + 1 + count → test u ≡ false) → test t ≡ false
    by true here rest =
        let none : Some at ≡ None = sym (ap (λ b. cond b (Some at) (first_instant test (at + 1) count)) here) ∙ sym (one_instant test at count) ∙ is in cc
    by false here rest = elim (cases_lt at t) [
      | inl after ↦ rest (sym (ap (λ b. cond b (Some at) (first_instant test (at + 1) count)) here) ∙ sym (one_instant test at count) ∙ is) t (omega (arith, after)) (omega (arith, less))
      | inr most ↦ let same : at ≡ t = omega (arith, least, most) in subst (λ n. test n ≡ false) same here
    ]

from_not_true : (b : Bool) → not b ≡ true → b ≡ false
from_not_true true is = cc
from_not_true false is = refl

from_not_false : (b : Bool) → not b ≡ false → b ≡ true
from_not_false true is = refl
from_not_false false is = cc

module _ (test : ℕ → Bool) (start end : ℕ) where
  found_missing : (k : ℕ) → first_within (λ at. not (test at)) start end ≡ Some k → start < end → IsFirstMissing test start end (missing_from test end k)
  found_missing k is some = by (first_within test k end) refl
    where
      first : IsFound (λ at. not (test at)) start (end - start) k
      first = found_is (λ at. not (test at)) (end - start) start k is

      begins : start ≤ k
      begins = first.least

      inside : k < end
      inside = let less = first.less in omega (arith, less, some)

      here : test k ≡ false
      here = from_not_true (test k) first.passes

      before : (at : ℕ) → start ≤ at → at < k → test at ≡ true
      before at least less = from_not_false (test at) (first.before at least less)

      by : (o : Option ℕ) → first_within test k end ≡ o → IsFirstMissing test start end (missing_from test end k)
      by None none =
          let to : unwrap_or (first_within test k end) end ≡ end = ap (λ (o : Option ℕ). unwrap_or o end) none in
          subst (λ n. IsFirstMissing test start end (record { from = k; to = n })) (sym to) (record {
            begins = begins;
            some = inside;
            ends = omega arith;
            before = before;
            within = λ at least less. none_is test (end - k) k none at least (omega (arith, less, inside));
            next = inl refl;
          })
      by (Some next) found =
          let to : unwrap_or (first_within test k end) end ≡ next = ap (λ (o : Option ℕ). unwrap_or o end) found in
          let second = found_is test (end - k) k next found in
          let least_next = second.least in
          let less_next = second.less in
          subst (λ n. IsFirstMissing test start end (record { from = k; to = n })) (sym to) (record {
            begins = begins;
            some = elim (cases_lt k next) [
              | inl after ↦ after
              | inr most ↦ let same : next ≡ k = omega (arith, most, least_next) in let passes : test k ≡ true = subst (λ n. test n ≡ true) same second.passes in cc (passes, here)
            ];
            ends = omega (arith, less_next, inside);
            before = before;
            within = λ at least less. second.before at least less;
            next = inr second.passes;
          })

  missing_is_first : (missing : Missing) → start < end → missing_in test start end ≡ Some missing → IsFirstMissing test start end missing
  missing_is_first missing some is = by (first_within (λ at. not (test at)) start end) refl
    where
      by : (o : Option ℕ) → first_within (λ at. not (test at)) start end ≡ o → IsFirstMissing test start end missing
      by None none = let no : None ≡ Some missing = sym (ap (option_map (missing_from test end)) none) ∙ is in cc
      by (Some k) found =
          let both : Some (missing_from test end k) ≡ Some missing = sym (ap (option_map (missing_from test end)) found) ∙ is in
          let same : missing_from test end k ≡ missing = cc in
          subst (IsFirstMissing test start end) same (found_missing k found some)

  all_pass : start < end → missing_in test start end ≡ None → (at : ℕ) → start ≤ at → at < end → test at ≡ true
  all_pass some is at least less = by (first_within (λ at. not (test at)) start end) refl
    where
      by : (o : Option ℕ) → first_within (λ at. not (test at)) start end ≡ o → test at ≡ true
      by None none = from_not_false (test at) (none_is (λ at. not (test at)) (end - start) start none at least (omega (arith, less, some)))
      by (Some k) found = let no : Some (missing_from test end k) ≡ None = sym (ap (option_map (missing_from test end)) found) ∙ is in cc

pub missing_periods_are_first : MissingPeriodsAreFirst
missing_periods_are_first linked row missing is =
    missing_is_first (has_parent linked (value_at row.values linked.column)) row.period.start row.period.end missing row.period.ordered is

pub other_rows_have_parents : OtherRowsHaveParents
other_rows_have_parents linked row is = all_pass (has_parent linked (value_at row.values linked.column)) row.period.start row.period.end row.period.ordered is
