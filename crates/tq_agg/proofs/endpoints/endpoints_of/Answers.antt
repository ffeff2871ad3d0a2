use Rattle.std.proofs.Common.{◌≡◌, ◌+◌, ◌<◌, ◌≤◌, ℕ, ◌&&◌, cond, ℤ, pos, ◌+ℤ◌, nat_le, List, length, take, get_or, sym, subst, ap, ◌∙◌, arith}
use Rattle.std.specs.Prelude.{All}
use Rattle.std.proofs.lemmas.Bool.{false≢true}
use Rattle.std.proofs.lemmas.Int.{ints}
use Rattle.std.proofs.lemmas.List.{get_or_default, length-map, take_all}
use Rattle.std.proofs.lemmas.List.Elements.{All-push}
use Rattle.std.proofs.lemmas.List.Sorted.{All-permutation, sum_by-IsPermutation}
use Rattle.tq_base.specs.declared.period.Period.{Period}
use Rattle.tq_base.specs.declared.fragment.Fragment.{Fragment}
use Rattle.tq_base.specs.Keys.{no_row}
use Rattle.tq_base.specs.Periods.{holds, IsOverlap}
use Rattle.tq_base.specs.Sweep.{upto, upto-push}
use Rattle.tq_agg.specs.declared.summands.Summand.TheVariants.{One}
use Rattle.tq_agg.specs.Totals.{added, held_weight}
use Rattle.tq_agg.proofs.Adding.{added-step}
use Rattle.tq_agg.proofs.Changing.{apart_adds_none, one_while_it_lasts}
use Rattle.tq_agg.proofs.Cutting.{holds-overlap, overlap_within, period_at}
use Rattle.tq_agg.proofs.endpoints.endpoints_of.Goals as goal

-- what one more row adds, of which the period is known
adds_row : (window : Period) (t : ℕ) (rows : List Fragment) (i : ℕ) (period : Period) → i < length rows → ((d : Fragment) → period ≡ (get_or rows i d).period)
    → added (held_weight One window t) (take (i + 1) rows) ≡ added (held_weight One window t) (take i rows) +ℤ cond (holds period t && holds window t) (pos 1) (pos 0)
adds_row window t rows i period lt are =
    let row = get_or rows i no_row in
    added-step (held_weight One window t) rows i row lt (get_or_default rows i no_row row lt) ∙ ap (λ (p : Period). added (held_weight One window t) (take i rows) +ℤ cond (holds p t && holds window t) (pos 1) (pos 0)) (sym (are no_row))

pub rows-preserved : goal.rows-preserved
rows-preserved c =
    let window = c.args.window.now in
    let period = c.period-item.result in
    let rows = c.args.rows.now.items in
    let i = c.rows.period-index in
    let less : i < length rows = omega (arith, c.rows-test.true, ap length c.periods-period-items.ensures, length-map rows (λ (row : Fragment). row.period)) in
    let is : (d : Fragment) → period ≡ (get_or rows i d).period = period_at rows c.periods-period-items.result.now i period c.periods-period-items.ensures less c.period-item.is in
    let both : IsOverlap period window c.in-Some.shared = c.in-Some.ensures.value in
    let inside = overlap_within period window c.in-Some.shared both in
    record {
      counts = λ t.
          omega (
            arith,
            ints,
            c.rows.invariant.counts t,
            adds_row window t c.args.rows.now.items c.rows.period-index period less is,
            ap (λ l. upto l t) c.in_ok-add.ensures.starts,
            ap (λ l. upto l t) c.in_ok-add.ensures.ends,
            upto-push c.rows.endpoints.starts.items c.in-Some.shared.start t,
            upto-push c.rows.endpoints.ends.items c.in-Some.shared.end t,
            one_while_it_lasts c.in-Some.shared t,
            ap {B = ℤ} (λ h. cond h (pos 1) (pos 0)) (holds-overlap period window c.in-Some.shared both t),
          );
      starts =
          subst (All (λ b. (window.start ≤ b) × (b ≤ window.end))) (sym {A = List ℕ} c.in_ok-add.ensures.starts)
          (All-push (λ b. (window.start ≤ b) × (b ≤ window.end)) c.rows.endpoints.starts.items c.in-Some.shared.start c.rows.invariant.starts (inside.0, inside.1));
      ends =
          subst (All (λ b. (window.start ≤ b) × (b ≤ window.end))) (sym {A = List ℕ} c.in_ok-add.ensures.ends)
          (All-push (λ b. (window.start ≤ b) × (b ≤ window.end)) c.rows.endpoints.ends.items c.in-Some.shared.end c.rows.invariant.ends (inside.2, inside.3));
    }

pub rows-preserved-in_default : goal.rows-preserved-in_default
rows-preserved-in_default c =
    let window = c.args.window.now in
    let period = c.period-item.result in
    let rows = c.args.rows.now.items in
    let i = c.rows.period-index in
    let less : i < length rows = omega (arith, c.rows-test.true, ap length c.periods-period-items.ensures, length-map rows (λ (row : Fragment). row.period)) in
    let is : (d : Fragment) → period ≡ (get_or rows i d).period = period_at rows c.periods-period-items.result.now i period c.periods-period-items.ensures less c.period-item.is in
    record {
      counts = λ t.
          omega (
            arith,
            ints,
            c.rows.invariant.counts t,
            adds_row window t c.args.rows.now.items c.rows.period-index period less is,
            apart_adds_none period window t (pos 1) (λ both. false≢true (c.in_default.ensures.some.1 both)),
          );
      starts = c.rows.invariant.starts;
      ends = c.rows.invariant.ends;
    }

pub returns-clause-counts : goal.returns-clause-counts
returns-clause-counts c t =
    omega (
      arith,
      ints,
      c.rows.invariant.counts t,
      sum_by-IsPermutation (λ (b : ℕ). cond (nat_le b t) 1 0) c.rows.endpoints.starts.items c.sort.new.self.starts.items c.sort.ensures.starts,
      sum_by-IsPermutation (λ (b : ℕ). cond (nat_le b t) 1 0) c.rows.endpoints.ends.items c.sort.new.self.ends.items c.sort.ensures.ends,
      ap (added (held_weight One c.args.window.now t)) (take_all c.rows.period-index c.args.rows.now.items (omega (arith, c.rows-test.false, ap length c.periods-period-items.ensures, length-map c.args.rows.now.items (λ (row : Fragment). row.period)))),
    )

pub returns-clause-starts : goal.returns-clause-starts
returns-clause-starts c = (
  c.sort.ensures.starts_sorted,
  All-permutation (λ b. (c.args.window.now.start ≤ b) × (b ≤ c.args.window.now.end)) c.rows.endpoints.starts.items c.sort.new.self.starts.items c.sort.ensures.starts c.rows.invariant.starts,
)

pub returns-clause-ends : goal.returns-clause-ends
returns-clause-ends c = (
  c.sort.ensures.ends_sorted,
  All-permutation (λ b. (c.args.window.now.start ≤ b) × (b ≤ c.args.window.now.end)) c.rows.endpoints.ends.items c.sort.new.self.ends.items c.sort.ensures.ends c.rows.invariant.ends,
)
