-- The changes that a row makes.
use Rattle.std.proofs.Common.{◌≡◌, ℕ, ◌+◌, ◌<◌, Bool, true, false, not, ◌&&◌, nat_le, List, [], ◌∷◌, ◌++◌, length, take, get_or, count_by, refl, sym, ap, ◌∙◌, arith, append_assoc, append-nil}
use Rattle.std.specs.Prelude.{All}
use Rattle.std.proofs.lemmas.List.{map-append}
use Rattle.std.proofs.lemmas.List.Elements.{All-weaker}
use Rattle.std.proofs.lemmas.List.Sums.{sum_by_push}
use Rattle.tq_base.specs.declared.value.Value.{Value}
use Rattle.tq_base.specs.declared.period.Period.{Period}
use Rattle.tq_base.specs.declared.fragment.Fragment.{Fragment}
use Rattle.tq_base.specs.Layering.{held, rows_of}
use Rattle.tq_base.specs.Periods.{holds, IsOverlap, Overlap}
use Rattle.tq_base.specs.declared.sort_input.Side.{Side}
use Rattle.tq_base.specs.declared.sort_input.Side.TheVariants.{Left, Right}
use Rattle.tq_base.specs.Keys.{is_same_side, Held}
use Rattle.tq_ops.specs.declared.difference.Change.{Change}
use Rattle.tq_ops.specs.Differences.{rises_upto, falls_upto, side_held, AddsDifference, IsEven}
use Rattle.tq_ops.proofs.Counting.{one_if, sum_by_step}
use Rattle.tq_ops.proofs.Meeting.{sum_by-nothing}
use Rattle.tq_ops.proofs.Cutting.{holds-overlap, holds_apart}
use Rattle.tq_ops.proofs.Sweeping.{held_one}

-- the changes of one row balance the row
one_row : (side : Side) (p : Period) (t : ℕ) → let b = is_same_side Left side in
    one_if (b && nat_le p.start t) + one_if (not b && nat_le p.end t) + one_if (is_same_side Right side && holds p t)
    ≡ one_if (not b && nat_le p.start t) + one_if (not (not b) && nat_le p.end t) + one_if (is_same_side Left side && holds p t)
one_row Left p t = omega (arith, held_one p t)
one_row Right p t = omega (arith, held_one p t)

module _ (window : Period) (rows : List Held) (i : ℕ) (r : Held) (lt : i < length rows) (is : r ≡ get_or rows i r) where
  more_held : (side : Side) (t : ℕ) → side_held window side (take (i + 1) rows) t ≡ side_held window side (take i rows) t + one_if (is_same_side side r.side && (holds r.row.period t && holds window t))
  more_held side t = sum_by_step (λ r. one_if (is_same_side side r.side && (holds r.row.period t && holds window t))) rows i r lt is

  -- a row that overlaps the window
  pub counts_on : (p : Period) (b : Bool) (start end : ℕ) (old mid new : List Change) → IsOverlap r.row.period window p → b ≡ is_same_side Left r.side → start ≡ p.start → end ≡ p.end
      → mid ≡ old ++ (record { at = start; rises = b }) ∷ [] → new ≡ mid ++ (record { at = end; rises = not b }) ∷ []
      → (t : ℕ) → rises_upto old t + side_held window Right (take i rows) t ≡ falls_upto old t + side_held window Left (take i rows) t
      → rises_upto new t + side_held window Right (take (i + 1) rows) t ≡ falls_upto new t + side_held window Left (take (i + 1) rows) t
  counts_on p b start end old mid new overlap left from to first second t before =
      let at_start : Change = record { at = start; rises = b } in
      let at_end : Change = record { at = end; rises = not b } in
      omega (
        arith,
        before,
        more_held Right t,
        more_held Left t,
        ap (λ l. rises_upto l t) first,
        ap (λ l. rises_upto l t) second,
        ap (λ l. falls_upto l t) first,
        ap (λ l. falls_upto l t) second,
        sum_by_push (λ (c : Change). one_if (c.rises && nat_le c.at t)) old at_start,
        sum_by_push (λ (c : Change). one_if (c.rises && nat_le c.at t)) mid at_end,
        sum_by_push (λ (c : Change). one_if (not c.rises && nat_le c.at t)) old at_start,
        sum_by_push (λ (c : Change). one_if (not c.rises && nat_le c.at t)) mid at_end,
        one_row r.side p t,
        ap (λ c. one_if (c && nat_le start t)) left,
        ap (λ c. one_if (not c && nat_le end t)) left,
        ap (λ c. one_if (not c && nat_le start t)) left,
        ap (λ c. one_if (not (not c) && nat_le end t)) left,
        ap (λ x. one_if (is_same_side Left r.side && nat_le x t)) from,
        ap (λ x. one_if (not (is_same_side Left r.side) && nat_le x t)) from,
        ap (λ x. one_if (not (is_same_side Left r.side) && nat_le x t)) to,
        ap (λ x. one_if (not (not (is_same_side Left r.side)) && nat_le x t)) to,
        ap (λ h. one_if (is_same_side Right r.side && h)) (holds-overlap r.row.period window p overlap t),
        ap (λ h. one_if (is_same_side Left r.side && h)) (holds-overlap r.row.period window p overlap t),
      )

  -- a row that does not overlap the window
  pub counts_past : (changes : List Change) → (Overlap r.row.period window → ⊥)
      → (t : ℕ) → rises_upto changes t + side_held window Right (take i rows) t ≡ falls_upto changes t + side_held window Left (take i rows) t
      → rises_upto changes t + side_held window Right (take (i + 1) rows) t ≡ falls_upto changes t + side_held window Left (take (i + 1) rows) t
  counts_past changes apart t before =
      omega (
        arith,
        before,
        more_held Right t,
        more_held Left t,
        nothing (is_same_side Right r.side),
        nothing (is_same_side Left r.side),
        ap (λ h. one_if (is_same_side Right r.side && h)) (holds_apart r.row.period window apart t),
        ap (λ h. one_if (is_same_side Left r.side && h)) (holds_apart r.row.period window apart t),
      )
    where
      nothing : (b : Bool) → one_if (b && false) ≡ 0
      nothing true = refl
      nothing false = refl

-- a rise and a fall keep rises and falls equally many
pub stays_even : (old mid new : List Change) (b : Bool) (start end : ℕ) → mid ≡ old ++ (record { at = start; rises = b }) ∷ [] → new ≡ mid ++ (record { at = end; rises = not b }) ∷ [] → IsEven old → IsEven new
stays_even old mid new b start end first second even =
    let at_start : Change = record { at = start; rises = b } in
    let at_end : Change = record { at = end; rises = not b } in
    omega (
      arith,
      even,
      ap (λ l. count_by (λ (c : Change). c.rises) l) first,
      ap (λ l. count_by (λ (c : Change). c.rises) l) second,
      ap (λ l. count_by (λ (c : Change). not c.rises) l) first,
      ap (λ l. count_by (λ (c : Change). not c.rises) l) second,
      sum_by_push (λ (c : Change). one_if c.rises) old at_start,
      sum_by_push (λ (c : Change). one_if c.rises) mid at_end,
      sum_by_push (λ (c : Change). one_if (not c.rises)) old at_start,
      sum_by_push (λ (c : Change). one_if (not c.rises)) mid at_end,
      cases b,
    )
  where
    cases : (b : Bool) → one_if b + one_if (not b) ≡ one_if (not b) + one_if (not (not b))
    cases true = refl
    cases false = refl

-- ---- groups of one side

not_right : (s : Side) → is_same_side Left s ≡ true → is_same_side Right s ≡ false
not_right Left is = refl
not_right Right is = cc

none_held : (side : Side) (window : Period) (rows : List Held) → All (λ (r : Held). is_same_side side r.side ≡ false) rows → (t : ℕ) → side_held window side rows t ≡ 0
none_held side window rows none t =
    sum_by-nothing (λ (r : Held). one_if (is_same_side side r.side && (holds r.row.period t && holds window t))) rows
    (λ k d lt. ap (λ b. one_if (b && (holds (get_or rows k d).row.period t && holds window t))) (none k d lt))

-- a group of the right removes no existing row
pub adds_nothing : (window : Period) (rows : List Held) (v : List Value) (out : List Fragment) → All (λ (r : Held). is_same_side Left r.side ≡ false) rows → AddsDifference window rows v out out
adds_nothing window rows v out right = record {
  periods = [];
  counted = λ t. omega (arith, none_held Left window rows right t);
  added = sym (append-nil out);
}

-- a group of the left remains
pub adds_all : (window : Period) (rows : List Held) (v : List Value) (old new : List Fragment) (periods : List Period) → All (λ (r : Held). is_same_side Left r.side ≡ true) rows
    → ((t : ℕ) → held periods t ≡ side_held window Left rows t) → new ≡ old ++ rows_of v periods → AddsDifference window rows v old new
adds_all window rows v old new periods left counted added = record {
  periods = periods;
  counted = λ t.
      omega (arith, counted t, none_held Right window rows (All-weaker (λ (r : Held). is_same_side Left r.side ≡ true) (λ (r : Held). is_same_side Right r.side ≡ false) (λ r is. not_right r.side is) rows left) t);
  added = added;
}

-- the rows of a group of the left so far, cut to the window
pub record Cut (window : Period) (rows : List Held) (v : List Value) (old new : List Fragment) : Type 0 where
  pub periods : List Period
  pub counted : (t : ℕ) → held periods t ≡ side_held window Left rows t
  pub added : new ≡ old ++ rows_of v periods

pub nothing_cut : (window : Period) (v : List Value) (old : List Fragment) → Cut window [] v old old
nothing_cut window v old = record { periods = []; counted = λ t. refl; added = sym (append-nil old) }

module _ (window : Period) (rows : List Held) (i : ℕ) (r : Held) (lt : i < length rows) (is : r ≡ get_or rows i r) where
  -- a row that overlaps the window
  pub cut_on : (p : Period) (v : List Value) (old mid new : List Fragment) → IsOverlap r.row.period window p → is_same_side Left r.side ≡ true → r.row.values ≡ v
      → new ≡ mid ++ (record { values = r.row.values; period = p }) ∷ [] → Cut window (take i rows) v old mid → Cut window (take (i + 1) rows) v old new
  cut_on p v old mid new overlap left values pushed w = record {
    periods = w.periods ++ p ∷ [];
    counted = λ t.
        omega (
          arith,
          w.counted t,
          more_held window rows i r lt is Left t,
          sum_by_push (λ (q : Period). one_if (holds q t)) w.periods p,
          ap (λ s. one_if (s && (holds r.row.period t && holds window t))) left,
          ap one_if (holds-overlap r.row.period window p overlap t),
        );
    added =
        pushed ∙ ap (λ l. l ++ (record { values = r.row.values; period = p }) ∷ []) w.added
        ∙ append_assoc old (rows_of v w.periods) ((record { values = r.row.values; period = p }) ∷ [])
        ∙ ap (λ u. old ++ (rows_of v w.periods ++ (record { values = u; period = p }) ∷ [])) values
        ∙ ap (λ l. old ++ l) (sym (map-append (λ q. record { values = v; period = q }) w.periods (p ∷ [])));
  }

  -- a row that does not overlap the window
  pub cut_past : (v : List Value) (old new : List Fragment) → (Overlap r.row.period window → ⊥) → Cut window (take i rows) v old new → Cut window (take (i + 1) rows) v old new
  cut_past v old new apart w = record {
    periods = w.periods;
    counted = λ t.
        omega (
          arith,
          w.counted t,
          more_held window rows i r lt is Left t,
          nothing (is_same_side Left r.side),
          ap (λ h. one_if (is_same_side Left r.side && h)) (holds_apart r.row.period window apart t),
        );
    added = w.added;
  }
    where
      nothing : (b : Bool) → one_if (b && false) ≡ 0
      nothing true = refl
      nothing false = refl
