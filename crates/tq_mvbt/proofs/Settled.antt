-- A node's entries are edited; then it alone may have too many entries or too few live ones.
use Rattle.std.proofs.Common.{◌≡◌, ◌≢◌, ℕ, ◌+◌, ◌-◌, ◌<◌, ◌≤◌, List, ◌++◌, Bool, true, false, cond, ◌&&◌, length, map, set, sym, ◌∙◌, subst, arith, count_by, take, drop, slice_get, Some, length-append}
use Rattle.std.specs.Prelude.{All}
use Rattle.std.proofs.lemmas.Option.{slice_get_within}
use Rattle.std.proofs.lemmas.List.{take_all, length-map}
use Rattle.std.proofs.Math.Seq.{drop-append_seam, take-append_seam}
use Rattle.std.proofs.lemmas.List.Elements.{All-weaker, All-map}
use Rattle.std.proofs.lemmas.List.Sums.{sum_by-append}
use Rattle.tq_mvbt.specs.declared.entry.Entry.{Entry}
use Rattle.tq_mvbt.specs.NodeState.{NodeState}
use Rattle.tq_mvbt.specs.Points.{now, within, is_live, with_end}
use Rattle.tq_mvbt.specs.Shape.{live_at, HasEnoughLive, IsFilled}
use Rattle.tq_mvbt.specs.Steps.{edited}
use Rattle.tq_mvbt.specs.Unsettled.{IsFromBefore, IsFilledBefore, HasNearlyEnoughLive, IsSettling}
use Rattle.tq_mvbt.proofs.Places.{at_set_same, at_set_other}
use Rattle.tq_mvbt.proofs.Filled.{not_yet}
use Rattle.tq_mvbt.proofs.Counts.{is_ended, live-edited, lived-edited, all_live}

-- entries that begin at the version and live
pub record IsNewEntry (version : ℕ) (e : Entry) : Type 0 where
  pub born : e.born ≡ version
  pub dead : e.dead ≡ now

pub all_old : (version : ℕ) (n : NodeState) → IsFromBefore version 0 n → All (λ e. e.born < version) n.entries
all_old version n fb = subst (λ xs. All (λ e. e.born < version) xs) (take_all (length n.entries - 0) n.entries (omega arith)) fb.old

born-edited : (low high version : ℕ) (e : Entry) → e.born < version → (with_end low high version e).born < version
born-edited low high version e h = split (is_live e && within low high e.low)
  where
    split : (b : Bool) → (cond b (record e { dead = version }) e).born < version
    split true = h
    split false = h

module _ (version level low high : ℕ) (nodes : List NodeState) (q : ℕ) (n : NodeState) (added : List Entry)
    (small : version < now)
    (stands : slice_get nodes q ≡ Some n)
    (at_level : n.level ≡ level)
    (died : n.died ≡ now)
    (older : IsFromBefore version 0 n)
    (filled : IsFilledBefore version n)
    (enough : HasEnoughLive n (count_by is_live n.entries))
    (new : All (IsNewEntry version) added)
    (few : length added ≤ 2)
    (ends : count_by (is_ended low high) n.entries ≤ length added + 1)
    (others : (i : ℕ) (m : NodeState) → slice_get nodes i ≡ Some m → i ≢ q → IsFilled m)
    (above : (i : ℕ) (m : NodeState) → slice_get nodes i ≡ Some m → level ≤ m.level → i ≢ q → IsFromBefore version 0 m)
  where
    abbrev kept : List Entry
    kept = map (with_end low high version) n.entries

    abbrev n' : NodeState
    n' = edited low high version added n

    front : take (length (kept ++ added) - length added) (kept ++ added) ≡ kept
    front =
        let l = length-append kept added in
        let e : length (kept ++ added) - length added ≡ length kept = omega (arith, l) in
        rw e (take-append_seam kept added)

    back : drop (length (kept ++ added) - length added) (kept ++ added) ≡ added
    back =
        let l = length-append kept added in
        let e : length (kept ++ added) - length added ≡ length kept = omega (arith, l) in
        rw e (drop-append_seam kept added)

    from_before : IsFromBefore version (length added) n'
    from_before =
        let l = length-append kept added in
        let m = length-map n.entries (with_end low high version) in
        let f = older.few in
        record {
          born = older.born;
          within_items = omega (arith, l);
          few = omega (arith, l, m);
          old = rw front (All-map (λ e. e.born < version) (with_end low high version) n.entries (All-weaker (λ e. e.born < version) (λ e. (with_end low high version e).born < version) (born-edited low high version) n.entries (all_old version n older)));
          young = rw back (All-weaker (IsNewEntry version) (λ e. version ≤ e.born) (λ e i. let b = i.born in omega arith) added new);
        }

    filled_before : IsFilledBefore version n'
    filled_before =
        record {
          enough = λ v h s.
              let was = filled.enough v h s in
              let a = lived-edited v low high version n.entries h small in
              let b = not_yet version v added (All-weaker (IsNewEntry version) (λ e. version ≤ e.born) (λ e i. let x = i.born in omega arith) added new) h in
              let c = sum_by-append (λ e. cond (within e.born e.dead v) 1 0) kept added in
              let same : live_at v n' ≡ live_at v n = omega (arith, a, b, c) in
              record { lower = λ x. let w = was.lower x in omega (arith, w, same); upper = λ x. let w = was.upper x in omega (arith, w, same); index = λ x. let w = was.index x in omega (arith, w, same) };
        }

    near : HasNearlyEnoughLive n' (count_by is_live (kept ++ added))
    near =
        let a = live-edited low high version n.entries small in
        let b = all_live added (All-weaker (IsNewEntry version) (λ e. e.dead ≡ now) (λ e i. i.dead) added new) in
        let c = sum_by-append (λ e. cond (is_live e) 1 0) kept added in
        record { lower = λ x. let w = enough.lower x in omega (arith, w, a, b, c); upper = λ x. let w = enough.upper x in omega (arith, w, a, b, c); index = λ x. let w = enough.index x in omega (arith, w, a, b, c) }

    pub edit_settles : IsSettling version level (length added) (set nodes q n') q
    edit_settles =
        record {
          loose = record { node = n'; stands = at_set_same nodes q n' (slice_get_within nodes q n stands); at_level = at_level; died = died; from_before = from_before };
          few = few;
          before = filled_before;
          near = near;
          others = λ i m e differ. others i m (sym (at_set_other nodes q i n' (λ s. differ (sym s))) ∙ e) differ;
          above = λ i m e l differ. above i m (sym (at_set_other nodes q i n' (λ s. differ (sym s))) ∙ e) l differ;
        }
