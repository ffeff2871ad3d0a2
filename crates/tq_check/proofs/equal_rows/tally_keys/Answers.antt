use Rattle.std.proofs.Common.{◌≡◌, ◌≢◌, ◌∙◌, List, ◌<◌, ◌≤◌, ◌+◌, ◌-◌, [], ap, sym, refl, subst, arith, drop, get_or, length, map, take}
use Rattle.std.specs.Prelude.{All}
use Rattle.std.proofs.lemmas.List.{drop-drop, drop_all, length-drop, length-take, take_rest}
use Rattle.std.proofs.lemmas.List.Elements.{All-drop}
use Rattle.tq_base.specs.declared.sort_input.SortKey.{SortKey}
use Rattle.tq_base.specs.Keys.{key_row, key_values, HaveRunStarts, IsSortKey}
use Rattle.tq_base.specs.SortKeyLaws.{run_starts_rest}
use Rattle.tq_base.specs.SortInputs.{state_of}
use Rattle.tq_check.specs.EqualRows.{count_rows, meeting, overlapping}
use Rattle.tq_check.specs.Runs.{adjacent_starts, overlapping_starts}
use Rattle.tq_check.proofs.SortKeyLemmas.{end_key, first_meeting, first_overlapping, order_rest}
use Rattle.tq_check.proofs.equal_rows.tally_keys.Goals as goal

pub run_len-requires : goal.run_len-requires
run_len-requires c = record {
  keys = subst (All (IsSortKey (state_of c.args.sort_input.now))) (sym (take_rest c.args.keys.now c.runs.start)) (All-drop (IsSortKey (state_of c.args.sort_input.now)) c.runs.start c.args.keys.now c.requires.each);
  run_starts = subst (HaveRunStarts (state_of c.args.sort_input.now)) (sym (take_rest c.args.keys.now c.runs.start)) (run_starts_rest (state_of c.args.sort_input.now) c.args.keys.now c.runs.start c.requires.run_starts);
}

pub runs-preserved : goal.runs-preserved
runs-preserved c =
    let s = state_of c.args.sort_input.now in
    let keys = c.args.keys.now in
    let start = c.runs.start in
    let len = c.run_len.result in
    let rest = drop start keys in
    let part : take (length keys - start) rest ≡ rest = take_rest keys start in
    let long : length rest ≡ length keys - start = length-drop start keys in
    let some : 0 < len = c.run_len.ensures.some (omega (arith, ap length part, long, c.runs-test.true)) in
    let within : len ≤ length rest = subst (λ (l : List SortKey). len ≤ length l) part c.run_len.ensures.within in
    let alike : All (λ k. key_values s k ≡ key_values s (get_or rest 0 end_key)) (take len rest) =
    subst (λ (l : List SortKey). All (λ k. key_values s k ≡ key_values s (get_or l 0 end_key)) (take len l)) part (c.run_len.ensures.alike end_key) in
    let ends : len < length rest → key_values s (get_or rest len end_key) ≢ key_values s (get_or rest 0 end_key) =
    subst (λ (l : List SortKey). len < length l → key_values s (get_or l len end_key) ≢ key_values s (get_or l 0 end_key)) part (c.run_len.ensures.ends end_key) in
    let cut : take (start + len - start) rest ≡ take len rest = ap (λ n. take n rest) (let same : start + len - start ≡ len = omega arith in same) in
    let order = order_rest s keys start c.requires in
    let next : drop len rest ≡ drop (start + len) keys = drop-drop len start keys in
    let inside : c.tally_run-run.result.overlapping ≡ overlapping_starts 0 (map (key_row s) (take len rest)) = c.tally_run-run.ensures.overlapping ∙ ap (λ l. overlapping_starts 0 (map (key_row s) l)) cut in
    let behind : c.tally_run-run.result.meeting ≡ adjacent_starts 0 (map (key_row s) (take len rest)) = c.tally_run-run.ensures.meeting ∙ ap (λ l. adjacent_starts 0 (map (key_row s) l)) cut in
    let overlaps = first_overlapping s rest len order some within alike ends in
    let meets = first_meeting s rest len order some within alike ends in
    let overlaps_next : overlapping (map (key_row s) (drop len rest)) ≡ overlapping (map (key_row s) (drop (start + len) keys)) = ap (λ l. overlapping (map (key_row s) l)) next in
    let meets_next : meeting (map (key_row s) (drop len rest)) ≡ meeting (map (key_row s) (drop (start + len) keys)) = ap (λ l. meeting (map (key_row s) l)) next in
    let run_long : length (take (start + len - start) rest) ≡ len = ap length cut ∙ length-take len rest ∙ omega (arith, within) in
    record {
      within = omega (arith, within, long, c.runs.invariant.within);
      overlapping = omega (arith, inside, overlaps, overlaps_next, c.runs.invariant.overlapping);
      meeting = omega (arith, behind, meets, meets_next, c.runs.invariant.meeting);
      few_overlap = omega (arith, run_long, c.tally_run-run.ensures.few_overlap, c.runs.invariant.few_overlap);
      few_meet = omega (arith, run_long, c.tally_run-run.ensures.few_meet, c.runs.invariant.few_meet);
    }

nothing_overlaps : overlapping [] ≡ 0
unfolding count_rows
nothing_overlaps = refl

nothing_meets : meeting [] ≡ 0
unfolding count_rows
nothing_meets = refl

pub returns-clause-overlapping : goal.returns-clause-overlapping
returns-clause-overlapping c =
    let s = state_of c.args.sort_input.now in
    let keys = c.args.keys.now in
    let none : drop c.runs.start keys ≡ [] = drop_all c.runs.start keys (omega (arith, c.runs-test.false)) in
    let left : overlapping (map (key_row s) (drop c.runs.start keys)) ≡ 0 = ap (λ l. overlapping (map (key_row s) l)) none ∙ nothing_overlaps in
    omega (arith, left, c.runs.invariant.overlapping)

pub returns-clause-meeting : goal.returns-clause-meeting
returns-clause-meeting c =
    let s = state_of c.args.sort_input.now in
    let keys = c.args.keys.now in
    let none : drop c.runs.start keys ≡ [] = drop_all c.runs.start keys (omega (arith, c.runs-test.false)) in
    let left : meeting (map (key_row s) (drop c.runs.start keys)) ≡ 0 = ap (λ l. meeting (map (key_row s) l)) none ∙ nothing_meets in
    omega (arith, left, c.runs.invariant.meeting)
