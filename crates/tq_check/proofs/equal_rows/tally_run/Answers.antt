use Rattle.std.proofs.Common.{◌≡◌, ◌∙◌, List, ℕ, ◌<◌, ◌+◌, ◌∷◌, [], ap, arith, drop, get_or, length, map, max}
use Rattle.std.proofs.lemmas.List.{drop_all, drop_more, get_or_default}
use Rattle.tq_base.specs.declared.period.Period.{Period}
use Rattle.tq_base.specs.declared.sort_input.SortKey.{SortKey}
use Rattle.tq_base.specs.Keys.{key_row, SortInputState}
use Rattle.tq_base.specs.SortInputs.{state_of}
use Rattle.tq_check.specs.Runs.{adjacent_count, overlap_count, adjacent_starts, overlapping_starts}
use Rattle.tq_check.proofs.SortKeyLemmas.{end_key}
use Rattle.tq_check.proofs.equal_rows.tally_run.Goals as goal

inside_more : (s : SortInputState) (keys rest : List SortKey) (key : SortKey) (reach : ℕ) → keys ≡ key ∷ rest
    → overlapping_starts reach (map (key_row s) keys) ≡ overlap_count (key_row s key).period.start reach + overlapping_starts (max reach (key_row s key).period.end) (map (key_row s) rest)
unfolding overlapping_starts
inside_more s keys rest key reach more = ap (λ l. overlapping_starts reach (map (key_row s) l)) more

behind_more : (s : SortInputState) (keys rest : List SortKey) (key : SortKey) (reach : ℕ) → keys ≡ key ∷ rest
    → adjacent_starts reach (map (key_row s) keys) ≡ adjacent_count (key_row s key).period.start reach + adjacent_starts (max reach (key_row s key).period.end) (map (key_row s) rest)
unfolding adjacent_starts
behind_more s keys rest key reach more = ap (λ l. adjacent_starts reach (map (key_row s) l)) more

inside_none : (s : SortInputState) (keys : List SortKey) (reach : ℕ) → keys ≡ [] → overlapping_starts reach (map (key_row s) keys) ≡ 0
unfolding overlapping_starts
inside_none s keys reach none = ap (λ l. overlapping_starts reach (map (key_row s) l)) none

behind_none : (s : SortInputState) (keys : List SortKey) (reach : ℕ) → keys ≡ [] → adjacent_starts reach (map (key_row s) keys) ≡ 0
unfolding adjacent_starts
behind_none s keys reach none = ap (λ l. adjacent_starts reach (map (key_row s) l)) none

pub places-preserved : goal.places-preserved
places-preserved c =
    let s = state_of c.args.sort_input.now in
    let run = c.args.run.now in
    let at = c.places.place in
    let key = get_or run at end_key in
    let row = key_row s key in
    let rest = drop (at + 1) run in
    let within : at < length run = omega (arith, c.places-test.true) in
    let more : drop at run ≡ key ∷ rest = drop_more run at end_key within in
    let period : c.period-period.result ≡ row.period = c.period-period.ensures ∙ ap (λ (k : SortKey). (key_row s k).period) (get_or_default run at _ end_key within) in
    let start : c.number-start.result ≡ row.period.start = c.number-start.ensures.value ∙ ap (λ (p : Period). p.start) period in
    let end : c.number.result ≡ row.period.end = c.number.ensures.value ∙ ap (λ (p : Period). p.end) period in
    let reach : c.max-reach.result ≡ max c.places.reach row.period.end = c.max-reach.ensures ∙ ap (max c.places.reach) end in
    let inside : c.overlap_count-overlapping.result ≡ overlap_count row.period.start c.places.reach = c.overlap_count-overlapping.ensures.value ∙ ap (λ t. overlap_count t c.places.reach) start in
    let behind : c.adjacent_count-meeting.result ≡ adjacent_count row.period.start c.places.reach = c.adjacent_count-meeting.ensures.value ∙ ap (λ t. adjacent_count t c.places.reach) start in
    let all_inside = inside_more s (drop at run) rest key c.places.reach more in
    let all_behind = behind_more s (drop at run) rest key c.places.reach more in
    let next_inside = ap (λ r. overlapping_starts r (map (key_row s) rest)) reach in
    let next_behind = ap (λ r. adjacent_starts r (map (key_row s) rest)) reach in
    record {
      overlapping = omega (arith, inside, all_inside, next_inside, c.places.invariant.overlapping);
      meeting = omega (arith, behind, all_behind, next_behind, c.places.invariant.meeting);
      few_overlap = omega (arith, c.overlap_count-overlapping.ensures.one, c.places.invariant.few_overlap);
      few_meet = omega (arith, c.adjacent_count-meeting.ensures.one, c.places.invariant.few_meet);
    }

pub returns-clause-overlapping : goal.returns-clause-overlapping
returns-clause-overlapping c =
    let s = state_of c.args.sort_input.now in
    let run = c.args.run.now in
    let none : drop c.places.place run ≡ [] = drop_all c.places.place run (omega (arith, c.places-test.false)) in
    omega (arith, inside_none s (drop c.places.place run) c.places.reach none, c.places.invariant.overlapping)

pub returns-clause-meeting : goal.returns-clause-meeting
returns-clause-meeting c =
    let s = state_of c.args.sort_input.now in
    let run = c.args.run.now in
    let none : drop c.places.place run ≡ [] = drop_all c.places.place run (omega (arith, c.places-test.false)) in
    omega (arith, behind_none s (drop c.places.place run) c.places.reach none, c.places.invariant.meeting)
