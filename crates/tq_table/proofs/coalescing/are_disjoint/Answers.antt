use Rattle.std.proofs.Common.{rules, ◌<◌, ◌+◌, ◌≡◌, Bool, true, false, nat_lt, List, get_or, length, map, arith}
use Rattle.std.specs.Bool.{OnTrue}
use Rattle.std.specs.List.{IsAllAdjacentAnswer}
use Rattle.std.proofs.lemmas.Bool.Decides.{nat_tests}
use Rattle.std.proofs.lemmas.List.{get_or-map, length-map}
use Rattle.std.proofs.lemmas.Fn.{always_returns_same}
use Rattle.tq_base.specs.declared.fragment.Fragment.{Fragment}
use Rattle.tq_base.specs.declared.period.Period.{Period}
use Rattle.tq_table.specs.Disjoint.{AreDisjoint}
use Rattle.tq_table.proofs.coalescing.are_disjoint.Goals as goal

-- whether a period ends before another begins
abbrev ends_before : Period → Period → Bool
ends_before one next = nat_lt one.end next.start

abbrev when : Fragment → Period
when row = row.period

from_answer : (rows : List Fragment) (r : Bool) → IsAllAdjacentAnswer (λ one next b. b ≡ ends_before one next) (map when rows) r → OnTrue r (AreDisjoint rows)
from_answer rows true each = λ k d below.
    let within : k + 1 < length (map when rows) = omega (arith, below, length-map rows when) in
    let first : get_or (map when rows) k d.period ≡ (get_or rows k d).period = get_or-map when rows k d d.period (omega (arith, below)) in
    let second : get_or (map when rows) (k + 1) d.period ≡ (get_or rows (k + 1) d).period = get_or-map when rows (k + 1) d d.period below in
    let is = each k d.period within in
    let told = rw (first, second) at is in
    grind (arith, nat_tests, told)
from_answer rows false each = tt

pub returns : goal.returns
returns c rows are = from_answer rows c.is_sorted_by.result (rw are at (c.is_sorted_by.ensures.cases ends_before (always_returns_same _ _ _ (λ a r f k. search rules))))
