use Rattle.std.proofs.Common.{◌∙◌, List, ◌<◌, ◌+◌, ◌++◌, Option, ap, sym, arith, drop, get_or, length}
use Rattle.std.proofs.lemmas.List.{append-nil, drop_all, drop_more}
use Rattle.std.specs.List.{cons_option}
use Rattle.tq_base.specs.Keys.{no_row}
use Rattle.tq_check.specs.Orphans.{linked_rows, orphans_from}
use Rattle.tq_check.specs.declared.orphans.Orphan.{Orphan}
use Rattle.tq_check.proofs.LinkLemmas.{no_orphans, one_orphan}
use Rattle.tq_check.proofs.orphans.orphans_in.Goals as goal

pub places-init : goal.places-init
places-init c =
    let rows = c.args.sort_input.now.left.now.items in
    let linked = linked_rows rows c.args.sort_input.now.right.now.items c.args.reference.now in
    ap (λ (l : List Orphan). l ++ orphans_from linked 0 rows) c.new-orphans.ensures.items

pub places-preserved : goal.places-preserved
places-preserved c =
    let rows = c.args.sort_input.now.left.now.items in
    let linked = linked_rows rows c.args.sort_input.now.right.now.items c.args.reference.now in
    let at = c.places.place in
    let rest = orphans_from linked (at + 1) (drop (at + 1) rows) in
    let within : at < length rows = omega (arith, c.places-test.true, c.len-place-end.ensures.len) in
    let row = get_or rows at no_row in
    c.in_ok-add_orphan.ensures rest
    ∙ ap (λ (l : List Orphan). c.places.orphans.items ++ l)
    (ap (λ (o : Option Orphan). cons_option o rest) c.orphan_at-orphan.ensures
    ∙ sym (ap (orphans_from linked at) (drop_more rows at no_row within) ∙ one_orphan linked at row (drop (at + 1) rows)))
    ∙ c.places.invariant

pub returns : goal.returns
returns c =
    let rows = c.args.sort_input.now.left.now.items in
    let linked = linked_rows rows c.args.sort_input.now.right.now.items c.args.reference.now in
    let at = c.places.place in
    let none = drop_all at rows (omega (arith, c.places-test.false, c.len-place-end.ensures.len)) in
    sym (append-nil c.places.orphans.items)
    ∙ ap (λ (l : List Orphan). c.places.orphans.items ++ l) (sym (ap (orphans_from linked at) none ∙ no_orphans linked at))
    ∙ c.places.invariant
