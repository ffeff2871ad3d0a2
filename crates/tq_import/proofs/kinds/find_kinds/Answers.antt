use Rattle.std.proofs.Common.{◌∙◌, List, ap, sym}
use Rattle.tq_import.specs.declared.plan.Conversion.{Conversion}
use Rattle.tq_import.specs.Kinds.{kinds_after}
use Rattle.tq_import.proofs.kinds.find_kinds.Goals as goal

pub records-init : goal.records-init
records-init g c delimiter all has = (all, has, ap (λ (kinds : List Conversion). kinds_after c.args.format kinds all) (sym c.in_ok-kinds.ensures))

pub records-preserved : goal.records-preserved
records-preserved g c delimiter all has =
    let (left, has_left, same) = c.records.invariant delimiter all has in
    let (more, split, has_more) = rw c.if-not-branch.false at (c.in_ok-next_record.ensures delimiter left has_left) in
    (more, has_more, same ∙ ap (kinds_after c.args.format c.records.kinds.items) split ∙ ap (λ (kinds : List Conversion). kinds_after c.args.format kinds more) (sym c.add_record.ensures))

pub returns-then-not-branch : goal.returns-then-not-branch
returns-then-not-branch g c delimiter all has =
    let (left, has_left, same) = c.records.invariant delimiter all has in
    let none = rw c.if-not-branch.true at (c.in_ok-next_record.ensures delimiter left has_left) in
    sym (same ∙ ap (kinds_after c.args.format c.records.kinds.items) none)
