use Rattle.std.proofs.Common.{◌∙◌, ◌++◌, ℕ, List, ap, arith, length}
use Rattle.std.proofs.KnownBytes.{Appends-trans}
use Rattle.csv.specs.Records.{fields_of}
use Rattle.tq_import.specs.Imports.{lines_after}
use Rattle.tq_import.proofs.LineLemmas.{first_fault}
use Rattle.tq_import.proofs.importing.import_records.Goals as goal

pub returns-in-Err-clause-fault : goal.returns-in-Err-clause-fault
returns-in-Err-clause-fault g c delimiter all has =
    let i = c.parts.invariant in
    let (left, has_left, same, counted) = i.rest delimiter all has in
    first_fault c.args.plan.now all left c.parts.number i.done (fields_of c.import_part.new.record) c.in-Err.fault same (c.in-Err.ensures.fault delimiter left has_left)

pub returns-then-not-more-clause-ok : goal.returns-then-not-more-clause-ok
returns-then-not-more-clause-ok g c delimiter all has =
    let i = c.parts.invariant in
    let plan = c.args.plan.now in
    let (left, has_left, same, counted) = i.rest delimiter all has in
    let part = c.in-Ok.ensures.ok delimiter left has_left in
    let none = part.ended c.if-not-more.true in
    let items = c.in-Ok.part.text.items in
    record {
      text = i.done ++ items;
      is = same ∙ part.lines i.done ∙ ap (λ (l : List (List (List ℕ))). lines_after plan (i.done ++ items) c.in-Ok.part.next l) none;
      written = Appends-trans _ _ _ _ _ i.written (rw c.deref-in-parts.ensures.value at c.in_ok-put-2.ensures.whole);
      rows = omega (arith, counted, part.counted, ap length none);
    }

pub parts-preserved : goal.parts-preserved
parts-preserved g c =
    let i = c.parts.invariant in
    record {
      later = omega (arith, i.later, c.in-Ok.ensures.next);
      done = i.done ++ c.in-Ok.part.text.items;
      written = Appends-trans _ _ _ _ _ i.written (rw c.deref-in-parts.ensures.value at c.in_ok-put-2.ensures.whole);
      rest = λ delimiter all has.
          let (left, has_left, same, counted) = i.rest delimiter all has in
          let part = c.in-Ok.ensures.ok delimiter left has_left in
          (part.rest, part.has c.if-not-more.false, same ∙ part.lines i.done, omega (arith, counted, part.counted));
    }
