use Rattle.std.proofs.Common.{◌≡◌, ◌∙◌, ◌++◌, [], ℕ, List, length, ap, append-nil, append_assoc, arith, refl, subst, sym}
use Rattle.std.specs.Io.KnownBytes.{Appends}
use Rattle.std.proofs.KnownBytes.{Appends-trans}
use Rattle.csv.specs.Records.{fields_of}
use Rattle.csv.specs.Writing.{row_text}
use Rattle.tq_table.specs.Text.{answer_format}
use Rattle.tq_import.specs.Imports.{table_header}
use Rattle.tq_import.specs.Rejects.{AreRejectTexts, faults_from, rejects_header, valid_lines, valid_table}
use Rattle.tq_import.proofs.RejectLemmas.{all_count, invalid_count}
use Rattle.tq_import.proofs.separating.separate_records.Goals as goal

pub parts-init : goal.parts-init
parts-init g c =
    let header = rejects_header c.args.separation.now.rejects (fields_of c.args.separation.now.header.now) in
    record {
      later = omega arith;
      done = row_text answer_format (table_header c.args.separation.now.plan.now);
      written = subst (λ (t : List ℕ). Appends (g.W.Write.contents c.args.sink.now.writer) (g.W.Write.contents c.put.new.sink.writer) t) (c.deref.ensures.value ∙ c.in_ok-header_text.ensures) c.in_ok-put.ensures.whole;
      texts = [];
      rejected = subst (λ (t : List ℕ). Appends (g.V.Write.contents c.args.rejected.now.writer) (g.V.Write.contents c.put-2.new.sink.writer) t)
          (c.deref-2.ensures.value ∙ c.in_ok-rejects_header.ensures ∙ sym (append-nil header))
          c.in_ok-put-2.ensures.whole;
      rest = λ delimiter all has. (all, has, refl, λ text are. are, omega arith, refl);
    }

pub parts-preserved : goal.parts-preserved
parts-preserved g c =
    let i = c.parts.invariant in
    let plan = c.args.separation.now.plan.now in
    let header = fields_of c.args.separation.now.header.now in
    let rejects = c.args.separation.now.rejects in
    let part = c.in_ok-part.part in
    record {
      later = omega (arith, i.later, c.in_ok-part.ensures.next);
      done = i.done ++ part.text.items;
      written = Appends-trans _ _ _ _ _ i.written (rw c.deref-in-parts.ensures.value at c.in_ok-put-3.ensures.whole);
      texts = i.texts ++ part.rejected.items;
      rejected = subst (λ (t : List ℕ). Appends (g.V.Write.contents c.args.rejected.now.writer) (g.V.Write.contents c.put-in-parts-2.new.sink.writer) t)
          (append_assoc (rejects_header rejects header) i.texts part.rejected.items)
          (Appends-trans _ _ _ _ _ i.rejected (rw c.deref-in-parts-2.ensures.value at c.in_ok-put-4.ensures.whole));
      rest = λ delimiter all has.
          let (left, has_left, same, texts, invalid, counted) = i.rest delimiter all has in
          let p = c.in_ok-part.ensures.ok delimiter left has_left in (
            p.rest,
            p.has c.if-not-part.false,
            same ∙ ap (λ (t : List ℕ). i.done ++ t) p.lines ∙ sym (append_assoc i.done part.text.items (valid_lines plan part.next p.rest)),
            λ text are. subst (λ (t : List ℕ). AreRejectTexts rejects plan header (faults_from plan 2 all) t) (sym (append_assoc i.texts part.rejected.items text)) (texts (part.rejected.items ++ text) (p.texts text are)),
            omega (arith, invalid, p.invalid, c.in-Some.ensures.1),
            omega (arith, counted, p.counted),
          );
    }

pub returns-then-not-part-clause-ok : goal.returns-then-not-part-clause-ok
returns-then-not-part-clause-ok g c delimiter all has =
    let i = c.parts.invariant in
    let plan = c.args.separation.now.plan.now in
    let header = fields_of c.args.separation.now.header.now in
    let rejects = c.args.separation.now.rejects in
    let part = c.in_ok-part.part in
    let (left, has_left, same, texts, invalid, counted) = i.rest delimiter all has in
    let p = c.in_ok-part.ensures.ok delimiter left has_left in
    let none = p.ended c.if-not-part.true in
    let table : valid_table plan all ≡ i.done ++ part.text.items =
    same ∙ ap (λ (t : List ℕ). i.done ++ t) (p.lines ∙ ap (λ (l : List (List (List ℕ))). part.text.items ++ valid_lines plan part.next l) none ∙ append-nil part.text.items) in
    let last = p.texts [] (subst (λ (l : List (List (List ℕ))). AreRejectTexts rejects plan header (faults_from plan part.next l) []) (sym none) refl) in
    record {
      table = subst (λ (t : List ℕ). Appends (g.W.Write.contents c.args.sink.now.writer) (g.W.Write.contents c.put-in-parts.new.sink.writer) t) (sym table)
          (Appends-trans _ _ _ _ _ i.written (rw c.deref-in-parts.ensures.value at c.in_ok-put-3.ensures.whole));
      texts = i.texts ++ part.rejected.items;
      are = subst (λ (t : List ℕ). AreRejectTexts rejects plan header (faults_from plan 2 all) (i.texts ++ t)) (append-nil part.rejected.items) (texts (part.rejected.items ++ []) last);
      rejected = subst (λ (t : List ℕ). Appends (g.V.Write.contents c.args.rejected.now.writer) (g.V.Write.contents c.put-in-parts-2.new.sink.writer) t)
          (append_assoc (rejects_header rejects header) i.texts part.rejected.items)
          (Appends-trans _ _ _ _ _ i.rejected (rw c.deref-in-parts-2.ensures.value at c.in_ok-put-4.ensures.whole));
      invalid = omega (arith, invalid, p.invalid, ap (λ (l : List (List (List ℕ))). length (faults_from plan part.next l)) none, c.in-Some.ensures.1, invalid_count plan all);
      rows = omega (arith, c.saturating_sub.ensures, counted, p.counted, ap length none, invalid, p.invalid, ap (λ (l : List (List (List ℕ))). length (faults_from plan part.next l)) none, c.in-Some.ensures.1, invalid_count plan all, all_count plan all);
    }
