use Rattle.std.proofs.Common.{◌∙◌, List, ℕ, ◌<◌, ◌≤◌, ◌+◌, [], ◌++◌, ap, sym, refl, subst, append_assoc, drop, get_or, length}
use Rattle.std.proofs.lemmas.List.{append-nil, drop_all, drop_more}
use Rattle.tq_base.specs.declared.form.Form.{Form}
use Rattle.tq_check.specs.ReferenceReports.{linked_in, AreReferenceTexts, IsReferenceText}
use Rattle.tq_check.specs.declared.references.Reference.{Reference}
use Rattle.tq_event.specs.declared.file.Tables.{Tables}
use Rattle.tq_check.proofs.reference_report.references_text.Goals as goal

-- a reference that is not read
abbrev no_reference : Reference
no_reference = record { child = record { table = 0; column = 0 }; parent = record { table = 0; column = 0 } }

module _ (form : Form) (tables : Tables) where
  -- one more reference
  one_more : (references : List Reference) (at : ℕ) (lines rest : List ℕ) → at < length references
      → IsReferenceText form tables.catalogue.tables (linked_in tables.rows (get_or references at no_reference)) (get_or references at no_reference) lines
      → AreReferenceTexts form tables (drop (at + 1) references) rest → AreReferenceTexts form tables (drop at references) (lines ++ rest)
  unfolding AreReferenceTexts
  one_more references at lines rest less is others =
      subst (λ (l : List Reference). AreReferenceTexts form tables l (lines ++ rest)) (sym (drop_more references at no_reference less)) (lines, rest, is, others, refl)

  none_left : (references : List Reference) (at : ℕ) → length references ≤ at → AreReferenceTexts form tables (drop at references) []
  unfolding AreReferenceTexts
  none_left references at past = subst (λ (l : List Reference). AreReferenceTexts form tables l []) (sym (drop_all at references past)) refl

pub references-init : goal.references-init
references-init c rest is =
    subst (λ (l : List ℕ). AreReferenceTexts c.args.form c.args.tables.now c.args.references.now (l ++ rest)) (sym c.new-text.ensures.items) is

pub references-preserved : goal.references-preserved
references-preserved c rest is =
    let form = c.args.form in
    let tables = c.args.tables.now in
    let references = c.args.references.now in
    let at = c.references.reference-index in
    let lines = c.in_ok-lines.lines.items in
    let text = c.references.text.items in
    subst (λ (l : List ℕ). AreReferenceTexts form tables references l)
    (sym (ap (λ (l : List ℕ). l ++ rest) (c.in_ok-extend_from_slice.ensures.items ∙ ap (λ (l : List ℕ). text ++ l) c.deref.ensures.value) ∙ append_assoc text lines rest))
    (c.references.invariant (lines ++ rest) (one_more form tables references at lines rest c.references-test.true c.in_ok-lines.ensures is))

pub returns : goal.returns
returns c =
    let form = c.args.form in
    let tables = c.args.tables.now in
    subst (λ (l : List ℕ). AreReferenceTexts form tables c.args.references.now l) (append-nil c.references.text.items)
    (c.references.invariant [] (none_left form tables c.args.references.now c.references.reference-index c.references-test.false))
