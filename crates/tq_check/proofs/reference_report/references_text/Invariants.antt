-- If some text is the lines about the references to come, the text so far and then that text are all lines.
use Rattle.std.proofs.Common.{List, ℕ, ◌++◌, drop}
use Rattle.tq_check.specs.ReferenceReports.{AreReferenceTexts}
use Rattle.tq_check.proofs.reference_report.references_text.Given as goal

abbrev pub invariant-references : goal.invariant-references
invariant-references l =
    (rest : List ℕ) → AreReferenceTexts l.form l.fn.tables (drop l.reference-index l.fn.references) rest → AreReferenceTexts l.form l.fn.tables l.fn.references (l.text.items ++ rest)
