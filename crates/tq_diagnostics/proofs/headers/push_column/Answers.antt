-- The field at the place is shown.
use Rattle.std.proofs.Common.{◌≡◌, ◌++◌, ◌∙◌, OnOk, ap, append_assoc, codes, subst}
use Rattle.tq_diagnostics.specs.Fields.{shown_value}
use Rattle.tq_diagnostics.proofs.headers.push_column.Goals as goal

pub returns : goal.returns
returns c =
    let before = c.args.text.now.items in
    let head = codes "invalid column `" in
    let shown = shown_value c.field_at.result.now in
    let tail = codes "`: " in
    rw (c.in-Some.is, c.field_at.ensures)
    (subst (λ text. OnOk c.push_bad.result (c.push_bad.new.text.items ≡ text))
    (ap (λ text. text ++ tail) (append_assoc before head shown) ∙ append_assoc before (head ++ shown) tail)
    c.push_bad.ensures)
