use Rattle.std.proofs.Common.{◌≡◌, ◌∙◌, List, ℕ, [], ◌∷◌, ◌++◌, ap, sym, map, arith}
use Rattle.std.proofs.lemmas.List.{map-append}
use Rattle.std.proofs.lemmas.List.FromFn.{map-range_with_len_more}
use Rattle.std.specs.List.{range_with_len}
use Rattle.tq_report.specs.Layouts.{key_of, lead_of}
use Rattle.tq_report.proofs.layout.leads_of.Goals as goal

pub columns-preserved : goal.columns-preserved
columns-preserved c =
    let lead = λ (column : ℕ). lead_of c.args.format (key_of c.args.columns.now column) in
    let at = c.columns.column in
    let made : c.in_ok-lead_of.field-0.items ≡ lead at =
    c.in_ok-lead_of.ensures ∙ ap (lead_of c.args.format) (c.deref.ensures.value ∙ c.in_ok-key.ensures) in
    ap (map (λ lead. lead.items)) c.in_ok-push.ensures.items
    ∙ map-append (λ lead. lead.items) c.columns.leads.items (c.in_ok-lead_of.field-0 ∷ [])
    ∙ ap (λ (l : List (List ℕ)). l ++ c.in_ok-lead_of.field-0.items ∷ []) c.columns.invariant
    ∙ ap (λ (l : List ℕ). map lead (range_with_len 0 at) ++ l ∷ []) made
    ∙ sym (map-range_with_len_more lead 0 at at (omega arith))
