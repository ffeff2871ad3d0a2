use Rattle.std.proofs.Common.{◌≡◌, ◌∙◌, List, ℕ, false, [], ◌∷◌, ◌++◌, ap, decimal, rules}
use Rattle.tq_base.specs.declared.fragment.Fragment.{Fragment}
use Rattle.tq_report.specs.Texts.{end_in, instant_in}
use Rattle.tq_report.specs.declared.format.Format.TheVariants.{Csv}
use Rattle.tq_report.proofs.TypedLemmas.{line_of, values_text}
use Rattle.tq_report.proofs.typed_texts.push_typed_row.Goals as goal

pub returns : goal.returns
returns c =
    let text = c.args.text.now.items in
    let row : Fragment = record { values = c.args.row.now; period = c.args.period } in
    let values = values_text c.args.row.now in
    let start = instant_in Csv c.args.form c.args.period.start in
    let end = end_in Csv c.args.form false c.args.period.end in
    let comma : List ℕ = 44 ∷ [] in
    let line_end : List ℕ = 10 ∷ [] in
    let numbered : c.extend_from_slice.new.self.items ≡ text ++ decimal c.args.number = search rules in
    c.in_ok-push-3.ensures.items
    ∙ ap (λ (l : List ℕ). l ++ line_end) c.in_ok-push_end.ensures
    ∙ ap (λ (l : List ℕ). (l ++ end) ++ line_end) c.in_ok-push-2.ensures.items
    ∙ ap (λ (l : List ℕ). ((l ++ comma) ++ end) ++ line_end) c.in_ok-push_instant.ensures
    ∙ ap (λ (l : List ℕ). (((l ++ start) ++ comma) ++ end) ++ line_end) c.in_ok-push.ensures.items
    ∙ ap (λ (l : List ℕ). ((((l ++ comma) ++ start) ++ comma) ++ end) ++ line_end) c.in_ok-push_typed_values.ensures
    ∙ ap (λ (l : List ℕ). (((((l ++ values) ++ comma) ++ start) ++ comma) ++ end) ++ line_end) numbered
    ∙ line_of text c.args.form c.args.number row
