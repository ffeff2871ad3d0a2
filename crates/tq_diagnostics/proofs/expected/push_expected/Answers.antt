use Rattle.std.proofs.Common.{◌∙◌, ℕ, List, [], ◌∷◌, ◌++◌, ap, refl, codes, append_assoc}
use Rattle.tq_diagnostics.proofs.expected.push_expected.Goals as goal

pub returns : goal.returns
returns c =
    let reported = c.in_ok-push_continuations.ensures in
    let old = c.args.text.now.items in
    let head = codes "  expected:" in
    let text : List ℕ = head ++ reported.0 ++ 10 ∷ [] in (
      text,
      (reported.0, reported.1, refl),
      c.in_ok-push.ensures.items
          ∙ ap (λ (l : List ℕ). l ++ 10 ∷ []) (reported.2 ∙ ap (λ (l : List ℕ). l ++ reported.0) c.in_ok-extend_from_slice.ensures.items)
          ∙ append_assoc (old ++ head) reported.0 (10 ∷ [])
          ∙ append_assoc old head (reported.0 ++ 10 ∷ []),
    )
