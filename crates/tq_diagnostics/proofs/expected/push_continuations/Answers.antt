use Rattle.std.proofs.Common.{◌≡◌, ◌∙◌, ℕ, ◌+◌, Bool, List, [], ◌++◌, Vec, Global, ap, sym, refl, subst, codes, get_or, map, append_assoc, append-nil}
use Rattle.std.proofs.lemmas.List.{drop_all}
use Rattle.tq_diagnostics.specs.Expected.{AreContinuations, name_if, named}
use Rattle.tq_diagnostics.proofs.ContinuationLemmas.{Goes, told_step}
use Rattle.tq_diagnostics.proofs.expected.push_continuations.Goals as goal
use Rattle.tq_diagnostics.proofs.expected.push_continuations.Goals.{then-branch+in_ok-extend_from_slice+in_ok-extend_from_slice-2, else-branch}

pub samples-preserved : goal.samples-preserved
samples-preserved c =
    let samples = c.args.samples.now in
    let front = c.args.front.now in
    let at = c.samples.sample-index in
    let goes = c.in_ok-can_continue.field-0 in
    let initial = c.args.text.now.items in
    let before = c.samples.text.items in
    let name = (named (get_or samples at _)).0 in
    let items : Vec ℕ Global → List ℕ = λ v. v.items in
    let grown : before ++ name_if goes name ≡ c.if-branch.text.items = elim c.if-branch.branch [
      | then-branch+in_ok-extend_from_slice+in_ok-extend_from_slice-2 w ↦
          ap (λ (b : Bool). before ++ name_if b name) w.if-branch.true
          ∙ sym (append_assoc before (codes "  ") name)
          ∙ ap (λ (l : List ℕ). l ++ name) (sym w.in_ok-extend_from_slice.ensures.items)
          ∙ sym w.in_ok-extend_from_slice-2.ensures.items
          ∙ sym (ap items w.text-is)
      | else-branch w ↦ ap (λ (b : Bool). before ++ name_if b name) w.if-branch.false ∙ append-nil before ∙ sym (ap items w.text-is)
    ] in
    subst (λ (l : List ℕ). Goes named front samples initial l (at + 1)) grown
    (told_step named front samples initial before at _ c.samples-test.true goes c.in_ok-can_continue.ensures c.samples.invariant)

pub returns : goal.returns
returns c =
    let none = subst (λ l. AreContinuations c.args.front.now (map named l) []) (sym (drop_all c.samples.sample-index c.args.samples.now c.samples-test.false)) refl in
    let whole = c.samples.invariant [] none in
    (whole.0, whole.1, sym (append-nil c.samples.text.items) ∙ whole.2)
