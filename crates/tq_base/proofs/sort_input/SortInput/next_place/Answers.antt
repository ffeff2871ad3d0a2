use Rattle.std.proofs.Common.{◌≡◌, ◌∙◌, ◌+◌, ap, get_or, sym, true}
use Rattle.tq_base.specs.SortInputs.{state_of}
use Rattle.tq_base.specs.Keys.{is_exact}
use Rattle.tq_base.specs.TieBreak.{values_from}
use Rattle.tq_base.proofs.TieBreakLemmas.{prefixes_share, shared_next, exact_next}
use Rattle.tq_base.proofs.sort_input.SortInput.next_place.Goals as goal
use Rattle.tq_base.proofs.sort_input.SortInput.next_place.Goals.{then-longest, else-longest}

pub returns-then-is_exact : goal.returns-then-is_exact
returns-then-is_exact c = λ i d less j e below.
    let a = get_or c.args.run.now i d in
    let b = get_or c.args.run.now j e in
    let tells : is_exact c.args.prefix ≡ true = sym c.is_exact.ensures ∙ c.if-is_exact.true in
    exact_next (state_of c.args.self.now) c.args.place c.args.offset a b (c.requires.prefixes i d less) (c.requires.prefixes j e below)
    (c.requires.alike i d less ∙ sym (c.requires.alike j e below)) (ap is_exact (c.requires.alike i d less) ∙ tells)

pub returns-in-Some : goal.returns-in-Some
returns-in-Some c = λ i d less j e below.
    let a = get_or c.args.run.now i d in
    let b = get_or c.args.run.now j e in
    let s = state_of c.args.self.now in
    let place = c.args.place in
    let offset = c.args.offset in
    let a_is = c.requires.prefixes i d less in
    let b_is = c.requires.prefixes j e below in
    let same = sym a_is.prefix ∙ c.requires.alike i d less ∙ sym (c.requires.alike j e below) ∙ b_is.prefix in
    elim c.if-longest.branch [
      | then-longest w ↦ shared_next s place offset 14 c.in-Some.next a b (c.in-Some.ensures.1 ∙ ap (λ n. offset + n) w.len-is) (prefixes_share (values_from s place offset a) (values_from s place offset b) a_is.bytes b_is.bytes same)
      | else-longest w ↦ shared_next s place offset w.shared_len-len.result c.in-Some.next a b (c.in-Some.ensures.1 ∙ ap (λ n. offset + n) w.len-is) (w.shared_len-len.ensures i d less j e below)
    ]
