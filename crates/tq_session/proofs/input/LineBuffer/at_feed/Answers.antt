use Rattle.std.proofs.Common.{◌≡◌, ◌∙◌, ◌-◌, ap, arith, false, length, refl, suc, sym}
use Rattle.tq_session.specs.LineBuffers.{LineBufferState}
use Rattle.tq_session.specs.Lines.{without_return}
use Rattle.tq_session.proofs.InputLemmas.{without_return-dropped, without_return-kept, without_return-none}
use Rattle.tq_session.proofs.input.LineBuffer.at_feed.Goals.{else-len-gt0-via-then-len-gt0+else-index-eq13, else-len-gt0-via-else-len-gt0}
use Rattle.tq_session.proofs.input.LineBuffer.at_feed.Goals as goal

pub returns-then-index-eq13 : goal.returns-then-index-eq13
returns-then-index-eq13 c =
    λ bytes gathered.
    let kept = c.self.inside.bytes in
    let n = c.len-len.result - 1 in
    let short : c.args.self.now.too_long ≡ false = ap (λ (s : LineBufferState). s.too_long) (sym c.self.view_is) ∙ c.if-self.false in
    let same : kept.items ≡ bytes = ap (λ (s : LineBufferState). s.bytes) c.self.view_is ∙ gathered.kept short in
    let len : length kept.items ≡ suc n = omega (arith, kept.ok.0, c.len-len.ensures, c.if-len-gt0.true) in (
      refl,
      gathered.fits short,
      c.truncate.ensures.items ∙ without_return-dropped n kept.items c.index.result.now len (sym c.index.ensures ∙ c.if-index-eq13.true) ∙ ap without_return same,
    )

pub returns-else-len-gt0 : goal.returns-else-len-gt0
returns-else-len-gt0 c =
    λ bytes gathered.
    let kept = c.self.inside.bytes in
    let n = c.len-len.result - 1 in
    let short : c.args.self.now.too_long ≡ false = ap (λ (s : LineBufferState). s.too_long) (sym c.self.view_is) ∙ c.if-self.false in
    let view : kept.items ≡ c.args.self.now.bytes = ap (λ (s : LineBufferState). s.bytes) c.self.view_is in
    let same : kept.items ≡ bytes = view ∙ gathered.kept short in
    let whole : kept.items ≡ without_return kept.items = elim c.else-len-gt0.branch [
      | else-len-gt0-via-then-len-gt0+else-index-eq13 w ↦ without_return-kept n kept.items w.index.result.now (omega (arith, kept.ok.0, c.len-len.ensures, w.if-len-gt0.true)) (λ e. w.if-index-eq13.false (w.index.ensures ∙ e))
      | else-len-gt0-via-else-len-gt0 w ↦ without_return-none kept.items (omega (arith, kept.ok.0, c.len-len.ensures, w.if-len-gt0.false))
    ] in
    (refl, gathered.fits short, sym view ∙ whole ∙ ap without_return same)
