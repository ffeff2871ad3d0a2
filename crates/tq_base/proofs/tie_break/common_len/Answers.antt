use Rattle.std.proofs.Common.{◌≡◌, subst, take, arith}
use Rattle.std.proofs.lemmas.Bool.Decides.{Decides-eqb}
use Rattle.std.proofs.lemmas.List.{take_more_same}
use Rattle.std.proofs.lemmas.Slice.Eq.{slice_eq-Decides}
use Rattle.tq_base.proofs.tie_break.common_len.Goals as goal

pub returns-then-are_same-clause-same : goal.returns-then-are_same-clause-same
returns-then-are_same-clause-same c = (slice_eq-Decides Decides-eqb (take c.min-len.result c.args.one.now) (take c.min-len.result c.args.other.now) c.eq-are_same.result c.eq-are_same.ensures).0 c.if-are_same.true

pub bytes-preserved : goal.bytes-preserved
bytes-preserved c =
    take_more_same c.args.one.now c.args.other.now c.bytes.place 0
    (omega (arith, c.bytes-test.true, c.min-len.ensures))
    (omega (arith, c.bytes-test.true, c.min-len.ensures))
    c.bytes.invariant
    c.if-one-place.false

pub returns-clause-same : goal.returns-clause-same
returns-clause-same c =
    let at : c.bytes.place ≡ c.min-len.result = omega (arith, c.bytes-test.false, c.bytes.auto.place-end) in
    subst (λ n. take n c.args.one.now ≡ take n c.args.other.now) at c.bytes.invariant
