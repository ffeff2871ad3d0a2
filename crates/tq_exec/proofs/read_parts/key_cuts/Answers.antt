use Rattle.std.proofs.Common.{◌++◌, ◌∷◌, [], subst, sym}
use Rattle.tq_scan.specs.Cuts.{KeysAscend}
use Rattle.tq_exec.proofs.CutLemmas.{one_above}
use Rattle.tq_exec.proofs.read_parts.key_cuts.Goals as goal

pub keys-preserved-then-next-window : goal.keys-preserved-then-next-window
keys-preserved-then-next-window c =
    let low = c.args.window.now.low in
    let high = c.args.window.now.high in
    let next = c.least_tree_key-next.result in
    let now = c.keys.invariant.more next c.if-before-next.true c.if-next-window.true in
    record {
      ascend = subst (KeysAscend low high) (sym c.in_ok-push.ensures.items) now;
      more = λ above over below.
          subst (λ cuts. KeysAscend low high (cuts ++ above ∷ [])) (sym c.in_ok-push.ensures.items) (one_above low high c.keys.cuts.items next above now over below);
    }
