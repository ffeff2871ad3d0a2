use Rattle.std.proofs.Common.{◌≤◌, ap, arith, length, subst, sym}
use Rattle.std.proofs.lemmas.Result.{IfOk-weaker}
use Rattle.tq_scan.specs.declared.window.Part.{Part}
use Rattle.tq_exec.proofs.CutLemmas.{several_parts}
use Rattle.tq_exec.proofs.read_parts.parts_of.Goals as goal

pub key_cuts-requires : goal.key_cuts-requires
key_cuts-requires c =
    let low = ap (λ (p : Part). p.low) c.window-window.ensures in
    let high = ap (λ (p : Part). p.high) c.window-window.ensures in
    let wide = c.window-window.result.wide in
    omega (arith, low, high, wide)

pub returns-clause-tile : goal.returns-clause-tile
returns-clause-tile c = IfOk-weaker c.cut.result _ _ (λ parts tiles. record { window = c.window-window.result; whole = c.window-window.ensures; tiles = tiles }) c.cut.ensures.tiles

pub returns-clause-several : goal.returns-clause-several
returns-clause-several c =
    IfOk-weaker c.cut.result _ _
    (λ parts are. subst (λ l. 2 ≤ length l) (sym are) (several_parts c.window-window.result c.deref-2.result.now c.deref-3.result.now (subst (λ l. 1 ≤ length l) (sym c.deref-2.ensures.value) c.in_ok-cuts.ensures.some)))
    c.cut.ensures.parts
