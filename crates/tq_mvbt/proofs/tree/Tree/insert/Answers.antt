use Rattle.std.proofs.Common.{◌≡◌, ◌<◌, ℕ, arith, sym, subst, Result, Ok, Err, false}
use Rattle.std.specs.Result.{OnOk}
use Rattle.tq_mvbt.specs.Points.{now}
use Rattle.tq_mvbt.specs.Shape.{top}
use Rattle.tq_mvbt.specs.TreeState.{TreeState, lives_of}
use Rattle.tq_mvbt.proofs.Trees.{life_begins}
use Rattle.tq_mvbt.proofs.tree.Tree.insert.Goals as goal

on_ok : {T E A B : Type 0} (r : Result T E) → (A → B) → OnOk r A → OnOk r B
on_ok (Ok x) f h = f h
on_ok (Err e) f h = h

pub returns-clause-life : goal.returns-clause-life
returns-clause-life c =
    let small : c.args.version < now = (let s = c.requires.small in omega arith) in
    let kt : c.args.key < top = c.requires.key in
    let never : (v : ℕ) → lives_of c.self.inside.nodes.nodes c.args.key v ≡ false = subst (λ (t : TreeState). (v : ℕ) → lives_of t.nodes c.args.key v ≡ false) (sym c.self.view_is) c.requires.never in
    on_ok c.apply.result (life_begins c.args.version c.args.key c.self.inside.nodes.nodes c.apply.new.nodes.nodes small kt never) c.apply.ensures.lives
