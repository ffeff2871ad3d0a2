use Rattle.std.proofs.Common.{◌≡◌, ◌++◌, ℕ, List, arith, subst, sym}
use Rattle.std.proofs.KnownBytes.{Appends-trans}
use Rattle.std.proofs.lemmas.Grind.{common_steps}
use Rattle.std.specs.Io.KnownBytes.{Appends}
use Rattle.tq_table.specs.Sink.{AppendsPrefix}
use Rattle.tq_session.specs.Replies.{AppendsAllExcept}
use Rattle.tq_session.proofs.HeldLemmas.{none_held, prefix-after, prefix-longer, where_err, where_err-then, where_ok-then}
use Rattle.tq_session.proofs.reply.buffer_part.Goals as goal

pub returns-in_err-put-clause-prefix : goal.returns-in_err-put-clause-prefix
returns-in_err-put-clause-prefix g c =
    let same : c.as_slice.result.now ≡ c.args.buffer.now.items = grind (arith, common_steps) in
    let cut : AppendsPrefix (g.W.Write.contents c.args.sink.now.writer) (g.W.Write.contents c.put.new.self.writer) c.args.buffer.now.items =
    subst (λ (l : List ℕ). AppendsPrefix (g.W.Write.contents c.args.sink.now.writer) (g.W.Write.contents c.put.new.self.writer) l) same c.in_err-put.ensures.prefix in
    where_err c.from_residual.result (prefix-longer _ _ _ c.args.part.now cut)

pub returns-clause-rest : goal.returns-clause-rest
returns-clause-rest g c =
    let same : c.as_slice.result.now ≡ c.args.buffer.now.items = grind (arith, common_steps) in
    let first : Appends (g.W.Write.contents c.args.sink.now.writer) (g.W.Write.contents c.put.new.self.writer) c.args.buffer.now.items =
    subst (λ (l : List ℕ). Appends (g.W.Write.contents c.args.sink.now.writer) (g.W.Write.contents c.put.new.self.writer) l) same c.in_ok-put.ensures.whole in
    where_ok-then c.put-2.result
    (λ (second : Appends (g.W.Write.contents c.put.new.self.writer) (g.W.Write.contents c.put-2.new.self.writer) c.args.part.now).
    subst (λ (l : List ℕ). AppendsAllExcept (g.W.Write.contents c.args.sink.now.writer) (g.W.Write.contents c.put-2.new.self.writer) (c.args.buffer.now.items ++ c.args.part.now) l)
    (sym c.clear.ensures) (none_held _ _ _ (Appends-trans _ _ _ _ _ first second)))
    c.put-2.ensures.whole

pub returns-clause-prefix : goal.returns-clause-prefix
returns-clause-prefix g c =
    let same : c.as_slice.result.now ≡ c.args.buffer.now.items = grind (arith, common_steps) in
    let first : Appends (g.W.Write.contents c.args.sink.now.writer) (g.W.Write.contents c.put.new.self.writer) c.args.buffer.now.items =
    subst (λ (l : List ℕ). Appends (g.W.Write.contents c.args.sink.now.writer) (g.W.Write.contents c.put.new.self.writer) l) same c.in_ok-put.ensures.whole in
    where_err-then c.put-2.result (prefix-after _ _ _ _ c.args.part.now first) c.put-2.ensures.prefix
