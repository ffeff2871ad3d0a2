use Rattle.std.proofs.Common.{◌++◌, ℕ, List, subst}
use Rattle.std.proofs.KnownBytes.{Appends-kept}
use Rattle.std.specs.Io.KnownBytes.{Appends}
use Rattle.tq_table.specs.Sink.{AppendsPrefix, bytes_of}
use Rattle.tq_session.specs.Replies.{AppendsAllExcept, joined}
use Rattle.tq_session.proofs.HeldLemmas.{buffer-cut, buffer-more, buffer-sent, buffer-unsent, prefix-longer, prefix-whole, where_err, where_ok}
use Rattle.tq_session.proofs.reply.send_parts.Goals as goal

pub returns-in_err-buffer_line-clause-prefix : goal.returns-in_err-buffer_line-clause-prefix
returns-in_err-buffer_line-clause-prefix g c =
    let a = g.W.Write.contents c.args.sink.now.writer in
    let b = g.W.Write.contents c.buffer_line.new.sink.writer in
    let line = joined c.args.line.now in
    where_err c.from_residual.result
    (prefix-longer a b line (bytes_of c.args.text.now) (subst (λ (l : List ℕ). AppendsPrefix a b (l ++ line)) c.new-buffer.ensures c.in_err-buffer_line.ensures.prefix))

pub returns-in_err-buffer_text-clause-prefix : goal.returns-in_err-buffer_text-clause-prefix
returns-in_err-buffer_text-clause-prefix g c =
    let a = g.W.Write.contents c.args.sink.now.writer in
    let b = g.W.Write.contents c.buffer_line.new.sink.writer in
    let d = g.W.Write.contents c.buffer_text.new.sink.writer in
    let line = joined c.args.line.now in
    let held = c.buffer_line.new.buffer.items in
    where_err c.from_residual-in_err-buffer_text.result
    (buffer-cut a b d line held (bytes_of c.args.text.now) (subst (λ (l : List ℕ). AppendsAllExcept a b (l ++ line) held) c.new-buffer.ensures c.in_ok-buffer_line.ensures.rest) c.in_err-buffer_text.ensures.prefix)

pub returns-in_err-put-clause-prefix : goal.returns-in_err-put-clause-prefix
returns-in_err-put-clause-prefix g c =
    let a = g.W.Write.contents c.args.sink.now.writer in
    let b = g.W.Write.contents c.buffer_line.new.sink.writer in
    let d = g.W.Write.contents c.buffer_text.new.sink.writer in
    let z = g.W.Write.contents c.put.new.self.writer in
    let line = joined c.args.line.now in
    let text = bytes_of c.args.text.now in
    let held = c.buffer_line.new.buffer.items in
    let left = c.buffer_text.new.buffer.items in
    let all : AppendsAllExcept a d (line ++ text) left =
    buffer-more a b d line held text left (subst (λ (l : List ℕ). AppendsAllExcept a b (l ++ line) held) c.new-buffer.ensures c.in_ok-buffer_line.ensures.rest) c.in_ok-buffer_text.ensures.rest in
    where_err c.from_residual-in_err-put.result
    (buffer-unsent a d z (line ++ text) left all (subst (λ (l : List ℕ). AppendsPrefix d z l) c.as_slice.ensures.value c.in_err-put.ensures.prefix))

pub returns-clause-prefix : goal.returns-clause-prefix
returns-clause-prefix g c =
    let a = g.W.Write.contents c.args.sink.now.writer in
    let b = g.W.Write.contents c.buffer_line.new.sink.writer in
    let d = g.W.Write.contents c.buffer_text.new.sink.writer in
    let z = g.W.Write.contents c.put.new.self.writer in
    let line = joined c.args.line.now in
    let text = bytes_of c.args.text.now in
    let held = c.buffer_line.new.buffer.items in
    let left = c.buffer_text.new.buffer.items in
    let all : AppendsAllExcept a d (line ++ text) left =
    buffer-more a b d line held text left (subst (λ (l : List ℕ). AppendsAllExcept a b (l ++ line) held) c.new-buffer.ensures c.in_ok-buffer_line.ensures.rest) c.in_ok-buffer_text.ensures.rest in
    let sent : Appends d z left = subst (λ (l : List ℕ). Appends d z l) c.as_slice.ensures.value c.in_ok-put.ensures.whole in
    where_err c.flush.result (prefix-whole _ _ _ (Appends-kept _ _ _ _ (buffer-sent a d z (line ++ text) left all sent) c.flush.ensures.kept))

pub returns-clause-whole : goal.returns-clause-whole
returns-clause-whole g c =
    let a = g.W.Write.contents c.args.sink.now.writer in
    let b = g.W.Write.contents c.buffer_line.new.sink.writer in
    let d = g.W.Write.contents c.buffer_text.new.sink.writer in
    let z = g.W.Write.contents c.put.new.self.writer in
    let line = joined c.args.line.now in
    let text = bytes_of c.args.text.now in
    let held = c.buffer_line.new.buffer.items in
    let left = c.buffer_text.new.buffer.items in
    let all : AppendsAllExcept a d (line ++ text) left =
    buffer-more a b d line held text left (subst (λ (l : List ℕ). AppendsAllExcept a b (l ++ line) held) c.new-buffer.ensures c.in_ok-buffer_line.ensures.rest) c.in_ok-buffer_text.ensures.rest in
    let sent : Appends d z left = subst (λ (l : List ℕ). Appends d z l) c.as_slice.ensures.value c.in_ok-put.ensures.whole in
    where_ok c.flush.result (Appends-kept _ _ _ _ (buffer-sent a d z (line ++ text) left all sent) c.flush.ensures.kept)
