use Rattle.std.proofs.Common.{◌≡◌, ◌∙◌, ◌<◌, ◌+◌, ◌++◌, ◌∷◌, ℕ, [], suc, List, ap, append-nil, append_assoc, arith, drop, get_or, length, subst, sym, take}
use Rattle.std.specs.Global.{Vec}
use Rattle.std.proofs.Math.Seq.{split_at}
use Rattle.std.proofs.lemmas.Grind.{common_steps, flat_map-append}
use Rattle.std.proofs.lemmas.List.{take_all, take_more}
use Rattle.std.proofs.lemmas.List.Concat.{flat_map-cons}
use Rattle.tq_table.specs.Sink.{AppendsPrefix, bytes_of}
use Rattle.tq_session.specs.Replies.{AppendsAllExcept}
use Rattle.tq_session.proofs.HeldLemmas.{buffer-cut, buffer-more, prefix-longer, where_err}
use Rattle.tq_session.proofs.reply.buffer_text.Goals as goal

-- the bytes up to and including a part
joined-take : (parts : List (Vec ℕ)) (i : ℕ) (other : Vec ℕ) → i < length parts
    → bytes_of (take (i + 1) parts) ≡ bytes_of (take i parts) ++ (get_or parts i other).items
joined-take parts i other less =
    ap bytes_of (take_more parts i other less)
    ∙ flat_map-append (λ (t : Vec ℕ). t.items) (take i parts) (get_or parts i other ∷ [])
    ∙ ap (λ l. bytes_of (take i parts) ++ l) (flat_map-cons (λ (t : Vec ℕ). t.items) (get_or parts i other) [] ∙ append-nil (get_or parts i other).items)

-- the bytes before a part, then its own, then those after it
around : (parts : List (Vec ℕ)) (i : ℕ) (other : Vec ℕ) → i < length parts
    → bytes_of parts ≡ (bytes_of (take i parts) ++ (get_or parts i other).items) ++ bytes_of (drop (suc i) parts)
around parts i other less =
    ap bytes_of (split_at parts i other less)
    ∙ flat_map-append (λ (t : Vec ℕ). t.items) (take i parts) (get_or parts i other ∷ drop (suc i) parts)
    ∙ ap (λ l. bytes_of (take i parts) ++ l) (flat_map-cons (λ (t : Vec ℕ). t.items) (get_or parts i other) (drop (suc i) parts))
    ∙ sym (append_assoc (bytes_of (take i parts)) (get_or parts i other).items (bytes_of (drop (suc i) parts)))

pub returns-in_err-buffer_part-clause-prefix : goal.returns-in_err-buffer_part-clause-prefix
returns-in_err-buffer_part-clause-prefix g c =
    let parts = c.args.parts.now in
    let i = c.each.part-index in
    let first = c.args.buffer.now.items in
    let a = g.W.Write.contents c.args.sink.now.writer in
    let z = g.W.Write.contents c.buffer_part.new.sink.writer in
    let part = c.part-item.result in
    let own = part.items in
    let rest = bytes_of (drop (suc i) parts) in
    where_err c.from_residual.result
    (subst (λ (l : List ℕ). AppendsPrefix a z l)
    (ap (λ l. l ++ rest) (append_assoc first (bytes_of (take i parts)) own) ∙ append_assoc first (bytes_of (take i parts) ++ own) rest
    ∙ ap (λ (v : Vec ℕ). first ++ ((bytes_of (take i parts) ++ v.items) ++ rest)) c.part-item.is
    ∙ ap (λ l. first ++ l) (sym (around parts i part (omega (arith, c.each-test.true, c.each.auto.part-index-end)))))
    (prefix-longer a z _ rest
    (buffer-cut a (g.W.Write.contents c.each.sink.writer) z (first ++ bytes_of (take i parts)) c.each.buffer.items _ c.each.invariant.appended
    (subst (λ (o : List ℕ). AppendsPrefix (g.W.Write.contents c.each.sink.writer) z (c.each.buffer.items ++ o)) c.deref.ensures.value c.in_err-buffer_part.ensures.prefix))))

pub each-preserved : goal.each-preserved
each-preserved g c =
    let parts = c.args.parts.now in
    let part = c.part-item.result in
    let i = c.each.part-index in
    let first = c.args.buffer.now.items in
    let a = g.W.Write.contents c.args.sink.now.writer in
    let z = g.W.Write.contents c.buffer_part.new.sink.writer in
    record {
      appended = subst (λ (l : List ℕ). AppendsAllExcept a z l c.buffer_part.new.buffer.items)
          (append_assoc first (bytes_of (take i parts)) part.items
          ∙ ap (λ (v : Vec ℕ). first ++ (bytes_of (take i parts) ++ v.items)) c.part-item.is
          ∙ ap (λ l. first ++ l) (sym (joined-take parts i part (omega (arith, c.each-test.true, c.each.auto.part-index-end)))))
          (buffer-more a (g.W.Write.contents c.each.sink.writer) z (first ++ bytes_of (take i parts)) c.each.buffer.items _ c.buffer_part.new.buffer.items c.each.invariant.appended
          (subst (λ (o : List ℕ). AppendsAllExcept (g.W.Write.contents c.each.sink.writer) z (c.each.buffer.items ++ o) c.buffer_part.new.buffer.items) c.deref.ensures.value c.in_ok-buffer_part.ensures.rest));
      kept = grind (arith, common_steps);
    }

pub returns-clause-rest : goal.returns-clause-rest
returns-clause-rest g c =
    let parts = c.args.parts.now in
    let a = g.W.Write.contents c.args.sink.now.writer in
    let b = g.W.Write.contents c.each.sink.writer in
    let all : take c.each.part-index parts ≡ parts = take_all c.each.part-index parts (omega (arith, c.each-test.false)) in
    subst (λ (l : List (Vec ℕ)). AppendsAllExcept a b (c.args.buffer.now.items ++ bytes_of l) c.each.buffer.items) all c.each.invariant.appended
