use Rattle.std.proofs.Common.{◌≡◌, ◌∙◌, ◌<◌, ◌+◌, ◌++◌, ◌∷◌, ℕ, [], suc, List, ap, append-nil, append_assoc, arith, drop, get_or, length, subst, sym, take}
use Rattle.std.specs.Borrow.{Bor}
use Rattle.std.proofs.Math.Seq.{split_at}
use Rattle.std.proofs.lemmas.Grind.{common_steps, flat_map-append}
use Rattle.std.proofs.lemmas.List.{take_all, take_more}
use Rattle.std.proofs.lemmas.List.Concat.{flat_map-cons}
use Rattle.tq_table.specs.Sink.{AppendsPrefix}
use Rattle.tq_session.specs.Replies.{AppendsAllExcept, joined}
use Rattle.tq_session.proofs.HeldLemmas.{buffer-cut, buffer-more, prefix-longer, where_err}
use Rattle.tq_session.proofs.reply.buffer_line.Goals as goal

-- the bytes up to and including a part
joined-take : (parts : List (Bor (List ℕ))) (i : ℕ) (other : Bor (List ℕ)) → i < length parts
    → joined (take (i + 1) parts) ≡ joined (take i parts) ++ (get_or parts i other).now
joined-take parts i other less =
    ap joined (take_more parts i other less)
    ∙ flat_map-append (λ (t : Bor (List ℕ)). t.now) (take i parts) (get_or parts i other ∷ [])
    ∙ ap (λ l. joined (take i parts) ++ l) (flat_map-cons (λ (t : Bor (List ℕ)). t.now) (get_or parts i other) [] ∙ append-nil (get_or parts i other).now)

-- the bytes before a part, then its own, then those after it
around : (parts : List (Bor (List ℕ))) (i : ℕ) (other : Bor (List ℕ)) → i < length parts
    → joined parts ≡ (joined (take i parts) ++ (get_or parts i other).now) ++ joined (drop (suc i) parts)
around parts i other less =
    ap joined (split_at parts i other less)
    ∙ flat_map-append (λ (t : Bor (List ℕ)). t.now) (take i parts) (get_or parts i other ∷ drop (suc i) parts)
    ∙ ap (λ l. joined (take i parts) ++ l) (flat_map-cons (λ (t : Bor (List ℕ)). t.now) (get_or parts i other) (drop (suc i) parts))
    ∙ sym (append_assoc (joined (take i parts)) (get_or parts i other).now (joined (drop (suc i) parts)))

pub returns-in_err-buffer_part-clause-prefix : goal.returns-in_err-buffer_part-clause-prefix
returns-in_err-buffer_part-clause-prefix g c =
    let parts = c.args.parts.now in
    let i = c.each.part-index in
    let first = c.args.buffer.now.items in
    let a = g.W.Write.contents c.args.sink.now.writer in
    let z = g.W.Write.contents c.buffer_part.new.sink.writer in
    let own = (get_or parts i _).now in
    let rest = joined (drop (suc i) parts) in
    where_err c.from_residual.result
    (subst (λ (l : List ℕ). AppendsPrefix a z l)
    (ap (λ l. l ++ rest) (append_assoc first (joined (take i parts)) own) ∙ append_assoc first (joined (take i parts) ++ own) rest ∙ ap (λ l. first ++ l) (sym (around parts i _ (omega (arith, c.each-test.true, c.each.auto.part-index-end)))))
    (prefix-longer a z _ rest
    (buffer-cut a (g.W.Write.contents c.each.sink.writer) z (first ++ joined (take i parts)) c.each.buffer.items _ c.each.invariant.appended c.in_err-buffer_part.ensures.prefix)))

pub each-preserved : goal.each-preserved
each-preserved g c =
    let parts = c.args.parts.now in
    let i = c.each.part-index in
    let first = c.args.buffer.now.items in
    let a = g.W.Write.contents c.args.sink.now.writer in
    let z = g.W.Write.contents c.buffer_part.new.sink.writer in
    record {
      appended = subst (λ (l : List ℕ). AppendsAllExcept a z l c.buffer_part.new.buffer.items)
          (append_assoc first (joined (take i parts)) _ ∙ ap (λ l. first ++ l) (sym (joined-take parts i _ (omega (arith, c.each-test.true, c.each.auto.part-index-end)))))
          (buffer-more a (g.W.Write.contents c.each.sink.writer) z (first ++ joined (take i parts)) c.each.buffer.items _ c.buffer_part.new.buffer.items c.each.invariant.appended c.in_ok-buffer_part.ensures.rest);
      kept = grind (arith, common_steps);
    }

pub returns-clause-rest : goal.returns-clause-rest
returns-clause-rest g c =
    let parts = c.args.parts.now in
    let a = g.W.Write.contents c.args.sink.now.writer in
    let b = g.W.Write.contents c.each.sink.writer in
    let all : take c.each.part-index parts ≡ parts = take_all c.each.part-index parts (omega (arith, c.each-test.false)) in
    subst (λ (l : List (Bor (List ℕ))). AppendsAllExcept a b (c.args.buffer.now.items ++ joined l) c.each.buffer.items) all c.each.invariant.appended
