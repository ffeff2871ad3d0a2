use Rattle.std.proofs.Common.{◌≡◌, ◌∙◌, ◌++◌, ◌∷◌, ℕ, [], List, ap, append_assoc, subst}
use Rattle.std.specs.Borrow.{Bor}
use Rattle.std.specs.Io.KnownBytes.{Appends}
use Rattle.std.specs.Prelude.{OnErr, OnOk}
use Rattle.std.proofs.lemmas.List.Concat.{flat_map-cons}
use Rattle.tq_table.specs.Sink.{AppendsPrefix, bytes_of}
use Rattle.tq_session.specs.Replies.{joined}
use Rattle.tq_session.proofs.reply.send_five_parts.Goals as goal

-- the first part, then the others and a text
first_part : (part : Bor (List ℕ)) (parts : List (Bor (List ℕ))) (text : List ℕ) → joined (part ∷ parts) ++ text ≡ part.now ++ (joined parts ++ text)
first_part part parts text = ap (λ l. l ++ text) (flat_map-cons (λ (t : Bor (List ℕ)). t.now) part parts) ∙ append_assoc part.now (joined parts) text

-- five parts, then a text
five_parts : (a b c d e : Bor (List ℕ)) (text : List ℕ) → joined (a ∷ b ∷ c ∷ d ∷ e ∷ []) ++ text ≡ a.now ++ (b.now ++ (c.now ++ (d.now ++ (e.now ++ text))))
five_parts a b c d e text =
    first_part a (b ∷ c ∷ d ∷ e ∷ []) text
    ∙ ap (λ l. a.now ++ l) (first_part b (c ∷ d ∷ e ∷ []) text
    ∙ ap (λ l. b.now ++ l) (first_part c (d ∷ e ∷ []) text
    ∙ ap (λ l. c.now ++ l) (first_part d (e ∷ []) text
    ∙ ap (λ l. d.now ++ l) (first_part e [] text))))

pub returns-clause-whole : goal.returns-clause-whole
returns-clause-whole g c =
    subst (λ (l : List ℕ). OnOk c.send_parts.result (Appends (g.W.Write.contents c.args.sink.now.writer) (g.W.Write.contents c.send_parts.new.sink.writer) l))
    (five_parts c.args.first c.args.second c.args.third c.args.fourth c.args.fifth (bytes_of c.args.text.now)) c.send_parts.ensures.whole

pub returns-clause-prefix : goal.returns-clause-prefix
returns-clause-prefix g c =
    subst (λ (l : List ℕ). OnErr c.send_parts.result (AppendsPrefix (g.W.Write.contents c.args.sink.now.writer) (g.W.Write.contents c.send_parts.new.sink.writer) l))
    (five_parts c.args.first c.args.second c.args.third c.args.fourth c.args.fifth (bytes_of c.args.text.now)) c.send_parts.ensures.prefix
