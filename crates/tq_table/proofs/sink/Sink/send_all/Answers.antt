use Rattle.std.proofs.Common.{◌≡◌, ◌∙◌, ◌<◌, ◌++◌, ◌∷◌, ℕ, suc, List, ap, append_assoc, arith, drop, get_or, length, sym, take}
use Rattle.std.specs.Global.{Vec}
use Rattle.std.specs.Prelude.{Err, Ok, OnErr, Result}
use Rattle.std.proofs.KnownBytes.{Appends-trans}
use Rattle.std.proofs.Math.Seq.{split_at}
use Rattle.std.proofs.lemmas.Grind.{flat_map-append}
use Rattle.std.proofs.lemmas.List.Concat.{flat_map-cons}
use Rattle.tq_table.specs.Sink.{bytes_of}
use Rattle.tq_table.proofs.sink.Sink.send_all.Goals as goal

-- what holds still holds after an error
where_err : {T E P : Type 0} → (r : Result T E) → P → OnErr r P
where_err (Ok x) p = tt
where_err (Err e) p = p

-- the bytes before a text, then its own, then those after it
around : (texts : List (Vec ℕ)) (i : ℕ) (text : Vec ℕ) → i < length texts → text ≡ get_or texts i text → bytes_of texts ≡ bytes_of (take i texts) ++ (text.items ++ bytes_of (drop (suc i) texts))
around texts i text less is =
    ap bytes_of (split_at texts i text less ∙ ap (λ t. take i texts ++ t ∷ drop (suc i) texts) (sym is))
    ∙ flat_map-append (λ (t : Vec ℕ). t.items) (take i texts) (text ∷ drop (suc i) texts)
    ∙ ap (λ l. bytes_of (take i texts) ++ l) (flat_map-cons (λ (t : Vec ℕ). t.items) text (drop (suc i) texts))

pub returns-in_err-send-clause-prefix : goal.returns-in_err-send-clause-prefix
returns-in_err-send-clause-prefix g c =
    let parts = c.args.parts.now in
    let i = c.parts.part-index in
    let before = bytes_of (take i parts) in
    let after = bytes_of (drop (suc i) parts) in
    let (sent, unsent, split, appended) = c.in_err-send.ensures.prefix in
    let text : c.part-item.result.items ≡ sent ++ unsent = sym c.deref.ensures.value ∙ split in
    let all : bytes_of parts ≡ (before ++ sent) ++ (unsent ++ after) =
    around parts i c.part-item.result (omega (arith, c.parts-test.true, c.parts.auto.part-index-end)) c.part-item.is
    ∙ ap (λ l. before ++ (l ++ after)) text
    ∙ ap (λ l. before ++ l) (append_assoc sent unsent after)
    ∙ sym (append_assoc before sent (unsent ++ after)) in
    where_err c.from_residual.result (before ++ sent, unsent ++ after, all, Appends-trans _ _ _ _ _ c.parts.invariant.appended appended)
