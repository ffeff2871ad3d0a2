use Rattle.std.proofs.Common.{◌≡◌, ℕ, ◌-◌, List, ◌++◌, rules, length, take, drop, sym, ap, ◌∙◌, append_assoc, take-append-drop}
use Rattle.std.proofs.lemmas.List.{take_rest}
use Rattle.std.proofs.KnownBytes.{Appends-trans}
use Rattle.tq_table.proofs.sink.Sink.put.Goals as goal

moves_front : (all done rest : List ℕ) (n : ℕ) → all ≡ done ++ rest → all ≡ (done ++ take n rest) ++ take (length rest - n) (drop n rest)
moves_front all done rest n e =
    e ∙ ap (λ l. done ++ l) (sym (take-append-drop n rest)) ∙ sym (append_assoc done (take n rest) (drop n rest)) ∙ ap (λ l. (done ++ take n rest) ++ l) (sym (take_rest rest n))

pub rest-preserved : goal.rest-preserved
rest-preserved g c =
    let (sent, split, appended, kept) = c.rest.invariant in
    let n = c.in_ok-taken.taken in
    let same : c.write_some.new.self.failed ≡ c.rest.self.failed = search rules in
    (sent ++ take n c.rest.rest.now, moves_front _ sent c.rest.rest.now n split, Appends-trans _ _ _ _ _ appended c.in_ok-taken.ensures.taken, same ∙ kept)
