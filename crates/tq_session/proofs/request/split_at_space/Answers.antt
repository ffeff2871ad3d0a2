use Rattle.std.proofs.Common.{◌≡◌, ◌==◌, ◌-◌, ◌+◌, take, drop, length, length-drop, position, Some, option_map, arith, sym, ap, ◌∙◌}
use Rattle.std.proofs.lemmas.List.{take_all}
use Rattle.tq_session.proofs.request.split_at_space.Goals as goal

pub returns-in_err-place : goal.returns-in_err-place
returns-in_err-place c =
    ap (option_map (λ p. (p.0.now, p.1.now))) c.from_residual.ensures
    ∙ sym (ap (option_map (λ place. (take place c.args.bytes.now, drop (place + 1) c.args.bytes.now))) (sym c.find_space.ensures.value ∙ c.in_err-place.was))

pub returns : goal.returns
returns c =
    let bytes = c.args.bytes.now in
    let place = c.in_ok-place.place in
    let rest : take (length bytes - (place + 1)) (drop (place + 1) bytes) ≡ drop (place + 1) bytes
    = take_all (length bytes - (place + 1)) (drop (place + 1) bytes) (omega (arith, length-drop (place + 1) bytes)) in
    let found : position (λ byte. byte == 32) bytes ≡ Some place = sym c.find_space.ensures.value ∙ c.in_ok-place.was in
    ap (λ behind. Some (take place bytes, behind)) rest
    ∙ sym (ap (option_map (λ at. (take at bytes, drop (at + 1) bytes))) found)
