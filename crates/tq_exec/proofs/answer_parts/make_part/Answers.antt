use Rattle.tq_exec.proofs.answer_parts.make_part.Goals as goal

pub returns : goal.returns
returns c = λ width times layers wide. record { layers = layers; made = c.in_ok-made.ensures width wide }
