use Rattle.tq_exec.proofs.answer_text.text_among.Goals as goal

pub returns : goal.returns
returns g c =
    let rendered = c.in_ok-rendered.ensures in
    (rendered.table, rendered.is, rendered.text)
