use Rattle.tq_snapshot.proofs.laws.equal_asks_agree.Goals as goal

pub returns : goal.returns
returns c = λ catalogue observed found other n plan a b over le one two first second.
    let told_of = c.observed_answers.ensures in
    c.answers_are_unique.ensures over.form catalogue over.statement observed n a b
    (record { plan = plan; planned = over.planned; is_answer = told_of observed found n plan a one le first })
    (record { plan = plan; planned = over.planned; is_answer = told_of observed other n plan b two le second })
