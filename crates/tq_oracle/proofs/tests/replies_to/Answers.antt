use Rattle.tq_oracle.proofs.tests.replies_to.Goals as goal

pub returns : goal.returns
returns c = c.runs_answer_plans.ensures c.args.steps.now c.in_ok-replies.replies.items c.run.new.self c.in_ok-replies.ensures.answers
