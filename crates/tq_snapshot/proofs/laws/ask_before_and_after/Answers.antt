use Rattle.tq_snapshot.proofs.PrefixLemmas.{prefix_self, prefix_trans}
use Rattle.tq_snapshot.proofs.laws.ask_before_and_after.Goals as goal

pub returns-in-Ok-ask_observed : goal.returns-in-Ok-ask_observed
returns-in-Ok-ask_observed g c =
    let observed = c.args.reader.now in
    let now = c.learn.new.self in
    record {
      answer = c.in-Ok.ensures.answer;
      same =
          c.equal_asks_agree.ensures g.J.StoreId.catalogue observed observed now c.args.n c.args.plan.now c.in-Ok.before c.in-Ok-ask_observed.after c.requires.plan c.requires.known (prefix_self observed)
          (prefix_trans observed c.ask_observed.new.reader now c.ask_observed.ensures.observed c.learn.ensures.kept) c.in-Ok.ensures.answer c.in-Ok-ask_observed.ensures.answer;
    }
