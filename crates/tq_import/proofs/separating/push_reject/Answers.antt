use Rattle.csv.specs.Records.{fields_of}
use Rattle.tq_import.proofs.RejectLemmas.{message_added, row_added}
use Rattle.tq_import.proofs.separating.push_reject.Goals as goal

pub returns-in_ok-write_row-in-Rows : goal.returns-in_ok-write_row-in-Rows
returns-in_ok-write_row-in-Rows c number before held =
    row_added c.args.separation.now.rejects c.args.separation.now.plan.now (fields_of c.args.separation.now.header.now) number c.args.invalid.now.fault (fields_of c.args.invalid.now.fields.now) _ _ before
    (rw c.in-Rows.is at held) c.in_ok-write_row-in-Rows.ensures

pub returns-in_ok-push_message-in-Messages : goal.returns-in_ok-push_message-in-Messages
returns-in_ok-push_message-in-Messages c number before held =
    message_added c.args.separation.now.rejects c.args.separation.now.plan.now (fields_of c.args.separation.now.header.now) number c.args.invalid.now.line c.args.invalid.now.fault (fields_of c.args.invalid.now.fields.now) _ _ before
    (rw c.in-Messages.is at held) c.in_ok-push_message-in-Messages.ensures
