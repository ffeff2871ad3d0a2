use Rattle.std.proofs.Common.{◌++◌, ◌+◌, ◌%◌, ◌∙◌, ◌<◌, ap, subst, sym}
use Rattle.std.specs.Prelude.{filter}
use Rattle.std.proofs.lemmas.Option.{slice_get_within}
use Rattle.tq_event.specs.Versions.{row_lives}
use Rattle.tq_snapshot.proofs.FirstLemmas.{IsLeft, all_left, between, left_least, left_member, left_next, left_under, none_left}
use Rattle.tq_snapshot.proofs.OpenIndexLemmas.{rows_counted}
use Rattle.tq_snapshot.proofs.open_index.TableRows.find_first_in.Goals as goal

pub keys-init : goal.keys-init
keys-init c =
    let es = c.args.published.now ++ c.args.pending.now in
    let rows = c.args.self.now.opened in
    let set = c.args.keys.now in
    let keys = set.keys in
    let ranged =
    c.into_iter-key-iterator.ensures.into_iter_gives ∙ c.range-key-items.ensures.between c.new.ensures.exhausted
    ∙ ap (λ low. filter (between low (Rattle.std.specs.Range.range_inclusive_end c.new.result)) keys) c.new.ensures.start
    ∙ ap (λ high. filter (between c.open_key-least.result high) keys) c.new.ensures.end
    ∙ ap (λ least. filter (between least (least + 4294967295)) keys) c.open_key-least.ensures in
    all_left es c.args.table rows c.requires.rows.open_rows c.requires.few c.args.wanted.now c.args.keys.now c.requires.near c.into_iter-key-iterator.result ranged

pub returns-then-is_like-clause-member : goal.returns-then-is_like-clause-member
returns-then-is_like-clause-member c =
    let es = c.args.published.now ++ c.args.pending.now in
    let rows = c.args.self.now.opened in
    let left = subst (IsLeft es c.args.table c.args.keys.now c.args.wanted.now) c.in-Some.ensures.steps c.keys.invariant in
    left_member es c.args.table rows c.requires.rows.open_rows c.requires.few c.args.wanted.now c.args.keys.now c.requires.near c.in-Some.key.now c.next.new.self left
    (λ l stands. sym c.if-is_like.true ∙ c.is_like.ensures l stands)

pub returns-then-is_like-clause-least : goal.returns-then-is_like-clause-least
returns-then-is_like-clause-least c =
    let es = c.args.published.now ++ c.args.pending.now in
    let rows = c.args.self.now.opened in
    let left = subst (IsLeft es c.args.table c.args.keys.now c.args.wanted.now) c.in-Some.ensures.steps c.keys.invariant in
    left_least es c.args.table rows c.requires.rows.open_rows c.requires.few c.args.wanted.now c.args.keys.now c.requires.near c.in-Some.key.now c.next.new.self left c.range-key-items.ensures.ordered

pub keys-preserved : goal.keys-preserved
keys-preserved c =
    let es = c.args.published.now ++ c.args.pending.now in
    let rows = c.args.self.now.opened in
    let left = subst (IsLeft es c.args.table c.args.keys.now c.args.wanted.now) c.in-Some.ensures.steps c.keys.invariant in
    left_next es c.args.table rows c.requires.rows.open_rows c.requires.few c.args.wanted.now c.args.keys.now c.requires.near c.in-Some.key.now c.next.new.self left
    (λ l stands. sym c.if-is_like.false ∙ c.is_like.ensures l stands)

pub returns-clause-member : goal.returns-clause-member
returns-clause-member c =
    none_left (c.args.published.now ++ c.args.pending.now) c.args.table c.args.self.now.opened c.requires.rows.open_rows c.requires.few c.args.wanted.now c.args.keys.now c.requires.near c.keys.key-iterator c.in-None.ensures.steps.0 c.keys.invariant

pub returns-clause-least : goal.returns-clause-least
returns-clause-least c =
    none_left (c.args.published.now ++ c.args.pending.now) c.args.table c.args.self.now.opened c.requires.rows.open_rows c.requires.few c.args.wanted.now c.args.keys.now c.requires.near c.keys.key-iterator c.in-None.ensures.steps.0 c.keys.invariant

pub is_like-requires-clause-row : goal.is_like-requires-clause-row
is_like-requires-clause-row c =
    let es = c.args.published.now ++ c.args.pending.now in
    let rows = c.args.self.now.opened in
    let left = subst (IsLeft es c.args.table c.args.keys.now c.args.wanted.now) c.in-Some.ensures.steps c.keys.invariant in
    let one = left_under es c.args.table rows c.requires.rows.open_rows c.requires.few c.args.wanted.now c.args.keys.now c.requires.near c.in-Some.key.now c.next.new.self left in
    subst (λ n. c.in-Some.key.now % 4294967296 < n) (sym (rows_counted es c.args.table c.args.self.now c.requires.rows))
    (slice_get_within (row_lives es c.args.table) (c.in-Some.key.now % 4294967296) one.life one.stands)
