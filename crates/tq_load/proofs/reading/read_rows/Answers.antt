use Rattle.std.proofs.Common.{◌≡◌, ◌∙◌, ◌++◌, ◌∷◌, [], false, Result, ap, append-nil, append_assoc, refl, subst, sym}
use Rattle.std.proofs.lemmas.List.Elements.{All-nil, All-push}
use Rattle.csv.specs.Records.{fields_of}
use Rattle.tq_base.specs.declared.fragment.Fragment.{Fragment}
use Rattle.tq_event.specs.declared.fault.LoadFaultKind.{LoadFaultKind}
use Rattle.tq_event.specs.Entries.{Entry}
use Rattle.tq_load.specs.Feeds.{AreClosed, may_be_open}
use Rattle.tq_load.specs.Parts.{ParseProjected, ParseRows}
use Rattle.tq_event.proofs.ProjectionLemmas.{rows_push}
use Rattle.tq_load.proofs.PartLemmas.{tell_both}
use Rattle.tq_load.proofs.reading.read_rows.Goals as goal

pub rows-init : goal.rows-init
rows-init c = record {
  wide = c.in_ok-rows.ensures.width;
  parsed = λ all has.
      let none : ParseProjected c.args.form c.args.columns.now c.args.wanted.now [] c.in_ok-rows.rows.items = record { whole = []; parsed = λ table. refl; kept = c.in_ok-rows.ensures.rows } in
      ([], all, refl, has, none, All-nil (λ fields. may_be_open fields ≡ false));
}

pub next_record-requires : goal.next_record-requires
next_record-requires c =
    let (all, has) = c.requires in
    let (seen, left, split, after, tell, closed) = c.rows.invariant.parsed all has in
    (left, after)

pub returns-then-not-branch-clause-parsed : goal.returns-then-not-branch-clause-parsed
returns-then-not-branch-clause-parsed c all has =
    let (seen, left, split, after, tell, closed) = c.rows.invariant.parsed all has in
    let none = rw c.if-not-branch.true at (c.in_ok-next_record.ensures left after) in
    subst (λ l. ParseProjected c.args.form c.args.columns.now c.args.wanted.now l c.rows.rows.items) (sym (split ∙ ap (λ l. seen ++ l) none ∙ append-nil seen)) tell

pub returns-then-not-branch-clause-closed : goal.returns-then-not-branch-clause-closed
returns-then-not-branch-clause-closed c all has =
    let (seen, left, split, after, tell, closed) = c.rows.invariant.parsed all has in
    let none = rw c.if-not-branch.true at (c.in_ok-next_record.ensures left after) in
    subst AreClosed (sym (split ∙ ap (λ l. seen ++ l) none ∙ append-nil seen)) closed

pub rows-preserved : goal.rows-preserved
rows-preserved c =
    let columns = c.args.columns.now in
    let of_record = c.in_ok-period.ensures.ok in
    let row : Fragment = record { values = of_record.whole; period = c.in_ok-period.period } in
    record {
      wide = c.push.ensures.width ∙ c.rows.invariant.wide;
      parsed = λ all has.
          let (seen, left, split, after, tell, closed) = c.rows.invariant.parsed all has in
          let (more, first, rest) = rw c.if-not-branch.false at (c.in_ok-next_record.ensures left after) in
          let fields = fields_of c.next_record.new.record in
          let one : ParseRows c.args.form columns (fields ∷ []) (row ∷ []) = λ table. ap (λ (r : Result Entry LoadFaultKind). r ∷ []) (of_record.parsed table) in (
            seen ++ fields ∷ [],
            more,
            split ∙ ap (λ l. seen ++ l) first ∙ sym (append_assoc seen (fields ∷ []) more),
            rest,
            record {
              whole = tell.whole ++ row ∷ [];
              parsed = tell_both c.args.form columns seen (fields ∷ []) tell.whole (row ∷ []) tell.parsed one;
              kept = rows_push c.args.wanted.now tell.whole c.rows.rows.items c.push.new.self.items c.read_entry.new.values.items of_record.whole c.in_ok-period.period tell.kept of_record.kept c.in_ok-push.ensures.pushed;
            },
            All-push (λ fields. may_be_open fields ≡ false) seen fields closed (sym c.may_be_open.ensures ∙ c.if-may_be_open.false),
          );
    }
