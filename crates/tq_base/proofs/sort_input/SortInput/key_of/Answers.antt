use Rattle.std.proofs.Common.{◌∙◌, ap, map, refl, subst, sym}
use Rattle.tq_base.specs.RowValues.{value_at}
use Rattle.tq_base.specs.declared.period.Period.{Period}
use Rattle.tq_base.specs.SortInputs.{state_of}
use Rattle.tq_base.specs.Keys.{columns_on, first_prefix, rows_on, BeginsWithBytes}
use Rattle.tq_base.specs.Relations.{values_at_number}
use Rattle.tq_base.proofs.SortKeyLemmas.{begins_front, first_prefix_front}
use Rattle.tq_base.proofs.sort_input.SortInput.key_of.Goals as goal

pub returns-clause-key : goal.returns-clause-key
returns-clause-key c =
    let s = state_of c.args.self.now in
    let values = map (value_at (values_at_number (rows_on s c.args.side) c.args.row)) (columns_on s c.args.side) in
    let front = c.requires.first c.args.row in
    record {
      key = record {
        stands = c.requires.stands;
        prefix = c.prefix_in.ensures.prefix ∙ ap first_prefix front ∙ first_prefix_front values;
        bytes = begins_front values (subst BeginsWithBytes front c.prefix_in.ensures.bytes);
        start = c.number.ensures.value ∙ ap (λ (p : Period). p.start) (sym c.requires.period);
      };
      without_run_start = refl;
    }
