use Rattle.std.proofs.Common.{◌∙◌, [], ap}
use Rattle.std.specs.Option.{option_map_or}
use Rattle.std.specs.Ordering.{eq_by_cmp}
use Rattle.tq_base.specs.ValueOrder.{values_cmp}
use Rattle.tq_store.specs.Stored.{values_in}
use Rattle.tq_snapshot.proofs.open_index.TableRows.is_like.Goals as goal

pub returns : goal.returns
returns c = λ life stands.
    c.has_values.ensures
    ∙ ap (λ o. eq_by_cmp values_cmp (option_map_or values_in o []) c.args.wanted.now) (c.start_of-start.ensures.life life stands)
