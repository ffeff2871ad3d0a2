use Rattle.std.proofs.Common.{◌≡◌, [], refl, sym, ap, arith}
use Rattle.std.specs.Vec.Iter.{into_iter_items}
use Rattle.tq_event.specs.Projection.{projected_from}
use Rattle.tq_event.specs.Loading.{contents_after}
use Rattle.tq_event.specs.Tables.{entries_from}
use Rattle.tq_event.proofs.loading.read_files.Goals as goal

pub files-init : goal.files-init
unfolding entries_from projected_from
files-init c =
    let given : into_iter_items c.into_iter-file-iterator.result ≡ c.args.files.items = c.into_iter-file-iterator.ensures.into_iter_gives.0 in
    rw (c.new-tables.ensures.items, c.new-rows.ensures.items) (record {
      few = omega arith;
      read = refl;
      counted = refl;
      within = omega arith;
      whole = [];
      kept = refl;
      rest = ap (contents_after c.args.form c.args.limit (record { tables = []; entries = [] })) (sym given);
    })
