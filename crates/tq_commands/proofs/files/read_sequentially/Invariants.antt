-- The tables so far have the names of the options so far.
use Rattle.std.proofs.Common.{◌≡◌, ◌++◌, map}
use Rattle.std.specs.Vec.Iter.{into_iter_items}
use Rattle.tq_cli.specs.declared.request.TableOption.{TableOption}
use Rattle.tq_event.specs.declared.file.TableFile.{TableFile}
use Rattle.tq_commands.proofs.files.read_sequentially.Given as goal

abbrev pub invariant-options : goal.invariant-options
invariant-options g l = record {
  reads : l.yielded ++ into_iter_items l.option-iterator ≡ l.fn.options.items;
  names : map (λ (t : TableFile). t.name) l.tables.items ≡ map (λ (o : TableOption). o.name.items) l.yielded;
}
