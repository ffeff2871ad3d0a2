-- The paths so far are those of the options so far.
use Rattle.std.proofs.Common.{◌≡◌, ℕ, Vec, Global, map, take}
use Rattle.tq_cli.specs.declared.request.TableOption.{TableOption}
use Rattle.tq_commands.proofs.files.paths_of.Given as goal

abbrev pub invariant-options : goal.invariant-options
invariant-options l = map (λ (p : Vec ℕ Global). p.items) l.paths.items ≡ map (λ (o : TableOption). o.path.items) (take l.option-index l.options)
