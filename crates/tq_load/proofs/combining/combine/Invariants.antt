-- The parts so far were combined, and what holds of all of them holds of the result.
use Rattle.std.proofs.Common.{◌≡◌, ◌++◌, Bool, List}
use Rattle.std.specs.Prelude.{All, IfSome}
use Rattle.std.specs.Vec.Iter.{into_iter_items}
use Rattle.tq_base.specs.declared.form.Form.{Form}
use Rattle.tq_base.specs.declared.catalogue.Schema.{Schema}
use Rattle.tq_event.specs.declared.file.TableFile.{TableFile}
use Rattle.tq_load.specs.Parts.{IsRead}
use Rattle.tq_load.proofs.combining.combine.Given as goal

abbrev pub invariant-parts : goal.invariant-parts
invariant-parts g l = record {
  reads : l.yielded ++ into_iter_items l.part-iterator ≡ l.fn.parts.items;
  all : (form : Form) (files : List TableFile) (wanted : List (List Bool)) (schemas : List Schema) → All (λ one. IfSome one (IsRead form files wanted schemas)) l.fn.parts.items → All (IsRead form files wanted schemas) l.all.items;
}
