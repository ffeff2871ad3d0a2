use Rattle.std.proofs.Common.{◌≡◌, List, Option, Some, length, refl, slice_get, subst, sym}
use Rattle.std.proofs.lemmas.Option.{IfSome_then, slice_get_read}
use Rattle.std.specs.Prelude.{IfSome, Vec}
use Rattle.std.specs.declared.alloc.Global.{Global}
use Rattle.tq_commands.specs.Report.{IsLoadDetail}
use Rattle.tq_commands.specs.declared.retained.RetainedFile.{RetainedFile}
use Rattle.tq_commands.proofs.refusals.refused_load.Goals as goal

pub returns-clause-detail : goal.returns-clause-detail
returns-clause-detail g c =
    let slice = c.deref.result.now in
    let number = c.args.fault.table in
    let file = c.in-Some-get.file.now in
    let found = c.in-Some-get.ensures.lookup in
    let there = subst (λ (l : List RetainedFile). slice_get l number ≡ Some file) c.deref.ensures.value
    (slice_get_read slice (length slice) number file refl found.3.0 found.1) in
    subst (λ (known : Option (Vec RetainedFile Global)). IfSome c.refused_file.result.detail (λ text. IsLoadDetail c.args.form known c.args.fault text.items))
    (sym c.in-Some.is)
    (IfSome_then c.refused_file.result.detail c.refused_file.ensures.detail (λ text is. (file, there, is)))
