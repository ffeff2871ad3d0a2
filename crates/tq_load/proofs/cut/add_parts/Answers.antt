use Rattle.std.proofs.Common.{◌≡◌, ◌∙◌, ◌∷◌, [], Some, length, length-append, slice_get, ap, arith, refl}
use Rattle.std.proofs.lemmas.Option.{get_or_from_slice_get, slice_get_read}
use Rattle.tq_event.specs.declared.file.TableFile.{TableFile}
use Rattle.std.specs.Prelude.{slice_index_or}
use Rattle.tq_load.specs.declared.part.Part.{Part}
use Rattle.tq_load.proofs.CutLemmas.{part_added}
use Rattle.tq_load.proofs.cut.add_parts.Goals as goal

pub cuts-preserved : goal.cuts-preserved
cuts-preserved c =
    let i = c.cuts.invariant in
    let files = c.args.files.now in
    let end = c.in-Some.end in
    let bytes = (slice_index_or files c.args.table c.index-files-table.result).bytes in
    let on = c.in-Some.ensures in
    let at : slice_get files c.args.table ≡ Some c.index-files-table.result = slice_get_read files (length files) c.args.table c.index-files-table.result refl c.requires.here c.index-files-table.is in
    let own : (d : TableFile) → (slice_index_or files c.args.table d).bytes ≡ bytes = λ d. ap (λ (f : TableFile). f.bytes) (get_or_from_slice_get files c.args.table c.index-files-table.result d at ∙ c.index-files-table.is) in
    let part : Part = record { table = c.args.table; start = c.cuts.start; end = end } in
    record {
      within = on.within;
      cut = λ some. on.cut;
      parts = part_added files bytes part c.requires.here own (omega (arith, on.after)) on.within i.cut c.cuts.parts.items c.push.new.self.items c.in_ok-push.ensures.items i.parts;
      few = omega (arith, ap length c.in_ok-push.ensures.items, length-append c.cuts.parts.items (part ∷ []), i.few);
    }

pub returns-clause-parts : goal.returns-clause-parts
returns-clause-parts c =
    let i = c.cuts.invariant in
    let files = c.args.files.now in
    let bytes = (slice_index_or files c.args.table c.index-files-table.result).bytes in
    let at : slice_get files c.args.table ≡ Some c.index-files-table.result = slice_get_read files (length files) c.args.table c.index-files-table.result refl c.requires.here c.index-files-table.is in
    let own : (d : TableFile) → (slice_index_or files c.args.table d).bytes ≡ bytes = λ d. ap (λ (f : TableFile). f.bytes) (get_or_from_slice_get files c.args.table c.index-files-table.result d at ∙ c.index-files-table.is) in
    let part : Part = record { table = c.args.table; start = c.cuts.start; end = c.len-end.result } in
    part_added files bytes part c.requires.here own (omega (arith, i.within, c.len-end.ensures)) (omega (arith, c.len-end.ensures)) i.cut c.cuts.parts.items c.push-2.new.self.items c.in_ok-push-2.ensures.items i.parts
