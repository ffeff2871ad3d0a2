use Rattle.std.proofs.Common.{◌≡◌, ◌+◌, ◌∙◌, ◌++◌, ◌∷◌, [], List, suc, ap, arith, subst, sym, take}
use Rattle.std.proofs.Math.Seq.{take-suc}
use Rattle.tq_base.specs.declared.key_range.KeyRange.{KeyRange}
use Rattle.tq_scan.specs.declared.window.Part.{Part}
use Rattle.tq_exec.specs.declared.read_pieces.ReadPiece.{ReadPiece}
use Rattle.tq_exec.specs.Reads.{AreCut, pieces_for}
use Rattle.tq_exec.proofs.ReadLemmas.{cut_more}
use Rattle.tq_exec.proofs.read_pieces.cut_ranges.Goals as goal

pub each-preserved : goal.each-preserved
each-preserved c =
    let es = c.args.db.now.events in
    let window = c.args.period.now in
    let table = c.args.table in
    let ranges = c.args.ranges.now in
    let i = c.each.keys-index in
    let keys = c.keys-item.result in
    let parts = c.in_ok-parts.parts.items in
    let next : suc i ≡ i + 1 = omega arith in
    let more : take (i + 1) ranges ≡ take i ranges ++ keys ∷ [] =
    ap (λ k. take k ranges) (sym next) ∙ take-suc ranges i keys c.each-test.true ∙ ap (λ (k : KeyRange). take i ranges ++ k ∷ []) (sym c.keys-item.is) in
    let pieces : c.add_pieces.new.pieces.items ≡ c.each.pieces.items ++ pieces_for (record { table = table; keys = keys }) parts =
    c.in_ok-add_pieces.ensures ∙ ap (λ (ps : List Part). c.each.pieces.items ++ pieces_for (record { table = table; keys = keys }) ps) c.deref.ensures.value in
    subst (λ (rs : List KeyRange). AreCut es c.args.n window table rs c.add_pieces.new.pieces.items) (sym more)
    (subst (λ (ps : List ReadPiece). AreCut es c.args.n window table (take i ranges ++ keys ∷ []) ps) (sym pieces)
    (cut_more c.args.db.now.catalogue es c.args.n window table (take i ranges) keys c.each.pieces.items parts c.each.invariant c.in_ok-parts.ensures.tile))
