use Rattle.std.proofs.Common.{◌≡◌, ◌∙◌, ◌++◌, ◌∷◌, [], ℕ, ap, append-nil, append_assoc, length, sym}
use Rattle.std.specs.Global.{Vec}
use Rattle.std.specs.Vec.Iter.{into_iter_items}
use Rattle.std.proofs.lemmas.List.{flat_map_more, nil_from_length}
use Rattle.tq_table.specs.Sink.{bytes_of}
use Rattle.tq_exec.proofs.partition_ids.chained_chunks.Goals as goal

pub chunks-preserved : goal.chunks-preserved
chunks-preserved c =
    let is = ap (λ l. c.chunks.yielded ++ l) (sym c.in-Some.ensures.steps.0) ∙ c.chunks.invariant.reads in
    record {
      reads = append_assoc c.chunks.yielded (c.in-Some.chunk ∷ []) (into_iter_items c.next.new.self) ∙ is;
      all = c.in_ok-append.ensures.items ∙ ap (λ l. l ++ c.in-Some.chunk.items) c.chunks.invariant.all ∙ flat_map_more (λ (t : Vec ℕ). t.items) [] c.chunks.yielded c.in-Some.chunk;
    }

pub returns : goal.returns
returns c =
    let rest = into_iter_items c.chunks.chunk-iterator in
    let none : length rest ≡ 0 = sym c.chunks.chunk-iterator.rest.ok.0 ∙ c.in-None.ensures.steps.0 in
    let all : c.chunks.yielded ≡ c.args.chunks.items = sym (append-nil c.chunks.yielded) ∙ ap (λ l. c.chunks.yielded ++ l) (sym (nil_from_length rest none)) ∙ c.chunks.invariant.reads in
    c.chunks.invariant.all ∙ ap bytes_of all
