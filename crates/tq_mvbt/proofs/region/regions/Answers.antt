use Rattle.std.proofs.Common.{◌≡◌, ◌∙◌, ◌++◌, ◌∷◌, [], ap, refl, sym, arith, length, length-append, ◌<◌, List, subst, sym}
use Rattle.std.specs.Prelude.{All}
use Rattle.std.proofs.lemmas.Option.{slice_get_within}
use Rattle.std.proofs.lemmas.List.Elements.{All-append, All-cons, All-nil}
use Rattle.tq_mvbt.specs.declared.region.Region.{Region}
use Rattle.tq_mvbt.specs.Regions.{region_for}
use Rattle.tq_mvbt.proofs.Leafward.{leaf_more, index_more}
use Rattle.tq_mvbt.proofs.region.regions.Goals as goal
use Rattle.tq_mvbt.proofs.region.regions.Goals.{then-is_leaf+in_ok-region_at+in_ok-push, else-is_leaf}

pub loop-i-preserved : goal.loop-i-preserved
loop-i-preserved c =
    let nodes = c.args.nodes.now.nodes in
    let i = c.loop-i.i in
    let n = c.read-node.result.now in
    let inv = c.loop-i.invariant in
    record {
      regions = elim c.if-is_leaf.branch [
        | then-is_leaf+in_ok-region_at+in_ok-push w ↦
            (let items : c.if-is_leaf.found.items ≡ c.loop-i.found.items ++ region_for i n ∷ [] = ap (λ v. v.items) w.found-is ∙ w.in_ok-push.ensures.items ∙ ap (λ r. c.loop-i.found.items ++ r ∷ []) w.in_ok-region_at.ensures in
            items ∙ leaf_more i nodes n c.loop-i.found.items c.read-node.ensures.node (w.if-is_leaf.ensures.0 refl) inv.regions)
        | else-is_leaf w ↦
            ap (λ v. v.items) w.found-is ∙ index_more i nodes n c.loop-i.found.items c.read-node.ensures.node (λ z. let t = w.if-is_leaf.ensures.1 z in cc) inv.regions
      ];
      in_range = elim c.if-is_leaf.branch [
        | then-is_leaf+in_ok-region_at+in_ok-push w ↦
            (let items : c.if-is_leaf.found.items ≡ c.loop-i.found.items ++ w.in_ok-region_at.field-0 ∷ [] = ap (λ v. v.items) w.found-is ∙ w.in_ok-push.ensures.items in
            let here : w.in_ok-region_at.field-0.node.0 < length nodes = (let a : w.in_ok-region_at.field-0.node.0 ≡ i = ap (λ (r : Region). r.node.0) w.in_ok-region_at.ensures in let b = slice_get_within nodes i n c.read-node.ensures.node in omega arith) in
            rw items (All-append (λ (r : Region). r.node.0 < length nodes) c.loop-i.found.items (w.in_ok-region_at.field-0 ∷ []) inv.in_range (All-cons (λ (r : Region). r.node.0 < length nodes) w.in_ok-region_at.field-0 [] here (All-nil (λ (r : Region). r.node.0 < length nodes)))))
        | else-is_leaf w ↦ subst (λ (rs : List Region). All (λ (r : Region). r.node.0 < length nodes) rs) (sym (ap (λ v. v.items) w.found-is)) inv.in_range
      ];
      counted = (let a = inv.counted in let b = c.read-node.ensures.counted in omega arith);
      few = elim c.if-is_leaf.branch [
        | then-is_leaf+in_ok-region_at+in_ok-push w ↦
            (let a : length c.if-is_leaf.found.items ≡ length (c.loop-i.found.items ++ w.in_ok-region_at.field-0 ∷ []) = ap (λ v. length v.items) w.found-is ∙ ap length w.in_ok-push.ensures.items in
            let b = length-append c.loop-i.found.items (w.in_ok-region_at.field-0 ∷ []) in
            let f = inv.few in omega arith)
        | else-is_leaf w ↦ (let a : length c.if-is_leaf.found.items ≡ length c.loop-i.found.items = ap (λ v. length v.items) w.found-is in let f = inv.few in omega arith)
      ];
    }
