use Rattle.std.proofs.Common.{◌≡◌, ◌&&◌, not, ◌<◌, ◌∙◌, ap, length, refl, slice_get, slice_set, Some, subst, sym}
use Rattle.std.specs.BTreeSet.{contains}
use Rattle.std.specs.Ordering.{eq_by_cmp, nat_cmp}
use Rattle.std.proofs.lemmas.Option.{slice_get_read}
use Rattle.tq_snapshot.specs.OpenRows.{set_index}
use Rattle.tq_snapshot.proofs.OpenRowsLemmas.{and-cond, and-yes}
use Rattle.tq_snapshot.proofs.SetLemmas.{changed_in, has_in}
use Rattle.tq_snapshot.proofs.open_rows.OpenRows.remove.Goals as goal

pub returns : goal.returns
returns c = λ k.
    let sets = c.args.self.now.sets.items in
    let old = c.index_mut-set.result.now in
    let new = c.remove.new.self in
    let is = c.set_index_of-place.ensures.value ∙ ap (λ n. set_index n c.args.key) (c.len.ensures ∙ c.args.self.now.sets.ok.0) in
    let less = subst (λ n. c.set_index_of-place.result < n) (c.len.ensures ∙ c.args.self.now.sets.ok.0) c.set_index_of-place.ensures.within in
    let stands = subst (λ n. slice_get sets n ≡ Some old) is (slice_get_read sets (length sets) c.set_index_of-place.result old refl less c.index_mut-set.ensures.value) in
    subst (λ n. has_in (slice_set sets n new) k ≡ (has_in sets k && not (eq_by_cmp nat_cmp c.args.key k))) (sym is)
    (changed_in sets c.args.key old new (λ b t. b && not t) stands (λ q. c.remove.ensures.updates.0 q ∙ and-cond (eq_by_cmp nat_cmp c.args.key q) (contains nat_cmp old q)) and-yes k)
