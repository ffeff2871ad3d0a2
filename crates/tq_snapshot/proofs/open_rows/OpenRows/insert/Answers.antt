use Rattle.std.proofs.Common.{Err, Ok, Result, ◌≡◌, ◌<◌, ◌∙◌, ap, length, refl, slice_get, slice_set, Some, subst, sym}
use Rattle.std.specs.Prelude.{OnErr, ◌||◌}
use Rattle.std.specs.BTreeMap.{is_at}
use Rattle.std.specs.BTreeSet.{contains}
use Rattle.std.specs.List.{list_any}
use Rattle.std.specs.Ordering.{eq_by_cmp, nat_cmp}
use Rattle.std.proofs.lemmas.Option.{slice_get_read}
use Rattle.tq_snapshot.specs.OpenRows.{set_index}
use Rattle.tq_snapshot.proofs.OpenRowsLemmas.{or-cond, or-false}
use Rattle.tq_snapshot.proofs.SetLemmas.{changed_in, has_in}
use Rattle.tq_snapshot.proofs.open_rows.OpenRows.insert.Goals as goal

on_err_if : {T E P : Type 0} (r : Result T E) → P → OnErr r P
on_err_if (Ok x) p = tt
on_err_if (Err e) p = p

pub returns-clause-ok : goal.returns-clause-ok
returns-clause-ok c = λ k.
    let sets = c.create_sets.new.self.sets.items in
    let old = c.index_mut-set.result.now in
    let new = c.insert.new.self in
    let is = c.set_index_of-place.ensures.value ∙ ap (λ n. set_index n c.args.key) (c.len.ensures ∙ c.create_sets.new.self.sets.ok.0) in
    let less = subst (λ n. c.set_index_of-place.result < n) (c.len.ensures ∙ c.create_sets.new.self.sets.ok.0) c.set_index_of-place.ensures.within in
    let stands = subst (λ n. slice_get sets n ≡ Some old) is (slice_get_read sets (length sets) c.set_index_of-place.result old refl less c.index_mut-set.ensures.value) in
    subst (λ n. has_in (slice_set sets n new) k ≡ (has_in sets k || eq_by_cmp nat_cmp c.args.key k)) (sym is)
    (changed_in sets c.args.key old new (λ b t. b || t) stands (λ q. c.in_ok-insert.ensures.updates.0 q ∙ or-cond (eq_by_cmp nat_cmp c.args.key q) (contains nat_cmp old q)) or-false k)
    ∙ ap (λ b. b || eq_by_cmp nat_cmp c.args.key k) (c.create_sets.ensures.same k)

pub returns-in_err-insert-clause-err : goal.returns-in_err-insert-clause-err
returns-in_err-insert-clause-err c = on_err_if c.from_residual-in_err-insert.result (λ k.
    let sets = c.create_sets.new.self.sets.items in
    let old = c.index_mut-set.result.now in
    let new = c.insert.new.self in
    let is = c.set_index_of-place.ensures.value ∙ ap (λ n. set_index n c.args.key) (c.len.ensures ∙ c.create_sets.new.self.sets.ok.0) in
    let less = subst (λ n. c.set_index_of-place.result < n) (c.len.ensures ∙ c.create_sets.new.self.sets.ok.0) c.set_index_of-place.ensures.within in
    let stands = subst (λ n. slice_get sets n ≡ Some old) is (slice_get_read sets (length sets) c.set_index_of-place.result old refl less c.index_mut-set.ensures.value) in
    subst (λ n. has_in (slice_set sets n new) k ≡ has_in sets k) (sym is)
    (changed_in sets c.args.key old new (λ b t. b) stands (λ q. ap (list_any (is_at (nat_cmp q))) c.in_err-insert.ensures.err) (λ b. refl) k)
    ∙ c.create_sets.ensures.same k)
