use Rattle.std.proofs.Common.{◌≡◌, ℕ, Bool, length, rules, sym, ap, vec_len, ◌∙◌, subst}
use Rattle.std.specs.Global.{Vec}
use Rattle.std.proofs.lemmas.List.{length-map, map_push}
use Rattle.tq_event.specs.Projection.{wanted_of, wanted_lists}
use Rattle.tq_exec.specs.ColumnUse.{AreNamed, plan_names}
use Rattle.tq_exec.proofs.ColumnUseLemmas.{tables_more}
use Rattle.tq_exec.proofs.required.required_columns.Goals as goal

pub tables-preserved : goal.tables-preserved
tables-preserved c table =
    let places = c.in_ok-places.places in
    let named : ℕ → ℕ → Bool = plan_names places.left.items places.right.items c.args.plan.now in
    let before = c.tables.wanted.items in
    let columns : Vec Bool = c.in_ok-columns_of.field-0 in
    let many : vec_len c.tables.wanted ≡ length before = search rules in
    let number : c.len.result ≡ length (wanted_lists before) = c.len.ensures ∙ many ∙ sym (length-map before (λ (w : Vec Bool). w.items)) in
    subst (λ lists. AreNamed (named table) (wanted_of lists table)) (sym (ap wanted_lists c.in_ok-push.ensures.items ∙ map_push (λ (w : Vec Bool). w.items) before columns))
    (tables_more named (wanted_lists before) columns.items c.tables.invariant (subst (λ n. AreNamed (named n) columns.items) number c.in_ok-columns_of.ensures) table)
