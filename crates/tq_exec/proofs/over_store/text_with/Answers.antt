use Rattle.std.proofs.Common.{◌≡◌, ◌∙◌, ℕ, Option, ap, refl, subst, sym}
use Rattle.std.specs.Global.{Vec}
use Rattle.std.specs.Prelude.{IfSome}
use Rattle.std.proofs.lemmas.Result.{IfOk-weaker}
use Rattle.tq_base.specs.declared.catalogue.Catalogue.{Catalogue}
use Rattle.tq_base.specs.RowLists.{RowList}
use Rattle.tq_event.specs.Tables.{lists_of}
use Rattle.tq_plan.specs.ValidPlans.{IsPlanOver}
use Rattle.tq_agg.specs.Grouping.{Row}
use Rattle.tq_exec.specs.Answers.{as_of, in_tables, times_at}
use Rattle.tq_exec.specs.Fitting.{AreAllFitting}
use Rattle.tq_exec.proofs.over_store.text_with.Goals as goal

pub read_tables-requires-clause-over : goal.read_tables-requires-clause-over
read_tables-requires-clause-over g c κs within = c.queries_are_valid.ensures c.args.db.now.catalogue c.args.plan.now c.requires.plan

pub invariant_of-all : goal.invariant_of-all
invariant_of-all g c =
    let catalogue = c.args.db.now.catalogue in
    let fit = subst (λ (o : Option (Vec RowList)). IfSome o (λ tables. AreAllFitting catalogue (lists_of tables.items))) c.in-Some.is c.in_ok-tables.ensures.fit in
    record {
      fit =
          subst (λ (k : Catalogue). AreAllFitting k (lists_of c.deref.result.now)) (sym c.catalogue.ensures)
          (subst (λ l. AreAllFitting catalogue (lists_of l)) (sym c.deref.ensures.value) fit);
    }

pub render-requires-clause-plan : goal.render-requires-clause-plan
render-requires-clause-plan g c κs within = subst (λ (k : Catalogue). IsPlanOver k c.args.plan.now) (sym c.catalogue.ensures) c.requires.plan

pub returns-in-Some : goal.returns-in-Some
returns-in-Some g c =
    let db = c.args.db.now in
    let plan = c.args.plan.now in
    let same : (v : Row) (t : ℕ) → times_at (in_tables (lists_of c.deref.result.now)) plan v t ≡ times_at (as_of db.events c.args.n) plan v t =
    λ v t.
    ap (λ l. times_at (in_tables (lists_of l)) plan v t) c.deref.ensures.value
    ∙ subst (λ (o : Option (Vec RowList)). IfSome o (λ tables. times_at (in_tables (lists_of tables.items)) plan v t ≡ times_at (as_of db.events c.args.n) plan v t)) c.in-Some.is (c.in_ok-tables.ensures.same v t) in
    IfOk-weaker c.render.result _ _
    (λ rendered is. record {
      table = is.table;
      is = record {
        columns = is.is.columns;
        layers = record {
          ordered = is.is.layers.ordered;
          coalesced = is.is.layers.coalesced;
          counted = λ v t. is.is.layers.counted v t ∙ same v t;
        };
      };
      rows = is.rows;
      text = is.text;
    })
    c.render.ensures

pub answer_over-requires : goal.answer_over-requires
answer_over-requires g c κs = ((refl, tt), c.requires.plan)

pub returns : goal.returns
returns g c =
    IfOk-weaker c.render_table.result _ _
    (λ rendered is. record {
      table = c.in_ok-table.table;
      is = c.in_ok-table.ensures;
      rows = is.1;
      text = is.0;
    })
    c.render_table.ensures
