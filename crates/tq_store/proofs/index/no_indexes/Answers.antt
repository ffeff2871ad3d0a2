use Rattle.std.proofs.Common.{◌∷◌, [], ◌∙◌, ◌≤◌, ℕ, length, length-append, ap, subst, sym, arith}
use Rattle.std.specs.Prelude.{All}
use Rattle.std.proofs.lemmas.List.Elements.{All-push, All-get_or}
use Rattle.std.proofs.lemmas.Option.{get_or_from_slice_get, slice_get_within}
use Rattle.tq_base.specs.declared.catalogue.Schema.{Schema}
use Rattle.tq_store.specs.declared.index.Index.{Index}
use Rattle.std.proofs.lemmas.List.{map-append}
use Rattle.tq_store.specs.Index.{IsIndexOf, widths_of}
use Rattle.tq_store.proofs.ReadLemmas.{one_more}
use Rattle.tq_store.proofs.index.no_indexes.Goals as goal

pub tables-preserved : goal.tables-preserved
tables-preserved c =
    let items = c.in_ok-push.ensures.items in
    let len = length-append c.tables.indexes.items (c.in_ok-new.field-0 ∷ []) in
    let before = c.tables.invariant.len in
    let Good = λ (index : Index). (table : ℕ) → IsIndexOf [] table index in
    record {
      len = ap length items ∙ omega (arith, len, before);
      each = subst (All Good) (sym items) (All-push Good c.tables.indexes.items c.in_ok-new.field-0 c.tables.invariant.each c.in_ok-new.ensures.index);
      narrow = subst (All (λ width. width ≤ 4294967295))
          (sym (ap widths_of items ∙ map-append (λ (index : Index). index.kept.width) c.tables.indexes.items (c.in_ok-new.field-0 ∷ [])))
          (All-push (λ width. width ≤ 4294967295) (widths_of c.tables.indexes.items) c.in_ok-new.field-0.kept.width c.tables.invariant.narrow c.in_ok-new.ensures.narrow);
      widths = one_more (λ (index : Index). index.kept.width) (λ (schema : Schema). length schema.columns) c.tables.indexes.items c.push.new.self.items c.in_ok-new.field-0 c.args.tables.now c.tables.table-index c.table-item.result
          c.tables-test.true items c.tables.invariant.widths
          (c.in_ok-new.ensures.width ∙ ap length c.get.ensures ∙ ap (λ (schema : Schema). length schema.columns) c.table-item.is);
    }

pub returns-clause-indexes : goal.returns-clause-indexes
returns-clause-indexes c = record {
  each = λ table index here.
      let kept = All-get_or (λ index. (table : ℕ) → IsIndexOf [] table index) c.tables.indexes.items table index (slice_get_within c.tables.indexes.items table index here) c.tables.invariant.each in
      subst (IsIndexOf [] table) (get_or_from_slice_get c.tables.indexes.items table index index here) (kept table);
}
