use Rattle.std.proofs.Common.{◌≡◌, ◌∙◌, [], ◌∷◌, ◌++◌, List, ap, arith, length}
use Rattle.tq_event.specs.declared.event.Event.{Event}
use Rattle.tq_store.specs.Index.{columns_of}
use Rattle.tq_store.proofs.db.Db.new.Goals as goal

no_event : (before : List Event) (event : Event) (after : List Event) → [] ≡ before ++ event ∷ after → ⊥
no_event [] event after is = cc
no_event (e ∷ before) event after is = cc

pub invariant_of-result : goal.invariant_of-result
invariant_of-result c =
    let indexes = c.in_ok-indexes.ensures in
    rw (c.new.ensures.items)
    (record {
      db = record {
        history = λ before event after is. absurd (no_event before event after is);
        ordered = λ i j d le less. absurd (omega (arith, less));
        few = omega arith;
        tables = indexes.len ∙ ap length c.get.ensures;
        widths = indexes.widths ∙ ap columns_of c.get.ensures;
        indexed = indexes.indexes;
      };
      stored = record {
        few = omega arith;
        narrow = indexes.narrow;
        each = λ i e here. absurd (cc);
      };
    })
