use Rattle.std.proofs.Common.{ℕ, [], subst, arith}
use Rattle.std.proofs.lemmas.List.Elements.{All-get_or}
use Rattle.std.proofs.lemmas.Option.{get_or_from_slice_get, slice_get_within}
use Rattle.tq_snapshot.specs.declared.open_index.TableRows.{TableRows}
use Rattle.tq_snapshot.specs.OpenIndex.{AreTableRows}
use Rattle.tq_snapshot.proofs.open_index.OpenIndex.new.Goals as goal

pub returns-clause-index : goal.returns-clause-index
returns-clause-index c =
    let tables = c.in_ok-no_tables.field-0.items in
    record {
      each = λ table rows here.
          let kept = All-get_or (λ (rows : TableRows). (table : ℕ) → AreTableRows [] table rows) tables table rows (slice_get_within tables table rows here) c.in_ok-no_tables.ensures.rows in
          subst (AreTableRows [] table) (get_or_from_slice_get tables table rows rows here) (kept table);
      ordered = λ i j d less last. absurd (omega (arith, last));
      few = omega arith;
    }
