use Rattle.std.proofs.Common.{inl, inr, ◌≡◌, ◌+◌, ◌++◌, ◌∷◌, [], ◌∙◌, ap, arith, get_or, length, length-append, pos, rules, sym, to_z, of_z, w64}
use Rattle.std.proofs.lemmas.Bool.{cases_lt}
use Rattle.std.proofs.lemmas.List.{get_or_append_left, get_or_push}
use Rattle.tq_base.specs.RowValues.{number_of, value_at}
use Rattle.tq_base.specs.Relations.{values_at_number}
use Rattle.tq_base.proofs.ColumnLemmas.{column_here}
use Rattle.tq_agg.proofs.summands.weights_in.Goals as goal

pub rows-preserved : goal.rows-preserved
rows-preserved c =
    let old = c.rows.weights.items in
    let items = c.args.rows.now.items in
    let column = c.args.column in
    let number : c.number_of.result ≡ number_of (value_at (values_at_number items c.rows.row) column) =
    c.number_of.ensures ∙ ap number_of (c.value.ensures ∙ ap (λ l. value_at l c.rows.row) c.column-values.ensures ∙ column_here items column c.rows.row) in
    let weight : to_z w64 (of_z w64 c.in-Ok.weight) ≡ c.number_of.result = search rules in
    let put : c.push.new.self.items ≡ old ++ c.number_of.result ∷ [] = c.in_ok-push-in-Ok.ensures.items ∙ ap (λ n. old ++ n ∷ []) weight in
    record {
      many = search rules;
      each = λ row less.
          let grown : length c.push.new.self.items ≡ length old + 1 = ap length put ∙ length-append old (c.number_of.result ∷ []) in
          ap (λ l. get_or l row (pos 0)) put ∙ elim (cases_lt row (length old)) [
            | inl within ↦ get_or_append_left old (c.number_of.result ∷ []) (pos 0) row within ∙ c.rows.invariant.each row within
            | inr past ↦
                let last : length old ≡ row = omega (arith, past, less, grown) in
                let here : c.rows.row ≡ row = sym c.rows.invariant.many ∙ last in
                get_or_push old c.number_of.result (pos 0) row last ∙ number ∙ ap (λ k. number_of (value_at (values_at_number items k) column)) here
          ];
    }
