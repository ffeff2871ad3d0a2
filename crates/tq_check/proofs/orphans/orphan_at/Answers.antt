use Rattle.std.proofs.Common.{◌≡◌, ◌∙◌, Some, ap, sym, arith}
use Rattle.std.specs.Prelude.{slice_index_or}
use Rattle.std.specs.List.{list_any}
use Rattle.std.specs.Option.{option_map}
use Rattle.tq_base.specs.Keys.{key_values, no_row}
use Rattle.tq_base.specs.SortInputs.{state_of}
use Rattle.tq_base.specs.declared.period.Period.{Period}
use Rattle.tq_check.specs.Covers.{is_covering}
use Rattle.tq_check.specs.Orphans.{linked_rows, missing_in, missing_of, orphan}
use Rattle.tq_check.proofs.LinkLemmas.{misses, start_is}
use Rattle.tq_check.proofs.orphans.orphan_at.Goals as goal

pub missing_of-requires-clause-some : goal.missing_of-requires-clause-some
missing_of-requires-clause-some c =
    let s = state_of c.args.sort_input.now in
    let place = c.args.place in
    let start = start_is s c.args.reference.now c.requires.column c.requires.parent_column c.child_key-key.result place c.child_key-key.ensures.key c.child_key-key.ensures.side c.child_key-key.ensures.row in
    let ordered = (slice_index_or s.left place no_row).period.ordered in
    let end : c.number-end.result ≡ (slice_index_or s.left place no_row).period.end = c.number-end.ensures.value ∙ ap (λ (p : Period). p.end) (c.period.ensures no_row) in
    omega (arith, start, ordered, end)

pub returns-in-Some : goal.returns-in-Some
returns-in-Some c =
    let s = state_of c.args.sort_input.now in
    let place = c.args.place in
    let key = c.child_key-key.result in
    let covers = c.args.covers.now in
    let row = slice_index_or s.left place no_row in
    let start : key.start ≡ row.period.start = start_is s c.args.reference.now c.requires.column c.requires.parent_column key place c.child_key-key.ensures.key c.child_key-key.ensures.side c.child_key-key.ensures.row in
    let end : c.number-end.result ≡ row.period.end = c.number-end.ensures.value ∙ ap (λ (p : Period). p.end) (c.period.ensures no_row) in
    let missing : c.missing_of.result ≡ missing_of (linked_rows s.left s.right c.args.reference.now) row =
    c.missing_of.ensures
    ∙ ap (missing_in (λ at. list_any (is_covering s (key_values s key) at) covers) key.start) end
    ∙ misses s c.args.reference.now c.requires.column c.requires.parent_column key place c.child_key-key.ensures.key c.child_key-key.ensures.side c.child_key-key.ensures.row covers c.requires.covers in
    (λ i. Some (record { place = c.child_key-key.ensures.row i; start = start i; end = end i; missing = c.in-Some.missing }))
    ∙ ap (option_map (orphan row place)) (sym c.in-Some.is ∙ missing)

pub returns-in-None : goal.returns-in-None
returns-in-None c =
    let s = state_of c.args.sort_input.now in
    let place = c.args.place in
    let key = c.child_key-key.result in
    let covers = c.args.covers.now in
    let row = slice_index_or s.left place no_row in
    let end : c.number-end.result ≡ row.period.end = c.number-end.ensures.value ∙ ap (λ (p : Period). p.end) (c.period.ensures no_row) in
    let missing : c.missing_of.result ≡ missing_of (linked_rows s.left s.right c.args.reference.now) row =
    c.missing_of.ensures
    ∙ ap (missing_in (λ at. list_any (is_covering s (key_values s key) at) covers) key.start) end
    ∙ misses s c.args.reference.now c.requires.column c.requires.parent_column key place c.child_key-key.ensures.key c.child_key-key.ensures.side c.child_key-key.ensures.row covers c.requires.covers in
    ap (option_map (orphan row place)) (sym c.in-None.is ∙ missing)
