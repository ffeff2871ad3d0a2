use Rattle.std.proofs.Common.{◌∙◌, List, ◌+◌, ◌++◌, ap, sym, drop}
use Rattle.std.proofs.lemmas.List.{drop_all, drop_more}
use Rattle.tq_base.specs.SortInputs.{state_of}
use Rattle.tq_base.specs.declared.sort_input.SortKey.{SortKey}
use Rattle.tq_check.specs.Covers.{covers_after}
use Rattle.tq_check.specs.declared.covers.Cover.{Cover}
use Rattle.tq_check.proofs.CoverLemmas.{none_after}
use Rattle.tq_check.proofs.SortKeyLemmas.{end_key}
use Rattle.tq_check.proofs.covers.covers_after.Goals as goal

pub keys-init : goal.keys-init
keys-init c =
    let s = state_of c.args.sort_input.now in
    ap (λ (l : List Cover). l ++ covers_after s c.cover_of-last.result c.args.rest.now) c.new-covers.ensures.items
    ∙ ap (λ (cover : Cover). covers_after s cover c.args.rest.now) c.cover_of-last.ensures

pub keys-preserved : goal.keys-preserved
keys-preserved c =
    let s = state_of c.args.sort_input.now in
    let rest = c.args.rest.now in
    let at = c.keys.key-index in
    c.in_ok-last.ensures (drop (at + 1) rest)
    ∙ ap (λ (l : List SortKey). c.keys.covers.items ++ covers_after s c.keys.last l) (sym (drop_more rest at end_key c.keys-test.true))
    ∙ c.keys.invariant

pub returns : goal.returns
returns c =
    let s = state_of c.args.sort_input.now in
    let left = ap (covers_after s c.keys.last) (drop_all c.keys.key-index c.args.rest.now c.keys-test.false) ∙ none_after s c.keys.last in
    c.in_ok-push.ensures.items ∙ ap (λ (l : List Cover). c.keys.covers.items ++ l) (sym left) ∙ c.keys.invariant
