use Rattle.std.proofs.Common.{◌≡◌, ◌∙◌, All, ap, get_or, subst, sym, take}
use Rattle.std.proofs.lemmas.List.{length-take-le, take_all}
use Rattle.tq_base.specs.declared.sort_input.SortKey.{SortKey}
use Rattle.tq_base.specs.declared.sort_input.RunStart.TheVariants.{Unknown}
use Rattle.tq_base.specs.declared.sort_input.Side.TheVariants.{Left}
use Rattle.tq_base.specs.SortInputs.{state_of}
use Rattle.tq_base.specs.TieBreak.{first_text, values_from}
use Rattle.tq_base.proofs.TieBreakLemmas.{from_view, shared_more}
use Rattle.tq_base.proofs.sort_input.SortInput.shared_len.Goals as goal

pub slice_bounds-common_len-end : goal.slice_bounds-common_len-end
slice_bounds-common_len-end c = sym (length-take-le c.keys.len c.text_after-text.result.now c.keys.invariant.within)

pub keys-preserved : goal.keys-preserved
keys-preserved c =
    let s = state_of c.args.self.now in
    shared_more s c.args.place c.args.offset c.args.keys.now c.keys.key-index _ c.text_after-text.result.now c.keys.len c.common_len-len.result
    c.keys-test.true c.keys.invariant.within c.common_len-len.ensures.within c.keys.invariant.same
    (c.common_len-len.ensures.same
    ∙ ap (take c.common_len-len.result) (c.text_after.ensures
    ∙ ap first_text (sym (from_view s c.place_view-view.result (get_or c.args.keys.now c.keys.key-index (record { prefix = 0; start = 0; row = 0; side = Left; run_start = Unknown })) c.args.place c.args.offset c.at-in-keys.result.now c.args.self.now.same c.requires c.place_view-view.ensures c.at-in-keys.ensures))))

pub returns : goal.returns
returns c =
    let P : SortKey → _ = λ (k : SortKey). take c.keys.len (first_text (values_from (state_of c.args.self.now) c.args.place c.args.offset k)) ≡ take c.keys.len c.text_after-text.result.now in
    let all : All P c.args.keys.now = subst (All P) (take_all c.keys.key-index c.args.keys.now c.keys-test.false) c.keys.invariant.same in
    λ i d less j e below. all i d less ∙ sym (all j e below)
