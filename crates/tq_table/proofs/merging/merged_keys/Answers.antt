use Rattle.std.proofs.Common.{◌≡◌, Bool, List, map, refl, sym, ap, ◌∙◌, rules, true}
use Rattle.std.specs.Prelude.{All, IsPermutation}
use Rattle.std.specs.Global.{Vec}
use Rattle.std.specs.Ordering.{is_lt}
use Rattle.std.proofs.lemmas.Iterator.Adapters.{YieldsList-from_vec}
use Rattle.std.proofs.lemmas.List.{map-id}
use Rattle.std.proofs.lemmas.List.Elements.{All-nil}
use Rattle.std.proofs.lemmas.List.Sorted.{ranks_by}
use Rattle.std.proofs.lemmas.Result.{IfOk-weaker}
use Rattle.itertools.proofs.AdaptorLemmas.{items_from_whole_run}
use Rattle.itertools.specs.KMerge.{joined_lists}
use Rattle.tq_base.specs.declared.sort_input.SortKey.{SortKey}
use Rattle.tq_base.specs.declared.sort_input.Side.TheVariants as side
use Rattle.tq_base.specs.SortKeyLaws.{key_cmp_total}
use Rattle.tq_base.specs.SortInputs.{state_of}
use Rattle.tq_base.specs.Keys.{held, held_on, key_cmp, IsFresh, SortInputState}
use Rattle.tq_table.specs.Groups.{AreByValues}
use Rattle.tq_table.specs.Merging.{cut_by}
use Rattle.tq_table.proofs.MergeLemmas.{all_gave, gathered_by_values, gathered_joined, gathered_sorted, is_by_values, lists_give}
use Rattle.tq_table.proofs.merging.merged_keys.Goals as goal

abbrev of : Vec SortKey → List SortKey
of list = list.items

pub returns : goal.returns
returns c =
    let s : SortInputState = state_of c.args.sort_input.now in
    let width = c.args.sort_input.now.left.now.width in
    let lens = c.args.lens.now in
    let keys = c.add_keys.new.keys.items in
    let are : map (held s) keys ≡ held_on side.Left s.left = rw c.new-keys.ensures.items at c.in_ok-add_keys.ensures.rows in
    let fresh : All (IsFresh s) keys = c.in_ok-add_keys.ensures.keys (rw c.new-keys.ensures.items (All-nil (IsFresh s))) in
    let lists = c.in_ok-lists.lists.items in
    let cut : map of lists ≡ cut_by lens keys = c.in_ok-lists.ensures ∙ ap (cut_by lens) c.deref.ensures.value in
    let road = YieldsList-from_vec {s = c.into_iter.result} lists c.into_iter.ensures.rest (c.into_iter.ensures.len ∙ c.in_ok-lists.lists.ok.0) in
    let lt : SortKey → SortKey → Bool = λ x y. is_lt (key_cmp s x y) in
    let given = c.in_ok-merged.ensures.items in
    let ordered = c.in_ok-merged.ensures.in_order in
    let given_is = sym (map-id given.0.items) ∙ items_from_whole_run road given.0 given.1 given.2 in
    let ordered_is = sym (map-id ordered.0.items) ∙ items_from_whole_run road ordered.0 ordered.1 ordered.2 in
    let sources = lists_give _ (λ list it is. (is.0, is.1 ∙ list.ok.0)) lists in
    let all = given.3 (map of lists) (rw given_is sources) in
    let rising = ordered.3 lt (λ x y r f k. search rules) (ranks_by (key_cmp_total s) (λ (k : SortKey). k)) (map of lists) (rw ordered_is sources)
    (rw cut (gathered_sorted s width keys c.requires.columns c.width.ensures.rows are fresh lens c.requires.in_order)) in
    let joined : joined_lists (map of lists) ≡ keys = ap joined_lists cut ∙ gathered_joined s width keys c.requires.columns c.width.ensures.rows are fresh lens c.requires.whole in
    IfOk-weaker c.collect.result _ (λ merged. AreByValues s merged.items)
    (λ v ran. let gave = all ran.0 true (ran.1.0, ran.1.1, λ _. ran.1.2 tt) in
    let same : IsPermutation keys ran.0 = all_gave (joined_lists (map of lists)) keys ran.0 gave.0 joined (gave.2 refl) gave.1 in
    is_by_values s v.items ran.0 ran.2.0 (gathered_by_values s width keys c.requires.columns c.width.ensures.rows are fresh ran.0 same (rising ran.0 true (ran.1.0, ran.1.1, λ _. ran.1.2 tt))))
    c.collect.ensures.ran
