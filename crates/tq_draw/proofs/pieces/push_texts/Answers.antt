use Rattle.std.proofs.Common.{◌≡◌, ◌∙◌, ◌++◌, ◌∷◌, [], ℕ, List, ap, append-nil, append_assoc, length, sym}
use Rattle.std.specs.Global.{Vec}
use Rattle.std.specs.List.{flat_map}
use Rattle.std.specs.Vec.Iter.{into_iter_items}
use Rattle.std.proofs.lemmas.List.{flat_map_more, nil_from_length}
use Rattle.tq_draw.proofs.pieces.push_texts.Goals as goal

pub texts-preserved : goal.texts-preserved
texts-preserved c =
    let text = c.args.text.now.items in
    let is = ap (λ l. c.texts.yielded ++ l) (sym c.in-Some.ensures.steps.0) ∙ c.texts.invariant.reads in
    record {
      reads = append_assoc c.texts.yielded (c.in-Some.one ∷ []) (into_iter_items c.next.new.self) ∙ is;
      text = c.in_ok-extend_from_slice.ensures.items
          ∙ ap (λ (l : List ℕ). l ++ c.deref.result.now) c.texts.invariant.text
          ∙ ap (λ (l : List ℕ). (text ++ flat_map (λ (one : Vec ℕ). one.items) c.texts.yielded) ++ l) c.deref.ensures.value
          ∙ flat_map_more (λ (one : Vec ℕ). one.items) text c.texts.yielded c.in-Some.one;
    }

pub returns : goal.returns
returns c =
    let rest = into_iter_items c.texts.one-iterator in
    let none : length rest ≡ 0 = sym c.texts.one-iterator.rest.ok.0 ∙ c.in-None.ensures.steps.0 in
    let all : c.texts.yielded ≡ c.args.texts.items = sym (append-nil c.texts.yielded) ∙ ap (λ l. c.texts.yielded ++ l) (sym (nil_from_length rest none)) ∙ c.texts.invariant.reads in
    c.texts.invariant.text ∙ ap (λ l. c.args.text.now.items ++ flat_map (λ (one : Vec ℕ). one.items) l) all
