use Rattle.std.proofs.Common.{◌≡◌, ◌∙◌, List, ℕ, ◌<◌, ◌+◌, [], ◌∷◌, ◌++◌, ap, sym, refl, arith, append_assoc, drop, get_or, length}
use Rattle.std.proofs.lemmas.List.{append-nil, drop_all, drop_more}
use Rattle.tq_base.specs.Keys.{no_row}
use Rattle.tq_base.specs.declared.fragment.Fragment.{Fragment}
use Rattle.tq_check.specs.declared.key_rows.KeyedRow.{KeyedRow}
use Rattle.tq_check.specs.KeyRows.{keyed, keyed_from}
use Rattle.tq_check.proofs.key_rows.keyed_rows.Goals as goal

-- one more row
more : (rows : List Fragment) (at : ℕ) → at < length rows → keyed_from at (drop at rows) ≡ keyed (get_or rows at no_row) at ∷ keyed_from (at + 1) (drop (at + 1) rows)
unfolding keyed_from
more rows at less = ap (keyed_from at) (drop_more rows at no_row less)

none_left : (at : ℕ) → keyed_from at [] ≡ []
unfolding keyed_from
none_left at = refl

pub places-init : goal.places-init
places-init c = ap (λ (l : List KeyedRow). l ++ keyed_from 0 c.args.rows.now.items) c.in_ok-all.ensures.items

pub places-preserved : goal.places-preserved
places-preserved c =
    let rows = c.args.rows.now.items in
    let at = c.places.place in
    let all = c.places.all.items in
    let left = keyed_from (at + 1) (drop (at + 1) rows) in
    let within : at < length rows = omega (arith, c.places-test.true, c.len.ensures.len) in
    ap (λ (l : List KeyedRow). l ++ left) c.in_ok-push.ensures.items
    ∙ append_assoc all (c.keyed_row.result ∷ []) left
    ∙ ap (λ (row : KeyedRow). all ++ row ∷ left) c.keyed_row.ensures
    ∙ ap (λ (l : List KeyedRow). all ++ l) (sym (more rows at within))
    ∙ c.places.invariant

pub returns : goal.returns
returns c =
    let rows = c.args.rows.now.items in
    let at = c.places.place in
    let all = c.places.all.items in
    let none = drop_all at rows (omega (arith, c.places-test.false, c.len.ensures.len)) in
    sym (append-nil all)
    ∙ ap (λ (l : List KeyedRow). all ++ l) (sym (ap (keyed_from at) none ∙ none_left at))
    ∙ c.places.invariant
