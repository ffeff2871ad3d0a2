use Rattle.std.proofs.Common.{◌≡◌, ◌∙◌, List, true, false, cond, ◌∷◌, [], ◌++◌, ap, sym, append_assoc}
use Rattle.tq_base.specs.SortInputs.{state_of}
use Rattle.tq_base.specs.declared.sort_input.SortKey.{SortKey}
use Rattle.tq_base.specs.Keys.{SortInputState}
use Rattle.tq_check.specs.Covers.{continues, cover_of, covers_after, extended}
use Rattle.tq_check.specs.declared.covers.Cover.{Cover}
use Rattle.tq_check.proofs.CoverLemmas.{one_after}
use Rattle.tq_check.proofs.covers.add_key.Goals as goal

goes_on : (s : SortInputState) (cover : Cover) (key : SortKey) (rest : List SortKey) → continues s cover key ≡ true → covers_after s (extended s cover key) rest ≡ covers_after s cover (key ∷ rest)
goes_on s cover key rest is = sym (one_after s cover key rest ∙ ap (λ b. cond b (covers_after s (extended s cover key) rest) (cover ∷ covers_after s (cover_of s key) rest)) is)

begins : (s : SortInputState) (cover : Cover) (key : SortKey) (rest : List SortKey) → continues s cover key ≡ false → cover ∷ covers_after s (cover_of s key) rest ≡ covers_after s cover (key ∷ rest)
begins s cover key rest is = sym (one_after s cover key rest ∙ ap (λ b. cond b (covers_after s (extended s cover key) rest) (cover ∷ covers_after s (cover_of s key) rest)) is)

pub returns-then-continues : goal.returns-then-continues
returns-then-continues c rest =
    let s = state_of c.args.sort_input.now in
    ap (λ (l : List Cover). c.args.covers.now.items ++ l)
    (ap (λ (next : Cover). covers_after s next rest) c.extended.ensures ∙ goes_on s c.args.cover.now c.args.key.now rest (sym c.continues.ensures ∙ c.if-continues.true))

pub returns : goal.returns
returns c rest =
    let s = state_of c.args.sort_input.now in
    ap (λ (l : List Cover). l ++ covers_after s c.cover_of.result rest) c.in_ok-push.ensures.items
    ∙ append_assoc c.args.covers.now.items (c.args.cover.now ∷ []) (covers_after s c.cover_of.result rest)
    ∙ ap (λ (l : List Cover). c.args.covers.now.items ++ l)
    (ap (λ (next : Cover). c.args.cover.now ∷ covers_after s next rest) c.cover_of.ensures ∙ begins s c.args.cover.now c.args.key.now rest (sym c.continues.ensures ∙ c.if-continues.false))
