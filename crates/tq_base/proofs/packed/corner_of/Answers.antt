use Rattle.std.proofs.Common.{◌≡◌, ◌≤◌, ◌<◌, ◌+◌, ℕ, List, arith, length, take, get_or, min}
use Rattle.std.specs.Prelude.{All}
use Rattle.std.proofs.lemmas.List.Elements.{All-more}
use Rattle.tq_base.specs.declared.packed.Corner.{Corner}
use Rattle.tq_base.specs.declared.sort_input.SortKey.{SortKey}
use Rattle.tq_base.specs.Packed.{IsAbove}
use Rattle.tq_base.proofs.packed.corner_of.Goals as goal

-- a key above a corner is above a lower one
lower : (old new : Corner) (k : SortKey) → new.prefix ≤ old.prefix → new.start ≤ old.start → IsAbove old k → IsAbove new k
lower old new k prefix start above = record { prefix = omega (arith, above.prefix); start = omega (arith, above.start) }

-- the lesser of the corner and the next key is below all of them
one_more : (old : Corner) (keys : List SortKey) (i : ℕ) (d : SortKey) (prefix start : ℕ) → i < length keys
    → prefix ≡ min old.prefix (get_or keys i d).prefix → start ≡ min old.start (get_or keys i d).start
    → All (IsAbove old) (take i keys) → All (IsAbove (record { prefix = prefix; start = start })) (take (i + 1) keys)
one_more old keys i d prefix start less prefix_is start_is before =
    let new : Corner = record { prefix = prefix; start = start } in
    All-more (IsAbove new) keys i d less
    (λ k e low. lower old new (get_or (take i keys) k e) (omega (arith, prefix_is)) (omega (arith, start_is)) (before k e low))
    (record { prefix = omega (arith, prefix_is); start = omega (arith, start_is) })

pub keys-preserved : goal.keys-preserved
keys-preserved c = one_more c.keys.corner c.args.keys.now c.keys.key-index _ _ _ c.keys-test.true c.min.ensures c.min-in-keys.ensures c.keys.invariant
