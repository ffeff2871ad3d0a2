-- Keys that are packed, sorted and unpacked are the same keys, sorted.
use Rattle.std.proofs.Common.{◌≡◌, ◌≤◌, ◌<◌, ◌+◌, ◌-◌, ◌*◌, ◌/◌, ◌%◌, ◌^◌, ℕ, false, List, [], ◌∷◌, ◌++◌, arith, rules, refl, sym, ap, subst, ◌∙◌, length, take, drop, map, get_or}
use Rattle.std.specs.Prelude.{All, IsPermutation, IsSorted, IsSortedByKey}
use Rattle.std.specs.Ordering.{is_lt, nat_cmp, ordering_then}
use Rattle.std.proofs.lemmas.Bool.{OnTrue_at}
use Rattle.std.proofs.lemmas.Bool.Decides.{nat_tests}
use Rattle.std.proofs.lemmas.List.{get_or-map, length-map, take_at}
use Rattle.std.proofs.lemmas.List.Elements.{All-head, All-tail}
use Rattle.std.proofs.lemmas.List.Sorted.{answers_always, All-permutation, IsPermutation-map}
use Rattle.std.proofs.lemmas.Map.Keys.{ge_from_not_lt}
use Rattle.tq_base.specs.declared.packed.Corner.{Corner}
use Rattle.tq_base.specs.declared.packed.Packed.{Packed}
use Rattle.tq_base.specs.declared.sort_input.SortKey.{SortKey}
use Rattle.tq_base.specs.Keys.{prefix_start_cmp}
use Rattle.tq_base.specs.Packed.{pack, unpack, IsNear, IsOfKey}
use Rattle.tq_base.proofs.packed.sort_packed.Goals as goal

-- prefix and start are recovered from the packed number
rank_back : (r k s : ℕ) → r ≤ k → s < 2 ^ 32 → r + ((k - r) * 2 ^ 32 + s) / 2 ^ 32 ≡ k
rank_back r k s above near = omega arith

start_back : (n s k : ℕ) → s ≤ k → k - s < 2 ^ 32 → s + (n * 2 ^ 32 + (k - s)) % 2 ^ 32 ≡ k
start_back n s k above near = omega arith

-- a key that is packed and unpacked is the key
back : (corner : Corner) (k : SortKey) → IsNear corner k → unpack corner (pack corner k) ≡ k
back corner k near =
    let prefix : (unpack corner (pack corner k)).prefix ≡ k.prefix = rank_back corner.prefix k.prefix (k.start - corner.start) near.above.prefix near.start in
    let start : (unpack corner (pack corner k)).start ≡ k.start = start_back (k.prefix - corner.prefix) corner.start k.start near.above.start near.start in
    ap (λ r. let h : SortKey = record { prefix = r; start = (unpack corner (pack corner k)).start; row = k.row; side = k.side; run_start = k.run_start } in h) prefix
    ∙ ap (λ s. let h : SortKey = record { prefix = k.prefix; start = s; row = k.row; side = k.side; run_start = k.run_start } in h) start

-- so are all keys
all_back : (corner : Corner) (keys : List SortKey) → All (IsNear corner) keys → map (unpack corner) (map (pack corner) keys) ≡ keys
all_back corner [] near = refl
all_back corner (k ∷ keys) near =
    ap (λ h. h ∷ map (unpack corner) (map (pack corner) keys)) (back corner k (All-head (IsNear corner) k keys near))
    ∙ ap (λ l. k ∷ l) (all_back corner keys (All-tail (IsNear corner) k keys near))

-- they are the same keys in any order of the packed ones
same_keys : (corner : Corner) (keys : List SortKey) (sorted : List Packed) → All (IsNear corner) keys → IsPermutation (map (pack corner) keys) sorted → IsPermutation keys (map (unpack corner) sorted)
same_keys corner keys sorted near moved =
    subst (λ l. IsPermutation l (map (unpack corner) sorted)) (all_back corner keys near) (IsPermutation-map (unpack corner) (map (pack corner) keys) sorted moved)

-- a prefix that is not less decides, or if the prefixes are equal a start that is not less
by_parts : (x y u v : ℕ) → y ≤ x → (x ≡ y → v ≤ u) → is_lt (ordering_then (nat_cmp x y) (nat_cmp u v)) ≡ false
by_parts x y u v le then = grind (arith, nat_tests)

-- a key does not come before a key with a number that is not greater
not_below : (corner : Corner) (p q : Packed) → is_lt (nat_cmp q.order p.order) ≡ false → is_lt (prefix_start_cmp (unpack corner q) (unpack corner p)) ≡ false
not_below corner p q rise =
    let le : p.order ≤ q.order = ge_from_not_lt q.order p.order rise in
    by_parts (unpack corner q).prefix (unpack corner p).prefix (unpack corner q).start (unpack corner p).start (omega arith) (λ same. omega arith)

-- if the numbers are in order, the keys are
in_order : (corner : Corner) (all : List Packed) → IsSortedByKey (λ (p : Packed). p.order) nat_cmp all → IsSorted prefix_start_cmp (map (unpack corner) all)
in_order corner all sorted k d low high =
    let none : Packed = pack corner d in
    let less : k + 1 < length all = omega (arith, high, length-map all (unpack corner)) in
    let p : Packed = get_or all k none in
    let q : Packed = get_or all (k + 1) none in
    ap (λ x. is_lt (prefix_start_cmp x (get_or (map (unpack corner) all) k d))) (get_or-map (unpack corner) all (k + 1) none d less)
    ∙ ap (λ y. is_lt (prefix_start_cmp (unpack corner q) y)) (get_or-map (unpack corner) all k none d (omega (arith, less)))
    ∙ not_below corner p q (sorted k none low less)

pub unpack_all-requires-clause-all : goal.unpack_all-requires-clause-all
unpack_all-requires-clause-all c =
    let corner = c.corner_of-corner.result in
    subst (All (IsOfKey corner)) (sym c.deref-4.ensures.value) (All-permutation (IsOfKey corner) _ _ c.sort_unstable_by_key.ensures.permutation c.in-Some.ensures.of_keys)

-- the list as it is written back
written : (keys new : List SortKey) (len : ℕ) → len ≡ length new → take len (new ++ drop (length new) keys) ≡ new
written keys new len is = take_at new (drop (length new) keys) len (sym is)

pub returns-clause-same : goal.returns-clause-same
returns-clause-same c =
    let corner = c.corner_of-corner.result in
    let keys = c.args.keys.now.items in
    let near : All (IsNear corner) keys = subst (All (IsNear corner)) c.deref-2.ensures.value (OnTrue_at c.if-not-are_near.false c.are_near.ensures) in
    let packed : c.in-Some.all.items ≡ map (pack corner) keys = c.in-Some.ensures.packed ∙ ap (map (pack corner)) c.deref-3.ensures.value in
    let moved : IsPermutation (map (pack corner) keys) c.deref-4.result.now =
    subst (λ l. IsPermutation l c.deref-4.result.now) packed (subst (IsPermutation c.in-Some.all.items) (sym c.deref-4.ensures.value) c.sort_unstable_by_key.ensures.permutation) in
    let len : c.args.keys.now.len ≡ length c.unpack_all.new.keys = sym c.deref_mut.ensures.len ∙ sym c.unpack_all.auto.keys in
    subst (IsPermutation keys) (sym (written keys c.unpack_all.new.keys c.args.keys.now.len len ∙ c.unpack_all.ensures)) (same_keys corner keys c.deref-4.result.now near moved)

pub returns-clause-order : goal.returns-clause-order
returns-clause-order c =
    let corner = c.corner_of-corner.result in
    let len : c.args.keys.now.len ≡ length c.unpack_all.new.keys = sym c.deref_mut.ensures.len ∙ sym c.unpack_all.auto.keys in
    let sorted : IsSortedByKey (λ (p : Packed). p.order) nat_cmp c.deref-4.result.now =
    subst (IsSortedByKey (λ (p : Packed). p.order) nat_cmp) (sym c.deref-4.ensures.value) (c.sort_unstable_by_key.ensures.sorted (λ (p : Packed). p.order) (answers_always _ _ _ (λ f a r g h. search rules))) in
    subst (IsSorted prefix_start_cmp) (sym (written c.args.keys.now.items c.unpack_all.new.keys c.args.keys.now.len len ∙ c.unpack_all.ensures)) (in_order corner c.deref-4.result.now sorted)
