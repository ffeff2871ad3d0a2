-- A leaf's entries are edited at one key, and that key's life changes from the version on.
use Rattle.std.proofs.Common.{◌≡◌, ◌≢◌, ℕ, ◌+◌, ◌<◌, ◌≤◌, ◌⊎◌, inl, inr, List, [], ◌∷◌, ◌++◌, Bool, true, false, cond, not, ◌&&◌, length, get_or, set, map, ap, refl, sym, ◌∙◌, subst, arith, count_by, nat_lt, nat_le, nat_eq, slice_get, Some}
use Rattle.std.specs.Prelude.{All}
use Rattle.std.proofs.lemmas.Bool.Decides.{nat_tests}
use Rattle.std.proofs.lemmas.Option.{get_or_from_slice_get, slice_get_within}
use Rattle.std.proofs.lemmas.List.Elements.{All-append, All-map, All-weaker, All-nil, All-head, All-tail}
use Rattle.std.proofs.lemmas.List.Sums.{sum_by-set, sum_by-append, sum_by-cons}
use Rattle.tq_mvbt.specs.declared.entry.Entry.{Entry}
use Rattle.tq_mvbt.specs.NodeState.{NodeState}
use Rattle.tq_mvbt.specs.Points.{now, within, holds, covers, is_live, with_end}
use Rattle.tq_mvbt.specs.Shape.{top, tally, at_point, with_life, Tiles, IsRow, IsBranch, IsPlaced, IsNode, IsForest, IsFound}
use Rattle.tq_mvbt.specs.Steps.{edited, Changes}
use Rattle.tq_arena.specs.Contents.{Contents}
use Rattle.tq_mvbt.proofs.Lists.{all_at, all_both, count_alike}
use Rattle.tq_mvbt.proofs.Places.{at_set_same, at_set_other, all_from_places}
use Rattle.tq_mvbt.proofs.Losses.{is_beside, covers-ended_before, covers-ended_after}
use Rattle.tq_mvbt.proofs.Ending.{unique}

-- an entry of the key that begins at the version and lives
pub record IsNewRow (version key : ℕ) (e : Entry) : Type 0 where
  pub low : e.low ≡ key
  pub high : e.high ≡ key + 1
  pub born : e.born ≡ version
  pub dead : e.dead ≡ now

module _ (before version key : ℕ) (alive : Bool) (lives : ℕ → ℕ → Bool) (height : ℕ → ℕ) (old : List NodeState) (p : ℕ) (leaf : NodeState) (added : List Entry)
    (later : before < version) (small : version < now) (in_keys : key < top)
    (forest : IsForest before lives height old)
    (stands : slice_get old p ≡ Some leaf)
    (bottom : leaf.level ≡ 0) (standing : leaf.died ≡ now) (lower : leaf.low ≤ key) (upper : key < leaf.high)
    (rows_added : All (IsNewRow version key) added)
    (many_added : length added ≡ tally alive)
    (never : alive ≡ true → (v : ℕ) → lives key v ≡ false)
  where
    abbrev pub lives' : ℕ → ℕ → Bool
    lives' = with_life lives key version alive

    abbrev leaf' : NodeState
    leaf' = edited key (key + 1) version added leaf

    abbrev pub keyed_nodes : List NodeState
    keyed_nodes = set old p leaf'

    node : IsNode before lives old leaf
    node = all_at (IsNode before lives old) old p leaf forest.each stands

    p_within : p < length old
    p_within = slice_get_within old p leaf stands

    -- other keys keep their lives
    other_key : (k v : ℕ) → k ≢ key → lives' k v ≡ lives k v
    other_key k v differ = let s : nat_eq k key ≡ false = grind (arith, nat_tests) in rw s refl

    other_version : (k v : ℕ) → v < version → lives' k v ≡ lives k v
    other_version k v h = split (nat_eq k key)
      where
        split : (b : Bool) → cond (b && nat_le version v) alive (lives k v) ≡ lives k v
        split true = let s : nat_le version v ≡ false = grind (arith, nat_tests) in rw s refl
        split false = refl

    this_point : (v : ℕ) → version ≤ v → lives' key v ≡ alive
    this_point v h =
        let s : nat_eq key key ≡ true = grind (arith, nat_tests) in
        let t : nat_le version v ≡ true = grind (arith, nat_tests) in
        rw (s, t) refl

    -- ---- the other nodes

    branch_stays : (n : NodeState) (e : Entry) → IsBranch old n e → IsBranch keyed_nodes n e
    branch_stays n e b = split (nat_eq p e.child) refl
      where
        split : (x : Bool) → nat_eq p e.child ≡ x → IsBranch keyed_nodes n e
        split false s =
            let differ : p ≢ e.child = grind (arith, nat_tests) in
            record { child = b.child; stands = at_set_other old p e.child leaf' differ ∙ b.stands; level = b.level; low = b.low; high = b.high; born = b.born; life = b.life }
        split true s =
            let at : p ≡ e.child = grind (arith, nat_tests) in
            let f : slice_get old e.child ≡ Some leaf = subst (λ x. slice_get old x ≡ Some leaf) at stands in
            let g = b.stands in
            let same : b.child ≡ leaf = cc in
            record {
              child = leaf';
              stands = subst (λ x. slice_get keyed_nodes x ≡ Some leaf') at (at_set_same old p leaf' p_within);
              level = subst (λ (x : NodeState). x.level + 1 ≡ n.level) same b.level;
              low = subst (λ (x : NodeState). x.low ≡ e.low) same b.low;
              high = subst (λ (x : NodeState). x.high ≡ e.high) same b.high;
              born = subst (λ (x : NodeState). x.born ≡ e.born) same b.born;
              life = subst (λ (x : NodeState). (v : ℕ) → v < n.died → nat_lt v x.died ≡ nat_lt v e.dead) same b.life;
            }

    placed_later : (n : NodeState) (e : Entry) → IsPlaced before n e → IsPlaced version n e
    placed_later n e q = record { low = q.low; wide = q.wide; high = q.high; begins = q.begins; meets = q.meets; lived = q.lived; born = (let x = q.born in omega arith); ends = q.ends; ended = λ h. let x = q.ended h in omega arith }

    -- another leaf has no point of the key from the version on
    elsewhere : (i : ℕ) (n : NodeState) → slice_get old i ≡ Some n → p ≢ i → n.level ≡ 0 → n.low ≤ key → key < n.high → n.died < version
    elsewhere i n e differ zero a b =
        let its = all_at (IsNode before lives old) old i n forest.each e in
        let x1 = its.ends in
        let x2 = its.ended in
        let x3 = its.born in
        let x4 = node.born in
        split (nat_lt n.died now) refl
      where
        split : (x : Bool) → nat_lt n.died now ≡ x → n.died < version
        split true s = let x2 = (all_at (IsNode before lives old) old i n forest.each e).ended in grind (arith, nat_tests)
        split false s =
            let its = all_at (IsNode before lives old) old i n forest.each e in
            let x1 = its.ends in
            let x3 = its.born in
            let x4 = node.born in
            let died : n.died ≡ now = grind (arith, nat_tests) in
            let here : holds key version leaf ≡ true = grind (arith, nat_tests) in
            let there : holds key version n ≡ true = grind (arith, nat_tests) in
            absurd (differ (unique height old p i leaf n key version forest.tiles in_keys small stands e (bottom ∙ sym zero) here there))

    same_lives : (i : ℕ) (n : NodeState) → slice_get old i ≡ Some n → p ≢ i → n.level ≡ 0 → (k v : ℕ) → n.low ≤ k → k < n.high → v < n.died → lives' k v ≡ lives k v
    same_lives i n e differ zero k v a b d = split (nat_eq k key) refl
      where
        split : (x : Bool) → nat_eq k key ≡ x → lives' k v ≡ lives k v
        split false s = other_key k v (grind (arith, nat_tests))
        split true s =
            let at : k ≡ key = grind (arith, nat_tests) in
            let gone : n.died < version = elsewhere i n e differ zero (omega arith) (omega arith) in
            other_version k v (omega arith)

    region : (n : NodeState) (k v : ℕ) → holds k v n ≡ true → (n.low ≤ k) × (k < n.high) × (n.born ≤ v) × (v < n.died)
    region n k v h = split (within n.low n.high k) refl h
      where
        split : (w : Bool) → within n.low n.high k ≡ w → (w && within n.born n.died v) ≡ true → (n.low ≤ k) × (k < n.high) × (n.born ≤ v) × (v < n.died)
        split true s t = (grind (arith, nat_tests), grind (arith, nat_tests), grind (arith, nat_tests), grind (arith, nat_tests))
        split false s t = cc

    other_node : (i : ℕ) (n : NodeState) → slice_get old i ≡ Some n → p ≢ i → IsNode version lives' keyed_nodes n
    other_node i n e differ =
        let its = all_at (IsNode before lives old) old i n forest.each e in
        record {
          wide = its.wide;
          high = its.high;
          begins = its.begins;
          born = (let x = its.born in omega arith);
          ends = its.ends;
          ended = λ h. let x = its.ended h in omega arith;
          placed = All-weaker (IsPlaced before n) (IsPlaced version n) (placed_later n) n.entries its.placed;
          rows = λ z. all_both (IsPlaced before n) (IsRow lives n) (IsRow lives' n)
              (λ f q r. record { one_key = r.one_key; life = λ v h. let x1 = q.low in let x2 = q.wide in let x3 = q.high in same_lives i n e differ z f.low v x1 (omega arith) h ∙ r.life v h }) n.entries its.placed (its.rows z);
          branches = λ z. All-weaker (IsBranch old n) (IsBranch keyed_nodes n) (branch_stays n) n.entries (its.branches z);
          lists = λ k v h. its.lists k v h ∙ sym (as_listed (nat_eq n.level 0) refl k v (region n k v h));
        }
      where
        as_listed : (b : Bool) → nat_eq n.level 0 ≡ b → (k v : ℕ) → (n.low ≤ k) × (k < n.high) × (n.born ≤ v) × (v < n.died) → cond b (tally (lives' k v)) 1 ≡ cond b (tally (lives k v)) 1
        as_listed true s k v r = ap tally (same_lives i n e differ (grind (arith, nat_tests)) k v r.0 r.1 r.3)
        as_listed false s k v r = refl

    -- ---- the leaf

    not_alive : (e : Entry) → IsPlaced before leaf e → IsRow lives leaf e → e.low ≡ key → alive ≡ false
    not_alive e q r at = split alive refl
      where
        split : (a : Bool) → alive ≡ a → alive ≡ false
        split false s = s
        split true s =
            let x1 = q.begins in
            let x2 = q.born in
            let no : lives e.low e.born ≡ false = subst (λ k. lives k e.born ≡ false) (sym at) (never s e.born) in
            let yes = r.life e.born x1 in
            let x3 = q.lived in
            let t : within e.born e.dead e.born ≡ true = grind (arith, nat_tests) in
            cc

    before_rows : (e : Entry) → IsPlaced before leaf e → IsRow lives leaf e → IsRow lives' leaf' (with_end key (key + 1) version e)
    before_rows e q r = split (is_live e) (within key (key + 1) e.low) refl refl
      where
        stays : (e.low ≢ key) ⊎ ((e.low ≡ key) × (e.dead < now)) → IsRow lives' leaf' e
        stays (inl n) = record { one_key = r.one_key; life = λ v h. other_key e.low v n ∙ r.life v h }
        stays (inr a) = record { one_key = r.one_key; life = λ v h. here v h (nat_lt v version) refl }
          where
            here : (v : ℕ) → v < leaf.died → (x : Bool) → nat_lt v version ≡ x → lives' e.low v ≡ within e.born e.dead v
            here v h true u = other_version e.low v (grind (arith, nat_tests)) ∙ r.life v h
            here v h false u =
                let c : version ≤ v = grind (arith, nat_tests) in
                let d = q.ended a.1 in
                let off : within e.born e.dead v ≡ false = grind (arith, nat_tests) in
                ap (λ k. lives' k v) a.0 ∙ this_point v c ∙ not_alive e q r a.0 ∙ sym off

        split : (l w : Bool) → is_live e ≡ l → within key (key + 1) e.low ≡ w → IsRow lives' leaf' (cond (l && w) (record e { dead = version }) e)
        split true true s t =
            let at : e.low ≡ key = grind (arith, nat_tests) in
            let d : e.dead ≡ now = grind (arith, nat_tests) in
            let b = q.born in
            record { one_key = r.one_key; life = λ v h. here at d b v h (nat_lt v version) refl }
          where
            here : e.low ≡ key → e.dead ≡ now → e.born ≤ before → (v : ℕ) → v < leaf.died → (x : Bool) → nat_lt v version ≡ x → lives' e.low v ≡ within e.born version v
            here at d b v h true u =
                let c : v < version = grind (arith, nat_tests) in
                let same : within e.born e.dead v ≡ within e.born version v = grind (arith, nat_tests) in
                other_version e.low v c ∙ r.life v h ∙ same
            here at d b v h false u =
                let c : version ≤ v = grind (arith, nat_tests) in
                let off : within e.born version v ≡ false = grind (arith, nat_tests) in
                ap (λ k. lives' k v) at ∙ this_point v c ∙ not_alive e q r at ∙ sym off
        split true false s t = stays (inl (grind (arith, nat_tests)))
        split false true s t = stays (inr (grind (arith, nat_tests), grind (arith, nat_tests, q.ends)))
        split false false s t = stays (inl (grind (arith, nat_tests)))

    none_all : {X : Type 0} (P : X → Type 0) (xs : List X) → length xs ≡ 0 → All P xs
    none_all P [] z = All-nil P
    none_all P (x ∷ xs) z = absurd (omega arith)

    added_rows : All (IsRow lives' leaf') added
    added_rows = split alive refl
      where
        split : (a : Bool) → alive ≡ a → All (IsRow lives' leaf') added
        split false s = none_all (IsRow lives' leaf') added (many_added ∙ ap tally s)
        split true s = All-weaker (IsNewRow version key) (IsRow lives' leaf') new_row added rows_added
          where
            here : (e : Entry) → IsNewRow version key e → (v : ℕ) → v < leaf.died → (x : Bool) → nat_lt v version ≡ x → lives' e.low v ≡ within e.born e.dead v
            here e r v h true u =
                let x1 = r.born in
                let off : within e.born e.dead v ≡ false = grind (arith, nat_tests) in
                ap (λ k. lives' k v) r.low ∙ other_version key v (grind (arith, nat_tests)) ∙ never s v ∙ sym off
            here e r v h false u =
                let x1 = r.born in
                let x2 = r.dead in
                let on : within e.born e.dead v ≡ true = grind (arith, nat_tests) in
                ap (λ k. lives' k v) r.low ∙ this_point v (grind (arith, nat_tests)) ∙ s ∙ sym on

            new_row : (e : Entry) → IsNewRow version key e → IsRow lives' leaf' e
            new_row e r = record { one_key = (let x1 = r.low in let x2 = r.high in omega arith); life = λ v h. here e r v h (nat_lt v version) refl }

    kept_placed : (e : Entry) → IsPlaced before leaf e → IsPlaced version leaf' (with_end key (key + 1) version e)
    kept_placed e q = split (is_live e && within key (key + 1) e.low)
      where
        split : (b : Bool) → IsPlaced version leaf' (cond b (record e { dead = version }) e)
        split false = let z = placed_later leaf e q in record { low = z.low; wide = z.wide; high = z.high; begins = z.begins; meets = z.meets; lived = z.lived; born = z.born; ends = z.ends; ended = z.ended }
        split true = let z = placed_later leaf e q in let b = q.born in let nb = node.born in record { low = z.low; wide = z.wide; high = z.high; begins = z.begins; meets = omega arith; lived = omega arith; born = z.born; ends = omega arith; ended = λ h. omega arith }

    added_placed : (e : Entry) → IsNewRow version key e → IsPlaced version leaf' e
    added_placed e r =
        let a = r.low in let b = r.high in let c = r.born in let d = r.dead in let nb = node.born in
        record { low = omega arith; wide = omega arith; high = omega arith; begins = omega arith; meets = omega arith; lived = omega arith; born = omega arith; ends = omega arith; ended = λ h. absurd (omega arith) }

    -- ---- the points of the leaf

    no_points : (k v : ℕ) (xs : List Entry) → All (λ e. covers k v e ≡ false) xs → count_by (covers k v) xs ≡ 0
    no_points k v [] a = refl
    no_points k v (e ∷ xs) a =
        let none : tally (covers k v e) ≡ 0 = ap tally (All-head (λ f. covers k v f ≡ false) e xs a) in
        omega (arith, none, sum_by-cons (λ f. tally (covers k v f)) e xs, no_points k v xs (All-tail (λ f. covers k v f ≡ false) e xs a))

    all_points : (k v : ℕ) (xs : List Entry) → All (λ e. covers k v e ≡ true) xs → count_by (covers k v) xs ≡ length xs
    all_points k v [] a = refl
    all_points k v (e ∷ xs) a =
        let one : tally (covers k v e) ≡ 1 = ap tally (All-head (λ f. covers k v f ≡ true) e xs a) in
        omega (arith, one, sum_by-cons (λ f. tally (covers k v f)) e xs, all_points k v xs (All-tail (λ f. covers k v f ≡ true) e xs a))

    no_pass : (p : Entry → Bool) (xs : List Entry) → All (λ e. p e ≡ false) xs → count_by p xs ≡ 0
    no_pass p [] a = refl
    no_pass p (e ∷ xs) a =
        let none : tally (p e) ≡ 0 = ap tally (All-head (λ f. p f ≡ false) e xs a) in
        omega (arith, none, sum_by-cons (λ f. tally (p f)) e xs, no_pass p xs (All-tail (λ f. p f ≡ false) e xs a))

    -- at another key the edit changes nothing
    beside_other : (k v : ℕ) → k ≢ key → (e : Entry) → IsRow lives leaf e → (covers k v e && is_beside key (key + 1) e) ≡ covers k v e
    beside_other k v differ e r = split (within e.low e.high k) (within e.born e.dead v) (is_live e) (within key (key + 1) e.low) refl refl
      where
        split : (a b l w : Bool) → within e.low e.high k ≡ a → within key (key + 1) e.low ≡ w → ((a && b) && not (l && w)) ≡ (a && b)
        split false b l w s t = refl
        split true false l w s t = refl
        split true true false w s t = refl
        split true true true false s t = refl
        split true true true true s t = let x = r.one_key in absurd (differ (grind (arith, nat_tests)))

    -- at the key no old entry remains
    beside_key : (v : ℕ) → version ≤ v → (e : Entry) → IsPlaced before leaf e → IsRow lives leaf e → (covers key v e && is_beside key (key + 1) e) ≡ false
    beside_key v h e q r = split (within e.low e.high key) (within e.born e.dead v) refl refl
      where
        split : (a b : Bool) → within e.low e.high key ≡ a → within e.born e.dead v ≡ b → ((a && b) && is_beside key (key + 1) e) ≡ false
        split false b s t = refl
        split true false s t = refl
        split true true s t =
            let x1 = r.one_key in
            let x2 = q.ends in
            let x3 = q.ended in
            let live : is_live e ≡ true = grind (arith, nat_tests) in
            let here : within key (key + 1) e.low ≡ true = grind (arith, nat_tests) in
            rw (live, here) refl

    leaf_lists : (k v : ℕ) → holds k v leaf ≡ true → count_by (covers k v) (map (with_end key (key + 1) version) leaf.entries ++ added) ≡ tally (lives' k v)
    leaf_lists k v h = both ∙ split (nat_lt v version) (nat_eq k key) refl refl
      where
        both : count_by (covers k v) (map (with_end key (key + 1) version) leaf.entries ++ added) ≡ count_by (covers k v) (map (with_end key (key + 1) version) leaf.entries) + count_by (covers k v) added
        both = sum_by-append (λ e. tally (covers k v e)) (map (with_end key (key + 1) version) leaf.entries) added

        was : count_by (covers k v) leaf.entries ≡ tally (lives k v)
        was = node.lists k v h ∙ (let z : nat_eq leaf.level 0 ≡ true = grind (arith, nat_tests) in rw z refl)

        rows : All (IsRow lives leaf) leaf.entries
        rows = node.rows bottom

        early : v < version → (e : Entry) → IsNewRow version key e → (w : Bool) → (w && within e.born e.dead v) ≡ false
        early u e r true = let x = r.born in grind (arith, nat_tests)
        early u e r false = refl

        split : (x y : Bool) → nat_lt v version ≡ x → nat_eq k key ≡ y → count_by (covers k v) (map (with_end key (key + 1) version) leaf.entries) + count_by (covers k v) added ≡ tally (lives' k v)
        split true y s t =
            let u : v < version = grind (arith, nat_tests) in
            let a = covers-ended_before k v key (key + 1) version leaf.entries u small in
            let b = no_points k v added (All-weaker (IsNewRow version key) (λ e. covers k v e ≡ false) (λ e r. early u e r (within e.low e.high k)) added rows_added) in
            let c : tally (lives' k v) ≡ tally (lives k v) = ap tally (other_version k v u) in
            omega (arith, a, b, c, was)
        split false false s t =
            let u : version ≤ v = grind (arith, nat_tests) in
            let differ : k ≢ key = grind (arith, nat_tests) in
            let a = covers-ended_after k v key (key + 1) version leaf.entries u in
            let same = count_alike (λ e. covers k v e && is_beside key (key + 1) e) (covers k v) leaf.entries (All-weaker (IsRow lives leaf) (λ e. (covers k v e && is_beside key (key + 1) e) ≡ covers k v e) (beside_other k v differ) leaf.entries rows) in
            let b = no_points k v added (All-weaker (IsNewRow version key) (λ e. covers k v e ≡ false) (λ e r. let x1 = r.low in let x2 = r.high in let off : within e.low e.high k ≡ false = grind (arith, nat_tests) in rw off refl) added rows_added) in
            let c : tally (lives' k v) ≡ tally (lives k v) = ap tally (other_key k v differ) in
            omega (arith, a, same, b, c, was)
        split false true s t =
            let u : version ≤ v = grind (arith, nat_tests) in
            let at : k ≡ key = grind (arith, nat_tests) in
            let vn : v < now = late (within leaf.low leaf.high k) refl h in
            let a = covers-ended_after k v key (key + 1) version leaf.entries u in
            let none = no_pass (λ e. covers k v e && is_beside key (key + 1) e) leaf.entries
            (subst (λ x. All (λ e. (covers x v e && is_beside key (key + 1) e) ≡ false) leaf.entries) (sym at)
            (all_both (IsPlaced before leaf) (IsRow lives leaf) (λ e. (covers key v e && is_beside key (key + 1) e) ≡ false) (beside_key v u) leaf.entries node.placed rows)) in
            let b = all_points k v added (All-weaker (IsNewRow version key) (λ e. covers k v e ≡ true) (λ e r. let x1 = r.low in let x2 = r.high in let x3 = r.born in let x4 = r.dead in let on : within e.low e.high k ≡ true = grind (arith, nat_tests) in let too : within e.born e.dead v ≡ true = grind (arith, nat_tests) in rw (on, too) refl) added rows_added) in
            let c : tally (lives' k v) ≡ tally alive = ap tally (ap (λ x. lives' x v) at ∙ this_point v u) in
            omega (arith, a, none, b, c, many_added)
          where
            late : (w : Bool) → within leaf.low leaf.high k ≡ w → (w && within leaf.born leaf.died v) ≡ true → v < now
            late true i j = grind (arith, nat_tests)
            late false i j = cc

    changed_leaf : IsNode version lives' keyed_nodes leaf'
    changed_leaf =
        let items = leaf.entries in
        record {
          wide = node.wide;
          high = node.high;
          begins = node.begins;
          born = (let x = node.born in omega arith);
          ends = node.ends;
          ended = λ h. absurd (omega arith);
          placed = All-append (IsPlaced version leaf') (map (with_end key (key + 1) version) items) added
              (All-map (IsPlaced version leaf') (with_end key (key + 1) version) items (All-weaker (IsPlaced before leaf) (λ e. IsPlaced version leaf' (with_end key (key + 1) version e)) kept_placed items node.placed))
              (All-weaker (IsNewRow version key) (IsPlaced version leaf') added_placed added rows_added);
          rows = λ z. All-append (IsRow lives' leaf') (map (with_end key (key + 1) version) items) added
              (All-map (IsRow lives' leaf') (with_end key (key + 1) version) items (all_both (IsPlaced before leaf) (IsRow lives leaf) (λ e. IsRow lives' leaf' (with_end key (key + 1) version e)) before_rows items node.placed (node.rows bottom)))
              added_rows;
          branches = λ z. absurd (omega arith);
          lists = λ k v h. leaf_lists k v h ∙ (let z : nat_eq leaf.level 0 ≡ true = grind (arith, nat_tests) in rw z refl);
        }

    keyed_each : (i : ℕ) (n : NodeState) → slice_get keyed_nodes i ≡ Some n → IsNode version lives' keyed_nodes n
    keyed_each i n e = split (nat_eq p i) refl
      where
        split : (b : Bool) → nat_eq p i ≡ b → IsNode version lives' keyed_nodes n
        split true s =
            let at : p ≡ i = grind (arith, nat_tests) in
            let f : slice_get keyed_nodes i ≡ Some leaf' = subst (λ x. slice_get keyed_nodes x ≡ Some leaf') at (at_set_same old p leaf' p_within) in
            let same : leaf' ≡ n = cc in
            subst (λ (x : NodeState). IsNode version lives' keyed_nodes x) same changed_leaf
        split false s =
            let differ : p ≢ i = grind (arith, nat_tests) in
            other_node i n (sym (at_set_other old p i leaf' differ) ∙ e) differ

    keyed_tiles : Tiles height keyed_nodes
    keyed_tiles l k v kt vt =
        let at = λ (n : NodeState). tally (at_point l k v n) in
        let change = sum_by-set at old p leaf' leaf p_within in
        let same : tally (at_point l k v (get_or old p leaf)) ≡ tally (at_point l k v leaf) = ap at (get_or_from_slice_get old p leaf leaf stands) in
        omega (arith, change, same, forest.tiles l k v kt vt)

    pub keyed : IsForest version lives' height keyed_nodes
    keyed = record { each = all_from_places (IsNode version lives' keyed_nodes) keyed_nodes keyed_each; tiles = keyed_tiles }

-- the same for a call that edits the leaf
pub keyed_by : (before version key : ℕ) (alive : Bool) (lives : ℕ → ℕ → Bool) (height : ℕ → ℕ) (s t : Contents NodeState) (p : ℕ) (added : List Entry) → before < version → version < now → key < top → IsForest before lives height s.nodes → IsFound s.nodes 0 key p → Changes s t p (edited key (key + 1) version added) → All (IsNewRow version key) added → length added ≡ tally alive → (alive ≡ true → (v : ℕ) → lives key v ≡ false) → IsForest version (with_life lives key version alive) height t.nodes
keyed_by before version key alive lives height s t p added later small in_keys forest found change rows many never =
    let a = found.stands in
    let b = change.stands in
    let same : change.node ≡ found.node = cc in
    let is : t.nodes ≡ set s.nodes p (edited key (key + 1) version added found.node) = change.nodes ∙ ap (λ n. set s.nodes p (edited key (key + 1) version added n)) same in
    rw is (keyed before version key alive lives height s.nodes p found.node added later small in_keys forest found.stands found.at_level found.died found.low found.high rows many never)
