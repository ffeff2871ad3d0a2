-- Nodes of one level end, others begin over the same keys, and the parent's entries are edited.
use Rattle.std.proofs.Common.{◌≡◌, ◌≢◌, ℕ, ◌+◌, ◌-◌, ◌<◌, ◌≤◌, ◌⊎◌, inl, inr, List, [], ◌∷◌, ◌++◌, Bool, true, false, cond, not, ◌&&◌, length, get_or, set, map, ap, refl, sym, ◌∙◌, subst, arith, count_by, nat_lt, nat_eq, slice_get, Some, take, drop, length-append}
use Rattle.std.specs.Prelude.{All}
use Rattle.std.proofs.lemmas.Bool.Decides.{nat_tests}
use Rattle.std.proofs.lemmas.Option.{get_or_from_slice_get, slice_get_within, slice_get-get_or}
use Rattle.std.proofs.lemmas.List.Elements.{All-append, All-map, All-weaker}
use Rattle.std.proofs.lemmas.List.Sums.{sum_by-set, sum_by-append, sum_by-cons}
use Rattle.tq_mvbt.specs.declared.entry.Entry.{Entry}
use Rattle.tq_mvbt.specs.NodeState.{NodeState}
use Rattle.tq_mvbt.specs.Points.{now, within, holds, covers, is_live, with_end}
use Rattle.tq_mvbt.specs.Shape.{tally, at_point, listed, Tiles, IsBranch, IsPlaced, IsNode, IsForest}
use Rattle.tq_mvbt.specs.Steps.{retired, edited}
use Rattle.tq_mvbt.specs.Copies.{IsInside}
use Rattle.tq_mvbt.proofs.Lists.{all_at, all_both, count_alike}
use Rattle.tq_mvbt.proofs.Places.{at_set_same, at_set_other, at_left, at_right, at_append, all_from_places}
use Rattle.tq_mvbt.proofs.Losses.{is_beside, covers-ended_before, covers-ended_after}
use Rattle.tq_mvbt.proofs.Descent.{child_stands}
use Rattle.tq_mvbt.proofs.Copies.{ended_node}
use Rattle.tq_mvbt.proofs.Ending.{unique, IsEnding}

-- the entry is for one of the new nodes
pub record IsEntryFor (version level base : ℕ) (made : List NodeState) (e : Entry) : Type 0 where
  pub place : ℕ
  pub child : NodeState
  pub stands : slice_get made place ≡ Some child
  pub number : e.child ≡ base + place
  pub at_level : child.level ≡ level
  pub low : child.low ≡ e.low
  pub high : child.high ≡ e.high
  pub born : child.born ≡ e.born
  pub died : child.died ≡ now
  pub entry_born : e.born ≡ version

-- nodes of the level begin over the range's keys, with entries for them
pub record IsMade (version : ℕ) (lives : ℕ → ℕ → Bool) (level low high : ℕ) (old : List NodeState) (base : ℕ) (made : List NodeState) (added : List Entry) : Type 0 where
  pub each : All (IsNode version lives old) made
  pub fresh : All (λ n. (n.level ≡ level) × (n.died ≡ now)) made
  pub points : (l k v : ℕ) → v < now → count_by (at_point l k v) made ≡ tally (nat_eq level l && (within low high k && within version now v))
  pub inside : All (IsInside version low high) added
  pub entries : All (IsEntryFor version level base made) added
  pub covered : (k v : ℕ) → version ≤ v → v < now → count_by (covers k v) added ≡ tally (within low high k)

-- the same node in another list
pub node_moves : (version : ℕ) (lives : ℕ → ℕ → Bool) (old new : List NodeState) (n : NodeState) → IsNode version lives old n → ((e : Entry) → IsPlaced version n e → IsBranch old n e → IsBranch new n e) → IsNode version lives new n
node_moves version lives old new n node f =
    record {
      wide = node.wide;
      high = node.high;
      begins = node.begins;
      born = node.born;
      ends = node.ends;
      ended = node.ended;
      placed = node.placed;
      rows = node.rows;
      branches = λ z. all_both (IsPlaced version n) (IsBranch old n) (IsBranch new n) f n.entries node.placed (node.branches z);
      lists = node.lists;
    }

-- a child that remains or ends
pub record IsLater (version : ℕ) (new : List NodeState) (i : ℕ) (c : NodeState) (gone : Bool) : Type 0 where
  pub child : NodeState
  pub stands : slice_get new i ≡ Some child
  pub level : child.level ≡ c.level
  pub low : child.low ≡ c.low
  pub high : child.high ≡ c.high
  pub born : child.born ≡ c.born
  pub died : child.died ≡ cond gone version c.died

-- an entry for a child that remains, or of a node that had ended by then
pub branch_stays : (version : ℕ) (old new : List NodeState) (n : NodeState) (e : Entry) (b : IsBranch old n e) → (gone : Bool) → IsLater version new e.child b.child gone → (gone ≡ true → b.child.died ≡ now) → version < now → (gone ≡ true → n.died ≤ version) → IsBranch new n e
branch_stays version old new n e b false later d small ends =
    record {
      child = later.child;
      stands = later.stands;
      level = rw (later.level) b.level;
      low = later.low ∙ b.low;
      high = later.high ∙ b.high;
      born = later.born ∙ b.born;
      life = λ v h. ap (λ x. nat_lt v x) later.died ∙ b.life v h;
    }
branch_stays version old new n e b true later d small ends =
    let died = d refl in
    let bound = ends refl in
    record {
      child = later.child;
      stands = later.stands;
      level = rw (later.level) b.level;
      low = later.low ∙ b.low;
      high = later.high ∙ b.high;
      born = later.born ∙ b.born;
      life = λ v h.
          let l = b.life v h in
          let one : nat_lt v later.child.died ≡ nat_lt v version = ap (λ x. nat_lt v x) later.died in
          let two : nat_lt v version ≡ nat_lt v now = grind (arith, nat_tests) in
          let three : nat_lt v b.child.died ≡ nat_lt v now = ap (λ x. nat_lt v x) died in
          one ∙ two ∙ sym three ∙ l;
    }

module _ (version : ℕ) (lives : ℕ → ℕ → Bool) (height : ℕ → ℕ) (level low high : ℕ) (old mid made : List NodeState) (ended : ℕ → Bool) (added : List Entry) (q : ℕ) (parent : NodeState)
    (small : version < now)
    (forest : IsForest version lives height old)
    (ending : IsEnding version level low high old mid ended)
    (begins : IsMade version lives level low high old (length old) made added)
    (stands : slice_get old q ≡ Some parent)
    (above : parent.level ≡ level + 1)
    (standing : parent.died ≡ now)
    (older : parent.born < version)
    (entries_older : All (λ e. e.born < version) parent.entries)
    (lower : parent.low ≤ low)
    (upper : high ≤ parent.high)
  where
    abbrev changed : NodeState
    changed = edited low high version added parent

    abbrev pub result_nodes : List NodeState
    result_nodes = set (mid ++ made) q changed

    each_old : (i : ℕ) (n : NodeState) → slice_get old i ≡ Some n → IsNode version lives old n
    each_old i n e = all_at (IsNode version lives old) old i n forest.each e

    parent_stays : ended q ≡ false
    parent_stays = split (ended q) refl
      where
        split : (b : Bool) → ended q ≡ b → ended q ≡ false
        split false s = s
        split true s = let e = ending.inside q parent stands s in let l = e.at_level in absurd (omega arith)

    q_within : q < length (mid ++ made)
    q_within = omega (arith, slice_get_within old q parent stands, ending.long, length-append mid made)

    -- the new state of an old node
    later_kept : (i : ℕ) (c : NodeState) → slice_get old i ≡ Some c → q ≢ i → ended i ≡ false → IsLater version result_nodes i c false
    later_kept i c e n s =
        record { child = c; stands = at_set_other (mid ++ made) q i changed n ∙ at_left mid made i c (ending.kept i c e s); level = refl; low = refl; high = refl; born = refl; died = refl }

    later_gone : (i : ℕ) (c : NodeState) → slice_get old i ≡ Some c → ended i ≡ true → IsLater version result_nodes i c true
    later_gone i c e s =
        let g = ending.gone i c e s in
        let n : q ≢ i = λ (same : q ≡ i). let t : ended q ≡ true = subst (λ x. ended x ≡ true) (sym same) s in let f = parent_stays in cc in
        record { child = retired version g.last c; stands = at_set_other (mid ++ made) q i changed n ∙ at_left mid made i (retired version g.last c) g.stands; level = refl; low = refl; high = refl; born = refl; died = refl }

    later_parent : IsLater version result_nodes q parent false
    later_parent = record { child = changed; stands = at_set_same (mid ++ made) q changed q_within; level = refl; low = refl; high = refl; born = refl; died = refl }

    later : (i : ℕ) (c : NodeState) → slice_get old i ≡ Some c → IsLater version result_nodes i c (ended i)
    later i c e = split (ended i) refl
      where
        here : (b : Bool) → nat_eq q i ≡ b → ended i ≡ false → IsLater version result_nodes i c false
        here true t s =
            let at : q ≡ i = grind (arith, nat_tests) in
            let f : slice_get old i ≡ Some parent = subst (λ x. slice_get old x ≡ Some parent) at stands in
            let same : parent ≡ c = cc in
            subst (λ (x : NodeState). IsLater version result_nodes i x false) same (subst (λ x. IsLater version result_nodes x parent false) at later_parent)
        here false t s = let n : q ≢ i = grind (arith, nat_tests) in later_kept i c e n s

        split : (b : Bool) → ended i ≡ b → IsLater version result_nodes i c b
        split true s = later_gone i c e s
        split false s = here (nat_eq q i) refl s

    -- an entry of an old node other than the parent, or of one that ended
    entry_stays : (n : NodeState) (e : Entry) → (b : IsBranch old n e) → (ended e.child ≡ true → n.died ≤ version) → IsBranch result_nodes n e
    entry_stays n e b f =
        branch_stays version old result_nodes n e b (ended e.child) (later e.child b.child b.stands)
        (λ s. (ending.inside e.child b.child b.stands s).died) small f

    -- a current node other than the parent has no child that ended
    no_child : (i : ℕ) (n : NodeState) → slice_get old i ≡ Some n → q ≢ i → (e : Entry) → IsPlaced version n e → (b : IsBranch old n e) → ended e.child ≡ true → n.died ≤ version
    no_child i n at differ e p b s =
        let node = each_old i n at in
        let c = ending.inside e.child b.child b.stands s in
        let l = c.at_level in
        let a1 = c.above in
        let a2 = c.below in
        let b1 = b.level in
        let b2 = b.low in
        let b3 = b.high in
        let p1 = p.low in
        let p2 = p.wide in
        let p3 = p.high in
        let n1 = node.born in
        let n2 = node.ended in
        let n3 = node.ends in
        let n4 = node.high in
        split (nat_lt n.died now) refl
      where
        split : (x : Bool) → nat_lt n.died now ≡ x → n.died ≤ version
        split true t = let n2 = (each_old i n at).ended in grind (arith, nat_tests)
        split false t =
            let node = each_old i n at in
            let c = ending.inside e.child b.child b.stands s in
            let l = c.at_level in
            let a1 = c.above in
            let a2 = c.below in
            let b1 = b.level in
            let b2 = b.low in
            let b3 = b.high in
            let p1 = p.low in
            let p2 = p.wide in
            let p3 = p.high in
            let n1 = node.born in
            let n3 = node.ends in
            let n4 = node.high in
            let died : n.died ≡ now = grind (arith, nat_tests) in
            let same_level : parent.level ≡ n.level = omega arith in
            let q_holds : holds e.low version parent ≡ true = grind (arith, nat_tests) in
            let n_holds : holds e.low version n ≡ true = grind (arith, nat_tests) in
            absurd (differ (unique height old q i parent n e.low version forest.tiles (omega arith) small stands at same_level q_holds n_holds))

    other_node : (i : ℕ) (n : NodeState) → slice_get old i ≡ Some n → q ≢ i → IsNode version lives result_nodes n
    other_node i n at differ = node_moves version lives old result_nodes n (each_old i n at) (λ e p b. entry_stays n e b (no_child i n at differ e p b))

    gone_node : (i : ℕ) (n : NodeState) → slice_get old i ≡ Some n → ended i ≡ true → (last : ℕ) → All (λ e. e.born < version) (take (length n.entries - last) n.entries) → All (λ e. version ≤ e.born) (drop (length n.entries - last) n.entries) → IsNode version lives result_nodes (retired version last n)
    gone_node i n at s last o y =
        let c = ending.inside i n at s in
        node_moves version lives old result_nodes (retired version last n) (ended_node version lives old n last small (each_old i n at) c.died c.born o y)
        (λ e p b. entry_stays (retired version last n) e b (λ t. omega arith))

    made_node : (n : NodeState) → n.level ≡ level → IsNode version lives old n → IsNode version lives result_nodes n
    made_node n l node =
        node_moves version lives old result_nodes n node
        (λ e p b. entry_stays n e b (λ t. let c = ending.inside e.child b.child b.stands t in let x = c.at_level in let y = b.level in absurd (omega arith)))

    -- ---- the parent

    parent_node : IsNode version lives old parent
    parent_node = each_old q parent stands

    -- a live entry of the parent lies in the range exactly if its child ended
    side : (e : Entry) → IsPlaced version parent e → (b : IsBranch old parent e) → e.dead ≡ now → (x : ℕ) → e.low ≤ x → x < e.high → within low high x ≡ ended e.child
    side e p b d x a1 a2 = split (within low high x) (ended e.child) refl refl
      where
        split : (w s : Bool) → within low high x ≡ w → ended e.child ≡ s → w ≡ s
        split true true i j = refl
        split false false i j = refl
        split true false i j =
            let its = each_old e.child b.child b.stands in
            let died = child_stands b.child.died e.dead parent.died standing d its.ends b.life in
            let l : b.child.level ≡ level = let y = b.level in omega arith in
            let b2 = b.low in
            let b3 = b.high in
            let t : ended e.child ≡ true = ending.whole e.child b.child x b.stands l died (omega arith) (omega arith) (grind (arith, nat_tests)) (grind (arith, nat_tests)) in
            cc
        split false true i j =
            let c = ending.inside e.child b.child b.stands j in
            let c1 = c.above in
            let c2 = c.below in
            let b2 = b.low in
            let b3 = b.high in
            absurd (grind (arith, nat_tests))

    kept_branch : (e : Entry) → IsPlaced version parent e → IsBranch old parent e → IsBranch result_nodes changed (with_end low high version e)
    kept_branch e p b = split (is_live e) (within low high e.low) refl refl
      where
        stay : IsBranch result_nodes parent e → IsBranch result_nodes changed e
        stay r = record { child = r.child; stands = r.stands; level = r.level; low = r.low; high = r.high; born = r.born; life = r.life }

        split : (l w : Bool) → is_live e ≡ l → within low high e.low ≡ w → IsBranch result_nodes changed (cond (l && w) (record e { dead = version }) e)
        split true true s t =
            let d : e.dead ≡ now = grind (arith, nat_tests) in
            let wide = p.wide in
            let gone : ended e.child ≡ true = sym (side e p b d e.low (omega arith) wide) ∙ t in
            let c = later_gone e.child b.child b.stands gone in
            record { child = c.child; stands = c.stands; level = rw (c.level) b.level; low = c.low ∙ b.low; high = c.high ∙ b.high; born = c.born ∙ b.born; life = λ v h. ap (λ x. nat_lt v x) c.died }
        split true false s t =
            let d : e.dead ≡ now = grind (arith, nat_tests) in
            let wide = p.wide in
            let stays : ended e.child ≡ false = sym (side e p b d e.low (omega arith) wide) ∙ t in
            stay (entry_stays parent e b (λ g. cc))
        split false w s t = stay (entry_stays parent e b (λ g. absurd (dead_child g)))
          where
            dead_child : ended e.child ≡ true → ⊥
            dead_child g =
                let c = ending.inside e.child b.child b.stands g in
                let ends = p.ends in
                let d : e.dead ≡ now = child_stands e.dead b.child.died parent.died standing c.died ends (λ v h. sym (b.life v h)) in
                grind (arith, nat_tests)

    added_branch : (e : Entry) → IsInside version low high e → IsEntryFor version level (length old) made e → IsBranch result_nodes changed e
    added_branch e i f =
        let place : slice_get result_nodes e.child ≡ Some f.child =
        let differ : q ≢ e.child = (let a = slice_get_within old q parent stands in let n = f.number in omega arith) in
        at_set_other (mid ++ made) q e.child changed differ
        ∙ ap (λ x. slice_get (mid ++ made) x) (f.number ∙ ap (λ x. x + f.place) (sym ending.long))
        ∙ at_right mid made f.place ∙ f.stands in
        record { child = f.child; stands = place; level = (let a = f.at_level in omega arith); low = f.low; high = f.high; born = f.born; life = λ v h. ap (λ x. nat_lt v x) (f.died ∙ sym i.dead) }

    kept_placed : (e : Entry) → e.born < version → IsPlaced version parent e → IsPlaced version changed (with_end low high version e)
    kept_placed e o p = split (is_live e && within low high e.low)
      where
        split : (b : Bool) → IsPlaced version changed (cond b (record e { dead = version }) e)
        split false = record { low = p.low; wide = p.wide; high = p.high; begins = p.begins; meets = p.meets; lived = p.lived; born = p.born; ends = p.ends; ended = p.ended }
        split true = record { low = p.low; wide = p.wide; high = p.high; begins = p.begins; meets = older; lived = o; born = p.born; ends = omega arith; ended = λ h. omega arith }

    added_placed : (e : Entry) → IsInside version low high e → IsPlaced version changed e
    added_placed e i =
        let a = i.above in let b = i.wide in let c = i.below in let d = i.born in let f = i.dead in
        record { low = omega arith; wide = b; high = omega arith; begins = omega arith; meets = omega arith; lived = omega arith; born = d; ends = omega arith; ended = λ h. absurd (omega arith) }

    -- from the version on, an entry that holds a point remains exactly if the point is outside the range
    beside : (k v : ℕ) → version ≤ v → (e : Entry) → IsPlaced version parent e → IsBranch old parent e → (covers k v e && is_beside low high e) ≡ (covers k v e && not (within low high k))
    beside k v h e p b = split (covers k v e) refl
      where
        split : (c : Bool) → covers k v e ≡ c → (c && is_beside low high e) ≡ (c && not (within low high k))
        split false s = refl
        split true s =
            let e1 = p.ends in
            let e2 = p.ended in
            let e3 = p.wide in
            let d : e.dead ≡ now = held (within e.low e.high k) refl s in
            let i : within e.low e.high k ≡ true = inside (within e.low e.high k) refl s in
            let live : is_live e ≡ true = grind (arith, nat_tests) in
            let same : within low high e.low ≡ within low high k =
            side e p b d e.low (omega arith) e3 ∙ sym (side e p b d k (grind (arith, nat_tests)) (grind (arith, nat_tests))) in
            rw (live, same) refl
          where
            inside : (w : Bool) → within e.low e.high k ≡ w → (w && within e.born e.dead v) ≡ true → w ≡ true
            inside true i t = refl
            inside false i t = t

            held : (w : Bool) → within e.low e.high k ≡ w → (w && within e.born e.dead v) ≡ true → e.dead ≡ now
            held true i t = let e1 = p.ends in let e2 = p.ended in grind (arith, nat_tests)
            held false i t = cc

    nothing : {X : Type 0} (p : X → Bool) (xs : List X) → count_by (λ x. p x && false) xs ≡ 0
    nothing p [] = refl
    nothing p (x ∷ xs) =
        let none : tally (p x && false) ≡ 0 = nothing_at (p x) in
        omega (arith, none, nothing p xs, sum_by-cons (λ y. tally (p y && false)) x xs)
      where
        nothing_at : (b : Bool) → tally (b && false) ≡ 0
        nothing_at true = refl
        nothing_at false = refl

    everything : {X : Type 0} (p : X → Bool) (xs : List X) → count_by (λ x. p x && true) xs ≡ count_by p xs
    everything p [] = refl
    everything p (x ∷ xs) =
        let same : tally (p x && true) ≡ tally (p x) = same_at (p x) in
        omega (arith, same, everything p xs, sum_by-cons (λ y. tally (p y && true)) x xs, sum_by-cons (λ y. tally (p y)) x xs)
      where
        same_at : (b : Bool) → tally (b && true) ≡ tally b
        same_at true = refl
        same_at false = refl

    still_to_come : (k v : ℕ) (xs : List Entry) → v < version → All (IsEntryFor version level (length old) made) xs → count_by (covers k v) xs ≡ 0
    still_to_come k v xs h all =
        let none : All (λ e. covers k v e ≡ false) xs = All-weaker (IsEntryFor version level (length old) made) (λ e. covers k v e ≡ false) (λ e f. unborn e f.entry_born (within e.low e.high k)) xs all in
        count_alike (covers k v) (λ e. covers k v e && false) xs (All-weaker (λ e. covers k v e ≡ false) (λ e. covers k v e ≡ (covers k v e && false)) (λ e z. rw z refl) xs none)
        ∙ nothing (covers k v) xs
      where
        unborn : (e : Entry) → e.born ≡ version → (w : Bool) → (w && within e.born e.dead v) ≡ false
        unborn e b true = grind (arith, nat_tests)
        unborn e b false = refl

    edited_lists : (k v : ℕ) → holds k v parent ≡ true → v < now → count_by (covers k v) (map (with_end low high version) parent.entries ++ added) ≡ listed lives parent.level k v
    edited_lists k v h vn = both ∙ split (nat_lt v version) refl
      where
        items : List Entry
        items = parent.entries

        both : count_by (covers k v) (map (with_end low high version) parent.entries ++ added) ≡ count_by (covers k v) (map (with_end low high version) parent.entries) + count_by (covers k v) added
        both = sum_by-append (λ e. tally (covers k v e)) (map (with_end low high version) parent.entries) added

        one : listed lives parent.level k v ≡ 1
        one = let index : nat_eq parent.level 0 ≡ false = grind (arith, nat_tests) in rw index refl

        after : version ≤ v → (w : Bool) → within low high k ≡ w → count_by (λ e. covers k v e && not w) parent.entries + tally w ≡ listed lives parent.level k v
        after s true t = rw one (let z = nothing (covers k v) parent.entries in omega (arith, z))
        after s false t = let z = everything (covers k v) parent.entries in let n = parent_node.lists k v h in omega (arith, z, n)

        split : (b : Bool) → nat_lt v version ≡ b → count_by (covers k v) (map (with_end low high version) parent.entries) + count_by (covers k v) added ≡ listed lives parent.level k v
        split true s =
            let b : v < version = grind (arith, nat_tests) in
            let x = covers-ended_before k v low high version parent.entries b small in
            let y = still_to_come k v added b begins.entries in
            let z = parent_node.lists k v h in
            omega (arith, x, y, z)
        split false s =
            let b : version ≤ v = grind (arith, nat_tests) in
            let index : 0 < parent.level = omega arith in
            let x = covers-ended_after k v low high version parent.entries b in
            let y = count_alike (λ e. covers k v e && is_beside low high e) (λ e. covers k v e && not (within low high k)) parent.entries
            (all_both (IsPlaced version parent) (IsBranch old parent) (λ e. (covers k v e && is_beside low high e) ≡ (covers k v e && not (within low high k))) (beside k v b) parent.entries parent_node.placed (parent_node.branches index)) in
            let z = begins.covered k v b vn in
            let w = after b (within low high k) refl in
            omega (arith, x, y, z, w)

    changed_node : IsNode version lives result_nodes changed
    changed_node =
        let items = parent.entries in
        let index : 0 < parent.level = omega arith in
        record {
          wide = parent_node.wide;
          high = parent_node.high;
          begins = parent_node.begins;
          born = parent_node.born;
          ends = parent_node.ends;
          ended = parent_node.ended;
          placed = All-append (IsPlaced version changed) (map (with_end low high version) items) added
              (All-map (IsPlaced version changed) (with_end low high version) items (all_both (λ e. e.born < version) (IsPlaced version parent) (λ e. IsPlaced version changed (with_end low high version e)) kept_placed items entries_older parent_node.placed))
              (All-weaker (IsInside version low high) (IsPlaced version changed) added_placed added begins.inside);
          rows = λ z. absurd (omega arith);
          branches = λ z. All-append (IsBranch result_nodes changed) (map (with_end low high version) items) added
              (All-map (IsBranch result_nodes changed) (with_end low high version) items (all_both (IsPlaced version parent) (IsBranch old parent) (λ e. IsBranch result_nodes changed (with_end low high version e)) kept_branch items parent_node.placed (parent_node.branches index)))
              (all_both (IsInside version low high) (IsEntryFor version level (length old) made) (IsBranch result_nodes changed) added_branch added begins.inside begins.entries);
          lists = λ k v h. edited_lists k v h (below k v (within parent.low parent.high k) refl h);
        }
      where
        below : (k v : ℕ) (w : Bool) → within parent.low parent.high k ≡ w → (w && within parent.born parent.died v) ≡ true → v < now
        below k v true e h = grind (arith, nat_tests)
        below k v false e h = cc

    -- ---- all nodes

    result_tiles : Tiles height result_nodes
    result_tiles l k v kt vt =
        let at = λ (n : NodeState). tally (at_point l k v n) in
        let now_there : slice_get (mid ++ made) q ≡ Some parent = at_left mid made q parent (ending.kept q parent stands parent_stays) in
        let set_q = sum_by-set at (mid ++ made) q changed parent q_within in
        let same : tally (at_point l k v (get_or (mid ++ made) q parent)) ≡ tally (at_point l k v parent) = ap at (get_or_from_slice_get (mid ++ made) q parent parent now_there) in
        let parts = sum_by-append at mid made in
        let lost = ending.points l k v vt in
        let won = begins.points l k v vt in
        omega (arith, set_q, same, parts, lost, won, forest.tiles l k v kt vt)

    result_each : (i : ℕ) (n : NodeState) → slice_get result_nodes i ≡ Some n → IsNode version lives result_nodes n
    result_each i n e = split (nat_eq q i) refl
      where
        on_left : slice_get mid i ≡ Some n → q ≢ i → (c : NodeState) → slice_get old i ≡ Some c → (b : Bool) → ended i ≡ b → IsNode version lives result_nodes n
        on_left m differ c f false s =
            let same : c ≡ n = (let k = ending.kept i c f s in cc) in
            subst (λ (x : NodeState). IsNode version lives result_nodes x) same (other_node i c f differ)
        on_left m differ c f true s =
            let g = ending.gone i c f s in
            let same : retired version g.last c ≡ n = (let k = g.stands in cc) in
            subst (λ (x : NodeState). IsNode version lives result_nodes x) same (gone_node i c f s g.last g.old g.young)

        somewhere : q ≢ i → (slice_get mid i ≡ Some n) ⊎ (slice_get made (i - length mid) ≡ Some n) → IsNode version lives result_nodes n
        somewhere differ (inl m) =
            let l : i < length old = (let w = slice_get_within mid i n m in let z = ending.long in omega arith) in
            on_left m differ (get_or old i n) (slice_get-get_or old i n l) (ended i) refl
        somewhere differ (inr m) =
            let f = all_at (λ (x : NodeState). (x.level ≡ level) × (x.died ≡ now)) made (i - length mid) n begins.fresh m in
            made_node n f.0 (all_at (IsNode version lives old) made (i - length mid) n begins.each m)

        split : (b : Bool) → nat_eq q i ≡ b → IsNode version lives result_nodes n
        split true s =
            let at : q ≡ i = grind (arith, nat_tests) in
            let f : slice_get result_nodes i ≡ Some changed = subst (λ x. slice_get result_nodes x ≡ Some changed) at (at_set_same (mid ++ made) q changed q_within) in
            let same : changed ≡ n = cc in
            subst (λ (x : NodeState). IsNode version lives result_nodes x) same changed_node
        split false s =
            let differ : q ≢ i = grind (arith, nat_tests) in
            somewhere differ (at_append mid made i n (sym (at_set_other (mid ++ made) q i changed differ) ∙ e))

    pub replaced : IsForest version lives height result_nodes
    replaced = record { each = all_from_places (IsNode version lives result_nodes) result_nodes result_each; tiles = result_tiles }
