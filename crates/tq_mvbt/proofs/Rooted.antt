-- The root ends: its replacement has no parent, and the height may change.
use Rattle.std.proofs.Common.{◌≡◌, ℕ, ◌+◌, ◌-◌, ◌<◌, ◌≤◌, ◌⊎◌, inl, inr, List, [], ◌∷◌, ◌++◌, Bool, true, false, cond, ◌&&◌, length, get_or, ap, refl, sym, ◌∙◌, subst, arith, count_by, nat_lt, nat_le, nat_eq, slice_get, Some, take, drop, lit<}
use Rattle.std.specs.Prelude.{All}
use Rattle.std.proofs.lemmas.Bool.Decides.{nat_tests}
use Rattle.std.proofs.lemmas.Option.{slice_get_within, slice_get-get_or}
use Rattle.std.proofs.lemmas.List.Elements.{All-append, All-nil, All-cons}
use Rattle.std.proofs.lemmas.List.Sums.{sum_by-append, sum_by-cons}
use Rattle.tq_mvbt.specs.declared.entry.Entry.{Entry}
use Rattle.tq_mvbt.specs.NodeState.{NodeState}
use Rattle.tq_mvbt.specs.Points.{now, within}
use Rattle.tq_mvbt.specs.Shape.{top, tally, at_point, Tiles, IsBranch, IsNode, IsForest, raised}
use Rattle.tq_mvbt.specs.Steps.{retired, fresh}
use Rattle.tq_mvbt.specs.Copies.{IsInside, IsCopy}
use Rattle.tq_mvbt.proofs.Lists.{all_at, all_both}
use Rattle.tq_mvbt.proofs.Places.{at_left, at_right, at_append, all_from_places, one_passes}
use Rattle.tq_mvbt.proofs.Losses.{node_begins}
use Rattle.tq_mvbt.proofs.Copies.{ended_node, begun}
use Rattle.tq_mvbt.proofs.Ending.{IsEnding}
use Rattle.tq_mvbt.proofs.Replaced.{IsLater, IsEntryFor, IsMade, node_moves, branch_stays}

module _ (version : ℕ) (lives : ℕ → ℕ → Bool) (height : ℕ → ℕ) (level : ℕ) (old mid more : List NodeState) (ended : ℕ → Bool)
    (small : version < now)
    (forest : IsForest version lives height old)
    (ending : IsEnding version level 0 top old mid ended)
    (highest : (v : ℕ) → version ≤ v → v < now → height v ≡ level + 1)
  where
    each_old : (i : ℕ) (n : NodeState) → slice_get old i ≡ Some n → IsNode version lives old n
    each_old i n e = all_at (IsNode version lives old) old i n forest.each e

    later : (i : ℕ) (c : NodeState) → slice_get old i ≡ Some c → IsLater version (mid ++ more) i c (ended i)
    later i c e = split (ended i) refl
      where
        split : (b : Bool) → ended i ≡ b → IsLater version (mid ++ more) i c b
        split false s = record { child = c; stands = at_left mid more i c (ending.kept i c e s); level = refl; low = refl; high = refl; born = refl; died = refl }
        split true s = let g = ending.gone i c e s in record { child = retired version g.last c; stands = at_left mid more i (retired version g.last c) g.stands; level = refl; low = refl; high = refl; born = refl; died = refl }

    pub entry_stays : (n : NodeState) (e : Entry) → (b : IsBranch old n e) → (ended e.child ≡ true → n.died ≤ version) → IsBranch (mid ++ more) n e
    entry_stays n e b f = branch_stays version old (mid ++ more) n e b (ended e.child) (later e.child b.child b.stands) (λ s. (ending.inside e.child b.child b.stands s).died) small f

    -- no node is above the root
    none_above : (i : ℕ) (n : NodeState) → slice_get old i ≡ Some n → n.level ≡ level + 1 → n.died ≡ now → ⊥
    none_above i n e l d =
        let node = each_old i n e in
        let x1 = node.wide in
        let x2 = node.high in
        let x3 = node.born in
        let a : nat_eq n.level (level + 1) ≡ true = grind (arith, nat_tests) in
        let b : within n.low n.high n.low ≡ true = grind (arith, nat_tests) in
        let c : within n.born n.died version ≡ true = grind (arith, nat_tests) in
        let here : at_point (level + 1) n.low version n ≡ true = rw (a, b, c) refl in
        let h = highest version (omega arith) small in
        let off : nat_lt (level + 1) (height version) ≡ false = grind (arith, nat_tests) in
        let none = forest.tiles (level + 1) n.low version (omega arith) small ∙ ap tally off in
        let some = one_passes (at_point (level + 1) n.low version) old i n e here in
        omega (arith, none, some)

    no_child : (i : ℕ) (n : NodeState) → slice_get old i ≡ Some n → (e : Entry) → (b : IsBranch old n e) → ended e.child ≡ true → n.died ≤ version
    no_child i n at e b s = split (nat_lt n.died now) refl
      where
        split : (x : Bool) → nat_lt n.died now ≡ x → n.died ≤ version
        split true t = let n2 = (each_old i n at).ended in grind (arith, nat_tests)
        split false t =
            let n3 = (each_old i n at).ends in
            let c = ending.inside e.child b.child b.stands s in
            let l = c.at_level in
            let b1 = b.level in
            absurd (none_above i n at (omega arith) (grind (arith, nat_tests)))

    kept_node : (i : ℕ) (n : NodeState) → slice_get old i ≡ Some n → IsNode version lives (mid ++ more) n
    kept_node i n at = node_moves version lives old (mid ++ more) n (each_old i n at) (λ e p b. entry_stays n e b (no_child i n at e b))

    gone_node : (i : ℕ) (n : NodeState) → slice_get old i ≡ Some n → ended i ≡ true → (last : ℕ) → All (λ e. e.born < version) (take (length n.entries - last) n.entries) → All (λ e. version ≤ e.born) (drop (length n.entries - last) n.entries) → IsNode version lives (mid ++ more) (retired version last n)
    gone_node i n at s last o y =
        let c = ending.inside i n at s in
        node_moves version lives old (mid ++ more) (retired version last n) (ended_node version lives old n last small (each_old i n at) c.died c.born o y)
        (λ e p b. entry_stays (retired version last n) e b (λ t. omega arith))

    pub made_moves : (n : NodeState) → n.level ≡ level → IsNode version lives old n → IsNode version lives (mid ++ more) n
    made_moves n l node =
        node_moves version lives old (mid ++ more) n node
        (λ e p b. entry_stays n e b (λ t. let c = ending.inside e.child b.child b.stands t in let x = c.at_level in let y = b.level in absurd (omega arith)))

    pub rooted : (height' : ℕ → ℕ) → All (IsNode version lives (mid ++ more)) more → Tiles height' (mid ++ more) → IsForest version lives height' (mid ++ more)
    rooted height' new tiles =
        record { each = all_from_places (IsNode version lives (mid ++ more)) (mid ++ more) (λ i n e. somewhere i n (at_append mid more i n e)); tiles = tiles }
      where
        on_left : (i : ℕ) (n : NodeState) → slice_get mid i ≡ Some n → (c : NodeState) → slice_get old i ≡ Some c → (b : Bool) → ended i ≡ b → IsNode version lives (mid ++ more) n
        on_left i n m c f false s =
            let same : c ≡ n = (let k = ending.kept i c f s in cc) in
            subst (λ (x : NodeState). IsNode version lives (mid ++ more) x) same (kept_node i c f)
        on_left i n m c f true s =
            let g = ending.gone i c f s in
            let same : retired version g.last c ≡ n = (let k = g.stands in cc) in
            subst (λ (x : NodeState). IsNode version lives (mid ++ more) x) same (gone_node i c f s g.last g.old g.young)

        somewhere : (i : ℕ) (n : NodeState) → (slice_get mid i ≡ Some n) ⊎ (slice_get more (i - length mid) ≡ Some n) → IsNode version lives (mid ++ more) n
        somewhere i n (inl m) =
            let l : i < length old = (let w = slice_get_within mid i n m in let z = ending.long in omega arith) in
            on_left i n m (get_or old i n) (slice_get-get_or old i n l) (ended i) refl
        somewhere i n (inr m) = all_at (IsNode version lives (mid ++ more)) more (i - length mid) n new m

    -- the points of what ends, and of what begins over all keys on the same level or above
    pub points_lost : (l k v : ℕ) → k < top → v < now → count_by (at_point l k v) mid + tally (nat_eq level l && nat_le version v) ≡ tally (nat_lt l (height v))
    points_lost l k v kt vt =
        let lost = ending.points l k v vt in
        let same : (within 0 top k && within version now v) ≡ nat_le version v = (let a : within 0 top k ≡ true = grind (arith, nat_tests) in let b : nat_lt v now ≡ true = grind (arith, nat_tests) in rw (a, b) (keeps (nat_le version v))) in
        subst (λ x. count_by (at_point l k v) mid + tally (nat_eq level l && x) ≡ tally (nat_lt l (height v))) same (lost ∙ forest.tiles l k v kt vt)
      where
        keeps : (b : Bool) → (b && true) ≡ b
        keeps true = refl
        keeps false = refl

-- if nothing begins, the tree is one level lower from the version on
pub lower_tiles : (version level : ℕ) (height : ℕ → ℕ) (mid : List NodeState) → ((v : ℕ) → version ≤ v → v < now → height v ≡ level + 1) → ((l k v : ℕ) → k < top → v < now → count_by (at_point l k v) mid + tally (nat_eq level l && nat_le version v) ≡ tally (nat_lt l (height v))) → Tiles (raised height version level) (mid ++ [])
lower_tiles version level height mid highest lost l k v kt vt =
    let parts = sum_by-append (λ n. tally (at_point l k v n)) mid [] in
    split (nat_le version v) refl (lost l k v kt vt) parts
  where
    split : (b : Bool) → nat_le version v ≡ b → count_by (at_point l k v) mid + tally (nat_eq level l && b) ≡ tally (nat_lt l (height v)) → count_by (at_point l k v) (mid ++ []) ≡ count_by (at_point l k v) mid + 0 → count_by (at_point l k v) (mid ++ []) ≡ tally (nat_lt l (cond b level (height v)))
    split false s a p = omega (arith, p, a, off (nat_eq level l))
      where
        off : (x : Bool) → tally (x && false) ≡ 0
        off true = refl
        off false = refl
    split true s a p =
        let h = highest v (grind (arith, nat_tests)) vt in
        omega (arith, p, a, on h)
      where
        on : height v ≡ level + 1 → tally (nat_lt l level) + tally (nat_eq level l && true) ≡ tally (nat_lt l (height v))
        on h = rw h (grind (arith, nat_tests))

-- one node replaces the root
pub one_root : (version : ℕ) (lives : ℕ → ℕ → Bool) (height : ℕ → ℕ) (level : ℕ) (old mid made : List NodeState) (ended : ℕ → Bool) (added : List Entry) → version < now → IsForest version lives height old → IsEnding version level 0 top old mid ended → ((v : ℕ) → version ≤ v → v < now → height v ≡ level + 1) → IsMade version lives level 0 top old (length old) made added → IsForest version lives height (mid ++ made)
one_root version lives height level old mid made ended added small forest ending highest begins =
    rooted version lives height level old mid made ended small forest ending highest height
    (all_both (λ (n : NodeState). (n.level ≡ level) × (n.died ≡ now)) (IsNode version lives old) (IsNode version lives (mid ++ made)) (λ n f node. made_moves version lives height level old mid made ended small forest ending highest n f.0 node) made begins.fresh begins.each)
    (λ l k v kt vt. omega (arith, sum_by-append (λ n. tally (at_point l k v n)) mid made, ending.points l k v vt, begins.points l k v vt, forest.tiles l k v kt vt))

-- two nodes replace it, under a new root
module _ (version : ℕ) (lives : ℕ → ℕ → Bool) (height : ℕ → ℕ) (level : ℕ) (old mid made : List NodeState) (ended : ℕ → Bool) (added : List Entry)
    (small : version < now)
    (forest : IsForest version lives height old)
    (ending : IsEnding version level 0 top old mid ended)
    (highest : (v : ℕ) → version ≤ v → v < now → height v ≡ level + 1)
    (begins : IsMade version lives level 0 top old (length old) made added)
  where
    abbrev new_root : NodeState
    new_root = fresh (level + 1) 0 top version added []

    abbrev all_more : List NodeState
    all_more = made ++ new_root ∷ []

    root_branch : (e : Entry) → IsInside version 0 top e → IsEntryFor version level (length old) made e → IsBranch (mid ++ all_more) (fresh (level + 1) 0 top version [] []) e
    root_branch e i f =
        record {
          child = f.child;
          stands = ap (λ x. slice_get (mid ++ all_more) x) (f.number ∙ ap (λ x. x + f.place) (sym ending.long)) ∙ at_right mid all_more f.place ∙ at_left made (new_root ∷ []) f.place f.child f.stands;
          level = (let a = f.at_level in omega arith);
          low = f.low;
          high = f.high;
          born = f.born;
          life = λ v h. ap (λ x. nat_lt v x) (f.died ∙ sym i.dead);
        }

    root_copy : IsCopy version lives (mid ++ all_more) (level + 1) 0 top added
    root_copy =
        record {
          wide = lit< tt;
          in_keys = omega arith;
          inside = begins.inside;
          rows = λ z. absurd (omega arith);
          branches = λ z. all_both (IsInside version 0 top) (IsEntryFor version level (length old) made) (IsBranch (mid ++ all_more) (fresh (level + 1) 0 top version [] [])) root_branch added begins.inside begins.entries;
          lists = λ k v i s h. begins.covered k v s h ∙ (let z : nat_eq (level + 1) 0 ≡ false = grind (arith, nat_tests) in rw (i, z) refl);
        }

    root_tiles : Tiles (raised height version (level + 2)) (mid ++ all_more)
    root_tiles l k v kt vt =
        let a = sum_by-append (λ n. tally (at_point l k v n)) mid all_more in
        let b = sum_by-append (λ n. tally (at_point l k v n)) made (new_root ∷ []) in
        let c = sum_by-cons (λ n. tally (at_point l k v n)) new_root [] in
        let d = node_begins l k v version new_root refl refl in
        let here : (within 0 top k && within version now v) ≡ nat_le version v = (let x : within 0 top k ≡ true = grind (arith, nat_tests) in let y : nat_lt v now ≡ true = grind (arith, nat_tests) in rw (x, y) (keeps (nat_le version v))) in
        let d' : tally (at_point l k v new_root) ≡ tally (nat_eq (level + 1) l && nat_le version v) = d ∙ ap (λ x. tally (nat_eq (level + 1) l && x)) here in
        let f = split (nat_le version v) refl in
        omega (arith, a, b, c, d', ending.points l k v vt, begins.points l k v vt, forest.tiles l k v kt vt, f)
      where
        keeps : (b : Bool) → (b && true) ≡ b
        keeps true = refl
        keeps false = refl

        off : (x : Bool) → tally (x && false) ≡ 0
        off true = refl
        off false = refl

        split : (b : Bool) → nat_le version v ≡ b → tally (nat_lt l (height v)) + tally (nat_eq (level + 1) l && b) ≡ tally (nat_lt l (cond b (level + 2) (height v)))
        split false s = omega (arith, off (nat_eq (level + 1) l))
        split true s = let h = highest v (grind (arith, nat_tests)) vt in rw h (grind (arith, nat_tests))

    pub two_roots : IsForest version lives (raised height version (level + 2)) (mid ++ all_more)
    two_roots =
        rooted version lives height level old mid all_more ended small forest ending highest (raised height version (level + 2))
        (All-append (IsNode version lives (mid ++ all_more)) made (new_root ∷ [])
        (all_both (λ (n : NodeState). (n.level ≡ level) × (n.died ≡ now)) (IsNode version lives old) (IsNode version lives (mid ++ all_more)) (λ n f node. made_moves version lives height level old mid all_more ended small forest ending highest n f.0 node) made begins.fresh begins.each)
        (All-cons (IsNode version lives (mid ++ all_more)) new_root [] (begun version lives (mid ++ all_more) (level + 1) 0 top added small root_copy) (All-nil (IsNode version lives (mid ++ all_more)))))
        root_tiles
