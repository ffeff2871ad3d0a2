-- An update reaches the next level: a node was replaced, alone or with its sibling, and its parent was edited.
use Rattle.std.proofs.Common.{◌≡◌, ◌≢◌, ℕ, ◌+◌, ◌-◌, ◌<◌, ◌≤◌, ◌⊎◌, inl, inr, List, ◌++◌, Bool, true, false, length, set, ap, refl, sym, ◌∙◌, subst, arith, filter, count_by, slice_get, Some, nat_eq, min, max, length-append}
use Rattle.std.specs.Prelude.{All}
use Rattle.std.proofs.lemmas.Bool.Decides.{nat_tests}
use Rattle.std.proofs.lemmas.Option.{slice_get_within}
use Rattle.std.proofs.lemmas.List.Sums.{count_by-le-length, length-filter}
use Rattle.tq_arena.specs.Contents.{Contents}
use Rattle.tq_mvbt.specs.declared.entry.Entry.{Entry}
use Rattle.tq_mvbt.specs.NodeState.{NodeState}
use Rattle.tq_mvbt.specs.Points.{now, is_live}
use Rattle.tq_mvbt.specs.Shape.{IsNode, IsFilled, HasEnoughLive}
use Rattle.tq_mvbt.specs.Steps.{retired, edited, Changes}
use Rattle.tq_mvbt.specs.Copies.{IsInside}
use Rattle.tq_mvbt.specs.Unsettled.{IsFromBefore, IsUnsettled, IsWithinParent, AreAdjacent, IsForestBy, IsSettling, IsPartOf, IsCurrentNode}
use Rattle.tq_mvbt.proofs.Lists.{all_at, all_both}
use Rattle.tq_mvbt.proofs.Places.{at_set_same, at_set_other, at_left, at_append}
use Rattle.tq_mvbt.proofs.Filled.{filled_ends}
use Rattle.tq_mvbt.proofs.Replaced.{IsEntryFor}
use Rattle.tq_mvbt.proofs.Made.{IsPut}
use Rattle.tq_mvbt.proofs.Counts.{is_ended}
use Rattle.tq_mvbt.proofs.Settled.{IsNewEntry, edit_settles}
use Rattle.tq_mvbt.proofs.Renewed.{touch_of, sides_of, siblings_differ}
use Rattle.tq_mvbt.proofs.Parents.{enough_now, ends_one_entry, ends_two_entries}

-- the state after the old nodes end and before the parent is edited
pub record IsBetween (version level : ℕ) (mid : List NodeState) (q : ℕ) : Type 0 where
  pub filled : (i : ℕ) (m : NodeState) → slice_get mid i ≡ Some m → i ≢ q → IsFilled m
  pub above : (i : ℕ) (m : NodeState) → slice_get mid i ≡ Some m → level < m.level → i ≢ q → IsFromBefore version 0 m

-- the added nodes are filled, and the parent is edited
pub rises : (version level low high : ℕ) (lives : ℕ → ℕ → Bool) (old mid : List NodeState) (first second third : Contents NodeState) (items added : List Entry) (q : ℕ) (parent : NodeState)
    → version < now → first.nodes ≡ mid → (puts : IsPut version lives level low high old first second items added) → 5 ≤ length items → length items ≤ 40
    → IsBetween version level mid q → slice_get mid q ≡ Some parent → parent.level ≡ level + 1 → parent.died ≡ now → IsFromBefore version 0 parent → IsFilled parent → HasEnoughLive parent (count_by is_live parent.entries)
    → count_by (is_ended low high) parent.entries ≤ length added + 1
    → Changes second third q (edited low high version added) → IsSettling version (level + 1) (length added) third.nodes q
rises version level low high lives old mid first second third items added q parent small here puts many few between stands above died older filled enough ends change =
    let made = puts.made in
    let all_filled = puts.filled many few in
    let is_made = puts.is_made in
    let second_is : second.nodes ≡ mid ++ made = puts.nodes ∙ ap (λ xs. xs ++ made) here in
    let there : slice_get (mid ++ made) q ≡ Some parent = at_left mid made q parent stands in
    let still : slice_get second.nodes q ≡ Some parent = rw second_is there in
    let found = change.stands in
    let node_is : change.node ≡ parent = cc in
    let third_is : third.nodes ≡ set (mid ++ made) q (edited low high version added parent) = change.nodes ∙ rw (second_is, node_is) in
    let new : All (IsNewEntry version) added = all_both (IsInside version low high) (IsEntryFor version level (length first.nodes) made) (IsNewEntry version) (λ e i f. record { born = f.entry_born; dead = i.dead }) added is_made.inside is_made.entries in
    rw third_is
    (edit_settles version (level + 1) low high (mid ++ made) q parent added small there above died older
    (record { enough = λ v h s. filled.enough v s }) enough new puts.most ends
    (λ i m e differ. filled_at i m differ all_filled (at_append mid made i m e))
    (λ i m e l differ. above_at i m (omega arith) differ is_made.fresh (at_append mid made i m e)))
  where
    filled_at : (i : ℕ) (m : NodeState) → i ≢ q → All IsFilled puts.made → (slice_get mid i ≡ Some m) ⊎ (slice_get puts.made (i - length mid) ≡ Some m) → IsFilled m
    filled_at i m differ all (inl e) = between.filled i m e differ
    filled_at i m differ all (inr e) = all_at IsFilled puts.made (i - length mid) m all e

    above_at : (i : ℕ) (m : NodeState) → level < m.level → i ≢ q → All (λ (n : NodeState). (n.level ≡ level) × (n.died ≡ now)) puts.made → (slice_get mid i ≡ Some m) ⊎ (slice_get puts.made (i - length mid) ≡ Some m) → IsFromBefore version 0 m
    above_at i m l differ all (inl e) = between.above i m e l differ
    above_at i m l differ all (inr e) = let f = all_at (λ (n : NodeState). (n.level ≡ level) × (n.died ≡ now)) puts.made (i - length mid) m all e in let g = f.0 in absurd (omega arith)

-- the properties of the parent
parent_differs : (version level last : ℕ) (nodes : List NodeState) (p q : ℕ) → IsSettling version level last nodes p → (part : IsPartOf nodes level p q) → q ≢ p
parent_differs version level last nodes p q settling part = λ (same : q ≡ p).
    let l = part.above_level in
    let e = part.above_stands in
    let f = part.stands in
    let g : slice_get nodes p ≡ Some part.above = subst (λ x. slice_get nodes x ≡ Some part.above) same e in
    let both : part.above ≡ part.node = cc in
    let levels : part.above.level ≡ part.node.level = ap (λ (x : NodeState). x.level) both in
    let m = part.at_level in
    omega arith

pub parent_older : (version level last : ℕ) (nodes : List NodeState) (p q : ℕ) → IsSettling version level last nodes p → (part : IsPartOf nodes level p q) → IsFromBefore version 0 part.above
parent_older version level last nodes p q settling part =
    let l = part.above_level in
    settling.above q part.above part.above_stands (omega arith) (parent_differs version level last nodes p q settling part)

pub parent_filled : (version level last : ℕ) (nodes : List NodeState) (p q : ℕ) → IsSettling version level last nodes p → (part : IsPartOf nodes level p q) → IsFilled part.above
parent_filled version level last nodes p q settling part =
    settling.others q part.above part.above_stands (parent_differs version level last nodes p q settling part)

pub parent_loose : (version level last : ℕ) (nodes : List NodeState) (p q : ℕ) → IsSettling version level last nodes p → IsPartOf nodes level p q → IsUnsettled version (level + 1) 0 nodes q
parent_loose version level last nodes p q settling part =
    record { node = part.above; stands = part.above_stands; at_level = part.above_level; died = part.above_died; from_before = parent_older version level last nodes p q settling part }

pub part_under : (level : ℕ) (nodes : List NodeState) (p q : ℕ) → IsPartOf nodes level p q → IsWithinParent nodes p q
part_under level nodes p q part = record { child = part.node; above = part.above; child_stands = part.stands; above_stands = part.above_stands; low = part.part.low; high = part.part.high }

-- the node ends
pub retired_filled : (version level last : ℕ) (nodes : List NodeState) (p : ℕ) → version < now → (settling : IsSettling version level last nodes p) → IsFilled (retired version last settling.loose.node)
retired_filled version level last nodes p small settling =
    let fb = settling.loose.from_before in
    filled_ends version last settling.loose.node small settling.loose.died fb.few fb.within_items fb.young settling.before

pub renewed_settles : (version level last low high : ℕ) (zeroth first second third : Contents NodeState) (items added : List Entry) (p q : ℕ)
    → version < now → (settling : IsSettling version level last zeroth.nodes p) → (by : IsForestBy version zeroth.nodes) → (part : IsPartOf zeroth.nodes level p q)
    → 8 ≤ count_by is_live settling.loose.node.entries
    → Changes zeroth first p (retired version last) → items ≡ filter is_live settling.loose.node.entries → low ≡ settling.loose.node.low → high ≡ settling.loose.node.high
    → IsPut version by.lives level low high zeroth.nodes first second items added → Changes second third q (edited low high version added)
    → IsSettling version (level + 1) (length added) third.nodes q
renewed_settles version level last low high zeroth first second third items added p q small settling by part many gone items_are low_is high_is puts change =
    let old = zeroth.nodes in
    let loose = settling.loose in
    let n = loose.node in
    let e = loose.stands in
    let f = part.stands in
    let g = gone.stands in
    let n_is : part.node ≡ n = cc in
    let gone_is : gone.node ≡ n = cc in
    let mid = set old p (retired version last n) in
    let here : first.nodes ≡ mid = gone.nodes ∙ ap (λ m. set old p (retired version last m)) gone_is in
    let older = parent_older version level last old p q settling part in
    let parent = part.above in
    let filled = parent_filled version level last old p q settling part in
    let parent_node = all_at (IsNode version by.lives old) old q parent by.forest.each part.above_stands in
    let len = length-filter is_live n.entries in
    let most = count_by-le-length is_live n.entries in
    let fb = loose.from_before in
    let bound = fb.few in
    let two = settling.few in
    let items_len : length items ≡ count_by is_live n.entries = ap length items_are ∙ len in
    let l1 = loose.at_level in
    let l2 = part.above_level in
    let differ : p ≢ q = λ (same : p ≡ q). let h : slice_get old q ≡ Some n = subst (λ x. slice_get old x ≡ Some n) same e in let k = part.above_stands in let both : n ≡ parent = cc in let levels : n.level ≡ parent.level = ap (λ (m : NodeState). m.level) both in omega arith in
    let there : slice_get mid q ≡ Some parent = at_set_other old p q (retired version last n) differ ∙ part.above_stands in
    let lower : parent.low ≤ n.low = subst (λ (x : NodeState). parent.low ≤ x.low) n_is part.part.low in
    let upper : n.high ≤ parent.high = subst (λ (x : NodeState). x.high ≤ parent.high) n_is part.part.high in
    let ends = ends_one_entry version level by.lives by.height old q parent small by.forest part.above_stands part.above_level part.above_died p n e l1 loose.died lower upper in
    let ends' : count_by (is_ended low high) parent.entries ≤ 1 = rw (low_is, high_is) ends in
    rises version level low high by.lives old mid first second third items added q parent small here puts (omega arith) (omega arith)
    (record {
      filled = λ i m k d. filled_at i m d k (nat_eq p i) refl;
      above = λ i m k l d. above_at i m d l k (nat_eq p i) refl;
    })
    there part.above_level part.above_died older filled (enough_now version by.lives old parent small parent_node part.above_died filled)
    (let s = puts.some in omega arith) change
  where
    filled_at : (i : ℕ) (m : NodeState) → i ≢ q → slice_get (set zeroth.nodes p (retired version last settling.loose.node)) i ≡ Some m → (b : Bool) → nat_eq p i ≡ b → IsFilled m
    filled_at i m d k true s =
        let at : p ≡ i = grind (arith, nat_tests) in
        let h : slice_get (set zeroth.nodes p (retired version last settling.loose.node)) i ≡ Some (retired version last settling.loose.node) = subst (λ x. slice_get (set zeroth.nodes p (retired version last settling.loose.node)) x ≡ Some (retired version last settling.loose.node)) at (at_set_same zeroth.nodes p (retired version last settling.loose.node) (slice_get_within zeroth.nodes p settling.loose.node settling.loose.stands)) in
        let same : retired version last settling.loose.node ≡ m = cc in
        subst (λ (x : NodeState). IsFilled x) same (retired_filled version level last zeroth.nodes p small settling)
    filled_at i m d k false s =
        let differ : p ≢ i = grind (arith, nat_tests) in
        settling.others i m (sym (at_set_other zeroth.nodes p i (retired version last settling.loose.node) differ) ∙ k) (λ t. differ (sym t))

    above_at : (i : ℕ) (m : NodeState) → i ≢ q → level < m.level → slice_get (set zeroth.nodes p (retired version last settling.loose.node)) i ≡ Some m → (b : Bool) → nat_eq p i ≡ b → IsFromBefore version 0 m
    above_at i m d l k true s =
        let at : p ≡ i = grind (arith, nat_tests) in
        let h : slice_get (set zeroth.nodes p (retired version last settling.loose.node)) i ≡ Some (retired version last settling.loose.node) = subst (λ x. slice_get (set zeroth.nodes p (retired version last settling.loose.node)) x ≡ Some (retired version last settling.loose.node)) at (at_set_same zeroth.nodes p (retired version last settling.loose.node) (slice_get_within zeroth.nodes p settling.loose.node settling.loose.stands)) in
        let same : retired version last settling.loose.node ≡ m = cc in
        let levels : settling.loose.node.level ≡ m.level = ap (λ (x : NodeState). x.level) same in
        let at_level = settling.loose.at_level in
        absurd (omega arith)
    above_at i m d l k false s =
        let differ : p ≢ i = grind (arith, nat_tests) in
        settling.above i m (sym (at_set_other zeroth.nodes p i (retired version last settling.loose.node) differ) ∙ k) (omega arith) (λ t. differ (sym t))

-- the sibling is unchanged since before the version
pub sibling_older : (version level last : ℕ) (nodes : List NodeState) (p s : ℕ) → IsSettling version level last nodes p → AreAdjacent nodes p s → (standing : IsCurrentNode level nodes s) → IsFromBefore version 0 standing.node
sibling_older version level last nodes p s settling touching standing =
    let l = standing.at_level in
    settling.above s standing.node standing.stands (omega arith) (λ t. siblings_differ nodes p s touching (sym t))

pub sibling_loose : (version level last : ℕ) (nodes : List NodeState) (p s : ℕ) → IsSettling version level last nodes p → AreAdjacent nodes p s → IsCurrentNode level nodes s → IsUnsettled version level 0 nodes s
sibling_loose version level last nodes p s settling touching standing =
    record { node = standing.node; stands = standing.stands; at_level = standing.at_level; died = standing.died; from_before = sibling_older version level last nodes p s settling touching standing }

-- a whole node that ends is filled
whole_ends : (version : ℕ) (m : NodeState) → version < now → m.died ≡ now → IsFromBefore version 0 m → IsFilled m → IsFilled (retired version 0 m)
whole_ends version m small died older filled =
    filled_ends version 0 m small died older.few older.within_items older.young (record { enough = λ v h s. filled.enough v s })

module _ (version level last low high : ℕ) (zeroth half first second third : Contents NodeState) (items added : List Entry) (p s q : ℕ)
    (small : version < now)
    (settling : IsSettling version level last zeroth.nodes p)
    (by : IsForestBy version zeroth.nodes)
    (part : IsPartOf zeroth.nodes level p q)
    (touching : AreAdjacent zeroth.nodes p s)
    (its_under : IsWithinParent zeroth.nodes s q)
    (standing : IsCurrentNode level zeroth.nodes s)
    (thin : count_by is_live settling.loose.node.entries ≤ 7)
    (gone : Changes zeroth half p (retired version last))
    (its_gone : Changes half first s (retired version 0))
    (items_are : items ≡ filter is_live settling.loose.node.entries ++ filter is_live standing.node.entries)
    (low_is : low ≡ min settling.loose.node.low standing.node.low)
    (high_is : high ≡ max settling.loose.node.high standing.node.high)
    (puts : IsPut version by.lives level low high zeroth.nodes first second items added)
    (change : Changes second third q (edited low high version added))
  where
    abbrev old : List NodeState
    old = zeroth.nodes

    abbrev n : NodeState
    n = settling.loose.node

    abbrev m : NodeState
    m = standing.node

    abbrev mid : List NodeState
    mid = set (set old p (retired version last n)) s (retired version 0 m)

    each : (i : ℕ) (x : NodeState) → slice_get old i ≡ Some x → IsNode version by.lives old x
    each i x e = all_at (IsNode version by.lives old) old i x by.forest.each e

    p_not_s : p ≢ s
    p_not_s = siblings_differ old p s touching

    m_there : slice_get (set old p (retired version last n)) s ≡ Some m
    m_there = at_set_other old p s (retired version last n) p_not_s ∙ standing.stands

    n_gone : slice_get mid p ≡ Some (retired version last n)
    n_gone = at_set_other (set old p (retired version last n)) s p (retired version 0 m) (λ t. p_not_s (sym t)) ∙ at_set_same old p (retired version last n) (slice_get_within old p n settling.loose.stands)

    m_gone : slice_get mid s ≡ Some (retired version 0 m)
    m_gone = at_set_same (set old p (retired version last n)) s (retired version 0 m) (slice_get_within (set old p (retired version last n)) s m m_there)

    m_older : IsFromBefore version 0 m
    m_older = sibling_older version level last old p s settling touching standing

    m_filled : IsFilled m
    m_filled = settling.others s m standing.stands (λ t. p_not_s (sym t))

    here : first.nodes ≡ mid
    here =
        let e = settling.loose.stands in
        let g = gone.stands in
        let gone_is : gone.node ≡ n = cc in
        let half_is : half.nodes ≡ set old p (retired version last n) = gone.nodes ∙ ap (λ x. set old p (retired version last x)) gone_is in
        let h = its_gone.stands in
        let there : slice_get half.nodes s ≡ Some m = rw half_is m_there in
        let its_is : its_gone.node ≡ m = cc in
        its_gone.nodes ∙ rw (half_is, its_is) refl

    -- an element of the state in between
    which : (i : ℕ) (x : NodeState) → slice_get mid i ≡ Some x → (a b : Bool) → nat_eq p i ≡ a → nat_eq s i ≡ b → ((retired version last n ≡ x) ⊎ (retired version 0 m ≡ x)) ⊎ ((p ≢ i) × (s ≢ i) × (slice_get old i ≡ Some x))
    which i x k true b t u =
        let at : p ≡ i = grind (arith, nat_tests) in
        let h : slice_get mid i ≡ Some (retired version last n) = subst (λ y. slice_get mid y ≡ Some (retired version last n)) at n_gone in
        inl (inl cc)
    which i x k false true t u =
        let at : s ≡ i = grind (arith, nat_tests) in
        let h : slice_get mid i ≡ Some (retired version 0 m) = subst (λ y. slice_get mid y ≡ Some (retired version 0 m)) at m_gone in
        inl (inr cc)
    which i x k false false t u =
        let d1 : p ≢ i = grind (arith, nat_tests) in
        let d2 : s ≢ i = grind (arith, nat_tests) in
        inr (d1, d2, sym (at_set_other old p i (retired version last n) d1) ∙ sym (at_set_other (set old p (retired version last n)) s i (retired version 0 m) d2) ∙ k)

    filled_at : (i : ℕ) (x : NodeState) → ((retired version last n ≡ x) ⊎ (retired version 0 m ≡ x)) ⊎ ((p ≢ i) × (s ≢ i) × (slice_get old i ≡ Some x)) → IsFilled x
    filled_at i x (inl (inl t)) = subst (λ (y : NodeState). IsFilled y) t (retired_filled version level last old p small settling)
    filled_at i x (inl (inr t)) = subst (λ (y : NodeState). IsFilled y) t (whole_ends version m small standing.died m_older m_filled)
    filled_at i x (inr t) = settling.others i x t.2 (λ u. t.0 (sym u))

    above_at : (i : ℕ) (x : NodeState) → level < x.level → ((retired version last n ≡ x) ⊎ (retired version 0 m ≡ x)) ⊎ ((p ≢ i) × (s ≢ i) × (slice_get old i ≡ Some x)) → IsFromBefore version 0 x
    above_at i x l (inl (inl t)) = let a : n.level ≡ x.level = ap (λ (y : NodeState). y.level) t in let b = settling.loose.at_level in absurd (omega arith)
    above_at i x l (inl (inr t)) = let a : m.level ≡ x.level = ap (λ (y : NodeState). y.level) t in let b = standing.at_level in absurd (omega arith)
    above_at i x l (inr t) = settling.above i x t.2 (omega arith) (λ u. t.0 (sym u))

    between : IsBetween version level mid q
    between =
        record {
          filled = λ i x k d. filled_at i x (which i x k (nat_eq p i) (nat_eq s i) refl refl);
          above = λ i x k l d. above_at i x l (which i x k (nat_eq p i) (nat_eq s i) refl refl);
        }

    abbrev parent : NodeState
    parent = part.above

    not_parent : (i : ℕ) (x : NodeState) → slice_get old i ≡ Some x → x.level ≡ level → i ≢ q
    not_parent i x e l = λ (same : i ≡ q).
        let h : slice_get old q ≡ Some x = subst (λ y. slice_get old y ≡ Some x) same e in
        let k = part.above_stands in
        let both : x ≡ parent = cc in
        let levels : x.level ≡ parent.level = ap (λ (y : NodeState). y.level) both in
        let l2 = part.above_level in
        omega arith

    parent_there : slice_get mid q ≡ Some parent
    parent_there =
        at_set_other (set old p (retired version last n)) s q (retired version 0 m) (not_parent s m standing.stands standing.at_level)
        ∙ at_set_other old p q (retired version last n) (not_parent p n settling.loose.stands settling.loose.at_level) ∙ part.above_stands

    n_is : part.node ≡ n
    n_is = let e = settling.loose.stands in let f = part.stands in cc

    its_child : its_under.child ≡ m
    its_child = let e = its_under.child_stands in let f = standing.stands in cc

    its_parent : its_under.above ≡ parent
    its_parent = let e = its_under.above_stands in let f = part.above_stands in cc

    n_lower : parent.low ≤ n.low
    n_lower = subst (λ (x : NodeState). parent.low ≤ x.low) n_is part.part.low

    n_upper : n.high ≤ parent.high
    n_upper = subst (λ (x : NodeState). x.high ≤ parent.high) n_is part.part.high

    m_lower : parent.low ≤ m.low
    m_lower = subst (λ (x : NodeState). parent.low ≤ x.low) its_child (subst (λ (x : NodeState). x.low ≤ its_under.child.low) its_parent its_under.low)

    m_upper : m.high ≤ parent.high
    m_upper = subst (λ (x : NodeState). x.high ≤ parent.high) its_child (subst (λ (x : NodeState). its_under.child.high ≤ x.high) its_parent its_under.high)

    -- nearly enough live entries of one, and enough of the other
    n_many : 4 ≤ count_by is_live n.entries
    n_many = split (subst (λ (x : NodeState). (parent.low < x.low) ⊎ (x.high < parent.high)) n_is part.part.part)
      where
        split : (parent.low < n.low) ⊎ (n.high < parent.high) → 4 ≤ count_by is_live n.entries
        split (inl t) = settling.near.lower (omega arith)
        split (inr t) = let h = (each q parent part.above_stands).high in settling.near.upper (omega arith)

    touch : (n.high ≡ m.low) ⊎ (m.high ≡ n.low)
    touch = touch_of old p s n m touching settling.loose.stands standing.stands

    m_many : 5 ≤ count_by is_live m.entries
    m_many = split touch
      where
        enough : HasEnoughLive m (count_by is_live m.entries)
        enough = enough_now version by.lives old m small (each s m standing.stands) standing.died m_filled

        split : (n.high ≡ m.low) ⊎ (m.high ≡ n.low) → 5 ≤ count_by is_live m.entries
        split (inl t) = let w = (each p n settling.loose.stands).wide in enough.lower (omega arith)
        split (inr t) = let w = (each p n settling.loose.stands).wide in let h = (each p n settling.loose.stands).high in enough.upper (omega arith)

    long : length items ≡ count_by is_live n.entries + count_by is_live m.entries
    long = ap length items_are ∙ length-append (filter is_live n.entries) (filter is_live m.entries) ∙ (let a = length-filter is_live n.entries in let b = length-filter is_live m.entries in omega arith)

    ends : count_by (is_ended low high) parent.entries ≤ 2
    ends =
        let w1 = (each p n settling.loose.stands).wide in
        let w2 = (each s m standing.stands).wide in
        ends_two_entries version level by.lives by.height old q parent small by.forest part.above_stands part.above_level part.above_died p s low high n m
        settling.loose.stands settling.loose.at_level settling.loose.died standing.stands standing.at_level standing.died n_lower n_upper m_lower m_upper
        (sides_of low high n m w1 w2 low_is high_is touch)

    pub merged_settles : IsSettling version (level + 1) (length added) third.nodes q
    merged_settles =
        let filled = parent_filled version level last old p q settling part in
        let bound = m_older.few in
        let most = count_by-le-length is_live m.entries in
        rises version level low high by.lives old mid first second third items added q parent small here puts (omega (arith, long, n_many, m_many)) (omega (arith, long, thin, bound, most))
        between parent_there part.above_level part.above_died (parent_older version level last old p q settling part) filled
        (enough_now version by.lives old parent small (each q parent part.above_stands) part.above_died filled)
        (let x = ends in let y = puts.some in omega arith) change
