-- One node is replaced by one or two: the calls together.
use Rattle.std.proofs.Common.{◌≡◌, ◌≢◌, ℕ, ◌+◌, ◌-◌, ◌<◌, ◌≤◌, List, [], ◌∷◌, ◌++◌, length, set, ap, refl, sym, ◌∙◌, subst, arith, filter, slice_get, Some, nat_eq, Bool, ◌||◌, ◌⊎◌, inl, inr, min, max, true, false, count_by, append_assoc, nat_lt, IfSome}
use Rattle.std.specs.Prelude.{All}
use Rattle.std.proofs.lemmas.List.{take_all}
use Rattle.tq_arena.specs.Contents.{Contents}
use Rattle.tq_mvbt.specs.declared.entry.Entry.{Entry}
use Rattle.tq_mvbt.specs.declared.node.Link.{Link}
use Rattle.tq_mvbt.specs.NodeState.{NodeState}
use Rattle.tq_mvbt.specs.Points.{now, is_live, within}
use Rattle.tq_mvbt.specs.Shape.{tally, IsNode, IsForest}
use Rattle.tq_mvbt.specs.Steps.{retired, edited, fresh, Changes, PutsNodes, HasRoom}
use Rattle.tq_mvbt.specs.Copies.{IsCopy}
use Rattle.tq_mvbt.specs.Unsettled.{IsFromBefore, IsUnsettled, IsWithinParent, AreAdjacent, HasFewLive}
use Rattle.std.proofs.lemmas.List.Sorted.{IsPermutation-append_comm}
use Rattle.std.proofs.lemmas.List.Sums.{count_by-le-length, length-filter}
use Rattle.std.proofs.lemmas.Bool.Decides.{nat_tests}
use Rattle.tq_mvbt.proofs.Losses.{range_cut}
use Rattle.tq_mvbt.proofs.Lists.{all_at}
use Rattle.tq_mvbt.proofs.Places.{at_set_other, at_left}
use Rattle.tq_mvbt.proofs.Copies.{copied, joined, reordered}
use Rattle.tq_mvbt.proofs.Ending.{IsEnding, ends_one, ends_two}
use Rattle.tq_mvbt.proofs.Made.{IsPut, put}
use Rattle.tq_mvbt.proofs.Replaced.{IsMade, replaced}

all_old : (version : ℕ) (n : NodeState) → IsFromBefore version 0 n → All (λ e. e.born < version) n.entries
all_old version n fb = subst (λ xs. All (λ e. e.born < version) xs) (take_all (length n.entries - 0) n.entries (omega arith)) fb.old

-- the parent's entries are edited last
pub closed : (version : ℕ) (lives : ℕ → ℕ → Bool) (height : ℕ → ℕ) (level low high : ℕ) (old mid : List NodeState) (ended : ℕ → Bool) (first second third : Contents NodeState) (items added : List Entry) (q : ℕ)
    → version < now → IsForest version lives height old → IsEnding version level low high old mid ended → first.nodes ≡ mid → IsPut version lives level low high old first second items added
    → (above : IsUnsettled version (level + 1) 0 old q) → above.node.low ≤ low → high ≤ above.node.high → slice_get mid q ≡ Some above.node
    → Changes second third q (edited low high version added) → IsForest version lives height third.nodes
closed version lives height level low high old mid ended first second third items added q small forest ending here puts above lower upper there change =
    let parent = above.node in
    let same_base : length first.nodes ≡ length old = ap length here ∙ ending.long in
    let begins : IsMade version lives level low high old (length old) puts.made added = subst (λ x. IsMade version lives level low high old x puts.made added) same_base puts.is_made in
    let all = replaced version lives height level low high old mid puts.made ended added q parent small forest ending begins above.stands above.at_level above.died above.from_before.born (all_old version parent above.from_before) lower upper in
    let second_is : second.nodes ≡ mid ++ puts.made = puts.nodes ∙ ap (λ xs. xs ++ puts.made) here in
    let still : slice_get second.nodes q ≡ Some parent = rw second_is (at_left mid puts.made q parent there) in
    let found = change.stands in
    let node_is : change.node ≡ parent = cc in
    let third_is : third.nodes ≡ set (mid ++ puts.made) q (edited low high version added parent) = change.nodes ∙ rw (second_is, node_is) in
    rw third_is all

-- what is copied from one node
pub renewed_copy : (version : ℕ) (lives : ℕ → ℕ → Bool) (height : ℕ → ℕ) (level last low high : ℕ) (nodes : List NodeState) (items : List Entry) (p : ℕ)
    → IsForest version lives height nodes → (loose : IsUnsettled version level last nodes p) → items ≡ filter is_live loose.node.entries → low ≡ loose.node.low → high ≡ loose.node.high → IsCopy version lives nodes level low high items
renewed_copy version lives height level last low high nodes items p forest loose items_are low_is high_is =
    let node = all_at (IsNode version lives nodes) nodes p loose.node forest.each loose.stands in
    rw (items_are, low_is, high_is, ← loose.at_level) (copied version lives nodes loose.node node loose.died)

pub renewed : {ls : List Link} → (version : ℕ) (lives : ℕ → ℕ → Bool) (height : ℕ → ℕ) (level last low high : ℕ) (zeroth first second third : Contents NodeState) (items added : List Entry) (p q : ℕ)
    → version < now → (loose : IsUnsettled version level last zeroth.nodes p) → IsUnsettled version (level + 1) 0 zeroth.nodes q → IsWithinParent zeroth.nodes p q
    → Changes zeroth first p (retired version last) → items ≡ filter is_live loose.node.entries → low ≡ loose.node.low → high ≡ loose.node.high
    → PutsNodes first second level low high version items added ls → Changes second third q (edited low high version added)
    → IsForest version lives height zeroth.nodes → IsForest version lives height third.nodes
renewed version lives height level last low high zeroth first second third items added p q small loose above under gone items_are low_is high_is puts change forest =
    let old = zeroth.nodes in
    let n = loose.node in
    let fb = loose.from_before in
    let e = loose.stands in
    let node = all_at (IsNode version lives old) old p n forest.each e in
    let born = λ (j : ℕ) (m : NodeState) (f : slice_get old j ≡ Some m). (all_at (IsNode version lives old) old j m forest.each f).born in
    let mid = set old p (retired version last n) in
    let ending : IsEnding version level low high old mid (λ x. nat_eq p x) = rw (low_is, high_is) (ends_one height version level last old p n forest.tiles small born e loose.at_level loose.died fb.born node.high fb.old fb.young) in
    let copy = renewed_copy version lives height level last low high old items p forest loose items_are low_is high_is in
    let gone_at = gone.stands in
    let gone_is : gone.node ≡ n = cc in
    let here : first.nodes ≡ mid = gone.nodes ∙ ap (λ m. set old p (retired version last m)) gone_is in
    let l1 = loose.at_level in
    let l2 = above.at_level in
    let differ : p ≢ q = λ (same : p ≡ q). let f : slice_get old q ≡ Some n = subst (λ x. slice_get old x ≡ Some n) same e in let g = above.stands in let both : n ≡ above.node = cc in let levels : n.level ≡ above.node.level = ap (λ (m : NodeState). m.level) both in omega arith in
    let there : slice_get mid q ≡ Some above.node = at_set_other old p q (retired version last n) differ ∙ above.stands in
    let u1 = under.child_stands in
    let u2 = under.above_stands in
    let a1 = above.stands in
    let child_is : under.child ≡ n = cc in
    let parent_is : under.above ≡ above.node = cc in
    let lower : above.node.low ≤ low = rw low_is (subst (λ (x : NodeState). above.node.low ≤ x.low) child_is (subst (λ (x : NodeState). x.low ≤ under.child.low) parent_is under.low)) in
    let upper : high ≤ above.node.high = rw high_is (subst (λ (x : NodeState). x.high ≤ above.node.high) child_is (subst (λ (x : NodeState). under.child.high ≤ x.high) parent_is under.high)) in
    closed version lives height level low high old mid (λ x. nat_eq p x) first second third items added q small forest ending here (put version lives level low high old first second items added small copy puts) above lower upper there change

-- a node with another number is unchanged
pub unchanged : (s t : Contents NodeState) (p q : ℕ) (f : NodeState → NodeState) (m : NodeState) → Changes s t p f → p ≢ q → slice_get s.nodes q ≡ Some m → slice_get t.nodes q ≡ Some m
unchanged s t p q f m change differ e = rw (change.nodes) (at_set_other s.nodes p q (f change.node) differ ∙ e)

pub levels_differ : (nodes : List NodeState) (p q level : ℕ) (n m : NodeState) → slice_get nodes p ≡ Some n → slice_get nodes q ≡ Some m → n.level ≡ level → m.level ≡ level + 1 → p ≢ q
levels_differ nodes p q level n m e f a b = λ (same : p ≡ q).
    let g : slice_get nodes q ≡ Some n = subst (λ x. slice_get nodes x ≡ Some n) same e in
    let both : n ≡ m = cc in
    let levels : n.level ≡ m.level = ap (λ (x : NodeState). x.level) both in
    omega arith

pub beside_differ : (nodes : List NodeState) (p q : ℕ) (n m : NodeState) → slice_get nodes p ≡ Some n → slice_get nodes q ≡ Some m → n.low < n.high → m.low < m.high → (n.high ≡ m.low) ⊎ (m.high ≡ n.low) → p ≢ q
beside_differ nodes p q n m e f a b touch = λ (same : p ≡ q).
    let g : slice_get nodes q ≡ Some n = subst (λ x. slice_get nodes x ≡ Some n) same e in
    let both : n ≡ m = cc in
    let lows : n.low ≡ m.low = ap (λ (x : NodeState). x.low) both in
    let highs : n.high ≡ m.high = ap (λ (x : NodeState). x.high) both in
    split touch lows highs
  where
    split : (n.high ≡ m.low) ⊎ (m.high ≡ n.low) → n.low ≡ m.low → n.high ≡ m.high → ⊥
    split (inl t) l h = omega arith
    split (inr t) l h = omega arith

-- the ranges of the two nodes are adjacent
pub touch_of : (nodes : List NodeState) (p s : ℕ) (n m : NodeState) → AreAdjacent nodes p s → slice_get nodes p ≡ Some n → slice_get nodes s ≡ Some m → (n.high ≡ m.low) ⊎ (m.high ≡ n.low)
touch_of nodes p s n m touching e f =
    let t1 = touching.one_stands in
    let t2 = touching.other_stands in
    let one_is : touching.one ≡ n = cc in
    let other_is : touching.other ≡ m = cc in
    subst (λ (x : NodeState). (n.high ≡ x.low) ⊎ (x.high ≡ n.low)) other_is (subst (λ (x : NodeState). (x.high ≡ touching.other.low) ⊎ (touching.other.high ≡ x.low)) one_is touching.touch)

-- the keys of both nodes are those of the range
pub sides_of : (low high : ℕ) (n m : NodeState) → n.low < n.high → m.low < m.high → low ≡ min n.low m.low → high ≡ max n.high m.high → (n.high ≡ m.low) ⊎ (m.high ≡ n.low) → (k : ℕ) → tally (within low high k) ≡ tally (within n.low n.high k) + tally (within m.low m.high k)
sides_of low high n m a b l h (inl t) k =
    let l' : low ≡ n.low = omega arith in
    let h' : high ≡ m.high = omega arith in
    rw (l', h', ← t) (range_cut n.low n.high m.high k (omega arith) (omega arith))
sides_of low high n m a b l h (inr t) k =
    let l' : low ≡ m.low = omega arith in
    let h' : high ≡ n.high = omega arith in
    let cut = range_cut m.low m.high n.high k (omega arith) (omega arith) in
    rw (l', h', ← t) (omega (arith, cut))

copy_of_both : (version : ℕ) (lives : ℕ → ℕ → Bool) (nodes : List NodeState) (level low high : ℕ) (n m : NodeState) → low ≡ min n.low m.low → high ≡ max n.high m.high → (n.high ≡ m.low) ⊎ (m.high ≡ n.low)
    → IsCopy version lives nodes level n.low n.high (filter is_live n.entries) → IsCopy version lives nodes level m.low m.high (filter is_live m.entries)
    → IsCopy version lives nodes level low high (filter is_live n.entries ++ filter is_live m.entries)
copy_of_both version lives nodes level low high n m l h (inl t) a b =
    let a1 = a.wide in
    let b1 = b.wide in
    let l' : low ≡ n.low = omega arith in
    let h' : high ≡ m.high = omega arith in
    let b' : IsCopy version lives nodes level n.high m.high (filter is_live m.entries) = subst (λ x. IsCopy version lives nodes level x m.high (filter is_live m.entries)) (sym t) b in
    rw (l', h') (joined version lives nodes level n.low n.high m.high (filter is_live n.entries) (filter is_live m.entries) a b')
copy_of_both version lives nodes level low high n m l h (inr t) a b =
    let a1 = a.wide in
    let b1 = b.wide in
    let l' : low ≡ m.low = omega arith in
    let h' : high ≡ n.high = omega arith in
    let a' : IsCopy version lives nodes level m.high n.high (filter is_live n.entries) = subst (λ x. IsCopy version lives nodes level x n.high (filter is_live n.entries)) (sym t) a in
    rw (l', h')
    (reordered version lives nodes level m.low n.high (filter is_live m.entries ++ filter is_live n.entries) (filter is_live n.entries ++ filter is_live m.entries)
    (IsPermutation-append_comm (filter is_live m.entries) (filter is_live n.entries))
    (joined version lives nodes level m.low m.high n.high (filter is_live m.entries) (filter is_live n.entries) b a'))

-- what is copied from both
pub merged_copy : (version : ℕ) (lives : ℕ → ℕ → Bool) (height : ℕ → ℕ) (level last low high : ℕ) (nodes : List NodeState) (items : List Entry) (p s : ℕ)
    → IsForest version lives height nodes → (loose : IsUnsettled version level last nodes p) → (beside : IsUnsettled version level 0 nodes s) → AreAdjacent nodes p s
    → items ≡ filter is_live loose.node.entries ++ filter is_live beside.node.entries → low ≡ min loose.node.low beside.node.low → high ≡ max loose.node.high beside.node.high → IsCopy version lives nodes level low high items
merged_copy version lives height level last low high nodes items p s forest loose beside touching items_are low_is high_is =
    let n = loose.node in
    let m = beside.node in
    let e = loose.stands in
    let f = beside.stands in
    let node = all_at (IsNode version lives nodes) nodes p n forest.each e in
    let its_node = all_at (IsNode version lives nodes) nodes s m forest.each f in
    let copy_n : IsCopy version lives nodes level n.low n.high (filter is_live n.entries) = subst (λ x. IsCopy version lives nodes x n.low n.high (filter is_live n.entries)) loose.at_level (copied version lives nodes n node loose.died) in
    let copy_m : IsCopy version lives nodes level m.low m.high (filter is_live m.entries) = subst (λ x. IsCopy version lives nodes x m.low m.high (filter is_live m.entries)) beside.at_level (copied version lives nodes m its_node beside.died) in
    rw items_are (copy_of_both version lives nodes level low high n m low_is high_is (touch_of nodes p s n m touching e f) copy_n copy_m)

pub merged : {ls : List Link} → (version : ℕ) (lives : ℕ → ℕ → Bool) (height : ℕ → ℕ) (level last low high : ℕ) (zeroth half first second third : Contents NodeState) (items added : List Entry) (p s q : ℕ)
    → version < now → (loose : IsUnsettled version level last zeroth.nodes p) → (beside : IsUnsettled version level 0 zeroth.nodes s) → IsUnsettled version (level + 1) 0 zeroth.nodes q → IsWithinParent zeroth.nodes p q → IsWithinParent zeroth.nodes s q → AreAdjacent zeroth.nodes p s
    → Changes zeroth half p (retired version last) → Changes half first s (retired version 0) → items ≡ filter is_live loose.node.entries ++ filter is_live beside.node.entries → low ≡ min loose.node.low beside.node.low → high ≡ max loose.node.high beside.node.high
    → PutsNodes first second level low high version items added ls → Changes second third q (edited low high version added)
    → IsForest version lives height zeroth.nodes → IsForest version lives height third.nodes
merged version lives height level last low high zeroth half first second third items added p s q small loose beside above under its_under touching gone its_gone items_are low_is high_is puts change forest =
    let old = zeroth.nodes in
    let n = loose.node in
    let m = beside.node in
    let fb = loose.from_before in
    let fb' = beside.from_before in
    let e = loose.stands in
    let f = beside.stands in
    let node = all_at (IsNode version lives old) old p n forest.each e in
    let its_node = all_at (IsNode version lives old) old s m forest.each f in
    let born = λ (j : ℕ) (x : NodeState) (g : slice_get old j ≡ Some x). (all_at (IsNode version lives old) old j x forest.each g).born in
    let touch = touch_of old p s n m touching e f in
    let w1 = node.wide in
    let w2 = its_node.wide in
    let k1 = node.high in
    let k2 = its_node.high in
    let differ : p ≢ s = beside_differ old p s n m e f w1 w2 touch in
    let mid = set (set old p (retired version last n)) s (retired version 0 m) in
    let ending = ends_two height version level low high last old p s n m forest.tiles small born e loose.at_level loose.died fb.born f beside.at_level beside.died fb'.born differ (omega arith)
    (omega arith) (omega arith) (omega arith) (omega arith) (sides_of low high n m w1 w2 low_is high_is touch) fb.old fb.young fb'.old fb'.young in
    let copy = merged_copy version lives height level last low high old items p s forest loose beside touching items_are low_is high_is in
    let gone_at = gone.stands in
    let gone_is : gone.node ≡ n = cc in
    let half_is : half.nodes ≡ set old p (retired version last n) = gone.nodes ∙ ap (λ x. set old p (retired version last x)) gone_is in
    let its_gone_at = its_gone.stands in
    let m_there = unchanged zeroth half p s (retired version last) m gone differ f in
    let its_gone_is : its_gone.node ≡ m = cc in
    let here : first.nodes ≡ mid = its_gone.nodes ∙ rw (half_is, its_gone_is) refl in
    let pq = levels_differ old p q level n above.node e above.stands loose.at_level above.at_level in
    let sq = levels_differ old s q level m above.node f above.stands beside.at_level above.at_level in
    let there : slice_get mid q ≡ Some above.node = at_set_other (set old p (retired version last n)) s q (retired version 0 m) sq ∙ at_set_other old p q (retired version last n) pq ∙ above.stands in
    let u1 = under.child_stands in
    let u2 = under.above_stands in
    let u3 = its_under.child_stands in
    let u4 = its_under.above_stands in
    let a1 = above.stands in
    let child_is : under.child ≡ n = cc in
    let parent_is : under.above ≡ above.node = cc in
    let its_child_is : its_under.child ≡ m = cc in
    let its_parent_is : its_under.above ≡ above.node = cc in
    let lower : above.node.low ≤ n.low = subst (λ (x : NodeState). above.node.low ≤ x.low) child_is (subst (λ (x : NodeState). x.low ≤ under.child.low) parent_is under.low) in
    let upper : n.high ≤ above.node.high = subst (λ (x : NodeState). x.high ≤ above.node.high) child_is (subst (λ (x : NodeState). under.child.high ≤ x.high) parent_is under.high) in
    let lower' : above.node.low ≤ m.low = subst (λ (x : NodeState). above.node.low ≤ x.low) its_child_is (subst (λ (x : NodeState). x.low ≤ its_under.child.low) its_parent_is its_under.low) in
    let upper' : m.high ≤ above.node.high = subst (λ (x : NodeState). x.high ≤ above.node.high) its_child_is (subst (λ (x : NodeState). its_under.child.high ≤ x.high) its_parent_is its_under.high) in
    closed version lives height level low high old mid (λ x. nat_eq p x || nat_eq s x) first second third items added q small forest ending here (put version lives level low high old first second items added small copy puts) above (omega arith) (omega arith) there change

pub siblings_differ : (nodes : List NodeState) (p s : ℕ) → AreAdjacent nodes p s → p ≢ s
siblings_differ nodes p s b = beside_differ nodes p s b.one b.other b.one_stands b.other_stands b.one_wide b.other_wide b.touch

-- there is room for what is copied
pub room_for_both : (version level last : ℕ) (s t : Contents NodeState) (p i : ℕ) (items : List Entry) → (loose : IsUnsettled version level last s.nodes p) → HasFewLive s.nodes p → (beside : IsUnsettled version level 0 s.nodes i) → AreAdjacent s.nodes p i → Changes s t p (retired version last) → items ≡ [] ++ filter is_live loose.node.entries → IfSome (slice_get t.nodes i) (λ n. length items + count_by is_live n.entries ≤ 40)
room_for_both version level last s t p i items loose thin beside touching gone are =
    let there = unchanged s t p i (retired version last) beside.node gone (siblings_differ s.nodes p i touching) beside.stands in
    let a = thin.stands in
    let b = loose.stands in
    let same : thin.node ≡ loose.node = cc in
    let few : count_by is_live loose.node.entries ≤ 7 = subst (λ (x : NodeState). count_by is_live x.entries ≤ 7) same thin.few in
    let many = beside.from_before.few in
    rw (there, are) (omega (arith, length-filter is_live loose.node.entries, few, many, count_by-le-length is_live beside.node.entries))

-- the parent has room for the entries
pub room_above : (version level last : ℕ) (s t u : Contents NodeState) (made : List NodeState) (v : Contents NodeState) (p i q k : ℕ) → (loose : IsUnsettled version level last s.nodes p) → (beside : IsUnsettled version level 0 s.nodes i) → (above : IsUnsettled version (level + 1) 0 s.nodes q) → Changes s t p (retired version last) → Changes t u i (retired version 0) → v.nodes ≡ u.nodes ++ made → k ≤ 2 → HasRoom v.nodes q k
room_above version level last s t u made v p i q k loose beside above gone its_gone more few =
    let parent = above.node in
    let pq = levels_differ s.nodes p q level loose.node parent loose.stands above.stands loose.at_level above.at_level in
    let iq = levels_differ s.nodes i q level beside.node parent beside.stands above.stands beside.at_level above.at_level in
    let one = unchanged s t p q (retired version last) parent gone pq above.stands in
    let two = unchanged t u i q (retired version 0) parent its_gone iq one in
    let room = above.from_before.few in
    record { node = parent; stands = rw more (at_left u.nodes made q parent two); room = omega arith }

-- the added nodes are at the end
pub appended : {ls : List Link} → (s t : Contents NodeState) (level low high version : ℕ) (items added : List Entry) → PutsNodes s t level low high version items added ls → (made : List NodeState) × (t.nodes ≡ s.nodes ++ made)
appended {ls} s t level low high version items added puts = split (nat_lt (length items) 25) refl
  where
    split : (b : Bool) → nat_lt (length items) 25 ≡ b → (made : List NodeState) × (t.nodes ≡ s.nodes ++ made)
    split true e = let one = puts.few (grind (arith, nat_tests)) in (fresh level low high version items ls ∷ [], one.puts.nodes)
    split false e =
        let two = puts.many (grind (arith, nat_tests)) in (
          fresh level low two.middle version two.lower ls ∷ fresh level two.middle high version two.upper ls ∷ [],
          two.puts_upper.nodes ∙ ap (λ xs. xs ++ fresh level two.middle high version two.upper ls ∷ []) two.puts_lower.nodes ∙ append_assoc s.nodes (fresh level low two.middle version two.lower ls ∷ []) (fresh level two.middle high version two.upper ls ∷ []),
        )
