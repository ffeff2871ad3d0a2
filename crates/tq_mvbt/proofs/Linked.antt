-- Links during an update: each step keeps that a leaf links exactly the leaves whose life ended when its own began.
use Rattle.std.proofs.Common.{◌≡◌, ◌≢◌, ℕ, zero, suc, ◌+◌, ◌-◌, ◌<◌, ◌≤◌, ◌⊎◌, inl, inr, List, [], ◌∷◌, ◌++◌, Bool, true, false, cond, length, set, ap, refl, sym, ◌∙◌, subst, arith, count_by, nat_eq, nat_lt, slice_get, Some, append_assoc}
use Rattle.std.specs.Prelude.{All}
use Rattle.std.proofs.lemmas.Bool.Decides.{nat_tests}
use Rattle.std.proofs.lemmas.Option.{slice_get_within}
use Rattle.std.proofs.lemmas.List.Elements.{All-nil, All-cons, All-head, All-tail, All-append, All-weaker}
use Rattle.std.proofs.lemmas.List.Sums.{sum_by-cons, sum_by-append}
use Rattle.tq_arena.specs.Contents.{Contents}
use Rattle.tq_mvbt.specs.declared.entry.Entry.{Entry}
use Rattle.tq_mvbt.specs.declared.node.Link.{Link}
use Rattle.tq_mvbt.specs.NodeState.{NodeState}
use Rattle.tq_mvbt.specs.Points.{now}
use Rattle.tq_mvbt.specs.Shape.{tally, IsNode}
use Rattle.tq_mvbt.specs.TreeState.{IsTree, lives_of}
use Rattle.tq_mvbt.specs.declared.root.Root.{Root}
use Rattle.tq_mvbt.specs.Steps.{retired, edited, fresh, Changes, PutsNodes}
use Rattle.tq_mvbt.specs.Links.{link_to, links_to, IsLinkTo, LinkJust, AreLinked, AreLinking, NoLeafBegun, AreUntouched, SomeLinking, KeepsLinks, UpdatesLinks}
use Rattle.tq_mvbt.proofs.Lists.{all_at}
use Rattle.tq_mvbt.proofs.Places.{at_set_same, at_set_other, at_left, at_append}

-- ---- leaves that ended at a version

-- the leaf with the number ended at the version, and has the range
pub record HasEnded (nodes : List NodeState) (version i low high : ℕ) : Type 0 where
  pub leaf : NodeState
  pub stands : slice_get nodes i ≡ Some leaf
  pub at_level : leaf.level ≡ 0
  pub died : leaf.died ≡ version
  pub low_is : leaf.low ≡ low
  pub high_is : leaf.high ≡ high

-- the same leaves ended at the version
pub record SameEnded (version : ℕ) (old new : List NodeState) : Type 0 where
  pub onward : (i : ℕ) (n : NodeState) → slice_get old i ≡ Some n → n.level ≡ 0 → n.died ≡ version → HasEnded new version i n.low n.high
  pub back : (i : ℕ) (n : NodeState) → slice_get new i ≡ Some n → n.level ≡ 0 → n.died ≡ version → HasEnded old version i n.low n.high

just_moves : (version : ℕ) (old new : List NodeState) (links : List Link) → SameEnded version old new → LinkJust old version links → LinkJust new version links
just_moves version old new links same just =
    record {
      back = All-weaker (IsLinkTo old version) (IsLinkTo new version) moved links just.back;
      once = λ i n e l d. let b = same.back i n e l d in just.once i b.leaf b.stands b.at_level b.died;
    }
  where
    moved : (l : Link) → IsLinkTo old version l → IsLinkTo new version l
    moved l t =
        let h = same.onward l.node.0 t.leaf t.stands t.at_level t.died in
        record { leaf = h.leaf; stands = h.stands; at_level = h.at_level; died = h.died; low = h.low_is ∙ t.low; high = h.high_is ∙ t.high }

-- a node after a step on it, as far as its links are concerned
pub record IsAlike (n m : NodeState) : Type 0 where
  pub level : m.level ≡ n.level
  pub low : m.low ≡ n.low
  pub high : m.high ≡ n.high
  pub born : m.born ≡ n.born
  pub links : m.links ≡ n.links

-- the node with the number, after a step on another node or on it
pub record WasAt (nodes : List NodeState) (p i : ℕ) (n m x : NodeState) : Type 0 where
  pub cases : ((p ≡ i) × (x ≡ m)) ⊎ (slice_get nodes i ≡ Some x)

was_at : (nodes : List NodeState) (p i : ℕ) (n m x : NodeState) → slice_get nodes p ≡ Some n → slice_get (set nodes p m) i ≡ Some x → WasAt nodes p i n m x
was_at nodes p i n m x e f = split (nat_eq p i) refl
  where
    split : (b : Bool) → nat_eq p i ≡ b → WasAt nodes p i n m x
    split true s =
        let at : p ≡ i = grind (arith, nat_tests) in
        let g : slice_get (set nodes p m) i ≡ Some m = subst (λ y. slice_get (set nodes p m) y ≡ Some m) at (at_set_same nodes p m (slice_get_within nodes p n e)) in
        record { cases = inl (at, (cc)) }
    split false s =
        let differ : p ≢ i = grind (arith, nat_tests) in
        record { cases = inr (sym (at_set_other nodes p i m differ) ∙ f) }

same_set : (version : ℕ) (nodes : List NodeState) (p : ℕ) (n m : NodeState) → slice_get nodes p ≡ Some n → IsAlike n m → (n.level ≡ 0 → n.died ≡ version → m.died ≡ version) → (n.level ≡ 0 → m.died ≡ version → n.died ≡ version) → SameEnded version nodes (set nodes p m)
same_set version nodes p n m e alike f g = record { onward = onward; back = λ i x h l d. back i x l d (was_at nodes p i n m x e h).cases }
  where
    onward : (i : ℕ) (x : NodeState) → slice_get nodes i ≡ Some x → x.level ≡ 0 → x.died ≡ version → HasEnded (set nodes p m) version i x.low x.high
    onward i x h l d = split (nat_eq p i) refl
      where
        split : (b : Bool) → nat_eq p i ≡ b → HasEnded (set nodes p m) version i x.low x.high
        split true s =
            let at : p ≡ i = grind (arith, nat_tests) in
            let e' : slice_get nodes i ≡ Some n = subst (λ y. slice_get nodes y ≡ Some n) at e in
            let same : n ≡ x = cc in
            let there : slice_get (set nodes p m) i ≡ Some m = subst (λ y. slice_get (set nodes p m) y ≡ Some m) at (at_set_same nodes p m (slice_get_within nodes p n e)) in
            let l' : n.level ≡ 0 = ap (λ (y : NodeState). y.level) same ∙ l in
            let d' : n.died ≡ version = ap (λ (y : NodeState). y.died) same ∙ d in
            record { leaf = m; stands = there; at_level = alike.level ∙ l'; died = f l' d'; low_is = alike.low ∙ ap (λ (y : NodeState). y.low) same; high_is = alike.high ∙ ap (λ (y : NodeState). y.high) same }
        split false s =
            let differ : p ≢ i = grind (arith, nat_tests) in
            record { leaf = x; stands = at_set_other nodes p i m differ ∙ h; at_level = l; died = d; low_is = refl; high_is = refl }

    back : (i : ℕ) (x : NodeState) → x.level ≡ 0 → x.died ≡ version → ((p ≡ i) × (x ≡ m)) ⊎ (slice_get nodes i ≡ Some x) → HasEnded nodes version i x.low x.high
    back i x l d (inr h) = record { leaf = x; stands = h; at_level = l; died = d; low_is = refl; high_is = refl }
    back i x l d (inl (at, same)) =
        let l' : n.level ≡ 0 = sym alike.level ∙ ap (λ (y : NodeState). y.level) (sym same) ∙ l in
        let d' : m.died ≡ version = ap (λ (y : NodeState). y.died) (sym same) ∙ d in
        record { leaf = n; stands = subst (λ y. slice_get nodes y ≡ Some n) at e; at_level = l'; died = g l' d'; low_is = sym alike.low ∙ ap (λ (y : NodeState). y.low) (sym same); high_is = sym alike.high ∙ ap (λ (y : NodeState). y.high) (sym same) }

same_append : (version : ℕ) (nodes made : List NodeState) → ((i : ℕ) (n : NodeState) → slice_get made i ≡ Some n → n.level ≡ 0 → n.died ≢ version) → SameEnded version nodes (nodes ++ made)
same_append version nodes made none =
    record {
      onward = λ i x h l d. record { leaf = x; stands = at_left nodes made i x h; at_level = l; died = d; low_is = refl; high_is = refl };
      back = λ i x h l d. back i x l d (at_append nodes made i x h);
    }
  where
    back : (i : ℕ) (x : NodeState) → x.level ≡ 0 → x.died ≡ version → (slice_get nodes i ≡ Some x) ⊎ (slice_get made (i - length nodes) ≡ Some x) → HasEnded nodes version i x.low x.high
    back i x l d (inl h) = record { leaf = x; stands = h; at_level = l; died = d; low_is = refl; high_is = refl }
    back i x l d (inr h) = absurd (none (i - length nodes) x h l d)

-- ---- steps that end no leaf

-- one node changes, and no leaf ends
pub linking_set : (version : ℕ) (links : List Link) (nodes : List NodeState) (p : ℕ) (n m : NodeState) → slice_get nodes p ≡ Some n → IsAlike n m → (n.level ≡ 0 → m.died ≡ n.died) → AreLinking version links nodes → AreLinking version links (set nodes p m)
linking_set version links nodes p n m e alike died l =
    record {
      before = λ i x h z b. before i x z b (was_at nodes p i n m x e h).cases;
      born = λ i x h z b. born i x z b (was_at nodes p i n m x e h).cases;
      after = λ i x h z b. after i x z b (was_at nodes p i n m x e h).cases;
      ended = just_moves version nodes (set nodes p m) links (same version) l.ended;
      index = λ i x h z. index i x z (was_at nodes p i n m x e h).cases;
    }
  where
    same : (v : ℕ) → SameEnded v nodes (set nodes p m)
    same v = same_set v nodes p n m e alike (λ z d. died z ∙ d) (λ z d. sym (died z) ∙ d)

    level_of : (x : NodeState) → x ≡ m → x.level ≡ n.level
    level_of x s = ap (λ (y : NodeState). y.level) s ∙ alike.level

    born_of : (x : NodeState) → x ≡ m → x.born ≡ n.born
    born_of x s = ap (λ (y : NodeState). y.born) s ∙ alike.born

    links_of : (x : NodeState) → x ≡ m → x.links ≡ n.links
    links_of x s = ap (λ (y : NodeState). y.links) s ∙ alike.links

    before : (i : ℕ) (x : NodeState) → x.level ≡ 0 → x.born < version → ((p ≡ i) × (x ≡ m)) ⊎ (slice_get nodes i ≡ Some x) → LinkJust (set nodes p m) x.born x.links
    before i x z b (inr h) = just_moves x.born nodes (set nodes p m) x.links (same x.born) (l.before i x h z b)
    before i x z b (inl (at, s)) =
        let b' = born_of x s in
        rw (b', links_of x s) (just_moves n.born nodes (set nodes p m) n.links (same n.born) (l.before p n e (sym (level_of x s) ∙ z) (omega arith)))

    born : (i : ℕ) (x : NodeState) → x.level ≡ 0 → x.born ≢ version → ((p ≡ i) × (x ≡ m)) ⊎ (slice_get nodes i ≡ Some x) → x.born < version
    born i x z b (inr h) = l.born i x h z b
    born i x z b (inl (at, s)) = let b' = born_of x s in let k = l.born p n e (sym (level_of x s) ∙ z) (λ y. b (b' ∙ y)) in omega arith

    after : (i : ℕ) (x : NodeState) → x.level ≡ 0 → x.born ≡ version → ((p ≡ i) × (x ≡ m)) ⊎ (slice_get nodes i ≡ Some x) → x.links ≡ links
    after i x z b (inr h) = l.after i x h z b
    after i x z b (inl (at, s)) = links_of x s ∙ l.after p n e (sym (level_of x s) ∙ z) (sym (born_of x s) ∙ b)

    index : (i : ℕ) (x : NodeState) → 0 < x.level → ((p ≡ i) × (x ≡ m)) ⊎ (slice_get nodes i ≡ Some x) → x.links ≡ []
    index i x z (inr h) = l.index i x h z
    index i x z (inl (at, s)) = let q = level_of x s in links_of x s ∙ l.index p n e (omega arith)

-- no leaf begins if one node changes
none_set : (version : ℕ) (nodes : List NodeState) (p : ℕ) (n m : NodeState) → slice_get nodes p ≡ Some n → IsAlike n m → NoLeafBegun version nodes → NoLeafBegun version (set nodes p m)
none_set version nodes p n m e alike none i x h z = split (was_at nodes p i n m x e h).cases
  where
    split : ((p ≡ i) × (x ≡ m)) ⊎ (slice_get nodes i ≡ Some x) → x.born < version
    split (inr g) = none i x g z
    split (inl (at, s)) =
        let b : x.born ≡ n.born = ap (λ (y : NodeState). y.born) s ∙ alike.born in
        let k = none p n e (sym alike.level ∙ ap (λ (y : NodeState). y.level) (sym s) ∙ z) in
        omega arith

pub linking_edited : (version low high at : ℕ) (links : List Link) (s t : Contents NodeState) (p : ℕ) (added : List Entry) → Changes s t p (edited low high at added) → AreLinking version links s.nodes → AreLinking version links t.nodes
linking_edited version low high at links s t p added change l =
    rw (change.nodes) (linking_set version links s.nodes p change.node (edited low high at added change.node) change.stands (record { level = refl; low = refl; high = refl; born = refl; links = refl }) (λ z. refl) l)

pub untouched_edited : (version low high at : ℕ) (s t : Contents NodeState) (p : ℕ) (added : List Entry) → Changes s t p (edited low high at added) → AreUntouched version s.nodes → AreUntouched version t.nodes
untouched_edited version low high at s t p added change u =
    record {
      linking = linking_edited version low high at [] s t p added change u.linking;
      none = rw (change.nodes) (none_set version s.nodes p change.node (edited low high at added change.node) change.stands (record { level = refl; low = refl; high = refl; born = refl; links = refl }) u.none);
    }

-- ---- a node ends

-- nothing links a node above the leaves
pub no_links : (p level : ℕ) (n : NodeState) → n.level ≡ level → 0 < level → links_to p n ≡ []
no_links p level n e h = let z : nat_eq n.level 0 ≡ false = grind (arith, nat_tests) in ap (λ b. cond b (link_to p n ∷ []) []) z

pub leaf_links : (p : ℕ) (n : NodeState) → n.level ≡ 0 → links_to p n ≡ link_to p n ∷ []
leaf_links p n e = let z : nat_eq n.level 0 ≡ true = grind (arith, nat_tests) in ap (λ b. cond b (link_to p n ∷ []) []) z

pub linking_index_retired : (version level last : ℕ) (links : List Link) (s t : Contents NodeState) (p : ℕ) (n : NodeState) → slice_get s.nodes p ≡ Some n → n.level ≡ level → 0 < level → Changes s t p (retired version last) → AreLinking version links s.nodes → AreLinking version links t.nodes
linking_index_retired version level last links s t p n e at h change l =
    let f = change.stands in
    let same : change.node ≡ n = cc in
    rw (change.nodes, same) (linking_set version links s.nodes p n (retired version last n) e (record { level = refl; low = refl; high = refl; born = refl; links = refl }) (λ z. absurd (omega arith)) l)

-- a leaf ends before any begins
module _ (version last : ℕ) (links : List Link) (s t : Contents NodeState) (p : ℕ) (n : NodeState)
    (small : version < now) (e : slice_get s.nodes p ≡ Some n) (leaf : n.level ≡ 0) (died : n.died ≡ now)
    (change : Changes s t p (retired version last)) (l : AreLinking version links s.nodes) (none : NoLeafBegun version s.nodes)
  where
    m : NodeState
    m = retired version last n

    abbrev mid : List NodeState
    mid = set s.nodes p (retired version last n)

    alike : IsAlike n (retired version last n)
    alike = record { level = refl; low = refl; high = refl; born = refl; links = refl }

    here : t.nodes ≡ mid
    here = (let f = change.stands in let same : change.node ≡ n = cc in change.nodes ∙ rw same)

    none_mid : NoLeafBegun version mid
    none_mid = none_set version s.nodes p n (retired version last n) e alike none

    same_before : (v : ℕ) → v < version → SameEnded v s.nodes mid
    same_before v h = same_set v s.nodes p n (retired version last n) e alike (λ z d. absurd (omega arith)) (λ z d. absurd (omega arith))

    n_there : slice_get mid p ≡ Some (retired version last n)
    n_there = at_set_same s.nodes p (retired version last n) (slice_get_within s.nodes p n e)

    others_kept : (x : Link) → IsLinkTo s.nodes version x → IsLinkTo mid version x
    others_kept x t = split (nat_eq p x.node.0) refl
      where
        split : (b : Bool) → nat_eq p x.node.0 ≡ b → IsLinkTo mid version x
        split false q =
            let differ : p ≢ x.node.0 = grind (arith, nat_tests) in
            record { leaf = t.leaf; stands = at_set_other s.nodes p x.node.0 (retired version last n) differ ∙ t.stands; at_level = t.at_level; died = t.died; low = t.low; high = t.high }
        split true q =
            let at : p ≡ x.node.0 = grind (arith, nat_tests) in
            let e' : slice_get s.nodes x.node.0 ≡ Some n = subst (λ y. slice_get s.nodes y ≡ Some n) at e in
            let f = t.stands in
            let same : n ≡ t.leaf = cc in
            let d : n.died ≡ version = ap (λ (y : NodeState). y.died) same ∙ t.died in
            absurd (omega arith)

    count_added : (i : ℕ) → count_by (λ (x : Link). nat_eq x.node.0 i) (links ++ link_to p n ∷ []) ≡ count_by (λ (x : Link). nat_eq x.node.0 i) links + tally (nat_eq p i)
    count_added i = omega (arith, sum_by-append (λ (x : Link). tally (nat_eq x.node.0 i)) links (link_to p n ∷ []), sum_by-cons (λ (x : Link). tally (nat_eq x.node.0 i)) (link_to p n) [])

    -- no link names the leaf so far
    none_yet : (xs : List Link) → All (IsLinkTo s.nodes version) xs → count_by (λ (x : Link). nat_eq x.node.0 p) xs ≡ 0
    none_yet [] a = refl
    none_yet (x ∷ xs) a =
        let t = All-head (IsLinkTo s.nodes version) x xs a in
        let off = zero x t (nat_eq x.node.0 p) refl in
        omega (arith, off, sum_by-cons (λ (x : Link). tally (nat_eq x.node.0 p)) x xs, none_yet xs (All-tail (IsLinkTo s.nodes version) x xs a))
      where
        zero : (x : Link) → IsLinkTo s.nodes version x → (b : Bool) → nat_eq x.node.0 p ≡ b → tally (nat_eq x.node.0 p) ≡ 0
        zero x t false q = ap tally q
        zero x t true q =
            let at : x.node.0 ≡ p = grind (arith, nat_tests) in
            let f : slice_get s.nodes p ≡ Some t.leaf = subst (λ y. slice_get s.nodes y ≡ Some t.leaf) at t.stands in
            let same : n ≡ t.leaf = cc in
            let d : n.died ≡ version = ap (λ (y : NodeState). y.died) same ∙ t.died in
            absurd (omega arith)

    once_of : (i : ℕ) (x : NodeState) → x.level ≡ 0 → x.died ≡ version → ((p ≡ i) × (x ≡ retired version last n)) ⊎ (slice_get s.nodes i ≡ Some x) → (b : Bool) → nat_eq p i ≡ b → count_by (λ (y : Link). nat_eq y.node.0 i) (links ++ link_to p n ∷ []) ≡ 1
    once_of i x z d c true q =
        let at : p ≡ i = grind (arith, nat_tests) in
        let one : tally (nat_eq p i) ≡ 1 = ap tally q in
        let zero : count_by (λ (y : Link). nat_eq y.node.0 i) links ≡ 0 = subst (λ j. count_by (λ (y : Link). nat_eq y.node.0 j) links ≡ 0) at (none_yet links l.ended.back) in
        omega (arith, count_added i, one, zero)
    once_of i x z d (inl (at, s')) false q = absurd (let w : nat_eq p i ≡ true = grind (arith, nat_tests) in cc)
    once_of i x z d (inr h) false q =
        let zero : tally (nat_eq p i) ≡ 0 = ap tally q in
        omega (arith, count_added i, zero, l.ended.once i x h z d)

    ended_just : LinkJust mid version (links ++ link_to p n ∷ [])
    ended_just =
        record {
          back = All-append (IsLinkTo mid version) links (link_to p n ∷ [])
              (All-weaker (IsLinkTo s.nodes version) (IsLinkTo mid version) others_kept links l.ended.back)
              (All-cons (IsLinkTo mid version) (link_to p n) [] (record { leaf = retired version last n; stands = n_there; at_level = leaf; died = refl; low = refl; high = refl }) (All-nil (IsLinkTo mid version)));
          once = λ i x h z d. once_of i x z d (was_at s.nodes p i n (retired version last n) x e h).cases (nat_eq p i) refl;
        }

    before_just : (i : ℕ) (x : NodeState) → x.level ≡ 0 → x.born < version → ((p ≡ i) × (x ≡ retired version last n)) ⊎ (slice_get s.nodes i ≡ Some x) → LinkJust mid x.born x.links
    before_just i x z b (inr h) = just_moves x.born s.nodes mid x.links (same_before x.born b) (l.before i x h z b)
    before_just i x z b (inl (at, q)) =
        let b' : x.born ≡ n.born = ap (λ (y : NodeState). y.born) q in
        let k' : x.links ≡ n.links = ap (λ (y : NodeState). y.links) q in
        rw (b', k') (just_moves n.born s.nodes mid n.links (same_before n.born (omega arith)) (l.before p n e leaf (omega arith)))

    index_just : (i : ℕ) (x : NodeState) → 0 < x.level → ((p ≡ i) × (x ≡ retired version last n)) ⊎ (slice_get s.nodes i ≡ Some x) → x.links ≡ []
    index_just i x z (inr h) = l.index i x h z
    index_just i x z (inl (at, q)) = let w : x.level ≡ n.level = ap (λ (y : NodeState). y.level) q in absurd (omega arith)

    pub leaf_retired : AreLinking version (links ++ link_to p n ∷ []) t.nodes
    leaf_retired =
        rw here (record {
          before = λ i x h z b. before_just i x z b (was_at s.nodes p i n (retired version last n) x e h).cases;
          born = λ i x h z b. none_mid i x h z;
          after = λ i x h z b. let k = none_mid i x h z in absurd (omega arith);
          ended = ended_just;
          index = λ i x h z. index_just i x z (was_at s.nodes p i n (retired version last n) x e h).cases;
        })

    pub none_retired : NoLeafBegun version t.nodes
    none_retired = rw here none_mid

-- ---- nodes begin

-- a node that begins at the version, with the links
pub record IsBegun (version : ℕ) (links : List Link) (n : NodeState) : Type 0 where
  pub born : n.born ≡ version
  pub died : n.died ≡ now
  pub linked : n.links ≡ links

pub linking_appended : (version : ℕ) (links : List Link) (nodes new made : List NodeState) → version < now → new ≡ nodes ++ made → ((i : ℕ) (n : NodeState) → slice_get made i ≡ Some n → n.level ≡ 0 → IsBegun version links n) → ((i : ℕ) (n : NodeState) → slice_get made i ≡ Some n → 0 < n.level → n.links ≡ []) → AreLinking version links nodes → AreLinking version links new
linking_appended version links nodes new made small is leaves above l =
    rw is (record {
      before = λ i x h z b. before i x z b (at_append nodes made i x h);
      born = λ i x h z b. born i x z b (at_append nodes made i x h);
      after = λ i x h z b. after i x z b (at_append nodes made i x h);
      ended = just_moves version nodes (nodes ++ made) links (same version small) l.ended;
      index = λ i x h z. index i x z (at_append nodes made i x h);
    })
  where
    same : (v : ℕ) → v < now → SameEnded v nodes (nodes ++ made)
    same v h = same_append v nodes made (λ i n e z d. let b = (leaves i n e z).died in absurd (omega arith))

    before : (i : ℕ) (x : NodeState) → x.level ≡ 0 → x.born < version → (slice_get nodes i ≡ Some x) ⊎ (slice_get made (i - length nodes) ≡ Some x) → LinkJust (nodes ++ made) x.born x.links
    before i x z b (inl h) = just_moves x.born nodes (nodes ++ made) x.links (same x.born (omega arith)) (l.before i x h z b)
    before i x z b (inr h) = let k = (leaves (i - length nodes) x h z).born in absurd (omega arith)

    born : (i : ℕ) (x : NodeState) → x.level ≡ 0 → x.born ≢ version → (slice_get nodes i ≡ Some x) ⊎ (slice_get made (i - length nodes) ≡ Some x) → x.born < version
    born i x z b (inl h) = l.born i x h z b
    born i x z b (inr h) = absurd (b (leaves (i - length nodes) x h z).born)

    after : (i : ℕ) (x : NodeState) → x.level ≡ 0 → x.born ≡ version → (slice_get nodes i ≡ Some x) ⊎ (slice_get made (i - length nodes) ≡ Some x) → x.links ≡ links
    after i x z b (inl h) = l.after i x h z b
    after i x z b (inr h) = (leaves (i - length nodes) x h z).linked

    index : (i : ℕ) (x : NodeState) → 0 < x.level → (slice_get nodes i ≡ Some x) ⊎ (slice_get made (i - length nodes) ≡ Some x) → x.links ≡ []
    index i x z (inl h) = l.index i x h z
    index i x z (inr h) = above (i - length nodes) x h z

-- ---- before and after an update

pub linked_from : (version : ℕ) (links : List Link) (nodes : List NodeState) → AreLinking version links nodes → AreLinked nodes
linked_from version links nodes l = record { leaves = λ i n e z. split i n e z (nat_eq n.born version) refl; index = l.index }
  where
    split : (i : ℕ) (n : NodeState) → slice_get nodes i ≡ Some n → n.level ≡ 0 → (b : Bool) → nat_eq n.born version ≡ b → LinkJust nodes n.born n.links
    split i n e z false s = let differ : n.born ≢ version = grind (arith, nat_tests) in l.before i n e z (l.born i n e z differ)
    split i n e z true s = let same : n.born ≡ version = grind (arith, nat_tests) in rw (same, l.after i n e z same) l.ended

pub untouched_from : (before version : ℕ) (nodes : List NodeState) → before < version → ((i : ℕ) (n : NodeState) → slice_get nodes i ≡ Some n → n.born ≤ before) → ((i : ℕ) (n : NodeState) → slice_get nodes i ≡ Some n → n.died ≢ version) → AreLinked nodes → AreUntouched version nodes
untouched_from before version nodes later born died linked =
    record {
      linking = record {
        before = λ i n e z b. linked.leaves i n e z;
        born = λ i n e z b. let k = born i n e in omega arith;
        after = λ i n e z b. let k = born i n e in absurd (omega arith);
        ended = record { back = All-nil (IsLinkTo nodes version); once = λ i n e z d. absurd (died i n e d) };
        index = linked.index;
      };
      none = λ i n e z. let k = born i n e in omega arith;
    }

pub some_linking : (version : ℕ) (nodes : List NodeState) → AreUntouched version nodes → SomeLinking version nodes
some_linking version nodes u = record { links = []; linking = u.linking }

-- ---- the calls together

-- the added nodes
pub record MadeWith (level version : ℕ) (links : List Link) (old new : List NodeState) : Type 0 where
  pub made : List NodeState
  pub nodes : new ≡ old ++ made
  pub at_level : All (λ n. n.level ≡ level) made
  pub begun : All (IsBegun version links) made

pub made_with : (level low high version : ℕ) (links : List Link) (s t : Contents NodeState) (items added : List Entry) → PutsNodes s t level low high version items added links → MadeWith level version links s.nodes t.nodes
made_with level low high version links s t items added puts = split (nat_lt (length items) 25) refl
  where
    split : (b : Bool) → nat_lt (length items) 25 ≡ b → MadeWith level version links s.nodes t.nodes
    split true e =
        let one = puts.few (grind (arith, nat_tests)) in
        let n = fresh level low high version items links in
        record {
          made = n ∷ [];
          nodes = one.puts.nodes;
          at_level = All-cons (λ (m : NodeState). m.level ≡ level) n [] refl (All-nil (λ (m : NodeState). m.level ≡ level));
          begun = All-cons (IsBegun version links) n [] (record { born = refl; died = refl; linked = refl }) (All-nil (IsBegun version links));
        }
    split false e =
        let two = puts.many (grind (arith, nat_tests)) in
        let n = fresh level low two.middle version two.lower links in
        let m = fresh level two.middle high version two.upper links in
        record {
          made = n ∷ m ∷ [];
          nodes = two.puts_upper.nodes ∙ ap (λ xs. xs ++ m ∷ []) two.puts_lower.nodes ∙ append_assoc s.nodes (n ∷ []) (m ∷ []);
          at_level = All-cons (λ (x : NodeState). x.level ≡ level) n (m ∷ []) refl (All-cons (λ (x : NodeState). x.level ≡ level) m [] refl (All-nil (λ (x : NodeState). x.level ≡ level)));
          begun = All-cons (IsBegun version links) n (m ∷ []) (record { born = refl; died = refl; linked = refl }) (All-cons (IsBegun version links) m [] (record { born = refl; died = refl; linked = refl }) (All-nil (IsBegun version links)));
        }

-- leaves are added
pub leaves_made : (version : ℕ) (links : List Link) (old new : List NodeState) → version < now → MadeWith 0 version links old new → AreLinking version links old → AreLinking version links new
leaves_made version links old new small made l =
    linking_appended version links old new made.made small made.nodes
    (λ i n e z. all_at (IsBegun version links) made.made i n made.begun e)
    (λ i n e z. let k = all_at (λ (m : NodeState). m.level ≡ 0) made.made i n made.at_level e in absurd (omega arith)) l

-- index nodes without links are added
pub index_made : (level version : ℕ) (links : List Link) (old new : List NodeState) → version < now → 0 < level → MadeWith level version [] old new → AreLinking version links old → AreLinking version links new
index_made level version links old new small h made l =
    linking_appended version links old new made.made small made.nodes
    (λ i n e z. let k = all_at (λ (m : NodeState). m.level ≡ level) made.made i n made.at_level e in absurd (omega arith))
    (λ i n e z. (all_at (IsBegun version []) made.made i n made.begun e).linked) l

-- one node ends and others replace it
pub renew_links : (level version last : ℕ) (zeroth first second : Contents NodeState) (p : ℕ) (n : NodeState) (links : List Link)
    → version < now → slice_get zeroth.nodes p ≡ Some n → n.level ≡ level → n.died ≡ now → Changes zeroth first p (retired version last) → links ≡ links_to p n
    → MadeWith level version links first.nodes second.nodes → KeepsLinks level version zeroth.nodes second.nodes
renew_links level version last zeroth first second p n links small e at died gone is made =
    record {
      leaves = λ z u.
          let leaf : n.level ≡ 0 = at ∙ z in
          let links_are : links ≡ link_to p n ∷ [] = is ∙ leaf_links p n leaf in
          let made' : MadeWith 0 version (link_to p n ∷ []) first.nodes second.nodes = subst (λ xs. MadeWith 0 version xs first.nodes second.nodes) links_are (subst (λ x. MadeWith x version links first.nodes second.nodes) z made) in
          record { links = link_to p n ∷ []; linking = leaves_made version (link_to p n ∷ []) first.nodes second.nodes small made' (leaf_retired version last [] zeroth first p n small e leaf died gone u.linking u.none) };
      index = λ h some.
          let made' : MadeWith level version [] first.nodes second.nodes = subst (λ xs. MadeWith level version xs first.nodes second.nodes) (is ∙ no_links p level n at h) made in
          record { links = some.links; linking = index_made level version some.links first.nodes second.nodes small h made' (linking_index_retired version level last some.links zeroth first p n e at h gone some.linking) };
    }

-- two nodes end and others replace them
pub merge_links : (level version last last' : ℕ) (zeroth half first second : Contents NodeState) (p q : ℕ) (n m : NodeState) (links : List Link)
    → version < now → slice_get zeroth.nodes p ≡ Some n → n.level ≡ level → n.died ≡ now → Changes zeroth half p (retired version last)
    → slice_get half.nodes q ≡ Some m → m.level ≡ level → m.died ≡ now → Changes half first q (retired version last') → links ≡ links_to p n ++ links_to q m
    → MadeWith level version links first.nodes second.nodes → KeepsLinks level version zeroth.nodes second.nodes
merge_links level version last last' zeroth half first second p q n m links small e at died gone e' at' died' gone' is made =
    record {
      leaves = λ z u.
          let leaf : n.level ≡ 0 = at ∙ z in
          let leaf' : m.level ≡ 0 = at' ∙ z in
          let links_are : links ≡ link_to p n ∷ link_to q m ∷ [] = is ∙ rw (leaf_links p n leaf, leaf_links q m leaf') refl in
          let made' : MadeWith 0 version (link_to p n ∷ link_to q m ∷ []) first.nodes second.nodes = subst (λ xs. MadeWith 0 version xs first.nodes second.nodes) links_are (subst (λ x. MadeWith x version links first.nodes second.nodes) z made) in
          let one = leaf_retired version last [] zeroth half p n small e leaf died gone u.linking u.none in
          let none = none_retired version last [] zeroth half p n small e leaf died gone u.linking u.none in
          record { links = link_to p n ∷ link_to q m ∷ []; linking = leaves_made version (link_to p n ∷ link_to q m ∷ []) first.nodes second.nodes small made' (leaf_retired version last' (link_to p n ∷ []) half first q m small e' leaf' died' gone' one none) };
      index = λ h some.
          let made' : MadeWith level version [] first.nodes second.nodes = subst (λ xs. MadeWith level version xs first.nodes second.nodes) (is ∙ rw (no_links p level n at h, no_links q level m at' h) refl) made in
          let one = linking_index_retired version level last some.links zeroth half p n e at h gone some.linking in
          record { links = some.links; linking = index_made level version some.links first.nodes second.nodes small h made' (linking_index_retired version level last' some.links half first q m e' at' h gone' one) };
    }

-- links stay the same if a node's entries are edited
pub keeps_edited : (level version low high at : ℕ) (old : List NodeState) (s t : Contents NodeState) (p : ℕ) (added : List Entry) → Changes s t p (edited low high at added) → KeepsLinks level version old s.nodes → KeepsLinks level version old t.nodes
keeps_edited level version low high at old s t p added change keeps =
    record {
      leaves = λ z u. let some = keeps.leaves z u in record { links = some.links; linking = linking_edited version low high at some.links s t p added change some.linking };
      index = λ h u. let some = keeps.index h u in record { links = some.links; linking = linking_edited version low high at some.links s t p added change some.linking };
    }

-- an index node without links is added
pub keeps_topped : (level version : ℕ) (old s t : List NodeState) (r : NodeState) → version < now → r.links ≡ [] → 0 < r.level → t ≡ s ++ r ∷ [] → KeepsLinks level version old s → KeepsLinks level version old t
keeps_topped level version old s t r small none high is keeps =
    record {
      leaves = λ z u. let some = keeps.leaves z u in record { links = some.links; linking = topped some.links some.linking };
      index = λ h u. let some = keeps.index h u in record { links = some.links; linking = topped some.links some.linking };
    }
  where
    is_r : (i : ℕ) (n : NodeState) → slice_get (r ∷ []) i ≡ Some n → r ≡ n
    is_r zero n e = cc
    is_r (suc i) n e = cc

    topped : (links : List Link) → AreLinking version links s → AreLinking version links t
    topped links l =
        linking_appended version links s t (r ∷ []) small is
        (λ i n e z. let same : r.level ≡ n.level = ap (λ (x : NodeState). x.level) (is_r i n e) in absurd (omega arith))
        (λ i n e z. ap (λ (x : NodeState). x.links) (sym (is_r i n e)) ∙ none) l

-- an index node ends alone
pub keeps_lowered : (level version last : ℕ) (s t : Contents NodeState) (p : ℕ) (n : NodeState) → slice_get s.nodes p ≡ Some n → n.level ≡ level → 0 < level → Changes s t p (retired version last) → KeepsLinks level version s.nodes t.nodes
keeps_lowered level version last s t p n e at h gone =
    record {
      leaves = λ z u. absurd (omega arith);
      index = λ k some. record { links = some.links; linking = linking_index_retired version level last some.links s t p n e at h gone some.linking };
    }

-- nothing changes
pub keeps_same : (level version : ℕ) (old new : List NodeState) → new ≡ old → KeepsLinks level version old new
keeps_same level version old new is = rw is (record { leaves = λ z u. some_linking version old u; index = λ h some. some })

-- ---- the whole update

-- an update reaches the next level
pub updates_up : (lower level version : ℕ) (old mid new : List NodeState) → 0 < level → UpdatesLinks lower version old mid → KeepsLinks lower version mid new → UpdatesLinks level version old new
updates_up lower level version old mid new above updates keeps = record { leaves = λ z. absurd (omega arith); index = λ h u. split u (nat_eq lower 0) refl }
  where
    split : AreUntouched version old → (b : Bool) → nat_eq lower 0 ≡ b → SomeLinking version new
    split u true s = let z : lower ≡ 0 = grind (arith, nat_tests) in keeps.leaves z (updates.leaves z u)
    split u false s = let h : 0 < lower = grind (arith, nat_tests) in keeps.index h (updates.index h u)

-- an update has reached the root
pub links_after : (level version : ℕ) (old mid new : List NodeState) → AreUntouched version old → UpdatesLinks level version old mid → KeepsLinks level version mid new → AreLinked new
links_after level version old mid new u updates keeps = split (nat_eq level 0) refl
  where
    split : (b : Bool) → nat_eq level 0 ≡ b → AreLinked new
    split true s = let z : level ≡ 0 = grind (arith, nat_tests) in let some = keeps.leaves z (updates.leaves z u) in linked_from version some.links new some.linking
    split false s = let h : 0 < level = grind (arith, nat_tests) in let some = keeps.index h (updates.index h u) in linked_from version some.links new some.linking

-- an update has not yet changed the leaves of a tree
pub tree_untouched : (before version : ℕ) (nodes : List NodeState) (roots : List Root) → before < version → version < now → IsTree before nodes roots → AreUntouched version nodes
tree_untouched before version nodes roots later small tree =
    untouched_from before version nodes later
    (λ i n e. (all_at (IsNode before (lives_of nodes) nodes) nodes i n tree.forest.each e).born)
    (λ i n e d. let k = (all_at (IsNode before (lives_of nodes) nodes) nodes i n tree.forest.each e).ended (omega arith) in omega arith)
    tree.linked
