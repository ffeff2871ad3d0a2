-- The replacement of the root.
use Rattle.std.proofs.Common.{◌≡◌, ◌≢◌, ℕ, zero, suc, ◌+◌, ◌-◌, ◌<◌, ◌≤◌, List, [], ◌∷◌, ◌++◌, Bool, true, false, cond, ◌&&◌, length, set, ap, refl, sym, ◌∙◌, subst, arith, filter, count_by, slice_get, Some, nat_lt, nat_le, nat_eq, append_assoc, length-set, get_or}
use Rattle.std.specs.Prelude.{All}
use Rattle.std.specs.List.Sorted.{IsPartitionPoint}
use Rattle.std.specs.Option.{IfSome}
use Rattle.std.proofs.lemmas.Bool.Decides.{nat_tests}
use Rattle.std.proofs.lemmas.Option.{slice_get_within, get_or_from_slice_get, slice_get-get_or}
use Rattle.std.proofs.lemmas.List.Elements.{All-append, All-nil, All-cons, All-head}
use Rattle.std.proofs.lemmas.List.Sums.{count_by-le-length, length-filter, sum_by-cons}
use Rattle.tq_arena.specs.Contents.{Contents}
use Rattle.tq_mvbt.specs.declared.entry.Entry.{Entry}
use Rattle.tq_mvbt.specs.declared.node.Link.{Link}
use Rattle.tq_mvbt.specs.declared.root.Root.{Root}
use Rattle.tq_mvbt.specs.NodeState.{NodeState}
use Rattle.tq_mvbt.specs.Points.{now, within, covers, is_live}
use Rattle.tq_mvbt.specs.Shape.{top, tally, listed, IsNode, IsForest, IsBranch, IsFilled, raised}
use Rattle.tq_mvbt.specs.Steps.{retired, fresh, Changes, Puts, PutsNodes}
use Rattle.tq_mvbt.specs.Copies.{IsInside, IsCopy}
use Rattle.tq_mvbt.specs.Unsettled.{IsForestBy, IsSettling, HeightChanges}
use Rattle.tq_mvbt.specs.Directory.{last_root, root_of, IsTop}
use Rattle.tq_mvbt.proofs.Lists.{all_at}
use Rattle.tq_mvbt.proofs.Places.{at_set_same, at_set_other, at_right, all_from_places}
use Rattle.tq_mvbt.proofs.Copies.{copied}
use Rattle.tq_mvbt.proofs.Descent.{child_stands}
use Rattle.tq_mvbt.proofs.Ending.{IsEnding, ends_one}
use Rattle.tq_mvbt.proofs.Filled.{filled_root}
use Rattle.tq_mvbt.proofs.Made.{IsPut, put}
use Rattle.tq_mvbt.proofs.Replaced.{IsMade}
use Rattle.tq_mvbt.proofs.Rooted.{rooted, points_lost, lower_tiles, one_root, two_roots}
use Rattle.tq_mvbt.proofs.Rising.{retired_filled}
use Rattle.tq_mvbt.proofs.Parents.{filled_now}

-- ---- the directory

none_after : (roots : List Root) (r : Root) (v : ℕ) → ((j : ℕ) (x : Root) → slice_get roots j ≡ Some x → v < x.from) → last_root r roots v ≡ r
none_after [] r v f = refl
none_after (x ∷ roots) r v f =
    let h = f 0 x refl in
    let off : nat_le x.from v ≡ false = grind (arith, nat_tests) in
    rw off (none_after roots r v (λ j y e. f (suc j) y e))

-- the root is the one that begins at the version or earlier, and none after it does
pub root_is : (roots : List Root) (i : ℕ) (r before : Root) (v : ℕ) → slice_get roots i ≡ Some r → r.from ≤ v → ((j : ℕ) (x : Root) → i < j → slice_get roots j ≡ Some x → v < x.from) → last_root before roots v ≡ r
root_is [] i r before v e h f = cc
root_is (x ∷ roots) zero r before v e h f =
    let same : x ≡ r = cc in
    let on : nat_le r.from v ≡ true = grind (arith, nat_tests) in
    rw (same, on) (none_after roots r v (λ j y g. f (suc j) y (omega arith) g))
root_is (x ∷ roots) (suc i) r before v e h f =
    root_is roots i r (cond (nat_le x.from v) x before) v e h (λ j y l g. f (suc j) y (omega arith) g)

-- the position before the one that a search found
pub find_at : (roots : List Root) (i v : ℕ) (blank : Root) → 0 < length roots → IfSome (slice_get roots 0) (λ r. r.from ≡ 0) → i ≤ length roots
    → IsPartitionPoint (λ (r : Root). nat_le r.from v ≡ true) (λ (r : Root). nat_le r.from v ≡ false) roots i → (1 ≤ i) × (get_or roots (i - 1) blank ≡ root_of roots v)
find_at roots i v blank some first bound point = (one, found)
  where
    one : 1 ≤ i
    one = split (nat_eq i 0) refl
      where
        split : (b : Bool) → nat_eq i 0 ≡ b → 1 ≤ i
        split false s = grind (arith, nat_tests)
        split true s =
            let z : i ≡ 0 = grind (arith, nat_tests) in
            let e : slice_get roots 0 ≡ Some (get_or roots 0 blank) = slice_get-get_or roots 0 blank some in
            let f : (get_or roots 0 blank).from ≡ 0 = subst (λ o. IfSome o (λ r. r.from ≡ 0)) e first in
            let off = point.1 0 blank (omega arith) some in
            absurd (grind (arith, nat_tests))

    found : get_or roots (i - 1) blank ≡ root_of roots v
    found =
        let o = one in
        let l : i - 1 < length roots = omega arith in
        let e : slice_get roots (i - 1) ≡ Some (get_or roots (i - 1) blank) = slice_get-get_or roots (i - 1) blank l in
        let on = point.0 (i - 1) blank (omega arith) (omega arith) in
        let begins : (get_or roots (i - 1) blank).from ≤ v = grind (arith, nat_tests) in
        sym (root_is roots (i - 1) (get_or roots (i - 1) blank) (record { from = 0; node = 0; levels = 0 }) v e begins (λ j x h g. later j x (omega arith) g))
      where
        later : (j : ℕ) (x : Root) → i ≤ j → slice_get roots j ≡ Some x → v < x.from
        later j x h g =
            let w = slice_get_within roots j x g in
            let off = point.1 j x h w in
            let same : get_or roots j x ≡ x = get_or_from_slice_get roots j x x g in
            let off' : nat_le x.from v ≡ false = subst (λ (y : Root). nat_le y.from v ≡ false) same off in
            grind (arith, nat_tests)

-- ---- an unchanged height

pub raise_same : (version levels : ℕ) (lives : ℕ → ℕ → Bool) (height : ℕ → ℕ) (nodes : List NodeState) → ((v : ℕ) → version ≤ v → v < now → height v ≡ levels) → IsForest version lives height nodes → IsForest version lives (raised height version levels) nodes
raise_same version levels lives height nodes highest forest =
    record { each = forest.each; tiles = λ l k v kt vt. forest.tiles l k v kt vt ∙ ap (λ x. tally (nat_lt l x)) (same v vt (nat_le version v) refl) }
  where
    same : (v : ℕ) → v < now → (b : Bool) → nat_le version v ≡ b → height v ≡ cond b levels (height v)
    same v vt true s = highest v (grind (arith, nat_tests)) vt
    same v vt false s = refl

append-nil : {X : Type 0} (xs : List X) → xs ++ [] ≡ xs
append-nil [] = refl
append-nil (x ∷ xs) = ap (λ ys. x ∷ ys) (append-nil xs)

-- which of the two cases it was
pub few_from : {ls : List Link} → (s t : Contents NodeState) (level low high version : ℕ) (items added : List Entry) → PutsNodes s t level low high version items added ls → length added ≡ 1 → length items < 25
few_from s t level low high version items added puts one = split (nat_lt (length items) 25) refl
  where
    split : (b : Bool) → nat_lt (length items) 25 ≡ b → length items < 25
    split true e = grind (arith, nat_tests)
    split false e = let two = puts.many (grind (arith, nat_tests)) in let l = ap length two.added_is in absurd (omega arith)

pub many_from : {ls : List Link} → (s t : Contents NodeState) (level low high version : ℕ) (items added : List Entry) → PutsNodes s t level low high version items added ls → length added ≢ 1 → 25 ≤ length items
many_from s t level low high version items added puts more = split (nat_lt (length items) 25) refl
  where
    split : (b : Bool) → nat_lt (length items) 25 ≡ b → 25 ≤ length items
    split true e = let one = puts.few (grind (arith, nat_tests)) in let l : length added ≡ 1 = ap length one.added_is in absurd (more l)
    split false e = grind (arith, nat_tests)

pub single : {X : Type 0} (xs : List X) (d : X) → length xs ≡ 1 → xs ≡ get_or xs 0 d ∷ []
single [] d h = absurd (omega arith)
single (x ∷ []) d h = refl
single (x ∷ y ∷ xs) d h = absurd (omega arith)

pub first_there : {X : Type 0} (xs : List X) (d : X) → length xs ≡ 1 → slice_get xs 0 ≡ Some (get_or xs 0 d)
first_there xs d h = slice_get-get_or xs 0 d (omega arith)

-- the root has all keys
pub root_low : (version level last : ℕ) (nodes : List NodeState) (r : Root) → (settling : IsSettling version level last nodes r.node) → IsTop version nodes r → settling.loose.node.low ≡ 0
root_low version level last nodes r settling whole =
    let a = settling.loose.stands in
    let b = whole.stands in
    let same : whole.node ≡ settling.loose.node = cc in
    subst (λ (x : NodeState). x.low ≡ 0) same whole.low

pub root_high : (version level last : ℕ) (nodes : List NodeState) (r : Root) → (settling : IsSettling version level last nodes r.node) → IsTop version nodes r → settling.loose.node.high ≡ top
root_high version level last nodes r settling whole =
    let a = settling.loose.stands in
    let b = whole.stands in
    let same : whole.node ≡ settling.loose.node = cc in
    subst (λ (x : NodeState). x.high ≡ top) same whole.high

-- the root that remains has at most 32 entries, and enough live ones
pub fits_root : (version last : ℕ) (nodes : List NodeState) (r : Root) (least : ℕ) → version < now → 1 ≤ r.levels → IsForestBy version nodes → (settling : IsSettling version (r.levels - 1) last nodes r.node) → IsTop version nodes r
    → length settling.loose.node.entries ≤ 32 → least ≤ count_by is_live settling.loose.node.entries → (2 ≤ r.levels → least ≡ 2) → All IsFilled nodes
fits_root version last nodes r least small levels by settling whole fits enough index =
    let n = settling.loose.node in
    let node = all_at (IsNode version by.lives nodes) nodes r.node n by.forest.each settling.loose.stands in
    let low = root_low version (r.levels - 1) last nodes r settling whole in
    let high = root_high version (r.levels - 1) last nodes r settling whole in
    let l = settling.loose.at_level in
    let right = filled_now version by.lives nodes n small node settling.loose.died settling.before fits
    (record { lower = λ x. absurd (omega arith); upper = λ x. absurd (omega arith); index = λ x. let two = index (omega arith) in omega arith }) in
    all_from_places IsFilled nodes (λ i m e. split i m e (nat_eq r.node i) refl right)
  where
    split : (i : ℕ) (m : NodeState) → slice_get nodes i ≡ Some m → (b : Bool) → nat_eq r.node i ≡ b → IsFilled settling.loose.node → IsFilled m
    split i m e true s right =
        let at : r.node ≡ i = grind (arith, nat_tests) in
        let g : slice_get nodes i ≡ Some settling.loose.node = subst (λ y. slice_get nodes y ≡ Some settling.loose.node) at settling.loose.stands in
        let same : settling.loose.node ≡ m = cc in
        subst (λ (y : NodeState). IsFilled y) same right
    split i m e false s right = let differ : r.node ≢ i = grind (arith, nat_tests) in settling.others i m e (λ t. differ (sym t))

-- the root ended, and its live entries were copied
module _ (version level last : ℕ) (zeroth first : Contents NodeState) (items : List Entry) (p : ℕ)
    (small : version < now)
    (settling : IsSettling version level last zeroth.nodes p)
    (low : settling.loose.node.low ≡ 0)
    (high : settling.loose.node.high ≡ top)
    (gone : Changes zeroth first p (retired version last))
    (items_are : items ≡ filter is_live settling.loose.node.entries)
  where
    abbrev old : List NodeState
    old = zeroth.nodes

    abbrev n : NodeState
    n = settling.loose.node

    abbrev mid : List NodeState
    mid = set old p (retired version last n)

    here : first.nodes ≡ mid
    here =
        let e = settling.loose.stands in
        let g = gone.stands in
        let gone_is : gone.node ≡ n = cc in
        gone.nodes ∙ ap (λ m. set old p (retired version last m)) gone_is

    ending : (lives : ℕ → ℕ → Bool) (height : ℕ → ℕ) → IsForest version lives height old → IsEnding version level 0 top old mid (λ x. nat_eq p x)
    ending lives height forest =
        let fb = settling.loose.from_before in
        let node = all_at (IsNode version lives old) old p n forest.each settling.loose.stands in
        let born = λ (j : ℕ) (m : NodeState) (f : slice_get old j ≡ Some m). (all_at (IsNode version lives old) old j m forest.each f).born in
        subst (λ x. IsEnding version level x top old mid (λ y. nat_eq p y)) low
        (subst (λ x. IsEnding version level n.low x old mid (λ y. nat_eq p y)) high
        (ends_one height version level last old p n forest.tiles small born settling.loose.stands settling.loose.at_level settling.loose.died fb.born node.high fb.old fb.young))

    copy : (lives : ℕ → ℕ → Bool) (height : ℕ → ℕ) → IsForest version lives height old → IsCopy version lives old level 0 top items
    copy lives height forest =
        let node = all_at (IsNode version lives old) old p n forest.each settling.loose.stands in
        let l = settling.loose.at_level in
        rw items_are
        (subst (λ x. IsCopy version lives old level 0 x (filter is_live n.entries)) high
        (subst (λ x. IsCopy version lives old level x n.high (filter is_live n.entries)) low
        (subst (λ x. IsCopy version lives old x n.low n.high (filter is_live n.entries)) l (copied version lives old n node settling.loose.died))))

    mid_filled : All IsFilled mid
    mid_filled = all_from_places IsFilled mid (λ i m e. split i m e (nat_eq p i) refl)
      where
        split : (i : ℕ) (m : NodeState) → slice_get mid i ≡ Some m → (b : Bool) → nat_eq p i ≡ b → IsFilled m
        split i m e true s =
            let at : p ≡ i = grind (arith, nat_tests) in
            let h : slice_get mid i ≡ Some (retired version last n) = subst (λ x. slice_get mid x ≡ Some (retired version last n)) at (at_set_same old p (retired version last n) (slice_get_within old p n settling.loose.stands)) in
            let same : retired version last n ≡ m = cc in
            subst (λ (x : NodeState). IsFilled x) same (retired_filled version level last old p small settling)
        split i m e false s =
            let differ : p ≢ i = grind (arith, nat_tests) in
            settling.others i m (sym (at_set_other old p i (retired version last n) differ) ∙ e) (λ t. differ (sym t))

    count_len : length items ≡ count_by is_live n.entries
    count_len = ap length items_are ∙ length-filter is_live n.entries

    pub items_few : length items ≤ 34
    items_few =
        let c = count_len in
        let most = count_by-le-length is_live n.entries in
        let f = settling.loose.from_before.few in
        let t = settling.few in
        omega arith

    pub first_filled : All IsFilled first.nodes
    first_filled = rw here mid_filled

    -- ---- one live child: it replaces the root

    pub lowered : HeightChanges version (level + 1) level old first.nodes
    lowered lives height highest forest =
        let e = ending lives height forest in
        let lost = points_lost version lives height level old mid [] (λ x. nat_eq p x) small forest e highest in
        let tiles = lower_tiles version level height mid highest lost in
        let all = rooted version lives height level old mid [] (λ x. nat_eq p x) small forest e highest (raised height version level) (All-nil (IsNode version lives (mid ++ []))) tiles in
        rw here (subst (λ (xs : List NodeState). IsForest version lives (raised height version level) xs) (append-nil mid) all)

    pub child_top : IsForestBy version old → 0 < level → (x : Entry) → items ≡ x ∷ [] → IsTop version first.nodes (record { from = version; node = x.child; levels = level })
    child_top by above x one =
        let it = copy by.lives by.height by.forest in
        let inside = All-head (IsInside version 0 top) x [] (subst (λ (xs : List Entry). All (IsInside version 0 top) xs) one it.inside) in
        let b = All-head (IsBranch old (fresh level 0 top version [] [])) x [] (subst (λ (xs : List Entry). All (IsBranch old (fresh level 0 top version [] [])) xs) one (it.branches above)) in
        let node = all_at (IsNode version by.lives old) old x.child b.child by.forest.each b.stands in
        let l = settling.loose.at_level in
        let bl = b.level in
        let differ : p ≢ x.child = λ (same : p ≡ x.child).
        let f : slice_get old x.child ≡ Some n = subst (λ y. slice_get old y ≡ Some n) same settling.loose.stands in
        let g = b.stands in
        let both : b.child ≡ n = cc in
        let levels : b.child.level ≡ n.level = ap (λ (y : NodeState). y.level) both in
        omega arith in
        let kept : slice_get mid x.child ≡ Some b.child = at_set_other old p x.child (retired version last n) differ ∙ b.stands in
        let holds_all = λ (k : ℕ) (h : k < top). let c = it.lists k version (let t : within 0 top k ≡ true = grind (arith, nat_tests) in t) (omega arith) small in in_it x one k h c in
        let lo = holds_all 0 (omega arith) in
        let hi = holds_all (top - 1) (omega arith) in
        let i1 = inside.below in
        let b2 = b.low in
        let b3 = b.high in
        let d = inside.dead in
        record {
          node = b.child;
          stands = subst (λ (xs : List NodeState). slice_get xs x.child ≡ Some b.child) (sym here) kept;
          level = omega arith;
          low = (let a = lo.0 in omega arith);
          high = (let a = hi.1 in omega arith);
          born = node.born;
          died = child_stands b.child.died x.dead now refl d node.ends b.life;
        }
      where
        in_it : (x : Entry) → items ≡ x ∷ [] → (k : ℕ) → k < top → count_by (covers k version) items ≡ listed by.lives level k version → (x.low ≤ k) × (k < x.high)
        in_it x one k h c =
            let s = sum_by-cons (λ (e : Entry). tally (covers k version e)) x [] in
            let i : count_by (covers k version) (x ∷ []) ≡ 1 = subst (λ xs. count_by (covers k version) xs ≡ listed by.lives level k version) one c ∙ (let z : nat_eq level 0 ≡ false = grind (arith, nat_tests) in rw z refl) in
            split (within x.low x.high k) refl (omega (arith, s, i))
          where
            split : (w : Bool) → within x.low x.high k ≡ w → tally (w && within x.born x.dead version) ≡ 1 → (x.low ≤ k) × (k < x.high)
            split true s t = (grind (arith, nat_tests), grind (arith, nat_tests))
            split false s t = absurd (omega arith)

    -- ---- one new node replaces the root

    is_made : {ls : List Link} → (second : Contents NodeState) (added : List Entry) → PutsNodes first second level 0 top version items added ls → (lives : ℕ → ℕ → Bool) (height : ℕ → ℕ) → IsForest version lives height old → IsPut version lives level 0 top old first second items added
    is_made second added puts lives height forest = put version lives level 0 top old first second items added small (copy lives height forest) puts

    base : length first.nodes ≡ length old
    base = ap length here ∙ length-set old p (retired version last n)

    pub same_height : {ls : List Link} → (second : Contents NodeState) (added : List Entry) → PutsNodes first second level 0 top version items added ls → HeightChanges version (level + 1) (level + 1) old second.nodes
    same_height second added puts lives height highest forest =
        let it = is_made second added puts lives height forest in
        let made : IsMade version lives level 0 top old (length old) it.made added = subst (λ x. IsMade version lives level 0 top old x it.made added) base it.is_made in
        let second_is : second.nodes ≡ mid ++ it.made = it.nodes ∙ ap (λ xs. xs ++ it.made) here in
        let all = one_root version lives height level old mid it.made (λ x. nat_eq p x) added small forest (ending lives height forest) highest made in
        rw second_is (raise_same version (level + 1) lives height (mid ++ it.made) highest all)

    pub one_top : {ls : List Link} → (second : Contents NodeState) (added : List Entry) (x : Entry) → (puts : PutsNodes first second level 0 top version items added ls) → length items < 25 → slice_get added 0 ≡ Some x → IsTop version second.nodes (record { from = version; node = x.child; levels = level + 1 })
    one_top {ls} second added x puts few at =
        let one = puts.few few in
        let f = fresh level 0 top version items ls in
        let entry_is : one.entry ≡ x = (let a = one.added_is in let b : slice_get (one.entry ∷ []) 0 ≡ Some x = subst (λ xs. slice_get xs 0 ≡ Some x) a at in cc) in
        let number : x.child ≡ length first.nodes + 0 = ap (λ (e : Entry). e.child) (sym entry_is ∙ one.puts.entry_is) ∙ omega arith in
        record {
          node = f;
          stands = rw (number, one.puts.nodes) (at_right first.nodes (f ∷ []) 0);
          level = refl;
          low = refl;
          high = refl;
          born = omega arith;
          died = refl;
        }

    pub one_filled : {ls : List Link} → IsForestBy version old → (second : Contents NodeState) (added : List Entry) → (puts : PutsNodes first second level 0 top version items added ls) → length items < 25 → (0 < level → length items ≢ 1) → All IsFilled second.nodes
    one_filled {ls} by second added puts few many =
        let one = puts.few few in
        let f = fresh level 0 top version items ls in
        let inside = (copy by.lives by.height by.forest).inside in
        let c = count_len in
        rw (one.puts.nodes)
        (All-append IsFilled first.nodes (f ∷ []) first_filled
        (All-cons IsFilled f [] (filled_root level version items inside (λ h. let a = many h in let b = settling.near.index (let l = settling.loose.at_level in omega arith) in omega arith) (omega arith)) (All-nil IsFilled)))

    -- ---- two nodes under a new root

    module _ {ls : List Link} (second third : Contents NodeState) (added : List Entry) (entry : Entry)
        (puts : PutsNodes first second level 0 top version items added ls)
        (many : 25 ≤ length items)
        (last_put : Puts second third (fresh (level + 1) 0 top version added []) entry)
      where
        pub higher : HeightChanges version (level + 1) (level + 2) old third.nodes
        higher lives height highest forest =
            let it = is_made second added puts lives height forest in
            let made : IsMade version lives level 0 top old (length old) it.made added = subst (λ x. IsMade version lives level 0 top old x it.made added) base it.is_made in
            let second_is : second.nodes ≡ mid ++ it.made = it.nodes ∙ ap (λ xs. xs ++ it.made) here in
            let r = fresh (level + 1) 0 top version added [] in
            let third_is : third.nodes ≡ mid ++ (it.made ++ r ∷ []) = last_put.nodes ∙ ap (λ xs. xs ++ r ∷ []) second_is ∙ append_assoc mid it.made (r ∷ []) in
            rw third_is (two_roots version lives height level old mid it.made (λ x. nat_eq p x) added small forest (ending lives height forest) highest made)

        pub two_top : IsTop version third.nodes (record { from = version; node = entry.child; levels = level + 2 })
        two_top =
            let r = fresh (level + 1) 0 top version added [] in
            let number : entry.child ≡ length second.nodes + 0 = ap (λ (e : Entry). e.child) last_put.entry_is ∙ omega arith in
            record {
              node = r;
              stands = rw (number, last_put.nodes) (at_right second.nodes (r ∷ []) 0);
              level = omega arith;
              low = refl;
              high = refl;
              born = omega arith;
              died = refl;
            }

        pub two_filled : IsForestBy version old → All IsFilled third.nodes
        two_filled by =
            let it = is_made second added puts by.lives by.height by.forest in
            let r = fresh (level + 1) 0 top version added [] in
            let f = items_few in
            let two = it.two many in
            rw (last_put.nodes, it.nodes)
            (All-append IsFilled (first.nodes ++ it.made) (r ∷ [])
            (All-append IsFilled first.nodes it.made first_filled (it.filled (omega arith) (omega arith)))
            (All-cons IsFilled r [] (filled_root (level + 1) version added it.is_made.inside (λ h. omega arith) (omega arith)) (All-nil IsFilled)))
