-- What is copied into a new node: each step keeps that the entries list all keys of their range.
use Rattle.std.proofs.Common.{◌≡◌, ℕ, ◌+◌, ◌-◌, ◌<◌, ◌≤◌, List, [], ◌∷◌, ◌++◌, Bool, true, false, cond, ◌&&◌, length, ap, refl, sym, ◌∙◌, subst, arith, count_by, filter, take, drop, nat_eq}
use Rattle.std.specs.Prelude.{All, IsPermutation}
use Rattle.std.proofs.lemmas.Bool.Decides.{nat_tests}
use Rattle.std.proofs.lemmas.List.{take-append-drop}
use Rattle.std.proofs.lemmas.List.Elements.{All-head, All-tail, All-nil, All-cons, All-append, All-filter, All-weaker, All-take, filter_passes}
use Rattle.std.proofs.lemmas.List.Sorted.{All-permutation, sum_by-IsPermutation}
use Rattle.std.proofs.lemmas.List.Sums.{sum_by-cons, sum_by-append}
use Rattle.tq_mvbt.specs.declared.entry.Entry.{Entry}
use Rattle.tq_mvbt.specs.declared.node.Link.{Link}
use Rattle.tq_mvbt.specs.NodeState.{NodeState}
use Rattle.tq_mvbt.specs.Points.{now, within, covers, holds, is_live}
use Rattle.tq_mvbt.specs.Shape.{tally, listed, IsRow, IsBranch, IsPlaced, IsNode}
use Rattle.tq_mvbt.specs.Steps.{fresh, retired, IsDivided}
use Rattle.tq_mvbt.specs.Copies.{IsInside, IsCopy}
use Rattle.tq_mvbt.proofs.Lists.{all_both}
use Rattle.tq_mvbt.proofs.Losses.{IsMarked, covers-filter_live, covers-elsewhere}

-- ---- a new node has what was copied

holds_fresh : (ls : List Link) (level low high version k v : ℕ) (items : List Entry) → holds k v (fresh level low high version items ls) ≡ true → (within low high k ≡ true) × (version ≤ v) × (v < now)
holds_fresh ls level low high version k v items h = split (within low high k) (within version now v) refl refl h
  where
    split : (a b : Bool) → within low high k ≡ a → within version now v ≡ b → (a && b) ≡ true → (within low high k ≡ true) × (version ≤ v) × (v < now)
    split true true p q r = (p, grind (arith, nat_tests), grind (arith, nat_tests))
    split true false p q r = cc
    split false b p q r = cc

pub begun : {ls : List Link} → (version : ℕ) (lives : ℕ → ℕ → Bool) (nodes : List NodeState) (level low high : ℕ) (items : List Entry) → version < now → IsCopy version lives nodes level low high items → IsNode version lives nodes (fresh level low high version items ls)
begun {ls} version lives nodes level low high items small copy =
    record {
      wide = copy.wide;
      high = copy.in_keys;
      begins = small;
      born = omega arith;
      ends = omega arith;
      ended = λ h. absurd (omega arith);
      placed = All-weaker (IsInside version low high) (IsPlaced version (fresh level low high version items ls))
          (λ e i. record { low = i.above; wide = i.wide; high = i.below; begins = let b = i.born in omega arith; meets = let d = i.dead in omega arith; lived = let b = i.born in let d = i.dead in omega arith; born = i.born; ends = let d = i.dead in omega arith; ended = λ h. let d = i.dead in absurd (omega arith) })
          items copy.inside;
      rows = λ z. All-weaker (IsRow lives (fresh level low high version [] [])) (IsRow lives (fresh level low high version items ls)) (λ e r. record { one_key = r.one_key; life = r.life }) items (copy.rows z);
      branches = λ z. All-weaker (IsBranch nodes (fresh level low high version [] [])) (IsBranch nodes (fresh level low high version items ls)) (λ e r. record { child = r.child; stands = r.stands; level = r.level; low = r.low; high = r.high; born = r.born; life = r.life }) items (copy.branches z);
      lists = λ k v h. let p = holds_fresh ls level low high version k v items h in copy.lists k v p.0 p.1 p.2;
    }

-- ---- the live entries of a current node

live_inside : (version : ℕ) (n : NodeState) (e : Entry) → IsPlaced version n e → is_live e ≡ true → IsInside version n.low n.high e
live_inside version n e p l = record { above = p.low; wide = p.wide; below = p.high; born = p.born; dead = grind (arith, nat_tests) }

holds_standing : (version k v : ℕ) (n : NodeState) → n.born ≤ version → n.died ≡ now → within n.low n.high k ≡ true → version ≤ v → v < now → holds k v n ≡ true
holds_standing version k v n b d w h s = rw w (grind (arith, nat_tests))

pub copied : (version : ℕ) (lives : ℕ → ℕ → Bool) (nodes : List NodeState) (n : NodeState) → IsNode version lives nodes n → n.died ≡ now → IsCopy version lives nodes n.level n.low n.high (filter is_live n.entries)
copied version lives nodes n node d =
    let items = n.entries in
    record {
      wide = node.wide;
      in_keys = node.high;
      inside = all_both (IsPlaced version n) (λ e. is_live e ≡ true) (IsInside version n.low n.high) (live_inside version n) (filter is_live items) (All-filter is_live (IsPlaced version n) items node.placed) (filter_passes is_live items);
      rows = λ z. All-weaker (IsRow lives n) (IsRow lives (fresh n.level n.low n.high version [] [])) (λ e r. record { one_key = r.one_key; life = λ v h. r.life v (omega arith) }) (filter is_live items) (All-filter is_live (IsRow lives n) items (node.rows z));
      branches = λ z. All-weaker (IsBranch nodes n) (IsBranch nodes (fresh n.level n.low n.high version [] [])) (λ e r. record { child = r.child; stands = r.stands; level = r.level; low = r.low; high = r.high; born = r.born; life = λ v h. r.life v (omega arith) }) (filter is_live items) (All-filter is_live (IsBranch nodes n) items (node.branches z));
      lists = λ k v w h s.
          covers-filter_live k v version items (All-weaker (IsPlaced version n) (IsMarked version) (λ e p. (p.ends, p.ended)) items node.placed) h
          ∙ node.lists k v (holds_standing version k v n node.born d w h s);
    }

-- ---- two adjacent ranges are joined

count-append : {X : Type 0} (p : X → Bool) (xs ys : List X) → count_by p (xs ++ ys) ≡ count_by p xs + count_by p ys
count-append p xs ys = sum_by-append (λ x. tally (p x)) xs ys

-- entries of a range hold no point of a key outside it
pub outside : (version low high k v : ℕ) (items : List Entry) → All (IsInside version low high) items → within low high k ≡ false → count_by (covers k v) items ≡ 0
outside version low high k v items all o =
    covers-elsewhere k v items (All-weaker (IsInside version low high) (λ e. within e.low e.high k ≡ false)
    (λ e i. let a = i.above in let b = i.below in grind (arith, nat_tests)) items all)

wider : (version low high low' high' : ℕ) (items : List Entry) → low' ≤ low → high ≤ high' → All (IsInside version low high) items → All (IsInside version low' high') items
wider version low high low' high' items a b all =
    All-weaker (IsInside version low high) (IsInside version low' high')
    (λ e i. record { above = let x = i.above in omega arith; wide = i.wide; below = let x = i.below in omega arith; born = i.born; dead = i.dead }) items all

same_rows : (lives : ℕ → ℕ → Bool) (level low high low' high' version : ℕ) (items : List Entry) → All (IsRow lives (fresh level low high version [] [])) items → All (IsRow lives (fresh level low' high' version [] [])) items
same_rows lives level low high low' high' version items all =
    All-weaker (IsRow lives (fresh level low high version [] [])) (IsRow lives (fresh level low' high' version [] [])) (λ e r. record { one_key = r.one_key; life = r.life }) items all

same_branches : (nodes : List NodeState) (level low high low' high' version : ℕ) (items : List Entry) → All (IsBranch nodes (fresh level low high version [] [])) items → All (IsBranch nodes (fresh level low' high' version [] [])) items
same_branches nodes level low high low' high' version items all =
    All-weaker (IsBranch nodes (fresh level low high version [] [])) (IsBranch nodes (fresh level low' high' version [] [])) (λ e r. record { child = r.child; stands = r.stands; level = r.level; low = r.low; high = r.high; born = r.born; life = r.life }) items all

pub joined : (version : ℕ) (lives : ℕ → ℕ → Bool) (nodes : List NodeState) (level low middle high : ℕ) (xs ys : List Entry) → IsCopy version lives nodes level low middle xs → IsCopy version lives nodes level middle high ys → IsCopy version lives nodes level low high (xs ++ ys)
joined version lives nodes level low middle high xs ys a b =
    let w = a.wide in let w' = b.wide in
    record {
      wide = omega arith;
      in_keys = b.in_keys;
      inside = All-append (IsInside version low high) xs ys (wider version low middle low high xs (omega arith) (omega arith) a.inside) (wider version middle high low high ys (omega arith) (omega arith) b.inside);
      rows = λ z. All-append (IsRow lives (fresh level low high version [] [])) xs ys (same_rows lives level low middle low high version xs (a.rows z)) (same_rows lives level middle high low high version ys (b.rows z));
      branches = λ z. All-append (IsBranch nodes (fresh level low high version [] [])) xs ys (same_branches nodes level low middle low high version xs (a.branches z)) (same_branches nodes level middle high low high version ys (b.branches z));
      lists = λ k v i s h.
          count-append (covers k v) xs ys
          ∙ split k v (within low middle k) refl i (a.lists k v) (b.lists k v) (outside version low middle k v xs a.inside) (outside version middle high k v ys b.inside) s h;
    }
  where
    split : (k v : ℕ) (c : Bool) → within low middle k ≡ c → within low high k ≡ true
        → (within low middle k ≡ true → version ≤ v → v < now → count_by (covers k v) xs ≡ listed lives level k v)
        → (within middle high k ≡ true → version ≤ v → v < now → count_by (covers k v) ys ≡ listed lives level k v)
        → (within low middle k ≡ false → count_by (covers k v) xs ≡ 0)
        → (within middle high k ≡ false → count_by (covers k v) ys ≡ 0)
        → version ≤ v → v < now → count_by (covers k v) xs + count_by (covers k v) ys ≡ listed lives level k v
    split k v true c i x y xo yo s h =
        let there = x c s h in
        let none = yo (grind (arith, nat_tests)) in
        omega (arith, there, none)
    split k v false c i x y xo yo s h =
        let none = xo c in
        let there = y (grind (arith, nat_tests)) s h in
        omega (arith, there, none)

-- the order does not matter
pub reordered : (version : ℕ) (lives : ℕ → ℕ → Bool) (nodes : List NodeState) (level low high : ℕ) (xs ys : List Entry) → IsPermutation xs ys → IsCopy version lives nodes level low high xs → IsCopy version lives nodes level low high ys
reordered version lives nodes level low high xs ys p a =
    record {
      wide = a.wide;
      in_keys = a.in_keys;
      inside = All-permutation (IsInside version low high) xs ys p a.inside;
      rows = λ z. All-permutation (IsRow lives (fresh level low high version [] [])) xs ys p (a.rows z);
      branches = λ z. All-permutation (IsBranch nodes (fresh level low high version [] [])) xs ys p (a.branches z);
      lists = λ k v i s h. sum_by-IsPermutation (λ e. tally (covers k v e)) xs ys p ∙ a.lists k v i s h;
    }

-- ---- a range is divided

none_pass : {X : Type 0} (p : X → Bool) (xs : List X) → count_by p xs ≡ 0 → All (λ x. p x ≡ false) xs
none_pass p [] z = All-nil (λ x. p x ≡ false)
none_pass p (x ∷ xs) z =
    let both : tally (p x) + count_by p xs ≡ 0 = sym (sum_by-cons (λ y. tally (p y)) x xs) ∙ z in
    All-cons (λ y. p y ≡ false) x xs (zero (p x) (omega arith)) (none_pass p xs (omega arith))
  where
    zero : (b : Bool) → tally b ≡ 0 → b ≡ false
    zero true e = absurd (omega arith)
    zero false e = refl

all_left : {X : Type 0} (P : X → Type 0) (xs ys : List X) → All P (xs ++ ys) → All P xs
all_left P [] ys h = All-nil P
all_left P (x ∷ xs) ys h = All-cons P x xs (All-head P x (xs ++ ys) h) (all_left P xs ys (All-tail P x (xs ++ ys) h))

all_right : {X : Type 0} (P : X → Type 0) (xs ys : List X) → All P (xs ++ ys) → All P ys
all_right P [] ys h = h
all_right P (x ∷ xs) ys h = all_right P xs ys (All-tail P x (xs ++ ys) h)

at_most_one : (lives : ℕ → ℕ → Bool) (level k v : ℕ) → listed lives level k v ≤ 1
at_most_one lives level k v = split (nat_eq level 0) (lives k v)
  where
    split : (a b : Bool) → cond a (tally b) 1 ≤ 1
    split true true = omega arith
    split true false = omega arith
    split false b = omega arith

-- both parts list all keys of theirs
pub record AreParts (version : ℕ) (lives : ℕ → ℕ → Bool) (nodes : List NodeState) (level low middle high : ℕ) (lower upper : List Entry) : Type 0 where
  pub lower_copy : IsCopy version lives nodes level low middle lower
  pub upper_copy : IsCopy version lives nodes level middle high upper

head_of : {X : Type 0} (P : X → Type 0) (xs : List X) → 1 ≤ length xs → All P xs → (x : X) × P x
head_of P [] l a = absurd (omega arith)
head_of P (x ∷ xs) l a = (x, All-head P x xs a)

pub parted : (version : ℕ) (lives : ℕ → ℕ → Bool) (nodes : List NodeState) (level low high : ℕ) (items lower upper : List Entry) (middle : ℕ) → version < now → IsCopy version lives nodes level low high items → IsDivided items lower upper middle → 2 ≤ length items → AreParts version lives nodes level low middle high lower upper
parted version lives nodes level low high items lower upper middle small copy cut many =
    let whole = reordered version lives nodes level low high items (lower ++ upper) cut.same copy in
    let lower_in = all_left (IsInside version low high) lower upper whole.inside in
    let upper_in = all_right (IsInside version low high) lower upper whole.inside in
    let least_in : IsInside version low high cut.least = All-head (IsInside version low high) cut.least cut.rest (subst (λ xs. All (IsInside version low high) xs) cut.first upper_in) in
    let m = cut.middle_is in
    let l1 = least_in.above in
    let l2 = least_in.wide in
    let l3 = least_in.below in
    let l4 = least_in.born in
    let l5 = least_in.dead in
    let here : within low high middle ≡ true = grind (arith, nat_tests) in
    let least_covers : covers middle version cut.least ≡ true = grind (arith, nat_tests) in
    let total = whole.lists middle version here (omega arith) small in
    let apart = count-append (covers middle version) lower upper in
    let head : count_by (covers middle version) upper ≡ tally (covers middle version cut.least) + count_by (covers middle version) cut.rest = subst (λ xs. count_by (covers middle version) xs ≡ tally (covers middle version cut.least) + count_by (covers middle version) cut.rest) (sym cut.first) (sum_by-cons (λ e. tally (covers middle version e)) cut.least cut.rest) in
    let one : tally (covers middle version cut.least) ≡ 1 = ap tally least_covers in
    let none : count_by (covers middle version) lower ≡ 0 = omega (arith, total, apart, head, one, at_most_one lives level middle version) in
    let missed = none_pass (covers middle version) lower none in
    let lower_below : All (IsInside version low middle) lower =
    all_both (λ e. (covers middle version e ≡ false) × (e.low ≤ middle)) (IsInside version low high) (IsInside version low middle)
    (λ e a i. let x = i.above in let y = i.wide in let z = i.born in let d = i.dead in let f = a.0 in let g = a.1 in record { above = x; wide = y; below = grind (arith, nat_tests); born = z; dead = d })
    lower
    (all_both (λ e. covers middle version e ≡ false) (λ e. e.low ≤ middle) (λ e. (covers middle version e ≡ false) × (e.low ≤ middle)) (λ e a b. (a, b)) lower missed cut.below)
    lower_in in
    let upper_above : All (IsInside version middle high) upper =
    all_both (λ e. middle ≤ e.low) (IsInside version low high) (IsInside version middle high)
    (λ e a i. record { above = a; wide = i.wide; below = i.below; born = i.born; dead = i.dead }) upper cut.above upper_in in
    let first = head_of (IsInside version low middle) lower (let n = cut.lower_len in omega arith) lower_below in
    let f1 = first.1.above in
    let f2 = first.1.wide in
    let f3 = first.1.below in
    let k0 = copy.in_keys in
    record {
      lower_copy = record {
        wide = omega arith;
        in_keys = omega arith;
        inside = lower_below;
        rows = λ z. same_rows lives level low high low middle version lower (all_left (IsRow lives (fresh level low high version [] [])) lower upper (whole.rows z));
        branches = λ z. same_branches nodes level low high low middle version lower (all_left (IsBranch nodes (fresh level low high version [] [])) lower upper (whole.branches z));
        lists = λ k v i s h.
            let both = whole.lists k v (grind (arith, nat_tests)) s h in
            let none = outside version middle high k v upper upper_above (grind (arith, nat_tests)) in
            omega (arith, both, none, count-append (covers k v) lower upper);
      };
      upper_copy = record {
        wide = omega arith;
        in_keys = copy.in_keys;
        inside = upper_above;
        rows = λ z. same_rows lives level low high middle high version upper (all_right (IsRow lives (fresh level low high version [] [])) lower upper (whole.rows z));
        branches = λ z. same_branches nodes level low high middle high version upper (all_right (IsBranch nodes (fresh level low high version [] [])) lower upper (whole.branches z));
        lists = λ k v i s h.
            let both = whole.lists k v (grind (arith, nat_tests)) s h in
            let none = outside version low middle k v lower lower_below (grind (arith, nat_tests)) in
            omega (arith, both, none, count-append (covers k v) lower upper);
      };
    }

-- ---- a node that ends

unborn : {version : ℕ} (k v : ℕ) (e : Entry) → v < version → version ≤ e.born → covers k v e ≡ false
unborn k v e h late = split (within e.low e.high k)
  where
    split : (w : Bool) → (w && within e.born e.dead v) ≡ false
    split true = grind (arith, nat_tests)
    split false = refl

pub ended_node : (version : ℕ) (lives : ℕ → ℕ → Bool) (nodes : List NodeState) (n : NodeState) (last : ℕ) → version < now → IsNode version lives nodes n → n.died ≡ now → n.born < version → All (λ e. e.born < version) (take (length n.entries - last) n.entries) → All (λ e. version ≤ e.born) (drop (length n.entries - last) n.entries) → IsNode version lives nodes (retired version last n)
ended_node version lives nodes n last small node d b old young =
    let items = n.entries in
    let i = length items - last in
    let m = retired version last n in
    record {
      wide = node.wide;
      high = node.high;
      begins = b;
      born = node.born;
      ends = omega arith;
      ended = λ h. omega arith;
      placed = all_both (λ e. e.born < version) (IsPlaced version n) (IsPlaced version m)
          (λ e a p. record { low = p.low; wide = p.wide; high = p.high; begins = a; meets = p.meets; lived = p.lived; born = p.born; ends = p.ends; ended = p.ended })
          (take i items) old (All-take (IsPlaced version n) i items node.placed);
      rows = λ z. All-weaker (IsRow lives n) (IsRow lives m) (λ e r. record { one_key = r.one_key; life = λ v h. r.life v (omega arith) }) (take i items) (All-take (IsRow lives n) i items (node.rows z));
      branches = λ z. All-weaker (IsBranch nodes n) (IsBranch nodes m) (λ e r. record { child = r.child; stands = r.stands; level = r.level; low = r.low; high = r.high; born = r.born; life = λ v h. r.life v (omega arith) }) (take i items) (All-take (IsBranch nodes n) i items (node.branches z));
      lists = λ k v h.
          let before : v < version = before k v (within n.low n.high k) refl h in
          let held : holds k v n ≡ true = still k v (within n.low n.high k) refl h in
          let late : count_by (covers k v) (drop i items) ≡ 0 = not_yet k v (drop i items) before young in
          let parts : count_by (covers k v) (take i items ++ drop i items) ≡ count_by (covers k v) (take i items) + count_by (covers k v) (drop i items) = count-append (covers k v) (take i items) (drop i items) in
          let whole : count_by (covers k v) (take i items ++ drop i items) ≡ count_by (covers k v) items = ap (λ xs. count_by (covers k v) xs) (take-append-drop i items) in
          let all = node.lists k v held in
          omega (arith, late, parts, whole, all);
    }
  where
    before : (k v : ℕ) (w : Bool) → within n.low n.high k ≡ w → (w && within n.born version v) ≡ true → v < version
    before k v true e h = grind (arith, nat_tests)
    before k v false e h = cc

    still : (k v : ℕ) (w : Bool) → within n.low n.high k ≡ w → (w && within n.born version v) ≡ true → holds k v n ≡ true
    still k v true e h = rw e (grind (arith, nat_tests))
    still k v false e h = cc

    not_yet : (k v : ℕ) (xs : List Entry) → v < version → All (λ e. version ≤ e.born) xs → count_by (covers k v) xs ≡ 0
    not_yet k v [] h a = refl
    not_yet k v (e ∷ xs) h a =
        let late = All-head (λ f. version ≤ f.born) e xs a in
        let none : tally (covers k v e) ≡ 0 = ap tally (unborn k v e h late) in
        omega (arith, none, sum_by-cons (λ f. tally (covers k v f)) e xs, not_yet k v xs h (All-tail (λ f. version ≤ f.born) e xs a))
