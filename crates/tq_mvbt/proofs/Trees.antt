-- A tree before and after an update.
use Rattle.std.proofs.Common.{◌≡◌, ◌≢◌, ℕ, zero, suc, ◌+◌, ◌-◌, ◌*◌, ◌<◌, ◌≤◌, ◌⊎◌, inl, inr, Bool, true, false, cond, ◌&&◌, ◌||◌, List, [], ◌∷◌, ◌++◌, length, ap, refl, sym, ◌∙◌, subst, arith, count_by, nat_lt, nat_le, nat_eq, slice_get, Some, None, Option, get_or, length-append, lit<}
use Rattle.std.specs.Prelude.{All}
use Rattle.std.specs.Option.{IfSome, IfNone, MatchOption, is_some, option_to_list}
use Rattle.std.specs.List.Sorted.{IsNonDecreasingBy}
use Rattle.std.proofs.lemmas.Bool.Decides.{nat_tests}
use Rattle.std.proofs.lemmas.Option.{slice_get-get_or, get_or_from_slice_get}
use Rattle.std.proofs.lemmas.Grind.{elements}
use Rattle.std.proofs.lemmas.List.Elements.{All-append, All-cons, All-nil, All-weaker, All-head, All-tail}
use Rattle.std.proofs.lemmas.List.Sums.{sum_by-cons}
use Rattle.tq_mvbt.specs.declared.root.Root.{Root}
use Rattle.tq_mvbt.specs.NodeState.{NodeState}
use Rattle.tq_mvbt.specs.Points.{now, within, holds, leads}
use Rattle.tq_mvbt.specs.Steps.{fresh}
use Rattle.tq_mvbt.specs.Shape.{top, tally, listed, with_life, raised, Tiles, at_point, IsPlaced, IsRow, IsBranch, IsNode, IsForest, IsFound, IsFilled}
use Rattle.tq_mvbt.specs.Unsettled.{Grows, HeightChanges, KeyChanges}
use Rattle.tq_mvbt.specs.Links.{AreLinked, LinkJust, IsLinkTo}
use Rattle.tq_mvbt.specs.Directory.{last_root, root_of, IsTop}
use Rattle.tq_mvbt.specs.TreeState.{count_keys, lives_of, height_of, HasLife, IsRootAt, AreRoots, AreLives, IsTree}
use Rattle.tq_mvbt.proofs.Lists.{all_at}
use Rattle.tq_mvbt.proofs.Places.{at_left}
use Rattle.tq_mvbt.proofs.Known.{known, alike}
use Rattle.tq_mvbt.proofs.Descent.{one_leads}
use Rattle.tq_mvbt.proofs.Heights.{levels_most}
use Rattle.tq_mvbt.proofs.Grown.{grows_more, grows_both}
use Rattle.tq_mvbt.proofs.Among.{count_keys-zero, count_keys-suc, count_keys-alike}
use Rattle.tq_mvbt.proofs.Lifetimes.{this_life, lives_beyond, lives_change, other_life, few_keys}

-- ---- the directory

-- a root that is added is current from its version on
pub last_root-append : (before r : Root) (roots : List Root) (v : ℕ) → last_root before (roots ++ r ∷ []) v ≡ cond (nat_le r.from v) r (last_root before roots v)
last_root-append before r [] v = refl
last_root-append before r (x ∷ roots) v = last_root-append (cond (nat_le x.from v) x before) r roots v

-- from the last root's version on, the root stays the same
pub root_lasts : (before : Root) (roots : List Root) (w v : ℕ) → All (λ r. r.from ≤ w) roots → w ≤ v → last_root before roots v ≡ last_root before roots w
root_lasts before [] w v a h = refl
root_lasts before (r ∷ roots) w v a h =
    let f = All-head (λ (x : Root). x.from ≤ w) r roots a in
    let one : nat_le r.from v ≡ true = grind (arith, nat_tests) in
    let two : nat_le r.from w ≡ true = grind (arith, nat_tests) in
    rw (one, two) (root_lasts r roots w v (All-tail (λ (x : Root). x.from ≤ w) r roots a) h)

-- the roots remain ordered
ordered-append : (roots : List Root) (r : Root) → IsNonDecreasingBy (λ x. x.from) roots → All (λ x. x.from ≤ r.from) roots → IsNonDecreasingBy (λ x. x.from) (roots ++ r ∷ [])
ordered-append roots r rises below i j d h w = split (nat_lt j (length roots)) (nat_lt i (length roots)) refl refl
  where
    at_front : (k : ℕ) → k < length roots → get_or (roots ++ r ∷ []) k d ≡ get_or roots k d
    at_front k l = get_or_from_slice_get (roots ++ r ∷ []) k (get_or roots k d) d (at_left roots (r ∷ []) k (get_or roots k d) (slice_get-get_or roots k d l))

    at_back : (k : ℕ) → length roots ≤ k → k < length (roots ++ r ∷ []) → get_or (roots ++ r ∷ []) k d ≡ r
    at_back k l m =
        let n : k ≡ length roots + 0 = (let x = length-append roots (r ∷ []) in omega arith) in
        grind (arith, elements)

    split : (a b : Bool) → nat_lt j (length roots) ≡ a → nat_lt i (length roots) ≡ b → (get_or (roots ++ r ∷ []) i d).from ≤ (get_or (roots ++ r ∷ []) j d).from
    split true b s t =
        let l : j < length roots = grind (arith, nat_tests) in
        rw (at_front i (omega arith), at_front j l) (rises i j d h l)
    split false true s t =
        let l : i < length roots = grind (arith, nat_tests) in
        let m : length roots ≤ j = grind (arith, nat_tests) in
        rw (at_front i l, at_back j m w) (all_at (λ (x : Root). x.from ≤ r.from) roots i (get_or roots i d) below (slice_get-get_or roots i d l))
    split false false s t =
        let m : length roots ≤ j = grind (arith, nat_tests) in
        let m' : length roots ≤ i = grind (arith, nat_tests) in
        rw (at_back i m' (omega arith), at_back j m w) (omega arith)

append-nil : {X : Type 0} (xs : List X) → xs ++ [] ≡ xs
append-nil [] = refl
append-nil (x ∷ xs) = ap (λ ys. x ∷ ys) (append-nil xs)

-- ---- before the update

module _ (before : ℕ) (nodes : List NodeState) (roots : List Root) (tree : IsTree before nodes roots) where
  b_small : before < now
  b_small = let s = tree.small in omega arith

  abbrev root : Root
  root = root_of roots before

  pub few_levels : (v : ℕ) → v < now → (root_of roots v).levels ≤ 10
  few_levels v h =
      let few = few_keys before v (lives_of nodes) tree.lives b_small h in
      let s = tree.small in
      levels_most before (lives_of nodes) (height_of roots) nodes v tree.forest tree.filled h (root_of roots v) (tree.rooted.stand v h) (omega arith)

  pub some_levels : (v : ℕ) → v < now → 1 ≤ (root_of roots v).levels
  some_levels v h = let at = tree.rooted.stand v h in let l = at.level in omega arith

  pub root_stands : IsTop before nodes root
  root_stands =
      let at = tree.rooted.stand before b_small in
      let node = all_at (IsNode before (lives_of nodes) nodes) nodes root.node at.node tree.forest.each at.stands in
      record { node = at.node; stands = at.stands; level = at.level; low = at.low; high = at.high; born = at.born; died = died at.died node.ends node.ended }
    where
      died : {d : ℕ} → before < d → d ≤ now → (d < now → d ≤ before) → d ≡ now
      died {d} a b f = split (nat_lt d now) refl
        where
          split : (x : Bool) → nat_lt d now ≡ x → d ≡ now
          split true s = let l : d < now = grind (arith, nat_tests) in let g = f l in absurd (omega arith)
          split false s = grind (arith, nat_tests)

  pub root_found : (key : ℕ) → key < top → IsFound nodes (root.levels - 1) key root.node
  root_found key kt =
      let at = root_stands in
      let l = at.level in
      let a = at.low in
      let b = at.high in
      record { node = at.node; stands = at.stands; at_level = omega arith; died = at.died; low = omega arith; high = omega arith }

  pub top_grows : (version : ℕ) (mid : List NodeState) → before < version → Grows version (root.levels - 1) nodes mid → IsTop version mid root
  top_grows version mid later grows =
      let at = root_stands in
      let g = grows root.node at.node at.stands in
      let l = at.level in
      let gl = g.level_is in
      let b = at.born in
      let gb = g.born in
      record { node = g.later; stands = g.stands; level = omega arith; low = g.low ∙ at.low; high = g.high ∙ at.high; born = omega arith; died = g.kept (omega arith) ∙ at.died }

  -- ---- after it

  module _ (version key : ℕ) (alive : Bool) (new : List NodeState) (next : Option Root)
      (later : before < version) (last_small : version ≤ 16777216) (kt : key < top)
      (never : alive ≡ true → (v : ℕ) → lives_of nodes key v ≡ false)
      (grown : Grows version root.levels nodes new)
      (filled : All IsFilled new)
      (len : length new ≤ length nodes + 21)
      (none : IfNone next (IsForest version (with_life (lives_of nodes) key version alive) (height_of roots) new × IsTop version new root))
      (some : IfSome next (λ r. (r.from ≡ version) × IsTop version new r × IsForest version (with_life (lives_of nodes) key version alive) (raised (height_of roots) version r.levels) new))
    where
      v_small : version < now
      v_small = omega arith

      -- an earlier root is still that of its versions
      earlier : (v : ℕ) → v < version → IsRootAt nodes v (root_of roots v) → IsRootAt new v (root_of roots v)
      earlier v h at =
          let g = grown (root_of roots v).node at.node at.stands in
          let l = at.level in
          let gl = g.level_is in
          let b = at.born in
          let gb = g.born in
          record { node = g.later; stands = g.stands; level = omega arith; low = g.low ∙ at.low; high = g.high ∙ at.high; born = omega arith; died = lasts at.node g.later at.died g.died }
        where
          lasts : (n m : NodeState) → v < n.died → (m.died ≡ n.died) ⊎ ((n.died ≡ now) × (m.died ≡ version)) → v < m.died
          lasts n m a (inl e) = omega arith
          lasts n m a (inr e) = let x = e.1 in omega arith

      -- a current root is the root of every later version
      standing : (r : Root) (v : ℕ) → version ≤ v → v < now → IsTop version new r → IsRootAt new v r
      standing r v h n at =
          let b = at.born in
          let d = at.died in
          record { node = at.node; stands = at.stands; level = at.level; low = at.low; high = at.high; born = omega arith; died = omega arith }

      not_later : All (λ (r : Root). r.from ≤ version) roots
      not_later = All-weaker (λ (r : Root). r.from ≤ before) (λ (r : Root). r.from ≤ version) (λ r h. omega arith) roots tree.rooted.latest

      -- the tree, if the root stays
      stays : (next ≡ None) → IsForest version (with_life (lives_of nodes) key version alive) (height_of roots) new → IsTop version new root → AreRoots version new (roots ++ [])
      stays is forest at =
          subst (λ (rs : List Root). AreRoots version new rs) (sym (append-nil roots))
          (record {
            some = tree.rooted.some;
            first = tree.rooted.first;
            ordered = tree.rooted.ordered;
            latest = not_later;
            stand = λ v h. stand v h (nat_lt v version) refl;
          })
        where
          stand : (v : ℕ) → v < now → (b : Bool) → nat_lt v version ≡ b → IsRootAt new v (root_of roots v)
          stand v h true s = earlier v (grind (arith, nat_tests)) (tree.rooted.stand v h)
          stand v h false s =
              let u : version ≤ v = grind (arith, nat_tests) in
              subst (λ (r : Root). IsRootAt new v r) (sym (root_lasts (record { from = 0; node = 0; levels = 0 }) roots before v tree.rooted.latest (omega arith))) (standing root v u h at)

      -- the tree, if another root replaces it
      changed : (r : Root) → (r.from ≡ version) → IsTop version new r → AreRoots version new (roots ++ r ∷ [])
      changed r from at =
          record {
            some = (let a = length-append roots (r ∷ []) in omega arith);
            first = (let blank : Root = record { from = 0; node = 0; levels = 0 } in
                let e = slice_get-get_or roots 0 blank tree.rooted.some in
                let f : (get_or roots 0 blank).from ≡ 0 = subst (λ o. IfSome o (λ (x : Root). x.from ≡ 0)) e tree.rooted.first in
                rw (at_left roots (r ∷ []) 0 (get_or roots 0 blank) e) f);
            ordered = ordered-append roots r tree.rooted.ordered (All-weaker (λ (x : Root). x.from ≤ version) (λ (x : Root). x.from ≤ r.from) (λ x h. omega arith) roots not_later);
            latest = All-append (λ (x : Root). x.from ≤ version) roots (r ∷ []) not_later (All-cons (λ (x : Root). x.from ≤ version) r [] (omega arith) (All-nil (λ (x : Root). x.from ≤ version)));
            stand = λ v h. subst (λ (x : Root). IsRootAt new v x) (sym (last_root-append (record { from = 0; node = 0; levels = 0 }) r roots v)) (stand v h (nat_le r.from v) refl);
          }
        where
          stand : (v : ℕ) → v < now → (b : Bool) → nat_le r.from v ≡ b → IsRootAt new v (cond b r (root_of roots v))
          stand v h true s = standing r v (grind (arith, nat_tests)) h at
          stand v h false s = earlier v (grind (arith, nat_tests)) (tree.rooted.stand v h)

      height_append : (r : Root) → r.from ≡ version → (v : ℕ) → height_of (roots ++ r ∷ []) v ≡ raised (height_of roots) version r.levels v
      height_append r from v =
          ap (λ (x : Root). x.levels) (last_root-append (record { from = 0; node = 0; levels = 0 }) r roots v) ∙ split (nat_le r.from v) ∙ ap (λ x. cond (nat_le x v) r.levels (height_of roots v)) from
        where
          split : (b : Bool) → (cond b r (root_of roots v)).levels ≡ cond b r.levels (height_of roots v)
          split true = refl
          split false = refl

      all_roots : (o : Option Root) → next ≡ o → AreRoots version new (roots ++ option_to_list o)
      all_roots None is = let f = subst (λ o. IfNone o (IsForest version (with_life (lives_of nodes) key version alive) (height_of roots) new × IsTop version new root)) is none in stays is f.0 f.1
      all_roots (Some r) is = let f = subst (λ o. IfSome o (λ r. (r.from ≡ version) × IsTop version new r × IsForest version (with_life (lives_of nodes) key version alive) (raised (height_of roots) version r.levels) new)) is some in changed r f.0 f.1

      as_high : (f g : ℕ → ℕ) → ((v : ℕ) → f v ≡ g v) → IsForest version (with_life (lives_of nodes) key version alive) g new → IsForest version (with_life (lives_of nodes) key version alive) f new
      as_high f g same forest = record { each = forest.each; tiles = λ l k v kt vt. forest.tiles l k v kt vt ∙ ap (λ x. tally (nat_lt l x)) (sym (same v)) }

      all_forest : (o : Option Root) → next ≡ o → IsForest version (with_life (lives_of nodes) key version alive) (height_of (roots ++ option_to_list o)) new
      all_forest None is =
          let f = subst (λ o. IfNone o (IsForest version (with_life (lives_of nodes) key version alive) (height_of roots) new × IsTop version new root)) is none in
          as_high (height_of (roots ++ [])) (height_of roots) (λ v. ap (λ rs. height_of rs v) (append-nil roots)) f.0
      all_forest (Some r) is =
          let f = subst (λ o. IfSome o (λ r. (r.from ≡ version) × IsTop version new r × IsForest version (with_life (lives_of nodes) key version alive) (raised (height_of roots) version r.levels) new)) is some in
          as_high (height_of (roots ++ r ∷ [])) (raised (height_of roots) version r.levels) (height_append r f.0) f.2

      abbrev roots' : List Root
      roots' = roots ++ option_to_list next

      high : (v : ℕ) → v < now → 0 < height_of roots' v
      high v h = let at = (all_roots next refl).stand v h in let l = at.level in omega arith

      pub lives_are : (k v : ℕ) → k < top → v < now → lives_of new k v ≡ with_life (lives_of nodes) key version alive k v
      lives_are k v k_small h = known version (with_life (lives_of nodes) key version alive) (height_of roots') new k v (all_forest next refl) k_small h (high v h)

      pub others_are : (k v : ℕ) → k ≢ key → lives_of new k v ≡ lives_of nodes k v
      others_are k v differ = split (nat_lt k top) (nat_lt v now) refl refl
        where
          far : (top ≤ k) ⊎ (now ≤ v) → lives_of new k v ≡ lives_of nodes k v
          far f = lives_beyond version (with_life (lives_of nodes) key version alive) new new k v (all_forest next refl).each f ∙ sym (lives_beyond before (lives_of nodes) nodes nodes k v tree.forest.each f)

          split : (a b : Bool) → nat_lt k top ≡ a → nat_lt v now ≡ b → lives_of new k v ≡ lives_of nodes k v
          split true true s t = lives_are k v (grind (arith, nat_tests)) (grind (arith, nat_tests)) ∙ other_life (lives_of nodes) key version k v alive differ
          split false b s t = far (inl (grind (arith, nat_tests)))
          split true false s t = far (inr (grind (arith, nat_tests)))

      pub tree_after : AreLinked new → IsTree version new roots'
      tree_after linked =
          record {
            small = last_small;
            forest = alike version (with_life (lives_of nodes) key version alive) (lives_of new) (height_of roots') new lives_are (all_forest next refl);
            filled = filled;
            lives = lives_change before version key alive (lives_of nodes) (lives_of new) later v_small tree.lives never lives_are;
            rooted = all_roots next refl;
            bounded = (let b = tree.bounded in omega arith);
            linked = linked;
          }

      -- the roots of earlier versions stay the same
      pub roots_before : (v : ℕ) → v < version → root_of roots' v ≡ root_of roots v
      roots_before v h = split next refl
        where
          split : (o : Option Root) → next ≡ o → root_of (roots ++ option_to_list o) v ≡ root_of roots v
          split None is = ap (λ rs. root_of rs v) (append-nil roots)
          split (Some r) is =
              let f = subst (λ o. IfSome o (λ r. (r.from ≡ version) × IsTop version new r × IsForest version (with_life (lives_of nodes) key version alive) (raised (height_of roots) version r.levels) new)) is some in
              let from = f.0 in
              let off : nat_le r.from v ≡ false = grind (arith, nat_tests) in
              last_root-append (record { from = 0; node = 0; levels = 0 }) r roots v ∙ rw off refl

-- ---- what lives now

pub beyond_top : (before : ℕ) (nodes : List NodeState) (roots : List Root) → IsTree before nodes roots → (k v : ℕ) → top ≤ k → lives_of nodes k v ≡ false
beyond_top before nodes roots tree k v h = lives_beyond before (lives_of nodes) nodes nodes k v tree.forest.each (inl h)

-- the leaf of a key lists it exactly if it lives now
pub alive_is : (before : ℕ) (nodes : List NodeState) (roots : List Root) → IsTree before nodes roots → (key p : ℕ) (n : NodeState) (r : Option ℕ) → (found : IsFound nodes 0 key p) → slice_get nodes p ≡ Some n
    → MatchOption r (count_by (leads key) n.entries ≡ 0) (λ _. 0 < count_by (leads key) n.entries) → is_some r ≡ lives_of nodes key before
alive_is before nodes roots tree key p n r found stands matches =
    let a = found.stands in
    let same : found.node ≡ n = cc in
    let node = all_at (IsNode before (lives_of nodes) nodes) nodes p n tree.forest.each stands in
    let s = tree.small in
    let leaf : n.level ≡ 0 = ap (λ (m : NodeState). m.level) (sym same) ∙ found.at_level in
    let died : n.died ≡ now = ap (λ (m : NodeState). m.died) (sym same) ∙ found.died in
    let low : n.low ≤ key = rw (sym same) found.low in
    let high : key < n.high = rw (sym same) found.high in
    let count = one_leads before key (lives_of nodes) nodes n (omega arith) node died low high in
    let listed_is : listed (lives_of nodes) n.level key before ≡ tally (lives_of nodes key before) = (let z : nat_eq n.level 0 ≡ true = grind (arith, nat_tests) in rw z refl) in
    split r matches (lives_of nodes key before) (count ∙ listed_is)
  where
    split : (o : Option ℕ) → MatchOption o (count_by (leads key) n.entries ≡ 0) (λ _. 0 < count_by (leads key) n.entries) → (b : Bool) → count_by (leads key) n.entries ≡ tally b → is_some o ≡ b
    split None h true e = absurd (omega arith)
    split None h false e = refl
    split (Some x) h true e = refl
    split (Some x) h false e = absurd (omega arith)

-- ---- the steps of an update together

after_none : (next : Option Root) (mid new : List NodeState) (P : List NodeState → Type 0) → IfNone next (new ≡ mid) → P mid → IfNone next (P new)
after_none None mid new P e p = subst P (sym e) p
after_none (Some r) mid new P e p = e

after_some : (version levels : ℕ) (next : Option Root) (mid new : List NodeState) (lives : ℕ → ℕ → Bool) (height : ℕ → ℕ) → IfSome next (λ r. HeightChanges version levels r.levels mid new) → IfSome next (λ r. r.from ≡ version) → IfSome next (IsTop version new)
    → ((v : ℕ) → version ≤ v → v < now → height v ≡ levels) → IsForest version lives height mid → IfSome next (λ r. (r.from ≡ version) × IsTop version new r × IsForest version lives (raised height version r.levels) new)
after_some version levels None mid new lives height a b c highest forest = a
after_some version levels (Some r) mid new lives height a b c highest forest = (b, c, a lives height highest forest)

module _ (before version key : ℕ) (alive : Bool) (nodes mid new : List NodeState) (roots : List Root) (r : Root) (next : Option Root)
    (tree : IsTree before nodes roots)
    (later : before < version) (last_small : version ≤ 16777216) (kt : key < top)
    (never : alive ≡ true → (v : ℕ) → lives_of nodes key v ≡ false)
    (is : r ≡ root_of roots before)
    (keyed : KeyChanges version key alive nodes mid)
    (grows : Grows version (r.levels - 1) nodes mid)
    (len : length mid ≤ length nodes + 2 * (r.levels - 1))
    (same : IfNone next (new ≡ mid))
    (height : IfSome next (λ s. HeightChanges version r.levels s.levels mid new))
    (from : IfSome next (λ s. s.from ≡ version))
    (tops : IfSome next (IsTop version new))
    (filled : All IsFilled new)
    (grows' : Grows version r.levels mid new)
    (len' : length new ≤ length mid + 3)
  where
    small_now : version < now
    small_now = omega arith

    b_now : before < now
    b_now = omega arith

    few : r.levels ≤ 10
    few = subst (λ (x : Root). x.levels ≤ 10) (sym is) (few_levels before nodes roots tree before b_now)

    forest : IsForest version (with_life (lives_of nodes) key version alive) (height_of roots) mid
    forest = keyed before (lives_of nodes) (height_of roots) later never tree.forest

    grown : Grows version (root_of roots before).levels nodes new
    grown =
        subst (λ (x : Root). Grows version x.levels nodes new) is
        (grows_both version r.levels nodes mid new small_now (grows_more version (r.levels - 1) r.levels nodes mid (omega arith) grows) grows')

    mid_top : IsTop version mid (root_of roots before)
    mid_top = top_grows before nodes roots tree version mid later (subst (λ (x : Root). Grows version (x.levels - 1) nodes mid) is grows)

    highest : (v : ℕ) → version ≤ v → v < now → height_of roots v ≡ r.levels
    highest v h n = ap (λ (x : Root). x.levels) (root_lasts (record { from = 0; node = 0; levels = 0 }) roots before v tree.rooted.latest (omega arith) ∙ sym is)

    none : IfNone next (IsForest version (with_life (lives_of nodes) key version alive) (height_of roots) new × IsTop version new (root_of roots before))
    none = after_none next mid new (λ xs. IsForest version (with_life (lives_of nodes) key version alive) (height_of roots) xs × IsTop version xs (root_of roots before)) same (forest, mid_top)

    some : IfSome next (λ s. (s.from ≡ version) × IsTop version new s × IsForest version (with_life (lives_of nodes) key version alive) (raised (height_of roots) version s.levels) new)
    some = after_some version r.levels next mid new (with_life (lives_of nodes) key version alive) (height_of roots) height from tops highest forest

    long : length new ≤ length nodes + 21
    long = let f = few in omega arith

    pub updated : AreLinked new → IsTree version new (roots ++ option_to_list next)
    updated = tree_after before nodes roots tree version key alive new next later last_small kt never grown filled long none some

    pub updated_lives : (k v : ℕ) → k < top → v < now → lives_of new k v ≡ with_life (lives_of nodes) key version alive k v
    updated_lives = lives_are before nodes roots tree version key alive new next later last_small kt never grown filled long none some

    pub updated_others : (k v : ℕ) → k ≢ key → lives_of new k v ≡ lives_of nodes k v
    updated_others = others_are before nodes roots tree version key alive new next later last_small kt never grown filled long none some

    pub updated_roots : (v : ℕ) → v < version → root_of (roots ++ option_to_list next) v ≡ root_of roots v
    updated_roots = roots_before before nodes roots tree version key alive new next later last_small kt never grown filled long none some

-- one key lives from a version on, or up to one
pub life_begins : (version key : ℕ) (nodes new : List NodeState) → version < now → key < top → ((v : ℕ) → lives_of nodes key v ≡ false) → ((k v : ℕ) → k < top → v < now → lives_of new k v ≡ with_life (lives_of nodes) key version true k v) → HasLife new key version now
life_begins version key nodes new small kt never are =
    record { lived = small; ends = omega arith; lives = λ v h. are key v kt h ∙ this_life (lives_of nodes) key version v true ∙ at v h (nat_le version v) refl }
  where
    at : (v : ℕ) → v < now → (b : Bool) → nat_le version v ≡ b → cond b true (lives_of nodes key v) ≡ within version now v
    at v h true s = let on : within version now v ≡ true = grind (arith, nat_tests) in sym on
    at v h false s = let off : within version now v ≡ false = grind (arith, nat_tests) in never v ∙ sym off

-- ---- the first tree

abbrev leaf : NodeState
leaf = fresh 0 0 top 0 [] []

abbrev first_root : Root
first_root = record { from = 0; node = 0; levels = 1 }

no_lives : (k v : ℕ) → lives_of (leaf ∷ []) k v ≡ false
no_lives k v = split (holds k v leaf)
  where
    split : (b : Bool) → ((b && false) || false) ≡ false
    split true = refl
    split false = refl

first_height : (v : ℕ) → height_of (first_root ∷ []) v ≡ 1
first_height v = let on : nat_le 0 v ≡ true = grind (arith, nat_tests) in ap (λ b. (cond b first_root (record { from = 0; node = 0; levels = 0 })).levels) on

first_tiles : Tiles (height_of (first_root ∷ [])) (leaf ∷ [])
first_tiles level k v kt vt =
    let one = sum_by-cons (λ n. tally (at_point level k v n)) leaf [] in
    let keys : within 0 top k ≡ true = grind (arith, nat_tests) in
    let versions : within 0 now v ≡ true = grind (arith, nat_tests) in
    let here : tally (at_point level k v leaf) ≡ tally (nat_eq 0 level) = rw (keys, versions) (keeps (nat_eq 0 level)) in
    let low : tally (nat_eq 0 level) ≡ tally (nat_lt level 1) = grind (arith, nat_tests) in
    rw (first_height v) (omega (arith, one, here, low))
  where
    keeps : (b : Bool) → tally (b && true) ≡ tally b
    keeps true = refl
    keeps false = refl

first_node : IsNode 0 (lives_of (leaf ∷ [])) (leaf ∷ []) leaf
first_node =
    record {
      wide = lit< tt;
      high = omega arith;
      begins = lit< tt;
      born = omega arith;
      ends = omega arith;
      ended = λ h. absurd (omega arith);
      placed = All-nil (IsPlaced 0 leaf);
      rows = λ z. All-nil (IsRow (lives_of (leaf ∷ [])) leaf);
      branches = λ z. All-nil (IsBranch (leaf ∷ []) leaf);
      lists = λ k v h. sym (ap tally (no_lives k v));
    }

first_forest : IsForest 0 (lives_of (leaf ∷ [])) (height_of (first_root ∷ [])) (leaf ∷ [])
first_forest = record { each = All-cons (IsNode 0 (lives_of (leaf ∷ [])) (leaf ∷ [])) leaf [] first_node (All-nil (IsNode 0 (lives_of (leaf ∷ [])) (leaf ∷ []))); tiles = first_tiles }

first_filled : All IsFilled (leaf ∷ [])
first_filled = All-cons IsFilled leaf [] (record { fits = omega arith; enough = λ v h. record { lower = λ x. absurd (omega arith); upper = λ x. absurd (omega arith); index = λ x. absurd (omega arith) } }) (All-nil IsFilled)

first_lives : AreLives 0 (lives_of (leaf ∷ []))
first_lives =
    record {
      each = λ k kt. record { born = 0; dead = 0; begins = omega arith; ends = inr (omega arith); lives_at = λ v h. no_lives k v ∙ (let off : within 0 0 v ≡ false = grind (arith, nat_tests) in sym off) };
      few = λ v h. (let none = nobody 0 top in let same = count_keys-alike (λ k. lives_of (leaf ∷ []) k v) (λ k. false) 0 top (λ k a b. no_lives k v) in omega (arith, none, same));
    }
  where
    nobody : (low n : ℕ) → count_keys (λ k. false) low n ≡ 0
    nobody low zero = count_keys-zero (λ k. false) low
    nobody low (suc n) = let z : tally false ≡ 0 = refl in omega (arith, z, count_keys-suc (λ k. false) low n, nobody low n)

first_roots : AreRoots 0 (leaf ∷ []) (first_root ∷ [])
first_roots =
    record {
      some = omega arith;
      first = refl;
      ordered = λ i j d h w. (let a : i ≡ 0 = omega arith in let b : j ≡ 0 = omega arith in rw (a, b) (omega arith));
      latest = All-cons (λ (r : Root). r.from ≤ 0) first_root [] (omega arith) (All-nil (λ (r : Root). r.from ≤ 0));
      stand = λ v h. (let on : nat_le 0 v ≡ true = grind (arith, nat_tests) in subst (λ b. IsRootAt (leaf ∷ []) v (cond b first_root (record { from = 0; node = 0; levels = 0 }))) (sym on) (record { node = leaf; stands = refl; level = refl; low = refl; high = refl; born = omega arith; died = h }));
    }

is_leaf : (i : ℕ) (n : NodeState) → slice_get (leaf ∷ []) i ≡ Some n → leaf ≡ n
is_leaf zero n e = cc
is_leaf (suc i) n e = cc

first_linked : AreLinked (leaf ∷ [])
first_linked =
    record {
      leaves = λ i n e z. subst (λ (m : NodeState). LinkJust (leaf ∷ []) m.born m.links) (is_leaf i n e) (record { back = All-nil (IsLinkTo (leaf ∷ []) 0); once = λ j m f l d. let same : now ≡ m.died = ap (λ (x : NodeState). x.died) (is_leaf j m f) in absurd (omega arith) });
      index = λ i n e z. let same : 0 ≡ n.level = ap (λ (x : NodeState). x.level) (is_leaf i n e) in absurd (omega arith);
    }

pub first_tree : IsTree 0 (leaf ∷ []) (first_root ∷ [])
first_tree = record { small = omega arith; forest = first_forest; filled = first_filled; lives = first_lives; rooted = first_roots; bounded = omega arith; linked = first_linked }
