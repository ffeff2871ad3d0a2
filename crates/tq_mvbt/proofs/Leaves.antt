-- A leaf's entries are edited at one key; and a node that was replaced leaves its parent from before the version.
use Rattle.std.proofs.Common.{◌≡◌, ◌≢◌, ℕ, ◌+◌, ◌-◌, ◌<◌, ◌≤◌, List, [], ◌∷◌, ◌++◌, Bool, true, false, cond, length, map, ap, refl, sym, ◌∙◌, subst, arith, count_by, set, nat_eq, slice_get, Some}
use Rattle.std.specs.Prelude.{All}
use Rattle.std.proofs.lemmas.Bool.Decides.{nat_tests}
use Rattle.std.proofs.lemmas.List.{take_all}
use Rattle.std.proofs.Math.Seq.{drop-length}
use Rattle.std.proofs.lemmas.List.Elements.{All-weaker, All-nil}
use Rattle.std.proofs.lemmas.List.Sums.{sum_by-cons}
use Rattle.tq_arena.specs.Contents.{Contents}
use Rattle.tq_mvbt.specs.declared.entry.Entry.{Entry}
use Rattle.tq_mvbt.specs.NodeState.{NodeState}
use Rattle.tq_mvbt.specs.Points.{now, is_live, leads, with_end}
use Rattle.tq_mvbt.specs.Shape.{top, tally, IsPlaced, IsNode, IsForest, IsFilled, IsFound, listed, with_life}
use Rattle.tq_mvbt.specs.Steps.{edited, with_entry, Changes}
use Rattle.tq_mvbt.specs.Unsettled.{IsFromBefore, IsForestBy, IsSettling, IsReady, IsPartOf}
use Rattle.tq_mvbt.proofs.Lists.{all_at}
use Rattle.tq_mvbt.proofs.Descent.{one_leads}
use Rattle.tq_mvbt.proofs.Counts.{is_ended, count_grows}
use Rattle.tq_mvbt.proofs.Settled.{IsNewEntry, edit_settles}
use Rattle.tq_mvbt.proofs.Parents.{enough_now, filled_now, part_of}

-- a node of a tree is from before every later version
pub older_node : (before version : ℕ) (lives : ℕ → ℕ → Bool) (nodes : List NodeState) (n : NodeState) → before < version → IsNode before lives nodes n → IsFilled n → IsFromBefore version 0 n
older_node before version lives nodes n later node filled =
    let all = All-weaker (IsPlaced before n) (λ e. e.born < version) (λ e p. let b = p.born in omega arith) n.entries node.placed in
    let whole : length n.entries - 0 ≡ length n.entries = omega arith in
    let a = node.born in
    let f = filled.fits in
    record {
      born = omega arith;
      within_items = omega arith;
      few = omega arith;
      old = rw (whole, take_all (length n.entries) n.entries (omega arith)) all;
      young = rw (whole, drop-length n.entries) (All-nil (λ e. version ≤ e.born));
    }

tally_most : (b : Bool) → tally b ≤ 1
tally_most true = omega arith
tally_most false = omega arith

pub leaf_settles : (version key : ℕ) (alive : Bool) (s t : Contents NodeState) (p : ℕ) (added : List Entry) → version < now → IsReady version key alive s.nodes → IsFound s.nodes 0 key p → Changes s t p (edited key (key + 1) version added) → All (IsNewEntry version) added → length added ≤ 1 → IsSettling version 0 (length added) t.nodes p
leaf_settles version key alive s t p added small ready found change new few =
    let nodes = s.nodes in
    let n = found.node in
    let later = ready.later in
    let each = λ (i : ℕ) (m : NodeState) (e : slice_get nodes i ≡ Some m). all_at (IsNode ready.before ready.lives nodes) nodes i m ready.forest.each e in
    let full = λ (i : ℕ) (m : NodeState) (e : slice_get nodes i ≡ Some m). all_at IsFilled nodes i m ready.filled e in
    let node = each p n found.stands in
    let filled = full p n found.stands in
    let a = found.stands in
    let b = change.stands in
    let same : change.node ≡ n = cc in
    let is : t.nodes ≡ set nodes p (edited key (key + 1) version added n) = change.nodes ∙ ap (λ m. set nodes p (edited key (key + 1) version added m)) same in
    let leaf = found.at_level in
    let one = one_leads ready.before key ready.lives nodes n (omega arith) node found.died found.low found.high in
    let most : count_by (leads key) n.entries ≤ 1 = (let z : nat_eq n.level 0 ≡ true = grind (arith, nat_tests) in let l : listed ready.lives n.level key ready.before ≡ tally (ready.lives key ready.before) = rw z refl in omega (arith, one, l, tally_most (ready.lives key ready.before))) in
    let grows = count_grows (is_ended key (key + 1)) (leads key) n.entries (All-weaker (IsPlaced ready.before n) (λ e. is_ended key (key + 1) e ≡ true → leads key e ≡ true) (λ e q u. let w = q.wide in grind (arith, nat_tests, u)) n.entries node.placed) in
    rw is
    (edit_settles version 0 key (key + 1) nodes p n added small found.stands found.at_level found.died (older_node ready.before version ready.lives nodes n later node filled)
    (record { enough = λ v h u. filled.enough v u })
    (enough_now ready.before ready.lives nodes n (omega arith) node found.died filled)
    new (omega arith) (omega (arith, grows, most))
    (λ i m e d. full i m e)
    (λ i m e l d. older_node ready.before version ready.lives nodes m later (each i m e) (full i m e)))

-- an edit that ends no entry keeps them
kept_all : (low high version : ℕ) (es : List Entry) → count_by (is_ended low high) es ≡ 0 → map (with_end low high version) es ≡ es
kept_all low high version [] none = refl
kept_all low high version (e ∷ es) none =
    let parts = sum_by-cons (λ f. tally (is_ended low high f)) e es in
    split (is_ended low high e) (kept_all low high version es (omega (arith, parts, none))) (omega (arith, parts, none))
  where
    split : (b : Bool) → map (with_end low high version) es ≡ es → tally b ≡ 0 → cond b (record e { dead = version }) e ∷ map (with_end low high version) es ≡ e ∷ es
    split true rest off = absurd (omega arith)
    split false rest off = ap (λ xs. e ∷ xs) rest

-- if a key is inserted that never lived, no entry of its leaf ends
pub adds_edited : (version key : ℕ) (alive : Bool) (s t : Contents NodeState) (p : ℕ) (e : Entry) → version < now → alive ≡ true → IsReady version key alive s.nodes → IsFound s.nodes 0 key p → Changes s t p (with_entry e) → Changes s t p (edited key (key + 1) version (e ∷ []))
adds_edited version key alive s t p e small on ready found change =
    let nodes = s.nodes in
    let n = found.node in
    let later = ready.later in
    let a = found.stands in
    let b = change.stands in
    let same : n ≡ change.node = cc in
    let node = all_at (IsNode ready.before ready.lives nodes) nodes p n ready.forest.each found.stands in
    let leaf = found.at_level in
    let one = one_leads ready.before key ready.lives nodes n (omega arith) node found.died found.low found.high in
    let never : tally (ready.lives key ready.before) ≡ 0 = ap tally (ready.never on ready.before) in
    let none : count_by (leads key) n.entries ≡ 0 = (let z : nat_eq n.level 0 ≡ true = grind (arith, nat_tests) in let l : listed ready.lives n.level key ready.before ≡ tally (ready.lives key ready.before) = rw z refl in omega (arith, one, l, never)) in
    let grows = count_grows (is_ended key (key + 1)) (leads key) n.entries (All-weaker (IsPlaced ready.before n) (λ e. is_ended key (key + 1) e ≡ true → leads key e ≡ true) (λ e q u. let w = q.wide in grind (arith, nat_tests, u)) n.entries node.placed) in
    let kept = kept_all key (key + 1) version n.entries (omega (arith, grows, none)) in
    let its : map (with_end key (key + 1) version) change.node.entries ≡ change.node.entries = subst (λ (m : NodeState). map (with_end key (key + 1) version) m.entries ≡ m.entries) same kept in
    record {
      node = change.node;
      stands = change.stands;
      nodes = change.nodes ∙ ap (λ xs. set nodes p (record change.node { entries = xs ++ e ∷ [] })) (sym its);
      room = change.room;
    }

-- two nodes of different levels are different
apart : (nodes : List NodeState) (p q : ℕ) (n m : NodeState) → slice_get nodes p ≡ Some n → slice_get nodes q ≡ Some m → n.level < m.level → q ≢ p
apart nodes p q n m e f l = λ (same : q ≡ p).
    let g : slice_get nodes p ≡ Some m = subst (λ x. slice_get nodes x ≡ Some m) same f in
    let both : n ≡ m = cc in
    let levels : n.level ≡ m.level = ap (λ (x : NodeState). x.level) both in
    omega arith

-- the node that was found above, before the update
above_filled : (version level last key : ℕ) (nodes : List NodeState) (p q : ℕ) → IsSettling version level last nodes p → (found : IsFound nodes (level + 1) key q) → IsFilled found.node
above_filled version level last key nodes p q settling found =
    let l = settling.loose.at_level in
    let m = found.at_level in
    settling.others q found.node found.stands (apart nodes p q settling.loose.node found.node settling.loose.stands found.stands (omega arith))

-- the node below is settled, and the one above it is unchanged
pub settles_above : (version level last key : ℕ) (nodes : List NodeState) (p q : ℕ) → version < now → IsForestBy version nodes → (settling : IsSettling version level last nodes p) → length settling.loose.node.entries ≤ 32 → 5 ≤ count_by is_live settling.loose.node.entries → IsFound nodes (level + 1) key q → IsSettling version (level + 1) 0 nodes q
settles_above version level last key nodes p q small by settling fits enough found =
    let n = settling.loose.node in
    let m = found.node in
    let l = settling.loose.at_level in
    let k = found.at_level in
    let differ = apart nodes p q n m settling.loose.stands found.stands (omega arith) in
    let node = all_at (IsNode version by.lives nodes) nodes p n by.forest.each settling.loose.stands in
    let above = all_at (IsNode version by.lives nodes) nodes q m by.forest.each found.stands in
    let full = above_filled version level last key nodes p q settling found in
    let sure = enough_now version by.lives nodes m small above found.died full in
    let right = filled_now version by.lives nodes n small node settling.loose.died settling.before fits (record { lower = λ x. enough; upper = λ x. enough; index = λ x. omega arith }) in
    record {
      loose = record { node = m; stands = found.stands; at_level = found.at_level; died = found.died; from_before = settling.above q m found.stands (omega arith) differ };
      few = omega arith;
      before = record { enough = λ v h u. full.enough v u };
      near = record { lower = λ x. let w = sure.lower x in omega arith; upper = λ x. let w = sure.upper x in omega arith; index = λ x. let w = sure.index x in omega arith };
      others = λ i x e d. other i x e (nat_eq i p) refl right;
      above = λ i x e h d. settling.above i x e (omega arith) (apart nodes p i n x settling.loose.stands e (omega arith));
    }
  where
    other : (i : ℕ) (x : NodeState) → slice_get nodes i ≡ Some x → (b : Bool) → nat_eq i p ≡ b → IsFilled settling.loose.node → IsFilled x
    other i x e true s right =
        let at : p ≡ i = grind (arith, nat_tests) in
        let g : slice_get nodes i ≡ Some settling.loose.node = subst (λ y. slice_get nodes y ≡ Some settling.loose.node) at settling.loose.stands in
        let same : settling.loose.node ≡ x = cc in
        subst (λ (y : NodeState). IsFilled y) same right
    other i x e false s right = settling.others i x e (grind (arith, nat_tests))

-- the node below has some of the keys of the one above, and not all
pub part_above : (version level last key : ℕ) (nodes : List NodeState) (p q : ℕ) → version < now → key < top → IsForestBy version nodes → (settling : IsSettling version level last nodes p) → IsFound nodes level key p → IsFound nodes (level + 1) key q → IsPartOf nodes level p q
part_above version level last key nodes p q small kt by settling low_found found =
    let m = found.node in
    let k = found.at_level in
    let above = all_at (IsNode version by.lives nodes) nodes q m by.forest.each found.stands in
    let full = above_filled version level last key nodes p q settling found in
    let sure = enough_now version by.lives nodes m small above found.died full in
    record {
      node = low_found.node;
      above = m;
      stands = low_found.stands;
      above_stands = found.stands;
      at_level = low_found.at_level;
      above_level = found.at_level;
      died = low_found.died;
      above_died = found.died;
      part = part_of version level by.lives by.height nodes q m small by.forest found.stands found.at_level found.died key p low_found.node low_found.stands low_found.at_level low_found.died low_found.low low_found.high found.low found.high (sure.index (omega arith));
    }

-- the tree of the version after an update
pub keyed_forest : (version key : ℕ) (alive : Bool) (old new : List NodeState) → IsReady version key alive old → ((before : ℕ) (lives : ℕ → ℕ → Bool) (height : ℕ → ℕ) → before < version → (alive ≡ true → (v : ℕ) → lives key v ≡ false) → IsForest before lives height old → IsForest version (with_life lives key version alive) height new) → IsForestBy version new
keyed_forest version key alive old new ready f = record { lives = with_life ready.lives key version alive; height = ready.height; forest = f ready.before ready.lives ready.height ready.later ready.never ready.forest }

pub older_found : (version key : ℕ) (alive : Bool) (nodes : List NodeState) (p : ℕ) → IsReady version key alive nodes → (found : IsFound nodes 0 key p) → length found.node.entries ≤ 32
older_found version key alive nodes p ready found = (all_at IsFilled nodes p found.node ready.filled found.stands).fits
