-- One key's life begins or ends: the lives of the tree afterwards.
use Rattle.std.proofs.Common.{◌≡◌, ◌≢◌, ℕ, ◌+◌, ◌<◌, ◌≤◌, ◌⊎◌, inl, inr, Bool, true, false, cond, ◌&&◌, ◌||◌, List, [], ◌∷◌, ap, refl, sym, ◌∙◌, subst, arith, count_by, nat_lt, nat_le, nat_eq, min}
use Rattle.std.specs.Prelude.{All}
use Rattle.std.proofs.lemmas.Bool.Decides.{nat_tests}
use Rattle.std.proofs.lemmas.List.Elements.{All-head, All-tail}
use Rattle.tq_mvbt.specs.NodeState.{NodeState}
use Rattle.tq_mvbt.specs.Points.{now, within, covers, holds}
use Rattle.tq_mvbt.specs.Shape.{top, tally, with_life, IsNode}
use Rattle.tq_mvbt.specs.TreeState.{count_keys, lives_of, IsLife, AreLives}
use Rattle.tq_mvbt.proofs.Among.{count_keys-alike, count_keys-one_more}

-- outside the keys and the versions nothing lives
pub lives_beyond : (version : ℕ) (lives : ℕ → ℕ → Bool) (all nodes : List NodeState) (k v : ℕ) → All (IsNode version lives all) nodes → (top ≤ k) ⊎ (now ≤ v) → lives_of nodes k v ≡ false
lives_beyond version lives all [] k v each far = refl
lives_beyond version lives all (n ∷ nodes) k v each far =
    let node = All-head (IsNode version lives all) n nodes each in
    let off : holds k v n ≡ false = outside node far (within n.low n.high k) refl in
    let rest = lives_beyond version lives all nodes k v (All-tail (IsNode version lives all) n nodes each) far in
    rw (off, rest) (neither (nat_eq n.level 0))
  where
    neither : (b : Bool) → ((b && false && nat_lt 0 (count_by (covers k v) n.entries)) || false) ≡ false
    neither true = refl
    neither false = refl

    outside : IsNode version lives all n → (top ≤ k) ⊎ (now ≤ v) → (w : Bool) → within n.low n.high k ≡ w → (w && within n.born n.died v) ≡ false
    outside node (inl h) true s = let a = node.high in absurd (grind (arith, nat_tests))
    outside node (inr h) true s = let a = node.ends in grind (arith, nat_tests)
    outside node far false s = refl

-- at other keys, and before the version, nothing changes
pub other_life : (lives : ℕ → ℕ → Bool) (key version k v : ℕ) (alive : Bool) → k ≢ key → with_life lives key version alive k v ≡ lives k v
other_life lives key version k v alive differ = let s : nat_eq k key ≡ false = grind (arith, nat_tests) in rw s refl

pub earlier_life : (lives : ℕ → ℕ → Bool) (key version k v : ℕ) (alive : Bool) → v < version → with_life lives key version alive k v ≡ lives k v
earlier_life lives key version k v alive h = split (nat_eq k key)
  where
    split : (b : Bool) → cond (b && nat_le version v) alive (lives k v) ≡ lives k v
    split true = let s : nat_le version v ≡ false = grind (arith, nat_tests) in rw s refl
    split false = refl

pub this_life : (lives : ℕ → ℕ → Bool) (key version v : ℕ) (alive : Bool) → with_life lives key version alive key v ≡ cond (nat_le version v) alive (lives key v)
this_life lives key version v alive = let s : nat_eq key key ≡ true = grind (arith, nat_tests) in rw s refl

-- a key that lives at the last version does so from there on
lasting : (before : ℕ) (lives : ℕ → Bool) (v : ℕ) → IsLife before lives → before ≤ v → before < now → v < now → lives v ≡ lives before
lasting before lives v life h b n = life.lives_at v n ∙ same life.ends ∙ sym (life.lives_at before b)
  where
    same : (life.dead ≡ now) ⊎ (life.dead ≤ before) → within life.born life.dead v ≡ within life.born life.dead before
    same (inl e) = let a = life.begins in grind (arith, nat_tests)
    same (inr e) = let a = life.begins in grind (arith, nat_tests)

module _ (before version key : ℕ) (alive : Bool) (old new : ℕ → ℕ → Bool)
    (later : before < version) (small : version < now)
    (was : AreLives before old)
    (never : alive ≡ true → (v : ℕ) → old key v ≡ false)
    (changes : (k v : ℕ) → k < top → v < now → new k v ≡ with_life old key version alive k v)
  where
    other : (k : ℕ) → k < top → k ≢ key → IsLife version (new k)
    other k kt differ =
        let life = was.each k kt in
        let a = life.begins in
        record {
          born = life.born;
          dead = life.dead;
          begins = omega arith;
          ends = ends life.ends;
          lives_at = λ v h. changes k v kt h ∙ other_life old key version k v alive differ ∙ life.lives_at v h;
        }
      where
        ends : {d : ℕ} → (d ≡ now) ⊎ (d ≤ before) → (d ≡ now) ⊎ (d ≤ version)
        ends (inl e) = inl e
        ends (inr e) = inr (omega arith)

    begun : key < top → alive ≡ true → IsLife version (new key)
    begun kt s =
        record {
          born = version;
          dead = now;
          begins = omega arith;
          ends = inl refl;
          lives_at = λ v h. changes key v kt h ∙ this_life old key version v alive ∙ at v h (nat_le version v) refl;
        }
      where
        at : (v : ℕ) → v < now → (b : Bool) → nat_le version v ≡ b → cond b alive (old key v) ≡ within version now v
        at v h true t = let on : within version now v ≡ true = grind (arith, nat_tests) in s ∙ sym on
        at v h false t = let off : within version now v ≡ false = grind (arith, nat_tests) in never s v ∙ sym off

    over : key < top → alive ≡ false → IsLife version (new key)
    over kt s =
        let life = was.each key kt in
        let a = life.begins in
        record {
          born = life.born;
          dead = min life.dead version;
          begins = omega arith;
          ends = inr (omega arith);
          lives_at = λ v h. changes key v kt h ∙ this_life old key version v alive ∙ at life v h (nat_le version v) refl;
        }
      where
        at : (life : IsLife before (old key)) (v : ℕ) → v < now → (b : Bool) → nat_le version v ≡ b → cond b alive (old key v) ≡ within life.born (min life.dead version) v
        at life v h true t =
            let u : version ≤ v = grind (arith, nat_tests) in
            let m : min life.dead version ≤ v = omega arith in
            let off : within life.born (min life.dead version) v ≡ false = beyond life.born (min life.dead version) m in
            s ∙ sym off
          where
            beyond : (x y : ℕ) → y ≤ v → within x y v ≡ false
            beyond x y g = grind (arith, nat_tests)
        at life v h false t =
            let u : v < version = grind (arith, nat_tests) in
            life.lives_at v h ∙ same (min life.dead version) (split (nat_lt life.dead version) refl)
          where
            split : (b : Bool) → nat_lt life.dead version ≡ b → (min life.dead version ≡ life.dead) ⊎ ((v < life.dead) × (v < min life.dead version))
            split true e = inl (let l : life.dead < version = grind (arith, nat_tests) in omega arith)
            split false e = let l : version ≤ life.dead = grind (arith, nat_tests) in let u : v < version = grind (arith, nat_tests) in inr (omega arith, omega arith)

            same : (d : ℕ) → (d ≡ life.dead) ⊎ ((v < life.dead) × (v < d)) → within life.born life.dead v ≡ within life.born d v
            same d (inl e) = ap (λ x. within life.born x v) (sym e)
            same d (inr e) = let a = e.0 in let b = e.1 in grind (arith, nat_tests)

    each_life : (k : ℕ) → k < top → IsLife version (new k)
    each_life k kt = split (nat_eq k key) refl alive refl
      where
        split : (b : Bool) → nat_eq k key ≡ b → (a : Bool) → alive ≡ a → IsLife version (new k)
        split false s a t = other k kt (grind (arith, nat_tests))
        split true s true t =
            let at : k ≡ key = grind (arith, nat_tests) in
            subst (λ x. IsLife version (new x)) (sym at) (begun (omega arith) t)
        split true s false t =
            let at : k ≡ key = grind (arith, nat_tests) in
            subst (λ x. IsLife version (new x)) (sym at) (over (omega arith) t)

    few_lives : (v : ℕ) → v < now → count_keys (λ k. new k v) 0 top ≤ v
    few_lives v h = split (nat_lt v version) refl
      where
        most : (b : Bool) → tally b ≤ 1
        most true = omega arith
        most false = omega arith

        split : (b : Bool) → nat_lt v version ≡ b → count_keys (λ k. new k v) 0 top ≤ v
        split true s =
            let u : v < version = grind (arith, nat_tests) in
            let same = count_keys-alike (λ k. new k v) (λ k. old k v) 0 top (λ k a b. changes k v (omega arith) h ∙ earlier_life old key version k v alive u) in
            omega (arith, same, was.few v h)
        split false s =
            let u : version ≤ v = grind (arith, nat_tests) in
            let bn : before < now = omega arith in
            let same = count_keys-alike (λ k. old k v) (λ k. old k before) 0 top (λ k a b. lasting before (old k) v (was.each k (omega arith)) (omega arith) bn h) in
            let swap = count_keys-alike (λ k. new k v) (λ k. with_life old key version alive k v) 0 top (λ k a b. changes k v (omega arith) h) in
            let more = count_keys-one_more (λ k. with_life old key version alive k v) (λ k. old k v) key 0 top (λ k differ. let e : tally (with_life old key version alive k v) ≡ tally (old k v) = ap tally (other_life old key version k v alive differ) in omega arith) in
            omega (arith, same, swap, more, most (nat_lt key (0 + top)), was.few before bn)

    pub lives_change : AreLives version new
    lives_change = record { each = each_life; few = few_lives }

-- at no version do more keys live than there were versions up to the last change
pub few_keys : (before v : ℕ) (lives : ℕ → ℕ → Bool) → AreLives before lives → before < now → v < now → count_keys (λ k. lives k v) 0 top ≤ before
few_keys before v lives are small h = split (nat_lt v before) refl
  where
    split : (b : Bool) → nat_lt v before ≡ b → count_keys (λ k. lives k v) 0 top ≤ before
    split true s = let u : v < before = grind (arith, nat_tests) in omega (arith, are.few v h)
    split false s =
        let u : before ≤ v = grind (arith, nat_tests) in
        let same = count_keys-alike (λ k. lives k v) (λ k. lives k before) 0 top (λ k a b. lasting before (lives k) v (are.each k (omega arith)) u small h) in
        omega (arith, same, are.few before small)
