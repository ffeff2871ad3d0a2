-- One new node, or two, with what was copied.
use Rattle.std.proofs.Common.{◌≡◌, ℕ, zero, ◌+◌, ◌<◌, ◌≤◌, List, [], ◌∷◌, ◌++◌, Bool, true, false, ◌&&◌, length, ap, refl, ◌∙◌, arith, nat_lt, nat_eq, append_assoc, length-append}
use Rattle.std.specs.Prelude.{All}
use Rattle.std.proofs.lemmas.Bool.Decides.{nat_tests}
use Rattle.std.proofs.lemmas.List.Elements.{All-nil, All-cons, All-append, All-weaker}
use Rattle.std.proofs.lemmas.List.Sums.{sum_by-cons, sum_by-append}
use Rattle.tq_mvbt.specs.declared.entry.Entry.{Entry}
use Rattle.tq_mvbt.specs.declared.node.Link.{Link}
use Rattle.tq_mvbt.specs.NodeState.{NodeState}
use Rattle.tq_mvbt.specs.Points.{now, within, covers}
use Rattle.tq_mvbt.specs.Shape.{tally, at_point, IsNode, IsFilled}
use Rattle.tq_mvbt.proofs.Filled.{filled_begins, parts_filled}
use Rattle.tq_arena.specs.Contents.{Contents}
use Rattle.tq_mvbt.specs.Steps.{fresh, entry_for, PutsTwo, PutsNodes}
use Rattle.tq_mvbt.specs.Copies.{IsInside, IsCopy}
use Rattle.tq_mvbt.proofs.Places.{at_left, at_right}
use Rattle.tq_mvbt.proofs.Losses.{node_begins, range_cut}
use Rattle.tq_mvbt.proofs.Copies.{begun, AreParts, parted}
use Rattle.tq_mvbt.proofs.Replaced.{IsEntryFor, IsMade}

pub made_one : {ls : List Link} → (version : ℕ) (lives : ℕ → ℕ → Bool) (level low high : ℕ) (old : List NodeState) (base : ℕ) (items : List Entry) → version < now → IsCopy version lives old level low high items → IsMade version lives level low high old base (fresh level low high version items ls ∷ []) (entry_for base (fresh level low high version items ls) ∷ [])
made_one {ls} version lives level low high old base items small copy =
    let n = fresh level low high version items ls in
    let e = entry_for base n in
    let none_left : zero + 0 ≡ 0 = refl in
    record {
      each = All-cons (IsNode version lives old) n [] (begun version lives old level low high items small copy) (All-nil (IsNode version lives old));
      fresh = All-cons (λ (m : NodeState). (m.level ≡ level) × (m.died ≡ now)) n [] (refl, refl) (All-nil (λ (m : NodeState). (m.level ≡ level) × (m.died ≡ now)));
      points = λ l k v h. omega (arith, sum_by-cons (λ m. tally (at_point l k v m)) n [], node_begins l k v version n refl refl);
      inside = All-cons (IsInside version low high) e [] (record { above = omega arith; wide = copy.wide; below = omega arith; born = omega arith; dead = refl }) (All-nil (IsInside version low high));
      entries = All-cons (IsEntryFor version level base (n ∷ [])) e [] (record { place = 0; child = n; stands = refl; number = omega arith; at_level = refl; low = refl; high = refl; born = refl; died = refl; entry_born = refl }) (All-nil (IsEntryFor version level base (n ∷ [])));
      covered = λ k v b h. let one : tally (covers k v e) ≡ tally (within low high k) = (let t : within version now v ≡ true = grind (arith, nat_tests) in rw t (ap tally (keeps (within low high k)))) in omega (arith, one, sum_by-cons (λ f. tally (covers k v f)) e []);
    }
  where
    keeps : (b : Bool) → (b && true) ≡ b
    keeps true = refl
    keeps false = refl

wider : (version low high low' high' : ℕ) (items : List Entry) → low' ≤ low → high ≤ high' → All (IsInside version low high) items → All (IsInside version low' high') items
wider version low high low' high' items a b all =
    All-weaker (IsInside version low high) (IsInside version low' high')
    (λ e i. record { above = let x = i.above in omega arith; wide = i.wide; below = let x = i.below in omega arith; born = i.born; dead = i.dead }) items all

pub made_both : (version : ℕ) (lives : ℕ → ℕ → Bool) (level low middle high : ℕ) (old : List NodeState) (base next : ℕ) (xs ys : List NodeState) (ds es : List Entry) → low ≤ middle → middle ≤ high → next ≡ base + length xs → IsMade version lives level low middle old base xs ds → IsMade version lives level middle high old next ys es → IsMade version lives level low high old base (xs ++ ys) (ds ++ es)
made_both version lives level low middle high old base next xs ys ds es lm mh follows a b =
    record {
      each = All-append (IsNode version lives old) xs ys a.each b.each;
      fresh = All-append (λ (m : NodeState). (m.level ≡ level) × (m.died ≡ now)) xs ys a.fresh b.fresh;
      points = λ l k v h. omega (arith, sum_by-append (λ m. tally (at_point l k v m)) xs ys, a.points l k v h, b.points l k v h, sides (nat_eq level l) k v);
      inside = All-append (IsInside version low high) ds es (wider version low middle low high ds (omega arith) mh a.inside) (wider version middle high low high es lm (omega arith) b.inside);
      entries = All-append (IsEntryFor version level base (xs ++ ys)) ds es
          (All-weaker (IsEntryFor version level base xs) (IsEntryFor version level base (xs ++ ys)) (λ e f. record { place = f.place; child = f.child; stands = at_left xs ys f.place f.child f.stands; number = f.number; at_level = f.at_level; low = f.low; high = f.high; born = f.born; died = f.died; entry_born = f.entry_born }) ds a.entries)
          (All-weaker (IsEntryFor version level next ys) (IsEntryFor version level base (xs ++ ys)) (λ e f. record { place = length xs + f.place; child = f.child; stands = at_right xs ys f.place ∙ f.stands; number = (let n = f.number in omega arith); at_level = f.at_level; low = f.low; high = f.high; born = f.born; died = f.died; entry_born = f.entry_born }) es b.entries);
      covered = λ k v s h. omega (arith, sum_by-append (λ e. tally (covers k v e)) ds es, a.covered k v s h, b.covered k v s h, range_cut low middle high k lm mh);
    }
  where
    sides : (l : Bool) (k v : ℕ) → tally (l && (within low high k && within version now v)) ≡ tally (l && (within low middle k && within version now v)) + tally (l && (within middle high k && within version now v))
    sides false k v = refl
    sides true k v = split (within low high k) (within low middle k) (within middle high k) (range_cut low middle high k lm mh) (within version now v)
      where
        split : (a b c : Bool) → tally a ≡ tally b + tally c → (w : Bool) → tally (a && w) ≡ tally (b && w) + tally (c && w)
        split true true true e w = absurd (omega arith)
        split true true false true' w = right_zero w
          where
            right_zero : (w : Bool) → tally w ≡ tally w + tally (false && w)
            right_zero true = refl
            right_zero false = refl
        split true false true e true = refl
        split true false true e false = refl
        split true false false e w = absurd (omega arith)
        split false true c e w = absurd (omega arith)
        split false false true e w = absurd (omega arith)
        split false false false e w = refl

pub made_two : {ls : List Link} → (version : ℕ) (lives : ℕ → ℕ → Bool) (level low middle high : ℕ) (old : List NodeState) (base next : ℕ) (lower upper : List Entry) → version < now → next ≡ base + 1 → AreParts version lives old level low middle high lower upper
    → IsMade version lives level low high old base (fresh level low middle version lower ls ∷ fresh level middle high version upper ls ∷ []) (entry_for base (fresh level low middle version lower ls) ∷ entry_for next (fresh level middle high version upper ls) ∷ [])
made_two {ls} version lives level low middle high old base next lower upper small follows parts =
    let a = parts.lower_copy in
    let b = parts.upper_copy in
    let a1 = a.wide in
    let b1 = b.wide in
    made_both version lives level low middle high old base next (fresh level low middle version lower ls ∷ []) (fresh level middle high version upper ls ∷ []) (entry_for base (fresh level low middle version lower ls) ∷ []) (entry_for next (fresh level middle high version upper ls) ∷ [])
    (omega arith) (omega arith) follows
    (made_one version lives level low middle old base lower small a)
    (made_one version lives level middle high old next upper small b)

-- what is added
pub record IsPut (version : ℕ) (lives : ℕ → ℕ → Bool) (level low high : ℕ) (old : List NodeState) (first second : Contents NodeState) (items added : List Entry) : Type 0 where
  pub made : List NodeState
  pub nodes : second.nodes ≡ first.nodes ++ made
  pub is_made : IsMade version lives level low high old (length first.nodes) made added
  pub filled : 5 ≤ length items → length items ≤ 40 → All IsFilled made
  pub room : second.room + length made ≡ first.room
  pub few : length made ≤ 2
  pub some : 1 ≤ length added
  pub most : length added ≤ 2
  pub links : List Link
  pub one : length items < 25 → (made ≡ fresh level low high version items links ∷ []) × (length added ≡ 1)
  pub two : 25 ≤ length items → length added ≡ 2

pub put : {ls : List Link} → (version : ℕ) (lives : ℕ → ℕ → Bool) (level low high : ℕ) (old : List NodeState) (first second : Contents NodeState) (items added : List Entry) → version < now → IsCopy version lives old level low high items → PutsNodes first second level low high version items added ls → IsPut version lives level low high old first second items added
put {ls} version lives level low high old first second items added small copy puts = split (nat_lt (length items) 25) refl
  where
    split : (b : Bool) → nat_lt (length items) 25 ≡ b → IsPut version lives level low high old first second items added
    split true s =
        let one = puts.few (grind (arith, nat_tests)) in
        record {
          made = fresh level low high version items ls ∷ [];
          nodes = one.puts.nodes;
          is_made = rw (one.added_is, one.puts.entry_is) (made_one version lives level low high old (length first.nodes) items small copy);
          filled = λ many few. All-cons IsFilled (fresh level low high version items ls) [] (filled_begins level low high version items copy.inside many (grind (arith, nat_tests))) (All-nil IsFilled);
          room = one.puts.room;
          few = omega arith;
          some = rw (one.added_is) (omega arith);
          most = rw (one.added_is) (omega arith);
          links = ls;
          one = λ h. (refl, ap length one.added_is);
          two = λ h. absurd (grind (arith, nat_tests));
        }
    split false s =
        let many : 25 ≤ length items = grind (arith, nat_tests) in
        let two = puts.many many in
        let nl = fresh level low two.middle version two.lower ls in
        let nu = fresh level two.middle high version two.upper ls in
        let next : length two.between.nodes ≡ length first.nodes + 1 = ap length two.puts_lower.nodes ∙ length-append first.nodes (nl ∷ []) in
        record {
          made = nl ∷ nu ∷ [];
          nodes = two.puts_upper.nodes ∙ ap (λ xs. xs ++ nu ∷ []) two.puts_lower.nodes ∙ append_assoc first.nodes (nl ∷ []) (nu ∷ []);
          is_made = rw (two.added_is, two.puts_lower.entry_is, two.puts_upper.entry_is)
              (made_two version lives level low two.middle high old (length first.nodes) (length two.between.nodes) two.lower two.upper small next
              (made_two_parts two));
          filled = λ enough few.
              let parts = made_two_parts two in
              let both = parts_filled level low two.middle high version items two.lower two.upper parts.lower_copy.inside parts.upper_copy.inside two.divided many few in
              All-cons IsFilled nl (nu ∷ []) both.0 (All-cons IsFilled nu [] both.1 (All-nil IsFilled));
          room = (let a = two.puts_lower.room in let b = two.puts_upper.room in omega arith);
          few = omega arith;
          some = rw (two.added_is) (omega arith);
          most = rw (two.added_is) (omega arith);
          links = ls;
          one = λ h. absurd (omega arith);
          two = λ h. ap length two.added_is;
        }
      where
        made_two_parts : (two : PutsTwo first second level low high version items added ls) → AreParts version lives old level low two.middle high two.lower two.upper
        made_two_parts two = parted version lives old level low high items two.lower two.upper two.middle small copy two.divided (grind (arith, nat_tests, s))
