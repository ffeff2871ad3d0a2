-- Each key of a window is found in exactly one part of any cut.
use Rattle.std.proofs.Common.{◌≡◌, ◌≢◌, ℕ, Bool, true, false, List, refl, ap, sym, ◌∙◌, subst, arith, count_by, slice_get, Some, nat_eq, max}
use Rattle.std.proofs.lemmas.Bool.Decides.{nat_tests}
use Rattle.tq_mvbt.specs.NodeState.{NodeState}
use Rattle.tq_mvbt.specs.Points.{within}
use Rattle.tq_mvbt.specs.TreeState.{HasLife}
use Rattle.tq_scan.specs.declared.window.Part.{Part}
use Rattle.tq_scan.specs.declared.window.Window.{Window}
use Rattle.tq_scan.specs.Windows.{IsInside, lies_in, whole_of}
use Rattle.tq_scan.specs.Cuts.{AreTiles}
use Rattle.tq_scan.specs.Scans.{FoundIn}
use Rattle.tq_scan.specs.Laws.{IsInOnePart, KeysAreInOnePart}
use Rattle.tq_scan.proofs.Lists.{tally, all_at, two_pass, some_passes}
use Rattle.tq_scan.proofs.KeysOnce.{inside_of, lies_from, within_true, within_low}

-- a key has one life
born_once : (nodes : List NodeState) (k b d b' d' : ℕ) → HasLife nodes k b d → HasLife nodes k b' d' → b ≡ b'
born_once nodes k b d b' d' f g =
    let l = f.lived in let l' = g.lived in let e = f.ends in let e' = g.ends in
    let here : within b' d' b ≡ true = sym (g.lives b (omega arith)) ∙ f.lives b (omega arith) ∙ within_true b d b (omega arith) l in
    let there : within b d b' ≡ true = sym (f.lives b' (omega arith)) ∙ g.lives b' (omega arith) ∙ within_true b' d' b' (omega arith) l' in
    let x = within_low b' d' b here in
    let y = within_low b d b' there in
    omega arith

module _ (nodes : List NodeState) (w : Window) (parts : List Part) (tiled : AreTiles w parts) where
  -- the reference point of a key that is found in a part lies in the part
  in_part : (k b : ℕ) (p : Part) → FoundIn nodes w p k → (f : FoundIn nodes w (whole_of w) k) → lies_in p k (max f.born w.first) ≡ true
  in_part k b p g f = subst (λ x. lies_in p k (max x w.first) ≡ true) (born_once nodes k g.born g.dead f.born f.dead g.life f.life) g.reference

  one : (k : ℕ) → FoundIn nodes w (whole_of w) k → IsInOnePart nodes w parts k
  one k f =
      let counted = tiled.tiles k (max f.born w.first) ∙ ap tally f.reference in
      let s = some_passes (λ p. lies_in p k (max f.born w.first)) parts (omega (arith, counted)) in
      record {
        place = s.place;
        part = s.element;
        stands = s.stands;
        found = record { born = f.born; dead = f.dead; life = f.life; version = f.version; in_window = f.in_window; alive = f.alive; reference = s.passes };
        only = λ i p e g. other i p s.place s.element e s.stands (in_part k f.born p g f) s.passes (nat_eq i s.place) refl counted;
      }
    where
      other : (i : ℕ) (p : Part) (j : ℕ) (q : Part) → slice_get parts i ≡ Some p → slice_get parts j ≡ Some q → lies_in p k (max f.born w.first) ≡ true → lies_in q k (max f.born w.first) ≡ true → (b : Bool) → nat_eq i j ≡ b → count_by (λ p. lies_in p k (max f.born w.first)) parts ≡ 1 → i ≡ j
      other i p j q e e' h h' true s c = grind (arith, nat_tests)
      other i p j q e e' h h' false s c =
          let differ : i ≢ j = grind (arith, nat_tests) in
          absurd (omega (arith, c, two_pass (λ p. lies_in p k (max f.born w.first)) parts i j p q differ e e' h h'))

  all : (i k : ℕ) (p : Part) → slice_get parts i ≡ Some p → FoundIn nodes w p k → FoundIn nodes w (whole_of w) k
  all i k p e f =
      let inside = all_at (IsInside w) parts i p tiled.inside e in
      let x = inside_of p k (max f.born w.first) f.reference in
      let a1 = x.low in let a2 = x.high in let a3 = x.first in let a4 = x.last in
      let b1 = inside.low in let b2 = inside.high in let b3 = inside.first in let b4 = inside.last in
      record {
        born = f.born;
        dead = f.dead;
        life = f.life;
        version = f.version;
        in_window = f.in_window;
        alive = f.alive;
        reference = lies_from (whole_of w) k (max f.born w.first) (record { low = omega arith; high = omega arith; first = omega arith; last = omega arith });
      }

  pub each_in_one_part : KeysAreInOnePart nodes w parts
  each_in_one_part = record { one = one; all = all }
