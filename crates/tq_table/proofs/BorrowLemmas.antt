-- References to values, row after row.
use Rattle.std.proofs.Common.{◌≡◌, ◌∙◌, ◌+◌, ◌<◌, ◌≤◌, ◌++◌, ◌∷◌, [], ℕ, suc, List, ap, arith, drop, get_or, length, map, refl, subst, sym, take}
use Rattle.std.proofs.lemmas.List.{drop-drop, drop_more, length-drop}
use Rattle.std.specs.List.{flat_map}
use Rattle.std.specs.Prelude.{All}
use Rattle.tq_base.specs.declared.fragment.Fragment.{Fragment}
use Rattle.tq_base.specs.declared.value.ValueRef.{ValueRef}
use Rattle.tq_base.specs.declared.value.Value.{Value}
use Rattle.tq_base.specs.Values.{value_ref}

-- the references begin with these values
record Begin (borrows : List ValueRef) (values more : List Value) (width : ℕ) : Type 0 where
  pub fits : width ≤ length borrows
  pub front : map value_ref (take width borrows) ≡ values
  pub rest : map value_ref (drop width borrows) ≡ more

begins : (borrows : List ValueRef) (values more : List Value) → map value_ref borrows ≡ values ++ more → Begin borrows values more (length values)
begins borrows [] more same = record { fits = omega arith; front = refl; rest = same }
begins [] (v ∷ values) more same = absurd (let short : 0 ≡ suc (length (values ++ more)) = ap length same in omega (arith, short))
begins (s ∷ borrows) (v ∷ values) more same =
    let first : value_ref s ≡ v = ap (λ l. get_or l 0 v) same in
    let tail = begins borrows values more (ap (λ l. drop 1 l) same) in
    record {
      fits = omega (arith, tail.fits);
      front = ap (λ x. x ∷ map value_ref (take (length values) borrows)) first ∙ ap (λ l. v ∷ l) tail.front;
      rest = tail.rest;
    }

-- the values of the next row come first, and those of the other rows after them
pub next-row : (borrows : List ValueRef) (rows : List Fragment) (from row width : ℕ) (d : Fragment) → from ≤ length borrows → row < length rows
    → All (λ (r : Fragment). length r.values ≡ width) rows
    → map value_ref (drop from borrows) ≡ flat_map (λ (r : Fragment). r.values) (drop row rows)
    → record {
      fits : from + width ≤ length borrows;
      front : map value_ref (take width (drop from borrows)) ≡ (get_or rows row d).values;
      rest : map value_ref (drop (from + width) borrows) ≡ flat_map (λ (r : Fragment). r.values) (drop (row + 1) rows);
    }
next-row borrows rows from row width d within less wide same =
    let values = λ (r : Fragment). r.values in
    let here = get_or rows row d in
    let more = flat_map values (drop (row + 1) rows) in
    let parts : map value_ref (drop from borrows) ≡ here.values ++ more = same ∙ ap (flat_map values) (drop_more rows row d less) in
    let begin = subst (Begin (drop from borrows) here.values more) (wide row d less) (begins (drop from borrows) here.values more parts) in
    let left = length-drop from borrows in
    record {
      fits = omega (arith, within, left, begin.fits);
      front = begin.front;
      rest = ap (map value_ref) (sym (drop-drop width from borrows)) ∙ begin.rest;
    }
