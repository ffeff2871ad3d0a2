use Rattle.std.proofs.Common.{[], ◌∷◌, arith, get_or, refl}
use Rattle.tq_import.proofs.DateLemmas.{year_first_is}
use Rattle.tq_import.proofs.dates.year_first.Goals as goal

pub returns : goal.returns
returns c =
    let b = c.args.bytes.now in
    let first = c.is_separator.ensures c.if-not-is_separator.false in
    let second = c.is_separator-else-not-is_separator.ensures c.if-not-is_separator-2.false in (
      record { year = get_or b 0 0 ∷ get_or b 1 0 ∷ get_or b 2 0 ∷ get_or b 3 0 ∷ []; month = get_or b 5 0 ∷ get_or b 6 0 ∷ []; day = get_or b 8 0 ∷ get_or b 9 0 ∷ [] },
      year_first_is c.args.format.now b (omega arith) (omega arith) (omega arith) (omega arith) (omega arith) (omega arith) (omega arith) (omega arith) (omega arith) (omega arith) first second,
      refl,
    )
