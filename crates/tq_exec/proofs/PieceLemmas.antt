-- Periods that tile the window of a plan are parts of its rows.
use Rattle.std.proofs.Common.{◌≡◌, ◌+◌, ◌≤◌, ℕ, suc, Bool, cond, List, [], ◌∷◌, length, ap, ◌∙◌, arith, get_or, sum_by, sym}
use Rattle.std.specs.Prelude.{◌&&◌, nat_le, nat_lt, All}
use Rattle.std.proofs.lemmas.Bool.Decides.{nat_tests}
use Rattle.std.proofs.lemmas.List.{get_or_default}
use Rattle.std.proofs.lemmas.List.Elements.{All-nil, All-cons}
use Rattle.std.proofs.lemmas.List.Sums.{sum_by-cons}
use Rattle.tq_base.specs.declared.period.Period.{Period}
use Rattle.tq_base.specs.RowLists.{RowList}
use Rattle.tq_table.specs.Merging.{AreOfWidth}
use Rattle.tq_plan.specs.declared.plans.Plan.{Plan}
use Rattle.tq_plan.specs.Cuts.{Follow}
use Rattle.tq_exec.specs.Answers.{times_by, times_within, ValidRows}
use Rattle.tq_exec.specs.Parts.{PeriodsAreParts}
use Rattle.tq_exec.specs.PeriodPieces.{ArePieces}
use Rattle.tq_exec.proofs.PartLemmas.{by_number}

-- periods that follow one another do not go back
follows : (periods : List Period) (start end : ℕ) → Follow start end periods → start ≤ end
follows [] start end is = omega (arith, is)
follows (p ∷ ps) start end f =
    let rest = follows ps p.end end f.1 in
    omega (arith, f.0, p.ordered, rest)

abbrev spans : ℕ → ℕ → ℕ → Bool
spans start end t = nat_le start t && nat_lt t end

two_spans : (start middle end t n : ℕ) → start ≤ middle → middle ≤ end → cond (spans start middle t) n 0 + cond (spans middle end t) n 0 ≡ cond (spans start end t) n 0
two_spans start middle end t n first last = grind (arith, nat_tests, first, last)

no_span : (start end t n : ℕ) → start ≡ end → let none : ℕ = 0 in none ≡ cond (spans start end t) n none
no_span start end t n same = grind (arith, nat_tests, same)

-- an instant is in one of the periods, or outside all
spanned : (t n : ℕ) (periods : List Period) (start end : ℕ) → Follow start end periods → sum_by (λ (p : Period). cond (spans p.start p.end t) n 0) periods ≡ cond (spans start end t) n 0
spanned t n [] start end f = no_span start end t n f
spanned t n (p ∷ ps) start end f =
    let here : cond (spans p.start p.end t) n 0 ≡ cond (spans start p.end t) n 0 = ap (λ s. cond (spans s p.end t) n 0) f.0 in
    let later = spanned t n ps p.end end f.1 in
    let both = two_spans start p.end end t n (omega (arith, f.0, p.ordered)) (follows ps p.end end f.1) in
    omega (arith, sum_by-cons (λ (p : Period). cond (spans p.start p.end t) n 0) p ps, here, later, both)

pub periods_are_parts : PeriodsAreParts
periods_are_parts valid plan periods d tile v t =
    sym (by_number (λ (p : Period). times_within valid plan p v t) (λ i. times_within valid plan (get_or periods i d) v t) 0 periods
    (λ i e less.
    ap (λ (p : Period). times_within valid plan p v t) (get_or_default periods i e d less)
    ∙ ap (λ k. times_within valid plan (get_or periods k d) v t) (let same : i ≡ 0 + i = omega arith in same)))
    ∙ spanned t (times_by valid plan v t) periods plan.window.start plan.window.end tile

-- all pieces are as wide as the plan's answer
pub pieces_wide : (valid : ValidRows) (plan : Plan) (periods : List Period) (lists : List RowList) → length lists ≡ length periods → ArePieces valid plan periods lists → All (AreOfWidth (length plan.left.outputs)) lists
pieces_wide valid plan [] [] len are = All-nil (AreOfWidth (length plan.left.outputs))
pieces_wide valid plan [] (l ∷ ls) len are = absurd (omega (arith, len))
pieces_wide valid plan (p ∷ ps) [] len are = absurd (omega (arith, len))
pieces_wide valid plan (p ∷ ps) (l ∷ ls) len are =
    All-cons (AreOfWidth (length plan.left.outputs)) l ls (are 0 l (omega arith) p).wide
    (pieces_wide valid plan ps ls (omega (arith, len)) (λ i e less d. are (suc i) e (omega (arith, less)) d))
