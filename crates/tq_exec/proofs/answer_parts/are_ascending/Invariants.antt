-- The parts so far are below the later ones.
use Rattle.std.proofs.Common.{◌<◌, ℕ, List, get_or, length, map}
use Rattle.tq_base.specs.declared.fragment.Fragment.{Fragment}
use Rattle.tq_base.specs.Ranges.{AreBelow}
use Rattle.tq_exec.specs.declared.answer_parts.AnswerPart.{AnswerPart}
use Rattle.tq_exec.proofs.answer_parts.are_ascending.Given as goal

abbrev pub invariant-first : goal.invariant-first
invariant-first l =
    let lists = map (λ (part : AnswerPart). part.rows) l.parts in
    (i j : ℕ) (d : List Fragment) → i < l.first → i < j → j < length lists → AreBelow (get_or lists i d) (get_or lists j d)

abbrev pub invariant-second : goal.invariant-second
invariant-second l =
    let lists = map (λ (part : AnswerPart). part.rows) l.parts in
    (j : ℕ) (d : List Fragment) → l.first < j → j < l.second → AreBelow (get_or lists l.first d) (get_or lists j d)
