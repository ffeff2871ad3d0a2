-- What an observer of a session gets. This project's own.
use Rattle.std.specs.Prelude.{◌≡◌, ℕ, List, [], ◌∷◌, ◌++◌, Option, Some, IfSome}
use Rattle.tq_session.specs.declared.reply.Refusal.{Refusal}
use Rattle.tq_session.specs.declared.reply.Reply.{Reply}
use Rattle.tq_session.specs.declared.reply.Reply.TheVariants as outcome

-- the known lines grow by this one, with this reason
abbrev pub AddsLine : Option (List (List ℕ × Refusal)) → Option (List (List ℕ × Refusal)) → List ℕ → Refusal → Type 0
AddsLine old new line why = IfSome old (λ refused_lines. new ≡ Some (refused_lines ++ (line, why) ∷ []))

-- the known lines grow by a refused line, and stay the same after another reply
abbrev pub AddsIfRefused : Option (List (List ℕ × Refusal)) → Option (List (List ℕ × Refusal)) → List ℕ → Reply → Type 0
AddsIfRefused old new line (outcome.Refused why) = AddsLine old new line why
AddsIfRefused old new line outcome.Nothing = new ≡ old
AddsIfRefused old new line (outcome.Row row) = new ≡ old
AddsIfRefused old new line (outcome.Published count) = new ≡ old
AddsIfRefused old new line (outcome.Answer answer) = new ≡ old
