-- Refusals of some of the files are refusals of all of them.
use Rattle.std.proofs.Common.{◌≡◌, ◌++◌, ◌∷◌, [], List, append_assoc, subst, ◌∙◌}
use Rattle.std.specs.Prelude.{Contains}
use Rattle.std.proofs.lemmas.List.Elements.{Contains-append_left, Contains-append_right, Contains-push}
use Rattle.tq_commands.specs.Refusals.{IsReadRefusal, IsUnreadable}
use Rattle.tq_cli.specs.declared.request.TableOption.{TableOption}
use Rattle.tq_commands.specs.declared.report.Refusal.{Refusal}

-- an item between two lists is one of the whole list
pub middle_contained : (front : List TableOption) (option : TableOption) (rest options : List TableOption) → front ++ option ∷ rest ≡ options → Contains options option
middle_contained front option rest options whole =
    subst (λ (l : List TableOption). Contains l option) (append_assoc front (option ∷ []) rest ∙ whole)
    (Contains-append_left (front ++ option ∷ []) rest option (Contains-push front option))

pub unread_front : (front back options : List TableOption) → front ++ back ≡ options → (refusal : Refusal) → IsReadRefusal front refusal → IsReadRefusal options refusal
unread_front front back options whole refusal is = λ known.
    let read_errors : IsUnreadable front refusal = is known in (
      read_errors.0,
      subst (λ (l : List TableOption). Contains l read_errors.0) whole (Contains-append_left front back read_errors.0 read_errors.1),
      read_errors.2,
    )

pub unread_back : (front back options : List TableOption) → front ++ back ≡ options → (refusal : Refusal) → IsReadRefusal back refusal → IsReadRefusal options refusal
unread_back front back options whole refusal is = λ known.
    let read_errors : IsUnreadable back refusal = is known in (
      read_errors.0,
      subst (λ (l : List TableOption). Contains l read_errors.0) whole (Contains-append_right front back read_errors.0 read_errors.1),
      read_errors.2,
    )
