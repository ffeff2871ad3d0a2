-- The message for the only statement that a text makes.
use Rattle.std.proofs.Common.{◌≡◌, ◌∙◌, ℕ, List, Ok, ap, subst}
use Rattle.tq_base.specs.declared.catalogue.Catalogue.{Catalogue}
use Rattle.tq_base.specs.declared.form.Form.{Form}
use Rattle.tq_plan.specs.declared.fault.PlanFault.{PlanFault}
use Rattle.tq_sql.specs.Grammar.{IsStatement}
use Rattle.tq_sql.specs.Laws.{StatementsAreUnique}
use Rattle.tq_sql.specs.Reading.{ParsesTo}
use Rattle.tq_sql.specs.Tokens.{Token, tokens_of}
use Rattle.tq_sql.specs.declared.statement.Statement.{Statement}
use Rattle.tq_diagnostics.specs.PlanDetails.{IsPlanDetail, plan_detail}

-- two lists of tokens of one text are equal
same_tokens : (bytes : List ℕ) (a b : List Token) → tokens_of bytes ≡ Ok a → tokens_of bytes ≡ Ok b → a ≡ b
same_tokens bytes a b first second = cc

-- a text makes one statement
pub made_once : StatementsAreUnique → (bytes : List ℕ) (a b : Statement) → ParsesTo bytes a → ParsesTo bytes b → a ≡ b
made_once unique bytes a b first second =
    unique second.0 a b (subst (λ ts. IsStatement ts a) (same_tokens bytes first.0 second.0 first.1 second.1) first.2) second.2

-- the message for the statement that was read is the message for whatever statement the text makes
pub detail_is : StatementsAreUnique → (form : Form) (catalogue : Catalogue) (bytes : List ℕ) (fault : PlanFault) (text : List ℕ) (read : Statement) → ParsesTo bytes read
    → text ≡ plan_detail form catalogue bytes fault read → IsPlanDetail form catalogue bytes fault text
detail_is unique form catalogue bytes fault text read made reported = λ statement makes.
    reported ∙ ap (plan_detail form catalogue bytes fault) (made_once unique bytes read statement made makes)
