-- How the columns that a plan names are found.
use Rattle.std.proofs.Common.{◌≡◌, ℕ, zero, suc, ◌&&◌, ◌||◌, ◌⊎◌, inl, inr, not, Bool, List, [], ◌∷◌, ◌++◌, length, refl, sym, ap, ◌∙◌}
use Rattle.tq_base.specs.ValueOrder.{value_cmp}
use Rattle.tq_event.specs.Projection.{is_wanted, wanted_of}
use Rattle.tq_condition.specs.declared.condition.Compare.{Compare}
use Rattle.tq_condition.specs.declared.condition.Operand.{Operand}
use Rattle.tq_condition.specs.declared.condition.Test.{Test}
use Rattle.tq_condition.specs.declared.condition.Test.TheVariants.{And, Is, Not, Or}
use Rattle.tq_condition.specs.Conditions.{accepts, operand_value, passes}
use Rattle.tq_condition.proofs.Conditions.{passes-And, passes-Is, passes-Not, passes-Or}
use Rattle.tq_agg.specs.Grouping.{Row}
use Rattle.tq_plan.specs.declared.plans.Output.{Output}
use Rattle.tq_plan.specs.declared.plans.Output.TheVariants.{Column, Count, Sum}
use Rattle.tq_exec.specs.Required.{AgreeAt, IsMadeOf}
use Rattle.tq_exec.specs.ColumnUse.{AreMore, AreNamed, OperandReads, TestReads}

-- ---- places that are noted

-- what reads only some places reads only these and more
more_agree : (places more : List Bool) → AreMore places more → (row other : Row) → AgreeAt (is_wanted more) row other → AgreeAt (is_wanted places) row other
more_agree places more are row other agree place looked = agree place (are place looked)

pub operand_more : (operand : Operand) (places more : List Bool) → AreMore places more → OperandReads (is_wanted places) operand → OperandReads (is_wanted more) operand
operand_more operand places more are required row other agree = required row other (more_agree places more are row other agree)

pub test_more : (test : Test) (places more : List Bool) → AreMore places more → TestReads (is_wanted places) test → TestReads (is_wanted more) test
test_more test places more are required row other agree = required row other (more_agree places more are row other agree)

pub output_more : (output : Output) (places more : List Bool) → AreMore places more → IsMadeOf (is_wanted places) output → IsMadeOf (is_wanted more) output
output_more (Column place) places more are required = are place required
output_more Count places more are required = tt
output_more (Sum place) places more are required = are place required

-- ---- conditions

module _ (places : ℕ → Bool) (test : Test) where
  pub look_Is : (left right : Operand) (op : Compare) → test ≡ Is left op right → OperandReads places left → OperandReads places right → TestReads places test
  look_Is left right op is on_left on_right row other agree =
      let whole : (r : Row) → passes test r ≡ accepts op (value_cmp (operand_value left r) (operand_value right r)) = λ r. ap (λ t. passes t r) is ∙ passes-Is left op right r in
      whole row ∙ (λ i. accepts op (value_cmp (on_left row other agree i) (on_right row other agree i))) ∙ sym (whole other)

  pub look_pair : (first last : Test) → (test ≡ And first last) ⊎ (test ≡ Or first last) → TestReads places first → TestReads places last → TestReads places test
  look_pair first last (inl is) on_first on_last row other agree =
      let whole : (r : Row) → passes test r ≡ (passes first r && passes last r) = λ r. ap (λ t. passes t r) is ∙ passes-And first last r in
      whole row ∙ (λ i. on_first row other agree i && on_last row other agree i) ∙ sym (whole other)
  look_pair first last (inr is) on_first on_last row other agree =
      let whole : (r : Row) → passes test r ≡ (passes first r || passes last r) = λ r. ap (λ t. passes t r) is ∙ passes-Or first last r in
      whole row ∙ (λ i. on_first row other agree i || on_last row other agree i) ∙ sym (whole other)

  pub look_Not : (part : Test) → test ≡ Not part → TestReads places part → TestReads places test
  look_Not part is on_part row other agree =
      let whole : (r : Row) → passes test r ≡ not (passes part r) = λ r. ap (λ t. passes t r) is ∙ passes-Not part r in
      whole row ∙ ap not (on_part row other agree) ∙ sym (whole other)

-- ---- columns

-- the columns of one more table
pub tables_more : (named : ℕ → ℕ → Bool) (lists : List (List Bool)) (wanted : List Bool) → ((table : ℕ) → AreNamed (named table) (wanted_of lists table)) → AreNamed (named (length lists)) wanted
    → (table : ℕ) → AreNamed (named table) (wanted_of (lists ++ wanted ∷ []) table)
tables_more named [] wanted are is zero = is
tables_more named [] wanted are is (suc table) = λ k looked. refl
tables_more named (list ∷ lists) wanted are is zero = are zero
tables_more named (list ∷ lists) wanted are is (suc table) = tables_more (λ n. named (suc n)) lists wanted (λ n. are (suc n)) is table
