mod ClaimLemmas
mod ListLemmas
mod RunLemmas
mod StepCases
mod StepLemmas
mod UniqueLemmas
