mod Counts
mod Views
mod RuleKept
mod Places
