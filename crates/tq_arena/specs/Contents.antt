-- How contracts see an arena (this project's own): its nodes in the order of their numbers, and the number of further
-- nodes for which memory is reserved.
use Rattle.std.specs.Prelude.{ℕ, List, refl, slice_set}
use Rattle.std.specs.Coded.{Coded, code_by, coded×, coded_ℕ, coded_list}

pub record Contents (N : Type 0) : Type 0 where
  pub nodes : List N
  pub room : ℕ

abbrev pub contents_code : {N : Type 0} → Coded N → Coded (Contents N)
contents_code {N} code =
    code_by (List N × ℕ) (coded× (coded_list code) coded_ℕ) (λ s. (s.nodes, s.room)) (λ p. record { nodes = p.0; room = p.1 }) (λ _. refl)

-- the arena with another node at the number, and the same room
abbrev pub with_node : {N : Type 0} → Contents N → ℕ → N → Contents N
with_node s i n = record s { nodes = slice_set s.nodes i n }
