-- How contracts see a node of the tree.
use Rattle.std.specs.Prelude.{ℕ, List}
use Rattle.tq_mvbt.specs.declared.entry.Entry.{Entry}
use Rattle.tq_mvbt.specs.declared.node.Link.{Link}

-- A node of a level (0 is a leaf), over the keys `low <= k < high` and the versions `born <= v < died`; its entries;
-- and its links to the leaves that it replaced. For a current node `died` is the mark 4,294,967,295. (Becker et al.
-- 1996; the links are this project's own.)
pub record NodeState : Type 0 where
  pub level : ℕ
  pub low : ℕ
  pub high : ℕ
  pub born : ℕ
  pub died : ℕ
  pub entries : List Entry
  pub links : List Link
