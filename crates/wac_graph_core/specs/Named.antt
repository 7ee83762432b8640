-- Nodes under names, as contracts see them.
use Rattle.std.specs.Prelude.{ℕ, List}
use Rattle.wac_types_base.specs.Entries.{Name}

-- the nodes in order, and how many more fit with no allocation
pub record Named : Type 0 where
  pub items : List (Name × ℕ)
  pub spare : ℕ
