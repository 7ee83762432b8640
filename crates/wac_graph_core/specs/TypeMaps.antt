-- Nodes of types.
use Rattle.std.specs.Prelude.{◌≡◌, ◌≢◌, ℕ, List, Option}
use Rattle.std.specs.Map.{lookup}
use Rattle.wac_types_base.specs.declared.item.«Type».{«Type» as TypeKind}
use Rattle.wac_types_base.specs.contracts.item.TypePartialEq.TheImpl.{eq-value}

-- the node of a type
abbrev pub node_of : List (TypeKind × ℕ) → TypeKind → Option ℕ
node_of ts t = lookup (eq-value.it t) ts

-- the type has this node, or none, and each other has what it had
pub record Maps (old : List (TypeKind × ℕ)) (t : TypeKind) (o : Option ℕ) (new : List (TypeKind × ℕ)) : Type 0 where
  pub own : node_of new t ≡ o
  pub others : (u : TypeKind) → u ≢ t → node_of new u ≡ node_of old u
