-- Instance types that the writer refuses where all that they use stands around.
use Rattle.std.specs.Prelude.{◌≡◌, ◌≤◌, ◌+◌, ◌-◌, ◌^◌, ℕ, Bool, true, length, Some, unwrap_or}
use Rattle.wac_types_base.specs.declared.ids.InterfaceId.{InterfaceId}
use Rattle.wac_types_base.specs.declared.ids.WorldId.{WorldId}
use Rattle.wac_types_base.specs.declared.item.ItemKind.{ItemKind}
use Rattle.wac_types_base.specs.declared.defined.UsedType.{UsedType}
use Rattle.wac_types_base.specs.Record.{Collection}
use Rattle.wac_types_base.specs.Entries.{Name, value_at}
use Rattle.wac_types_base.specs.Graph.{Among}
use Rattle.wac_types_base.specs.Parts.{identifier_in}
use Rattle.wac_types_base.specs.Collection.{Stands, IsAcyclic}
use Rattle.wac_types_base.specs.Stated.{stated_of, uses_of, exports_of}
use Rattle.wac_types_parts.specs.Parts.{interface_in, IsOfWorld, used_if}
use Rattle.wac_types_parts.specs.Parts.{exports_of as exports_in, uses_of as uses_in}
use Rattle.wac_composition.specs.Circles.{beside}
use Rattle.wac_composition.specs.NotWritten.{ItemsFail}
use Rattle.wac_graph_scopes.specs.Used as table
use Rattle.wac_graph_scopes.specs.Stock.{IsTaken}
use Rattle.wac_graph_scopes.specs.InstanceRefusals.{InstanceRefused}
use Rattle.wac_graph_scopes.specs.Prepared.{IsWithin}

module _ (c : Collection) where
  -- no component stands in the interface, and no world
  abbrev pub HasNoWorld : InterfaceId → Type 0
  HasNoWorld id = (i : InterfaceId) → IsWithin c id i → (n : Name) (k : ItemKind) → Among (n, k) (exports_in c i) → (w : WorldId)
      → IsOfWorld k w → ⊥

  -- whatever is taken by a use of the interface, or of one within it, from an interface with identifier, stands around
  abbrev pub AllStandAround : table.Used → InterfaceId → Type 0
  AllStandAround us id = (i : InterfaceId) → IsWithin c id i → (u : Name × UsedType) → Among u (uses_in c i) → (n : Name)
      → identifier_in (interface_in c u.1.interface) ≡ Some n → (item : ItemKind)
      → used_if (value_at (exports_in c u.1.interface) (unwrap_or u.1.name u.0)) ≡ Some item → IsTaken c us i item

  -- likewise from those interfaces that stand, by this test of their identifiers
  abbrev pub StandingAround : (stands : Name → Bool) → table.Used → InterfaceId → Type 0
  StandingAround stands us id = (i : InterfaceId) → IsWithin c id i → (u : Name × UsedType) → Among u (uses_in c i) → (n : Name)
      → identifier_in (interface_in c u.1.interface) ≡ Some n → stands n ≡ true → (item : ItemKind)
      → used_if (value_at (exports_in c u.1.interface) (unwrap_or u.1.name u.0)) ≡ Some item → IsTaken c us i item

-- What could not be written as the type of an instance, where all that it uses stands around, cannot be written. The depth and
-- the number of interfaces together fit 64 bits.
abbrev pub Refused_instance_is_unwritable : Type 0
Refused_instance_is_unwritable = (c : Collection) → IsAcyclic c → (us : table.Used) (id : InterfaceId)
    → Stands c (ItemKind.Instance id) → HasNoWorld c id → AllStandAround c us id → (outer : Bool) (depth : ℕ)
    → depth + length c.interfaces ≤ 2 ^ 64 - 1 → InstanceRefused c us depth id
    → ItemsFail outer (uses_of (stated_of c (ItemKind.Instance id))) (exports_of (stated_of c (ItemKind.Instance id)))

-- And what could not be written where that stands around which those interfaces give that stand, cannot be written with their
-- uses alone.
abbrev pub Refused_beside_is_unwritable : Type 0
Refused_beside_is_unwritable = (c : Collection) → IsAcyclic c → (us : table.Used) (id : InterfaceId)
    → Stands c (ItemKind.Instance id) → HasNoWorld c id → (stands : Name → Bool) → StandingAround c stands us id
    → (outer : Bool) (depth : ℕ) → depth + length c.interfaces ≤ 2 ^ 64 - 1 → InstanceRefused c us depth id
    → ItemsFail outer (uses_of (beside stands (stated_of c (ItemKind.Instance id))))
    (exports_of (beside stands (stated_of c (ItemKind.Instance id))))
