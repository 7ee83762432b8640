-- Collections whose interfaces export no name twice, and what their items state.
use Rattle.wac_types_base.specs.declared.item.ItemKind.{ItemKind}
use Rattle.wac_types_base.specs.declared.defined.Interface.{Interface}
use Rattle.wac_types_base.specs.Record.{Collection}
use Rattle.wac_types_base.specs.Graph.{Among}
use Rattle.wac_types_base.specs.Entries.{AreDistinct, names_of}
use Rattle.wac_types_base.specs.Collection.{Stands, IsAcyclic}
use Rattle.wac_types_base.specs.Stated.{stated_of}
use Rattle.wac_composition.specs.Again.{IsWell}

-- no interface exports a name twice
abbrev pub NamesDiffer : Collection → Type 0
NamesDiffer c = (x : Interface) → Among x c.interfaces → AreDistinct (names_of x.exports)

-- what stands states a type whose interfaces are of their parts alone and export no name twice
abbrev pub Stated_are_well : Type 0
Stated_are_well = (c : Collection) (k : ItemKind) → IsAcyclic c → NamesDiffer c → Stands c k → IsWell (stated_of c k)
