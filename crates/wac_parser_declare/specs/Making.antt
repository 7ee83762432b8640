-- What is answered of the interface and of the world that are made of a body, and of the items that a world names.
use Rattle.std.specs.Prelude.{◌≡◌, ◌++◌, Option, Result, Some, IfOk}
use Rattle.std.specs.declared.alloc.AllocError.{AllocError}
use Rattle.wac_types_base.specs.declared.item.ItemKind.{ItemKind}
use Rattle.wac_types_base.specs.declared.item.«Type».{«Type» as TypeKind}
use Rattle.wac_types_base.specs.declared.ids.InterfaceId.{InterfaceId}
use Rattle.wac_types_base.specs.declared.ids.WorldId.{WorldId}
use Rattle.wac_types_base.specs.Record.{Collection}
use Rattle.wac_types_base.specs.Entries.{Name}
use Rattle.wac_types_base.specs.Stated.{Stated, interface_of, kind_of, stated_of, world_of}
use Rattle.wac_parser_tree.specs.declared.import.PackageName.{PackageName}
use Rattle.wac_parser_tree.specs.declared.text.Ident.{Ident}
use Rattle.wac_parser_tree.specs.Views.{view_ident, view_package_name}
use Rattle.wac_parser_refusals.specs.declared.refusal.Refusal.{Refusal}
use Rattle.wac_parser_refusals.specs.Outcomes.{IsOutcome}
use Rattle.wac_parser_declare.specs.declared.bodies.Body.{Body}
use Rattle.wac_parser_declare.specs.declared.scope.Binding.{Binding}
use Rattle.wac_parser_declare.specs.Bodies as stated
use Rattle.wac_parser_declare.specs.Functions.{Names}
use Rattle.wac_parser_declare.specs.Held.{stated_body}
use Rattle.wac_parser_declare.specs.Holding.{BindingStands, Holds, NamesStand, meant_by, scope_of}
use Rattle.wac_parser_declare.specs.InPaths.{AWorld}
use Rattle.wac_parser_declare.specs.Scope.{identifier, meant}
use Rattle.wac_parser_declare.specs.Worlds.{extern_by}

-- ---- interfaces and worlds

abbrev pub AnInstance : Collection → Stated → InterfaceId → Type 0
AnInstance c x i = Holds c x (ItemKind.Instance i)

-- the identifier of what is declared under a name
abbrev pub identifier_of : PackageName → Name → Name
identifier_of own n = identifier (view_package_name own) n

-- the interface, the world that have the uses and items of a body
abbrev pub interface_with : Option Name → stated.Body → Stated
interface_with id b = interface_of id b.uses b.items

abbrev pub world_with : Name → stated.Body → Stated
world_with id b = world_of (Some id) b.uses b.items b.exports

abbrev pub IsInterfaceMade : Option Name → Body → Collection → Collection → Result InterfaceId AllocError → Type 0
IsInterfaceMade id b c d r = IfOk r (AnInstance d (interface_with id (stated_body c b)))

-- the same under the identifier of a name
abbrev pub IsInterfaceUnder : PackageName → Name → Body → Collection → Collection → Result InterfaceId AllocError → Type 0
IsInterfaceUnder own n b c d r = IsInterfaceMade (Some (identifier_of own n)) b c d r

abbrev pub IsWorldMade : Name → Body → Collection → Collection → Result WorldId AllocError → Type 0
IsWorldMade id b c d r = IfOk r (AWorld d (world_with id (stated_body c b)))

-- ---- items of a world

-- the instance or the function of which the item is the type
abbrev pub IsTypeOf : ItemKind → ItemKind → Type 0
IsTypeOf (ItemKind.Ty (TypeKind.Interface i)) j = j ≡ ItemKind.Instance i
IsTypeOf (ItemKind.Ty (TypeKind.Func f)) j = j ≡ ItemKind.Func f
IsTypeOf k j = ⊥

abbrev pub IsExtern : Collection → ItemKind → Ident → Result ItemKind Refusal → Type 0
IsExtern c k i r = IsOutcome (Holds c) (extern_by (kind_of (stated_of c k)) (view_ident i) (stated_of c k)) r

-- what a name of the body means, else one of the root, whatever collection the items stand in
abbrev pub IsMeantIn : Names → Names → Ident → Result Binding Refusal → Type 0
IsMeantIn names root i r =
    (c : Collection) → IsOutcome (λ m b. meant_by c b ≡ m) (meant (scope_of c names ++ scope_of c root) (view_ident i)) r

-- that stands where all that they mean does
abbrev pub MeantStands : Names → Names → Result Binding Refusal → Type 0
MeantStands names root r = (c : Collection) → NamesStand c root → NamesStand c names → IfOk r (BindingStands c)
