-- What is answered of the items of a world, and of a world as a whole.
use Rattle.std.specs.Prelude.{◌∷◌, ◌++◌, [], List, map, Result, ⊤}
use Rattle.wac_types_base.specs.declared.item.ExternKind.{ExternKind}
use Rattle.wac_types_base.specs.declared.item.ItemKind.{ItemKind}
use Rattle.wac_types_base.specs.declared.item.«Type».{«Type» as TypeKind}
use Rattle.wac_types_base.specs.declared.ids.InterfaceId.{InterfaceId}
use Rattle.wac_types_base.specs.declared.ids.WorldId.{WorldId}
use Rattle.wac_types_base.specs.Record.{Collection}
use Rattle.wac_types_base.specs.Entries.{Name, with_values}
use Rattle.wac_types_base.specs.Stated.{Stated, stated_of}
use Rattle.wac_parser_tree.specs.Trees as t
use Rattle.wac_parser_tree.specs.Trees.{Span}
use Rattle.wac_parser_tree.specs.declared.document.TypeStatement.{TypeStatement}
use Rattle.wac_parser_tree.specs.declared.world.ExternType.{ExternType}
use Rattle.wac_parser_tree.specs.declared.world.WorldDecl.{WorldDecl}
use Rattle.wac_parser_tree.specs.declared.world.WorldItem.{WorldItem}
use Rattle.wac_parser_tree.specs.declared.world.WorldItemPath.{WorldItemPath}
use Rattle.wac_parser_tree.specs.Views.{view_extern_type, view_type_statement, view_world_decl, view_world_item, view_world_item_path}
use Rattle.wac_parser_refusals.specs.declared.refusal.Refusal.{Refusal}
use Rattle.wac_parser_refusals.specs.Causes.{Answer, ◌>>=◌, ◌>>◌, DuplicateWorldItem, each, pure, unless_clear}
use Rattle.wac_parser_refusals.specs.Outcomes.{IsOutcome}
use Rattle.wac_parser_declare.specs.declared.bodies.Body.{Body}
use Rattle.wac_parser_declare.specs.declared.scope.Context.{Context as Place}
use Rattle.wac_parser_declare.specs.declared.worlds.Side.{Side}
use Rattle.wac_parser_declare.specs.declared.worlds.Slot.{Slot}
use Rattle.wac_parser_declare.specs.Bodies as stated
use Rattle.wac_parser_declare.specs.Bodies.{Items}
use Rattle.wac_parser_declare.specs.Functions.{Names}
use Rattle.wac_parser_declare.specs.Held.{stated_body}
use Rattle.wac_parser_declare.specs.Holding.{Holds, IsType, scope_of}
use Rattle.wac_parser_declare.specs.InBodies.{IsBody}
use Rattle.wac_parser_declare.specs.InIncludes.{AreNow}
use Rattle.wac_parser_declare.specs.InPaths.{AWorld, StandsIn}
use Rattle.wac_parser_declare.specs.Packages.{Known}
use Rattle.wac_parser_declare.specs.Scope.{Context, has}
use Rattle.wac_parser_declare.specs.Worlds.{extern_type, interface_added, type_statement, with_exports, with_imports, world_body, world_decl, world_include, world_item, world_part}

-- ---- sides

-- the imports or the exports of a body
abbrev pub items_on : ExternKind → stated.Body → Items
items_on ExternKind.Import b = b.items
items_on ExternKind.Export b = b.exports

abbrev pub with_items_on : ExternKind → stated.Body → Items → stated.Body
with_items_on ExternKind.Import b xs = with_imports b xs
with_items_on ExternKind.Export b xs = with_exports b xs

-- the body whose imports or exports are those that are answered
abbrev pub on_side : ExternKind → stated.Body → Answer Items → Answer stated.Body
on_side k b q = q >>= λ xs. pure (with_items_on k b xs)

-- one more, whose name is new
abbrev pub item_on : Name → ExternKind → Items → t.Ident → Stated → Answer Items
item_on world k stand i x =
    unless_clear (has stand i.string) (DuplicateWorldItem k i.string world) i.span >> pure (stand ++ (i.string, x) ∷ [])

abbrev pub slot_ident : Slot → t.Ident
slot_ident s = record { string = s.name.now; span = s.span }

abbrev pub IsOneMore : Slot → List (Name × ItemKind) → ItemKind → List (Name × ItemKind) → Result ⊤ Refusal → Type 0
IsOneMore s old k new r =
    (c : Collection)
    → IsOutcome (AreNow c new) (item_on s.world.now s.kind (with_values (stated_of c) old) (slot_ident s) (stated_of c k)) r

abbrev pub AddsExtern : Slot → Body → ItemKind → Body → Result ⊤ Refusal → Type 0
AddsExtern s old k new r =
    (c : Collection) → IsOutcome (λ b u. IsBody c b new)
    (on_side s.kind (stated_body c old) (item_on s.world.now s.kind (items_on s.kind (stated_body c old)) (slot_ident s)
    (stated_of c k))) r

-- an interface under its identifier
abbrev pub AddsInterface : Side → Collection → InterfaceId → Span → Body → Body → Result ⊤ Refusal → Type 0
AddsInterface o c i s old new r =
    IsOutcome (λ b u. IsBody c b new)
    (on_side o.kind (stated_body c old) (interface_added o.world.now o.kind (items_on o.kind (stated_body c old)) s
    (stated_of c (ItemKind.Ty (TypeKind.Interface i))))) r

-- ---- items

abbrev pub IsExternType : ExternType → Place → Names → Collection → Known → Collection → Result ItemKind Refusal → Type 0
IsExternType ty at ns c known d r =
    (x : Context) → StandsIn x at c known → IsOutcome (Holds d) (extern_type x (scope_of c ns) (view_extern_type ty)) r

-- an import or an export of a body, at this path
abbrev pub item_at : Context → Name → ExternKind → stated.Body → t.WorldItemPath → Answer stated.Body
item_at x world k b p = on_side k b (world_item x b.names world k (items_on k b) p)

abbrev pub IsNamedItem : ExternType → Slot → Place → Collection → Known → Body → Collection → Body → Result ⊤ Refusal → Type 0
IsNamedItem ty s at c known old d new r =
    (x : Context) → StandsIn x at c known
    → IsOutcome (λ b u. IsBody d b new)
    (item_at x s.world.now s.kind (stated_body c old) (t.WorldItemPath.named
    (record { id = slot_ident s; ty = view_extern_type ty }))) r

abbrev pub IsWorldItem : WorldItemPath → Side → Place → Collection → Known → Body → Collection → Body → Result ⊤ Refusal → Type 0
IsWorldItem p o at c known old d new r =
    (x : Context) → StandsIn x at c known
    → IsOutcome (λ b u. IsBody d b new) (item_at x o.world.now o.kind (stated_body c old) (view_world_item_path p)) r

-- ---- worlds

-- an item that is no include, an include; all in order
abbrev pub IsPart : WorldItem → Name → Place → Collection → Known → Body → Collection → Body → Result ⊤ Refusal → Type 0
IsPart i w at c known old d new r =
    (x : Context) → StandsIn x at c known
    → IsOutcome (λ b u. IsBody d b new) (world_part x w (stated_body c old) (view_world_item i)) r

abbrev pub AreParts : List WorldItem → Name → Place → Collection → Known → Body → Collection → Body → Result ⊤ Refusal → Type 0
AreParts is w at c known old d new r =
    (x : Context) → StandsIn x at c known
    → IsOutcome (λ b u. IsBody d b new) (each (world_part x w) (stated_body c old) (map view_world_item is)) r

abbrev pub IsInclude : WorldItem → Name → Place → Collection → Known → Body → Collection → Body → Result ⊤ Refusal → Type 0
IsInclude i w at c known old d new r =
    (x : Context) → StandsIn x at c known
    → IsOutcome (λ b u. IsBody d b new) (world_include x w (stated_body c old) (view_world_item i)) r

abbrev pub AreIncludes : List WorldItem → Name → Place → Collection → Known → Body → Collection → Body → Result ⊤ Refusal
    → Type 0
AreIncludes is w at c known old d new r =
    (x : Context) → StandsIn x at c known
    → IsOutcome (λ b u. IsBody d b new) (each (world_include x w) (stated_body c old) (map view_world_item is)) r

abbrev pub IsWorldBody : List WorldItem → Name → Place → Collection → Known → Collection → Result Body Refusal → Type 0
IsWorldBody is w at c known d r =
    (x : Context) → StandsIn x at c known → IsOutcome (IsBody d) (world_body x w (map view_world_item is)) r

abbrev pub IsWorldDeclared : WorldDecl → Place → Collection → Known → Collection → Result WorldId Refusal → Type 0
IsWorldDeclared w at c known d r =
    (x : Context) → StandsIn x at c known → IsOutcome (AWorld d) (world_decl x (view_world_decl w)) r

-- ---- statements

abbrev pub IsTypeStatement : TypeStatement → Place → Collection → Known → Collection → Result TypeKind Refusal → Type 0
IsTypeStatement s at c known d r =
    (x : Context) → StandsIn x at c known → IsOutcome (IsType d) (type_statement x (view_type_statement s)) r
