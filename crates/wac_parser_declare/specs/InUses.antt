-- What is answered of an export that is sought, of a use of types, and of a function of an interface: what is stated of it, or
-- the first cause.
use Rattle.std.specs.Prelude.{◌≡◌, not, ◌||◌, is_none, is_some, List, [], map, Option, option_map, unwrap_or, Result, OnOk, ⊤}
use Rattle.wac_types_base.specs.declared.item.ItemKind.{ItemKind}
use Rattle.wac_types_base.specs.declared.item.«Type».{«Type» as TypeKind}
use Rattle.wac_types_base.specs.declared.ids.InterfaceId.{InterfaceId}
use Rattle.wac_types_base.specs.Record.{Collection}
use Rattle.wac_types_base.specs.Collection.{IsAcyclic, Stands}
use Rattle.wac_types_base.specs.Entries.{Name, value_at, with_values}
use Rattle.wac_types_base.specs.Stated.{Stated, desc, exports_of, kind_of, stated_of, untyped, is_interface}
use Rattle.wac_parser_tree.specs.Trees as t
use Rattle.wac_parser_tree.specs.Trees.{Span}
use Rattle.wac_parser_tree.specs.declared.text.Ident.{Ident}
use Rattle.wac_parser_tree.specs.declared.interface.InterfaceExport.{InterfaceExport}
use Rattle.wac_parser_tree.specs.declared.interface.UseItem.{UseItem}
use Rattle.wac_parser_tree.specs.Views.{view_ident, view_interface_export, view_use_item}
use Rattle.wac_parser_refusals.specs.declared.refusal.Refusal.{Refusal}
use Rattle.wac_parser_refusals.specs.Causes.{Answer, ◌>>=◌, ◌>>◌, each, present, pure, unless_clear, NotInterface, NotInterfaceValueType, UndefinedInterfaceType, UseConflict}
use Rattle.wac_parser_refusals.specs.Outcomes.{IsOutcome}
use Rattle.wac_parser_declare.specs.declared.bodies.Body.{Body}
use Rattle.wac_parser_declare.specs.declared.bodies.Holder.{Holder}
use Rattle.wac_parser_declare.specs.declared.uses.Used.{Used}
use Rattle.wac_parser_declare.specs.Bodies as stated
use Rattle.wac_parser_declare.specs.Bodies.{interface_at, is_used, local_name, usable, use_one, with_use}
use Rattle.wac_parser_declare.specs.Functions.{Names}
use Rattle.wac_parser_declare.specs.Held.{BodyStands, holder_of, stated_body}
use Rattle.wac_parser_declare.specs.Holding.{Holds, IsType, scope_of}
use Rattle.wac_parser_declare.specs.InBodies.{IsBody}
use Rattle.wac_parser_declare.specs.Interfaces.{export_item}
use Rattle.wac_parser_declare.specs.Scope.{Context, at_root, bind, has, named}

-- ---- exports

-- the exports that were found; of what can have none there are none
abbrev pub AreExports : Collection → ItemKind → Option (List (Name × ItemKind)) → Type 0
AreExports c k found = exports_of (stated_of c k) ≡ with_values (stated_of c) (unwrap_or found [])

-- the export of this name
abbrev pub IsExport : Collection → ItemKind → Name → Option ItemKind → Type 0
IsExport c k n found = option_map (stated_of c) found ≡ value_at (exports_of (stated_of c k)) n

-- ---- uses

-- whether the item can be used, whatever collection it stands in
abbrev pub IsUsable : ItemKind → Option TypeKind → Type 0
IsUsable k ty = (c : Collection) → IsAcyclic c → Stands c k → is_some ty ≡ usable (kind_of (stated_of c k))

-- what the type of an interface states
abbrev pub stated_interface : Collection → InterfaceId → Stated
stated_interface c i = stated_of c (ItemKind.Ty (TypeKind.Interface i))

-- the first two steps of a use: the type that is used
abbrev pub type_used : Name → Stated → t.UseItem → Answer Stated
type_used path from u = do
  x ← present (value_at (exports_of from) u.id.string) (UndefinedInterfaceType u.id.string path) u.id.span
  unless_clear (not (usable (kind_of x))) (NotInterfaceValueType u.id.string (desc x) path) u.id.span
  pure x

-- the others: the name is new in the body, and then means the type
abbrev pub use_added : stated.Holder → stated.Body → t.UseItem → Stated → Stated → Answer stated.Body
use_added h b u from x = do
  unless_clear (has b.items (local_name u).string || is_used b.uses (local_name u).string)
      (UseConflict (local_name u).string h.kind (is_none u.as_id)) (local_name u).span
  ns ← bind b.names (local_name u) x
  pure (with_use b ns u from x)

abbrev pub IsTypeUsed : Collection → Used → UseItem → Result TypeKind Refusal → Type 0
IsTypeUsed c from u r = IsOutcome (IsType c) (type_used from.path.now (stated_interface c from.interface) (view_use_item u)) r

-- one more use of a type of an interface, whatever collection they stand in
abbrev pub IsUseAdded : Holder → UseItem → Body → InterfaceId → TypeKind → Body → Result ⊤ Refusal → Type 0
IsUseAdded h u old i ty new r =
    (c : Collection) (from : Stated) → untyped from ≡ stated_of c (ItemKind.Instance i)
    → IsOutcome (λ b v. IsBody c b new) (use_added (holder_of h) (stated_body c old) (view_use_item u) from
    (stated_of c (ItemKind.Ty ty))) r

abbrev pub UseStands : Body → InterfaceId → TypeKind → Body → Result ⊤ Refusal → Type 0
UseStands old i ty new r =
    OnOk r ((c : Collection) → BodyStands c old → Stands c (ItemKind.Instance i) → Stands c (ItemKind.Ty ty) → BodyStands c new)

-- the types that are used, in order
abbrev pub AreUsed : Holder → List UseItem → Collection → Used → Body → Body → Result ⊤ Refusal → Type 0
AreUsed h us c from old new r =
    IsOutcome (λ b v. IsBody c b new)
    (each (use_one (holder_of h) from.path.now (stated_interface c from.interface)) (stated_body c old) (map view_use_item us)) r

-- ---- names of the root

-- what a name means
abbrev pub IsItemNamed : Collection → Names → Ident → Collection → Result ItemKind Refusal → Type 0
IsItemNamed c names i d r = IsOutcome (Holds d) (named (scope_of c names) (view_ident i)) r

-- an item that is to be the type of an interface
abbrev pub interface_in : Name → Span → Stated → Answer Stated
interface_in path s x = unless_clear (not (is_interface (kind_of x))) (NotInterface path (desc x)) s >> pure x

abbrev pub AnInterface : Collection → Stated → InterfaceId → Type 0
AnInterface c x i = Holds c x (ItemKind.Ty (TypeKind.Interface i))

-- whether the item is the type of an interface, whatever collection it stands in
abbrev pub IsInterfaceType : ItemKind → Option InterfaceId → Type 0
IsInterfaceType k i = (c : Collection) → IsAcyclic c → Stands c k → is_some i ≡ is_interface (kind_of (stated_of c k))

abbrev pub IsInterfaceOf : Collection → ItemKind → Ident → Result InterfaceId Refusal → Type 0
IsInterfaceOf c k path r = IsOutcome (AnInterface c) (interface_in path.string.now path.span (stated_of c k)) r

-- the interface of a name, where the root has these names; whatever the packages are
abbrev pub IsRootInterface : Collection → Names → Ident → Collection → Result InterfaceId Refusal → Type 0
IsRootInterface c names i d r =
    (x : Context) → x.root ≡ scope_of c names → IsOutcome (AnInterface d) (interface_at x (at_root (view_ident i))) r

-- ---- interfaces

-- one more function of an interface
abbrev pub Exports : Holder → InterfaceExport → Collection → Body → Collection → Body → Result ⊤ Refusal → Type 0
Exports h x c old d new r =
    IsOutcome (λ b u. IsBody d b new) (export_item (holder_of h) (stated_body c old) (view_interface_export x)) r
