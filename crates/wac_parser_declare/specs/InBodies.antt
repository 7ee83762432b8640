-- What is answered of a declaration in a body: what is stated of it, as it stands in the collection that grew, or the first
-- cause.
use Rattle.std.specs.Prelude.{◌≡◌, Bool, true, false, ◌||◌, is_some, List, map, Option, Result, Some, None, IfOk, OnOk, ⊤}
use Rattle.std.specs.declared.alloc.Global.{Global}
use Rattle.std.specs.declared.vec.Vec.{Vec}
use Rattle.wac_types_base.specs.declared.item.ItemKind.{ItemKind}
use Rattle.wac_types_base.specs.declared.item.ValueType.{ValueType}
use Rattle.wac_types_base.specs.declared.item.«Type».{«Type» as TypeKind}
use Rattle.wac_types_base.specs.declared.ids.FuncTypeId.{FuncTypeId}
use Rattle.wac_types_base.specs.declared.ids.ResourceId.{ResourceId}
use Rattle.wac_types_base.specs.Record.{Collection}
use Rattle.wac_types_base.specs.Collection.{Grows, Stands}
use Rattle.wac_types_base.specs.Entries.{Name, value_at}
use Rattle.wac_types_base.specs.Stated.{Stated, stated_of}
use Rattle.wac_parser_tree.specs.Trees as t
use Rattle.wac_parser_tree.specs.declared.text.Ident.{Ident}
use Rattle.wac_parser_tree.specs.declared.declaration.Constructor.{Constructor}
use Rattle.wac_parser_tree.specs.declared.declaration.Method.{Method}
use Rattle.wac_parser_tree.specs.declared.declaration.ResourceMethod.{ResourceMethod}
use Rattle.wac_parser_tree.specs.declared.declaration.ResourceDecl.{ResourceDecl}
use Rattle.wac_parser_tree.specs.declared.declaration.ItemTypeDecl.{ItemTypeDecl}
use Rattle.wac_parser_tree.specs.Views.{view_constructor, view_ident, view_item_type_decl, view_method, view_resource_decl, view_resource_method}
use Rattle.wac_parser_refusals.specs.declared.refusal.Refusal.{Refusal}
use Rattle.wac_parser_refusals.specs.Causes.{Answer, ◌>>=◌, ◌>>◌, UndefinedName, each, present, pure, unless_clear}
use Rattle.wac_parser_refusals.specs.Outcomes.{IsOutcome}
use Rattle.wac_parser_declare.specs.declared.bodies.Body.{Body}
use Rattle.wac_parser_declare.specs.declared.bodies.Holder.{Holder}
use Rattle.wac_parser_declare.specs.declared.functions.Signature.{Signature}
use Rattle.wac_parser_declare.specs.declared.resources.Owner.{Owner}
use Rattle.wac_parser_declare.specs.declared.scope.Binding.{Binding}
use Rattle.wac_parser_declare.specs.Aliases.{stated_resource}
use Rattle.wac_parser_declare.specs.Bodies as stated
use Rattle.wac_parser_declare.specs.Bodies.{add_constructor, add_method, add_type, added, item_type, method_kind, method_name, resource_decl, resource_method, with_item}
use Rattle.wac_parser_declare.specs.Functions.{Names}
use Rattle.wac_parser_declare.specs.Held.{BodyStands, holder_of, stated_body}
use Rattle.wac_parser_declare.specs.Holding.{IsFunc, IsType, scope_of}
use Rattle.wac_parser_declare.specs.Scope.{bind, has}

-- the binding of a name
abbrev pub IsMeaning : Names → Ident → Result Binding Refusal → Type 0
IsMeaning names i r = IsOutcome (λ m b. b ≡ m) (present (value_at names i.string.now) (UndefinedName i.string.now) i.span) r

-- a name was given, whatever collection the items stand in
abbrev pub IsBound : Names → Ident → ItemKind → Names → Result ⊤ Refusal → Type 0
IsBound old i k new r =
    (c : Collection) → IsOutcome (λ ns u. scope_of c new ≡ ns) (bind (scope_of c old) (view_ident i) (stated_of c k)) r

-- what is stated in the body now is what the answer says
abbrev pub IsBody : Collection → stated.Body → Body → Type 0
IsBody c s b = stated_body c b ≡ s

-- one more item, whose name is new
abbrev pub item_added : stated.Holder → stated.Body → t.Ident → Stated → Answer stated.Body
item_added h b i x = unless_clear (has b.items i.string) (h.duplicate i.string) i.span >> pure (with_item b i.string x)

abbrev pub IsItemAdded : Holder → Body → Ident → ItemKind → Body → Result ⊤ Refusal → Type 0
IsItemAdded h old i k new r =
    (c : Collection)
    → IsOutcome (λ b u. IsBody c b new) (item_added (holder_of h) (stated_body c old) (view_ident i) (stated_of c k)) r

abbrev pub IsTypeAdded : Holder → Body → Ident → TypeKind → Body → Result ⊤ Refusal → Type 0
IsTypeAdded h old i ty new r =
    (c : Collection)
    → IsOutcome (λ b u. IsBody c b new) (add_type (holder_of h) (stated_body c old) (view_ident i)
    (stated_of c (ItemKind.Ty ty))) r

-- one more function under this name, whatever is stated of it, in a collection that grew
abbrev pub IsFunctionAdded : Body → Name → Result FuncTypeId Refusal → Body → Result ⊤ Refusal → Type 0
IsFunctionAdded old n declared new r =
    (c d : Collection) (q : Answer Stated) → Grows c d → BodyStands c old → IsOutcome (IsFunc d) q declared
    → IsOutcome (λ b u. IsBody d b new) (q >>= λ f. pure (with_item (stated_body c old) n f)) r

abbrev pub FunctionStands : Body → Result FuncTypeId Refusal → Body → Result ⊤ Refusal → Type 0
FunctionStands old declared new r =
    OnOk r ((c : Collection) → BodyStands c old → IfOk declared (λ f. Stands c (ItemKind.Func f)) → BodyStands c new)

-- a constructor of a resource, a method, one of both, all in order
abbrev pub Constructs : Owner → Constructor → Collection → Body → Collection → Body → Result ⊤ Refusal → Type 0
Constructs o x c old d new r =
    IsOutcome (λ b u. IsBody d b new) (add_constructor o.name.now (stated_resource c o.id) (stated_body c old)
    (view_constructor x)) r

abbrev pub IsMethod : Owner → Method → Collection → Body → Collection → Body → Result ⊤ Refusal → Type 0
IsMethod o x c old d new r =
    IsOutcome (λ b u. IsBody d b new) (add_method o.name.now (stated_resource c o.id) (stated_body c old) (view_method x)) r

abbrev pub IsMember : Owner → ResourceMethod → Collection → Body → Collection → Body → Result ⊤ Refusal → Type 0
IsMember o x c old d new r =
    IsOutcome (λ b u. IsBody d b new) (resource_method o.name.now (stated_resource c o.id) (stated_body c old)
    (view_resource_method x)) r

abbrev pub Members : Owner → Vec ResourceMethod Global → Collection → Body → Collection → Body → Result ⊤ Refusal → Type 0
Members o xs c old d new r =
    IsOutcome (λ b u. IsBody d b new)
    (each (resource_method o.name.now (stated_resource c o.id)) (stated_body c old) (map view_resource_method xs.items)) r

-- static or not, there is a method of this name
abbrev pub is_method : List (Name × ItemKind) → Name → Name → Bool
is_method xs r m = is_some (value_at xs (method_name true r m)) || is_some (value_at xs (method_name false r m))

-- what a method takes first
abbrev pub receiver_of : Bool → ResourceId → Option ValueType
receiver_of true i = None
receiver_of false i = Some (ValueType.Borrow i)

abbrev pub signature_of : Method → ResourceId → Signature
signature_of x i = record {
  kind = method_kind x.is_static;
  receiver = receiver_of x.is_static i;
  given = None;
  is_async = x.ty.is_async;
}

-- a resource with its functions
abbrev pub Declares : Holder → ResourceDecl → Collection → Body → Collection → Body → Result ⊤ Refusal → Type 0
Declares h x c old d new r =
    IsOutcome (λ b u. IsBody d b new) (resource_decl (holder_of h) (stated_body c old) (view_resource_decl x)) r

-- a type that is declared, whatever is stated of it, in a collection that grew
abbrev pub IsDeclared : Holder → Body → Ident → Result TypeKind Refusal → Body → Result ⊤ Refusal → Type 0
IsDeclared h old i declared new r =
    (c d : Collection) (q : Answer Stated) → Grows c d → BodyStands c old → IsOutcome (IsType d) q declared
    → IsOutcome (λ b u. IsBody d b new) (added (holder_of h) (stated_body c old) (view_ident i) q) r

abbrev pub TypeStands : Body → Result TypeKind Refusal → Body → Result ⊤ Refusal → Type 0
TypeStands old declared new r =
    OnOk r ((c : Collection) → BodyStands c old → IfOk declared (λ t. Stands c (ItemKind.Ty t)) → BodyStands c new)

-- a declaration in a body
abbrev pub InBody : Holder → ItemTypeDecl → Collection → Body → Collection → Body → Result ⊤ Refusal → Type 0
InBody h x c old d new r =
    IsOutcome (λ b u. IsBody d b new) (item_type (holder_of h) (stated_body c old) (view_item_type_decl x)) r
