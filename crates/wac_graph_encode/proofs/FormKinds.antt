-- Of which kinds the forms of definitions are.
use Rattle.std.proofs.Common.{◌≡◌, Bool, true, false, true≢false, Option, Some, None, refl, sym, ap, ◌∙◌}
use Rattle.wac_types_base.specs.declared.item.ItemKind.{ItemKind}
use Rattle.wac_types_base.specs.declared.item.«Type».{«Type» as TypeKind}
use Rattle.wac_types_base.specs.Graph.{Wholes, node}
use Rattle.wac_types_base.specs.Record.{Collection}
use Rattle.wac_types_base.specs.Entries.{Name}
use Rattle.wac_types_base.specs.Collection.{Shape, primitive, tuple, list, fixed_size_list, option, result, variant, record_of, flags, enum, alias, stream, future, resource, resource_alias, func, interface, world, module_type, type_of, borrow_of, own_of, Stands, IsAcyclic}
use Rattle.wac_types_base.specs.Stated.{Stated, Kind, IsFunction, IsInstance, IsComponent, IsModule, IsValue, IsResource, IsFunctionType, IsValueType, IsInterface, IsWorld, IsModuleType, shape_kind, kind_of, stated_of, identifier_of}
use Rattle.wac_types_base.proofs.Telling.{item_kind, kind_stated}
use Rattle.wac_composition.specs.Conflicts.{is_whole}
use Rattle.wac_types_written.specs.Written.{written, written_by, written_definition}
use Rattle.wac_types_written.proofs.Shapes.{IsPlain, plain_same}
use Rattle.wac_graph_scopes.specs.Items.{HasEntry}
use Rattle.wac_graph_asks.specs.Asked.{uses_others}

-- ---- what is neither an interface nor a world is written as it is

abbrev has_parts : Kind → Bool
has_parts IsInstance = true
has_parts IsComponent = true
has_parts IsInterface = true
has_parts IsWorld = true
has_parts k = false

typed_plain : (s : Shape) → has_parts (shape_kind (type_of s)) ≡ false → IsPlain (type_of s)
typed_plain (primitive p) e = tt
typed_plain tuple e = tt
typed_plain list e = tt
typed_plain (fixed_size_list n) e = tt
typed_plain option e = tt
typed_plain result e = tt
typed_plain (variant ns) e = tt
typed_plain (record_of ns) e = tt
typed_plain (flags ns) e = tt
typed_plain (enum ns) e = tt
typed_plain alias e = tt
typed_plain stream e = tt
typed_plain future e = tt
typed_plain (resource n) e = tt
typed_plain (resource_alias n) e = tt
typed_plain (func ps a) e = tt
typed_plain (module_type m) e = tt
typed_plain (borrow_of s) e = tt
typed_plain (own_of s) e = tt
typed_plain (type_of s) e = tt
typed_plain (interface i us es) e = absurd (true≢false e)
typed_plain (world i us is es) e = absurd (true≢false e)

shape_plain : (s : Shape) → has_parts (shape_kind s) ≡ false → IsPlain s
shape_plain (primitive p) e = tt
shape_plain tuple e = tt
shape_plain list e = tt
shape_plain (fixed_size_list n) e = tt
shape_plain option e = tt
shape_plain result e = tt
shape_plain (variant ns) e = tt
shape_plain (record_of ns) e = tt
shape_plain (flags ns) e = tt
shape_plain (enum ns) e = tt
shape_plain alias e = tt
shape_plain stream e = tt
shape_plain future e = tt
shape_plain (resource n) e = tt
shape_plain (resource_alias n) e = tt
shape_plain (func ps a) e = tt
shape_plain (module_type m) e = tt
shape_plain (borrow_of s) e = tt
shape_plain (own_of s) e = tt
shape_plain (type_of s) e = typed_plain s e
shape_plain (interface i us es) e = absurd (true≢false e)
shape_plain (world i us is es) e = absurd (true≢false e)

as_it_is : (k : Kind) (i : Option Name) (x : Stated) → has_parts k ≡ false → written_by k i x ≡ x
as_it_is IsFunction i x e = refl
as_it_is IsInstance i x e = absurd (true≢false e)
as_it_is IsComponent i x e = absurd (true≢false e)
as_it_is IsModule i x e = refl
as_it_is IsValue i x e = refl
as_it_is IsResource i x e = refl
as_it_is IsFunctionType i x e = refl
as_it_is IsValueType i x e = refl
as_it_is IsInterface i x e = absurd (true≢false e)
as_it_is IsWorld i x e = absurd (true≢false e)
as_it_is IsModuleType i x e = refl

plain_form : (x : Stated) → has_parts (kind_of x) ≡ false → written_definition x ≡ x
plain_form (node s ts) e = as_it_is (shape_kind s) (identifier_of (node s ts)) (written (node s ts)) e ∙ plain_same s ts (shape_plain s e)

not_whole : (t : TypeKind) → uses_others t ≡ false → has_parts (item_kind (ItemKind.Ty t)) ≡ false
not_whole (TypeKind.Resource r) e = refl
not_whole (TypeKind.Func f) e = refl
not_whole (TypeKind.Value v) e = refl
not_whole (TypeKind.Interface i) e = absurd (true≢false e)
not_whole (TypeKind.World w) e = absurd (true≢false e)
not_whole (TypeKind.Module m) e = refl

-- a type without form is its own
pub own_form : (c : Collection) → IsAcyclic c → (t : TypeKind) → Stands c (ItemKind.Ty t) → uses_others t ≡ false → written_definition (stated_of c (ItemKind.Ty t)) ≡ stated_of c (ItemKind.Ty t)
own_form c acyclic t stands e = plain_form (stated_of c (ItemKind.Ty t)) (ap has_parts (kind_stated c acyclic (ItemKind.Ty t) stands) ∙ not_whole t e)

-- ---- the form of an interface or a world is one

whole_typed : (s : Shape) (ts : Wholes Shape) → is_whole (shape_kind (type_of s)) ≡ true → is_whole (kind_of (written_definition (node (type_of s) ts))) ≡ true
whole_typed (interface None us es) ts e = refl
whole_typed (interface (Some n) us es) ts e = refl
whole_typed (world None us is es) ts e = refl
whole_typed (world (Some n) us is es) ts e = refl
whole_typed (primitive p) ts e = absurd (true≢false (sym e))
whole_typed tuple ts e = absurd (true≢false (sym e))
whole_typed list ts e = absurd (true≢false (sym e))
whole_typed (fixed_size_list n) ts e = absurd (true≢false (sym e))
whole_typed option ts e = absurd (true≢false (sym e))
whole_typed result ts e = absurd (true≢false (sym e))
whole_typed (variant ns) ts e = absurd (true≢false (sym e))
whole_typed (record_of ns) ts e = absurd (true≢false (sym e))
whole_typed (flags ns) ts e = absurd (true≢false (sym e))
whole_typed (enum ns) ts e = absurd (true≢false (sym e))
whole_typed alias ts e = absurd (true≢false (sym e))
whole_typed stream ts e = absurd (true≢false (sym e))
whole_typed future ts e = absurd (true≢false (sym e))
whole_typed (resource n) ts e = absurd (true≢false (sym e))
whole_typed (resource_alias n) ts e = absurd (true≢false (sym e))
whole_typed (func ps a) ts e = absurd (true≢false (sym e))
whole_typed (module_type m) ts e = absurd (true≢false (sym e))
whole_typed (borrow_of s) ts e = absurd (true≢false (sym e))
whole_typed (own_of s) ts e = absurd (true≢false (sym e))
whole_typed (type_of s) ts e = absurd (true≢false (sym e))

whole_shape : (s : Shape) (ts : Wholes Shape) → is_whole (shape_kind s) ≡ true → is_whole (kind_of (written_definition (node s ts))) ≡ true
whole_shape (type_of s) ts e = whole_typed s ts e
whole_shape (primitive p) ts e = absurd (true≢false (sym e))
whole_shape tuple ts e = absurd (true≢false (sym e))
whole_shape list ts e = absurd (true≢false (sym e))
whole_shape (fixed_size_list n) ts e = absurd (true≢false (sym e))
whole_shape option ts e = absurd (true≢false (sym e))
whole_shape result ts e = absurd (true≢false (sym e))
whole_shape (variant ns) ts e = absurd (true≢false (sym e))
whole_shape (record_of ns) ts e = absurd (true≢false (sym e))
whole_shape (flags ns) ts e = absurd (true≢false (sym e))
whole_shape (enum ns) ts e = absurd (true≢false (sym e))
whole_shape alias ts e = absurd (true≢false (sym e))
whole_shape stream ts e = absurd (true≢false (sym e))
whole_shape future ts e = absurd (true≢false (sym e))
whole_shape (resource n) ts e = absurd (true≢false (sym e))
whole_shape (resource_alias n) ts e = absurd (true≢false (sym e))
whole_shape (func ps a) ts e = absurd (true≢false (sym e))
whole_shape (interface i us es) ts e = absurd (true≢false (sym e))
whole_shape (world i us is es) ts e = absurd (true≢false (sym e))
whole_shape (module_type m) ts e = absurd (true≢false (sym e))
whole_shape (borrow_of s) ts e = absurd (true≢false (sym e))
whole_shape (own_of s) ts e = absurd (true≢false (sym e))

whole_stated : (x : Stated) → is_whole (kind_of x) ≡ true → is_whole (kind_of (written_definition x)) ≡ true
whole_stated (node s ts) e = whole_shape s ts e

unused_plain : (t : TypeKind) → uses_others t ≡ false → is_whole (item_kind (ItemKind.Ty t)) ≡ false
unused_plain (TypeKind.Resource r) e = refl
unused_plain (TypeKind.Func f) e = refl
unused_plain (TypeKind.Value v) e = refl
unused_plain (TypeKind.Module m) e = refl
unused_plain (TypeKind.Interface i) e = absurd (true≢false e)
unused_plain (TypeKind.World w) e = absurd (true≢false e)

pub plain_kind : (c : Collection) → IsAcyclic c → (t : TypeKind) → Stands c (ItemKind.Ty t) → uses_others t ≡ false → is_whole (kind_of (written_definition (stated_of c (ItemKind.Ty t)))) ≡ false
plain_kind c a t stands e =
    ap (λ x. is_whole (kind_of x)) (own_form c a t stands e) ∙ ap is_whole (kind_stated c a (ItemKind.Ty t) stands) ∙ unused_plain t e

used_whole : (t : TypeKind) → uses_others t ≡ true → is_whole (item_kind (ItemKind.Ty t)) ≡ true
used_whole (TypeKind.Interface i) e = refl
used_whole (TypeKind.World w) e = refl
used_whole (TypeKind.Resource r) e = absurd (true≢false (sym e))
used_whole (TypeKind.Func f) e = absurd (true≢false (sym e))
used_whole (TypeKind.Value v) e = absurd (true≢false (sym e))
used_whole (TypeKind.Module m) e = absurd (true≢false (sym e))

entry_kind : (k : ItemKind) → is_whole (item_kind k) ≡ true → HasEntry k
entry_kind (ItemKind.Ty (TypeKind.Interface i)) e = tt
entry_kind (ItemKind.Ty (TypeKind.World w)) e = tt
entry_kind (ItemKind.Ty (TypeKind.Resource r)) e = absurd (true≢false (sym e))
entry_kind (ItemKind.Ty (TypeKind.Func f)) e = absurd (true≢false (sym e))
entry_kind (ItemKind.Ty (TypeKind.Value v)) e = absurd (true≢false (sym e))
entry_kind (ItemKind.Ty (TypeKind.Module m)) e = absurd (true≢false (sym e))
entry_kind (ItemKind.Func f) e = absurd (true≢false (sym e))
entry_kind (ItemKind.Instance i) e = absurd (true≢false (sym e))
entry_kind (ItemKind.Component w) e = absurd (true≢false (sym e))
entry_kind (ItemKind.Module m) e = absurd (true≢false (sym e))
entry_kind (ItemKind.Value v) e = absurd (true≢false (sym e))

pub whole_form : (c : Collection) → IsAcyclic c → (t : TypeKind) → Stands c (ItemKind.Ty t) → uses_others t ≡ true → is_whole (kind_of (written_definition (stated_of c (ItemKind.Ty t)))) ≡ true
whole_form c a t stands e = whole_stated (stated_of c (ItemKind.Ty t)) (ap is_whole (kind_stated c a (ItemKind.Ty t) stands) ∙ used_whole t e)

-- the form of an interface or a world is written as an entry
pub form_entry : (c d : Collection) → IsAcyclic c → IsAcyclic d → (t : TypeKind) → Stands c (ItemKind.Ty t) → uses_others t ≡ true → (k : ItemKind) → Stands d k → stated_of d k ≡ written_definition (stated_of c (ItemKind.Ty t)) → HasEntry k
form_entry c d a b t stands e k there is =
    entry_kind k
    (ap is_whole (sym (kind_stated d b k there)) ∙ ap (λ x. is_whole (kind_of x)) is
    ∙ whole_stated (stated_of c (ItemKind.Ty t)) (ap is_whole (kind_stated c a (ItemKind.Ty t) stands) ∙ used_whole t e))
