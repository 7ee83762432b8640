-- The world that a declaration states, or its cause.
use Rattle.std.specs.Prelude.{Bool, true, false, not, ◌||◌, ◌==◌, cond, List, [], ◌∷◌, ◌++◌, Option, Some, None, Err, filter, ⊤}
use Rattle.std.specs.Cmp.Lexicographic.{pointwise}
use Rattle.wac_types_base.specs.declared.item.ExternKind.{ExternKind}
use Rattle.wac_types_base.specs.Entries.{Name, has_name}
use Rattle.wac_types_base.specs.Stated.{Stated, Kind, IsFunctionType, IsInterface, IsWorld, IsComponent, kind_of, desc, untyped, as_type, world_of, exports_of, imports_of, identifier_of}
use Rattle.wac_names.specs.ComponentNames.{has_byte}
use Rattle.wac_parser_tree.specs.Trees as t
use Rattle.wac_parser_tree.specs.Trees.{Span}
use Rattle.wac_parser_declare.specs.Scope.{Scope, Context, Path, in_package, at_root, has, named, at_path, path_text, path_span, world_path, identifier}
use Rattle.wac_parser_declare.specs.Declarations.{free, type_decl}
use Rattle.wac_parser_declare.specs.Bodies.{Body, Holder, Items, no_body, use_types, item_type, interface_at}
use Rattle.wac_parser_declare.specs.Interfaces.{inline_interface, interface_decl}
use Rattle.wac_parser_refusals.specs.Causes.{Answer, ◌>>=◌, ◌>>◌, pure, refuse, unless_clear, each, plainly}
use Rattle.wac_parser_refusals.specs.Causes.{NotWorld, NotFuncOrInterface, DuplicateWorldItem, DuplicateWorldIncludeName, MissingWorldInclude, WorldIncludeConflict, TypeCannotBeWritten}

-- ---- items

abbrev pub extern_by : Kind → t.Ident → Stated → Answer Stated
extern_by IsInterface i x = pure (untyped x)
extern_by IsFunctionType i x = pure (untyped x)
extern_by k i x = refuse (NotFuncOrInterface i.string (desc x)) i.span

-- a name of the body, else of the root
abbrev pub extern_type : Context → Scope → t.ExternType → Answer Stated
extern_type c ns (t.ExternType.ident i) = named (ns ++ c.root) i >>= λ x. extern_by (kind_of x) i x
extern_type c ns (t.ExternType.func f) = free ns f
extern_type c ns (t.ExternType.interface d) = inline_interface c d

-- an interface without identifier has no name
abbrev pub with_identifier : Name → Option Name → Answer Name
with_identifier world (Some i) = pure i
with_identifier world None = Err (plainly (TypeCannotBeWritten world) None)

-- an interface under its identifier, at this place
abbrev pub interface_added : Name → ExternKind → Items → Span → Stated → Answer Items
interface_added world kind stand s x = do
  n ← with_identifier world (identifier_of x)
  unless_clear (has stand n) (DuplicateWorldItem kind n world) s
  pure (stand ++ (n, untyped x) ∷ [])

abbrev pub interface_at_path : Context → Name → ExternKind → Items → Path → Answer Items
interface_at_path c world kind stand p = interface_at c p >>= interface_added world kind stand (path_span p)

-- one more item: a named item's duplicate comes before its type, another's after
abbrev pub world_item : Context → Scope → Name → ExternKind → Items → t.WorldItemPath → Answer Items
world_item c ns world kind stand (t.WorldItemPath.named i) = do
  unless_clear (has stand i.id.string) (DuplicateWorldItem kind i.id.string world) i.id.span
  x ← extern_type c ns i.ty
  pure (stand ++ (i.id.string, x) ∷ [])
world_item c ns world kind stand (t.WorldItemPath.package_path p) = interface_at_path c world kind stand (in_package p)
world_item c ns world kind stand (t.WorldItemPath.ident i) = interface_at_path c world kind stand (at_root i)

-- the types of a world are imports
abbrev pub importing : Name → Holder
importing world = record { duplicate = λ n. DuplicateWorldItem ExternKind.Import n world; kind = ExternKind.Import }

abbrev pub with_imports : Body → Items → Body
with_imports b xs = record b { items = xs }

abbrev pub with_exports : Body → Items → Body
with_exports b xs = record b { exports = xs }

-- an item that is no include
abbrev pub world_part : Context → Name → Body → t.WorldItem → Answer Body
world_part c w b (t.WorldItem.use_ u) = use_types c (importing w) b u
world_part c w b (t.WorldItem.ty d) = item_type (importing w) b d
world_part c w b (t.WorldItem.import i) =
    world_item c b.names w ExternKind.Import b.items i.path >>= λ xs. pure (with_imports b xs)
world_part c w b (t.WorldItem.export e) =
    world_item c b.names w ExternKind.Export b.exports e.path >>= λ xs. pure (with_exports b xs)
world_part c w b (t.WorldItem.include i) = pure b

-- ---- includes

abbrev pub world_by : Kind → Path → Stated → Answer Stated
world_by IsWorld p x = pure (untyped x)
world_by IsComponent p x = pure x
world_by k p x = refuse (NotWorld (path_text p) (desc x)) (path_span p)

abbrev pub world_at : Context → Path → Answer Stated
world_at c p = at_path c p >>= λ x. world_by (kind_of x) p x

abbrev pub with_name : List Name → t.WorldIncludeItem → Answer (List Name)
with_name found w = unless_clear (has_name found w.from.string) (DuplicateWorldIncludeName w.from.string) w.from.span
    >> pure (found ++ w.from.string ∷ [])

-- the new name of a name, if it gets one
abbrev pub renaming : List t.WorldIncludeItem → Name → Option t.Ident
renaming [] n = None
renaming (w ∷ ws) n = cond (pointwise ◌==◌ n w.from.string) (Some w.to) (renaming ws n)

-- a name with a colon is never renamed, and where it is there already the first item stays
abbrev pub has_colon : Name → Bool
has_colon n = has_byte 58 n

abbrev pub or_itself : Path → Name → Option t.Ident → t.Ident
or_itself p n None = record { string = n; span = path_span p }
or_itself p n (Some i) = i

abbrev pub include_at : Name → Path → Bool → ExternKind → Items → Stated → t.Ident → Answer Items
include_at world p help kind stand x i =
    unless_clear (has stand i.string) (WorldIncludeConflict kind i.string (path_text p) world help) i.span
    >> pure (stand ++ (i.string, x) ∷ [])

abbrev pub include_one : Name → Path → Bool → List t.WorldIncludeItem → ExternKind → Items → Name × Stated → Answer Items
include_one world p help ws kind stand e = cond (has_colon e.0)
    (pure (cond (has stand e.0) stand (stand ++ e ∷ [])))
    (include_at world p help kind stand e.1 (or_itself p e.0 (renaming ws e.0)))

abbrev pub is_empty : {A : Type 0} → List A → Bool
is_empty [] = true
is_empty (x ∷ xs) = false

-- the new names that no import took
abbrev pub left_for_exports : Stated → List t.WorldIncludeItem → List t.WorldIncludeItem
left_for_exports x ws = filter (λ w. has_colon w.from.string || not (has (imports_of x) w.from.string)) ws

-- refused where no item has the name
abbrev pub unmet : Path → Stated → ⊤ → t.WorldIncludeItem → Answer ⊤
unmet p x u w =
    unless_clear (has_colon w.from.string || not (has (imports_of x) w.from.string || has (exports_of x) w.from.string))
    (MissingWorldInclude (path_text p) w.from.string) w.from.span

-- the items of a world: its imports, its exports, and no name that is left
abbrev pub include_items : Name → Body → Path → List t.WorldIncludeItem → Stated → Answer Body
include_items world b p ws x = do
  is ← each (include_one world p (is_empty ws) ws ExternKind.Import) b.items (imports_of x)
  es ← each (include_one world p (is_empty ws) (left_for_exports x ws) ExternKind.Export) b.exports (exports_of x)
  each (unmet p x) tt ws
  pure (record { names = b.names; uses = b.uses; items = is; exports = es })

abbrev pub include_world : Context → Name → Body → Path → List t.WorldIncludeItem → Answer Body
include_world c world b p ws = do
  each with_name [] ws
  x ← world_at c p
  include_items world b p ws x

-- a world's includes come after its other items
abbrev pub world_include : Context → Name → Body → t.WorldItem → Answer Body
world_include c w b (t.WorldItem.include i) = include_world c w b (world_path i.world) i.with
world_include c w b x = pure b

abbrev pub world_body : Context → Name → List t.WorldItem → Answer Body
world_body c w is = each (world_part c w) no_body is >>= λ b. each (world_include c w) b is

abbrev pub world_decl : Context → t.WorldDecl → Answer Stated
world_decl c d =
    world_body c d.id.string d.items >>= λ b. pure (world_of (Some (identifier c.own d.id.string)) b.uses b.items b.exports)

-- ---- statements

-- the type item that a type statement states
abbrev pub type_statement : Context → t.TypeStatement → Answer Stated
type_statement c (t.TypeStatement.interface d) = interface_decl c d >>= λ x. pure (as_type x)
type_statement c (t.TypeStatement.world d) = world_decl c d >>= λ x. pure (as_type x)
type_statement c (t.TypeStatement.ty d) = type_decl c.root d
