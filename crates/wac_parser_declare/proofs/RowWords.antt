-- Short words for documents in worked rows.
use Rattle.std.specs.Prelude.{ℕ, Bool, List, [], ◌∷◌, map, Option, Some, None, Err}
use Rattle.wac_types_base.specs.Entries.{Name}
use Rattle.wac_types_base.specs.Stated.{Stated}
use Rattle.wac_types_names.specs.Keys.{Key}
use Rattle.wac_parser_tree.specs.Trees as m
use Rattle.wac_parser_refusals.specs.Causes.{Answer, Fault, ◌>>=◌, pure, plainly}
use Rattle.wac_parser_declare.specs.Scope.{Scope, Context, Path, in_package, at_root, bind}
use Rattle.wac_parser_declare.specs.Worlds.{type_statement}

abbrev pub sp : ℕ → ℕ → m.Span
sp a b = record { offset = a; length = b }

abbrev pub id_at : Name → ℕ → ℕ → m.Ident
id_at n a b = record { string = n; span = sp a b }

abbrev pub refusal : {A : Type 0} → Fault → ℕ → ℕ → Answer A
refusal f a b = Err (plainly f (Some (sp a b)))

pub record Func : Type 0 where
  pub is_async : Bool
  pub params : List m.NamedType
  pub result : Option m.Ty

abbrev results : Option m.Ty → m.ResultList
results None = m.ResultList.empty
results (Some ty) = m.ResultList.scalar ty

abbrev pub func : Func → m.FuncType
func f = record { is_async = f.is_async; params = f.params; results = results f.result }

pub record Case : Type 0 where
  pub id : m.Ident
  pub ty : Option m.Ty

pub record Uses : Type 0 where
  pub path : Path
  pub items : List m.UseItem

abbrev use_path : Path → m.UsePath
use_path (in_package p) = m.UsePath.package_path p
use_path (at_root i) = m.UsePath.ident i

abbrev uses : Uses → m.Use
uses u = record { docs = []; path = use_path u.path; items = u.items }

-- declarations at the root
abbrev pub alias_func : m.Ident → Func → m.TypeDecl
alias_func i f = m.TypeDecl.alias (record { docs = []; id = i; kind = m.TypeAliasKind.func (func f) })

abbrev pub alias_ty : m.Ident → m.Ty → m.TypeDecl
alias_ty i ty = m.TypeDecl.alias (record { docs = []; id = i; kind = m.TypeAliasKind.ty ty })

abbrev pub variant : m.Ident → List Case → m.TypeDecl
variant i cs = m.TypeDecl.variant (record { docs = []; id = i; cases = map (λ c. record { docs = []; id = c.id; ty = c.ty }) cs })

abbrev pub record_of : m.Ident → List m.NamedType → m.TypeDecl
record_of i fs = m.TypeDecl.record_ (record { docs = []; id = i; fields = map (λ f. record { docs = []; id = f.id; ty = f.ty }) fs })

abbrev pub flags : m.Ident → List m.Ident → m.TypeDecl
flags i xs = m.TypeDecl.flags (record { docs = []; id = i; flags = map (λ x. record { docs = []; id = x }) xs })

abbrev pub enum : m.Ident → List m.Ident → m.TypeDecl
enum i xs = m.TypeDecl.enum (record { docs = []; id = i; cases = map (λ x. record { docs = []; id = x }) xs })

-- declarations in a body
abbrev pub plain_type : m.TypeDecl → m.ItemTypeDecl
plain_type (m.TypeDecl.variant d) = m.ItemTypeDecl.variant d
plain_type (m.TypeDecl.record_ d) = m.ItemTypeDecl.record_ d
plain_type (m.TypeDecl.flags d) = m.ItemTypeDecl.flags d
plain_type (m.TypeDecl.enum d) = m.ItemTypeDecl.enum d
plain_type (m.TypeDecl.alias d) = m.ItemTypeDecl.alias d

abbrev pub resource : m.Ident → List m.ResourceMethod → m.ItemTypeDecl
resource i ms = m.ItemTypeDecl.resource (record { docs = []; id = i; methods = ms })

abbrev pub constructor_at : m.Span → List m.NamedType → m.ResourceMethod
constructor_at s ps = m.ResourceMethod.constructor (record { docs = []; span = s; params = ps })

abbrev pub method : m.Ident → Bool → Func → m.ResourceMethod
method i b f = m.ResourceMethod.method (record { docs = []; id = i; is_static = b; ty = func f })

abbrev pub func_type : Func → m.FuncTypeRef
func_type f = m.FuncTypeRef.func (func f)

abbrev pub func_named : m.Ident → m.FuncTypeRef
func_named i = m.FuncTypeRef.ident i

abbrev pub use_item : Uses → m.InterfaceItem
use_item u = m.InterfaceItem.use_ (uses u)

abbrev pub type_item : m.ItemTypeDecl → m.InterfaceItem
type_item d = m.InterfaceItem.ty d

abbrev pub export_item : m.Ident → m.FuncTypeRef → m.InterfaceItem
export_item i f = m.InterfaceItem.export (record { docs = []; id = i; ty = f })

abbrev pub world_use : Uses → m.WorldItem
world_use u = m.WorldItem.use_ (uses u)

abbrev pub world_type : m.ItemTypeDecl → m.WorldItem
world_type d = m.WorldItem.ty d

abbrev pub extern_ident : m.Ident → m.ExternType
extern_ident i = m.ExternType.ident i

abbrev pub extern_func : Func → m.ExternType
extern_func f = m.ExternType.func (func f)

abbrev pub extern_interface : List m.InterfaceItem → m.ExternType
extern_interface items = m.ExternType.interface (record { items = items })

abbrev pub item_named : m.Ident → m.ExternType → m.WorldItemPath
item_named i ty = m.WorldItemPath.named (record { id = i; ty = ty })

abbrev pub item_at : Path → m.WorldItemPath
item_at (in_package p) = m.WorldItemPath.package_path p
item_at (at_root i) = m.WorldItemPath.ident i

abbrev pub world_import : m.WorldItemPath → m.WorldItem
world_import p = m.WorldItem.import (record { docs = []; path = p })

abbrev pub world_export : m.WorldItemPath → m.WorldItem
world_export p = m.WorldItem.export (record { docs = []; path = p })

abbrev world_ref : Path → m.WorldRef
world_ref (in_package p) = m.WorldRef.package_path p
world_ref (at_root i) = m.WorldRef.ident i

abbrev pub include : Path → List m.WorldIncludeItem → m.WorldItem
include p ws = m.WorldItem.include (record { docs = []; world = world_ref p; with = ws })

-- statements
pub record Named : Type 0 where
  pub id : m.Ident
  pub statement : m.TypeStatement

abbrev type_id : m.TypeDecl → m.Ident
type_id (m.TypeDecl.variant d) = d.id
type_id (m.TypeDecl.record_ d) = d.id
type_id (m.TypeDecl.flags d) = d.id
type_id (m.TypeDecl.enum d) = d.id
type_id (m.TypeDecl.alias d) = d.id

abbrev pub type_ : m.TypeDecl → Named
type_ d = record { id = type_id d; statement = m.TypeStatement.ty d }

abbrev pub interface : m.Ident → List m.InterfaceItem → Named
interface i items = record { id = i; statement = m.TypeStatement.interface (record { docs = []; id = i; items = items }) }

abbrev pub world : m.Ident → List m.WorldItem → Named
world i items = record { id = i; statement = m.TypeStatement.world (record { docs = []; id = i; items = items }) }

-- the package, the packages handed in, the statements
abbrev pub at_place : m.PackageName → List (Key × Stated) → Scope → Context
at_place own packages root = record { own = own; packages = packages; root = root }

abbrev pub declared : m.PackageName → List (Key × Stated) → Scope → List Named → Answer Scope
declared own packages root [] = pure root
declared own packages root (s ∷ ss) =
    type_statement (at_place own packages root) s.statement >>= λ x. bind root s.id x >>= λ r. declared own packages r ss

abbrev pub last_of : Scope → Option Stated
last_of [] = None
last_of (e ∷ []) = Some e.1.item
last_of (e ∷ es) = last_of es

-- what the last statement states
abbrev pub last_declared : Answer Scope → Answer (Option Stated)
last_declared a = a >>= λ r. pure (last_of r)
