-- What names and paths mean.
use Rattle.std.specs.Prelude.{Bool, true, false, ◌&&◌, ◌==◌, cond, List, [], ◌∷◌, ◌++◌, Option, Some, None, is_some, option_map, codes, filter_map, Err, ⊤}
use Rattle.std.specs.Cmp.Lexicographic.{pointwise}
use Rattle.semver.specs.Parse.{Parts}
use Rattle.semver.specs.Identifiers.{parts_text}
use Rattle.wac_types_base.specs.Entries.{Name, value_at}
use Rattle.wac_types_base.specs.Stated.{Stated, Kind, IsInstance, IsComponent, IsWorld, kind_of, desc, exports_of, as_type}
use Rattle.wac_types_names.specs.Keys.{Key, same_key}
use Rattle.wac_types_names.specs.InterfaceNames.{is_interface_name}
use Rattle.wac_parser_tree.specs.Trees as t
use Rattle.wac_parser_tree.specs.Trees.{Span}
use Rattle.wac_parser_tree.specs.Segments.{Segment, segment_spans, package_name_span}
use Rattle.wac_parser_refusals.specs.Causes.{Answer, ◌>>=◌, ◌>>◌, pure, refuse, present, UndefinedName, DuplicateName, UnknownPackage, PackageMissingExport, PackagePathMissingExport, plainly}

-- an item, and where it got its name
pub record Meant : Type 0 where
  pub item : Stated
  pub span : Span

-- the names of a document, or of a body, in order
abbrev pub Scope : Type 0
Scope = List (Name × Meant)

-- whether an entry has the name
abbrev pub has : {T : Type 0} → List (Name × T) → Name → Bool
has xs n = is_some (value_at xs n)

-- ---- names

abbrev pub meant : Scope → t.Ident → Answer Meant
meant ns i = present (value_at ns i.string) (UndefinedName i.string) i.span

abbrev pub named : Scope → t.Ident → Answer Stated
named ns i = meant ns i >>= λ m. pure m.item

abbrev pub taken : Option Meant → t.Ident → Answer ⊤
taken None i = pure tt
taken (Some m) i = refuse (DuplicateName i.string m.span) i.span

-- the scope with one more name
abbrev pub bind : Scope → t.Ident → Stated → Answer Scope
bind ns i x = taken (value_at ns i.string) i >> pure (ns ++ (i.string, record { item = x; span = i.span }) ∷ [])

-- `@` and the version, if there is one
abbrev pub at_version : Option Parts → Name
at_version None = []
at_version (Some v) = codes "@" ++ parts_text v

-- `PACKAGE/NAME[@VERSION]`
abbrev pub identifier : t.PackageName → Name → Name
identifier p n = p.name ++ (codes "/" ++ (n ++ at_version p.version))

-- ---- packages

-- where a document stands: its own package's name, the packages handed in with their worlds, the names of its root
pub record Context : Type 0 where
  pub own : t.PackageName
  pub packages : List (Key × Stated)
  pub root : Scope

-- what the first package of this key has
abbrev pub package_under : {V : Type 0} → List (Key × V) → Key → Option V
package_under [] k = None
package_under (p ∷ ps) k = cond (same_key k p.0) (Some p.1) (package_under ps k)

abbrev pub world_of_package : List (Key × Stated) → Key → Span → Answer Stated
world_of_package ps k s = present (package_under ps k) (UnknownPackage k.0) s

-- an export that is the type of a world with one export, under an interface name, means the type of that export
abbrev pub is_instance_or_component : Kind → Bool
is_instance_or_component IsInstance = true
is_instance_or_component IsComponent = true
is_instance_or_component k = false

abbrev pub only_export : List (Name × Stated) → Option Stated
only_export (e ∷ []) = cond (is_interface_name e.0 && is_instance_or_component (kind_of e.1)) (Some (as_type e.1)) None
only_export es = None

abbrev pub definition_by : Kind → Stated → Option Stated
definition_by IsWorld w = only_export (exports_of w)
definition_by k w = None

-- the interfaces and worlds that a package's world defines
abbrev pub definitions : Stated → List (Name × Stated)
definitions w = filter_map (λ e. option_map (λ d. (e.0, d)) (definition_by (kind_of e.1) e.1)) (exports_of w)

-- ---- paths

-- a path of a package, or a name of the root
pub data Path : Type 0 where
  in_package : t.PackagePath → Path
  at_root : t.Ident → Path

abbrev pub use_path : t.UsePath → Path
use_path (t.UsePath.package_path p) = in_package p
use_path (t.UsePath.ident i) = at_root i

abbrev pub world_path : t.WorldRef → Path
world_path (t.WorldRef.package_path p) = in_package p
world_path (t.WorldRef.ident i) = at_root i

abbrev pub passed_text : List Segment → Name
passed_text [] = []
passed_text (i ∷ []) = i.0
passed_text (i ∷ is) = i.0 ++ (codes "/" ++ passed_text is)

-- further segments are exports
abbrev pub own_export : Name → Stated → Segment → Answer Stated
own_export parent x i = present (value_at (exports_of x) i.0) (PackagePathMissingExport parent (desc x) i.0) i.1

abbrev pub own_path : Name → Stated → List Segment → Answer Stated
own_path parent x [] = pure x
own_path parent x (i ∷ is) = own_export parent x i >>= λ y. own_path i.0 y is

abbrev pub foreign_export : Name → Name → Stated → Segment → Answer Stated
foreign_export p passed x i = present (value_at (exports_of x) i.0) (PackageMissingExport p i.0 (Some (desc x)) passed) i.1

abbrev pub package_path : Name → List Segment → Stated → List Segment → Answer Stated
package_path p passed x [] = pure x
package_path p passed x (i ∷ is) = foreign_export p (passed_text passed) x i >>= λ y. package_path p (passed ++ i ∷ []) y is

-- a segment as a name
abbrev pub segment_ident : Segment → t.Ident
segment_ident s = record { string = s.0; span = s.1 }

-- no path is without segments
abbrev pub from_root : Context → List Segment → Answer Stated
from_root c [] = Err (plainly (UndefinedName []) None)
from_root c (i ∷ is) = named c.root (segment_ident i) >>= λ x. own_path i.0 x is

abbrev pub from_definitions : t.PackagePath → List (Name × Stated) → List Segment → Answer Stated
from_definitions p ds [] = Err (plainly (UndefinedName []) None)
from_definitions p ds (i ∷ is) =
    present (value_at ds i.0) (PackageMissingExport p.name i.0 None []) i.1 >>= λ x. package_path p.name (i ∷ []) x is

-- the item that a path of a package names
abbrev pub path_item : Context → t.PackagePath → Answer Stated
path_item c p = cond (pointwise ◌==◌ p.name c.own.name)
    (from_root c (segment_spans p))
    (world_of_package c.packages (p.name, p.version) (package_name_span p)
    >>= λ w. from_definitions p (definitions w) (segment_spans p))

abbrev pub at_path : Context → Path → Answer Stated
at_path c (in_package p) = path_item c p
at_path c (at_root i) = named c.root i

abbrev pub path_text : Path → Name
path_text (in_package p) = p.string
path_text (at_root i) = i.string

abbrev pub path_span : Path → Span
path_span (in_package p) = p.span
path_span (at_root i) = i.span
