-- What is answered of a path, segment by segment and as a whole.
use Rattle.std.specs.Prelude.{◌≡◌, ◌⊎◌, List, [], ◌∷◌, Result, ⊤}
use Rattle.wac_types_base.specs.declared.item.ItemKind.{ItemKind}
use Rattle.wac_types_base.specs.declared.item.«Type».{«Type» as TypeKind}
use Rattle.wac_types_base.specs.declared.ids.InterfaceId.{InterfaceId}
use Rattle.wac_types_base.specs.declared.ids.WorldId.{WorldId}
use Rattle.wac_types_base.specs.Record.{Collection}
use Rattle.wac_types_base.specs.Entries.{Name}
use Rattle.wac_types_base.specs.Stated.{Stated, kind_of, stated_of}
use Rattle.wac_types_names.specs.Keys.{Key}
use Rattle.wac_parser_tree.specs.Trees as t
use Rattle.wac_parser_tree.specs.Segments.{Segment, segment_spans}
use Rattle.wac_parser_tree.specs.declared.text.Ident.{Ident}
use Rattle.wac_parser_tree.specs.declared.import.PackagePath.{PackagePath}
use Rattle.wac_parser_tree.specs.declared.interface.Use.{Use}
use Rattle.wac_parser_tree.specs.declared.interface.UsePath.{UsePath}
use Rattle.wac_parser_tree.specs.declared.world.WorldRef.{WorldRef}
use Rattle.wac_parser_tree.specs.Views.{view_package_name, view_package_path, view_use, view_use_path, view_world_ref}
use Rattle.wac_parser_refusals.specs.declared.refusal.Refusal.{Refusal}
use Rattle.wac_parser_refusals.specs.Causes.{Answer, ◌>>=◌}
use Rattle.wac_parser_refusals.specs.Outcomes.{IsOutcome}
use Rattle.wac_parser_declare.specs.declared.scope.Context.{Context as Place}
use Rattle.wac_parser_declare.specs.declared.bodies.Body.{Body}
use Rattle.wac_parser_declare.specs.declared.bodies.Holder.{Holder}
use Rattle.wac_parser_declare.specs.Bodies.{interface_at, use_types}
use Rattle.wac_parser_declare.specs.Held.{holder_of, stated_body}
use Rattle.wac_parser_declare.specs.Holding.{Holds, scope_of}
use Rattle.wac_parser_declare.specs.InBodies.{IsBody}
use Rattle.wac_parser_declare.specs.InUses.{AnInterface}
use Rattle.wac_parser_declare.specs.Packages.{Known, named_package, world_if}
use Rattle.wac_parser_declare.specs.Scope.{Context, Path, definitions, foreign_export, from_definitions, from_root, in_package}
use Rattle.wac_parser_declare.specs.Scope.{own_export, own_path, package_path, path_item, path_span, path_text, use_path, world_path, package_under}
use Rattle.wac_parser_declare.specs.Worlds.{world_at, world_by}

-- ---- segments

-- the export that a segment names, of an item of the own package, or of another
abbrev pub IsOwnExport : Collection → Name → ItemKind → Segment → Result ItemKind Refusal → Type 0
IsOwnExport c parent k i r = IsOutcome (Holds c) (own_export parent (stated_of c k) i) r

abbrev pub IsForeignExport : Collection → Name → Name → ItemKind → Segment → Result ItemKind Refusal → Type 0
IsForeignExport c p passed k i r = IsOutcome (Holds c) (foreign_export p passed (stated_of c k) i) r

-- the item to which further segments lead
abbrev pub IsOwnRest : Collection → Name → ItemKind → List Segment → Result ItemKind Refusal → Type 0
IsOwnRest c first k is r = IsOutcome (Holds c) (own_path first (stated_of c k) is) r

-- the same in another package, behind a first segment of this text
abbrev pub IsForeignRest : Collection → Name → Name → ItemKind → List Segment → Result ItemKind Refusal → Type 0
IsForeignRest c p first k is r = (i : Segment) → i.0 ≡ first → IsOutcome (Holds c) (package_path p (i ∷ []) (stated_of c k) is) r

-- ---- paths

-- where a document stands: its own package, the names of its root, and what is known of packages
pub record StandsIn (x : Context) (at : Place) (c : Collection) (known : Known) : Type 0 where
  pub own : x.own ≡ view_package_name at.own.now
  pub root : x.root ≡ scope_of c at.root.now
  pub packages : (k : Key) → package_under x.packages k ≡ world_if (known.packages k)

abbrev pub IsOwnPath : PackagePath → Place → Collection → Result ItemKind Refusal → Type 0
IsOwnPath p at c r =
    (x : Context) → x.root ≡ scope_of c at.root.now → IsOutcome (Holds c) (from_root x (segment_spans (view_package_path p))) r

-- a definition of the package that is named, and its exports
abbrev pub foreign_item : Known → t.PackagePath → Answer Stated
foreign_item known p = named_package known p >>= λ w. from_definitions p (definitions w) (segment_spans p)

abbrev pub IsForeignPath : PackagePath → Known → Collection → Result ItemKind Refusal → Type 0
IsForeignPath p known d r = IsOutcome (Holds d) (foreign_item known (view_package_path p)) r

-- the item, the interface of a path of a package
abbrev pub IsPathItem : PackagePath → Place → Collection → Known → Collection → Result ItemKind Refusal → Type 0
IsPathItem p at c known d r = (x : Context) → StandsIn x at c known → IsOutcome (Holds d) (path_item x (view_package_path p)) r

abbrev pub IsPathInterface : PackagePath → Place → Collection → Known → Collection → Result InterfaceId Refusal → Type 0
IsPathInterface p at c known d r =
    (x : Context) → StandsIn x at c known → IsOutcome (AnInterface d) (interface_at x (in_package (view_package_path p))) r

abbrev pub IsInterfaceAt : UsePath → Place → Collection → Known → Collection → Result InterfaceId Refusal → Type 0
IsInterfaceAt p at c known d r =
    (x : Context) → StandsIn x at c known → IsOutcome (AnInterface d) (interface_at x (use_path (view_use_path p))) r

-- a whole use
abbrev pub Uses : Holder → Use → Place → Collection → Known → Body → Collection → Body → Result ⊤ Refusal → Type 0
Uses h u at c known old d new r =
    (x : Context) → StandsIn x at c known
    → IsOutcome (λ b v. IsBody d b new) (use_types x (holder_of h) (stated_body c old) (view_use u)) r

-- ---- worlds

abbrev pub AWorld : Collection → Stated → WorldId → Type 0
AWorld c x w = Holds c x (ItemKind.Component w)

-- the item is the type of the world, or a component of it
abbrev pub IsWorldIn : ItemKind → WorldId → Type 0
IsWorldIn k w = (k ≡ ItemKind.Ty (TypeKind.World w)) ⊎ (k ≡ ItemKind.Component w)

-- an item that is to be a world, at a path of this text and place
abbrev pub IsWorldOf : Collection → ItemKind → Ident → Result WorldId Refusal → Type 0
IsWorldOf c k i r =
    (p : Path) → path_text p ≡ i.string.now → path_span p ≡ i.span
    → IsOutcome (AWorld c) (world_by (kind_of (stated_of c k)) p (stated_of c k)) r

abbrev pub IsWorldAt : WorldRef → Place → Collection → Known → Collection → Result WorldId Refusal → Type 0
IsWorldAt w at c known d r =
    (x : Context) → StandsIn x at c known → IsOutcome (AWorld d) (world_at x (world_path (view_world_ref w))) r
