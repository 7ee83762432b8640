-- What is answered of an include: names that are given anew, and the items that come with them.
use Rattle.std.specs.Prelude.{◌≡◌, ◌&&◌, ◌||◌, not, Bool, false, is_some, cond, List, [], ◌∷◌, ◌++◌, map, Option, Result, option_map, OnOk, ⊤}
use Rattle.wac_types_base.specs.declared.item.ExternKind.{ExternKind}
use Rattle.wac_types_base.specs.declared.item.ItemKind.{ItemKind}
use Rattle.wac_types_base.specs.declared.defined.World.{World}
use Rattle.wac_types_base.specs.Record.{Collection}
use Rattle.wac_types_base.specs.declared.ids.WorldId.{WorldId}
use Rattle.wac_types_base.specs.Entries.{Name, value_at, with_values}
use Rattle.wac_types_base.specs.Stated.{Stated, exports_of, imports_of, stated_of}
use Rattle.wac_parser_tree.specs.Trees as t
use Rattle.wac_parser_tree.specs.declared.text.Ident.{Ident}
use Rattle.wac_parser_tree.specs.declared.world.WorldInclude.{WorldInclude}
use Rattle.wac_parser_tree.specs.declared.world.WorldIncludeItem.{WorldIncludeItem}
use Rattle.wac_parser_tree.specs.Views.{view_ident, view_world_include_item, view_world_ref}
use Rattle.wac_parser_refusals.specs.declared.refusal.Refusal.{Refusal}
use Rattle.wac_parser_refusals.specs.Causes.{Answer, Fault, WorldIncludeConflict, each, pure}
use Rattle.wac_parser_refusals.specs.Outcomes.{IsOutcome}
use Rattle.wac_parser_declare.specs.declared.includes.Inclusion.{Inclusion}
use Rattle.wac_parser_declare.specs.declared.bodies.Body.{Body}
use Rattle.wac_parser_declare.specs.declared.scope.Context.{Context as Place}
use Rattle.wac_parser_declare.specs.Bodies.{Items}
use Rattle.wac_parser_declare.specs.Held.{stated_body}
use Rattle.wac_parser_declare.specs.Holding.{ItemsStand}
use Rattle.wac_parser_declare.specs.InBodies.{IsBody}
use Rattle.wac_parser_declare.specs.InPaths.{StandsIn}
use Rattle.wac_parser_declare.specs.Packages.{Known}
use Rattle.wac_parser_declare.specs.Scope.{Context, Path, has, path_text, world_path}
use Rattle.wac_parser_declare.specs.Worlds.{has_colon, include_at, include_items, include_one, include_world, is_empty, left_for_exports, or_itself, renaming, unmet, with_name}

-- ---- names that are given anew

abbrev pub renamings : List WorldIncludeItem → List t.WorldIncludeItem
renamings ws = map view_world_include_item ws

-- one more name, and all in order
abbrev pub IsWithName : WorldIncludeItem → List Name → List Name → Result ⊤ Refusal → Type 0
IsWithName w old new r = IsOutcome (λ ns u. new ≡ ns) (with_name old (view_world_include_item w)) r

abbrev pub AreWithNames : List WorldIncludeItem → Result ⊤ Refusal → Type 0
AreWithNames ws r = IsOutcome (λ ns u. ⊤) (each with_name [] (renamings ws)) r

abbrev pub IsRenaming : List WorldIncludeItem → Name → Option Ident → Type 0
IsRenaming ws n i = option_map view_ident i ≡ renaming (renamings ws) n

-- ---- items

-- the path of what is included
abbrev pub path_of : Inclusion → Path
path_of i = world_path (view_world_ref i.include.now.world)

-- whether a `with` clause may help
abbrev pub helps : Inclusion → Bool
helps i = is_empty (renamings i.include.now.with.items)

-- an item of this name is there already
abbrev pub conflict_of : Inclusion → Ident → Fault
conflict_of i n = WorldIncludeConflict i.kind n.string.now (path_text (path_of i)) i.to.now (helps i)

-- these are the items now, whatever collection they stand in
abbrev pub AreNow : Collection → List (Name × ItemKind) → Items → ⊤ → Type 0
AreNow c es xs u = with_values (stated_of c) es ≡ xs

abbrev pub IsIncludedAt : Inclusion → List (Name × ItemKind) → Ident → ItemKind → List (Name × ItemKind) → Result ⊤ Refusal
    → Type 0
IsIncludedAt i old n k new r =
    (c : Collection)
    → IsOutcome (AreNow c new) (include_at i.to.now (path_of i) (helps i) i.kind (with_values (stated_of c) old)
    (stated_of c k) (view_ident n)) r

-- an item, under another name if it gets one
abbrev pub included : Name → Path → Bool → ExternKind → Items → Name × Stated → Option t.Ident → Answer Items
included world p help kind stand e renamed = cond (has_colon e.0)
    (pure (cond (has stand e.0) stand (stand ++ e ∷ [])))
    (include_at world p help kind stand e.1 (or_itself p e.0 renamed))

abbrev pub IsIncluded : Inclusion → List (Name × ItemKind) → Name × ItemKind → Option Ident → List (Name × ItemKind)
    → Result ⊤ Refusal → Type 0
IsIncluded i old e renamed new r =
    (c : Collection)
    → IsOutcome (AreNow c new) (included i.to.now (path_of i) (helps i) i.kind (with_values (stated_of c) old)
    (e.0, stated_of c e.1) (option_map view_ident renamed)) r

-- all items of a side, under the names that are left for it
abbrev pub AreIncludedIn : Collection → Inclusion → List t.WorldIncludeItem → List (Name × ItemKind) → List (Name × ItemKind)
    → List (Name × ItemKind) → Result ⊤ Refusal → Type 0
AreIncludedIn c i ws es old new r =
    IsOutcome (AreNow c new) (each (include_one i.to.now (path_of i) (helps i) ws i.kind) (with_values (stated_of c) old)
    (with_values (stated_of c) es)) r

abbrev pub AreIncluded : Inclusion → List t.WorldIncludeItem → List (Name × ItemKind) → List (Name × ItemKind)
    → List (Name × ItemKind) → Result ⊤ Refusal → Type 0
AreIncluded i ws es old new r = (c : Collection) → AreIncludedIn c i ws es old new r

-- all imports
abbrev pub AreImportsIncluded : Inclusion → List (Name × ItemKind) → List (Name × ItemKind) → List (Name × ItemKind)
    → Result ⊤ Refusal → Type 0
AreImportsIncluded i es old new r = AreIncluded i (renamings i.include.now.with.items) es old new r

-- the items now stand where those before and those that came did
abbrev pub IncludedStand : List (Name × ItemKind) → List (Name × ItemKind) → List (Name × ItemKind) → Result ⊤ Refusal → Type 0
IncludedStand es old new r = OnOk r ((c : Collection) → ItemsStand c old → ItemsStand c es → ItemsStand c new)

-- ---- exports

-- the imports, the exports that a world states are these
abbrev pub HasImports : Collection → Stated → World → Type 0
HasImports c x w = imports_of x ≡ with_values (stated_of c) w.imports

abbrev pub HasExports : Collection → Stated → World → Type 0
HasExports c x w = exports_of x ≡ with_values (stated_of c) w.exports

-- the new name of an export that no import took
abbrev pub IsLeft : List WorldIncludeItem → List (Name × ItemKind) → Name → Option Ident → Type 0
IsLeft ws is n o =
    (c : Collection) (x : Stated) → imports_of x ≡ with_values (stated_of c) is → has_colon n ≡ false
    → option_map view_ident o ≡ renaming (left_for_exports x (renamings ws)) n

abbrev pub AreExportsIncluded : Inclusion → World → List (Name × ItemKind) → List (Name × ItemKind) → Result ⊤ Refusal → Type 0
AreExportsIncluded i w old new r =
    (c : Collection) (x : Stated) → HasImports c x w
    → AreIncludedIn c i (left_for_exports x (renamings i.include.now.with.items)) w.exports old new r

-- a name of a `with` clause that an import or an export has
abbrev pub met_in : World → Name → Bool
met_in w n = not (has_colon n) && (is_some (value_at w.imports n) || is_some (value_at w.exports n))

abbrev pub AreMet : WorldInclude → World → Result ⊤ Refusal → Type 0
AreMet i w r =
    (c : Collection) (x : Stated) → HasImports c x w → HasExports c x w
    → IsOutcome (λ u v. ⊤) (each (unmet (world_path (view_world_ref i.world)) x) tt (renamings i.with.items)) r

-- ---- a whole include

abbrev pub IncludesItems : WorldInclude → Name → WorldId → Collection → Body → Body → Result ⊤ Refusal → Type 0
IncludesItems i to w c old new r =
    IsOutcome (λ b u. IsBody c b new)
    (include_items to (stated_body c old) (world_path (view_world_ref i.world)) (renamings i.with.items)
    (stated_of c (ItemKind.Component w))) r

abbrev pub Includes : WorldInclude → Name → Place → Collection → Known → Body → Collection → Body → Result ⊤ Refusal → Type 0
Includes i to at c known old d new r =
    (x : Context) → StandsIn x at c known
    → IsOutcome (λ b u. IsBody d b new) (include_world x to (stated_body c old) (world_path (view_world_ref i.world))
    (renamings i.with.items)) r
