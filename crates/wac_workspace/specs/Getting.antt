-- Packages that a workspace hands out.
use Rattle.std.specs.Prelude.{◌≡◌, List, [], ◌∷◌, Option, Some, None}
use Rattle.wac_types_base.specs.Graph.{Among}
use Rattle.wac_types_base.specs.declared.item.ItemKind.{ItemKind}
use Rattle.wac_types_base.specs.Collection.{Stands}
use Rattle.wac_types_names.specs.Keys.{Key}
use Rattle.wac_parser_resolve.specs.declared.packages.PackageRef.{PackageRef}
use Rattle.wac_workspace.specs.declared.entries.Entry.{Entry}
use Rattle.wac_workspace.specs.Packages.{key_of, HasKey}

-- the package and the collection are those of an entry
pub record IsRefTo (e : Entry) (r : PackageRef) : Type 0 where
  pub «package» : r.package.now ≡ e.package
  pub types : r.types.now ≡ e.types

-- the package of a key, whose world stands in its collection; none where the key is no package's
abbrev pub Gets : List Entry → Key → Option PackageRef → Type 0
Gets es k None = HasKey es k → ⊥
Gets es k (Some r) = (e : Entry) × Among e es × (key_of e ≡ k) × IsRefTo e r × Stands e.types (ItemKind.Component e.package.ty)

-- the first of these comes, and the others are left
abbrev pub GivesRef : List Entry → Option PackageRef → List Entry → Type 0
GivesRef [] None new = new ≡ []
GivesRef [] (Some r) new = ⊥
GivesRef (e ∷ es) None new = ⊥
GivesRef (e ∷ es) (Some r) new = IsRefTo e r × (new ≡ es)
