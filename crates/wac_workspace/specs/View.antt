-- What contracts see of a workspace.
use Rattle.std.specs.Prelude.{All}
use Rattle.wac_types_base.specs.declared.item.ItemKind.{ItemKind}
use Rattle.wac_types_base.specs.Collection.{Stands}
use Rattle.wac_workspace.specs.declared.entries.Entry.{Entry}
use Rattle.wac_workspace.specs.declared.workspace.Workspace.TheInside.{Inside}
use Rattle.wac_workspace.specs.Packages.{Held, AreApart}

abbrev pub held : Inside → Held
held w = record { next = w.next; packages = w.entries.items }

-- the world of a package stands in its collection
abbrev pub HasWorld : Entry → Type 0
HasWorld e = Stands e.types (ItemKind.Component e.package.ty)

abbrev pub IsSound : Inside → Type 0
IsSound w = All HasWorld w.entries.items × AreApart w.entries.items
