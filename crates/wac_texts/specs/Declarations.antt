-- What documents declare under a name.
use Rattle.std.specs.Prelude.{List, [], ◌∷◌, map, bytes_eq, if◌then◌else◌}
use Rattle.wac_types_base.specs.Entries.{Name}
use Rattle.wac_parser_tree.specs.Accessors.{type_decl_id}
use Rattle.wac_parser_tree.specs.Trees.{Document, Statement, TypeStatement}
use Rattle.wac_texts.specs.declared.declared.Declares.{Declares}

-- the identifier of a declared type
abbrev pub declared_name : TypeStatement → Name
declared_name (TypeStatement.world x) = x.id.string
declared_name (TypeStatement.interface x) = x.id.string
declared_name (TypeStatement.ty x) = (type_decl_id x).string

-- a declared type is a world, or another type
abbrev pub declared_kind : TypeStatement → Declares
declared_kind (TypeStatement.world x) = Declares.World
declared_kind (TypeStatement.interface x) = Declares.Other
declared_kind (TypeStatement.ty x) = Declares.Other

-- a type is declared under its identifier, and under no other name
abbrev pub declared_as : TypeStatement → Name → Declares
declared_as x name = if bytes_eq (declared_name x) name then declared_kind x else Declares.Nothing

-- a statement declares something only where it is one of a type
abbrev pub declared_by : Statement → Name → Declares
declared_by (Statement.ty x) name = declared_as x name
declared_by (Statement.import x) name = Declares.Nothing
declared_by (Statement.let_ x) name = Declares.Nothing
declared_by (Statement.export x) name = Declares.Nothing

-- the first that is something
abbrev pub first_declared : List Declares → Declares
first_declared [] = Declares.Nothing
first_declared (Declares.Nothing ∷ rest) = first_declared rest
first_declared (Declares.World ∷ rest) = Declares.World
first_declared (Declares.Other ∷ rest) = Declares.Other

-- what the first of the statements declares that declares something under the name
abbrev pub declared_among : List Statement → Name → Declares
declared_among statements name = first_declared (map (λ s. declared_by s name) statements)

abbrev pub declared_in : Document → Name → Declares
declared_in d name = declared_among d.statements name
