-- The form in which a definition is written: an interface or a world with identifier inside a component type.
use Rattle.std.specs.Prelude.{Bool, true, false, not, List, [], ◌∷◌, ◌++◌, map, Option, Some, None, is_some, option_map, filter, if◌then◌else◌}
use Rattle.std.specs.List.{flat_map}
use Rattle.wac_types_base.specs.Entries.{Name, value_at}
use Rattle.wac_types_base.specs.Collection.{Shape, interface, world, type_of}
use Rattle.wac_types_base.specs.Stated.{Stated, Kind, IsResource, IsFunctionType, IsValueType, IsInterface, IsWorld, IsModuleType, Parts, parts_at, Used, folded, kind_of, as_type, untyped, over, interface_of, world_of, exports_of, imports_of, uses_of, identifier_of}

-- ---- the interfaces that something uses, each behind those that it uses itself

abbrev pub under_identifier : Stated → Option Name → List (Name × Stated)
under_identifier x None = []
under_identifier x (Some n) = (n, x) ∷ []

abbrev pub through_use : Used × List (Name × Stated) → List (Name × Stated)
through_use u = u.1 ++ under_identifier u.0.interface (identifier_of u.0.interface)

abbrev pub dependencies_in : Parts (List (Name × Stated)) → List (Name × Stated)
dependencies_in p = flat_map through_use p.uses ++ flat_map (λ e. e.1.1) p.exports

abbrev pub dependencies_at : Shape → List (Option (Stated × List (Name × Stated))) → List (Name × Stated)
dependencies_at (interface i us es) os = dependencies_in (parts_at (interface i us es) os)
dependencies_at (type_of (interface i us es)) os = dependencies_in (parts_at (interface i us es) os)
dependencies_at s os = []

abbrev pub dependencies : Stated → List (Name × Stated)
dependencies = folded dependencies_at

-- of several under one name the first
abbrev pub with_first : List (Name × Stated) → Name × Stated → List (Name × Stated)
with_first seen x = if is_some (value_at seen x.0) then seen else seen ++ x ∷ []

abbrev pub with_firsts : List (Name × Stated) → List (Name × Stated) → List (Name × Stated)
with_firsts seen [] = seen
with_firsts seen (x ∷ xs) = with_firsts (with_first seen x) xs

abbrev pub used_through : Used → List (Name × Stated)
used_through u = dependencies u.interface ++ under_identifier u.interface (identifier_of u.interface)

-- what a world and its items use
abbrev pub used_by_world : Stated → List (Name × Stated)
used_by_world w = with_firsts []
    (flat_map used_through (uses_of w)
    ++ (flat_map (λ e. dependencies e.1) (imports_of w) ++ flat_map (λ e. dependencies e.1) (exports_of w)))

-- ---- component types

abbrev pub is_type : Kind → Bool
is_type IsResource = true
is_type IsFunctionType = true
is_type IsValueType = true
is_type IsInterface = true
is_type IsWorld = true
is_type IsModuleType = true
is_type k = false

-- an interface with its type exports only
abbrev pub types_only : Stated → Stated
types_only x = interface_of (identifier_of x) (uses_of x) (filter (λ e. is_type (kind_of e.1)) (exports_of x))

-- a component type imports, before its own imports, the interfaces that its items use, unless a name is there
abbrev pub missing_uses : Stated → List (Name × Stated)
missing_uses w = map (λ e. (e.0, types_only e.1)) (filter (λ e. not (is_some (value_at (imports_of w) e.0))) (used_by_world w))

abbrev pub as_component_type : Stated → Stated
as_component_type w = world_of (identifier_of w) (uses_of w) (missing_uses w ++ imports_of w) (exports_of w)

-- ---- what was found of the parts, in their place

abbrev pub found_in : {A : Type 0} → List (Name × (Stated × A)) → List (Name × A)
found_in xs = map (λ x. (x.0, x.1.1)) xs

abbrev pub used_with : Used × Stated → Used
used_with u = record { name = u.0.name; there = u.0.there; interface = u.1 }

abbrev pub over_found : Shape → List (Option (Stated × Stated)) → Stated
over_found s os = over s (map (option_map (λ x. x.1)) os)

-- as it was
abbrev pub over_own : Shape → List (Option (Stated × Stated)) → Stated
over_own s os = over s (map (option_map (λ x. x.0)) os)

-- ---- forms of worlds

-- what is made of a world's identifier, uses, imports and exports
abbrev pub WorldMaker : Type 0
WorldMaker = Option Name → List Used → List (Name × Stated) → List (Name × Stated) → Stated

abbrev pub made_of : WorldMaker → Parts Stated → Stated
made_of make p = make p.identifier (map used_with p.uses) (found_in p.imports) (found_in p.exports)

-- values, functions and resources have no world in them; the owner of a resource is not in it
abbrev pub formed_at : WorldMaker → Shape → List (Option (Stated × Stated)) → Stated
formed_at make (interface i us es) os = over_found (interface i us es) os
formed_at make (world i us is es) os = made_of make (parts_at (world i us is es) os)
formed_at make (type_of (interface i us es)) os = over_found (type_of (interface i us es)) os
formed_at make (type_of (world i us is es)) os = as_type (made_of make (parts_at (world i us is es) os))
formed_at make s os = over_own s os

-- each world in it, the inner ones first, as it is made of its parts
abbrev pub formed : WorldMaker → Stated → Stated
formed make = folded (formed_at make)

-- without its uses
abbrev pub bare_world : WorldMaker
bare_world i us is es = world_of i [] is es

-- each world in it without its uses: no world of an output's collection has uses of its own
abbrev pub without_uses : Stated → Stated
without_uses = formed bare_world

-- ---- written forms

abbrev pub component_type : WorldMaker
component_type i us is es = as_component_type (world_of i us is es)

abbrev pub written_at : Shape → List (Option (Stated × Stated)) → Stated
written_at = formed_at component_type

-- each world in it as a component type
abbrev pub written : Stated → Stated
written = formed component_type

-- a component type with this one export
abbrev pub wrapped : Name → Stated → Stated
wrapped n x = as_type (as_component_type (world_of None [] [] ((n, x) ∷ [])))

abbrev pub written_by : Kind → Option Name → Stated → Stated
written_by IsInterface (Some n) x = wrapped n (untyped x)
written_by IsWorld (Some n) x = wrapped n (untyped x)
written_by k i x = x

-- the form in which a definition is written
abbrev pub written_definition : Stated → Stated
written_definition x = written_by (kind_of x) (identifier_of x) (written x)
