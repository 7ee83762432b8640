-- What the iterators list.
use Rattle.std.specs.Prelude.{ℕ, List, [], ◌∷◌, Option, Some, None, slice_get}
use Rattle.wac_types_base.specs.declared.defined.World.{World}
use Rattle.wac_types_base.specs.Entries.{Name, names_of}
use Rattle.wac_types_names.specs.Packaged.{Packaged}
use Rattle.wac_graph_core.specs.declared.edge.Edge.{Edge}
use Rattle.wac_graph_core.specs.declared.package.Place.{Place}
use Rattle.wac_graph_core.specs.Walking.{first_argument}
use Rattle.wac_graph_core.specs.Graph.{Graph, instantiated}

abbrev pub held_with : Option Packaged → List Packaged → List Packaged
held_with None ps = ps
held_with (Some p) ps = p ∷ ps

-- the packages, by their places
abbrev pub held_list : List Place → List Packaged
held_list [] = []
held_list (p ∷ ps) = held_with p.held (held_list ps)

abbrev pub passed_with : Name → Option ℕ → List (Name × ℕ) → List (Name × ℕ)
passed_with n None xs = xs
passed_with n (Some a) xs = (n, a) ∷ xs

-- what is passed to an instance under these names
abbrev pub passed_list : List Edge → ℕ → List Name → List (Name × ℕ)
passed_list es i [] = []
passed_list es i (n ∷ ns) = passed_with n (first_argument es i n) (passed_list es i ns)

abbrev pub world_names : Option World → List Name
world_names None = []
world_names (Some w) = names_of w.imports

abbrev pub import_names : Graph → Option Packaged → List Name
import_names g None = []
import_names g (Some p) = world_names (slice_get g.types.worlds p.ty.index)

-- what is passed to an instance, in the order of its package's imports
abbrev pub passed_to : Graph → ℕ → List (Name × ℕ)
passed_to g i = passed_list g.edges i (import_names g (instantiated g i))
