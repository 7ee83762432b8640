-- Which interfaces stand while imports are written, as it is known in the code.
use Rattle.std.specs.Prelude.{ℕ, Bool, List, unwrap_or, option_and_then, option_map, slice_get}
use Rattle.wac_types_base.specs.declared.item.ItemKind.{ItemKind}
use Rattle.wac_types_base.specs.Entries.{Name, value_at, has_name}
use Rattle.wac_graph_causes.specs.declared.standing.Placed.{Placed}
use Rattle.wac_graph_causes.specs.declared.standing.Standing.{Standing}

-- the name of the import that is asked under a name: that of the import at its place, or else the name itself
abbrev pub spelled_at : (places : List (Name × ℕ)) → (imports : List (Name × ItemKind)) → Name → Name
spelled_at places imports n = unwrap_or (option_and_then (λ at. option_map (λ e. e.0) (slice_get imports at)) (value_at places n)) n

abbrev pub spelled_in : Placed → Name → Name
spelled_in p n = spelled_at p.places.now p.imports.now n

-- the interface that is asked under this name stands
abbrev pub stands_by : Standing → Name → Bool
stands_by s i = has_name s.names.now (spelled_in s.placed i)
