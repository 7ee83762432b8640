-- The world that is true of a composition's bytes.
use Rattle.std.specs.Prelude.{List, [], map, Option, Some, None, unwrap_or}
use Rattle.wac_types_base.specs.Entries.{Name, value_at}
use Rattle.wac_types_base.specs.Stated.{Stated, exports_of, world_of}
use Rattle.wac_types_base.specs.Tree.{tree}
use Rattle.wac_graph_bytes.specs.Wirings.{Source, Outer, Inst, Definition, project}
use Rattle.wac_composition.specs.Composition.{Origin, imported, instance, projected, defined, Composition}
use Rattle.wac_composition.specs.Asks.{Ask, asks_of}
use Rattle.wac_composition.specs.Classes.{spelling}
use Rattle.wac_composition.specs.OuterImports.{outer_imports}
use Rattle.wac_types_written.specs.Written.{written_definition, without_uses}

abbrev pub then_in : Option Stated → Name → Option Stated
then_in None n = None
then_in (Some x) n = value_at (exports_of x) n

module _ {A : Type 0} where
  -- the type of what comes from an outer import or is a definition
  abbrev pub final_type : {I : Type 0} → List (Ask A) → Origin I → Option Stated
  final_type asks (imported n) = value_at (outer_imports asks) (spelling asks n)
  final_type asks (instance k) = None
  final_type asks (projected o n) = then_in (final_type asks o) n
  final_type asks (defined n x) = Some (written_definition x)

  -- the source that an origin is
  abbrev pub source_of : {I : Type 0} → List (Ask A) → Origin I → Source I
  source_of asks (imported n) = Outer (spelling asks n)
  source_of asks (instance k) = Inst k
  source_of asks (projected o n) = project (source_of asks o) n
  source_of asks (defined n x) = Definition (tree (written_definition x))

  -- the type under an export; that of an instance's export is the one by which the step went
  abbrev pub exported_type : {I : Type 0} → List (Ask A) → Origin I × Stated → Stated
  exported_type asks e = unwrap_or (final_type asks e.0) e.1

  abbrev pub world_exports : {I : Type 0} → List (Ask A) → List (Name × Origin I × Stated) → List (Name × Stated)
  world_exports asks es = map (λ e. (e.0, exported_type asks (e.1, e.2))) es

-- Its imports are the outer imports, and its exports what stands under the sources.
abbrev pub used_world : {A I : Type 0} → Composition A I → Stated
used_world c = world_of None [] (outer_imports (asks_of c)) (world_exports (asks_of c) c.exports)

abbrev pub composed_world : {A I : Type 0} → Composition A I → Stated
composed_world c = without_uses (used_world c)
