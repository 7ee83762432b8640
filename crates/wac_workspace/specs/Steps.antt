-- Single steps of composing.
use Rattle.std.specs.Prelude.{◌≡◌, ℕ, ◌+◌, ◌<◌, ◌≤◌, Option, Some, None}
use Rattle.wac_types_base.specs.declared.ids.WorldId.{WorldId}
use Rattle.wac_types_base.specs.declared.item.ItemKind.{ItemKind}
use Rattle.wac_types_base.specs.Record.{Collection}
use Rattle.wac_types_base.specs.Collection.{Stands}
use Rattle.wac_types_fit.specs.Targets.{Report}
use Rattle.wac_types_base.specs.Stated.{Stated, stated_world}
use Rattle.wac_graph_core.specs.Graph.{Graph}
use Rattle.wac_graph_encode.specs.declared.options.EncodeOptions.{EncodeOptions}
use Rattle.wac_graph_encode.specs.declared.options.Encoded.{Encoded}
use Rattle.wac_parser_tree.specs.Trees.{PackageName}
use Rattle.wac_parser_resolve.specs.Resolved.{Places}
use Rattle.wac_parser_encode.specs.Meaning.{HasResolvedWorld}
use Rattle.wac_parser_encode.specs.Refused.{CanBeEncoded, RefusesResolved, TellsSource}
use Rattle.wac_workspace.specs.declared.compose.Numbers.{Numbers}
use Rattle.wac_workspace.specs.declared.compose.Pair.{Pair}
use Rattle.wac_workspace.specs.declared.output.Output.{Output}
use Rattle.wac_workspace.specs.declared.error.ComposeError.{ComposeError}
use Rattle.wac_workspace.specs.declared.error.ComposeError.TheVariants as error
use Rattle.wac_workspace.specs.Packages.{Held, HasKey, HasHanded}
use Rattle.wac_workspace.specs.Composing.{greatest, output_key}
use Rattle.wac_workspace.specs.Targets.{Meets, Reports}
use Rattle.wac_workspace.specs.Resolving.{Resolves, IsTargetUnmet, NamesFirst}

-- three numbers from this one on, and the one behind them
pub record AreNext (next : ℕ) (n : Numbers) : Type 0 where
  pub graph : n.graph ≡ next
  pub output : n.output ≡ next + 2
  pub after : n.after ≡ next + 3
  pub room : next + 3 ≤ greatest

-- both worlds stand in the collection, and state what they state in their own
pub record IsPair (c d : Collection) (t w : WorldId) (p : Pair) : Type 0 where
  pub target : Stands p.types (ItemKind.Component p.target)
  pub world : Stands p.types (ItemKind.Component p.world)
  pub target_same : stated_world p.types p.target ≡ stated_world c t
  pub world_same : stated_world p.types p.world ≡ stated_world d w

-- a component's world stands in its collection, which has this number
pub record IsEncoded (last : ℕ) (e : Encoded) : Type 0 where
  pub number : e.types.number ≡ last
  pub stands : Stands e.types (ItemKind.Component e.world)

-- why a component of this world is refused over a target: it does not meet the target, as the report tells; or want of memory
abbrev pub IsUnmet : (target world : Stated) → ComposeError → Type 0
IsUnmet t w (error.Target r) = (Meets t w → ⊥) × Reports t w r
IsUnmet t w error.Memory = Unit {0}
IsUnmet t w e = ⊥

-- the component of a graph meets the target, if there is one
abbrev pub MeetsTargetOf : Graph → Option WorldId → Collection → WorldId → Type 0
MeetsTargetOf g None types world = Unit {0}
MeetsTargetOf g (Some t) types world = Meets (stated_world g.types t) (stated_world types world)

-- The graph can be encoded, and a world that states what it holds does not meet the target, as the report tells.
pub record FailsTargetIn (g : Graph) (options : EncodeOptions) (r : Report) (target : WorldId) : Type 0 where
  pub free : CanBeEncoded g options
  pub types : Collection
  pub world : WorldId
  pub states : HasResolvedWorld g types world
  pub unmet : Meets (stated_world g.types target) (stated_world types world) → ⊥
  pub reports : Reports (stated_world g.types target) (stated_world types world) r

abbrev pub FailsIn : Graph → EncodeOptions → Report → Option WorldId → Type 0
FailsIn g options r None = ⊥
FailsIn g options r (Some t) = FailsTargetIn g options r t

-- why a document that a graph holds at these places has no component that meets its target: the first cause of encoding it, with
-- its source, or the target is not met; or want of memory
abbrev pub IsAfterwards : Graph → Places → Option WorldId → EncodeOptions → ComposeError → Type 0
IsAfterwards g at target options (error.Resolution f) = RefusesResolved g at options f × TellsSource g f
IsAfterwards g at target options (error.Target r) = FailsIn g options r target
IsAfterwards g at target options error.Memory = Unit {0}
IsAfterwards g at target options e = ⊥

-- a component under the name and the version of a package
pub record IsNamedOutput (p : PackageName) (e : Encoded) (o : Output) : Type 0 where
  pub key : output_key o ≡ (p.name, p.version)
  pub bytes : o.bytes ≡ e.bytes
  pub types : o.types ≡ e.types
  pub world : o.world ≡ e.world

-- why an output is not registered
abbrev pub IsUnregistered : Held → Output → ComposeError → Type 0
IsUnregistered w o error.KeyTaken = HasKey w.packages (output_key o)
IsUnregistered w o error.BytesTaken = (HasKey w.packages (output_key o) → ⊥) × HasHanded w.packages o.bytes.items
IsUnregistered w o error.Memory = Unit {0}
IsUnregistered w o e = ⊥

-- an output of a package, by the next three numbers
pub record IsOf (next : ℕ) (p : PackageName) (o : Output) : Type 0 where
  pub room : next + 3 ≤ greatest
  pub key : output_key o ≡ (p.name, p.version)
  pub number : o.types.number ≡ next + 2
  pub stands : Stands o.types (ItemKind.Component o.world)

-- why a document has no output: the numbers, or behind them a late fault
abbrev pub IsUnencoded : ℕ → EncodeOptions → Resolves → ComposeError → Type 0
IsUnencoded next options q error.NumbersExhausted = greatest < next + 3
IsUnencoded next options q (error.Resolution f) = (next + 3 ≤ greatest) × NamesFirst options q f
IsUnencoded next options q (error.Target r) = (next + 3 ≤ greatest) × IsTargetUnmet options.define_components r q
IsUnencoded next options q error.Memory = Unit {0}
IsUnencoded next options q e = ⊥
