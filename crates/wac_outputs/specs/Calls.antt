-- The calls of a workspace as steps, and what its outputs then mean.
use Rattle.std.specs.Prelude.{◌≡◌, ℕ, zero, suc, true, List, [], ◌∷◌, ◌++◌, Option, Some, None, Ok, slice_get, if◌then◌else◌}
use Rattle.std.specs.List.{AllZip}
use Rattle.wac_types_base.specs.declared.ids.WorldId.{WorldId}
use Rattle.wac_types_base.specs.declared.item.ItemKind.{ItemKind}
use Rattle.wac_types_base.specs.Record.{Collection}
use Rattle.wac_types_base.specs.Graph.{Among}
use Rattle.wac_types_base.specs.Stated.{Stated, stated_of}
use Rattle.wac_types_names.specs.Keys.{Key, same_key}
use Rattle.wac_graph_bytes.specs.Typing.{Worlds}
use Rattle.wac_graph_encode.specs.declared.options.EncodeOptions.{EncodeOptions}
use Rattle.wac_nesting.specs.Given.{World}
use Rattle.wac_nesting.specs.Steps.{Add, AreSteps, AreTrue, Ascribed, Compose, IsLeaf, Other, Package, Step, after_all}
use Rattle.wac_nesting.specs.Laws.{IsAsAscribed}
use Rattle.wac_composition.specs.Composition.{Composition, Made}
use Rattle.wac_composition.specs.Sound.{maps_of}
use Rattle.wac_composition.specs.Wired.{composed_wiring}
use Rattle.wac_parser_tree.specs.Trees.{Document}
use Rattle.wac_parser_resolve.specs.Ascribing.{State}
use Rattle.wac_parser_resolve.specs.Ascribed.{Asker, composition}
use Rattle.wac_parser_resolve.specs.Meeting.{resolved}
use Rattle.wac_parser_ascribed.specs.Tied.{handed_tag}
use Rattle.wac_workspace.specs.declared.entries.Entry.{Entry}
use Rattle.wac_workspace.specs.declared.output.Output.{Output}
use Rattle.wac_workspace.specs.Packages.{AddsPackage, HasBytes, Held, PackageParts, key_of}
use Rattle.wac_workspace.specs.Composing.{ComposesSource, IsDocument}
use Rattle.wac_workspace.specs.Resolving.{handed}

-- what a world of a collection imports and exports
abbrev pub world_in : Collection → WorldId → World
world_in c w = maps_of (stated_of c (ItemKind.Component w))

-- ---- what a source ascribes, as a step

-- the place of the package of a key
abbrev pub place_under : List Entry → Key → ℕ
place_under [] k = zero
place_under (e ∷ es) k = if same_key k (key_of e) then zero else suc (place_under es k)

abbrev pub place_if : List Entry → Option (Made Asker ℕ) → ℕ
place_if es None = zero
place_if es (Some m) = place_under es m.key

-- the wiring of a composition over the packages of a workspace, each instance with the place of the package that it is one of
abbrev pub ascribed_over : List Entry → Composition Asker ℕ → Ascribed
ascribed_over es c =
    record { wiring = composed_wiring (handed_tag (handed es)) c; number = λ k. place_if es (slice_get c.made k) }

-- ---- calls

-- what a call of a workspace does
pub data IsCall (old new : Held) : Step → Type 0 where
  -- a component is handed in: none that stands has its bytes
  hands_in : (m : PackageParts) → (HasBytes old.packages m.bytes → ⊥) → AddsPackage old.packages new.packages true m
      → IsCall old new (Add m.bytes (world_in m.types m.world))
  -- A source is composed with its packages nested, and its output is registered, by `compose`, by `compose_stream` or in a run:
  -- the source is a document that says this over the packages.
  composes : (source : List ℕ) (options : EncodeOptions) (o : Output) (d : Document) (s : State) (target : Option Stated)
      → options.define_components ≡ true → IsDocument source d → resolved d (handed old.packages) ≡ Ok (s, target)
      → ComposesSource old new source options o
      → IsCall old new (Compose o.bytes.items (world_in o.types o.world) (ascribed_over old.packages (composition s)))
  -- a refusal, or an output that is not registered
  keeps : new.packages ≡ old.packages → IsCall old new Other

-- one call after another
pub data AreCalls (first : Held) : List Step → Held → Type 0 where
  none_yet : AreCalls first [] first
  then_call : {steps : List Step} {old new : Held} {s : Step} → AreCalls first steps old → IsCall old new s
      → AreCalls first (steps ++ s ∷ []) new

-- ---- the law

-- a package of the workspace as one of the steps': of the same bytes and the same world, and handed in alike
pub record IsEntryOf (e : Entry) (p : Package) : Type 0 where
  pub bytes : p.bytes ≡ e.package.bytes
  pub world : p.world ≡ world_in e.types e.package.ty
  pub leaf : IsLeaf p.ascribed → e.is_handed ≡ true

-- The calls are steps, the packages of the workspace are theirs in order, and each is what is ascribed to it, in all worlds
-- that are true of the packages; and there are such worlds.
pub record AreAsAscribed (steps : List Step) (last : Held) : Type 0 where
  pub steps_are : AreSteps [] steps
  pub entries : AllZip IsEntryOf last.packages (after_all [] steps)
  pub ascribed : (worlds : Worlds) → AreTrue (after_all [] steps) worlds → (p : Package) → Among p (after_all [] steps)
      → IsAsAscribed worlds (after_all [] steps) p p.ascribed
  pub worlds_exist : (worlds : Worlds) × AreTrue (after_all [] steps) worlds

-- so it is after all calls of a workspace that had no packages
abbrev pub Outputs_are_as_ascribed : Type 0
Outputs_are_as_ascribed =
    (first last : Held) (steps : List Step) → first.packages ≡ [] → AreCalls first steps last → AreAsAscribed steps last
