-- The outputs of a run, and what they mean through every level of nesting.
use Rattle.std.specs.Prelude.{◌≡◌, ℕ, Bool, false, not, List, [], ◌∷◌, All}
use Rattle.wac_types_base.specs.Graph.{Among}
use Rattle.wac_nesting.specs.Steps.{Package, Step, after_all}
use Rattle.wac_manifest.specs.declared.manifest.Source.{Source}
use Rattle.wac_workspace.specs.declared.output.Output.{Output}
use Rattle.wac_workspace.specs.Packages.{Held}
use Rattle.wac_outputs.specs.Calls.{AreAsAscribed, AreCalls, world_in}
use Rattle.wac.specs.Running.{ComposesManifest, Outside, PutsSources}

-- the outputs of sources that are composed one after another
abbrev pub outputs_of : (define : Bool) (sources : List Source) (old new : Held) (before after : Outside) → PutsSources define sources old new before after → List Output
outputs_of define [] old new before after puts = []
outputs_of define (s ∷ sources) old new before after puts = puts.2.2.output ∷ outputs_of define sources puts.0 new puts.1 after puts.3

-- the bytes and the world of an output are those of a package that the steps leave
pub record IsLeft (steps : List Step) (o : Output) : Type 0 where
  pub which : Package
  pub there : Among which (after_all [] steps)
  pub bytes : which.bytes ≡ o.bytes.items
  pub world : which.world ≡ world_in o.types o.world

-- What a run did as calls of a workspace: then each package, and so each output, is what is ascribed to it, read down to the
-- components of the manifest.
pub record IsAsAscribed {source : List ℕ} {before after : Outside} (run : ComposesManifest source before after) : Type 0 where
  pub first : Held
  pub empty : first.packages ≡ []
  pub steps : List Step
  pub calls : AreCalls first steps run.last
  pub ascribed : AreAsAscribed steps run.last
  pub outputs : All (IsLeft steps) (outputs_of (not run.manifest.«import») run.manifest.sources.items run.added run.last before after run.puts)

-- so it is of each run that composes with its packages nested
abbrev pub Runs_are_as_ascribed : Type 0
Runs_are_as_ascribed =
    (source : List ℕ) (before after : Outside) (run : ComposesManifest source before after) → run.manifest.«import» ≡ false → IsAsAscribed run
