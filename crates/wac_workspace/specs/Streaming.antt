-- What composing from a reader to a writer does, and why it doesn't.
use Rattle.std.specs.Prelude.{◌≡◌, ◌≤◌, ℕ, List, [], Option, length}
use Rattle.std.specs.Io.KnownBytes.{Appends}
use Rattle.std.specs.Str.{IsUtf8}
use Rattle.wac_graph_encode.specs.declared.options.EncodeOptions.{EncodeOptions}
use Rattle.wac_workspace.specs.declared.output.Output.{Output}
use Rattle.wac_workspace.specs.declared.error.StreamError.{StreamError}
use Rattle.wac_workspace.specs.declared.error.StreamError.TheVariants as error
use Rattle.wac_workspace.specs.Composing.{ComposesSource, IsRefused}
use Rattle.wac_streams.specs.Calls.{AppendsPrefix}
use Rattle.wac_workspace.specs.Packages.{Held}
use Rattle.wac_workspace.specs.Reading.{ToEnd, HasTooMany}

-- the bytes are what stood in the reader, to its end: not too many
pub record IsWhole (old new : Option (List ℕ)) (source : List ℕ) : Type 0 where
  pub taken : ToEnd old new source
  pub bound : length source ≤ 16777216

-- they are moreover a text
pub record IsText (old new : Option (List ℕ)) (source : List ℕ) : Type 0 where
  pub whole : IsWhole old new source
  pub utf8 : IsUtf8 source

-- what an end had, and what it has
pub record Ends : Type 0 where
  pub read : Option (List ℕ)
  pub unread : Option (List ℕ)
  pub written : Option (List ℕ)
  pub known : Option (List ℕ)

-- The source that was read is composed, and its component was written.
pub record IsStreamed (old new : Held) (options : EncodeOptions) (ends : Ends) : Type 0 where
  pub source : List ℕ
  pub output : Output
  pub text : IsText ends.read ends.unread source
  pub composed : ComposesSource old new source options output
  pub wrote : Appends ends.written ends.known output.bytes.items

-- The cause of each refusal; where writing failed the source is composed, and else nothing changed and nothing is written.
abbrev pub IsStopped : Held → Held → EncodeOptions → Ends → StreamError → Type 0
IsStopped old new options ends error.Read = (new ≡ old) × Appends ends.written ends.known []
IsStopped old new options ends error.SourceTooLong =
    (new ≡ old) × HasTooMany ends.read × Appends ends.written ends.known []
IsStopped old new options ends error.NotUtf8 =
    (new ≡ old) × ((source : List ℕ) × IsWhole ends.read ends.unread source × (IsUtf8 source → ⊥))
    × Appends ends.written ends.known []
IsStopped old new options ends (error.Compose e) =
    (new ≡ old) × ((source : List ℕ) × IsText ends.read ends.unread source × IsRefused old source options e)
    × Appends ends.written ends.known []
IsStopped old new options ends error.Write =
    (source : List ℕ) × (o : Output) × IsText ends.read ends.unread source
    × ComposesSource old new source options o × AppendsPrefix ends.written ends.known o.bytes.items
IsStopped old new options ends error.Memory = (new ≡ old) × Appends ends.written ends.known []
