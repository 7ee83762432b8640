-- The last call of a stream.
use Rattle.std.proofs.Common.{◌≡◌, ◌≢◌, ℕ, List, Result, Ok, Err, ap, sym, subst}
use Rattle.std.specs.Prelude.{OnErr, OnOk, IfErr, IsErrOf}
use Rattle.wac_graph_encode.specs.declared.options.EncodeOptions.{EncodeOptions}
use Rattle.wac_workspace.specs.declared.output.Output.{Output}
use Rattle.wac_workspace.specs.declared.error.StreamError.{StreamError}
use Rattle.wac_workspace.specs.declared.error.StreamError.TheVariants as error
use Rattle.wac_workspace.specs.Packages.{Held}
use Rattle.wac_workspace.specs.Composing.{ComposesSource}
use Rattle.wac_streams.specs.Calls.{AppendsPrefix}
use Rattle.wac_workspace.specs.Streaming.{Ends, IsText, IsStopped}

pub write_stopped : {T : Type 0} {P : Type 0} (old new : Held) (options : EncodeOptions) (ends : Ends) (source : List ℕ) (o : Output) (r : Result T StreamError)
    → IsText ends.read ends.unread source → ComposesSource old new source options o → (P → AppendsPrefix ends.written ends.known o.bytes.items) → OnErr r (IsErrOf r error.Write) → OnErr r P → IfErr r (IsStopped old new options ends)
write_stopped old new options ends source o (Ok x) text composed front only h = tt
write_stopped old new options ends source o (Err e) text composed front only h =
    let same : e ≡ error.Write = cc in
    subst (λ (x : StreamError). IsStopped old new options ends x) (sym same) (source, o, text, composed, front h)

-- what fails in no other way holds where writing did not fail
pub none_written : {U P : Type 0} (r : Result U StreamError) → OnOk r P → OnErr r (IsErrOf r error.Write) → r ≢ Err error.Write → P
none_written (Ok u) fine only other = fine
none_written (Err e) fine only other =
    let same : e ≡ error.Write = cc in
    absurd (other (ap Err same))
