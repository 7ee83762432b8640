-- Why an output is not registered, as the cause of a refusal.
use Rattle.std.proofs.Common.{◌≡◌, ℕ, List, Bool, true, sym, subst}
use Rattle.wac_types_names.specs.Keys.{Key}
use Rattle.wac_graph_encode.specs.declared.options.EncodeOptions.{EncodeOptions}
use Rattle.wac_workspace.specs.declared.output.Output.{Output}
use Rattle.wac_workspace.specs.declared.error.ComposeError.{ComposeError}
use Rattle.wac_workspace.specs.declared.error.ComposeError.TheVariants as error
use Rattle.wac_workspace.specs.Packages.{Held, HasKey}
use Rattle.wac_workspace.specs.Composing.{CanBeComposed, IsMeantBy, IsOutput, IsRefused}
use Rattle.wac_workspace.specs.Resolving.{Handed, handed}
use Rattle.wac_workspace.specs.Steps.{IsUnregistered}

tried : (next : ℕ) (ps : Handed) (source : List ℕ) (define : Bool) (o : Output) → IsOutput next ps source define o → CanBeComposed next ps source define
tried next ps source define o h = record { tree = h.tree; read = h.read; room = h.room; accepted = h.accepted; types = o.types; world = o.world; composed = h.composed }

pub unregistered : (w : Held) (source : List ℕ) (options : EncodeOptions) (o : Output) (e : ComposeError) → options.define_components ≡ true → IsOutput w.next (handed w.packages) source options.define_components o → IsMeantBy (handed w.packages) source o.bytes.items → IsUnregistered w o e → IsRefused w source options e
unregistered w source options o (error.Parse x) d h means f = absurd f
unregistered w source options o error.NumbersExhausted d h means f = absurd f
unregistered w source options o (error.Resolution x) d h means f = absurd f
unregistered w source options o (error.Target x) d h means f = absurd f
unregistered w source options o error.KeyTaken d h means f = (d, tried w.next (handed w.packages) source options.define_components o h, (h.tree, h.read, subst (λ (k : Key). HasKey w.packages k) h.key f))
unregistered w source options o error.BytesTaken d h means f =
    (d, tried w.next (handed w.packages) source options.define_components o h, (h.tree, h.read, λ k. f.0 (subst (λ (k : Key). HasKey w.packages k) (sym h.key) k)), (o.bytes.items, f.1, means))
unregistered w source options o error.Memory d h means f = tt
