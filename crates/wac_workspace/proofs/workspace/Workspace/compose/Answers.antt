use Rattle.std.proofs.Common.{subst, List}
use Rattle.std.proofs.lemmas.Result.{err_from_is_err_and}
use Rattle.wac_workspace.specs.declared.entries.Entry.{Entry}
use Rattle.wac_workspace.specs.Packages.{Held}
use Rattle.wac_workspace.specs.Composing.{IsMeantBy, IsOutput, MeansSource}
use Rattle.wac_workspace.specs.Resolving.{handed}
use Rattle.wac_workspace.proofs.Refusing.{unregistered}
use Rattle.wac_workspace.proofs.workspace.Workspace.compose.Goals as goal

pub returns-in_err-register-clause-refused : goal.returns-in_err-register-clause-refused
unfolding MeansSource
returns-in_err-register-clause-refused c =
    let p = err_from_is_err_and c.from_residual-in_err-register.result c.from_residual-in_err-register.ensures.1 in
    let there = subst (λ (es : List Entry). IsOutput c.self.inside.next (handed es) c.args.source.now c.args.options.define_components c.in_ok-output.output) c.deref.ensures.value c.in_ok-output.ensures.output in
    let output = subst (λ (w : Held). IsOutput w.next (handed w.packages) c.args.source.now c.args.options.define_components c.in_ok-output.output) c.self.view_is there in
    let here = subst (λ (es : List Entry). IsMeantBy (handed es) c.args.source.now c.in_ok-output.output.bytes.items) c.deref.ensures.value (c.in_ok-output.ensures.means c.if-define.true) in
    let means = subst (λ (w : Held). IsMeantBy (handed w.packages) c.args.source.now c.in_ok-output.output.bytes.items) c.self.view_is here in
    rw (p.1, p.2) (unregistered c.args.self.now c.args.source.now c.args.options c.in_ok-output.output _ c.if-define.true output means c.in_err-register.ensures.fault)
