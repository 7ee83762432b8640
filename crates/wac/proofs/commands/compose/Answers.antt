use Rattle.std.proofs.Common.{inl, inr, refl, subst}
use Rattle.std.proofs.lemmas.Result.{on_ok_weaker}
use Rattle.wac_workspace.specs.Packages.{Held}
use Rattle.wac.specs.Adding.{AddsComponents, unused}
use Rattle.wac.specs.Refusing.{ComposesNot, StopsComposing}
use Rattle.wac.specs.Running.{outside}
use Rattle.wac.proofs.Refusing.{adding_from, again, err_more, stops_map}
use Rattle.wac.proofs.commands.compose.Goals as goal

pub returns : goal.returns
returns g c =
    let before = outside (g.F.Files.stored c.args.files.now) (g.F.Files.failures c.args.files.now) (g.W.Write.contents c.args.out.now) (g.W.ByteSink.calls c.args.out.now) in
    let after = outside (g.F.Files.stored c.put_sources.new.files) (g.F.Files.failures c.put_sources.new.files) (g.W.Write.contents c.put_sources.new.out) (g.W.ByteSink.calls c.put_sources.new.out) in
    let adds = subst (λ (w : Held). AddsComponents (g.F.Files.stored c.args.files.now) c.in-Ok.manifest.components.items w c.add_components.new.workspace) c.new-workspace.ensures c.in_ok-add_components.ensures.added in
    record {
      composes = on_ok_weaker c.put_sources.result
          (λ puts. record {
            manifest = c.in-Ok.manifest;
            said = c.in-Ok.ensures;
            added = c.add_components.new.workspace;
            last = c.put_sources.new.workspace;
            adds = adds;
            puts = puts;
          }) c.put_sources.ensures.puts;
      refused = err_more (StopsComposing _ c.in-Ok.manifest.sources.items c.add_components.new.workspace before after) (ComposesNot c.args.text.now before after) c.put_sources.result
          (λ stop stops. inr (c.in-Ok.manifest, c.in-Ok.ensures, inr (record { added = c.add_components.new.workspace; adds = adds; stops = stops })))
          c.put_sources.ensures.refused;
    }

pub returns-in_err-add_components-clause-refused : goal.returns-in_err-add_components-clause-refused
returns-in_err-add_components-clause-refused g c =
    let before = outside (g.F.Files.stored c.args.files.now) (g.F.Files.failures c.args.files.now) (g.W.Write.contents c.args.out.now) (g.W.ByteSink.calls c.args.out.now) in
    let stop = c.in_err-add_components.field-0.0 in
    again (ComposesNot c.args.text.now before before) c.from_residual.result stop c.from_residual.ensures.1
    (inr (c.in-Ok.manifest, c.in-Ok.ensures, inl (stops_map stop (adding_from (g.F.Files.stored c.args.files.now) c.in-Ok.manifest.components.items _ unused c.new-workspace.ensures) c.in_err-add_components.ensures.refused, refl)))
