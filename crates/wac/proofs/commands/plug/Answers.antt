use Rattle.std.proofs.Common.{inl, inr, refl, subst}
use Rattle.std.specs.Prelude.{string_bytes}
use Rattle.std.proofs.lemmas.Result.{on_ok_weaker}
use Rattle.wac_workspace.specs.Packages.{Held}
use Rattle.wac.specs.Adding.{AddsComponents, unused}
use Rattle.wac.specs.Refusing.{PlugsNot, PutsNot}
use Rattle.wac.specs.Running.{outside}
use Rattle.wac.proofs.Refusing.{adding_from, again, err_more, stops_map, unplugged_by, unput_at}
use Rattle.wac.proofs.Running.{plugs_by, put_at}
use Rattle.wac.proofs.commands.plug.Goals as goal

pub returns : goal.returns
returns g c =
    let before = outside (g.F.Files.stored c.args.files.now) (g.F.Files.failures c.args.files.now) (g.W.Write.contents c.args.out.now) (g.W.ByteSink.calls c.args.out.now) in
    let after = outside (g.F.Files.stored c.put_composed.new.files) (g.F.Files.failures c.put_composed.new.files) (g.W.Write.contents c.put_composed.new.out) (g.W.ByteSink.calls c.put_composed.new.out) in
    let added = c.add_components.new.workspace in
    let adds = subst (λ (w : Held). AddsComponents (g.F.Files.stored c.args.files.now) c.in-Ok.manifest.components.items w added) c.new-workspace.ensures c.in_ok-add_components.ensures.added in
    let plugs = plugs_by added.packages _ _ _ _ c.in-Ok.manifest.socket _ c.as_str-name.ensures.value c.deref.ensures.value c.in_ok-source.ensures.plugs in
    record {
      plugs = on_ok_weaker c.put_composed.result
          (λ puts. record {
            manifest = c.in-Ok.manifest;
            said = c.in-Ok.ensures;
            added = added;
            last = c.put_composed.new.workspace;
            adds = adds;
            plugging = string_bytes c.in_ok-source.source;
            plugs = plugs;
            puts = put_at _ added c.put_composed.new.workspace _ _ _ _ _ _ c.path_of-path.ensures c.as_str.ensures.value puts;
          }) c.put_composed.ensures.puts;
      refused = err_more (PutsNot _ c.as_str.result.now added before after) (PlugsNot c.args.text.now before after) c.put_composed.result
          (λ stop unput. inr (
            c.in-Ok.manifest,
            c.in-Ok.ensures,
            inr (record {
              added = added;
              adds = adds;
              stops = inr (string_bytes c.in_ok-source.source, plugs, unput_at _ _ _ _ _ added before after stop c.path_of-path.ensures c.as_str.ensures.value unput);
            }),
          )) c.put_composed.ensures.refused;
    }

pub returns-in_err-add_components-clause-refused : goal.returns-in_err-add_components-clause-refused
returns-in_err-add_components-clause-refused g c =
    let before = outside (g.F.Files.stored c.args.files.now) (g.F.Files.failures c.args.files.now) (g.W.Write.contents c.args.out.now) (g.W.ByteSink.calls c.args.out.now) in
    let stop = c.in_err-add_components.field-0.0 in
    again (PlugsNot c.args.text.now before before) c.from_residual.result stop c.from_residual.ensures.1
    (inr (c.in-Ok.manifest, c.in-Ok.ensures, inl (stops_map stop (adding_from (g.F.Files.stored c.args.files.now) c.in-Ok.manifest.components.items _ unused c.new-workspace.ensures) c.in_err-add_components.ensures.refused, refl)))

pub returns-in_err-source-clause-refused : goal.returns-in_err-source-clause-refused
returns-in_err-source-clause-refused g c =
    let before = outside (g.F.Files.stored c.args.files.now) (g.F.Files.failures c.args.files.now) (g.W.Write.contents c.args.out.now) (g.W.ByteSink.calls c.args.out.now) in
    let stop = c.in_err-source.field-0.0 in
    let added = c.add_components.new.workspace in
    let adds = subst (λ (w : Held). AddsComponents (g.F.Files.stored c.args.files.now) c.in-Ok.manifest.components.items w added) c.new-workspace.ensures c.in_ok-add_components.ensures.added in
    again (PlugsNot c.args.text.now before before) c.from_residual-in_err-source.result stop c.from_residual-in_err-source.ensures.1
    (inr (
      c.in-Ok.manifest,
      c.in-Ok.ensures,
      inr (record {
        added = added;
        adds = adds;
        stops = inl (stops_map stop (unplugged_by added.packages _ _ _ _ c.in-Ok.manifest.socket c.as_str-name.ensures.value c.deref.ensures.value) c.in_err-source.ensures.refused, refl);
      }),
    ))
