use Rattle.std.proofs.Common.{inl, inr, refl, ◌∙◌}
use Rattle.std.specs.Prelude.{string_bytes}
use Rattle.std.proofs.lemmas.Iterator.Adapters.{YieldsList-from_vec}
use Rattle.wac.specs.Running.{outside}
use Rattle.wac.specs.Refusing.{StopsComposing}
use Rattle.wac.proofs.Refusing.{again, stops_at, unput_at, walked}
use Rattle.wac.proofs.Running.{one_source, put_at}
use Rattle.wac.proofs.sources.put_sources.Goals as goal

pub loop-source-preserved-in_ok-put_composed : goal.loop-source-preserved-in_ok-put_composed
loop-source-preserved-in_ok-put_composed g c =
    one_source c.args.define c.loop-source.yielded c.in-Some.source c.args.workspace.now c.loop-source.workspace c.put_composed.new.workspace _ _ _ c.loop-source.invariant (
      string_bytes c.in_ok-text.text,
      c.in_ok-text.ensures.text,
      put_at c.args.define c.loop-source.workspace c.put_composed.new.workspace _ _ _ _ _ _ c.path_of-path.ensures c.as_str.ensures.value c.in_ok-put_composed.ensures.puts,
    )

pub loop-source-preserved : goal.loop-source-preserved
loop-source-preserved g c =
    one_source c.args.define c.loop-source.yielded c.in-Some.source c.args.workspace.now c.loop-source.workspace c.put_composed.new.workspace _ _ _ c.loop-source.invariant (
      string_bytes c.in_ok-text.text,
      c.in_ok-text.ensures.text,
      put_at c.args.define c.loop-source.workspace c.put_composed.new.workspace _ _ _ _ _ _ c.path_of-path.ensures c.as_str.ensures.value c.in_ok-put_composed.ensures.puts,
    )

pub returns-in_err-text-clause-refused : goal.returns-in_err-text-clause-refused
returns-in_err-text-clause-refused g c =
    let loop = c.loop-source in
    let first = outside (g.F.Files.stored c.args.files.now) (g.F.Files.failures c.args.files.now) (g.W.Write.contents c.args.out.now) (g.W.ByteSink.calls c.args.out.now) in
    let between = outside (g.F.Files.stored loop.files) (g.F.Files.failures loop.files) (g.W.Write.contents loop.out) (g.W.ByteSink.calls loop.out) in
    let gives = c.into_iter-source-iterator.ensures.into_iter_gives in
    let list = YieldsList-from_vec {s = c.into_iter-source-iterator.result} c.args.sources.items gives.0 (gives.1 ∙ c.args.sources.ok.0) in
    let at = walked list loop.yielded loop.source-iterator loop.yielded_by c.next.result c.next.new.self c.in-Some.source c.in-Some.is c.next.ensures.steps in
    let stop = c.in_err-text.field-0.0 in
    again (StopsComposing c.args.define c.args.sources.items c.args.workspace.now first between) c.from_residual.result stop c.from_residual.ensures.1
    (stops_at c.args.define c.args.sources.items c.args.workspace.now loop.workspace first between between loop.yielded c.in-Some.source stop at loop.invariant (inl (c.in_err-text.ensures.refused, refl)))

pub returns-in_err-put_composed-clause-refused : goal.returns-in_err-put_composed-clause-refused
returns-in_err-put_composed-clause-refused g c =
    let loop = c.loop-source in
    let first = outside (g.F.Files.stored c.args.files.now) (g.F.Files.failures c.args.files.now) (g.W.Write.contents c.args.out.now) (g.W.ByteSink.calls c.args.out.now) in
    let between = outside (g.F.Files.stored loop.files) (g.F.Files.failures loop.files) (g.W.Write.contents loop.out) (g.W.ByteSink.calls loop.out) in
    let files = c.put_composed.new.files in
    let out = c.put_composed.new.out in
    let after = outside (g.F.Files.stored files) (g.F.Files.failures files) (g.W.Write.contents out) (g.W.ByteSink.calls out) in
    let gives = c.into_iter-source-iterator.ensures.into_iter_gives in
    let list = YieldsList-from_vec {s = c.into_iter-source-iterator.result} c.args.sources.items gives.0 (gives.1 ∙ c.args.sources.ok.0) in
    let at = walked list loop.yielded loop.source-iterator loop.yielded_by c.next.result c.next.new.self c.in-Some.source c.in-Some.is c.next.ensures.steps in
    let stop = c.in_err-put_composed.field-0.0 in
    again (StopsComposing c.args.define c.args.sources.items c.args.workspace.now first after) c.from_residual-in_err-put_composed.result stop c.from_residual-in_err-put_composed.ensures.1
    (stops_at c.args.define c.args.sources.items c.args.workspace.now loop.workspace first between after loop.yielded c.in-Some.source stop at loop.invariant
    (inr (string_bytes c.in_ok-text.text, c.in_ok-text.ensures.text, unput_at c.args.define _ _ _ _ loop.workspace between after stop c.path_of-path.ensures c.as_str.ensures.value c.in_err-put_composed.ensures.refused)))
