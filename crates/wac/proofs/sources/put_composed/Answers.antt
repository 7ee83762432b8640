use Rattle.std.proofs.Common.{None, option_map, ap, inl, refl}
use Rattle.wac.specs.Refusing.{FailsToPut, FailsToWriteLine, PutsNot}
use Rattle.wac.specs.Running.{line_of, outside}
use Rattle.wac.proofs.Refusing.{again, err_more, unput_here, unput_there}
use Rattle.wac.proofs.Running.{all_ok, both_ok, put_here, put_there}
use Rattle.wac.proofs.sources.put_composed.Goals as goal

pub returns-in-None : goal.returns-in-None
returns-in-None g c =
    let o = c.in_ok-output.output in
    let composed = c.in_ok-output.ensures.composed in
    let none = ap (option_map (λ p. p.now)) c.in-None.is in
    record {
      puts = both_ok c.put_line.result
          (λ line fine. put_here c.args.wanted.define _ c.args.source.now c.args.workspace.now c.composed.new.workspace o composed _ _ _ _ _ _ none line fine)
          c.put_line.ensures.line c.put_line.ensures.none_failed;
      refused = err_more (FailsToWriteLine (line_of None o) _ _ _ _) (PutsNot c.args.wanted c.args.source.now c.args.workspace.now _ _) c.put_line.result
          (λ stop fails. unput_here c.args.wanted.define c.args.source.now c.args.workspace.now c.composed.new.workspace o composed _ none _ _ _ _ _ _ stop fails)
          c.put_line.ensures.refused;
    }

pub returns : goal.returns
returns g c =
    let o = c.in_ok-output.output in
    let composed = c.in_ok-output.ensures.composed in
    let some = ap (option_map (λ p. p.now)) c.in-Some.is in
    record {
      puts = all_ok c.put_file.result
          (λ kept line fine. put_there c.args.wanted.define _ c.args.source.now c.args.workspace.now c.composed.new.workspace o composed _ _ _ some kept line fine)
          c.put_file.ensures.kept c.put_file.ensures.line (both_ok c.put_file.result (λ f n. record { files = f; output = n }) c.put_file.ensures.failures c.put_file.ensures.none_failed);
      refused = err_more (FailsToPut _ o _ _) (PutsNot c.args.wanted c.args.source.now c.args.workspace.now _ _) c.put_file.result
          (λ stop fails. unput_there c.args.wanted.define c.args.source.now c.args.workspace.now c.composed.new.workspace o composed _ _ some _ _ stop fails)
          c.put_file.ensures.refused;
    }

pub returns-in_err-output-clause-refused : goal.returns-in_err-output-clause-refused
returns-in_err-output-clause-refused g c =
    let before = outside (g.F.Files.stored c.args.files.now) (g.F.Files.failures c.args.files.now) (g.W.Write.contents c.args.out.now) (g.W.ByteSink.calls c.args.out.now) in
    again (PutsNot c.args.wanted c.args.source.now c.args.workspace.now before before) c.from_residual.result c.in_err-output.field-0.0 c.from_residual.ensures.1 (inl (c.in_err-output.ensures.refused, refl))
