use Rattle.std.proofs.Common.{List, ℕ, ◌∙◌, subst}
use Rattle.std.proofs.lemmas.Result.{err_from_is_err_and, on_ok_weaker}
use Rattle.std.specs.Str.{IsUtf8}
use Rattle.std.specs.Io.KnownBytes.{Appends}
use Rattle.wac_workspace.specs.Composing.{ComposesSource, IsRefused}
use Rattle.wac_streams.specs.Calls.{AppendsPrefix}
use Rattle.wac_workspace.specs.Streaming.{IsText}
use Rattle.wac_streams.proofs.CallLaws.{Appends-none, NoneFailed-none}
use Rattle.wac_workspace.proofs.StreamLaws.{none_written, write_stopped}
use Rattle.wac_workspace.proofs.stream.compose_stream.Goals as goal

pub returns-in_default-clause-all_written : goal.returns-in_default-clause-all_written
returns-in_default-clause-all_written g c = λ _. NoneFailed-none _

pub returns-in_err-output-clause-stopped : goal.returns-in_err-output-clause-stopped
returns-in_err-output-clause-stopped g c =
    let p = err_from_is_err_and c.from_residual-in_err-output.result c.from_residual-in_err-output.ensures.1 in
    let text : IsText (g.R.Read.remaining c.args.reader.now) (g.R.Read.remaining c.read_source.new.reader) c.in_ok-source.source.items = record {
      whole = record { taken = c.in_ok-source.ensures.whole; bound = c.in_ok-source.ensures.bound };
      utf8 = subst (λ (t : List ℕ). IsUtf8 t) c.deref.ensures.value c.in-Ok.ensures.cases.1;
    } in
    let refused = subst (λ (t : List ℕ). IsRefused c.args.workspace.now t c.args.options c.in_err-output.field-0.0) (c.in-Ok.ensures.cases.0 ∙ c.deref.ensures.value) c.in_err-output.ensures.refused in
    rw (p.1, p.2) (c.in_err-output.ensures.kept, (c.in_ok-source.source.items, text, refused), Appends-none _)

pub returns-clause-composed : goal.returns-clause-composed
returns-clause-composed g c =
    let text : IsText (g.R.Read.remaining c.args.reader.now) (g.R.Read.remaining c.read_source.new.reader) c.in_ok-source.source.items = record {
      whole = record { taken = c.in_ok-source.ensures.whole; bound = c.in_ok-source.ensures.bound };
      utf8 = subst (λ (t : List ℕ). IsUtf8 t) c.deref.ensures.value c.in-Ok.ensures.cases.1;
    } in
    let composed = subst (λ (t : List ℕ). ComposesSource c.args.workspace.now c.compose.new.self t c.args.options c.in_ok-output.output) (c.in-Ok.ensures.cases.0 ∙ c.deref.ensures.value) c.in_ok-output.ensures.composed in
    on_ok_weaker c.write_component.result (λ wrote. record {
      source = c.in_ok-source.source.items;
      output = c.in_ok-output.output;
      text = text;
      composed = composed;
      wrote = subst (λ (bs : List ℕ). Appends (g.W.Write.contents c.args.writer.now) (g.W.Write.contents c.write_component.new.writer) bs) c.deref-2.ensures.value wrote;
    }) c.write_component.ensures.whole

pub returns-clause-stopped : goal.returns-clause-stopped
returns-clause-stopped g c =
    let text : IsText (g.R.Read.remaining c.args.reader.now) (g.R.Read.remaining c.read_source.new.reader) c.in_ok-source.source.items = record {
      whole = record { taken = c.in_ok-source.ensures.whole; bound = c.in_ok-source.ensures.bound };
      utf8 = subst (λ (t : List ℕ). IsUtf8 t) c.deref.ensures.value c.in-Ok.ensures.cases.1;
    } in
    let composed = subst (λ (t : List ℕ). ComposesSource c.args.workspace.now c.compose.new.self t c.args.options c.in_ok-output.output) (c.in-Ok.ensures.cases.0 ∙ c.deref.ensures.value) c.in_ok-output.ensures.composed in
    write_stopped _ _ c.args.options _ c.in_ok-source.source.items c.in_ok-output.output c.write_component.result text composed
    (λ (front : AppendsPrefix (g.W.Write.contents c.args.writer.now) (g.W.Write.contents c.write_component.new.writer) c.deref-2.result.now). subst (λ (bs : List ℕ). AppendsPrefix (g.W.Write.contents c.args.writer.now) (g.W.Write.contents c.write_component.new.writer) bs) c.deref-2.ensures.value front)
    c.write_component.ensures.only c.write_component.ensures.prefix

pub returns-clause-all_written : goal.returns-clause-all_written
returns-clause-all_written g c = none_written c.write_component.result c.write_component.ensures.none_failed c.write_component.ensures.only
