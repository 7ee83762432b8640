use Rattle.std.specs.Prelude.{string_bytes}
use Rattle.std.proofs.lemmas.Result.{on_ok_weaker}
use Rattle.wac.proofs.Adding.{component_added}
use Rattle.wac.proofs.Refusing.{component_lacks, err_stops}
use Rattle.wac.proofs.components.add_component.Goals as goal

pub returns : goal.returns
returns g c =
    let text = string_bytes c.in_ok-source.source in
    let shown = c.as_str.result.now in
    record {
      added = on_ok_weaker c.add_with_text.result
          (component_added _ c.args.component c.in_ok-bytes.bytes text shown c.args.workspace.now c.add_with_text.new.workspace c.in_ok-bytes.ensures.bytes c.in_ok-source.ensures.text c.as_str.ensures.value)
          c.add_with_text.ensures.added;
      refused = err_stops c.add_with_text.result
          (component_lacks _ c.args.component c.in_ok-bytes.bytes text shown c.args.workspace.now c.in_ok-bytes.ensures.bytes c.in_ok-source.ensures.text c.as_str.ensures.value)
          c.add_with_text.ensures.refused;
    }
