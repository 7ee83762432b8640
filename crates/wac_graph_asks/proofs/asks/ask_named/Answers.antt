use Rattle.std.proofs.Common.{refl}
use Rattle.std.proofs.lemmas.List.{append-nil}
use Rattle.std.proofs.lemmas.Result.{on_ok_weaker}
use Rattle.wac_composition.specs.Asks.{named_asks}
use Rattle.wac_graph_asks.specs.Graphs.{composition_of}
use Rattle.wac_graph_asks.specs.Asked.{package_ids}
use Rattle.wac_graph_asks.proofs.Asking.{adds_then, adds_as}
use Rattle.wac_graph_asks.proofs.asks.ask_named.Goals as goal

pub returns : goal.returns
returns c =
    let g = c.args.graph.now in
    on_ok_weaker c.ask_definitions.result
    (λ h. adds_as g c.args.asked.now c.ask_definitions.new.asked
    (adds_then g c.args.asked.now c.ask_instances.new.asked c.ask_definitions.new.asked (adds_then g c.args.asked.now c.ask_imports.new.asked c.ask_instances.new.asked c.in_ok-ask_imports.ensures c.in_ok-ask_instances.ensures) h)
    (append-nil (named_asks (composition_of g))) (append-nil (package_ids g)) refl)
    c.ask_definitions.ensures
