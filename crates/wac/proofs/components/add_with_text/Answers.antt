use Rattle.std.proofs.Common.{[], Option, ap, string_bytes, subst, ◌∙◌}
use Rattle.std.proofs.lemmas.Result.{on_ok_weaker}
use Rattle.wac_types_base.specs.Stated.{Stated}
use Rattle.wac_parser_refusals.specs.Outcomes.{IsHeld}
use Rattle.wac_parser_resolve.specs.Ascribing.{State}
use Rattle.wac_parser_resolve.specs.InDocuments.{HoldsAll}
use Rattle.wac_parser_resolve.specs.Knowing.{handed_entries}
use Rattle.wac_parser_resolve.specs.Meeting.{resolved}
use Rattle.wac_parser_resolve.specs.Resolved.{graph_of, places_of, target_of}
use Rattle.wac_workspace.proofs.Resolved.{graph_held}
use Rattle.wac_texts.specs.Declarations.{declared_in}
use Rattle.wac.specs.Adding.{AddsDefined, added_key}
use Rattle.wac.specs.Refusing.{IsTaken}
use Rattle.wac.proofs.Refusing.{err_stops, graph_lacks}
use Rattle.wac.proofs.components.add_with_text.Goals as goal

pub returns-in-Ok-resolve : goal.returns-in-Ok-resolve
returns-in-Ok-resolve g c =
    let t = c.in-Ok.document in
    let d = g.D.ResolveDocument.stated t in
    let r = c.in-Ok-resolve.resolution in
    let held = subst (λ ps. IsHeld (λ (s : State × Option Stated) b. HoldsAll s (graph_of b) (places_of b) (target_of b)) (resolved d ps) r) (ap handed_entries c.new-none.ensures.empty) c.in-Ok-resolve.ensures.outcome in
    let holds = graph_held graph_of places_of target_of (resolved d []) r c.graph.result.now c.graph.ensures held in
    let declares = c.declares-declares.ensures ∙ ap (declared_in (g.D.DeclareDocument.stated t)) c.as_str.ensures.value in
    record {
      added = on_ok_weaker c.add_with_graph.result
          (λ adds. record {
            tree = t;
            read = c.in-Ok.ensures;
            graph = c.graph.result.now;
            holds = holds;
            adds = subst (λ x. AddsDefined c.graph.result.now x c.args.added c.args.workspace.now c.add_with_graph.new.workspace) declares adds;
          }) c.add_with_graph.ensures.added;
      refused = err_stops c.add_with_graph.result
          (graph_lacks g.D.ParseDocument.view g.D.ParseDocument.rule g.D.ResolveDocument.stated g.D.DeclareDocument.stated c.args.source.now (string_bytes c.args.added.select) (IsTaken c.args.workspace.now (added_key c.args.added) c.args.added.bytes.items) t c.graph.result.now _ c.in-Ok.ensures holds declares)
          c.add_with_graph.ensures.refused;
    }
