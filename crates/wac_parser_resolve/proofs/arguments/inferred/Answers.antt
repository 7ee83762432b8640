use Rattle.std.proofs.Common.{◌≡◌, List, Some, ap, refl, subst, sym, ◌∙◌}
use Rattle.std.specs.Prelude.{slice_get}
use Rattle.wac_types_base.specs.Record.{Collection}
use Rattle.wac_types_base.specs.Collection.{IsAcyclic}
use Rattle.wac_types_base.specs.Entries.{Name}
use Rattle.wac_parser_tree.specs.Views.{view_ident}
use Rattle.wac_parser_resolve.specs.Ascribing.{denoted_by}
use Rattle.wac_parser_resolve.specs.Denoting.{inferred_name}
use Rattle.wac_parser_resolve.specs.InArguments.{imported_by}
use Rattle.wac_parser_resolve.proofs.Inferring.{import_names, inferred_held}
use Rattle.wac_parser_resolve.proofs.arguments.inferred.Goals as goal

pub returns-clause-outcome : goal.returns-clause-outcome
returns-clause-outcome c ms s all =
    let g = c.args.graph.now in
    let same = import_names g.types (subst IsAcyclic c.types.ensures c.world.ensures.acyclic) c.args.world c.world.result.now
    (subst (λ (x : Collection). slice_get x.worlds c.args.world.index ≡ Some c.world.result.now) c.types.ensures c.world.ensures.entry)
    (subst (λ (x : Collection). c.args.world.collection ≡ x.number) c.types.ensures c.world.ensures.own) in
    inferred_held g ms (denoted_by s (view_ident c.args.id.now)) c.in_ok-node.node _ (imported_by g.types c.args.world) (view_ident c.args.id.now) (c.in_ok-node.ensures.outcome ms s all) refl refl
    (λ d dn. c.in_ok-from_str.ensures.ok ∙ c.inferred_name-name.ensures ms d (view_ident c.args.id.now) dn refl ∙ ap (λ (ns : List Name). inferred_name ns (view_ident c.args.id.now) d) (sym same))
