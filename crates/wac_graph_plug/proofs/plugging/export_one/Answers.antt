use Rattle.std.proofs.Common.{rules, ◌≡◌, sym, subst}
use Rattle.wac_graph_core.specs.Steps.{Aliases}
use Rattle.wac_graph_core.specs.Exporting.{ExportRefused}
use Rattle.wac_graph_plug.proofs.Growing.{Grown-same, Grown-trans, Grown-alias, Grown-export}
use Rattle.wac_graph_core.proofs.Made.{alias_there}
use Rattle.wac_graph_plug.proofs.plugging.export_one.Goals as goal

pub returns-in_err-node-clause-grown : goal.returns-in_err-node-clause-grown
returns-in_err-node-clause-grown c = Grown-same c.args.graph.now c.alias.new.graph c.in_err-node.ensures.kept

pub export-requires : goal.export-requires
export-requires c = alias_there c.args.graph.now c.alias.new.graph c.args.socket c.args.name.now c.in_ok-node.node c.see_sound.ensures c.in_ok-node.ensures.aliased

pub returns-in-Ok-clause-exported : goal.returns-in-Ok-clause-exported
returns-in-Ok-clause-exported c = record { alias = c.in_ok-node.node; middle = c.alias.new.graph; aliased = c.in_ok-node.ensures.aliased; exported = c.in-Ok.ensures.exported }

pub returns-in-Ok-clause-grown : goal.returns-in-Ok-clause-grown
returns-in-Ok-clause-grown c =
    Grown-trans c.args.graph.now c.alias.new.graph c.export.new.self (Grown-alias c.args.graph.now c.alias.new.graph c.args.socket c.args.name.now c.in_ok-node.node c.in_ok-node.ensures.aliased)
    (Grown-export c.alias.new.graph c.export.new.self c.in_ok-node.node c.args.name.now c.in-Ok.ensures.exported)

pub returns-in-Memory-clause-grown : goal.returns-in-Memory-clause-grown
returns-in-Memory-clause-grown c =
    Grown-trans c.args.graph.now c.alias.new.graph c.export.new.self (Grown-alias c.args.graph.now c.alias.new.graph c.args.socket c.args.name.now c.in_ok-node.node c.in_ok-node.ensures.aliased)
    (Grown-same c.alias.new.graph c.export.new.self c.in-Err.ensures.kept)

pub returns-in_default : goal.returns-in_default
returns-in_default c =
    let kept : c.export.new.self ≡ c.alias.new.graph = c.in-Err.ensures.kept in
    record {
      exported = tt;
      stopped = (
        search rules,
        c.in_ok-node.node,
        subst (λ h. Aliases c.args.graph.now h c.args.socket c.args.name.now c.in_ok-node.node) (sym kept) c.in_ok-node.ensures.aliased,
        subst (λ h. ExportRefused h c.args.name.now c.in-Err.fault) (sym kept) c.in-Err.ensures.refused,
      );
      grown =
          Grown-trans c.args.graph.now c.alias.new.graph c.export.new.self (Grown-alias c.args.graph.now c.alias.new.graph c.args.socket c.args.name.now c.in_ok-node.node c.in_ok-node.ensures.aliased)
          (Grown-same c.alias.new.graph c.export.new.self kept);
    }
