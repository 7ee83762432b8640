use Rattle.std.proofs.Common.{rules, ◌≡◌, sym, subst}
use Rattle.wac_graph_core.specs.Steps.{Aliases, SetsArgument}
use Rattle.wac_graph_core.specs.Refusals.{ArgumentRefused}
use Rattle.wac_graph_plug.proofs.Growing.{Grown-same, Grown-trans, Grown-alias, Grown-set, ContainsNode-grown}
use Rattle.wac_graph_core.proofs.Made.{alias_there}
use Rattle.wac_graph_plug.proofs.plugging.pass.Goals as goal

pub returns-in_err-argument-clause-grown : goal.returns-in_err-argument-clause-grown
returns-in_err-argument-clause-grown c = Grown-same c.args.graph.now c.alias.new.graph c.in_err-argument.ensures.kept

pub set_instantiation_argument-requires-clause-instantiation : goal.set_instantiation_argument-requires-clause-instantiation
set_instantiation_argument-requires-clause-instantiation c =
    ContainsNode-grown c.args.graph.now c.alias.new.graph (Grown-alias c.args.graph.now c.alias.new.graph c.args.plug c.as_str.result.now c.in_ok-argument.argument c.in_ok-argument.ensures.aliased) c.args.socket c.requires.socket

pub set_instantiation_argument-requires-clause-argument : goal.set_instantiation_argument-requires-clause-argument
set_instantiation_argument-requires-clause-argument c =
    alias_there c.args.graph.now c.alias.new.graph c.args.plug c.as_str.result.now c.in_ok-argument.argument c.see_sound.ensures c.in_ok-argument.ensures.aliased

pub returns-in-Ok-clause-passed : goal.returns-in-Ok-clause-passed
returns-in-Ok-clause-passed c =
    record {
      alias = c.in_ok-argument.argument;
      middle = c.alias.new.graph;
      aliased = subst (λ n. Aliases c.args.graph.now c.alias.new.graph c.args.plug n c.in_ok-argument.argument) c.as_str.ensures c.in_ok-argument.ensures.aliased;
      set = subst (λ n. SetsArgument c.alias.new.graph c.set_instantiation_argument.new.self c.args.socket n c.in_ok-argument.argument) c.as_str-2.ensures c.in-Ok.ensures.set;
    }

pub returns-in-Ok-clause-grown : goal.returns-in-Ok-clause-grown
returns-in-Ok-clause-grown c =
    Grown-trans c.args.graph.now c.alias.new.graph c.set_instantiation_argument.new.self (Grown-alias c.args.graph.now c.alias.new.graph c.args.plug c.as_str.result.now c.in_ok-argument.argument c.in_ok-argument.ensures.aliased)
    (Grown-set c.alias.new.graph c.set_instantiation_argument.new.self c.args.socket c.as_str-2.result.now c.in_ok-argument.argument c.in-Ok.ensures.set)

pub returns-in-Memory-clause-grown : goal.returns-in-Memory-clause-grown
returns-in-Memory-clause-grown c =
    Grown-trans c.args.graph.now c.alias.new.graph c.set_instantiation_argument.new.self (Grown-alias c.args.graph.now c.alias.new.graph c.args.plug c.as_str.result.now c.in_ok-argument.argument c.in_ok-argument.ensures.aliased)
    (Grown-same c.alias.new.graph c.set_instantiation_argument.new.self c.in-Err.ensures.kept)

pub returns-in_default : goal.returns-in_default
returns-in_default c =
    let kept : c.set_instantiation_argument.new.self ≡ c.alias.new.graph = c.in-Err.ensures.kept in
    record {
      passed = tt;
      stopped = (
        search rules,
        c.in_ok-argument.argument,
        subst (λ h. Aliases c.args.graph.now h c.args.plug c.args.one.now.export c.in_ok-argument.argument) (sym kept)
            (subst (λ n. Aliases c.args.graph.now c.alias.new.graph c.args.plug n c.in_ok-argument.argument) c.as_str.ensures c.in_ok-argument.ensures.aliased),
        subst (λ h. ArgumentRefused h c.args.socket c.args.one.now.import c.in_ok-argument.argument c.in-Err.fault) (sym kept)
            (subst (λ n. ArgumentRefused c.alias.new.graph c.args.socket n c.in_ok-argument.argument c.in-Err.fault) c.as_str-2.ensures c.in-Err.ensures.refused),
      );
      grown =
          Grown-trans c.args.graph.now c.alias.new.graph c.set_instantiation_argument.new.self (Grown-alias c.args.graph.now c.alias.new.graph c.args.plug c.as_str.result.now c.in_ok-argument.argument c.in_ok-argument.ensures.aliased)
          (Grown-same c.alias.new.graph c.set_instantiation_argument.new.self kept);
    }
