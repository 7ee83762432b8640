use Rattle.std.proofs.Common.{subst, sym}
use Rattle.wac_types_base.specs.Entries.{Name}
use Rattle.wac_types_base.specs.Stated.{desc, stated_of}
use Rattle.wac_parser_tree.specs.Trees.{Span}
use Rattle.wac_parser_refusals.specs.Causes.{NotWorld}
use Rattle.wac_parser_refusals.specs.Outcomes.{Refuses}
use Rattle.wac_parser_declare.specs.Scope.{path_text}
use Rattle.wac_parser_declare.proofs.PathSteps.{no_world, world_found}
use Rattle.wac_parser_declare.proofs.paths.as_world.Goals as goal

pub returns-in-Some-clause-outcome : goal.returns-in-Some-clause-outcome
returns-in-Some-clause-outcome c p text span =
    world_found c.args.types.now c.see_acyclic.ensures p c.args.kind c.world_of.result c.in-Some.id c.in-Some.is c.world_of.ensures.some c.requires

pub returns-in-None-clause-outcome : goal.returns-in-None-clause-outcome
returns-in-None-clause-outcome c p text span =
    let e = c.not_world.result in
    let i = c.args.path.now in
    no_world c.args.types.now c.see_acyclic.ensures p c.args.kind c.requires (c.world_of.ensures.none c.in-None.is) e
    (subst (λ (s : Span). Refuses e (NotWorld (path_text p) (desc (stated_of c.args.types.now c.args.kind))) s) (sym span)
    (subst (λ (w : Name). Refuses e (NotWorld w (desc (stated_of c.args.types.now c.args.kind))) i.span) (sym text)
    (subst (λ (w : Name). Refuses e (NotWorld i.string.now w) i.span) c.desc.ensures c.not_world.ensures)))
