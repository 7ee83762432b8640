use Rattle.wac_parser_declare.proofs.Aliasing.{owner_none, owner_some}
use Rattle.wac_parser_declare.proofs.Standing.{owner_stands}
use Rattle.wac_parser_declare.proofs.aliases.owner_of.Goals as goal

pub returns-in-Some-clause-owner : goal.returns-in-Some-clause-owner
returns-in-Some-clause-owner c =
    owner_some c.args.types.now c.resource.ensures.acyclic c.args.source c.resource.result.now c.resource.ensures.entry c.resource.ensures.own c.in-Some.alias c.in-Some.is

pub returns-in-Some-clause-stands : goal.returns-in-Some-clause-stands
returns-in-Some-clause-stands c =
    owner_stands c.args.types.now c.resource.ensures.acyclic c.args.source c.resource.result.now c.in-Some.alias c.resource.ensures.entry c.resource.ensures.own c.in-Some.is

pub returns-in-None-clause-owner : goal.returns-in-None-clause-owner
returns-in-None-clause-owner c =
    owner_none c.args.types.now c.resource.ensures.acyclic c.args.source c.resource.result.now c.resource.ensures.entry c.resource.ensures.own c.in-None.is
