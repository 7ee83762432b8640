use Rattle.std.proofs.Common.{◌∷◌, refl}
use Rattle.wac_types_parts.specs.Parts.{exports_of}
use Rattle.wac_graph_scopes.proofs.WritingLaws.{value_here}
use Rattle.wac_graph_scopes.proofs.ImportLaws.{instance_source}
use Rattle.wac_graph_scopes.proofs.worlds.alias_type_at.Goals as goal

pub alias_type-requires : goal.alias_type-requires
alias_type-requires c = c.in-Some.ensures.inside.0

pub returns-in-Some : goal.returns-in-Some
returns-in-Some c w outer i imported exported h at =
    let types = c.args.all.types.now in
    let own = c.in-Some.own in
    let there = value_here (exports_of types c.args.id) c.args.at own.name.now own.kind c.requires c.in-Some.ensures.entry in
    c.alias_type.ensures w outer i imported exported h (instance_source types c.see_acyclic.ensures c.args.id w (i.here ∷ outer) own.name.now own.kind c.args.instance (own.kind, there, refl) at)
