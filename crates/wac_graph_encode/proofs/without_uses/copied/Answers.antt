use Rattle.std.proofs.Common.{◌∙◌, ap, subst, sym}
use Rattle.wac_types_base.specs.Collection.{Stands}
use Rattle.wac_types_base.specs.Stated.{stated_in, stated_of}
use Rattle.wac_graph_encode.proofs.Exported.{not_other}
use Rattle.wac_graph_encode.proofs.without_uses.copied.Goals as goal

pub returns-clause-same : goal.returns-clause-same
returns-clause-same c =
    let to = c.copy_item.new.to in
    let copy = c.in_ok-copy.ensures.copied in
    record { stands = subst (Stands to) c.in-Component.is copy.stands; states = ap (stated_of to) (sym c.in-Component.is) ∙ ap stated_in copy.same }

pub unreachable-requires : goal.unreachable-requires
unreachable-requires c =
    not_other c.args.types.now c.copy_item.new.to c.in_ok-copy.ensures.grows.acyclic c.args.item c.in_ok-copy.copy c.requires.world c.in_ok-copy.ensures.copied c.in_default.not-Component
