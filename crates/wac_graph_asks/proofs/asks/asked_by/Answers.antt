use Rattle.std.proofs.Common.{refl, subst}
use Rattle.wac_types_base.specs.Collection.{IsAcyclic}
use Rattle.wac_types_base.proofs.Adding.{Grows-refl}
use Rattle.wac_graph_asks.proofs.Finishing.{held_empty, copies_stand, is_asked}
use Rattle.wac_graph_asks.proofs.asks.asked_by.Goals as goal

pub ask_named-requires : goal.ask_named-requires
ask_named-requires c = held_empty c.args.graph.now c.new-asked.result c.see_acyclic-2.ensures c.new-asked.ensures.asks c.new-asked.ensures.packages c.new-asked.ensures.definitions

pub uses_asked-requires : goal.uses_asked-requires
uses_asked-requires c =
    let held = c.in_ok-ask_named.ensures.held in
    record {
      items = held.items;
      copies = copies_stand c.args.graph.now.types c.ask_named.new.asked.types (subst IsAcyclic c.types.ensures c.see_acyclic.ensures) c.ask_named.new.asked.definitions.items held.copies;
    }

pub returns : goal.returns
returns c =
    is_asked c.args.graph.now (subst IsAcyclic c.types.ensures c.see_acyclic.ensures) c.new-asked.result c.ask_named.new.asked (record c.ask_named.new.asked { asks = c.add_asks.new.all }) c.new-asked.ensures.asks c.new-asked.ensures.packages c.new-asked.ensures.definitions
    c.in_ok-ask_named.ensures c.in_ok-uses.uses.items c.in_ok-uses.ensures refl (Grows-refl c.ask_named.new.asked.types c.in_ok-ask_named.ensures.held.acyclic) c.in_ok-add_asks.ensures refl refl
