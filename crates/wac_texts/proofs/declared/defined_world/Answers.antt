use Rattle.std.proofs.Common.{◌≡◌, sym, ap, ◌∙◌, subst}
use Rattle.wac_types_base.specs.declared.item.ItemKind.{ItemKind}
use Rattle.wac_types_base.specs.declared.item.«Type».{«Type» as TypeKind}
use Rattle.wac_types_base.specs.Collection.{Stands}
use Rattle.wac_types_base.proofs.Slots.{stands_typed_world}
use Rattle.wac_texts.proofs.declared.defined_world.Goals as goal

pub returns-in-World-clause-some : goal.returns-in-World-clause-some
returns-in-World-clause-some c =
    let item : c.index.result.now.item_kind ≡ ItemKind.Ty (TypeKind.World c.in-World.id) = c.in_ok-id.ensures.some.1 ∙ ap ItemKind.Ty c.in-World.is in
    let there = c.index.ensures in
    record {
      node = c.in_ok-node.node;
      exported = sym c.in_ok-node.ensures;
      found = c.index.result.now;
      there = there;
      defined = c.in_ok-id.ensures.some.0;
      item = item;
      stands = stands_typed_world c.args.graph.now.types c.in-World.id (subst (Stands c.args.graph.now.types) item (c.see_sound.ensures.nodes c.in_ok-node.node c.index.result.now there).item);
    }
