use Rattle.std.proofs.Common.{refl, sym, subst, ◌∙◌}
use Rattle.wac_types_base.specs.declared.item.ItemKind.{ItemKind}
use Rattle.wac_types_base.specs.Collection.{IsAcyclic}
use Rattle.wac_types_base.specs.Copying.{IsCopy}
use Rattle.indexmap.proofs.CallerLemmas.{insert_entry-new}
use Rattle.wac_graph_core.specs.contracts.ids.PackageIdPartialEq.TheImpl.{eq-value}
use Rattle.wac_graph_asks.proofs.NodeAsks.{world_copied, known_world, new_world}
use Rattle.wac_graph_asks.proofs.asks.Asked.copied_world.Goals as goal

pub returns-in-Some : goal.returns-in-Some
returns-in-Some c = known_world c.args.graph.now c.args.self.now c.requires c.args.id c.in-Some.world (sym c.get.ensures.value ∙ sym c.in-Some.ensures)

pub returns-in_ok-insert-in-Component : goal.returns-in_ok-insert-in-Component
returns-in_ok-insert-in-Component c =
    let none = sym c.get.ensures.value ∙ sym c.in_default.ensures in
    new_world c.args.graph.now c.args.self.now (record c.args.self.now { types = c.copy_item.new.to; packages = c.insert.new.self }) c.requires c.in_ok-world.ensures.grows c.args.id c.in-Some-world_at.world c.in-Component.world
    c.in-Some-world_at.ensures.world
    (subst (λ k. IsCopy c.args.graph.now.types c.copy_item.new.to (ItemKind.Component c.in-Some-world_at.world) k) c.in-Component.is
    (subst (λ t. IsCopy t c.copy_item.new.to (ItemKind.Component c.in-Some-world_at.world) c.in_ok-world.field-0) c.types-2.ensures c.in_ok-world.ensures.copied))
    none
    (c.in_ok-insert-in-Component.ensures.entries ∙ insert_entry-new eq-value.it c.args.self.now.packages c.args.id c.in-Component.world none) refl refl

pub returns-in_default-2 : goal.returns-in_default-2
returns-in_default-2 c =
    absurd (world_copied c.args.graph.now.types c.copy_item.new.to (subst IsAcyclic c.types.ensures c.see_acyclic.ensures) c.in_ok-world.ensures.grows.acyclic c.in-Some-world_at.world c.in_ok-world.field-0 c.in-Some-world_at.ensures.stands
    (subst (λ t. IsCopy t c.copy_item.new.to (ItemKind.Component c.in-Some-world_at.world) c.in_ok-world.field-0) c.types-2.ensures c.in_ok-world.ensures.copied)
    c.in_default-2.not-Component)
