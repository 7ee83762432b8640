use Rattle.std.proofs.Common.{◌++◌, ◌∷◌, [], ◌∙◌, ap, subst, sym}
use Rattle.std.specs.Prelude.{string_bytes}
use Rattle.wac_types_base.specs.Entries.{IsNew}
use Rattle.wac_types_written.specs.Forms.{ItemsStand, UsesStand}
use Rattle.wac_types_written.proofs.Forming.{one_stands, wrapped_formed}
use Rattle.wac_types_written.proofs.items.wrap.Goals as goal

pub push-requires : goal.push-requires
push-requires c = subst (IsNew (string_bytes c.into_string.result)) (sym c.new-exports.ensures) (λ m. m)

pub add_component_type-requires-clause-uses : goal.add_component_type-requires-clause-uses
add_component_type-requires-clause-uses c = subst (UsesStand c.args.types.now) (sym c.new.ensures) (λ u m. absurd m)

pub add_component_type-requires-clause-imports : goal.add_component_type-requires-clause-imports
add_component_type-requires-clause-imports c = subst (ItemsStand c.args.types.now) (sym c.new-2.ensures) (λ x m. absurd m)

pub add_component_type-requires-clause-exports : goal.add_component_type-requires-clause-exports
add_component_type-requires-clause-exports c = subst (ItemsStand c.args.types.now) (sym (c.in_ok-push.ensures.ok ∙ ap (λ l. l ++ (string_bytes c.into_string.result, c.args.item) ∷ []) c.new-exports.ensures)) (one_stands c.args.types.now (string_bytes c.into_string.result) c.args.item c.requires)

pub returns-clause-wrapped : goal.returns-clause-wrapped
returns-clause-wrapped c =
    wrapped_formed c.args.types.now c.add_component_type.new.types c.in_ok-world.ensures.grows.acyclic c.in_ok-world.world c.args.name (string_bytes c.into_string.result) c.args.item c.new.result c.new-2.result c.push.new.self
    c.new.ensures c.new-2.ensures (c.in_ok-push.ensures.ok ∙ ap (λ l. l ++ (string_bytes c.into_string.result, c.args.item) ∷ []) c.new-exports.ensures) c.into_string.ensures c.in_ok-world.ensures.world
