use Rattle.std.proofs.Common.{[], ◌∷◌, Some, option_map, ap, subst, ◌∙◌}
use Rattle.wac_types_base.specs.declared.item.ItemKind.{ItemKind}
use Rattle.wac_types_base.specs.declared.item.«Type».{«Type» as TypeKind}
use Rattle.wac_types_base.specs.Record.{Collection}
use Rattle.wac_types_base.specs.Collection as s
use Rattle.wac_types_base.specs.Collection.{SlotStands}
use Rattle.wac_types_base.specs.Entries.{Name}
use Rattle.wac_parser_declare.specs.Aliases.{IsOwner}
use Rattle.wac_parser_declare.proofs.Aliasing.{resource_alias_held}
use Rattle.wac_parser_declare.proofs.aliases.resource_alias.Goals as goal

pub returns-clause-outcome : goal.returns-clause-outcome
returns-clause-outcome g c =
    let owner = c.owner_of-owner.result in
    let source = ItemKind.Ty (TypeKind.Resource c.args.source) in
    resource_alias_held (g.T.GrowingTypes.collection c.args.types.now) (g.T.GrowingTypes.collection c.add_resource.new.self) c.in_ok-id.ensures.grows c.args.name.now c.args.source c.in_ok-id.id owner c.requires
    (subst (λ (x : Collection). SlotStands x (option_map ItemKind.Instance owner)) c.types-2.ensures c.owner_of-owner.ensures.stands)
    (subst (λ (x : Collection). IsOwner x c.args.source owner) c.types-2.ensures c.owner_of-owner.ensures.owner)
    (c.in_ok-id.ensures.node ∙ ap (λ (n : Name). Some (s.resource_alias n, Some source ∷ option_map ItemKind.Instance owner ∷ [])) (c.new.ensures ∙ c.in_ok-name.ensures.ok))
