use Rattle.std.proofs.Common.{◌<◌, length, sym, subst}
use Rattle.wac_types_base.specs.declared.item.ItemKind.{ItemKind}
use Rattle.wac_types_base.specs.Collection.{HasChildren, Stands, world_entry}
use Rattle.wac_types_base.specs.Reaching.{LeadsBack}
use Rattle.wac_types_base.proofs.Standing.{world_found}
use Rattle.wac_types_base.proofs.Replacing.{world_acyclic, world_keeps, world_stand}
use Rattle.wac_types_base.proofs.types.Types.replace_world.Goals as goal

pub put-requires : goal.put-requires
put-requires c = subst (λ v. c.args.id.index < length v.worlds) (sym c.self.view_is) (world_found c.args.self.now c.args.id c.requires.stands).within

pub invariant_of-self-2 : goal.invariant_of-self-2
invariant_of-self-2 c =
    let stood = subst (λ v. Stands v (ItemKind.Component c.args.id)) (sym c.self.view_is) c.requires.stands in
    let f = world_found _ c.args.id stood in
    rw c.in_ok-put.ensures.given
    (world_acyclic _ _ c.args.id f.own f.within c.args.world stood c.self.invariant
    (subst (λ v. HasChildren v (world_entry c.args.world)) (sym c.self.view_is) c.requires.children)
    (λ l. absurd (cc (c.if-leads_back.ensures.1 (subst (λ v. LeadsBack v (ItemKind.Component c.args.id) (world_entry c.args.world)) c.self.view_is l)))))

pub returns-clause-keeps : goal.returns-clause-keeps
returns-clause-keeps c =
    let stood = subst (λ v. Stands v (ItemKind.Component c.args.id)) (sym c.self.view_is) c.requires.stands in
    let f = world_found _ c.args.id stood in
    rw (c.in_ok-put.ensures.given, ← c.self.view_is)
    (world_keeps _ _ c.args.id f.own f.within c.args.world stood c.self.invariant
    (subst (λ v. HasChildren v (world_entry c.args.world)) (sym c.self.view_is) c.requires.children)
    (λ l. absurd (cc (c.if-leads_back.ensures.1 (subst (λ v. LeadsBack v (ItemKind.Component c.args.id) (world_entry c.args.world)) c.self.view_is l)))))

pub returns-clause-stand : goal.returns-clause-stand
returns-clause-stand c =
    let stood = subst (λ v. Stands v (ItemKind.Component c.args.id)) (sym c.self.view_is) c.requires.stands in
    let f = world_found _ c.args.id stood in
    rw (c.in_ok-put.ensures.given, ← c.self.view_is)
    (world_stand _ _ c.args.id f.own f.within c.args.world stood c.self.invariant
    (subst (λ v. HasChildren v (world_entry c.args.world)) (sym c.self.view_is) c.requires.children)
    (λ l. absurd (cc (c.if-leads_back.ensures.1 (subst (λ v. LeadsBack v (ItemKind.Component c.args.id) (world_entry c.args.world)) c.self.view_is l)))))
