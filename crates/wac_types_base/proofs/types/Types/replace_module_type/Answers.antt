use Rattle.std.proofs.Common.{◌<◌, length, sym, subst}
use Rattle.wac_types_base.specs.declared.item.ItemKind.{ItemKind}
use Rattle.wac_types_base.specs.Collection.{HasChildren, Stands, module_entry}
use Rattle.wac_types_base.specs.Reaching.{LeadsBack}
use Rattle.wac_types_base.proofs.Standing.{module_found}
use Rattle.wac_types_base.proofs.Replacing.{module_acyclic, module_keeps, module_stand}
use Rattle.wac_types_base.proofs.types.Types.replace_module_type.Goals as goal

pub put-requires : goal.put-requires
put-requires c = subst (λ v. c.args.id.index < length v.modules) (sym c.self.view_is) (module_found c.args.self.now c.args.id c.requires.stands).within

pub invariant_of-self-2 : goal.invariant_of-self-2
invariant_of-self-2 c =
    let stood = subst (λ v. Stands v (ItemKind.Module c.args.id)) (sym c.self.view_is) c.requires.stands in
    let f = module_found _ c.args.id stood in
    rw c.in_ok-put.ensures.given
    (module_acyclic _ _ c.args.id f.own f.within c.args.ty stood c.self.invariant
    (subst (λ v. HasChildren v (module_entry c.args.ty)) (sym c.self.view_is) c.requires.children)
    (λ l. absurd (cc (c.if-leads_back.ensures.1 (subst (λ v. LeadsBack v (ItemKind.Module c.args.id) (module_entry c.args.ty)) c.self.view_is l)))))

pub returns-clause-keeps : goal.returns-clause-keeps
returns-clause-keeps c =
    let stood = subst (λ v. Stands v (ItemKind.Module c.args.id)) (sym c.self.view_is) c.requires.stands in
    let f = module_found _ c.args.id stood in
    rw (c.in_ok-put.ensures.given, ← c.self.view_is)
    (module_keeps _ _ c.args.id f.own f.within c.args.ty stood c.self.invariant
    (subst (λ v. HasChildren v (module_entry c.args.ty)) (sym c.self.view_is) c.requires.children)
    (λ l. absurd (cc (c.if-leads_back.ensures.1 (subst (λ v. LeadsBack v (ItemKind.Module c.args.id) (module_entry c.args.ty)) c.self.view_is l)))))

pub returns-clause-stand : goal.returns-clause-stand
returns-clause-stand c =
    let stood = subst (λ v. Stands v (ItemKind.Module c.args.id)) (sym c.self.view_is) c.requires.stands in
    let f = module_found _ c.args.id stood in
    rw (c.in_ok-put.ensures.given, ← c.self.view_is)
    (module_stand _ _ c.args.id f.own f.within c.args.ty stood c.self.invariant
    (subst (λ v. HasChildren v (module_entry c.args.ty)) (sym c.self.view_is) c.requires.children)
    (λ l. absurd (cc (c.if-leads_back.ensures.1 (subst (λ v. LeadsBack v (ItemKind.Module c.args.id) (module_entry c.args.ty)) c.self.view_is l)))))
