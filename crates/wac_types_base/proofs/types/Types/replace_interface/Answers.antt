use Rattle.std.proofs.Common.{◌<◌, length, sym, subst}
use Rattle.wac_types_base.specs.declared.item.ItemKind.{ItemKind}
use Rattle.wac_types_base.specs.Collection.{HasChildren, Stands, interface_entry}
use Rattle.wac_types_base.specs.Reaching.{LeadsBack}
use Rattle.wac_types_base.proofs.Standing.{interface_found}
use Rattle.wac_types_base.proofs.Replacing.{interface_acyclic, interface_keeps, interface_stand}
use Rattle.wac_types_base.proofs.types.Types.replace_interface.Goals as goal

pub put-requires : goal.put-requires
put-requires c = subst (λ v. c.args.id.index < length v.interfaces) (sym c.self.view_is) (interface_found c.args.self.now c.args.id c.requires.stands).within

pub invariant_of-self-2 : goal.invariant_of-self-2
invariant_of-self-2 c =
    let stood = subst (λ v. Stands v (ItemKind.Instance c.args.id)) (sym c.self.view_is) c.requires.stands in
    let f = interface_found _ c.args.id stood in
    rw c.in_ok-put.ensures.given
    (interface_acyclic _ _ c.args.id f.own f.within c.args.interface stood c.self.invariant
    (subst (λ v. HasChildren v (interface_entry c.args.interface)) (sym c.self.view_is) c.requires.children)
    (λ l. absurd (cc (c.if-leads_back.ensures.1 (subst (λ v. LeadsBack v (ItemKind.Instance c.args.id) (interface_entry c.args.interface)) c.self.view_is l)))))

pub returns-clause-keeps : goal.returns-clause-keeps
returns-clause-keeps c =
    let stood = subst (λ v. Stands v (ItemKind.Instance c.args.id)) (sym c.self.view_is) c.requires.stands in
    let f = interface_found _ c.args.id stood in
    rw (c.in_ok-put.ensures.given, ← c.self.view_is)
    (interface_keeps _ _ c.args.id f.own f.within c.args.interface stood c.self.invariant
    (subst (λ v. HasChildren v (interface_entry c.args.interface)) (sym c.self.view_is) c.requires.children)
    (λ l. absurd (cc (c.if-leads_back.ensures.1 (subst (λ v. LeadsBack v (ItemKind.Instance c.args.id) (interface_entry c.args.interface)) c.self.view_is l)))))

pub returns-clause-stand : goal.returns-clause-stand
returns-clause-stand c =
    let stood = subst (λ v. Stands v (ItemKind.Instance c.args.id)) (sym c.self.view_is) c.requires.stands in
    let f = interface_found _ c.args.id stood in
    rw (c.in_ok-put.ensures.given, ← c.self.view_is)
    (interface_stand _ _ c.args.id f.own f.within c.args.interface stood c.self.invariant
    (subst (λ v. HasChildren v (interface_entry c.args.interface)) (sym c.self.view_is) c.requires.children)
    (λ l. absurd (cc (c.if-leads_back.ensures.1 (subst (λ v. LeadsBack v (ItemKind.Instance c.args.id) (interface_entry c.args.interface)) c.self.view_is l)))))
