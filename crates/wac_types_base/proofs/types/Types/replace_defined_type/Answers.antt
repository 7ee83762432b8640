use Rattle.std.proofs.Common.{◌<◌, length, sym, subst}
use Rattle.wac_types_base.specs.declared.item.ItemKind.{ItemKind}
use Rattle.wac_types_base.specs.declared.item.ValueType.{ValueType}
use Rattle.wac_types_base.specs.Collection.{HasChildren, Stands, defined_entry}
use Rattle.wac_types_base.specs.Reaching.{LeadsBack}
use Rattle.wac_types_base.proofs.Standing.{defined_found}
use Rattle.wac_types_base.proofs.Replacing.{defined_acyclic, defined_keeps, defined_stand}
use Rattle.wac_types_base.proofs.types.Types.replace_defined_type.Goals as goal

pub put-requires : goal.put-requires
put-requires c = subst (λ v. c.args.id.index < length v.defined_types) (sym c.self.view_is) (defined_found c.args.self.now c.args.id c.requires.stands).within

pub invariant_of-self-2 : goal.invariant_of-self-2
invariant_of-self-2 c =
    let stood = subst (λ v. Stands v (ItemKind.Value (ValueType.Defined c.args.id))) (sym c.self.view_is) c.requires.stands in
    let f = defined_found _ c.args.id stood in
    rw c.in_ok-put.ensures.given
    (defined_acyclic _ _ c.args.id f.own f.within c.args.ty stood c.self.invariant
    (subst (λ v. HasChildren v (defined_entry c.args.ty)) (sym c.self.view_is) c.requires.children)
    (λ l. absurd (cc (c.if-leads_back.ensures.1 (subst (λ v. LeadsBack v (ItemKind.Value (ValueType.Defined c.args.id)) (defined_entry c.args.ty)) c.self.view_is l)))))

pub returns-clause-keeps : goal.returns-clause-keeps
returns-clause-keeps c =
    let stood = subst (λ v. Stands v (ItemKind.Value (ValueType.Defined c.args.id))) (sym c.self.view_is) c.requires.stands in
    let f = defined_found _ c.args.id stood in
    rw (c.in_ok-put.ensures.given, ← c.self.view_is)
    (defined_keeps _ _ c.args.id f.own f.within c.args.ty stood c.self.invariant
    (subst (λ v. HasChildren v (defined_entry c.args.ty)) (sym c.self.view_is) c.requires.children)
    (λ l. absurd (cc (c.if-leads_back.ensures.1 (subst (λ v. LeadsBack v (ItemKind.Value (ValueType.Defined c.args.id)) (defined_entry c.args.ty)) c.self.view_is l)))))

pub returns-clause-stand : goal.returns-clause-stand
returns-clause-stand c =
    let stood = subst (λ v. Stands v (ItemKind.Value (ValueType.Defined c.args.id))) (sym c.self.view_is) c.requires.stands in
    let f = defined_found _ c.args.id stood in
    rw (c.in_ok-put.ensures.given, ← c.self.view_is)
    (defined_stand _ _ c.args.id f.own f.within c.args.ty stood c.self.invariant
    (subst (λ v. HasChildren v (defined_entry c.args.ty)) (sym c.self.view_is) c.requires.children)
    (λ l. absurd (cc (c.if-leads_back.ensures.1 (subst (λ v. LeadsBack v (ItemKind.Value (ValueType.Defined c.args.id)) (defined_entry c.args.ty)) c.self.view_is l)))))
