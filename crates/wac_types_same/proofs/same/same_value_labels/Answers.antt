use Rattle.std.proofs.Common.{ap, subst, ◌∙◌}
use Rattle.wac_types_base.specs.declared.item.ItemKind.{ItemKind}
use Rattle.wac_types_base.specs.Collection.{Stands, borrow_of, own_of, resource_entry, defined_entry}
use Rattle.wac_types_base.proofs.Slots.{stands_borrow, stands_own}
use Rattle.wac_types_same.specs.Same.{label_of}
use Rattle.wac_types_same.proofs.EqualLabels.{through, through_same, one_borrow, one_own, borrow_label, own_label, defined_label, primitives_decided, value_sort, of_primitive, of_borrow, of_own, of_defined, not_primitive, not_borrow, not_own, not_defined, value_other}
use Rattle.wac_types_same.proofs.same.same_value_labels.Goals as goal

pub resource-requires : goal.resource-requires
resource-requires c = stands_borrow c.args.types.now c.in-Borrow.r (subst (λ v. Stands c.args.types.now (ItemKind.Value v)) c.in-Borrow.is c.requires.first)

pub resource-requires-in-Borrow-b : goal.resource-requires-in-Borrow-b
resource-requires-in-Borrow-b c = stands_borrow c.args.types.now c.in-Borrow-b.s (subst (λ v. Stands c.args.types.now (ItemKind.Value v)) c.in-Borrow-b.is c.requires.second)

pub resource-requires-in-Own-b : goal.resource-requires-in-Own-b
resource-requires-in-Own-b c = stands_own c.args.types.now c.in-Own.r (subst (λ v. Stands c.args.types.now (ItemKind.Value v)) c.in-Own.is c.requires.first)

pub resource-requires-in-Own-b-2 : goal.resource-requires-in-Own-b-2
resource-requires-in-Own-b-2 c = stands_own c.args.types.now c.in-Own-b.s (subst (λ v. Stands c.args.types.now (ItemKind.Value v)) c.in-Own-b.is c.requires.second)

pub returns-in-Primitive-b : goal.returns-in-Primitive-b
returns-in-Primitive-b c = primitives_decided c.args.types.now c.args.a c.args.b c.in-Primitive.field-0 c.in-Primitive-b.field-0 c.is_same.result c.in-Primitive.is c.in-Primitive-b.is c.is_same.ensures

pub returns-in-Borrow-b : goal.returns-in-Borrow-b
returns-in-Borrow-b c =
    through borrow_of one_borrow c.same_resources.result (resource_entry c.resource.result.now).0 (resource_entry c.resource-in-Borrow-b.result.now).0 _ _
    (ap (λ v. label_of c.args.types.now (ItemKind.Value v)) c.in-Borrow.is ∙ borrow_label c.args.types.now c.in-Borrow.r c.resource.result.now c.resource.ensures.entry c.resource.ensures.own)
    (ap (λ v. label_of c.args.types.now (ItemKind.Value v)) c.in-Borrow-b.is ∙ borrow_label c.args.types.now c.in-Borrow-b.s c.resource-in-Borrow-b.result.now c.resource-in-Borrow-b.ensures.entry c.resource-in-Borrow-b.ensures.own)
    c.same_resources.ensures

pub returns-in-Own-b : goal.returns-in-Own-b
returns-in-Own-b c =
    through own_of one_own c.same_resources-in-Own-b.result (resource_entry c.resource-in-Own-b.result.now).0 (resource_entry c.resource-in-Own-b-2.result.now).0 _ _
    (ap (λ v. label_of c.args.types.now (ItemKind.Value v)) c.in-Own.is ∙ own_label c.args.types.now c.in-Own.r c.resource-in-Own-b.result.now c.resource-in-Own-b.ensures.entry c.resource-in-Own-b.ensures.own)
    (ap (λ v. label_of c.args.types.now (ItemKind.Value v)) c.in-Own-b.is ∙ own_label c.args.types.now c.in-Own-b.s c.resource-in-Own-b-2.result.now c.resource-in-Own-b-2.ensures.entry c.resource-in-Own-b-2.ensures.own)
    c.same_resources-in-Own-b.ensures

pub returns-in-Defined-b : goal.returns-in-Defined-b
returns-in-Defined-b c =
    through_same c.same_defined.result (defined_entry c.defined_type.result.now).0 (defined_entry c.defined_type-in-Defined-b.result.now).0 _ _
    (ap (λ v. label_of c.args.types.now (ItemKind.Value v)) c.in-Defined.is ∙ defined_label c.args.types.now c.in-Defined.d c.defined_type.result.now c.defined_type.ensures.entry c.defined_type.ensures.own)
    (ap (λ v. label_of c.args.types.now (ItemKind.Value v)) c.in-Defined-b.is ∙ defined_label c.args.types.now c.in-Defined-b.e c.defined_type-in-Defined-b.result.now c.defined_type-in-Defined-b.ensures.entry c.defined_type-in-Defined-b.ensures.own)
    c.same_defined.ensures

pub returns-in_default : goal.returns-in_default
returns-in_default c = value_other c.args.types.now c.args.a c.args.b c.requires.first c.requires.second of_primitive (ap value_sort c.in-Primitive.is) (not_primitive c.args.b c.in_default.not-Primitive)

pub returns-in_default-b : goal.returns-in_default-b
returns-in_default-b c = value_other c.args.types.now c.args.a c.args.b c.requires.first c.requires.second of_borrow (ap value_sort c.in-Borrow.is) (not_borrow c.args.b c.in_default-b.not-Borrow)

pub returns-in_default-b-2 : goal.returns-in_default-b-2
returns-in_default-b-2 c = value_other c.args.types.now c.args.a c.args.b c.requires.first c.requires.second of_own (ap value_sort c.in-Own.is) (not_own c.args.b c.in_default-b-2.not-Own)

pub returns-in_default-b-3 : goal.returns-in_default-b-3
returns-in_default-b-3 c = value_other c.args.types.now c.args.a c.args.b c.requires.first c.requires.second of_defined (ap value_sort c.in-Defined.is) (not_defined c.args.b c.in_default-b-3.not-Defined)
