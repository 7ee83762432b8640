use Rattle.std.proofs.Common.{◌∙◌, sym, ap, arith}
use Rattle.wac_types_base.specs.Stated.{value_desc}
use Rattle.wac_types_base.proofs.Telling.{primitive_desc, borrow_desc, own_desc, alias_desc, defined_desc, defined_stated, defined_size, defined_children}
use Rattle.wac_types_base.proofs.+desc.Goals as goal

pub item::ValueType::desc-desc-requires-in-Defined : goal.item::ValueType::desc-desc-requires-in-Defined
item::ValueType::desc-desc-requires-in-Defined t c =
    let size = defined_size c.args.types.now c.defined_type.ensures.acyclic c.args.self.now c.in-Defined.id c.defined_type.result.now c.in-Defined.is c.defined_type.ensures.entry c.defined_type.ensures.own in
    (omega (arith, size, c.requires.1.0), defined_children c.args.types.now c.defined_type.ensures.acyclic c.args.self.now c.in-Defined.id c.defined_type.result.now c.in-Defined.is c.defined_type.ensures.entry c.defined_type.ensures.own)

pub item::ValueType::desc-returns-in-Primitive : goal.item::ValueType::desc-returns-in-Primitive
item::ValueType::desc-returns-in-Primitive t c = c.desc.ensures ∙ sym (primitive_desc c.args.types.now c.see_acyclic.ensures c.args.self.now c.in-Primitive.ty c.in-Primitive.is)

pub item::ValueType::desc-returns-in-Borrow : goal.item::ValueType::desc-returns-in-Borrow
item::ValueType::desc-returns-in-Borrow t c = sym (borrow_desc c.args.types.now c.see_acyclic.ensures c.args.self.now c.in-Borrow.field-0 c.in-Borrow.is c.requires.1.1)

pub item::ValueType::desc-returns-in-Own : goal.item::ValueType::desc-returns-in-Own
item::ValueType::desc-returns-in-Own t c = sym (own_desc c.args.types.now c.see_acyclic.ensures c.args.self.now c.in-Own.field-0 c.in-Own.is c.requires.1.1)

pub item::ValueType::desc-returns-in-Defined : goal.item::ValueType::desc-returns-in-Defined
item::ValueType::desc-returns-in-Defined t c = c.desc-in-Defined.ensures ∙ ap value_desc (sym (defined_stated c.args.types.now c.defined_type.ensures.acyclic c.args.self.now c.in-Defined.id c.defined_type.result.now c.in-Defined.is c.defined_type.ensures.entry c.defined_type.ensures.own))

pub defined::DefinedType::desc-returns-in-Alias : goal.defined::DefinedType::desc-returns-in-Alias
defined::DefinedType::desc-returns-in-Alias t c = c.desc.ensures ∙ sym (alias_desc c.args.types.now c.args.self.now c.in-Alias.ty c.in-Alias.is)

pub defined::DefinedType::desc-returns-in_default : goal.defined::DefinedType::desc-returns-in_default
defined::DefinedType::desc-returns-in_default t c = c.defined_word.ensures ∙ sym (defined_desc c.args.types.now c.args.self.now c.in_default.not-Alias)
