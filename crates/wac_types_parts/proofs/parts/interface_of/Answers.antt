use Rattle.std.proofs.Common.{refl, sym, ap, subst, ◌∙◌}
use Rattle.wac_types_base.specs.Collection.{Stands, size_of}
use Rattle.wac_types_fit.proofs.Checks.{interface_type_size}
use Rattle.wac_types_parts.proofs.parts.interface_of.Goals as goal

pub returns-in-Interface-clause-size : goal.returns-in-Interface-clause-size
returns-in-Interface-clause-size c =
    let types = c.args.types.now in
    sym (ap (size_of types) c.in-Ty.is ∙ interface_type_size types c.see_acyclic.ensures c.in-Ty.ty c.in-Interface.id c.in-Interface.is (subst (Stands types) c.in-Ty.is (c.if-not-has.ensures.0 refl)))
