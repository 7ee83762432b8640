use Rattle.std.proofs.Common.{◌≡◌}
use Rattle.wac_types_base.specs.declared.item.«Type».{«Type» as TypeKind}
use Rattle.wac_types_parts.proofs.Resources.{fresh_is}
use Rattle.wac_types_parts.proofs.parts.is_fresh.Goals as goal

pub returns-in_default-ty : goal.returns-in_default-ty
returns-in_default-ty c = (
  λ t. absurd (cc t),
  λ f. let r = fresh_is c.args.types.now c.see_acyclic.ensures c.args.item.name.now c.args.item.kind f in
      let same : c.in-Ty.ty ≡ TypeKind.Resource r.0 = cc (c.in-Ty.is, r.1) in
      absurd (c.in_default-ty.not-Resource r.0 same),
)

pub returns-in_default : goal.returns-in_default
returns-in_default c = (
  λ t. absurd (cc t),
  λ f. let r = fresh_is c.args.types.now c.see_acyclic.ensures c.args.item.name.now c.args.item.kind f in absurd (c.in_default.not-Ty (TypeKind.Resource r.0) r.1),
)
