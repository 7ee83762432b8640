use Rattle.std.proofs.Common.{subst}
use Rattle.wac_types_base.specs.Entries.{Name}
use Rattle.wac_parser_tree.specs.Views.{view_ident}
use Rattle.wac_parser_refusals.specs.Causes.{NotResourceType}
use Rattle.wac_parser_refusals.specs.Outcomes.{Refuses}
use Rattle.wac_parser_declare.proofs.Values.{borrowed_at, no_resource_type}
use Rattle.wac_parser_declare.proofs.value_types.borrow_of_type.Goals as goal

pub returns-in-Resource : goal.returns-in-Resource
returns-in-Resource c = borrowed_at c.args.types.now c.see_acyclic.ensures (view_ident c.args.id.now) c.args.ty c.in-Resource.resource c.in-Resource.is c.requires

pub returns-in_default : goal.returns-in_default
returns-in_default c =
    no_resource_type c.args.types.now c.see_acyclic.ensures (view_ident c.args.id.now) c.not_resource_type.result c.args.ty c.requires c.in_default.not-Resource
    (subst (λ (w : Name). Refuses c.not_resource_type.result (NotResourceType c.args.id.now.string.now w) c.args.id.now.span) c.desc.ensures c.not_resource_type.ensures)
