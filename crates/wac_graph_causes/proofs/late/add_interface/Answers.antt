use Rattle.std.proofs.Common.{sym, subst}
use Rattle.wac_types_base.specs.Entries.{IsNew}
use Rattle.wac_graph_causes.proofs.late.add_interface.Goals as goal

pub push-requires : goal.push-requires
push-requires c = subst (λ n. IsNew n c.args.interfaces.now) (sym c.in_ok-from_str.ensures.ok) c.requires
