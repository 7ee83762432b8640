use Rattle.std.proofs.Common.{refl, sym}
use Rattle.wac_types_base.proofs.Looked.{among-get}
use Rattle.wac_graph_scopes.proofs.scope.TypeScope.is_named_at.Goals as goal

pub returns-then-is_same_id : goal.returns-then-is_same_id
returns-then-is_same_id c named =
    let known = c.in-Some.known in
    (known, among-get c.args.self.now.known.all.items c.args.at known (sym c.in-Some.ensures.item), named, c.if-is_same_id.ensures.0 refl)
