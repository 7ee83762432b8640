use Rattle.std.proofs.Common.{◌∷◌, refl, sym}
use Rattle.wac_types_base.specs.declared.item.ValueType.{ValueType}
use Rattle.wac_types_base.proofs.Looked.{among-get}
use Rattle.wac_graph_scopes.proofs.ScopeLaws.{known_same}
use Rattle.wac_graph_scopes.proofs.scope.TypeScope.known_as.Goals as goal

pub returns-then-is_same_id-clause-reads : goal.returns-then-is_same_id-clause-reads
returns-then-is_same_id-clause-reads c types w outer i h =
    known_same w types (i.here ∷ outer) c.in-Some.known (ValueType.Defined c.args.id) (c.in-Some.ensures.reads w types outer i h) (c.if-is_same_id.ensures.0 refl)

pub returns-then-is_same_id-clause-found : goal.returns-then-is_same_id-clause-found
returns-then-is_same_id-clause-found c =
    let known = c.in-Some.known in
    (known, among-get c.args.self.now.known.all.items c.args.at known (sym c.in-Some.ensures.item), c.if-is_same_id.ensures.0 refl)
