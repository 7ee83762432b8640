use Rattle.std.proofs.Common.{refl}
use Rattle.wac_graph_bytes.specs.declared.entry.Declaration.TheVariants.{Defined}
use Rattle.wac_graph_scopes.proofs.CountLaws.{types_next}
use Rattle.wac_graph_scopes.proofs.ScopeLaws.{type_defined, defined_states, entry_added}
use Rattle.wac_graph_scopes.proofs.scope.TypeScope.define.Goals as goal

pub returns-clause-stands : goal.returns-clause-stands
returns-clause-stands c w cc outer i t h e =
    let s = c.args.self.now in
    let next = types_next w cc outer i s c.push.new.self (Defined c.args.ty) c.next_of-self.result h c.in_ok-push.ensures.items c.next_of-self.ensures in
    type_defined w cc outer i t s (record s { declarations = c.push.new.self; types = c.next_of-self.result }) c.args.ty h e c.in_ok-push.ensures.items next refl refl

pub returns-clause-entry : goal.returns-clause-entry
returns-clause-entry c cc w outer i h = entry_added w cc outer i c.args.self.now c.push.new.self.items (Defined c.args.ty) (defined_states c.args.ty) h c.in_ok-push.ensures.items
