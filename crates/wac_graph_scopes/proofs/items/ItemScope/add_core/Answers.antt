use Rattle.std.proofs.Common.{refl}
use Rattle.wac_graph_scopes.proofs.CountLaws.{cores_next}
use Rattle.wac_graph_scopes.proofs.ItemLaws.{has_core}
use Rattle.wac_graph_scopes.proofs.items.ItemScope.add_core.Goals as goal

pub returns-clause-adds : goal.returns-clause-adds
returns-clause-adds c w cc outer i t h e =
    let s = c.args.self.now in
    let next = cores_next w cc outer i s c.push.new.self c.args.declaration c.next_of-self.result h c.in_ok-push.ensures.items c.next_of-self.ensures in
    has_core w cc outer i t s (record s.types { declarations = c.push.new.self }) c.args.declaration c.next_of-self.result h e c.in_ok-push.ensures.items refl refl refl next
