use Rattle.std.proofs.Common.{refl}
use Rattle.wac_graph_scopes.proofs.CountLaws.{types_next}
use Rattle.wac_graph_scopes.proofs.ItemLaws.{has_type}
use Rattle.wac_graph_scopes.proofs.ScopeLaws.{entry_added}
use Rattle.wac_graph_scopes.proofs.items.ItemScope.add_type.Goals as goal

pub returns-clause-adds : goal.returns-clause-adds
returns-clause-adds c w cc outer i m h e =
    let s = c.args.self.now in
    let next = types_next w cc outer i s.types c.push.new.self c.args.declaration c.next_of-self.result h.written c.in_ok-push.ensures.items c.next_of-self.ensures in
    has_type w cc outer i m s (record s.types { declarations = c.push.new.self; types = c.next_of-self.result }) c.args.declaration h e c.in_ok-push.ensures.items next refl refl

pub returns-clause-entry : goal.returns-clause-entry
returns-clause-entry c states w cc outer i h = entry_added w cc outer i c.args.self.now.types c.push.new.self.items c.args.declaration states h.written c.in_ok-push.ensures.items
