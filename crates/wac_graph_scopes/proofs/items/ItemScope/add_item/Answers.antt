use Rattle.std.proofs.Common.{refl, ◌∙◌}
use Rattle.wac_graph_scopes.proofs.CountLaws.{items_next}
use Rattle.wac_graph_scopes.proofs.ItemLaws.{item_counted, count_same}
use Rattle.wac_graph_scopes.proofs.items.ItemScope.add_item.Goals as goal

pub returns-clause-adds : goal.returns-clause-adds
returns-clause-adds c w cc outer i j m h e here =
    let s = c.args.self.now in
    let t = record s.types { declarations = c.push.new.self } in
    let d = c.args.description in
    let next = items_next w cc outer i s c.push.new.self c.args.declaration d c.count_of-index.result c.next_of.result h c.in_ok-push.ensures.items (c.count_of-index.ensures ∙ count_same w cc outer d s t refl) c.next_of.ensures in
    item_counted w cc outer i j m s c.set_count.new.self t c.args.declaration d c.next_of.result c.count_of-index.result h e
    c.in_ok-push.ensures.items refl refl refl here c.count_of-index.ensures next c.set_count.ensures
