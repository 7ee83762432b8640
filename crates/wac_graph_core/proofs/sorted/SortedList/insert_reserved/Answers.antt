use Rattle.std.proofs.Common.{map, sym, subst}
use Rattle.std.specs.Global.{Vec}
use Rattle.std.specs.List.Sorted.{IsStrictlySortedBy}
use Rattle.wac_graph_core.specs.Sorted.{Belongs}
use Rattle.wac_graph_core.proofs.Inserting.{put_where}
use Rattle.wac_graph_core.proofs.sorted.SortedList.insert_reserved.Goals as goal

pub invariant_of-self : goal.invariant_of-self
invariant_of-self g c =
    subst (λ es. IsStrictlySortedBy g.C.KeyOrder.order (map (λ e. e.0) es)) (sym c.insert.ensures.items)
    (put_where g.C.KeyOrder.order _ c.self.inside.entries.items c.args.place (c.args.key, c.args.value) c.self.invariant
    (subst (λ (v : Vec _). Belongs g.C.KeyOrder.order v.items c.args.key c.args.place) (sym c.self.view_is) c.requires.belongs))
