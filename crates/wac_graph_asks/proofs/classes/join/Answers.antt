use Rattle.std.proofs.Common.{inl, inr, arith}
use Rattle.wac_graph_asks.specs.Joining.{label_at}
use Rattle.wac_graph_asks.proofs.Roots.{leads_before, joins, leads_in}
use Rattle.wac_graph_asks.proofs.classes.join.Goals as goal

pub index_mut-requires : goal.index_mut-requires
index_mut-requires c =
    let h = leads_before (label_at c.deref-2.result.now) c.args.b c.first_of-second.result c.first_of-second.ensures in
    omega (arith, h, c.requires.b)

pub index_mut-requires-else-first-second : goal.index_mut-requires-else-first-second
index_mut-requires-else-first-second c =
    let h = leads_before (label_at c.deref.result.now) c.args.a c.first_of-first.result c.first_of-first.ensures in
    omega (arith, h, c.requires.a)

pub returns-then-first-second : goal.returns-then-first-second
returns-then-first-second c =
    let h = leads_before (label_at c.deref-2.result.now) c.args.b c.first_of-second.result c.first_of-second.ensures in
    joins c.args.labels.now.items c.args.a c.args.b c.first_of-first.result c.first_of-second.result (omega arith) (omega (arith, h, c.requires.b))
    (inl (leads_in _ _ _ _ c.deref.ensures.value c.first_of-first.ensures, leads_in _ _ _ _ c.deref-2.ensures.value c.first_of-second.ensures))

pub returns-else-first-second : goal.returns-else-first-second
returns-else-first-second c =
    let h = leads_before (label_at c.deref.result.now) c.args.a c.first_of-first.result c.first_of-first.ensures in
    joins c.args.labels.now.items c.args.a c.args.b c.first_of-second.result c.first_of-first.result c.if-first-second.false (omega (arith, h, c.requires.a))
    (inr (leads_in _ _ _ _ c.deref.ensures.value c.first_of-first.ensures, leads_in _ _ _ _ c.deref-2.ensures.value c.first_of-second.ensures))
