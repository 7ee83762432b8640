use Rattle.std.proofs.Common.{◌++◌, ◌∷◌, [], sym, ap, ◌∙◌, arith}
use Rattle.wac_types_base.specs.declared.item.ItemKind.{ItemKind}
use Rattle.wac_types_base.specs.Entries.{Name, names_of}
use Rattle.wac_types_base.proofs.Loops.{map-one_more, take-all}
use Rattle.wac_graph_causes.proofs.order.names_of.Goals as goal

pub entry-requires : goal.entry-requires
entry-requires c = omega (arith, c.loop-at-test.true, c.len-at-end.ensures.len)

pub loop-at-preserved : goal.loop-at-preserved
loop-at-preserved c =
    c.in_ok-push_name.ensures ∙ ap (λ l. l ++ c.entry.result.0.now ∷ []) c.loop-at.invariant
    ∙ sym (map-one_more (λ (x : Name × ItemKind). x.0) c.args.interfaces.now c.loop-at.at (c.entry.result.0.now, c.entry.result.1.now) c.entry.ensures)

pub returns : goal.returns
returns c = c.loop-at.invariant ∙ ap names_of (take-all c.args.interfaces.now c.loop-at.at (omega (arith, c.loop-at-test.false, c.len-at-end.ensures.len)))
