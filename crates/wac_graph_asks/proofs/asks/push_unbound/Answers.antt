use Rattle.std.proofs.Common.{◌++◌, sym, ap, ◌∙◌, arith}
use Rattle.std.proofs.lemmas.List.{append-nil}
use Rattle.std.specs.Prelude.{not, is_some}
use Rattle.wac_types_base.proofs.Loops.{take-all}
use Rattle.wac_types_parts.specs.Parts.{imports_of}
use Rattle.wac_graph_asks.specs.AskedNodes.{unbound_asks}
use Rattle.wac_graph_asks.proofs.Filling.{unbound_pushed, unbound_passed}
use Rattle.wac_graph_asks.proofs.asks.push_unbound.Goals as goal
use Rattle.wac_graph_asks.proofs.asks.push_unbound.Goals.{in-Some+then-is_none+in_ok-push_ask, in-Some+else-is_none, in_default}

pub loop-at-init : goal.loop-at-init
loop-at-init c = sym (append-nil c.args.asks.now.items)

pub loop-at-preserved : goal.loop-at-preserved
loop-at-preserved c =
    let xs = imports_of c.args.types.now c.args.world in
    elim c.match-import_at.branch [
      | in-Some+then-is_none+in_ok-push_ask w ↦
          unbound_pushed c.args.node c.args.bound.now w.in-Some.import.name.now w.in-Some.import.kind c.args.asks.now.items c.loop-at.asks.items c.match-import_at.asks.items xs c.loop-at.at c.loop-at.invariant w.in-Some.ensures.entry
          (ap is_some (sym w.get.ensures) ∙ w.is_none.ensures ∙ ap not w.if-is_none.true) (ap (λ v. v.items) w.asks-is ∙ w.in_ok-push_ask.ensures)
      | in-Some+else-is_none w ↦
          unbound_passed c.args.node c.args.bound.now w.in-Some.import.name.now w.in-Some.import.kind c.args.asks.now.items c.loop-at.asks.items c.match-import_at.asks.items xs c.loop-at.at c.loop-at.invariant w.in-Some.ensures.entry
          (ap is_some (sym w.get.ensures) ∙ w.is_none.ensures ∙ ap not w.if-is_none.false) (ap (λ v. v.items) w.asks-is)
      | in_default w ↦ let all = w.in_default.ensures.none in let count = c.import_count-at-end.ensures.len in absurd (omega (arith, all, count))
    ]

pub returns : goal.returns
returns c =
    let count = c.import_count-at-end.ensures.len in
    c.loop-at.invariant ∙ ap (λ l. c.args.asks.now.items ++ unbound_asks c.args.node c.args.bound.now l) (take-all (imports_of c.args.types.now c.args.world) c.loop-at.at (omega (arith, count)))
