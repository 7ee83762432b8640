use Rattle.std.proofs.Common.{◌≡◌, false, sym, ◌∙◌}
use Rattle.wac_graph_core.specs.Edges.{has}
use Rattle.wac_graph_core.proofs.Placing.{left_source}
use Rattle.wac_graph_core.proofs.ties.leave.Goals as goal

pub returns : goal.returns
returns c =
    let stays : has c.args.gone.now c.args.node ≡ false = sym c.has.ensures ∙ c.if-has.false in
    record {
      dependants = λ x. let so = c.keep_ties.ensures x in (λ m. let h = so.0 m in (h.0, (h.1, stays)), λ h. so.1 (h.0, h.1.0));
      arguments = λ n a. let so = c.keep_passed.ensures n a in (λ m. let h = so.0 m in (h.0, (h.1, stays)), λ h. so.1 (h.0, h.1.0));
      source = λ j n.
          let so = left_source c.args.gone.now c.args.ties.now.source j n in
          (λ e. let h = so.0 (sym c.keep_source.ensures ∙ e) in (h.0, (h.1, stays)), λ h. c.keep_source.ensures ∙ so.1 (h.0, h.1.0));
    }
