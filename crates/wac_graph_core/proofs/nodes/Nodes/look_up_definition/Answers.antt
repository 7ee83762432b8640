use Rattle.std.proofs.Common.{◌≡◌, Some, ap, sym, ◌∙◌}
use Rattle.std.specs.FinMap as map
use Rattle.wac_graph_core.proofs.Noting.{definition_at}
use Rattle.wac_graph_core.proofs.nodes.Nodes.look_up_definition.Goals as goal

pub returns-in_err-id-clause-told : goal.returns-in_err-id-clause-told
returns-in_err-id-clause-told c = λ k is. absurd (cc (c.in_err-id.was, c.get.ensures, c.requires k c.args.ty is))

pub returns-then-is_definition-clause-told : goal.returns-then-is_definition-clause-told
returns-then-is_definition-clause-told c = λ k is. sym c.in_ok-id.was ∙ c.get.ensures ∙ c.requires k c.args.ty is

pub returns-else-is_definition-clause-told : goal.returns-else-is_definition-clause-told
returns-else-is_definition-clause-told c = λ k is.
    let told : Some c.in_ok-id.id ≡ Some k = sym c.in_ok-id.was ∙ c.get.ensures ∙ c.requires k c.args.ty is in
    let same : c.in_ok-id.id ≡ k = cc told in
    let own = definition_at c.args.self.now c.args.ty k c.in-Some.node.now (c.in-Some.ensures ∙ ap (map.get c.args.self.now) same) is in
    absurd (cc (c.is_definition.ensures.1 own, c.if-is_definition.false))

pub returns-in-None-clause-told : goal.returns-in-None-clause-told
returns-in-None-clause-told c = λ k is.
    let told : Some c.in_ok-id.id ≡ Some k = sym c.in_ok-id.was ∙ c.get.ensures ∙ c.requires k c.args.ty is in
    let same : c.in_ok-id.id ≡ k = cc told in
    absurd (cc (c.in-None.ensures ∙ ap (map.get c.args.self.now) same, is.there))
