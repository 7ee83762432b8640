use Rattle.std.proofs.Common.{List, sym, ap, subst, ◌∙◌, arith}
use Rattle.std.specs.Prelude.{⊤}
use Rattle.wac_types_base.specs.Entries.{names_of, texts_of}
use Rattle.wac_parser_refusals.specs.Causes.{Answer, each}
use Rattle.wac_parser_refusals.specs.Outcomes.{IsHeld, IsRefusal}
use Rattle.wac_parser_refusals.proofs.Outcomes.{refused_outcome}
use Rattle.wac_parser_resolve.specs.Ascribing.{State}
use Rattle.wac_parser_resolve.specs.Denoting as stated
use Rattle.wac_parser_resolve.specs.Denoting.{spread_given}
use Rattle.wac_parser_resolve.specs.InArguments.{AreLeft, SaysGiven}
use Rattle.wac_parser_resolve.proofs.Growing.{Inner-refl, Inner-trans, within_refl, within_trans}
use Rattle.wac_parser_resolve.proofs.Nodes.{denotes_stays}
use Rattle.wac_parser_resolve.proofs.SoundGraph.{there_inner, there_with}
use Rattle.wac_parser_resolve.proofs.Spreading.{given_stays, spread_ends, spread_next, spread_stops}
use Rattle.wac_parser_resolve.proofs.arguments.give_exports.Goals as goal

pub loop-name-init : goal.loop-name-init
loop-name-init c =
    let items = sym c.deref-name-items.ensures.value in
    record {
      given = c.requires.given;
      inner = Inner-refl c.args.graph.now;
      within = within_refl c.args.graph.now;
      rest = λ noted names q d says dn kind left.
          (q, (says, subst (λ (us : List _). AreLeft q.1 (texts_of us)) items left), ap (λ (us : List _). each (spread_given c.args.span d) q (texts_of us)) items);
    }

pub loop-name-preserved : goal.loop-name-preserved
loop-name-preserved c = record {
  given = there_with c.given_export.new.graph c.loop-name.given.items c.push.new.self.items c.in_ok-one.one c.in_ok-push.ensures.items
      (there_inner c.loop-name.graph c.given_export.new.graph c.loop-name.given.items c.given_export.ensures.inner c.loop-name.invariant.given) c.in_ok-one.ensures.node;
  inner = Inner-trans c.args.graph.now c.loop-name.graph c.given_export.new.graph c.loop-name.invariant.inner c.given_export.ensures.inner;
  within = within_trans c.args.graph.now c.loop-name.graph c.given_export.new.graph c.loop-name.invariant.within c.given_export.ensures.within;
  rest = λ noted names q d says dn kind left.
      let ms = names_of noted in
      let inv = c.loop-name.invariant.rest noted names q d says dn kind left in
      let here = denotes_stays c.args.graph.now c.loop-name.graph c.loop-name.invariant.inner.later ms ms (λ i k x. x) d c.args.node dn in
      let all = given_stays c.loop-name.graph c.given_export.new.graph c.given_export.ensures.inner.later ms ms (λ i k x. x) inv.0.1 c.loop-name.given.items inv.1.0.1 in
      let n = spread_next c.given_export.new.graph noted names c.args.span d c.deref-name-items.result.now c.loop-name.name-index c.name-item.result c.loop-name-test.true c.name-item.is
      c.as_str.result.now c.as_str.ensures.value inv.0 c.loop-name.given.items c.push.new.self.items c.in_ok-one.one all inv.1.1 c.in_ok-push.ensures.items
      (c.in_ok-one.ensures.outcome noted names inv.0.0 d inv.1.0.0 here kind) in
      (n.0, n.1, inv.2 ∙ n.2);
}

pub returns-in_err-one-clause-outcome : goal.returns-in_err-one-clause-outcome
returns-in_err-one-clause-outcome c noted names q d says dn kind left =
    let ms = names_of noted in
    let inv = c.loop-name.invariant.rest noted names q d says dn kind left in
    let here = denotes_stays c.args.graph.now c.loop-name.graph c.loop-name.invariant.inner.later ms ms (λ i k x. x) d c.args.node dn in
    refused_outcome (λ (p : State × List stated.Given) (u : ⊤). SaysGiven c.given_export.new.graph noted names c.loop-name.given.items p)
    (each (spread_given c.args.span d) q (texts_of c.args.names.now.items)) _ _ c.from_residual.ensures.1
    (subst (λ (r : Answer (State × List stated.Given)). IsRefusal r c.in_err-one.field-0.0) (sym inv.2)
    (spread_stops c.given_export.new.graph noted names c.args.span d c.deref-name-items.result.now c.loop-name.name-index c.name-item.result c.loop-name-test.true c.name-item.is
    c.as_str.result.now c.as_str.ensures.value inv.0 c.in_err-one.field-0.0 (c.in_err-one.ensures.outcome noted names inv.0.0 d inv.1.0.0 here kind)))

pub returns-clause-outcome : goal.returns-clause-outcome
returns-clause-outcome c noted names q d says dn kind left =
    let inv = c.loop-name.invariant.rest noted names q d says dn kind left in
    subst (λ (r : Answer (State × List stated.Given)). IsHeld (λ (p : State × List stated.Given) (u : ⊤). SaysGiven c.loop-name.graph noted names c.loop-name.given.items p) r tt)
    (sym (inv.2 ∙ spread_ends c.args.span d c.deref-name-items.result.now c.loop-name.name-index inv.0 (omega (arith, c.loop-name-test.false)))) inv.1.0

pub returns-in_err-one-clause-inner : goal.returns-in_err-one-clause-inner
returns-in_err-one-clause-inner c = Inner-trans c.args.graph.now c.loop-name.graph c.given_export.new.graph c.loop-name.invariant.inner c.in_err-one.ensures.inner
