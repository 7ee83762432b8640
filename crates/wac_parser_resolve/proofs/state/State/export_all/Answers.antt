use Rattle.std.proofs.Common.{List, refl, ap, sym, subst, ◌∙◌, arith}
use Rattle.std.specs.Prelude.{⊤}
use Rattle.wac_types_base.specs.Entries.{texts_of}
use Rattle.wac_parser_refusals.specs.Causes.{Answer, each}
use Rattle.wac_parser_refusals.specs.Outcomes.{IsHeld, IsRefusal}
use Rattle.wac_parser_refusals.proofs.Outcomes.{refused_outcome}
use Rattle.wac_parser_resolve.specs.Ascribing.{State}
use Rattle.wac_parser_resolve.specs.Said.{IsSaid}
use Rattle.wac_parser_resolve.specs.Saying.{export_one}
use Rattle.wac_parser_resolve.proofs.ExportStates.{all_exported, denotes_in, one_exported, one_refused}
use Rattle.wac_parser_resolve.proofs.Growing.{Later-refl, Later-trans}
use Rattle.wac_parser_resolve.proofs.state.State.export_all.Goals as goal

pub loop-name-init : goal.loop-name-init
loop-name-init c =
    let items = sym c.deref-name-items.ensures.value in
    record {
      node = c.requires.node;
      sound = c.requires.sound;
      later = Later-refl c.args.self.now.board.types.graph;
      instances = refl;
      rest = λ own s d said dn one. (s, said, ap (λ (us : List _). each (export_one c.args.access.access d) s (texts_of us)) items);
    }

pub loop-name-preserved : goal.loop-name-preserved
loop-name-preserved c = record {
  node = c.in_ok-export_one.ensures.later.nodes c.args.node c.loop-name.invariant.node;
  sound = c.in_ok-export_one.ensures.sound;
  later = Later-trans c.args.self.now.board.types.graph c.loop-name.self.board.types.graph c.export_one.new.self.board.types.graph c.loop-name.invariant.later c.in_ok-export_one.ensures.later;
  instances = c.in_ok-export_one.ensures.instances ∙ c.loop-name.invariant.instances;
  rest = λ own s d said dn one.
      let inv = c.loop-name.invariant.rest own s d said dn one in
      let here = denotes_in c.args.self.now c.loop-name.self c.loop-name.invariant.later c.loop-name.invariant.instances d c.args.node dn in
      let n = one_exported c.args.access.access d c.deref-name-items.result.now c.loop-name.name-index c.name-item.result c.loop-name-test.true c.name-item.is
      c.as_str.result.now c.as_str.ensures.value (λ (q : State) (u : ⊤). IsSaid own c.export_one.new.self q) inv.0 (c.in_ok-export_one.ensures.outcome own inv.0 d inv.1 here one) in
      (n.0, n.1, inv.2 ∙ n.2);
}

pub returns-in_err-export_one-clause-outcome : goal.returns-in_err-export_one-clause-outcome
returns-in_err-export_one-clause-outcome c own s d said dn one =
    let inv = c.loop-name.invariant.rest own s d said dn one in
    let here = denotes_in c.args.self.now c.loop-name.self c.loop-name.invariant.later c.loop-name.invariant.instances d c.args.node dn in
    let e = c.in_err-export_one.field-0.0 in
    refused_outcome (λ (q : State) (u : ⊤). IsSaid own c.export_one.new.self q) (each (export_one c.args.access.access d) s (texts_of c.args.names.now.items)) _ _ c.from_residual.ensures.1
    (subst (λ (r : Answer State). IsRefusal r e) (sym inv.2)
    (one_refused c.args.access.access d c.deref-name-items.result.now c.loop-name.name-index c.name-item.result c.loop-name-test.true c.name-item.is
    c.as_str.result.now c.as_str.ensures.value inv.0 e (c.in_err-export_one.ensures.outcome own inv.0 d inv.1 here one)))

pub returns-clause-outcome : goal.returns-clause-outcome
returns-clause-outcome c own s d said dn one =
    let inv = c.loop-name.invariant.rest own s d said dn one in
    subst (λ (r : Answer State). IsHeld (λ (q : State) (u : ⊤). IsSaid own c.loop-name.self q) r tt)
    (sym (inv.2 ∙ all_exported c.args.access.access d c.deref-name-items.result.now c.loop-name.name-index inv.0 (omega (arith, c.loop-name-test.false)))) inv.1
