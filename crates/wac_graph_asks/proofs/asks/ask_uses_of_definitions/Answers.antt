use Rattle.std.proofs.Common.{◌<◌, length, refl, sym, ap, subst, arith}
use Rattle.std.specs.Option.{IfSome}
use Rattle.wac_types_base.specs.Collection.{Stands}
use Rattle.wac_types_base.proofs.Looked.{among-get}
use Rattle.wac_types_base.proofs.Loops.{get-place}
use Rattle.wac_graph_asks.specs.AskedUses.{uses_of_copy, AddsUses}
use Rattle.wac_graph_asks.proofs.Uses.{adds_none, uses_as, all_after, more_uses, all_uses}
use Rattle.wac_graph_asks.proofs.asks.ask_uses_of_definitions.Goals as goal
use Rattle.wac_graph_asks.proofs.asks.ask_uses_of_definitions.Goals.{in-Some+in_ok-ask_definition, in_default}

pub loop-definition-init : goal.loop-definition-init
loop-definition-init c = adds_none c.args.types.now c.args.all.now c.args.all.now refl refl

pub ask_definition-requires : goal.ask_definition-requires
ask_definition-requires c =
    let within : c.loop-definition.definition-index < length c.args.definitions.now = omega arith in
    let at = get-place c.args.definitions.now c.loop-definition.definition-index c.definition-item.result within c.definition-item.is in
    record {
      stands = subst (λ o. IfSome o (Stands c.args.types.now)) c.in-Some.is (c.requires.stand c.definition-item.result (among-get c.args.definitions.now c.loop-definition.definition-index c.definition-item.result at));
      seen = all_after c.args.types.now c.args.all.now c.loop-definition.all c.requires.seen c.loop-definition.invariant;
    }

pub loop-definition-preserved : goal.loop-definition-preserved
loop-definition-preserved c =
    let types = c.args.types.now in
    let d = c.definition-item.result in
    let within : c.loop-definition.definition-index < length c.args.definitions.now = omega arith in
    let at = get-place c.args.definitions.now c.loop-definition.definition-index d within c.definition-item.is in
    more_uses types (λ d. uses_of_copy types d.node d.copy) c.args.definitions.now c.loop-definition.definition-index d c.args.all.now c.loop-definition.all c.match-definition.all at c.loop-definition.invariant
    (elim c.match-definition.branch [
      | in-Some+in_ok-ask_definition w ↦
          subst (λ all. AddsUses types c.loop-definition.all all (uses_of_copy types d.node d.copy)) (sym w.all-is)
          (uses_as types c.loop-definition.all w.ask_definition.new.all w.in_ok-ask_definition.ensures (ap (uses_of_copy types d.node) (sym w.in-Some.is)))
      | in_default w ↦
          subst (λ all. AddsUses types c.loop-definition.all all (uses_of_copy types d.node d.copy)) (sym w.all-is)
          (uses_as types c.loop-definition.all c.loop-definition.all (adds_none types c.loop-definition.all c.loop-definition.all refl refl) (ap (uses_of_copy types d.node) (sym w.in_default.is)))
    ])

pub returns : goal.returns
returns c = all_uses c.args.types.now (λ d. uses_of_copy c.args.types.now d.node d.copy) c.args.definitions.now c.loop-definition.definition-index c.args.all.now c.loop-definition.all (omega arith) c.loop-definition.invariant
