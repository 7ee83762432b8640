use Rattle.std.proofs.Common.{ℕ, List, [], take, sym, subst}
use Rattle.std.proofs.lemmas.List.{take_all}
use Rattle.wac_types_base.specs.declared.item.ItemKind.{ItemKind}
use Rattle.wac_types_base.proofs.Looked.{take-one_more}
use Rattle.wac_types_base.proofs.Loops.{get-place}
use Rattle.wac_graph_asks.specs.declared.asks.Definition.{Definition}
use Rattle.wac_graph_encode.specs.Worlds.{AreDefinitionTypes}
use Rattle.wac_graph_encode.proofs.Told.{defined_more, defined_none}
use Rattle.wac_graph_encode.proofs.world.tell_definitions.Goals as goal

pub loop-definition-init : goal.loop-definition-init
loop-definition-init c = subst (λ (es : List (ℕ × ItemKind)). AreDefinitionTypes [] es) (sym c.requires) defined_none

pub loop-definition-preserved : goal.loop-definition-preserved
loop-definition-preserved c =
    let xs = c.args.definitions.now in
    let i = c.loop-definition.definition-index in
    let x = c.definition-item.result in
    let at = get-place xs i x c.loop-definition-test.true c.definition-item.is in
    subst (λ (ys : List Definition). AreDefinitionTypes ys c.tell_definition.new.told.entries) (sym (take-one_more xs i x at))
    (defined_more (take i xs) x c.loop-definition.told.entries c.tell_definition.new.told.entries c.in_ok-tell_definition.ensures c.loop-definition.invariant)

pub returns : goal.returns
returns c = subst (λ (ys : List Definition). AreDefinitionTypes ys c.loop-definition.told.entries) (take_all c.loop-definition.definition-index c.args.definitions.now c.loop-definition-test.false) c.loop-definition.invariant
