use Rattle.std.proofs.Common.{◌∷◌, [], sym, ap, subst, ◌∙◌, arith}
use Rattle.std.proofs.lemmas.Option.{same_Some, slice_get_within}
use Rattle.std.proofs.lemmas.Result.{on_ok_weaker}
use Rattle.wac_types_base.specs.declared.ids.InterfaceId.{InterfaceId}
use Rattle.wac_types_base.specs.declared.item.ItemKind.{ItemKind}
use Rattle.wac_types_base.specs.declared.defined.UsedType.{UsedType}
use Rattle.wac_types_base.specs.Entries.{Name}
use Rattle.wac_types_base.specs.Stated.{stated_of}
use Rattle.wac_types_parts.specs.Parts.{uses_of}
use Rattle.wac_graph_causes.specs.Orders.{AddsUsed}
use Rattle.wac_graph_causes.proofs.order.add_use_at.Goals as goal

pub returns-in-Some : goal.returns-in-Some
returns-in-Some c =
    let s = c.args.sources in
    let r = c.in-Some.ensures.entry in
    on_ok_weaker c.add_use.result
    (λ f e at. subst (λ (i : InterfaceId). AddsUsed s (stated_of s.types.now (ItemKind.Instance i) ∷ []) c.args.names.now.items c.add_use.new.names.items)
    (r.2.interface ∙ ap (λ (u : Name × UsedType). u.1.interface) (same_Some r.0 e (sym r.1 ∙ at))) f)
    c.add_use.ensures

pub returns-in-None : goal.returns-in-None
returns-in-None c = λ e at. absurd (omega (arith, slice_get_within (uses_of c.args.sources.types.now c.args.id) c.args.at e at, c.in-None.ensures.none))
