use Rattle.std.proofs.Common.{◌++◌, take, sym, ap, ◌∙◌, arith, append_assoc}
use Rattle.std.specs.Prelude.{filter_map, option_to_list}
use Rattle.std.proofs.lemmas.List.{append-nil}
use Rattle.wac_types_base.specs.declared.defined.UsedType.{UsedType}
use Rattle.wac_types_base.specs.Entries.{Name}
use Rattle.wac_types_base.proofs.Lists.{there_is}
use Rattle.wac_types_base.proofs.Loops.{take-all}
use Rattle.wac_types_parts.specs.Parts.{uses_of}
use Rattle.wac_graph_scopes.specs.UsePlaces.{place_of}
use Rattle.wac_graph_scopes.proofs.UsePlaceLaws.{filter_map_next}
use Rattle.wac_graph_scopes.proofs.order.add_uses.Goals as goal

pub loop-at-init : goal.loop-at-init
loop-at-init c = sym (append-nil c.args.needs.now.items)

pub loop-at-preserved : goal.loop-at-preserved
loop-at-preserved c =
    let d = c.args.types.now in
    let us = uses_of d c.args.id in
    let i = c.loop-at.at in
    let f = λ (u : Name × UsedType). place_of d c.args.found.now u.1.interface in
    let e = there_is us i (omega (arith, c.loop-at-test.true, c.use_count-at-end.ensures.len)) in
    c.in_ok-add_use_at.ensures e.0 e.1 ∙ ap (λ l. l ++ option_to_list (f e.0)) c.loop-at.invariant
    ∙ append_assoc c.args.needs.now.items (filter_map f (take i us)) (option_to_list (f e.0)) ∙ ap (λ l. c.args.needs.now.items ++ l) (sym (filter_map_next f us i e.0 e.1))

pub returns : goal.returns
returns c =
    let d = c.args.types.now in
    let us = uses_of d c.args.id in
    c.loop-at.invariant ∙ ap (λ l. c.args.needs.now.items ++ filter_map (λ (u : Name × UsedType). place_of d c.args.found.now u.1.interface) l)
    (take-all us c.loop-at.at (omega (arith, c.loop-at-test.false, c.use_count-at-end.ensures.len)))
