use Rattle.std.proofs.Common.{refl, sym, ap, ◌∙◌}
use Rattle.std.proofs.lemmas.Result.{IfOk-weaker}
use Rattle.wac_composition.specs.Writable.{unwritable}
use Rattle.wac_writable.specs.Tests.{wrapped}
use Rattle.wac_writable.specs.Givers.{instance_of}
use Rattle.wac_writable.proofs.ItemLaws.{if_ok_all}
use Rattle.wac_writable.proofs.SimpleLaws.{no_simple_interface}
use Rattle.wac_writable.proofs.WorldLaws.{component_test, wrapped_interface_is, defined_inside, defined_as_it_is}
use Rattle.wac_writable.proofs.writable.is_unwritable_definition.Goals as goal

pub returns-in-Some-clause-fails : goal.returns-in-Some-clause-fails
returns-in-Some-clause-fails c =
    let T = c.args.test in
    IfOk-weaker c.wrapped_fails.result _ _ (λ b f ka s h w.
    let d = defined_inside T.types.now c.see_acyclic.ensures c.args.item.kind c.in-Some.id s c.in-Some.ensures in
    component_test T.is_outer h c.args.item.name.now (wrapped d.1.0 (instance_of T.types.now c.in-Some.id)) b refl (f ka d.0 d.1.0) ∙ ap (λ y. unwritable y c.args.item.name.now h T.is_outer) (sym d.1.1)) c.wrapped_fails.ensures

pub returns-in-None-clause-fails : goal.returns-in-None-clause-fails
returns-in-None-clause-fails c =
    let T = c.args.test in
    IfOk-weaker c.item_fails.result _ _ (λ b f ka s h w. f ka s h w
    ∙ ap (λ y. unwritable y c.args.item.name.now h T.is_outer) (sym (defined_as_it_is T.types.now c.see_acyclic.ensures c.args.item.kind s c.in-None.ensures))) c.item_fails.ensures.fails

pub returns-in-Some-clause-simple : goal.returns-in-Some-clause-simple
returns-in-Some-clause-simple c =
    if_ok_all c.wrapped_fails.result (λ b i. absurd (no_simple_interface c.args.item.kind c.in-Some.id i (wrapped_interface_is c.args.test.types.now c.args.item.kind c.in-Some.id c.in-Some.ensures).0))

pub returns-in-None-clause-simple : goal.returns-in-None-clause-simple
returns-in-None-clause-simple c =
    let T = c.args.test in
    IfOk-weaker c.item_fails.result _ _ (λ b f i s h w. f i s h w
    ∙ ap (λ y. unwritable y c.args.item.name.now h T.is_outer) (sym (defined_as_it_is T.types.now c.see_acyclic.ensures c.args.item.kind s c.in-None.ensures))) c.item_fails.ensures.simple
