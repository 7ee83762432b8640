use Rattle.std.proofs.Common.{Bool, None, sym, ap, ◌∙◌}
use Rattle.std.specs.Prelude.{◌&&◌, if◌then◌else◌}
use Rattle.wac_types_base.specs.declared.item.ItemKind.{ItemKind}
use Rattle.wac_types_base.specs.Stated.{kind_of, stated_of, identifier_of}
use Rattle.wac_types_names.specs.InterfaceNames.{is_interface_name}
use Rattle.wac_composition.specs.Classes.{is_instance_kind}
use Rattle.wac_graph_asks.proofs.Identified.{asked_other, asked_instance, no_instance}
use Rattle.wac_graph_asks.proofs.classes.identifier_asked.Goals as goal

pub returns-in_default : goal.returns-in_default
returns-in_default c =
    sym (asked_other c.args.types.now c.see_acyclic.ensures c.args.ask.now.item (is_interface_name c.args.ask.now.name) (no_instance c.args.ask.now.item c.in_default.not-Instance))

pub returns-then-branch : goal.returns-then-branch
returns-then-branch c =
    let t = c.args.types.now in
    let id = ItemKind.Instance c.in-Instance.id in
    let named = sym c.if-branch.true ∙ c.in_ok-is_interface_name.ensures ∙ ap is_interface_name c.as_str.ensures in
    c.identifier.ensures
    ∙ ap (λ (b : Bool). if b then identifier_of (stated_of t id) else None) named
    ∙ sym (asked_instance t c.see_acyclic.ensures c.in-Instance.id (is_interface_name c.args.ask.now.name))
    ∙ ap (λ (k : ItemKind). if is_instance_kind (kind_of (stated_of t k)) && is_interface_name c.args.ask.now.name then identifier_of (stated_of t k) else None) (sym c.in-Instance.is)
