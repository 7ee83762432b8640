use Rattle.wac_names.specs.declared.names.NameKind.TheVariants as kind
use Rattle.std.specs.Bool.{one_answer}
use Rattle.wac_types_names.proofs.InterfaceTests.{interface_told}
use Rattle.wac_types_names.proofs.definitions.is_interface_name.Goals as goal

pub returns : goal.returns
returns c =
    let named = c.in_ok-component_name.ensures.kind kind.Interface in
    one_answer _ _ (λ e. named.0 (c.is_interface.ensures.0 e), λ h. c.is_interface.ensures.1 (named.1 h)) (interface_told c.args.text.now)
