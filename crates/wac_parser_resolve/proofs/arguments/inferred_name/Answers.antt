use Rattle.std.proofs.Common.{ap, subst, sym, ◌∙◌}
use Rattle.std.specs.Option.{option_copied}
use Rattle.wac_types_base.specs.Collection.{IsAcyclic}
use Rattle.wac_types_base.specs.Entries.{Name, names_of}
use Rattle.wac_types_base.specs.Stated.{kind_of}
use Rattle.wac_parser_resolve.specs.Ascribing.{own_name}
use Rattle.wac_parser_resolve.specs.Denoting.{if_among, instance_identifier}
use Rattle.wac_parser_resolve.specs.Matching.{matched}
use Rattle.wac_parser_resolve.proofs.Inferring.{first_of, identifier_told, neither_of, own_told, second_of}
use Rattle.wac_parser_resolve.proofs.arguments.inferred_name.Goals as goal

pub returns-in-Some : goal.returns-in-Some
returns-in-Some c ms d i dn e =
    let ns = names_of c.args.imports.now in
    let told = identifier_told c.args.graph.now (subst IsAcyclic c.types.ensures c.see_acyclic.ensures) c.args.node d.item dn.item in
    first_of (if_among ns (instance_identifier (kind_of d.item) d.item)) (if_among ns (own_name d.origin)) (matched i.string ns) c.in-Some.name.now
    (ap (if_among ns) (sym (c.identifier_of.ensures ∙ told)) ∙ sym c.if_import.ensures ∙ ap option_copied c.in-Some.is)

pub returns-in-Some-if_import : goal.returns-in-Some-if_import
returns-in-Some-if_import c ms d i dn e =
    let ns = names_of c.args.imports.now in
    let told = identifier_told c.args.graph.now (subst IsAcyclic c.types.ensures c.see_acyclic.ensures) c.args.node d.item dn.item in
    let own = own_told c.args.graph.now c.see_sound.ensures ms d.origin c.args.node (option_copied c.own_name.result) dn.node c.own_name.ensures in
    second_of (if_among ns (instance_identifier (kind_of d.item) d.item)) (if_among ns (own_name d.origin)) (matched i.string ns) c.in-Some-if_import.name.now
    (ap (if_among ns) (sym (c.identifier_of.ensures ∙ told)) ∙ sym c.if_import.ensures ∙ ap option_copied c.in-None.is)
    (ap (if_among ns) (sym own) ∙ sym c.if_import-in-None.ensures ∙ ap option_copied c.in-Some-if_import.is)

pub returns-in-None-if_import : goal.returns-in-None-if_import
returns-in-None-if_import c ms d i dn e =
    let ns = names_of c.args.imports.now in
    let told = identifier_told c.args.graph.now (subst IsAcyclic c.types.ensures c.see_acyclic.ensures) c.args.node d.item dn.item in
    let own = own_told c.args.graph.now c.see_sound.ensures ms d.origin c.args.node (option_copied c.own_name.result) dn.node c.own_name.ensures in
    c.matched.ensures ∙ ap (λ (s : Name). matched s ns) (sym e)
    ∙ neither_of (if_among ns (instance_identifier (kind_of d.item) d.item)) (if_among ns (own_name d.origin)) (matched i.string ns)
    (ap (if_among ns) (sym (c.identifier_of.ensures ∙ told)) ∙ sym c.if_import.ensures ∙ ap option_copied c.in-None.is)
    (ap (if_among ns) (sym own) ∙ sym c.if_import-in-None.ensures ∙ ap option_copied c.in-None-if_import.is)
