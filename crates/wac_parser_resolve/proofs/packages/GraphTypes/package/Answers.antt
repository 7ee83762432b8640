use Rattle.std.proofs.Common.{ap, refl, sym, ◌∙◌}
use Rattle.std.specs.Option.{option_or}
use Rattle.wac_types_base.specs.declared.item.ItemKind.{ItemKind}
use Rattle.wac_types_base.specs.Stated.{stated_of}
use Rattle.wac_parser_refusals.specs.Causes.{UnknownPackage}
use Rattle.wac_parser_declare.specs.Packages.{world_if}
use Rattle.wac_graph_core.specs.Packages.{key_of}
use Rattle.wac_parser_resolve.specs.Knowing.{IsPackage, handed_under, known_in, lent_content, stated_handed}
use Rattle.wac_parser_resolve.proofs.Knowing.{known_held, known_more, known_package, known_same, unknown_key, unknown_refused}
use Rattle.wac_parser_resolve.proofs.packages.GraphTypes.package.Goals as goal

pub returns-in-Some-clause-outcome : goal.returns-in-Some-clause-outcome
returns-in-Some-clause-outcome c =
    let g = c.args.self.now in
    let k = key_of c.args.name.now c.args.version in
    let p = c.in-Some.field-0-1.now in
    let f = c.in-Some.ensures.found in
    let known = known_package g.graph c.see_sound.ensures c.in-Some.id p k f.0 f.1 in
    known_held (UnknownPackage c.args.name.now) c.args.span (IsPackage g.graph k) (world_if (known_in g k)) (stated_of g.graph.types (ItemKind.Component p.ty)) c.in-Some.id
    (ap (λ o. world_if (option_or o (handed_under g k))) known) (record { held = p; there = f.0; key = f.1; world = refl })

pub returns-in_ok-register-in-Some-handed-clause-outcome : goal.returns-in_ok-register-in-Some-handed-clause-outcome
returns-in_ok-register-in-Some-handed-clause-outcome c =
    let g = c.args.self.now in
    let k = key_of c.args.name.now c.args.version in
    known_held (UnknownPackage c.args.name.now) c.args.span (IsPackage c.register.new.graph k) (world_if (known_in g k)) (stated_handed c.in-Some-handed.handed) c.in_ok-register-in-Some-handed.field-0
    (ap world_if (ap (λ o. option_or o (handed_under g k)) (unknown_key g.graph k c.in_default.ensures.none) ∙ sym c.in-Some-handed.ensures.content)) c.in_ok-register-in-Some-handed.ensures.registered

pub returns-in_ok-register-in-Some-handed-clause-packages : goal.returns-in_ok-register-in-Some-handed-clause-packages
returns-in_ok-register-in-Some-handed-clause-packages c =
    let g = c.args.self.now in
    let k = key_of c.args.name.now c.args.version in
    known_more g c.register.new.graph k (lent_content c.in-Some-handed.handed) c.see_sound.ensures c.in_ok-register-in-Some-handed.ensures.keeps c.in_ok-register-in-Some-handed.ensures.gets (unknown_key g.graph k c.in_default.ensures.none) (sym c.in-Some-handed.ensures.content)

pub returns-in_err-register-in-Some-handed-clause-packages : goal.returns-in_err-register-in-Some-handed-clause-packages
returns-in_err-register-in-Some-handed-clause-packages c =
    let e = c.in_err-register-in-Some-handed.ensures in
    known_same c.args.self.now c.register.new.graph c.see_sound.ensures e.keeps e.same

pub returns-in-None-clause-outcome : goal.returns-in-None-clause-outcome
returns-in-None-clause-outcome c =
    let g = c.args.self.now in
    let k = key_of c.args.name.now c.args.version in
    unknown_refused (UnknownPackage c.args.name.now) c.args.span (world_if (known_in g k)) c.unknown_package.result
    (ap world_if (ap (λ o. option_or o (handed_under g k)) (unknown_key g.graph k c.in_default.ensures.none) ∙ sym c.in-None.ensures.content)) c.unknown_package.ensures
