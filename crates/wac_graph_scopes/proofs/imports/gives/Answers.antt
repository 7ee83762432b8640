use Rattle.std.proofs.Common.{subst}
use Rattle.std.proofs.lemmas.Result.{IfOk-weaker}
use Rattle.wac_types_base.specs.declared.ids.InterfaceId.{InterfaceId}
use Rattle.wac_types_fit.specs.Trees.{tree_in}
use Rattle.wac_types_parts.specs.Parts.{exports_of}
use Rattle.wac_graph_scopes.specs.Items.{IsTreeOf}
use Rattle.wac_graph_scopes.specs.Imports.{all_imports}
use Rattle.wac_graph_scopes.proofs.FoundLaws.{same_import}
use Rattle.wac_graph_scopes.proofs.imports.gives.Goals as goal

pub returns-in-Some-clause-no : goal.returns-in-Some-clause-no
returns-in-Some-clause-no c stands =
    let types = c.args.all.types.now in
    let n = c.args.name.now in
    IfOk-weaker c.exports_taken.result _ _
    (λ yes f e g. let this = same_import (all_imports c.args.all) c.args.at g.interface c.in-Some.id g.import_is c.in-Some.ensures.found in
    f e (subst (λ (j : InterfaceId). IsTreeOf types (exports_of types j) n (tree_in types c.args.item)) this g.export_is)) (c.exports_taken.ensures.no stands)

pub returns-in-None-clause-no : goal.returns-in-None-clause-no
returns-in-None-clause-no c stands e g = c.in-None.ensures.none g.interface g.import_is
