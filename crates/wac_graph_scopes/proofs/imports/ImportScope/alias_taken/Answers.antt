use Rattle.std.proofs.Common.{◌∷◌, sym, subst}
use Rattle.std.proofs.lemmas.Result.{IfOk-weaker}
use Rattle.wac_types_fit.specs.Trees.{tree_in}
use Rattle.wac_graph_scopes.specs.Imports.{HasAlias}
use Rattle.wac_graph_scopes.proofs.UsedLaws.{notable}
use Rattle.wac_graph_scopes.proofs.ImportLaws.{world_noted}
use Rattle.wac_graph_scopes.specs.ItemRefusals.{RefusedUse}
use Rattle.wac_graph_scopes.proofs.RefusedLaws.{if_err_map}
use Rattle.wac_graph_scopes.proofs.imports.ImportScope.alias_taken.Goals as goal

pub returns-in-Some-clause-keeps : goal.returns-in-Some-clause-keeps
returns-in-Some-clause-keeps c w outer i imported exported h =
    let types = c.args.all.types.now in
    let item = c.args.item in
    let mid = c.alias_of.new.self in
    let a = subst (HasAlias w types outer c.args.all.world i mid imported exported (tree_in types item)) c.in-Some.is (c.in_ok-found.ensures.aliases c.requires.stands c.requires.kind w outer i imported exported h) in
    let j = a.goes.writing.inside in
    IfOk-weaker c.note.result _ _ (λ u s. world_noted w types outer c.args.all.world imported exported i mid c.note.new.self a.goes a.on s)
    (c.note.ensures.notes w outer j a.goes.writing.stands (notable w types (j.here ∷ outer) item c.in-Some.index c.requires.stands a.index))

pub returns-in-None-clause-keeps : goal.returns-in-None-clause-keeps
returns-in-None-clause-keeps c w outer i imported exported h =
    let a = c.in_ok-found.ensures.aliases c.requires.stands c.requires.kind w outer i imported exported h in
    record { goes = a.goes; on = a.on }

pub returns-in-Some-clause-refused : goal.returns-in-Some-clause-refused
returns-in-Some-clause-refused c = if_err_map c.note.result (λ e is. subst (RefusedUse c.args.all.types.now c.args.used) (sym is) tt) c.note.ensures.refused
