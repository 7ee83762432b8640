use Rattle.std.proofs.Common.{◌∷◌, [], ◌++◌, refl, sym, subst}
use Rattle.std.proofs.lemmas.List.{append-nil}
use Rattle.wac_graph_scopes.specs.declared.core_items.ModuleScope.{ModuleScope}
use Rattle.wac_graph_scopes.specs.CoreItems.{GoesModule}
use Rattle.wac_graph_scopes.proofs.CoreLaws.{export_added}
use Rattle.wac_graph_scopes.proofs.core_items.ModuleScope.export.Goals as goal

pub returns-clause-written : goal.returns-clause-written
returns-clause-written c js fs g =
    let u : ModuleScope = record c.describe.new.self { declarations = c.push.new.self } in
    let d = c.in_ok-description.ensures.written g.0 js fs g.1 in
    let h = export_added c.describe.new.self u d.0 js fs d.1 c.in_ok-name.name c.in_ok-description.description c.args.item.now c.args.name.now d.2 c.in_ok-push.ensures.items refl c.in_ok-name.ensures.ok in
    subst (λ l. GoesModule u l (fs ++ (c.args.name.now, c.args.item.now) ∷ [])) (sym (append-nil js)) (d.0, h)
