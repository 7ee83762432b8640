use Rattle.std.proofs.Common.{◌∷◌, [], ◌++◌, refl, sym, ◌∙◌, subst, string_bytes}
use Rattle.std.proofs.lemmas.List.{append-nil}
use Rattle.wac_types_base.specs.Entries.{Name}
use Rattle.wac_graph_scopes.specs.declared.core_items.ModuleScope.{ModuleScope}
use Rattle.wac_graph_scopes.specs.CoreItems.{GoesModule}
use Rattle.wac_graph_scopes.proofs.CoreLaws.{import_added}
use Rattle.wac_graph_scopes.proofs.core_items.ModuleScope.import.Goals as goal

pub returns-clause-written : goal.returns-clause-written
returns-clause-written c js fs g =
    let u : ModuleScope = record c.describe.new.self { declarations = c.push.new.self } in
    let names : Name × Name = (string_bytes c.args.names.now.0, string_bytes c.args.names.now.1) in
    let d = c.in_ok-description.ensures.written g.0 js fs g.1 in
    let h = import_added c.describe.new.self u d.0 js fs d.1 c.in_ok-module.module c.in_ok-name.name c.in_ok-description.description c.args.item.now names d.2 c.in_ok-push.ensures.items refl
    (c.in_ok-module.ensures.ok ∙ c.as_str.ensures.value) (c.in_ok-name.ensures.ok ∙ c.as_str-2.ensures.value) in
    subst (λ l. GoesModule u (js ++ (names, c.args.item.now) ∷ []) l) (sym (append-nil fs)) (d.0, h)
