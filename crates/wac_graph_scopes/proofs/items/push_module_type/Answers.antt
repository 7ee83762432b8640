use Rattle.std.proofs.Common.{Some, sym, ap, subst, ◌∙◌}
use Rattle.wac_types_base.specs.declared.item.ItemKind.{ItemKind}
use Rattle.wac_types_fit.specs.Trees.{tree_in}
use Rattle.wac_types_fit.proofs.Unfolded.{module_tree}
use Rattle.std.proofs.lemmas.Result.{err_from_is_err_and, IfOk-weaker}
use Rattle.wac_graph_scopes.specs.CoreItems.{ModuleRefused}
use Rattle.wac_graph_scopes.proofs.RefusedLaws.{if_err_map}
use Rattle.wac_graph_scopes.proofs.WritingLaws.{core_reads, core_given}
use Rattle.wac_graph_scopes.proofs.items.push_module_type.Goals as goal

pub returns-clause-states : goal.returns-clause-states
returns-clause-states c w outer i h =
    let types = c.args.types.now in
    let t = tree_in types (ItemKind.Module c.args.id) in
    let m = c.module_type.result.now in
    let reads = c.in_ok-declarations.ensures.written ∙ ap Some (sym (module_tree types c.module_type.ensures.acyclic c.args.id m c.module_type.ensures.entry c.module_type.ensures.own)) in
    IfOk-weaker c.add_core.result _ _ (λ k a. core_given w types outer i t c.add_core.new.self k a) (c.add_core.ensures.adds w types outer i t h (core_reads w outer i c.in_ok-declarations.declarations t reads))

pub returns-in_err-declarations-clause-refused : goal.returns-in_err-declarations-clause-refused
returns-in_err-declarations-clause-refused c stands =
    let p = err_from_is_err_and c.from_residual.result c.from_residual.ensures.1 in
    rw (p.1, p.2) (c.module_type.result.now, c.module_type.ensures.entry, c.in_err-declarations.ensures.refused)

pub returns-clause-refused : goal.returns-clause-refused
returns-clause-refused c stands = if_err_map c.add_core.result (λ e is. (c.module_type.result.now, c.module_type.ensures.entry, subst (ModuleRefused c.module_type.result.now) (sym is) tt)) c.add_core.ensures.refused
