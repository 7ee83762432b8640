use Rattle.std.proofs.Common.{◌∙◌, refl, sym, ap, subst}
use Rattle.std.proofs.lemmas.Result.{err_from_is_err_and}
use Rattle.wac_types_base.specs.Entries.{values_of}
use Rattle.wac_types_base.specs.Graph.{Among}
use Rattle.wac_types_base.specs.Implicit.{by_identifier, used_interfaces, all_uses, then_on, shown}
use Rattle.wac_types_base.proofs.Used.{world_uses_stand, world_imports_stand, implicit_step}
use Rattle.wac_types_base.proofs.defined.World.implicit_imported_interfaces.Goals as goal

pub add_used-requires : goal.add_used-requires
add_used-requires c u m = world_uses_stand c.args.types.now c.args.self.now c.requires u (subst (λ l. Among u l) c.values.ensures m)

pub add_used_by-requires : goal.add_used_by-requires
add_used_by-requires c k m = world_imports_stand c.args.types.now c.args.self.now c.requires k (subst (λ l. Among k l) c.values-2.ensures m)

pub returns-in_err-add_used-clause-err : goal.returns-in_err-add_used-clause-err
returns-in_err-add_used-clause-err c =
    let p = err_from_is_err_and c.from_residual.result c.from_residual.ensures.1 in
    let t = c.args.types.now in
    rw p.1
    (λ e.
    implicit_step t c.args.self.now c.values.result.now (values_of c.args.self.now.imports) c.values.ensures refl
    ∙ ap (λ es. then_on (by_identifier t es (used_interfaces c.values.result.now)) (λ fs. by_identifier t fs (all_uses t (values_of c.args.self.now.imports)))) (sym (ap shown c.new-found.ensures.empty))
    ∙ ap (λ o. then_on o (λ fs. by_identifier t fs (all_uses t (values_of c.args.self.now.imports)))) (c.in_err-add_used.ensures.err (sym p.2 ∙ e)))

pub returns-in_err-add_used_by-clause-err : goal.returns-in_err-add_used_by-clause-err
returns-in_err-add_used_by-clause-err c =
    let p = err_from_is_err_and c.from_residual-in_err-add_used_by.result c.from_residual-in_err-add_used_by.ensures.1 in
    let t = c.args.types.now in
    let ks = c.values-2.result.now in
    rw p.1
    (λ e.
    implicit_step t c.args.self.now c.values.result.now ks c.values.ensures c.values-2.ensures
    ∙ ap (λ es. then_on (by_identifier t es (used_interfaces c.values.result.now)) (λ fs. by_identifier t fs (all_uses t ks))) (sym (ap shown c.new-found.ensures.empty))
    ∙ ap (λ o. then_on o (λ fs. by_identifier t fs (all_uses t ks))) c.in_ok-add_used.ensures.ok
    ∙ c.in_err-add_used_by.ensures.err (sym p.2 ∙ e))

pub returns-clause-ok : goal.returns-clause-ok
returns-clause-ok c =
    let t = c.args.types.now in
    let ks = c.values-2.result.now in
    implicit_step t c.args.self.now c.values.result.now ks c.values.ensures c.values-2.ensures
    ∙ ap (λ es. then_on (by_identifier t es (used_interfaces c.values.result.now)) (λ fs. by_identifier t fs (all_uses t ks))) (sym (ap shown c.new-found.ensures.empty))
    ∙ ap (λ o. then_on o (λ fs. by_identifier t fs (all_uses t ks))) c.in_ok-add_used.ensures.ok
    ∙ c.in_ok-add_used_by.ensures.ok
