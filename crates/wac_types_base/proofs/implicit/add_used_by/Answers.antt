use Rattle.std.proofs.Common.{◌≡◌, ◌+◌, ◌∙◌, drop, get_or, slice_get, Some, sym, ap, subst}
use Rattle.std.proofs.lemmas.Result.{err_from_is_err_and}
use Rattle.wac_types_base.specs.declared.item.ItemKind.{ItemKind}
use Rattle.wac_types_base.specs.declared.item.«Type».{«Type» as TypeKind}
use Rattle.wac_types_base.specs.Collection.{Stands}
use Rattle.wac_types_base.specs.Graph.{Among}
use Rattle.wac_types_base.specs.Implicit.{by_identifier, all_uses, then_on, shown}
use Rattle.wac_types_base.proofs.Copying.{get_or-Among}
use Rattle.wac_types_base.proofs.Used.{interface_uses_stand, no_uses, place_or, all_step, uses_of}
use Rattle.wac_types_base.proofs.implicit.add_used_by.Goals as goal
use Rattle.wac_types_base.proofs.implicit.add_used_by.Goals.{in-Instance+in_ok-add_used, in_default}

pub interface-requires : goal.interface-requires
interface-requires c = subst (λ k. Stands c.args.types.now k) c.in-Instance.is (c.requires _ (get_or-Among c.args.imports.now c.loop-kind.kind-index _ c.loop-kind-test.true))

pub add_used-requires : goal.add_used-requires
add_used-requires c u m = interface_uses_stand c.args.types.now c.interface.ensures.acyclic c.in-Instance.id c.interface.result.now c.interface.ensures.entry c.interface.ensures.own u (subst (λ l. Among u l) c.values.ensures m)

pub returns-in_err-add_used-clause-err : goal.returns-in_err-add_used-clause-err
returns-in_err-add_used-clause-err c =
    let p = err_from_is_err_and c.from_residual.result c.from_residual.ensures.1 in
    rw p.1
    (λ e.
    let at : slice_get c.args.imports.now c.loop-kind.kind-index ≡ Some (ItemKind.Instance c.in-Instance.id) = place_or c.args.imports.now c.loop-kind.kind-index _ c.loop-kind-test.true ∙ ap Some c.in-Instance.is in
    let rest = all_uses c.args.types.now (drop (c.loop-kind.kind-index + 1) c.args.imports.now) in
    c.loop-kind.invariant ∙ all_step c.args.types.now (shown c.loop-kind.found.entries) c.args.imports.now c.loop-kind.kind-index (ItemKind.Instance c.in-Instance.id) at
    ∙ ap (λ us. then_on (by_identifier c.args.types.now (shown c.loop-kind.found.entries) us) (λ fs. by_identifier c.args.types.now fs rest)) (uses_of c.args.types.now c.in-Instance.id c.interface.result.now c.values.result.now c.interface.ensures.entry c.values.ensures)
    ∙ ap (λ o. then_on o (λ fs. by_identifier c.args.types.now fs rest)) (c.in_err-add_used.ensures.err (sym p.2 ∙ e)))

pub loop-kind-preserved : goal.loop-kind-preserved
loop-kind-preserved c =
    let ks = c.args.imports.now in
    let i = c.loop-kind.kind-index in
    let t = c.args.types.now in
    let es = shown c.loop-kind.found.entries in
    let rest = all_uses t (drop (i + 1) ks) in
    elim c.match-kind.branch [
      | in-Instance+in_ok-add_used w ↦
          let at : slice_get ks i ≡ Some (ItemKind.Instance w.in-Instance.id) = place_or ks i _ c.loop-kind-test.true ∙ ap Some w.in-Instance.is in
          c.loop-kind.invariant ∙ all_step t es ks i (ItemKind.Instance w.in-Instance.id) at
          ∙ ap (λ us. then_on (by_identifier t es us) (λ fs. by_identifier t fs rest)) (uses_of t w.in-Instance.id w.interface.result.now w.values.result.now w.interface.ensures.entry w.values.ensures)
          ∙ ap (λ o. then_on o (λ fs. by_identifier t fs rest)) w.in_ok-add_used.ensures.ok
          ∙ ap (λ m. by_identifier t (shown m.entries) rest) (sym w.found-is)
      | in_default w ↦
          let k = get_or ks i (ItemKind.Ty (TypeKind.Resource (record { collection = 0; index = 0 }))) in
          c.loop-kind.invariant ∙ all_step t es ks i k (place_or ks i _ c.loop-kind-test.true)
          ∙ ap (λ us. then_on (by_identifier t es us) (λ fs. by_identifier t fs rest)) (no_uses t k w.in_default.not-Instance)
          ∙ ap (λ m. by_identifier t (shown m.entries) rest) (sym w.found-is)
    ]
