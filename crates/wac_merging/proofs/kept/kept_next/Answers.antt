use Rattle.std.proofs.lemmas.Result.{err_from_is_err_and}
use Rattle.wac_merging.proofs.Keeping.{next_kept, nothing_kept, next_told}
use Rattle.wac_merging.proofs.kept.kept_next.Goals as goal

pub returns-clause-next : goal.returns-clause-next
returns-clause-next c =
    next_kept c.args.types.now c.see_acyclic.ensures c.args.before c.args.family c.args.asked_family c.joint_family-joint.result c.args.asked c.joint_family-joint.ensures
    c.kept_of.new.own c.in_ok-item.item c.in_ok-item.ensures.kept c.in_ok-item.ensures.united c.in_ok-item.ensures.narrower c.in_ok-item.ensures.grows

pub returns-in_err-item-clause-nothing : goal.returns-in_err-item-clause-nothing
returns-in_err-item-clause-nothing c =
    let p = err_from_is_err_and c.from_residual.result c.from_residual.ensures.1 in
    rw (p.1, p.2)
    (nothing_kept c.args.types.now c.see_acyclic.ensures c.args.before c.args.family c.args.asked_family c.joint_family-joint.result c.args.asked c.joint_family-joint.ensures
    c.in_err-item.field-0.0 c.in_err-item.ensures.refused)

pub returns-in_err-item-clause-tells : goal.returns-in_err-item-clause-tells
returns-in_err-item-clause-tells c =
    let p = err_from_is_err_and c.from_residual.result c.from_residual.ensures.1 in
    rw (p.1, p.2)
    (next_told c.args.types.now c.see_acyclic.ensures c.args.before c.args.family c.args.asked_family c.joint_family-joint.result c.args.asked c.joint_family-joint.ensures
    c.in_err-item.field-0.0 c.in_err-item.ensures.refused c.in_err-item.ensures.frames)
