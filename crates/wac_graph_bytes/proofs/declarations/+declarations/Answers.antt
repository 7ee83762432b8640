use Rattle.std.proofs.Common.{arith}
use Rattle.std.proofs.lemmas.Grind.{common_steps}
use Rattle.wac_graph_bytes.proofs.Rows.{all_written, one_unfit, too_many, component_written, instance_written, component_unfit, instance_unfit}
use Rattle.wac_graph_bytes.proofs.declarations.+declarations.Goals as goal

pub push_declaration-returns-in_err-push_declarations-in-ComponentType :
    goal.push_declaration-returns-in_err-push_declarations-in-ComponentType
push_declaration-returns-in_err-push_declarations-in-ComponentType t c =
    let u = component_unfit c.in-ComponentType.inner c.deref-in-ComponentType.result.now c.args.d.now c.deref-in-ComponentType.ensures.value c.in-ComponentType.is in
    grind (arith, common_steps, u)

pub push_declaration-returns-in_err-push_declarations-in-InstanceType :
    goal.push_declaration-returns-in_err-push_declarations-in-InstanceType
push_declaration-returns-in_err-push_declarations-in-InstanceType t c =
    let u = instance_unfit c.in-InstanceType.inner c.deref-in-InstanceType.result.now c.args.d.now c.deref-in-InstanceType.ensures.value c.in-InstanceType.is in
    grind (arith, common_steps, u)

pub push_declaration-returns-in_ok-push_declarations-in-ComponentType :
    goal.push_declaration-returns-in_ok-push_declarations-in-ComponentType
push_declaration-returns-in_ok-push_declarations-in-ComponentType t c =
    component_written c.args.out.now.items c.push-in-ComponentType.new.self.items c.push-in-ComponentType-2.new.self.items c.push_declarations.new.out.items c.in-ComponentType.inner c.deref-in-ComponentType.result.now c.args.d.now
    c.in_ok-push-in-ComponentType.ensures.items c.in_ok-push-in-ComponentType-2.ensures.items c.deref-in-ComponentType.ensures.value c.in-ComponentType.is c.in_ok-push_declarations-in-ComponentType.ensures

pub push_declaration-returns-in_ok-push_declarations-in-InstanceType :
    goal.push_declaration-returns-in_ok-push_declarations-in-InstanceType
push_declaration-returns-in_ok-push_declarations-in-InstanceType t c =
    instance_written c.args.out.now.items c.push-in-InstanceType.new.self.items c.push-in-InstanceType-2.new.self.items c.push_declarations-in-InstanceType.new.out.items c.in-InstanceType.inner c.deref-in-InstanceType.result.now c.args.d.now
    c.in_ok-push-in-InstanceType.ensures.items c.in_ok-push-in-InstanceType-2.ensures.items c.deref-in-InstanceType.ensures.value c.in-InstanceType.is c.in_ok-push_declarations-in-InstanceType.ensures

pub push_declarations-returns-in_err-push_unsigned :
    goal.push_declarations-returns-in_err-push_unsigned
push_declarations-returns-in_err-push_unsigned t c = grind (arith, common_steps, too_many)

pub push_declarations-returns-in_err-push_declaration :
    goal.push_declarations-returns-in_err-push_declaration
push_declarations-returns-in_err-push_declaration t c = grind (arith, common_steps, one_unfit)

pub push_declarations-returns : goal.push_declarations-returns
push_declarations-returns t c = all_written c.args.out.now.items c.loop-d.out.items c.args.ds.now c.loop-d.d-index c.loop-d-test.false c.loop-d.invariant.bytes c.loop-d.invariant.count_fits c.loop-d.invariant.all_fit
