use Rattle.std.proofs.Common.{sym}
use Rattle.wac_writable.proofs.ItemLaws.{adds_resource, adds_other}
use Rattle.wac_writable.proofs.holder.Holder.add_resource.Goals as goal

pub returns-in-Some : goal.returns-in-Some
returns-in-Some c = adds_resource c.args.types.now c.see_acyclic.ensures c.args.kind c.in-Some.id c.root_name.result.now c.args.self.now c.add_root.new.self c.add_root.result (sym c.in-Some.ensures) c.requires c.root_name.ensures c.add_root.ensures

pub returns-in-None : goal.returns-in-None
returns-in-None c = adds_other c.args.types.now c.see_acyclic.ensures c.args.kind c.args.self.now (sym c.in-None.ensures)
