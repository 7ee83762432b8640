use Rattle.std.proofs.Common.{subst, sym}
use Rattle.wac_types_base.specs.declared.item.ItemKind.{ItemKind}
use Rattle.wac_types_base.specs.Copies.{interface_at}
use Rattle.wac_types_base.proofs.Standing.{interface_found}
use Rattle.wac_types_written.specs.Forms.{IsFormed, maker}
use Rattle.wac_types_written.proofs.Found.{found_formed}
use Rattle.wac_types_written.proofs.forms.Forms.interface.Goals as goal

pub returns : goal.returns
returns c =
    let t = c.args.types.now in
    subst (λ n. IsFormed (maker c.args.worlds) t (ItemKind.Instance c.args.id) (interface_at n c.in_ok-index.field-0.now)) (sym c.number.ensures)
    (found_formed (maker c.args.worlds) t interface_at c.args.self.now.interfaces c.requires.forms.interfaces c.args.id.collection c.args.id.index c.in_ok-index.field-0.now (interface_found t c.args.id c.requires.stands).own (sym c.in_ok-index.ensures.value))
