use Rattle.wac_types_base.specs.Copies.{interface_at}
use Rattle.wac_types_base.proofs.Standing.{interface_found}
use Rattle.wac_types_written.specs.Forms.{maker}
use Rattle.wac_types_written.proofs.Found.{each_more}
use Rattle.wac_types_written.proofs.forms.Forms.keep_interface.Goals as goal

pub returns : goal.returns
returns c =
    let t = c.args.types.now in
    record {
      interfaces = each_more (maker c.args.worlds) t interface_at c.args.self.now.interfaces c.requires.forms.interfaces c.insert.new.self c.args.id.collection c.args.id.index c.args.form.collection c.args.form.index
          (interface_found t c.args.id c.requires.stands).own (interface_found t c.args.form c.requires.formed.stands).own c.in_ok-insert.ensures.updates c.requires.stands c.requires.formed;
      worlds = c.requires.forms.worlds;
    }
