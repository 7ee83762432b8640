use Rattle.wac_types_base.specs.Copies.{world_at}
use Rattle.wac_types_base.proofs.Standing.{world_found}
use Rattle.wac_types_written.specs.Forms.{maker}
use Rattle.wac_types_written.proofs.Found.{each_more}
use Rattle.wac_types_written.proofs.forms.Forms.keep_world.Goals as goal

pub returns : goal.returns
returns c =
    let t = c.args.types.now in
    record {
      interfaces = c.requires.forms.interfaces;
      worlds = each_more (maker c.args.worlds) t world_at c.args.self.now.worlds c.requires.forms.worlds c.insert.new.self c.args.id.collection c.args.id.index c.args.form.collection c.args.form.index
          (world_found t c.args.id c.requires.stands).own (world_found t c.args.form c.requires.formed.stands).own c.in_ok-insert.ensures.updates c.requires.stands c.requires.formed;
    }
