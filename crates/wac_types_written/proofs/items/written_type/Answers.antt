use Rattle.std.proofs.Common.{◌∙◌, subst, sym}
use Rattle.wac_types_base.specs.declared.item.ItemKind.{ItemKind}
use Rattle.wac_types_base.specs.Collection.{Stands}
use Rattle.wac_types_base.specs.Stated.{stated_of}
use Rattle.wac_types_base.proofs.Adding.{Grows-refl}
use Rattle.wac_types_written.specs.Forms.{IsOf}
use Rattle.wac_types_written.specs.Written.{component_type, written_definition}
use Rattle.wac_types_written.proofs.Forming.{other_no_type, other_type, plain_definition}
use Rattle.wac_types_written.proofs.Ids.{other_formed}
use Rattle.wac_types_written.proofs.items.written_type.Goals as goal

pub written_interface-requires : goal.written_interface-requires
written_interface-requires c = subst (λ ty. Stands c.args.types.now (ItemKind.Ty ty)) c.in-Interface.is c.requires

pub written_world-requires : goal.written_world-requires
written_world-requires c = subst (λ ty. Stands c.args.types.now (ItemKind.Ty ty)) c.in-World.is c.requires

pub returns-in_ok-item-in-Interface-clause-written : goal.returns-in_ok-item-in-Interface-clause-written
returns-in_ok-item-in-Interface-clause-written c = subst (λ ty. IsOf c.written_interface.new.types (written_definition (stated_of c.args.types.now (ItemKind.Ty ty))) c.in_ok-item-in-Interface.item) (sym c.in-Interface.is) c.in_ok-item-in-Interface.ensures.written

pub returns-in_ok-item-in-World-clause-written : goal.returns-in_ok-item-in-World-clause-written
returns-in_ok-item-in-World-clause-written c = subst (λ ty. IsOf c.written_world.new.types (written_definition (stated_of c.args.types.now (ItemKind.Ty ty))) c.in_ok-item-in-World.item) (sym c.in-World.is) c.in_ok-item-in-World.ensures.written

pub returns-in_default-clause-written : goal.returns-in_default-clause-written
returns-in_default-clause-written c =
    let types = c.args.types.now in
    let o = other_type c.args.ty c.in_default.not-Interface c.in_default.not-World in
    record {
      stands = c.requires;
      states = sym (plain_definition types c.see_acyclic.ensures (ItemKind.Ty c.args.ty) c.requires (other_no_type c.args.ty o) ∙ other_formed types c.see_acyclic.ensures component_type (ItemKind.Ty c.args.ty) c.requires o);
    }

pub returns-in_default-clause-grows : goal.returns-in_default-clause-grows
returns-in_default-clause-grows c = Grows-refl c.args.types.now c.see_acyclic.ensures
