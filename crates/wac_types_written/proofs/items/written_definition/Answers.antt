use Rattle.std.proofs.Common.{subst, sym}
use Rattle.wac_types_base.specs.Collection.{Stands}
use Rattle.wac_types_base.specs.Stated.{stated_of}
use Rattle.wac_types_written.specs.Forms.{IsOf}
use Rattle.wac_types_written.specs.Written.{written_definition}
use Rattle.wac_types_written.proofs.Forming.{no_type, plain_definition}
use Rattle.wac_types_written.proofs.items.written_definition.Goals as goal

pub written_type-requires : goal.written_type-requires
written_type-requires c = subst (Stands c.args.types.now) c.in-Ty.is c.requires

pub returns-in-Ty-clause-written : goal.returns-in-Ty-clause-written
returns-in-Ty-clause-written c = subst (λ k. IsOf c.written_type.new.types (written_definition (stated_of c.args.types.now k)) c.in_ok-form.form) (sym c.in-Ty.is) c.in_ok-form.ensures.written

pub returns-clause-written : goal.returns-clause-written
returns-clause-written c = subst (λ x. IsOf c.written.new.types x c.in_ok-form-2.form) (sym (plain_definition c.args.types.now c.see_acyclic.ensures c.args.item c.requires (no_type c.args.item c.in_default.not-Ty))) c.in_ok-form-2.ensures.written
