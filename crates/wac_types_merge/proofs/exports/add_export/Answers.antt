use Rattle.std.proofs.Common.{true, false, refl, sym, subst}
use Rattle.std.specs.Prelude.{string_bytes}
use Rattle.wac_types_base.specs.Entries.{IsNew}
use Rattle.wac_types_merge.proofs.Joining.{known_name, new_name, not_there}
use Rattle.wac_types_merge.proofs.exports.add_export.Goals as goal

pub returns-then-contains : goal.returns-then-contains
returns-then-contains c = known_name c.args.kept.now true c.args.name.now c.args.kind c.args.all.now c.if-contains.ensures refl

pub push-requires : goal.push-requires
push-requires c = subst (λ n. IsNew n c.args.all.now) (sym c.in_ok-from_str.ensures.ok) (c.requires (not_there c.args.kept.now false c.args.name.now c.if-contains.ensures refl))

pub returns : goal.returns
returns c = new_name c.args.kept.now false c.args.name.now (string_bytes c.in_ok-from_str.field-0) c.args.kind c.args.all.now c.push.new.self c.if-contains.ensures refl c.in_ok-from_str.ensures.ok c.in_ok-push.ensures.ok
