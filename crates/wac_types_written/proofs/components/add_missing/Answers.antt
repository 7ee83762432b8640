use Rattle.std.proofs.Common.{◌≡◌, ◌∙◌, false, is_some, subst, sym}
use Rattle.std.specs.Prelude.{string_bytes}
use Rattle.wac_types_base.specs.Entries.{IsNew, value_at}
use Rattle.wac_types_written.specs.Components.{AddsMissing}
use Rattle.wac_types_written.proofs.Typing.{missing_added, missing_there}
use Rattle.wac_types_written.proofs.components.add_missing.Goals as goal

pub push-requires : goal.push-requires
push-requires c = subst (λ n. IsNew n c.args.all.now) (sym c.in_ok-from_str.ensures.ok) c.requires.new

pub returns-clause-added : goal.returns-clause-added
returns-clause-added c =
    let none : is_some (value_at c.args.imports.now c.args.name.now) ≡ false = sym c.contains.ensures ∙ c.if-contains.false in
    subst (AddsMissing c.args.types.now c.add_types_only.new.types (c.args.name.now, c.args.id) c.args.imports.now c.args.all.now) (sym c.in_ok-push.ensures.ok)
    (missing_added c.args.types.now c.add_types_only.new.types c.in_ok-only.ensures.grows c.args.name.now (string_bytes c.in_ok-from_str.field-0) c.args.id c.in_ok-only.only c.args.imports.now c.args.all.now c.requires.stand none c.in_ok-from_str.ensures.ok c.in_ok-only.ensures.only)

pub returns-then-contains-clause-added : goal.returns-then-contains-clause-added
returns-then-contains-clause-added c =
    missing_there c.args.types.now c.args.name.now c.args.id c.args.imports.now c.args.all.now c.requires.stand (sym c.contains.ensures ∙ c.if-contains.true)
