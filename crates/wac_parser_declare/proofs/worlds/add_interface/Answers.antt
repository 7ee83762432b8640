use Rattle.std.specs.Prelude.{⊤}
use Rattle.std.proofs.Common.{subst, sym, ◌∙◌}
use Rattle.wac_types_base.specs.declared.item.ItemKind.{ItemKind}
use Rattle.wac_types_base.specs.declared.item.«Type».{«Type» as TypeKind}
use Rattle.wac_types_base.specs.Entries.{Name}
use Rattle.wac_types_base.specs.Stated.{Stated, stated_of, untyped}
use Rattle.wac_parser_refusals.specs.Causes.{Answer}
use Rattle.wac_parser_refusals.specs.Outcomes.{IsOutcome}
use Rattle.wac_parser_declare.specs.Bodies as stated
use Rattle.wac_parser_declare.specs.Bodies.{Items}
use Rattle.wac_parser_declare.specs.Held.{stated_body}
use Rattle.wac_parser_declare.specs.InBodies.{IsBody}
use Rattle.wac_parser_declare.specs.InWorlds.{item_on, items_on, on_side}
use Rattle.wac_parser_declare.proofs.InWorlds.{named_added, type_identifier, type_untyped, unnamed_refused}
use Rattle.wac_parser_declare.proofs.Standing.{typed_interface}
use Rattle.wac_parser_declare.proofs.worlds.add_interface.Goals as goal

pub returns-in_default-clause-outcome : goal.returns-in_default-clause-outcome
returns-in_default-clause-outcome c =
    let d = c.args.types.now in
    let o = c.args.owner in
    let x = c.interface.ensures in
    unnamed_refused o.world.now o.kind (stated_body d c.args.body.now) c.args.span (stated_of d (ItemKind.Ty (TypeKind.Interface c.args.interface))) c.unwritable.result
    (type_identifier d x.acyclic c.args.interface c.interface.result.now x.entry x.own ∙ c.in_default.is) c.unwritable.ensures

pub returns-clause-outcome : goal.returns-clause-outcome
returns-clause-outcome c =
    let d = c.args.types.now in
    let o = c.args.owner in
    let i = c.args.interface in
    let x = c.interface.ensures in
    let b = stated_body d c.args.body.now in
    let ty = stated_of d (ItemKind.Ty (TypeKind.Interface i)) in
    let k : stated.Body → ⊤ → Type 0 = λ y u. IsBody d y c.add_extern.new.body in
    let r = c.add_extern.result in
    subst (λ (q : Answer Items). IsOutcome k (on_side o.kind b q) r)
    (sym (named_added o.world.now o.kind b c.args.span ty c.in-Some.id (type_identifier d x.acyclic i c.interface.result.now x.entry x.own ∙ c.in-Some.is)))
    (subst (λ (n : Name). IsOutcome k (on_side o.kind b (item_on o.world.now o.kind (items_on o.kind b) (record { string = n; span = c.args.span }) (untyped ty))) r) c.as_str.ensures
    (subst (λ (y : Stated). IsOutcome k (on_side o.kind b (item_on o.world.now o.kind (items_on o.kind b) (record { string = c.as_str.result.now; span = c.args.span }) y)) r)
    (sym (type_untyped d x.acyclic i (typed_interface d i c.requires.interface))) (c.add_extern.ensures.outcome d)))
