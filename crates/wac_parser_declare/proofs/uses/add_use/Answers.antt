use Rattle.std.specs.Prelude.{⊤}
use Rattle.std.proofs.Common.{◌≡◌, Ok, Err, ap, is_none, is_some, sym, subst, true, Bool, ◌||◌, ◌∙◌}
use Rattle.wac_types_base.specs.declared.item.ExternKind.{ExternKind}
use Rattle.wac_types_base.specs.declared.item.ItemKind.{ItemKind}
use Rattle.wac_types_base.specs.declared.defined.UsedType.{UsedType}
use Rattle.wac_types_base.specs.Collection.{Stands}
use Rattle.wac_types_base.specs.Entries.{value_at}
use Rattle.wac_types_base.specs.Stated.{stated_of}
use Rattle.wac_parser_tree.specs.Trees as t
use Rattle.wac_parser_tree.specs.Views.{view_ident, view_use_item}
use Rattle.wac_parser_refusals.specs.Causes.{UseConflict}
use Rattle.wac_parser_refusals.specs.Outcomes.{Refuses}
use Rattle.wac_parser_refusals.proofs.Outcomes.{after_held, refused_outcome, then_refused}
use Rattle.wac_parser_declare.specs.Bodies as stated
use Rattle.wac_parser_declare.specs.Bodies.{with_use}
use Rattle.wac_parser_declare.specs.Held.{holder_of, stated_body}
use Rattle.wac_parser_declare.specs.Holding.{scope_of}
use Rattle.wac_parser_declare.specs.InBodies.{IsBody}
use Rattle.wac_parser_declare.specs.InUses.{use_added}
use Rattle.wac_parser_declare.specs.Scope.{Scope, bind}
use Rattle.wac_parser_declare.proofs.InBodies.{added_absent}
use Rattle.wac_parser_declare.proofs.InUses.{conflict_stated, use_more, use_new, use_taken}
use Rattle.wac_parser_declare.proofs.Standing.{added_stands, bound_stand}
use Rattle.wac_parser_declare.proofs.uses.add_use.Goals as goal
use Rattle.wac_parser_declare.proofs.uses.add_use.Goals.{then-contains-via-then-contains, then-contains-via-else-contains+then-contains-2}

pub returns-then-contains-clause-outcome : goal.returns-then-contains-clause-outcome
returns-then-contains-clause-outcome c d from typed =
    let b = c.args.body.now in
    let h = holder_of c.args.holder in
    let u = view_use_item c.args.item.now in
    let i = view_ident c.local_name-id.result in
    let e = c.use_conflict.result in
    let taken : (is_some (value_at b.items i.string) || is_some (value_at b.uses i.string)) ≡ true = elim c.then-contains.branch [
      | then-contains-via-then-contains w ↦ ap (λ (x : Bool). x || is_some (value_at b.uses i.string)) (sym c.contains.ensures ∙ w.if-contains.true)
      | then-contains-via-else-contains+then-contains-2 w ↦
          ap (λ (x : Bool). x || is_some (value_at b.uses i.string)) (sym c.contains.ensures ∙ w.if-contains.false) ∙ sym w.contains-else-contains.ensures ∙ w.if-contains-2.true
    ] in
    let refuses : Refuses e (UseConflict i.string h.kind (is_none u.as_id)) i.span =
    subst (λ (x : Bool). Refuses e (UseConflict i.string h.kind x) i.span) c.help_for.ensures
    (subst (λ (k : ExternKind). Refuses e (UseConflict i.string k (is_some c.help_for.result)) i.span) c.kind.ensures c.use_conflict.ensures) in
    use_taken h (stated_body d b) u from (stated_of d (ItemKind.Ty c.args.ty)) i c.local_name-id.ensures e (conflict_stated d b i.string ∙ taken) refuses

pub returns-in_err-bind-clause-outcome : goal.returns-in_err-bind-clause-outcome
returns-in_err-bind-clause-outcome c d from typed =
    let b = c.args.body.now in
    let s = stated_body d b in
    let u = view_use_item c.args.item.now in
    let i = view_ident c.local_name-id.result in
    let x = stated_of d (ItemKind.Ty c.args.ty) in
    let k : stated.Body → ⊤ → Type 0 = λ y v. IsBody d y (record { names = c.bind.new.names; uses = b.uses; items = b.items; exports = b.exports }) in
    let free = ap (λ (y : Bool). y || is_some (value_at b.uses i.string)) (sym c.contains.ensures ∙ c.if-contains.false) ∙ sym c.contains-else-contains.ensures ∙ c.if-contains-2.false in
    refused_outcome k (use_added (holder_of c.args.holder) s u from x) _ _ c.from_residual.ensures.1
    (use_new (holder_of c.args.holder) s u from x i c.local_name-id.ensures k (Err _) (conflict_stated d b i.string ∙ free)
    (then_refused (λ (ns : Scope). Ok (with_use s ns u from x)) (bind s.names i x) _ (c.in_err-bind.ensures.outcome d)))

pub returns-clause-outcome : goal.returns-clause-outcome
returns-clause-outcome c d from typed =
    let b = c.args.body.now in
    let s = stated_body d b in
    let u = view_use_item c.args.item.now in
    let i = view_ident c.local_name-id.result in
    let ty = ItemKind.Ty c.args.ty in
    let x = stated_of d ty in
    let used : UsedType = record { interface = c.args.interface; name = c.in_ok-name_there.field-0 } in
    let names = c.bind.new.names in
    let uses = c.add_new.new.entries in
    let items = c.add_new-2.new.entries in
    let k : stated.Body → ⊤ → Type 0 = λ y v. IsBody d y (record { names = names; uses = uses; items = items; exports = b.exports }) in
    let no_item = sym c.contains.ensures ∙ c.if-contains.false in
    let no_use = sym c.contains-else-contains.ensures ∙ c.if-contains-2.false in
    use_new (holder_of c.args.holder) s u from x i c.local_name-id.ensures k (Ok tt) (conflict_stated d b i.string ∙ ap (λ (y : Bool). y || is_some (value_at b.uses i.string)) no_item ∙ no_use)
    (after_held (λ (ns : Scope). Ok (with_use s ns u from x)) (λ (ns : Scope) (v : ⊤). scope_of d names ≡ ns) k (bind s.names i x) tt tt (c.in_ok-bind.ensures.outcome d)
    (λ ns e.
    use_more d b u from c.args.interface used.name ty i.string names uses items (ap (λ (j : t.Ident). j.string) c.local_name-id.ensures) c.in_ok-name_there.ensures typed
    (added_absent b.uses uses i.string used c.in_ok-add_new.field-0 no_use c.in_ok-add_new.ensures.added)
    (added_absent b.items items i.string ty c.in_ok-add_new-2.field-0 no_item c.in_ok-add_new-2.ensures.added)
    ∙ ap (λ (ms : Scope). with_use s ms u from x) e))

pub returns-clause-stands : goal.returns-clause-stands
returns-clause-stands c d s i h =
    let used : UsedType = record { interface = c.args.interface; name = c.in_ok-name_there.field-0 } in
    record {
      names = bound_stand d _ _ _ _ s.names h c.in_ok-bind.ensures.ok;
      uses = added_stands (λ (u : UsedType). Stands d (ItemKind.Instance u.interface)) c.args.body.now.uses c.add_new.new.entries c.local_name-id.result.string.now used c.in_ok-add_new.field-0 s.uses i c.in_ok-add_new.ensures.added;
      items = added_stands (Stands d) c.args.body.now.items c.add_new-2.new.entries c.local_name-id.result.string.now (ItemKind.Ty c.args.ty) c.in_ok-add_new-2.field-0 s.items h c.in_ok-add_new-2.ensures.added;
      exports = s.exports;
    }
