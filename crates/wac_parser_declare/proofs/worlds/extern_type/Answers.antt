use Rattle.std.proofs.Common.{◌≡◌, ◌++◌, ap, subst, sym}
use Rattle.wac_types_base.specs.Record.{Collection}
use Rattle.wac_types_base.specs.Stated.{Stated, kind_of, stated_of}
use Rattle.wac_parser_tree.specs.declared.world.ExternType.{ExternType}
use Rattle.wac_parser_tree.specs.Views.{view_extern_type, view_ident}
use Rattle.wac_parser_refusals.specs.Causes.{Answer, pure}
use Rattle.wac_parser_refusals.specs.Outcomes.{IsHeld, IsOutcome, IsRefusal}
use Rattle.wac_parser_refusals.proofs.Outcomes.{after_held, after_outcome, refused_outcome, then_refused}
use Rattle.wac_parser_declare.specs.declared.scope.Binding.{Binding}
use Rattle.wac_parser_declare.specs.Holding.{Holds, meant_by, scope_of}
use Rattle.wac_parser_declare.specs.Scope.{Meant, Scope, meant, named}
use Rattle.wac_parser_declare.specs.Worlds.{extern_by, extern_type}
use Rattle.wac_parser_declare.proofs.worlds.extern_type.Goals as goal

pub returns-in_err-binding-in-Ident-clause-outcome : goal.returns-in_err-binding-in-Ident-clause-outcome
returns-in_err-binding-in-Ident-clause-outcome g c x s =
    let old = g.T.GrowingTypes.collection c.args.types.now in
    let ns = scope_of old c.args.names.now in
    let i = view_ident c.in-Ident.id in
    let item : Meant → Answer Stated = λ m. pure m.item in
    let e = c.in_err-binding-in-Ident.field-0.0 in
    refused_outcome (Holds old) (extern_type x ns (view_extern_type c.args.ty.now)) _ _ c.from_residual.ensures.1
    (subst (λ (t : ExternType). IsRefusal (extern_type x ns (view_extern_type t)) e) (sym c.in-Ident.is)
    (then_refused (λ (y : Stated). extern_by (kind_of y) i y) (named (ns ++ x.root) i) e
    (then_refused item (meant (ns ++ x.root) i) e
    (subst (λ (r : Scope). IsRefusal (meant (ns ++ r) i) e) (sym s.root) (c.in_err-binding-in-Ident.ensures.outcome old)))))

pub returns-in_ok-binding-in-Ident-clause-outcome : goal.returns-in_ok-binding-in-Ident-clause-outcome
returns-in_ok-binding-in-Ident-clause-outcome g c x s =
    let old = g.T.GrowingTypes.collection c.args.types.now in
    let ns = scope_of old c.args.names.now in
    let i = view_ident c.in-Ident.id in
    let b = c.in_ok-binding-in-Ident.binding in
    let r = c.extern_of.result in
    let is_meant : Meant → Binding → Type 0 = λ m d. meant_by old d ≡ m in
    let is_item : Stated → Binding → Type 0 = λ y d. stated_of old d.kind ≡ y in
    let item : Meant → Answer Stated = λ m. pure m.item in
    let by : Stated → Answer Stated = λ y. extern_by (kind_of y) i y in
    let found : IsHeld is_meant (meant (ns ++ x.root) i) b =
    subst (λ (root : Scope). IsHeld is_meant (meant (ns ++ root) i) b) (sym s.root) (c.in_ok-binding-in-Ident.ensures.outcome old) in
    let answered : IsOutcome (Holds old) (by (stated_of old b.kind)) r =
    subst (λ (e : Collection). IsOutcome (Holds e) (by (stated_of e b.kind)) r) c.types-in-Ident.ensures c.extern_of.ensures.outcome in
    subst (λ (t : ExternType). IsOutcome (Holds old) (extern_type x ns (view_extern_type t)) r) (sym c.in-Ident.is)
    (after_outcome by is_item (Holds old) (named (ns ++ x.root) i) b r
    (after_held item is_meant is_item (meant (ns ++ x.root) i) b b found (λ m h. ap (λ (n : Meant). n.item) h))
    (λ y h. subst (λ (z : Stated). IsOutcome (Holds old) (by z) r) h answered))
