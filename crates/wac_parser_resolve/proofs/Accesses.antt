-- Accesses, step by step.
use Rattle.std.proofs.Common.{◌≡◌, ℕ, ◌<◌, ◌≤◌, ◌+◌, List, ◌∷◌, map, get_or, drop, length, Some, Ok, Err, refl, sym, ap, subst, ◌∙◌}
use Rattle.std.specs.Prelude.{slice_get, Result}
use Rattle.std.proofs.lemmas.List.{drop_more, drop_all}
use Rattle.wac_types_base.specs.declared.item.ItemKind.{ItemKind}
use Rattle.wac_types_base.specs.declared.ids.InterfaceId.{InterfaceId}
use Rattle.wac_types_base.specs.declared.defined.Interface.{Interface}
use Rattle.wac_types_base.specs.Record.{Collection}
use Rattle.wac_types_base.specs.Collection.{IsAcyclic}
use Rattle.wac_types_base.specs.Entries.{Name, names_of}
use Rattle.wac_types_base.specs.Stated.{Stated, exports_of, stated_of}
use Rattle.wac_types_base.proofs.Loops.{names-with_values}
use Rattle.wac_parser_tree.specs.Trees.{Span}
use Rattle.wac_parser_tree.specs.declared.expr.AccessExpr.{AccessExpr}
use Rattle.wac_parser_tree.specs.declared.expr.NamedAccessExpr.{NamedAccessExpr}
use Rattle.wac_parser_tree.specs.declared.expr.PostfixExpr.{PostfixExpr}
use Rattle.wac_parser_tree.specs.declared.expr.PostfixExpr.TheVariants as postfix_expr
use Rattle.wac_parser_tree.specs.Views.{view_postfix_expr}
use Rattle.wac_parser_refusals.specs.declared.refusal.Refusal.{Refusal}
use Rattle.wac_parser_refusals.specs.declared.error.InstanceOperation.{InstanceOperation}
use Rattle.wac_parser_refusals.specs.Causes.{Answer, ◌>>=◌, ◌>>◌}
use Rattle.wac_parser_refusals.specs.Outcomes.{IsHeld, IsOutcome, IsRefusal}
use Rattle.wac_parser_refusals.proofs.Outcomes.{then_refused}
use Rattle.wac_parser_declare.specs.Holding.{Holds}
use Rattle.wac_parser_declare.proofs.Exports.{instance_exports}
use Rattle.wac_parser_resolve.specs.Ascribing.{Denoted, State}
use Rattle.wac_parser_tree.specs.Accessors.{postfix_expr_span as postfix_span}
use Rattle.wac_parser_resolve.specs.Denoting.{access, accesses, export_named, needs_instance, spoken}
use Rattle.wac_parser_resolve.specs.Matching.{matched}

-- ---- the names of an instance's exports

module _ (c : Collection) (a : IsAcyclic c) (t : Stated) (i : InterfaceId) (x : Interface) where
  pub export_names : Holds c t (ItemKind.Instance i) → slice_get c.interfaces i.index ≡ Some x → i.collection ≡ c.number → names_of (exports_of t) ≡ names_of x.exports
  export_names h at own =
      ap (λ (u : Stated). names_of (exports_of u)) (sym h.same) ∙ ap (λ (es : List (Name × Stated)). names_of es) (instance_exports c a i x at own) ∙ names-with_values (stated_of c) x.exports

-- what holds of what is answered, whatever was stated
pub held_any : {A B : Type 0} (q : Answer A) (P : B → Type 0) (b : B) → IsHeld (λ u. P) q b → P b
held_any (Ok u) P b h = h
held_any (Err c) P b h = absurd h

pub held_as : {A B C : Type 0} (q : Answer A) (P : B → Type 0) (Q : C → Type 0) (b : B) (d : C) → IsHeld (λ u. P) q b → (P b → Q d) → IsHeld (λ u. Q) q d
held_as (Ok u) P Q b d h f = f h
held_as (Err c) P Q b d h f = absurd h

-- ---- one access

module _ (H : State × Denoted → ℕ → Type 0) (before at : Span) (s : State) (d : Denoted) (p : PostfixExpr) (same : at ≡ postfix_span (view_postfix_expr p)) (r : Result ℕ Refusal) where
  -- by a text
  pub access_named : (x : NamedAccessExpr) → p ≡ postfix_expr.NamedAccess x → IsOutcome H (needs_instance d InstanceOperation.Access before >> spoken s (export_named d x.string.value.now at)) r
      → IsOutcome H (access before s d (view_postfix_expr p)) r
  access_named x is h =
      let span : at ≡ x.span = same ∙ ap (λ (q : PostfixExpr). postfix_span (view_postfix_expr q)) is in
      subst (λ (q : PostfixExpr). IsOutcome H (access before s d (view_postfix_expr q)) r) (sym is)
      (subst (λ (a : Span). IsOutcome H (needs_instance d InstanceOperation.Access before >> spoken s (export_named d x.string.value.now a)) r) span h)

  -- by the name that is meant
  pub access_meant : (x : AccessExpr) (n : Name) → p ≡ postfix_expr.Access x → n ≡ matched x.id.string.now (names_of (exports_of d.item))
      → IsOutcome H (needs_instance d InstanceOperation.Access before >> spoken s (export_named d n at)) r → IsOutcome H (access before s d (view_postfix_expr p)) r
  access_meant x n is meant h =
      let span : at ≡ x.span = same ∙ ap (λ (q : PostfixExpr). postfix_span (view_postfix_expr q)) is in
      subst (λ (q : PostfixExpr). IsOutcome H (access before s d (view_postfix_expr q)) r) (sym is)
      (subst (λ (a : Span). IsOutcome H (needs_instance d InstanceOperation.Access before >> spoken s (export_named d (matched x.id.string.now (names_of (exports_of d.item))) a)) r) span
      (subst (λ (m : Name). IsOutcome H (needs_instance d InstanceOperation.Access before >> spoken s (export_named d m at)) r) meant h))

-- ---- one behind the other

module _ (ps : List PostfixExpr) (i : ℕ) (other : PostfixExpr) (lt : i < length ps) where
  abbrev p : PostfixExpr
  p = get_or ps i other

  left : drop i ps ≡ p ∷ drop (i + 1) ps
  left = drop_more ps i other lt

  -- a step that gives a node
  pub access_next : {B : Type 0} (h : State × Denoted → B → Type 0) (before : Span) (s : State) (d : Denoted) (b : B) → IsHeld h (access before s d (view_postfix_expr p)) b
      → (q : State × Denoted) × h q b × (accesses before s d (map view_postfix_expr (drop i ps)) ≡ accesses (postfix_span (view_postfix_expr p)) q.0 q.1 (map view_postfix_expr (drop (i + 1) ps)))
  access_next h before s d b x = go (access before s d (view_postfix_expr p)) refl x
    where
      rest : State × Denoted → Answer (State × Denoted)
      rest q = accesses (postfix_span (view_postfix_expr p)) q.0 q.1 (map view_postfix_expr (drop (i + 1) ps))

      whole : accesses before s d (map view_postfix_expr (drop i ps)) ≡ (access before s d (view_postfix_expr p) >>= rest)
      whole = ap (λ (qs : List PostfixExpr). accesses before s d (map view_postfix_expr qs)) left

      go : (r : Answer (State × Denoted)) → access before s d (view_postfix_expr p) ≡ r → IsHeld h r b → (q : State × Denoted) × h q b × (accesses before s d (map view_postfix_expr (drop i ps)) ≡ rest q)
      go (Ok q) e y = (q, y, whole ∙ ap (λ (r : Answer (State × Denoted)). r >>= rest) e)
      go (Err c) e y = absurd y

  -- a step that is refused
  pub access_stops : (before : Span) (s : State) (d : Denoted) (e : Refusal) → IsRefusal (access before s d (view_postfix_expr p)) e → IsRefusal (accesses before s d (map view_postfix_expr (drop i ps))) e
  access_stops before s d e x =
      subst (λ (qs : List PostfixExpr). IsRefusal (accesses before s d (map view_postfix_expr qs)) e) (sym left)
      (then_refused (λ (q : State × Denoted). accesses (postfix_span (view_postfix_expr p)) q.0 q.1 (map view_postfix_expr (drop (i + 1) ps))) (access before s d (view_postfix_expr p)) e x)

pub accesses_end : (ps : List PostfixExpr) (i : ℕ) (before : Span) (s : State) (d : Denoted) → length ps ≤ i → accesses before s d (map view_postfix_expr (drop i ps)) ≡ Ok (s, d)
accesses_end ps i before s d h = ap (λ (qs : List PostfixExpr). accesses before s d (map view_postfix_expr qs)) (drop_all i ps h)
