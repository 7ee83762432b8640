-- The target of a document, over the state that holds what was said.
use Rattle.std.proofs.Common.{◌≡◌, ℕ, List, [], ◌∷◌, Option, Some, IsSome, Result, Ok, Err, refl, sym, subst, inl, inr}
use Rattle.std.specs.Prelude.{⊤}
use Rattle.wac_types_base.specs.declared.item.ItemKind.{ItemKind}
use Rattle.wac_types_base.specs.declared.ids.WorldId.{WorldId}
use Rattle.wac_types_base.specs.Record.{Collection}
use Rattle.wac_types_base.specs.Entries.{names_of}
use Rattle.wac_types_base.specs.Graph.{Among}
use Rattle.wac_types_base.specs.Stated.{Stated, stated_of}
use Rattle.wac_graph_core.specs.Nodes.{NodeData}
use Rattle.wac_graph_core.specs.Graph.{Graph, ContainsNode, node_at}
use Rattle.wac_parser_tree.specs.Trees as t
use Rattle.wac_parser_tree.specs.Trees.{Span}
use Rattle.wac_parser_tree.specs.declared.import.PackageName.{PackageName}
use Rattle.wac_parser_tree.specs.declared.import.PackagePath.{PackagePath}
use Rattle.wac_parser_tree.specs.Views.{view_package_name, view_package_path}
use Rattle.wac_parser_refusals.specs.declared.refusal.Refusal.{Refusal}
use Rattle.wac_parser_refusals.specs.Causes.{Answer, pure, ◌>>=◌, ◌>>◌}
use Rattle.wac_parser_refusals.specs.Outcomes.{IsHeld, IsOutcome, IsRefusal}
use Rattle.wac_parser_refusals.proofs.Outcomes.{after_held, after_refused, then_refused}
use Rattle.wac_parser_resolve.specs.declared.state.State.{State as Held}
use Rattle.wac_parser_resolve.specs.Ascribing.{State}
use Rattle.wac_parser_resolve.specs.Holding.{IsMade}
use Rattle.wac_parser_resolve.specs.InTargets.{AreNotedAll, AreStanding, HoldsDocument, HoldsTarget, IsTold, IsWorldHeld, StateMeets}
use Rattle.wac_parser_resolve.specs.Meeting.{target, target_met, target_world}
use Rattle.wac_parser_resolve.specs.Said.{IsAsked, IsSaid}
use Rattle.wac_parser_resolve.proofs.Meeting.{Passed, held_then, refused_then}
use Rattle.wac_parser_resolve.proofs.Turns.{turn_back}
use Rattle.wac_parser_resolve.proofs.TargetMet.{instance_there}

-- ---- what is noted

entry_of : (es : List (ℕ × Span)) (k : ℕ) → Among k (names_of es) → (e : ℕ × Span) × Among e es × (e.0 ≡ k)
entry_of [] k m = absurd m
entry_of (x ∷ es) k (inl h) = (x, inl refl, sym h)
entry_of (x ∷ es) k (inr m) = let r = entry_of es k m in (r.0, inr r.1, r.2)

node_there : (g : Graph) (k : ℕ) (x : NodeData) → node_at g k ≡ Some x → ContainsNode g k
node_there g k x e = subst IsSome (sym e) refl

module _ (own : t.PackageName) (b : Held) (s : State) (said : IsSaid own b s) where
  pub said_standing : AreStanding b
  said_standing =
      let g = b.board.types.graph in
      record {
        imports = λ k m.
            let e = entry_of b.imports.noted.items k m in
            let i = turn_back (IsAsked g b.ids.noted.items) s.imports b.imports.noted.items e.0 said.imports.are e.1 in
            subst (ContainsNode g) e.2 (node_there g e.0.0 i.2.import.node i.2.import.there);
        instances = λ k m.
            let e = entry_of b.board.instances.noted.items k m in
            let i = turn_back (IsMade g (names_of b.board.instances.noted.items)) s.made b.board.instances.noted.items e.0 said.board.says.made e.1 in
            subst (ContainsNode g) e.2 (instance_there g e.0.0 (node_at g e.0.0) refl (subst IsSome (sym i.2.is) refl));
      }

  pub said_noted : AreNotedAll b
  said_noted = record { imports = said.imports.all; instances = said.board.says.all }

  -- ---- the target

  module _ (p : PackagePath) (id : WorldId) where
    abbrev types : Collection
    types = b.board.types.graph.types

    abbrev world : Stated
    world = stated_of types (ItemKind.Component id)

    state_told : (r : Result ⊤ Refusal) → StateMeets p b id r → IsTold (target_met s (view_package_path p) world) r
    state_told r h = h b.ids.noted.items b.nodes s said.imports said.board.says said.exports

    pub target_held : IsHeld (IsWorldHeld types) (target_world s (view_package_path p)) id → StateMeets p b id (Ok tt) → IsHeld (λ o i. HoldsTarget types o (Some i)) (target s (Some (view_package_path p))) id
    target_held h met =
        after_held (λ (w : Stated). target_met s (view_package_path p) w >> pure (Some w)) (IsWorldHeld types) (λ o i. HoldsTarget types o (Some i)) (target_world s (view_package_path p)) id id h
        (λ w held. subst (λ (q : Answer (Option Stated)). IsHeld (λ o i. HoldsTarget types o (Some i)) q id)
        (sym (held_then (target_met s (view_package_path p) w) (pure (Some w))
        (subst (λ (x : Stated). IsHeld Passed (target_met s (view_package_path p) x) tt) held.same (state_told (Ok tt) met)))) held)

    pub target_unmet : (e : Refusal) → IsHeld (IsWorldHeld types) (target_world s (view_package_path p)) id → StateMeets p b id (Err e) → IsRefusal (target s (Some (view_package_path p))) e
    target_unmet e h met =
        after_refused (λ (w : Stated). target_met s (view_package_path p) w >> pure (Some w)) (IsWorldHeld types) (target_world s (view_package_path p)) id e h
        (λ w held. refused_then (target_met s (view_package_path p) w) (pure (Some w)) e
        (subst (λ (x : Stated). IsRefusal (target_met s (view_package_path p) x) e) held.same (state_told (Err e) met)))

pub target_unnamed : (s : State) (p : t.PackagePath) (e : Refusal) → IsRefusal (target_world s p) e → IsRefusal (target s (Some p)) e
target_unnamed s p e h = then_refused (λ (w : Stated). target_met s p w >> pure (Some w)) (target_world s p) e h

-- ---- a document

pub held_some : {A B : Type 0} (h : A → B → Type 0) (q : Answer A) (b : B) → IsHeld h q b → (a : A) × h a b
held_some h (Ok a) b x = (a, x)
held_some h (Err c) b x = absurd x

module _ (own : PackageName) (b : Held) (g : State) (said : IsSaid (view_package_name own) b g) where
  pub target_said : (q : Answer (Option Stated)) (r : Result (Option WorldId) Refusal) → IsOutcome (HoldsTarget b.board.types.graph.types) q r → IsOutcome (HoldsDocument own b) (q >>= λ w. pure (g, w)) r
  target_said (Ok w) (Ok x) h = (said, h)
  target_said (Ok w) (Err e) h = h
  target_said (Err c) (Ok x) h = absurd h
  target_said (Err c) (Err e) h = h
