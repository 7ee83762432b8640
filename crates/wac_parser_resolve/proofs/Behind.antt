-- What is said behind an expression: instances and aliases alone are more, and what is denoted is spoken of.
use Rattle.std.proofs.Common.{◌≡◌, ℕ, ◌+◌, ◌<◌, ◌≤◌, length, map, get_or, drop, List, [], ◌∷◌, ◌++◌, Bool, true, false, not, if◌then◌else◌, Ok, Err, refl, sym, ap, subst, ◌∙◌}
use Rattle.std.specs.Prelude.{Result, ⊤}
use Rattle.std.specs.List.{list_any}
use Rattle.std.proofs.lemmas.List.{drop_all, drop_more}
use Rattle.wac_types_base.specs.Entries.{Name, names_of}
use Rattle.wac_types_base.specs.Stated.{Stated, imports_of}
use Rattle.wac_types_names.specs.Keys.{Key}
use Rattle.wac_graph_core.specs.Edges.{alias_edge}
use Rattle.wac_graph_core.specs.Graph.{Graph, IsGraph}
use Rattle.wac_composition.specs.Composition.{Origin, imported, instance, projected, defined}
use Rattle.wac_parser_tree.specs.Trees as t
use Rattle.wac_parser_tree.specs.Trees.{Span}
use Rattle.wac_parser_tree.specs.Accessors.{argument_name_span as argument_span, primary_expr_span as primary_span}
use Rattle.wac_parser_refusals.specs.declared.refusal.Refusal.{Refusal}
use Rattle.wac_parser_refusals.specs.Causes.{Answer, ◌>>=◌, ◌>>◌, FillArgumentNotLast, each, pure, unless_clear}
use Rattle.wac_parser_refusals.specs.Outcomes.{IsHeld, IsOutcome, IsRefusal}
use Rattle.wac_parser_refusals.proofs.Outcomes.{then_refused}
use Rattle.wac_parser_resolve.specs.declared.board.Board.{Board}
use Rattle.wac_parser_resolve.specs.declared.state.State.{State as Held}
use Rattle.wac_parser_resolve.specs.Ascribing.{Denoted, Made, State, denoted_by, same_origin, speak_of}
use Rattle.wac_parser_resolve.specs.Denoting as stated
use Rattle.wac_parser_resolve.specs.Denoting.{Given, accesses, add_given, argument_fits, argument_name, arguments, complete, denote, finished, inferred_name, is_filled, is_last, named_argument, nested, new_instance, new_package, one_argument, primary, spread_one, spreads_of}
use Rattle.wac_parser_resolve.specs.Holding.{Denotes, IsNode, Says}
use Rattle.wac_parser_resolve.specs.Later.{Inner, IsMore}
use Rattle.wac_parser_resolve.specs.Said.{IsOnBoard, IsSaid}
use Rattle.wac_parser_resolve.proofs.Alike.{Alike, alike_accesses, alike_refl, alike_spreads, alike_trans, first_ok}
use Rattle.wac_parser_resolve.proofs.Nodes.{same_alias}
use Rattle.wac_parser_resolve.proofs.Stating.{carries_later, nothing_inner, said_carried, with_board, with_made}
use Rattle.wac_parser_resolve.proofs.Turns.{any_among, turn_back}
use Rattle.wac_graph_core.proofs.Rising.{rises_apart}

-- ---- steps

second_ok : {A B : Type 0} (q : Answer A) (r : Answer B) (b : B) → (q >> r) ≡ Ok b → r ≡ Ok b
second_ok (Ok a) r b e = e
second_ok (Err c) r b e = absurd (cc e)

-- the next step may know what was answered
module _ {A B C D : Type 0} (f : A → Answer C) (h : A → B → Type 0) (k : C → D → Type 0) where
  pub after_known : (q : Answer A) (b : B) (r : Result D Refusal) → IsHeld h q b → ((a : A) → q ≡ Ok a → h a b → IsOutcome k (f a) r) → IsOutcome k (q >>= f) r
  after_known (Ok a) b r x step = step a refl x
  after_known (Err c) b r x step = absurd x

-- ---- expressions change instances and aliases alone

alike_made : (s : State) (m : Made) → Alike s (stated.with_made s m).0
alike_made s m = record { own = refl; packages = refl; root = refl; imports = refl; definitions = refl; exports = refl }

alike_finished : (s : State) (p : t.PackageName) (k : Key) (w : Stated) (gs : List Given) (filled : Bool) (r : State × Denoted) → finished s p k w gs filled ≡ Ok r → Alike s r.0
alike_finished s p k w gs filled r e =
    let m : Made = record { key = k; world = w; arguments = map (λ (a : Given). (a.name, a.denoted)) gs; span = p.span } in
    let a = second_ok (each (argument_fits k w) tt gs) (complete filled p gs (names_of (imports_of w)) >> pure (stated.with_made s m)) r e in
    let b = second_ok (complete filled p gs (names_of (imports_of w))) (pure (stated.with_made s m)) r a in
    let is : stated.with_made s m ≡ r = cc b in
    subst (λ (q : State × Denoted). Alike s q.0) is (alike_made s m)

abbrev Both : Type 0
Both = State × List Given

same_first : (s : State) (gs hs : List Given) (r : Both) → ◌≡◌ {A = Answer Both} (Ok (s, hs)) (Ok r) → Alike s r.0
same_first s gs hs r e = let is : ◌≡◌ {A = Both} (s, hs) r = cc e in subst (λ (p : Both). Alike s p.0) is (alike_refl s)

mutual
  pub alike_denote : (s : State) (x : t.Expr) (r : State × Denoted) → denote s x ≡ Ok r → Alike s r.0
  alike_denote s (t.expr sp p xs) r e =
      let a = first_ok (primary s p) (λ q. accesses (primary_span p) q.0 q.1 xs) r e in
      alike_trans s a.0.0 r.0 (alike_primary s p a.0 a.1) (alike_accesses (primary_span p) a.0.0 a.0.1 xs r a.2)

  alike_primary : (s : State) (x : t.PrimaryExpr) (r : State × Denoted) → primary s x ≡ Ok r → Alike s r.0
  alike_primary s (t.PrimaryExpr.ident i) r e =
      let a = first_ok (denoted_by s i) (λ d. Ok (s, d)) r e in
      let is : ◌≡◌ {A = State × Denoted} (s, a.0) r = cc a.2 in
      subst (λ (p : State × Denoted). Alike s p.0) is (alike_refl s)
  alike_primary s (t.PrimaryExpr.nested x) r e = alike_nested s x r e
  alike_primary s (t.PrimaryExpr.new x) r e = alike_new s x r e

  alike_nested : (s : State) (x : t.NestedExpr) (r : State × Denoted) → nested s x ≡ Ok r → Alike s r.0
  alike_nested s (t.nested_expr sp x) r e = alike_denote s x r e

  alike_new : (s : State) (x : t.NewExpr) (r : State × Denoted) → new_instance s x ≡ Ok r → Alike s r.0
  alike_new s (t.new_expr sp p track xs) r e =
      let a = first_ok (new_package s p track) (λ x. arguments s (names_of (imports_of x.1)) [] xs >>= λ q. each (spread_one (names_of (imports_of x.1))) q (spreads_of xs) >>= λ k. finished k.0 p x.0 x.1 k.1 (is_filled xs)) r e in
      let ns = names_of (imports_of a.0.1) in
      let b = first_ok (arguments s ns [] xs) (λ q. each (spread_one ns) q (spreads_of xs) >>= λ k. finished k.0 p a.0.0 a.0.1 k.1 (is_filled xs)) r a.2 in
      let c = first_ok (each (spread_one ns) b.0 (spreads_of xs)) (λ k. finished k.0 p a.0.0 a.0.1 k.1 (is_filled xs)) r b.2 in
      alike_trans s b.0.0 r.0 (alike_arguments s ns [] xs b.0 b.1)
      (alike_trans b.0.0 c.0.0 r.0 (alike_spreads ns (spreads_of xs) b.0 c.0 c.1) (alike_finished c.0.0 p a.0.0 a.0.1 c.0.1 (is_filled xs) r c.2))

  alike_arguments : (s : State) (ns : List Name) (gs : List Given) (xs : t.Arguments) (r : Both) → arguments s ns gs xs ≡ Ok r → Alike s r.0
  alike_arguments s ns gs t.no_arguments r e = same_first s gs gs r e
  alike_arguments s ns gs (t.argument x xs) r e =
      let a = first_ok (one_argument s ns gs x (is_last xs)) (λ q. arguments q.0 ns q.1 xs) r e in
      alike_trans s a.0.0 r.0 (alike_one s ns gs x (is_last xs) a.0 a.1) (alike_arguments a.0.0 ns a.0.1 xs r a.2)

  alike_one : (s : State) (ns : List Name) (gs : List Given) (x : t.InstantiationArgument) (last : Bool) (r : Both) → one_argument s ns gs x last ≡ Ok r → Alike s r.0
  alike_one s ns gs (t.InstantiationArgument.inferred i) last r e =
      let a = first_ok (denoted_by s i) (λ d. add_given gs (record { name = inferred_name ns i d; denoted = d; span = i.span }) >>= λ hs. Ok (s, hs)) r e in
      let b = first_ok (add_given gs (record { name = inferred_name ns i a.0; denoted = a.0; span = i.span })) (λ hs. Ok (s, hs)) r a.2 in
      same_first s gs b.0 r b.2
  alike_one s ns gs (t.InstantiationArgument.spread i) last r e = same_first s gs gs r e
  alike_one s ns gs (t.InstantiationArgument.fill sp) last r e = same_first s gs gs r (second_ok {A = ⊤} (unless_clear (not last) FillArgumentNotLast sp) (pure (s, gs)) r e)
  alike_one s ns gs (t.InstantiationArgument.named x) last r e = alike_named s ns gs x r e

  alike_named : (s : State) (ns : List Name) (gs : List Given) (x : t.NamedInstantiationArgument) (r : Both) → named_argument s ns gs x ≡ Ok r → Alike s r.0
  alike_named s ns gs (t.named_argument n x) r e =
      let a = first_ok (denote s x) (λ q. add_given gs (record { name = argument_name ns n; denoted = q.1; span = argument_span n }) >>= λ hs. Ok (q.0, hs)) r e in
      let b = first_ok (add_given gs (record { name = argument_name ns n; denoted = a.0.1; span = argument_span n })) (λ hs. Ok (a.0.0, hs)) r a.2 in
      alike_trans s a.0.0 r.0 (alike_denote s x a.0 a.1) (same_first a.0.0 gs b.0 r b.2)

-- ---- what was said stays said

alike_state : (s q : State) → Alike s q → with_made s q.made q.aliases ≡ q
alike_state s q a = λ j. record {
  own = sym a.own j;
  packages = sym a.packages j;
  root = sym a.root j;
  imports = sym a.imports j;
  made = q.made;
  aliases = q.aliases;
  definitions = sym a.definitions j;
  exports = sym a.exports j;
}

pub said_inner : (own : t.PackageName) (b : Held) (x : Board) (s : State) (e : t.Expr) (q : State × Denoted) → Inner b.board.types.graph x.types.graph
    → IsMore (names_of b.board.instances.noted.items) (names_of x.instances.noted.items) → denote s e ≡ Ok q → IsOnBoard own.name b.nodes x q.0 → IsSaid own b s → IsSaid own (with_board b x) q.0
said_inner own b x s e q inner more is on said =
    let same = alike_state s q.0 (alike_denote s e q is) in
    subst (IsSaid own (with_board b x)) same
    (said_carried own b x s q.0.made q.0.aliases
    (carries_later b.board.types.graph x.types.graph inner.later (names_of b.board.instances.noted.items) (names_of x.instances.noted.items) more) (nothing_inner b.board.types.graph x.types.graph inner)
    (subst (IsOnBoard own.name b.nodes x) (sym same) on) said)

-- ---- what a node denotes is spoken of

module _ (g : Graph) (is : IsGraph g) (noted : List (ℕ × Span)) (names : List (Name × ℕ)) (s : State) (says : Says g noted names s) where
  abbrev ms : List ℕ
  ms = names_of noted

  spoken_by : (d : Denoted) (b : Bool) → b ≡ true → (if b then s else record s { aliases = s.aliases ++ d ∷ [] }) ≡ s
  spoken_by d true e = refl
  spoken_by d false e = absurd (cc e)

  by_origin : (d : Denoted) (k : ℕ) (o : Origin ℕ) → d.origin ≡ o → IsNode g ms o k → speak_of s d ≡ s
  by_origin d k (imported n) e a = ap (λ (p : Origin ℕ). speak_of s (record { origin = p; item = d.item })) e
  by_origin d k (instance i) e a = ap (λ (p : Origin ℕ). speak_of s (record { origin = p; item = d.item })) e
  by_origin d k (defined n x) e a = ap (λ (p : Origin ℕ). speak_of s (record { origin = p; item = d.item })) e
  by_origin d k (projected o n) e a =
      let z = (is.wired.edges (alias_edge a.0 k n) a.3).alias n refl in
      let spoke = turn_back (Denotes g ms) s.aliases says.aliases.nodes k says.aliases.are (says.aliases.all k z.0 z.1 z.2) in
      let thing = same_alias g is ms (rises_apart ms says.rising) spoke.0.origin o n a.0 k spoke.2.node a.3 a.1 a.2 in
      let any = any_among (λ (y : Denoted). same_origin y.origin (projected o n)) s.aliases spoke.0 spoke.1 thing in
      ap (λ (p : Origin ℕ). speak_of s (record { origin = p; item = d.item })) e
      ∙ spoken_by (record { origin = projected o n; item = d.item }) (list_any (λ (y : Denoted). same_origin y.origin (projected o n)) s.aliases) any

  pub denote_spoken : (d : Denoted) (k : ℕ) → Denotes g ms d k → speak_of s d ≡ s
  denote_spoken d k a = by_origin d k d.origin refl a.node

-- ---- statement by statement

module _ {S A B : Type 0} (f : S → A → Answer S) (view : B → A) (xs : List B) (i : ℕ) (x : B) (lt : i < length xs) (is : x ≡ get_or xs i x) where
  these : map view (drop i xs) ≡ view x ∷ map view (drop (i + 1) xs)
  these = ap (map view) (drop_more xs i x lt) ∙ ap (λ (y : B). view y ∷ map view (drop (i + 1) xs)) (sym is)

  taken_by : (P : S → Type 0) (q : S) (u : ⊤) (a : Answer S) → IsHeld (λ (p : S) (v : ⊤). P p) a u → (p : S) × P p × ((a >>= λ k. each f k (map view (drop (i + 1) xs))) ≡ each f p (map view (drop (i + 1) xs)))
  taken_by P q u (Ok p) h = (p, h, refl)
  taken_by P q u (Err c) h = absurd h

  pub each_taken : (P : S → Type 0) (q : S) (u : ⊤) → IsHeld (λ (p : S) (v : ⊤). P p) (f q (view x)) u → (p : S) × P p × (each f q (map view (drop i xs)) ≡ each f p (map view (drop (i + 1) xs)))
  each_taken P q u h = let r = taken_by P q u (f q (view x)) h in (r.0, r.1, ap (each f q) these ∙ r.2)

  pub each_halts : (q : S) (e : Refusal) → IsRefusal (f q (view x)) e → IsRefusal (each f q (map view (drop i xs))) e
  each_halts q e h = subst (λ (ys : List A). IsRefusal (each f q ys) e) (sym these) (then_refused (λ (p : S). each f p (map view (drop (i + 1) xs))) (f q (view x)) e h)

pub each_ends : {S A B : Type 0} (f : S → A → Answer S) (view : B → A) (xs : List B) (i : ℕ) (q : S) → length xs ≤ i → each f q (map view (drop i xs)) ≡ Ok q
each_ends f view xs i q h = ap (λ (ys : List _). each f q (map view ys)) (drop_all i xs h)
