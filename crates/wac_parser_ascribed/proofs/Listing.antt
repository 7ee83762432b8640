-- What the nodes of a rising list make, one after another, is what all nodes make.
use Rattle.std.specs.Prelude.{filter, filter_map, is_some, cond}
use Rattle.std.specs.List.{cons_option}
use Rattle.std.specs.FinMap as finite
use Rattle.std.proofs.lemmas.Option.{same_Some}
use Rattle.std.proofs.Common.{◌≡◌, ℕ, Bool, true, List, [], ◌∷◌, Option, Some, None, IsSome, refl, sym, ap, subst, ◌∙◌, inl, inr}
use Rattle.wac_types_base.specs.Graph.{Among}
use Rattle.wac_graph_core.specs.Nodes.{NodeData}
use Rattle.wac_graph_core.specs.NodeMaps.{NodeMap, Rises}
use Rattle.wac_graph_core.proofs.Listed.{Among-entries}
use Rattle.wac_graph_core.proofs.Rising.{indexes, passing_are}
use Rattle.wac_parser_resolve.specs.Holding.{InTurn}
use Rattle.wac_parser_resolve.proofs.Turns.{turn_back}

-- the node makes this, to which the other is so
pub record Makes {A B : Type 0} (nodes : NodeMap) (f : ℕ × NodeData → Option B) (S : A → B → Type 0) (x : A) (k : ℕ) : Type 0 where
  pub node : NodeData
  pub at : finite.get nodes k ≡ Some node
  pub made : B
  pub is : f (k, node) ≡ Some made
  pub so : S x made

module _ {A B : Type 0} (nodes : NodeMap) (f : ℕ × NodeData → Option B) (S : A → B → Type 0) where
  abbrev tells : ℕ × NodeData → Bool
  tells e = is_some (f e)

  -- the others in turn
  abbrev Others : List (ℕ × NodeData) → Type 0
  Others es = (ys : List A) → InTurn (Makes nodes f S) ys (indexes (filter tells es)) → InTurn S ys (filter_map f es)

  all_turn : (es : List (ℕ × NodeData)) (xs : List A) → ((e : ℕ × NodeData) → Among e es → finite.get nodes e.0 ≡ Some e.1) → InTurn (Makes nodes f S) xs (indexes (filter tells es)) → InTurn S xs (filter_map f es)
  all_turn [] [] h t = tt
  all_turn [] (x ∷ xs) h t = absurd t
  all_turn (e ∷ es) xs h t = by (λ ys u. all_turn es ys (λ d m. h d (inr m)) u) (f e) refl t
    where
      here : (y : A) (b : B) → f e ≡ Some b → Makes nodes f S y e.0 → S y b
      here y b q m =
          let node : e.1 ≡ m.node = same_Some _ _ (sym (h e (inl refl)) ∙ m.at) in
          let made : m.made ≡ b = same_Some _ _ (sym m.is ∙ ap (λ x. f (e.0, x)) (sym node) ∙ q) in
          subst (S y) made m.so

      by_head : Others es → (b : B) → f e ≡ Some b → (ys : List A) → InTurn (Makes nodes f S) ys (e.0 ∷ indexes (filter tells es)) → InTurn S ys (b ∷ filter_map f es)
      by_head rest b q [] u = absurd u
      by_head rest b q (y ∷ ys) u = (here y b q u.0, rest ys u.1)

      by : Others es → (o : Option B) → f e ≡ o → InTurn (Makes nodes f S) xs (indexes (cond (is_some o) (e ∷ filter tells es) (filter tells es))) → InTurn S xs (cons_option o (filter_map f es))
      by rest None q u = rest xs u
      by rest (Some b) q u = by_head rest b q xs u

  pub made_in_turn : (xs : List A) (ks : List ℕ) → Rises ks → InTurn (Makes nodes f S) xs ks → ((k : ℕ) (x : NodeData) → finite.get nodes k ≡ Some x → IsSome (f (k, x)) → Among k ks) → InTurn S xs (filter_map f (finite.entries nodes))
  made_in_turn xs ks rising turn all =
      let are : ks ≡ indexes (filter tells (finite.entries nodes)) = passing_are nodes tells ks rising each (λ k x at p. all k x at p) in
      all_turn (finite.entries nodes) xs (λ e m. (Among-entries nodes e.0 e.1).0 m) (subst (InTurn (Makes nodes f S) xs) are turn)
    where
      each : (k : ℕ) → Among k ks → (x : NodeData) × (finite.get nodes k ≡ Some x) × (is_some (f (k, x)) ≡ true)
      each k m = let b = turn_back (Makes nodes f S) xs ks k turn m in (b.2.node, b.2.at, ap is_some b.2.is)
