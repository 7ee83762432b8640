-- What is passed to a node, put under its names.
use Rattle.std.proofs.Common.{◌≡◌, ◌≢◌, ◌⊎◌, ◌==◌, ℕ, Bool, true, false, true≢false, is_some, cond, List, [], ◌∷◌, Option, Some, None, refl, sym, ap, subst, ◌∙◌, inl, inr}
use Rattle.std.specs.Option.{option_map}
use Rattle.std.proofs.lemmas.Option.{none-some}
use Rattle.std.specs.Cmp.Lexicographic.{pointwise, same_text}
use Rattle.wac_types_base.specs.Collection.{IsAcyclic}
use Rattle.wac_types_base.specs.Entries.{Name, value_at, put_entry, names_of}
use Rattle.wac_types_base.specs.Graph.{Among}
use Rattle.wac_types_base.specs.Stated.{stated_of}
use Rattle.wac_types_base.proofs.Standing.{world_found}
use Rattle.wac_types_base.proofs.Stating.{imports_stated, value_with}
use Rattle.wac_types_base.proofs.Lists.{value_named}
use Rattle.wac_types_fit.proofs.Items.{differs}
use Rattle.wac_graph_core.specs.declared.edge.Edge.{Edge}
use Rattle.wac_graph_core.specs.Nodes.{NodeData}
use Rattle.wac_graph_core.specs.Edges.{argument_edge, HasArgument}
use Rattle.wac_graph_core.specs.Walking.{first_argument}
use Rattle.wac_graph_core.specs.Listing.{passed_with, passed_list, import_names, world_names, passed_to}
use Rattle.wac_graph_core.specs.Graph.{Graph, IsGraph, ContainsNode, node_at, instantiated}
use Rattle.wac_graph_core.proofs.Found.{same_name, argument_found, no_argument}
use Rattle.wac_graph_asks.specs.Reads.{AreArguments}
use Rattle.wac_graph_asks.proofs.Origins.{package_stands}

-- ---- what is put under a name

text_cases : (m n : Name) → (m ≡ n) ⊎ (m ≢ n)
text_cases m n = go (pointwise ◌==◌ m n) refl
  where
    go : (b : Bool) → pointwise ◌==◌ m n ≡ b → (m ≡ n) ⊎ (m ≢ n)
    go true e = inl (same_text m n (sym e))
    go false e = inr (λ same. absurd (cc (e, ap (pointwise ◌==◌ m) (sym same) ∙ same_name m)))

put_is : (es : List (Name × ℕ)) (n : Name) (v : ℕ) → value_at (put_entry es n v) n ≡ Some v
put_is [] n v = ap (λ t. cond t (Some v) None) (same_name n)
put_is (e ∷ es) n v = go (pointwise ◌==◌ n e.0) refl (put_is es n v)
  where
    go : (b : Bool) → pointwise ◌==◌ n e.0 ≡ b → value_at (put_entry es n v) n ≡ Some v → value_at (cond b ((e.0, v) ∷ es) (e ∷ put_entry es n v)) n ≡ Some v
    go true is ih = ap (λ t. cond t (Some v) (value_at es n)) is
    go false is ih = ap (λ t. cond t (Some e.1) (value_at (put_entry es n v) n)) is ∙ ih

put_else : (es : List (Name × ℕ)) (n m : Name) (v : ℕ) → m ≢ n → value_at (put_entry es n v) m ≡ value_at es m
put_else [] n m v h = ap (λ t. cond t (Some v) None) (differs m n h)
put_else (e ∷ es) n m v h = go (pointwise ◌==◌ n e.0) refl (put_else es n m v h)
  where
    go : (b : Bool) → pointwise ◌==◌ n e.0 ≡ b → value_at (put_entry es n v) m ≡ value_at es m → value_at (cond b ((e.0, v) ∷ es) (e ∷ put_entry es n v)) m ≡ value_at (e ∷ es) m
    go true is ih =
        let f : pointwise ◌==◌ m e.0 ≡ false = differs m e.0 (λ q. h (q ∙ sym (same_text n e.0 (sym is)))) in
        ap (λ t. cond t (Some v) (value_at es m)) f ∙ sym (ap (λ t. cond t (Some e.1) (value_at es m)) f)
    go false is ih = ap (λ o. cond (pointwise ◌==◌ m e.0) (Some e.1) o) ih

-- ---- what is listed

passed_among : (es : List Edge) (i : ℕ) (ns : List Name) (n : Name) (a : ℕ) → Among n ns → first_argument es i n ≡ Some a → Among (n, a) (passed_list es i ns)
passed_among es i [] n a m e = absurd m
passed_among es i (x ∷ ns) n a (inl s) e = subst (λ o. Among (n, a) (passed_with x o (passed_list es i ns))) (sym (ap (first_argument es i) (sym s) ∙ e)) (inl (λ j. (s j, a)))
passed_among es i (x ∷ ns) n a (inr m) e = go (first_argument es i x) (passed_among es i ns n a m e)
  where
    go : (o : Option ℕ) → Among (n, a) (passed_list es i ns) → Among (n, a) (passed_with x o (passed_list es i ns))
    go None h = h
    go (Some b) h = inr h

passed_is : (es : List Edge) (i : ℕ) (ns : List Name) (n : Name) (a : ℕ) → Among (n, a) (passed_list es i ns) → first_argument es i n ≡ Some a
passed_is es i [] n a m = absurd m
passed_is es i (x ∷ ns) n a m = go (first_argument es i x) refl m (passed_is es i ns n a)
  where
    go : (o : Option ℕ) → first_argument es i x ≡ o → Among (n, a) (passed_with x o (passed_list es i ns)) → (Among (n, a) (passed_list es i ns) → first_argument es i n ≡ Some a) → first_argument es i n ≡ Some a
    go None e h later = later h
    go (Some b) e (inl s) later = ap (λ p. first_argument es i p.0) s ∙ e ∙ ap (λ p. Some p.1) (sym s)
    go (Some b) e (inr h) later = later h

pub nothing_there : {X : Type 0} (o : Option X) → is_some o ≡ false → o ≡ None
nothing_there None e = refl
nothing_there (Some x) e = absurd (true≢false e)

mapped_some : {X Y : Type 0} (f : X → Y) (o : Option X) (y : Y) → option_map f o ≡ Some y → (x : X) × (o ≡ Some x)
mapped_some f None y e = absurd (none-some _ e)
mapped_some f (Some x) y e = (x, refl)

module _ (g : Graph) (k : ℕ) where
  -- so much is put, and this is left
  pub record Puts (rest xs : List (Name × ℕ)) : Type 0 where
    pub put : (n : Name) (v : ℕ) → value_at xs n ≡ Some v → first_argument g.edges k n ≡ Some v
    pub left : (n : Name) (v : ℕ) → Among (n, v) rest → first_argument g.edges k n ≡ Some v
    pub all : (n : Name) (v : ℕ) → Among (n, v) (passed_to g k) → (value_at xs n ≡ Some v) ⊎ Among (n, v) rest

  pub puts_first : (xs : List (Name × ℕ)) → xs ≡ [] → Puts (passed_to g k) xs
  puts_first xs is = record {
    put = λ n v e. absurd (none-some _ (sym (ap (λ l. value_at l n) is) ∙ e));
    left = λ n v m. passed_is g.edges k (import_names g (instantiated g k)) n v m;
    all = λ n v m. inr m;
  }

  pub puts_more : (rest more xs : List (Name × ℕ)) (m : Name) (w : ℕ) → Puts rest xs → rest ≡ (m, w) ∷ more → Puts more (put_entry xs m w)
  puts_more rest more xs m w h is = record { put = put; left = λ n v a. h.left n v (subst (λ l. Among (n, v) l) (sym is) (inr a)); all = all }
    where
      own : first_argument g.edges k m ≡ Some w
      own = h.left m w (subst (λ l. Among (m, w) l) (sym is) (inl refl))

      put : (n : Name) (v : ℕ) → value_at (put_entry xs m w) n ≡ Some v → first_argument g.edges k n ≡ Some v
      put n v e = go (text_cases n m)
        where
          go : (n ≡ m) ⊎ (n ≢ m) → first_argument g.edges k n ≡ Some v
          go (inl s) = ap (first_argument g.edges k) s ∙ own ∙ sym (put_is xs m w) ∙ ap (value_at (put_entry xs m w)) (sym s) ∙ e
          go (inr d) = h.put n v (sym (put_else xs m n w d) ∙ e)

      all : (n : Name) (v : ℕ) → Among (n, v) (passed_to g k) → (value_at (put_entry xs m w) n ≡ Some v) ⊎ Among (n, v) more
      all n v a = go (h.all n v a)
        where
          found : value_at xs n ≡ Some v → (n ≡ m) ⊎ (n ≢ m) → value_at (put_entry xs m w) n ≡ Some v
          found e (inl s) = ap (value_at (put_entry xs m w)) s ∙ put_is xs m w ∙ sym own ∙ ap (first_argument g.edges k) (sym s) ∙ h.put n v e
          found e (inr d) = put_else xs m n w d ∙ e

          next : Among (n, v) ((m, w) ∷ more) → (value_at (put_entry xs m w) n ≡ Some v) ⊎ Among (n, v) more
          next (inl s) = inl (ap (λ p. value_at (put_entry xs m w) p.0) s ∙ put_is xs m w ∙ ap (λ p. Some p.1) (sym s))
          next (inr b) = inr b

          go : (value_at xs n ≡ Some v) ⊎ Among (n, v) rest → (value_at (put_entry xs m w) n ≡ Some v) ⊎ Among (n, v) more
          go (inl e) = inl (found e (text_cases n m))
          go (inr b) = next (subst (λ l. Among (n, v) l) is b)

  -- ---- in a graph

  module _ (sound : IsGraph g) (finite_types : IsAcyclic g.types) where
    -- an argument is one of an import
    listed : (n : Name) (a : ℕ) → HasArgument g.edges k n a → Among (n, a) (passed_to g k)
    listed n a h =
        let fills = (sound.wired.edges (argument_edge a k n) h).argument n refl in
        let id = package_stands g sound finite_types k fills.of fills.is in
        let v = world_found g.types fills.of.ty (sound.packages.stand id.0 fills.of id.1).world in
        let item = mapped_some (stated_of g.types) (value_at v.value.imports n) fills.asked
        (sym (value_with (stated_of g.types) v.value.imports n) ∙ sym (ap (λ l. value_at l n) (imports_stated g.types finite_types fills.of.ty v.value v.at v.own)) ∙ fills.import) in
        let names : import_names g (instantiated g k) ≡ names_of v.value.imports = ap (import_names g) fills.is ∙ ap world_names v.at in
        subst (λ ns. Among (n, a) (passed_list g.edges k ns)) (sym names)
        (passed_among g.edges k (names_of v.value.imports) n a (value_named v.value.imports n item.0 item.1) (first_is (first_argument g.edges k n) refl))
      where
        first_is : (o : Option ℕ) → first_argument g.edges k n ≡ o → first_argument g.edges k n ≡ Some a
        first_is None e = absurd (no_argument g.edges k a n e h)
        first_is (Some b) e = e ∙ ap Some (sound.keyed.one_argument k b a n (argument_found g.edges k b n e) h)

    pub puts_all : (rest xs : List (Name × ℕ)) → Puts rest xs → rest ≡ [] → AreArguments g k xs
    puts_all rest xs h is n = go (first_argument g.edges k n) refl (value_at xs n) refl
      where
        go : (o : Option ℕ) → first_argument g.edges k n ≡ o → (u : Option ℕ) → value_at xs n ≡ u → value_at xs n ≡ first_argument g.edges k n
        go o e (Some v) f = f ∙ sym (h.put n v f)
        go None e None f = f ∙ sym e
        go (Some a) e None f = by (h.all n a (listed n a (argument_found g.edges k a n e)))
          where
            by : (value_at xs n ≡ Some a) ⊎ Among (n, a) rest → value_at xs n ≡ first_argument g.edges k n
            by (inl q) = q ∙ sym e
            by (inr b) = absurd (subst (λ l. Among (n, a) l) is b)

    -- nothing is passed to what does not stand
    pub none_passed : (xs : List (Name × ℕ)) → xs ≡ [] → node_at g k ≡ None → AreArguments g k xs
    none_passed xs is none n = ap (λ l. value_at l n) is ∙ sym (go (first_argument g.edges k n) refl)
      where
        go : (o : Option ℕ) → first_argument g.edges k n ≡ o → o ≡ None
        go None e = refl
        go (Some a) e = absurd (none-some _ (sym none ∙ (there (node_at g k) refl (sound.wired.edges (argument_edge a k n) (argument_found g.edges k a n e)).to).1))
          where
            there : (o : Option NodeData) → node_at g k ≡ o → ContainsNode g k → (x : NodeData) × (node_at g k ≡ Some x)
            there None e h = absurd (cc (e, h))
            there (Some x) e h = (x, e)
