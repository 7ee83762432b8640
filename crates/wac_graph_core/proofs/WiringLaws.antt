-- Each graph has one wiring.
use Rattle.std.proofs.Common.{◌≡◌, ◌==◌, ℕ, zero, suc, ◌<◌, Bool, true, false, cond, List, [], ◌∷◌, Option, Some, None, IsSome, refl, sym, ap, subst, ◌∙◌, inl, inr, arith}
use Rattle.std.proofs.lemmas.Option.{same_Some}
use Rattle.std.specs.Cmp.Lexicographic.{pointwise, same_text}
use Rattle.std.specs.Option.{option_map}
use Rattle.wac_types_base.specs.declared.item.ItemKind.{ItemKind}
use Rattle.wac_types_base.specs.Entries.{Name, value_at}
use Rattle.wac_types_base.specs.Graph.{Among}
use Rattle.wac_types_base.specs.Tree.{Tree}
use Rattle.wac_types_names.specs.Packaged.{Packaged}
use Rattle.wac_graph_bytes.specs.Wirings.{Source, Absent, Outer, Inst, Definition, project, OfBytes, Instantiation, Wiring}
use Rattle.wac_graph_core.specs.Nodes.{NodeData, Role}
use Rattle.wac_graph_core.specs.Edges.{HasAlias, alias_edge, argument_edge}
use Rattle.wac_graph_core.specs.Walking.{first_argument}
use Rattle.wac_graph_core.specs.Graph.{Graph, IsGraph, ContainsNode, node_at, instantiated, item_import}
use Rattle.wac_graph_core.specs.GraphWiring as w
use Rattle.wac_graph_core.proofs.Found.{argument_found, no_argument}

paired : (x : Name × ℕ) (n : Name) (k : ℕ) → n ≡ x.0 → k ≡ x.1 → (n, k) ≡ x
paired x n k p q = λ i. (p i, q i)

pub found_at : (b : Bool) (x : Name × ℕ) (es : List (Name × ℕ)) (n : Name) (k : ℕ) → pointwise ◌==◌ n x.0 ≡ b → (value_at es n ≡ Some k → Among (n, k) es) → cond b (Some x.1) (value_at es n) ≡ Some k → Among (n, k) (x ∷ es)
found_at true x es n k is ih e = inl (paired x n k (same_text n x.0 (sym is)) (sym (same_Some _ _ e)))
found_at false x es n k is ih e = inr (ih e)

-- what is found is there
pub value_among : (es : List (Name × ℕ)) (n : Name) (k : ℕ) → value_at es n ≡ Some k → Among (n, k) es
value_among [] n k e = absurd (cc (e))
value_among (x ∷ es) n k e = found_at (pointwise ◌==◌ n x.0) x es n k refl (value_among es n k) e

module _ (spell : Name → Name) (written : ItemKind → Tree) (g : Graph) (sound : IsGraph g) where
  abbrev Denotes : ℕ → Source ℕ → Type 0
  Denotes = w.Denotes spell written g

  abbrev Binds : ℕ → Name → Source ℕ → Type 0
  Binds = w.Binds spell written g

  -- ---- a node denotes at most one source

  -- what a node denotes, by its role
  abbrev AsRole : ℕ → NodeData → Role → Source ℕ → Type 0
  AsRole k x (Role.Imported n) s = s ≡ Outer (spell n)
  AsRole k x Role.Instance s = s ≡ Inst k
  AsRole k x Role.Defined s = s ≡ Definition (written x.item_kind)
  AsRole k x Role.Aliased s = (i : ℕ) × (n : Name) × (t : Source ℕ) × HasAlias g.edges i n k × Denotes i t × (s ≡ project t n)

  -- an alias edge leads to an alias
  aliased_node : (i k : ℕ) (n : Name) → HasAlias g.edges i n k → (x : NodeData) × (node_at g k ≡ Some x) × (x.role ≡ Role.Aliased)
  aliased_node i k n h = (sound.wired.edges (alias_edge i k n) h).alias n refl

  same_node : (k : ℕ) (x y : NodeData) → node_at g k ≡ Some x → node_at g k ≡ Some y → x ≡ y
  same_node k x y e f = same_Some _ _ (sym e ∙ f)

  as_role : (k : ℕ) (s : Source ℕ) (x y : NodeData) (r : Role) → node_at g k ≡ Some x → node_at g k ≡ Some y → y.role ≡ r → AsRole k y r s → AsRole k x x.role s
  as_role k s x y r e f is a =
      let same : y ≡ x = same_node k y x f e in
      subst (λ z. AsRole k z z.role s) same (subst (λ q. AsRole k y q s) (sym is) a)

  by_role : (k : ℕ) (s : Source ℕ) → Denotes k s → (x : NodeData) → node_at g k ≡ Some x → AsRole k x x.role s
  by_role k s (w.imported y n at is) x e = as_role k s x y (Role.Imported n) e at is refl
  by_role k s (w.instance y at is) x e = as_role k s x y Role.Instance e at is refl
  by_role k s (w.defined y at is) x e = as_role k s x y Role.Defined e at is refl
  by_role k s (w.aliased {s = t} i n h d) x e =
      let y = aliased_node i k n h in
      as_role k s x y.0 Role.Aliased e y.1 y.2 (i, n, t, h, d, refl)

  by_known : (k : ℕ) (s : Source ℕ) (x : NodeData) (r : Role) → node_at g k ≡ Some x → x.role ≡ r → Denotes k s → AsRole k x r s
  by_known k s x r e is d = subst (λ q. AsRole k x q s) is (by_role k s d x e)

  projects : (k : ℕ) (s t : Source ℕ) (i : ℕ) (n : Name) → HasAlias g.edges i n k → ((u : Source ℕ) → Denotes i u → s ≡ u)
      → (i : ℕ) × (n : Name) × (u : Source ℕ) × HasAlias g.edges i n k × Denotes i u × (t ≡ project u n) → project s n ≡ t
  projects k s t i n h once r =
      let same = sound.keyed.one_source i r.0 k n r.1 h r.3 in
      let of : s ≡ r.2 = once r.2 (subst (λ j. Denotes j r.2) (sym same.0) r.4) in
      ap (λ u. project u n) of ∙ ap (project r.2) same.1 ∙ sym r.5

  pub once : (k : ℕ) (s t : Source ℕ) → Denotes k s → Denotes k t → s ≡ t
  once k s t (w.imported x n at is) d = sym (by_known k t x (Role.Imported n) at is d)
  once k s t (w.instance x at is) d = sym (by_known k t x Role.Instance at is d)
  once k s t (w.defined x at is) d = sym (by_known k t x Role.Defined at is d)
  once k s t (w.aliased {s = u} i n h c) d =
      let x = aliased_node i k n h in
      projects k u t i n h (λ v e. once i u v c e) (by_known k t x.0 Role.Aliased x.1 x.2 d)

  pub binds_once : (k : ℕ) (n : Name) (s t : Source ℕ) → Binds k n s → Binds k n t → s ≡ t
  binds_once k n s t (w.argument a h d) (w.argument b j e) =
      let same : b ≡ a = sound.keyed.one_argument k b a n j h in
      once a s t d (subst (λ c. Denotes c t) same e)
  binds_once k n s t (w.argument a h d) (w.outer none) = absurd (none a h)
  binds_once k n s t (w.outer none) (w.argument a h d) = absurd (none a h)
  binds_once k n s t (w.outer none) (w.outer none_) = refl

  -- ---- and each node that stands denotes one

  abbrev Denoted : ℕ → Type 0
  Denoted k = (s : Source ℕ) × Denotes k s

  abbrev rank : ℕ → ℕ
  rank = sound.acyclic.0

  by_source : (k : ℕ) → ((i : ℕ) → ContainsNode g i → rank i < rank k → Denoted i) → (i : ℕ) × (n : Name) × HasAlias g.edges i n k → Denoted k
  by_source k below r =
      let d = below r.0 (sound.wired.edges (alias_edge r.0 k r.1) r.2).from (sound.acyclic.1.rises (alias_edge r.0 k r.1) r.2 refl) in
      (project d.0 r.1, w.aliased r.0 r.1 r.2 d.1)

  as_node : (k : ℕ) (x : NodeData) (r : Role) → ((i : ℕ) → ContainsNode g i → rank i < rank k → Denoted i) → node_at g k ≡ Some x → x.role ≡ r → Denoted k
  as_node k x (Role.Imported n) below e is = (Outer (spell n), w.imported x n e is)
  as_node k x Role.Instance below e is = (Inst k, w.instance x e is)
  as_node k x Role.Defined below e is = (Definition (written x.item_kind), w.defined x e is)
  as_node k x Role.Aliased below e is = by_source k below (sound.wired.sources k x e is)

  as_found : (k : ℕ) (o : Option NodeData) → ((i : ℕ) → ContainsNode g i → rank i < rank k → Denoted i) → node_at g k ≡ o → IsSome o → Denoted k
  as_found k None below e there = absurd (cc (there))
  as_found k (Some x) below e there = as_node k x x.role below e refl

  within : (bound k : ℕ) → ContainsNode g k → rank k < bound → Denoted k
  within zero k there h = absurd (omega (arith, h))
  within (suc bound) k there h = as_found k (node_at g k) (λ i c l. within bound i c (omega (arith, h, l))) refl there

  denoted : (k : ℕ) → ContainsNode g k → Denoted k
  denoted k there = within (suc (rank k)) k there (omega arith)

  bound_at : (k : ℕ) (n : Name) (o : Option ℕ) → first_argument g.edges k n ≡ o → (s : Source ℕ) × Binds k n s
  bound_at k n None e = (Outer (spell n), w.outer (λ a h. no_argument g.edges k a n e h))
  bound_at k n (Some a) e =
      let h = argument_found g.edges k a n e in
      let d = denoted a (sound.wired.edges (argument_edge a k n) h).from in
      (d.0, w.argument a h d.1)

  binding : (k : ℕ) (n : Name) → (s : Source ℕ) × Binds k n s
  binding k n = bound_at k n (first_argument g.edges k n) refl

  -- ---- the wiring

  abbrev asked : Option ItemKind → Source ℕ → Source ℕ
  asked None s = Absent
  asked (Some item) s = s

  abbrev instance_of : ℕ → Packaged → Instantiation ℕ
  instance_of k p = record { tag = OfBytes p.bytes; args = λ n. asked (item_import g.types p.ty n) (binding k n).0 }

  is_instance : (k : ℕ) (p : Packaged) → w.IsInstance spell written g k p (instance_of k p)
  is_instance k p = record {
    tag = refl;
    bound = λ n item e. subst (λ o. Binds k n (asked o (binding k n).0)) (sym e) (binding k n).1;
    no_other = λ n e. ap (λ o. asked o (binding k n).0) e;
  }

  same_arg : (k : ℕ) (p : Packaged) (x y : Instantiation ℕ) → w.IsInstance spell written g k p x → w.IsInstance spell written g k p y
      → (n : Name) (o : Option ItemKind) → item_import g.types p.ty n ≡ o → x.args n ≡ y.args n
  same_arg k p x y a b n None e = a.no_other n e ∙ sym (b.no_other n e)
  same_arg k p x y a b n (Some item) e = binds_once k n (x.args n) (y.args n) (a.bound n item e) (b.bound n item e)

  -- a package has one instance at a node
  pub same_instance : (k : ℕ) (p : Packaged) (x y : Instantiation ℕ) → w.IsInstance spell written g k p x → w.IsInstance spell written g k p y → x ≡ y
  same_instance k p x y a b = λ i. record {
    tag = (a.tag ∙ sym b.tag) i;
    args = λ n. same_arg k p x y a b n (item_import g.types p.ty n) refl i;
  }

  export_stands : (n : Name) (k : ℕ) → value_at g.exports n ≡ Some k → ContainsNode g k
  export_stands n k e = sound.exported.stand n k (value_among g.exports n k e)

  abbrev export_at : (n : Name) (o : Option ℕ) → value_at g.exports n ≡ o → Source ℕ
  export_at n None e = Absent
  export_at n (Some k) e = (denoted k (export_stands n k e)).0

  export_denotes : (n : Name) (k : ℕ) (o : Option ℕ) (e : value_at g.exports n ≡ o) → o ≡ Some k → Denotes k (export_at n o e)
  export_denotes n k None e is = absurd (cc (is))
  export_denotes n k (Some j) e is = subst (λ i. Denotes i (export_at n (Some j) e)) (same_Some _ _ is) (denoted j (export_stands n j e)).1

  export_absent : (n : Name) (o : Option ℕ) (e : value_at g.exports n ≡ o) → o ≡ None → export_at n o e ≡ Absent
  export_absent n None e is = refl
  export_absent n (Some k) e is = absurd (cc (is))

  module _ (outers : Name → Option Tree) where
    abbrev made : Wiring ℕ
    made = record {
      outers = outers;
      at = λ k. option_map (instance_of k) (instantiated g k);
      exports = λ n. export_at n (value_at g.exports n) refl;
    }

    pub has_wiring : (W : Wiring ℕ) × w.IsWiring spell written g outers W
    has_wiring = (
      made,
      record {
        outers = λ n. refl;
        instances = λ k p e. (instance_of k p, ap (option_map (instance_of k)) e, is_instance k p);
        no_other = λ k e. ap (option_map (instance_of k)) e;
        exported = λ n k e. export_denotes n k (value_at g.exports n) refl e;
        no_export = λ n e. export_absent n (value_at g.exports n) refl e;
      },
    )

    module _ (V W : Wiring ℕ) (v : w.IsWiring spell written g outers V) (q : w.IsWiring spell written g outers W) where
      same_at : (k : ℕ) (o : Option Packaged) → instantiated g k ≡ o → V.at k ≡ W.at k
      same_at k None e = v.no_other k e ∙ sym (q.no_other k e)
      same_at k (Some p) e =
          let a = v.instances k p e in
          let b = q.instances k p e in
          a.1 ∙ ap Some (same_instance k p a.0 b.0 a.2 b.2) ∙ sym b.1

      same_export : (n : Name) (o : Option ℕ) → value_at g.exports n ≡ o → V.exports n ≡ W.exports n
      same_export n None e = v.no_export n e ∙ sym (q.no_export n e)
      same_export n (Some k) e = once k (V.exports n) (W.exports n) (v.exported n k e) (q.exported n k e)

      pub one_wiring : V ≡ W
      one_wiring = λ i. record {
        outers = λ n. (v.outers n ∙ sym (q.outers n)) i;
        at = λ k. same_at k (instantiated g k) refl i;
        exports = λ n. same_export n (value_at g.exports n) refl i;
      }
