-- What an origin of a graph's composition is, and what is passed to its instances.
use Rattle.std.specs.Prelude.{◌<◌, option_map}
use Rattle.std.proofs.lemmas.Option.{none-some, same_Some}
use Rattle.std.proofs.Common.{◌≡◌, ℕ, zero, suc, Option, Some, None, refl, sym, ap, subst, ◌∙◌, arith}
use Rattle.wac_types_base.specs.declared.item.ItemKind.{ItemKind}
use Rattle.wac_types_base.specs.Collection.{IsAcyclic}
use Rattle.wac_types_base.specs.Entries.{Name, value_at}
use Rattle.wac_types_base.specs.Graph.{Among}
use Rattle.wac_types_base.specs.Stated.{Stated, stated_in, stated_of, instance_type, imports_of}
use Rattle.wac_types_base.specs.Tree.{tree}
use Rattle.wac_types_base.specs.Fits.{Fits}
use Rattle.wac_types_base.proofs.GraphLemmas.{value_of}
use Rattle.wac_types_base.proofs.Lists.{from_filtered}
use Rattle.wac_types_names.specs.Packaged.{Packaged}
use Rattle.wac_types_fit.proofs.Meeting.{mapped-some}
use Rattle.wac_composition.specs.Composition.{Origin, imported, instance, projected, defined, Placed, Made, Composition}
use Rattle.wac_composition.specs.Renaming.{origin_renamed}
use Rattle.wac_composition.specs.Sound.{given_as, IsBefore}
use Rattle.wac_composition.proofs.Lists.{mapped_among}
use Rattle.wac_graph_core.specs.Nodes.{NodeData, Role}
use Rattle.wac_graph_core.specs.Edges.{alias_edge, argument_edge}
use Rattle.wac_graph_core.specs.Walking.{first_argument}
use Rattle.wac_graph_core.specs.Graph.{Graph, IsGraph, node_at, package_in, package_if, package_made, instantiated, passed_as, passed}
use Rattle.wac_graph_core.proofs.Found.{argument_found}
use Rattle.wac_graph_core.proofs.Listed.{Among-entries}
use Rattle.wac_graph_asks.specs.Graphs.{nodes_of, first_export, item_of, item_at, origin_of, import_by, made_with, composition_of}
use Rattle.wac_graph_asks.proofs.Origins.{among_mapped, node_among, origin_alias, origin_role, made_of, made_among, argument_is}
use Rattle.wac_soundness.specs.Sound.{IsTyped, an_import, an_instance, an_export, a_definition, IsPassed}
use Rattle.wac_soundness.proofs.Typed.{defined_type, defined_form, instance_kind}

module _ (g : Graph) (sound : IsGraph g) (acyclic : IsAcyclic g.types) where
  abbrev c : Composition ℕ ℕ
  c = composition_of g

  abbrev rank : ℕ → ℕ
  rank = sound.acyclic.0

  -- ---- instances

  -- an instance of the composition is that of a node
  pub record IsMadeOf (m : Made ℕ ℕ) : Type 0 where
    pub node : ℕ
    pub packaged : Packaged
    pub is : instantiated g node ≡ Some packaged
    pub same : m ≡ made_of g sound acyclic node packaged

  pub made_from : (m : Made ℕ ℕ) → Among m c.made → IsMadeOf m
  made_from m a =
      let r = from_filtered (λ e. made_with g e.0 (package_if g e.1.of)) (nodes_of g) m a in
      by r.0 ((Among-entries g.nodes r.0.0 r.0.1).0 r.1) (package_if g r.0.1.of) refl r.2
    where
      by : (e : ℕ × NodeData) → node_at g e.0 ≡ Some e.1 → (o : Option Packaged) → package_if g e.1.of ≡ o → made_with g e.0 o ≡ Some m → IsMadeOf m
      by e at None q h = absurd (none-some _ h)
      by e at (Some p) q h = record { node = e.0; packaged = p; is = ap (package_made g) at ∙ q; same = sym (same_Some _ _ h) }

  pub one : (m n : Made ℕ ℕ) → Among m c.made → Among n c.made → m.number ≡ n.number → m ≡ n
  one m n a b e =
      let x = made_from m a in
      let y = made_from n b in
      let node : x.node ≡ y.node = sym (ap (λ (z : Made ℕ ℕ). z.number) x.same) ∙ e ∙ ap (λ (z : Made ℕ ℕ). z.number) y.same in
      let packaged : x.packaged ≡ y.packaged = same_Some _ _ (sym x.is ∙ ap (instantiated g) node ∙ y.is) in
      x.same ∙ (λ j. made_of g sound acyclic (node j) (packaged j)) ∙ sym y.same

  -- ---- where nodes come from

  typed_by : (d k : ℕ) (x : NodeData) → node_at g k ≡ Some x → rank k < d → IsTyped c (origin_of g k) (item_of g x)
  typed_by zero k x at l = absurd (omega (arith, l))
  typed_by (suc d) k x at l = by_role (typed_by d) x.role refl
    where
      comes : (o : Origin ℕ) → origin_of g k ≡ o → IsTyped c o (item_of g x) → IsTyped c (origin_of g k) (item_of g x)
      comes o e h = subst (λ p. IsTyped c p (item_of g x)) (sym e) h

      by_role : ((i : ℕ) (y : NodeData) → node_at g i ≡ Some y → rank i < d → IsTyped c (origin_of g i) (item_of g y)) → (r : Role) → x.role ≡ r → IsTyped c (origin_of g k) (item_of g x)
      by_role rest (Role.Imported n) e =
          let one : Placed ℕ = record { by = k; name = n; item = item_of g x } in
          comes (imported n) (origin_role g sound acyclic k x (Role.Imported n) at e)
          (an_import one (among_mapped (λ e. import_by g e.0 e.1 e.1.role) (nodes_of g) (k, x) one (node_among g k x at) (ap (import_by g k x) e)))
      by_role rest Role.Instance e =
          let n = sound.nodes k x at in
          let id = value_of x.of (n.made e) in
          let p = value_of (package_in g.places id.0) (n.of id.0 id.1) in
          let item : item_of g x ≡ instance_type (stated_of g.types (ItemKind.Component p.0.ty)) = ap (stated_of g.types) (n.instance id.0 p.0 id.1 p.1) ∙ (sound.packages.stand id.0 p.0 p.1).exports in
          comes (instance k) (origin_role g sound acyclic k x Role.Instance at e)
          (subst (IsTyped c (instance k)) (sym item)
          (an_instance (made_of g sound acyclic k p.0) (made_among g sound acyclic k p.0 (ap (package_made g) at ∙ ap (package_if g) id.1 ∙ p.1))))
      by_role rest Role.Defined e =
          let n = sound.nodes k x at in
          comes (defined (first_export g.exports k) (item_of g x)) (origin_role g sound acyclic k x Role.Defined at e)
          (a_definition (first_export g.exports k) (item_of g x) (defined_type g.types acyclic x.item_kind n.item (n.defined e)) (defined_form g.types acyclic x.item_kind n.item (n.defined e)))
      by_role rest Role.Aliased e =
          let s = sound.wired.sources k x at e in
          let f = (sound.wired.edges (alias_edge s.0 k s.1) s.2).export s.1 refl in
          let rise = sound.acyclic.1.rises (alias_edge s.0 k s.1) s.2 refl in
          let same : f.alias ≡ x = same_Some _ _ (sym f.alias_at ∙ at) in
          comes (projected (origin_of g s.0) s.1) (origin_alias g sound acyclic s.0 k s.1 s.2)
          (an_export (origin_of g s.0) (item_of g f.instance) s.1 (item_of g x) (rest s.0 f.instance f.instance_at (omega (arith, rise, l)))
          (instance_kind g.types acyclic f.instance.item_kind (sound.nodes s.0 f.instance f.instance_at).item f.one)
          (f.export ∙ ap (λ (y : NodeData). Some (item_of g y)) same))

  typed : (k : ℕ) (x : NodeData) → node_at g k ≡ Some x → IsTyped c (origin_of g k) (item_of g x)
  typed k x at = typed_by (suc (rank k)) k x at (omega arith)

  -- it speaks of instances of no higher rank
  before_by : (d k r : ℕ) (x : NodeData) → node_at g k ≡ Some x → rank k < d → rank k < r → IsBefore r (origin_renamed rank (origin_of g k))
  before_by zero k r x at l b = absurd (omega (arith, l))
  before_by (suc d) k r x at l b = by_role (λ i y. before_by d i r y) x.role refl
    where
      comes : (o : Origin ℕ) → origin_of g k ≡ o → IsBefore r (origin_renamed rank o) → IsBefore r (origin_renamed rank (origin_of g k))
      comes o e h = subst (λ p. IsBefore r (origin_renamed rank p)) (sym e) h

      by_role : ((i : ℕ) (y : NodeData) → node_at g i ≡ Some y → rank i < d → rank i < r → IsBefore r (origin_renamed rank (origin_of g i))) → (q : Role) → x.role ≡ q → IsBefore r (origin_renamed rank (origin_of g k))
      by_role rest (Role.Imported n) e = comes (imported n) (origin_role g sound acyclic k x (Role.Imported n) at e) tt
      by_role rest Role.Instance e = comes (instance k) (origin_role g sound acyclic k x Role.Instance at e) b
      by_role rest Role.Defined e = comes (defined (first_export g.exports k) (item_of g x)) (origin_role g sound acyclic k x Role.Defined at e) tt
      by_role rest Role.Aliased e =
          let s = sound.wired.sources k x at e in
          let f = (sound.wired.edges (alias_edge s.0 k s.1) s.2).export s.1 refl in
          let rise = sound.acyclic.1.rises (alias_edge s.0 k s.1) s.2 refl in
          comes (projected (origin_of g s.0) s.1) (origin_alias g sound acyclic s.0 k s.1 s.2)
          (rest s.0 f.instance f.instance_at (omega (arith, rise, l)) (omega (arith, rise, b)))

  -- it is passed as it is given
  given_passed : (k : ℕ) (x : NodeData) → node_at g k ≡ Some x → given_as (origin_of g k) (item_of g x) ≡ passed g.types x
  given_passed k x at = by_role x.role refl
    where
      comes : (r : Role) (o : Origin ℕ) → x.role ≡ r → origin_of g k ≡ o → given_as o (item_of g x) ≡ passed_as r (item_of g x) → given_as (origin_of g k) (item_of g x) ≡ passed g.types x
      comes r o e q h = ap (λ p. given_as p (item_of g x)) q ∙ h ∙ sym (ap (λ t. passed_as t (item_of g x)) e)

      by_role : (r : Role) → x.role ≡ r → given_as (origin_of g k) (item_of g x) ≡ passed g.types x
      by_role (Role.Imported n) e = comes (Role.Imported n) (imported n) e (origin_role g sound acyclic k x (Role.Imported n) at e) refl
      by_role Role.Instance e = comes Role.Instance (instance k) e (origin_role g sound acyclic k x Role.Instance at e) refl
      by_role Role.Defined e = comes Role.Defined (defined (first_export g.exports k) (item_of g x)) e (origin_role g sound acyclic k x Role.Defined at e) refl
      by_role Role.Aliased e =
          let s = sound.wired.sources k x at e in
          comes Role.Aliased (projected (origin_of g s.0) s.1) e (origin_alias g sound acyclic s.0 k s.1 s.2) refl

  -- ---- arguments

  passed_at : (k : ℕ) (p : Packaged) (n : Name) (o : Origin ℕ) (x : Stated) → instantiated g k ≡ Some p → value_at (made_of g sound acyclic k p).arguments n ≡ Some o
      → value_at (imports_of (stated_of g.types (ItemKind.Component p.ty))) n ≡ Some x → IsPassed c rank k o x
  passed_at k p n o x inst v w =
      let q = mapped-some (origin_of g) (first_argument g.edges k n) o (sym (argument_is g sound acyclic k n) ∙ v) in
      let h = argument_found g.edges k q.0 n q.1 in
      let f = (sound.wired.edges (argument_edge q.0 k n) h).argument n refl in
      let rise = sound.acyclic.1.rises (argument_edge q.0 k n) h refl in
      let of : f.of ≡ p = same_Some _ _ (sym f.is ∙ inst) in
      let asked : f.asked ≡ x = same_Some _ _ (sym f.import ∙ ap (λ (y : Packaged). value_at (imports_of (stated_of g.types (ItemKind.Component y.ty))) n) of ∙ w) in
      subst (λ y. IsPassed c rank k y x) q.2 (record {
        item = item_of g f.argument;
        typed = typed q.0 f.argument f.argument_at;
        fits = subst (λ t. Fits (tree t) (tree x)) (sym (given_passed q.0 f.argument f.argument_at)) (subst (λ t. Fits (tree (passed g.types f.argument)) (tree t)) asked f.fits);
        before = before_by (suc (rank q.0)) q.0 (rank k) f.argument f.argument_at (omega arith) rise;
      })

  pub all_passed : (m : Made ℕ ℕ) (n : Name) (o : Origin ℕ) (x : Stated) → Among m c.made → value_at m.arguments n ≡ Some o → value_at (imports_of m.world) n ≡ Some x → IsPassed c rank m.number o x
  all_passed m n o x a v w =
      let r = made_from m a in
      subst (λ (y : Made ℕ ℕ). IsPassed c rank y.number o x) (sym r.same)
      (passed_at r.node r.packaged n o x r.is (ap (λ (y : Made ℕ ℕ). value_at y.arguments n) (sym r.same) ∙ v) (ap (λ (y : Made ℕ ℕ). value_at (imports_of y.world) n) (sym r.same) ∙ w))

  -- ---- exports

  pub exported : (n : Name) (o : Origin ℕ) (x : Stated) → Among (n, o, x) c.exports → IsTyped c o x
  exported n o x m =
      let r = mapped_among (λ (e : Name × ℕ). (e.0, origin_of g e.1, item_at g e.1)) g.exports (n, o, x) m in
      let y = value_of (node_at g r.0.1) (sound.exported.stand r.0.0 r.0.1 r.1) in
      let item : item_at g r.0.1 ≡ item_of g y.0 = ap (λ (z : Option NodeData). stated_in (option_map (item_of g) z)) y.1 in
      subst (λ (e : Name × Origin ℕ × Stated). IsTyped c e.1 e.2) (sym r.2) (subst (IsTyped c (origin_of g r.0.1)) (sym item) (typed r.0.1 y.0 y.1))
