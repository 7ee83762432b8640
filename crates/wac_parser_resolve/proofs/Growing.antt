-- What stays when a graph grows.
use Rattle.std.proofs.Common.{◌≡◌, ◌⊎◌, ℕ, Bool, true, false, ◌==◌, if◌then◌else◌, List, [], ◌∷◌, ◌++◌, Option, Some, None, IsSome, refl, sym, ap, subst, ◌∙◌, inl, inr}
use Rattle.std.specs.FinMap as map
use Rattle.wac_types_base.specs.declared.item.ItemKind.{ItemKind}
use Rattle.wac_types_base.specs.declared.item.«Type».{«Type» as TypeKind}
use Rattle.wac_types_base.specs.declared.ids.WorldId.{WorldId}
use Rattle.wac_types_base.proofs.Slots.{stands_typed_world}
use Rattle.wac_types_base.specs.Record.{Collection}
use Rattle.wac_types_base.specs.Entries.{Name, value_at}
use Rattle.wac_types_base.specs.Graph.{Among}
use Rattle.wac_types_base.specs.Collection.{Stands, unfolding_of}
use Rattle.wac_types_names.specs.Packaged.{Packaged}
use Rattle.wac_graph_core.specs.declared.ids.PackageId.{PackageId}
use Rattle.wac_graph_core.specs.declared.edge.Edge.{Edge}
use Rattle.wac_graph_core.specs.Nodes.{NodeData, Role, plain_node, defined_node}
use Rattle.wac_graph_core.specs.NodeMaps.{NodeMap, IsDefinition, IsImport}
use Rattle.wac_graph_core.specs.Edges.{alias_edge, HasAlias}
use Rattle.wac_graph_core.specs.Graph.{Graph, node_at, ContainsNode, package_in, package_of, IsGraph}
use Rattle.wac_graph_core.specs.Steps.{Imports, Instantiates, Aliases, SetsArgument}
use Rattle.wac_graph_core.specs.Defining.{DefinesType}
use Rattle.wac_graph_core.specs.Exporting.{Exports, Names}
use Rattle.wac_graph_core.proofs.Made.{import_there, instance_there, definition_there}
use Rattle.wac_graph_core.proofs.NodeMap.{get-insert_same, get-insert_other}
use Rattle.std.proofs.lemmas.Bool.{cases_eq}
use Rattle.wac_graph_core.proofs.NodeSteps.{IsAbove, IsAbove-fresh, IsAbove-written, IsAbove-same, some_there}
use Rattle.wac_types_base.proofs.Lists.{value_append}
use Rattle.wac_parser_resolve.specs.Later.{Later, Inner, IsAsItWas, IsWithin, Stays, first_name}

found_first : (b : Bool) (m n : Name) (o p : Option Name) → (o ≡ Some n → p ≡ Some n) → (if b then Some m else o) ≡ Some n → (if b then Some m else p) ≡ Some n
found_first true m n o p h e = e
found_first false m n o p h e = h e

first_more : (es : List (Name × ℕ)) (x : Name × ℕ) (k : ℕ) (n : Name) → first_name es k ≡ Some n → first_name (es ++ x ∷ []) k ≡ Some n
first_more [] x k n e = absurd (cc e)
first_more (y ∷ es) x k n e = found_first (y.1 == k) y.0 n (first_name es k) (first_name (es ++ x ∷ []) k) (first_more es x k n) e

-- edges and exports are kept
pub record Adds (g h : Graph) : Type 0 where
  pub edges : (e : Edge) → Among e g.edges → Among e h.edges
  pub exported : (n : Name) (k : ℕ) → value_at g.exports n ≡ Some k → value_at h.exports n ≡ Some k
  pub first : (k : ℕ) (n : Name) → first_name g.exports k ≡ Some n → first_name h.exports k ≡ Some n

adds : (g h : Graph) → ((e : Edge) → Among e g.edges → Among e h.edges) → h.exports ≡ g.exports → Adds g h
adds g h edges exports = record {
  edges = edges;
  exported = λ n k e. ap (λ (xs : List (Name × ℕ)). value_at xs n) exports ∙ e;
  first = λ k n e. ap (λ (xs : List (Name × ℕ)). first_name xs k) exports ∙ e;
}

adds_none : (g h : Graph) → h.edges ≡ g.edges → h.exports ≡ g.exports → Adds g h
adds_none g h edges exports = adds g h (λ e m. subst (Among e) (sym edges) m) exports

adds_export : (g h : Graph) (x : Name × ℕ) → ((e : Edge) → Among e g.edges → Among e h.edges) → h.exports ≡ g.exports ++ x ∷ [] → Adds g h
adds_export g h x edges exports = record {
  edges = edges;
  exported = λ n k e. ap (λ (xs : List (Name × ℕ)). value_at xs n) exports ∙ value_append g.exports (x ∷ []) n k e;
  first = λ k n e. ap (λ (xs : List (Name × ℕ)). first_name xs k) exports ∙ first_more g.exports x k n e;
}

-- what stays, and that it stays
pub as_it_was : (g h : Graph) → Stays g h → IsAsItWas g h
unfolding Stays
as_it_was g h s = s

pub it_stays : (g h : Graph) → IsAsItWas g h → Stays g h
unfolding Stays
it_stays g h s = s

pub Later-nodes : (g h : Graph) → h.types ≡ g.types → h.places ≡ g.places → IsAbove g.nodes h.nodes → Adds g h → Later g h
Later-nodes g h types places above add = record {
  number = ap (λ (c : Collection). c.number) types;
  kinds = λ k s. subst (λ c. Stands c k) (sym types) s;
  nodes = λ k s. some_there g.nodes h.nodes k above s;
  packages = λ id s. subst (λ ps. IsSome (package_in ps id)) (sym places) s;
  stays = it_stays g h (record {
    trees = λ k s. ap (λ c. unfolding_of c k) types;
    still = λ k x e. let a = above k x e in record { node = a.node; there = a.there; role = a.role; of = a.of; item = a.item };
    edges = add.edges;
    exported = add.exported;
    first = add.first;
    held = λ id p e. ap (λ ps. package_in ps id) places ∙ e;
  });
}

pub Later-refl : (g : Graph) → Later g g
Later-refl g = record {
  number = refl;
  kinds = λ k s. s;
  nodes = λ k s. s;
  packages = λ id s. s;
  stays = it_stays g g (record {
    trees = λ k s. refl;
    still = λ k x e. record { node = x; there = e; role = refl; of = refl; item = refl };
    edges = λ e m. m;
    exported = λ n k e. e;
    first = λ k n e. e;
    held = λ id p e. e;
  });
}

pub Later-same : (g h : Graph) → h ≡ g → Later g h
Later-same g h same = subst (Later g) (sym same) (Later-refl g)

pub Later-trans : (f g h : Graph) → Later f g → Later g h → Later f h
Later-trans f g h a b = record {
  number = b.number ∙ a.number;
  kinds = λ k s. b.kinds k (a.kinds k s);
  nodes = λ k s. b.nodes k (a.nodes k s);
  packages = λ id s. b.packages id (a.packages id s);
  stays =
      let x = as_it_was f g a.stays in
      let y = as_it_was g h b.stays in
      it_stays f h (record {
        trees = λ k s. y.trees k (a.kinds k s) ∙ x.trees k s;
        still = λ k n e.
            let p = x.still k n e in
            let q = y.still k p.node p.there in
            record { node = q.node; there = q.there; role = q.role ∙ p.role; of = q.of ∙ p.of; item = q.item ∙ p.item };
        edges = λ e m. y.edges e (x.edges e m);
        exported = λ n k e. y.exported n k (x.exported n k e);
        first = λ k n e. y.first k n (x.first k n e);
        held = λ id p e. y.held id p (x.held id p e);
      });
}

-- ---- what expressions do

pub Inner-refl : (g : Graph) → Inner g g
Inner-refl g = record { later = Later-refl g; imports = λ k n i. i; definitions = λ k x d. d; exports = refl }

pub Inner-same : (g h : Graph) → h ≡ g → Inner g h
Inner-same g h same = subst (Inner g) (sym same) (Inner-refl g)

pub Inner-trans : (f g h : Graph) → Inner f g → Inner g h → Inner f h
Inner-trans f g h a b = record {
  later = Later-trans f g h a.later b.later;
  imports = λ k n i. a.imports k n (b.imports k n i);
  definitions = λ k x d. a.definitions k x (b.definitions k x d);
  exports = b.exports ∙ a.exports;
}

-- what is an import where a node was written was one before
import_back : (m l : NodeMap) (k : ℕ) (x : NodeData) → l ≡ map.insert m k x → ((n : Name) → x.role ≡ Role.Imported n → IsImport m k n) → (j : ℕ) (n : Name) → IsImport l j n → IsImport m j n
import_back m l k x is here j n i = elim (cases_eq j k) [
  | inl same ↦
      let at : map.get l j ≡ Some x = ap (map.get l) same ∙ ap (λ y. map.get y k) is ∙ get-insert_same m k x in
      let e : Some i.node ≡ Some x = sym i.there ∙ at in
      let node : i.node ≡ x = cc in
      subst (λ y. IsImport m y n) (sym same) (here n (sym (ap (λ (y : NodeData). y.role) node) ∙ i.role))
  | inr ne ↦ record { node = i.node; there = sym (get-insert_other m k x j ne) ∙ sym (ap (λ y. map.get y j) is) ∙ i.there; role = i.role }
]

-- what is a definition there was one before
definition_back : (m l : NodeMap) (k : ℕ) (x : NodeData) → l ≡ map.insert m k x → ((item : ItemKind) → x.role ≡ Role.Defined → x.item_kind ≡ item → IsDefinition m k item) → (j : ℕ) (item : ItemKind) → IsDefinition l j item → IsDefinition m j item
definition_back m l k x is here j item d = elim (cases_eq j k) [
  | inl same ↦
      let at : map.get l j ≡ Some x = ap (map.get l) same ∙ ap (λ y. map.get y k) is ∙ get-insert_same m k x in
      let e : Some d.node ≡ Some x = sym d.there ∙ at in
      let node : d.node ≡ x = cc in
      subst (λ y. IsDefinition m y item) (sym same) (here item (sym (ap (λ (y : NodeData). y.role) node) ∙ d.role) (sym (ap (λ (y : NodeData). y.item_kind) node) ∙ d.type))
  | inr ne ↦ record { node = d.node; there = sym (get-insert_other m k x j ne) ∙ sym (ap (λ y. map.get y j) is) ∙ d.there; role = d.role; type = d.type }
]

-- ---- single calls

fresh : (g h : Graph) (k : ℕ) (n : NodeData) → node_at g k ≡ None → h.types ≡ g.types → h.places ≡ g.places → h.nodes ≡ map.insert g.nodes k n → Adds g h → Later g h
fresh g h k n free types places nodes add = Later-nodes g h types places (subst (IsAbove g.nodes) (sym nodes) (IsAbove-fresh g.nodes k n free)) add

pub Later-import : (g h : Graph) (n : Name) (kind : ItemKind) (k : ℕ) → Imports g h n kind k → Later g h
Later-import g h n kind k s =
    fresh g h k (plain_node (Role.Imported n) None kind) s.free (ap (λ (x : Graph). x.types) s.made) (ap (λ (x : Graph). x.places) s.made) (ap (λ (x : Graph). x.nodes) s.made)
    (adds_none g h (ap (λ (x : Graph). x.edges) s.made) (ap (λ (x : Graph). x.exports) s.made))

pub Later-instance : (g h : Graph) (id : PackageId) (k : ℕ) → Instantiates g h id k → Later g h
Later-instance g h id k s =
    fresh g h k (plain_node Role.Instance (Some id) (ItemKind.Instance s.of.instance_type)) s.free (ap (λ (x : Graph). x.types) s.made) (ap (λ (x : Graph). x.places) s.made) (ap (λ (x : Graph). x.nodes) s.made)
    (adds_none g h (ap (λ (x : Graph). x.edges) s.made) (ap (λ (x : Graph). x.exports) s.made))

pub Later-alias : (g h : Graph) (i : ℕ) (n : Name) (k : ℕ) → Aliases g h i n k → Later g h
Later-alias g h i n k (inl again) = Later-same g h again.same
Later-alias g h i n k (inr s) =
    fresh g h k (plain_node Role.Aliased None s.item) s.free (ap (λ (x : Graph). x.types) s.made) (ap (λ (x : Graph). x.places) s.made) (ap (λ (x : Graph). x.nodes) s.made)
    (adds g h (λ e m. (s.edges e).1 (inl m)) (ap (λ (x : Graph). x.exports) s.made))

pub Later-set : (g h : Graph) (i : ℕ) (n : Name) (a : ℕ) → SetsArgument g h i n a → Later g h
Later-set g h i n a s = elim s.step [
  | inl keep ↦ Later-same g h keep.same
  | inr add ↦ Later-nodes g h (ap (λ (x : Graph). x.types) add.made) (ap (λ (x : Graph). x.places) add.made)
      (subst (IsAbove g.nodes) (sym (ap (λ (x : Graph). x.nodes) add.made)) (IsAbove-same g.nodes))
      (adds g h (λ e m. (add.edges e).1 (inl m)) (ap (λ (x : Graph). x.exports) add.made))
]

pub Later-define : (g h : Graph) (n : Name) (t : TypeKind) (k : ℕ) → DefinesType g h n t k → Later g h
Later-define g h n t k s =
    fresh g h k (defined_node t n) s.free (ap (λ (x : Graph). x.types) s.made) (ap (λ (x : Graph). x.places) s.made) (ap (λ (x : Graph). x.nodes) s.made)
    (adds_export g h (n, k) (λ e m. (s.edges e).1 (inl m)) (ap (λ (x : Graph). x.exports) s.made))

-- a node that is neither an import nor a definition
abbrev IsInside : Role → Type 0
IsInside r = (r ≡ Role.Instance) ⊎ (r ≡ Role.Aliased)

no_import : (r : Role) (n : Name) → IsInside r → r ≡ Role.Imported n → ⊥
no_import r n (inl a) b = absurd (cc (a, b))
no_import r n (inr a) b = absurd (cc (a, b))

no_definition : (r : Role) → IsInside r → r ≡ Role.Defined → ⊥
no_definition r (inl a) b = absurd (cc (a, b))
no_definition r (inr a) b = absurd (cc (a, b))

inner_fresh : (g h : Graph) (k : ℕ) (x : NodeData) → Later g h → h.nodes ≡ map.insert g.nodes k x → IsInside x.role → h.exports ≡ g.exports → Inner g h
inner_fresh g h k x later nodes inside exports = record {
  later = later;
  imports = import_back g.nodes h.nodes k x nodes (λ n e. absurd (no_import x.role n inside e));
  definitions = definition_back g.nodes h.nodes k x nodes (λ i e f. absurd (no_definition x.role inside e));
  exports = exports;
}

pub Inner-instance : (g h : Graph) (id : PackageId) (k : ℕ) → Instantiates g h id k → Inner g h
Inner-instance g h id k s =
    let x : NodeData = plain_node Role.Instance (Some id) (ItemKind.Instance s.of.instance_type) in
    inner_fresh g h k x (Later-instance g h id k s) (ap (λ (y : Graph). y.nodes) s.made) (inl refl) (ap (λ (y : Graph). y.exports) s.made)

pub Inner-alias : (g h : Graph) (i : ℕ) (n : Name) (k : ℕ) → Aliases g h i n k → Inner g h
Inner-alias g h i n k (inl again) = Inner-same g h again.same
Inner-alias g h i n k (inr s) =
    let x : NodeData = plain_node Role.Aliased None s.item in
    inner_fresh g h k x (Later-alias g h i n k (inr s)) (ap (λ (y : Graph). y.nodes) s.made) (inr refl) (ap (λ (y : Graph). y.exports) s.made)

pub Inner-set : (g h : Graph) (i : ℕ) (n : Name) (a : ℕ) → SetsArgument g h i n a → Inner g h
Inner-set g h i n a s = elim s.step [
  | inl keep ↦ Inner-same g h keep.same
  | inr add ↦ record {
    later = Later-set g h i n a s;
    imports = λ k m is. subst (λ y. IsImport y k m) (ap (λ (x : Graph). x.nodes) add.made) is;
    definitions = λ k i is. subst (λ y. IsDefinition y k i) (ap (λ (x : Graph). x.nodes) add.made) is;
    exports = ap (λ (x : Graph). x.exports) add.made;
  }
]

written : (g h : Graph) (k : ℕ) (n o : NodeData) → node_at g k ≡ Some o → o.role ≡ n.role → o.of ≡ n.of → o.item_kind ≡ n.item_kind → h.types ≡ g.types → h.places ≡ g.places → h.nodes ≡ map.insert g.nodes k n → Adds g h → Later g h
written g h k n o at role of item types places nodes add = Later-nodes g h types places (subst (IsAbove g.nodes) (sym nodes) (IsAbove-written g.nodes k n o at role of item)) add

pub Later-export : (g h : Graph) (k : ℕ) (n : Name) → Exports g h k n → Later g h
Later-export g h k n s =
    written g h k (record s.node { export = Some n }) s.node s.there refl refl refl (ap (λ (x : Graph). x.types) s.made) (ap (λ (x : Graph). x.places) s.made) (ap (λ (x : Graph). x.nodes) s.made)
    (adds_export g h (n, k) (λ e m. subst (Among e) (sym (ap (λ (x : Graph). x.edges) s.made)) m) (ap (λ (x : Graph). x.exports) s.made))

pub Later-names : (g h : Graph) (k : ℕ) (n : Name) → Names g h k n → Later g h
Later-names g h k n s =
    written g h k (record s.node { name = Some n }) s.node s.there refl refl refl (ap (λ (x : Graph). x.types) s.made) (ap (λ (x : Graph). x.places) s.made) (ap (λ (x : Graph). x.nodes) s.made)
    (adds_none g h (ap (λ (x : Graph). x.edges) s.made) (ap (λ (x : Graph). x.exports) s.made))

pub Inner-names : (g h : Graph) (k : ℕ) (n : Name) → Names g h k n → Inner g h
Inner-names g h k n s =
    let x : NodeData = record s.node { name = Some n } in
    record {
      later = Later-names g h k n s;
      imports = import_back g.nodes h.nodes k x (ap (λ (y : Graph). y.nodes) s.made) (λ m e. record { node = s.node; there = s.there; role = e });
      definitions = definition_back g.nodes h.nodes k x (ap (λ (y : Graph). y.nodes) s.made) (λ i e f. record { node = s.node; there = s.there; role = e; type = f });
      exports = ap (λ (y : Graph). y.exports) s.made;
    }

-- ---- nodes and edges alone

pub within_refl : (g : Graph) → IsWithin g g
within_refl g = record { types = refl; places = refl }

pub within_same : (g h : Graph) → h ≡ g → IsWithin g h
within_same g h same = subst (IsWithin g) (sym same) (within_refl g)

pub within_trans : (f g h : Graph) → IsWithin f g → IsWithin g h → IsWithin f h
within_trans f g h a b = record { types = b.types ∙ a.types; places = b.places ∙ a.places }

pub within_alias : (g h : Graph) (i : ℕ) (n : Name) (k : ℕ) → Aliases g h i n k → IsWithin g h
within_alias g h i n k (inl again) = within_same g h again.same
within_alias g h i n k (inr s) = record { types = ap (λ (x : Graph). x.types) s.made; places = ap (λ (x : Graph). x.places) s.made }

pub within_instance : (g h : Graph) (id : PackageId) (k : ℕ) → Instantiates g h id k → IsWithin g h
within_instance g h id k s = record { types = ap (λ (x : Graph). x.types) s.made; places = ap (λ (x : Graph). x.places) s.made }

pub within_set : (g h : Graph) (i : ℕ) (n : Name) (a : ℕ) → SetsArgument g h i n a → IsWithin g h
within_set g h i n a s = elim s.step [
  | inl keep ↦ within_same g h keep.same
  | inr add ↦ record { types = ap (λ (x : Graph). x.types) add.made; places = ap (λ (x : Graph). x.places) add.made }
]

-- ---- what stands in a graph

pub item_stands : (g : Graph) (k : ℕ) (n : NodeData) → IsGraph g → node_at g k ≡ Some n → Stands g.types n.item_kind
item_stands g k n is at = (is.nodes k n at).item

pub package_stands : (g : Graph) (id : PackageId) (p : Packaged) → IsGraph g → package_of g id ≡ Some p → Stands g.types (ItemKind.Component p.ty)
package_stands g id p is at = (is.packages.stand id p at).world

pub ruleset calling = (within_same, within_instance, within_set, Later-same, Later-import, Later-define, Later-export, Inner-same, Inner-instance, Inner-set, Inner-names, import_there, instance_there, definition_there)

pub ruleset standing = (item_stands, package_stands)

-- ---- types of things

pub world_stands : (c : Collection) (k : ItemKind) (id : WorldId) → k ≡ ItemKind.Ty (TypeKind.World id) → Stands c k → Stands c (ItemKind.Component id)
world_stands c k id e s = stands_typed_world c id (subst (Stands c) e s)
