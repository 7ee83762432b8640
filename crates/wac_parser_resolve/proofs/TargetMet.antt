-- When a graph meets its target.
use Rattle.std.proofs.Common.{◌≡◌, ◌⊎◌, ◌<◌, ◌≤◌, ◌+◌, ℕ, List, [], ◌∷◌, length, Bool, true, false, ◌||◌, ◌==◌, if◌then◌else◌, Option, Some, None, IsSome, IfSome, Result, Ok, Err, OnOk, slice_get, refl, sym, ap, subst, ◌∙◌, inl, inr, arith}
use Rattle.std.proofs.lemmas.Bool.{cases_eq, or_right}
use Rattle.std.proofs.lemmas.Slice.Eq.{bytes_eq-Decides}
use borrow.Author.Count.{below_more}
use Rattle.std.specs.Cmp.Lexicographic.{pointwise}
use Rattle.std.specs.Ordering.{nat_cmp, eq_by_cmp}
use Rattle.std.specs.List.{list_any}
use Rattle.std.specs.FinMap as map
use Rattle.wac_types_base.specs.declared.ids.WorldId.{WorldId}
use Rattle.wac_types_base.specs.declared.item.ItemKind.{ItemKind}
use Rattle.wac_types_base.specs.declared.defined.World.{World}
use Rattle.wac_types_base.specs.Entries.{Name, value_at}
use Rattle.wac_types_base.specs.Record.{Collection}
use Rattle.wac_types_base.specs.Graph.{Among}
use Rattle.wac_types_base.specs.Implicit.{implicit_interfaces, by_identifier}
use Rattle.wac_types_base.proofs.Walking.{slice_get-Among}
use Rattle.wac_types_fit.specs.Targets.{target_import}
use Rattle.wac_graph_core.specs.declared.edge.Edge.{Edge}
use Rattle.wac_graph_core.specs.declared.ids.PackageId.{PackageId}
use Rattle.wac_types_names.specs.Packaged.{Packaged}
use Rattle.wac_graph_core.specs.Nodes.{NodeData}
use Rattle.wac_graph_core.specs.NodeMaps.{NodeMap}
use Rattle.wac_graph_core.specs.Edges.{HasArgument}
use Rattle.wac_graph_core.specs.Walking.{first_argument}
use Rattle.wac_graph_core.specs.Listing.{passed_list, passed_with}
use Rattle.wac_graph_core.specs.Graph.{Graph, node_at, ContainsNode, ContainsPackage, package_of, package_if, package_made, imported_in, IsGraph}
use Rattle.wac_graph_core.proofs.NodeMap.{tied, apart}
use Rattle.wac_graph_core.proofs.Found.{argument_found}
use Rattle.wac_parser_resolve.specs.Targeting.{Gives, AreFilledMet, AreExportsMet, IsStatementMet, IsInstanceMet, IsMet}

-- ---- exports

found_by : (t : Bool) (e : Name × ℕ) (es : List (Name × ℕ)) (n : Name) (k : ℕ) → (value_at es n ≡ Some k → (m : Name) × Among (m, k) es) → (if t then Some e.1 else value_at es n) ≡ Some k → (m : Name) × Among (m, k) (e ∷ es)
found_by true e es n k rest is = let same : k ≡ e.1 = cc in (e.0, inl (ap (λ j. (e.0, j)) same))
found_by false e es n k rest is = let r = rest is in (r.0, inr r.1)

value_among : (es : List (Name × ℕ)) (n : Name) (k : ℕ) → value_at es n ≡ Some k → (m : Name) × Among (m, k) es
value_among [] n k is = absurd (cc is)
value_among (e ∷ es) n k is = found_by (pointwise ◌==◌ n e.0) e es n k (value_among es n k) is

pub export_stands : (g : Graph) (o : Option ℕ) (n : Name) → IsGraph g → o ≡ value_at g.exports n → IfSome o (λ k. ContainsNode g k)
export_stands g None n is e = tt
export_stands g (Some k) n is e = let m = value_among g.exports n k (sym e) in is.exported.stand m.0 k m.1

-- ---- what is passed

passed_by : (es : List Edge) (i : ℕ) (n : Name) (o : Option ℕ) (xs : List (Name × ℕ)) (e : Name × ℕ) → o ≡ first_argument es i n → (Among e xs → HasArgument es i e.0 e.1) → Among e (passed_with n o xs) → HasArgument es i e.0 e.1
passed_by es i n None xs e is rest m = rest m
passed_by es i n (Some a) xs e is rest (inl same) = subst (λ (x : Name × ℕ). HasArgument es i x.0 x.1) (sym same) (argument_found es i a n (sym is))
passed_by es i n (Some a) xs e is rest (inr m) = rest m

pub passed_has : (es : List Edge) (i : ℕ) (ns : List Name) (e : Name × ℕ) → Among e (passed_list es i ns) → HasArgument es i e.0 e.1
passed_has es i [] e m = absurd m
passed_has es i (n ∷ ns) e m = passed_by es i n (first_argument es i n) (passed_list es i ns) e refl (passed_has es i ns e) m

-- ---- the nodes of a graph

test_true : (q x : ℕ) (b : Bool) → (q ≡ x → ⊥) ⊎ (q ≡ x) → (eq_by_cmp nat_cmp q x || b) ≡ true → (q ≡ x) ⊎ (b ≡ true)
test_true q x b (inl ne) h = inr (sym (ap (λ t. t || b) (apart q x ne)) ∙ h)
test_true q x b (inr e) h = inl e

either_case : (q x : ℕ) → (q ≡ x → ⊥) ⊎ (q ≡ x)
either_case q x = elim (cases_eq q x) [ inl e ↦ inr e | inr ne ↦ inl ne ]

among_any : (q : ℕ) (ks : List ℕ) → list_any (eq_by_cmp nat_cmp q) ks ≡ true → Among q ks
among_any q [] h = absurd (cc h)
among_any q (x ∷ xs) h = elim (test_true q x (list_any (eq_by_cmp nat_cmp q) xs) (either_case q x) h) [ inl e ↦ inl e | inr r ↦ inr (among_any q xs r) ]

any_among : (q : ℕ) (ks : List ℕ) → Among q ks → list_any (eq_by_cmp nat_cmp q) ks ≡ true
any_among q [] m = absurd m
any_among q (x ∷ xs) (inl e) =
    let same : eq_by_cmp nat_cmp q x ≡ true = ap (eq_by_cmp nat_cmp q) (sym e) ∙ tied q in
    ap (λ t. t || list_any (eq_by_cmp nat_cmp q) xs) same
any_among q (x ∷ xs) (inr m) = or_right (eq_by_cmp nat_cmp q x) (list_any (eq_by_cmp nat_cmp q) xs) (any_among q xs m)

pub keys_there : (m : NodeMap) (k : ℕ) → IsSome (map.get m k) → Among k (map.keys m)
keys_there m k h = among_any k (map.keys m) (sym (map.contains_key-keys m k) ∙ h)

pub keys_stand : (m : NodeMap) (k : ℕ) → Among k (map.keys m) → IsSome (map.get m k)
keys_stand m k h = map.contains_key-keys m k ∙ any_among k (map.keys m) h

-- those that are left stand, and each other node is so
pub record AreLeft (g : Graph) (P : ℕ → Type 0) (left : List ℕ) : Type 0 where
  pub stand : (k : ℕ) → Among k left → ContainsNode g k
  pub done : (k : ℕ) → ContainsNode g k → Among k left ⊎ P k

pub left_first : (g : Graph) (P : ℕ → Type 0) (left : List ℕ) → left ≡ map.keys g.nodes → AreLeft g P left
left_first g P left is = record {
  stand = λ k m. keys_stand g.nodes k (subst (Among k) is m);
  done = λ k h. inl (subst (Among k) (sym is) (keys_there g.nodes k h));
}

pub left_next : (g : Graph) (P : ℕ → Type 0) (left rest : List ℕ) (x : ℕ) → left ≡ x ∷ rest → AreLeft g P left → P x → AreLeft g P rest
left_next g P left rest x is l h = record {
  stand = λ k m. l.stand k (subst (Among k) (sym is) (inr m));
  done = λ k c. elim (l.done k c) [
    | inl m ↦ elim (among_cons k x rest (subst (Among k) is m)) [ inl e ↦ inr (subst P (sym e) h) | inr r ↦ inl r ]
    | inr p ↦ inr p
  ];
}
  where
    among_cons : (k x : ℕ) (rest : List ℕ) → Among k (x ∷ rest) → (k ≡ x) ⊎ Among k rest
    among_cons k x rest m = m

pub left_here : (g : Graph) (P : ℕ → Type 0) (left rest : List ℕ) (x : ℕ) → left ≡ x ∷ rest → AreLeft g P left → ContainsNode g x
left_here g P left rest x is l = l.stand x (subst (Among x) (sym is) (inl refl))

pub left_none : (g : Graph) (P : ℕ → Type 0) (left : List ℕ) → left ≡ [] → AreLeft g P left → (k : ℕ) → ContainsNode g k → P k
left_none g P left is l k c = elim (l.done k c) [ inl m ↦ absurd (subst (Among k) is m) | inr p ↦ p ]

some_node : (o : Option NodeData) (x : NodeData) → o ≡ Some x → IsSome o
some_node o x e = subst IsSome (sym e) refl

pub all_statements : (g : Graph) (given : Gives) (left : List ℕ) → left ≡ [] → AreLeft g (IsStatementMet g given) left → (k : ℕ) → IsStatementMet g given k
all_statements g given left is l k n i = left_none g (IsStatementMet g given) left is l k (some_node (node_at g k) i.node i.there) n i

pub instance_there : (g : Graph) (k : ℕ) (o : Option NodeData) → node_at g k ≡ o → IsSome (package_made g o) → ContainsNode g k
instance_there g k None e h = absurd (cc h)
instance_there g k (Some x) e h = some_node (node_at g k) x e

pub all_instances : (g : Graph) (given : Gives) (left : List ℕ) → left ≡ [] → AreLeft g (IsInstanceMet g given) left → (k : ℕ) → IsInstanceMet g given k
all_instances g given left is l k n item o =
    left_none g (IsInstanceMet g given) left is l k (instance_there g k (node_at g k) refl (subst IsSome (sym o.is.is) refl)) n item o

-- ---- an instance

equal_names : (m n : Name) → pointwise ◌==◌ m n ≡ true → m ≡ n
equal_names m n h = (bytes_eq-Decides m n).0 h

item_by : (t : Bool) (e : Name × ItemKind) (es : List (Name × ItemKind)) (n : Name) (k : ItemKind) → pointwise ◌==◌ n e.0 ≡ t → (value_at es n ≡ Some k → Among (n, k) es)
    → (if t then Some e.1 else value_at es n) ≡ Some k → Among (n, k) (e ∷ es)
item_by true e es n k same rest h = let item : k ≡ e.1 = cc in inl (ap (λ m. (m, k)) (equal_names n e.0 same) ∙ ap (λ j. (e.0, j)) item)
item_by false e es n k same rest h = inr (rest h)

item_among : (es : List (Name × ItemKind)) (n : Name) (k : ItemKind) → value_at es n ≡ Some k → Among (n, k) es
item_among [] n k is = absurd (cc is)
item_among (e ∷ es) n k is = item_by (pointwise ◌==◌ n e.0) e es n k refl (item_among es n k) is

pub instance_of_world : (g : Graph) (given : Gives) (k : ℕ) (x : NodeData) (id : PackageId) (w : WorldId) (world : World)
    → node_at g k ≡ Some x → x.of ≡ Some id → ((p : Packaged) → package_of g id ≡ Some p → w ≡ p.ty) → slice_get g.types.worlds w.index ≡ Some world
    → AreFilledMet g given k world.imports → IsInstanceMet g given k
instance_of_world g given k x id w world at of own is met n item o =
    let made : package_of g id ≡ Some o.is.of = sym (ap (package_if g) of) ∙ sym (ap (package_made g) at) ∙ o.is.is in
    let same : slice_get g.types.worlds o.is.of.ty.index ≡ Some world = sym (ap (λ (v : WorldId). slice_get g.types.worlds v.index) (own o.is.of made)) ∙ is in
    let found : value_at world.imports n ≡ Some item = sym (ap (λ v. imported_in v n) same) ∙ o.is.import in
    elim (met n item (item_among world.imports n item found)) [ inl passed ↦ absurd (o.none passed.0 passed.1) | inr here ↦ here ]

-- a node that is no instance of a package leaves nothing open
pub no_instance_open : (g : Graph) (given : Gives) (k : ℕ) (x : NodeData) → node_at g k ≡ Some x → x.of ≡ None → IsInstanceMet g given k
no_instance_open g given k x at of n item o =
    let made : package_made g (node_at g k) ≡ None = ap (package_made g) at ∙ ap (package_if g) of in
    absurd (cc (made, o.is.is))

-- ---- entries, one behind the other

-- each entry before the place is so
abbrev pub AreBelow : (Name → ItemKind → Type 0) → List (Name × ItemKind) → ℕ → Type 0
AreBelow P es at = (i : ℕ) → i < at → (n : Name) (k : ItemKind) → slice_get es i ≡ Some (n, k) → P n k

pub below_next : (P : Name → ItemKind → Type 0) (es : List (Name × ItemKind)) (at : ℕ) (m : Name) (j : ItemKind) → slice_get es at ≡ Some (m, j) → AreBelow P es at → P m j → AreBelow P es (at + 1)
below_next P es at m j is below here =
    below_more (λ i. (n : Name) (k : ItemKind) → slice_get es i ≡ Some (n, k) → P n k) at below
    (λ n k e. let same : Some (m, j) ≡ Some (n, k) = sym is ∙ e in let pair : (m, j) ≡ (n, k) = cc in subst (λ (x : Name × ItemKind). P x.0 x.1) pair here)

pub below_all : (P : Name → ItemKind → Type 0) (es : List (Name × ItemKind)) (at : ℕ) → length es ≤ at → AreBelow P es at → (n : Name) (k : ItemKind) → Among (n, k) es → P n k
below_all P es at end below n k m = let i = slice_get-Among es (n, k) m in below i.0 (omega (arith, i.1)) n k i.2

-- the package of a node stands
pub node_package : (g : Graph) (k : ℕ) (x : NodeData) (id : PackageId) → IsGraph g → node_at g k ≡ Some x → x.of ≡ Some id → ContainsPackage g id
node_package g k x id is at of = (is.nodes k x at).of id of

-- ---- all of it

pub on_ok : {A E : Type 0} (r : Result A E) {P Q : Type 0} → (P → Q) → OnOk r P → OnOk r Q
on_ok (Ok x) f p = f p
on_ok (Err e) f p = tt

pub meets : (g : Graph) (c : Collection) (w : WorldId) (world : World) (implicit : List (Name × ItemKind)) → c ≡ g.types → slice_get c.worlds w.index ≡ Some world
    → by_identifier c [] (implicit_interfaces c world) ≡ Some implicit
    → ((k : ℕ) → IsStatementMet g (target_import implicit world.imports) k) → ((k : ℕ) → IsInstanceMet g (target_import implicit world.imports) k) → AreExportsMet g world.exports → IsMet g w
meets g c w world implicit same is listed statements instances exports = record {
  world = world;
  is = subst (λ t. slice_get t.worlds w.index ≡ Some world) same is;
  implicit = implicit;
  implicit_is = subst (λ t. by_identifier t [] (implicit_interfaces t world) ≡ Some implicit) same listed;
  statements = statements;
  instances = instances;
  exports = exports;
}

pub ruleset instance = (node_package, instance_of_world, no_instance_open)
