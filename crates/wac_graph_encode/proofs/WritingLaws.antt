-- What is given to an instance, and which nodes are written before others.
use Rattle.std.specs.Prelude.{Option, IfSome, IfNone, IsSome, is_some, slice_get, take}
use Rattle.std.specs.List.{AllZip}
use Rattle.std.specs.Map.{lookup}
use Rattle.std.specs.FinMap as finite
use Rattle.std.specs.Cmp.Lexicographic.{pointwise}
use Rattle.std.proofs.Common.{◌≡◌, ◌==◌, ◌⊎◌, ◌<◌, ◌≤◌, ℕ, ◌+◌, Bool, true, false, if◌then◌else◌, List, ◌++◌, [], ◌∷◌, Some, None, inl, inr, refl, sym, ap, subst, ◌∙◌, arith}
use Rattle.wac_types_base.specs.Entries.{AreDistinct, Name, names_of, value_at, values_of}
use Rattle.wac_types_base.specs.Graph.{Among}
use Rattle.wac_types_base.specs.declared.item.ItemKind.{ItemKind}
use Rattle.wac_types_base.proofs.Loops.{map-one_more}
use Rattle.wac_graph_bytes.specs.declared.entry.NamedIndex.{NamedIndex}
use Rattle.wac_graph_bytes.specs.declared.entry.Entry.{Entry as CodeEntry}
use Rattle.wac_graph_bytes.specs.Views.{arguments_view}
use Rattle.wac_graph_bytes.specs.Entries.{Argument}
use Rattle.wac_types_base.specs.Tree.{Tree}
use Rattle.wac_graph_bytes.specs.Typing.{Worlds}
use Rattle.wac_graph_core.specs.Nodes.{NodeData}
use Rattle.wac_graph_asks.specs.Graphs.{nodes_of}
use Rattle.wac_graph_asks.proofs.Origins.{node_among}
use Rattle.wac_graph_core.specs.Edges.{HasAlias, IsRank, alias_edge, argument_edge}
use Rattle.wac_graph_core.specs.Graph.{Graph, ContainsNode, node_at}
use Rattle.wac_graph_core.specs.contracts.ids.NodeIdPartialEq.TheImpl as node
use Rattle.wac_graph_core.proofs.Found.{argument_found, no_argument, same_name}
use Rattle.wac_types_fit.proofs.Items.{differs, value_at-among, name-among}
use Rattle.wac_graph_scopes.specs.declared.imports.SortIndex.{SortIndex}
use Rattle.wac_graph_encode.specs.declared.instances.Wired.{Wired}
use Rattle.wac_graph_encode.specs.declared.instances.Standing.{Standing}
use Rattle.wac_graph_asks.specs.Reads.{AreArguments}
use Rattle.wac_graph_encode.specs.Standing.{IsGivenAt, argument, outer}
use Rattle.wac_graph_encode.specs.Writing.{IsNeeded, AddsEntry, AddsExport, AddsGiven, AddsNeeded, exported_as, GivesUnder, by_node, by_import, AreGivenUnder, AreGivenAt, IsSameRoot, KeepsNodes, AddsOnly, Below, UpToOne, WrittenSo, noted, outer_in, AllAreWritten}
use Rattle.wac_graph_encode.proofs.Entries.{same_node, found_among, none_among}
use Rattle.wac_types_fit.proofs.Items.{Among-last}
use Rattle.wac_graph_scopes.proofs.RootLaws.{zip_more}
use Rattle.wac_graph_encode.proofs.StandingNumbers.{zip_map}

-- ---- what is given

module _ (g : Graph) (k : ℕ) (bound : List (Name × ℕ)) (are : AreArguments g k bound) (s : Standing) where
  pub given_at : (n : Name) (p : SortIndex) → GivesUnder s bound n p → IsGivenAt g (outer_in s) s.nodes.now.entries k n p
  given_at n p (by_node a v m) = argument a (argument_found g.edges k a n (sym (are n) ∙ v)) m
  given_at n p (by_import v o) = outer (λ a. no_argument g.edges k a n (sym (are n) ∙ v)) o

  pub all_given : (ns : List Name) (as_ : List Argument) → AreGivenUnder s bound ns as_ → AreGivenAt g (outer_in s) s.nodes.now.entries k ns as_
  all_given ns as_ z =
      zip_map (λ n a. (a.0 ≡ n) × GivesUnder s bound n (record { sort = a.1; index = a.2 })) (λ n a. (a.0 ≡ n) × IsGivenAt g (outer_in s) s.nodes.now.entries k n (record { sort = a.1; index = a.2 }))
      (λ n a x. (x.0, given_at n (record { sort = a.1; index = a.2 }) x.1)) ns as_ z

-- what stands among the values stands under a name
pub value_named : (xs : List (Name × ℕ)) → AreDistinct (names_of xs) → (v : ℕ) → Among v (values_of xs) → (n : Name) × (value_at xs n ≡ Some v)
value_named [] d v m = absurd m
value_named (x ∷ xs) d v (inl e) = (x.0, ap (λ (b : Bool). if b then Some x.1 else value_at xs x.0) (same_name x.0) ∙ ap Some (sym e))
value_named (x ∷ xs) d v (inr m) =
    let r = value_named xs d.1 v m in
    let other : pointwise ◌==◌ r.0 x.0 ≡ false = differs r.0 x.0 (λ e. d.0 (subst (λ (n : Name). Among n (names_of xs)) e (name-among xs r.0 v (value_at-among xs r.0 v r.1)))) in
    (r.0, ap (λ (b : Bool). if b then Some x.1 else value_at xs r.0) other ∙ r.1)

-- the nodes that are passed are needed
pub passed_needed : (g : Graph) (k : ℕ) (bound : List (Name × ℕ)) → AreArguments g k bound → AreDistinct (names_of bound) → (v : ℕ) → Among v (values_of bound) → IsNeeded g v k
passed_needed g k bound are d v m = let r = value_named bound d v m in inl (r.0, argument_found g.edges k v r.0 (sym (are r.0) ∙ r.1))

pub needed_more : (g : Graph) (k : ℕ) (start old new : List ℕ) (v : ℕ) → AddsNeeded g k start old → new ≡ old ++ v ∷ [] → IsNeeded g v k → AddsNeeded g k start new
needed_more g k start old new v adds is needed j m = go (Among-last old v j (subst (Among j) is m))
  where
    go : Among j old ⊎ (j ≡ v) → Among j start ⊎ IsNeeded g j k
    go (inl there) = adds j there
    go (inr e) = inr (subst (λ (i : ℕ). IsNeeded g i k) (sym e) needed)

pub needed_trans : (g : Graph) (k : ℕ) (old mid new : List ℕ) → AddsNeeded g k old mid → AddsNeeded g k mid new → AddsNeeded g k old new
needed_trans g k old mid new a b j m = elim (b j m) [ inl there ↦ a j there | inr needed ↦ inr needed ]

-- the source of an alias
pub source_needed : (g : Graph) (k : ℕ) (old new : List ℕ) (j : ℕ) (n : Name) → HasAlias g.edges j n k → new ≡ old ++ j ∷ [] → AddsNeeded g k old new
source_needed g k old new j n edge is = needed_more g k old old new j (λ i m. inl m) is (inr (n, edge))

-- what is told of a node that is looked for
pub found_if : (nodes : List (ℕ × SortIndex)) (k : ℕ) (o : Option SortIndex) → o ≡ lookup (node.eq-value.it k) nodes → IfSome o (λ p. Among (k, p) nodes)
found_if nodes k None e = tt
found_if nodes k (Some p) e = found_among node.eq-value.it same_node nodes k p (sym e)

pub none_if : (nodes : List (ℕ × SortIndex)) (k : ℕ) (o : Option SortIndex) → o ≡ lookup (node.eq-value.it k) nodes → IfNone o (Among k (names_of nodes) → ⊥)
none_if nodes k None e = none_among node.eq-value.it same_node nodes k (sym e)
none_if nodes k (Some p) e = tt

-- ---- arguments and exports, one after another

pub given_next : (s : Standing) (bound : List (Name × ℕ)) (xs : List (Name × ItemKind)) (i : ℕ) (n : Name) (k : ItemKind) (old new : List NamedIndex) → slice_get xs i ≡ Some (n, k) → AddsGiven s bound n old new
    → AreGivenUnder s bound (names_of (take i xs)) (arguments_view old) → AreGivenUnder s bound (names_of (take (i + 1) xs)) (arguments_view new)
given_next s bound xs i n k old new at adds are =
    let R : Name → Argument → Type 0 = λ m a. (a.0 ≡ m) × GivesUnder s bound m (record { sort = a.1; index = a.2 }) in
    let one : Argument = (n, adds.place.sort, adds.place.index) in
    let names : names_of (take (i + 1) xs) ≡ names_of (take i xs) ++ n ∷ [] = map-one_more (λ (x : Name × ItemKind). x.0) xs i (n, k) at in
    subst (λ ns. AllZip R ns (arguments_view new)) (sym names) (subst (AllZip R (names_of (take i xs) ++ n ∷ [])) (sym adds.added)
    (zip_more R (names_of (take i xs)) (arguments_view old) n one are (refl, adds.given)))

-- the export of what is found
pub export_of_found : (nodes : List (ℕ × SortIndex)) (n : Name) (k : ℕ) (p : SortIndex) (old new : List CodeEntry) → lookup (node.eq-value.it k) nodes ≡ Some p → AddsEntry old new (exported_as n p) → AddsExport nodes (n, k) old new
export_of_found nodes n k p old new e a = record { entry = a.entry; added = a.added; is = record { place = p; stands = found_among node.eq-value.it same_node nodes k p e; is = a.is } }

-- ---- ranks

pub needed_below : (g : Graph) (rank : ℕ → ℕ) → IsRank g.edges rank → (j k : ℕ) → IsNeeded g j k → rank j < rank k
needed_below g rank is j k (inl a) = is.rises (argument_edge j k a.0) a.1 refl
needed_below g rank is j k (inr a) = is.rises (alias_edge j k a.0) a.1 refl

-- what those that one needs lead to is below it
pub needed_below_one : (g : Graph) (k : ℕ) (items : List ℕ) → AddsNeeded g k [] items → (rank : ℕ → ℕ) → IsRank g.edges rank → (j : ℕ) → UpToOne items rank j → Below k rank j
needed_below_one g k items needs rank is j x = elim (needs x.0 x.1) [
  | inl none ↦ absurd none
  | inr n ↦ let low = needed_below g rank is x.0 k n in let most : rank j ≤ rank x.0 = x.2 in omega (arith, low, most)
]

-- ---- nodes that stand

-- a node that is found stands
pub stands_if : (nodes : List (ℕ × SortIndex)) (k : ℕ) (o : Option SortIndex) → true ≡ is_some o → IfSome o (λ p. Among (k, p) nodes) → Among k (names_of nodes)
stands_if nodes k None e x = absurd (cc e)
stands_if nodes k (Some p) e x = name-among nodes k p x

pub same_refl : (w : Wired) → IsSameRoot w w
same_refl w = record { graph = refl; places = refl; imports = refl; packages = refl; exported = refl; nested = refl }

pub same_trans : (u v w : Wired) → IsSameRoot u v → IsSameRoot v w → IsSameRoot u w
same_trans u v w a b = record { graph = b.graph ∙ a.graph; places = b.places ∙ a.places; imports = b.imports ∙ a.imports; packages = b.packages ∙ a.packages; exported = b.exported ∙ a.exported; nested = b.nested ∙ a.nested }

pub keeps_refl : (w : Wired) → KeepsNodes w w
keeps_refl w = record { same = same_refl w; kept = λ k p m. m }

pub keeps_trans : (u v w : Wired) → KeepsNodes u v → KeepsNodes v w → KeepsNodes u w
keeps_trans u v w a b = record { same = same_trans u v w a.same b.same; kept = λ k p m. b.kept k p (a.kept k p m) }

pub only_none : (P : (ℕ → ℕ) → ℕ → Type 0) (w : Wired) → AddsOnly P w w
only_none P w rank is k m = inl m

pub only_trans : (P Q R : (ℕ → ℕ) → ℕ → Type 0) (u v w : Wired) → v.graph ≡ u.graph → ((rank : ℕ → ℕ) → IsRank u.graph.now.edges rank → (k : ℕ) → P rank k → R rank k) → ((rank : ℕ → ℕ) → IsRank u.graph.now.edges rank → (k : ℕ) → Q rank k → R rank k)
    → AddsOnly P u v → AddsOnly Q v w → AddsOnly R u w
only_trans P Q R u v w same p q a b rank is k m = elim (b rank (subst (λ (x : _). IsRank x.now.edges rank) (sym same) is) k m) [
  | inr new ↦ inr (q rank is k new)
  | inl old ↦ elim (a rank is k old) [ inr new ↦ inr (p rank is k new) | inl there ↦ inl there ]
]

pub names_among : {V : Type 0} (xs : List (ℕ × V)) (k : ℕ) → Among k (names_of xs) → (v : V) × Among (k, v) xs
names_among [] k m = absurd m
names_among (x ∷ xs) k (inl e) = (x.1, inl (λ i. (e i, x.1)))
names_among (x ∷ xs) k (inr m) = let r = names_among xs k m in (r.0, inr r.1)

-- ---- all nodes, one after another

-- what was written is written still, and of these nodes each stands that is not left
pub record WroteUpTo (ids rest : List ℕ) (old w : Wired) : Type 0 where
  pub writes : (define : Bool) (worlds : Worlds) (asked : List (Name × Tree)) → WrittenSo define worlds asked old → WrittenSo define worlds asked w
  pub keeps : KeepsNodes old w
  pub done : (k : ℕ) → Among k ids → Among k rest ⊎ Among k (names_of (noted w))
  pub within : (k : ℕ) → Among k rest → Among k ids

pub wrote_none : (ids rest : List ℕ) (w : Wired) → rest ≡ ids → WroteUpTo ids rest w w
wrote_none ids rest w is = record { writes = λ define worlds asked h. h; keeps = keeps_refl w; done = λ k m. inl (subst (Among k) (sym is) m); within = λ k m. subst (Among k) is m }

pub wrote_more : (ids rest left : List ℕ) (node : ℕ) (old mid new : Wired) → WroteUpTo ids rest old mid → rest ≡ node ∷ left → ((define : Bool) (worlds : Worlds) (asked : List (Name × Tree)) → WrittenSo define worlds asked mid → WrittenSo define worlds asked new) → KeepsNodes mid new → Among node (names_of (noted new))
    → WroteUpTo ids left old new
wrote_more ids rest left node old mid new before is writes keeps stands = record {
  writes = λ define worlds asked h. writes define worlds asked (before.writes define worlds asked h);
  keeps = keeps_trans old mid new before.keeps keeps;
  done = λ k m. elim (before.done k m) [
    | inl waits ↦ elim (subst (Among k) is waits) [ inl e ↦ inr (subst (λ j. Among j (names_of (noted new))) (sym e) stands) | inr later ↦ inl later ]
    | inr there ↦ let p = names_among (noted mid) k there in inr (name-among (noted new) k p.0 (keeps.kept k p.0 p.1))
  ];
  within = λ k m. before.within k (subst (Among k) (sym is) (inr m));
}

pub wrote_all : (rest : List ℕ) (old w : Wired) → WroteUpTo (finite.keys old.graph.now.nodes) rest old w → rest ≡ [] → AllAreWritten w.graph.now (noted w)
wrote_all rest old w done none k there = by_node (node_at old.graph.now k) refl (subst (λ (g : _). ContainsNode g.now k) done.keeps.same.graph there)
  where
    by_node : (o : Option NodeData) → node_at old.graph.now k ≡ o → IsSome o → Among k (names_of (noted w))
    by_node None e s = absurd (cc s)
    by_node (Some x) e s = elim (done.done k (name-among (nodes_of old.graph.now) k x (node_among old.graph.now k x e))) [
      | inl waits ↦ absurd (subst (Among k) none waits)
      | inr stands ↦ stands
    ]
