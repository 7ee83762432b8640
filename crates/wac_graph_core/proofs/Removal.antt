-- Nodes that are removed one by one, and what a removal keeps.
use Rattle.std.proofs.Common.{◌≡◌, ◌≢◌, ℕ, ◌+◌, ◌<◌, ◌≤◌, Bool, true, false, not, ◌==◌, List, [], ◌∷◌, ◌++◌, Option, Some, None, IsSome, cond, filter, length, take, get_or, refl, sym, ap, subst, ◌∙◌, inl, inr}
use Rattle.std.proofs.lemmas.List.{take_more, take_all}
use Rattle.std.proofs.lemmas.Bool.{cases_eq, not-true}
use Rattle.std.specs.FinMap as map
use Rattle.wac_types_base.specs.Entries.{Name, names_of, AreDistinct}
use Rattle.wac_types_base.specs.Graph.{Among}
use Rattle.wac_types_base.proofs.Lists.{among_filtered}
use Rattle.wac_graph_core.specs.declared.edge.Edge.{Edge}
use Rattle.wac_graph_core.specs.declared.edge.Follow.{Follow}
use Rattle.wac_graph_core.specs.declared.ids.PackageId.{PackageId}
use Rattle.wac_graph_core.specs.Nodes.{NodeData}
use Rattle.wac_graph_core.specs.NodeMaps.{NodeMap}
use Rattle.wac_graph_core.specs.Edges.{has, Stays, alias_edge, AreEdges, along, IsReached}
use Rattle.wac_graph_core.specs.Graph.{Graph, node_at, instantiated, package_if, package_made, EdgeStands, AreExports, IsGraph}
use Rattle.wac_graph_core.specs.Removing.{IsClosed}
use Rattle.wac_graph_core.proofs.NodeMap.{get-insert_other, get-remove_same, get-remove_other, same_shown}
use Rattle.wac_graph_core.proofs.Walks.{has_pushed}
use Rattle.wac_graph_core.proofs.Found.{eq_same, eq_false, passes}
use Rattle.wac_graph_core.proofs.NodeSteps.{get-retained, staying, stays_at, stayed, IsBelow-staying, AreOnce-below}
use Rattle.wac_graph_core.proofs.EdgeSteps.{IsAcyclic-by, AreKeyed-sub}

has_other_last : (b : Bool) → b ≡ false → cond b true false ≡ false
has_other_last true e = e
has_other_last false e = e

pub has-other : (js : List ℕ) (x k : ℕ) → k ≢ x → has (js ++ x ∷ []) k ≡ has js k
has-other [] x k ne = has_other_last (x == k) (eq_false x k (λ e. ne (sym e)))
has-other (j ∷ js) x k ne = ap (λ b. cond (j == k) true b) (has-other js x k ne)

-- one more of a list is removed
pub removed_next : (m0 m m' : NodeMap) (gone : List ℕ) (i x : ℕ) → i < length gone → x ≡ get_or gone i x → m' ≡ map.remove m x
    → ((k : ℕ) → map.get m k ≡ cond (has (take i gone) k) None (map.get m0 k))
    → (k : ℕ) → map.get m' k ≡ cond (has (take (i + 1) gone) k) None (map.get m0 k)
removed_next m0 m m' gone i x within is removed so_far k =
    let front : take (i + 1) gone ≡ take i gone ++ x ∷ [] = take_more gone i x within ∙ ap (λ d. take i gone ++ d ∷ []) (sym is) in
    ap (λ m. map.get m k) removed ∙ elim (cases_eq k x) [
      | inl e ↦
          ap (map.get (map.remove m x)) e ∙ get-remove_same m x
          ∙ sym (ap (λ l. cond (has l k) None (map.get m0 k)) front ∙ ap (λ j. cond (has (take i gone ++ x ∷ []) j) None (map.get m0 k)) e ∙ ap (λ b. cond b None (map.get m0 k)) (has_pushed (take i gone) x))
      | inr ne ↦
          get-remove_other m x k ne ∙ so_far k
          ∙ sym (ap (λ l. cond (has l k) None (map.get m0 k)) front ∙ ap (λ b. cond b None (map.get m0 k)) (has-other (take i gone) x k ne))
    ]

-- a node that is put in and taken out again
pub undone : (m : NodeMap) (k : ℕ) (x : NodeData) → map.get m k ≡ None → map.retain_keys (map.insert m k x) (λ j. not (has (k ∷ []) j)) ≡ m
undone m k x free = same_shown _ m (λ j.
    get-retained (map.insert m k x) (λ i. not (has (k ∷ []) i)) j ∙ elim (cases_eq j k) [
      | inl e ↦
          let there : has (k ∷ []) j ≡ true = ap (λ b. cond b true false) (ap (λ i. k == i) e ∙ eq_same k) in
          ap (λ b. cond (not b) (map.get (map.insert m k x) j) None) there ∙ sym (ap (map.get m) e ∙ free)
      | inr ne ↦
          let away : has (k ∷ []) j ≡ false = ap (λ b. cond b true false) (eq_false k j (λ e. ne (sym e))) in
          ap (λ b. cond (not b) (map.get (map.insert m k x) j) None) away ∙ get-insert_other m k x j ne
    ])

turned : (b : Bool) (o : Option NodeData) → cond b None o ≡ cond (not b) o None
turned true o = refl
turned false o = refl

pub removed_all : (m0 m : NodeMap) (gone : List ℕ) (i : ℕ) → length gone ≤ i
    → ((k : ℕ) → map.get m k ≡ cond (has (take i gone) k) None (map.get m0 k)) → m ≡ map.retain_keys m0 (λ k. not (has gone k))
removed_all m0 m gone i past so_far = same_shown m _ (λ k.
    so_far k ∙ ap (λ l. cond (has l k) None (map.get m0 k)) (take_all i gone past)
    ∙ turned (has gone k) (map.get m0 k) ∙ sym (get-retained m0 (λ k. not (has gone k)) k))

-- ---- exports

abbrev pub stays_exported : List ℕ → Name × ℕ → Bool
stays_exported gone e = not (has gone e.1)

name_in : (p : Name × ℕ → Bool) (xs : List (Name × ℕ)) (n : Name) → Among n (names_of (filter p xs)) → Among n (names_of xs)
name_in p [] n m = absurd m
name_in p (x ∷ xs) n m = by_test (p x) (name_in p xs n) m
  where
    by_test : (b : Bool) → (Among n (names_of (filter p xs)) → Among n (names_of xs)) → Among n (names_of (cond b (x ∷ filter p xs) (filter p xs))) → Among n (names_of (x ∷ xs))
    by_test true ih (inl same) = inl same
    by_test true ih (inr rest) = inr (ih rest)
    by_test false ih rest = inr (ih rest)

distinct_in : (p : Name × ℕ → Bool) (xs : List (Name × ℕ)) → AreDistinct (names_of xs) → AreDistinct (names_of (filter p xs))
distinct_in p [] d = tt
distinct_in p (x ∷ xs) d = by_test (p x) (distinct_in p xs d.1)
  where
    by_test : (b : Bool) → AreDistinct (names_of (filter p xs)) → AreDistinct (names_of (cond b (x ∷ filter p xs) (filter p xs)))
    by_test true ih = (λ m. d.0 (name_in p xs x.0 m), ih)
    by_test false ih = ih

false_not : (b : Bool) → b ≡ false → not b ≡ true
false_not b h = ap not h

AreExports-staying : (m : NodeMap) (xs : List (Name × ℕ)) (gone : List ℕ) → AreExports m xs → AreExports (staying m gone) (filter (stays_exported gone) xs)
AreExports-staying m xs gone is =
    record {
      distinct = distinct_in (stays_exported gone) xs is.distinct;
      stand = λ n k at.
          let f = among_filtered (stays_exported gone) xs (n, k) at in
          subst IsSome (sym (stays_at m gone k (not-true (has gone k) f.1))) (is.stand n k f.0);
      named = λ k x n at told.
          let s = stayed m gone k x at in
          passes (stays_exported gone) xs (n, k) (false_not (has gone k) s.0) (is.named k x n s.1 told);
    }

-- ---- the graph

abbrev pub left : Graph → List Edge → List ℕ → Graph
left g es gone = record g {
  nodes = map.retain_keys g.nodes (λ k. not (has gone k));
  edges = es;
  exports = filter (λ (e : Name × ℕ). not (has gone e.1)) g.exports;
}

module _ (g : Graph) (es : List Edge) (gone : List ℕ) where
  by_package : (o : Option PackageId) → package_if (left g es gone) o ≡ package_if g o
  by_package None = refl
  by_package (Some id) = refl

  by_node : (o : Option NodeData) → package_made (left g es gone) o ≡ package_made g o
  by_node None = refl
  by_node (Some x) = by_package x.of

  still_made : (k : ℕ) → has gone k ≡ false → instantiated (left g es gone) k ≡ instantiated g k
  still_made k out = ap (package_made (left g es gone)) (stays_at g.nodes gone k out) ∙ by_node (node_at g k)

  stands_left : (e : Edge) → has gone e.from ≡ false → has gone e.to ≡ false → EdgeStands g e → EdgeStands (left g es gone) e
  stands_left e from to s =
      record {
        from = subst IsSome (sym (stays_at g.nodes gone e.from from)) s.from;
        to = subst IsSome (sym (stays_at g.nodes gone e.to to)) s.to;
        alias = λ n l. let x = s.alias n l in (x.0, stays_at g.nodes gone e.to to ∙ x.1, x.2);
        export = λ n l.
            let x = s.export n l in
            record {
              instance = x.instance;
              instance_at = stays_at g.nodes gone e.from from ∙ x.instance_at;
              one = x.one;
              alias = x.alias;
              alias_at = stays_at g.nodes gone e.to to ∙ x.alias_at;
              export = x.export;
            };
        argument = λ n l.
            let x = s.argument n l in
            record {
              argument = x.argument;
              argument_at = stays_at g.nodes gone e.from from ∙ x.argument_at;
              of = x.of;
              is = still_made e.to to ∙ x.is;
              asked = x.asked;
              import = x.import;
              fits = x.fits;
            };
      }

  not_gone : (b c : Bool) → (b ≡ true → c ≡ true) → c ≡ false → b ≡ false
  not_gone true c h out = absurd (cc (h refl, out))
  not_gone false c h out = refl

  -- what is closed under aliases can be taken away
  pub IsGraph-left : IsClosed Follow.Owned g.edges gone → AreEdges es (λ d. Among d g.edges × (Stays gone d.from × Stays gone d.to)) → IsGraph g → IsGraph (left g es gone)
  IsGraph-left closed kept is =
      record {
        nodes = λ k n at. is.nodes k n (stayed g.nodes gone k n at).1;
        once = AreOnce-below g.nodes (staying g.nodes gone) (IsBelow-staying g.nodes gone) is.once;
        acyclic = IsAcyclic-by g.edges es (λ d at f. ((kept d).0 at).0) is.acyclic;
        keyed = AreKeyed-sub g.edges es (λ d at. ((kept d).0 at).0) is.keyed;
        wired = record {
          edges = λ e at. let k = (kept e).0 at in stands_left e k.1.0 k.1.1 (is.wired.edges e k.0);
          sources = λ k x at role.
              let s = stayed g.nodes gone k x at in
              let r = is.wired.sources k x s.1 role in
              let source : has gone r.0 ≡ false = not_gone (has gone r.0) (has gone k) (closed (alias_edge r.0 k r.1) r.2 refl) s.0 in
              (r.0, r.1, (kept (alias_edge r.0 k r.1)).1 (r.2, (source, s.0)));
        };
        exported = AreExports-staying g.nodes g.exports gone is.exported;
        packages = is.packages;
      }

pub closed_of : (f : Follow) (es : List Edge) (starts gone : List ℕ) → IsReached f es starts gone → IsClosed f es gone
closed_of f es starts gone reached e at is from = reached.complete e.to (along e (reached.sound e.from from) at is refl refl)

pub left_by : (g : Graph) (es : List Edge) (gone : List ℕ) (ns : NodeMap) (xs : List (Name × ℕ)) → ns ≡ map.retain_keys g.nodes (λ k. not (has gone k)) → xs ≡ filter (λ (e : Name × ℕ). not (has gone e.1)) g.exports
    → IsClosed Follow.Owned g.edges gone → AreEdges es (λ d. Among d g.edges × (Stays gone d.from × Stays gone d.to)) → IsGraph g → IsGraph (record g { nodes = ns; edges = es; exports = xs })
left_by g es gone ns xs nodes exports closed kept is =
    subst (λ ns. IsGraph (record g { nodes = ns; edges = es; exports = xs })) (sym nodes)
    (subst (λ xs. IsGraph (record g { nodes = map.retain_keys g.nodes (λ k. not (has gone k)); edges = es; exports = xs })) (sym exports)
    (IsGraph-left g es gone closed kept is))
