-- What is finished once all nodes stand and the exports are written.
use Rattle.std.specs.Prelude.{slice_get}
use Rattle.std.specs.List.{AllZip}
use Rattle.std.proofs.lemmas.List.{map-append, append-nil, append_assoc}
use Rattle.std.proofs.Common.{◌≡◌, ℕ, Bool, List, [], ◌∷◌, ◌++◌, map, Option, Some, None, IsSome, refl, sym, ap, subst, ◌∙◌}
use Rattle.wac_types_base.specs.Entries.{Name}
use Rattle.wac_types_base.specs.Graph.{Among}
use Rattle.wac_types_base.specs.Tree.{Tree}
use Rattle.wac_graph_bytes.specs.declared.value.Sort.{Sort}
use Rattle.wac_graph_bytes.specs.declared.entry.Entry.{Entry as CodeEntry}
use Rattle.wac_graph_bytes.specs.Entries.{Entry}
use Rattle.wac_graph_bytes.specs.Typing.{◌>>=◌, Worlds, Meaning, space}
use Rattle.wac_graph_bytes.specs.Wirings.{Source, Inst, Uses}
use Rattle.wac_graph_bytes.specs.Meaning.{State, start, step, steps, states, source_of, exports_one}
use Rattle.wac_graph_bytes.specs.Views.{view}
use Rattle.wac_graph_bytes.proofs.Steps.{kept_one}
use Rattle.wac_graph_core.specs.declared.ids.PackageId.{PackageId}
use Rattle.wac_graph_core.specs.Nodes.{NodeData, Role}
use Rattle.wac_graph_core.specs.Graph.{Graph, IsGraph, node_at, instantiated, package_if, package_made}
use Rattle.wac_graph_core.specs.GraphWiring as wired
use Rattle.wac_graph_core.proofs.WiringLaws.{once}
use Rattle.wac_graph_scopes.specs.declared.imports.SortIndex.{SortIndex}
use Rattle.wac_graph_encode.specs.declared.root.Counts.{Counts}
use Rattle.wac_graph_asks.specs.Wirings.{written_tree}
use Rattle.wac_graph_encode.specs.Standing.{by_number, spelled, IsExported, IsWritten, IsFinished}
use Rattle.wac_graph_encode.specs.Writing.{IsExportOf, AddsInOrder, AllAreWritten}
use Rattle.wac_graph_encode.proofs.WritingLaws.{names_among}
use Rattle.wac_graph_encode.proofs.Rearranging.{zips_append}

steps_more : (w : Worlds) (st : State) (xs ys : List Entry) → steps w st (xs ++ ys) ≡ (steps w st xs >>= λ m. steps w m ys)
unfolding steps
steps_more w st [] ys = refl
steps_more w st (x ∷ xs) ys = go (step w st x) (λ m. steps_more w m xs ys)
  where
    go : (o : Option State) → ((m : State) → steps w m (xs ++ ys) ≡ (steps w m xs >>= λ n. steps w n ys)) → (o >>= λ m. steps w m (xs ++ ys)) ≡ ((o >>= λ m. steps w m xs) >>= λ m. steps w m ys)
    go None rest = refl
    go (Some m) rest = rest m

module _ (g : Graph) (is : IsGraph g) (worlds : Worlds) (define : Bool) (asked : List (Name × Tree)) (found : Name → Option SortIndex) (held : List (PackageId × ℕ)) (first : List (Name × ℕ))
    (es : List CodeEntry) (c : Counts) (nodes : List (ℕ × SortIndex)) (h : IsWritten g worlds define asked found held first es c nodes) where
  -- the state behind some of the exports
  record Along (st : State) (xs : List (Name × ℕ)) (fs : List CodeEntry) : Type 0 where
    last : State
    reads : steps worlds st (map view fs) ≡ Some last
    imports : last.listed.imports ≡ st.listed.imports
    instances : last.listed.instances ≡ st.listed.instances
    stated : last.stated ≡ st.stated
    exported : List (Name × Source ℕ)
    exports : last.listed.exports ≡ st.listed.exports ++ exported
    are : AllZip (IsExported g worlds define h.order) xs exported

  abbrev Keeps : State → Type 0
  Keeps st = (s : Sort) (i : ℕ) (m : Meaning) → slice_get (space s h.state.scope) i ≡ Some m → slice_get (space s st.scope) i ≡ Some m

  along : (xs : List (Name × ℕ)) (fs : List CodeEntry) (st : State) → Keeps st → AllZip (IsExportOf nodes) xs fs → Along st xs fs
  unfolding steps step
  along [] [] st k z = record { last = st; reads = refl; imports = refl; instances = refl; stated = refl; exported = []; exports = sym (append-nil st.listed.exports); are = tt }
  along [] (f ∷ fs) st k z = absurd z
  along (x ∷ xs) [] st k z = absurd z
  along (x ∷ xs) (f ∷ fs) st k z =
      let p = z.0.place in
      let a = h.stand x.1 p z.0.stands in
      let s : Source ℕ = by_number h.order a.source in
      let next : State = exports_one x.0 p.sort a.meaning s st in
      let rest = along xs fs next (λ t i m e. kept_one t p.sort a.meaning m st.scope i (k t i m e)) z.1 in
      record {
        last = rest.last;
        reads =
            ap (λ (e : Entry). step worlds st e >>= λ m. steps worlds m (map view fs)) z.0.is
            ∙ ap (λ (o : Option Meaning). (o >>= λ m. source_of m >>= λ y. states worlds m x.0 None st >>= λ t. Some (exports_one x.0 p.sort m y t)) >>= λ m. steps worlds m (map view fs)) (k p.sort p.index a.meaning a.at)
            ∙ ap (λ (o : Option (Source ℕ)). (o >>= λ y. Some (exports_one x.0 p.sort a.meaning y st)) >>= λ m. steps worlds m (map view fs)) a.means
            ∙ rest.reads;
        imports = rest.imports;
        instances = rest.instances;
        stated = rest.stated;
        exported = (x.0, s) ∷ rest.exported;
        exports = rest.exports ∙ append_assoc st.listed.exports ((x.0, s) ∷ []) rest.exported;
        are = (record { name = refl; source = a.source; denotes = a.denotes; written = a.written; is = refl }, rest.are);
      }

  all_listed : AllAreWritten g nodes → (k : ℕ) → IsSome (instantiated g k) → Among k h.order
  all_listed all k there = go (node_at g k) refl there
    where
      go : (o : Option NodeData) → node_at g k ≡ o → IsSome (package_made g o) → Among k h.order
      go None e s = absurd (cc s)
      go (Some x) e s =
          let at = names_among nodes k (all k (subst IsSome (sym e) refl)) in
          let a = h.stand k at.0 at.1 in
          let role : x.role ≡ Role.Instance = made x.of refl s in
          let same : a.source ≡ Inst k = once (spelled g) (written_tree g) g is k a.source (Inst k) a.denotes (wired.instance x e role) in
          subst (Uses (λ i. Among i h.order)) same a.written
        where
          made : (o : Option PackageId) → x.of ≡ o → IsSome (package_made g (Some x)) → x.role ≡ Role.Instance
          made None q t = absurd (cc (subst (λ (o : Option PackageId). IsSome (package_if g o)) q t))
          made (Some id) q t = (is.nodes k x e).only id q

  pub exports_finished : (new : List CodeEntry) → AllAreWritten g nodes → AddsInOrder nodes first g.exports es new → IsFinished g worlds define asked new
  exports_finished new all o =
      let x = o.adds in
      let a = along o.listing x.entries h.state (λ s i m e. e) x.are in
      record {
        state = a.last;
        reads =
            ap (λ (ys : List CodeEntry). steps worlds start (map view ys)) x.added ∙ ap (steps worlds start) (map-append view es x.entries)
            ∙ steps_more worlds start (map view es) (map view x.entries)
            ∙ ap (λ (o : Option State). o >>= λ m. steps worlds m (map view x.entries)) h.reads ∙ a.reads;
        imports = a.imports ∙ h.imports;
        stated = a.stated ∙ h.stated;
        order = h.order;
        once = h.once;
        all = all_listed all;
        instances = subst (AllZip _ h.order) (sym a.instances) h.instances;
        listing = first ++ o.listing;
        rearranged = o.rearranged h.firsts;
        exports = subst (AllZip (IsExported g worlds define h.order) (first ++ o.listing)) (sym a.exports)
            (zips_append (IsExported g worlds define h.order) first o.listing h.state.listed.exports a.exported h.exports a.are);
      }
