-- What stands at the root after one more alias, or one more instance.
use Rattle.std.specs.Prelude.{slice_get}
use Rattle.std.proofs.Common.{◌≡◌, ◌⊎◌, ℕ, ◌+◌, Bool, true, cond, List, [], ◌∷◌, ◌++◌, map, length, Option, Some, inl, inr, refl, sym, ap, subst, ◌∙◌}
use Rattle.std.proofs.lemmas.List.Sums.{sum_by_push}
use Rattle.std.proofs.lemmas.List.{map-append}
use Rattle.wac_types_base.specs.declared.item.ItemKind.{ItemKind}
use Rattle.wac_types_base.specs.Collection.{IsAcyclic as IsFinite}
use Rattle.wac_types_base.specs.Entries.{Name, names_of, value_at}
use Rattle.wac_types_base.specs.Graph.{Among}
use Rattle.wac_types_base.specs.Stated.{kind_of, stated_of, exports_of}
use Rattle.wac_types_base.specs.Tree.{Tree, tree}
use Rattle.wac_types_base.specs.Fits.{Fits}
use Rattle.wac_types_base.proofs.Telling.{kind_stated, item_kind}
use Rattle.wac_types_fit.specs.Trees.{tree_in}
use Rattle.wac_types_fit.specs.Ordered.{InOrder}
use Rattle.wac_graph_bytes.specs.declared.value.Sort.{Sort}
use Rattle.wac_graph_bytes.specs.declared.value.Sort.TheVariants as sort
use Rattle.wac_graph_bytes.specs.declared.entry.Entry.{Entry as CodeEntry}
use Rattle.wac_graph_bytes.specs.Entries.{Entry, Aliased, ExportAlias}
use Rattle.wac_graph_bytes.specs.Counting.{count_of, is_sort, entry_sort, same_sort}
use Rattle.wac_graph_bytes.specs.Typing.{◌>>=◌, Worlds, Meaning, Part, space, with_one, item_tree, export_named, item_of_sort, part_of, alias_of}
use Rattle.wac_graph_bytes.specs.Wirings.{Tag, Source, Outer, Inst, Projection, project, Uses, IsNamed}
use Rattle.wac_graph_bytes.specs.Meaning.{State, start, step, steps, adds, source_of}
use Rattle.wac_graph_bytes.specs.Views.{view}
use Rattle.wac_graph_bytes.proofs.Steps.{steps_push, counted, last_of, kept_one, some_is}
use Rattle.wac_graph_bytes.proofs.Replace.{replace-project, Uses-weaker}
use Rattle.wac_graph_core.specs.declared.ids.PackageId.{PackageId}
use Rattle.wac_graph_core.specs.Nodes.{NodeData}
use Rattle.wac_graph_core.specs.Edges.{HasAlias, alias_edge}
use Rattle.wac_graph_core.specs.Graph as graph
use Rattle.wac_graph_core.specs.Graph.{Graph, IsGraph, GivesExport, node_at}
use Rattle.wac_graph_core.specs.GraphWiring as wired
use Rattle.wac_graph_scopes.specs.declared.imports.SortIndex.{SortIndex}
use Rattle.wac_composition.specs.Classes.{is_instance_kind}
use Rattle.wac_graph_encode.specs.declared.root.Counts.{Counts}
use Rattle.wac_graph_encode.specs.Standing as standing
use Rattle.wac_graph_scopes.specs.Items.{sort_of}
use Rattle.wac_graph_encode.specs.Standing.{number_in, by_number, StandsAt, IsOuterAt, IsPackageAt, IsListed, IsExported, IsWritten, CountsOne, StandsFor}
use Rattle.wac_types_fit.proofs.Items.{Among-last}
use Rattle.wac_graph_encode.proofs.StandingNumbers.{by_number_on, project_named, named_number}
use Rattle.wac_graph_encode.proofs.StandingTrees.{Gives, Sorts, gives_export, sorts}

-- ---- lists with one more

pub named_front : {V : Type 0} (xs : List (ℕ × V)) (x : ℕ × V) (j : ℕ) → Among j (names_of xs) → Among j (names_of (xs ++ x ∷ []))
named_front [] x j m = absurd m
named_front (y ∷ xs) x j (inl e) = inl e
named_front (y ∷ xs) x j (inr m) = inr (named_front xs x j m)

pub named_end : {V : Type 0} (xs : List (ℕ × V)) (x : ℕ × V) → Among x.0 (names_of (xs ++ x ∷ []))
named_end [] x = inl refl
named_end (y ∷ xs) x = inr (named_end xs x)

pub named_split : {V : Type 0} (xs : List (ℕ × V)) (x : ℕ × V) (j : ℕ) → Among j (names_of (xs ++ x ∷ [])) → Among j (names_of xs) ⊎ (j ≡ x.0)
named_split [] x j (inl e) = inr e
named_split [] x j (inr m) = absurd m
named_split (y ∷ xs) x j (inl e) = inl (inl e)
named_split (y ∷ xs) x j (inr m) = elim (named_split xs x j m) [ inl n ↦ inl (inr n) | inr e ↦ inr e ]

-- ---- instances among items

pub instance_sort : (k : ItemKind) → graph.is_instance k ≡ true → sort_of k ≡ Some sort.Instance
instance_sort (ItemKind.Ty t) e = absurd (cc e)
instance_sort (ItemKind.Func f) e = absurd (cc e)
instance_sort (ItemKind.Instance i) e = refl
instance_sort (ItemKind.Component w) e = absurd (cc e)
instance_sort (ItemKind.Module m) e = absurd (cc e)
instance_sort (ItemKind.Value v) e = absurd (cc e)

instance_kind : (k : ItemKind) → graph.is_instance k ≡ true → is_instance_kind (item_kind k) ≡ true
instance_kind (ItemKind.Ty t) e = absurd (cc e)
instance_kind (ItemKind.Func f) e = absurd (cc e)
instance_kind (ItemKind.Instance i) e = refl
instance_kind (ItemKind.Component w) e = absurd (cc e)
instance_kind (ItemKind.Module m) e = absurd (cc e)
instance_kind (ItemKind.Value v) e = absurd (cc e)

-- ---- what stands stays

module _ (g : Graph) (worlds : Worlds) (st next : State) (order more : List ℕ)
    (kept : (s : Sort) (i : ℕ) (m : Meaning) → slice_get (space s st.scope) i ≡ Some m → slice_get (space s next.scope) i ≡ Some m)
    (among : (j : ℕ) → Among j order → Among j more)
    (numbers : (j : ℕ) → Among j order → number_in more j ≡ number_in order j) where
  pub stands_on : (k : ℕ) (p : SortIndex) → StandsAt g worlds st order k p → StandsAt g worlds next more k p
  stands_on k p a = record {
    node = a.node;
    there = a.there;
    sort = a.sort;
    source = a.source;
    denotes = a.denotes;
    written = Uses-weaker among a.source a.written;
    meaning = a.meaning;
    at = kept p.sort p.index a.meaning a.at;
    means = a.means ∙ ap Some (sym (by_number_on order more numbers a.source a.written));
    gives = a.gives;
  }

  pub outer_on : (n : Name) (p : SortIndex) → IsOuterAt g worlds st n p → IsOuterAt g worlds next n p
  outer_on n p a = record { meaning = a.meaning; at = kept p.sort p.index a.meaning a.at; means = a.means; asked = a.asked }

  module _ (define : Bool) where
    pub package_on : (id : PackageId) (i : ℕ) → IsPackageAt g worlds define st id i → IsPackageAt g worlds define next id i
    package_on id i a = record { of = a.of; is = a.is; meaning = a.meaning; at = kept sort.Component i a.meaning a.at; tag = a.tag; world = a.world }

    pub exported_on : (x : Name × ℕ) (e : Name × Source ℕ) → IsExported g worlds define order x e → IsExported g worlds define more x e
    exported_on x e a = record {
      name = a.name;
      source = a.source;
      denotes = a.denotes;
      written = Uses-weaker among a.source a.written;
      is = a.is ∙ sym (by_number_on order more numbers a.source a.written);
    }

    pub listed_on : (k : ℕ) (x : Tag × List (Name × Source ℕ)) → IsListed g worlds define order k x → IsListed g worlds define more k x
    listed_on k x a = record {
      of = a.of;
      is = a.is;
      instance = a.instance;
      bound = a.bound;
      tag = a.tag;
      once = a.once;
      written = λ n. Uses-weaker among (a.instance.args n) (a.written n);
      given = λ n. a.given n ∙ sym (by_number_on order more numbers (a.instance.args n) (a.written n));
    }

-- ---- counts

pub counts_one : (es : List CodeEntry) (e : CodeEntry) (s : Sort) (c d : Counts) → entry_sort (view e) ≡ Some s → ((t : Sort) → standing.counted c t ≡ count_of t es) → CountsOne s c d → (t : Sort) → standing.counted d t ≡ count_of t (es ++ e ∷ [])
counts_one es e s c d is h o t =
    let test : CodeEntry → ℕ = λ x. cond (is_sort t (entry_sort (view x))) 1 0 in
    let a : count_of t (es ++ e ∷ []) ≡ count_of t es + test e = sum_by_push test es e in
    let b : test e ≡ cond (same_sort t s) 1 0 = ap (λ x. cond (is_sort t x) 1 0) is in
    o t ∙ ap (λ x. x + cond (same_sort t s) 1 0) (h t) ∙ ap (λ x. count_of t es + x) (sym b) ∙ sym a

-- the index of one more is what is counted
pub index_is : (worlds : Worlds) (es : List CodeEntry) (st : State) (c : Counts) (s : Sort) → ((t : Sort) → standing.counted c t ≡ count_of t es) → steps worlds start (map view es) ≡ Some st → standing.counted c s ≡ length (space s st.scope)
index_is worlds es st c s h reads = h s ∙ sym (counted worlds es st s reads)

-- ---- named nodes

pub named : (g : Graph) (k : ℕ) (s : Source ℕ) → StandsFor g k s → IsNamed s
named g k s (wired.imported x n at role) = tt
named g k s (wired.instance x at role) = tt
named g k s (wired.defined x at role) = tt
named g k s (wired.aliased {s = t} i n e d) = let h = named g i t d in subst IsNamed (sym (project_named t n h)) h

-- the reading with one more entry
pub read_one : (worlds : Worlds) (es : List CodeEntry) (e : CodeEntry) (x : Entry) (st next : State) → view e ≡ x → steps worlds start (map view es) ≡ Some st → step worlds st x ≡ Some next → steps worlds start (map view (es ++ e ∷ [])) ≡ Some next
read_one worlds es e x st next is reads one =
    ap (λ (ys : List Entry). steps worlds start ys) (map-append view es (e ∷ []) ∙ ap (λ (y : Entry). map view es ++ y ∷ []) is) ∙ steps_push worlds (map view es) start st next x reads one

module _ (g : Graph) (is : IsGraph g) (finite : IsFinite g.types) (worlds : Worlds) (define : Bool) (asked : List (Name × Tree)) (found : Name → Option SortIndex) (held : List (PackageId × ℕ)) (first : List (Name × ℕ))
    (es : List CodeEntry) (c : Counts) (nodes : List (ℕ × SortIndex)) (h : IsWritten g worlds define asked found held first es c nodes) where
  abbrev st : State
  st = h.state

  grown : (s : Sort) (m : Meaning) (t : Sort) (i : ℕ) (n : Meaning) → slice_get (space t st.scope) i ≡ Some n → slice_get (space t (with_one s m st.scope)) i ≡ Some n
  grown s m t i n e = kept_one t s m n st.scope i e

  -- ---- one more alias

  module _ (i k : ℕ) (n : Name) (p : SortIndex) (x : NodeData) (s : Sort) (at : Among (i, p) nodes) (edge : HasAlias g.edges i n k) (there : node_at g k ≡ Some x) (sort_is : sort_of x.item_kind ≡ Some s) where
    a : StandsAt g worlds st h.order i p
    a = h.stand i p at

    gives : GivesExport g i n k
    gives = (is.wired.edges (alias_edge i k n) edge).export n refl

    from_is : gives.instance ≡ a.node
    from_is = some_is gives.instance a.node (sym gives.instance_at ∙ a.there)

    to_is : gives.alias ≡ x
    to_is = some_is gives.alias x (sym gives.alias_at ∙ there)

    one : graph.is_instance a.node.item_kind ≡ true
    one = ap (λ (y : NodeData). graph.is_instance y.item_kind) (sym from_is) ∙ gives.one

    kind_is : is_instance_kind (kind_of (stated_of g.types a.node.item_kind)) ≡ true
    kind_is = ap is_instance_kind (kind_stated g.types finite a.node.item_kind (is.nodes i a.node a.there).item) ∙ instance_kind a.node.item_kind one

    exported : value_at (exports_of (stated_of g.types a.node.item_kind)) n ≡ Some (stated_of g.types x.item_kind)
    exported = ap (λ (y : NodeData). value_at (exports_of (stated_of g.types y.item_kind)) n) (sym from_is) ∙ gives.export ∙ ap (λ (y : NodeData). Some (stated_of g.types y.item_kind)) to_is

    whole : (t : Tree) × (item_tree worlds a.meaning ≡ Some t) × InOrder t × Fits t (tree (stated_of g.types a.node.item_kind))
    whole = a.gives one

    part : Gives n whole.0 (stated_of g.types x.item_kind)
    part = gives_export whole.0 (stated_of g.types a.node.item_kind) (stated_of g.types x.item_kind) n kind_is whole.2 whole.3 exported

    sorted : Sorts s part.part
    unfolding tree_in
    sorted = sorts g.types finite x.item_kind s part.part (is.nodes k x there).item sort_is part.fits

    abbrev made : Meaning
    made = Part a.meaning s n

    place : p.sort ≡ sort.Instance
    place = some_is p.sort sort.Instance (sym a.sort ∙ instance_sort a.node.item_kind one)

    source_found : slice_get (space sort.Instance st.scope) p.index ≡ Some a.meaning
    source_found = subst (λ (q : Sort). slice_get (space q st.scope) p.index ≡ Some a.meaning) place a.at

    alias_is : alias_of worlds (st.scope ∷ []) (ExportAlias s p.index n) ≡ Some made
    alias_is =
        ap (λ (o : Option Meaning). o >>= λ m. part_of (item_tree worlds m) m s n) source_found
        ∙ ap (λ (o : Option Tree). part_of o a.meaning s n) whole.1
        ∙ ap (λ (o : Option Tree). (o >>= item_of_sort s) >>= λ t. Some made) part.at
        ∙ ap (λ (o : Option Tree). o >>= λ t. Some made) sorted.1

    abbrev next : State
    next = adds s made st

    stepped : step worlds st (Aliased (ExportAlias s p.index n)) ≡ Some next
    unfolding step
    stepped = ap (λ (o : Option Meaning). o >>= λ m. Some (adds s m st)) alias_is

    abbrev here : SortIndex
    here = record { sort = s; index = standing.counted c s }

    means : source_of made ≡ Some (by_number h.order (project a.source n))
    means =
        ap (λ (o : Option (Source ℕ)). o >>= λ y. Some (Projection y n)) a.means
        ∙ ap Some (sym (project_named (by_number h.order a.source) n (named_number h.order a.source (named g i a.source a.denotes))) ∙ sym (replace-project Outer (λ j. Inst (number_in h.order j)) a.source n))

    alias_stands : StandsAt g worlds next h.order k here
    alias_stands = record {
      node = x;
      there = there;
      sort = sort_is;
      source = project a.source n;
      denotes = wired.aliased i n edge a.denotes;
      written = subst (Uses (λ j. Among j h.order)) (sym (project_named a.source n (named g i a.source a.denotes))) a.written;
      meaning = made;
      at = last_of s made st.scope (standing.counted c s) (index_is worlds es st c s h.counts h.reads);
      means = means;
      gives = λ o. (part.part, ap (λ (t : Option Tree). t >>= export_named n) whole.1 ∙ part.at, part.ordered, part.fits);
    }

    module _ (e : CodeEntry) (d : Counts) (entry_is : view e ≡ Aliased (ExportAlias s p.index n)) (more : CountsOne s c d) where
      stand_by : (j : ℕ) (q : SortIndex) → Among (j, q) nodes ⊎ (◌≡◌ {A = ℕ × SortIndex} (j, q) (k, here)) → StandsAt g worlds next h.order j q
      stand_by j q (inl m) = stands_on g worlds st next h.order h.order (grown s made) (λ i m. m) (λ i m. refl) j q (h.stand j q m)
      stand_by j q (inr same) = subst (λ (y : ℕ × SortIndex). StandsAt g worlds next h.order y.0 y.1) (sym same) alias_stands

      pub alias_written : IsWritten g worlds define asked found held first (es ++ e ∷ []) d (nodes ++ (k, here) ∷ [])
      alias_written = record {
        state = next;
        reads = read_one worlds es e (Aliased (ExportAlias s p.index n)) st next entry_is h.reads stepped;
        counts = counts_one es e s c d (ap entry_sort entry_is) h.counts more;
        imports = h.imports;
        firsts = h.firsts;
        exports = h.exports;
        stated = h.stated;
        outers = λ m q v. outer_on g worlds st next h.order h.order (grown s made) (λ i m. m) (λ i m. refl) m q (h.outers m q v);
        packages = λ id j m. package_on g worlds st next h.order h.order (grown s made) (λ i m. m) (λ i m. refl) define id j (h.packages id j m);
        order = h.order;
        once = h.once;
        stand = λ j q m. stand_by j q (Among-last nodes (k, here) (j, q) m);
        noted = λ j m. named_front nodes (k, here) j (h.noted j m);
        instances = h.instances;
      }
