-- What stands at the root after one more instance, and for imports.
use Rattle.std.specs.Prelude.{slice_get, is_some}
use Rattle.std.proofs.Common.{◌≡◌, ◌⊎◌, ℕ, Bool, List, [], ◌∷◌, ◌++◌, length, Option, Some, inl, inr, refl, sym, ap, subst, ◌∙◌}
use Rattle.wac_types_base.specs.declared.item.ItemKind.{ItemKind}
use Rattle.wac_types_base.specs.Entries.{Name, AreDistinct, names_of, value_at, with_values}
use Rattle.wac_types_base.specs.Graph.{Among}
use Rattle.wac_types_base.specs.Stated.{Stated, stated_of}
use Rattle.wac_types_base.specs.Tree.{Tree, tree}
use Rattle.wac_types_base.proofs.Loops.{names-with_values}
use Rattle.wac_types_base.proofs.Lists.{last_among}
use Rattle.wac_types_fit.proofs.TreeLaws.{Fits-refl}
use Rattle.wac_types_fit.proofs.Ordering.{tree_in_order}
use Rattle.wac_types_names.specs.Packaged.{Packaged}
use Rattle.wac_graph_bytes.specs.declared.value.Sort.{Sort}
use Rattle.wac_graph_bytes.specs.declared.value.Sort.TheVariants as sort
use Rattle.wac_graph_bytes.specs.declared.entry.Entry.{Entry as CodeEntry}
use Rattle.wac_graph_bytes.specs.Entries.{Argument, Instantiate}
use Rattle.wac_graph_bytes.specs.Counting.{entry_sort}
use Rattle.wac_graph_bytes.specs.Typing.{◌>>=◌, Worlds, Meaning, Made, space}
use Rattle.wac_graph_bytes.specs.Wirings.{Tag, Source, Inst}
use Rattle.wac_graph_bytes.specs.Meaning as meaning
use Rattle.wac_graph_bytes.specs.Meaning.{State, step, makes, arguments_of, source_at, source_of}
use Rattle.wac_graph_bytes.specs.Views.{view}
use Rattle.wac_graph_bytes.proofs.Steps.{last_of, kept_one}
use Rattle.wac_graph_bytes.proofs.Replace.{Uses-weaker}
use Rattle.wac_graph_core.specs.declared.ids.PackageId.{PackageId}
use Rattle.wac_graph_core.specs.Nodes.{NodeData, Role}
use Rattle.wac_graph_core.specs.Graph.{Graph, IsGraph, node_at, instantiated, package_if, package_made, package_of, item_import}
use Rattle.wac_graph_core.specs.GraphWiring as wired
use Rattle.wac_graph_core.proofs.Found.{Among-front}
use Rattle.wac_graph_scopes.specs.declared.imports.SortIndex.{SortIndex}
use Rattle.wac_types_parts.specs.Parts.{imports_of}
use Rattle.wac_types_parts.proofs.Lists.{distinct-append}
use Rattle.wac_graph_encode.specs.declared.root.Counts.{Counts}
use Rattle.wac_graph_encode.specs.Encoding.{tag_of}
use Rattle.wac_graph_encode.specs.Standing as standing
use Rattle.wac_graph_scopes.specs.Items.{sort_of}
use Rattle.wac_graph_encode.specs.Standing.{number_in, by_number, StandsAt, IsOuterAt, IsPackageAt, IsListed, IsExported, IsWritten, CountsOne}
use Rattle.wac_graph_encode.specs.Writing.{AreGivenAt}
use Rattle.wac_types_fit.proofs.Items.{Among-last}
use Rattle.wac_graph_encode.proofs.StandingNumbers.{number_more, number_last, by_number_on, zip_map, zip_length}
use Rattle.wac_graph_scopes.proofs.RootLaws.{zip_more}
use Rattle.wac_graph_encode.proofs.StandingSteps.{named_front, named_end, stands_on, outer_on, package_on, exported_on, listed_on, counts_one, read_one, index_is}
use Rattle.wac_graph_encode.proofs.StandingGiven.{Given, given, has_imports, instance_made, instance_is, instance_written, instance_given}

module _ (g : Graph) (is : IsGraph g) (worlds : Worlds) (define : Bool) (asked : List (Name × Tree)) (found : Name → Option SortIndex) (held : List (PackageId × ℕ)) (first : List (Name × ℕ))
    (es : List CodeEntry) (c : Counts) (nodes : List (ℕ × SortIndex)) (h : IsWritten g worlds define asked found held first es c nodes) where
  abbrev st : State
  st = h.state

  -- ---- an import that stands

  module _ (k : ℕ) (n : Name) (p : SortIndex) (x : NodeData) (there : node_at g k ≡ Some x) (role : x.role ≡ Role.Imported n) (v : found n ≡ Some p) where
    o : IsOuterAt g worlds st n p
    o = h.outers n p v

    import_stands : StandsAt g worlds st h.order k p
    import_stands = record {
      node = x;
      there = there;
      sort = (o.asked k x there role).0;
      source = _;
      denotes = wired.imported x n there role;
      written = tt;
      meaning = o.meaning;
      at = o.at;
      means = o.means;
      gives = (o.asked k x there role).1;
    }

    import_by : (j : ℕ) (q : SortIndex) → Among (j, q) nodes ⊎ (◌≡◌ {A = ℕ × SortIndex} (j, q) (k, p)) → StandsAt g worlds st h.order j q
    import_by j q (inl m) = h.stand j q m
    import_by j q (inr same) = subst (λ (y : ℕ × SortIndex). StandsAt g worlds st h.order y.0 y.1) (sym same) import_stands

    pub import_written : IsWritten g worlds define asked found held first es c (nodes ++ (k, p) ∷ [])
    import_written = record {
      state = st;
      reads = h.reads;
      counts = h.counts;
      imports = h.imports;
      firsts = h.firsts;
      exports = h.exports;
      stated = h.stated;
      outers = h.outers;
      packages = h.packages;
      order = h.order;
      once = h.once;
      stand = λ j q m. import_by j q (Among-last nodes (k, p) (j, q) m);
      noted = λ j m. named_front nodes (k, p) j (h.noted j m);
      instances = h.instances;
    }

  -- ---- one more instance

  module _ (k : ℕ) (x : NodeData) (id : PackageId) (index : ℕ) (as_ : List Argument) (ns : List Name) (there : node_at g k ≡ Some x) (of_is : x.of ≡ Some id) (at : Among (id, index) held)
      (once : AreDistinct ns) (passed : AreGivenAt g found nodes k ns as_)
      (imports : (of : Packaged) → package_of g id ≡ Some of → names_of (imports_of g.types of.ty) ≡ ns)
      (new : Among k (names_of nodes) → ⊥) where
    p : IsPackageAt g worlds define st id index
    p = h.packages id index at

    instance_of : instantiated g k ≡ Some p.of
    instance_of = ap (package_made g) there ∙ ap (package_if g) of_is ∙ p.is

    item_is : x.item_kind ≡ ItemKind.Instance p.of.instance_type
    item_is = (is.nodes k x there).instance id p.of of_is p.is

    abbrev all_given : Given g worlds define asked found held first es c nodes h k ns as_
    all_given = given g worlds define asked found held first es c nodes h k ns as_ passed

    abbrev sources : List (Name × Source ℕ)
    sources = with_values (by_number h.order) all_given.sources

    abbrev tag : Tag
    tag = tag_of define p.of

    abbrev next : State
    next = makes tag sources st

    abbrev more : List ℕ
    more = h.order ++ k ∷ []

    not_written : Among k h.order → ⊥
    not_written m = new (h.noted k m)

    stepped : step worlds st (Instantiate index as_) ≡ Some next
    unfolding step
    stepped =
        ap (λ (o : Option Meaning). o >>= meaning.tag_of >>= λ t. arguments_of st.scope as_ >>= λ xs. Some (makes t xs st)) p.at
        ∙ ap (λ (o : Option Tag). o >>= λ t. arguments_of st.scope as_ >>= λ xs. Some (makes t xs st)) p.tag
        ∙ ap (λ (o : Option (List (Name × Source ℕ))). o >>= λ xs. Some (makes tag xs st)) all_given.reads

    abbrev here : SortIndex
    here = record { sort = sort.Instance; index = standing.counted c sort.Instance }

    abbrev made : Meaning
    made = Made (length st.listed.instances) tag

    grown : (t : Sort) (i : ℕ) (m : Meaning) → slice_get (space t st.scope) i ≡ Some m → slice_get (space t next.scope) i ≡ Some m
    grown t i m e = kept_one t sort.Instance made m st.scope i e

    among : (j : ℕ) → Among j h.order → Among j more
    among j m = Among-front h.order k j m

    numbers : (j : ℕ) → Among j h.order → number_in more j ≡ number_in h.order j
    numbers j m = number_more h.order k j m

    number_is : length st.listed.instances ≡ number_in more k
    number_is = sym (number_last h.order k not_written ∙ zip_length (IsListed g worlds define h.order) h.order st.listed.instances h.instances)

    gives_own : (t : ItemKind) → t ≡ ItemKind.Instance p.of.instance_type → standing.GivesItem g worlds made t
    gives_own t e =
        let own : Stated = stated_of g.types (ItemKind.Instance p.of.instance_type) in
        subst (standing.GivesItem g worlds made) (sym e) (λ o. (tree own, p.world, tree_in_order own, Fits-refl (tree own)))

    instance_stands : StandsAt g worlds next more k here
    instance_stands = record {
      node = x;
      there = there;
      sort = ap sort_of item_is;
      source = Inst k;
      denotes = wired.instance x there ((is.nodes k x there).only id of_is);
      written = last_among h.order k;
      meaning = made;
      at = last_of sort.Instance made st.scope (standing.counted c sort.Instance) (index_is worlds es st c sort.Instance h.counts h.reads);
      means = ap (λ (j : ℕ). Some (Inst j)) number_is;
      gives = gives_own x.item_kind item_is;
    }

    stand_by : (j : ℕ) (q : SortIndex) → Among (j, q) nodes ⊎ (◌≡◌ {A = ℕ × SortIndex} (j, q) (k, here)) → StandsAt g worlds next more j q
    stand_by j q (inl m) = stands_on g worlds st next h.order more grown among numbers j q (h.stand j q m)
    stand_by j q (inr same) = subst (λ (y : ℕ × SortIndex). StandsAt g worlds next more y.0 y.1) (sym same) instance_stands

    noted_by : (j : ℕ) → Among j h.order ⊎ (j ≡ k) → Among j (names_of (nodes ++ (k, here) ∷ []))
    noted_by j (inl m) = named_front nodes (k, here) j (h.noted j m)
    noted_by j (inr e) = subst (λ (i : ℕ). Among i (names_of (nodes ++ (k, here) ∷ []))) (sym e) (named_end nodes (k, here))

    own_imports : (n : Name) → is_some (value_at all_given.sources n) ≡ is_some (item_import g.types p.of.ty n)
    own_imports n = has_imports g.types p.of.ty all_given.sources n (is.packages.stand id p.of p.is).world (all_given.names ∙ sym (imports p.of p.is))

    listed : IsListed g worlds define more k (tag, sources)
    listed = record {
      of = p.of;
      is = instance_of;
      instance = instance_made g worlds define asked found held first es c nodes h k p.of as_ ns all_given own_imports;
      bound = instance_is g worlds define asked found held first es c nodes h k p.of as_ ns all_given own_imports;
      tag = refl;
      once = subst AreDistinct (sym (names-with_values (by_number h.order) all_given.sources ∙ all_given.names)) once;
      written = λ n. Uses-weaker among (source_at all_given.sources n) (instance_written g worlds define asked found held first es c nodes h k p.of as_ ns all_given own_imports n);
      given = λ n. instance_given g worlds define asked found held first es c nodes h k p.of as_ ns all_given own_imports n
          ∙ sym (by_number_on h.order more numbers (source_at all_given.sources n) (instance_written g worlds define asked found held first es c nodes h k p.of as_ ns all_given own_imports n));
    }

    module _ (e : CodeEntry) (d : Counts) (entry_is : view e ≡ Instantiate index as_) (counts : CountsOne sort.Instance c d) where
      pub instance_written_on : IsWritten g worlds define asked found held first (es ++ e ∷ []) d (nodes ++ (k, here) ∷ [])
      instance_written_on = record {
        state = next;
        reads = read_one worlds es e (Instantiate index as_) st next entry_is h.reads stepped;
        counts = counts_one es e sort.Instance c d (ap entry_sort entry_is) h.counts counts;
        imports = h.imports;
        firsts = h.firsts;
        exports = zip_map (IsExported g worlds define h.order) (IsExported g worlds define more) (exported_on g worlds st next h.order more grown among numbers define) first st.listed.exports h.exports;
        stated = h.stated;
        outers = λ m q v. outer_on g worlds st next h.order more grown among numbers m q (h.outers m q v);
        packages = λ j i m. package_on g worlds st next h.order more grown among numbers define j i (h.packages j i m);
        order = more;
        once = distinct-append h.order (k ∷ []) h.once (λ m. m, tt) (λ j m n. elim n [ inl e ↦ not_written (subst (λ (i : ℕ). Among i h.order) e m) | inr none ↦ none ]);
        stand = λ j q m. stand_by j q (Among-last nodes (k, here) (j, q) m);
        noted = λ j m. noted_by j (Among-last h.order k j m);
        instances = zip_more (IsListed g worlds define more) h.order st.listed.instances k (tag, sources)
            (zip_map (IsListed g worlds define h.order) (IsListed g worlds define more) (listed_on g worlds st next h.order more grown among numbers define) h.order st.listed.instances h.instances) listed;
      }
