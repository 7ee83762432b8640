-- What a node needs stands before it is written.
use Rattle.std.specs.Prelude.{is_some, option_and_then, option_map, slice_get, take}
use Rattle.std.specs.Cmp.Lexicographic.{pointwise}
use Rattle.std.specs.FinMap as finite
use Rattle.std.proofs.Common.{◌≡◌, ◌==◌, ◌⊎◌, ◌+◌, ◌≤◌, ℕ, Bool, true, false, true≢false, if◌then◌else◌, List, [], ◌∷◌, ◌++◌, Option, Some, None, IsSome, IsTrue, ◌↔◌, Result, Ok, Err, OnOk, map, append_assoc, inl, inr, refl, sym, ap, subst, ◌∙◌}
use Rattle.std.proofs.lemmas.List.{append-nil}
use Rattle.indexmap.specs.IndexMap.{insert_entry}
use Rattle.wac_types_base.specs.declared.ids.WorldId.{WorldId}
use Rattle.wac_types_base.specs.declared.item.ItemKind.{ItemKind}
use Rattle.wac_types_base.proofs.GraphLemmas.{value_of}
use Rattle.wac_types_base.specs.Entries.{Name, names_of, value_at, values_of}
use Rattle.wac_types_base.specs.Graph.{Among}
use Rattle.wac_types_base.proofs.Adding.{Among-left, Among-right}
use Rattle.wac_types_base.proofs.Loops.{map-one_more}
use Rattle.wac_types_base.proofs.Looked.{take-one_more}
use Rattle.wac_types_names.specs.Packaged.{Packaged}
use Rattle.wac_types_fit.proofs.Items.{Among-last, name-among}
use Rattle.wac_composition.proofs.Lists.{mapped_among}
use Rattle.wac_graph_core.specs.declared.ids.PackageId.{PackageId}
use Rattle.wac_graph_core.specs.declared.edge.Edge.{Edge}
use Rattle.wac_graph_core.specs.Nodes.{NodeData, Role, imported_as}
use Rattle.wac_graph_core.specs.Edges.{AreKeyed, HasAlias, HasArgument, alias_edge, argument_edge}
use Rattle.wac_graph_core.specs.Walking.{first_argument}
use Rattle.wac_graph_core.specs.Graph.{Graph, IsGraph, ContainsNode, instantiated, node_at, package_if, package_made, package_of}
use Rattle.wac_graph_core.proofs.Found.{argument_found, no_argument}
use Rattle.wac_graph_scopes.specs.Items.{sort_of}
use Rattle.wac_types_parts.specs.Parts.{imports_of}
use Rattle.wac_graph_asks.specs.Reads.{AreArguments, import_name_of, is_defined, is_definition, package_id_of}
use Rattle.wac_graph_asks.proofs.ByNode.{entry_there}
use Rattle.wac_graph_causes.specs.Unwritable.{is_value_in, is_value_item}
use Rattle.wac_graph_encode.specs.declared.instances.Wired.{Wired}
use Rattle.wac_graph_scopes.specs.declared.imports.SortIndex.{SortIndex}
use Rattle.wac_graph_encode.specs.Standing.{written_under}
use Rattle.wac_graph_encode.specs.Writing.{AddsNeeded, IsNeeded, IsSameRoot, KeepsNodes, noted, outer_of}
use Rattle.wac_graph_encode.specs.Ready.{AddsNames, AddsSource, AllStand, ArePlacedAt, AreThere, CanBeAlias, CanBePassed, HasNeeded, HasPlace, IsPlacedAt, IsProvided, IsReady, IsUnsorted, NeededStand, StandsBy}
use Rattle.wac_graph_encode.proofs.Depths.{above_all, above_most, depth_of, depths_rise}
use Rattle.wac_graph_encode.proofs.WritingLaws.{names_among, needed_below}

-- ---- names that are looked up

-- ---- lists that are added, one after another

pub none_added : {N : Type 0} (xs old : List N) → AddsNames (take 0 xs) old old
none_added [] old n (inl m) = m
none_added [] old n (inr none) = absurd none
none_added (x ∷ xs) old n (inl m) = m
none_added (x ∷ xs) old n (inr none) = absurd none

added_one : {N : Type 0} (xs : List N) (i : ℕ) (x : N) → slice_get xs i ≡ Some x → (old mid new : List N) → AddsNames (take i xs) old mid → AddsNames (x ∷ []) mid new → AddsNames (take (i + 1) xs) old new
added_one xs i x at old mid new before one n (inl m) = one n (inl (before n (inl m)))
added_one xs i x at old mid new before one n (inr m) = elim (Among-last (take i xs) x n (subst (Among n) (take-one_more xs i x at) m)) [
  | inl a ↦ one n (inl (before n (inr a)))
  | inr e ↦ one n (inr (inl e))
]

pub one_added : {N : Type 0} (xs : List N) (i : ℕ) (x : N) → slice_get xs i ≡ Some x → (old mid new : List N) → AddsNames (take i xs) old mid → new ≡ mid ++ x ∷ [] → AddsNames (take (i + 1) xs) old new
one_added xs i x at old mid new before is = added_one xs i x at old mid new before pushed
  where
    pushed : AddsNames (x ∷ []) mid new
    pushed n (inl m) = subst (Among n) (sym is) (Among-left n mid (x ∷ []) m)
    pushed n (inr m) = subst (Among n) (sym is) (Among-right n mid (x ∷ []) m)

-- of each what this maps it to
pub mapped_first : {X N : Type 0} (f : X → N) (xs : List X) (old : List N) → AddsNames (map f (take 0 xs)) old old
mapped_first f [] old n (inl m) = m
mapped_first f [] old n (inr none) = absurd none
mapped_first f (x ∷ xs) old n (inl m) = m
mapped_first f (x ∷ xs) old n (inr none) = absurd none

pub mapped_more : {X N : Type 0} (f : X → N) (xs : List X) (i : ℕ) (x : X) → slice_get xs i ≡ Some x → (old mid new : List N) → AddsNames (map f (take i xs)) old mid → AddsNames (f x ∷ []) mid new → AddsNames (map f (take (i + 1) xs)) old new
mapped_more f xs i x at old mid new before adds n (inl m) = adds n (inl (before n (inl m)))
mapped_more f xs i x at old mid new before adds n (inr m) = elim (Among-last (map f (take i xs)) (f x) n (subst (Among n) (map-one_more f xs i x at) m)) [
  | inl a ↦ adds n (inl (before n (inr a)))
  | inr e ↦ adds n (inr (inl e))
]

-- of what an iterator gives
pub record AddedSoFar {N : Type 0} (all rest old now : List N) : Type 0 where
  pub done : List N
  pub split : done ++ rest ≡ all
  pub added : AddsNames done old now

pub added_first : {N : Type 0} (all rest old : List N) → rest ≡ all → AddedSoFar all rest old old
added_first all rest old is = record { done = []; split = is; added = λ n m. elim m [ inl there ↦ there | inr none ↦ absurd none ] }

pub added_next : {N : Type 0} (all rest left : List N) (n : N) (old mid new : List N) → rest ≡ n ∷ left → AddedSoFar all rest old mid → AddsNames (n ∷ []) mid new → AddedSoFar all left old new
added_next all rest left n old mid new is before adds = record {
  done = before.done ++ n ∷ [];
  split = append_assoc before.done (n ∷ []) left ∙ ap (λ xs. before.done ++ xs) (sym is) ∙ before.split;
  added = λ m x. elim x [
    | inl there ↦ adds m (inl (before.added m (inl there)))
    | inr k ↦ elim (Among-last before.done n m k) [ inl a ↦ adds m (inl (before.added m (inr a))) | inr e ↦ adds m (inr (inl e)) ]
  ];
}

pub added_all : {N : Type 0} (all rest old now : List N) → rest ≡ [] → AddedSoFar all rest old now → AddsNames all old now
added_all all rest old now none h = subst (λ xs. AddsNames xs old now) (sym (append-nil h.done) ∙ ap (λ xs. h.done ++ xs) (sym none) ∙ h.split) h.added

-- an entry that is inserted has its key
module _ {K X : Type 0} (eq : K → K → Bool) (decides : (a b : K) → IsTrue (eq a b) ↔ (a ≡ b)) where
  inserted_named : (es : List (K × X)) (k : K) (v : X) (m : K) → Among m (names_of es) ⊎ (m ≡ k) → Among m (names_of (insert_entry eq es k v))
  inserted_named [] k v m (inl none) = absurd none
  inserted_named [] k v m (inr e) = inl e
  inserted_named (x ∷ es) k v m h = go (eq k x.0) refl h (inserted_named es k v m)
    where
      go : (b : Bool) → eq k x.0 ≡ b → Among m (names_of (x ∷ es)) ⊎ (m ≡ k) → (Among m (names_of es) ⊎ (m ≡ k) → Among m (names_of (insert_entry eq es k v)))
          → Among m (names_of (if b then (x.0, v) ∷ es else x ∷ insert_entry eq es k v))
      go true q (inl there) rest = there
      go true q (inr e) rest = inl (e ∙ (decides k x.0).0 q)
      go false q (inl (inl first)) rest = inl first
      go false q (inl (inr there)) rest = inr (rest (inl there))
      go false q (inr e) rest = inr (rest (inr e))

  pub names_inserted : (old new : List (K × X)) (k : K) (v : X) → new ≡ insert_entry eq old k v → AddsNames (k ∷ []) (names_of old) (names_of new)
  names_inserted old new k v is m (inl there) = subst (λ es. Among m (names_of es)) (sym is) (inserted_named old k v m (inl there))
  names_inserted old new k v is m (inr (inl e)) = subst (λ es. Among m (names_of es)) (sym is) (inserted_named old k v m (inr e))
  names_inserted old new k v is m (inr (inr none)) = absurd none

-- ---- what a node needs is listed

-- a node has one source
pub source_added : (g : Graph) → AreKeyed g.edges → (k : ℕ) (old new : List ℕ) (i : ℕ) (m : Name) → HasAlias g.edges i m k → new ≡ old ++ i ∷ [] → AddsSource g k old new
source_added g keyed k old new i m edge is j (inl there) = subst (Among j) (sym is) (Among-left j old (i ∷ []) there)
source_added g keyed k old new i m edge is j (inr (n, h)) = subst (Among j) (sym is) (Among-right j old (i ∷ []) (inl (keyed.one_source j i k n m h edge).0))

-- a value under a name is among the values
value_among : (xs : List (Name × ℕ)) (n : Name) (a : ℕ) → value_at xs n ≡ Some a → Among a (values_of xs)
value_among [] n a e = absurd (cc e)
value_among (x ∷ xs) n a e = go (pointwise ◌==◌ n x.0) e (value_among xs n a)
  where
    go : (b : Bool) → (if b then Some x.1 else value_at xs n) ≡ Some a → (value_at xs n ≡ Some a → Among a (values_of xs)) → Among a (values_of (x ∷ xs))
    go true q rest = let same : x.1 ≡ a = cc q in inl (sym same)
    go false q rest = inr (rest q)

-- an argument is found
argument_first : (es : List Edge) → AreKeyed es → (k a : ℕ) (n : Name) → HasArgument es k n a → first_argument es k n ≡ Some a
argument_first es keyed k a n h = go (first_argument es k n) refl
  where
    go : (o : Option ℕ) → first_argument es k n ≡ o → first_argument es k n ≡ Some a
    go None e = absurd (no_argument es k a n e h)
    go (Some b) e = e ∙ ap Some (keyed.one_argument k b a n (argument_found es k b n e) h)

pub has_needed : (g : Graph) → AreKeyed g.edges → (k : ℕ) (bound : List (Name × ℕ)) → AreArguments g k bound → (old mid new : List ℕ) → AddsNames (values_of bound) old mid → AddsSource g k mid new → HasNeeded g k new
has_needed g keyed k bound are old mid new args source j (inl (n, h)) = source j (inl (args j (inr (value_among bound n j (are n ∙ argument_first g.edges keyed k j n h)))))
has_needed g keyed k bound are old mid new args source j (inr x) = source j (inr x)

-- ---- what stands is kept

pub provided_more : (g : Graph) (stands more : Name → Type 0) (ids held : List PackageId) (nodes kept : List ℕ) → ((n : Name) → stands n → more n) → ((id : PackageId) → Among id ids → Among id held) → ((k : ℕ) → Among k nodes → Among k kept)
    → IsProvided g stands ids nodes → IsProvided g more held kept
provided_more g stands more ids held nodes kept a b c p = record {
  imports = λ k n e. a n (p.imports k n e);
  unbound = λ k of n made there none. a n (p.unbound k of n made there none);
  packages = λ k id e. b id (p.packages k id e);
  definitions = λ k e. c k (p.definitions k e);
  values = p.values;
}

-- what is written under a name stands at its place
pub placed_some : (places : List (Name × ℕ)) (imports : List (Option SortIndex)) (n : Name) (at : ℕ) → value_at places n ≡ Some at → IsSome (written_under places imports n) → IsPlacedAt imports at
placed_some places imports n at e there =
    by (slice_get imports at) refl (sym (ap (λ (o : Option ℕ). is_some (option_and_then (λ k. option_and_then (λ q. q) (slice_get imports k)) o)) e) ∙ there)
  where
    by : (o : Option (Option SortIndex)) → slice_get imports at ≡ o → is_some (option_and_then (λ q. q) o) ≡ true → IsPlacedAt imports at
    by None q s = absurd (true≢false (sym s))
    by (Some None) q s = absurd (true≢false (sym s))
    by (Some (Some p)) q s = (p, q)

-- something is written at the place of each name
pub written_there : (places : List (Name × ℕ)) (imports : List (Option SortIndex)) → ArePlacedAt imports places → (n : Name) → HasPlace places n → IsSome (written_under places imports n)
written_there places imports placed n there =
    let at = value_of (value_at places n) there in
    let p = placed n at.0 at.1 in
    ap (λ (o : Option ℕ). is_some (option_and_then (λ k. option_and_then (λ q. q) (slice_get imports k)) o)) at.1 ∙ ap (λ (o : Option (Option SortIndex)). is_some (option_and_then (λ q. q) o)) p.1

pub nodes_kept : (old new : Wired) → KeepsNodes old new → (k : ℕ) → Among k (names_of (noted old)) → Among k (names_of (noted new))
nodes_kept old new keeps k m = let p = names_among (noted old) k m in name-among (noted new) k p.0 (keeps.kept k p.0 p.1)

same_outer : (old new : Wired) → IsSameRoot old new → (n : Name) → is_some (outer_of new n) ≡ is_some (outer_of old n)
same_outer old new same n = λ j. is_some (written_under (same.places j).now (same.imports j).items n)

pub ready_kept : (old new : Wired) → KeepsNodes old new → IsReady old → IsReady new
ready_kept old new keeps ready =
    let g : new.graph.now ≡ old.graph.now = ap (λ r. r.now) keeps.same.graph in
    subst (λ h. IsProvided h (λ n. IsSome (outer_of new n)) (names_of new.root.packages.entries) (names_of (noted new))) (sym g)
    (provided_more old.graph.now (λ n. IsSome (outer_of old n)) (λ n. IsSome (outer_of new n)) (names_of old.root.packages.entries) (names_of new.root.packages.entries) (names_of (noted old)) (names_of (noted new))
    (λ n m. same_outer old new keeps.same n ∙ m) (λ id m. subst (λ ps. Among id (names_of ps.entries)) (sym keeps.same.packages) m) (nodes_kept old new keeps) ready)

pub there_kept : (old new : Wired) → KeepsNodes old new → (k : ℕ) → ContainsNode old.graph.now k → ContainsNode new.graph.now k
there_kept old new keeps k there = subst (λ r. ContainsNode r.now k) (sym keeps.same.graph) there

-- ---- nodes

by_node : {P : Type 0} (o : Option NodeData) → IsSome o → ((x : NodeData) → o ≡ Some x → P) → P
by_node None s f = absurd (true≢false (sym s))
by_node (Some x) s f = f x refl

-- a key is of a node
pub key_there : (g : Graph) (k : ℕ) → Among k (finite.keys g.nodes) → ContainsNode g k
key_there g k m =
    let e = mapped_among (λ (x : ℕ × NodeData). x.0) (finite.entries g.nodes) k m in
    ap is_some (ap (node_at g) e.2 ∙ entry_there g.nodes e.0 e.1)

-- a node that is needed is there
pub needed_there : (g : Graph) → IsGraph g → (j k : ℕ) → IsNeeded g j k → ContainsNode g j
needed_there g sound j k (inl a) = (sound.wired.edges (argument_edge j k a.0) a.1).from
needed_there g sound j k (inr a) = (sound.wired.edges (alias_edge j k a.0) a.1).from

pub sources_there : (g : Graph) → IsGraph g → (k : ℕ) (ks : List ℕ) → AddsNeeded g k [] ks → AreThere g ks
sources_there g sound k ks needs j m = elim (needs j m) [ inl none ↦ absurd none | inr n ↦ needed_there g sound j k n ]

pub sources_stand : {A E : Type 0} (old new : Wired) (k : ℕ) (ks : List ℕ) → HasNeeded old.graph.now k ks → (r : Result A E) → OnOk r (KeepsNodes old new) → OnOk r (AllStand new ks) → OnOk r (NeededStand new k)
sources_stand old new k ks has (Ok x) keeps stand = λ j needed. stand j (has j (subst (λ r. IsNeeded r.now j k) keeps.same.graph needed))
sources_stand old new k ks has (Err e) keeps stand = tt

-- no more leads to any of them than to the node
pub sources_lower : (g : Graph) → IsGraph g → (k : ℕ) (ks : List ℕ) → AddsNeeded g k [] ks → above_all (depth_of g.edges) ks ≤ depth_of g.edges k
sources_lower g sound k ks needs = above_most (depth_of g.edges) ks (depth_of g.edges k) (λ j m. elim (needs j m) [ inl none ↦ absurd none | inr n ↦ needed_below g (depth_of g.edges) (depths_rise g.edges sound.acyclic) j k n ])

-- those so far stand, one after another
pub stand_first : (w : Wired) (ks : List ℕ) → AllStand w (take 0 ks)
stand_first w [] k m = absurd m
stand_first w (j ∷ ks) k m = absurd m

pub stand_more : (old new : Wired) → KeepsNodes old new → (ks : List ℕ) (i k : ℕ) → slice_get ks i ≡ Some k → AllStand old (take i ks) → Among k (names_of (noted new)) → AllStand new (take (i + 1) ks)
stand_more old new keeps ks i k at before stands j m = elim (Among-last (take i ks) k j (subst (Among j) (take-one_more ks i k at) m)) [
  | inl a ↦ nodes_kept old new keeps j (before j a)
  | inr e ↦ subst (λ x. Among x (names_of (noted new))) (sym e) stands
]

-- ---- kinds

pub kind_there : (o : Option NodeData) (kind : ItemKind) → Some kind ≡ option_map (λ (x : NodeData). x.item_kind) o → (x : NodeData) × (o ≡ Some x) × (x.item_kind ≡ kind)
kind_there None kind e = absurd (cc e)
kind_there (Some x) kind e = let same : x.item_kind ≡ kind = cc e in (x, refl, same)

pub kind_known : (g : Graph) (k : ℕ) (kind : ItemKind) → Some kind ≡ option_map (λ (x : NodeData). x.item_kind) (node_at g k) → sort_of kind ≡ None → IsUnsorted g k
kind_known g k kind is none x at = let same : x.item_kind ≡ kind = cc (is, ap (option_map (λ (y : NodeData). y.item_kind)) at) in ap sort_of same ∙ none

pub no_kind : (g : Graph) (k : ℕ) → None ≡ option_map (λ (x : NodeData). x.item_kind) (node_at g k) → IsUnsorted g k
no_kind g k is x at = absurd (cc (is, ap (option_map (λ (y : NodeData). y.item_kind)) at))

-- ---- instances

pub of_node : (g : Graph) (k : ℕ) (o : Option NodeData) → node_at g k ≡ o → (id : PackageId) → package_id_of o ≡ Some id → (x : NodeData) × (node_at g k ≡ Some x) × (x.of ≡ Some id)
of_node g k None e id q = absurd (cc q)
of_node g k (Some x) e id q = (x, e, q)

pub passed_there : (w : Wired) → IsGraph w.graph.now → (k : ℕ) (id : PackageId) (bound : List (Name × ℕ)) → package_id_of (node_at w.graph.now k) ≡ Some id → AreArguments w.graph.now k bound → IsReady w → NeededStand w k → CanBePassed w id bound
passed_there w sound k id bound is are ready needed = record {
  there = (sound.nodes k x.0 x.1).of id x.2;
  stand = λ of held n m. by_bound of held n m (value_at bound n) refl;
}
  where
    x : (y : NodeData) × (node_at w.graph.now k ≡ Some y) × (y.of ≡ Some id)
    x = of_node w.graph.now k (node_at w.graph.now k) refl id is

    by_bound : (of : Packaged) → package_of w.graph.now id ≡ Some of → (n : Name) → Among n (names_of (imports_of w.graph.now.types of.ty)) → (o : Option ℕ) → value_at bound n ≡ o → StandsBy (outer_of w) (noted w) n (value_at bound n)
    by_bound of held n m None e =
        let made : instantiated w.graph.now k ≡ Some of = ap (package_made w.graph.now) x.1 ∙ ap (package_if w.graph.now) x.2 ∙ held in
        subst (StandsBy (outer_of w) (noted w) n) (sym e) (ready.unbound k of n made m (sym (are n) ∙ e))
    by_bound of held n m (Some a) e = subst (StandsBy (outer_of w) (noted w) n) (sym e) (needed a (inl (n, argument_found w.graph.now.edges k a n (sym (are n) ∙ e))))

-- the package has a world
pub no_world : (o : Option Packaged) → option_map (λ (p : Packaged). p.ty) o ≡ None → IsSome o → ⊥
no_world None e s = true≢false (sym s)
no_world (Some p) e s = absurd (cc e)

pub world_held : (o : Option Packaged) (w : WorldId) → option_map (λ (p : Packaged). p.ty) o ≡ Some w → (of : Packaged) × (o ≡ Some of) × (of.ty ≡ w)
world_held None w e = absurd (cc e)
world_held (Some p) w e = let same : p.ty ≡ w = cc e in (p, refl, same)

-- ---- aliases

defined : (x : NodeData) → x.role ≡ Role.Defined → is_definition (Some x) ≡ true
defined x r = ap is_defined r

imported : (x : NodeData) (n : Name) → x.role ≡ Role.Imported n → import_name_of (Some x) ≡ None → ⊥
imported x n r e = let some : import_name_of (Some x) ≡ Some n = ap imported_as r in cc (sym some ∙ e)

sorted_item : (kind : ItemKind) → is_value_item kind ≡ false → sort_of kind ≡ None → ⊥
sorted_item (ItemKind.Ty t) v e = absurd (cc e)
sorted_item (ItemKind.Func f) v e = absurd (cc e)
sorted_item (ItemKind.Instance i) v e = absurd (cc e)
sorted_item (ItemKind.Component w) v e = absurd (cc e)
sorted_item (ItemKind.Module m) v e = absurd (cc e)
sorted_item (ItemKind.Value t) v e = true≢false v

pub alias_there : (w : Wired) → IsGraph w.graph.now → (k : ℕ) → ContainsNode w.graph.now k → IsReady w → NeededStand w k → import_name_of (node_at w.graph.now k) ≡ None → package_id_of (node_at w.graph.now k) ≡ None
    → (Among k (names_of (noted w)) → ⊥) → CanBeAlias w k
alias_there w sound k there ready needed no_import no_package new = by_node (node_at w.graph.now k) there at
  where
    alias : (x : NodeData) → node_at w.graph.now k ≡ Some x → (one : (i : ℕ) × (n : Name) × HasAlias w.graph.now.edges i n k) → CanBeAlias w k
    alias x e one = record {
      one = one;
      stand = λ i n h. needed i (inr (n, h));
      sorted = λ none.
          let value : is_value_item x.item_kind ≡ false = sym (ap (λ o. is_value_in (option_map (λ (y : NodeData). y.item_kind) o)) e) ∙ ready.values one.0 k one.1 one.2 in
          sorted_item x.item_kind value (none x e);
    }

    by_role : (x : NodeData) → node_at w.graph.now k ≡ Some x → (r : Role) → x.role ≡ r → CanBeAlias w k
    by_role x e Role.Defined r = absurd (new (ready.definitions k (ap is_definition e ∙ defined x r)))
    by_role x e (Role.Imported n) r = absurd (imported x n r (sym (ap import_name_of e) ∙ no_import))
    by_role x e Role.Instance r = absurd (true≢false (sym ((sound.nodes k x e).made r) ∙ ap is_some (sym (ap package_id_of e) ∙ no_package)))
    by_role x e Role.Aliased r = alias x e (sound.wired.sources k x e r)

    at : (x : NodeData) → node_at w.graph.now k ≡ Some x → CanBeAlias w k
    at x e = by_role x e x.role refl
