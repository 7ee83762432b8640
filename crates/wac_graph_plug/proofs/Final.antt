-- The wiring of a graph after plugging.
use Rattle.std.proofs.Common.{◌≡◌, ◌≢◌, ◌⊎◌, ℕ, zero, suc, ◌+◌, Bool, true, false, ◌==◌, cond, List, [], ◌∷◌, ◌++◌, map, length, Option, Some, None, IsSome, slice_get, refl, sym, ap, subst, ◌∙◌, inl, inr, arith}
use Rattle.std.proofs.lemmas.Option.{none-some, same_Some}
use Rattle.std.proofs.lemmas.Bool.{cases_eq}
use Rattle.std.proofs.lemmas.Bool.Decides.{nat_tests}
use Rattle.std.specs.Option.{option_map}
use Rattle.std.specs.Cmp.Lexicographic.{pointwise, same_text}
use Rattle.wac_types_base.specs.declared.item.ItemKind.{ItemKind}
use Rattle.wac_types_base.specs.Record.{Collection}
use Rattle.wac_types_base.specs.Collection.{IsAcyclic}
use Rattle.wac_types_base.specs.Entries.{Name, value_at, AreDistinct}
use Rattle.wac_types_base.specs.Graph.{Among}
use Rattle.wac_types_base.specs.Stated.{Stated, stated_of, imports_of, exports_of}
use Rattle.wac_types_base.specs.Tree.{Tree}
use Rattle.wac_types_base.proofs.Standing.{world_found}
use Rattle.wac_types_names.specs.Packaged.{Packaged}
use Rattle.wac_graph_bytes.specs.Wirings.{Source, Outer, Inst, Projection, rename, renamed, OfBytes, Instantiation, Wiring, Same}
use Rattle.wac_graph_core.specs.declared.ids.PackageId.{PackageId}
use Rattle.wac_graph_core.specs.Nodes.{NodeData, Role, plain_node}
use Rattle.wac_graph_core.specs.Edges.{alias_edge, argument_edge, HasAlias, HasArgument}
use Rattle.wac_graph_core.specs.Graph.{Graph, node_at, package_of, package_if, package_made, instantiated, item_import, imported_in, PackageStands, IsGraph}
use Rattle.wac_graph_core.specs.GraphWiring as w
use Rattle.wac_graph_core.specs.Steps.{Aliases}
use Rattle.wac_graph_core.specs.Exporting.{Exports}
use Rattle.wac_graph_core.proofs.NodeMap.{get-insert_same, get-insert_other}
use Rattle.wac_graph_core.proofs.EdgeSteps.{edge_label}
use Rattle.wac_types_base.proofs.Stating.{imports_stated, value_with}
use Rattle.wac_graph_core.proofs.WiringLaws.{once, binds_once, value_among}
use Rattle.wac_graph_plug.specs.declared.matching.Match.{Match}
use Rattle.wac_graph_plug.specs.Plugging.{AreMatches}
use Rattle.wac_graph_plug.specs.Steps.{Grown, ExportsAll, exported_none, exported_next}
use Rattle.wac_graph_plug.specs.Stops.{part_in, part_of, world_of, worlds_of, Plugs, socket_exports, AreMatched, IsPlugged}
use Rattle.wac_graph_plug.specs.Wired.{Part, export_for, or_later, bound_from, if_there, bound_source, socket_instance, plug_instance, plug_at, plugged}
use Rattle.wac_graph_plug.proofs.Growing.{Grown-refl, Grown-trans, Grown-instance, Grown-exports, same_package, same_world, worlds_same}
use Rattle.wac_graph_plug.proofs.State.{Bound, no_argument}
use Rattle.wac_graph_plug.proofs.Causes.{Grown-each, first_state, all_distinct, each_state}
use Rattle.wac_graph_plug.proofs.Passing.{bound_of}
use Rattle.wac_graph_plug.proofs.Made.{PlugAt, EachMade, AllMade, each_made, quiet_alias}
use Rattle.wac_graph_core.proofs.Made.{alias_here}
use Rattle.wac_graph_core.proofs.ExportSteps.{among_name}
use Rattle.wac_types_base.proofs.Replacing.{same_number}
use Rattle.wac_types_base.proofs.Lists.{last_among, value_none, value_named}
use Rattle.wac_graph_core.proofs.Found.{eq_false, same_name, Among-front}
use Rattle.wac_types_fit.proofs.Items.{Among-last}

-- ---- matches

-- the plugs have matches, no two of which share an import
abbrev pub are_matched : (old new : Graph) (socket : PackageId) (ids : List PackageId) → IsGraph old → Plugs old new socket ids → AreMatched old socket ids
are_matched old new socket ids sound r =
    let mss = r.plugged.matches in
    let grown = Grown-instance old r.first socket r.instance r.made in
    let e = each_state r.made.of r.plugged.plugged (first_state old r.first socket r.instance sound r.made) (all_distinct r.first ids mss r.plugged.distinct r.plugged.are) in
    record {
      matches = mss;
      are = subst (λ ws. AreMatches (world_of old socket) ws mss) (worlds_same old r.first grown ids) (subst (λ x. AreMatches x (worlds_of r.first ids) mss) (same_world old r.first grown socket) r.plugged.are);
      some = sym r.plugged.has;
      apart = subst AreDistinct e.2 e.1.distinct;
    }

-- ---- exports

pub record Exported (s : ℕ) (ns : List Name) (g h : Graph) : Type 0 where
  pub instances : (k : ℕ) → instantiated h k ≡ instantiated g k
  pub args : (k : ℕ) (n : Name) (a : ℕ) → HasArgument h.edges k n a → HasArgument g.edges k n a
  pub grown : Grown g h
  pub found : (n : Name) (k : ℕ) → Among (n, k) h.exports → Among (n, k) g.exports ⊎ (Among n ns × HasAlias h.edges s n k)
  pub all : (n : Name) → Among n ns → (k : ℕ) × Among (n, k) h.exports

alias_args : (g h : Graph) (i : ℕ) (n : Name) (k : ℕ) → Aliases g h i n k → (j : ℕ) (m : Name) (a : ℕ) → HasArgument h.edges j m a → HasArgument g.edges j m a
alias_args g h i n k (inl again) j m a at = subst (Among (argument_edge a j m)) (ap (λ (x : Graph). x.edges) again.same) at
alias_args g h i n k (inr made) j m a at = elim ((made.edges (argument_edge a j m)).0 at) [ inl old ↦ old | inr same ↦ absurd (no_argument m n (edge_label same)) ]

alias_exports : (g h : Graph) (i : ℕ) (n : Name) (k : ℕ) → Aliases g h i n k → h.exports ≡ g.exports
alias_exports g h i n k (inl again) = ap (λ (x : Graph). x.exports) again.same
alias_exports g h i n k (inr made) = ap (λ (x : Graph). x.exports) made.made

export_instances : (g h : Graph) (k : ℕ) (n : Name) → Exports g h k n → (j : ℕ) → instantiated h j ≡ instantiated g j
export_instances g h k n x j = elim (cases_eq j k) [
  | inl e ↦
      ap (instantiated h) e ∙ ap (λ (y : Graph). instantiated y k) x.made ∙ ap (package_made g) (get-insert_same g.nodes k (record x.node { export = Some n }))
      ∙ sym (ap (package_made g) x.there) ∙ ap (instantiated g) (sym e)
  | inr ne ↦ ap (λ (y : Graph). instantiated y j) x.made ∙ ap (package_made g) (get-insert_other g.nodes k (record x.node { export = Some n }) j ne)
]

pub exported_all : {s : ℕ} {ns : List Name} {g h : Graph} → ExportsAll s ns g h → Exported s ns g h
exported_all exported_none =
    record { instances = λ k. refl; args = λ k n a at. at; grown = Grown-refl _; found = λ n k at. inl at; all = λ n at. absurd at }
exported_all {s} (exported_next {ns = ns} {n = n} {f = f} {g = g} {h = h} rest one) =
    let r = exported_all rest in
    let edges : h.edges ≡ one.middle.edges = ap (λ (x : Graph). x.edges) one.exported.made in
    let exports : h.exports ≡ g.exports ++ (n, one.alias) ∷ [] =
    ap (λ (x : Graph). x.exports) one.exported.made ∙ ap (λ xs. xs ++ (n, one.alias) ∷ []) (alias_exports g one.middle s n one.alias one.aliased) in
    let grown = Grown-exports s n g h one in
    record {
      instances = λ k. export_instances one.middle h one.alias n one.exported k ∙ (quiet_alias s g one.middle s n one.alias one.aliased).instances k ∙ r.instances k;
      args = λ k m a at. r.args k m a (alias_args g one.middle s n one.alias one.aliased k m a (subst (Among (argument_edge a k m)) edges at));
      grown = Grown-trans f g h r.grown grown;
      found = λ m k at. elim (Among-last g.exports (n, one.alias) (m, k) (subst (Among (m, k)) exports at)) [
        | inl old ↦ elim (r.found m k old) [ inl older ↦ inl older | inr x ↦ inr (Among-front ns n m x.0, grown.edges (alias_edge s k m) x.1) ]
        | inr same ↦
            inr (
              subst (λ x. Among x (ns ++ n ∷ [])) (sym (ap (λ (p : Name × ℕ). p.0) same)) (last_among ns n),
              subst (λ (p : Name × ℕ). HasAlias h.edges s p.0 p.1) (sym same) (subst (Among (alias_edge s one.alias n)) (sym edges) (alias_here g one.middle s n one.alias one.aliased)),
            )
      ];
      all = λ m at. elim (Among-last ns n m at) [
        | inl old ↦ let x = r.all m old in (x.0, subst (Among (m, x.0)) (sym exports) (Among-front g.exports (n, one.alias) (m, x.0) x.1))
        | inr same ↦ (one.alias, subst (Among (m, one.alias)) (sym exports) (subst (λ x. Among (x, one.alias) (g.exports ++ (n, one.alias) ∷ [])) (sym same) (last_among g.exports (n, one.alias))))
      ];
    }

-- ---- lists

part_at : (g : Graph) (ids : List PackageId) (p : ℕ) (id : PackageId) → slice_get ids p ≡ Some id → slice_get (map (part_of g) ids) p ≡ Some (part_of g id)
part_at g [] p id e = absurd (cc (e))
part_at g (x ∷ ids) zero id e = ap (λ j. Some (part_of g j)) (same_Some _ _ e)
part_at g (x ∷ ids) (suc p) id e = part_at g ids p id e

-- what bound_from finds
pub record Found (q : ℕ) (mss : List (List Match)) (n : Name) (p : ℕ) (e : Name) : Type 0 where
  pub place : ℕ
  pub counted : p ≡ q + place
  pub ms : List Match
  pub there : slice_get mss place ≡ Some ms
  pub m : Match
  pub among : Among m ms
  pub import : m.import ≡ n
  pub export : m.export ≡ e

found_export : (ms : List Match) (n e : Name) → export_for ms n ≡ Some e → (m : Match) × Among m ms × (m.import ≡ n) × (m.export ≡ e)
found_export [] n e h = absurd (cc (h))
found_export (m ∷ ms) n e h = by_test (pointwise ◌==◌ n m.import) refl (found_export ms n e) h
  where
    by_test : (b : Bool) → pointwise ◌==◌ n m.import ≡ b → (export_for ms n ≡ Some e → (x : Match) × Among x ms × (x.import ≡ n) × (x.export ≡ e)) → cond b (Some m.export) (export_for ms n) ≡ Some e
        → (x : Match) × Among x (m ∷ ms) × (x.import ≡ n) × (x.export ≡ e)
    by_test true is later h = (m, inl refl, sym (same_text n m.import (sym is)), same_Some _ _ h)
    by_test false is later h = let r = later h in (r.0, inr r.1, r.2, r.3)

no_export : (ms : List Match) (n : Name) (m : Match) → export_for ms n ≡ None → Among m ms → m.import ≡ n → ⊥
no_export [] n m h at same = absurd at
no_export (x ∷ ms) n m h at same = by_test (pointwise ◌==◌ n x.import) refl (no_export ms n m) h at
  where
    by_test : (b : Bool) → pointwise ◌==◌ n x.import ≡ b → (export_for ms n ≡ None → Among m ms → m.import ≡ n → ⊥) → cond b (Some x.export) (export_for ms n) ≡ None → Among m (x ∷ ms) → ⊥
    by_test true is later h at = absurd (cc (h))
    by_test false is later h (inl e) = absurd (cc (ap (pointwise ◌==◌ n) (sym (ap (λ (y : Match). y.import) e) ∙ same) ∙ same_name n, is))
    by_test false is later h (inr at) = later h at same

found_at : (o : Option Name) (q : ℕ) (ms : List Match) (mss : List (List Match)) (n : Name) (p : ℕ) (e : Name) → export_for ms n ≡ o → (bound_from (suc q) mss n ≡ Some (p, e) → Found (suc q) mss n p e) → or_later q o (bound_from (suc q) mss n) ≡ Some (p, e) → Found q (ms ∷ mss) n p e
found_at None q ms mss n p e is later h =
    let r = later h in
    record { place = suc r.place; counted = omega (arith, r.counted); ms = r.ms; there = r.there; m = r.m; among = r.among; import = r.import; export = r.export }
found_at (Some x) q ms mss n p e is later h =
    let same : (q, x) ≡ (p, e) = same_Some _ _ h in
    let r = found_export ms n x is in
    let counted : q ≡ p = ap (λ (y : ℕ × Name). y.0) same in
    record { place = 0; counted = omega (arith, counted); ms = ms; there = refl; m = r.0; among = r.1; import = r.2; export = r.3 ∙ ap (λ (y : ℕ × Name). y.1) same }

pub found_bound : (q : ℕ) (mss : List (List Match)) (n : Name) (p : ℕ) (e : Name) → bound_from q mss n ≡ Some (p, e) → Found q mss n p e
found_bound q [] n p e h = absurd (cc (h))
found_bound q (ms ∷ mss) n p e h = found_at (export_for ms n) q ms mss n p e refl (found_bound (suc q) mss n p e) h

not_found_at : (o : Option Name) (q : ℕ) (ms : List Match) (mss : List (List Match)) (n : Name) → export_for ms n ≡ o → or_later q o (bound_from (suc q) mss n) ≡ None → (export_for ms n ≡ None) × (bound_from (suc q) mss n ≡ None)
not_found_at None q ms mss n is h = (is, h)
not_found_at (Some x) q ms mss n is h = absurd (cc (h))

pub no_bound : (q : ℕ) (mss : List (List Match)) (n : Name) → bound_from q mss n ≡ None → (j : ℕ) (ms : List Match) (m : Match) → slice_get mss j ≡ Some ms → Among m ms → m.import ≡ n → ⊥
no_bound q [] n h j ms m at among same = absurd (cc (at))
no_bound q (x ∷ mss) n h zero ms m at among same = let r = not_found_at (export_for x n) q x mss n refl h in no_export x n m r.0 (subst (Among m) (sym (same_Some _ _ at)) among) same
no_bound q (x ∷ mss) n h (suc j) ms m at among same = let r = not_found_at (export_for x n) q x mss n refl h in no_bound (suc q) mss n r.1 j ms m at among same

-- ---- the renaming

abbrev node_or : ℕ → Option (Option ℕ) → ℕ
node_or s (Some (Some k)) = k
node_or s o = s

abbrev step_place : Option ℕ → ℕ → ℕ → ℕ
step_place None k n = suc n
step_place (Some j) k n = cond (j == k) 0 (suc n)

abbrev place_in : List (Option ℕ) → ℕ → ℕ
place_in [] k = 0
place_in (o ∷ os) k = step_place o k (place_in os k)

eq_same : (a : ℕ) → (a == a) ≡ true
eq_same a = grind (arith, nat_tests)

place_is : (os : List (Option ℕ)) (p k : ℕ) → slice_get os p ≡ Some (Some k) → slice_get os (place_in os k) ≡ Some (Some k)
place_is [] p k e = absurd (cc (e))
place_is (None ∷ os) zero k e = absurd (none-some _ (same_Some _ _ e))
place_is (None ∷ os) (suc p) k e = place_is os p k e
place_is (Some j ∷ os) p k e = by_test (j == k) refl (later p e) (λ q h. place_is os q k h)
  where
    later : (p : ℕ) → slice_get (Some j ∷ os) p ≡ Some (Some k) → (j ≡ k) ⊎ ((q : ℕ) × (slice_get os q ≡ Some (Some k)))
    later zero e = inl (same_Some _ _ (same_Some _ _ e))
    later (suc q) e = inr (q, e)

    by_test : (b : Bool) → (j == k) ≡ b → (j ≡ k) ⊎ ((q : ℕ) × (slice_get os q ≡ Some (Some k))) → ((q : ℕ) → slice_get os q ≡ Some (Some k) → slice_get os (place_in os k) ≡ Some (Some k))
        → slice_get (Some j ∷ os) (cond b 0 (suc (place_in os k))) ≡ Some (Some k)
    by_test true is l ih = ap (λ x. Some (Some x)) (same_number j k is)
    by_test false is (inl same) ih = absurd (cc (ap (λ x. j == x) (sym same) ∙ eq_same j, is))
    by_test false is (inr r) ih = ih r.0 r.1

-- lists that are as long as one another
there_too : {X Y : Type 0} (xs : List X) (ys : List Y) (i : ℕ) (y : Y) → length xs ≡ length ys → slice_get ys i ≡ Some y → (x : X) × (slice_get xs i ≡ Some x)
there_too [] [] i y e at = absurd (none-some _ at)
there_too [] (z ∷ ys) i y e at = absurd (omega (arith, e))
there_too (x ∷ xs) [] i y e at = absurd (none-some _ at)
there_too (x ∷ xs) (z ∷ ys) zero y e at = (x, refl)
there_too (x ∷ xs) (z ∷ ys) (suc i) y e at = there_too xs ys i y (omega (arith, e)) at

there_none : {X Y : Type 0} (xs : List X) (ys : List Y) (i : ℕ) → length xs ≡ length ys → slice_get xs i ≡ None → slice_get ys i ≡ None
there_none xs [] i e at = refl
there_none [] (z ∷ ys) i e at = absurd (omega (arith, e))
there_none (x ∷ xs) (z ∷ ys) zero e at = absurd (none-some _ (sym at))
there_none (x ∷ xs) (z ∷ ys) (suc i) e at = there_none xs ys i (omega (arith, e)) at

-- ---- the graph after plugging

some_value : {A : Type 0} (o : Option A) → (o ≡ None) ⊎ ((x : A) × (o ≡ Some x))
some_value None = inl refl
some_value (Some x) = inr (x, refl)

module _ (old new : Graph) (socket : PackageId) (ids : List PackageId) (sound : IsGraph old) (after : IsGraph new) (acyclic : IsAcyclic old.types) (fresh : (k : ℕ) → node_at old k ≡ None) (r : Plugs old new socket ids) where
  abbrev s : ℕ
  s = r.instance

  abbrev sp : Packaged
  sp = r.made.of

  abbrev mss : List (List Match)
  mss = r.plugged.matches

  abbrev ns : List Name
  ns = socket_exports old socket

  no_exports : (xs : List (Name × ℕ)) → ((n : Name) (k : ℕ) → Among (n, k) xs → ⊥) → xs ≡ []
  no_exports [] none = refl
  no_exports (x ∷ xs) none = absurd (none x.0 x.1 (inl refl))

  none_there : (k : ℕ) → IsSome (node_at old k) → ⊥
  none_there k there = absurd (cc (fresh k, there))

  nothing_exported : r.first.exports ≡ []
  nothing_exported = ap (λ (x : Graph). x.exports) r.made.made ∙ no_exports old.exports (λ n k at. none_there k (sound.exported.stand n k at))

  only_socket : (k : ℕ) (q : Packaged) → instantiated r.first k ≡ Some q → k ≡ s
  only_socket k q at = elim (cases_eq k s) [
    | inl e ↦ e
    | inr ne ↦
        absurd (none-some _ (sym (ap (λ (x : Graph). instantiated x k) r.made.made ∙ ap (package_made old) (get-insert_other old.nodes s (plain_node Role.Instance (Some socket) (ItemKind.Instance sp.instance_type)) k ne) ∙ ap (package_made old) (fresh k)) ∙ at))
  ]

  start : EachMade r.first s [] [] [] []
  start =
      record {
        ids_long = refl;
        mss_long = refl;
        plug_in = λ p k at. absurd (none-some _ at);
        out = λ p at. absurd (none-some _ at);
        once = λ p q k at bt. absurd (none-some _ at);
        only = λ k q at. inl (only_socket k q at);
        bound_in = λ b at. absurd at;
        bound_at = λ p k ms m at there among. absurd (none-some _ at);
        args = λ k n a at. absurd (none_there a (sound.wired.edges (argument_edge a k n) (subst (Among (argument_edge a k n)) (ap (λ (x : Graph). x.edges) r.made.made) at)).from);
        exports = nothing_exported;
      }

  plugs : AllMade r.second s sp ids mss
  plugs = each_made sp r.plugged.plugged (all_distinct r.first ids mss r.plugged.distinct r.plugged.are) (first_state old r.first socket s sound r.made) start

  ex : Exported s ns r.second new
  ex = exported_all r.exported

  grown_second : Grown old r.second
  grown_second = Grown-trans old r.first r.second (Grown-instance old r.first socket s r.made) (Grown-each r.plugged.plugged)

  grown_new : Grown old new
  grown_new = Grown-trans old r.second new grown_second ex.grown

  types : new.types ≡ old.types
  types = grown_new.types

  -- ---- instances of the graph

  socket_is : instantiated new s ≡ Some sp
  socket_is = ex.instances s ∙ plugs.state.socket

  plug_is : (p k : ℕ) (at : PlugAt r.second s ids mss p k) → instantiated new k ≡ Some at.of
  plug_is p k at = ex.instances k ∙ at.is

  package_old : (p k : ℕ) (at : PlugAt r.second s ids mss p k) → package_of old at.id ≡ Some at.of
  package_old p k at = sym (same_package old r.second grown_second at.id) ∙ at.package_is

  -- an instance is a node of that role
  instance_node : (k : ℕ) (q : Packaged) → instantiated new k ≡ Some q → (x : NodeData) × (node_at new k ≡ Some x) × (x.role ≡ Role.Instance)
  instance_node k q at = by_node (node_at new k) refl at
    where
      by_of : (x : NodeData) (o : Option PackageId) → node_at new k ≡ Some x → x.of ≡ o → package_if new o ≡ Some q → (y : NodeData) × (node_at new k ≡ Some y) × (y.role ≡ Role.Instance)
      by_of x None e of h = absurd (none-some _ h)
      by_of x (Some id) e of h = (x, e, (after.nodes k x e).only id of)

      by_node : (o : Option NodeData) → node_at new k ≡ o → package_made new o ≡ Some q → (x : NodeData) × (node_at new k ≡ Some x) × (x.role ≡ Role.Instance)
      by_node None e h = absurd (none-some _ h)
      by_node (Some x) e h = by_of x x.of e refl h

  -- what a package's import is stated as
  import_stated : (q : Packaged) → PackageStands old.types q → (n : Name) → value_at (imports_of (stated_of old.types (ItemKind.Component q.ty))) n ≡ option_map (stated_of old.types) (item_import new.types q.ty n)
  import_stated q stands n =
      let v = world_found old.types q.ty stands.world in
      ap (λ l. value_at l n) (imports_stated old.types acyclic q.ty v.value v.at v.own) ∙ value_with (stated_of old.types) v.value.imports n
      ∙ ap (λ o. option_map (stated_of old.types) (imported_in o n)) (sym v.at) ∙ ap (λ (c : Collection). option_map (stated_of old.types) (item_import c q.ty n)) (sym types)

  socket_part : part_of old socket ≡ record { bytes = sp.bytes; world = stated_of old.types (ItemKind.Component sp.ty) }
  socket_part = ap (part_in old.types) r.made.is

  module _ (spell : Name → Name) (written : ItemKind → Tree) (outers : Name → Option Tree) (W : Wiring ℕ) (is : w.IsWiring spell written new outers W) where
    abbrev Denotes : ℕ → Source ℕ → Type 0
    Denotes = w.Denotes spell written new

    abbrev Binds : ℕ → Name → Source ℕ → Type 0
    Binds = w.Binds spell written new

    abbrev V : Wiring ℕ
    V = plugged spell outers (part_of old socket) (map (part_of old) ids) mss

    abbrev to : ℕ → ℕ
    to zero = s
    to (suc p) = node_or s (slice_get plugs.made p)

    abbrev from : ℕ → ℕ
    from k = cond (k == s) 0 (suc (place_in plugs.made k))

    from_socket : from s ≡ 0
    from_socket = ap (λ b. cond b 0 (suc (place_in plugs.made s))) (eq_same s)

    from_plug : (p k : ℕ) → slice_get plugs.made p ≡ Some (Some k) → from k ≡ suc p
    from_plug p k at =
        ap (λ b. cond b 0 (suc (place_in plugs.made k))) (eq_false k s (plugs.each.plug_in p k at).apart)
        ∙ ap suc (plugs.each.once (place_in plugs.made k) p k (place_is plugs.made p k at) at)

    to_plug : (p k : ℕ) → slice_get plugs.made p ≡ Some (Some k) → to (suc p) ≡ k
    to_plug p k at = ap (node_or s) at

    -- ---- sources

    instance_denotes : (k : ℕ) (q : Packaged) → instantiated new k ≡ Some q → Denotes k (Inst k)
    instance_denotes k q at = let x = instance_node k q at in w.instance x.0 x.1 x.2

    alias_denotes : (i k : ℕ) (n : Name) (q : Packaged) → instantiated new i ≡ Some q → HasAlias new.edges i n k → Denotes k (Projection (Inst i) n)
    alias_denotes i k n q at there = w.aliased i n there (instance_denotes i q at)

    no_arguments : (k : ℕ) (n : Name) → k ≢ s → (a : ℕ) → HasArgument new.edges k n a → ⊥
    no_arguments k n apart a at = apart (plugs.each.args k n a (ex.args k n a at))

    -- ---- the socket's arguments

    unbound : (n : Name) (a : ℕ) → bound_from 0 mss n ≡ None → (b : Bound) × Among b plugs.done × (b.import ≡ n) × HasAlias r.second.edges b.plug b.export a → ⊥
    unbound n a none x =
        let b = plugs.each.bound_in x.0 x.1 in
        no_bound 0 mss n none b.place b.ms b.m b.matches b.among (sym (ap (λ (c : Bound). c.import) b.same) ∙ x.2)

    by_made : (n : Name) (x : ℕ × Name) (f : Found 0 mss n x.0 x.1) (o : Option ℕ) → slice_get plugs.made f.place ≡ Some o → Binds s n (Projection (Inst (to (suc x.0))) x.1)
    by_made n x f None at =
        let empty : f.ms ≡ [] = same_Some _ _ (sym f.there ∙ plugs.each.out f.place at) in
        absurd (subst (Among f.m) empty f.among)
    by_made n x f (Some k) at =
        let p = plugs.each.plug_in f.place k at in
        let c = plugs.state.complete (bound_of k f.m) (plugs.each.bound_at f.place k f.ms f.m at f.there f.among) in
        let place : suc x.0 ≡ suc f.place = omega (arith, f.counted) in
        let here : to (suc x.0) ≡ k = ap to place ∙ to_plug f.place k at in
        subst (λ j. Binds s n (Projection (Inst j) x.1)) (sym here)
        (subst (λ e. Binds s n (Projection (Inst k) e)) f.export
        (w.argument c.0 (subst (λ i. HasArgument new.edges s i c.0) f.import (ex.grown.edges (argument_edge c.0 s f.m.import) c.1))
        (alias_denotes k c.0 f.m.export p.of (plug_is f.place k p) (ex.grown.edges (alias_edge k c.0 f.m.export) c.2))))

    bound_source_is : (n : Name) (o : Option (ℕ × Name)) → bound_from 0 mss n ≡ o → Binds s n (rename to (bound_source spell n o))
    bound_source_is n None none = w.outer (λ a at. unbound n a none (plugs.state.bound n a (ex.args s n a at)))
    bound_source_is n (Some x) found =
        let f = found_bound 0 mss n x.0 x.1 found in
        let o = there_too plugs.made mss f.place f.ms plugs.each.mss_long f.there in
        by_made n x f o.0 o.1

    -- ---- instances

    socket_arg : (n : Name) (y : Instantiation ℕ) → w.IsInstance spell written new s sp y → (o : Option ItemKind) → item_import new.types sp.ty n ≡ o
        → rename to (if_there (option_map (stated_of old.types) o) (bound_source spell n (bound_from 0 mss n))) ≡ y.args n
    socket_arg n y i None none = sym (i.no_other n none)
    socket_arg n y i (Some item) there =
        binds_once spell written new after s n (rename to (bound_source spell n (bound_from 0 mss n))) (y.args n) (bound_source_is n (bound_from 0 mss n) refl) (i.bound n item there)

    same_socket : (y : Instantiation ℕ) → w.IsInstance spell written new s sp y → renamed to (socket_instance spell (part_of old socket) mss) ≡ y
    same_socket y i =
        let tag = ap (λ (p : Part). OfBytes p.bytes) socket_part ∙ sym i.tag in
        let args : (n : Name) → rename to (if_there (value_at (imports_of (part_of old socket).world) n) (bound_source spell n (bound_from 0 mss n))) ≡ y.args n = λ n.
        ap (λ (p : Part). rename to (if_there (value_at (imports_of p.world) n) (bound_source spell n (bound_from 0 mss n)))) socket_part
        ∙ ap (λ v. rename to (if_there v (bound_source spell n (bound_from 0 mss n)))) (import_stated sp (sound.packages.stand socket sp r.made.is) n)
        ∙ socket_arg n y i (item_import new.types sp.ty n) refl in
        λ j. record { tag = tag j; args = λ n. args n j }

    plug_arg : (k : ℕ) (q : Packaged) (n : Name) (y : Instantiation ℕ) → k ≢ s → w.IsInstance spell written new k q y → (o : Option ItemKind) → item_import new.types q.ty n ≡ o
        → rename to (if_there (option_map (stated_of old.types) o) (Outer (spell n))) ≡ y.args n
    plug_arg k q n y apart i None none = sym (i.no_other n none)
    plug_arg k q n y apart i (Some item) there =
        binds_once spell written new after k n (Outer (spell n)) (y.args n) (w.outer (no_arguments k n apart)) (i.bound n item there)

    same_plug : (p k : ℕ) (at : PlugAt r.second s ids mss p k) (y : Instantiation ℕ) → w.IsInstance spell written new k at.of y → renamed to (plug_instance spell (part_of old at.id)) ≡ y
    same_plug p k at y i =
        let part : part_of old at.id ≡ record { bytes = at.of.bytes; world = stated_of old.types (ItemKind.Component at.of.ty) } = ap (part_in old.types) (package_old p k at) in
        let tag = ap (λ (x : Part). OfBytes x.bytes) part ∙ sym i.tag in
        let args : (n : Name) → rename to (if_there (value_at (imports_of (part_of old at.id).world) n) (Outer (spell n))) ≡ y.args n = λ n.
        ap (λ (x : Part). rename to (if_there (value_at (imports_of x.world) n) (Outer (spell n)))) part
        ∙ ap (λ v. rename to (if_there v (Outer (spell n)))) (import_stated at.of (sound.packages.stand at.id at.of (package_old p k at)) n)
        ∙ plug_arg k at.of n y at.apart i (item_import new.types at.of.ty n) refl in
        λ j. record { tag = tag j; args = λ n. args n j }

    -- the plug at a place, in the wiring that is made
    plug_there : (p k : ℕ) (at : PlugAt r.second s ids mss p k) → V.at (suc p) ≡ Some (plug_instance spell (part_of old at.id))
    plug_there p k at =
        ap (λ o. plug_at spell o (slice_get mss p)) (part_at old ids p at.id at.there) ∙ ap (λ o. plug_at spell (Some (part_of old at.id)) o) at.matches

    no_plug : (p : ℕ) (x : Instantiation ℕ) (q : Option Part) (o : Option (Option ℕ)) → slice_get plugs.made p ≡ o → plug_at spell q (slice_get mss p) ≡ Some x → (k : ℕ) × (slice_get plugs.made p ≡ Some (Some k))
    no_plug p x q None at here = absurd (not_there q (slice_get mss p) (there_none plugs.made mss p plugs.each.mss_long at) here)
      where
        not_there : (q : Option Part) (o : Option (List Match)) → o ≡ None → plug_at spell q o ≡ Some x → ⊥
        not_there None o e h = absurd (none-some _ h)
        not_there (Some q) None e h = absurd (none-some _ h)
        not_there (Some q) (Some ms) e h = absurd (none-some _ (sym e))
    no_plug p x q (Some None) at here = absurd (not_there q (slice_get mss p) (plugs.each.out p at) here)
      where
        not_there : (q : Option Part) (o : Option (List Match)) → o ≡ Some [] → plug_at spell q o ≡ Some x → ⊥
        not_there None o e h = absurd (none-some _ h)
        not_there (Some q) None e h = absurd (none-some _ h)
        not_there (Some q) (Some []) e h = absurd (none-some _ h)
        not_there (Some q) (Some (m ∷ ms)) e h = absurd (cc (e))
    no_plug p x q (Some (Some k)) at here = (k, at)

    there_is : (k : ℕ) (x : Instantiation ℕ) → V.at k ≡ Some x → (from (to k) ≡ k) × (W.at (to k) ≡ Some (renamed to x))
    there_is zero x at =
        let i = is.instances s sp socket_is in
        (from_socket, i.1 ∙ ap Some (sym (same_socket i.0 i.2)) ∙ ap (λ y. Some (renamed to y)) (same_Some _ _ at))
    there_is (suc p) x at =
        let k = no_plug p x (slice_get (map (part_of old) ids) p) (slice_get plugs.made p) refl at in
        let q = plugs.each.plug_in p k.0 k.1 in
        let i = is.instances k.0 q.of (plug_is p k.0 q) in
        let body : plug_instance spell (part_of old q.id) ≡ x = same_Some _ _ (sym (plug_there p k.0 q) ∙ at) in (
          ap from (to_plug p k.0 k.1) ∙ from_plug p k.0 k.1,
          ap W.at (to_plug p k.0 k.1) ∙ i.1 ∙ ap Some (sym (same_plug p k.0 q i.0 i.2)) ∙ ap (λ y. Some (renamed to y)) body,
        )

    back_is : (j : ℕ) (y : Instantiation ℕ) → W.at j ≡ Some y → (x : Instantiation ℕ) × (V.at (from j) ≡ Some x) × (to (from j) ≡ j)
    back_is j y at = by_instance (some_value (instantiated new j))
      where
        by_instance : (instantiated new j ≡ None) ⊎ ((q : Packaged) × (instantiated new j ≡ Some q)) → (x : Instantiation ℕ) × (V.at (from j) ≡ Some x) × (to (from j) ≡ j)
        by_instance (inl none) = absurd (none-some _ (sym (is.no_other j none) ∙ at))
        by_instance (inr q) = elim (plugs.each.only j q.0 (sym (ex.instances j) ∙ q.1)) [
          | inl same ↦ (socket_instance spell (part_of old socket) mss, ap V.at (ap from same ∙ from_socket), ap to (ap from same ∙ from_socket) ∙ sym same)
          | inr p ↦
              let c = plugs.each.plug_in p.0 j p.1 in
              (plug_instance spell (part_of old c.id), ap V.at (from_plug p.0 j p.1) ∙ plug_there p.0 j c, ap to (from_plug p.0 j p.1) ∙ to_plug p.0 j p.1)
        ]

    -- ---- exports

    exported_there : (n : Name) (k : ℕ) → value_at new.exports n ≡ Some k → Among n ns × HasAlias new.edges s n k
    exported_there n k at = elim (ex.found n k (value_among new.exports n k at)) [
      | inl old ↦ absurd (subst (Among (n, k)) plugs.each.exports old)
      | inr x ↦ x
    ]

    exports_is : (n : Name) (o : Option Stated) → value_at (exports_of (world_of old socket)) n ≡ o → rename to (if_there o (Projection (Inst zero) n)) ≡ W.exports n
    exports_is n None none = elim (some_value (value_at new.exports n)) [
      | inl e ↦ sym (is.no_export n e)
      | inr x ↦ absurd (value_none (exports_of (world_of old socket)) n none (exported_there n x.0 x.1).0)
    ]
    exports_is n (Some t) there =
        let all = ex.all n (value_named (exports_of (world_of old socket)) n t there) in
        elim (some_value (value_at new.exports n)) [
          | inl e ↦ absurd (value_none new.exports n e (among_name new.exports n all.0 all.1))
          | inr x ↦
              once spell written new after x.0 (Projection (Inst s) n) (W.exports n) (alias_denotes s x.0 n sp socket_is (exported_there n x.0 x.1).1) (is.exported n x.0 x.1)
        ]

    pub same_wiring : Same V W
    same_wiring =
        record {
          to = to;
          from = from;
          outers = λ n. sym (is.outers n);
          there = there_is;
          back = back_is;
          exports = λ n. exports_is n (value_at (exports_of (world_of old socket)) n) refl;
        }

  pub is_plugged : IsPlugged old new socket ids
  is_plugged =
      record {
        matched = are_matched old new socket ids sound r;
        wiring = λ spell written outers W is. same_wiring spell written outers W is;
      }
