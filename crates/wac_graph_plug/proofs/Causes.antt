-- Why plugging is refused.
use Rattle.std.proofs.Common.{◌≡◌, ◌≢◌, ◌⊎◌, ℕ, zero, suc, ◌+◌, List, [], ◌∷◌, ◌++◌, map, take, Some, IsSome, slice_get, refl, sym, ap, subst, ◌∙◌, inl, inr}
use Rattle.std.proofs.lemmas.List.{append-nil, append_assoc}
use Rattle.wac_types_base.specs.declared.item.ItemKind.{ItemKind}
use Rattle.wac_types_base.specs.Collection.{IsAcyclic}
use Rattle.wac_types_base.specs.Entries.{Name, names_of, AreDistinct}
use Rattle.wac_types_base.specs.Graph.{Among}
use Rattle.wac_types_base.specs.Stated.{Stated, stated_of, imports_of, exports_of}
use Rattle.wac_types_base.proofs.Looked.{take-one_more, among-get}
use Rattle.wac_types_names.specs.Packaged.{Packaged}
use Rattle.wac_graph_core.specs.declared.ids.PackageId.{PackageId}
use Rattle.wac_graph_core.specs.declared.edge.Edge.{Edge}
use Rattle.wac_graph_core.specs.declared.error.InstantiationArgumentError.{InstantiationArgumentError}
use Rattle.wac_graph_core.specs.Nodes.{Role, plain_node}
use Rattle.wac_graph_core.specs.Edges.{alias_edge, argument_edge}
use Rattle.wac_graph_core.specs.Graph.{Graph, node_at, package_of, package_made, IsGraph}
use Rattle.wac_graph_core.specs.Steps.{Instantiates}
use Rattle.wac_graph_core.proofs.NodeMap.{get-insert_same}
use Rattle.wac_graph_plug.specs.declared.matching.Match.{Match}
use Rattle.wac_graph_plug.specs.declared.error.PlugError.{PlugError}
use Rattle.wac_graph_plug.specs.declared.error.PlugFault.{PlugFault}
use Rattle.wac_graph_plug.specs.Plugging.{AreMatchesOf, no_exports, matched, passed, AreMatches, no_plugs, next_plug, imports_in, IsTwice}
use Rattle.wac_graph_plug.specs.Steps.{Grown, PassesAll, passed_none, passed_next, PlugsOne, PlugsEach, plugged_none, plugged_next}
use Rattle.wac_graph_plug.specs.Stops.{world_of, worlds_of, part_in, StopsPlugging, MatchedTwice, PlugsNone, NoneMatches, IsPassedTwice}
use Rattle.wac_graph_plug.proofs.Growing.{Grown-refl, Grown-same, Grown-trans, Grown-instance, Grown-passes, same_package, same_world, worlds_same, ContainsNode-grown}
use Rattle.wac_graph_plug.proofs.State.{Bound, imports_of_all, State, IsPlug, State-instance, apart_from_new}
use Rattle.wac_graph_plug.proofs.Passing.{all_bound, exports_in, IsPlug-instance, passes_all_state}
use Rattle.wac_graph_plug.proofs.Fitting.{Fitting, fitting}
use Rattle.wac_graph_plug.proofs.Refusing.{is_conflict}
use Rattle.wac_types_base.proofs.Loops.{mapped_next}

-- ---- graphs grow

pub Grown-all : {s p : ℕ} {ms : List Match} {g h : Graph} → PassesAll s p ms g h → Grown g h
Grown-all passed_none = Grown-refl _
Grown-all {s} {p} (passed_next {m = m} {f = f} {g = g} {h = h} rest one) = Grown-trans f g h (Grown-all rest) (Grown-passes s p m g h one)

pub Grown-one : (s : ℕ) (id : PackageId) (ms : List Match) (g h : Graph) → PlugsOne s id ms g h → Grown g h
Grown-one s id ms g h (inl out) = Grown-same g h out.1
Grown-one s id ms g h (inr r) = Grown-trans g r.middle h (Grown-instance g r.middle id r.plug r.made) (Grown-all r.passed)

pub Grown-each : {s : ℕ} {ids : List PackageId} {mss : List (List Match)} {g h : Graph} → PlugsEach s ids mss g h → Grown g h
Grown-each plugged_none = Grown-refl _
Grown-each {s} (plugged_next {id = id} {ms = ms} {f = f} {g = g} {h = h} rest one) = Grown-trans f g h (Grown-each rest) (Grown-one s id ms g h one)

-- ---- lists of matches

abbrev imports_of_ms : List Match → List Name
imports_of_ms ms = map (λ (m : Match). m.import) ms

imports_bound : (p : ℕ) (ms : List Match) → imports_of_all (all_bound p ms) ≡ imports_of_ms ms
imports_bound p [] = refl
imports_bound p (m ∷ ms) = ap (λ ns. m.import ∷ ns) (imports_bound p ms)

imports_append : (bs cs : List Bound) → imports_of_all (bs ++ cs) ≡ imports_of_all bs ++ imports_of_all cs
imports_append [] cs = refl
imports_append (b ∷ bs) cs = ap (λ ns. b.import ∷ ns) (imports_append bs cs)

pub imports_end : (mss : List (List Match)) (ms : List Match) → imports_in (mss ++ ms ∷ []) ≡ imports_in mss ++ imports_of_ms ms
imports_end [] ms = append-nil (imports_of_ms ms)
imports_end (x ∷ mss) ms = ap (λ ns. imports_of_ms x ++ ns) (imports_end mss ms) ∙ sym (append_assoc (imports_of_ms x) (imports_in mss) (imports_of_ms ms))

-- an export that is matched is one
matched_export : {is es : List (Name × Stated)} {ms : List Match} (n : Name) → AreMatchesOf is es ms → Among n (exports_in ms) → Among n (names_of es)
matched_export n no_exports at = at
matched_export n (matched e i given x rest) (inl same) = inl same
matched_export n (matched e i given x rest) (inr at) = inr (matched_export n rest at)
matched_export n (passed e given none rest) at = inr (matched_export n rest at)

-- no export is matched twice
pub distinct_exports : {is es : List (Name × Stated)} {ms : List Match} → AreMatchesOf is es ms → AreDistinct (names_of es) → AreDistinct (exports_in ms)
distinct_exports no_exports d = tt
distinct_exports (matched e i given x rest) d = (λ at. d.0 (matched_export e rest at), distinct_exports rest d.1)
distinct_exports (passed e given none rest) d = distinct_exports rest d.1

-- one plug more
pub matches_more : {socket : Stated} {plugs : List Stated} {mss : List (List Match)} (plug : Stated) (ms : List Match) → AreMatches socket plugs mss → AreMatchesOf (imports_of socket) (exports_of plug) ms
    → AreMatches socket (plugs ++ plug ∷ []) (mss ++ ms ∷ [])
matches_more plug ms no_plugs are = next_plug are no_plugs
matches_more plug ms (next_plug first rest) are = next_plug first (matches_more plug ms rest are)

prefix_export : (ms : List Match) (i : ℕ) (m : Match) → slice_get ms i ≡ Some m → AreDistinct (exports_in ms) → (Among m.export (exports_in (take i ms)) → ⊥) × AreDistinct (exports_in (take i ms))
prefix_export [] i m at d = absurd (cc (at))
prefix_export (x ∷ ms) zero m at d = (λ h. h, tt)
prefix_export (x ∷ ms) (suc i) m at d =
    let r = prefix_export ms i m at d.1 in (
      λ h. elim h [ inl same ↦ d.0 (subst (λ n. Among n (exports_in ms)) same (here ms i m at)) | inr rest ↦ r.0 rest ],
      (λ h. d.0 (within ms i x h), r.1),
    )
  where
    here : (ms : List Match) (i : ℕ) (m : Match) → slice_get ms i ≡ Some m → Among m.export (exports_in ms)
    here [] i m at = absurd (cc (at))
    here (x ∷ ms) zero m at = let same : x ≡ m = cc in inl (ap (λ (y : Match). y.export) (sym same))
    here (x ∷ ms) (suc i) m at = inr (here ms i m at)

    within : (ms : List Match) (i : ℕ) (x : Match) → Among x.export (exports_in (take i ms)) → Among x.export (exports_in ms)
    within [] zero x h = h
    within [] (suc i) x h = h
    within (y ∷ ms) zero x h = absurd h
    within (y ∷ ms) (suc i) x h = elim h [ inl same ↦ inl same | inr rest ↦ inr (within ms i x rest) ]

twice_here : (ms : List Match) (i : ℕ) (m : Match) → slice_get ms i ≡ Some m → Among m.import (imports_of_ms (take i ms)) → IsTwice m.import (imports_of_ms ms)
twice_here [] i m at h = absurd (cc (at))
twice_here (x ∷ ms) zero m at h = absurd h
twice_here (x ∷ ms) (suc i) m at h = elim h [ inl same ↦ inl (same, there ms i m at) | inr rest ↦ inr (twice_here ms i m at rest) ]
  where
    there : (ms : List Match) (i : ℕ) (m : Match) → slice_get ms i ≡ Some m → Among m.import (imports_of_ms ms)
    there [] i m at = absurd (cc (at))
    there (x ∷ ms) zero m at = let same : x ≡ m = cc in inl (ap (λ (y : Match). y.import) (sym same))
    there (x ∷ ms) (suc i) m at = inr (there ms i m at)

import_at : (ms : List Match) (i : ℕ) (m : Match) → slice_get ms i ≡ Some m → Among m.import (imports_of_ms ms)
import_at [] i m at = absurd (cc (at))
import_at (x ∷ ms) zero m at = let same : x ≡ m = cc in inl (ap (λ (y : Match). y.import) (sym same))
import_at (x ∷ ms) (suc i) m at = inr (import_at ms i m at)

behind : (n : Name) (xs ys : List Name) → Among n ys → Among n (xs ++ ys)
behind n [] ys at = at
behind n (x ∷ xs) ys at = inr (behind n xs ys at)

twice_behind : (n : Name) (xs ys : List Name) → IsTwice n ys → IsTwice n (xs ++ ys)
twice_behind n [] ys t = t
twice_behind n (x ∷ xs) ys t = inr (twice_behind n xs ys t)

pub twice_before : (n : Name) (xs ys : List Name) → Among n xs → Among n ys → IsTwice n (xs ++ ys)
twice_before n [] ys at bt = absurd at
twice_before n (x ∷ xs) ys (inl same) bt = inl (same, behind n xs ys bt)
twice_before n (x ∷ xs) ys (inr at) bt = inr (twice_before n xs ys at bt)

in_either : (n : Name) (xs ys : List Name) → Among n (xs ++ ys) → Among n xs ⊎ Among n ys
in_either n [] ys at = inr at
in_either n (x ∷ xs) ys (inl same) = inl (inl same)
in_either n (x ∷ xs) ys (inr at) = elim (in_either n xs ys at) [ inl h ↦ inl (inr h) | inr h ↦ inr h ]

-- ---- the state after plugs

module _ (old first : Graph) (socket : PackageId) (s : ℕ) (sound : IsGraph old) (made : Instantiates old first socket s) where
  -- the socket was made just now
  pub first_state : State first s made.of []
  first_state =
      let edges : first.edges ≡ old.edges = ap (λ (x : Graph). x.edges) made.made in
      let grown = Grown-instance old first socket s made in
      let back : (e : Edge) → Among e first.edges → Among e old.edges = λ e m. subst (Among e) edges m in
      let new_node = plain_node Role.Instance (Some socket) (ItemKind.Instance made.of.instance_type) in
      let at : node_at first s ≡ Some new_node = ap (λ (x : Graph). node_at x s) made.made ∙ get-insert_same old.nodes s new_node in
      record {
        ends = λ e m.
            let r = sound.wired.edges e (back e m) in
            (ContainsNode-grown old first grown e.from r.from, ContainsNode-grown old first grown e.to r.to);
        socket = ap (package_made first) at ∙ ap (λ (x : Graph). package_of x socket) made.made ∙ made.is;
        there = subst IsSome (sym at) refl;
        quiet = λ n k m. absurd (cc (made.free, (sound.wired.edges (alias_edge s k n) (back (alias_edge s k n) m)).from));
        loose = λ i n m. absurd (cc (made.free, (sound.wired.edges (argument_edge s i n) (back (argument_edge s i n) m)).from));
        own = λ i n m. absurd (cc (made.free, (sound.wired.edges (alias_edge i s n) (back (alias_edge i s n) m)).to));
        bound = λ n a m. absurd (cc (made.free, (sound.wired.edges (argument_edge a s n) (back (argument_edge a s n) m)).to));
        complete = λ b m. absurd m;
        distinct = tt;
      }

pub one_state : (s : ℕ) (sp : Packaged) (id : PackageId) (ms : List Match) (g h : Graph) (done : List Bound) → State g s sp done → PlugsOne s id ms g h → AreDistinct (exports_in ms) → (extra : List Bound) × State h s sp (done ++ extra) × (imports_of_all extra ≡ imports_of_ms ms)
one_state s sp id ms g h done st (inl out) d =
    ([], subst (State h s sp) (sym (append-nil done)) (subst (λ x. State x s sp done) (sym out.1) st), ap imports_of_ms (sym out.0))
one_state s sp id ms g h done st (inr r) d =
    let st2 = State-instance g r.middle s sp done st id r.plug r.made in
    let is = IsPlug-instance g r.middle s sp done id r.plug st r.made in
    let after = passes_all_state s r.plug sp r.made.of (apart_from_new g r.middle s sp done st r.plug r.made.free) done r.passed st2 is d in
    (all_bound r.plug ms, after.0, imports_bound r.plug ms)

pub each_state : {s : ℕ} {ids : List PackageId} {mss : List (List Match)} {g h : Graph} (sp : Packaged) → PlugsEach s ids mss g h → State g s sp [] → ((ms : List Match) → Among ms mss → AreDistinct (exports_in ms)) → (done : List Bound) × State h s sp done × (imports_of_all done ≡ imports_in mss)
each_state sp plugged_none st d = ([], st, refl)
each_state {s} sp (plugged_next {id = id} {mss = mss} {ms = ms} {g = g} {h = h} rest one) st d =
    let r = each_state sp rest st (λ x at. d x (in_front mss x ms at)) in
    let q = one_state s sp id ms g h r.0 r.1 one (d ms (at_end mss ms)) in
    (r.0 ++ q.0, q.1, imports_append r.0 q.0 ∙ ap (λ ns. ns ++ imports_of_all q.0) r.2 ∙ ap (λ ns. imports_in mss ++ ns) q.2 ∙ sym (imports_end mss ms))
  where
    in_front : (mss : List (List Match)) (x ms : List Match) → Among x mss → Among x (mss ++ ms ∷ [])
    in_front [] x ms at = absurd at
    in_front (y ∷ mss) x ms (inl e) = inl e
    in_front (y ∷ mss) x ms (inr at) = inr (in_front mss x ms at)

    at_end : (mss : List (List Match)) (ms : List Match) → Among ms (mss ++ ms ∷ [])
    at_end [] ms = inl refl
    at_end (y ∷ mss) ms = inr (at_end mss ms)

-- each plug's matches are of exports with names of their own
pub all_distinct : {socket : Stated} (g : Graph) (ids : List PackageId) (mss : List (List Match)) → ((id : PackageId) → Among id ids → AreDistinct (names_of (exports_of (world_of g id)))) → AreMatches socket (worlds_of g ids) mss
    → (ms : List Match) → Among ms mss → AreDistinct (exports_in ms)
all_distinct g [] [] d no_plugs ms at = absurd at
all_distinct g [] (x ∷ mss) d e ms at = elim e [ ]
all_distinct g (id ∷ ids) [] d e ms at = elim e [ ]
all_distinct g (id ∷ ids) (x ∷ mss) d (next_plug are rest) ms (inl same) = subst (λ l. AreDistinct (exports_in l)) (sym same) (distinct_exports are (d id (inl refl)))
all_distinct g (id ∷ ids) (x ∷ mss) d (next_plug are rest) ms (inr at) = all_distinct g ids mss (λ j m. d j (inr m)) rest ms at

-- ---- a match that is not passed

module _ (old new : Graph) (socket : PackageId) (ids : List PackageId) (f : InstantiationArgumentError) (sound : IsGraph old) (acyclic : IsAcyclic old.types) (r : StopsPlugging old new socket ids (PlugError.GraphError (PlugFault.Argument f))) where
  abbrev s : ℕ
  s = r.instance

  abbrev sp : Packaged
  sp = r.made.of

  abbrev pp : Packaged
  pp = r.stops.stops.stops.made.of

  abbrev p : ℕ
  p = r.stops.stops.stops.plug

  abbrev mid : Graph
  mid = r.stops.middle

  abbrev in_plug : Graph
  in_plug = r.stops.stops.stops.middle

  abbrev at_match : Graph
  at_match = r.stops.stops.stops.stops.middle

  abbrev ms : List Match
  ms = r.stops.stops.matches

  abbrev place : ℕ
  place = r.stops.stops.stops.stops.place

  abbrev m : Match
  m = r.stops.stops.stops.stops.at

  abbrev before : List (List Match)
  before = r.stops.before.matches

  start : State r.first s sp []
  start = first_state old r.first socket s sound r.made

  plugged : (done : List Bound) × State mid s sp done × (imports_of_all done ≡ imports_in before)
  plugged = each_state sp r.stops.before.plugged start (all_distinct r.first (take r.stops.place ids) before r.stops.before.distinct r.stops.before.are)

  apart : p ≢ s
  apart = apart_from_new mid in_plug s sp plugged.0 plugged.1 p r.stops.stops.stops.made.free

  pre : (Among m.export (exports_in (take place ms)) → ⊥) × AreDistinct (exports_in (take place ms))
  pre = prefix_export ms place m r.stops.stops.stops.stops.there (distinct_exports r.stops.stops.are r.stops.stops.distinct)

  state : State at_match s sp (plugged.0 ++ all_bound p (take place ms)) × IsPlug at_match p pp (exports_in (take place ms))
  state =
      passes_all_state s p sp pp apart plugged.0 r.stops.stops.stops.stops.before (State-instance mid in_plug s sp plugged.0 plugged.1 r.stops.id p r.stops.stops.stops.made)
      (IsPlug-instance mid in_plug s sp plugged.0 r.stops.id p plugged.1 r.stops.stops.stops.made) pre.1

  grown_first : Grown old r.first
  grown_first = Grown-instance old r.first socket s r.made

  grown_mid : Grown old mid
  grown_mid = Grown-trans old r.first mid grown_first (Grown-each r.stops.before.plugged)

  grown_match : Grown old at_match
  grown_match = Grown-trans old in_plug at_match (Grown-trans old mid in_plug grown_mid (Grown-instance mid in_plug r.stops.id p r.stops.stops.stops.made)) (Grown-all r.stops.stops.stops.stops.before)

  plug_is : package_of old r.stops.id ≡ Some pp
  plug_is = sym (same_package old mid grown_mid r.stops.id) ∙ r.stops.stops.stops.made.is

  socket_world : world_of mid socket ≡ stated_of old.types (ItemKind.Component sp.ty)
  socket_world = same_world old mid grown_mid socket ∙ ap (λ o. (part_in old.types o).world) r.made.is

  plug_world : world_of mid r.stops.id ≡ stated_of old.types (ItemKind.Component pp.ty)
  plug_world = same_world old mid grown_mid r.stops.id ∙ ap (λ o. (part_in old.types o).world) plug_is

  fits : Fitting at_match.types pp sp m
  fits =
      subst (λ c. Fitting c pp sp m) (sym grown_match.types)
      (fitting old.types acyclic pp sp (sound.packages.stand r.stops.id pp plug_is) (sound.packages.stand socket sp r.made.is)
      (subst (λ w. AreDistinct (names_of (exports_of w))) plug_world r.stops.stops.distinct) ms
      (subst (λ w. AreMatchesOf (imports_of w) (exports_of (stated_of old.types (ItemKind.Component pp.ty))) ms) socket_world
      (subst (λ w. AreMatchesOf (imports_of (world_of mid socket)) (exports_of w) ms) plug_world r.stops.stops.are)) m
      (among-get ms place m r.stops.stops.stops.stops.there))

  found : IsPassedTwice f m.import × Among m.import (imports_of_all (plugged.0 ++ all_bound p (take place ms)))
  found =
      let q = r.stops.stops.stops.stops.stops in
      is_conflict s p sp pp apart at_match new (plugged.0 ++ all_bound p (take place ms)) (exports_in (take place ms)) m q.1 state.0 state.1 pre.0 q.2 fits f q.0 q.3

  earlier : Among m.import (imports_in before ++ imports_of_ms (take place ms))
  earlier =
      subst (Among m.import)
      (imports_append plugged.0 (all_bound p (take place ms)) ∙ ap (λ ns. ns ++ imports_of_all (all_bound p (take place ms))) plugged.2 ∙ ap (λ ns. imports_in before ++ ns) (imports_bound p (take place ms)))
      found.1

  conflict : IsTwice m.import (imports_in (before ++ ms ∷ []))
  conflict =
      subst (IsTwice m.import) (sym (imports_end before ms)) (elim (in_either m.import (imports_in before) (imports_of_ms (take place ms)) earlier) [
        | inl h ↦ twice_before m.import (imports_in before) (imports_of_ms ms) h (import_at ms place m r.stops.stops.stops.stops.there)
        | inr h ↦ twice_behind m.import (imports_in before) (imports_of_ms ms) (twice_here ms place m r.stops.stops.stops.stops.there h)
      ])

  all_are : AreMatches (world_of old socket) (worlds_of old (take (r.stops.place + 1) ids)) (before ++ ms ∷ [])
  all_are =
      subst (λ xs. AreMatches (world_of old socket) (worlds_of old xs) (before ++ ms ∷ [])) (sym (take-one_more ids r.stops.place r.stops.id r.stops.there))
      (subst (λ ws. AreMatches (world_of old socket) ws (before ++ ms ∷ [])) (sym (mapped_next (world_of old) (take r.stops.place ids) r.stops.id))
      (matches_more (world_of old r.stops.id) ms
      (subst (λ ws. AreMatches (world_of old socket) ws before) (worlds_same old r.first grown_first (take r.stops.place ids))
      (subst (λ w. AreMatches w (worlds_of r.first (take r.stops.place ids)) before) (same_world old r.first grown_first socket) r.stops.before.are))
      (subst (λ w. AreMatchesOf (imports_of w) (exports_of (world_of old r.stops.id)) ms) (same_world old mid grown_mid socket)
      (subst (λ w. AreMatchesOf (imports_of (world_of mid socket)) (exports_of w) ms) (same_world old mid grown_mid r.stops.id) r.stops.stops.are))))

  pub argument_cause : MatchedTwice old socket ids f
  argument_cause = record { import = m.import; twice = found.0; count = r.stops.place + 1; matches = before ++ ms ∷ []; are = all_are; conflict = conflict }

-- ---- no match

pub none_cause : (old new : Graph) (socket : PackageId) (ids : List PackageId) → PlugsNone old new socket ids → NoneMatches old socket ids
none_cause old new socket ids r =
    let grown = Grown-instance old r.first socket r.instance r.made in
    record {
      matches = r.plugged.matches;
      are = subst (λ ws. AreMatches (world_of old socket) ws r.plugged.matches) (worlds_same old r.first grown ids)
          (subst (λ w. AreMatches w (worlds_of r.first ids) r.plugged.matches) (same_world old r.first grown socket) r.plugged.are);
      none = sym r.plugged.has;
    }
