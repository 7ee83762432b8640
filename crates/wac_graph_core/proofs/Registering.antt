-- Packages that are registered and unregistered.
use Rattle.std.proofs.Common.{◌≡◌, ℕ, zero, suc, ◌≤◌, List, [], ◌∷◌, ◌++◌, Option, Some, None, slice_get, slice_set, refl, sym, ap, subst, ◌∙◌, inl, inr, arith}
use Rattle.std.specs.Option.{option_map, IfSome, IfNone}
use Rattle.std.specs.Borrow.{Bor}
use Rattle.std.specs.FinMap as map
use Rattle.wac_types_names.specs.Packaged.{Packaged}
use Rattle.wac_types_names.specs.Keys.{Key, package_key}
use Rattle.wac_graph_core.specs.declared.ids.PackageId.{PackageId}
use Rattle.wac_graph_core.specs.declared.edge.Follow.{Follow}
use Rattle.wac_graph_core.specs.declared.package.Place.{Place}
use Rattle.wac_graph_core.specs.Nodes.{NodeData}
use Rattle.wac_graph_core.specs.NodeMaps.{AreInstances}
use Rattle.wac_graph_core.specs.Edges.{has, IsReached, at_start}
use Rattle.wac_graph_core.specs.Graph.{Graph, node_at, package_in, package_of, ContainsPackage, PackageStands, IsGraph}
use Rattle.wac_graph_core.specs.Removing.{TakesNodes}
use Rattle.wac_graph_core.specs.Packages.{HoldsKey, NoKey, IsNewPlace, IsFreePlace, held_place, left_place, PutsPlace, put_last, put_free, Registers, Unregisters, PlacesGrow, IsStale, shown_at}
use Rattle.wac_types_fit.proofs.ValueTrees.{not_both}
use Rattle.wac_graph_core.proofs.NodeSteps.{stayed}
use Rattle.wac_graph_core.proofs.PlaceSteps.{Held, some_value, held_in, in_held, get_before, get_set, get_set_same, IsGraph-last, IsGraph-free, IsGraph-given_up}

-- no place holds the key: no package has it
pub no_key : (g : Graph) (key : Key) → ((i : ℕ) (p : Place) → slice_get g.places i ≡ Some p → HoldsKey p key → ⊥) → NoKey g key
no_key g key none id p at keyed =
    let h = held_in g.places id p at in
    none id.place h.place h.there (record { held = p; is = h.held; keyed = keyed })

-- a place that holds the key has a package of it
pub key_held : (g : Graph) (i : ℕ) (p : Place) (key : Key) → slice_get g.places i ≡ Some p → HoldsKey p key → (id : PackageId) × (q : Packaged) × (package_of g id ≡ Some q) × (package_key q ≡ key)
key_held g i p key at holds =
    let id : PackageId = record { place = i; generation = p.generation } in
    (id, holds.held, in_held g.places id holds.held (record { place = p; there = at; now = refl; held = holds.is }), holds.keyed)

pub grow_last : (ps : List Place) (x : Place) → PlacesGrow ps (ps ++ x ∷ [])
grow_last ps x i p at = (p, get_before ps x i p at, omega arith)

lost : (xs : List Place) (i j : ℕ) (x p : Place) → slice_get xs j ≡ Some p → slice_get (slice_set xs i x) j ≡ None → ⊥
lost [] i j x p at e = absurd (cc (at))
lost (y ∷ xs) zero zero x p at e = absurd (cc (e))
lost (y ∷ xs) zero (suc j) x p at e = absurd (cc (at, e))
lost (y ∷ xs) (suc i) zero x p at e = absurd (cc (e))
lost (y ∷ xs) (suc i) (suc j) x p at e = lost xs i j x p at e

pub grow_set : (ps : List Place) (i : ℕ) (f x : Place) → slice_get ps i ≡ Some f → f.generation ≤ x.generation → PlacesGrow ps (slice_set ps i x)
grow_set ps i f x here more j p at = by_place (slice_get (slice_set ps i x) j) refl
  where
    there : (q : Place) → slice_get (slice_set ps i x) j ≡ Some q → p.generation ≤ q.generation
    there q e = elim (get_set ps i j f x q here e) [
      | inl r ↦
          let all : Some p ≡ Some q = sym at ∙ r.1 in
          let same : p ≡ q = cc in
          let generations : p.generation ≡ q.generation = ap (λ (y : Place). y.generation) same in
          omega (arith, generations)
      | inr r ↦
          let all : Some p ≡ Some f = sym at ∙ ap (slice_get ps) r.0 ∙ here in
          let same : p ≡ f = cc in
          let old : p.generation ≡ f.generation = ap (λ (y : Place). y.generation) same in
          let new : x.generation ≡ q.generation = ap (λ (y : Place). y.generation) r.1 in
          omega (arith, old, new, more)
    ]

    by_place : (o : Option Place) → slice_get (slice_set ps i x) j ≡ o → (q : Place) × (slice_get (slice_set ps i x) j ≡ Some q) × (p.generation ≤ q.generation)
    by_place None e = absurd (lost ps i j x p at e)
    by_place (Some q) e = (q, e, there q e)

module _ (g : Graph) (p : Packaged) where
  pub last_step : (qs : List Place) (id : PackageId) → qs ≡ g.places ++ held_place 0 p ∷ [] → IsNewPlace g.places id → NoKey g (package_key p) → Registers g (record g { places = qs }) p id
  last_step qs id is new none = record { none = none; put = subst (PutsPlace g.places id p) (sym is) (put_last new); made = refl }

  pub free_step : (qs : List Place) (id : PackageId) → qs ≡ slice_set g.places id.place (held_place id.generation p) → IsFreePlace g.places id → NoKey g (package_key p) → Registers g (record g { places = qs }) p id
  free_step qs id is free none = record { none = none; put = subst (PutsPlace g.places id p) (sym is) (put_free free); made = refl }

  pub last_by : (qs : List Place) (id : PackageId) → qs ≡ g.places ++ held_place 0 p ∷ [] → IsNewPlace g.places id → NoKey g (package_key p) → PackageStands g.types p → IsGraph g → IsGraph (record g { places = qs })
  last_by qs id same new none stands is = subst (λ qs. IsGraph (record g { places = qs })) (sym same) (IsGraph-last g p id new none stands is)

  pub free_by : (qs : List Place) (id : PackageId) → qs ≡ slice_set g.places id.place (held_place id.generation p) → IsFreePlace g.places id → NoKey g (package_key p) → PackageStands g.types p → IsGraph g → IsGraph (record g { places = qs })
  free_by qs id same free none stands is = subst (λ qs. IsGraph (record g { places = qs })) (sym same) (IsGraph-free g p id free none stands is)

-- ---- unregistering

module _ (g h : Graph) (id : PackageId) (starts gone : List ℕ) (are : AreInstances g.nodes id starts) (reached : IsReached Follow.Owned g.edges starts gone) (taken : TakesNodes g h gone) where
  pub no_instance : (k : ℕ) (x : NodeData) → node_at h k ≡ Some x → x.of ≡ Some id → ⊥
  no_instance k x at of =
      let s = stayed g.nodes gone k x (sym (ap (λ (g : Graph). map.get g.nodes k) taken.made) ∙ at) in
      not_both (has gone k) s.0 (reached.complete k (at_start ((are k).1 (x, s.1, of))))

  pub same_places_left : h.places ≡ g.places
  same_places_left = ap (λ (g : Graph). g.places) taken.made

  pub package_left : (p : Packaged) → package_of g id ≡ Some p → package_of h id ≡ Some p
  package_left p at = ap (λ ps. package_in ps id) same_places_left ∙ at

  pub given_up_by : (qs : List Place) (p : Packaged) → package_of g id ≡ Some p → qs ≡ slice_set h.places id.place (left_place id.generation) → IsGraph h → IsGraph (record h { places = qs })
  given_up_by qs p at same is = subst (λ qs. IsGraph (record h { places = qs })) (sym same) (IsGraph-given_up h id p (package_left p at) no_instance is)

  pub unregister_step : (qs : List Place) → qs ≡ slice_set h.places id.place (left_place id.generation) → Unregisters g (record h { places = qs }) id
  unregister_step qs same =
      record {
        instances = starts;
        are = are;
        removed = record { gone = gone; reached = reached; taken = record { edges = taken.edges; made = ap (λ (x : Graph). record x { places = g.places }) taken.made } };
        places = same ∙ ap (λ ps. slice_set ps id.place (left_place id.generation)) same_places_left;
      }

pub stale_step : (h : Graph) (id : PackageId) (qs : List Place) (f : Place) → slice_get h.places id.place ≡ Some f → qs ≡ slice_set h.places id.place (left_place id.generation) → IsStale (record h { places = qs }) id
stale_step h id qs f at same =
    record {
      place = left_place id.generation;
      there = ap (λ ps. slice_get ps id.place) same ∙ get_set_same h.places id.place (left_place id.generation) f at;
      later = omega arith;
    }

abbrev first_id : Option (PackageId × Packaged) → PackageId → PackageId
first_id None d = d
first_id (Some p) d = p.0

abbrev second_package : Option (PackageId × Packaged) → Packaged → Packaged
second_package None d = d
second_package (Some p) d = p.1

none_some : (x : PackageId × Packaged) → None ≡ Some x → ⊥
none_some x h = absurd (cc (h))

-- the package that is shown at a place that holds the key
pub shown_if : (g : Graph) (at : ℕ) (p : Place) (key : Key) (o : Option (PackageId × Bor Packaged)) → slice_get g.places at ≡ Some p → HoldsKey p key → option_map (λ x. (x.0, x.1.now)) o ≡ shown_at at (slice_get g.places at)
    → IfSome o (λ x. (package_of g x.0 ≡ Some x.1.now) × (package_key x.1.now ≡ key))
shown_if g at p key None there holds shown = tt
shown_if g at p key (Some x) there holds shown =
    let id : PackageId = record { place = at; generation = p.generation } in
    let all : Some (x.0, x.1.now) ≡ Some (id, holds.held) = shown ∙ ap (shown_at at) there ∙ ap (option_map (λ q. (id, q))) holds.is in
    let same_id : x.0 ≡ id = ap (λ o. first_id o id) all in
    let same : x.1.now ≡ holds.held = ap (λ o. second_package o holds.held) all in
    let found : package_of g id ≡ Some holds.held = in_held g.places id holds.held (record { place = p; there = there; now = refl; held = holds.is }) in
    (ap (package_of g) same_id ∙ found ∙ ap Some (sym same), ap package_key same ∙ holds.keyed)

pub shown_if_none : (g : Graph) (at : ℕ) (p : Place) (key : Key) (o : Option (PackageId × Bor Packaged)) (Q : Type 0) → slice_get g.places at ≡ Some p → HoldsKey p key → option_map (λ x. (x.0, x.1.now)) o ≡ shown_at at (slice_get g.places at) → IfNone o Q
shown_if_none g at p key None Q there holds shown =
    let id : PackageId = record { place = at; generation = p.generation } in
    absurd (none_some (id, holds.held) (shown ∙ ap (shown_at at) there ∙ ap (option_map (λ q. (id, q))) holds.is))
shown_if_none g at p key (Some x) Q there holds shown = tt

-- a package that is in a graph is in the graph that a removal leaves
pub held_left : (g h : Graph) (id : PackageId) (starts gone : List ℕ) → AreInstances g.nodes id starts → IsReached Follow.Owned g.edges starts gone → TakesNodes g h gone → ContainsPackage g id → (p : Packaged) × (package_of g id ≡ Some p) × Held h.places id p
held_left g h id starts gone are reached taken there =
    let v = some_value (package_of g id) there in
    (v.0, v.1, held_in h.places id v.0 (package_left g h id starts gone are reached taken v.0 v.1))
