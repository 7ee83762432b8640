-- Places of packages that are filled and given up.
use Rattle.std.proofs.Common.{◌≡◌, ◌≢◌, ◌⊎◌, ℕ, zero, suc, ◌<◌, Bool, true, false, ◌==◌, List, [], ◌∷◌, ◌++◌, Option, Some, None, IsSome, is_some, cond, length, slice_get, slice_set, refl, sym, ap, subst, ◌∙◌, inl, inr, arith}
use Rattle.std.proofs.lemmas.Bool.{cases_eq}
use Rattle.wac_types_base.specs.Record.{Collection}
use Rattle.wac_types_names.specs.Packaged.{Packaged}
use Rattle.wac_types_names.specs.Keys.{package_key}
use Rattle.wac_graph_core.specs.declared.ids.PackageId.{PackageId}
use Rattle.wac_graph_core.specs.declared.package.Place.{Place}
use Rattle.wac_graph_core.specs.Nodes.{NodeData}
use Rattle.wac_graph_core.specs.Graph.{Graph, node_at, held_at, package_in, package_of, ContainsPackage, PackageStands, ArePlaces, IsGraph}
use Rattle.wac_graph_core.specs.Packages.{NoKey, IsNewPlace, IsFreePlace, held_place, left_place, PlacesGrow, IsStale}
use Rattle.wac_graph_core.proofs.Found.{eq_same, eq_false}
use Rattle.wac_graph_core.proofs.NodeSteps.{IsAbove-same}
use Rattle.wac_graph_core.proofs.GraphSteps.{KeepsUsed, same_stated, AreWired-by, NodeStands-kept}
use Rattle.wac_types_base.proofs.Replacing.{same_number}

-- ---- lists

pub get_before : {X : Type 0} (xs : List X) (x : X) (i : ℕ) (y : X) → slice_get xs i ≡ Some y → slice_get (xs ++ x ∷ []) i ≡ Some y
get_before [] x i y at = absurd (cc (at))
get_before (z ∷ xs) x zero y at = at
get_before (z ∷ xs) x (suc i) y at = get_before xs x i y at

pub get_last : {X : Type 0} (xs : List X) (x : X) (i : ℕ) (y : X) → slice_get (xs ++ x ∷ []) i ≡ Some y → (slice_get xs i ≡ Some y) ⊎ ((i ≡ length xs) × (x ≡ y))
get_last [] x zero y at = let same : x ≡ y = cc in inr (refl, same)
get_last [] x (suc i) y at = absurd (cc (at))
get_last (z ∷ xs) x zero y at = inl at
get_last (z ∷ xs) x (suc i) y at = elim (get_last xs x i y at) [ inl old ↦ inl old | inr r ↦ inr (ap suc r.0, r.1) ]

pub get_set_same : {X : Type 0} (xs : List X) (i : ℕ) (x y : X) → slice_get xs i ≡ Some y → slice_get (slice_set xs i x) i ≡ Some x
get_set_same [] i x y at = absurd (cc (at))
get_set_same (z ∷ xs) zero x y at = refl
get_set_same (z ∷ xs) (suc i) x y at = get_set_same xs i x y at

pub get_set_other : {X : Type 0} (xs : List X) (i j : ℕ) (x : X) → j ≢ i → slice_get (slice_set xs i x) j ≡ slice_get xs j
get_set_other [] i j x ne = refl
get_set_other (z ∷ xs) zero zero x ne = absurd (ne refl)
get_set_other (z ∷ xs) zero (suc j) x ne = refl
get_set_other (z ∷ xs) (suc i) zero x ne = refl
get_set_other (z ∷ xs) (suc i) (suc j) x ne = get_set_other xs i j x (λ e. ne (ap suc e))

pub get_set : {X : Type 0} (xs : List X) (i j : ℕ) (f x y : X) → slice_get xs i ≡ Some f → slice_get (slice_set xs i x) j ≡ Some y → ((j ≢ i) × (slice_get xs j ≡ Some y)) ⊎ ((j ≡ i) × (x ≡ y))
get_set xs i j f x y here at = elim (cases_eq j i) [
  | inl e ↦
      let all : Some x ≡ Some y = sym (get_set_same xs i x f here) ∙ ap (slice_get (slice_set xs i x)) (sym e) ∙ at in
      let same : x ≡ y = cc in
      inr (e, same)
  | inr ne ↦ inl (ne, sym (get_set_other xs i j x ne) ∙ at)
]

-- ---- what places hold

pub record Held (ps : List Place) (id : PackageId) (p : Packaged) : Type 0 where
  pub place : Place
  pub there : slice_get ps id.place ≡ Some place
  pub now : place.generation ≡ id.generation
  pub held : place.held ≡ Some p

pub held_in : (ps : List Place) (id : PackageId) (p : Packaged) → package_in ps id ≡ Some p → Held ps id p
held_in ps id p at = by_place (slice_get ps id.place) refl at
  where
    by_generation : (q : Place) (b : Bool) → slice_get ps id.place ≡ Some q → (q.generation == id.generation) ≡ b → cond b q.held None ≡ Some p → Held ps id p
    by_generation q true there now held = record { place = q; there = there; now = same_number q.generation id.generation now; held = held }
    by_generation q false there now held = absurd (cc (held))

    by_place : (o : Option Place) → slice_get ps id.place ≡ o → held_at o id.generation ≡ Some p → Held ps id p
    by_place None there held = absurd (cc (held))
    by_place (Some q) there held = by_generation q (q.generation == id.generation) there refl held

pub in_held : (ps : List Place) (id : PackageId) (p : Packaged) → Held ps id p → package_in ps id ≡ Some p
in_held ps id p h =
    ap (λ o. held_at o id.generation) h.there ∙ ap (λ b. cond b h.place.held None) (ap (λ n. n == id.generation) h.now ∙ eq_same id.generation) ∙ h.held

abbrev id_at : ℕ → ℕ → PackageId
id_at n m = record { place = n; generation = m }

pub same_id : (i j : PackageId) → i.place ≡ j.place → i.generation ≡ j.generation → i ≡ j
same_id i j p q = ap (λ n. id_at n i.generation) p ∙ ap (id_at j.place) q

-- ---- a package is put

-- a place that holds no package but this one
module _ (c : Collection) (ps qs : List Place) (p : Packaged) (new : PackageId)
    (old_or_new : (id : PackageId) (q : Packaged) → package_in qs id ≡ Some q → (package_in ps id ≡ Some q) ⊎ ((id ≡ new) × (p ≡ q)))
    (none : (id : PackageId) (q : Packaged) → package_in ps id ≡ Some q → package_key q ≡ package_key p → ⊥) where
  put_stands : PackageStands c p → ArePlaces c ps → (id : PackageId) (q : Packaged) → package_in qs id ≡ Some q → PackageStands c q
  put_stands stands is id q at = elim (old_or_new id q at) [ inl old ↦ is.stand id q old | inr r ↦ subst (PackageStands c) r.1 stands ]

  put_once : ArePlaces c ps → (i j : PackageId) (q r : Packaged) → package_in qs i ≡ Some q → package_in qs j ≡ Some r → package_key q ≡ package_key r → i ≡ j
  put_once is i j q r at bt same = by_cases (old_or_new i q at) (old_or_new j r bt)
    where
      by_cases : (package_in ps i ≡ Some q) ⊎ ((i ≡ new) × (p ≡ q)) → (package_in ps j ≡ Some r) ⊎ ((j ≡ new) × (p ≡ r)) → i ≡ j
      by_cases (inl a) (inl b) = is.once i j q r a b same
      by_cases (inl a) (inr b) = absurd (none i q a (same ∙ ap package_key (sym b.1)))
      by_cases (inr a) (inl b) = absurd (none j r b (sym same ∙ ap package_key (sym a.1)))
      by_cases (inr a) (inr b) = a.0 ∙ sym b.0

  pub ArePlaces-put : ((i : ℕ) (q : Place) → slice_get qs i ≡ Some q → IsSome q.held → q.generation < 18446744073709551615) → PackageStands c p → ArePlaces c ps → ArePlaces c qs
  ArePlaces-put low stands is = record { stand = put_stands stands is; low = low; once = put_once is }

abbrev kept_held : List Place → List Place → Type 0
kept_held ps qs = (id : PackageId) → IsSome (package_in ps id) → package_in qs id ≡ package_in ps id

pub some_value : (o : Option Packaged) → IsSome o → (p : Packaged) × (o ≡ Some p)
some_value None h = absurd (cc (h))
some_value (Some p) h = (p, refl)

-- the graph with other places that keep what is held
pub IsGraph-places : (g : Graph) (qs : List Place) → KeepsUsed g.nodes g.places qs → ArePlaces g.types qs → IsGraph g → IsGraph (record g { places = qs })
IsGraph-places g qs keeps places is =
    record {
      nodes = λ k n at. NodeStands-kept g.types g.types g.places qs n n (λ j s. s) (λ id of there. keeps k n id at of there) refl refl refl (is.nodes k n at);
      once = is.once;
      acyclic = is.acyclic;
      keyed = is.keyed;
      wired = AreWired-by g (record g { places = qs }) (IsAbove-same g.nodes) keeps (same_stated g.types) is
          (λ e at. inl at) (λ i j m at. at)
          (λ j x at role. inl (record { node = x; there = at; role = refl; of = refl; item = refl }));
      exported = is.exported;
      packages = places;
    }

-- ---- a new place

module _ (c : Collection) (ps : List Place) (p : Packaged) (id : PackageId) (new : IsNewPlace ps id) where
  last_kept : kept_held ps (ps ++ held_place 0 p ∷ [])
  last_kept j there =
      let v = some_value (package_in ps j) there in
      let h = held_in ps j v.0 v.1 in
      in_held (ps ++ held_place 0 p ∷ []) j v.0 (record { place = h.place; there = get_before ps (held_place 0 p) j.place h.place h.there; now = h.now; held = h.held }) ∙ sym v.1

  last_cases : (j : PackageId) (q : Packaged) → package_in (ps ++ held_place 0 p ∷ []) j ≡ Some q → (package_in ps j ≡ Some q) ⊎ ((j ≡ id) × (p ≡ q))
  last_cases j q at =
      let h = held_in (ps ++ held_place 0 p ∷ []) j q at in
      elim (get_last ps (held_place 0 p) j.place h.place h.there) [
        | inl old ↦ inl (in_held ps j q (record { place = h.place; there = old; now = h.now; held = h.held }))
        | inr r ↦
            let held : Some p ≡ Some q = ap (λ (x : Place). x.held) r.1 ∙ h.held in
            let same : p ≡ q = cc in
            inr (same_id j id (r.0 ∙ sym new.place) (sym (ap (λ (x : Place). x.generation) r.1 ∙ h.now) ∙ sym new.first), same)
      ]

  last_low : ArePlaces c ps → (i : ℕ) (q : Place) → slice_get (ps ++ held_place 0 p ∷ []) i ≡ Some q → IsSome q.held → q.generation < 18446744073709551615
  last_low is i q at held = elim (get_last ps (held_place 0 p) i q at) [
    | inl old ↦ is.low i q old held
    | inr r ↦
        let zero_is : 0 ≡ q.generation = ap (λ (x : Place). x.generation) r.1 in
        omega (arith, zero_is)
  ]

-- ---- a free place

module _ (c : Collection) (ps : List Place) (p : Packaged) (id : PackageId) (free : IsFreePlace ps id) where
  free_kept : kept_held ps (slice_set ps id.place (held_place id.generation p))
  free_kept j there =
      let v = some_value (package_in ps j) there in
      let h = held_in ps j v.0 v.1 in
      let apart : j.place ≢ id.place = λ e.
      let same : Some h.place ≡ Some free.place = sym h.there ∙ ap (slice_get ps) e ∙ free.there in
      let place : h.place ≡ free.place = cc in
      absurd (cc (h.held, ap (λ (x : Place). x.held) place, free.free.empty)) in
      in_held (slice_set ps id.place (held_place id.generation p)) j v.0
      (record { place = h.place; there = get_set_other ps id.place j.place (held_place id.generation p) apart ∙ h.there; now = h.now; held = h.held }) ∙ sym v.1

  free_cases : (j : PackageId) (q : Packaged) → package_in (slice_set ps id.place (held_place id.generation p)) j ≡ Some q → (package_in ps j ≡ Some q) ⊎ ((j ≡ id) × (p ≡ q))
  free_cases j q at =
      let h = held_in (slice_set ps id.place (held_place id.generation p)) j q at in
      elim (get_set ps id.place j.place free.place (held_place id.generation p) h.place free.there h.there) [
        | inl old ↦ inl (in_held ps j q (record { place = h.place; there = old.1; now = h.now; held = h.held }))
        | inr r ↦
            let held : Some p ≡ Some q = ap (λ (x : Place). x.held) r.1 ∙ h.held in
            let same : p ≡ q = cc in
            inr (same_id j id r.0 (sym (ap (λ (x : Place). x.generation) r.1 ∙ h.now)), same)
      ]

  free_low : ArePlaces c ps → (i : ℕ) (q : Place) → slice_get (slice_set ps id.place (held_place id.generation p)) i ≡ Some q → IsSome q.held → q.generation < 18446744073709551615
  free_low is i q at held = elim (get_set ps id.place i free.place (held_place id.generation p) q free.there at) [
    | inl old ↦ is.low i q old.1 held
    | inr r ↦
        let same : id.generation ≡ q.generation = ap (λ (x : Place). x.generation) r.1 in
        let low : free.place.generation < 18446744073709551615 = free.free.low in
        omega (arith, same, low, free.now)
  ]

pub IsGraph-last : (g : Graph) (p : Packaged) (id : PackageId) → IsNewPlace g.places id → NoKey g (package_key p) → PackageStands g.types p → IsGraph g → IsGraph (record g { places = g.places ++ held_place 0 p ∷ [] })
IsGraph-last g p id new none stands is =
    IsGraph-places g (g.places ++ held_place 0 p ∷ []) (λ k x j at of there. last_kept g.types g.places p id new j there)
    (ArePlaces-put g.types g.places (g.places ++ held_place 0 p ∷ []) p id (last_cases g.types g.places p id new) none (last_low g.types g.places p id new is.packages) stands is.packages) is

pub IsGraph-free : (g : Graph) (p : Packaged) (id : PackageId) → IsFreePlace g.places id → NoKey g (package_key p) → PackageStands g.types p → IsGraph g → IsGraph (record g { places = slice_set g.places id.place (held_place id.generation p) })
IsGraph-free g p id free none stands is =
    IsGraph-places g (slice_set g.places id.place (held_place id.generation p)) (λ k x j at of there. free_kept g.types g.places p id free j there)
    (ArePlaces-put g.types g.places (slice_set g.places id.place (held_place id.generation p)) p id (free_cases g.types g.places p id free) none (free_low g.types g.places p id free is.packages) stands is.packages) is

-- ---- a place is given up

module _ (c : Collection) (ps : List Place) (id : PackageId) (p : Packaged) (h : Held ps id p) where
  left_cases : (j : PackageId) (q : Packaged) → package_in (slice_set ps id.place (left_place id.generation)) j ≡ Some q → package_in ps j ≡ Some q
  left_cases j q at =
      let k = held_in (slice_set ps id.place (left_place id.generation)) j q at in
      elim (get_set ps id.place j.place h.place (left_place id.generation) k.place h.there k.there) [
        | inl old ↦ in_held ps j q (record { place = k.place; there = old.1; now = k.now; held = k.held })
        | inr r ↦ absurd (cc (ap (λ (x : Place). x.held) r.1, k.held))
      ]

  -- another package stands still
  left_kept : (j : PackageId) → j ≢ id → IsSome (package_in ps j) → package_in (slice_set ps id.place (left_place id.generation)) j ≡ package_in ps j
  left_kept j ne there =
      let v = some_value (package_in ps j) there in
      let k = held_in ps j v.0 v.1 in
      let apart : j.place ≢ id.place = λ e.
      let same : Some k.place ≡ Some h.place = sym k.there ∙ ap (slice_get ps) e ∙ h.there in
      let place : k.place ≡ h.place = cc in
      ne (same_id j id e (sym k.now ∙ ap (λ (x : Place). x.generation) place ∙ h.now)) in
      in_held (slice_set ps id.place (left_place id.generation)) j v.0
      (record { place = k.place; there = get_set_other ps id.place j.place (left_place id.generation) apart ∙ k.there; now = k.now; held = k.held }) ∙ sym v.1

  ArePlaces-left : ArePlaces c ps → ArePlaces c (slice_set ps id.place (left_place id.generation))
  ArePlaces-left is =
      record {
        stand = λ j q at. is.stand j q (left_cases j q at);
        low = λ i q at held. elim (get_set ps id.place i h.place (left_place id.generation) q h.there at) [
          | inl old ↦ is.low i q old.1 held
          | inr r ↦ absurd (cc (ap (λ (x : Place). is_some x.held) r.1, held))
        ];
        once = λ i j q r at bt same. is.once i j q r (left_cases i q at) (left_cases j r bt) same;
      }

-- a package of which there is no instance is given up
pub IsGraph-given_up : (g : Graph) (id : PackageId) (p : Packaged) → package_of g id ≡ Some p → ((k : ℕ) (x : NodeData) → node_at g k ≡ Some x → x.of ≡ Some id → ⊥) → IsGraph g → IsGraph (record g { places = slice_set g.places id.place (left_place id.generation) })
IsGraph-given_up g id p at none is =
    let h = held_in g.places id p at in
    IsGraph-places g (slice_set g.places id.place (left_place id.generation))
    (λ k x j here of there. left_kept g.types g.places id p h j (λ e. none k x here (of ∙ ap Some e)) there)
    (ArePlaces-left g.types g.places id p h is.packages) is

-- ---- generations

pub grow_same : (ps : List Place) → PlacesGrow ps ps
grow_same ps i p at = (p, at, omega arith)

pub stale_is_gone : (g : Graph) (id : PackageId) → IsStale g id → ContainsPackage g id → ⊥
stale_is_gone g id stale stands =
    let none : package_of g id ≡ None =
    ap (λ o. held_at o id.generation) stale.there ∙ ap (λ b. cond b stale.place.held None) (eq_false stale.place.generation id.generation (λ e. absurd (omega (arith, e, stale.later)))) in
    absurd (cc (none, stands))

pub stale_for_good : (g h : Graph) (id : PackageId) → PlacesGrow g.places h.places → IsStale g id → IsStale h id
stale_for_good g h id grow stale =
    let q = grow id.place stale.place stale.there in
    record { place = q.0; there = q.1; later = omega (arith, stale.later, q.2) }
