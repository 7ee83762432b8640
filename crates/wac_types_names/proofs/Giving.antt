-- What a map gives for a name, from the places of its names.
use Rattle.std.proofs.Common.{◌≡◌, ℕ, zero, suc, ◌<◌, List, [], ◌∷◌, length, map, sym, ap, ◌∙◌, subst, arith, inl, inr}
use Rattle.std.specs.Prelude.{Option, Some, None, slice_get}
use Rattle.std.specs.List.{AllByRecursion}
use Rattle.std.proofs.lemmas.List.{length-map}
use Rattle.semver.specs.Parse.{Parts}
use Rattle.wac_types_base.specs.Graph.{Among}
use Rattle.wac_types_base.specs.Entries.{Name, IsNew, names_of}
use Rattle.wac_types_base.proofs.Walking.{slice_get-Among, some_place}
use Rattle.wac_types_base.proofs.Loops.{map-get}
use Rattle.wac_types_base.proofs.Lists.{from_place}
use Rattle.wac_types_names.specs.declared.spelling.Spelling.{Spelling}
use Rattle.wac_types_names.specs.Tracks.{lookup_key, IsOnTrack}
use Rattle.wac_types_names.specs.Versions.{version_cmp}
use Rattle.wac_types_names.specs.NameMaps.{by_name, Gives, exactly, on_track, nothing, IsExact, IsLatestOn, the_latest, no_latest}
use Rattle.wac_types_names.specs.Spellings.{entries_with, kept_track, IsRead, IsKept, IsBestPlace}
use Rattle.wac_types_names.proofs.Maps.{name_of, names-entries_with, pair_of}

read_at : (ss : List Spelling) (i : ℕ) (s : Spelling) → AllByRecursion IsRead ss → slice_get ss i ≡ Some s → IsRead s
read_at [] i s h e = absurd (cc e)
read_at (x ∷ ss) zero s h e =
    let is : x ≡ s = cc e in
    subst IsRead is h.0
read_at (x ∷ ss) (suc i) s h e = read_at ss i s h.1 e

among_at : {K V : Type 0} (ss : List Spelling) (es : List (K × V)) (i : ℕ) (s : Spelling) (x : K × V) → slice_get ss i ≡ Some s → slice_get es i ≡ Some x → Among (pair_of s.name x.1) (by_name (entries_with ss es))
among_at [] es i s x e f = absurd (cc e)
among_at (r ∷ ss) [] i s x e f = absurd (cc f)
among_at {V} (r ∷ ss) (y ∷ es) zero s x e f =
    let a : s ≡ r = cc e in
    let b : x ≡ y = cc f in
    inl (ap (λ (t : Spelling). pair_of t.name x.1) a ∙ ap (λ (z : V). pair_of r.name z) (ap (λ z. z.1) b))
among_at (r ∷ ss) (y ∷ es) (suc i) s x e f = inr (among_at ss es i s x e f)

-- the place of a name on a track
track_place : (ss : List Spelling) (n : Name) (track : Name) (p : Parts) → AllByRecursion IsRead ss → Among n (map name_of ss) → IsOnTrack track n p → (i : ℕ) × (i < length (map kept_track ss)) × (slice_get (map kept_track ss) i ≡ Some (Some (track, p)))
track_place ss n track p h a on =
    let place = slice_get-Among (map name_of ss) n a in
    let from = from_place name_of ss place.0 n place.2 in
    let kept : kept_track from.0 ≡ Some (track, p) = read_at ss place.0 from.0 h from.1 ∙ ap lookup_key from.2 ∙ on in
    let at = map-get kept_track ss place.0 from.0 from.1 in
    (place.0, omega (arith, some_place ss place.0 from.0 from.1, length-map ss kept_track), subst (λ (k : Option (Name × Parts)). slice_get (map kept_track ss) place.0 ≡ Some k) kept at)

module _ {K V : Type 0} (ss : List Spelling) (es : List (K × V)) (kept : IsKept ss es) (track : Name) where
  among_names : (n : Name) → Among n (names_of (by_name (entries_with ss es))) → Among n (map name_of ss)
  among_names n a = subst (Among n) (names-entries_with ss es kept.lengths) a

  pub latest_some : (place : ℕ) (k : K) (v : V) → IsBestPlace (map kept_track ss) track (Some place) → slice_get es place ≡ Some (k, v) → IsLatestOn (by_name (entries_with ss es)) track (Some v)
  latest_some place k v best e =
      let from = from_place kept_track ss place (Some (track, best.0)) best.1.0 in
      the_latest from.0.name best.0 (among_at ss es place from.0 (k, v) from.1 e) (sym (read_at ss place from.0 kept.read from.1) ∙ from.2)
      (λ other q a on. let t = track_place ss other track q kept.read (among_names other a) on in best.1.1 t.0 q t.1 t.2)

  pub latest_none : IsBestPlace (map kept_track ss) track None → IsLatestOn (by_name (entries_with ss es)) track None
  latest_none best = no_latest (λ n p a on. let t = track_place ss n track p kept.read (among_names n a) on in best t.0 p t.1 t.2)

  -- a place of the best has an entry
  pub best_within : (place : ℕ) → IsBestPlace (map kept_track ss) track (Some place) → place < length es
  best_within place best = omega (arith, some_place (map kept_track ss) place (Some (track, best.0)) best.1.0, length-map ss kept_track, kept.lengths)

-- ---- a name that is not there

pub one_key : (n track track' : Name) (p p' : Parts) → IsOnTrack track n p → IsOnTrack track' n p' → (track ≡ track') × (p ≡ p')
one_key n track track' p p' a b = (ap key_in (sym a ∙ b), ap version_in (sym a ∙ b))
  where
    key_in : Option (Name × Parts) → Name
    key_in None = track
    key_in (Some x) = x.0

    version_in : Option (Name × Parts) → Parts
    version_in None = p
    version_in (Some x) = x.1

module _ {V : Type 0} (es : List (Name × V)) (asked : Name) (off : IsNew asked es) where
  pub gives-no_track : lookup_key asked ≡ None → Gives es asked None
  gives-no_track e = nothing off (λ n a share. absurd (none_some (sym e ∙ share.3)))
    where
      none_some : {x : Name × Parts} → None ≡ Some x → ⊥
      none_some h = cc h

  pub gives-latest : (track : Name) (p : Parts) (o : Option V) → IsOnTrack track asked p → IsLatestOn es track o → Gives es asked o
  gives-latest track p None on (no_latest h) = nothing off (λ n a share. h n share.2 a (subst (λ t. IsOnTrack t n share.2) (one_key asked share.0 track share.1 p share.3 on).0 share.4))
  gives-latest track p (Some v) on (the_latest found q a there h) =
      on_track found off a (record {
        track = (track, p, q, on, there);
        latest = λ other b share later.
            let t = (one_key asked share.0 track share.1 p share.3 on).0 in
            let other_on = subst (λ t. IsOnTrack t other share.2) t share.4 in
            let first = (one_key other later.0 track later.1 share.2 later.3 other_on).1 in
            let second = (one_key found later.0 track later.2 q later.4 there).1 in
            h other share.2 b other_on (ap (λ x. version_cmp x q) (sym first) ∙ ap (version_cmp later.1) (sym second) ∙ later.5);
      })

pub gives-exact : {V : Type 0} (es : List (Name × V)) (n : Name) (o : Option V) (v : V) → o ≡ Some v → IsExact es n o → Gives es n (Some v)
gives-exact es n None v e h = absurd (cc e)
gives-exact es n (Some w) v e h = exactly (subst (λ w. Among (n, w) es) (cc e) h)

pub exact-new : {V : Type 0} (es : List (Name × V)) (n : Name) (o : Option V) → o ≡ None → IsExact es n o → IsNew n es
exact-new es n None e h = h
exact-new es n (Some w) e h = absurd (cc e)
