-- The version that is chosen on a track is the greatest of those that are there.
use Rattle.std.proofs.Common.{◌≡◌, ◌≢◌, Bool, true, false, List, [], ◌∷◌, Option, Some, None, refl, sym, ap, ◌∙◌, subst, inl, inr}
use Rattle.std.specs.Prelude.{◌⊎◌, bytes_eq, if◌then◌else◌}
use Rattle.std.specs.Ordering.{is_gt, ordering_reverse}
use Rattle.std.specs.declared.cmp.Ordering.{Ordering}
use Rattle.std.specs.declared.cmp.Ordering.TheVariants.{Less, Equal, Greater}
use Rattle.std.proofs.lemmas.Slice.Eq.{bytes_eq-Decides}
use Rattle.semver.specs.Identifiers.{parts_text}
use Rattle.semver.specs.Parse.{Parts}
use Rattle.wac_types_base.specs.Entries.{Name}
use Rattle.wac_types_base.specs.Graph.{Among}
use Rattle.wac_types_names.specs.Keys.{Key, key_text}
use Rattle.wac_types_names.specs.Tracks.{IsOnTrack, lookup_key}
use Rattle.wac_types_names.specs.Versions.{version_cmp}
use Rattle.wac_types_names.proofs.Latest.{gt_is, gt_not}
use Rattle.wac_types_names.proofs.TrackLaws.{keyed}
use Rattle.wac_types_names.proofs.VersionOrder.{greater_trans, version_anti, version_total}
use Rattle.wac_parser_resolve.specs.Choosing.{Choices_are_greatest, IsGreatest, IsThere, greatest_from, greatest_on, is_key, later, track_key, version_on}
use Rattle.wac_parser_resolve.proofs.TrackedNames.{tracked}

-- ---- the order

abbrev Below : Parts → Parts → Type 0
Below v w = version_cmp v w ≢ Greater

below_self : (v : Parts) → Below v v
below_self v = turned (version_cmp v v) (version_total.antisymm v v)
  where
    turned : (r : Ordering) → r ≡ ordering_reverse r → r ≢ Greater
    turned Less e g = cc g
    turned Equal e g = cc g
    turned Greater e g = cc e

below_trans : (u v w : Parts) → Below u v → Below v w → Below u w
below_trans u v w h k = by (version_cmp u v) refl (version_cmp v w) refl
  where
    by : (r : Ordering) → version_cmp u v ≡ r → (s : Ordering) → version_cmp v w ≡ s → Below u w
    by Greater e s f = absurd (h e)
    by r e Greater f = absurd (k f)
    by Equal e s f = subst (λ (x : Parts). Below x w) (sym (version_anti u v e)) k
    by r e Equal f = subst (λ (x : Parts). Below u x) (version_anti v w f) h
    by Less e Less f = λ g. cc (sym (version_total.trans u v w e f) ∙ g)

-- ---- a walk from the best so far

abbrev Tops : Option Parts → Parts → Type 0
Tops None v = Unit {0}
Tops (Some b) v = Below b v

step : (best o : Option Parts) (v : Parts) → Tops (later best o) v → Tops best v × Tops o v
step best None v h = (h, tt)
step None (Some w) v h = (tt, h)
step (Some b) (Some w) v h = by (is_gt (version_cmp w b)) refl h
  where
    by : (t : Bool) → is_gt (version_cmp w b) ≡ t → Tops (if t then Some w else Some b) v → Below b v × Below w v
    by true e h = (below_trans b w v (λ g. below_self w (greater_trans w b w (gt_is (version_cmp w b) e) g)) h, h)
    by false e h = (h, below_trans w b v (gt_not (version_cmp w b) e) h)

neither : (best o : Option Parts) → later best o ≡ None → (best ≡ None) × (o ≡ None)
neither best None h = (h, refl)
neither None (Some w) h = absurd (cc h)
neither (Some b) (Some w) h = by (is_gt (version_cmp w b)) h
  where
    by : (t : Bool) → (if t then Some w else Some b) ≡ None → (Some b ≡ None) × (Some w ≡ None)
    by true h = absurd (cc h)
    by false h = absurd (cc h)

module _ (track : Name) where
  pub tops : (best : Option Parts) (ks : List Key) (v : Parts) → greatest_from track best ks ≡ Some v
      → Tops best v × ((k : Key) (w : Parts) → Among k ks → version_on track k ≡ Some w → Below w v)
  tops best [] v e = (subst (λ (o : Option Parts). Tops o v) (sym e) (below_self v), λ k w m. absurd m)
  tops best (k ∷ ks) v e =
      let r = tops (later best (version_on track k)) ks v e in
      let s = step best (version_on track k) v r.0 in
      (s.0, λ j w m q. at j w m q s.1 r.1)
    where
      at : (j : Key) (w : Parts) → Among j (k ∷ ks) → version_on track j ≡ Some w → Tops (version_on track k) v → ((i : Key) (u : Parts) → Among i ks → version_on track i ≡ Some u → Below u v) → Below w v
      at j w (inl same) q top rest = subst (λ (o : Option Parts). Tops o v) (ap (version_on track) (sym same) ∙ q) top
      at j w (inr m) q top rest = rest j w m q

  abbrev IsOne : Option Parts → List Key → Parts → Type 0
  IsOne best ks v = (best ≡ Some v) ⊎ ((k : Key) × Among k ks × (version_on track k ≡ Some v))

  came : (best o : Option Parts) (k : Key) (ks : List Key) (v : Parts) → version_on track k ≡ o → later best o ≡ Some v → IsOne best (k ∷ ks) v
  came best None k ks v e h = inl h
  came None (Some w) k ks v e h = inr (k, inl refl, e ∙ h)
  came (Some b) (Some w) k ks v e h = by (is_gt (version_cmp w b)) h
    where
      by : (t : Bool) → (if t then Some w else Some b) ≡ Some v → IsOne (Some b) (k ∷ ks) v
      by true h = inr (k, inl refl, e ∙ h)
      by false h = inl h

  pub one : (best : Option Parts) (ks : List Key) (v : Parts) → greatest_from track best ks ≡ Some v → IsOne best ks v
  one best [] v e = inl e
  one best (k ∷ ks) v e = by (one (later best (version_on track k)) ks v e)
    where
      by : IsOne (later best (version_on track k)) ks v → IsOne best (k ∷ ks) v
      by (inl h) = came best (version_on track k) k ks v refl h
      by (inr x) = inr (x.0, inr x.1, x.2)

  pub none : (best : Option Parts) (ks : List Key) → greatest_from track best ks ≡ None → (best ≡ None) × ((k : Key) → Among k ks → version_on track k ≡ None)
  none best [] e = (e, λ k m. absurd m)
  none best (k ∷ ks) e =
      let r = none (later best (version_on track k)) ks e in
      let s = neither best (version_on track k) r.0 in
      (s.0, λ j m. at j m s.1 r.1)
    where
      at : (j : Key) → Among j (k ∷ ks) → version_on track k ≡ None → ((i : Key) → Among i ks → version_on track i ≡ None) → version_on track j ≡ None
      at j (inl same) here rest = ap (version_on track) same ∙ here
      at j (inr m) here rest = rest j m

  -- ---- what is on the track

  on_it : (k : Key) (v : Parts) → version_on track k ≡ Some v → (p : Parts) × IsOnTrack track (key_text k) p × (k.1 ≡ Some v)
  on_it k v e = by (lookup_key (key_text k)) refl e
    where
      by : (o : Option (Name × Parts)) → lookup_key (key_text k) ≡ o → (if is_key track o then k.1 else None) ≡ Some v → (p : Parts) × IsOnTrack track (key_text k) p × (k.1 ≡ Some v)
      by None is h = absurd (cc h)
      by (Some q) is h = go (bytes_eq q.0 track) refl h
        where
          go : (t : Bool) → bytes_eq q.0 track ≡ t → (if t then k.1 else None) ≡ Some v → (p : Parts) × IsOnTrack track (key_text k) p × (k.1 ≡ Some v)
          go true same h = (q.1, is ∙ ap (λ (n : Name). keyed n q.1) ((bytes_eq-Decides q.0 track).0 same), h)
          go false same h = absurd (cc h)

  there_on : (k : Key) (v p : Parts) → k.1 ≡ Some v → IsOnTrack track (key_text k) p → version_on track k ≡ Some v
  there_on k v p e on =
      ap (λ (o : Option (Name × Parts)). if is_key track o then k.1 else None) on
      ∙ ap (λ (b : Bool). if b then k.1 else None) ((bytes_eq-Decides track track).1 refl) ∙ e

-- ---- all

module _ (ks : List Key) (n track : Name) where
  there : (k : Key) (v : Parts) → Among k ks → version_on (track_key n track) k ≡ Some v → IsThere ks n track v
  there k v m e =
      let x = on_it (track_key n track) k v e in
      let on = subst (λ (o : Option Parts). IsOnTrack (track_key n track) (key_text (k.0, o)) x.0) x.2 x.1 in
      let named = (tracked k.0 n (parts_text v) track x.0 on).name in
      record {
        among = subst (λ (j : Key). Among j ks) (pair named x.2) m;
        read = x.0;
        on = subst (λ (m : Name). IsOnTrack (track_key n track) (key_text (m, Some v)) x.0) named on;
      }
    where
      pair : {m l : Name} {o r : Option Parts} → m ≡ l → o ≡ r → ◌≡◌ {A = Key} (m, o) (l, r)
      pair a b = λ i. (a i, b i)

  is_on : (v : Parts) → IsThere ks n track v → version_on (track_key n track) (n, Some v) ≡ Some v
  is_on v x = there_on (track_key n track) (n, Some v) v x.read refl x.on

  is_greatest : (o : Option Parts) → greatest_on ks n track ≡ o → IsGreatest ks n track o
  is_greatest None e = λ v x. none_some (sym ((none (track_key n track) None ks e).1 (n, Some v) x.among) ∙ is_on v x)
    where
      none_some : {v : Parts} → None ≡ Some v → ⊥
      none_some h = cc h
  is_greatest (Some v) e = (found (one (track_key n track) None ks v e), λ w x. (tops (track_key n track) None ks v e).1 (n, Some w) w x.among (is_on w x))
    where
      found : IsOne (track_key n track) None ks v → IsThere ks n track v
      found (inl h) = absurd (cc h)
      found (inr x) = there x.0 v x.1 x.2

pub choices_are_greatest : Choices_are_greatest
choices_are_greatest ks n track = is_greatest ks n track (greatest_on ks n track) refl
