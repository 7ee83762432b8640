-- Trees of sources: what replaces a source gives its tree, where what replaces its outer imports and instances gives theirs.
use Rattle.std.proofs.Common.{◌≡◌, Option, Some, refl, sym, ap, subst, ◌∙◌}
use Rattle.wac_types_base.specs.Entries.{Name}
use Rattle.wac_types_base.specs.Tree.{Tree, instance, Fields, no_fields, field}
use Rattle.wac_types_base.specs.Fits.{HasField, at_first, at_later, Fits, FieldsFit, instance_fits, none_asked, one_asked}
use Rattle.wac_types_fit.proofs.TreeLaws.{Fits-refl, Fits-trans, more_fields, fits_instance}
use Rattle.wac_types_fit.proofs.Looking.{given}
use Rattle.wac_graph_bytes.specs.Wirings.{Source, Absent, Outer, Inst, Projection, Bundle, Definition, project, replace, rename, Uses}
use Rattle.wac_graph_bytes.proofs.Replace.{replace-project, Uses-weaker, uses_any}
use Rattle.wac_nesting.specs.Given.{World, HasNone, HasTree, Gives, Provides}

-- ---- maps of trees

-- an instance that fits another is one of exports that fit

-- ---- projections

module _ {I : Type 0} (outers : Name → Option Tree) (IsOf : I → World → Type 0) where
  pub project_tree : (s : Source I) (xs : Fields) (n : Name) (t : Tree) → HasTree outers IsOf s (instance xs) → HasField n t xs → HasTree outers IsOf (project s n) t
  project_tree Absent xs n t h f = absurd h
  project_tree (Outer m) xs n t h f = (xs, h, f)
  project_tree (Inst k) xs n t h f = (xs, h, f)
  project_tree (Projection s m) xs n t h f = (xs, h, f)
  project_tree (Bundle g) xs n t h f = h.2 n t (subst (HasField n t) (exports_same h.1) f)
    where
      exports_same : {ys : Fields} → instance xs ≡ instance ys → xs ≡ ys
      exports_same e = cc
  project_tree (Definition d) xs n t h f = (xs, h, f)

  -- ---- giving

  pub gives_more : (s : Source I) (t u : Tree) → Gives outers IsOf s t → Fits t u → Gives outers IsOf s u
  gives_more s t u g f = record { given = g.given; has = g.has; fits = Fits-trans g.given t u g.fits f }

  pub gives_exactly : (s : Source I) (t : Tree) → HasTree outers IsOf s t → Gives outers IsOf s t
  gives_exactly s t h = record { given = t; has = h; fits = Fits-refl t }

  pub gives_export : (s : Source I) (xs : Fields) (n : Name) (t : Tree) → Gives outers IsOf s (instance xs) → HasField n t xs → Gives outers IsOf (project s n) t
  gives_export s xs n t g f =
      let i = fits_instance g.given xs g.fits in
      let e = given i.0 xs n t i.2 f in
      record {
        given = e.0;
        has = project_tree s i.0 n e.0 (subst (HasTree outers IsOf s) i.1 g.has) e.1;
        fits = e.2;
      }

  -- exports of a bundle
  record Gathered (f : Name → Source I) (xs : Fields) : Type 0 where
    ys : Fields
    fit : FieldsFit ys xs
    each : (n : Name) (u : Tree) → HasField n u ys → HasTree outers IsOf (f n) u
    none : (n : Name) → HasNone n ys → HasNone n xs

  gathered_first : (f : Name → Source I) (m : Name) (u v : Tree) (ys : Fields) → HasTree outers IsOf (f m) v → ((n : Name) (t : Tree) → HasField n t ys → HasTree outers IsOf (f n) t) → (n : Name) (t : Tree) → HasField n t (field m v ys) → HasTree outers IsOf (f n) t
  gathered_first f m u v ys h each n t at_first = h
  gathered_first f m u v ys h each n t (at_later k) = each n t k

  none_first : (m : Name) (u v : Tree) (xs ys : Fields) → ((n : Name) → HasNone n ys → HasNone n xs) → (n : Name) → HasNone n (field m v ys) → HasNone n (field m u xs)
  none_first m u v xs ys none n h t at_first = h v at_first
  none_first m u v xs ys none n h t (at_later k) = none n (λ w q. h w (at_later q)) t k

  nothing_there : (f : Name → Source I) (n : Name) (u : Tree) → HasField n u no_fields → HasTree outers IsOf (f n) u
  nothing_there f n u k = elim k [ ]

  gather : (f : Name → Source I) (xs : Fields) → ((n : Name) (u : Tree) → HasField n u xs → Gives outers IsOf (f n) u) → Gathered f xs
  gather f no_fields each = record { ys = no_fields; fit = none_asked; each = nothing_there f; none = λ n h. h }
  gather f (field m u xs) each =
      let rest = gather f xs (λ n t k. each n t (at_later k)) in
      let one = each m u at_first in
      record {
        ys = field m one.given rest.ys;
        fit = one_asked at_first one.fits (more_fields rest.fit);
        each = gathered_first f m u one.given rest.ys one.has rest.each;
        none = none_first m u one.given xs rest.ys rest.none;
      }

  -- sources that provide what is asked are a bundle of it
  pub gives_bundle : (f : Name → Source I) (xs : Fields) → Provides outers IsOf f xs → Gives outers IsOf (Bundle f) (instance xs)
  gives_bundle f xs p =
      let g = gather f xs p.each in
      record {
        given = instance g.ys;
        has = (g.ys, refl, g.each, λ n h. p.only n (g.none n h));
        fits = instance_fits g.fit;
      }

-- ---- replacing

module _ {I J : Type 0} (outers : Name → Option Tree) (IsOf : I → World → Type 0) (outers' : Name → Option Tree) (IsOf' : J → World → Type 0) (a : Name → Source J) (b : I → Source J) where
  -- what stands for an instance gives what it has
  abbrev pub GivesAt : I → Type 0
  GivesAt k = (w : World) → IsOf k w → Gives outers' IsOf' (b k) (instance w.exports)

  module _ (h : (n : Name) (t : Tree) → outers n ≡ Some t → Gives outers' IsOf' (a n) t) where
    pub replaced : (s : Source I) (t : Tree) → Uses GivesAt s → HasTree outers IsOf s t → Gives outers' IsOf' (replace a b s) t
    replaced Absent t u e = absurd e
    replaced (Outer n) t u e = h n t e
    replaced (Inst k) t u e = subst (Gives outers' IsOf' (b k)) (sym e.2) (u e.0 e.1)
    replaced (Projection s n) t u e = gives_export outers' IsOf' (replace a b s) e.0 n t (replaced s (instance e.0) u e.1) e.2
    replaced (Bundle f) t u e =
        subst (Gives outers' IsOf' (Bundle (λ n. replace a b (f n)))) (sym e.1) (gives_bundle outers' IsOf' (λ n. replace a b (f n)) e.0 (record {
          each = λ n v k. replaced (f n) v (u n) (e.2 n v k);
          only = λ n k. ap (replace a b) (e.3 n k);
        }))
    replaced (Definition d) t u e = gives_exactly outers' IsOf' (Definition d) t e

-- ---- renaming

module _ {I J : Type 0} (outers : Name → Option Tree) (IsOf : I → World → Type 0) (outers' : Name → Option Tree) (IsOf' : J → World → Type 0) (f : I → J) (same : (n : Name) → outers n ≡ outers' n) (h : (k : I) (w : World) → IsOf k w → IsOf' (f k) w) where
  pub renamed_tree : (s : Source I) (t : Tree) → HasTree outers IsOf s t → HasTree outers' IsOf' (rename f s) t
  renamed_tree Absent t e = absurd e
  renamed_tree (Outer n) t e = sym (same n) ∙ e
  renamed_tree (Inst k) t e = (e.0, h k e.0 e.1, e.2)
  renamed_tree (Projection s n) t e = project_tree outers' IsOf' (rename f s) e.0 n t (renamed_tree s (instance e.0) e.1) e.2
  renamed_tree (Bundle g) t e = (e.0, e.1, λ n u k. renamed_tree (g n) u (e.2 n u k), λ n k. ap (rename f) (e.3 n k))
  renamed_tree (Definition d) t e = e

  pub renamed_gives : (s : Source I) (t : Tree) → Gives outers IsOf s t → Gives outers' IsOf' (rename f s) t
  renamed_gives s t g = record { given = g.given; has = renamed_tree s g.given g.has; fits = g.fits }

  pub renamed_provides : (sources : Name → Source I) (asked : Fields) → Provides outers IsOf sources asked → Provides outers' IsOf' (λ n. rename f (sources n)) asked
  renamed_provides sources asked p = record {
    each = λ n t k. renamed_gives (sources n) t (p.each n t k);
    only = λ n k. ap (rename f) (p.only n k);
  }
