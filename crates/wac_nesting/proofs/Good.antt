-- What is ascribed to an output is bound: each import of each handed component is given what fits it, through all levels.
use Rattle.std.specs.Prelude.{slice_get}
use Rattle.std.proofs.lemmas.Option.{none-some, same_Some}
use Rattle.std.proofs.Common.{◌≡◌, ℕ, zero, suc, ◌<◌, List, [], ◌∷◌, Option, Some, None, IsSome, option_map, refl, sym, ap, subst, ◌∙◌, arith}
use Rattle.wac_types_base.specs.Entries.{Name}
use Rattle.wac_types_base.specs.Tree.{Tree, instance, Fields}
use Rattle.wac_types_base.specs.Fits.{HasField}
use Rattle.wac_types_fit.proofs.TreeLaws.{Fits-refl}
use Rattle.wac_graph_bytes.specs.Wirings.{Source, Absent, Outer, Inst, Uses, Tag, OfBytes, Instantiation, Wiring, IsOrdered}
use Rattle.wac_graph_bytes.proofs.Replace.{Uses-weaker, uses_any}
use Rattle.wac_nesting.specs.Substitution.{Path, Part, Nothing, Leaf, Open, part_at, args_of, copied, stands, stands_within, placed, instance_in, substitute}
use Rattle.wac_nesting.specs.Given.{World, HasNone, HasTree, Gives, Provides, AreOuters, States, IsBoundInstance, IsBound, IsTrueWorld}
use Rattle.wac_nesting.specs.Steps.{Package, IsHandedWith, Ascribed, IsOfPackage, IsKnown, ascribed_to, ascribed_down}
use Rattle.wac_nesting.specs.Laws.{IsOfHanded}
use Rattle.wac_nesting.proofs.Standing.{stands_is}
use Rattle.wac_nesting.proofs.Carried.{IsSolid}
use Rattle.wac_nesting.proofs.Given.{gives_more, gives_exactly, gives_bundle, replaced}
use Rattle.wac_nesting.proofs.Parts.{part_there, part_low, part_exports}

-- all is over the packages that stand in the end
module _ (final : List Package) where
  -- a wiring of handed components, all bound, of which the world says at least what it exports
  pub record IsGood (world : World) (V : Wiring Path) : Type 0 where
    pub bound : IsBound (IsOfHanded final V) V
    pub outers : AreOuters V.outers world.imports
    pub exports : Provides V.outers (IsOfHanded final V) V.exports world.exports

  abbrev pub Good : Package → Part → Type 0
  Good p Nothing = ⊥
  Good p (Leaf t) = (t ≡ OfBytes p.bytes) × IsHandedWith final p.bytes p.world
  Good p (Open V) = IsGood p.world V

  abbrev copy : ℕ → (Name → Source Path) → Instantiation Path → Instantiation Path
  copy k a x = record { tag = x.tag; args = λ n. copied k a (x.args n) }

  -- a copy in a wiring D
  module _ (D : Wiring Path) (k : ℕ) (a : Name → Source Path) where
    abbrev GivesIn : Source Path → Tree → Type 0
    GivesIn = Gives D.outers (IsOfHanded final D)

    copy_handed : (V : Wiring Path) → ((p : Path) → D.at (k ∷ p) ≡ instance_in (Open V) k a p) → (p : Path) (w : World) → IsOfHanded final V p w → IsOfHanded final D (k ∷ p) w
    copy_handed V is p w h = record {
      instance = copy k a h.instance;
      there = is p ∙ ap (option_map (copy k a)) h.there;
      bytes = h.bytes;
      tagged = h.tagged;
      handed = h.handed;
    }

    handed_gives : (p : Path) (w : World) → IsOfHanded final D p w → GivesIn (Inst p) (instance w.exports)
    handed_gives p w h = gives_exactly D.outers (IsOfHanded final D) (Inst p) (instance w.exports) (w, h, refl)

    module _ (world : World) (bound : Provides D.outers (IsOfHanded final D) a world.imports) where
      copied_gives : (V : Wiring Path) → AreOuters V.outers world.imports → ((p : Path) → D.at (k ∷ p) ≡ instance_in (Open V) k a p) → (s : Source Path) (t : Tree) → Gives V.outers (IsOfHanded final V) s t → GivesIn (copied k a s) t
      copied_gives V outers is s t g =
          let insts : (p : Path) (w : World) → IsOfHanded final V p w → GivesIn (Inst (k ∷ p)) (instance w.exports) = λ p w h. handed_gives (k ∷ p) w (copy_handed V is p w h) in
          gives_more D.outers (IsOfHanded final D) (copied k a s) g.given t
          (replaced V.outers (IsOfHanded final V) D.outers (IsOfHanded final D) a (λ p. Inst (k ∷ p)) (λ n u e. bound.each n u (outers.only n u e)) s g.given (uses_any insts s) g.has)
          g.fits

      copied_provides : (V : Wiring Path) → AreOuters V.outers world.imports → ((p : Path) → D.at (k ∷ p) ≡ instance_in (Open V) k a p) → (f : Name → Source Path) (asked : Fields) → Provides V.outers (IsOfHanded final V) f asked → Provides D.outers (IsOfHanded final D) (λ n. copied k a (f n)) asked
      copied_provides V outers is f asked p = record {
        each = λ n t h. copied_gives V outers is (f n) t (p.each n t h);
        only = λ n h. ap (copied k a) (p.only n h);
      }

    -- what stands at an instance of a package
    module _ (q : Package) (bound : Provides D.outers (IsOfHanded final D) a q.world.imports) where
      leaf_handed : (t : Tag) → Good q (Leaf t) → D.at (k ∷ []) ≡ Some (record { tag = t; args = a }) → IsOfHanded final D (k ∷ []) q.world
      leaf_handed t g is = record { instance = record { tag = t; args = a }; there = is; bytes = q.bytes; tagged = g.0; handed = g.1 }

      -- gives what the world says that it exports
      stands_gives : (s : Part) → Good q s → ((p : Path) → D.at (k ∷ p) ≡ instance_in s k a p) → GivesIn (stands s k a) (instance q.world.exports)
      stands_gives Nothing g is = absurd g
      stands_gives (Leaf t) g is = handed_gives (k ∷ []) q.world (leaf_handed t g (is []))
      stands_gives (Open V) g is =
          gives_bundle D.outers (IsOfHanded final D) (λ n. copied k a (V.exports n)) q.world.exports (copied_provides q.world bound V g.outers is V.exports q.world.exports g.exports)

      -- the instances that stand there are bound
      instance_bound : (s : Part) → Good q s → ((p : Path) → D.at (k ∷ p) ≡ instance_in s k a p) → (p : Path) (x : Instantiation Path) → instance_in s k a p ≡ Some x → IsBoundInstance (IsOfHanded final D) D (k ∷ p) x
      instance_bound Nothing g is p x e = absurd g
      instance_bound (Leaf t) g is [] x e =
          subst (IsBoundInstance (IsOfHanded final D) D (k ∷ [])) (same_Some _ _ e) (record { world = q.world; is = leaf_handed t g (is []); bound = bound })
      instance_bound (Leaf t) g is (j ∷ p) x e = absurd (none-some _ e)
      instance_bound (Open V) g is p x e = go (V.at p) refl e
        where
          go : (o : Option (Instantiation Path)) → V.at p ≡ o → option_map (copy k a) o ≡ Some x → IsBoundInstance (IsOfHanded final D) D (k ∷ p) x
          go None h m = absurd (none-some _ m)
          go (Some y) h m =
              let b = g.bound p y h in
              subst (IsBoundInstance (IsOfHanded final D) D (k ∷ p)) (same_Some _ _ m) (record {
                world = b.world;
                is = copy_handed V is p b.world b.is;
                bound = copied_provides q.world bound V g.outers is y.args b.world.imports b.bound;
              })

  -- ---- an output's wiring, substituted

  abbrev pub GoodAt : Option Package → Type 0
  GoodAt None = Unit {0}
  GoodAt (Some p) = Good p p.ascribed

  good_of : (o : Option Package) (p : Package) → o ≡ Some p → GoodAt o → Good p (ascribed_to o)
  good_of None p e g = absurd (none-some _ e)
  good_of (Some q) p e g = subst (λ (r : Package). Good r q.ascribed) (same_Some _ _ e) g

  good_solid : (p : Package) (s : Part) → Good p s → IsSolid s
  good_solid p Nothing g = absurd g
  good_solid p (Leaf t) g = tt
  good_solid p (Open V) g = tt

  module _ (packages : List Package) (each : (i : ℕ) → GoodAt (slice_get packages i)) (A : Ascribed) (known : (k : ℕ) (x : Instantiation ℕ) → A.wiring.at k ≡ Some x → IsKnown packages (A.number k) x) (in_order : IsOrdered A.wiring) (bound : IsBound (IsOfPackage packages A) A.wiring) where
    abbrev ascribed_at : ℕ → Part
    ascribed_at k = ascribed_to (slice_get packages (A.number k))

    abbrev parts : ℕ → Part
    parts k = part_at (A.wiring.at k) (ascribed_at k)

    abbrev args : ℕ → Name → Source ℕ
    args k = args_of (A.wiring.at k)

    abbrev D : Wiring Path
    D = ascribed_down packages A

    abbrev place : Source ℕ → Source Path
    place s = placed parts args s

    abbrev bound_to : ℕ → Name → Source Path
    bound_to k n = place (args k n)

    abbrev at : ℕ → Source Path
    at k = stands_within parts args (suc k) k

    good_at : (k : ℕ) (x : Instantiation ℕ) (e : A.wiring.at k ≡ Some x) → Good (known k x e).which (ascribed_at k)
    good_at k x e = good_of (slice_get packages (A.number k)) (known k x e).which (known k x e).there (each (A.number k))

    solid : (k : ℕ) (x : Instantiation ℕ) → A.wiring.at k ≡ Some x → IsSolid (ascribed_at k)
    solid k x e = good_solid (known k x e).which (ascribed_at k) (good_at k x e)

    -- what is known of the instance k
    record Known (k : ℕ) : Type 0 where
      package_of : Package
      there : slice_get packages (A.number k) ≡ Some package_of
      good : Good package_of (parts k)
      provided : Provides A.wiring.outers (IsOfPackage packages A) (args k) package_of.world.imports

    one_package : (k : ℕ) (p : Package) (w : World) → slice_get packages (A.number k) ≡ Some p → IsOfPackage packages A k w → w ≡ p.world
    one_package k p w e i = sym i.says ∙ ap (λ (q : Package). q.world) (same_Some _ _ (sym i.stands ∙ e))

    known_at : (k : ℕ) → IsSolid (parts k) → Known k
    known_at k s =
        let y = part_there ascribed_at A.wiring in_order solid k s in
        let x = y.0 in
        let e = y.1 in
        let p = known k x e in
        let b = bound k x e in
        record {
          package_of = p.which;
          there = p.there;
          good = subst (λ o. Good p.which (part_at o (ascribed_at k))) (sym e) (good_at k x e);
          provided = subst (λ o. Provides A.wiring.outers (IsOfPackage packages A) (args_of o) p.which.world.imports) (sym e) (subst (λ (w : World). Provides A.wiring.outers (IsOfPackage packages A) x.args w.imports) (one_package k p.which b.world p.there b.is) b.bound);
        }

    abbrev GivesD : Source Path → Tree → Type 0
    GivesD = Gives D.outers (IsOfHanded final D)

    abbrev GivesAt : ℕ → Type 0
    GivesAt k = (w : World) → IsOfPackage packages A k w → GivesD (at k) (instance w.exports)

    place_gives : (s : Source ℕ) (t : Tree) → Uses GivesAt s → Gives A.wiring.outers (IsOfPackage packages A) s t → GivesD (place s) t
    place_gives s t u g =
        gives_more D.outers (IsOfHanded final D) (place s) g.given t
        (replaced A.wiring.outers (IsOfPackage packages A) D.outers (IsOfHanded final D) Outer at (λ n v e. gives_exactly D.outers (IsOfHanded final D) (Outer n) v e) s g.given u g.has)
        g.fits

    place_provides : (f : Name → Source ℕ) (asked : Fields) → ((n : Name) → Uses GivesAt (f n)) → Provides A.wiring.outers (IsOfPackage packages A) f asked → Provides D.outers (IsOfHanded final D) (λ n. place (f n)) asked
    place_provides f asked u p = record {
      each = λ n t h. place_gives (f n) t (u n) (p.each n t h);
      only = λ n h. ap place (p.only n h);
    }

    at_gives : (d k : ℕ) → k < d → IsSolid (parts k) → GivesAt k
    at_gives zero k h s w i = absurd (omega arith)
    at_gives (suc d) k h s w i =
        let low = part_low ascribed_at A.wiring in_order solid in
        let p = known_at k s in
        let below : (n : Name) → Uses GivesAt (args k n) = λ n. Uses-weaker (λ j u. at_gives d j (omega (arith, u.0)) u.1) (args k n) (low k n) in
        let gives = stands_gives D k (bound_to k) p.package_of (place_provides (args k) p.package_of.world.imports below p.provided) (parts k) p.good (λ q. refl) in
        let moved = subst (λ t. GivesD t (instance p.package_of.world.exports)) (sym (stands_is parts args (λ j. IsSolid (parts j)) low k)) gives in
        subst (λ (v : World). GivesD (at k) (instance v.exports)) (sym (one_package k p.package_of w p.there i)) moved

    gives_any : (s : Source ℕ) → Uses (λ k. IsSolid (parts k)) s → Uses GivesAt s
    gives_any s u = Uses-weaker (λ k h. at_gives (suc k) k (omega arith) h) s u

    bound_solid : (k : ℕ) (n : Name) → Uses (λ j. IsSolid (parts j)) (args k n)
    bound_solid k n = Uses-weaker (λ j u. u.1) (args k n) (part_low ascribed_at A.wiring in_order solid k n)

    solid_of : (s : Part) (k : ℕ) (a : Name → Source Path) (p : Path) (x : Instantiation Path) → instance_in s k a p ≡ Some x → IsSolid s
    solid_of Nothing k a p x e = absurd (none-some _ e)
    solid_of (Leaf t) k a p x e = tt
    solid_of (Open V) k a p x e = tt

    each_bound : IsBound (IsOfHanded final D) D
    each_bound [] x e = absurd (none-some _ e)
    each_bound (k ∷ p) x e =
        let q = known_at k (solid_of (parts k) k (bound_to k) p x e) in
        instance_bound D k (bound_to k) q.package_of (place_provides (args k) q.package_of.world.imports (λ n. gives_any (args k n) (bound_solid k n)) q.provided) (parts k) q.good (λ r. refl) p x e

    pub output_good : (world : World) → IsTrueWorld (IsOfPackage packages A) world A.wiring → IsGood world D
    output_good world t = record {
      bound = each_bound;
      outers = t.imports;
      exports = place_provides A.wiring.exports world.exports (λ n. gives_any (A.wiring.exports n) (part_exports ascribed_at A.wiring in_order solid n)) (record {
        each = λ n u h. gives_exactly A.wiring.outers (IsOfPackage packages A) (A.wiring.exports n) u (t.exports.each n u h);
        only = t.exports.only;
      });
    }
