-- A renaming of a wiring, and of what its tags stand for, is one of what substitution makes of them.
use Rattle.std.proofs.Common.{◌≡◌, ℕ, zero, suc, ◌<◌, [], ◌∷◌, Option, Some, None, option_map, refl, sym, ap, ap₂, ◌∙◌, subst, arith}
use Rattle.std.proofs.lemmas.Option.{none-some, same_Some}
use Rattle.wac_types_base.specs.Entries.{Name}
use Rattle.wac_graph_bytes.specs.Wirings.{Source, Outer, Inst, Bundle, rename, renamed, Uses, Instantiation, Wiring, Same}
use Rattle.wac_nesting.specs.Substitution.{Path, Part, Nothing, Leaf, Open, copied, stands, stands_within, placed, instance_in, instance_at}
use Rattle.wac_graph_bytes.proofs.Replace.{replace_alike, replace-replace, Uses-weaker, uses_any}
use Rattle.wac_nesting.proofs.Standing.{Descends, stands_is}

abbrev pub IsSolid : Part → Type 0
IsSolid Nothing = ⊥
IsSolid (Leaf t) = Unit {0}
IsSolid (Open V) = Unit {0}

-- two parts are one component, or one wiring up to a renaming
abbrev pub Related : Part → Part → Type 0
Related Nothing s = Unit {0}
Related (Leaf t) (Leaf u) = t ≡ u
Related (Open V) (Open W) = Same V W
Related _ _ = ⊥

abbrev pub inner : (s u : Part) → Related s u → Path → Path
inner (Open V) (Open W) r p = r.to p
inner _ _ r p = p

abbrev pub inner_back : (s u : Part) → Related s u → Path → Path
inner_back (Open V) (Open W) r p = r.from p
inner_back _ _ r p = p

-- a copy's source under a renaming
copied_carried : (V W : Wiring Path) (r : Same V W) (k j : ℕ) (f : Path → Path) → ((p : Path) → f (k ∷ p) ≡ j ∷ r.to p) → (a b : Name → Source Path) → ((n : Name) → rename f (a n) ≡ b n) → (s : Source Path) → rename f (copied k a s) ≡ copied j b (rename r.to s)
copied_carried V W r k j f fk a b h s =
    replace-replace Outer (λ p. Inst (f p)) a (λ p. Inst (k ∷ p)) s
    ∙ replace_alike (λ n. rename f (a n)) b (λ p. Inst (f (k ∷ p))) (λ p. Inst (j ∷ r.to p)) h s (uses_any (λ p. ap Inst (fk p)) s)
    ∙ sym (replace-replace b (λ p. Inst (j ∷ p)) Outer (λ p. Inst (r.to p)) s)

-- what stands at an instance, under a renaming
stands_carried : (s u : Part) (r : Related s u) (k j : ℕ) (f : Path → Path) → ((p : Path) → f (k ∷ p) ≡ j ∷ inner s u r p) → (a b : Name → Source Path) → ((n : Name) → rename f (a n) ≡ b n) → IsSolid s → rename f (stands s k a) ≡ stands u j b
stands_carried Nothing u r k j f fk a b h solid = absurd solid
stands_carried (Leaf t) Nothing r k j f fk a b h solid = absurd r
stands_carried (Leaf t) (Leaf v) r k j f fk a b h solid = ap Inst (fk [])
stands_carried (Leaf t) (Open W) r k j f fk a b h solid = absurd r
stands_carried (Open V) Nothing r k j f fk a b h solid = absurd r
stands_carried (Open V) (Leaf t) r k j f fk a b h solid = absurd r
stands_carried (Open V) (Open W) r k j f fk a b h solid =
    λ i. Bundle (λ n. (copied_carried V W r k j f fk a b h (V.exports n) ∙ ap (copied j b) (r.exports n)) i)

module _ (k j : ℕ) (f : Path → Path) (a b : Name → Source Path) (h : (n : Name) → rename f (a n) ≡ b n) where
  copy_carried : (V W : Wiring Path) (r : Same V W) → ((p : Path) → f (k ∷ p) ≡ j ∷ r.to p) → (p : Path) (x : Instantiation Path) (o : Option (Instantiation Path)) → V.at p ≡ o → option_map (λ y. record { tag = y.tag; args = λ n. copied k a (y.args n) }) o ≡ Some x → (r.from (r.to p) ≡ p) × (instance_in (Open W) j b (r.to p) ≡ Some (renamed f x))
  copy_carried V W r fk p x None e m = absurd (none-some _ m)
  copy_carried V W r fk p x (Some y) e m =
      let t = r.there p y e in
      let same : record { tag = y.tag; args = λ n. copied j b (rename r.to (y.args n)) } ≡ renamed f (record { tag = y.tag; args = λ n. copied k a (y.args n) }) = λ i. record { tag = y.tag; args = λ n. sym (copied_carried V W r k j f fk a b h (y.args n)) i } in
      (t.0, ap (option_map (λ y. record { tag = y.tag; args = λ n. copied j b (y.args n) })) t.1 ∙ ap Some (same ∙ ap (renamed f) (same_Some _ _ m)))

  instance_carried : (s u : Part) (r : Related s u) → ((p : Path) → f (k ∷ p) ≡ j ∷ inner s u r p) → (p : Path) (x : Instantiation Path) → instance_in s k a p ≡ Some x → (inner_back s u r (inner s u r p) ≡ p) × (instance_in u j b (inner s u r p) ≡ Some (renamed f x))
  instance_carried Nothing u r fk p x e = absurd (none-some _ e)
  instance_carried (Leaf t) Nothing r fk p x e = absurd r
  instance_carried (Leaf t) (Leaf v) r fk [] x e =
      let same : record { tag = v; args = b } ≡ renamed f (record { tag = t; args = a }) = λ i. record { tag = sym r i; args = λ n. sym (h n) i } in
      (refl, ap Some (same ∙ ap (renamed f) (same_Some _ _ e)))
  instance_carried (Leaf t) (Leaf v) r fk (q ∷ p) x e = absurd (none-some _ e)
  instance_carried (Leaf t) (Open W) r fk p x e = absurd r
  instance_carried (Open V) Nothing r fk p x e = absurd r
  instance_carried (Open V) (Leaf t) r fk p x e = absurd r
  instance_carried (Open V) (Open W) r fk p x e = copy_carried V W r fk p x (V.at p) refl e

  copy_back : (V W : Wiring Path) (r : Same V W) → (q : Path) (y : Instantiation Path) (o : Option (Instantiation Path)) → W.at q ≡ o → option_map (λ y. record { tag = y.tag; args = λ n. copied j b (y.args n) }) o ≡ Some y → (x : Instantiation Path) × (instance_in (Open V) k a (r.from q) ≡ Some x) × (r.to (r.from q) ≡ q)
  copy_back V W r q y None e m = absurd (none-some _ m)
  copy_back V W r q y (Some z) e m =
      let t = r.back q z e in
      (record { tag = t.0.tag; args = λ n. copied k a (t.0.args n) }, ap (option_map (λ y. record { tag = y.tag; args = λ n. copied k a (y.args n) })) t.1, t.2)

  instance_back : (s u : Part) (r : Related s u) → IsSolid s → (q : Path) (y : Instantiation Path) → instance_in u j b q ≡ Some y → (x : Instantiation Path) × (instance_in s k a (inner_back s u r q) ≡ Some x) × (inner s u r (inner_back s u r q) ≡ q)
  instance_back Nothing u r solid q y e = absurd solid
  instance_back (Leaf t) Nothing r solid q y e = absurd r
  instance_back (Leaf t) (Leaf v) r solid [] y e = (record { tag = t; args = a }, refl, refl)
  instance_back (Leaf t) (Leaf v) r solid (i ∷ q) y e = absurd (none-some _ e)
  instance_back (Leaf t) (Open W) r solid q y e = absurd r
  instance_back (Open V) Nothing r solid q y e = absurd r
  instance_back (Open V) (Leaf t) r solid q y e = absurd r
  instance_back (Open V) (Open W) r solid q y e = copy_back V W r q y (W.at q) refl e

-- one frame, its parts and what imports are bound to, and another under a renaming of numbers
module _ (parts parts' : ℕ → Part) (args args' : ℕ → Name → Source ℕ) (There' : ℕ → Type 0) (low : Descends (λ k. IsSolid (parts k)) args) (low' : Descends There' args') (to from : ℕ → ℕ) (rel : (k : ℕ) → Related (parts k) (parts' (to k))) (args_are : (k : ℕ) → IsSolid (parts k) → (n : Name) → rename to (args k n) ≡ args' (to k) n) where
  abbrev pub path_to : Path → Path
  path_to [] = []
  path_to (k ∷ p) = to k ∷ inner (parts k) (parts' (to k)) (rel k) p

  abbrev pub path_from : Path → Path
  path_from [] = []
  path_from (j ∷ q) = from j ∷ inner_back (parts (from j)) (parts' (to (from j))) (rel (from j)) q

  abbrev at : ℕ → Source Path
  at k = stands_within parts args (suc k) k

  abbrev at' : ℕ → Source Path
  at' k = stands_within parts' args' (suc k) k

  placed_carried : (s : Source ℕ) → Uses (λ k. rename path_to (at k) ≡ at' (to k)) s → rename path_to (placed parts args s) ≡ placed parts' args' (rename to s)
  placed_carried s u =
      replace-replace Outer (λ p. Inst (path_to p)) Outer at s
      ∙ replace_alike Outer Outer (λ k. rename path_to (at k)) (λ k. at' (to k)) (λ n. refl) s u
      ∙ sym (replace-replace Outer at' Outer (λ k. Inst (to k)) s)

  at_carried : (d k : ℕ) → k < d → IsSolid (parts k) → rename path_to (at k) ≡ at' (to k)
  at_carried zero k h solid = absurd (omega arith)
  at_carried (suc d) k h solid =
      let each : (n : Name) → rename path_to (placed parts args (args k n)) ≡ placed parts' args' (args' (to k) n) = λ n. placed_carried (args k n) (Uses-weaker (λ j u. at_carried d j (omega (arith, u.0)) u.1) (args k n) (low k n)) ∙ ap (placed parts' args') (args_are k solid n) in
      ap (rename path_to) (stands_is parts args (λ k. IsSolid (parts k)) low k)
      ∙ stands_carried (parts k) (parts' (to k)) (rel k) k (to k) path_to (λ p. refl) (λ n. placed parts args (args k n)) (λ n. placed parts' args' (args' (to k) n)) each solid
      ∙ sym (stands_is parts' args' There' low' (to k))

  -- of any source whose instances are there
  pub source_carried : (s : Source ℕ) → Uses (λ k. IsSolid (parts k)) s → rename path_to (placed parts args s) ≡ placed parts' args' (rename to s)
  source_carried s u = placed_carried s (Uses-weaker (λ k solid. at_carried (suc k) k (omega arith) solid) s u)

  args_carried : (k : ℕ) → IsSolid (parts k) → (n : Name) → rename path_to (placed parts args (args k n)) ≡ placed parts' args' (args' (to k) n)
  args_carried k solid n = source_carried (args k n) (Uses-weaker (λ j u. u.1) (args k n) (low k n)) ∙ ap (placed parts' args') (args_are k solid n)

  solid_of : (s : Part) (k : ℕ) (a : Name → Source Path) (p : Path) (x : Instantiation Path) → instance_in s k a p ≡ Some x → IsSolid s
  solid_of Nothing k a p x e = absurd (none-some _ e)
  solid_of (Leaf t) k a p x e = tt
  solid_of (Open V) k a p x e = tt

  pub there_carried : ((k : ℕ) → IsSolid (parts k) → from (to k) ≡ k) → (p : Path) (x : Instantiation Path) → instance_at parts args p ≡ Some x → (path_from (path_to p) ≡ p) × (instance_at parts' args' (path_to p) ≡ Some (renamed path_to x))
  there_carried un [] x e = absurd (none-some _ e)
  there_carried un (k ∷ p) x e =
      let solid = solid_of (parts k) k (λ n. placed parts args (args k n)) p x e in
      let c = instance_carried k (to k) path_to (λ n. placed parts args (args k n)) (λ n. placed parts' args' (args' (to k) n)) (args_carried k solid) (parts k) (parts' (to k)) (rel k) (λ q. refl) p x e in
      let q = inner (parts k) (parts' (to k)) (rel k) p in
      let turned = subst (λ i. inner_back (parts i) (parts' (to i)) (rel i) q ≡ p) (sym (un k solid)) c.0 in
      (ap₂ (λ (i : ℕ) (r : Path). i ∷ r) (un k solid) turned, c.1)

  pub back_carried : ((j : ℕ) → IsSolid (parts' j) → IsSolid (parts (from j)) × (to (from j) ≡ j)) → (q : Path) (y : Instantiation Path) → instance_at parts' args' q ≡ Some y → (x : Instantiation Path) × (instance_at parts args (path_from q) ≡ Some x) × (path_to (path_from q) ≡ q)
  back_carried un [] y e = absurd (none-some _ e)
  back_carried un (j ∷ q) y e =
      let u = un j (solid_of (parts' j) j (λ n. placed parts' args' (args' j n)) q y e) in
      let k = from j in
      let moved : (z : Instantiation Path) × (instance_at parts' args' (to k ∷ q) ≡ Some z) = subst (λ i. (z : Instantiation Path) × (instance_at parts' args' (i ∷ q) ≡ Some z)) (sym u.1) (y, e) in
      let c = instance_back k (to k) path_to (λ n. placed parts args (args k n)) (λ n. placed parts' args' (args' (to k) n)) (args_carried k u.0) (parts k) (parts' (to k)) (rel k) u.0 q moved.0 moved.1 in
      (c.0, c.1, ap₂ (λ (i : ℕ) (r : Path). i ∷ r) u.1 c.2)
