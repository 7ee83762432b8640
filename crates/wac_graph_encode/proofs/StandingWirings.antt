-- What is finished states the wiring of the graph.
use Rattle.std.specs.Prelude.{slice_get, option_map, not, if◌then◌else◌}
use Rattle.std.specs.Cmp.Lexicographic.{pointwise}
use Rattle.std.specs.List.{AllZip}
use Rattle.std.proofs.lemmas.Option.{same_Some}
use Rattle.std.proofs.Common.{◌≡◌, ◌==◌, ℕ, zero, suc, ◌+◌, Bool, true, false, ◌||◌, cond, List, [], ◌∷◌, Option, Some, None, IsSome, inl, inr, refl, sym, ap, subst, ◌∙◌, arith}
use Rattle.wac_types_base.specs.Entries.{Name, AreDistinct, value_at}
use Rattle.wac_types_base.specs.Graph.{Among}
use Rattle.wac_types_base.specs.Tree.{Tree}
use Rattle.wac_types_names.specs.Packaged.{Packaged}
use Rattle.wac_graph_bytes.specs.declared.entry.Entry.{Entry}
use Rattle.wac_graph_bytes.specs.Typing.{Worlds}
use Rattle.wac_graph_bytes.specs.Wirings.{Tag, Source, Absent, OfBytes, Instantiation, Wiring, Same, renamed}
use Rattle.wac_graph_bytes.specs.Meaning.{Listed, instantiation, is_package, is_package_of, wiring_of}
use Rattle.wac_graph_bytes.proofs.SameWirings.{orders_rename}
use Rattle.wac_graph_core.specs.Graph.{Graph, IsGraph, instantiated}
use Rattle.wac_graph_core.specs.GraphWiring as core
use Rattle.wac_graph_core.proofs.Found.{eq_same}
use Rattle.wac_types_base.proofs.Replacing.{same_number}
use Rattle.wac_types_base.proofs.Looked.{among-get}
use Rattle.wac_graph_core.proofs.WiringLaws.{once, same_instance}
use Rattle.wac_graph_asks.specs.Wirings.{IsGraphWiring, asked_trees, written_tree}
use Rattle.wac_graph_encode.specs.Encoding.{as_written, dependency_tag, tag_of, tagged}
use Rattle.wac_graph_encode.specs.Standing.{number_in, by_number, spelled, IsListed, IsExported, IsFinished, StandsFor}
use Rattle.wac_graph_encode.proofs.StandingNumbers.{later}

-- ---- places in two lists that go together

pub zip_at : {A B : Type 0} (R : A → B → Type 0) (xs : List A) (ys : List B) → AllZip R xs ys → (i : ℕ) (x : A) → slice_get xs i ≡ Some x → (y : B) × (slice_get ys i ≡ Some y) × R x y
zip_at R [] [] z i x e = absurd (cc e)
zip_at R [] (y ∷ ys) z i x e = absurd z
zip_at R (x ∷ xs) [] z i a e = absurd z
zip_at R (x ∷ xs) (y ∷ ys) z zero a e = (y, refl, subst (λ b. R b y) (same_Some _ _ e) z.0)
zip_at R (x ∷ xs) (y ∷ ys) z (suc i) a e = zip_at R xs ys z.1 i a e

pub zip_back : {A B : Type 0} (R : A → B → Type 0) (xs : List A) (ys : List B) → AllZip R xs ys → (i : ℕ) (y : B) → slice_get ys i ≡ Some y → (x : A) × (slice_get xs i ≡ Some x) × R x y
zip_back R [] [] z i y e = absurd (cc e)
zip_back R [] (y ∷ ys) z i b e = absurd z
zip_back R (x ∷ xs) [] z i y e = absurd z
zip_back R (x ∷ xs) (y ∷ ys) z zero b e = (x, refl, subst (λ c. R x c) (same_Some _ _ e) z.0)
zip_back R (x ∷ xs) (y ∷ ys) z (suc i) b e = zip_back R xs ys z.1 i b e

-- ---- the place of a number

pub number_at : (order : List ℕ) (j : ℕ) → Among j order → slice_get order (number_in order j) ≡ Some j
number_at [] j m = absurd m
number_at (i ∷ is) j m = go (i == j) refl (λ e. number_at is j (later i j is e m))
  where
    go : (b : Bool) → (i == j) ≡ b → ((i == j) ≡ false → slice_get is (number_in is j) ≡ Some j) → slice_get (i ∷ is) (cond (not b) (1 + number_in is j) 0) ≡ Some j
    go true e rest = ap Some (same_number i j e)
    go false e rest = let next : 1 + number_in is j ≡ suc (number_in is j) = omega arith in ap (slice_get (i ∷ is)) next ∙ rest e

pub number_of : (order : List ℕ) → AreDistinct order → (j k : ℕ) → slice_get order j ≡ Some k → number_in order k ≡ j
number_of [] d j k e = absurd (cc e)
number_of (i ∷ is) d zero k e =
    let same : i ≡ k = same_Some _ _ e in
    ap (λ (b : Bool). cond (not b) (1 + number_in is k) 0) (ap (λ x. i == x) (sym same) ∙ eq_same i)
number_of (i ∷ is) d (suc j) k e =
    let rest = number_of is d.1 j k e in
    go (i == k) refl rest
  where
    go : (b : Bool) → (i == k) ≡ b → number_in is k ≡ j → cond (not b) (1 + number_in is k) 0 ≡ suc j
    go true q r = absurd (d.0 (subst (λ x. Among x is) (sym (same_number i k q)) (among-get is j k e)))
    go false q r = omega (arith, r)

-- ---- exports

-- what is exported under a name is what its node denotes
abbrev ExportIs : Graph → List ℕ → Option ℕ → Option (Source ℕ) → Type 0
ExportIs g order None o = o ≡ None
ExportIs g order (Some k) o = (s : Source ℕ) × StandsFor g k s × (o ≡ Some (by_number order s))

exported_at : (g : Graph) (worlds : Worlds) (define : Bool) (order : List ℕ) (es : List (Name × ℕ)) (xs : List (Name × Source ℕ)) → AllZip (IsExported g worlds define order) es xs → (n : Name) → ExportIs g order (value_at es n) (value_at xs n)
exported_at g worlds define order [] [] z n = refl
exported_at g worlds define order [] (x ∷ xs) z n = absurd z
exported_at g worlds define order (e ∷ es) [] z n = absurd z
exported_at g worlds define order (e ∷ es) (x ∷ xs) z n =
    subst (λ (m : Name). ExportIs g order (if pointwise ◌==◌ n e.0 then Some e.1 else value_at es n) (if pointwise ◌==◌ n m then Some x.1 else value_at xs n)) (sym z.0.name)
    (go (pointwise ◌==◌ n e.0) (exported_at g worlds define order es xs z.1 n))
  where
    go : (b : Bool) → ExportIs g order (value_at es n) (value_at xs n) → ExportIs g order (if b then Some e.1 else value_at es n) (if b then Some x.1 else value_at xs n)
    go true rest = (z.0.source, z.0.denotes, ap Some z.0.is)
    go false rest = rest

-- ---- the wiring

-- no import is a package where all are nested
no_package : (n : Name) (xs : List (Tag × List (Name × Source ℕ))) → ((x : Tag × List (Name × Source ℕ)) → Among x xs → (bytes : List ℕ) × (x.0 ≡ OfBytes bytes)) → is_package n xs ≡ false
no_package n [] h = refl
no_package n (x ∷ xs) h =
    let b = h x (inl refl) in
    ap (λ (t : Tag). is_package_of n t || is_package n xs) b.1 ∙ no_package n xs (λ y m. h y (inr m))

pub among_zip : {A B : Type 0} (R : A → B → Type 0) (xs : List A) (ys : List B) → AllZip R xs ys → (y : B) → Among y ys → (x : A) × R x y
among_zip R [] [] z y m = absurd m
among_zip R [] (b ∷ ys) z y m = absurd z
among_zip R (x ∷ xs) [] z y m = absurd m
among_zip R (x ∷ xs) (b ∷ ys) z y (inl e) = (x, subst (R x) (sym e) z.0)
among_zip R (x ∷ xs) (b ∷ ys) z y (inr m) = among_zip R xs ys z.1 y m

-- what an element of the first list goes with
pub zip_on : {A B : Type 0} (R : A → B → Type 0) (xs : List A) (ys : List B) (x : A) → AllZip R xs ys → Among x xs → (y : B) × Among y ys × R x y
zip_on R [] ys x h m = absurd m
zip_on R (z ∷ xs) [] x h m = absurd h
zip_on R (z ∷ xs) (y ∷ ys) x h (inl e) = (y, inl refl, subst (λ v. R v y) (sym e) h.0)
zip_on R (z ∷ xs) (y ∷ ys) x h (inr m) = let r = zip_on R xs ys x h.1 m in (r.0, inr r.1, r.2)

pub nested_apart : (g : Graph) (worlds : Worlds) (asked : List (Name × Tree)) (es : List Entry) (h : IsFinished g worlds true asked es) (n : Name) → is_package n h.state.listed.instances ≡ false
nested_apart g worlds asked es h n =
    let listed = h.state.listed.instances in
    no_package n listed (λ x m. let a = among_zip (IsListed g worlds true h.order) h.order listed h.instances x m in (a.1.of.bytes, a.1.tag))

-- the node's instance, but for its tag, which is its package's
pub record IsTaggedAs (g : Graph) (define : Bool) (V : Wiring ℕ) (k : ℕ) (p : Packaged) : Type 0 where
  pub instance : Instantiation ℕ
  pub there : V.at k ≡ Some instance
  pub tag : instance.tag ≡ tag_of define p
  pub like : Instantiation ℕ
  pub is : core.IsInstance (spelled g) (written_tree g) g k p like
  pub args : (n : Name) → instance.args n ≡ like.args n

-- a wiring of the graph, where each instance has its package's tag
pub record IsTaggedWiring (g : Graph) (define : Bool) (V : Wiring ℕ) : Type 0 where
  pub instances : (k : ℕ) (p : Packaged) → instantiated g k ≡ Some p → IsTaggedAs g define V k p
  pub no_other : (k : ℕ) → instantiated g k ≡ None → V.at k ≡ None
  pub exported : (n : Name) (k : ℕ) → value_at g.exports n ≡ Some k → StandsFor g k (V.exports n)
  pub no_export : (n : Name) → value_at g.exports n ≡ None → V.exports n ≡ Absent

pub tagged_wiring : (define : Bool) (g : Graph) (W : Wiring ℕ) → IsGraphWiring g W → IsTaggedWiring g define (as_written define g W)
tagged_wiring true g W wires = record {
  instances = λ k p e. let x = wires.instances k p e in record { instance = x.0; there = x.1; tag = x.2.tag; like = x.0; is = x.2; args = λ n. refl };
  no_other = wires.no_other;
  exported = wires.exported;
  no_export = wires.no_export;
}
tagged_wiring false g W wires = record {
  instances = λ k p e.
      let x = wires.instances k p e in record {
        instance = tagged (dependency_tag (instantiated g k) x.0.tag) x.0;
        there = ap (option_map (λ (y : Instantiation ℕ). tagged (dependency_tag (instantiated g k) y.tag) y)) x.1;
        tag = ap (λ o. dependency_tag o x.0.tag) e;
        like = x.0;
        is = x.2;
        args = λ n. refl;
      };
  no_other = λ k e. ap (option_map (λ (y : Instantiation ℕ). tagged (dependency_tag (instantiated g k) y.tag) y)) (wires.no_other k e);
  exported = wires.exported;
  no_export = wires.no_export;
}

module _ (define : Bool) (g : Graph) (is : IsGraph g) (worlds : Worlds) (asked : List (Name × Tree)) (es : List Entry) (h : IsFinished g worlds define asked es)
    (V : Wiring ℕ) (v : IsTaggedWiring g define V) (outers : (n : Name) → V.outers n ≡ (wiring_of h.state.listed).outers n) where
  abbrev listed : Listed
  listed = h.state.listed

  abbrev read : Wiring ℕ
  read = wiring_of listed

  -- an instance that is listed is the one of the wiring, by numbers
  same_made : (k : ℕ) (p : Packaged) (x z : Instantiation ℕ) (y : Tag × List (Name × Source ℕ)) → instantiated g k ≡ Some p → x.tag ≡ tag_of define p → core.IsInstance (spelled g) (written_tree g) g k p z
      → ((n : Name) → x.args n ≡ z.args n) → IsListed g worlds define h.order k y → instantiation y ≡ renamed (number_in h.order) x
  same_made k p x z y at tag of args a =
      let q : a.of ≡ p = same_Some _ _ (sym a.is ∙ at) in
      let mine = subst (λ r. core.IsInstance (spelled g) (written_tree g) g k r a.instance) q a.bound in
      let one : a.instance ≡ z = same_instance (spelled g) (written_tree g) g is k p a.instance z mine of in
      λ i. record {
        tag = (a.tag ∙ ap (tag_of define) q ∙ sym tag) i;
        args = λ n. (a.given n ∙ ap (λ (u : Instantiation ℕ). by_number h.order (u.args n)) one ∙ ap (by_number h.order) (sym (args n))) i;
      }

  each : (k : ℕ) (x : Instantiation ℕ) → V.at k ≡ Some x → (slice_get h.order (number_in h.order k) ≡ Some k) × (read.at (number_in h.order k) ≡ Some (renamed (number_in h.order) x))
  each k x e = go (instantiated g k) refl
    where
      go : (o : Option Packaged) → instantiated g k ≡ o → (slice_get h.order (number_in h.order k) ≡ Some k) × (read.at (number_in h.order k) ≡ Some (renamed (number_in h.order) x))
      go None q = absurd (cc (sym e ∙ v.no_other k q))
      go (Some p) q =
          let w = v.instances k p q in
          let same : w.instance ≡ x = same_Some _ _ (sym w.there ∙ e) in
          let at = number_at h.order k (h.all k (subst IsSome (sym q) refl)) in
          let y = zip_at (IsListed g worlds define h.order) h.order listed.instances h.instances (number_in h.order k) k at in
          let made = same_made k p w.instance w.like y.0 q w.tag w.is w.args y.2 in
          (at, ap (option_map instantiation) y.1 ∙ ap Some (subst (λ u. instantiation y.0 ≡ renamed (number_in h.order) u) same made))

  only : (j : ℕ) (y : Instantiation ℕ) → read.at j ≡ Some y → (k : ℕ) × (x : Instantiation ℕ) × (slice_get h.order j ≡ Some k) × (V.at k ≡ Some x) × (number_in h.order k ≡ j)
  only j y e = go (slice_get listed.instances j) refl e
    where
      go : (o : Option (Tag × List (Name × Source ℕ))) → slice_get listed.instances j ≡ o → option_map instantiation o ≡ Some y → (k : ℕ) × (x : Instantiation ℕ) × (slice_get h.order j ≡ Some k) × (V.at k ≡ Some x) × (number_in h.order k ≡ j)
      go None q r = absurd (cc r)
      go (Some z) q r =
          let a = zip_back (IsListed g worlds define h.order) h.order listed.instances h.instances j z q in
          let w = v.instances a.0 a.2.of a.2.is in
          (a.0, w.instance, a.1, w.there, number_of h.order h.once j a.0 a.1)

  exports_same : (n : Name) → by_number h.order (V.exports n) ≡ read.exports n
  exports_same n = go (value_at g.exports n) refl (value_at listed.exports n) refl (subst (λ (o : Option ℕ). ExportIs g h.order o (value_at listed.exports n)) (h.rearranged.kept n) (exported_at g worlds define h.order h.listing listed.exports h.exports n))
    where
      go : (o : Option ℕ) → value_at g.exports n ≡ o → (p : Option (Source ℕ)) → value_at listed.exports n ≡ p → ExportIs g h.order o p → by_number h.order (V.exports n) ≡ read.exports n
      go None q p r a = ap (by_number h.order) (v.no_export n q) ∙ ap (λ (s : Option (Source ℕ)). elim s [ None ↦ Absent | Some t ↦ t ]) (sym (r ∙ a))
      go (Some k) q p r a =
          ap (by_number h.order) (once (spelled g) (written_tree g) g is k (V.exports n) a.0 (v.exported n k q) a.1)
          ∙ ap (λ (s : Option (Source ℕ)). elim s [ None ↦ Absent | Some t ↦ t ]) (sym (r ∙ a.2))

  pub written_wiring : Same V read
  written_wiring = orders_rename V read h.order (number_in h.order) (record { outers = outers; each = each; only = only; exports = exports_same })

-- where all are nested, each import is an outer import
pub nested_outers : (g : Graph) (worlds : Worlds) (asked : List (Name × Tree)) (es : List Entry) (h : IsFinished g worlds true asked es) → ((n : Name) → value_at asked n ≡ asked_trees g n) → (n : Name) → asked_trees g n ≡ (wiring_of h.state.listed).outers n
nested_outers g worlds asked es h outers n =
    sym (outers n) ∙ ap (λ xs. value_at xs n) (sym h.imports) ∙ ap (λ (b : Bool). if b then None else value_at h.state.listed.imports n) (sym (nested_apart g worlds asked es h n))

pub nested_wiring : (g : Graph) → IsGraph g → (worlds : Worlds) (asked : List (Name × Tree)) (es : List Entry) (h : IsFinished g worlds true asked es) → ((n : Name) → value_at asked n ≡ asked_trees g n) → (W : Wiring ℕ) → IsGraphWiring g W → Same W (wiring_of h.state.listed)
nested_wiring g is worlds asked es h outers W wires =
    written_wiring true g is worlds asked es h W (tagged_wiring true g W wires) (λ n. wires.outers n ∙ nested_outers g worlds asked es h outers n)
