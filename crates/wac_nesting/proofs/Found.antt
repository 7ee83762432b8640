-- The bytes of an output are read down to what its source ascribes, where those of its packages are.
use Rattle.std.specs.Prelude.{slice_get}
use Rattle.std.proofs.lemmas.Option.{none-some, same_Some}
use Rattle.std.proofs.Common.{◌≡◌, ℕ, ◌<◌, List, Option, Some, None, IsSome, refl, sym, ap, subst, ◌∙◌}
use Rattle.wac_types_base.specs.Entries.{Name}
use Rattle.wac_graph_bytes.specs.Wirings.{Source, rename, renamed, Uses, Tag, OfBytes, Instantiation, Wiring, Same, IsOrdered}
use Rattle.wac_graph_bytes.specs.Typing.{Worlds}
use Rattle.wac_graph_bytes.specs.Meaning.{Means}
use Rattle.wac_graph_bytes.proofs.Earlier.{ordered}
use Rattle.wac_nesting.specs.Substitution.{Path, Part, Nothing, Leaf, Open, part_at, args_of, placed, substitute}
use Rattle.wac_nesting.specs.Reading.{Reads, ReadsDown, nested}
use Rattle.wac_nesting.specs.Steps.{Package, Ascribed, IsKnown, ascribed_to, ascribed_down}
use Rattle.wac_nesting.proofs.Standing.{Descends}
use Rattle.wac_nesting.proofs.Carried.{IsSolid, Related, path_to, path_from, source_carried, there_carried, back_carried}
use Rattle.wac_nesting.proofs.Parts.{any_low, part_solid, part_there, part_low, part_exports}

module _ (worlds : Worlds) (Handed : List ℕ → Type 0) where
  -- a package's bytes are read down to what is ascribed to it, but for names of instances
  pub record ReadsTo (s : Part) (bytes : List ℕ) : Type 0 where
    pub part : Part
    pub reads : Reads worlds Handed (OfBytes bytes) part
    pub related : Related s part
    pub solid : IsSolid s

  abbrev pub ReadsPackage : Option Package → Type 0
  ReadsPackage None = Unit {0}
  ReadsPackage (Some p) = ReadsTo p.ascribed p.bytes

  abbrev read_part : (o : Option Package) → ReadsPackage o → Part
  read_part None r = Nothing
  read_part (Some p) r = r.part

  -- what is known of the part of a package that stands
  record IsRead (o : Option Package) (r : ReadsPackage o) (bytes : List ℕ) : Type 0 where
    reads : Reads worlds Handed (OfBytes bytes) (read_part o r)
    related : Related (ascribed_to o) (read_part o r)
    solid : IsSolid (ascribed_to o)

  is_read : (o : Option Package) (r : ReadsPackage o) (p : Package) → o ≡ Some p → IsRead o r p.bytes
  is_read None r p e = absurd (none-some _ e)
  is_read (Some q) r p e =
      subst (λ (x : Package). IsRead (Some q) r x.bytes) (same_Some _ _ e) (record { reads = r.reads; related = r.related; solid = r.solid })

  module _ (packages : List Package) (A : Ascribed) (known : (k : ℕ) (x : Instantiation ℕ) → A.wiring.at k ≡ Some x → IsKnown packages (A.number k) x) (in_order : IsOrdered A.wiring) (each : (i : ℕ) → ReadsPackage (slice_get packages i)) (W : Wiring ℕ) (same : Same A.wiring W) (in_order' : IsOrdered W) where
    abbrev ascribed_at : ℕ → Part
    ascribed_at k = ascribed_to (slice_get packages (A.number k))

    -- what the package of the instance k is read down to
    abbrev picked : ℕ → Part
    picked k = read_part (slice_get packages (A.number k)) (each (A.number k))

    abbrev qs : ℕ → Part
    qs j = picked (same.from j)

    known_read : (k : ℕ) (x : Instantiation ℕ) → A.wiring.at k ≡ Some x → (bytes : List ℕ) × (x.tag ≡ OfBytes bytes) × IsRead (slice_get packages (A.number k)) (each (A.number k)) bytes
    known_read k x e =
        let p = known k x e in
        (p.which.bytes, p.tagged, is_read (slice_get packages (A.number k)) (each (A.number k)) p.which p.there)

    solid : (k : ℕ) (x : Instantiation ℕ) → A.wiring.at k ≡ Some x → IsSolid (ascribed_at k)
    solid k x e = (known_read k x e).2.solid

    goes_to : (k : ℕ) (x : Instantiation ℕ) → A.wiring.at k ≡ Some x → (same.from (same.to k) ≡ k) × (W.at (same.to k) ≡ Some (renamed same.to x))
    goes_to k x e = same.there k x e

    -- an instance of W is one of A
    comes : (j : ℕ) (y : Instantiation ℕ) → W.at j ≡ Some y → (x : Instantiation ℕ) × (A.wiring.at (same.from j) ≡ Some x) × (y.tag ≡ x.tag) × (same.to (same.from j) ≡ j)
    comes j y e =
        let b = same.back j y e in
        let t : Some (renamed same.to b.0) ≡ Some y = sym (same.there (same.from j) b.0 b.1).1 ∙ ap W.at b.2 ∙ e in
        (b.0, b.1, sym (ap (λ (z : Instantiation ℕ). z.tag) (same_Some _ _ t)), b.2)

    reads_each : (j : ℕ) (y : Instantiation ℕ) → W.at j ≡ Some y → Reads worlds Handed y.tag (qs j)
    reads_each j y e =
        let c = comes j y e in
        let r = known_read (same.from j) c.0 c.1 in
        subst (λ t. Reads worlds Handed t (qs j)) (sym (c.2 ∙ r.1)) r.2.reads

    abbrev ps : ℕ → Part
    ps k = part_at (A.wiring.at k) (ascribed_at k)

    abbrev rs : ℕ → Part
    rs j = part_at (W.at j) (qs j)

    abbrev xs : ℕ → Name → Source ℕ
    xs k = args_of (A.wiring.at k)

    abbrev ys : ℕ → Name → Source ℕ
    ys k = args_of (W.at k)

    rel : (k : ℕ) → Related (ps k) (rs (same.to k))
    rel k = go (A.wiring.at k) refl
      where
        go : (o : Option (Instantiation ℕ)) → A.wiring.at k ≡ o → Related (part_at o (ascribed_at k)) (rs (same.to k))
        go None e = tt
        go (Some x) e =
            let g = goes_to k x e in
            let is : rs (same.to k) ≡ picked k = ap (λ o. part_at o (qs (same.to k))) g.1 ∙ ap picked g.0 in
            subst (Related (ascribed_at k)) (sym is) (known_read k x e).2.related

    args_are : (k : ℕ) → IsSolid (ps k) → (n : Name) → rename same.to (xs k n) ≡ ys (same.to k) n
    args_are k h n = go (A.wiring.at k) refl h
      where
        go : (o : Option (Instantiation ℕ)) → A.wiring.at k ≡ o → IsSolid (part_at o (ascribed_at k)) → rename same.to (args_of o n) ≡ ys (same.to k) n
        go None e h = absurd h
        go (Some x) e h = ap (λ w. args_of w n) (sym (goes_to k x e).1)

    returns : (j : ℕ) → IsSolid (rs j) → IsSolid (ps (same.from j)) × (same.to (same.from j) ≡ j)
    returns j h = go (W.at j) refl h
      where
        go : (o : Option (Instantiation ℕ)) → W.at j ≡ o → IsSolid (part_at o (qs j)) → IsSolid (ps (same.from j)) × (same.to (same.from j) ≡ j)
        go None e h = absurd h
        go (Some y) e h =
            let c = comes j y e in
            (subst (λ o. IsSolid (part_at o (ascribed_at (same.from j)))) (sym c.1) (solid (same.from j) c.0 c.1), c.3)

    abbrev pub read_wiring : Wiring Path
    read_wiring = substitute qs W

    pub output_down : (bytes : List ℕ) → (Handed bytes → ⊥) → Means worlds bytes W → ReadsDown worlds Handed bytes read_wiring
    output_down bytes own means = nested W qs own means reads_each refl

    pub output_same : Same (ascribed_down packages A) read_wiring
    output_same =
        let There' = λ (k : ℕ). Unit {0} in
        let low = part_low ascribed_at A.wiring in_order solid in
        let low' = any_low qs W in_order' in
        record {
          to = path_to ps rs xs ys There' low low' same.to same.from rel args_are;
          from = path_from ps rs xs ys There' low low' same.to same.from rel args_are;
          outers = same.outers;
          there = there_carried ps rs xs ys There' low low' same.to same.from rel args_are (λ k h. let x = part_there ascribed_at A.wiring in_order solid k h in (goes_to k x.0 x.1).0);
          back = back_carried ps rs xs ys There' low low' same.to same.from rel args_are returns;
          exports = λ n. source_carried ps rs xs ys There' low low' same.to same.from rel args_are (A.wiring.exports n) (part_exports ascribed_at A.wiring in_order solid n) ∙ ap (placed rs ys) (same.exports n);
        }
