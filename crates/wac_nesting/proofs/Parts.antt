-- The parts of a wiring whose sources name earlier instances.
use Rattle.std.proofs.Common.{◌≡◌, ℕ, ◌<◌, List, [], ◌∷◌, Option, Some, None, IsSome, option_map, refl, sym, ap, subst, ◌∙◌}
use Rattle.wac_types_base.specs.Entries.{Name}
use Rattle.wac_graph_bytes.specs.Wirings.{Source, Inst, Uses, Tag, Instantiation, Wiring, IsOrdered}
use Rattle.wac_graph_bytes.proofs.Replace.{Uses-weaker}
use Rattle.wac_nesting.specs.Substitution.{Path, Part, Nothing, Leaf, Open, part_at, args_of, copied, stands, placed, source_in, instance_in, instance_at, substitute}
use Rattle.wac_nesting.specs.Laws.{Substitution_replaces}
use Rattle.wac_nesting.proofs.Standing.{Descends, stands_is}
use Rattle.wac_nesting.proofs.Carried.{IsSolid}

module _ (parts : ℕ → Part) (W : Wiring ℕ) (ordered : IsOrdered W) where
  pub any_low : Descends (λ j. Unit {0}) (λ k. args_of (W.at k))
  any_low k n = go (W.at k) refl
    where
      go : (o : Option (Instantiation ℕ)) → W.at k ≡ o → Uses (λ j. (j < k) × Unit {0}) (args_of o n)
      go None e = tt
      go (Some x) e = Uses-weaker (λ j u. (u.0, tt)) (x.args n) (ordered.args k x e n)

  -- where something stands for each instance
  module _ (solid : (k : ℕ) (x : Instantiation ℕ) → W.at k ≡ Some x → IsSolid (parts k)) where
    pub part_solid : (k : ℕ) → IsSome (W.at k) → IsSolid (part_at (W.at k) (parts k))
    part_solid k h = go (W.at k) refl h
      where
        go : (o : Option (Instantiation ℕ)) → W.at k ≡ o → IsSome o → IsSolid (part_at o (parts k))
        go None e h = absurd (let c : ⊥ = cc in c)
        go (Some x) e h = solid k x e

    pub part_there : (k : ℕ) → IsSolid (part_at (W.at k) (parts k)) → (x : Instantiation ℕ) × (W.at k ≡ Some x)
    part_there k h = go (W.at k) refl h
      where
        go : (o : Option (Instantiation ℕ)) → W.at k ≡ o → IsSolid (part_at o (parts k)) → (x : Instantiation ℕ) × (W.at k ≡ Some x)
        go None e h = absurd h
        go (Some x) e h = (x, e)

    pub part_low : Descends (λ k. IsSolid (part_at (W.at k) (parts k))) (λ k. args_of (W.at k))
    part_low k n = go (W.at k) refl
      where
        go : (o : Option (Instantiation ℕ)) → W.at k ≡ o → Uses (λ j. (j < k) × IsSolid (part_at (W.at j) (parts j))) (args_of o n)
        go None e = tt
        go (Some x) e = Uses-weaker (λ j u. (u.0, part_solid j u.1)) (x.args n) (ordered.args k x e n)

    pub part_exports : (n : Name) → Uses (λ k. IsSolid (part_at (W.at k) (parts k))) (W.exports n)
    part_exports n = Uses-weaker (λ j u. part_solid j u) (W.exports n) (ordered.exports n)

-- what stands for an instance, in the substitution's own words
pub replaces : Substitution_replaces
replaces parts W ordered k x e =
    let part = λ (k : ℕ). part_at (W.at k) (parts k) in
    let args = λ (k : ℕ). args_of (W.at k) in
    let here : (s : Part) → parts k ≡ s → (p : Path) → (substitute parts W).at (k ∷ p) ≡ instance_in s k (λ n. source_in parts W (x.args n)) p = λ s h p. ap (λ o. instance_in (part_at o (parts k)) k (λ n. source_in parts W (args_of o n)) p) e ∙ ap (λ s. instance_in s k (λ n. source_in parts W (x.args n)) p) h in
    let stood : (s : Part) → parts k ≡ s → source_in parts W (Inst k) ≡ stands s k (λ n. source_in parts W (x.args n)) = λ s h. stands_is part args (λ j. Unit {0}) (any_low parts W ordered) k ∙ ap (λ o. stands (part_at o (parts k)) k (λ n. source_in parts W (args_of o n))) e ∙ ap (λ s. stands s k (λ n. source_in parts W (x.args n))) h in
    record {
      leaf = λ t h. here (Leaf t) h [];
      one = λ t h j p. here (Leaf t) h (j ∷ p);
      itself = λ t h. stood (Leaf t) h;
      copy = λ V h p. here (Open V) h p;
      bundle = λ V h. stood (Open V) h;
    }

-- parts that agree where instances are
pub parts_alike : (parts parts' : ℕ → Part) (W : Wiring ℕ) → ((k : ℕ) (x : Instantiation ℕ) → W.at k ≡ Some x → parts k ≡ parts' k) → substitute parts W ≡ substitute parts' W
parts_alike parts parts' W h =
    let each : (k : ℕ) → part_at (W.at k) (parts k) ≡ part_at (W.at k) (parts' k) = λ k. go k (W.at k) refl in
    let all : ◌≡◌ {A = ℕ → Part} (λ k. part_at (W.at k) (parts k)) (λ k. part_at (W.at k) (parts' k)) = λ i k. each k i in
    let args = λ (k : ℕ). args_of (W.at k) in
    λ i. record { outers = W.outers; at = instance_at (all i) args; exports = λ n. placed (all i) args (W.exports n) }
  where
    go : (k : ℕ) (o : Option (Instantiation ℕ)) → W.at k ≡ o → part_at o (parts k) ≡ part_at o (parts' k)
    go k None e = refl
    go k (Some x) e = h k x e
