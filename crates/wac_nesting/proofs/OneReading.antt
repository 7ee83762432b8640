-- Bytes are read down to one wiring at most.
use Rattle.std.proofs.Common.{◌≡◌, ℕ, List, Option, Some, refl, sym, ap, subst, ◌∙◌}
use Rattle.wac_graph_bytes.specs.Wirings.{Tag, OfBytes, OfDependency, Instantiation, Wiring}
use Rattle.wac_graph_bytes.specs.Typing.{Worlds}
use Rattle.wac_graph_bytes.specs.Meaning.{Means}
use Rattle.wac_graph_bytes.proofs.OneWiring.{wiring_is}
use Rattle.wac_nesting.specs.Substitution.{Part, Leaf, Open, substitute}
use Rattle.wac_nesting.specs.Reading.{Reads, dependency, handed, nested}
use Rattle.wac_nesting.specs.Laws.{Reading_is_one}
use Rattle.wac_nesting.proofs.Parts.{parts_alike}

module _ (worlds : Worlds) (Handed : List ℕ → Type 0) where
  same_bytes : {a b : List ℕ} → OfBytes a ≡ OfBytes b → a ≡ b
  same_bytes e = cc

  same_name : {a b : List ℕ} → OfDependency a ≡ OfDependency b → a ≡ b
  same_name e = cc

  no_bytes : {a b : List ℕ} → OfDependency a ≡ OfBytes b → ⊥
  no_bytes e = cc

  -- the other reading, of a tag that is this one
  one : (t u : Tag) (a b : Part) → t ≡ u → Reads worlds Handed t a → Reads worlds Handed u b → a ≡ b
  one t u a b e dependency dependency = ap Leaf e
  one t u a b e dependency (handed h) = absurd (no_bytes e)
  one t u a b e dependency (nested W parts h m r s) = absurd (no_bytes e)
  one t u a b e (handed g) dependency = absurd (no_bytes (sym e))
  one t u a b e (handed g) (handed h) = ap Leaf e
  one t u a b e (handed g) (nested W parts h m r s) = absurd (h (subst Handed (same_bytes e) g))
  one t u a b e (nested V parts g m r s) dependency = absurd (no_bytes (sym e))
  one t u a b e (nested V parts g m r s) (handed h) = absurd (g (subst Handed (sym (same_bytes e)) h))
  one t u a b e (nested {bytes = x} V parts g m r s) (nested {bytes = y} W others h n q d) =
      let same : V ≡ W = wiring_is worlds y V W (subst (λ z. Means worlds z V) (same_bytes e) m) n in
      let each : (k : ℕ) (z : Instantiation ℕ) → V.at k ≡ Some z → parts k ≡ others k = λ k z f. one z.tag z.tag (parts k) (others k) refl (r k z f) (q k z (ap (λ (w : Wiring ℕ). w.at k) (sym same) ∙ f)) in
      s ∙ ap Open (parts_alike parts others V each ∙ ap (substitute others) same) ∙ sym d

pub reading_one : Reading_is_one
reading_one worlds packages t a b r q = one worlds _ t t a b refl r q
