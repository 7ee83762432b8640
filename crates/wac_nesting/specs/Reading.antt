-- Reading bytes down to the components that were handed in.
use Rattle.std.specs.Prelude.{◌≡◌, ℕ, List, Some}
use Rattle.wac_types_base.specs.Entries.{Name}
use Rattle.wac_graph_bytes.specs.Wirings.{Tag, OfBytes, OfDependency, Instantiation, Wiring}
use Rattle.wac_graph_bytes.specs.Typing.{Worlds}
use Rattle.wac_graph_bytes.specs.Meaning.{Means}
use Rattle.wac_nesting.specs.Substitution.{Path, Part, Leaf, Open, substitute}

-- what a tag is read down to
pub data Reads (worlds : Worlds) (Handed : List ℕ → Type 0) : Tag → Part → Type 0 where
  -- an imported package is a name, and stays
  dependency : {n : Name} → Reads worlds Handed (OfDependency n) (Leaf (OfDependency n))
  -- a component that was handed in stays
  handed : {bytes : List ℕ} → Handed bytes → Reads worlds Handed (OfBytes bytes) (Leaf (OfBytes bytes))
  -- another one is its one-level meaning, in which each instance is replaced by what its tag is read down to
  nested : {bytes : List ℕ} {s : Part} (W : Wiring ℕ) (parts : ℕ → Part) → (Handed bytes → ⊥) → Means worlds bytes W
      → ((k : ℕ) (x : Instantiation ℕ) → W.at k ≡ Some x → Reads worlds Handed x.tag (parts k))
      → s ≡ Open (substitute parts W) → Reads worlds Handed (OfBytes bytes) s

-- the bytes, which were not handed in, are read down to that wiring
abbrev pub ReadsDown : Worlds → (List ℕ → Type 0) → List ℕ → Wiring Path → Type 0
ReadsDown worlds Handed bytes D = Reads worlds Handed (OfBytes bytes) (Open D)
