-- Compositions that differ in the order of arguments alone.
use Rattle.std.specs.Prelude.{◌≡◌, Bool, List, [], ◌∷◌}
use Rattle.wac_types_base.specs.Entries.{Name, value_at}
use Rattle.wac_composition.specs.Composition.{Made, Composition}
use Rattle.wac_composition.specs.Asks.{asks_of}
use Rattle.wac_composition.specs.Conflicts.{first_cause, name_cause}
use Rattle.wac_composition.specs.Worlds.{composed_world}

-- one instance, which is given the same under each name
pub record IsSameMade {A I : Type 0} (m n : Made A I) : Type 0 where
  pub by : m.by ≡ n.by
  pub number : m.number ≡ n.number
  pub key : m.key ≡ n.key
  pub world : m.world ≡ n.world
  pub arguments : (x : Name) → value_at m.arguments x ≡ value_at n.arguments x

abbrev pub AreSameMade : {A I : Type 0} → List (Made A I) → List (Made A I) → Type 0
AreSameMade [] [] = Unit {0}
AreSameMade (m ∷ ms) (n ∷ ns) = IsSameMade m n × AreSameMade ms ns
AreSameMade [] (n ∷ ns) = ⊥
AreSameMade (m ∷ ms) [] = ⊥

pub record IsAlike {A I : Type 0} (c d : Composition A I) : Type 0 where
  pub imports : c.imports ≡ d.imports
  pub made : AreSameMade c.made d.made
  pub definitions : c.definitions ≡ d.definitions
  pub aliases : c.aliases ≡ d.aliases
  pub exports : c.exports ≡ d.exports

-- They ask the same, what stands against them is the same, and so is their world.
pub record MeansAlike {A I : Type 0} (c d : Composition A I) : Type 0 where
  pub asks : asks_of c ≡ asks_of d
  pub cause : (define : Bool) → first_cause define c ≡ first_cause define d
  pub names : (define validate : Bool) → name_cause define validate c ≡ name_cause define validate d
  pub world : composed_world c ≡ composed_world d
