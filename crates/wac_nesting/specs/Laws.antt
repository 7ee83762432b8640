-- What holds of every list of steps.
use Rattle.std.specs.Prelude.{◌≡◌, ℕ, List, [], ◌∷◌, Some, None, option_map}
use Rattle.wac_types_base.specs.Entries.{Name}
use Rattle.wac_types_base.specs.Graph.{Among}
use Rattle.wac_types_fit.specs.Ordered.{AllInOrder}
use Rattle.wac_graph_bytes.specs.Wirings.{Tag, OfBytes, Inst, Bundle, Instantiation, Wiring, Same, IsOrdered}
use Rattle.wac_graph_bytes.specs.Typing.{Worlds}
use Rattle.wac_nesting.specs.Substitution.{Path, Part, Nothing, Leaf, Open, copied, source_in, substitute}
use Rattle.wac_nesting.specs.Reading.{Reads, ReadsDown}
use Rattle.wac_nesting.specs.Given.{World, Provides, AreOuters, IsBound}
use Rattle.wac_nesting.specs.Steps.{Package, IsHandedWith, IsHanded, AreTrue, Step, AreSteps, after_all}

-- an instance of a handed component, whose stated world is this one
pub record IsOfHanded {I : Type 0} (packages : List Package) (W : Wiring I) (p : I) (world : World) : Type 0 where
  pub instance : Instantiation I
  pub there : W.at p ≡ Some instance
  pub bytes : List ℕ
  pub tagged : instance.tag ≡ OfBytes bytes
  pub handed : IsHandedWith packages bytes world

-- What the bytes of an output are when they are read down: the wiring V that its source ascribes down to the handed
-- components, alone of handed components, each import of each bound once to what fits its stated world, under a world
-- that names its outer imports and gives for each export what fits.
pub record IsReading (worlds : Worlds) (packages : List Package) (bytes : List ℕ) (world : World)
    (V : Wiring Path) : Type 0 where
  pub reading : Wiring Path
  pub down : ReadsDown worlds (IsHanded packages) bytes reading
  pub same : Same V reading
  pub bound : IsBound (IsOfHanded packages reading) reading
  pub imports : AreOuters reading.outers world.imports
  pub exports : Provides reading.outers (IsOfHanded packages reading) reading.exports world.exports

abbrev pub IsAsAscribed : Worlds → List Package → Package → Part → Type 0
IsAsAscribed worlds packages p Nothing = ⊥
IsAsAscribed worlds packages p (Leaf t) = (t ≡ OfBytes p.bytes) × IsHandedWith packages p.bytes p.world
IsAsAscribed worlds packages p (Open V) = (IsHanded packages p.bytes → ⊥) × IsReading worlds packages p.bytes p.world V

-- every output of every list of steps is what its source ascribes
abbrev pub Steps_carry : Type 0
Steps_carry = (steps : List Step) → AreSteps [] steps → (worlds : Worlds) → AreTrue (after_all [] steps) worlds → (p : Package)
    → Among p (after_all [] steps) → IsAsAscribed worlds (after_all [] steps) p p.ascribed

-- the worlds' maps go up by their names, as those of collections do
abbrev pub AreInOrder : List Package → Type 0
AreInOrder packages = (p : Package) → Among p packages → AllInOrder p.world.imports × AllInOrder p.world.exports

-- then there are worlds that are true of all packages: what an output's world exports follows from its bytes
abbrev pub Worlds_exist : Type 0
Worlds_exist = (steps : List Step) → AreSteps [] steps → AreInOrder (after_all [] steps)
    → (worlds : Worlds) × AreTrue (after_all [] steps) worlds

-- bytes are read down to one wiring at most
abbrev pub Reading_is_one : Type 0
Reading_is_one = (worlds : Worlds) (packages : List Package) (t : Tag) (a b : Part) → Reads worlds (IsHanded packages) t a
    → Reads worlds (IsHanded packages) t b → a ≡ b

-- what stands for the instance k in the wiring with its substitution
pub record Replaces (parts : ℕ → Part) (W : Wiring ℕ) (k : ℕ) (x : Instantiation ℕ) : Type 0 where
  -- a component that stays is one leaf
  pub leaf : (t : Tag) → parts k ≡ Leaf t
      → (substitute parts W).at (k ∷ []) ≡ Some (record { tag = t; args = λ n. source_in parts W (x.args n) })
  pub one : (t : Tag) → parts k ≡ Leaf t → (j : ℕ) (p : Path) → (substitute parts W).at (k ∷ j ∷ p) ≡ None
  pub itself : (t : Tag) → parts k ≡ Leaf t → source_in parts W (Inst k) ≡ Inst (k ∷ [])
  -- a wiring is a fresh copy, whose outer imports are what the instance's imports are bound to
  pub copy : (V : Wiring Path) → parts k ≡ Open V → (p : Path)
      → (substitute parts W).at (k ∷ p)
      ≡ option_map (λ (y : Instantiation Path). record {
        tag = y.tag;
        args = λ n. copied k (λ m. source_in parts W (x.args m))
            (y.args n);
      }) (V.at p)
  -- and the instance is the bundle of its exports
  pub bundle : (V : Wiring Path) → parts k ≡ Open V
      → source_in parts W (Inst k) ≡ Bundle (λ n. copied k (λ m. source_in parts W (x.args m)) (V.exports n))

abbrev pub Substitution_replaces : Type 0
Substitution_replaces =
    (parts : ℕ → Part) (W : Wiring ℕ) → IsOrdered W → (k : ℕ) (x : Instantiation ℕ) → W.at k ≡ Some x → Replaces parts W k x
