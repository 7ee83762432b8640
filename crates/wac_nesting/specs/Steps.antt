-- A workspace as a list of packages in order of acceptance, and its steps.
use Rattle.std.specs.Prelude.{◌≡◌, ℕ, List, [], ◌∷◌, ◌++◌, Option, Some, None, slice_get}
use Rattle.wac_types_base.specs.Graph.{Among}
use Rattle.wac_types_base.specs.Tree.{instance}
use Rattle.wac_graph_bytes.specs.Wirings.{Tag, OfBytes, Instantiation, Wiring, Same, IsOrdered}
use Rattle.wac_graph_bytes.specs.Typing.{Worlds}
use Rattle.wac_graph_bytes.specs.Meaning.{Means}
use Rattle.wac_nesting.specs.Substitution.{Path, Part, Nothing, Leaf, Open, substitute}
use Rattle.wac_nesting.specs.Given.{World, IsBound, IsTrueWorld}

-- A component that was handed in, or an output, with what is ascribed to it: of a handed one it is the component
-- itself, of an output the wiring that its source ascribes, down to the handed components.
pub record Package : Type 0 where
  pub bytes : List ℕ
  pub world : World
  pub ascribed : Part

abbrev pub handed_in : List ℕ → World → Package
handed_in bytes world = record { bytes = bytes; world = world; ascribed = Leaf (OfBytes bytes) }

-- ---- handed components

abbrev pub IsLeaf : Part → Type 0
IsLeaf Nothing = ⊥
IsLeaf (Leaf t) = Unit {0}
IsLeaf (Open V) = ⊥

-- a component of these bytes and that world was handed in
pub record IsHandedWith (packages : List Package) (bytes : List ℕ) (world : World) : Type 0 where
  pub which : Package
  pub there : Among which packages
  pub handed : IsLeaf which.ascribed
  pub has_bytes : which.bytes ≡ bytes
  pub has_world : which.world ≡ world

abbrev pub IsHanded : List Package → List ℕ → Type 0
IsHanded packages bytes = (world : World) × IsHandedWith packages bytes world

-- ---- the wiring that a source ascribes

-- The wiring of one level, and for each of its instances the package that it is one of, by the number in order of acceptance
pub record Ascribed : Type 0 where
  pub wiring : Wiring ℕ
  pub number : ℕ → ℕ

-- the instance k is one of a package of this world
pub record IsOfPackage (packages : List Package) (A : Ascribed) (k : ℕ) (world : World) : Type 0 where
  pub instance : Instantiation ℕ
  pub there : A.wiring.at k ≡ Some instance
  pub which : Package
  pub stands : slice_get packages (A.number k) ≡ Some which
  pub says : which.world ≡ world

-- the instance is one of the package of that number, and tagged by its bytes
pub record IsKnown (packages : List Package) (number : ℕ) (x : Instantiation ℕ) : Type 0 where
  pub which : Package
  pub there : slice_get packages number ≡ Some which
  pub tagged : x.tag ≡ OfBytes which.bytes

abbrev pub ascribed_to : Option Package → Part
ascribed_to None = Nothing
ascribed_to (Some p) = p.ascribed

-- the ascribed wiring, in which each instance of an output is replaced by what is ascribed to that output
abbrev pub ascribed_down : List Package → Ascribed → Wiring Path
ascribed_down packages A = substitute (λ k. ascribed_to (slice_get packages (A.number k))) A.wiring

-- ---- steps

-- the worlds say of each package's bytes what its own world says
abbrev pub AreTrue : List Package → Worlds → Type 0
AreTrue packages worlds = (p : Package) → Among p packages → worlds (OfBytes p.bytes) ≡ Some (instance p.world.exports)

-- the bytes mean this wiring, but for the numbers of instances
pub record MeansSame (worlds : Worlds) (bytes : List ℕ) (V : Wiring ℕ) : Type 0 where
  pub wiring : Wiring ℕ
  pub means : Means worlds bytes wiring
  pub same : Same V wiring

-- an accepted source, whose output has these bytes and that world
pub record Composes (packages : List Package) (bytes : List ℕ) (world : World) (A : Ascribed) : Type 0 where
  -- no component of these bytes was handed in
  pub own : IsHanded packages bytes → ⊥
  -- the ascribed wiring: of packages that stand, in order, each import bound to what fits
  pub known : (k : ℕ) (x : Instantiation ℕ) → A.wiring.at k ≡ Some x → IsKnown packages (A.number k) x
  pub ordered : IsOrdered A.wiring
  pub bound : IsBound (IsOfPackage packages A) A.wiring
  -- the world is true of it
  pub true_world : IsTrueWorld (IsOfPackage packages A) world A.wiring
  -- the bytes mean it, in all worlds that are true of the packages
  pub meant : (worlds : Worlds) → AreTrue packages worlds → MeansSame worlds bytes A.wiring

pub data Step : Type 0 where
  -- a component is handed in
  Add : (bytes : List ℕ) → World → Step
  -- a source is composed, and its output registered
  Compose : (bytes : List ℕ) → World → Ascribed → Step
  -- a refusal, or an output that is not registered
  Other : Step

-- nothing of a package that stands has these bytes
abbrev pub IsNew : List Package → List ℕ → Type 0
IsNew packages bytes = (p : Package) → Among p packages → p.bytes ≡ bytes → ⊥

abbrev pub IsStep : List Package → Step → Type 0
IsStep packages (Add bytes world) = IsNew packages bytes
IsStep packages (Compose bytes world A) = Composes packages bytes world A
IsStep packages Other = Unit {0}

abbrev pub after : List Package → Step → List Package
after packages (Add bytes world) = packages ++ handed_in bytes world ∷ []
after packages (Compose bytes world A) =
    packages ++ record { bytes = bytes; world = world; ascribed = Open (ascribed_down packages A) } ∷ []
after packages Other = packages

-- each step is accepted over what those before it left
abbrev pub AreSteps : List Package → List Step → Type 0
AreSteps packages [] = Unit {0}
AreSteps packages (s ∷ steps) = IsStep packages s × AreSteps (after packages s) steps

abbrev pub after_all : List Package → List Step → List Package
after_all packages [] = packages
after_all packages (s ∷ steps) = after_all (after packages s) steps
