-- The world that `encode_world` hands out is true of what the bytes mean.
use Rattle.std.specs.Prelude.{◌≡◌, ℕ, Bool, List, Some}
use Rattle.wac_types_base.specs.declared.ids.WorldId.{WorldId}
use Rattle.wac_types_base.specs.declared.item.ItemKind.{ItemKind}
use Rattle.wac_types_base.specs.Record.{Collection}
use Rattle.wac_types_base.specs.Collection.{IsAcyclic}
use Rattle.wac_types_base.specs.Stated.{stated_of}
use Rattle.wac_types_base.specs.Tree as t
use Rattle.wac_types_names.specs.Packaged.{Packaged}
use Rattle.wac_graph_bytes.specs.Meaning.{Means}
use Rattle.wac_graph_bytes.specs.Typing.{Worlds}
use Rattle.wac_graph_bytes.specs.Wirings.{Instantiation, Wiring}
use Rattle.wac_nesting.specs.Given.{World}
use Rattle.wac_composition.specs.Sound.{maps_of}
use Rattle.wac_graph_core.specs.Graph.{Graph, IsGraph}
use Rattle.wac_graph_encode.specs.declared.options.EncodeOptions.{EncodeOptions}
use Rattle.wac_graph_encode.specs.Encoding.{AreTrueOf, HasTrueWorld, IsComposed, IsInstantiated, tag_of}
use Rattle.wac_graph_encode.specs.Refused.{IsFree}
use Rattle.wac_soundness.specs.Wired.{IsBoundUnder}

-- The instance k of W is one of a package of the graph, of this stated world: it has the package's tag, of which the worlds
-- say what that world exports.
pub record IsOfPackage (define : Bool) (g : Graph) (worlds : Worlds) (W : Wiring ℕ) (k : ℕ) (world : World) : Type 0 where
  pub instance : Instantiation ℕ
  pub there : W.at k ≡ Some instance
  pub packaged : Packaged
  pub is : IsInstantiated g packaged
  pub tagged : instance.tag ≡ tag_of define packaged
  pub says : world ≡ maps_of (stated_of g.types (ItemKind.Component packaged.ty))
  pub told : worlds instance.tag ≡ Some (t.instance world.exports)

-- In all worlds that are true of the packages, what the bytes mean is bound, and the world is true of it.
abbrev pub IsTrueOfBytes : (define : Bool) → Graph → List ℕ → World → Type 0
IsTrueOfBytes define g bytes world = (worlds : Worlds) → AreTrueOf define g worlds → (W : Wiring ℕ) → Means worlds bytes W
    → IsBoundUnder (IsOfPackage define g worlds W) world W

-- So it is of bytes that are the graph's, with its packages nested or imported, and of the world that is handed out.
abbrev pub EncodedWorldsAreTrue : Type 0
EncodedWorldsAreTrue = (define : Bool) (options : EncodeOptions) (g : Graph) (bytes : List ℕ) (types : Collection)
    (world : WorldId) → IsGraph g → IsAcyclic g.types → IsFree options g → IsComposed define g bytes → HasTrueWorld g types world
    → IsTrueOfBytes define g bytes (maps_of (stated_of types (ItemKind.Component world)))
