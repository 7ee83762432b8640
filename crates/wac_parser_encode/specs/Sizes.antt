-- When what a document says passes 32 bits as a component.
use Rattle.std.specs.Prelude.{◌≡◌, ℕ, true, false, List, None}
use Rattle.wac_types_base.specs.Graph.{Among}
use Rattle.wac_types_base.specs.Tree.{tree}
use Rattle.wac_graph_bytes.specs.Entries.{Entry}
use Rattle.wac_graph_bytes.specs.Meaning.{States}
use Rattle.wac_graph_bytes.specs.Typing.{Worlds}
use Rattle.wac_graph_bytes.specs.Wirings.{Wiring, Same}
use Rattle.wac_composition.specs.Conflicts.{dependency_name, name_cause}
use Rattle.wac_composition.specs.Wired.{composed_wiring}
use Rattle.wac_graph_encode.specs.declared.options.EncodeOptions.{EncodeOptions}
use Rattle.wac_graph_encode.specs.Encoding.{HasUnfit}
use Rattle.wac_parser_ascribed.specs.Tied.{ascribed_wiring}
use Rattle.wac_parser_resolve.specs.Ascribed.{composition}
use Rattle.wac_parser_resolve.specs.Ascribing.{Made, State}
use Rattle.wac_parser_encode.specs.Meaning.{AreTrueAs, AreTrueOf, imported_tag}

-- In these worlds the entries state the wiring that is ascribed, but for the numbers of instances.
pub record StateIn (s : State) (worlds : Worlds) (entries : List Entry) : Type 0 where
  pub meant : Wiring ℕ
  pub states : States worlds entries meant
  pub same : Same (ascribed_wiring s) meant

-- With the packages nested, entries state it in all worlds that are true of the packages; and they do not fit: a count, an
-- index, a length or a size in one of them passes 32 bits.
pub record IsOversized (s : State) : Type 0 where
  pub entries : List Entry
  pub state : (worlds : Worlds) → AreTrueOf s worlds → StateIn s worlds entries
  pub unfit : HasUnfit entries

-- In these worlds the entries state the wiring that is ascribed, and import each package under its dependency's name.
pub record StateImporting (s : State) (worlds : Worlds) (entries : List Entry) : Type 0 where
  pub meant : Wiring ℕ
  pub states : States worlds entries meant
  pub same : Same (composed_wiring imported_tag (composition s)) meant
  pub packages : (m : Made) → Among m s.made → Among (dependency_name m.key, tree m.world) states.last.listed.imports

-- so it is with the packages imported
pub record IsOversizedImporting (s : State) : Type 0 where
  pub entries : List Entry
  pub state : (worlds : Worlds) → AreTrueAs imported_tag s worlds → StateImporting s worlds entries
  pub unfit : HasUnfit entries

-- the entries of its component do not fit
pub record IsPastSize (options : EncodeOptions) (s : State) : Type 0 where
  pub nested : options.define_components ≡ true → IsOversized s
  pub imported : options.define_components ≡ false
      → name_cause false options.validate (composition s) ≡ None → IsOversizedImporting s
