-- The same composition, whose askers and instances have other names: a document's and its graph's are so related.
use Rattle.std.specs.Prelude.{◌≡◌, Bool, map, option_map}
use Rattle.wac_types_base.specs.Entries.{Name}
use Rattle.wac_graph_bytes.specs.Wirings.{rename}
use Rattle.wac_composition.specs.Composition.{Origin, imported, instance, projected, defined, Placed, Made, Composition}
use Rattle.wac_composition.specs.Asks.{Ask, asks_of}
use Rattle.wac_composition.specs.Classes.{spelling}
use Rattle.wac_composition.specs.OuterImports.{outer_imports}
use Rattle.wac_composition.specs.Conflicts.{Cause, ImplicitImport, ExplicitImport, ImportTypes, Unwritable, ImportNames, ExportNames, first_cause, name_cause}
use Rattle.wac_composition.specs.Worlds.{source_of, composed_world}

module _ {I J : Type 0} (g : I → J) where
  abbrev pub origin_renamed : Origin I → Origin J
  origin_renamed (imported n) = imported n
  origin_renamed (instance k) = instance (g k)
  origin_renamed (projected o n) = projected (origin_renamed o) n
  origin_renamed (defined n x) = defined n x

module _ {A B : Type 0} (f : A → B) where
  abbrev pub placed_renamed : Placed A → Placed B
  placed_renamed p = record { by = f p.by; name = p.name; item = p.item }

  abbrev pub ask_renamed : Ask A → Ask B
  ask_renamed a = record { asking = a.asking; by = f a.by; name = a.name; item = a.item }

  abbrev pub cause_renamed : Cause A → Cause B
  cause_renamed (ImplicitImport n i a) = ImplicitImport n (f i) (f a)
  cause_renamed (ExplicitImport n a b) = ExplicitImport n (f a) (f b)
  cause_renamed (ImportTypes n a b) = ImportTypes n (f a) (f b)
  cause_renamed (Unwritable n) = Unwritable n
  cause_renamed (ImportNames m n) = ImportNames m n
  cause_renamed (ExportNames m n) = ExportNames m n

  module _ {I J : Type 0} (g : I → J) where
    abbrev pub made_renamed : Made A I → Made B J
    made_renamed m = record {
      by = f m.by;
      number = g m.number;
      key = m.key;
      world = m.world;
      arguments = map (λ a. (a.0, origin_renamed g a.1)) m.arguments;
    }

    abbrev pub renamed : Composition A I → Composition B J
    renamed c = record {
      imports = map placed_renamed c.imports;
      made = map made_renamed c.made;
      definitions = map placed_renamed c.definitions;
      aliases = c.aliases;
      exports = map (λ e. (e.0, origin_renamed g e.1, e.2)) c.exports;
    }

-- It asks the same, has the same outer imports under the same spellings, the same causes, world and sources.
pub record KeepsMeaning {A B I J : Type 0} (f : A → B) (g : I → J) (c : Composition A I) : Type 0 where
  pub asks : asks_of (renamed f g c) ≡ map (ask_renamed f) (asks_of c)
  pub outers : outer_imports (asks_of (renamed f g c)) ≡ outer_imports (asks_of c)
  pub spelled : (n : Name) → spelling (asks_of (renamed f g c)) n ≡ spelling (asks_of c) n
  pub cause : (define : Bool) → first_cause define (renamed f g c) ≡ option_map (cause_renamed f) (first_cause define c)
  pub names : (define validate : Bool)
      → name_cause define validate (renamed f g c) ≡ option_map (cause_renamed f) (name_cause define validate c)
  pub world : composed_world (renamed f g c) ≡ composed_world c
  pub sources : (o : Origin I) → source_of (asks_of (renamed f g c)) (origin_renamed g o) ≡ rename g (source_of (asks_of c) o)
