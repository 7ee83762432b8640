-- Byte strings from outside, and what they mean.
use Rattle.std.specs.Prelude.{ℕ, false, List, [], ◌∷◌, Some, None, codes}
use Rattle.wac_types_base.specs.Record.{Collection}
use Rattle.wac_types_base.specs.Collection.{func, empty}
use Rattle.wac_types_base.specs.declared.item.PrimitiveType.TheVariants as prim
use Rattle.wac_types_base.specs.declared.item.ValueType.{ValueType}
use Rattle.wac_types_base.specs.declared.item.«Type».{«Type» as TypeKind}
use Rattle.wac_types_base.specs.declared.item.ItemKind.{ItemKind}
use Rattle.wac_types_base.specs.declared.defined.DefinedType.{DefinedType}
use Rattle.wac_types_base.specs.declared.ids.InterfaceId.{InterfaceId}
use Rattle.wac_graph_bytes.specs.declared.value.ValueType.TheVariants.{Primitive, Index}
use Rattle.wac_graph_bytes.specs.declared.value.Description.TheVariants as desc
use Rattle.wac_graph_bytes.specs.Entries.{OwnEntry, ListEntry, FuncEntry, Declarations, End, TypeThen, ExportThen}
use Rattle.wac_types_base.specs.Tree.{Tree, rigid, end, gap}
use Rattle.wac_graph_bytes.specs.Wirings.{Outer, Wiring}
use Rattle.wac_graph_bytes.specs.Meaning.{nothing_listed, wiring_of}

-- a component that imports a function `f` and exports it as `g`
abbrev pub passed_bytes : List ℕ
passed_bytes = 0x00 ∷ 0x61 ∷ 0x73 ∷ 0x6d ∷ 0x0d ∷ 0x00 ∷ 0x01 ∷ 0x00
    ∷ 0x07 ∷ 0x05 ∷ 0x01 ∷ 0x40 ∷ 0x00 ∷ 0x01 ∷ 0x00
    ∷ 0x0a ∷ 0x06 ∷ 0x01 ∷ 0x00 ∷ 0x01 ∷ 0x66 ∷ 0x01 ∷ 0x00
    ∷ 0x0b ∷ 0x07 ∷ 0x01 ∷ 0x00 ∷ 0x01 ∷ 0x67 ∷ 0x01 ∷ 0x00 ∷ 0x00 ∷ []

-- a function without parameters and without an answer
abbrev pub plain_func : Tree
plain_func = rigid (func [] false) (gap end)

abbrev pub passed_wiring : Wiring ℕ
passed_wiring =
    wiring_of (record { imports = (codes "f", plain_func) ∷ []; instances = []; exports = (codes "g", Outer (codes "f")) ∷ [] })

-- the same with the export twice
abbrev pub twice_bytes : List ℕ
twice_bytes = 0x00 ∷ 0x61 ∷ 0x73 ∷ 0x6d ∷ 0x0d ∷ 0x00 ∷ 0x01 ∷ 0x00
    ∷ 0x07 ∷ 0x05 ∷ 0x01 ∷ 0x40 ∷ 0x00 ∷ 0x01 ∷ 0x00
    ∷ 0x0a ∷ 0x06 ∷ 0x01 ∷ 0x00 ∷ 0x01 ∷ 0x66 ∷ 0x01 ∷ 0x00
    ∷ 0x0b ∷ 0x0d ∷ 0x02 ∷ 0x00 ∷ 0x01 ∷ 0x67 ∷ 0x01 ∷ 0x00 ∷ 0x00 ∷ 0x00 ∷ 0x01 ∷ 0x67 ∷ 0x01 ∷ 0x00 ∷ 0x00 ∷ []

-- a component that imports a function under a name that is no UTF-8: the byte 255
abbrev pub unspeakable_bytes : List ℕ
unspeakable_bytes = 0x00 ∷ 0x61 ∷ 0x73 ∷ 0x6d ∷ 0x0d ∷ 0x00 ∷ 0x01 ∷ 0x00
    ∷ 0x07 ∷ 0x05 ∷ 0x01 ∷ 0x40 ∷ 0x00 ∷ 0x01 ∷ 0x00
    ∷ 0x0a ∷ 0x06 ∷ 0x01 ∷ 0x00 ∷ 0x01 ∷ 0xff ∷ 0x01 ∷ 0x00 ∷ []

-- a component with nothing but the name and version of the program that wrote it
abbrev pub empty_bytes : List ℕ
empty_bytes = 0x00 ∷ 0x61 ∷ 0x73 ∷ 0x6d ∷ 0x0d ∷ 0x00 ∷ 0x01 ∷ 0x00 ∷ 0x00 ∷ 0x2b
    ∷ 0x09 ∷ 0x70 ∷ 0x72 ∷ 0x6f ∷ 0x64 ∷ 0x75 ∷ 0x63 ∷ 0x65 ∷ 0x72 ∷ 0x73 ∷ 0x01
    ∷ 0x0c ∷ 0x70 ∷ 0x72 ∷ 0x6f ∷ 0x63 ∷ 0x65 ∷ 0x73 ∷ 0x73 ∷ 0x65 ∷ 0x64 ∷ 0x2d ∷ 0x62 ∷ 0x79 ∷ 0x01
    ∷ 0x0a ∷ 0x77 ∷ 0x61 ∷ 0x63 ∷ 0x2d ∷ 0x70 ∷ 0x61 ∷ 0x72 ∷ 0x73 ∷ 0x65 ∷ 0x72
    ∷ 0x06 ∷ 0x30 ∷ 0x2e ∷ 0x31 ∷ 0x31 ∷ 0x2e ∷ 0x30 ∷ []

abbrev pub empty_wiring : Wiring ℕ
empty_wiring = wiring_of nothing_listed

-- ---- an interface that exports a resource `r` and a function `f` from it to a list of numbers

-- as the declarations of an instance type
abbrev pub interface_declarations : Declarations
interface_declarations =
    ExportThen (codes "r") desc.Resource
    (TypeThen (OwnEntry 0)
    (TypeThen (ListEntry (Primitive prim.U32))
    (TypeThen (FuncEntry false ((codes "x", Index 1) ∷ []) (Some (Index 2)))
    (ExportThen (codes "f") (desc.Func 3) End))))

-- and in a collection
abbrev pub interface_collection : Collection
interface_collection = record (empty 7) {
  defined_types = DefinedType.List (ValueType.Primitive prim.U32) ∷ [];
  resources = record { name = codes "r"; alias = None } ∷ [];
  func_types =
      record {
        params = (codes "x", ValueType.Own (record { collection = 7; index = 0 }))
            ∷ [];
        result = Some (ValueType.Defined (record { collection = 7; index = 0 }));
        is_async = false;
      } ∷ [];
  interfaces =
      record {
        id = None;
        uses = [];
        exports = (
          codes "r",
          ItemKind.Ty
              (TypeKind.Resource (record { collection = 7; index = 0 })),
        )
            ∷ (codes "f", ItemKind.Func (record { collection = 7; index = 0 })) ∷ [];
      } ∷ [];
}

abbrev pub interface_id : InterfaceId
interface_id = record { collection = 7; index = 0 }
