-- Small documents from outside, as a parser gives them, and a value.
use Prim.Native.String.{String}
use Rattle.std.specs.Prelude.{◌≡◌, false, List, [], ◌∷◌, Option, Some, None, codes}
use Rattle.serde_json.specs.Data.{Data, null, number, unsigned, string, array, no_items}
use Rattle.wac_parser_tree.specs.Trees as t
use Rattle.wac_parser_print.specs.Objects.{object_of}
use Rattle.wac_parser_print.specs.Printing.{printed_document}

-- a document that begins with `package a:b`
abbrev pub document_of : Option t.PackagePath → List t.Statement → t.Document
document_of targets statements = record {
  docs = [];
  directive =
      record {
        «package» = record {
          string = codes "a:b";
          name = codes "a:b";
          version = None;
          span = record
              { offset = 8; length = 3 };
        };
        targets = targets;
      };
  statements = statements;
}

-- `package a:b;`
abbrev pub package_alone : t.Document
package_alone = document_of None []

-- `package a:b targets c:d/e;`
abbrev pub with_target : t.Document
with_target =
    document_of (Some (record {
      span = record { offset = 20; length = 5 };
      string = codes "c:d/e";
      name = codes "c:d";
      segments = codes "e";
      version = None;
    })) []

-- `package a:b; type t = ..;`
abbrev pub with_alias : t.TypeAliasKind → t.Document
with_alias kind =
    document_of None (t.Statement.ty (t.TypeStatement.ty (t.TypeDecl.alias
    (record { docs = []; id = record { string = codes "t"; span = record { offset = 18; length = 1 } }; kind = kind }))) ∷ [])

-- `package a:b; type t = func() -> ;`
abbrev pub with_function : t.Document
with_function = with_alias (t.TypeAliasKind.func (record { is_async = false; params = []; results = t.ResultList.empty }))

-- `package a:b; type t = result<_, _>;`
abbrev pub with_result : t.Document
with_result = with_alias (t.TypeAliasKind.ty (t.Ty.result t.no_ty t.no_ty (record { offset = 22; length = 12 })))

-- `{"offset":8,"length":3}`
abbrev pub place_value : Data
place_value = object_of ((codes "offset", number (unsigned 8)) ∷ (codes "length", number (unsigned 3)) ∷ [])

-- `{"string":"a:b","name":"a:b","version":null,"span":..}`
abbrev pub name_value : Data
name_value =
    object_of ((codes "string", string (codes "a:b")) ∷ (codes "name", string (codes "a:b")) ∷ (codes "version", null)
    ∷ (codes "span", place_value) ∷ [])

-- `{"docs":[],"directive":{"package":..},"statements":[]}`
abbrev pub package_value : Data
package_value =
    object_of ((codes "docs", array no_items) ∷ (codes "directive", object_of ((codes "package", name_value) ∷ []))
    ∷ (codes "statements", array no_items) ∷ [])

-- printed with four blanks a level, the document of this source is this text
abbrev pub PrintsAs : String → t.Document → String → Type 0
PrintsAs source x text = printed_document (codes "    ") (codes source) x ≡ codes text
