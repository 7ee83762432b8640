-- The JSON text of a document.
use Rattle.std.specs.Prelude.{ℕ, List}
use Rattle.serde_json.specs.Written.{compact_text}
use Rattle.wac_parser_tree.specs.Trees as t
use Rattle.wac_parser_print.specs.Values as values

-- the text of the document's value, without white space, the members of each object by ascending name
abbrev pub json_text : t.Document → List ℕ
json_text x = compact_text (values.document x)
