-- The bytes of one declaration of the code.
use Rattle.std.specs.Prelude.{ℕ, Bool, List}
use Rattle.wac_graph_bytes.specs.declared.entry.Declaration.{Declaration}
use Rattle.wac_graph_bytes.specs.Entries.{End}
use Rattle.wac_graph_bytes.specs.Spelling.{declaration_bytes}
use Rattle.wac_graph_bytes.specs.Sizes.{declarations_fit}
use Rattle.wac_graph_bytes.specs.Views.{before}

abbrev pub one_bytes : Declaration → List ℕ
one_bytes d = declaration_bytes (before d End)

abbrev pub one_fits : Declaration → Bool
one_fits d = declarations_fit (before d End)
