-- The parts of a printed result.
use Rattle.std.specs.Prelude.{Option, Some, None, codes}
use Rattle.wac_parser_print.specs.Texts.{Text, word, ◌>>◌, enclosed}

-- what stands behind the type of success, by the text of the failure
abbrev pub behind_success : Option Text → Text
behind_success None = word (codes ">")
behind_success (Some text) = enclosed (codes ", ") text
