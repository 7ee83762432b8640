use Rattle.wac_parser_lexer.specs.Items.{input_of}
use Rattle.wac_parser_lexer.specs.Refused.{first_refused}
use Rattle.wac_parser_grammar.specs.Documents.{document}
use Rattle.wac_parser_grammar.specs.Places.{here}
use Rattle.wac_parser_grammar.proofs.NameLaws.{package_name_exact, new_package_exact, package_path_exact}
use Rattle.wac_parser_grammar.proofs.DocumentLaws.{document_exact, read_by}
use Rattle.wac_parser_grammar.proofs.PathLaws.{place_in, name_stands, new_stands, path_stands}
use Rattle.wac_parser_grammar.proofs.PathsOfTrees.{document_brings}
use Rattle.wac_parser_grammar.proofs.laws.parsed_paths_stand.Goals as goal

pub returns : goal.returns
returns c = record {
  name = λ source text s behind x r h. name_stands source s (place_in source text s behind) x r (package_name_exact.sound s x r h);
  new = λ source text s behind x r h. new_stands source s (place_in source text s behind) x r (new_package_exact.sound s x r h);
  path = λ source text s behind x r h. path_stands source s (place_in source text s behind) x r (package_path_exact.sound s x r h);
  document = λ source text d h.
      (let s = input_of source in
      let b = read_by (first_refused source) (document.read s) d h in
      (document_brings source).brings s d b.1 (place_in source text s here) (document_exact.sound s d b.1 b.2));
}
