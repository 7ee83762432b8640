use Rattle.std.proofs.Common.{arith}
use Rattle.std.proofs.lemmas.Str.{IsCharBoundary-start}
use Rattle.wac_parser_lexer.proofs.lexer.Lexer.new.Goals as goal

pub scan-requires : goal.scan-requires
scan-requires c = IsCharBoundary-start c.args.source.now c.utf8.source

pub invariant_of-result : goal.invariant_of-result
invariant_of-result c = record {
  place = IsCharBoundary-start c.args.source.now c.utf8.source;
  taken = omega arith;
  first = c.scan.ensures.first;
  others = c.scan.ensures.others;
  edge = c.scan.ensures.edge;
  within = c.scan.ensures.within;
  no_docs = c.scan.ensures.no_docs;
}
