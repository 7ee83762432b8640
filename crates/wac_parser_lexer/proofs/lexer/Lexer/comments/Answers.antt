use Rattle.std.proofs.Common.{◌≡◌, List, map, IfOk, ap, sym, subst, ◌∙◌}
use Rattle.wac_parser_lexer.specs.Items.{Doc, docs_ahead}
use Rattle.wac_parser_lexer.specs.Docs.{doc_of}
use Rattle.wac_parser_lexer.proofs.DocLaws.{docs_first}
use Rattle.wac_parser_lexer.proofs.lexer.Lexer.comments.Goals as goal

pub returns-then-self : goal.returns-then-self
returns-then-self c =
    ap (map doc_of) c.new.ensures.items ∙ sym (c.self.invariant.no_docs c.if-self.true)
    ∙ docs_first c.self.inside.source.now c.self.inside.at c.self.inside.last ∙ ap docs_ahead c.self.view_is

pub returns : goal.returns
returns c =
    let P : List Doc → Type 0 = λ (ds : List Doc). IfOk c.docs_from.result (λ v. map doc_of v.items ≡ ds) in
    subst P (docs_first c.self.inside.source.now c.self.inside.at c.self.inside.last ∙ ap docs_ahead c.self.view_is) c.docs_from.ensures
