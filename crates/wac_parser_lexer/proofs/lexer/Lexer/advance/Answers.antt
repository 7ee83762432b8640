use Rattle.std.proofs.Common.{sym, ap, ◌∙◌}
use Rattle.wac_parser_lexer.specs.declared.lexer.Lexer.TheInside.{Inside}
use Rattle.wac_parser_lexer.specs.Items.{Input, rest_input, input_at}
use Rattle.wac_parser_lexer.proofs.ItemLaws.{taken, ended, end_found, else_found}
use Rattle.wac_parser_lexer.proofs.lexer.Lexer.advance.Goals as goal
use Rattle.wac_parser_lexer.proofs.lexer.Lexer.advance.Goals.{then-is_end, else-is_end}

view_of : Inside → Input
view_of s = input_at s.source.now s.at s.last

pub returns : goal.returns
unfolding view_of
returns c =
    let s = c.self.inside in
    elim c.if-is_end.branch [
      | then-is_end w ↦
          let none = end_found s.next.token s.next.fault s.next.span (sym c.is_end.ensures ∙ w.if-is_end.true) in
          ap view_of w.self-inside-is ∙ ended s.source.now s.at s.last (sym c.self.invariant.first ∙ none) ∙ ap rest_input c.self.view_is
      | else-is_end w ↦
          let item = else_found s.next.token s.next.fault s.next.span (sym c.is_end.ensures ∙ w.if-is_end.false) in
          ap view_of w.self-inside-is ∙ taken s.source.now s.at s.last s.next.rest (item.0, s.next.span) (sym c.self.invariant.first ∙ item.1) c.self.invariant.others ∙ ap rest_input c.self.view_is
    ]
