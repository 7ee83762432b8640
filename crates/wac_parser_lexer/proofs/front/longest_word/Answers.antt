use Rattle.std.proofs.Common.{◌∙◌, sym}
use Rattle.wac_parser_lexer.proofs.FirstLaws.{no_names, ident_longest, words_longest}
use Rattle.wac_parser_lexer.proofs.front.longest_word.Goals as goal

pub returns-then-ident-eq0-clause-value : goal.returns-then-ident-eq0-clause-value
returns-then-ident-eq0-clause-value c =
    let none = no_names c.args.z.now (sym c.ident_len-ident.ensures.value ∙ c.if-ident-eq0.true) in
    c.spelled_or_ident-best.ensures.value ∙ sym (ident_longest c.args.z.now c.requires.words none)

pub returns-then-names-eq0-clause-value : goal.returns-then-names-eq0-clause-value
returns-then-names-eq0-clause-value c =
    c.spelled_or_ident-best.ensures.value ∙ sym (ident_longest c.args.z.now c.requires.words (sym c.names_len-names.ensures.value ∙ c.if-names-eq0.true))

pub returns-clause-value : goal.returns-clause-value
returns-clause-value c =
    c.longer.ensures
    ∙ rw (c.longer-best.ensures) (rw (c.spelled_or_ident-best.ensures.value, c.package_name_len.ensures.value, c.package_path_len.ensures.value) (sym (words_longest c.args.z.now c.requires.words)))
