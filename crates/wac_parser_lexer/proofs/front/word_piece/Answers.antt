use Rattle.std.proofs.Common.{◌≡◌, ℕ, false, drop, take, Some, Ok, ap, sym, ◌∙◌, arith, length-take}
use Rattle.wac_parser_lexer.specs.declared.token.Token.{Token}
use Rattle.std.proofs.lemmas.List.{take_rest}
use Rattle.wac_parser_lexer.specs.Scan.{names_go_on}
use Rattle.wac_parser_lexer.specs.Front.{longest_at}
use Rattle.wac_parser_lexer.proofs.FirstLaws.{no_text}
use Rattle.wac_parser_lexer.proofs.KeywordLaws.{keyword}
use Rattle.wac_parser_lexer.proofs.WordPieceLaws.{no_marks, label_some_here, label_longest_at, longest_some, word_front}
use Rattle.wac_parser_lexer.proofs.front.word_piece.Goals as goal

pub longest_word-requires-clause-words : goal.longest_word-requires-clause-words
longest_word-requires-clause-words c =
    let z = c.args.z.now in
    let marks = no_marks z c.requires.some c.requires.letter in
    no_text z marks.0 marks.1

pub returns-then-names_go_on-clause-value : goal.returns-then-names_go_on-clause-value
returns-then-names_go_on-clause-value c = rw c.longest_word.ensures.value (word_front c.args.z.now c.requires.some c.requires.letter)

pub returns-then-names_go_on-clause-fits : goal.returns-then-names_go_on-clause-fits
returns-then-names_go_on-clause-fits c =
    let some = longest_some c.args.z.now c.requires.some c.requires.letter in
    (omega (arith, some, ap (λ (a : Token × ℕ). a.1) c.longest_word.ensures.value), c.longest_word.ensures.fits)

pub keyword-requires : goal.keyword-requires
keyword-requires c =
    let some = label_some_here c.args.z.now c.requires.some c.requires.letter in
    omega (arith, some, c.label_len-label.ensures.value, c.label_len-label.ensures.fits, length-take c.label_len-label.result c.args.z.now)

pub returns-clause-value : goal.returns-clause-value
returns-clause-value c =
    let z = c.args.z.now in
    let label = c.label_len-label.ensures.value in
    let stops : false ≡ names_go_on (drop c.label_len-label.result z) = rw take_rest at (sym c.if-names_go_on.false ∙ c.names_go_on.ensures) in
    let word : longest_at z ≡ (c.keyword.result, c.label_len-label.result) =
    label_longest_at z c.requires.some c.requires.letter (ap (λ n. names_go_on (drop n z)) (sym label) ∙ sym stops)
    ∙ ap (λ n. (keyword (take n z), n)) (sym label) ∙ ap (λ t. (t, c.label_len-label.result)) (sym c.keyword.ensures) in
    word_front z c.requires.some c.requires.letter ∙ ap (λ (a : Token × ℕ). (Some (Ok a.0), a.1)) word

pub returns-clause-fits : goal.returns-clause-fits
returns-clause-fits c =
    let some = label_some_here c.args.z.now c.requires.some c.requires.letter in
    (omega (arith, some, c.label_len-label.ensures.value), c.label_len-label.ensures.fits)
