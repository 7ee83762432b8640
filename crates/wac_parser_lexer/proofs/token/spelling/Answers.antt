use Rattle.std.proofs.Common.{rules, ◌≡◌, ℕ, ◌<◌, List, [], ◌∷◌, length, map, get_or, refl, sym, subst, inl, arith, Bor}
use denote.Enum.Bare.{same_true}
use Rattle.wac_parser_lexer.specs.contracts.token.Token.{the_type}
use Rattle.wac_parser_lexer.specs.declared.token.Token.{Token}
use Rattle.wac_parser_lexer.specs.declared.token.Token.TheVariants as k
use Rattle.wac_parser_lexer.specs.Spellings.{Spells, spellings}
use Rattle.wac_parser_lexer.proofs.token.spelling.Goals as goal

pub table-init : goal.table-init
unfolding spellings
table-init c kind w s = s

-- a table spells its first entry
first_spelled : (table : List (Bor (List ℕ) × Token)) (d : Bor (List ℕ) × Token) → 0 < length table → Spells (map (λ e. (e.0.now, e.1)) table) (get_or table 0 d).1 (get_or table 0 d).0.now
first_spelled [] d some = absurd (omega arith)
first_spelled (entry ∷ table) d some = inl (refl, refl)

pub returns-then-eq : goal.returns-then-eq
returns-then-eq c =
    let none : Bor (List ℕ) × Token = (record { ref_ptr = (0, 0); now = [] }, k.Comment) in
    let entry = get_or c.table.table.now 0 none in
    let same : entry.1 ≡ c.args.token = same_true the_type (search rules) _ _ (sym c.if-eq.ensures) in
    let P : Token → Type 0 = λ (t : Token). Spells spellings t entry.0.now in
    subst P same (c.table.invariant entry.1 entry.0.now (first_spelled c.table.table.now none (omega arith)))
