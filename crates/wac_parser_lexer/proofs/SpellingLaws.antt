-- The keywords and symbols at the front of a text all begin with its first byte.
use Rattle.std.proofs.Common.{◌≡◌, ℕ, ◌<◌, Bool, true, false, cond, eqb, ltb, List, [], ◌∷◌, length, get_or, refl, ap, sym, ◌∙◌, arith}
use Rattle.std.proofs.lemmas.Bool.{and_parts}
use Rattle.std.specs.Prelude.{nat_eq}
use Rattle.std.specs.List.{starts_with, list_all}
use Rattle.wac_parser_lexer.specs.declared.token.Token.{Token}
use Rattle.wac_parser_lexer.specs.declared.token.Token.TheVariants as k
use Rattle.wac_parser_lexer.specs.Spellings.{spellings}
use Rattle.wac_parser_lexer.specs.Begun.{begun_by, spellings_by}
use Rattle.wac_parser_lexer.specs.Front.{longer, spelled_from, spelled_at}
use Rattle.wac_parser_lexer.proofs.Joins.{is_above}

-- each text of a table has a byte
has_texts : List (List ℕ × Token) → Bool
has_texts table = list_all (λ entry. ltb 0 (length entry.0)) table

other_first : (b : ℕ) (z w : List ℕ) → 0 < length w → eqb (get_or w 0 0) b ≡ false → starts_with nat_eq (b ∷ z) w ≡ false
other_first b z [] some e = absurd (omega arith)
other_first b z (c ∷ w) some e = rw e refl

begun_by_test : (best : Token × ℕ) (entry : List ℕ × Token) (table : List (List ℕ × Token)) (b : ℕ) (z : List ℕ)
    → ((a : Token × ℕ) → spelled_from a (begun_by b table) (b ∷ z) ≡ spelled_from a table (b ∷ z)) → 0 < length entry.0 → (t : Bool) → eqb (get_or entry.0 0 0) b ≡ t
    → spelled_from best (cond t (entry ∷ begun_by b table) (begun_by b table)) (b ∷ z) ≡ spelled_from best (entry ∷ table) (b ∷ z)
begun_by_test best entry table b z rest some true e = rest (cond (starts_with nat_eq (b ∷ z) entry.0) (longer best (entry.1, length entry.0)) best)
begun_by_test best entry table b z rest some false e =
    let no = other_first b z entry.0 some e in
    rest best ∙ ap (λ t. spelled_from (cond t (longer best (entry.1, length entry.0)) best) table (b ∷ z)) (sym no)

begun_same : (table : List (List ℕ × Token)) (b : ℕ) (z : List ℕ) → has_texts table ≡ true → (best : Token × ℕ) → spelled_from best (begun_by b table) (b ∷ z) ≡ spelled_from best table (b ∷ z)
unfolding has_texts
begun_same [] b z h best = refl
begun_same (entry ∷ table) b z h best =
    let t = and_parts (ltb 0 (length entry.0)) _ h in
    begun_by_test best entry table b z (begun_same table b z t.1) (is_above (length entry.0) t.0) (eqb (get_or entry.0 0 0) b) refl

texts : has_texts spellings ≡ true
unfolding has_texts spellings
texts = refl

-- those that begin with the first byte are enough
pub spelled_first : (z : List ℕ) → 0 < length z → spelled_from (k.Ident, 0) (spellings_by (get_or z 0 0)) z ≡ spelled_at z
unfolding spelled_at spellings_by
spelled_first [] some = absurd (omega arith)
spelled_first (b ∷ z) some = begun_same spellings b z texts (k.Ident, 0)
