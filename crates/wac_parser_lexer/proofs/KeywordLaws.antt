-- The keyword of a whole word is the longest keyword at the front of a text that begins with the word.
use Rattle.std.proofs.Common.{◌≡◌, ◌≢◌, ℕ, zero, suc, ◌<◌, ◌≤◌, ◌⊎◌, inl, inr, Bool, true, false, ◌||◌, not, cond, eqb, ltb, eq-eqb, List, [], ◌∷◌, ◌++◌, length, take, get_or, refl, ap, sym, subst, ◌∙◌, arith, append_assoc}
use Rattle.std.proofs.Math.Seq.{take-append_seam}
use Rattle.std.proofs.lemmas.Bool.{eqb-true, and_parts}
use Rattle.std.proofs.lemmas.Bool.Decides.{nat_tests}
use Rattle.std.proofs.lemmas.Slice.Eq.{bytes_eq-Decides}
use Rattle.std.specs.List.{list_all}
use Rattle.std.specs.Str.{bytes_eq}
use Rattle.wac_parser_lexer.specs.declared.token.Token.{Token}
use Rattle.wac_parser_lexer.specs.declared.token.Token.TheVariants as k
use Rattle.wac_parser_lexer.specs.Scan.{word_len, label_len, parts_len, ident_len}
use Rattle.wac_parser_lexer.specs.Spellings.{Spells, spellings}
use Rattle.wac_parser_lexer.specs.Begun.{begun_by, spellings_by, keyword_in}
use Rattle.wac_parser_lexer.specs.Front.{longer, spelled_at}
use Rattle.wac_parser_lexer.proofs.WordLaws.{ident_longest}
use Rattle.wac_parser_lexer.proofs.FrontLaws.{spelled_listed, spelled_most, first_wins}
use Rattle.wac_parser_lexer.proofs.KindLaws.{is_first, ident_first, spelled_once, all_distinct}

-- ---- the keyword that a table has

-- the table spells the word by this token, or has it not
unfoldable pub Kept : List (List ℕ × Token) → List ℕ → Token → Type 0
Kept table w kind = Spells table kind w ⊎ ((kind ≡ k.Ident) × ((other : Token) → Spells table other w → ⊥))

differs : (v w : List ℕ) → bytes_eq v w ≡ false → w ≢ v
differs v w e h = let t : bytes_eq v w ≡ true = (bytes_eq-Decides v w).1 (sym h) in cc

kept_by : (entry : List ℕ × Token) (table : List (List ℕ × Token)) (w : List ℕ) → Kept table w (keyword_in table w) → (t : Bool) → bytes_eq entry.0 w ≡ t → Kept (entry ∷ table) w (cond t entry.1 (keyword_in table w))
unfolding Kept
kept_by entry table w rest true e = inl (inl (sym ((bytes_eq-Decides entry.0 w).0 e), refl))
kept_by entry table w (inl s) false e = inl (inr s)
kept_by entry table w (inr n) false e = inr (n.0, λ other s. elim s [ inl p ↦ differs entry.0 w e p.0 | inr q ↦ n.1 other q ])

kept : (table : List (List ℕ × Token)) (w : List ℕ) → Kept table w (keyword_in table w)
unfolding Kept
kept [] w = inr (refl, λ other s. s)
kept (entry ∷ table) w = kept_by entry table w (kept table w) (bytes_eq entry.0 w) refl

begun_test : (b : ℕ) (entry : List ℕ × Token) (table : List (List ℕ × Token)) (kind : Token) (w : List ℕ) → (Spells (begun_by b table) kind w → Spells table kind w)
    → (t : Bool) → Spells (cond t (entry ∷ begun_by b table) (begun_by b table)) kind w → Spells (entry ∷ table) kind w
begun_test b entry table kind w rest true (inl s) = inl s
begun_test b entry table kind w rest true (inr s) = inr (rest s)
begun_test b entry table kind w rest false s = inr (rest s)

begun_spells : (b : ℕ) (table : List (List ℕ × Token)) (kind : Token) (w : List ℕ) → Spells (begun_by b table) kind w → Spells table kind w
begun_spells b [] kind w s = s
begun_spells b (entry ∷ table) kind w s = begun_test b entry table kind w (begun_spells b table kind w) (eqb (get_or entry.0 0 0) b) s

spells_begun : (table : List (List ℕ × Token)) (kind : Token) (w : List ℕ) → Spells table kind w → Spells (begun_by (get_or w 0 0) table) kind w
spells_begun [] kind w s = s
spells_begun (entry ∷ table) kind w (inl s) = let t : eqb (get_or entry.0 0 0) (get_or w 0 0) ≡ true = eq-eqb _ _ (ap (λ (y : List ℕ). get_or y 0 0) (sym s.0)) in rw t (inl s)
spells_begun (entry ∷ table) kind w (inr s) = later (eqb (get_or entry.0 0 0) (get_or w 0 0)) (spells_begun table kind w s)
  where
    later : (t : Bool) → Spells (begun_by (get_or w 0 0) table) kind w → Spells (cond t (entry ∷ begun_by (get_or w 0 0) table) (begun_by (get_or w 0 0) table)) kind w
    later true s = inr s
    later false s = s

abbrev pub keyword : List ℕ → Token
keyword w = keyword_in (spellings_by (get_or w 0 0)) w

pub keyword_kept : (w : List ℕ) → Kept spellings w (keyword w)
unfolding Kept spellings_by
keyword_kept w = elim (kept (begun_by (get_or w 0 0) spellings) w) [
  | inl s ↦ inl (begun_spells (get_or w 0 0) spellings _ w s)
  | inr n ↦ inr (n.0, λ other s. n.1 other (spells_begun spellings other w s))
]

-- ---- keywords are identifiers

second : (a b : Bool) → (not a || b) ≡ true → a ≡ true → b ≡ true
second true b h e = h
second false b h e = cc

-- what begins as an identifier is one
words_only : List (List ℕ × Token) → Bool
words_only table = list_all (λ entry. not (is_first (get_or entry.0 0 0)) || eqb (ident_len entry.0) (length entry.0)) table

table_words : (table : List (List ℕ × Token)) → words_only table ≡ true → (kind : Token) (w : List ℕ) → Spells table kind w → is_first (get_or w 0 0) ≡ true → ident_len w ≡ length w
unfolding words_only
table_words [] h kind w s e = absurd s
table_words (entry ∷ table) h kind w (inl s) e =
    let t = and_parts (not (is_first (get_or entry.0 0 0)) || eqb (ident_len entry.0) (length entry.0)) _ h in
    let same : eqb (ident_len entry.0) (length entry.0) ≡ true = second (is_first (get_or entry.0 0 0)) _ t.0 (ap (λ (y : List ℕ). is_first (get_or y 0 0)) (sym s.0) ∙ e) in
    ap ident_len s.0 ∙ eqb-true _ _ same ∙ ap length (sym s.0)
table_words (entry ∷ table) h kind w (inr s) e = table_words table (and_parts (not (is_first (get_or entry.0 0 0)) || eqb (ident_len entry.0) (length entry.0)) _ h).1 kind w s e

keyword_is_word : (kind : Token) (w : List ℕ) → Spells spellings kind w → is_first (get_or w 0 0) ≡ true → ident_len w ≡ length w
unfolding words_only spellings is_first ident_len label_len parts_len word_len
keyword_is_word = table_words spellings refl

pub same_first : (z w rest : List ℕ) → z ≡ w ++ rest → 0 < length w → get_or z 0 0 ≡ get_or w 0 0
same_first z [] rest e some = absurd (omega arith)
same_first z (b ∷ w) rest e some = ap (λ (y : List ℕ). get_or y 0 0) e

ident_begins : (z : List ℕ) → 0 < ident_len z → is_first (get_or z 0 0) ≡ true
ident_begins z some =
    let f = ident_longest.found z some in
    let b = ident_first f.0 f.4 in
    ap is_first (same_first z f.0 f.1 f.2 (omega (arith, some, f.3)) ∙ ap (λ (y : List ℕ). get_or y 0 0) b.2) ∙ b.3

no_longer : (z v tail : List ℕ) (kind : Token) → 0 < ident_len z → z ≡ v ++ tail → 0 < length v → Spells spellings kind v → length v ≤ ident_len z
no_longer z v tail kind some e long s =
    let whole = keyword_is_word kind v s (ap is_first (sym (same_first z v tail e long)) ∙ ident_begins z some) in
    let g = ident_longest.found v (omega (arith, whole, long)) in
    let most = ident_longest.greatest g.0 (g.1 ++ tail) g.4 in
    let seam : g.0 ++ (g.1 ++ tail) ≡ z = sym (append_assoc g.0 g.1 tail) ∙ ap (λ (y : List ℕ). y ++ tail) (sym g.2) ∙ sym e in
    omega (arith, most, whole, g.3, ap ident_len seam)

spelled_by : (z : List ℕ) → 0 < ident_len z → (n : ℕ) → (spelled_at z).1 ≡ n → n ≤ ident_len z
spelled_by z some zero e = omega arith
spelled_by z some (suc n) e =
    let s = spelled_listed z (omega (arith, e)) in
    let few = no_longer z s.0 s.1 (spelled_at z).0 some s.2 (omega (arith, s.3, e)) s.4 in
    omega (arith, few, s.3, e)

-- ---- the longer of both

same_front : (z v w r s : List ℕ) → z ≡ v ++ r → z ≡ w ++ s → length v ≡ length w → v ≡ w
same_front z v w r s e f size = sym (ap (take (length v)) e ∙ take-append_seam v r) ∙ ap (λ n. take n z) size ∙ ap (take (length w)) f ∙ take-append_seam w s

module _ (z w rest : List ℕ) (e : z ≡ w ++ rest) (size : length w ≡ ident_len z) (some : 0 < ident_len z) where
  spells_whole : (spelled_at z).1 ≡ ident_len z → Spells spellings (spelled_at z).0 w
  spells_whole same =
      let s = spelled_listed z (omega (arith, some, same)) in
      let P : List ℕ → Type 0 = Spells spellings (spelled_at z).0 in
      subst P (same_front z s.0 w s.1 rest s.2 e (omega (arith, s.3, size, same))) s.4

  longer_kept : (kind : Token) → Kept spellings w kind → longer (spelled_at z) (k.Ident, ident_len z) ≡ (kind, ident_len z)
  unfolding Kept
  longer_kept kind (inl s) =
      let most = spelled_most z kind w rest e s in
      let few = spelled_by z some (spelled_at z).1 refl in
      let same : (spelled_at z).1 ≡ ident_len z = omega (arith, most, few, size) in
      let one : (spelled_at z).0 ≡ kind = spelled_once spellings all_distinct (spelled_at z).0 kind w (spells_whole same) s in
      first_wins (spelled_at z) (k.Ident, ident_len z) (omega (arith, same)) ∙ ap (λ (a : Token). (a, (spelled_at z).1)) one ∙ ap (λ n. (kind, n)) same
  longer_kept kind (inr n) =
      let few = spelled_by z some (spelled_at z).1 refl in
      let other : (spelled_at z).1 ≢ ident_len z = λ same. n.1 (spelled_at z).0 (spells_whole same) in
      ap (λ t. cond t (k.Ident, ident_len z) (spelled_at z)) (below (spelled_at z).1 (ident_len z) few other) ∙ ap (λ (a : Token). (a, ident_len z)) (sym n.0)
    where
      below : (a b : ℕ) → a ≤ b → a ≢ b → ltb a b ≡ true
      below a b h d = grind (arith, nat_tests)

pub keyword_longest : (z : List ℕ) → 0 < ident_len z → longer (spelled_at z) (k.Ident, ident_len z) ≡ (keyword (take (ident_len z) z), ident_len z)
keyword_longest z some =
    let f = ident_longest.found z some in
    let word : f.0 ≡ take (ident_len z) z = sym (ap (take (ident_len z)) f.2 ∙ ap (λ n. take n (f.0 ++ f.1)) (sym f.3) ∙ take-append_seam f.0 f.1) in
    longer_kept z f.0 f.1 f.2 f.3 some (keyword f.0) (keyword_kept f.0) ∙ ap (λ (y : List ℕ). (keyword y, ident_len z)) word
