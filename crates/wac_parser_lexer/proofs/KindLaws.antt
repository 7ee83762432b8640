-- The kind of the longest token at a place is only one.
use Rattle.std.proofs.Common.{◌≡◌, ◌≢◌, ℕ, zero, suc, ◌≤◌, ◌⊎◌, inl, inr, Bool, true, false, ◌&&◌, ◌||◌, not, cond, eqb, List, [], ◌∷◌, ◌++◌, length, take, get_or, Option, Some, None, refl, ap, sym, subst, ◌∙◌, arith, eq-eqb}
use Rattle.std.proofs.lemmas.Bool.{and_parts, or_right}
use Rattle.std.proofs.lemmas.Option.{same_Some}
use Rattle.std.proofs.Math.Seq.{take-append_seam}
use Rattle.std.specs.List.{list_all}
use Rattle.std.specs.Str.{bytes_eq}
use Rattle.std.proofs.lemmas.Slice.Eq.{bytes_eq-Decides}
use Rattle.std.proofs.lemmas.Bool.Decides.{nat_tests}
use Rattle.wac_parser_lexer.proofs.FirstLaws.{apart}
use Rattle.wac_parser_lexer.specs.declared.token.Token.{Token}
use Rattle.wac_parser_lexer.specs.declared.token.Token.TheVariants as k
use Rattle.wac_parser_lexer.specs.Words.{is_lower, is_upper, is_digit, is_version_byte, IsRun, IsWord, Joined, one, more, Followed, Suffixed, IsLabel, IsIdent, IsNames, IsPath, IsVersion, IsPackageName, IsPackagePath, IsString, IsLineComment, IsBlockComment}
use Rattle.wac_parser_lexer.specs.Spellings.{Spells, spellings}
use Rattle.wac_parser_lexer.specs.Tokens.{IsToken, comment, block_comment, ident, string, package_name, package_path, spelled, IsNext}
use Rattle.wac_parser_lexer.specs.Front.{token_at}
use Rattle.wac_parser_lexer.proofs.WordLaws.{Lacks, ident_lacks_colon, ident_lacks_slash, joined_lacks, followed_lacks, run_lacks, names_lacks}
use Rattle.wac_parser_lexer.proofs.FrontLaws.{token_next, token_none}

-- ---- the kind that a text of a class has, by its bytes

unfoldable pub is_first : ℕ → Bool
is_first c = is_lower c || is_upper c || eqb c 37

has : ℕ → List ℕ → Bool
has x [] = false
has x (b ∷ w) = eqb b x || has x w

named : List ℕ → Token
named w = cond (has 58 w) (cond (has 47 w) k.PackagePath k.PackageName) k.Ident

marked : ℕ → ℕ → Option Token
marked b c = cond (eqb b 34) (Some k.String) (cond (eqb b 47) (cond (eqb c 47) (Some k.Comment) (cond (eqb c 42) (Some k.BlockComment) None)) None)

class_of : List ℕ → Option Token
class_of w = cond (is_first (get_or w 0 0)) (Some (named w)) (marked (get_or w 0 0) (get_or w 1 0))

has_by : (x b : ℕ) (v w : List ℕ) → (has x v ≡ true → has x (v ++ w) ≡ true) → (eqb b x || has x v) ≡ true → (t : Bool) → eqb b x ≡ t → (eqb b x || has x (v ++ w)) ≡ true
has_by x b v w goes h true e = rw e refl
has_by x b v w goes h false e = let k : has x v ≡ true = rw e at h in or_right (eqb b x) (has x (v ++ w)) (goes k)

has_append : (x : ℕ) (v w : List ℕ) → has x v ≡ true → has x (v ++ w) ≡ true
unfolding has
has_append x [] w h = cc
has_append x (b ∷ v) w h = has_by x b v w (has_append x v w) h (eqb b x) refl

has_at : (x : ℕ) (v w : List ℕ) → has x (v ++ x ∷ w) ≡ true
unfolding has
has_at x [] w = rw (eq-eqb x x refl) refl
has_at x (b ∷ v) w = or_right (eqb b x) (has x (v ++ x ∷ w)) (has_at x v w)

lacks_has : (x : ℕ) (w : List ℕ) → Lacks x w → has x w ≡ false
unfolding has
lacks_has x [] h = refl
lacks_has x (b ∷ w) h =
    let first : b ≢ x = h zero (omega arith) in
    let test : eqb b x ≡ false = apart b x first in
    rw test (lacks_has x w (λ i l. h (suc i) (omega arith)))

-- ---- the first byte

abbrev pub First : List ℕ → Type 0
First w = (c : ℕ) × (rest : List ℕ) × (w ≡ c ∷ rest) × (is_first c ≡ true)

first_append : (v w : List ℕ) → First v → First (v ++ w)
first_append v w h = (h.0, h.1 ++ w, ap (λ (y : List ℕ). y ++ w) h.2, h.3)

lower_first : (c : ℕ) → is_lower c ≡ true → is_first c ≡ true
unfolding is_first
lower_first c h = rw h refl

upper_first : (c : ℕ) → is_upper c ≡ true → is_first c ≡ true
unfolding is_first
upper_first c h = rw h (upper_by (is_lower c))
  where
    upper_by : (a : Bool) → (a || true || eqb c 37) ≡ true
    upper_by true = refl
    upper_by false = refl

word_first : (w : List ℕ) → IsWord w → First w
word_first [] h = absurd h
word_first (c ∷ cs) (inl h) = (c, cs, refl, lower_first c h.0)
word_first (c ∷ cs) (inr h) = (c, cs, refl, upper_first c h.0)

label_first : (w : List ℕ) → IsLabel w → First w
label_first _ (one {w = w} h) = word_first w h
label_first _ (more {w = v} {ws = ws} h j) = first_append v (45 ∷ ws) (word_first v h)

pub ident_first : (w : List ℕ) → IsIdent w → First w
unfolding is_first
ident_first w (inl h) = label_first w h
ident_first w (inr h) = (37, h.0, h.2, refl)

followed_first : (joint : ℕ) (L M : List ℕ → Type 0) → ((w : List ℕ) → L w → First w) → (w : List ℕ) → Followed L joint M w → First w
followed_first joint L M first w h = let P : List ℕ → Type 0 = First in subst P (sym h.4) (first_append h.0 (joint ∷ h.1) (first h.0 h.2))

suffixed_first : (joint : ℕ) (L M : List ℕ → Type 0) → ((w : List ℕ) → L w → First w) → (w : List ℕ) → Suffixed L joint M w → First w
suffixed_first joint L M first w (inl h) = first w h
suffixed_first joint L M first w (inr h) = followed_first joint L M first w h

names_first : (w : List ℕ) → IsNames w → First w
names_first = followed_first 58 IsIdent (Joined IsIdent 58) ident_first

path_first : (w : List ℕ) → IsPath w → First w
path_first = followed_first 47 IsNames (Joined IsIdent 47) names_first

class_first : (w : List ℕ) → First w → class_of w ≡ Some (named w)
unfolding class_of
class_first w h = let e : is_first (get_or w 0 0) ≡ true = ap (λ (y : List ℕ). is_first (get_or y 0 0)) h.2 ∙ h.3 in rw e refl

-- ---- each class

suffixed_lacks : (x joint : ℕ) (L M : List ℕ → Type 0) → ((w : List ℕ) → L w → Lacks x w) → ((w : List ℕ) → M w → Lacks x w) → joint ≢ x → (w : List ℕ) → Suffixed L joint M w → Lacks x w
suffixed_lacks x joint L M h k apart w (inl s) = h w s
suffixed_lacks x joint L M h k apart w (inr s) = followed_lacks x joint L M h k apart w s

version_lacks_slash : (w : List ℕ) → IsVersion w → Lacks 47 w
version_lacks_slash = suffixed_lacks 47 46 (IsRun is_digit) (Joined (IsRun is_version_byte) 46) (run_lacks 47 is_digit refl) (joined_lacks 47 46 (IsRun is_version_byte) (run_lacks 47 is_version_byte refl) (λ e. omega arith)) (λ e. omega arith)

name_lacks_slash : (w : List ℕ) → IsPackageName w → Lacks 47 w
name_lacks_slash = suffixed_lacks 47 64 IsNames IsVersion (names_lacks 47 ident_lacks_slash (λ e. omega arith)) version_lacks_slash (λ e. omega arith)

followed_has : (joint : ℕ) (L M : List ℕ → Type 0) → (w : List ℕ) → Followed L joint M w → has joint w ≡ true
followed_has joint L M w h = ap (has joint) h.4 ∙ has_at joint h.0 h.1

followed_keeps : (x joint : ℕ) (L M : List ℕ → Type 0) → ((w : List ℕ) → L w → has x w ≡ true) → (w : List ℕ) → Followed L joint M w → has x w ≡ true
followed_keeps x joint L M keeps w h = ap (has x) h.4 ∙ has_append x h.0 (joint ∷ h.1) (keeps h.0 h.2)

suffixed_keeps : (x joint : ℕ) (L M : List ℕ → Type 0) → ((w : List ℕ) → L w → has x w ≡ true) → (w : List ℕ) → Suffixed L joint M w → has x w ≡ true
suffixed_keeps x joint L M keeps w (inl h) = keeps w h
suffixed_keeps x joint L M keeps w (inr h) = followed_keeps x joint L M keeps w h

names_colon : (w : List ℕ) → IsNames w → has 58 w ≡ true
names_colon = followed_has 58 IsIdent (Joined IsIdent 58)

path_colon : (w : List ℕ) → IsPath w → has 58 w ≡ true
path_colon = followed_keeps 58 47 IsNames (Joined IsIdent 47) names_colon

ident_class : (w : List ℕ) → IsIdent w → class_of w ≡ Some k.Ident
unfolding named
ident_class w h = class_first w (ident_first w h) ∙ rw (lacks_has 58 w (ident_lacks_colon w h)) refl

name_class : (w : List ℕ) → IsPackageName w → class_of w ≡ Some k.PackageName
unfolding named
name_class w h =
    class_first w (suffixed_first 64 IsNames IsVersion names_first w h)
    ∙ rw (suffixed_keeps 58 64 IsNames IsVersion names_colon w h, lacks_has 47 w (name_lacks_slash w h)) refl

path_class : (w : List ℕ) → IsPackagePath w → class_of w ≡ Some k.PackagePath
unfolding named
path_class w h =
    class_first w (suffixed_first 64 IsPath IsVersion path_first w h)
    ∙ rw (suffixed_keeps 58 64 IsPath IsVersion path_colon w h, suffixed_keeps 47 64 IsPath IsVersion (followed_has 47 IsNames (Joined IsIdent 47)) w h) refl

string_class : (w : List ℕ) → IsString w → class_of w ≡ Some k.String
unfolding class_of is_first marked
string_class w h = rw h.2 refl

line_class : (w : List ℕ) → IsLineComment w → class_of w ≡ Some k.Comment
unfolding class_of is_first marked
line_class w h = rw h.2 refl

block_class : (w : List ℕ) → IsBlockComment w → class_of w ≡ Some k.BlockComment
unfolding class_of is_first marked
block_class w h = rw h.2 refl

-- ---- the table

is_other : Option Token → Bool
is_other None = true
is_other (Some k.Ident) = true
is_other (Some _) = false

table_class : (table : List (List ℕ × Token)) → list_all (λ entry. is_other (class_of entry.0)) table ≡ true → (kind : Token) (w : List ℕ) → Spells table kind w → is_other (class_of w) ≡ true
table_class [] h kind w s = absurd s
table_class (entry ∷ table) h kind w (inl s) = ap (λ (y : List ℕ). is_other (class_of y)) s.0 ∙ (and_parts (is_other (class_of entry.0)) _ h).0
table_class (entry ∷ table) h kind w (inr s) = table_class table (and_parts (is_other (class_of entry.0)) _ h).1 kind w s

spelled_class : (kind : Token) (w : List ℕ) → Spells spellings kind w → is_other (class_of w) ≡ true
unfolding spellings is_other class_of is_first named has marked
spelled_class = table_class spellings refl

-- no text stands twice
unfoldable pub distinct : List (List ℕ × Token) → Bool
distinct [] = true
distinct (entry ∷ table) = list_all (λ other. not (bytes_eq other.0 entry.0)) table && distinct table

not_again : (table : List (List ℕ × Token)) (v : List ℕ) → list_all (λ other. not (bytes_eq other.0 v)) table ≡ true → (kind : Token) → Spells table kind v → ⊥
not_again [] v h kind s = s
not_again (entry ∷ table) v h kind (inl s) =
    let t = and_parts (not (bytes_eq entry.0 v)) _ h in
    let e : bytes_eq entry.0 v ≡ true = (bytes_eq-Decides entry.0 v).1 (sym s.0) in
    let f : not (bytes_eq entry.0 v) ≡ false = rw e refl in
    (let u = t.0 in cc)
not_again (entry ∷ table) v h kind (inr s) = not_again table v (and_parts (not (bytes_eq entry.0 v)) _ h).1 kind s

pub spelled_once : (table : List (List ℕ × Token)) → distinct table ≡ true → (a b : Token) (w : List ℕ) → Spells table a w → Spells table b w → a ≡ b
unfolding distinct
spelled_once [] h a b w s t = absurd s
spelled_once (entry ∷ table) h a b w (inl s) (inl t) = s.1 ∙ sym t.1
spelled_once (entry ∷ table) h a b w (inl s) (inr t) =
    let P : List ℕ → Type 0 = λ (y : List ℕ). Spells table b y in absurd (not_again table entry.0 (and_parts _ (distinct table) h).0 b (subst P s.0 t))
spelled_once (entry ∷ table) h a b w (inr s) (inl t) =
    let P : List ℕ → Type 0 = λ (y : List ℕ). Spells table a y in absurd (not_again table entry.0 (and_parts _ (distinct table) h).0 a (subst P t.0 s))
spelled_once (entry ∷ table) h a b w (inr s) (inr t) = spelled_once table (and_parts _ (distinct table) h).1 a b w s t

pub all_distinct : distinct spellings ≡ true
unfolding distinct spellings
all_distinct = refl

-- ---- one kind

-- a token is of a class, or in the table
Kinds : Token → List ℕ → Type 0
Kinds kind w = (class_of w ≡ Some kind) ⊎ Spells spellings kind w

kinds : (kind : Token) (w : List ℕ) → IsToken kind w → Kinds kind w
unfolding Kinds
kinds _ w (comment h) = inl (line_class w h)
kinds _ w (block_comment h) = inl (block_class w h)
kinds _ w (ident h) = inl (ident_class w h)
kinds _ w (string h) = inl (string_class w h)
kinds _ w (package_name h) = inl (name_class w h)
kinds _ w (package_path h) = inl (path_class w h)
kinds kind w (spelled h) = inr h

other_is_ident : (kind : Token) → is_other (Some kind) ≡ true → kind ≡ k.Ident
unfolding is_other
other_is_ident k.Comment h = cc
other_is_ident k.BlockComment h = cc
other_is_ident k.Ident h = refl
other_is_ident k.String h = cc
other_is_ident k.PackageName h = cc
other_is_ident k.PackagePath h = cc
other_is_ident k.ImportKeyword h = cc
other_is_ident k.WithKeyword h = cc
other_is_ident k.TypeKeyword h = cc
other_is_ident k.TupleKeyword h = cc
other_is_ident k.ListKeyword h = cc
other_is_ident k.OptionKeyword h = cc
other_is_ident k.ResultKeyword h = cc
other_is_ident k.BorrowKeyword h = cc
other_is_ident k.ResourceKeyword h = cc
other_is_ident k.VariantKeyword h = cc
other_is_ident k.RecordKeyword h = cc
other_is_ident k.FlagsKeyword h = cc
other_is_ident k.EnumKeyword h = cc
other_is_ident k.FuncKeyword h = cc
other_is_ident k.StaticKeyword h = cc
other_is_ident k.ConstructorKeyword h = cc
other_is_ident k.U8Keyword h = cc
other_is_ident k.S8Keyword h = cc
other_is_ident k.U16Keyword h = cc
other_is_ident k.S16Keyword h = cc
other_is_ident k.U32Keyword h = cc
other_is_ident k.S32Keyword h = cc
other_is_ident k.U64Keyword h = cc
other_is_ident k.S64Keyword h = cc
other_is_ident k.F32Keyword h = cc
other_is_ident k.F64Keyword h = cc
other_is_ident k.CharKeyword h = cc
other_is_ident k.BoolKeyword h = cc
other_is_ident k.StringKeyword h = cc
other_is_ident k.InterfaceKeyword h = cc
other_is_ident k.WorldKeyword h = cc
other_is_ident k.ExportKeyword h = cc
other_is_ident k.NewKeyword h = cc
other_is_ident k.LetKeyword h = cc
other_is_ident k.UseKeyword h = cc
other_is_ident k.IncludeKeyword h = cc
other_is_ident k.AsKeyword h = cc
other_is_ident k.PackageKeyword h = cc
other_is_ident k.TargetsKeyword h = cc
other_is_ident k.AsyncKeyword h = cc
other_is_ident k.StreamKeyword h = cc
other_is_ident k.FutureKeyword h = cc
other_is_ident k.ErrorContextKeyword h = cc
other_is_ident k.Semicolon h = cc
other_is_ident k.OpenBrace h = cc
other_is_ident k.CloseBrace h = cc
other_is_ident k.Colon h = cc
other_is_ident k.Equals h = cc
other_is_ident k.OpenParen h = cc
other_is_ident k.CloseParen h = cc
other_is_ident k.Arrow h = cc
other_is_ident k.OpenAngle h = cc
other_is_ident k.CloseAngle h = cc
other_is_ident k.Underscore h = cc
other_is_ident k.OpenBracket h = cc
other_is_ident k.CloseBracket h = cc
other_is_ident k.Dot h = cc
other_is_ident k.Ellipsis h = cc
other_is_ident k.Comma h = cc
other_is_ident k.Slash h = cc
other_is_ident k.At h = cc

apart_kinds : (a b : Token) (w : List ℕ) → class_of w ≡ Some a → Spells spellings b w → (a ≡ k.Ident → (other : Token) → Spells spellings other w → ⊥) → a ≡ b
apart_kinds a b w e s keyword = absurd (keyword (other_is_ident a (ap is_other (sym e) ∙ spelled_class b w s)) b s)

one_kind : (a b : Token) (w : List ℕ) → Kinds a w → Kinds b w → (a ≡ k.Ident → (other : Token) → Spells spellings other w → ⊥) → (b ≡ k.Ident → (other : Token) → Spells spellings other w → ⊥) → a ≡ b
unfolding Kinds
one_kind a b w (inl e) (inl f) h l = same_Some _ _ (sym e ∙ f)
one_kind a b w (inl e) (inr t) h l = apart_kinds a b w e t h
one_kind a b w (inr s) (inl f) h l = sym (apart_kinds b a w f s l)
one_kind a b w (inr s) (inr t) h l = spelled_once spellings all_distinct a b w s t

not_above : (m n : ℕ) → m ≤ n → n ≤ m → m ≡ n
not_above m n a b = omega arith

same_word : (z : List ℕ) (a b : Token) (v w r s : List ℕ) → IsNext z a v r → IsNext z b w s → v ≡ w
same_word z a b v w r s g h =
    let less = h.longest a v r g.split g.is in
    let more = g.longest b w s h.split h.is in
    let size : length v ≡ length w = not_above (length v) (length w) less more in
    sym (ap (take (length v)) g.split ∙ take-append_seam v r) ∙ ap (λ n. take n z) size ∙ ap (take (length w)) h.split ∙ take-append_seam w s

pub only_next : (z : List ℕ) (a b : Token) (v w r s : List ℕ) → IsNext z a v r → IsNext z b w s → (a ≡ b) × (v ≡ w)
only_next z a b v w r s g h =
    let same = same_word z a b v w r s g h in
    let P : List ℕ → Type 0 = λ (y : List ℕ). Kinds a y in
    let Q : List ℕ → Type 0 = λ (y : List ℕ). a ≡ k.Ident → (other : Token) → Spells spellings other y → ⊥ in
    (one_kind a b w (subst P same (kinds a v g.is)) (kinds b w h.is) (subst Q same g.keyword) h.keyword, same)

scanned_by : (z : List ℕ) (kind : Token) (word rest : List ℕ) → IsNext z kind word rest → (t : Option (Token × ℕ)) → token_at z ≡ t → t ≡ Some (kind, length word)
scanned_by z kind word rest next None e = absurd (token_none z e kind word rest next.split next.is)
scanned_by z kind word rest next (Some t) e =
    let f = token_next z t.0 t.1 e in
    let same = only_next z t.0 kind f.0 word f.1 rest f.3 next in
    ap (λ (a : Token). Some (a, t.1)) same.0 ∙ ap (λ n. Some (kind, n)) (sym f.2 ∙ ap length same.1)

-- the longest token is what the scan gives
pub next_scanned : (z : List ℕ) (kind : Token) (word rest : List ℕ) → IsNext z kind word rest → token_at z ≡ Some (kind, length word)
next_scanned z kind word rest next = scanned_by z kind word rest next (token_at z) refl
