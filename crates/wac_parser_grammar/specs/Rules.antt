-- Rules of a grammar. A rule says which values the items from one place up to another spell, and how such a value is read, or
-- which fault stands in the way.
use Rattle.std.specs.Prelude.{◌≡◌, ℕ, zero, suc, ◌⊎◌, Bool, true, false, if◌then◌else◌, List, [], ◌∷◌, ◌++◌, length, Option, Some, None, Result, Ok, Err}
use Rattle.wac_parser_lexer.specs.declared.span.SourceSpan.{SourceSpan}
use Rattle.wac_parser_lexer.specs.declared.token.Token.{Token}
use Rattle.wac_parser_lexer.specs.declared.token.Token.TheVariants as k
use Rattle.wac_parser_lexer.specs.declared.error.Error.{Error}
use Rattle.wac_parser_lexer.specs.Pieces.{text_at}
use Rattle.wac_parser_lexer.specs.Items.{Doc, Item, Input, first_item, rest_input, docs_ahead}
use Rattle.wac_parser_grammar.specs.Faults.{Fault, lexer}
use Rattle.wac_parser_grammar.specs.Ahead.{next_token, sees, sees_any, none_of, missed}

pub record Rule (X : Type 0) : Type 1 where
  pub Is : X → Input → Input → Type 0
  pub read : Input → Result (X × Input) Fault

-- ---- the next item

abbrev pub span_of_items : List Item → SourceSpan
span_of_items [] = record { offset = 0; length = 0 }
span_of_items (i ∷ is) = i.span

-- the fault that the next item is, if it is one
abbrev pub fault_of_item : Option (Result Token Error × SourceSpan) → Option Fault
fault_of_item None = None
fault_of_item (Some (Ok t, span)) = None
fault_of_item (Some (Err e, span)) = Some (lexer e span)

unfoldable pub fault_ahead : Input → Option Fault
fault_ahead s = fault_of_item (first_item s)

abbrev pub has_token : Option Token → Bool
has_token None = false
has_token (Some t) = true

-- whether any token comes next
unfoldable pub sees_token : Input → Bool
sees_token s = has_token (next_token s)

-- ---- rules

abbrev pub and_then : {A B : Type 0} → Result (A × Input) Fault → (A → Input → Result (B × Input) Fault)
    → Result (B × Input) Fault
and_then (Err e) f = Err e
and_then (Ok p) f = f p.0 p.1

infixl 10 ◌>>=◌
abbrev pub ◌>>=◌ : {A B : Type 0} → Rule A → (A → Rule B) → Rule B
p >>= f = record {
  Is = λ y s r. (a : _) × (m : Input) × p.Is a s m × (f a).Is y m r;
  read = λ s. and_then (p.read s) (λ a m. (f a).read m);
}

infixl 10 ◌>>◌
abbrev pub ◌>>◌ : {A B : Type 0} → Rule A → Rule B → Rule B
p >> q = p >>= (λ _. q)

-- no item
abbrev pub pure : {X : Type 0} → X → Rule X
pure x = record { Is = λ y s r. (y ≡ x) × (r ≡ s); read = λ s. Ok (x, s) }

-- nothing, for the cause given
abbrev pub refuse : {X : Type 0} → (Input → Fault) → Rule X
refuse fault = record { Is = λ y s r. ⊥; read = λ s. Err (fault s) }

-- one item with this token, whose value is its span
abbrev pub token : Token → Rule SourceSpan
token k = record {
  Is = λ x s r. (docs : List Doc) × (rest : List Item) × (s.items ≡ record { docs = docs; token = Ok k; span = x } ∷ rest)
      × (r ≡ rest_input s);
  read = λ s. if sees k s then Ok (span_of_items s.items, rest_input s) else Err (missed k s);
}

-- what is seen at a place, which takes no item
abbrev pub look : {X : Type 0} → (Input → X) → Rule X
look f = record { Is = λ x s r. (x ≡ f s) × (r ≡ s); read = λ s. Ok (f s, s) }

-- the text at a span of the source
abbrev pub slice : SourceSpan → Rule (List ℕ)
slice span = look (λ s. text_at s.source span)

-- the doc comments before the next item, or before the end
abbrev pub docs : Rule (List Doc)
docs = look docs_ahead

abbrev pub choose : {X : Type 0} → Bool → Rule X → Rule X → Rule X
choose b p q =
    record { Is = λ y s r. ((b ≡ true) × p.Is y s r) ⊎ ((b ≡ false) × q.Is y s r); read = λ s. if b then p.read s else q.read s }

-- a rule that begins with the token, where that comes next, and else another
abbrev pub begin : {X : Type 0} → Token → Rule X → Rule X → Rule X
begin k p q = look (sees k) >>= λ found. choose found p q

-- a rule that begins with one of the tokens, where one comes next, and else another
abbrev pub begin_any : {X : Type 0} → List Token → Rule X → Rule X → Rule X
begin_any ks p q = look (sees_any ks) >>= λ found. choose found p q

-- the next item is not a faulty one
abbrev pub unfaulty_by : Option Fault → Input → Result (Unit {0} × Input) Fault
unfaulty_by None s = Ok (tt, s)
unfaulty_by (Some e) s = Err e

abbrev pub unfaulty : Rule (Unit {0})
unfaulty = record { Is = λ y s r. (fault_ahead s ≡ None) × (r ≡ s); read = λ s. unfaulty_by (fault_ahead s) s }

-- whether the token comes next, which is then taken; a faulty item is refused
unfoldable pub optional : Token → Rule Bool
optional k = unfaulty >> begin k (token k >> pure true) (pure false)

-- a value behind the token, where that comes next
abbrev pub optional_of : {X : Type 0} → Token → Rule X → Rule (Option X)
optional_of k p = optional k >>= λ found. choose found (p >>= λ x. pure (Some x)) (pure None)

-- ---- lists

-- a comma, where any token comes next
abbrev pub comma : Rule (Unit {0})
comma = look sees_token >>= λ some. choose some (token k.Comma >> pure tt) (pure tt)

-- what stands behind a value of a list: nothing before the token that ends it, and else a comma, where commas are written
unfoldable pub behind : Token → Bool → Rule (Unit {0})
behind until commas = begin until (pure tt) (choose commas comma (pure tt))

-- the values up to the token that ends the list
abbrev pub IsListOf : {X : Type 0} → (X → Input → Input → Type 0) → Token → Bool → List X → Input → Input → Type 0
IsListOf Is until commas [] s r = (sees until s ≡ true) × (r ≡ s)
IsListOf Is until commas (x ∷ xs) s r =
    (sees until s ≡ false) × (m : Input) × Is x s m × (n : Input) × (behind until commas).Is tt m n
    × IsListOf Is until commas xs n r

abbrev pub front : {X : Type 0} → X → Result (List X × Input) Fault → Result (List X × Input) Fault
front x (Err e) = Err e
front x (Ok p) = Ok (x ∷ p.0, p.1)

-- Values that begin with one of the tokens; the number bounds them.
unfoldable pub read_list : {X : Type 0} → (Input → Result (X × Input) Fault) → List Token → Token → Bool → ℕ → Input
    → Result (List X × Input) Fault
read_list read first until commas zero s = if sees until s then Ok ([], s) else Err (none_of (until ∷ first) s)
read_list read first until commas (suc n) s =
    if sees until s then Ok ([], s)
    else (if sees_any first s then and_then (read s) (λ x m. and_then ((behind until commas).read m)
    (λ _ after. front x (read_list read first until commas n after)))
    else Err (none_of (until ∷ first) s))

abbrev pub left : Input → ℕ
left s = length s.items

abbrev pub list_of : {X : Type 0} → Rule X → List Token → Token → Bool → Rule (List X)
list_of p first until commas = record {
  Is = IsListOf p.Is until commas;
  read = λ s. read_list p.read first until commas (left s) s;
}

-- the values before, and then what is read
abbrev pub after_front : {X : Type 0} → List X → Result (List X × Input) Fault → Result (List X × Input) Fault
after_front xs (Err e) = Err e
after_front xs (Ok p) = Ok (xs ++ p.0, p.1)

-- ---- repetitions

-- as many values as begin with one of the tokens
abbrev pub IsWhile : {X : Type 0} → (X → Input → Input → Type 0) → List Token → List X → Input → Input → Type 0
IsWhile Is first [] s r = (sees_any first s ≡ false) × (r ≡ s)
IsWhile Is first (x ∷ xs) s r = (sees_any first s ≡ true) × (m : Input) × Is x s m × IsWhile Is first xs m r

-- the number bounds the values
unfoldable pub read_while : {X : Type 0} → (Input → Result (X × Input) Fault) → List Token → ℕ → Input
    → Result (List X × Input) Fault
read_while read first zero s = Ok ([], s)
read_while read first (suc n) s =
    if sees_any first s then and_then (read s) (λ x m. front x (read_while read first n m)) else Ok ([], s)

abbrev pub while_of : {X : Type 0} → Rule X → List Token → Rule (List X)
while_of p first = record {
  Is = IsWhile p.Is first;
  read = λ s. read_while p.read first (left s) s;
}

-- values to the end
abbrev pub IsAll : {X : Type 0} → (X → Input → Input → Type 0) → List X → Input → Input → Type 0
IsAll Is [] s r = (s.items ≡ []) × (r ≡ s)
IsAll Is (x ∷ xs) s r = (m : Input) × Is x s m × IsAll Is xs m r

abbrev pub has_item : List Item → Bool
has_item [] = false
has_item (i ∷ is) = true

-- the number bounds the values
unfoldable pub read_all : {X : Type 0} → (Input → Result (X × Input) Fault) → ℕ → Input → Result (List X × Input) Fault
read_all read zero s = Ok ([], s)
read_all read (suc n) s = if has_item s.items then and_then (read s) (λ x m. front x (read_all read n m)) else Ok ([], s)

abbrev pub all_of : {X : Type 0} → Rule X → Rule (List X)
all_of p = record {
  Is = IsAll p.Is;
  read = λ s. read_all p.read (left s) s;
}
