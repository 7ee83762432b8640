-- What is written, piece by piece.
use Rattle.std.proofs.Common.{◌≡◌, ℕ, suc, ◌+◌, ◌<◌, ◌==◌, Bool, true, false, cond, ◌||◌, List, [], ◌∷◌, ◌++◌, length, take, drop, map, codes, Option, refl, ap, sym, ◌∙◌, subst, arith, append_assoc}
use Rattle.std.proofs.lemmas.Bool.{or_parts, not-true, eqb-false, ltb-false, both_ways}
use Rattle.std.proofs.lemmas.Grind.{flat_map-append}
use Rattle.std.proofs.lemmas.List.{append-nil}
use Rattle.std.proofs.Math.Seq.{take-add}
use Rattle.std.specs.List.{prefix_len}
use Rattle.json.specs.Run.{is_plain}
use Rattle.json.specs.Print.{escape_byte, escape, quoted}
use Rattle.json.proofs.Printed.Strings.{escape_byte_plain}
use Rattle.semver.specs.Identifiers.{marked}
use Rattle.std.specs.Io.KnownBytes.{Appends}
use Rattle.wac_streams.specs.Calls.{Calls, AppendsPrefix}
use Rattle.serde_json.specs.Data.{Data}
use Rattle.serde_json.specs.View.{items_of}
use Rattle.serde_json.specs.Written.{compact_text, items_text}
use Rattle.wac_parser_print.specs.Objects.{array_of}
use Rattle.wac_parser_print.specs.Texts.{Layout, Text, word, each, joined, nothing as no_text, ◌>>◌}
use Rattle.wac_parser_print.specs.Printers.{Printer, Adds, printed, stopped, refused}
use Rattle.wac_parser_print.proofs.Adding.{and_then, same_at, no_word}
use Rattle.wac_parser_json.specs.declared.writer.JsonWriter.{JsonWriter}
use Rattle.wac_parser_json.specs.Writers.{Writes, WritesBytes, printer_of}

-- ---- arrays

-- the texts of values with commas between them
abbrev pub items_front : {A : Type 0} → (A → Data) → List A → Text
items_front json xs = joined (codes ",") (λ x. word (compact_text (json x))) xs

later_items : {A : Type 0} (json : A → Data) (xs : List A) (l : Layout)
    → items_text true (items_of (map json xs)) ≡ (each (λ y. word (codes ",") >> word (compact_text (json y))) xs >> word (codes "]")) l
unfolding each word ◌>>◌ no_text
later_items json [] l = refl
later_items json (x ∷ xs) l =
    ap (λ (t : List ℕ). 44 ∷ (compact_text (json x) ++ t)) (later_items json xs l)
    ∙ sym (append_assoc (44 ∷ compact_text (json x)) (each (λ y. word (codes ",") >> word (compact_text (json y))) xs l) (codes "]"))

array_text : {A : Type 0} (json : A → Data) (xs : List A) (l : Layout) → (word (codes "[") >> (items_front json xs >> word (codes "]"))) l ≡ compact_text (array_of json xs)
unfolding joined each word ◌>>◌ no_text
array_text json [] l = refl
array_text json (x ∷ xs) l =
    ap (λ (t : List ℕ). 91 ∷ t)
    (append_assoc (compact_text (json x)) (each (λ y. word (codes ",") >> word (compact_text (json y))) xs l) (codes "]")
    ∙ sym (ap (λ (t : List ℕ). compact_text (json x) ++ t) (later_items json xs l)))

-- ---- strings

plain_byte : (p : Bool) (x n : ℕ) (xs : List ℕ) → p ≡ is_plain x → escape (take n xs) ≡ take n xs
    → escape (take (cond p (1 + n) 0) (x ∷ xs)) ≡ take (cond p (1 + n) 0) (x ∷ xs)
plain_byte false x n xs e ih = refl
plain_byte true x n xs e ih =
    let next : suc n ≡ 1 + n = omega arith in
    let none = or_parts ((x == 34) || (x == 92)) _ (not-true _ (sym e)) in
    let tests = or_parts (x == 34) _ none.0 in
    let same : escape (x ∷ take n xs) ≡ x ∷ take n xs =
    ap (λ (t : List ℕ). t ++ escape (take n xs)) (escape_byte_plain x (eqb-false x 34 tests.0) (eqb-false x 92 tests.1) (ltb-false x 32 none.1)) ∙ ap (λ (t : List ℕ). x ∷ t) ih in
    subst (λ (k : ℕ). escape (take k (x ∷ xs)) ≡ take k (x ∷ xs)) next same

-- the bytes before the first that is escaped stand for themselves
pub plain_front : (xs : List ℕ) → escape (take (prefix_len is_plain xs) xs) ≡ take (prefix_len is_plain xs) xs
plain_front [] = refl
plain_front (x ∷ xs) = plain_byte (is_plain x) x (prefix_len is_plain xs) xs refl (plain_front xs)

pub escaped_more : (bytes : List ℕ) (at n : ℕ) → escape (take (at + n) bytes) ≡ escape (take at bytes) ++ escape (take n (drop at bytes))
escaped_more bytes at n = ap escape (take-add at n bytes) ∙ flat_map-append escape_byte (take at bytes) (take n (drop at bytes))

pub marked_text : (mark : ℕ) (xs : List ℕ) → 0 < length xs → escape (marked mark xs) ≡ escape (mark ∷ []) ++ escape xs
marked_text mark [] h = absurd (omega (arith, h))
marked_text mark (x ∷ xs) h = ap (λ (t : List ℕ). t ++ escape (x ∷ xs)) (sym (append-nil (escape_byte mark)))

pub unmarked_text : (mark : ℕ) (xs : List ℕ) → length xs ≡ 0 → escape (marked mark xs) ≡ []
unmarked_text mark [] h = refl
unmarked_text mark (x ∷ xs) h = absurd (omega (arith, h))

-- the parts of a version in quotes
pub version_in_quotes : (a b c p q : List ℕ) → quoted (a ++ (46 ∷ (b ++ (46 ∷ (c ++ (p ++ q))))))
    ≡ 34 ∷ (escape a ++ (46 ∷ (escape b ++ (46 ∷ (escape c ++ (escape p ++ (escape q ++ 34 ∷ [])))))))
unfolding escape_byte
version_in_quotes a b c p q = simp (flat_map-append, append_assoc)

module _ {W : Type 0} {contents : W → Option (List ℕ)} {calls : W → Option Calls} where
  -- ---- bytes

  pub nothing : (a : JsonWriter W) → WritesBytes contents calls a [] a
  nothing a = record { same_sink = refl; adds = no_word _ }

  -- these bytes, and then those
  pub then : {a b c : JsonWriter W} {f g : List ℕ} → WritesBytes contents calls a f b → WritesBytes contents calls b g c → WritesBytes contents calls a (f ++ g) c
  unfolding word ◌>>◌
  then {f = f} {g = g} p q = record {
    same_sink = q.same_sink ∙ p.same_sink;
    adds = same_at (word f >> word g) (word (f ++ g)) refl (and_then p.adds q.adds);
  }

  pub of_bytes : {a b : JsonWriter W} {f g : List ℕ} → f ≡ g → WritesBytes contents calls a g b → WritesBytes contents calls a f b
  of_bytes {a = a} {b = b} e p = subst (λ (t : List ℕ). WritesBytes contents calls a t b) (sym e) p

  -- a value by what its tree is
  pub of_tree : {A : Type 0} {a b : JsonWriter W} (json : A → Data) {x y : A} → x ≡ y → Writes contents calls a (json y) b → Writes contents calls a (json x) b
  of_tree {A = A} {a = a} {b = b} json e p = subst (λ (z : A). Writes contents calls a (json z) b) (sym e) p

  -- the brackets and what stands between them
  pub whole_array : {A : Type 0} {a b c d : JsonWriter W} (json : A → Data) (xs : List A) → WritesBytes contents calls a (codes "[") b
      → c.sink.ghost_name ≡ b.sink.ghost_name → Adds (printer_of contents calls b) (items_front json xs) (printer_of contents calls c)
      → WritesBytes contents calls c (codes "]") d → Writes contents calls a (array_of json xs) d
  unfolding word
  whole_array json xs opened same items closed = record {
    same_sink = closed.same_sink ∙ same ∙ opened.same_sink;
    adds = same_at (word (codes "[") >> (items_front json xs >> word (codes "]"))) (word (compact_text (array_of json xs))) (array_text json xs _) (and_then opened.adds (and_then items closed.adds));
  }

  -- ---- the end

  -- a writer that has not failed wrote it all
  pub written_whole : {a b : JsonWriter W} {bytes : List ℕ} → WritesBytes contents calls a bytes b → b.failed ≡ false → Appends (contents a.sink.now) (contents b.sink.now) bytes
  unfolding word
  written_whole {a = a} {b = b} p works = elim p.adds [
    | printed q ↦ q.written
    | stopped q ↦ absurd (both_ways b.failed works q.gives_up)
    | refused q ↦ absurd (both_ways b.failed works (ap (λ (x : Printer). x.failed) q.kept ∙ q.failed))
  ]

  -- one that has failed, and had not, wrote a front of it
  pub written_front : {a b : JsonWriter W} {bytes : List ℕ} → WritesBytes contents calls a bytes b → a.failed ≡ false → b.failed ≡ true → AppendsPrefix (contents a.sink.now) (contents b.sink.now) bytes
  unfolding word
  written_front {a = a} {b = b} p worked fails = elim p.adds [
    | printed q ↦ absurd (both_ways b.failed q.goes_on fails)
    | stopped q ↦ q.written
    | refused q ↦ absurd (both_ways a.failed worked q.failed)
  ]
