-- Forms of lists, as texts one after another.
use Rattle.std.proofs.Common.{◌≡◌, ◌≢◌, ℕ, ◌+◌, ◌-◌, ◌<◌, ◌==◌, min, Bool, true, false, if◌then◌else◌, List, [], ◌∷◌, ◌++◌, length, map, take, drop, get_or, codes, Bor, Option, Some, None, refl, ap, sym, ◌∙◌, subst, arith}
use Rattle.std.specs.Option.{option_map}
use Rattle.std.proofs.lemmas.List.{map-append, take_min, drop_min, length-map}
use Rattle.wac_parser_tree.specs.Trees as t
use Rattle.wac_parser_print.specs.Texts.{Layout, Text, nothing, word, ◌>>◌, line_end, indent, deeper, each, joined, body, ended, own_line}
use Rattle.wac_parser_print.specs.Printers.{Printer, Adds}
use Rattle.wac_parser_print.specs.Printing as text
use Rattle.wac_parser_print.specs.Printing.{ty, tys, other_tys, arguments, argument_lines, argument, is_fill, is_fill_alone, with_items, world_include_item}
use Rattle.wac_parser_print.proofs.Adding.{and_then, same_text, adds_nothing}

-- ---- types of a tuple

other_tys_each : (xs : List t.Ty) → other_tys (t.tys xs) ≡ each (λ y. word (codes ", ") >> ty y) xs
unfolding other_tys each
other_tys_each [] = refl
other_tys_each (x ∷ xs) = ap (λ (r : Text). (word (codes ", ") >> ty x) >> r) (other_tys_each xs)

pub tys_joined : (xs : List t.Ty) → tys (t.tys xs) ≡ joined (codes ", ") ty xs
unfolding tys joined
tys_joined [] = refl
tys_joined (x ∷ xs) = ap (λ (r : Text). ty x >> r) (other_tys_each xs)

-- ---- arguments

pub lines_each : (level : ℕ) (xs : List t.InstantiationArgument) → argument_lines level (t.arguments xs) ≡ each (λ y. own_line level (argument level y)) xs
unfolding argument_lines each
lines_each level [] = refl
lines_each level (x ∷ xs) = ap (λ (r : Text). own_line level (argument level x) >> r) (lines_each level xs)

pub no_arguments : (level : ℕ) (xs : List t.InstantiationArgument) → length xs ≡ 0 → arguments level (t.arguments xs) ≡ nothing
unfolding arguments
no_arguments level [] h = refl
no_arguments level (x ∷ xs) h = absurd (omega (arith, h))

pub fill_alone : (level : ℕ) (xs : List t.InstantiationArgument) → is_fill_alone (t.arguments xs) ≡ true → arguments level (t.arguments xs) ≡ word (codes " ... ")
unfolding arguments
fill_alone level [] h = absurd cc
fill_alone level (x ∷ xs) h =
    ap (λ (b : Bool). if b then word (codes " ... ") else (line_end >> (own_line (deeper level) (argument (deeper level) x) >> argument_lines (deeper level) (t.arguments xs)) >> indent level)) h

pub line_for_each : (level : ℕ) (xs : List t.InstantiationArgument) → 0 < length xs → is_fill_alone (t.arguments xs) ≡ false
    → arguments level (t.arguments xs) ≡ line_end >> argument_lines (deeper level) (t.arguments xs) >> indent level
unfolding arguments argument_lines
line_for_each level [] some h = absurd (omega (arith, some))
line_for_each level (x ∷ xs) some h =
    ap (λ (b : Bool). if b then word (codes " ... ") else (line_end >> (own_line (deeper level) (argument (deeper level) x) >> argument_lines (deeper level) (t.arguments xs)) >> indent level)) h

pub not_alone : {X : Type 0} (view : X → t.InstantiationArgument) (items : List X) → length items ≢ 1 → is_fill_alone (t.arguments (map view items)) ≡ false
not_alone view [] h = refl
not_alone view (x ∷ []) h = absurd (h refl)
not_alone view (x ∷ y ∷ xs) h = refl

pub alone : {X : Type 0} (view : X → t.InstantiationArgument) (items : List X) (x : X) → length items ≡ 1 → x ≡ get_or items 0 x → is_fill_alone (t.arguments (map view items)) ≡ is_fill (view x)
alone view [] x h e = absurd (omega (arith, h))
alone view (y ∷ []) x h e = ap (λ z. is_fill (view z)) (sym e)
alone view (y ∷ z ∷ ys) x h e = absurd (omega (arith, h))

-- ---- names that change

pub no_names_change : (level : ℕ) (xs : List t.WorldIncludeItem) → length xs ≡ 0 → with_items level xs ≡ nothing
unfolding with_items
no_names_change level [] h = refl
no_names_change level (x ∷ xs) h = absurd (omega (arith, h))

pub names_change : (level : ℕ) (xs : List t.WorldIncludeItem) → 0 < length xs → with_items level xs ≡ word (codes " with") >> body level (each (λ y. ended (world_include_item (deeper level) y)) xs)
unfolding with_items
names_change level [] h = absurd (omega (arith, h))
names_change level (x ∷ xs) h = refl

-- ---- the text at a span

pub part_is : (source : List ℕ) (offset len start n : ℕ) → start ≡ min offset (length source) → n ≡ min len (length (drop start source)) → take n (drop start source) ≡ take ((offset + len) - offset) (drop offset source)
part_is source offset len start n begins ends =
    let count : (offset + len) - offset ≡ len = omega arith in
    ap (λ (k : ℕ). take k (drop start source)) ends ∙ take_min len (drop start source) ∙ ap (λ (xs : List ℕ). take len xs) (ap (λ (k : ℕ). drop k source) begins ∙ drop_min offset source) ∙ ap (λ (k : ℕ). take k (drop offset source)) (sym count)
