-- The texts between slashes, and where they stand.
use Rattle.std.proofs.Common.{◌≡◌, ◌≢◌, ℕ, suc, ◌+◌, ◌-◌, ◌^◌, ◌<◌, ◌≤◌, min, List, [], ◌∷◌, ◌++◌, map, length, subst, get_or, drop, Option, Some, None, refl, ap, sym, ◌∙◌, inl, inr, arith, rules, append_assoc, length-append, length-take}
use Rattle.std.specs.List.{All, slice_range}
use Rattle.std.specs.Option.{option_map}
use Rattle.std.specs.Prelude.{⊤}
use Rattle.std.specs.Iterator.{MakesProgress, at_most}
use Rattle.std.proofs.lemmas.Bool.Decides.{eqb_tells}
use Rattle.std.proofs.lemmas.Grind.{common_steps}
use Rattle.std.proofs.lemmas.List.Elements.{All-cons, All-head, All-tail}
use Rattle.std.proofs.lemmas.List.Folds.{drop_split}
use Rattle.std.proofs.Math.Seq.{take-append_seam}
use Rattle.wac_parser_lexer.specs.Pieces.{text_at}
use Rattle.wac_parser_tree.specs.Trees as t
use Rattle.wac_parser_tree.specs.Segments.{Segment, segment_text, HasNoSlash, between_slashes, joined, place, placed, segment_spans, IsPathIn, StandsAt, GivesSegment, first_segment, other_segments, texts_left, segments_left}

-- no byte is a slash
abbrev pub Lacks : List ℕ → Type 0
Lacks w = (i : ℕ) → i < length w → get_or w i 0 ≢ 47

lacks_later : (b : ℕ) (w : List ℕ) → Lacks (b ∷ w) → Lacks w
lacks_later b w lacks i h = let more : suc i < length (b ∷ w) = omega arith in lacks (suc i) more

lacks_first : (b : ℕ) (w : List ℕ) → Lacks (b ∷ w) → b ≢ 47
lacks_first b w lacks = let some : 0 < length (b ∷ w) = omega arith in lacks 0 some

pub one_text : (w : List ℕ) → Lacks w → between_slashes w ≡ w ∷ []
one_text [] lacks = refl
one_text (b ∷ w) lacks =
    let rest : between_slashes w ≡ w ∷ [] = one_text w (lacks_later b w lacks) in
    elim (eqb_tells b 47) [ inl p ↦ absurd (lacks_first b w lacks p.1) | inr p ↦ rw p.0 (rw rest refl) ]

pub first_text : (w z : List ℕ) → Lacks w → between_slashes (w ++ 47 ∷ z) ≡ w ∷ between_slashes z
first_text [] z lacks = refl
first_text (b ∷ w) z lacks =
    let rest : between_slashes (w ++ 47 ∷ z) ≡ w ∷ between_slashes z = first_text w z (lacks_later b w lacks) in
    elim (eqb_tells b 47) [ inl p ↦ absurd (lacks_first b w lacks p.1) | inr p ↦ rw p.0 (rw rest refl) ]

min_more : (m a b n : ℕ) → min a m ≡ min b m → min (a + n + 1) m ≡ min (b + n + 1) m
min_more m a b n e = omega (arith, e)

pub same_place : (a b : ℕ) → place a ≡ place b → (ws : List (List ℕ)) → placed a ws ≡ placed b ws
same_place a b e [] = refl
same_place a b e (w ∷ ws) =
    let later = same_place (a + length w + 1) (b + length w + 1) (min_more (2 ^ 64 - 1) a b (length w) e) ws in
    rw e (rw later refl)

-- a sum by two steps, each cut at the greatest place
pub place_twice : (a b m n : ℕ) → m ≡ place (a + b) → n ≡ place (m + 1) → place n ≡ place (a + b + 1)
place_twice a b m n first second = omega (arith, first, second)

-- the texts have a first one
some_text : (z : List ℕ) → (w : List ℕ) × (ws : List (List ℕ)) × (between_slashes z ≡ w ∷ ws)
some_text [] = ([], [], refl)
some_text (b ∷ z) =
    let rest = some_text z in
    elim (eqb_tells b 47) [ inl p ↦ ([], between_slashes z, rw p.0 refl) | inr p ↦ (b ∷ rest.0, rest.1, rw p.0 (rw rest.2 refl)) ]

joined_front : (b : ℕ) (w : List ℕ) (ws : List (List ℕ)) → joined ((b ∷ w) ∷ ws) ≡ b ∷ joined (w ∷ ws)
joined_front b w [] = refl
joined_front b w (v ∷ ws) = refl

-- joined again, the texts between slashes are the text
pub joined_texts : (z : List ℕ) → joined (between_slashes z) ≡ z
joined_texts [] = refl
joined_texts (b ∷ z) =
    let rest = some_text z in
    let e : joined (rest.0 ∷ rest.1) ≡ z = ap joined (sym rest.2) ∙ joined_texts z in
    elim (eqb_tells b 47) [
      | inl p ↦ rw p.0 (rw rest.2 (rw e (ap (λ x. x ∷ z) (sym p.1))))
      | inr p ↦ rw p.0 (rw rest.2 (joined_front b rest.0 rest.1 ∙ ap (λ x. b ∷ x) e))
    ]

pub texts_placed : (at : ℕ) (ws : List (List ℕ)) → map segment_text (placed at ws) ≡ ws
texts_placed at [] = refl
texts_placed at (w ∷ ws) = ap (λ x. w ∷ x) (texts_placed (at + length w + 1) ws)

-- the segments of a path, joined, are its text of segments
pub path_joined : (path : t.PackagePath) → joined (map segment_text (segment_spans path)) ≡ path.segments
path_joined path = ap joined (texts_placed (path.span.offset + length path.name + 1) (between_slashes path.segments)) ∙ joined_texts path.segments

abbrev Slashless : List ℕ → Type 0
Slashless w = All (λ b. b ≢ 47) w

none_slashless : All Slashless []
none_slashless = search rules

empty_slashless : Slashless []
empty_slashless = search rules

slashless_front : (b : ℕ) (w : List ℕ) (ws : List (List ℕ)) → b ≢ 47 → All Slashless (w ∷ ws) → All Slashless ((b ∷ w) ∷ ws)
slashless_front b w ws ne all =
    All-cons Slashless (b ∷ w) ws (All-cons (λ x. x ≢ 47) b w ne (All-head Slashless w ws all)) (All-tail Slashless w ws all)

slashless_texts : (z : List ℕ) → All Slashless (between_slashes z)
slashless_texts [] = All-cons Slashless [] [] empty_slashless none_slashless
slashless_texts (b ∷ z) =
    let rest = some_text z in
    let P : List (List ℕ) → Type 0 = λ ws. All Slashless ws in
    let later : All Slashless (rest.0 ∷ rest.1) = subst P rest.2 (slashless_texts z) in
    elim (eqb_tells b 47) [
      | inl p ↦ rw p.0 (All-cons Slashless [] (between_slashes z) empty_slashless (slashless_texts z))
      | inr p ↦ rw p.0 (rw rest.2 (slashless_front b rest.0 rest.1 p.1 later))
    ]

slashless_placed : (at : ℕ) (ws : List (List ℕ)) → All Slashless ws → All HasNoSlash (placed at ws)
slashless_placed at [] all = search rules
slashless_placed at (w ∷ ws) all =
    let s : Segment = (w, record { offset = place at; length = length w }) in
    All-cons HasNoSlash s (placed (at + length w + 1) ws) (All-head Slashless w ws all) (slashless_placed (at + length w + 1) ws (All-tail Slashless w ws all))

-- no segment of a path holds a slash
pub path_cut : (path : t.PackagePath) → All HasNoSlash (segment_spans path)
path_cut path = slashless_placed (path.span.offset + length path.name + 1) (between_slashes path.segments) (slashless_texts path.segments)

stands : (source : List ℕ) (at : ℕ) (w rest : List ℕ) → drop at source ≡ w ++ rest → at < 2 ^ 64 → slice_range source (place at) (place at + length w) ≡ w
stands source at w rest e h =
    let p : place at ≡ at = omega (arith, h) in
    let n : at + length w - at ≡ length w = omega arith in
    rw p (rw n (rw e (take-append_seam w rest)))

drop_behind : (w y : List ℕ) → drop (length w + 1) (w ++ 47 ∷ y) ≡ y
drop_behind [] y = refl
drop_behind (b ∷ w) y = grind (arith, common_steps, drop_behind w y)

behind : (source : List ℕ) (at : ℕ) (w y : List ℕ) → drop at source ≡ w ++ 47 ∷ y → drop (at + length w + 1) source ≡ y
behind source at w y e = grind (arith, common_steps, e, drop_behind w y)

none_stand : (source : List ℕ) → All (StandsAt source) []
none_stand source = search rules

-- a path of a source ends below the greatest place
path_fits : (source : List ℕ) (path : t.PackagePath) → IsPathIn source path → path.span.offset + length path.name + 1 + length (joined (between_slashes path.segments)) < 2 ^ 64
path_fits source path p =
    let segments : length (joined (between_slashes path.segments)) ≡ length path.segments = ap (λ (x : List ℕ). length x) (joined_texts path.segments) in
    let string : length path.string ≡ length path.name + length (47 ∷ (path.segments ++ p.more)) = ap (λ (x : List ℕ). length x) p.parts ∙ length-append path.name (47 ∷ (path.segments ++ p.more)) in
    let tail : length (path.segments ++ p.more) ≡ length path.segments + length p.more = length-append path.segments p.more in
    let text : length (text_at source path.span) ≡ length path.string = ap (λ (x : List ℕ). length x) p.text in
    let taken : length (text_at source path.span) ≡ min (path.span.offset + path.span.length - path.span.offset) (length (drop path.span.offset source)) = length-take _ (drop path.span.offset source) in
    let left : min (path.span.offset + path.span.length - path.span.offset) (length (drop path.span.offset source)) ≤ path.span.length = omega arith in
    let small = p.within.small in
    omega (arith, segments, string, tail, text, taken, left, small)

pub all_stand : (source : List ℕ) (at : ℕ) (ws : List (List ℕ)) (rest : List ℕ) → drop at source ≡ joined ws ++ rest → at + length (joined ws) < 2 ^ 64 → All (StandsAt source) (placed at ws)
all_stand source at [] rest e h = none_stand source
all_stand source at (w ∷ []) rest e h =
    let s : Segment = (w, record { offset = place at; length = length w }) in
    All-cons (StandsAt source) s [] (stands source at w rest e (omega (arith, h))) (none_stand source)
all_stand source at (w ∷ v ∷ ws) rest e h =
    let s : Segment = (w, record { offset = place at; length = length w }) in
    let more = joined (v ∷ ws) ++ rest in
    let after : drop at source ≡ w ++ 47 ∷ more = e ∙ append_assoc w (47 ∷ joined (v ∷ ws)) rest in
    let long : length (w ++ 47 ∷ joined (v ∷ ws)) ≡ length w + length (47 ∷ joined (v ∷ ws)) = length-append w (47 ∷ joined (v ∷ ws)) in
    let small : at + length w + 1 + length (joined (v ∷ ws)) < 2 ^ 64 = omega (arith, h, long) in
    All-cons (StandsAt source) s (placed (at + length w + 1) (v ∷ ws)) (stands source at w (47 ∷ more) after (omega (arith, small)))
    (all_stand source (at + length w + 1) (v ∷ ws) rest (behind source at w more after) small)

-- in a path of a source the segments stand behind the name and a slash
pub path_stands : (source : List ℕ) (path : t.PackagePath) → IsPathIn source path → All (StandsAt source) (segment_spans path)
path_stands source path p =
    let at = path.span.offset in
    let end = path.span.offset + path.span.length in
    let fits : at ≤ end = omega arith in
    let rest = p.more ++ drop end source in
    let whole : drop at source ≡ path.string ++ drop end source = drop_split source at end fits ∙ ap (λ x. x ++ drop end source) p.text in
    let behind_name : drop at source ≡ path.name ++ 47 ∷ (path.segments ++ rest) =
    whole ∙ ap (λ x. x ++ drop end source) p.parts ∙ append_assoc path.name (47 ∷ (path.segments ++ p.more)) (drop end source) ∙ ap (λ x. path.name ++ 47 ∷ x) (append_assoc path.segments p.more (drop end source)) in
    let texts : drop (at + length path.name + 1) source ≡ joined (between_slashes path.segments) ++ rest =
    behind source at path.name (path.segments ++ rest) behind_name ∙ ap (λ x. x ++ rest) (sym (joined_texts path.segments)) in
    all_stand source (at + length path.name + 1) (between_slashes path.segments) rest texts (path_fits source path p)

one_less : (old new : List Segment) (s : Segment) → Some s ≡ first_segment old → new ≡ other_segments old → length new < length old
one_less [] new s e after = cc
one_less (x ∷ xs) new s e after = omega (arith, ap (λ (ss : List Segment). length ss) after)

-- each segment that is given leaves one less
pub progress : {A : Type 0} (f : A → Segment) (old : List Segment) (found : Option A) (new : List Segment) → GivesSegment old (option_map f found) new → MakesProgress (λ _. ⊤) (λ (s : List Segment). at_most (length s)) old found new
progress f old (Some r) new g = record { on = λ _. (tt, tt, one_less old new (f r) g.value g.after); keeps = tt; rests = λ _. tt }
progress f old None new g = record { on = λ _. tt; keeps = tt; rests = λ _. tt }

-- a call of `next` at a text that is left
pub gives_first : (at : ℕ) (old : List Segment) (text segment : List ℕ) (rest : Option (List ℕ)) (m n : ℕ) → at < 2 ^ 64 → segments_left at (Some text) ≡ old → between_slashes text ≡ segment ∷ texts_left rest → m ≡ place (at + length segment) → n ≡ place (m + 1) → GivesSegment old (Some (segment, record { offset = at; length = length segment })) (segments_left n rest)
gives_first at old text segment rest m n small is cut first second =
    let here : at ≡ place at = omega (arith, small) in
    let e : placed at (segment ∷ texts_left rest) ≡ old = ap (placed at) (sym cut) ∙ is in
    let found : ℕ → Option Segment = λ o. Some (segment, record { offset = o; length = length segment }) in
    record {
      value = ap found here ∙ ap first_segment e;
      after = same_place n (at + length segment + 1) (place_twice at (length segment) m n first second) (texts_left rest) ∙ ap other_segments e;
    }
