-- Two answers that are alike: they hold what one thing reads as in two ways, or both are causes.
use Rattle.std.specs.Prelude.{Bool, true, false, List, [], ◌∷◌, ◌++◌, map, Option, Some, None, option_map, Ok, Err}
use Rattle.std.specs.List.{flat_map}
use Rattle.std.proofs.Common.{◌≡◌, sym, inl, inr, true≢false}
use Rattle.wac_types_base.specs.Graph.{Among}
use Rattle.wac_parser_refusals.specs.Causes.{Answer, Cause, Fault, ◌>>=◌, ◌>>◌, refuse, needs, unless_clear, present, each}
use Rattle.wac_parser_lexer.specs.declared.span.SourceSpan.{SourceSpan as Span}

pub data IsAlike {A B C : Type 0} (f : A → B) (g : A → C) : Answer B → Answer C → Type 0 where
  both : (a : A) → IsAlike f g (Ok (f a)) (Ok (g a))
  neither : (c d : Cause) → IsAlike f g (Err c) (Err d)

-- what reads the same in both ways
abbrev pub itself : {A : Type 0} → A → A
itself a = a

abbrev pub AreSame : {A : Type 0} → Answer A → Answer A → Type 0
AreSame {A} q r = IsAlike {A = A} {B = A} {C = A} itself itself q r

-- the first of a pair is read, the second is the same
abbrev pub first : {A B C : Type 0} → (A → B) → A × C → B × C
first f p = (f p.0, p.1)

pub refused : {A B C : Type 0} {f : A → B} {g : A → C} (x y : Fault) (s z : Span) → IsAlike f g (refuse x s) (refuse y z)
refused x y s z = neither _ _

pub then_alike : {A B C D E F : Type 0} {f : A → B} {g : A → C} {h : D → E} {k : D → F} {q : Answer B} {r : Answer C} (p : B → Answer E) (s : C → Answer F) → IsAlike f g q r → ((a : A) → IsAlike h k (p (f a)) (s (g a))) → IsAlike h k (q >>= p) (r >>= s)
then_alike p s (both a) step = step a
then_alike p s (neither c d) step = neither c d

pub next_alike : {A B C D E F : Type 0} {f : A → B} {g : A → C} {h : D → E} {k : D → F} {q : Answer B} {r : Answer C} {p : Answer E} {s : Answer F} → IsAlike f g q r → IsAlike h k p s → IsAlike h k (q >> p) (r >> s)
next_alike (both a) x = x
next_alike (neither c d) x = neither c d

-- one thing is tested in both
pub clear_alike : (b : Bool) (x y : Fault) (s z : Span) → AreSame (unless_clear b x s) (unless_clear b y z)
clear_alike true x y s z = neither _ _
clear_alike false x y s z = both tt

pub clear_same : (b c : Bool) (x y : Fault) (s z : Span) → b ≡ c → AreSame (unless_clear b x s) (unless_clear c y z)
clear_same true true x y s z e = neither _ _
clear_same true false x y s z e = absurd (true≢false e)
clear_same false true x y s z e = absurd (true≢false (sym e))
clear_same false false x y s z e = both tt

pub needs_alike : (b : Bool) (c d : Cause) → AreSame (needs b c) (needs b d)
needs_alike true c d = both tt
needs_alike false c d = neither _ _

pub present_alike : {A B C : Type 0} {f : A → B} {g : A → C} (o : Option A) (x y : Fault) (s z : Span) → IsAlike f g (present (option_map f o) x s) (present (option_map g o) y z)
present_alike None x y s z = neither _ _
present_alike (Some a) x y s z = both a

pub present_same : {A : Type 0} (o : Option A) (x y : Fault) (s z : Span) → AreSame (present o x s) (present o y z)
present_same None x y s z = neither _ _
present_same (Some a) x y s z = both a

-- steps that are alike, over things of which the second list has other readings
pub each_alike : {A B C X Y : Type 0} {f : A → B} {g : A → C} (h : X → Y) (p : B → X → Answer B) (q : C → Y → Answer C) → ((a : A) (x : X) → IsAlike f g (p (f a) x) (q (g a) (h x))) → (a : A) (xs : List X) → IsAlike f g (each p (f a) xs) (each q (g a) (map h xs))
each_alike h p q step a [] = both a
each_alike h p q step a (x ∷ xs) = then_alike _ _ (step a x) (λ b. each_alike h p q step b xs)

pub each_same : {A B C X : Type 0} {f : A → B} {g : A → C} (p : B → X → Answer B) (q : C → X → Answer C) → ((a : A) (x : X) → IsAlike f g (p (f a) x) (q (g a) x)) → (a : A) (xs : List X) → IsAlike f g (each p (f a) xs) (each q (g a) xs)
each_same p q step a [] = both a
each_same p q step a (x ∷ xs) = then_alike _ _ (step a x) (λ b. each_same p q step b xs)

-- what holds of all that is named in the parts holds in each part
module _ {N : Type 0} (P : N → Type 0) where
  abbrev pub HoldsIn : List N → Type 0
  HoldsIn ns = (n : N) → Among n ns → P n

  in_front : (ms ns : List N) (n : N) → Among n ms → Among n (ms ++ ns)
  in_front (m ∷ ms) ns n (inl e) = inl e
  in_front (m ∷ ms) ns n (inr x) = inr (in_front ms ns n x)
  in_front [] ns n x = absurd x

  behind : (ms ns : List N) (n : N) → Among n ns → Among n (ms ++ ns)
  behind [] ns n x = x
  behind (m ∷ ms) ns n x = inr (behind ms ns n x)

  pub front_holds : (ms ns : List N) → HoldsIn (ms ++ ns) → HoldsIn ms
  front_holds ms ns h n x = h n (in_front ms ns n x)

  pub back_holds : (ms ns : List N) → HoldsIn (ms ++ ns) → HoldsIn ns
  back_holds ms ns h n x = h n (behind ms ns n x)

  pub each_named : {A B C X Y : Type 0} {f : A → B} {g : A → C} (names : X → List N) (h : X → Y) (p : B → X → Answer B) (q : C → Y → Answer C) → ((a : A) (x : X) → HoldsIn (names x) → IsAlike f g (p (f a) x) (q (g a) (h x))) → (a : A) (xs : List X) → HoldsIn (flat_map names xs) → IsAlike f g (each p (f a) xs) (each q (g a) (map h xs))
  each_named names h p q step a [] k = both a
  each_named names h p q step a (x ∷ xs) k = then_alike _ _ (step a x (front_holds (names x) (flat_map names xs) k)) (λ b. each_named names h p q step b xs (back_holds (names x) (flat_map names xs) k))
