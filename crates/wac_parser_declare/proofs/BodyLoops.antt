-- Loops over the items of a body: what is left, over the body so far, gives the same as all, wherever the document stands.
use Rattle.std.specs.Prelude.{⊤}
use Rattle.std.proofs.Common.{◌≡◌, ℕ, ◌+◌, ◌<◌, ◌≤◌, List, map, length, get_or, drop, Ok, Err, ap, refl, subst, sym, ◌∙◌}
use Rattle.wac_types_base.specs.Record.{Collection}
use Rattle.wac_types_base.specs.Collection.{Grows}
use Rattle.wac_parser_refusals.specs.declared.refusal.Refusal.{Refusal}
use Rattle.wac_parser_refusals.specs.Causes.{Answer, each}
use Rattle.wac_parser_refusals.specs.Outcomes.{IsHeld, IsRefusal}
use Rattle.wac_parser_declare.specs.declared.bodies.Body.{Body}
use Rattle.wac_parser_declare.specs.declared.scope.Context.{Context as Place}
use Rattle.wac_parser_declare.specs.Bodies as stated
use Rattle.wac_parser_declare.specs.Held.{stated_body}
use Rattle.wac_parser_declare.specs.Holding.{NamesStand}
use Rattle.wac_parser_declare.specs.InBodies.{IsBody}
use Rattle.wac_parser_declare.specs.InPaths.{StandsIn}
use Rattle.wac_parser_declare.specs.Packages.{Known, SamePackages}
use Rattle.wac_parser_declare.specs.Scope.{Context}
use Rattle.wac_parser_declare.proofs.Known.{stands_in_stays}
use Rattle.wac_parser_declare.proofs.Loops.{each_ends, each_next, each_refused_whole}

-- what is left behind so many gives the same as all
abbrev pub Leaves : {X A : Type 0} → (Context → stated.Body → A → Answer stated.Body) → (X → A) → Place → Collection → Known → (Context → Answer stated.Body) → Collection → Body → List X → Type 0
Leaves f view at c p all d b left = (x : Context) → StandsIn x at c p → all x ≡ each (f x) (stated_body d b) (map view left)

module _ {X A : Type 0} (f : Context → stated.Body → A → Answer stated.Body) (view : X → A) (at : Place) (c d : Collection) (p q : Known) (grows : Grows c d) (same : SamePackages p q) (names : NamesStand c at.root.now) (xs : List X) (i : ℕ) (all : Context → Answer stated.Body) (b : Body) (rest : Leaves f view at c p all d b (drop i xs)) where
  pub items_next : (e : Collection) (new : Body) (y : X) → i < length xs → y ≡ get_or xs i y → ((x : Context) → StandsIn x at d q → IsHeld (λ (s : stated.Body) (u : ⊤). IsBody e s new) (f x (stated_body d b) (view y)) tt)
      → Leaves f view at c p all e new (drop (i + 1) xs)
  items_next e new y lt is step x s =
      let here : IsHeld (λ (s : stated.Body) (u : ⊤). IsBody e s new) (f x (stated_body d b) (view (get_or xs i y))) tt =
      subst (λ (z : X). IsHeld (λ (s : stated.Body) (u : ⊤). IsBody e s new) (f x (stated_body d b) (view z)) tt) is (step x (stands_in_stays x at c d p q grows same names s)) in
      let n = each_next (f x) view xs i (λ (s : stated.Body) (u : ⊤). IsBody e s new) (stated_body d b) y tt lt here in
      rest x s ∙ n.2 ∙ ap (λ (z : stated.Body). each (f x) z (map view (drop (i + 1) xs))) (sym n.1)

  pub items_refused : (y : X) (e : Refusal) → i < length xs → y ≡ get_or xs i y → ((x : Context) → StandsIn x at d q → IsRefusal (f x (stated_body d b) (view y)) e)
      → (x : Context) → StandsIn x at c p → IsRefusal (all x) e
  items_refused y e lt is step x s =
      each_refused_whole (f x) view xs i (all x) (stated_body d b) y e (rest x s) lt is (step x (stands_in_stays x at c d p q grows same names s))

  pub items_end : length xs ≤ i → (x : Context) → StandsIn x at c p → IsHeld (λ (s : stated.Body) (u : ⊤). IsBody d s b) (all x) tt
  items_end h x s =
      let ends : all x ≡ Ok (stated_body d b) = rest x s ∙ each_ends (f x) view xs i (stated_body d b) h in
      subst (λ (a : Answer stated.Body). IsHeld (λ (s : stated.Body) (u : ⊤). IsBody d s b) a tt) (sym ends) refl

-- the body that the loop is over
pub answered_body : (d : Collection) (b : Body) (q : Answer stated.Body) → IsHeld (λ (s : stated.Body) (u : ⊤). IsBody d s b) q tt → IsHeld (IsBody d) q b
answered_body d b (Ok s) h = h
answered_body d b (Err c) h = absurd h
