-- Who is named in a cause that stands against what a document says.
use Rattle.std.specs.Prelude.{map, not, is_some, filter, option_map, bytes_eq}
use Rattle.std.specs.List.{flat_map, list_any}
use Rattle.std.proofs.lemmas.Option.{none-some, same_Some}
use Rattle.std.proofs.Common.{◌≡◌, ℕ, zero, suc, List, [], ◌∷◌, ◌++◌, append_assoc, Bool, Option, Some, None, inl, inr, refl, sym, ap, subst, ◌∙◌}
use Rattle.wac_types_base.specs.Entries.{Name, value_at}
use Rattle.wac_types_base.specs.Graph.{Among}
use Rattle.wac_types_base.specs.Stated.{Stated, imports_of, identifier_of}
use Rattle.wac_types_base.proofs.Adding.{Among-left, Among-right}
use Rattle.wac_types_base.proofs.Lists.{among_split, from_filtered}
use Rattle.wac_composition.specs.Composition as c
use Rattle.wac_composition.specs.Composition.{Placed, Composition}
use Rattle.wac_composition.specs.Asks.{ByName, ToFill, ToUse, Ask, used_by, used_by_definition, explicit_ask, filled_asks, asked_for, named_asks, asks_to_use, asks_of}
use Rattle.wac_composition.specs.Classes.{class}
use Rattle.wac_composition.specs.Conflicts.{Cause}
use Rattle.wac_composition.specs.Against.{IsUnmerged, StandsAgainst, asked_twice, import_unmerged, ask_unmerged, alias_of_value, outer_import, outer_in_circle, circle_in_definition, circle_in_package, definition, imported_package}
use Rattle.wac_composition.proofs.Closures.{filter_among}
use Rattle.wac_composition.proofs.Lists.{among_flat, mapped_among}
use Rattle.wac_parser_resolve.specs.Ascribed.{Asker, by_import, by_instance, by_definition, numbered, placed_import, placed_definition, composition}
use Rattle.wac_parser_resolve.specs.Ascribing.{Made, State}
use Rattle.wac_parser_resolve.specs.Askers.{IsByImport, IsByNew, HasPlace, IsAskedSo, Askers_have_places}
use Rattle.wac_parser_resolve.proofs.Alone.{AskNothing, definitions_alone}

-- ---- askers

import_placed : (a : Asker) → IsByImport a → HasPlace a
import_placed (by_import i) h = tt
import_placed (by_instance k s) h = absurd h
import_placed by_definition h = absurd h

new_placed : (a : Asker) → IsByNew a → HasPlace a
new_placed (by_instance k s) h = tt
new_placed (by_import i) h = absurd h
new_placed by_definition h = absurd h

-- ---- asks of imports stand before all others

abbrev Asks : Type 0
Asks = List (Ask Asker)

-- what stands before what is asked by name is asked by name
before_named : (xs ys before : Asks) (a : Ask Asker) (after : Asks) → ((x : Ask Asker) → Among x xs → x.asking ≡ ByName) → ((y : Ask Asker) → Among y ys → y.asking ≡ ByName → ⊥)
    → a.asking ≡ ByName → xs ++ ys ≡ before ++ a ∷ after → (b : Ask Asker) → Among b before → b.asking ≡ ByName
before_named [] ys before a after named other k e b m = absurd (other a (subst (Among a) (sym e) (Among-right a before (a ∷ after) (inl refl))) k)
before_named (x ∷ xs) ys [] a after named other k e b m = absurd m
before_named (x ∷ xs) ys (z ∷ before) a after named other k e b (inl q) =
    let first : x ≡ z = cc e in ap (λ (y : Ask Asker). y.asking) (q ∙ sym first) ∙ named x (inl refl)
before_named (x ∷ xs) ys (z ∷ before) a after named other k e b (inr m) =
    let rest : xs ++ ys ≡ before ++ a ∷ after = cc e in before_named xs ys before a after (λ y n. named y (inr n)) other k rest b m

numbered_new : (k : ℕ) (ms : List Made) (x : c.Made Asker ℕ) → Among x (numbered k ms) → IsByNew x.by
numbered_new k [] x m = absurd m
numbered_new k (y ∷ ms) x (inl e) = subst (λ (z : c.Made Asker ℕ). IsByNew z.by) (sym e) tt
numbered_new k (y ∷ ms) x (inr m) = numbered_new (suc k) ms x m

module _ (g : State) (alone : AskNothing g) where
  abbrev all : Composition Asker ℕ
  all = composition g

  abbrev explicit : Asks
  explicit = map explicit_ask all.imports

  abbrev filled : Asks
  filled = flat_map filled_asks all.made

  -- ---- who asks, by how it is asked

  explicit_is : (a : Ask Asker) → Among a explicit → (a.asking ≡ ByName) × IsByImport a.by
  explicit_is a m =
      let r = mapped_among explicit_ask all.imports a m in
      let i = mapped_among placed_import g.imports r.0 r.1 in
      subst (λ (b : Ask Asker). (b.asking ≡ ByName) × IsByImport b.by) (sym (r.2 ∙ ap explicit_ask i.2)) (refl, tt)

  filled_is : (a : Ask Asker) → Among a filled → (a.asking ≡ ToFill) × IsByNew a.by
  filled_is a m =
      let r = among_flat filled_asks all.made a m in
      let x = mapped_among (λ (e : Name × Stated). record { asking = ToFill; by = r.0.by; name = e.0; item = e.1 }) (filter (λ e. not (is_some (value_at r.0.arguments e.0))) (imports_of r.0.world)) a r.2 in
      subst (λ (b : Ask Asker). (b.asking ≡ ToFill) × IsByNew b.by) (sym x.2) (refl, numbered_new zero g.made r.0 r.1)

  named_placed : (a : Ask Asker) → Among a (named_asks all) → HasPlace a.by
  named_placed a m = elim (among_split a explicit filled m) [
    | inl k ↦ import_placed a.by (explicit_is a k).1
    | inr k ↦ new_placed a.by (filled_is a k).1
  ]

  asked_by : (by : Asker) (xs : List Stated) (a : Ask Asker) → HasPlace by → Among a (asked_for by xs) → (a.asking ≡ ToUse) × HasPlace a.by
  asked_by by xs a h m =
      let r = from_filtered (λ x. option_map (λ n. record { asking = ToUse; by = by; name = n; item = x }) (identifier_of x)) xs a m in
      go r.0 (identifier_of r.0) r.2
    where
      go : (x : Stated) (o : Option Name) → option_map (λ n. record { asking = ToUse; by = by; name = n; item = x }) o ≡ Some a → (a.asking ≡ ToUse) × HasPlace a.by
      go x None e = absurd (none-some _ e)
      go x (Some n) e = subst (λ (b : Ask Asker). (b.asking ≡ ToUse) × HasPlace b.by) (same_Some _ _ e) (refl, h)

  used_is : (a : Ask Asker) → Among a (asks_to_use all) → (a.asking ≡ ToUse) × HasPlace a.by
  used_is a m = elim (among_split a (flat_map (λ (b : Ask Asker). asked_for b.by (used_by b.item)) (named_asks all)) (flat_map (λ (d : Placed Asker). asked_for d.by (used_by_definition d.item)) all.definitions) m) [
    | inl k ↦ let r = among_flat (λ (b : Ask Asker). asked_for b.by (used_by b.item)) (named_asks all) a k in asked_by r.0.by (used_by r.0.item) a (named_placed r.0 r.1) r.2
    | inr k ↦
        let r = among_flat (λ (d : Placed Asker). asked_for d.by (used_by_definition d.item)) all.definitions a k in
        let e = mapped_among placed_definition g.definitions r.0 r.1 in
        let none : used_by_definition r.0.item ≡ [] = ap (λ (d : Placed Asker). used_by_definition d.item) e.2 ∙ alone e.0 e.1 in
        absurd (subst (λ xs. Among a (asked_for r.0.by xs)) none r.2)
  ]

  ask_placed : (a : Ask Asker) → Among a (asks_of all) → HasPlace a.by
  ask_placed a m = elim (among_split a (named_asks all) (asks_to_use all) m) [
    | inl k ↦ named_placed a k
    | inr k ↦ (used_is a k).1
  ]

  -- ---- by name and for an instance

  other_asking : (a : Ask Asker) → Among a (filled ++ asks_to_use all) → a.asking ≡ ByName → ⊥
  other_asking a m k = elim (among_split a filled (asks_to_use all) m) [
    | inl n ↦ let d : ⊥ = cc ((filled_is a n).0, k) in d
    | inr n ↦ let d : ⊥ = cc ((used_is a n).0, k) in d
  ]

  asks_are : asks_of all ≡ explicit ++ (filled ++ asks_to_use all)
  asks_are = append_assoc explicit filled (asks_to_use all)

  asked_explicitly : (a : Ask Asker) → Among a (asks_of all) → a.asking ≡ ByName → IsByImport a.by
  asked_explicitly a m k = elim (among_split a explicit (filled ++ asks_to_use all) (subst (Among a) asks_are m)) [
    | inl n ↦ (explicit_is a n).1
    | inr n ↦ absurd (other_asking a n k)
  ]

  asked_to_fill : (a : Ask Asker) → Among a (asks_of all) → a.asking ≡ ToFill → IsByNew a.by
  asked_to_fill a m k = elim (among_split a explicit (filled ++ asks_to_use all) (subst (Among a) asks_are m)) [
    | inl n ↦ absurd (let d : ⊥ = cc ((explicit_is a n).0, k) in d)
    | inr n ↦ elim (among_split a filled (asks_to_use all) n) [
      | inl l ↦ (filled_is a l).1
      | inr l ↦ absurd (let d : ⊥ = cc ((used_is a l).0, k) in d)
    ]
  ]

  -- ---- asks that do not merge

  module _ (define : Bool) (a b : Ask Asker) (u : IsUnmerged define all a b) where
    second_there : Among a (asks_of all)
    second_there = subst (Among a) (sym u.stands) (Among-right a u.before (a ∷ u.after) (inl refl))

    first_among : Among b (u.before ++ a ∷ [])
    first_among =
        (filter_among (λ d. list_any (λ (e : Ask Asker). bytes_eq d.name e.name) (class (asks_of all) a)) (u.before ++ a ∷ []) b (subst (Among b) (sym u.are) (inl refl))).0

    first_there : Among b (asks_of all)
    first_there = elim (among_split b u.before (a ∷ []) first_among) [
      | inl m ↦ subst (Among b) (sym u.stands) (Among-left b u.before (a ∷ u.after) m)
      | inr m ↦ elim m [
        | inl e ↦ subst (λ (d : Ask Asker). Among d (asks_of all)) (sym e) second_there
        | inr n ↦ absurd n
      ]
    ]

    first_asking : a.asking ≡ ByName → b.asking ≡ ByName
    first_asking k = elim (among_split b u.before (a ∷ []) first_among) [
      | inl m ↦ before_named explicit (filled ++ asks_to_use all) u.before a u.after (λ x n. (explicit_is x n).0) other_asking k (sym asks_are ∙ u.stands) b m
      | inr m ↦ elim m [
        | inl e ↦ ap (λ (d : Ask Asker). d.asking) e ∙ k
        | inr n ↦ absurd n
      ]
    ]

    of_imports : a.asking ≡ ByName → IsByImport b.by × IsByImport a.by
    of_imports k = (asked_explicitly b first_there (first_asking k), asked_explicitly a second_there k)

    of_others : HasPlace b.by × HasPlace a.by
    of_others = (ask_placed b first_there, ask_placed a second_there)

  import_there : (i : Placed Asker) → Among i all.imports → IsByImport i.by
  import_there i m = let r = mapped_among placed_import g.imports i m in subst (λ (p : Placed Asker). IsByImport p.by) (sym r.2) tt

  asked_so : (define : Bool) (x : Cause Asker) → StandsAgainst define all x → IsAskedSo x
  asked_so define x (asked_twice i a m n k q) = (import_there i m, asked_to_fill a n k)
  asked_so define x (import_unmerged a b u k) = of_imports define a b u k
  asked_so define x (ask_unmerged a b u k) = of_others define a b u
  asked_so define x (alias_of_value n y m k) = tt
  asked_so define x (outer_import n y m k) = tt
  asked_so define x (outer_in_circle n y m k) = tt
  asked_so define x (circle_in_definition n y m k) = tt
  asked_so define x (circle_in_package n y m k) = tt
  asked_so define x (definition d m k) = tt
  asked_so define x (imported_package n y m k) = tt

pub askers_placed : Askers_have_places
askers_placed d ps r e define x h = asked_so r.0 (definitions_alone d ps r e) define x h
