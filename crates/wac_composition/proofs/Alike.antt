-- The order of arguments does not matter.
use Rattle.std.specs.Prelude.{not, filter, is_some, map, option_map, if◌then◌else◌}
use Rattle.std.specs.List.{list_any, flat_map}
use Rattle.std.proofs.Common.{◌≡◌, List, [], ◌∷◌, ◌++◌, Bool, true, false, None, refl, ap, ◌∙◌}
use Rattle.wac_types_base.specs.Entries.{names_of}
use Rattle.wac_types_base.specs.Stated.{imports_of, world_of}
use Rattle.wac_types_names.specs.Keys.{Key, same_key}
use Rattle.wac_composition.specs.Composition.{Made, Composition}
use Rattle.wac_composition.specs.Asks.{ToFill, used_by, used_by_definition, explicit_ask, filled_asks, asked_for, named_asks, asks_of}
use Rattle.wac_composition.specs.Classes.{spelling}
use Rattle.wac_composition.specs.OuterImports.{outer_imports}
use Rattle.std.specs.Option.{option_or}
use Rattle.wac_composition.specs.Conflicts.{ImportNames, ExportNames, first_found, dependency_name, each_once, dependencies_of, implicit_conflict, merge_conflict, circle_cause, cause_at, placed, late_unwritable, whole_forms, outers_written, unwritable_cause, first_cause, twins, alike, name_cause}
use Rattle.wac_composition.specs.Writable.{outer_unwritable, definition_unwritable, package_unwritable, alias_unwritable}
use Rattle.wac_composition.specs.Circles.{written_whole, written_package}
use Rattle.wac_types_written.specs.Written.{without_uses}
use Rattle.wac_composition.specs.Worlds.{world_exports, composed_world}
use Rattle.wac_composition.specs.Alike.{IsSameMade, AreSameMade, IsAlike, MeansAlike}

module _ {A I : Type 0} where
  filled_alike : (m n : Made A I) → IsSameMade m n → filled_asks m ≡ filled_asks n
  filled_alike m n s = λ i. map (λ e. record { asking = ToFill; by = s.by i; name = e.0; item = e.1 }) (filter (λ e. not (is_some (s.arguments e.0 i))) (imports_of (s.world i)))

  all_filled : (ms ns : List (Made A I)) → AreSameMade ms ns → flat_map filled_asks ms ≡ flat_map filled_asks ns
  all_filled [] [] s = refl
  all_filled [] (n ∷ ns) s = absurd s
  all_filled (m ∷ ms) [] s = absurd s
  all_filled (m ∷ ms) (n ∷ ns) s = let first = filled_alike m n s.0 in let rest = all_filled ms ns s.1 in λ i. first i ++ rest i

  once_alike : (seen : List Key) (ms ns : List (Made A I)) → AreSameMade ms ns → each_once seen ms ≡ each_once seen ns
  once_alike seen [] [] s = refl
  once_alike seen [] (n ∷ ns) s = absurd s
  once_alike seen (m ∷ ms) [] s = absurd s
  once_alike seen (m ∷ ms) (n ∷ ns) s =
      let rest = once_alike seen ms ns s.1 in
      let more : each_once (m.key ∷ seen) ms ≡ each_once (n.key ∷ seen) ns = ap (λ k. each_once (k ∷ seen) ms) s.0.key ∙ once_alike (n.key ∷ seen) ms ns s.1 in
      λ i. if list_any (same_key (s.0.key i)) seen then rest i else (dependency_name (s.0.key i), s.0.world i) ∷ more i

  module _ (c d : Composition A I) (same : IsAlike c d) where
    named : named_asks c ≡ named_asks d
    named = let filled = all_filled c.made d.made same.made in λ i. map explicit_ask (same.imports i) ++ filled i

    asks : asks_of c ≡ asks_of d
    asks = λ i. named i ++ (flat_map (λ a. asked_for a.by (used_by a.item)) (named i) ++ flat_map (λ x. asked_for x.by (used_by_definition x.item)) (same.definitions i))

    dependencies : (define : Bool) → dependencies_of define c ≡ dependencies_of define d
    dependencies true = refl
    dependencies false = once_alike [] c.made d.made same.made

    unwritable : (define : Bool) → unwritable_cause define c (outer_imports (asks_of c)) ≡ unwritable_cause define d (outer_imports (asks_of d))
    unwritable define = λ i.
        option_or (first_found (cause_at alias_unwritable) (same.aliases i))
        (option_or (first_found (cause_at (outer_unwritable (outer_imports (asks i)))) (outer_imports (asks i)))
        (option_or (first_found (cause_at (definition_unwritable (outer_imports (asks i)))) (placed (same.definitions i)))
        (first_found (cause_at package_unwritable) (dependencies define i))))

    circle : (define : Bool) → circle_cause define c (spelling (asks_of c)) (outer_imports (asks_of c)) ≡ circle_cause define d (spelling (asks_of d)) (outer_imports (asks_of d))
    circle define = λ i.
        option_or (first_found (cause_at (late_unwritable true)) (outers_written (spelling (asks i)) (outer_imports (asks i))))
        (option_or (first_found (cause_at (late_unwritable true)) (flat_map written_whole (whole_forms (same.definitions i))))
        (first_found (cause_at (late_unwritable true)) (flat_map written_package (dependencies define i))))

    cause : (define : Bool) → first_cause define c ≡ first_cause define d
    cause define = λ i.
        option_or (implicit_conflict (same.imports i) (asks i))
        (option_or (merge_conflict (asks i) [] (asks i))
        (option_or (unwritable define i)
        (circle define i)))

    names : (define validate : Bool) → name_cause define validate c ≡ name_cause define validate d
    names define validate = λ i.
        option_or (option_map (λ t. ImportNames t.0 t.1) (twins (alike validate) [] (names_of (outer_imports (asks i)) ++ names_of (dependencies define i))))
        (option_map (λ t. ExportNames t.0 t.1) (twins (alike validate) [] (map (λ e. e.0) (same.exports i))))

    world : composed_world c ≡ composed_world d
    world = λ i. without_uses (world_of None [] (outer_imports (asks i)) (world_exports (asks i) (same.exports i)))

    pub means_alike : MeansAlike c d
    means_alike = record { asks = asks; cause = cause; names = names; world = world }
