-- What an accepted document ascribes is wired.
use Rattle.std.specs.Prelude.{option_map}
use Rattle.std.proofs.lemmas.Option.{none-some, same_Some}
use Rattle.std.proofs.Common.{◌≡◌, ℕ, zero, List, true, Option, Some, None, refl, sym, ap, subst, ◌∙◌}
use Rattle.wac_types_base.specs.Entries.{Name, value_at}
use Rattle.wac_types_base.specs.Stated.{Stated, imports_of}
use Rattle.wac_types_base.specs.Tree.{tree}
use Rattle.wac_types_base.specs.Fits.{Fits}
use Rattle.wac_types_base.proofs.Lists.{among_mapped}
use Rattle.wac_types_names.specs.Keys.{Key}
use Rattle.wac_composition.specs.Composition as c
use Rattle.wac_composition.specs.Composition.{Origin, Composition}
use Rattle.wac_composition.specs.Tests.{fits}
use Rattle.wac_types_written.specs.Written.{written_definition}
use Rattle.wac_composition.specs.OuterLaws.{AreMet}
use Rattle.wac_composition.specs.Sound.{HasType, of_import, of_instance, of_export, of_definition, given_as, IsGiven, IsSound, IsWired}
use Rattle.wac_composition.proofs.FitBack.{fits_decides}
use Rattle.wac_composition.proofs.Bound.{wired}
use Rattle.wac_composition.proofs.Merged.{all_met}
use Rattle.wac_composition.proofs.Lists.{mapped_among}
use Rattle.wac_parser_declare.specs.Packages.{Content}
use Rattle.wac_parser_resolve.specs.Ascribing.{Denoted, Made, State}
use Rattle.wac_parser_resolve.specs.Denoting.{compared_by}
use Rattle.wac_parser_resolve.specs.Ascribed.{Asker, made_in, placed_import, placed_definition, composition, said_export}
use Rattle.wac_parser_resolve.specs.Saying.{statements}
use Rattle.wac_parser_resolve.specs.Meeting.{resolved, target}
use Rattle.wac_parser_resolve.specs.Laws.{Documents_are_wired, Resolved_are_wired}
use Rattle.wac_parser_resolve.specs.Ascribing.{worlds_of}
use Rattle.wac_parser_resolve.specs.Proper.{AreProper}
use Rattle.wac_parser_resolve.proofs.Answers.{ok_is, ok_of}
use Rattle.wac_parser_resolve.proofs.Sound.{Has, an_import, an_instance, an_export, a_definition, IsMadeOk, Sound, statements_sound}
use Rattle.wac_parser_resolve.proofs.Ordered.{numbered_is, numbered_at, argument_is, said}
use Rattle.wac_parser_resolve.proofs.ProperStates.{IsRegular, statements_formed, is_regular}

-- an argument fits as it is given
given_fits : (g : State) (o : Origin ℕ) (x asked : Stated) → Has g o x → fits (compared_by o x) asked ≡ true → Fits (tree (given_as o x)) (tree asked)
given_fits g o x asked (an_import i m) e = (fits_decides x asked).0 e
given_fits g o x asked (an_instance k m s) e = (fits_decides x asked).0 e
given_fits g o x asked (an_export p z n y h k v) e = (fits_decides x asked).0 e
given_fits g o x asked (a_definition n y m) e = (fits_decides (written_definition y) asked).0 e

module _ (ps : List (Key × Content)) (g : State) (sound : Sound ps g) (regular : IsRegular (composition g)) where
  has_type : (o : Origin ℕ) (x : Stated) → Has g o x → HasType (composition g) o x
  has_type o x (an_import i m) = of_import (placed_import i) (among_mapped placed_import g.imports i m)
  has_type o x (an_instance k m e) = let r = numbered_at zero g.made k m e in of_instance k (made_in r.0 m) r.1
  has_type o x (an_export p z n y h k e) = of_export p z n y (has_type p z h) k e
  has_type o x (a_definition n y m) = let r = regular.types (placed_definition (n, y)) (among_mapped placed_definition g.definitions (n, y) m) in of_definition n y r.0 r.1

  is_given : (k : ℕ) (m : Made) (n : Name) (x : Stated) → IsMadeOk ps g k m → value_at (imports_of m.world) n ≡ Some x → (o : Option Denoted) → value_at m.arguments n ≡ o → (q : Origin ℕ)
      → option_map (λ (d : Denoted). d.origin) o ≡ Some q → IsGiven (composition g) k q x
  is_given k m n x ok v None e q r = absurd (none-some _ r)
  is_given k m n x ok v (Some d) e q r = subst (λ o. IsGiven (composition g) k o x) (same_Some _ _ r) (record {
    item = d.item;
    has = has_type d.origin d.item (ok.has n d e);
    fits = given_fits g d.origin d.item x (ok.has n d e) (ok.fit n d e x v);
    before = ok.before n d e;
  })

  is_sound : IsSound (composition g)
  is_sound = record {
    given = λ k m n o x e v w. let r = numbered_is zero g.made k m e in
        is_given k r.made n x (sound.made k r.made r.there) (ap (λ (y : c.Made Asker ℕ). value_at (imports_of y.world) n) (sym r.is) ∙ w) (value_at r.made.arguments n) refl o
        (sym (argument_is r.made.arguments n) ∙ ap (λ (y : c.Made Asker ℕ). value_at y.arguments n) (sym r.is) ∙ v);
    exported = λ n o x m. let a = mapped_among said_export g.exports (n, o, x) m in
        subst (λ (e : Name × Origin ℕ × Stated). HasType (composition g) e.1 e.2) (sym a.2) (has_type a.0.1.denoted.origin a.0.1.denoted.item (sound.exports a.0 a.1));
    straight = regular.straight;
  }

pub documents_are_wired : Documents_are_wired
documents_are_wired d ps define x packages e tag_of =
    let s = said d ps define x e in
    let regular = is_regular ps packages s.state s.sound (statements_formed ps packages d s.state s.statements) in
    subst (IsWired tag_of) (sym s.is) (wired tag_of (composition s.state) (all_met define (composition s.state) s.free) (is_sound ps s.state s.sound regular))

pub resolved_are_wired : Resolved_are_wired
resolved_are_wired d ps r packages e met tag_of =
    let g = ok_of (statements d ps) _ r (sym e) in
    let w = ok_of (target g.0 d.directive.targets) _ r g.2 in
    let same : r.0 ≡ g.0 = ap (λ (q : State × Option Stated). q.0) (ok_is r (g.0, w.0) w.2) in
    let sound = statements_sound ps d g.0 (sym g.1) in
    let regular = is_regular ps packages g.0 sound (statements_formed ps packages d g.0 (sym g.1)) in
    subst (λ (s : State). IsWired tag_of (composition s)) (sym same)
    (wired tag_of (composition g.0) (subst (λ (s : State). AreMet (composition s)) same met) (is_sound ps g.0 sound regular))
