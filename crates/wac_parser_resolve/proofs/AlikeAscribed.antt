-- What documents ascribe is wired the same whatever the spans are, and over packages that are the same where they are named.
use Rattle.std.specs.Prelude.{ℕ, suc, Bool, true, List, [], ◌∷◌, map, Option, Some, None, option_map, is_ok}
use Rattle.std.proofs.Common.{◌≡◌, refl, sym, ap, ◌∙◌, subst}
use Rattle.wac_types_base.specs.Entries.{Name}
use Rattle.wac_types_base.specs.Stated.{Stated}
use Rattle.wac_types_names.specs.Keys.{Key}
use Rattle.wac_graph_bytes.specs.Wirings.{Tag}
use Rattle.wac_composition.specs.Composition as c
use Rattle.wac_composition.specs.Composition.{Composition}
use Rattle.wac_composition.specs.Conflicts.{Cause, first_cause, name_cause}
use Rattle.wac_composition.specs.Renaming.{origin_renamed, placed_renamed, cause_renamed, made_renamed, renamed, KeepsMeaning}
use Rattle.wac_composition.specs.Wired.{composed_wiring}
use Rattle.wac_composition.specs.Worlds.{composed_world}
use Rattle.wac_composition.proofs.Renamed.{keeps_meaning}
use Rattle.wac_composition.proofs.SameWiring.{itself, wiring_kept}
use Rattle.wac_parser_tree.specs.Trees as t
use Rattle.wac_parser_tree.specs.Bare.{nowhere, bare}
use Rattle.wac_parser_refusals.specs.Causes.{Answer, ◌>>◌, pure}
use Rattle.wac_parser_refusals.proofs.Alike.{IsAlike, both, neither, AreSame, then_alike, next_alike}
use Rattle.wac_parser_declare.specs.Packages.{Content}
use Rattle.wac_parser_resolve.specs.Ascribing.{Denoted, Made, Import, Bound, State}
use Rattle.wac_parser_resolve.specs.Meeting.{resolved}
use Rattle.wac_parser_resolve.specs.Ascribed.{Asker, by_import, by_instance, by_definition, argument_in, numbered, placed_import, placed_definition, composition, unless_cause, ascribed, said_export}
use Rattle.wac_parser_resolve.specs.Laws.{AreWiredAlike, NamesTheSame, Acceptance_is_of_trees, Wiring_is_of_trees}
use Rattle.wac_parser_resolve.proofs.Answers.{err_ok, ok_is}
use Rattle.wac_parser_resolve.proofs.AlikeStates.{bare_asked, bare_made, bare_exports, bare_over}
use Rattle.wac_parser_resolve.proofs.AlikeTargets.{resolved_alike}

-- ---- who asks

abbrev bare_asker : Asker → Asker
bare_asker (by_import i) = by_import (bare_asked i)
bare_asker (by_instance k s) = by_instance k nowhere
bare_asker by_definition = by_definition

origin_itself : (o : c.Origin ℕ) → origin_renamed itself o ≡ o
origin_itself (c.imported n) = refl
origin_itself (c.instance k) = refl
origin_itself (c.projected o n) = ap (λ p. c.projected p n) (origin_itself o)
origin_itself (c.defined n x) = refl

imports_bare : (is : List Import) → map placed_import (map bare_asked is) ≡ map (placed_renamed bare_asker) (map placed_import is)
imports_bare [] = refl
imports_bare (i ∷ is) = ap (λ ps. placed_renamed bare_asker (placed_import i) ∷ ps) (imports_bare is)

definitions_bare : (ds : List (Name × Stated)) → map placed_definition ds ≡ map (placed_renamed bare_asker) (map placed_definition ds)
definitions_bare [] = refl
definitions_bare (d ∷ ds) = ap (λ ps. placed_definition d ∷ ps) (definitions_bare ds)

abbrev argument_itself : Name × c.Origin ℕ → Name × c.Origin ℕ
argument_itself e = (e.0, origin_renamed itself e.1)

arguments_bare : (as_ : List (Name × Denoted)) → map argument_in as_ ≡ map argument_itself (map argument_in as_)
arguments_bare [] = refl
arguments_bare (e ∷ as_) = λ i. (e.0, sym (origin_itself (argument_in e).1) i) ∷ arguments_bare as_ i

made_bare : (k : ℕ) (ms : List Made) → numbered k (map bare_made ms) ≡ map (made_renamed bare_asker itself) (numbered k ms)
made_bare k [] = refl
made_bare k (m ∷ ms) = λ i. record { by = by_instance m.key nowhere; number = k; key = m.key; world = m.world; arguments = arguments_bare m.arguments i } ∷ made_bare (suc k) ms i

abbrev export_itself : Name × c.Origin ℕ × Stated → Name × c.Origin ℕ × Stated
export_itself e = (e.0, origin_renamed itself e.1, e.2)

exports_bare : (es : List (Name × Bound)) → map said_export (bare_exports es) ≡ map export_itself (map said_export es)
exports_bare [] = refl
exports_bare (e ∷ es) = λ i. (e.0, sym (origin_itself (said_export e).1) i, e.1.denoted.item) ∷ exports_bare es i

composition_bare : (qs : List (Key × Content)) (g : State) → composition (bare_over qs g) ≡ renamed bare_asker itself (composition g)
composition_bare qs g = λ i. record {
  imports = imports_bare g.imports i;
  made = made_bare 0 g.made i;
  definitions = definitions_bare g.definitions i;
  aliases = (composition g).aliases;
  exports = exports_bare g.exports i;
}

-- ---- what is ascribed

unless_alike : (o p : Option (Cause Asker)) → p ≡ option_map (cause_renamed bare_asker) o → AreSame (unless_cause o) (unless_cause p)
unless_alike o p e = subst (λ (q : Option (Cause Asker)). AreSame (unless_cause o) (unless_cause q)) (sym e) (go o)
  where
    go : (o : Option (Cause Asker)) → AreSame (unless_cause o) (unless_cause (option_map (cause_renamed bare_asker) o))
    go None = both tt
    go (Some x) = neither _ _

abbrev read : State × Option Stated → Composition Asker ℕ × Option Stated
read r = (composition r.0, r.1)

abbrev read_bare : List (Key × Content) → State × Option Stated → Composition Asker ℕ × Option Stated
read_bare qs r = (composition (bare_over qs r.0), r.1)

abbrev AreAscribedAlike : List (Key × Content) → Answer (Composition Asker ℕ × Option Stated) → Answer (Composition Asker ℕ × Option Stated) → Type 0
AreAscribedAlike qs x y = IsAlike {A = State × Option Stated} read (read_bare qs) x y

uncaused : (qs : List (Key × Content)) (define : Bool) (r : State × Option Stated) → AreAscribedAlike qs
    (unless_cause (first_cause define (composition r.0)) >> (unless_cause (name_cause define true (composition r.0)) >> pure (read r)))
    (unless_cause (first_cause define (composition (bare_over qs r.0))) >> (unless_cause (name_cause define true (composition (bare_over qs r.0))) >> pure (read_bare qs r)))
uncaused qs define r =
    next_alike (unless_alike (first_cause define (composition r.0)) (first_cause define (composition (bare_over qs r.0))) (ap (first_cause define) (composition_bare qs r.0) ∙ meaning.cause define))
    (next_alike (unless_alike (name_cause define true (composition r.0)) (name_cause define true (composition (bare_over qs r.0))) (ap (name_cause define true) (composition_bare qs r.0) ∙ meaning.names define true)) (both r))
  where
    meaning : KeepsMeaning bare_asker itself (composition r.0)
    meaning = keeps_meaning bare_asker itself (composition r.0)

names_itself : (d : t.Document) (ps : List (Key × Content)) → NamesTheSame d ps ps
names_itself d ps = record { packages = λ k m. refl; tracks = λ x m. record { greatest = refl; world = λ v e. refl } }

ascribed_alike : (ps qs : List (Key × Content)) (define : Bool) (d : t.Document) → NamesTheSame d ps qs → AreAscribedAlike qs (ascribed define d ps) (ascribed define (bare d) qs)
ascribed_alike ps qs define d h = then_alike _ _ (resolved_alike ps qs d h) (uncaused qs define)

-- the readings of one composition are wired the same
wired_alike : (tag_of : Key → Tag) (qs : List (Key × Content)) (g : State) → composed_wiring tag_of (composition (bare_over qs g)) ≡ composed_wiring tag_of (composition g)
wired_alike tag_of qs g = ap (composed_wiring tag_of) (composition_bare qs g) ∙ wiring_kept bare_asker tag_of (composition g)

world_alike : (qs : List (Key × Content)) (g : State) → composed_world (composition (bare_over qs g)) ≡ composed_world (composition g)
world_alike qs g = ap composed_world (composition_bare qs g) ∙ (keeps_meaning bare_asker itself (composition g)).world

joined : (qs : List (Key × Content)) {x y b z : Answer (Composition Asker ℕ × Option Stated)} → AreAscribedAlike qs x b → AreAscribedAlike qs y z → b ≡ z → AreWiredAlike x y
joined qs (both r) (both s) e = ((λ tag_of. sym (wired_alike tag_of qs r.0) ∙ ap (λ p. composed_wiring tag_of p.0) same ∙ wired_alike tag_of qs s.0), sym (world_alike qs r.0) ∙ ap (λ p. composed_world p.0) same ∙ world_alike qs s.0, ap (λ p. p.1) same)
  where
    same : read_bare qs r ≡ read_bare qs s
    same = ok_is (read_bare qs r) (read_bare qs s) e
joined qs (both r) (neither c d) e = absurd (err_ok d _ e)
joined qs (neither c d) (both r) e = absurd (err_ok d _ (sym e))
joined qs (neither c d) (neither f g) e = tt

pub wiring_is_of_trees : Wiring_is_of_trees
wiring_is_of_trees d e ps qs define same h = joined qs (ascribed_alike ps qs define d h) (ascribed_alike qs qs define e (names_itself e qs)) (ap (λ t. ascribed define t qs) same)

accepted_alike : {A B C : Type 0} {f : A → B} {g : A → C} {q : Answer B} {r : Answer C} → IsAlike f g q r → is_ok q ≡ is_ok r
accepted_alike (both a) = refl
accepted_alike (neither c d) = refl

pub acceptance_is_of_trees : Acceptance_is_of_trees
acceptance_is_of_trees d e ps qs same h = accepted_alike (resolved_alike ps qs d h) ∙ ap (λ t. is_ok (resolved t qs)) same ∙ sym (accepted_alike (resolved_alike qs qs e (names_itself e qs)))
