-- The wiring of a graph that holds what was said is the ascribed one.
use Rattle.std.specs.Prelude.{slice_get, unwrap_or, option_map, is_some, cond}
use Rattle.std.proofs.lemmas.Option.{same_Some, none-some}
use Rattle.std.proofs.Common.{◌≡◌, ℕ, zero, suc, List, [], ◌∷◌, Bool, true, false, Option, Some, None, IsSome, refl, sym, ap, subst, ◌∙◌}
use Rattle.wac_types_base.specs.Collection.{IsAcyclic}
use Rattle.wac_types_base.specs.Entries.{Name, names_of, value_at}
use Rattle.wac_types_base.specs.Stated.{Stated, imports_of}
use Rattle.wac_types_base.specs.Tree.{tree}
use Rattle.wac_types_names.specs.Packaged.{Packaged}
use Rattle.wac_types_names.specs.Keys.{Key, package_key}
use Rattle.wac_types_fit.proofs.Items.{value_at-among}
use Rattle.wac_graph_bytes.specs.Wirings.{Tag, OfBytes, Source, Absent, Outer, Inst, Instantiation, Wiring, Same, project, rename, renamed as moved}
use Rattle.wac_graph_bytes.proofs.Replace.{replace-project}
use Rattle.wac_graph_core.specs.Graph.{Graph, IsGraph, instantiated}
use Rattle.wac_graph_core.specs.Walking.{first_argument}
use Rattle.wac_composition.specs.Composition as c
use Rattle.wac_types_base.specs.Fits.{Fits}
use Rattle.wac_types_base.specs.Graph.{Among}
use Rattle.wac_composition.specs.Asks.{Ask, asks_of}
use Rattle.wac_composition.specs.OuterLaws.{AreMet}
use Rattle.wac_composition.proofs.Lists.{mapped_among}
use Rattle.wac_composition.specs.Classes.{spelling}
use Rattle.wac_composition.specs.OuterImports.{outer_imports}
use Rattle.wac_composition.specs.Renaming.{ask_renamed, origin_renamed, renamed, KeepsMeaning}
use Rattle.wac_composition.specs.Alike.{MeansAlike}
use Rattle.wac_composition.specs.Worlds.{source_of}
use Rattle.wac_composition.specs.Wired.{argument_source, composed_wiring, export_source, instantiation, source_for}
use Rattle.wac_composition.proofs.Alike.{means_alike}
use Rattle.wac_composition.proofs.Renamed.{keeps_meaning}
use Rattle.wac_graph_asks.specs.Graphs.{composition_of, origin_of}
use Rattle.wac_graph_asks.specs.Wirings.{IsGraphWiring}
use Rattle.wac_graph_asks.proofs.Origins.{argument_is, denoted, given_is, made_of, package_stands, value_mapped}
use Rattle.wac_parser_tree.specs.Trees.{Span}
use Rattle.wac_parser_declare.specs.Packages.{Content}
use Rattle.wac_parser_resolve.specs.Ascribed.{Asker, composition, made_in, numbered}
use Rattle.wac_parser_resolve.specs.Ascribing.{Bound, Denoted, Made, State}
use Rattle.wac_parser_resolve.specs.Holding.{InTurn, IsMade}
use Rattle.wac_parser_resolve.specs.InDocuments.{IsBuilt}
use Rattle.wac_parser_resolve.specs.Resolved.{Places}
use Rattle.wac_parser_resolve.specs.Meeting.{target}
use Rattle.wac_parser_resolve.specs.Saying.{statements}
use Rattle.wac_parser_resolve.proofs.Answers.{ok_is, ok_of}
use Rattle.wac_parser_resolve.proofs.Ordered.{numbered_is, numbered_at, export_is}
use Rattle.wac_parser_resolve.proofs.Rooted.{AreFound, both_found}
use Rattle.wac_parser_resolve.proofs.Sound.{Sound, statements_sound}
use Rattle.wac_parser_ascribed.specs.Tied.{place_of, handed_tag, IsAscribed, IsTagged, Graphs_are_ascribed, handed_bytes}
use Rattle.wac_parser_ascribed.proofs.Origins.{has_states, node_of, origin_is}
use Rattle.wac_parser_ascribed.proofs.Places.{at_place, place_is}
use Rattle.wac_parser_ascribed.proofs.Noted.{placed, keys}
use Rattle.wac_parser_ascribed.proofs.Tied.{ms, ms_apart, asker, alike, not_passed, passed_is}

-- ---- lists

turn_at : {A B : Type 0} (R : A → B → Type 0) (xs : List A) (ys : List B) (i : ℕ) (x : A) → InTurn R xs ys → slice_get xs i ≡ Some x → (y : B) × (slice_get ys i ≡ Some y) × R x y
turn_at R [] ys i x t e = absurd (none-some _ e)
turn_at R (z ∷ xs) [] i x t e = absurd t
turn_at R (z ∷ xs) (y ∷ ys) zero x t e = (y, refl, subst (λ w. R w y) (same_Some _ _ e) t.0)
turn_at R (z ∷ xs) (y ∷ ys) (suc i) x t e = turn_at R xs ys i x t.1 e

turn_from : {A B : Type 0} (R : A → B → Type 0) (xs : List A) (ys : List B) (i : ℕ) (y : B) → InTurn R xs ys → slice_get ys i ≡ Some y → (x : A) × (slice_get xs i ≡ Some x) × R x y
turn_from R xs [] i y t e = absurd (none-some _ e)
turn_from R [] (z ∷ ys) i y t e = absurd t
turn_from R (x ∷ xs) (z ∷ ys) zero y t e = (x, refl, subst (R x) (same_Some _ _ e) t.0)
turn_from R (x ∷ xs) (z ∷ ys) (suc i) y t e = turn_from R xs ys i y t.1 e

-- the numbers of what stands at a place
name_at : {T : Type 0} (es : List (ℕ × T)) (i : ℕ) (e : ℕ × T) → slice_get es i ≡ Some e → slice_get (names_of es) i ≡ Some e.0
name_at [] i e q = absurd (none-some _ q)
name_at (x ∷ es) zero e q = ap (λ p. Some p.0) (same_Some _ _ q)
name_at (x ∷ es) (suc i) e q = name_at es i e q

named_at : {T : Type 0} (es : List (ℕ × T)) (i k : ℕ) → slice_get (names_of es) i ≡ Some k → (e : ℕ × T) × (slice_get es i ≡ Some e) × (e.0 ≡ k)
named_at [] i k q = absurd (none-some _ q)
named_at (x ∷ es) zero k q = (x, refl, same_Some _ _ q)
named_at (x ∷ es) (suc i) k q = named_at es i k q

module _ (g : Graph) (sound : IsGraph g) (acyclic : IsAcyclic g.types) {places : Places} (s : State) (b : IsBuilt g places s) (ps : List (Key × Content)) (said : Sound ps s) where
  abbrev who : ℕ → Asker
  who = asker g sound acyclic s b ps said

  abbrev nodes : List ℕ
  nodes = ms g sound acyclic s b ps said

  abbrev node : ℕ → ℕ
  node = node_of g sound acyclic nodes

  abbrev keeps : KeepsMeaning who (place_of nodes) (composition_of g)
  keeps = keeps_meaning who (place_of nodes) (composition_of g)

  tied : MeansAlike (renamed who (place_of nodes) (composition_of g)) (composition s)
  tied = means_alike (renamed who (place_of nodes) (composition_of g)) (composition s) (alike g sound acyclic s b ps said)

  outers : outer_imports (asks_of (composition s)) ≡ outer_imports (asks_of (composition_of g))
  outers = ap outer_imports (sym tied.asks) ∙ keeps.outers

  spelled : (n : Name) → spelling (asks_of (composition s)) n ≡ spelling (asks_of (composition_of g)) n
  spelled n = ap (λ l. spelling l n) (sym tied.asks) ∙ keeps.spelled n

  -- what the graph's composition asks is met, and so is what the document's does
  met_moved : AreMet (composition_of g) → AreMet (composition s)
  met_moved h a m =
      let y = mapped_among (ask_renamed who) (asks_of (composition_of g)) a (subst (Among a) (sym tied.asks ∙ keeps.asks) m) in
      let k = h y.0 y.1 in
      record {
        item = k.item;
        there = ap (λ l. value_at l (spelling (asks_of (composition s)) a.name)) outers
            ∙ ap (value_at (outer_imports (asks_of (composition_of g)))) (spelled a.name ∙ ap (λ (z : Ask Asker). spelling (asks_of (composition_of g)) z.name) y.2) ∙ k.there;
        fits = subst (λ (z : Ask Asker). Fits (tree k.item) (tree z.item)) (sym y.2) k.fits;
      }

  -- ---- sources

  source_moved : (o : c.Origin ℕ) → source_of (asks_of (composition_of g)) (origin_renamed node o) ≡ rename node (source_of (asks_of (composition s)) o)
  source_moved (c.imported n) = ap Outer (sym (spelled n))
  source_moved (c.instance k) = refl
  source_moved (c.projected o n) =
      ap (λ u. project u n) (source_moved o) ∙ sym (replace-project Outer (λ k. Inst (node k)) (source_of (asks_of (composition s)) o) n)
  source_moved (c.defined n x) = refl

  module _ (tag : Key → Tag) (W : Wiring ℕ) (is : IsGraphWiring g W) (V : Wiring ℕ) (v : IsTagged tag g W V) where
    -- ---- what an instance is given

    given_at : (first other : Key → Tag) (i k : ℕ) (m : Made) (e : ℕ × Span) → e.0 ≡ k → slice_get s.made i ≡ Some m → IsMade g nodes m e → (n : Name)
        → source_for first (composition_of g) (option_map (origin_of g) (first_argument g.edges k n)) n ≡ rename node (source_for other (composition s) (option_map (λ (d : Denoted). d.origin) (value_at m.arguments n)) n)
    given_at first other i k m e same here a n = by (value_at m.arguments n) refl
      where
        by : (o : Option Denoted) → value_at m.arguments n ≡ o
            → source_for first (composition_of g) (option_map (origin_of g) (first_argument g.edges k n)) n ≡ rename node (source_for other (composition s) (option_map (λ (d : Denoted). d.origin) o) n)
        by None v =
            ap (λ (o : Option ℕ). source_for first (composition_of g) (option_map (origin_of g) o) n) (not_passed g sound acyclic s b ps said k m e same a n v)
            ∙ ap Outer (sym (spelled n))
        by (Some d) v =
            let p = passed_is g sound acyclic s b ps said k m e same a n d v in
            let states = has_states g s d.origin d.item p.0 ((said.made i m here).has n d v) p.2.item in
            ap (λ (o : Option ℕ). source_for first (composition_of g) (option_map (origin_of g) o) n) p.1
            ∙ ap (source_of (asks_of (composition_of g))) (origin_is g sound acyclic nodes d.origin p.0 p.2.node states)
            ∙ source_moved d.origin

    -- the instance of a node, with the tag of its package
    abbrev IsInstanceOf : ℕ → ℕ → Made → Type 0
    IsInstanceOf j k m = V.at k ≡ Some (moved node (instantiation tag (composition s) (made_in j m)))

    instance_of : (i j k : ℕ) (m : Made) (e : ℕ × Span) → e.0 ≡ k → slice_get s.made i ≡ Some m → IsMade g nodes m e → IsInstanceOf j k m
    instance_of i j k m e same here a =
        let made : instantiated g k ≡ Some a.of = subst (λ l. instantiated g l ≡ Some a.of) same a.is in
        let x = is.instances k a.of made in
        let args : (n : Name) → x.0.args n ≡ rename node (argument_source tag (composition s) (made_in j m) n) = λ n.
        given_is g sound acyclic k a.of x.0 made x.2 n
        ∙ ap (λ (w : Stated). cond (is_some (value_at (imports_of w) n)) (source_for (λ key. OfBytes a.of.bytes) (composition_of g) (value_at (made_of g sound acyclic k a.of).arguments n) n) Absent) a.world.same
        ∙ ap (λ (o : Option (c.Origin ℕ)). cond (is_some (value_at (imports_of m.world) n)) (source_for (λ key. OfBytes a.of.bytes) (composition_of g) o n) Absent) (argument_is g sound acyclic k n)
        ∙ passed (is_some (value_at (imports_of m.world) n)) _ _ (given_at (λ key. OfBytes a.of.bytes) tag i k m e same here a n)
        ∙ ap (λ (o : Option (c.Origin ℕ)). rename node (cond (is_some (value_at (imports_of m.world) n)) (source_for tag (composition s) o n) Absent)) (sym (value_mapped (λ (d : Denoted). d.origin) m.arguments n)) in
        v.instances k a.of x.0 made x.1 ∙ (λ l. Some (record { tag = ap tag a.key l; args = λ n. args n l }))
      where
        passed : (t : Bool) (u v : Source ℕ) → u ≡ rename node v → cond t u Absent ≡ rename node (cond t v Absent)
        passed true u v h = h
        passed false u v h = refl

    -- ---- the same

    abbrev composed : Wiring ℕ
    composed = composed_wiring tag (composition s)

    there : (i : ℕ) (x : Instantiation ℕ) → composed.at i ≡ Some x → (place_of nodes (node i) ≡ i) × (V.at (node i) ≡ Some (moved node x))
    there i x q = by (slice_get (numbered zero s.made) i) refl q
      where
        by : (o : Option (c.Made Asker ℕ)) → slice_get (numbered zero s.made) i ≡ o → option_map (instantiation tag (composition s)) o ≡ Some x → (place_of nodes (node i) ≡ i) × (V.at (node i) ≡ Some (moved node x))
        by None r q = absurd (none-some _ q)
        by (Some y) r q =
            let m = numbered_is zero s.made i y r in
            let e = turn_at (IsMade g nodes) s.made places.instances i m.made b.says.made m.there in
            let at : slice_get nodes i ≡ Some e.0.0 = name_at places.instances i e.0 e.1 in
            let number : node i ≡ e.0.0 = ap (λ (o : Option ℕ). unwrap_or o zero) at in
            let here = instance_of i m.number e.0.0 m.made e.0 refl m.there e.2 in
            let same : instantiation tag (composition s) (made_in m.number m.made) ≡ x = ap (instantiation tag (composition s)) (sym m.is) ∙ same_Some _ _ q in (
              ap (place_of nodes) number ∙ place_is nodes i e.0.0 (ms_apart g sound acyclic s b ps said) at,
              ap V.at number ∙ here ∙ ap (λ z. Some (moved node z)) same,
            )

    back : (j : ℕ) (y : Instantiation ℕ) → V.at j ≡ Some y → (x : Instantiation ℕ) × (composed.at (place_of nodes j) ≡ Some x) × (node (place_of nodes j) ≡ j)
    back j y q = by (instantiated g j) refl
      where
        by : (o : Option Packaged) → instantiated g j ≡ o → (x : Instantiation ℕ) × (composed.at (place_of nodes j) ≡ Some x) × (node (place_of nodes j) ≡ j)
        by None r = absurd (none-some _ (sym (v.no_other j r) ∙ q))
        by (Some p) r =
            let at = at_place nodes j (b.says.all j (subst IsSome (sym r) refl)) in
            let e = named_at places.instances (place_of nodes j) j at in
            let m = turn_from (IsMade g nodes) s.made places.instances (place_of nodes j) e.0 b.says.made e.1 in
            let n = numbered_at zero s.made (place_of nodes j) m.0 m.1 in (
              instantiation tag (composition s) (made_in n.0 m.0),
              ap (option_map (instantiation tag (composition s))) n.1,
              ap (λ (o : Option ℕ). unwrap_or o zero) at,
            )

    exports : (n : Name) → rename node (composed.exports n) ≡ V.exports n
    exports n =
        ap (λ o. rename node (export_source tag (composition s) o)) (export_is s.exports n)
        ∙ by (value_at s.exports n) (value_at g.exports n) refl refl (both_found g nodes s.exports g.exports n b.exports.are) ∙ sym (v.exports n)
      where
        by : (o : Option Bound) (p : Option ℕ) → value_at s.exports n ≡ o → value_at g.exports n ≡ p → AreFound g nodes o p
            → rename node (export_source tag (composition s) (option_map (λ (d : Bound). d.denoted.origin) o)) ≡ W.exports n
        by None None x y f = sym (is.no_export n y)
        by None (Some k) x y f = absurd f
        by (Some d) None x y f = absurd f
        by (Some d) (Some k) x y f =
            let states = has_states g s d.denoted.origin d.denoted.item k (said.exports (n, d) (value_at-among s.exports n d x)) f.item in
            sym (denoted g sound acyclic k (W.exports n) (is.exported n k y)
            ∙ ap (source_of (asks_of (composition_of g))) (origin_is g sound acyclic nodes d.denoted.origin k f.node states)
            ∙ source_moved d.denoted.origin)

    same : Same composed V
    same = record {
      to = node;
      from = place_of nodes;
      outers = λ n. ap (λ l. option_map tree (value_at l n)) outers ∙ sym (is.outers n) ∙ sym (v.outers n);
      there = there;
      back = back;
      exports = exports;
    }

  -- a wiring of the graph has the bytes that were handed in
  nested : (W : Wiring ℕ) → IsGraphWiring g W → IsTagged (handed_tag s.packages) g W W
  nested W is = record { outers = λ n. refl; instances = instances; no_other = is.no_other; exports = λ n. refl }
    where
      instances : (k : ℕ) (p : Packaged) (x : Instantiation ℕ) → instantiated g k ≡ Some p → W.at k ≡ Some x → W.at k ≡ Some (record { tag = handed_tag s.packages (package_key p); args = x.args })
      instances k p x made at =
          let y = is.instances k p made in
          let id = package_stands g sound acyclic k p made in
          let tag : x.tag ≡ handed_tag s.packages (package_key p) =
          ap (λ (z : Instantiation ℕ). z.tag) (same_Some _ _ (sym at ∙ y.1)) ∙ y.2.tag ∙ sym (ap (λ o. OfBytes (handed_bytes o)) (b.packages id.0 p id.1)) in
          at ∙ (λ l. Some (record { tag = tag l; args = x.args }))

  pub is_ascribed : IsAscribed g places s
  is_ascribed = record {
    asker = who;
    number = place_of nodes;
    placed = placed g sound acyclic s b ps said;
    keys = keys g sound acyclic s b ps said;
    alike = alike g sound acyclic s b ps said;
    cause = λ define. sym (tied.cause define) ∙ keeps.cause define;
    handed = λ k p made. let id = package_stands g sound acyclic k p made in ap handed_bytes (b.packages id.0 p id.1);
    names = λ define validate. sym (tied.names define validate) ∙ keeps.names define validate;
    world = sym tied.world ∙ keeps.world;
    met = met_moved;
    tagged = λ tag W V is v. same tag W is V v;
    wired = λ W is. same (handed_tag s.packages) W is W (nested W is);
  }

pub ascribed : Graphs_are_ascribed
ascribed d ps r g at e sound acyclic b =
    let x = ok_of (statements d ps) _ r (sym e) in
    let w = ok_of (target x.0 d.directive.targets) _ r x.2 in
    let state : r.0 ≡ x.0 = ap (λ (q : State × Option Stated). q.0) (ok_is r (x.0, w.0) w.2) in
    is_ascribed g sound acyclic r.0 b ps (subst (Sound ps) (sym state) (statements_sound ps d x.0 (sym x.1)))
