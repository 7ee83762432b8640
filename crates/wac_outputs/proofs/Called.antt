-- Calls are steps, and so outputs are what is ascribed to them.
use Rattle.std.specs.List.{AllZip}
use Rattle.std.specs.Prelude.{◌≡◌, ℕ, Bool, true, false, List, [], ◌∷◌, ◌++◌, Option, Some, None, Result, Ok, option_map, slice_get}
use Rattle.std.proofs.Common.{refl, sym, ap, subst, ◌∙◌, inl, inr}
use Rattle.std.proofs.lemmas.Option.{none-some, same_Some}
use Rattle.wac_types_base.specs.declared.item.ItemKind.{ItemKind}
use Rattle.wac_types_base.specs.Graph.{Among}
use Rattle.wac_types_base.specs.Stated.{Stated, exports_of, imports_of, stated_of, uses_of}
use Rattle.wac_types_base.specs.Tree.{instance}
use Rattle.wac_types_base.proofs.Walking.{slice_get-Among}
use Rattle.wac_types_base.proofs.Looked.{among-get}
use Rattle.wac_types_names.specs.Keys.{Key}
use Rattle.wac_types_fit.specs.Ordered.{AllInOrder}
use Rattle.wac_graph_bytes.specs.Typing.{Worlds}
use Rattle.wac_graph_bytes.specs.Wirings.{Instantiation, OfBytes, Same, Wiring}
use Rattle.wac_nesting.specs.Given.{IsBound, IsTrueWorld, World}
use Rattle.wac_nesting.specs.Laws.{AreInOrder}
use Rattle.wac_nesting.specs.Steps as n
use Rattle.wac_nesting.specs.Steps.{Add, AreSteps, AreTrue, Ascribed, Compose, Composes, IsHanded, IsKnown, IsLeaf, IsOfPackage, IsStep, MeansSame, Other, Package, Step, after, after_all}
use Rattle.wac_composition.specs.Composition.{Composition, Made}
use Rattle.wac_composition.specs.OuterLaws.{AreMet}
use Rattle.wac_composition.specs.Sound.{IsMade, IsWired, maps_of}
use Rattle.wac_composition.specs.Wired.{composed_wiring, instantiation}
use Rattle.wac_composition.specs.Worlds.{composed_world}
use Rattle.wac_composition.proofs.KeptFits.{fields_ordered, made_tree}
use Rattle.wac_parser_tree.specs.Trees.{Document}
use Rattle.wac_parser_resolve.specs.Ascribing.{State, worlds_of}
use Rattle.wac_parser_resolve.specs.Ascribed.{Asker, composition, made_in}
use Rattle.wac_parser_resolve.specs.Meeting.{resolved}
use Rattle.wac_parser_resolve.specs.Proper.{AreProper, Proper}
use Rattle.wac_parser_resolve.proofs.Documents.{resolved_are_wired}
use Rattle.wac_parser_resolve.proofs.ProperCollections.{collections_are_proper}
use Rattle.wac_parser_resolve.proofs.Ordered.{known, numbered_at, stay}
use Rattle.wac_parser_ascribed.specs.Tied.{handed_tag, handed_bytes}
use Rattle.wac_parser_encode.specs.Meaning.{AreTrueOf, IsWorldOf, MeansAscribed}
use Rattle.wac_workspace.specs.declared.entries.Entry.{Entry}
use Rattle.wac_workspace.specs.declared.output.Output.{Output}
use Rattle.wac_workspace.specs.Packages.{AddsPackage, HasBytes, HasHanded, Held, IsEntryMade, PackageParts}
use Rattle.wac_workspace.specs.Composing.{AreAscribedBytes, IsDocument, IsMeantBy, IsOutput, MeansSource, RegistersIf, output_parts}
use Rattle.wac_workspace.specs.Resolving.{handed, IsComposition}
use Rattle.wac_nesting.proofs.Carry.{carries}
use Rattle.wac_nesting.proofs.OneWorld.{worlds_exist}
use Rattle.wac_outputs.specs.Calls.{AreCalls, none_yet, then_call, IsCall, hands_in, composes, keeps, IsEntryOf, Outputs_are_as_ascribed, ascribed_over, place_if, place_under, world_in}
use Rattle.wac_outputs.proofs.Sources.{more_provides, more_states, placed}
use Rattle.wac_workspace.proofs.Zips.{zip_at, zip_back, zip_last}

-- ---- one composed source

module _ (es : List Entry) (packages : List Package) (zip : AllZip IsEntryOf es packages) (d : Document) (s : State) (target : Option Stated) (resolves : resolved d (handed es) ≡ Ok (s, target)) (met : AreMet (composition s)) where
  abbrev x : Composition Asker ℕ
  x = composition s

  abbrev W : Wiring ℕ
  W = composed_wiring (handed_tag (handed es)) x

  abbrev A : Ascribed
  A = ascribed_over es x

  all_proper : (xs : List Entry) → AreProper (worlds_of (handed xs))
  all_proper [] p m = absurd m
  all_proper (y ∷ ys) p (inl e) = subst (λ (q : Key × Stated). Proper q.1) (sym e) (collections_are_proper y.types (ItemKind.Component y.package.ty))
  all_proper (y ∷ ys) p (inr m) = all_proper ys p m

  wired : IsWired (handed_tag (handed es)) x
  wired = resolved_are_wired d (handed es) (s, target) (all_proper es) resolves met (handed_tag (handed es))

  -- what is said stays over the packages
  same : s.packages ≡ handed es
  same = stay d (handed es) (s, target) resolves

  -- the package of an instance
  record IsThere (k : ℕ) (m : Made Asker ℕ) : Type 0 where
    pub which : Package
    pub there : slice_get packages (A.number k) ≡ Some which
    pub tagged : handed_tag (handed es) m.key ≡ OfBytes which.bytes
    pub says : which.world ≡ maps_of m.world
    pub among : Among which packages

  is_there : (k : ℕ) (m : Made Asker ℕ) → slice_get x.made k ≡ Some m → IsThere k m
  is_there k m at =
      let p = placed es m.key m.world (known d (handed es) (s, target) resolves k m at) in
      let q = zip_at IsEntryOf es packages (place_under es m.key) p.entry zip p.there in
      let there : slice_get packages (A.number k) ≡ Some q.0 = ap (λ o. slice_get packages (place_if es o)) at ∙ q.1 in
      record {
        which = q.0;
        there = there;
        tagged = ap (λ o. OfBytes (handed_bytes o)) p.content_is ∙ ap OfBytes (sym q.2.bytes);
        says = q.2.world ∙ ap maps_of p.world;
        among = among-get packages (A.number k) q.0 there;
      }

  instance_at : (k : ℕ) (i : Instantiation ℕ) → W.at k ≡ Some i → (m : Made Asker ℕ) × (slice_get x.made k ≡ Some m) × (instantiation (handed_tag (handed es)) x m ≡ i)
  instance_at k i e = go (slice_get x.made k) refl e
    where
      go : (o : Option (Made Asker ℕ)) → slice_get x.made k ≡ o → option_map (instantiation (handed_tag (handed es)) x) o ≡ Some i → (m : Made Asker ℕ) × (slice_get x.made k ≡ Some m) × (instantiation (handed_tag (handed es)) x m ≡ i)
      go None q f = absurd (none-some _ f)
      go (Some m) q f = (m, q, same_Some _ _ f)

  known_instance : (k : ℕ) (i : Instantiation ℕ) → A.wiring.at k ≡ Some i → IsKnown packages (A.number k) i
  known_instance k i e =
      let m = instance_at k i e in
      let t = is_there k m.0 m.1 in
      record { which = t.which; there = t.there; tagged = ap (λ (y : Instantiation ℕ). y.tag) (sym m.2) ∙ t.tagged }

  of_package : (k : ℕ) (w : World) → IsMade x k w → IsOfPackage packages A k w
  of_package k w m =
      let t = is_there k m.made m.there in
      record { instance = instantiation (handed_tag (handed es)) x m.made; there = ap (option_map (instantiation (handed_tag (handed es)) x)) m.there; which = t.which; stands = t.there; says = t.says ∙ sym m.says }

  bound : IsBound (IsOfPackage packages A) A.wiring
  bound k i e =
      let b = wired.bound k i e in
      record { world = b.world; is = of_package k b.world b.is; bound = more_provides W.outers (IsMade x) (IsOfPackage packages A) of_package i.args b.world.imports b.bound }

  true_world : (w : World) → w ≡ maps_of (composed_world x) → IsTrueWorld (IsOfPackage packages A) w A.wiring
  true_world w is =
      subst (λ v. IsTrueWorld (IsOfPackage packages A) v A.wiring) (sym is)
      (record { imports = wired.true_world.imports; exports = more_states W.outers (IsMade x) (IsOfPackage packages A) of_package W.exports (maps_of (composed_world x)).exports wired.true_world.exports })

  -- worlds that are true of the packages are so of those that are instantiated
  worlds_true : (worlds : Worlds) → AreTrue packages worlds → AreTrueOf s worlds
  worlds_true worlds true_ m among =
      let i = slice_get-Among s.made m among in
      let at = numbered_at 0 s.made i.0 m i.2 in
      let t = is_there i.0 (made_in at.0 m) at.1 in
      ap (λ ps. worlds (handed_tag ps m.key)) same ∙ ap worlds t.tagged ∙ true_ t.which t.among
      ∙ ap (λ (w : World). Some (instance w.exports)) t.says ∙ ap Some (sym (made_tree None (uses_of m.world) (exports_of m.world)))

  meant : (bytes : List ℕ) → MeansAscribed s bytes → (worlds : Worlds) → AreTrue packages worlds → MeansSame worlds bytes A.wiring
  meant bytes means worlds true_ =
      let m = means worlds (worlds_true worlds true_) in
      record { wiring = m.meant; means = m.means; same = subst (λ ps. Same (composed_wiring (handed_tag ps) x) m.meant) same m.same }

  -- what a step of the source is
  composes_so : (bytes : List ℕ) (w : World) → (IsHanded packages bytes → ⊥) → w ≡ maps_of (composed_world x) → MeansAscribed s bytes → Composes packages bytes w A
  composes_so bytes w own is means = record {
    own = own;
    known = known_instance;
    ordered = wired.ordered;
    bound = bound;
    true_world = true_world w is;
    meant = meant bytes means;
  }

-- ---- one call

-- the same document
same_document : (source : List ℕ) (d e : Document) → IsDocument source d → IsDocument source e → d ≡ e
same_document source d e x y = same_ok _ _ (sym x ∙ y)
  where
    same_ok : {E : Type 0} (a b : Document) → ◌≡◌ {A = Result Document E} (Ok a) (Ok b) → a ≡ b
    same_ok a b e = cc e

-- what the bytes of a composed source mean
said_of : (es : List Entry) (source : List ℕ) (bytes : List ℕ) (d : Document) (s : State) (target : Option Stated) → IsDocument source d → resolved d (handed es) ≡ Ok (s, target)
    → MeansSource true (handed es) source bytes → MeansAscribed s bytes
unfolding MeansSource AreAscribedBytes
said_of es source bytes d s target document resolves means =
    let m : IsMeantBy (handed es) source bytes = means refl in
    let same = same_document source m.tree d m.read document in
    subst (λ q. AreAscribedBytes q bytes) (ap (λ e. resolved e (handed es)) same ∙ resolves) m.meant.ascribed

-- what its world is
world_of : (es : List Entry) (source : List ℕ) (next : ℕ) (define : Bool) (o : Output) (d : Document) (s : State) (target : Option Stated) → IsDocument source d → resolved d (handed es) ≡ Ok (s, target) → IsOutput next (handed es) source define o → IsWorldOf s o.types o.world
unfolding IsComposition
world_of es source next define o d s target document resolves out =
    let c : IsComposition (Ok (s, target)) o.types o.world = subst (λ q. IsComposition q o.types o.world) (ap (λ e. resolved e (handed es)) (same_document source out.tree d out.read document) ∙ resolves) out.composed in
    c.0

abbrev pub AreEntries : List Entry → List Package → Type 0
AreEntries es packages = AllZip IsEntryOf es packages

-- a component that was handed in is a handed package
handed_there : (es : List Entry) (packages : List Package) → AreEntries es packages → (bytes : List ℕ) → IsHanded packages bytes → HasHanded es bytes
handed_there es packages zip bytes h =
    let e = zip_back IsEntryOf es packages h.1.which zip h.1.there in
    (e.0, e.1, (e.2.leaf h.1.handed, sym e.2.bytes ∙ h.1.has_bytes))

new_there : (es : List Entry) (packages : List Package) → AreEntries es packages → (bytes : List ℕ) → (HasBytes es bytes → ⊥) → n.IsNew packages bytes
new_there es packages zip bytes none p m is = let e = zip_back IsEntryOf es packages p zip m in none (e.0, e.1, sym e.2.bytes ∙ is)

entry_of : (m : PackageParts) (e : Entry) (handed_in : Bool) (p : Package) → p.bytes ≡ m.bytes → p.world ≡ world_in m.types m.world → (IsLeaf p.ascribed → e.is_handed ≡ true) → IsEntryMade m e → IsEntryOf e p
entry_of m e handed_in p bytes world leaf made = record { bytes = bytes ∙ sym made.bytes; world = world ∙ ap maps_of (sym made.states); leaf = leaf }

-- with one more package
more_entries : (old new : List Entry) (packages : List Package) (m : PackageParts) (is_handed : Bool) (p : Package) → AreEntries old packages → (a : AddsPackage old new is_handed m) → p.bytes ≡ m.bytes → p.world ≡ world_in m.types m.world → (IsLeaf p.ascribed → is_handed ≡ true)
    → AreEntries new (packages ++ p ∷ [])
more_entries old new packages m is_handed p zip a bytes world leaf =
    subst (λ es. AreEntries es (packages ++ p ∷ [])) (sym a.«packages»)
    (zip_last IsEntryOf old packages a.entry p zip (entry_of m a.entry is_handed p bytes world (λ l. a.origin ∙ leaf l) a.made))

pub record IsStepOf (old new : List Entry) (packages : List Package) (s : Step) : Type 0 where
  pub step : IsStep packages s
  pub entries : AreEntries new (after packages s)

one_call : (old new : Held) (packages : List Package) (s : Step) → AreEntries old.packages packages → IsCall old new s → IsStepOf old.packages new.packages packages s
one_call old new packages s zip (hands_in m none adds) = record {
  step = new_there old.packages packages zip m.bytes none;
  entries = more_entries old.packages new.packages packages m true _ zip adds refl refl (λ l. refl);
}
one_call old new packages step zip (composes source options o d s target nested document resolves composed) =
    let world = world_of old.packages source old.next options.define_components o d s target document resolves composed.output in
    let means = subst (λ (define : Bool). MeansSource define (handed old.packages) source o.bytes.items) nested composed.means in
    let kept : RegistersIf true old new o = subst (λ (define : Bool). RegistersIf define old new o) nested composed.kept in
    record {
      step = composes_so old.packages packages zip d s target resolves world.met o.bytes.items (world_in o.types o.world) (λ h. kept.bytes (handed_there old.packages packages zip o.bytes.items h)) (ap maps_of world.states.states)
          (said_of old.packages source o.bytes.items d s target document resolves means);
      entries = more_entries old.packages new.packages packages (output_parts o) false _ zip kept.added refl refl (λ l. absurd l);
    }
one_call old new packages s zip (keeps same) = record { step = tt; entries = subst (λ es. AreEntries es packages) (sym same) zip }

-- ---- one call after another

steps_more : (packages : List Package) (steps : List Step) (s : Step) → AreSteps packages steps → IsStep (after_all packages steps) s → AreSteps packages (steps ++ s ∷ [])
steps_more packages [] s all one = (one, tt)
steps_more packages (x ∷ xs) s all one = (all.0, steps_more (after packages x) xs s all.1 one)

after_more : (packages : List Package) (steps : List Step) (s : Step) → after_all packages (steps ++ s ∷ []) ≡ after (after_all packages steps) s
after_more packages [] s = refl
after_more packages (x ∷ xs) s = after_more (after packages x) xs s

pub record Went (steps : List Step) (last : Held) : Type 0 where
  pub steps_are : AreSteps [] steps
  pub entries : AreEntries last.packages (after_all [] steps)

went : (first last : Held) (steps : List Step) → first.packages ≡ [] → AreCalls first steps last → Went steps last
went first last steps none none_yet = record { steps_are = tt; entries = subst (λ es. AreEntries es []) (sym none) tt }
went first last steps none (then_call {steps = before} {old = old} {s = s} calls call) =
    let w = went first old before none calls in
    let one = one_call old last (after_all [] before) s w.entries call in
    record { steps_are = steps_more [] before s w.steps_are one.step; entries = subst (AreEntries last.packages) (sym (after_more [] before s)) one.entries }

-- ---- worlds that are true of the packages

in_order : (x : Stated) → AllInOrder (maps_of x).imports × AllInOrder (maps_of x).exports
in_order x = (fields_ordered (imports_of x), fields_ordered (exports_of x))

are_in_order : (es : List Entry) (packages : List Package) → AreEntries es packages → AreInOrder packages
are_in_order [] [] zip p m = absurd m
are_in_order [] (q ∷ qs) zip p m = absurd zip
are_in_order (e ∷ es) [] zip p m = absurd m
are_in_order (e ∷ es) (q ∷ qs) zip p (inl is) =
    subst (λ (w : World). AllInOrder w.imports × AllInOrder w.exports) (sym zip.0.world ∙ ap (λ (r : Package). r.world) (sym is))
    (in_order (stated_of e.types (ItemKind.Component e.package.ty)))
are_in_order (e ∷ es) (q ∷ qs) zip p (inr m) = are_in_order es qs zip.1 p m

pub carried : Outputs_are_as_ascribed
carried first last steps none calls =
    let w = went first last steps none calls in
    record {
      steps_are = w.steps_are;
      entries = w.entries;
      ascribed = carries steps w.steps_are;
      worlds_exist = worlds_exist steps w.steps_are (are_in_order last.packages (after_all [] steps) w.entries);
    }
