-- What is answered of a document over packages.
use Rattle.std.specs.Prelude.{IfErr, OnOk}
use Rattle.std.proofs.Common.{◌≡◌, ◌+◌, ◌≤◌, ℕ, Bool, List, Option, Some, None, Result, Ok, Err, IfOk, true, false, refl, sym, subst, ◌∙◌, inl, inr}
use Rattle.wac_types_base.specs.declared.ids.WorldId.{WorldId}
use Rattle.wac_types_base.specs.Stated.{Stated, stated_world}
use Rattle.wac_graph_core.specs.Graph.{Graph}
use Rattle.wac_graph_encode.specs.declared.options.EncodeOptions.{EncodeOptions}
use Rattle.wac_graph_encode.specs.declared.options.Encoded.{Encoded}
use Rattle.wac_graph_encode.specs.Finished.{MeansImported, MeansNested}
use Rattle.wac_parser_tree.specs.Trees as t
use Rattle.wac_parser_refusals.specs.declared.error.Error.{Error}
use Rattle.wac_parser_refusals.specs.Causes.{Answer, ◌>>=◌, ◌>>◌, pure}
use Rattle.wac_parser_refusals.specs.Outcomes.{IsHeld}
use Rattle.wac_parser_refusals.specs.Views.{cause_of}
use Rattle.wac_composition.specs.Composition.{Composition}
use Rattle.wac_composition.specs.Conflicts.{first_cause, name_cause}
use Rattle.wac_parser_resolve.specs.Ascribed.{Asker, ascribed, composition, unless_cause}
use Rattle.wac_parser_resolve.specs.Ascribing.{State}
use Rattle.wac_parser_resolve.specs.InDocuments.{HoldsAll, IsBuilt, IsErrorOf}
use Rattle.wac_parser_resolve.specs.InTargets.{HoldsTarget}
use Rattle.wac_parser_resolve.specs.Meeting.{resolved}
use Rattle.wac_parser_resolve.specs.Resolved.{Places}
use Rattle.wac_types_base.specs.Record.{Collection}
use Rattle.wac_types_fit.specs.Targets.{Report}
use Rattle.wac_parser_encode.specs.Meaning.{HasResolvedWorld, ImportsResolved, MeansResolved}
use Rattle.wac_parser_encode.specs.Processing.{TellsSomeProcessor}
use Rattle.wac_parser_encode.specs.Refused.{CanBeEncoded, HasNoCause, TellsCause, TellsFirst}
use Rattle.wac_workspace.specs.Composing.{greatest, ImportsSaid, AreAscribedBytes, AreImportingBytes, IsImporting, IsMeant, MeansSaid}
use Rattle.wac_workspace.specs.declared.output.Output.{Output}
use Rattle.wac_workspace.specs.declared.error.ComposeError.{ComposeError}
use Rattle.wac_workspace.specs.declared.error.ComposeError.TheVariants as error
use Rattle.wac_workspace.specs.Faults.{IsResolving}
use Rattle.wac_workspace.specs.Resolving.{FailsIf, Handed, Resolves, IsAccepted, IsComposition, IsGraphOf, IsLate, IsOfResolving, IsTargetUnmet, NamesFirst}
use Rattle.wac_workspace.specs.Steps.{FailsIn, IsAfterwards, IsUnencoded, IsUnmet, MeetsTargetOf}
use Rattle.wac_workspace.specs.Targets.{Meets, MeetsIf, Reports}

-- a document that is resolved, and what it says has no cause
ascribed_is : (define : Bool) (d : t.Document) (ps : Handed) (s : State × Option Stated) → resolved d ps ≡ Ok s → HasNoCause define true s.0 → IsAccepted (ascribed define d ps)
ascribed_is define d ps s is none = subst (λ (q : Resolves). IsAccepted (q >>= after)) (sym is)
    (subst (λ o. IsAccepted (unless_cause o >> (unless_cause (name_cause define true (composition s.0)) >> said s))) (sym none.cause)
    (subst (λ o. IsAccepted (unless_cause o >> said s)) (sym none.alike) tt))
  where
    said : State × Option Stated → Answer (Composition Asker ℕ × Option Stated)
    said r = pure (composition r.0, r.1)

    after : State × Option Stated → Answer (Composition Asker ℕ × Option Stated)
    after r = unless_cause (first_cause define (composition r.0)) >> (unless_cause (name_cause define true (composition r.0)) >> said r)

-- a graph that is built is the document's
pub graph_held : {B : Type 0} (graph : B → Graph) (places : B → Places) (target : B → Option WorldId) (q : Resolves) (b : B) (g : Graph) → g ≡ graph b
    → IsHeld (λ s (b : B). HoldsAll s (graph b) (places b) (target b)) q b → IsGraphOf q g
graph_held graph places target (Ok s) b g same h = (places b, subst (λ (x : Graph). IsBuilt x (places b) s.0) (sym same) h.0)
graph_held graph places target (Err c) b g same h = absurd h

names_first : (options : EncodeOptions) (q : Resolves) (f : Error) → IsErrorOf q f → NamesFirst options q f
names_first options (Ok s) f h = inl h
names_first options (Err c) f h = h

pub of_resolving : (q : Resolves) (f : Error) (e : ComposeError) → IsErrorOf q f → IsResolving f e → IsOfResolving q e
of_resolving q f e h (inl m) = subst (λ (x : ComposeError). IsOfResolving q x) (sym m.1) tt
of_resolving q f e h (inr s) = subst (λ (x : ComposeError). IsOfResolving q x) (sym s) h

pub late_resolving : (options : EncodeOptions) (q : Resolves) (f : Error) (e : ComposeError) → IsErrorOf q f → IsResolving f e → IsLate options q e
late_resolving options q f e h (inl m) = subst (λ (x : ComposeError). IsLate options q x) (sym m.1) tt
late_resolving options q f e h (inr s) = subst (λ (x : ComposeError). IsLate options q x) (sym s) (names_first options q f h)

-- names are tested in any case
late_tested : (options tested : EncodeOptions) (q : Resolves) (e : ComposeError) → tested ≡ record options { validate = true } → IsLate tested q e → IsLate options q e
late_tested options tested q e same h = by e q (subst (λ (o : EncodeOptions). IsLate o q e) same h)
  where
    by : (e : ComposeError) (q : Resolves) → IsLate (record options { validate = true }) q e → IsLate options q e
    by (error.Resolution f) (Ok s) h = h
    by (error.Resolution f) (Err c) h = h
    by (error.Target r) q h = h
    by error.Memory q h = h
    by (error.Parse x) q h = h
    by error.NumbersExhausted q h = h
    by error.KeyTaken q h = h
    by error.BytesTaken q h = h

-- with three numbers left
pub unencoded : (next : ℕ) (options tested : EncodeOptions) (q : Resolves) (e : ComposeError) → tested ≡ record options { validate = true } → next + 3 ≤ greatest → IsLate tested q e → IsUnencoded next options q e
unencoded next options tested q e same room h = by e (late_tested options tested q e same h)
  where
    by : (e : ComposeError) → IsLate options q e → IsUnencoded next options q e
    by (error.Resolution f) h = (room, h)
    by (error.Target r) h = (room, h)
    by error.Memory h = tt
    by (error.Parse x) h = absurd h
    by error.NumbersExhausted h = absurd h
    by error.KeyTaken h = absurd h
    by error.BytesTaken h = absurd h

-- ---- behind resolving

module _ (g : Graph) (at : Places) (options : EncodeOptions) where
  -- a target that is not met
  pub target_unmet : (t : WorldId) (types : Collection) (world : WorldId) (e : ComposeError) → CanBeEncoded g options → HasResolvedWorld g types world
      → IsUnmet (stated_world g.types t) (stated_world types world) e → IsAfterwards g at (Some t) options e
  target_unmet t types world (error.Parse x) free states h = absurd h
  target_unmet t types world error.NumbersExhausted free states h = absurd h
  target_unmet t types world (error.Resolution f) free states h = absurd h
  target_unmet t types world (error.Target r) free states h = record { free = free; types = types; world = world; states = states; unmet = h.0; reports = h.1 }
  target_unmet t types world error.KeyTaken free states h = absurd h
  target_unmet t types world error.BytesTaken free states h = absurd h
  target_unmet t types world error.Memory free states h = tt

-- ---- the target of a document, and that of its graph

module _ (d : t.Document) (ps : Handed) (g : Graph) (at : Places) (s : State) (built : IsBuilt g at s) where
  failing : (options : EncodeOptions) → options.validate ≡ true → (r : Report) (o : Option Stated) (t : Option WorldId) → resolved d ps ≡ Ok (s, o) → HoldsTarget g.types o t → FailsIn g options r t
      → FailsIf options.define_components r s o
  unfolding HasResolvedWorld CanBeEncoded
  failing options validate r None None is held f = absurd f
  failing options validate r None (Some t) is held f = absurd held
  failing options validate r (Some w) None is held f = absurd held
  failing options validate r (Some w) (Some t) is held f = record {
    free = subst (λ (v : Bool). HasNoCause options.define_components v s) validate (f.free at d ps (s, Some w) is built);
    types = f.types;
    world = f.world;
    states = f.states d ps (s, Some w) at is built;
    unmet = subst (λ (x : Stated). Meets x (stated_world f.types f.world) → ⊥) held.same f.unmet;
    reports = subst (λ (x : Stated). Reports x (stated_world f.types f.world) r) held.same f.reports;
  }

meeting : (g : Graph) (types : Collection) (world : WorldId) (o : Option Stated) (t : Option WorldId) → HoldsTarget g.types o t → MeetsTargetOf g t types world → MeetsIf o (stated_world types world)
meeting g types world None None held m = tt
meeting g types world None (Some t) held m = absurd held
meeting g types world (Some w) None held m = absurd held
meeting g types world (Some w) (Some t) held m = subst (λ (x : Stated). Meets x (stated_world types world)) held.same m

-- of a document that the graph holds
module _ {B : Type 0} (graph : B → Graph) (places : B → Places) (target : B → Option WorldId) where
  late_of : (d : t.Document) (ps : Handed) (b : B) (options : EncodeOptions) (e : ComposeError) → options.validate ≡ true → (q : Resolves) → resolved d ps ≡ q
      → IsHeld (λ s (b : B). HoldsAll s (graph b) (places b) (target b)) q b → IsAfterwards (graph b) (places b) (target b) options e → IsLate options q e
  unfolding TellsFirst IsTargetUnmet
  late_of d ps b options e validate (Err c) is built h = absurd built
  late_of d ps b options (error.Parse x) validate (Ok s) is built h = absurd h
  late_of d ps b options error.NumbersExhausted validate (Ok s) is built h = absurd h
  late_of d ps b options (error.Resolution f) validate (Ok s) is built h =
      inr (
        subst (λ (v : Bool). TellsCause (record options { validate = v }) s.0 (cause_of f)) validate (h.0 d ps s is built.0),
        record { graph = graph b; at = places b; built = built.0; tells = h.1 },
      )
  late_of d ps b options (error.Target r) validate (Ok s) is built h = failing d ps (graph b) (places b) s.0 built.0 options validate r s.1 (target b) is built.1 h
  late_of d ps b options error.KeyTaken validate (Ok s) is built h = absurd h
  late_of d ps b options error.BytesTaken validate (Ok s) is built h = absurd h
  late_of d ps b options error.Memory validate (Ok s) is built h = tt

  pub late_afterwards : {A : Type 0} (d : t.Document) (ps : Handed) (b : B) (options : EncodeOptions) (r : Result A ComposeError) → options.validate ≡ true
      → IsHeld (λ s (b : B). HoldsAll s (graph b) (places b) (target b)) (resolved d ps) b → IfErr r (IsAfterwards (graph b) (places b) (target b) options) → IfErr r (IsLate options (resolved d ps))
  late_afterwards d ps b options (Ok a) validate built h = tt
  late_afterwards d ps b options (Err e) validate built h = late_of d ps b options e validate (resolved d ps) refl built h

  -- what is encoded has no cause
  free_of : (d : t.Document) (ps : Handed) (b : B) (options : EncodeOptions) → options.validate ≡ true → (q : Resolves) → resolved d ps ≡ q
      → IsHeld (λ s (b : B). HoldsAll s (graph b) (places b) (target b)) q b → CanBeEncoded (graph b) options → IsAccepted (ascribed options.define_components d ps)
  unfolding CanBeEncoded
  free_of d ps b options validate (Err c) is built h = absurd built
  free_of d ps b options validate (Ok s) is built h = ascribed_is options.define_components d ps s is (subst (λ (v : Bool). HasNoCause options.define_components v s.0) validate (h (places b) d ps s is built.0))

  pub accepted : {A E : Type 0} (d : t.Document) (ps : Handed) (b : B) (options : EncodeOptions) (r : Result A E) → options.validate ≡ true
      → IsHeld (λ s (b : B). HoldsAll s (graph b) (places b) (target b)) (resolved d ps) b → OnOk r (CanBeEncoded (graph b) options) → OnOk r (IsAccepted (ascribed options.define_components d ps))
  accepted d ps b options (Ok a) validate built h = free_of d ps b options validate (resolved d ps) refl built h
  accepted d ps b options (Err e) validate built h = tt

-- the bytes of a graph that holds what is resolved
pub meant : {E : Type 0} (d : t.Document) (ps : Handed) (g : Graph) (r : Result Encoded E) (options : EncodeOptions) → IsGraphOf (resolved d ps) g → IfOk r (λ e. MeansNested g options e.bytes.items)
    → IfOk r (λ e. MeansResolved g options e.bytes.items) → IfOk r (λ e. MeansSaid options (resolved d ps) e.bytes.items)
unfolding MeansResolved AreAscribedBytes
meant d ps g (Ok e) options holds nested said = λ define. record { ascribed = by define (resolved d ps) refl holds; graph = g; holds = holds; component = nested define }
  where
    by : options.define_components ≡ true → (q : Resolves) → resolved d ps ≡ q → IsGraphOf q g → AreAscribedBytes q e.bytes.items
    by define (Ok s) is h = said define d ps s h.0 is h.1
    by define (Err c) is h = absurd h
meant d ps g (Err f) options holds nested said = tt

-- likewise with names tested, and under a name
pub meant_named : (a b : EncodeOptions) (q : Resolves) (xs ys : List ℕ) → a.define_components ≡ b.define_components → ys ≡ xs → MeansSaid a q xs → MeansSaid b q ys
meant_named a b q xs ys same bytes h = λ define. subst (λ (zs : List ℕ). IsMeant q zs) (sym bytes) (h (same ∙ define))

-- the same with packages imported
pub importing : {E : Type 0} (d : t.Document) (ps : Handed) (g : Graph) (r : Result Encoded E) (options : EncodeOptions) → IsGraphOf (resolved d ps) g → IfOk r (λ e. MeansImported g options e.bytes.items)
    → IfOk r (λ e. ImportsResolved g options e.bytes.items) → IfOk r (λ e. ImportsSaid options (resolved d ps) e.bytes.items)
unfolding ImportsResolved AreImportingBytes
importing d ps g (Ok e) options holds imports said = λ define. record { ascribed = by define (resolved d ps) refl holds; graph = g; holds = holds; component = imports define }
  where
    by : options.define_components ≡ false → (q : Resolves) → resolved d ps ≡ q → IsGraphOf q g → AreImportingBytes q e.bytes.items
    by define (Ok s) is h = said define d ps s h.0 is h.1
    by define (Err c) is h = absurd h
importing d ps g (Err f) options holds imports said = tt

pub importing_named : (a b : EncodeOptions) (q : Resolves) (xs ys : List ℕ) → a.define_components ≡ b.define_components → ys ≡ xs → ImportsSaid a q xs → ImportsSaid b q ys
importing_named a b q xs ys same bytes h = λ define. subst (λ (zs : List ℕ). IsImporting q zs) (sym bytes) (h (same ∙ define))

-- the processor that they tell
pub told_named : (a b : EncodeOptions) (xs ys : List ℕ) → a ≡ record b { validate = true } → ys ≡ xs → TellsSomeProcessor a.processor xs → TellsSomeProcessor b.processor ys
told_named a b xs ys same bytes h = subst (λ (zs : List ℕ). TellsSomeProcessor b.processor zs) (sym bytes) (subst (λ (o : EncodeOptions). TellsSomeProcessor o.processor xs) same h)

-- the world of a graph that holds what is resolved, which meets its target
module _ {B : Type 0} (graph : B → Graph) (places : B → Places) (target : B → Option WorldId) where
  pub composed : {E : Type 0} (d : t.Document) (ps : Handed) (b : B) (r : Result Encoded E) → IsHeld (λ s (b : B). HoldsAll s (graph b) (places b) (target b)) (resolved d ps) b
      → IfOk r (λ e. HasResolvedWorld (graph b) e.types e.world) → IfOk r (λ e. MeetsTargetOf (graph b) (target b) e.types e.world) → IfOk r (λ e. IsComposition (resolved d ps) e.types e.world)
  unfolding HasResolvedWorld IsComposition
  composed d ps b (Err f) built world met = tt
  composed d ps b (Ok e) built world met = by (resolved d ps) refl built
    where
      by : (q : Resolves) → resolved d ps ≡ q → IsHeld (λ s (b : B). HoldsAll s (graph b) (places b) (target b)) q b → IsComposition q e.types e.world
      by (Ok s) is h = (world d ps s (places b) is h.0, meeting (graph b) e.types e.world s.1 (target b) h.1 met)
      by (Err c) is h = absurd h

-- likewise under a name
pub composed_named : (q : Resolves) (e : Encoded) (o : Output) → o.types ≡ e.types → o.world ≡ e.world → IsComposition q e.types e.world → IsComposition q o.types o.world
composed_named q e o types world h = subst (λ (c : Collection). IsComposition q c o.world) (sym types) (subst (λ (w : WorldId). IsComposition q e.types w) (sym world) h)
