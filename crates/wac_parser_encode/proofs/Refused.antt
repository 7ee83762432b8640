-- A refusal of a graph that holds what a document says tells the document's first cause.
use Rattle.std.specs.Prelude.{◌⊎◌, option_map, string_bytes, Result, Ok, Err, IfErr, OnOk}
use Rattle.std.specs.Str.{chars, is_utf8}
use lib.Utf8.{encode}
use Rattle.std.proofs.lemmas.Option.{none-some}
use Rattle.std.proofs.Common.{◌≡◌, ℕ, List, codes, Bool, true, false, true≢false, Option, Some, None, refl, sym, ap, subst, inl, inr, ◌∙◌}
use Rattle.wac_types_base.specs.Collection.{IsAcyclic}
use Rattle.wac_types_names.specs.declared.package.PackageKey.{PackageKey}
use Rattle.wac_types_names.specs.Keys.{owned_key}
use Rattle.wac_graph_bytes.specs.declared.entry.Processor.{Processor}
use Rattle.wac_graph_bytes.specs.Leb.{digits, digits_by}
use Rattle.wac_graph_bytes.specs.Views.{processor_view}
use Rattle.wac_graph_bytes.specs.Writing.{producers_fit, producers_if_fit}
use Rattle.wac_graph_core.specs.Graph.{Graph, IsGraph}
use Rattle.wac_composition.specs.Against.{StandsAgainst}
use Rattle.wac_composition.specs.Conflicts as cause
use Rattle.wac_composition.specs.Conflicts.{first_cause, name_cause}
use Rattle.wac_composition.specs.Renaming.{cause_renamed}
use Rattle.wac_composition.proofs.Against.{causes_stand}
use Rattle.wac_graph_asks.specs.Graphs.{composition_of}
use Rattle.wac_graph_causes.specs.declared.error.EncodeError.{EncodeError}
use Rattle.wac_names.specs.declared.error.ValidationFault.{ValidationFault}
use Rattle.wac_graph_causes.specs.Implicit.{IsKeyOf}
use Rattle.wac_graph_encode.specs.declared.options.EncodeOptions.{EncodeOptions}
use Rattle.wac_graph_encode.specs.Refused as graph
use Rattle.wac_graph_encode.specs.Refused.{HasLargeProcessor, HasNoCause as HasNone, IsErrorFor, IsFree}
use Rattle.wac_parser_refusals.specs.declared.error.Error.{Error}
use Rattle.wac_parser_refusals.specs.Causes.{Fault, plainly}
use Rattle.wac_parser_refusals.specs.Views.{cause_of}
use Rattle.wac_parser_resolve.specs.Ascribed.{Asker, by_import, by_instance, by_definition, asker_key, asker_span, cause_said, composition, merge_span, span_or_none}
use Rattle.wac_parser_resolve.specs.Ascribing.{State}
use Rattle.wac_parser_resolve.specs.Askers.{IsByImport, IsByNew, HasPlace, IsAskedSo}
use Rattle.wac_parser_resolve.specs.Resolved.{Places, asker_place, import_place}
use Rattle.wac_parser_resolve.proofs.Askers.{askers_placed}
use Rattle.wac_parser_ascribed.specs.Tied.{IsAscribed, IsPlaced}
use Rattle.wac_parser_ascribed.proofs.Wired.{ascribed}
use Rattle.wac_parser_resolve.specs.InDocuments.{IsBuilt}
use Rattle.wac_parser_encode.specs.Processing.{HasProcessor, IsProcessed}
use Rattle.wac_parser_encode.specs.Sizes.{IsPastSize}
use Rattle.wac_parser_encode.proofs.Meaning.{entries_said, imports_stated}
use Rattle.wac_parser_encode.specs.Refused.{CanBeEncoded, HasSource, HasNoFirst, IsFirst, IsOfSize, AreFirstAlike, TellsCause, RefusesResolved, TellsFirst, TellsAnywhere, fault_in}

-- ---- places of askers

module _ (at : Places) (k : ℕ) where
  import_told : (a : Asker) → IsPlaced at k a → IsByImport a → asker_span a ≡ Some (import_place at k)
  import_told (by_import i) p h = ap Some (sym p.0)
  import_told (by_instance key s) p h = absurd h
  import_told by_definition p h = absurd h

  new_told : (a : Asker) → IsPlaced at k a → IsByNew a → asker_span a ≡ Some (asker_place at k)
  new_told (by_instance key s) p h = ap Some (sym p)
  new_told (by_import i) p h = absurd h
  new_told by_definition p h = absurd h

  merge_told : (a : Asker) → IsPlaced at k a → HasPlace a → merge_span a ≡ Some (asker_place at k)
  merge_told (by_import i) p h = ap Some (sym p.1)
  merge_told (by_instance key s) p h = ap Some (sym p)
  merge_told by_definition p h = absurd h

-- ---- sizes

own_fits : producers_fit (codes "wac-parser", codes "0.11.0") ≡ true
unfolding digits digits_by is_utf8 chars encode
own_fits = refl

-- what a graph says of its size holds of the document
past_size : (g : Graph) (options : EncodeOptions) (sound : IsGraph g) (acyclic : IsAcyclic g.types) (at : Places) (s : State) (b : IsBuilt g at s) → IsAscribed g at s → graph.IsPastSize options g → IsPastSize options s
past_size g options sound acyclic at s b tied past = record {
  nested = λ define. (
      let o = past.nested define in
      record { entries = o.entries; state = entries_said g sound acyclic at s b tied o.entries o.state; unfit = o.unfit }
      );
  imported = λ define alike. (
      let o = past.imported define (alike_too define alike) in
      record { entries = o.entries; state = imports_stated g sound acyclic at s b tied o.entries o.state; unfit = o.unfit }
      );
}
  where
    none_either : (o : Option (cause.Cause ℕ)) → option_map (cause_renamed tied.asker) o ≡ None → o ≡ None
    none_either None e = refl
    none_either (Some x) e = absurd (none-some _ (sym e))

    alike_too : options.define_components ≡ false → name_cause false options.validate (composition s) ≡ None → name_cause options.define_components options.validate (composition_of g) ≡ None
    alike_too define none =
        (λ j. name_cause (define j) options.validate (composition_of g))
        ∙ none_either (name_cause false options.validate (composition_of g)) (sym (tied.names false options.validate) ∙ none)

-- ---- the first cause

module _ (options : EncodeOptions) (g : Graph) (at : Places) (s : State) (tied : IsAscribed g at s) (asked : (x : cause.Cause Asker) → StandsAgainst options.define_components (composition s) x → IsAskedSo x) (past : graph.IsPastSize options g → IsPastSize options s) where
  first_is : (x : cause.Cause ℕ) → first_cause options.define_components (composition_of g) ≡ Some x → first_cause options.define_components (composition s) ≡ Some (cause_renamed tied.asker x)
  first_is x e = tied.cause options.define_components ∙ ap (option_map (cause_renamed tied.asker)) e

  asked_so : (x : cause.Cause ℕ) → first_cause options.define_components (composition_of g) ≡ Some x → IsAskedSo (cause_renamed tied.asker x)
  asked_so x e = asked (cause_renamed tied.asker x) ((causes_stand options.define_components (composition s)).stands (cause_renamed tied.asker x) (first_is x e))

  said : (x : cause.Cause ℕ) → first_cause options.define_components (composition_of g) ≡ Some x → IsFirst options.define_components s (cause_said (cause_renamed tied.asker x))
  said x e = ap (option_map cause_said) (first_is x e)

  implicit_told : (n : List ℕ) (import filled : ℕ) (key : PackageKey) → first_cause options.define_components (composition_of g) ≡ Some (cause.ImplicitImport n import filled) → IsKeyOf g filled key
      → IsFirst options.define_components s (plainly (Fault.ImportConflict n (owned_key key) (asker_place at filled)) (Some (import_place at import)))
  implicit_told n import filled key e of =
      let a = asked_so (cause.ImplicitImport n import filled) e in
      let place = import_told at import (tied.asker import) (tied.placed import) a.0 in
      let new = new_told at filled (tied.asker filled) (tied.placed filled) a.1 in
      let same : asker_key (tied.asker filled) ≡ owned_key key = tied.keys filled of.of of.is ∙ sym of.key_is in
      said (cause.ImplicitImport n import filled) e ∙ (λ j. Some (plainly (Fault.ImportConflict n (same j) (span_or_none (new j))) (place j)))

  explicit_told : (n : List ℕ) (first second : ℕ) → first_cause options.define_components (composition_of g) ≡ Some (cause.ExplicitImport n first second)
      → IsFirst options.define_components s (plainly (Fault.ExplicitImportConflict n (import_place at first)) (Some (import_place at second)))
  explicit_told n first second e =
      let a = asked_so (cause.ExplicitImport n first second) e in
      let one = import_told at first (tied.asker first) (tied.placed first) a.0 in
      let two = import_told at second (tied.asker second) (tied.placed second) a.1 in
      said (cause.ExplicitImport n first second) e ∙ (λ j. Some (plainly (Fault.ExplicitImportConflict n (span_or_none (one j))) (two j)))

  merge_failed : (n : List ℕ) (first second : ℕ) → first_cause options.define_components (composition_of g) ≡ Some (cause.ImportTypes n first second)
      → IsFirst options.define_components s (plainly (Fault.InstantiationArgMergeFailure n (asker_place at first)) (Some (asker_place at second)))
  merge_failed n first second e =
      let a = asked_so (cause.ImportTypes n first second) e in
      let one = merge_told at first (tied.asker first) (tied.placed first) a.0 in
      let two = merge_told at second (tied.asker second) (tied.placed second) a.1 in
      said (cause.ImportTypes n first second) e ∙ (λ j. Some (plainly (Fault.InstantiationArgMergeFailure n (span_or_none (one j))) (two j)))

  alike_told : (x : cause.Cause ℕ) → name_cause options.define_components options.validate (composition_of g) ≡ Some x → AreFirstAlike options s (cause_said (cause_renamed tied.asker x))
  alike_told x e = ap (option_map cause_said) (tied.names options.define_components options.validate ∙ ap (option_map (cause_renamed tied.asker)) e)

  none_told : HasNone options g → HasNoFirst options.define_components s
  none_told e = tied.cause options.define_components ∙ ap (option_map (cause_renamed tied.asker)) e

  too_large_told : (HasLargeProcessor options ⊎ graph.IsPastSize options g) → IsOfSize options s (plainly Fault.TooLarge None)
  too_large_told (inl large) = (inl large, refl)
  too_large_told (inr of) = (inr (past of), refl)

  told : (e : EncodeError) → IsErrorFor options g e → TellsCause options s (fault_in at e)
  told (EncodeError.ImplicitImportConflict import filled key n) h = implicit_told (string_bytes n) import filled key h.0 h.1
  told (EncodeError.ExplicitImportConflict n first second) h = explicit_told (string_bytes n) first second h
  told (EncodeError.ImportTypeMergeConflict n first second source) h = merge_failed (string_bytes n) first second h.0
  told (EncodeError.TypeCannotBeWritten n) h = said (cause.Unwritable (string_bytes n)) h
  told EncodeError.TypeNotWritten h = none_told h
  told EncodeError.TooLarge h = (none_told h.0, too_large_told h.1)
  told (EncodeError.ValidationFailure (ValidationFault.ImportNames m n)) h = (none_told h.0, alike_told (cause.ImportNames (string_bytes m) (string_bytes n)) h.1)
  told (EncodeError.ValidationFailure (ValidationFault.ExportNames m n)) h = (none_told h.0, alike_told (cause.ExportNames (string_bytes m) (string_bytes n)) h.1)
  told (EncodeError.GraphContainsCycle node) h = absurd h
  told EncodeError.Memory h = tt

of_document : (g : Graph) (options : EncodeOptions) (e : EncodeError) → IsGraph g → IsAcyclic g.types → IsErrorFor options g e → TellsAnywhere g options e
unfolding TellsFirst
of_document g options e sound acyclic h = λ at d ps r q b.
    let tied = ascribed d ps r g at q sound acyclic b in
    told options g at r.0 tied (λ x k. askers_placed d ps r q options.define_components x k) (past_size g options sound acyclic at r.0 b tied) e h

-- ---- with a processor, and else the same options

abbrev Large : Option Processor → Type 0
Large o = producers_if_fit (option_map processor_view o) ≡ false

-- this project's name fits
large_processor : (old new : EncodeOptions) → IsProcessed old new → HasLargeProcessor new → HasLargeProcessor old
large_processor old new is large = by old.processor new.processor is.processor large
  where
    by : (o p : Option Processor) → HasProcessor o p → Large p → Large o
    by (Some x) p same h = subst Large same h
    by None None same h = absurd same
    by None (Some q) same h = absurd (true≢false (sym own_fits ∙ (λ j. producers_fit (sym same.0 j, sym same.1 j)) ∙ h))

processed : (g : Graph) (old new : EncodeOptions) (e : EncodeError) → IsProcessed old new → IsErrorFor new g e → IsErrorFor old g e
processed g old new e is h = by e (subst (λ (b : Bool). IsErrorFor (record new { define_components = b }) g e) is.define h)
  where
    by : (e : EncodeError) → IsErrorFor (record new { define_components = old.define_components }) g e → IsErrorFor old g e
    by (EncodeError.ImplicitImportConflict import filled key n) h = h
    by (EncodeError.ExplicitImportConflict n first second) h = h
    by (EncodeError.ImportTypeMergeConflict n first second source) h = h
    by (EncodeError.TypeCannotBeWritten n) h = h
    by EncodeError.TypeNotWritten h = h
    by EncodeError.TooLarge (none, inl large) = (none, inl (large_processor old new is large))
    by EncodeError.TooLarge (none, inr past) = (none, inr (record { nested = past.nested; imported = λ define alike. past.imported define ((λ j. name_cause old.define_components (is.validate j) (composition_of g)) ∙ alike) }))
    by (EncodeError.ValidationFailure fault) h = (h.0, (λ j. name_cause old.define_components (sym is.validate j) (composition_of g)) ∙ h.1)
    by (EncodeError.GraphContainsCycle node) h = absurd h
    by EncodeError.Memory h = tt

pub refuses_processed : {A : Type 0} (g : Graph) (old new : EncodeOptions) (r : Result A EncodeError) → IsProcessed old new → IsGraph g → IsAcyclic g.types → IfErr r (IsErrorFor new g) → IfErr r (TellsAnywhere g old)
refuses_processed g old new (Ok a) is sound acyclic h = tt
refuses_processed g old new (Err e) is sound acyclic h = of_document g old e sound acyclic (processed g old new e is h)

-- memory was refused before
pub memory_refused : (g : Graph) (options : EncodeOptions) → TellsAnywhere g options EncodeError.Memory
unfolding TellsFirst
memory_refused g options = λ at d ps r q b. tt

-- the document's error, by the places of its resolution
pub refuses : (g h : Graph) (options : EncodeOptions) (at : Places) (e : EncodeError) (f : Error) → g ≡ h → cause_of f ≡ fault_in at e → TellsAnywhere g options e → RefusesResolved h at options f
refuses g h options at e f same is all = subst (TellsFirst h options at) (sym is) (subst (λ (x : Graph). TellsFirst x options at (fault_in at e)) same (all at))

-- ---- where nothing is refused

can_be_encoded : (g : Graph) (options : EncodeOptions) → IsGraph g → IsAcyclic g.types → first_cause options.define_components (composition_of g) ≡ None
    → name_cause options.define_components options.validate (composition_of g) ≡ None → CanBeEncoded g options
unfolding CanBeEncoded
can_be_encoded g options sound acyclic free unlike = λ at d ps r q b.
    let tied = ascribed d ps r g at q sound acyclic b in
    record {
      cause = tied.cause options.define_components ∙ ap (option_map (cause_renamed tied.asker)) free;
      alike = tied.names options.define_components options.validate ∙ ap (option_map (cause_renamed tied.asker)) unlike;
    }

pub free_processed : {A E : Type 0} (g : Graph) (old new : EncodeOptions) (r : Result A E) → IsProcessed old new → IsGraph g → IsAcyclic g.types → OnOk r (IsFree new g) → OnOk r (CanBeEncoded g old)
free_processed g old new (Ok a) is sound acyclic free = can_be_encoded g old sound acyclic
    (subst (λ (define : Bool). first_cause define (composition_of g) ≡ None) is.define free.cause)
    (subst (λ (define : Bool). name_cause define old.validate (composition_of g) ≡ None) is.define
    (subst (λ (validate : Bool). name_cause new.define_components validate (composition_of g) ≡ None) is.validate free.alike))
free_processed g old new (Err e) is sound acyclic free = tt

-- ---- what a source tells

module _ (g : Graph) where
  pub source_told : (options : EncodeOptions) (e : EncodeError) → IsErrorFor options g e → HasSource g e
  source_told options (EncodeError.ImportTypeMergeConflict n first second source) h = h.1
  source_told options (EncodeError.ImplicitImportConflict import instantiation key n) h = tt
  source_told options (EncodeError.ExplicitImportConflict n first second) h = tt
  source_told options (EncodeError.TypeCannotBeWritten n) h = tt
  source_told options EncodeError.TypeNotWritten h = tt
  source_told options EncodeError.TooLarge h = tt
  source_told options (EncodeError.ValidationFailure fault) h = tt
  source_told options (EncodeError.GraphContainsCycle node) h = tt
  source_told options EncodeError.Memory h = tt

  pub sources_told : {T : Type 0} (options : EncodeOptions) (r : Result T EncodeError) → IfErr r (IsErrorFor options g) → IfErr r (HasSource g)
  sources_told options (Ok x) h = h
  sources_told options (Err e) h = source_told options e h
