-- Refusals are for the first cause.
use Rattle.std.specs.Prelude.{◌⊎◌, Result, Ok, Err, OnOk}
use Rattle.std.proofs.Common.{◌≡◌, ℕ, [], Option, Some, None, string_bytes, inl, inr, refl, ap, ◌∙◌}
use Rattle.wac_graph_core.specs.Graph.{Graph}
use Rattle.wac_composition.specs.Asks.{asks_of}
use Rattle.wac_composition.specs.OuterImports.{outer_imports}
use Rattle.std.specs.Option.{option_or}
use Rattle.wac_composition.specs.Conflicts.{Cause, Unwritable, merge_conflict, unwritable_cause}
use Rattle.wac_graph_asks.specs.declared.error.OuterError.{OuterError}
use Rattle.wac_graph_asks.specs.Graphs.{composition_of}
use Rattle.wac_graph_asks.specs.Takes.{IfConflict, TellsConflictIn, conflict_in}
use Rattle.wac_graph_causes.specs.declared.error.Refusal.{Refusal}
use Rattle.wac_graph_causes.specs.declared.error.Unwritten.{Unwritten}
use Rattle.wac_graph_causes.specs.Refusals.{outer_refusal, unwritten_refusal}
use Rattle.wac_graph_causes.specs.Implicit.{implicit_cause, IsImplicit}
use Rattle.wac_graph_causes.specs.Alike.{IsAlike}
use Rattle.wac_graph_causes.specs.Unwritable.{TellsUnwritable, TellsUnwritten, alias_cause, unwritten_cause}
use Rattle.wac_graph_encode.specs.declared.error.BytesError.{BytesError}
use Rattle.wac_graph_encode.specs.declared.options.EncodeOptions.{EncodeOptions}
use Rattle.wac_graph_encode.specs.Faults.{bytes_refusal}
use Rattle.wac_graph_encode.specs.Finished.{IfOfSize}
use Rattle.wac_graph_encode.specs.Refused.{cause_in, HasLargeProcessor, HasNoCause, HasNoneAlike, HasNoneClashing, HasNoneFound, HasNoneUnwritten, IsFree, IsPastSize, IsRefusedFor, waiting_cause}

pub if_of_size : {P Q : Type 0} (f : BytesError) → (P → Q) → IfOfSize P f → IfOfSize Q f
if_of_size BytesError.TypeNotWritten more h = tt
if_of_size BytesError.TooLarge more h = more h
if_of_size BytesError.Memory more h = tt

first_none : {X : Type 0} (o p : Option X) → option_or o p ≡ None → o ≡ None
first_none None p e = refl
first_none (Some x) p e = absurd (cc e)

-- where each type can be written, no alias is a value
pub no_alias : (options : EncodeOptions) (g : Graph) → HasNoneUnwritten options g → alias_cause g ≡ None
no_alias options g none = first_none (alias_cause g) _ none

module _ (options : EncodeOptions) (g : Graph) where
  abbrev conflicts : Option (Cause ℕ)
  conflicts = merge_conflict (asks_of (composition_of g)) [] (asks_of (composition_of g))

  abbrev unwritten : Option (Cause ℕ)
  unwritten = unwritable_cause options.define_components (composition_of g) (outer_imports (asks_of (composition_of g)))

  -- an import that is asked by its name and by an instance comes first
  first_implicit : (cause : Cause ℕ) → implicit_cause g ≡ Some cause → cause_in options g ≡ Some cause
  first_implicit cause e = ap (λ o. option_or o (option_or conflicts (option_or unwritten (waiting_cause options g)))) e

  past_implicit : implicit_cause g ≡ None → cause_in options g ≡ option_or conflicts (option_or unwritten (waiting_cause options g))
  past_implicit none = ap (λ o. option_or o (option_or conflicts (option_or unwritten (waiting_cause options g)))) none

  past_conflicts : HasNoneClashing g → cause_in options g ≡ option_or unwritten (waiting_cause options g)
  past_conflicts none = past_implicit none.implicit ∙ ap (λ o. option_or o (option_or unwritten (waiting_cause options g))) none.conflict

  past_unwritten : HasNoneFound options g → cause_in options g ≡ waiting_cause options g
  past_unwritten none = past_conflicts none.clashing ∙ ap (λ o. option_or o (waiting_cause options g)) none.written

  -- then imports that conflict
  then_conflict : (cause : Cause ℕ) → implicit_cause g ≡ None → conflict_in g ≡ Some cause → cause_in options g ≡ Some cause
  then_conflict cause none e = past_implicit none ∙ ap (λ o. option_or o (option_or unwritten (waiting_cause options g))) e

  -- then types that cannot be written
  then_unwritten : (cause : Cause ℕ) → HasNoneClashing g → unwritten_cause options.define_components g ≡ Some cause → cause_in options g ≡ Some cause
  then_unwritten cause none e = past_conflicts none ∙ ap (λ o. option_or o (waiting_cause options g)) e

  -- where none of them is found, no cause stands
  pub no_cause : HasNoneFound options g → waiting_cause options g ≡ None → HasNoCause options g
  no_cause none waits = past_unwritten none ∙ waits

  pub is_free : {X E : Type 0} (r : Result X E) → HasNoneFound options g → OnOk r (waiting_cause options g ≡ None) → OnOk r (HasNoneAlike options g) → OnOk r (IsFree options g)
  is_free (Ok x) none waits apart = record { cause = no_cause none waits; alike = apart }
  is_free (Err e) none waits apart = tt

  pub implicit_refused : (e : Refusal) → IsImplicit g e → IsRefusedFor options g e
  implicit_refused (Refusal.ImplicitImportConflict import instantiation key n) h = (first_implicit _ h.0, h.1)
  implicit_refused (Refusal.ExplicitImportConflict n first second) h = absurd h
  implicit_refused (Refusal.ImportTypeMergeConflict n first second source) h = absurd h
  implicit_refused (Refusal.TypeCannotBeWritten n) h = absurd h
  implicit_refused Refusal.TypeNotWritten h = absurd h
  implicit_refused Refusal.TooLarge h = absurd h
  implicit_refused (Refusal.ValidationFailure fault) h = absurd h
  implicit_refused Refusal.Memory h = tt

  pub conflict_refused : (f : OuterError) → implicit_cause g ≡ None → IfConflict f (λ cause source. (conflict_in g ≡ Some cause) × TellsConflictIn g source) → IsRefusedFor options g (outer_refusal f)
  conflict_refused (OuterError.ExplicitImportConflict n first second) none h = then_conflict _ none h.1.0
  conflict_refused (OuterError.ImportTypeMergeConflict n first second source) none h = (then_conflict _ none h.0, h.1)
  conflict_refused OuterError.Memory none h = tt

  -- a type that cannot be written by itself is the first of these causes
  pub writable_refused : (f : Unwritten) → implicit_cause g ≡ None → conflict_in g ≡ None → TellsUnwritten options.define_components g f → IsRefusedFor options g (unwritten_refusal f)
  writable_refused (Unwritten.TypeCannotBeWritten n) none free t = then_unwritten (Unwritable (string_bytes n)) (record { implicit = none; conflict = free }) t
  writable_refused Unwritten.Memory none free t = tt

  -- then interfaces that wait for one another
  pub circle_refused : (f : Unwritten) → HasNoneFound options g → TellsUnwritable (waiting_cause options g) f → IsRefusedFor options g (unwritten_refusal f)
  circle_refused (Unwritten.TypeCannotBeWritten n) none t = past_unwritten none ∙ t
  circle_refused Unwritten.Memory none t = tt

  -- then sizes: of what wrote the component, and of its entries
  pub of_processor : (f : BytesError) → IfOfSize (HasLargeProcessor options) f → IfOfSize (HasLargeProcessor options ⊎ IsPastSize options g) f
  of_processor f h = if_of_size f inl h

  pub of_size : (f : BytesError) → (f ≡ BytesError.TooLarge → IsPastSize options g) → IfOfSize (HasLargeProcessor options ⊎ IsPastSize options g) f
  of_size BytesError.TypeNotWritten past = tt
  of_size BytesError.TooLarge past = inr (past refl)
  of_size BytesError.Memory past = tt

  pub size_refused : (f : BytesError) → HasNoCause options g → IfOfSize (HasLargeProcessor options ⊎ IsPastSize options g) f → IsRefusedFor options g (bytes_refusal f)
  size_refused BytesError.TypeNotWritten none h = none
  size_refused BytesError.TooLarge none h = (none, h)
  size_refused BytesError.Memory none h = tt

  pub alike_refused : (e : Refusal) → HasNoCause options g → IsAlike options.define_components options.validate g e → IsRefusedFor options g e
  alike_refused (Refusal.ImplicitImportConflict import instantiation key n) none h = absurd h
  alike_refused (Refusal.ExplicitImportConflict n first second) none h = absurd h
  alike_refused (Refusal.ImportTypeMergeConflict n first second source) none h = absurd h
  alike_refused (Refusal.TypeCannotBeWritten n) none h = absurd h
  alike_refused Refusal.TypeNotWritten none h = absurd h
  alike_refused Refusal.TooLarge none h = absurd h
  alike_refused (Refusal.ValidationFailure fault) none h = (none, h)
  alike_refused Refusal.Memory none h = tt
