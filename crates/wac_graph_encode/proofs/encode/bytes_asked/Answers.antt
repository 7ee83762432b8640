use Rattle.std.proofs.Common.{◌≡◌, ℕ, List, None, Result, Ok, Err, refl, sym, subst}
use Rattle.std.specs.declared.alloc.Global.{Global}
use Rattle.std.specs.declared.vec.Vec.{Vec}
use Rattle.wac_types_base.specs.Entries.{names_of}
use Rattle.wac_types_base.specs.Collection.{IsAcyclic}
use Rattle.wac_types_base.proofs.Adding.{Grows-trans}
use Rattle.wac_graph_asks.specs.declared.asks.Definition.{Definition}
use Rattle.wac_graph_asks.specs.AskedUses.{CopiesStand}
use Rattle.wac_graph_asks.proofs.TakingMore.{again_err}
use Rattle.wac_graph_encode.specs.declared.error.BytesError.{BytesError}
use Rattle.wac_graph_encode.specs.Faults.{bytes_refusal}
use Rattle.wac_graph_causes.specs.Circling.{CirclesPass, TellsCircle}
use Rattle.wac_graph_causes.specs.Refusals.{unwritten_refusal}
use Rattle.wac_graph_encode.specs.Finished.{HasAllOf, IsPrepared, IsThere, MeansAsked, RefusesPrepared, UnfitAsked}
use Rattle.wac_graph_encode.specs.Formed.{AreCopied, AreFormed}
use Rattle.wac_graph_encode.proofs.Circling.{waits_not, waits_told}
use Rattle.wac_graph_encode.proofs.Forming.{all_grown}
use Rattle.wac_graph_encode.proofs.Preparing.{all_defined, held_prepared, means_imported, means_nested, past_size, there, to_hand_out}
use Rattle.wac_graph_encode.specs.Refused.{waiting_cause}
use Rattle.wac_graph_encode.proofs.Refusing.{alike_refused, circle_refused, no_cause, of_processor, of_size, size_refused}
use Rattle.wac_graph_encode.proofs.encode.bytes_asked.Goals as goal

pub check_circles-requires-clause-copies : goal.check_circles-requires-clause-copies
check_circles-requires-clause-copies c = subst (CopiesStand c.written_definitions.new.types) (sym c.deref-2.ensures.value) c.in_ok-definitions.ensures.stand

pub bytes_of-requires-clause-there : goal.bytes_of-requires-clause-there
bytes_of-requires-clause-there c =
    let g = c.args.graph.now in
    let old = c.args.asked.now in
    let o = c.args.outers.now in
    let mid = c.written_definitions.new.types in
    let new = record old { types = c.check_circles.new.types } in
    let made = c.in_ok-definitions.definitions in
    let grows = Grows-trans old.types mid new.types c.in_ok-definitions.ensures.grows c.in_ok-check_circles.ensures.grows in
    let copied = subst (λ (xs : List Definition). AreCopied g.types old.types xs) (sym c.deref.ensures.value) c.requires.prepared.copies in
    let formed = all_grown g.types mid new.types c.in_ok-check_circles.ensures.grows old.definitions.items made.items (subst (λ (xs : List Definition). AreFormed g.types mid xs made.items) c.deref.ensures.value (c.in_ok-definitions.ensures.forms g.types copied)) in
    subst (IsThere g new o) (sym c.deref-3.ensures.value)
    (there g old o c.requires.prepared c.see_sound.ensures (subst IsAcyclic c.types.ensures c.see_acyclic.ensures) c.args.options.now new made grows refl formed)

pub bytes_of-requires-clause-all : goal.bytes_of-requires-clause-all
bytes_of-requires-clause-all c =
    let g = c.args.graph.now in
    let old = c.args.asked.now in
    let o = c.args.outers.now in
    let mid = c.written_definitions.new.types in
    let new = record old { types = c.check_circles.new.types } in
    let made = c.in_ok-definitions.definitions in
    let copied = subst (λ (xs : List Definition). AreCopied g.types old.types xs) (sym c.deref.ensures.value) c.requires.prepared.copies in
    let formed = all_grown g.types mid new.types c.in_ok-check_circles.ensures.grows old.definitions.items made.items (subst (λ (xs : List Definition). AreFormed g.types mid xs made.items) c.deref.ensures.value (c.in_ok-definitions.ensures.forms g.types copied)) in
    subst (HasAllOf g (names_of old.packages.entries)) (sym c.deref-3.ensures.value) (record {
      packages = c.requires.prepared.packages;
      definitions = all_defined g old o c.requires.prepared new.types made.items formed;
      aliases = c.requires.aliases;
    })

pub returns-clause-means : goal.returns-clause-means
returns-clause-means c = λ prepared.
    let g = c.args.graph.now in
    let old = c.args.asked.now in
    let mid = c.written_definitions.new.types in
    let new = record old { types = c.check_circles.new.types } in
    let made = c.in_ok-definitions.definitions in
    let grows = Grows-trans old.types mid new.types c.in_ok-definitions.ensures.grows c.in_ok-check_circles.ensures.grows in
    let copied = subst (λ (xs : List Definition). AreCopied g.types old.types xs) (sym c.deref.ensures.value) prepared.copies in
    let formed = all_grown g.types mid new.types c.in_ok-check_circles.ensures.grows old.definitions.items made.items (subst (λ (xs : List Definition). AreFormed g.types mid xs made.items) c.deref.ensures.value (c.in_ok-definitions.ensures.forms g.types copied)) in
    let bytes : Result (Vec ℕ Global) BytesError = Ok c.in_ok-bytes.bytes in
    let means = subst (λ (xs : List Definition). MeansAsked g new c.args.outers.now xs c.args.options.now bytes) c.deref-3.ensures.value c.in_ok-bytes.ensures.means in
    means_nested g old c.args.outers.now prepared c.see_sound.ensures (subst IsAcyclic c.types.ensures c.see_acyclic.ensures) c.args.options.now new made grows refl formed c.in_ok-bytes.bytes means c.in_ok-bytes.ensures.nests

pub returns-clause-imports : goal.returns-clause-imports
returns-clause-imports c = λ prepared.
    let g = c.args.graph.now in
    let old = c.args.asked.now in
    let mid = c.written_definitions.new.types in
    let new = record old { types = c.check_circles.new.types } in
    let made = c.in_ok-definitions.definitions in
    let grows = Grows-trans old.types mid new.types c.in_ok-definitions.ensures.grows c.in_ok-check_circles.ensures.grows in
    let copied = subst (λ (xs : List Definition). AreCopied g.types old.types xs) (sym c.deref.ensures.value) prepared.copies in
    let formed = all_grown g.types mid new.types c.in_ok-check_circles.ensures.grows old.definitions.items made.items (subst (λ (xs : List Definition). AreFormed g.types mid xs made.items) c.deref.ensures.value (c.in_ok-definitions.ensures.forms g.types copied)) in
    let bytes : Result (Vec ℕ Global) BytesError = Ok c.in_ok-bytes.bytes in
    let means = subst (λ (xs : List Definition). MeansAsked g new c.args.outers.now xs c.args.options.now bytes) c.deref-3.ensures.value c.in_ok-bytes.ensures.means in
    means_imported g old c.args.outers.now prepared c.see_sound.ensures (subst IsAcyclic c.types.ensures c.see_acyclic.ensures) c.args.options.now new made grows refl formed c.in_ok-bytes.bytes means c.in_ok-bytes.ensures.nests

pub returns-clause-ready : goal.returns-clause-ready
returns-clause-ready c = λ prepared.
    let g = c.args.graph.now in
    let old = c.args.asked.now in
    let mid = c.written_definitions.new.types in
    let new = c.check_circles.new.types in
    let made = c.in_ok-definitions.definitions in
    let grows = Grows-trans old.types mid new c.in_ok-definitions.ensures.grows c.in_ok-check_circles.ensures.grows in
    let copied = subst (λ (xs : List Definition). AreCopied g.types old.types xs) (sym c.deref.ensures.value) prepared.copies in
    let formed = all_grown g.types mid new c.in_ok-check_circles.ensures.grows old.definitions.items made.items (subst (λ (xs : List Definition). AreFormed g.types mid xs made.items) c.deref.ensures.value (c.in_ok-definitions.ensures.forms g.types copied)) in
    to_hand_out g old c.args.outers.now prepared c.see_sound.ensures (subst IsAcyclic c.types.ensures c.see_acyclic.ensures) new made.items grows formed

pub returns-clause-waits : goal.returns-clause-waits
returns-clause-waits c = λ prepared.
    let g = c.args.graph.now in
    let old = c.args.asked.now in
    let options = c.args.options.now in
    let o = c.args.outers.now in
    let mid = c.written_definitions.new.types in
    let made = c.in_ok-definitions.definitions in
    let copied = subst (λ (xs : List Definition). AreCopied g.types old.types xs) (sym c.deref.ensures.value) prepared.copies in
    let formed = subst (λ (xs : List Definition). AreFormed g.types mid xs made.items) c.deref.ensures.value (c.in_ok-definitions.ensures.forms g.types copied) in
    let pass = subst (λ (xs : List Definition). CirclesPass options.define_components g mid o old.packages.entries xs) c.deref-2.ensures.value c.in_ok-check_circles.ensures.none in
    waits_not g c.see_sound.ensures (subst IsAcyclic c.types.ensures c.see_acyclic.ensures) old o prepared options mid c.in_ok-definitions.ensures.grows made.items formed pass

pub returns-clause-apart : goal.returns-clause-apart
returns-clause-apart c = λ prepared.
    let old = c.args.asked.now in
    let mid = c.written_definitions.new.types in
    let new = c.check_circles.new.types in
    c.in_ok-check_names.ensures.none (held_prepared c.args.graph.now old c.args.outers.now prepared (record old { types = new })
    (Grows-trans old.types mid new c.in_ok-definitions.ensures.grows c.in_ok-check_circles.ensures.grows) refl)

pub returns-in_err-check_circles-clause-refused : goal.returns-in_err-check_circles-clause-refused
returns-in_err-check_circles-clause-refused c =
    let g = c.args.graph.now in
    let old = c.args.asked.now in
    let o = c.args.outers.now in
    let options = c.args.options.now in
    let mid = c.written_definitions.new.types in
    let made = c.in_ok-definitions.definitions in
    let fault = c.in_err-check_circles.field-0.0 in
    again_err c.from_residual-in_err-check_circles.result (RefusesPrepared g old o options) (unwritten_refusal fault) c.from_residual-in_err-check_circles.ensures.1
    (λ prepared none.
    let copied = subst (λ (xs : List Definition). AreCopied g.types old.types xs) (sym c.deref.ensures.value) prepared.copies in
    let formed = subst (λ (xs : List Definition). AreFormed g.types mid xs made.items) c.deref.ensures.value (c.in_ok-definitions.ensures.forms g.types copied) in
    let told = subst (λ (xs : List Definition). TellsCircle options.define_components g mid o old.packages.entries xs fault) c.deref-2.ensures.value c.in_err-check_circles.ensures.cause in
    circle_refused options g fault none (waits_told g c.see_sound.ensures (subst IsAcyclic c.types.ensures c.see_acyclic.ensures) old o prepared options mid c.in_ok-definitions.ensures.grows made.items formed fault told))

pub returns-in_err-check_processor-clause-refused : goal.returns-in_err-check_processor-clause-refused
returns-in_err-check_processor-clause-refused c =
    let g = c.args.graph.now in
    let old = c.args.asked.now in
    let o = c.args.outers.now in
    let options = c.args.options.now in
    let fault = c.in_err-check_processor.field-0.0 in
    let mid = c.written_definitions.new.types in
    let made = c.in_ok-definitions.definitions in
    let prepared_waits : IsPrepared g old o → waiting_cause options g ≡ None = λ prepared. (
    let copied = subst (λ (xs : List Definition). AreCopied g.types old.types xs) (sym c.deref.ensures.value) prepared.copies in
    let formed = subst (λ (xs : List Definition). AreFormed g.types mid xs made.items) c.deref.ensures.value (c.in_ok-definitions.ensures.forms g.types copied) in
    let pass = subst (λ (xs : List Definition). CirclesPass options.define_components g mid o old.packages.entries xs) c.deref-2.ensures.value c.in_ok-check_circles.ensures.none in
    waits_not g c.see_sound.ensures (subst IsAcyclic c.types.ensures c.see_acyclic.ensures) old o prepared options mid c.in_ok-definitions.ensures.grows made.items formed pass
    ) in
    again_err c.from_residual-in_err-check_processor.result (RefusesPrepared g old o options) (bytes_refusal fault) c.from_residual-in_err-check_processor.ensures.1
    (λ prepared none. size_refused options g fault (no_cause options g none (prepared_waits prepared)) (of_processor options g fault c.in_err-check_processor.ensures.refused))

pub returns-in_err-bytes-clause-refused : goal.returns-in_err-bytes-clause-refused
returns-in_err-bytes-clause-refused c =
    let g = c.args.graph.now in
    let old = c.args.asked.now in
    let o = c.args.outers.now in
    let options = c.args.options.now in
    let fault = c.in_err-bytes.field-0.0 in
    let mid = c.written_definitions.new.types in
    let new = record old { types = c.check_circles.new.types } in
    let made = c.in_ok-definitions.definitions in
    let grows = Grows-trans old.types mid new.types c.in_ok-definitions.ensures.grows c.in_ok-check_circles.ensures.grows in
    let unfit = subst (λ (xs : List Definition). UnfitAsked {A = Vec ℕ Global} g new o xs options (Err fault)) c.deref-3.ensures.value c.in_err-bytes.ensures.unfit in
    let prepared_waits : IsPrepared g old o → waiting_cause options g ≡ None = λ prepared. (
    let copied = subst (λ (xs : List Definition). AreCopied g.types old.types xs) (sym c.deref.ensures.value) prepared.copies in
    let formed = subst (λ (xs : List Definition). AreFormed g.types mid xs made.items) c.deref.ensures.value (c.in_ok-definitions.ensures.forms g.types copied) in
    let pass = subst (λ (xs : List Definition). CirclesPass options.define_components g mid o old.packages.entries xs) c.deref-2.ensures.value c.in_ok-check_circles.ensures.none in
    waits_not g c.see_sound.ensures (subst IsAcyclic c.types.ensures c.see_acyclic.ensures) old o prepared options mid c.in_ok-definitions.ensures.grows made.items formed pass
    ) in
    again_err c.from_residual-in_err-bytes.result (RefusesPrepared g old o options) (bytes_refusal fault) c.from_residual-in_err-bytes.ensures.1
    (λ prepared none.
    let copied = subst (λ (xs : List Definition). AreCopied g.types old.types xs) (sym c.deref.ensures.value) prepared.copies in
    let formed = all_grown g.types mid new.types c.in_ok-check_circles.ensures.grows old.definitions.items made.items (subst (λ (xs : List Definition). AreFormed g.types mid xs made.items) c.deref.ensures.value (c.in_ok-definitions.ensures.forms g.types copied)) in
    size_refused options g fault (no_cause options g none (prepared_waits prepared)) (of_size options g fault
    (λ at. past_size g old o prepared c.see_sound.ensures (subst IsAcyclic c.types.ensures c.see_acyclic.ensures) options new made grows refl formed c.in_ok-check_processor.ensures.fits (subst (λ f. UnfitAsked {A = Vec ℕ Global} g new o made.items options (Err f)) at unfit))))

pub returns-in_err-check_names-clause-refused : goal.returns-in_err-check_names-clause-refused
returns-in_err-check_names-clause-refused c =
    let g = c.args.graph.now in
    let old = c.args.asked.now in
    let o = c.args.outers.now in
    let options = c.args.options.now in
    let mid = c.written_definitions.new.types in
    let made = c.in_ok-definitions.definitions in
    let new = c.check_circles.new.types in
    let prepared_waits : IsPrepared g old o → waiting_cause options g ≡ None = λ prepared. (
    let copied = subst (λ (xs : List Definition). AreCopied g.types old.types xs) (sym c.deref.ensures.value) prepared.copies in
    let formed = subst (λ (xs : List Definition). AreFormed g.types mid xs made.items) c.deref.ensures.value (c.in_ok-definitions.ensures.forms g.types copied) in
    let pass = subst (λ (xs : List Definition). CirclesPass options.define_components g mid o old.packages.entries xs) c.deref-2.ensures.value c.in_ok-check_circles.ensures.none in
    waits_not g c.see_sound.ensures (subst IsAcyclic c.types.ensures c.see_acyclic.ensures) old o prepared options mid c.in_ok-definitions.ensures.grows made.items formed pass
    ) in
    again_err c.from_residual-in_err-check_names.result (RefusesPrepared g old o options) c.in_err-check_names.field-0.0 c.from_residual-in_err-check_names.ensures.1
    (λ prepared none. alike_refused options g c.in_err-check_names.field-0.0 (no_cause options g none (prepared_waits prepared)) (c.in_err-check_names.ensures.cause
    (held_prepared g old o prepared (record old { types = new }) (Grows-trans old.types mid new c.in_ok-definitions.ensures.grows c.in_ok-check_circles.ensures.grows) refl)))
