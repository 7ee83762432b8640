-- Causes of stops, one from another.
use Rattle.std.proofs.Common.{◌≡◌, ◌≢◌, ◌⊎◌, ◌↔◌, ℕ, Bool, List, [], slice_get, take, length, Option, Some, None, Result, Ok, Err, IfOk, IfErr, OnOk, OnErr, IsErrAnd, IsErrOf, String, Vec, Global, string_bytes, codes, inl, inr, refl, sym, ap, subst, ◌∙◌, arith}
use Rattle.std.specs.Io.KnownBytes.{Appends}
use Rattle.std.specs.Str.{IsUtf8}
use Rattle.std.specs.Iterator.{Yields}
use Rattle.std.proofs.lemmas.List.{map-id}
use Rattle.std.proofs.lemmas.Iterator.{YieldsList}
use Rattle.std.proofs.lemmas.Iterator.Consumers.{YieldsList-so_far, YieldsList-turn}
use Rattle.wac_types_base.proofs.Loops.{get-place}
use Rattle.wac_types_base.specs.Entries.{Name}
use Rattle.wac_types_base.specs.Graph.{Among}
use Rattle.wac_types_names.specs.Keys as names
use Rattle.wac_graph_core.specs.Graph.{Graph}
use Rattle.wac_manifest.specs.declared.manifest.Component.{Component}
use Rattle.wac_manifest.specs.declared.manifest.Key.{Key}
use Rattle.wac_manifest.specs.declared.manifest.Source.{Source}
use Rattle.wac_parser_grammar.specs.Documents.{document}
use Rattle.wac_parser_grammar.specs.Faults.{Fault, fault_of}
use Rattle.wac_parser_grammar.proofs.FaithfulLists.{ok_not_err}
use Rattle.wac_parser_grammar.specs.Reads.{read_source}
use Rattle.wac_parser_grammar.specs.Rules.{Rule}
use Rattle.wac_parser_resolve.specs.Meeting.{resolved}
use Rattle.wac_parser_tree.specs.declared.document.Document.{Document as Tree}
use Rattle.wac_parser_tree.specs.Trees.{Document}
use Rattle.wac_parser_tree.specs.Views.{view_document}
use Rattle.wac_parser_lexer.specs.declared.span.SourceSpan.{SourceSpan}
use Rattle.wac_streams.specs.Calls.{AppendsPrefix, Calls, CallsAtMost, FailedOnce, NoneFailed}
use Rattle.wac_texts.specs.declared.declared.Declares.{Declares}
use Rattle.wac_texts.specs.Declarations.{declared_in}
use Rattle.wac_texts.specs.Files.{Stored}
use Rattle.wac_workspace.specs.declared.entries.Entry.{Entry}
use Rattle.wac_workspace.specs.declared.error.AddPackageError.{AddPackageError}
use Rattle.wac_workspace.specs.declared.error.ComposeError.{ComposeError}
use Rattle.wac_workspace.specs.declared.output.Output.{Output}
use Rattle.wac_workspace.specs.Composing.{ComposesSource, IsDocument, directive_key, greatest}
use Rattle.wac_workspace.specs.Packages.{Held, HasBytes, HasKey}
use Rattle.wac_workspace.specs.Reading.{ToEnd}
use Rattle.wac_workspace.specs.Resolving.{IsGraphOf}
use Rattle.wac.specs.declared.stop.Stop.{Stop}
use Rattle.wac.specs.Adding.{AddsComponents, IsBytesOf, component_key}
use Rattle.wac.specs.Loading.{Ends, IsTextOf, StopsFor}
use Rattle.wac.specs.Refusing.{DoesNot, FailsToKeep, FailsToPut, FailsToTell, FailsToWriteLine, GivesNone, HasNoInput, HasNoInputText, HasNoPlug, HasNone, IsNotAdded, IsNotFound, IsNotRead, IsStopped, IsTaken, IsUnput, ReadsNone, StopsAdding, StopsAt, StopsComposing, TellsKey, TouchesFile}
use Rattle.wac.specs.Running.{IsTextAt, Outside, PutsSources, line_of, options_of, outside}
use Rattle.wac.specs.Texts.{Says, SaysOf, Told, adding_text, taken_text, unread_text}
use Rattle.wac.specs.Telling.{Errors, Tells, TellsIn, TellsLine, Writes, refused_text}

pub stops_map : {P Q : Told → Type 0} (s : Stop) → ((t : Told) → P t → Q t) → StopsFor P s → StopsFor Q s
stops_map (Stop.Refused text span) more h = more (record { text = string_bytes text; place = span }) h
stops_map Stop.Unwritten more h = absurd h
stops_map Stop.Memory more h = tt

-- so of an answer that is refused
pub err_stops : {T : Type 0} {P Q : Told → Type 0} (r : Result T Stop) → ((t : Told) → P t → Q t) → IfErr r (StopsFor P) → IfErr r (StopsFor Q)
err_stops (Ok x) more h = tt
err_stops (Err s) more h = stops_map s more h

-- so of what a `?` hands on
pub again_stops : {T : Type 0} {P Q : Told → Type 0} (r : Result T Stop) (s : Stop) → IsErrAnd r (λ e. e ≡ s) → ((t : Told) → P t → Q t) → StopsFor P s → IfErr r (StopsFor Q)
again_stops (Ok x) s is more h = absurd is
again_stops {Q = Q} (Err e) s is more h = subst (StopsFor Q) (sym is) (stops_map s more h)

-- any fact of a stop is one of what a `?` hands on
pub again : {T : Type 0} (P : Stop → Type 0) (r : Result T Stop) (s : Stop) → IsErrAnd r (λ e. e ≡ s) → P s → IfErr r P
again P (Ok x) s is h = absurd is
again P (Err e) s is h = subst P (sym is) h

pub err_more : {T : Type 0} (P Q : Stop → Type 0) (r : Result T Stop) → ((s : Stop) → P s → Q s) → IfErr r P → IfErr r Q
err_more P Q (Ok x) more h = tt
err_more P Q (Err s) more h = more s h

pub ends_map : {C D : Told → Type 0} {U M V N : Type 0} (s : Stop) → ((t : Told) → C t → D t) → (U → V) → (M → N) → Ends C U M s → Ends D V N s
ends_map (Stop.Refused text span) c u m h = c (record { text = string_bytes text; place = span }) h
ends_map Stop.Unwritten c u m h = u h
ends_map Stop.Memory c u m h = m h

-- what a walk over a list has yielded stands before the next
pub walked : {S A : Type 0} {steps : S → Option A → S → Type 0} {s : S} {all : List A} → YieldsList steps (λ y. y) s all → (xs : List A) (t : S) → Yields steps s xs t → (r : Option A) (u : S) (x : A) → r ≡ Some x → steps t r u
    → (xs ≡ take (length xs) all) × (slice_get all (length xs) ≡ Some x)
walked {all = all} list xs t yielded r u x is next =
    let turn = YieldsList-turn list xs t yielded r u x is next in
    (sym (map-id xs) ∙ YieldsList-so_far list xs t yielded, get-place all (length xs) x turn.0 turn.1)

-- ---- components

-- the first of what is taken, by why it is not added
pub taken_first : {T : Type 0} (w : Held) (k key : names.Key) (bytes : List ℕ) (e : AddPackageError) → k ≡ key → IsErrOf {T = T} (Err e) AddPackageError.KeyTaken ↔ HasKey w.packages k
    → (IsErrOf {T = T} (Err e) AddPackageError.BytesTaken → HasBytes w.packages bytes) → (IsErrOf {T = T} (Err e) AddPackageError.NumbersExhausted → (w.next ≡ greatest) × (HasBytes w.packages bytes → ⊥)) → (told : Told)
    → SaysOf (e ≢ AddPackageError.Memory) (adding_text key e) told → IsTaken w key bytes told
taken_first w k key bytes AddPackageError.KeyTaken is by_key by_bytes last told says = inl (subst (HasKey w.packages) is (by_key.0 refl), says.1)
taken_first w k key bytes AddPackageError.BytesTaken is by_key by_bytes last told says = inr (inl ((λ has. absurd (cc (by_key.1 (subst (HasKey w.packages) (sym is) has))), by_bytes refl), says.1))
taken_first w k key bytes AddPackageError.NumbersExhausted is by_key by_bytes last told says = inr (inr ((λ has. absurd (cc (by_key.1 (subst (HasKey w.packages) (sym is) has))), (last refl).1, (last refl).0), says.1))
taken_first w k key bytes AddPackageError.Memory is by_key by_bytes last told says = absurd (says.0 refl)

-- what the graph of a text does not give, the text does not
pub graph_lacks : {T X : Type 0} (view : T → X) (rule : Rule X) (said declares : T → Document) (text : List ℕ) (name : Name) (taken : Told → Type 0) (t : T) (g : Graph) (d : Declares) → read_source rule text ≡ Ok (view t)
    → IsGraphOf (resolved (said t) []) g → d ≡ declared_in (declares t) name → (told : Told) → GivesNone g d name taken told → ReadsNone view rule said declares text name taken told
graph_lacks view rule said declares text name taken t g d read holds same told none = inr (t, read, inr (g, holds, subst (λ (e : Declares). GivesNone g e name taken told) same none))

-- what the text of a component does not give, the component lacks
pub component_lacks : (files : Option Stored) (x : Component) (bytes : Vec ℕ Global) (text shown : List ℕ) (w : Held) → IsBytesOf files x.bytes bytes.items → IsTextOf files x.world text → shown ≡ text
    → (told : Told) → ReadsNone {T = Tree} view_document document view_document view_document shown (string_bytes x.select) (IsTaken w (component_key x) bytes.items) told → IsNotAdded files x w told
component_lacks files x bytes text shown w given stated same told (inl unread) = inr (bytes.items, given, inr (text, stated, inl (subst (λ (s : List ℕ). IsNotRead document s told) same unread)))
component_lacks files x bytes text shown w given stated same told (inr (t, read, lacks)) =
    inr (bytes.items, given, inr (text, stated, inr (view_document t, subst (λ (s : List ℕ). IsDocument s (view_document t)) same read, lacks)))

-- the component that comes next stops it
pub adding_stops : (files : Option Stored) (all : List Component) (w between : Held) (done : List Component) (x : Component) → (done ≡ take (length done) all) × (slice_get all (length done) ≡ Some x) → AddsComponents files done w between
    → (told : Told) → IsNotAdded files x between told → StopsAdding files all w told
adding_stops files all w between done x at adds told cause = record {
  at = length done;
  stopped = x;
  there = at.1;
  between = between;
  adds = subst (λ (xs : List Component). AddsComponents files xs w between) at.0 adds;
  cause = cause;
}

-- what stops adding to a workspace that is this one
pub adding_from : (files : Option Stored) (xs : List Component) (w u : Held) → w ≡ u → (told : Told) → StopsAdding files xs w told → StopsAdding files xs u told
adding_from files xs w u is told h = subst (λ (x : Held). StopsAdding files xs x told) is h

-- ---- sources

-- a key that is told to be there is that of the document that the source is
pub key_told : (source : List ℕ) (told : Told) → TellsKey {T = Tree} view_document document (λ d. directive_key (view_document d)) source told → TellsIn source ComposeError.KeyTaken told
key_told source told (inl unread) = λ d is. absurd (ok_not_err d (fault_of unread.0) (sym is ∙ unread.1))
key_told source told (inr (t, read, says)) = λ d is. subst (λ (x : Document). Says (taken_text (directive_key x)) told) (same (view_document t) d (sym read ∙ is)) says
  where
    same : (x y : Document) → ◌≡◌ {A = Result Document Fault} (Ok x) (Ok y) → x ≡ y
    same x y h = cc h

-- what is not put of a text, by its bytes and its path
pub unput_at : (define : Bool) (path at : Option Name) (text source : List ℕ) (w : Held) (before after : Outside) (stop : Stop) → path ≡ at → text ≡ source → IsUnput define path text w before after stop → IsUnput define at source w before after stop
unput_at define path at text source w before after stop p t unput =
    subst (λ (x : Option Name). IsUnput define x source w before after stop) p (subst (λ (x : List ℕ). IsUnput define path x w before after stop) t unput)

-- the source that comes next stops it
pub stops_at : (define : Bool) (all : List Source) (w mid : Held) (before between after : Outside) (done : List Source) (s : Source) (stop : Stop) → (done ≡ take (length done) all) × (slice_get all (length done) ≡ Some s) → PutsSources define done w mid before between
    → IsStopped define s mid between after stop → StopsComposing define all w before after stop
stops_at define all w mid before between after done s stop at puts stops = record {
  at = length done;
  stopped = s;
  there = at.1;
  mid = mid;
  between = between;
  puts = subst (λ (xs : List Source). PutsSources define xs w mid before between) at.0 puts;
  stops = stops;
}

-- a writer that failed leaves a front of the line
pub unwritten : {T : Type 0} (r : Result T Stop) (line shown : List ℕ) (had has : Option (List ℕ)) (calls called : Option Calls) → shown ≡ line → OnErr r (AppendsPrefix had has shown) → OnErr r (FailedOnce calls called)
    → IfErr r (λ s. s ≡ Stop.Unwritten) → IfErr r (FailsToWriteLine line had has calls called)
unwritten (Ok x) line shown had has calls called same front failed is = tt
unwritten (Err s) line shown had has calls called same front failed is =
    subst (FailsToWriteLine line had has calls called) (sym is) (subst (AppendsPrefix had has) same front, failed)

-- a line that is not printed, where no file was to be written, and one behind a file
module _ (define : Bool) (source : List ℕ) (old new : Held) (o : Output) (composed : ComposesSource old new source (options_of define) o) where
  pub unput_here : (path : Option Name) → path ≡ None → (files : Option Stored) (failures : Option ℕ) (had has : Option (List ℕ)) (calls called : Option Calls) (stop : Stop)
      → FailsToWriteLine (line_of None o) had has calls called stop → IsUnput define path source old (outside files failures had calls) (outside files failures has called) stop
  unput_here path none files failures had has calls called stop h =
      let before = outside files failures had calls in
      let after = outside files failures has called in
      subst (λ p. IsUnput define p source old before after stop) (sym none)
      (inr (record {
        new = new;
        output = o;
        composed = composed;
        fails = ends_map {D = FailsToKeep None before after} {V = FailsToTell None o before after} {N = TouchesFile None before after} stop (λ t x. absurd x) (λ x. record { kept = refl; failures = refl; front = x.0; failed = x.1 }) (λ x. record { others = refl; printed = x.0; calls = x.1 }) h;
      }))

  pub unput_there : (path : Option Name) (at : Name) → path ≡ Some at → (before after : Outside) (stop : Stop) → FailsToPut (Some at) o before after stop → IsUnput define path source old before after stop
  unput_there path at is before after stop h = subst (λ p. IsUnput define p source old before after stop) (sym is) (inr (record { new = new; output = o; composed = composed; fails = h }))

-- ---- plugging

-- what is not there or not plugged, by the name and the keys
pub unplugged_by : (packages : List Entry) (name n : Name) (keys ks : List Key) (into : Key) → name ≡ n → keys ≡ ks → (told : Told) → HasNoPlug packages name keys into told → HasNoPlug packages n ks into told
unplugged_by packages name n keys ks into p q told h = subst (λ (x : Name). HasNoPlug packages x ks into told) p (subst (λ (xs : List Key). HasNoPlug packages name xs into told) q h)

-- a key that has no package, among keys or as that of the socket
pub not_found_at : (packages : List Entry) (keys : List Key) (k : Key) → Among k keys → (told : Told) → HasNone packages k told → IsNotFound packages keys told
not_found_at packages keys k among told none = (k, among, none)

pub no_plugs : (packages : List Entry) (name : Name) (keys : List Key) (into : Key) (told : Told) → IsNotFound packages keys told → HasNoPlug packages name keys into told
no_plugs packages name keys into told none = inl (none.0, inr none.1, none.2)

pub no_socket : (packages : List Entry) (name : Name) (keys : List Key) (into : Key) (told : Told) → HasNone packages into told → HasNoPlug packages name keys into told
no_socket packages name keys into told none = inl (into, inl refl, none)

-- ---- runs

-- an input that is not read, and one that is no text
pub no_input : (had left : Option (List ℕ)) (calls called : Option Calls) (told : Told) → HasNoInput had calls called told → HasNoInputText had left calls called told
no_input had left calls called told h = inl h

pub no_text_read : (had left : Option (List ℕ)) (calls called : Option Calls) (bytes shown : List ℕ) → ToEnd had left bytes → shown ≡ bytes → (told : Told) → SaysOf (IsUtf8 shown → ⊥) (unread_text (codes "-")) told → HasNoInputText had left calls called told
no_text_read had left calls called bytes shown whole is told h = inr (bytes, whole, subst (λ (bs : List ℕ). SaysOf (IsUtf8 bs → ⊥) (unread_text (codes "-")) told) is h)

-- what stops a command with the text at a path, by its bytes
pub stops_at_text : {word path : Name} {had left : Option (List ℕ)} {before after : Outside} {text source : List ℕ} (calls called : Option Calls) (stop : Stop) → IsTextAt had left before.files path source → text ≡ source
    → DoesNot word text before after stop → StopsAt word had left calls called path before after stop
stops_at_text {word = word} {before = before} {after = after} {source = source} calls called stop at same h = inr (source, at, subst (λ (x : List ℕ). DoesNot word x before after stop) same h)

-- ---- lines

-- a text is written whole, or a front of it
pub written : {T E : Type 0} (r : Result T E) (line : List ℕ) (before after : Errors) → OnOk r (Appends before.written after.written line) → OnErr r (AppendsPrefix before.written after.written line)
    → OnOk r (NoneFailed before.calls after.calls) → OnErr r (FailedOnce before.calls after.calls) → Writes line before after
written (Ok x) line before after whole front fine failed = inl (whole, fine)
written (Err e) line before after whole front fine failed = inr (front, failed)

-- a refusal is told by its line
pub told_line : {E : Type 0} (text : String Global) (span : Option SourceSpan) (stop : Stop) (shown : List ℕ) (line : Result (String Global) E) (before after : Errors) → stop ≡ Stop.Refused text span → shown ≡ string_bytes text
    → IfOk line (λ l. string_bytes l ≡ refused_text shown span) → TellsLine line before after → Tells stop before after
told_line text span stop shown (Ok l) before after is text_is same t =
    subst (λ (s : Stop). Tells s before after) (sym is) (inl (subst (λ bytes. Writes bytes before after) (same ∙ ap (λ (x : List ℕ). refused_text x span) text_is) t))
told_line text span stop shown (Err e) before after is text_is same t = subst (λ (s : Stop). Tells s before after) (sym is) (inr t)

-- ---- calls

-- no call is at most so many
pub no_calls : (calls : Option Calls) (limit : ℕ) → CallsAtMost calls calls limit
no_calls None limit = tt
no_calls (Some k) limit = (k, refl, omega arith)
