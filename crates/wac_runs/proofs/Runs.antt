-- A run's components and sources are calls of a workspace.
use Rattle.std.specs.List.{AllByRecursion, AllZip}
use Rattle.std.proofs.lemmas.List.Elements.{All-cons, All-nil}
use Rattle.std.specs.Prelude.{◌≡◌, ℕ, Bool, true, not, List, [], ◌∷◌, ◌++◌, All, Option, Ok, Err}
use Rattle.std.proofs.Common.{refl, sym, ap, subst, ◌∙◌}
use Rattle.wac_types_base.specs.Graph.{Among}
use Rattle.wac_types_base.specs.Stated.{Stated}
use Rattle.wac_types_base.proofs.Walking.{slice_get-Among}
use Rattle.wac_types_base.proofs.Adding.{Among-left}
use Rattle.wac_types_base.proofs.Lists.{last_among}
use Rattle.wac_types_base.proofs.Looked.{among-get}
use Rattle.wac_composition.specs.Sound.{maps_of}
use Rattle.wac_manifest.specs.declared.manifest.Component.{Component}
use Rattle.wac_manifest.specs.declared.manifest.Source.{Source}
use Rattle.wac_nesting.specs.Steps.{Add, Step, after_all}
use Rattle.wac_parser_tree.specs.Trees.{Document}
use Rattle.wac_parser_resolve.specs.Ascribing.{State}
use Rattle.wac_parser_resolve.specs.Meeting.{resolved}
use Rattle.wac_texts.specs.Files.{Stored}
use Rattle.wac_workspace.specs.declared.entries.Entry.{Entry}
use Rattle.wac_workspace.specs.declared.output.Output.{Output}
use Rattle.wac_workspace.specs.Packages.{HasBytes, Held}
use Rattle.wac_workspace.specs.Composing.{AreAscribedBytes, IsDocument, IsMeantBy, MeansSource, RegistersIf}
use Rattle.wac_workspace.specs.Resolving.{Handed, Resolves, handed}
use Rattle.wac_outputs.specs.Calls.{AreCalls, none_yet, then_call, hands_in, composes, IsEntryOf, world_in}
use Rattle.wac_outputs.proofs.Called.{carried}
use Rattle.wac_workspace.proofs.Zips.{zip_at}
use Rattle.wac.specs.Adding.{AddsComponents, unused}
use Rattle.wac.specs.Running.{Outside, Puts, PutsSources, options_of, path_of}
use Rattle.wac_runs.specs.Levels.{IsLeft, Runs_are_as_ascribed, outputs_of}

-- ---- calls

record Adds (first last : Held) : Type 0 where
  pub steps : List Step
  pub calls : AreCalls first steps last

adds : (files : Option Stored) (xs : List Component) (first old new : Held) (steps : List Step) → AreCalls first steps old → AddsComponents files xs old new → Adds first new
adds files [] first old new steps calls all = record { steps = steps; calls = subst (λ w. AreCalls first steps w) (sym all) calls }
adds files (x ∷ xs) first old new steps calls all =
    let one = all.1.0.added in
    adds files xs first all.0 new (steps ++ Add one.parts.bytes (world_in one.parts.types one.parts.world) ∷ [])
    (then_call calls (hands_in one.parts (λ has. one.fresh (subst (HasBytes old.packages) one.bytes has)) one.added)) all.1.1

-- packages stay when others come
abbrev Stays : (old new : List Entry) → Type 0
Stays old new = (e : Entry) → Among e old → Among e new

-- a package of the bytes and the world of the output stands there
record IsKept (es : List Entry) (o : Output) : Type 0 where
  pub entry : Entry
  pub there : Among entry es
  pub bytes : entry.package.bytes ≡ o.bytes.items
  pub world : world_in entry.types entry.package.ty ≡ world_in o.types o.world

-- what a source that is composed with its packages nested is resolved to
record Resolved (ps : Handed) (source : List ℕ) : Type 0 where
  pub tree : Document
  pub read : IsDocument source tree
  pub state : State
  pub target : Option Stated
  pub resolves : resolved tree ps ≡ Ok (state, target)

resolved_by : (define : Bool) → define ≡ true → (ps : Handed) (source bytes : List ℕ) → MeansSource define ps source bytes → Resolved ps source
unfolding MeansSource AreAscribedBytes
resolved_by define nested ps source bytes means =
    let m : IsMeantBy ps source bytes = means nested in
    go m.tree m.read (resolved m.tree ps) refl m.meant.ascribed
  where
    go : (d : Document) → IsDocument source d → (q : Resolves) → resolved d ps ≡ q → AreAscribedBytes q bytes → Resolved ps source
    go d read (Ok s) is h = record { tree = d; read = read; state = s.0; target = s.1; resolves = is }
    go d read (Err c) is h = absurd h

record Composing (sources : List Source) (first old last : Held) (outputs : List Output) : Type 0 where
  pub steps : List Step
  pub calls : AreCalls first steps last
  pub stays : Stays old.packages last.packages
  pub kept : AllByRecursion (IsKept last.packages) outputs

composing : (define : Bool) → define ≡ true → (sources : List Source) (first old last : Held) (before after : Outside) (steps : List Step) → AreCalls first steps old
    → (puts : PutsSources define sources old last before after) → Composing sources first old last (outputs_of define sources old last before after puts)
composing define nested [] first old last before after steps calls puts = record {
  steps = steps;
  calls = subst (λ w. AreCalls first steps w) (sym puts.0) calls;
  stays = λ e m. subst (λ (w : Held). Among e w.packages) (sym puts.0) m;
  kept = tt;
}
composing define nested (s ∷ sources) first old last before after steps calls puts =
    let mid = puts.0 in
    let source = puts.2.0 in
    let one : Puts define (path_of s) source old mid before puts.1 = puts.2.2 in
    let o = one.output in
    let r = resolved_by define nested (handed old.packages) source o.bytes.items one.composed.means in
    let call = composes source (options_of define) o r.tree r.state r.target nested r.read r.resolves one.composed in
    let kept : RegistersIf true old mid o = subst (λ b. RegistersIf b old mid o) nested one.composed.kept in
    let added = kept.added in
    let more = composing define nested sources first mid last puts.1 after _ (then_call calls call) puts.3 in
    record {
      steps = more.steps;
      calls = more.calls;
      stays = λ e m. more.stays e (subst (Among e) (sym added.«packages») (Among-left e old.packages _ m));
      kept = (
        record {
          entry = added.entry;
          there = more.stays added.entry (subst (Among added.entry) (sym added.«packages») (last_among old.packages added.entry));
          bytes = added.made.bytes;
          world = ap maps_of added.made.states;
        },
        more.kept,
      );
    }

-- ---- runs

-- what is kept of outputs is what the steps leave
left : (steps : List Step) (last : Held) → AllZip IsEntryOf last.packages (after_all [] steps) → (os : List Output) → AllByRecursion (IsKept last.packages) os → All (IsLeft steps) os
left steps last zip [] kept = All-nil (IsLeft steps)
left steps last zip (o ∷ os) kept =
    let k = kept.0 in
    let i = slice_get-Among last.packages k.entry k.there in
    let p = zip_at IsEntryOf last.packages (after_all [] steps) i.0 k.entry zip i.2 in
    All-cons (IsLeft steps) o os
    (record { which = p.0; there = among-get (after_all [] steps) i.0 p.0 p.1; bytes = p.2.bytes ∙ k.bytes; world = p.2.world ∙ k.world })
    (left steps last zip os kept.1)

pub runs : Runs_are_as_ascribed
runs source before after run nested =
    let a = adds before.files run.manifest.components.items unused unused run.added [] none_yet run.adds in
    let c = composing (not run.manifest.«import») (ap not nested) run.manifest.sources.items unused run.added run.last before after a.steps a.calls run.puts in
    let so = carried unused run.last c.steps refl c.calls in
    record { first = unused; empty = refl; steps = c.steps; calls = c.calls; ascribed = so; outputs = left c.steps run.last so.entries _ c.kept }
