-- Texts that are composed, and sources one after another.
use Rattle.std.proofs.Common.{◌≡◌, ℕ, Bool, List, [], ◌∷◌, ◌++◌, Option, Some, None, Result, Ok, Err, refl, subst, sym}
use Rattle.std.specs.Prelude.{OnOk, take}
use Rattle.std.specs.List.{AllZip}
use Rattle.std.specs.Io.KnownBytes.{Appends}
use Rattle.wac_types_base.specs.Entries.{Name}
use Rattle.wac_manifest.specs.declared.manifest.Key.{Key}
use Rattle.wac_manifest.specs.declared.manifest.Source.{Source}
use Rattle.wac_workspace.specs.declared.entries.Entry.{Entry}
use Rattle.wac_workspace.specs.Packages.{Held}
use Rattle.wac_workspace.specs.Composing.{ComposesSource}
use Rattle.wac_workspace.specs.declared.output.Output.{Output}
use Rattle.wac_texts.specs.Files.{Stored}
use Rattle.wac_streams.specs.Calls.{Calls, NoneFailed}
use Rattle.wac.specs.Running.{Keeps, NoneFails, Outside, PlugsFound, Puts, PutsSource, PutsSources, line_of, options_of, outside}

pub both_ok : {T E P Q R : Type 0} (r : Result T E) → (P → Q → R) → OnOk r P → OnOk r Q → OnOk r R
both_ok (Ok x) f p q = f p q
both_ok (Err e) f p q = tt

pub all_ok : {T E P Q R S : Type 0} (r : Result T E) → (P → Q → R → S) → OnOk r P → OnOk r Q → OnOk r R → OnOk r S
all_ok (Ok x) f p q s = f p q s
all_ok (Err e) f p q s = tt

module _ (define : Bool) (path : Option Name) (source : List ℕ) (old new : Held) (o : Output) (composed : ComposesSource old new source (options_of define) o) where
  -- what is composed without a path, and with one
  pub put_here : (files : Option Stored) (failures : Option ℕ) (had has : Option (List ℕ)) (calls called : Option Calls) → path ≡ None → Appends had has (line_of None o) → NoneFailed calls called
      → Puts define path source old new (outside files failures had calls) (outside files failures has called)
  put_here files failures had has calls called is line fine =
      subst (λ p. Puts define p source old new (outside files failures had calls) (outside files failures has called)) (sym is)
      (record { output = o; composed = composed; kept = refl; line = line; fine = record { files = refl; output = fine } })

  pub put_there : (at : Name) (before after : Outside) → path ≡ Some at → Keeps (Some at) o.bytes.items before.files after.files → Appends before.printed after.printed (line_of (Some at) o) → NoneFails before after → Puts define path source old new before after
  put_there at before after is kept line fine =
      subst (λ p. Puts define p source old new before after) (sym is) (record { output = o; composed = composed; kept = kept; line = line; fine = fine })

-- what is composed of a text, by its bytes and its path
pub put_at : (define : Bool) (old new : Held) (before after : Outside) (path at : Option Name) (text source : List ℕ) → path ≡ at → text ≡ source → Puts define path text old new before after → Puts define at source old new before after
put_at define old new before after path at text source p t puts = subst (λ x. Puts define x source old new before after) p (subst (λ x. Puts define path x old new before after) t puts)

-- what plugs, by its name and its keys
pub plugs_by : (packages : List Entry) (name n : Name) (keys ks : List Key) (into : Key) (source : List ℕ) → name ≡ n → keys ≡ ks → PlugsFound packages name keys into source → PlugsFound packages n ks into source
plugs_by packages name n keys ks into source p q plugs = subst (λ x. PlugsFound packages x ks into source) p (subst (λ x. PlugsFound packages name x into source) q plugs)

-- one more behind those that are composed
pub one_source : (define : Bool) (xs : List Source) (x : Source) (old mid new : Held) (a b c : Outside) → PutsSources define xs old mid a b
    → PutsSource define x mid new b c → PutsSources define (xs ++ x ∷ []) old new a c
one_source define [] x old mid new a b c all one =
    (new, c, subst (λ y. PutsSource define x old new y c) all.1 (subst (λ w. PutsSource define x w new b c) all.0 one), (refl, refl))
one_source define (y ∷ ys) x old mid new a b c all one =
    (all.0, all.1, all.2, one_source define ys x all.0 mid new all.1 b c all.3 one)

pub zip_none : {A B : Type 0} (R : A → B → Type 0) (xs : List A) → AllZip R (take 0 xs) []
zip_none R [] = tt
zip_none R (x ∷ xs) = tt
