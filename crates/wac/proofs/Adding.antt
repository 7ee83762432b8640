-- Components that are added one after another.
use Rattle.std.proofs.Common.{◌≡◌, ℕ, List, [], ◌∷◌, ◌++◌, Option, Vec, Global, refl, subst}
use Rattle.wac_parser_grammar.specs.Documents.{document}
use Rattle.wac_parser_tree.specs.declared.document.Document.{Document}
use Rattle.wac_parser_tree.specs.Views.{view_document}
use Rattle.wac_workspace.specs.Composing.{IsDocument}
use Rattle.wac_manifest.specs.declared.manifest.Component.{Component}
use Rattle.wac_workspace.specs.Packages.{Held}
use Rattle.wac_texts.specs.Files.{Stored}
use Rattle.wac.specs.Adding.{AddsComponent, AddsComponents, AddsRead, IsBytesOf}
use Rattle.wac.specs.Loading.{IsTextOf}

-- one more behind those that are added
pub one_more : (files : Option Stored) (xs : List Component) (x : Component) (old mid new : Held) → AddsComponents files xs old mid
    → AddsComponent files x mid new → AddsComponents files (xs ++ x ∷ []) old new
one_more files [] x old mid new all one = (new, (subst (λ w. AddsComponent files x w new) all one, refl))
one_more files (y ∷ ys) x old mid new all one = (all.0, (all.1.0, one_more files ys x all.0 mid new all.1.1 one))

-- what is read of the text of a component declares its world
pub component_added : (files : Option Stored) (x : Component) (bytes : Vec ℕ Global) (text shown : List ℕ) (old new : Held) → IsBytesOf files x.bytes bytes.items → IsTextOf files x.world text → shown ≡ text
    → AddsRead {T = Document} view_document document view_document view_document shown (record { name = x.name; version = x.version; bytes = bytes; select = x.select }) old new → AddsComponent files x old new
component_added files x bytes text shown old new given stated same a = record {
  bytes = bytes.items;
  given = given;
  text = text;
  stated = stated;
  added = a.adds.handed;
  declares = record {
    tree = view_document a.tree;
    read = subst (λ (t : List ℕ). IsDocument t (view_document a.tree)) same a.read;
    declared = a.adds.declared;
    graph = a.graph;
    holds = a.holds;
    defined = a.adds.defined;
    there = a.adds.there;
  };
}
