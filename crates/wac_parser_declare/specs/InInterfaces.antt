-- What is answered of the items of an interface, and of an interface as a whole.
use Rattle.std.specs.Prelude.{List, map, Option, Result, ⊤}
use Rattle.wac_types_base.specs.declared.ids.InterfaceId.{InterfaceId}
use Rattle.wac_types_base.specs.Record.{Collection}
use Rattle.wac_types_base.specs.Entries.{Name}
use Rattle.wac_parser_tree.specs.declared.interface.InlineInterface.{InlineInterface}
use Rattle.wac_parser_tree.specs.declared.interface.InterfaceDecl.{InterfaceDecl}
use Rattle.wac_parser_tree.specs.declared.interface.InterfaceItem.{InterfaceItem}
use Rattle.wac_parser_tree.specs.Views.{view_inline_interface, view_interface_decl, view_interface_item}
use Rattle.wac_parser_refusals.specs.declared.refusal.Refusal.{Refusal}
use Rattle.wac_parser_refusals.specs.Causes.{each}
use Rattle.wac_parser_refusals.specs.Outcomes.{IsOutcome}
use Rattle.wac_parser_declare.specs.declared.bodies.Body.{Body}
use Rattle.wac_parser_declare.specs.declared.bodies.Holder.{Holder}
use Rattle.wac_parser_declare.specs.declared.scope.Context.{Context as Place}
use Rattle.wac_parser_declare.specs.Bodies.{no_body}
use Rattle.wac_parser_declare.specs.Held.{holder_of, stated_body}
use Rattle.wac_parser_declare.specs.InBodies.{IsBody}
use Rattle.wac_parser_declare.specs.InPaths.{StandsIn}
use Rattle.wac_parser_declare.specs.Interfaces.{exporting, inline_interface, interface_decl, interface_item}
use Rattle.wac_parser_declare.specs.Making.{AnInstance}
use Rattle.wac_parser_declare.specs.Packages.{Known}
use Rattle.wac_parser_declare.specs.Scope.{Context}

-- one more item
abbrev pub IsInterfaceItem : Holder → InterfaceItem → Place → Collection → Known → Body → Collection → Body → Result ⊤ Refusal
    → Type 0
IsInterfaceItem h i at c known old d new r =
    (x : Context) → StandsIn x at c known
    → IsOutcome (λ b u. IsBody d b new) (interface_item x (holder_of h) (stated_body c old) (view_interface_item i)) r

-- more items, in order
abbrev pub AreInterfaceItems : Holder → List InterfaceItem → Place → Collection → Known → Body → Collection → Body
    → Result ⊤ Refusal → Type 0
AreInterfaceItems h is at c known old d new r =
    (x : Context) → StandsIn x at c known
    → IsOutcome (λ b u. IsBody d b new) (each (interface_item x (holder_of h)) (stated_body c old) (map view_interface_item is))
    r

-- the body of an interface that has this name, if it has one
abbrev pub IsInterfaceBody : Option Name → List InterfaceItem → Place → Collection → Known → Collection → Result Body Refusal
    → Type 0
IsInterfaceBody n is at c known d r =
    (x : Context) → StandsIn x at c known
    → IsOutcome (IsBody d) (each (interface_item x (exporting n)) no_body (map view_interface_item is)) r

abbrev pub IsInline : InlineInterface → Place → Collection → Known → Collection → Result InterfaceId Refusal → Type 0
IsInline i at c known d r =
    (x : Context) → StandsIn x at c known → IsOutcome (AnInstance d) (inline_interface x (view_inline_interface i)) r

abbrev pub IsInterfaceDeclared : InterfaceDecl → Place → Collection → Known → Collection → Result InterfaceId Refusal → Type 0
IsInterfaceDeclared i at c known d r =
    (x : Context) → StandsIn x at c known → IsOutcome (AnInstance d) (interface_decl x (view_interface_decl i)) r
