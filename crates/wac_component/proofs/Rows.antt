-- The declarations in a Vec, one by one.
use Rattle.std.proofs.Common.{◌≡◌, List, [], ◌∷◌, map, refl, sym, ap, ◌∙◌, Vec, Global}
use Rattle.wac_graph_bytes.specs.declared.entry.Declaration.{Declaration, Module, Defined, ComponentType, ComponentType', InstanceType, InstanceType', Alias, Import, Export}
use Rattle.wac_graph_bytes.specs.Entries.{Declarations, End, ComponentTypeThen, InstanceTypeThen}
use Rattle.wac_graph_bytes.specs.Views.{before, declarations_of}
use Rattle.wac_graph_bytes.proofs.Rows.{before_component, before_instance}
use Rattle.wac_component.specs.Entries as one
use Rattle.wac_component.specs.Entries.{chain}
use Rattle.wac_component.specs.Views.{declaration_view}

before_is : (d : Declaration) (rest : Declarations) → one.before (declaration_view d) rest ≡ before d rest
before_is (Module ds) rest = refl
before_is (Defined t) rest = refl
before_is (ComponentType' _ row) rest = refl
before_is (InstanceType' _ row) rest = refl
before_is (Alias a) rest = refl
before_is (Import n d) rest = refl
before_is (Export n d) rest = refl

pub chain_is : (ds : List Declaration) → chain (map declaration_view ds) ≡ declarations_of ds
chain_is [] = refl
chain_is (d ∷ ds) = before_is d (chain (map declaration_view ds)) ∙ ap (λ (rest : Declarations). before d rest) (chain_is ds)

-- the declarations of the first type
abbrev inner_of : Declarations → Declarations
inner_of (ComponentTypeThen ds rest) = ds
inner_of (InstanceTypeThen ds rest) = ds
inner_of _ = End

pub component_is : (v : Vec Declaration Global) → declaration_view (ComponentType v) ≡ one.ComponentType (chain (map declaration_view v.items))
component_is v = ap (λ (ds : Declarations). one.ComponentType (inner_of ds)) (before_component v End) ∙ ap (λ (ds : Declarations). one.ComponentType ds) (sym (chain_is v.items))

pub instance_is : (v : Vec Declaration Global) → declaration_view (InstanceType v) ≡ one.InstanceType (chain (map declaration_view v.items))
instance_is v = ap (λ (ds : Declarations). one.InstanceType (inner_of ds)) (before_instance v End) ∙ ap (λ (ds : Declarations). one.InstanceType ds) (sym (chain_is v.items))
