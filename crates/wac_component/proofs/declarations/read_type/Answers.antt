use Rattle.std.proofs.Common.{◌≡◌, ℕ, true, false, List, Ok, refl, map, subst}
use Rattle.wac_component.specs.Rules.{byte_at}
use Rattle.wac_component.specs.Entries.{Declaration, ComponentEntry, InstanceEntry, chain}
use Rattle.wac_component.specs.Declarations.{declarations, type_entry}
use Rattle.wac_component.specs.Views.{declaration_view}
use Rattle.wac_component.proofs.Steps.{byte_sound}
use Rattle.wac_component.proofs.Rows.{chain_is}
use Rattle.wac_component.proofs.declarations.read_type.Goals as goal

of_component : (bytes rest after : List ℕ) (b : ℕ) (ds : List Declaration) → byte_at bytes ≡ Ok (b, rest) → b ≡ 65
    → (declarations 128 true).read rest ≡ Ok (ds, after) → type_entry.read bytes ≡ Ok (ComponentEntry (chain ds), after)
unfolding type_entry
of_component bytes rest after b ds h is e = rw (byte_sound bytes b rest h, is, e) refl

of_instance : (bytes rest after : List ℕ) (b : ℕ) (ds : List Declaration) → byte_at bytes ≡ Ok (b, rest) → b ≡ 66
    → (declarations 128 false).read rest ≡ Ok (ds, after) → type_entry.read bytes ≡ Ok (InstanceEntry (chain ds), after)
unfolding type_entry
of_instance bytes rest after b ds h is e = rw (byte_sound bytes b rest h, is, e) refl

pub returns-in_ok-declarations-in-65 : goal.returns-in_ok-declarations-in-65
returns-in_ok-declarations-in-65 c =
    let v = c.in_ok-declarations-in-65.declarations in
    let after = c.in_ok-declarations-in-65.rest.now in
    subst (λ ds. type_entry.read c.args.bytes.now ≡ Ok (ComponentEntry ds, after)) (chain_is v.items)
    (of_component c.args.bytes.now c.in_ok-b.rest.now after c.in_ok-b.b (map declaration_view v.items) c.in_ok-b.ensures c.in-65.is c.in_ok-declarations-in-65.ensures)

pub returns-in_ok-declarations-in-66 : goal.returns-in_ok-declarations-in-66
returns-in_ok-declarations-in-66 c =
    let v = c.in_ok-declarations-in-66.declarations in
    let after = c.in_ok-declarations-in-66.rest.now in
    subst (λ ds. type_entry.read c.args.bytes.now ≡ Ok (InstanceEntry ds, after)) (chain_is v.items)
    (of_instance c.args.bytes.now c.in_ok-b.rest.now after c.in_ok-b.b (map declaration_view v.items) c.in_ok-b.ensures c.in-66.is c.in_ok-declarations-in-66.ensures)
