-- What stands in a body, and what is stated in it.
use Rattle.std.specs.Prelude.{Option, map, option_map}
use Rattle.std.specs.Borrow.{Bor}
use Rattle.wac_types_base.specs.Record.{Collection}
use Rattle.wac_types_base.specs.Entries.{Name, with_values}
use Rattle.wac_types_base.specs.Stated.{stated_of, stated_use}
use Rattle.wac_parser_declare.specs.declared.bodies.Body.{Body}
use Rattle.wac_parser_declare.specs.declared.bodies.Holder.{Holder}
use Rattle.wac_parser_declare.specs.Bodies as stated
use Rattle.wac_parser_declare.specs.Interfaces.{exporting}
use Rattle.wac_parser_declare.specs.Worlds.{importing}
use Rattle.wac_parser_declare.specs.Holding.{ItemsStand, NamesStand, UsesStand, scope_of}

-- each id in the body stands
pub record BodyStands (c : Collection) (b : Body) : Type 0 where
  pub names : NamesStand c b.names
  pub uses : UsesStand c b.uses
  pub items : ItemsStand c b.items
  pub exports : ItemsStand c b.exports

-- what is stated in the body
abbrev pub stated_body : Collection → Body → stated.Body
stated_body c b = record {
  names = scope_of c b.names;
  uses = map (stated_use c) b.uses;
  items = with_values (stated_of c) b.items;
  exports = with_values (stated_of c) b.exports;
}

abbrev pub text_if : Option (Bor Name) → Option Name
text_if o = option_map (λ n. n.now) o

-- whose body it is
abbrev pub holder_of : Holder → stated.Holder
holder_of (Holder.Interface n) = exporting (text_if n)
holder_of (Holder.World n) = importing n.now
