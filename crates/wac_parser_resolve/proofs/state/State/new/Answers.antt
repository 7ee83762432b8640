use Rattle.std.proofs.Common.{refl}
use Rattle.wac_types_base.specs.Collection.{empty}
use Rattle.wac_parser_resolve.specs.declared.state.State.{State as Held}
use Rattle.wac_parser_resolve.specs.Knowing.{handed_list}
use Rattle.wac_parser_resolve.proofs.Handing.{handed_same, key_tests}
use Rattle.wac_parser_resolve.proofs.Starting.{starts_bare}
use Rattle.wac_parser_resolve.proofs.state.State.new.Goals as goal

pub returns-clause-starts : goal.returns-clause-starts
returns-clause-starts c d =
    let b : Held = record {
      board = record { types = record { graph = c.new.result; packages = c.args.«packages» }; instances = c.new-2.result };
      names = c.new-3.result;
      nodes = c.new-4.result;
      imports = c.new-5.result;
      exports = c.new-6.result;
      ids = c.new-7.result;
    } in
    starts_bare b (empty c.args.number) d (handed_list c.args.«packages».now) c.new.ensures c.new-2.ensures.noted c.new-3.ensures c.new-4.ensures c.new-5.ensures.noted c.new-6.ensures.noted
    (λ k. handed_same k _ key_tests c.args.«packages».now.entries c.len.ensures.unique) refl
