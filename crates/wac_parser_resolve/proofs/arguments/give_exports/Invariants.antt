use Rattle.std.proofs.Common.{◌≡◌, ℕ, List, drop, true}
use Rattle.wac_types_base.specs.Entries.{Name, names_of, texts_of}
use Rattle.wac_types_base.specs.Stated.{kind_of}
use Rattle.wac_composition.specs.Classes.{is_instance_kind}
use Rattle.wac_parser_tree.specs.Trees.{Span}
use Rattle.wac_parser_refusals.specs.Causes.{each}
use Rattle.wac_parser_resolve.specs.Ascribing.{Denoted, State}
use Rattle.wac_parser_resolve.specs.Denoting as stated
use Rattle.wac_parser_resolve.specs.Denoting.{spread_given}
use Rattle.wac_parser_resolve.specs.Holding.{Denotes}
use Rattle.wac_parser_resolve.specs.InArguments.{AreLeft, SaysGiven}
use Rattle.wac_parser_resolve.specs.Later.{Inner, IsWithin}
use Rattle.wac_parser_resolve.specs.Standing.{AreThere}
use Rattle.wac_parser_resolve.proofs.arguments.give_exports.Given as goal

-- the names that are left, over what was said and given so far, give the same as all
abbrev pub invariant-loop-name : goal.invariant-loop-name
invariant-loop-name l = record {
  given : AreThere l.graph l.given.items;
  inner : Inner l.initial.graph l.graph;
  within : IsWithin l.initial.graph l.graph;
  rest : (noted : List (ℕ × Span)) (names : List (Name × ℕ)) (q : State × List stated.Given) (d : Denoted) → SaysGiven l.initial.graph noted names l.initial.given.items q
      → Denotes l.initial.graph (names_of noted) d l.node → is_instance_kind (kind_of d.item) ≡ true → AreLeft q.1 (texts_of l.names.items)
      → (p : State × List stated.Given) × (SaysGiven l.graph noted names l.given.items p × AreLeft p.1 (texts_of (drop l.name-index l.name-items)))
      × (each (spread_given l.span d) q (texts_of l.names.items) ≡ each (spread_given l.span d) p (texts_of (drop l.name-index l.name-items)));
}
