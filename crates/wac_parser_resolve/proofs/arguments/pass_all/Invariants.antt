use Rattle.std.proofs.Common.{ℕ, List, ◌∷◌, [], ◌++◌, drop}
use Rattle.wac_types_base.specs.Entries.{Name, names_of}
use Rattle.wac_types_base.specs.Stated.{Stated}
use Rattle.wac_types_names.specs.Keys.{Key}
use Rattle.wac_parser_tree.specs.Trees.{Span}
use Rattle.wac_parser_resolve.specs.Ascribing.{State}
use Rattle.wac_parser_resolve.specs.Denoting as stated
use Rattle.wac_parser_resolve.specs.Holding.{AreGiven}
use Rattle.wac_parser_resolve.specs.InInstances.{SaysMade, just_made}
use Rattle.wac_parser_resolve.specs.Later.{Inner, IsWithin}
use Rattle.wac_parser_resolve.specs.Standing.{IsFresh}
use Rattle.wac_parser_resolve.proofs.PassedAll.{ArePassedSo}
use Rattle.wac_parser_resolve.proofs.arguments.pass_all.Given as goal

abbrev pub invariant-loop-one : goal.invariant-loop-one
invariant-loop-one l = record {
  fresh : IsFresh l.graph l.instance;
  inner : Inner l.initial.graph l.graph;
  within : IsWithin l.initial.graph l.graph;
  rest : (noted : List (ℕ × Span)) (names : List (Name × ℕ)) (s : State) (k : Key) (w : Stated) (at : Span) (gs : List stated.Given) → SaysMade l.initial.graph noted l.instance names s (just_made k w at)
      → AreGiven l.initial.graph (names_of (noted ++ (l.instance, at) ∷ [])) gs l.given.items → ArePassedSo l.initial.graph noted l.instance names s k w at gs l.graph (drop l.one-index l.one-items);
}
