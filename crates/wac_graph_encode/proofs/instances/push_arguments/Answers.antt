use Rattle.std.proofs.Common.{sym, subst, take, [], ◌≤◌, ◌<◌, ◌+◌, ℕ, Vec, Global, arith}
use Rattle.std.specs.Prelude.{List}
use Rattle.wac_types_base.specs.declared.item.ItemKind.{ItemKind}
use Rattle.wac_types_base.specs.Entries.{Name, names_of}
use Rattle.wac_types_base.proofs.Loops.{take-all}
use Rattle.wac_types_base.proofs.Looked.{among-get}
use Rattle.wac_types_fit.proofs.Items.{name-among}
use Rattle.wac_graph_bytes.specs.declared.entry.NamedIndex.{NamedIndex}
use Rattle.wac_graph_bytes.specs.Views.{arguments_view}
use Rattle.wac_types_parts.specs.Parts.{imports_of}
use Rattle.wac_graph_encode.specs.Writing.{AreGivenUnder}
use Rattle.wac_graph_encode.proofs.WritingLaws.{given_next}
use Rattle.wac_graph_encode.proofs.instances.push_arguments.Goals as goal
use Rattle.wac_graph_encode.proofs.instances.push_arguments.Goals.{in-Some+in_ok-push_given, in_default}

pub push_given-requires : goal.push_given-requires
push_given-requires c = c.requires.stand c.in-Some.import.name.now (name-among (imports_of c.args.types.now c.args.world) c.in-Some.import.name.now c.in-Some.import.kind (among-get (imports_of c.args.types.now c.args.world) c.loop-at.at (c.in-Some.import.name.now, c.in-Some.import.kind) c.in-Some.ensures.entry))

pub loop-at-init : goal.loop-at-init
loop-at-init c = subst (λ (xs : List NamedIndex). AreGivenUnder c.args.standing c.args.bound.now [] (arguments_view xs)) (sym c.requires.none) tt

pub loop-at-preserved : goal.loop-at-preserved
loop-at-preserved c =
    elim c.match-import_at.branch [
      | in-Some+in_ok-push_given w ↦
          subst (λ (v : Vec NamedIndex Global). AreGivenUnder c.args.standing c.args.bound.now (names_of (take (c.loop-at.at + 1) (imports_of c.args.types.now c.args.world))) (arguments_view v.items)) (sym w.arguments-is)
          (given_next c.args.standing c.args.bound.now (imports_of c.args.types.now c.args.world) c.loop-at.at w.in-Some.import.name.now w.in-Some.import.kind c.loop-at.arguments.items w.push_given.new.arguments.items
          w.in-Some.ensures.entry w.in_ok-push_given.ensures c.loop-at.invariant)
      | in_default w ↦
          let most = w.in_default.ensures.none in
          let less = subst (λ (n : ℕ). c.loop-at.at < n) c.import_count-at-end.ensures.len c.loop-at-test.true in
          absurd (omega (arith, most, less))
    ]

pub returns-clause-given : goal.returns-clause-given
returns-clause-given c =
    subst (λ (xs : List (Name × ItemKind)). AreGivenUnder c.args.standing c.args.bound.now (names_of xs) (arguments_view c.loop-at.arguments.items)) (take-all (imports_of c.args.types.now c.args.world) c.loop-at.at (subst (λ n. n ≤ c.loop-at.at) c.import_count-at-end.ensures.len c.loop-at-test.false)) c.loop-at.invariant
