use Rattle.std.specs.Prelude.{bytes_eq}
use Rattle.std.proofs.Common.{◌≡◌, false, true, Ok, Err, refl, sym, ap, ◌∙◌}
use Rattle.wac_types_base.specs.Entries.{names_of}
use Rattle.wac_types_base.specs.Stated.{Stated}
use Rattle.wac_types_names.specs.Keys.{Key}
use Rattle.wac_graph_core.specs.declared.ids.PackageId.{PackageId}
use Rattle.wac_parser_tree.specs.Views.{view_package_name}
use Rattle.wac_parser_refusals.specs.Causes.{◌>>=◌, UnknownPackage}
use Rattle.wac_parser_refusals.proofs.Outcomes.{refused_outcome}
use Rattle.wac_parser_resolve.specs.declared.board.Board.{Board}
use Rattle.wac_parser_resolve.specs.Ascribing.{worlds_of}
use Rattle.wac_parser_resolve.specs.Denoting.{key_named, new_package, under_key}
use Rattle.wac_parser_resolve.specs.InInstances.{HasPackage, IsOn, package_named, track_of}
use Rattle.wac_parser_resolve.proofs.Boards.{on_keeps, own_refused, package_outcome, package_said}
use Rattle.wac_parser_resolve.proofs.expressions.new_package.Goals as goal

pub returns-then-eq-clause-outcome : goal.returns-then-eq-clause-outcome
returns-then-eq-clause-outcome c s on =
    let p = view_package_name c.args.new.now.«package» in
    let own : bytes_eq p.name s.own.name ≡ true = ap (bytes_eq p.name) on.own ∙ sym c.eq.ensures ∙ c.if-eq.true in
    own_refused (UnknownPackage p.name) p.span (key_named (names_of s.packages) p (track_of c.args.new.now) >>= under_key (worlds_of s.packages) p.span) (bytes_eq p.name s.own.name) c.unknown_package.result own c.unknown_package.ensures

pub returns-clause-outcome : goal.returns-clause-outcome
returns-clause-outcome c s on =
    let p = view_package_name c.args.new.now.«package» in
    let track = track_of c.args.new.now in
    let other : bytes_eq p.name s.own.name ≡ false = ap (bytes_eq p.name) on.own ∙ sym c.eq.ensures ∙ c.if-eq.false in
    let x = c.package_named.new.self in
    let b : Board = record { types = x; instances = c.args.board.now.instances } in
    let K : Key × Stated → PackageId → Type 0 = λ k id. IsOn c.args.root b s × HasPackage x.graph k id in
    package_outcome (HasPackage x.graph) K (UnknownPackage p.name) p.span
    (λ k id h. (on_keeps c.args.root c.args.board.now b c.see_sound.ensures c.in_ok-id.ensures.keeps c.in_ok-id.ensures.packages refl s on, h))
    (bytes_eq p.name s.own.name) (package_named c.args.board.now.types p track) (key_named (names_of s.packages) p track >>= under_key (worlds_of s.packages) p.span) (Ok c.in_ok-id.id) other
    (package_said s.packages c.args.board.now.types on.known on.handed p track) c.in_ok-id.ensures.outcome

pub returns-in_err-id-clause-outcome : goal.returns-in_err-id-clause-outcome
returns-in_err-id-clause-outcome c s on =
    let p = view_package_name c.args.new.now.«package» in
    let track = track_of c.args.new.now in
    let other : bytes_eq p.name s.own.name ≡ false = ap (bytes_eq p.name) on.own ∙ sym c.eq.ensures ∙ c.if-eq.false in
    let H = HasPackage c.package_named.new.self.graph in
    refused_outcome _ (new_package s p track) c.from_residual.result c.in_err-id.field-0.0 c.from_residual.ensures.1
    (package_outcome H H (UnknownPackage p.name) p.span (λ k id h. h)
    (bytes_eq p.name s.own.name) (package_named c.args.board.now.types p track) (key_named (names_of s.packages) p track >>= under_key (worlds_of s.packages) p.span) (Err c.in_err-id.field-0.0) other
    (package_said s.packages c.args.board.now.types on.known on.handed p track) c.in_err-id.ensures.outcome)
