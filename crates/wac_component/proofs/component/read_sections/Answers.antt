use Rattle.std.proofs.Common.{◌≡◌, ◌+◌, ◌<◌, length, ◌++◌, ◌∷◌, [], map, sym, ap, ◌∙◌, arith, refl}
use Rattle.std.proofs.lemmas.Result.{err_from_is_err_and}
use Rattle.std.proofs.lemmas.List.{map_push, length-append}
use Rattle.wac_component.specs.Sections.{section}
use Rattle.wac_component.specs.Views.{section_view}
use Rattle.wac_component.proofs.All.{section_takes, all_goes_on, all_ends, all_is_done}
use Rattle.wac_component.proofs.Laws.{section_exact}
use Rattle.wac_component.proofs.component.read_sections.Goals as goal

pub returns-in_err-value : goal.returns-in_err-value
returns-in_err-value c =
    let p = err_from_is_err_and c.from_residual.result c.from_residual.ensures.1 in
    rw (p.1, p.2) (all_ends section c.in_err-value.field-0.0 (map section_view c.loop-rest.values.items) c.loop-rest.rest.now c.args.bytes.now (length c.loop-rest.values.items) (sym c.is_empty.ensures ∙ c.loop-rest-test.true) c.loop-rest.invariant.room c.in_err-value.ensures c.loop-rest.invariant.reads)

pub loop-rest-smaller : goal.loop-rest-smaller
loop-rest-smaller c =
    section_takes.takes c.loop-rest.rest.now (section_view c.in_ok-value.value) c.in_ok-value.after.now (section_exact.sound c.loop-rest.rest.now (section_view c.in_ok-value.value) c.in_ok-value.after.now c.in_ok-value.ensures)

pub loop-rest-preserved : goal.loop-rest-preserved
loop-rest-preserved c =
    let x = c.in_ok-value.value in
    let xs = c.loop-rest.values.items in
    let rest = c.loop-rest.rest.now in
    let after = c.in_ok-value.after.now in
    let fewer : length after < length rest = section_takes.takes rest (section_view x) after (section_exact.sound rest (section_view x) after c.in_ok-value.ensures) in
    let items : c.push.new.self.items ≡ xs ++ x ∷ [] = rw c.in_ok-push.ensures.items refl in
    let count : length c.push.new.self.items ≡ length xs + 1 = ap length items ∙ length-append xs (x ∷ []) in
    let views : map section_view c.push.new.self.items ≡ map section_view xs ++ section_view x ∷ [] = rw items (map_push _ xs x) in
    record {
      reads = rw (views, count) (all_goes_on section (map section_view xs) rest after c.args.bytes.now (section_view x) (length xs) (sym c.is_empty.ensures ∙ c.loop-rest-test.true) c.in_ok-value.ensures c.loop-rest.invariant.reads);
      room = omega (arith, count, fewer, c.loop-rest.invariant.room);
    }

pub returns : goal.returns
returns c = all_is_done section (map section_view c.loop-rest.values.items) c.loop-rest.rest.now c.args.bytes.now (length c.loop-rest.values.items) (sym c.is_empty.ensures ∙ c.loop-rest-test.false) c.loop-rest.invariant.room c.loop-rest.invariant.reads
