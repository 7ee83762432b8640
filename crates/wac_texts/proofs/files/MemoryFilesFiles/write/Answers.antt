use Rattle.std.proofs.Common.{ap, ◌∙◌}
use Rattle.wac_types_base.specs.Entries.{value_at}
use Rattle.wac_types_base.proofs.Lists.{put_else, put_is}
use Rattle.wac_texts.proofs.files.MemoryFilesFiles.write.Goals as goal

pub returns-clause-written : goal.returns-clause-written
returns-clause-written c =
    let put = rw c.in_ok-bytes.ensures.items at (rw c.in_ok-path.ensures.ok at c.in_ok-put.ensures.put) in
    ap (λ es. value_at es c.args.path.now) put ∙ put_is c.args.self.now c.args.path.now c.args.bytes.now

pub returns-clause-others : goal.returns-clause-others
returns-clause-others c = λ other h.
    let put = rw c.in_ok-bytes.ensures.items at (rw c.in_ok-path.ensures.ok at c.in_ok-put.ensures.put) in
    ap (λ es. value_at es other) put ∙ put_else c.args.self.now c.args.path.now other c.args.bytes.now h
