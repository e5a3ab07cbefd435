use Rattle.std.proofs.Common.{sym, arith}
use Rattle.std.proofs.lemmas.List.{drop-drop}
use Rattle.inc_loader.specs.Content.{generated_content}
use Rattle.inc_loader.specs.ContentPieces.{pieces_of}
use Rattle.inc_loader.proofs.PieceLemmas.{few_blocks}
use Rattle.inc_loader.proofs.gen_loader.file_in_work.FileInWork.pass.Goals as goal

pub overflow_add-self : goal.overflow_add-self
overflow_add-self c =
    let work = c.args.self.now in
    omega (arith, few_blocks work.file work.number work.file.size work.next work.small c.requires)

pub returns : goal.returns
returns c =
    let work = c.args.self.now in
    record { left = sym (drop-drop 1 work.next (pieces_of work.file (generated_content work.number work.file.size))) }
