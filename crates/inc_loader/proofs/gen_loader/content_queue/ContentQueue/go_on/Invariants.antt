use Rattle.std.proofs.Common.{◌≡◌, ◌-◌, length}
use Rattle.inc_loader.specs.PiecesLeft.{pieces_left}
use Rattle.inc_loader.proofs.gen_loader.content_queue.ContentQueue.go_on.Given as goal

abbrev pub invariant-seeking : goal.invariant-seeking
invariant-seeking l = record {
  number : l.self.number ≡ l.initial.self.number;
  left : pieces_left l.self.number l.self.work l.self.begun l.files ≡ pieces_left l.initial.self.number l.initial.self.work l.initial.self.begun l.files;
}

abbrev pub decreases-seeking : goal.decreases-seeking
decreases-seeking l = length l.files - l.self.begun
