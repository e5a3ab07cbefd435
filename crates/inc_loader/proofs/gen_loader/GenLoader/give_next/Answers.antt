use Rattle.std.proofs.Common.{◌≡◌, ◌≢◌, ◌∙◌, ℕ, List, None, ap, sym, subst}
use Rattle.inc_loader.specs.ContentPieces.{files_in}
use Rattle.inc_loader.specs.PiecesLeft.{pieces_left}
use Rattle.inc_loader.specs.declared.loader_file.LoaderFile.{LoaderFile}
use Rattle.inc_loader.proofs.QueueLemmas.{IsOnItsWay, gone_on, moved_on}
use Rattle.inc_loader.proofs.gen_loader.GenLoader.give_next.Goals as goal

pub invariant_of-self-2 : goal.invariant_of-self-2
invariant_of-self-2 c =
    let loader = c.args.self.now in
    let old = loader.queue in
    let now = c.go_on.new.self in
    let before : IsOnItsWay old.number old.work old.begun loader.held.files loader.held.given.items =
    record { sized = loader.sized; unbegun = loader.unbegun; marks = loader.marks; left = loader.left } in
    let listed : c.as_slice.result.now ≡ files_in loader.held.files = c.as_slice.ensures.value ∙ sym (ap files_in c.in-Some.is) in
    let some : loader.held.files ≢ None = λ e. cc in
    let same =
    subst (λ (files : List LoaderFile). pieces_left old.number now.work now.begun files ≡ pieces_left old.number old.work old.begun files) listed
    (ap (λ (n : ℕ). pieces_left n now.work now.begun c.as_slice.result.now) (sym c.go_on.ensures.number) ∙ c.go_on.ensures.left) in
    let on = gone_on old.number loader.held.files loader.held.given.items c.give_one.new.self.given.items old.work now.work c.pass.new.self.work old.begun now.begun
    c.in_ok-piece.piece before some same c.in_ok-piece.ensures.first c.pass.ensures.left c.in_ok-pieces.ensures.given in
    let after = moved_on old.number c.pass.new.self.number c.pass.new.self.work now.begun c.pass.new.self.begun loader.held.files c.give_one.new.self.files
    c.give_one.new.self.given.items on (c.pass.ensures.number ∙ c.go_on.ensures.number) c.pass.ensures.begun c.give_one.ensures.files in
    record { sized = after.sized; unbegun = after.unbegun; marks = after.marks; left = after.left }
