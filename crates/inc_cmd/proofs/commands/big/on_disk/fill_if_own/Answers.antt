use Rattle.std.proofs.Common.{◌≡◌, true, sym, subst}
use Rattle.inc_loader.specs.declared.loader_file.LoaderFile.{LoaderFile}
use Rattle.inc_filling.specs.Generated.{IsNewFileOf}
use Rattle.inc_filling.proofs.contents.ContentTaken.{takes_content}
use Rattle.inc_cmd.specs.NewFiles.{is_file_for}
use Rattle.inc_cmd.proofs.filling.NewDisks.{is_new}
use Rattle.inc_cmd.proofs.commands.big.on_disk.fill_if_own.Goals as goal

pub fill_mounted-requires-clause-taken : goal.fill_mounted-requires-clause-taken
fill_mounted-requires-clause-taken g c =
    let told = c.is_file_for.ensures.value in
    let yes = c.if-is_file_for.true in
    let own : is_file_for c.args.file.now c.args.mounted.opened ≡ true = cc in
    takes_content c.args.mounted.opened c.args.content
    (subst (λ (f : LoaderFile). IsNewFileOf c.args.mounted.opened f.id f.size) (sym c.requires.own) (is_new c.args.file.now c.args.mounted.opened c.requires.sound own))
