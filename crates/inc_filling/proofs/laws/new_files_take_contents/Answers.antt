use Rattle.inc_filling.proofs.contents.ContentTaken.{takes_content}
use Rattle.inc_filling.proofs.laws.new_files_take_contents.Goals as goal

pub returns : goal.returns
returns c = record { takes = λ opened content h. takes_content opened content h }
