use Rattle.std.proofs.Common.{refl}
use Rattle.inc_cmd.proofs.MakeLemmas.{given_none}
use Rattle.inc_cmd.proofs.commands.make.make_signed.Goals as goal

pub returns-in_err-blob-clause-moments : goal.returns-in_err-blob-clause-moments
returns-in_err-blob-clause-moments g c = given_none _ _ _ _ _ refl

pub returns-in_err-signature_word-in-Err-Signature-clause-moments : goal.returns-in_err-signature_word-in-Err-Signature-clause-moments
returns-in_err-signature_word-in-Err-Signature-clause-moments g c = given_none _ _ _ _ _ refl

pub returns-in-Err-Signature-clause-moments : goal.returns-in-Err-Signature-clause-moments
returns-in-Err-Signature-clause-moments g c = given_none _ _ _ _ _ refl

pub returns-in-Err-TooLarge-clause-moments : goal.returns-in-Err-TooLarge-clause-moments
returns-in-Err-TooLarge-clause-moments g c = given_none _ _ _ _ _ refl

pub returns-clause-moments : goal.returns-clause-moments
returns-clause-moments g c = given_none _ _ _ _ _ refl
