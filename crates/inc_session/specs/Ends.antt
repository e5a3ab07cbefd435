-- How a drive ends by what its calls answer.
use Rattle.inc_model.specs.declared.words.outcomes.FillError.{FillError}
use Rattle.inc_model.specs.declared.words.outcomes.FillError.TheVariants as refusal
use Rattle.inc_script.specs.declared.report_text.ends.DriveEnd.{DriveEnd}
use Rattle.inc_script.specs.declared.report_text.ends.DriveEnd.TheVariants as end

abbrev pub end_by_fill : FillError → DriveEnd
end_by_fill (refusal.HistoryFull entries claimed) = end.HistoryFull
end_by_fill (refusal.Failed at) = end.Failed
end_by_fill (refusal.DiskFault done) = end.Fault
end_by_fill refusal.OutOfMemory = end.OutOfMemory
end_by_fill refusal.NoPermission = end.Refused refusal.NoPermission
end_by_fill (refusal.OutOfRange piece) = end.Refused (refusal.OutOfRange piece)
end_by_fill (refusal.Compressed piece) = end.Refused (refusal.Compressed piece)
end_by_fill (refusal.BadLength piece) = end.Refused (refusal.BadLength piece)
end_by_fill (refusal.Damaged piece) = end.Refused (refusal.Damaged piece)
