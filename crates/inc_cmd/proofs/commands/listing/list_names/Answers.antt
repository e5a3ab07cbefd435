use Rattle.inc_cmd.proofs.ListingMeaning.{names_listed}
use Rattle.inc_cmd.proofs.commands.listing.list_names.Goals as goal

pub returns-clause-shows : goal.returns-clause-shows
returns-clause-shows g c =
    names_listed _ _ 0 _ c.in_ok-rows.ensures.names c.in_ok-rows.ensures.meaning c.in_ok-rows.ensures.own (rw c.as_slice.ensures.value at c.in_ok-list_text.ensures.value)
