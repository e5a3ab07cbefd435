use Rattle.std.proofs.Common.{◌≡◌, true, false, get_or, sym, arith}
use Rattle.std.specs.Str.{bytes_eq}
use Rattle.inc_disk.specs.Book.{place_among}
use Rattle.inc_disk.proofs.NamesLemmas.{there_at, goes_in_at}
use Rattle.inc_disk.proofs.newest.put_name.Goals as goal
use Rattle.inc_disk.proofs.newest.put_name.Goals.{else-at-len-via-then-at-len+else-is_same, else-at-len-via-else-at-len}

pub returns-then-is_same-clause-ok : goal.returns-then-is_same-clause-ok
returns-then-is_same-clause-ok c =
    let place : c.place_among-at.result ≡ place_among c.args.name.now c.args.names.now.items = cc in
    let same : bytes_eq c.args.name.now (get_or c.args.names.now.items c.place_among-at.result c.index.result.now) ≡ true = cc in
    sym (there_at _ _ c.index.result.now _ place (omega arith) same)

pub returns-clause-ok : goal.returns-clause-ok
returns-clause-ok c =
    let place : c.place_among-at.result ≡ place_among c.args.name.now c.args.names.now.items = cc in
    rw (c.in_ok-insert.ensures.items, c.in_ok-copy.ensures.value) (
    elim c.else-at-len.branch [
      | else-at-len-via-then-at-len+else-is_same w ↦
          let other : bytes_eq c.args.name.now (get_or c.args.names.now.items c.place_among-at.result w.index.result.now) ≡ false = cc in
          goes_in_at _ _ w.index.result.now _ place (λ _. other)
      | else-at-len-via-else-at-len w ↦ goes_in_at _ _ c.args.name.now _ place (λ lt. absurd (omega arith))
    ]
    )
