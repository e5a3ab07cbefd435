-- A record and its bytes, 32 or 40: each gives the other back.
use Rattle.std.proofs.Common.{◌≡◌, ℕ, ◌^◌, ◌<◌, List, [], ◌++◌, length, take, drop, replicate, Some, refl, sym, ap, ◌∙◌, arith}
use Rattle.std.proofs.lemmas.List.{append-nil, append_assoc, take_all, take_at, take-take, take-append-le, drop_all, drop_at, drop-drop, drop-append-le, length-append, length-take, length-drop}
use Rattle.inc_bytes.specs.Fields.{AreBytes, le_bytes, field, field_at}
use Rattle.inc_bytes.proofs.Numbers.{AreBytes-take, length-le_bytes, field_next, field-put, field-take, field_at-there}
use Rattle.inc_pending.specs.declared.pending_record.PendingRecord.{PendingRecord}
use Rattle.inc_pending.specs.Record.{record_bytes, record_in, record_bytes2, record_in2}

-- ---- the bytes of the record that bytes give

pub bytes_again : (bytes : List ℕ) → AreBytes bytes → length bytes ≡ 32 → record_bytes (record_in bytes) ≡ bytes
unfolding record_bytes record_in
bytes_again bytes fits len =
    let next = field_next bytes fits in
    let e24 = next 8 16 _ (take 16 bytes) (omega arith) refl refl in
    let e28 = next 4 24 _ _ (omega arith) e24 refl in
    let e32 = next 4 28 _ _ (omega arith) e28 refl in
    e32 ∙ take_all 32 bytes (omega arith)

-- ---- the record of its bytes

pub record_again : (r : PendingRecord) → length r.id ≡ 16 → r.asked < 2 ^ 64 → r.block < 2 ^ 32 → r.serial < 2 ^ 32 → record_in (record_bytes r) ≡ record r { uid = 0 }
unfolding record_bytes record_in
record_again r len asked-fits block-fits serial-fits =
    let asked = le_bytes 8 r.asked in
    let block = le_bytes 4 r.block in
    let serial = le_bytes 4 r.serial in
    let all = r.id ++ asked ++ block ++ serial in
    let from16 : all ≡ r.id ++ (asked ++ (block ++ serial)) = append_assoc (r.id ++ asked) block serial ∙ append_assoc r.id asked (block ++ serial) in
    let from24 : all ≡ (r.id ++ asked) ++ (block ++ serial) = append_assoc (r.id ++ asked) block serial in
    let from28 : all ≡ (r.id ++ asked ++ block) ++ (serial ++ []) = ap (λ (x : List ℕ). (r.id ++ asked ++ block) ++ x) (sym (append-nil serial)) in
    let len24 : length (r.id ++ asked) ≡ 24 = omega (arith, length-append r.id asked, length-le_bytes 8 r.asked) in
    let len28 : length (r.id ++ asked ++ block) ≡ 28 = omega (arith, length-append (r.id ++ asked) block, length-le_bytes 4 r.block) in
    let id-is : take 16 all ≡ r.id = ap (take 16) from16 ∙ take_at r.id _ 16 len in
    let asked-is : field 8 16 all ≡ r.asked = ap (field 8 16) from16 ∙ field-put 8 r.asked r.id _ 16 len asked-fits in
    let block-is : field 4 24 all ≡ r.block = ap (field 4 24) from24 ∙ field-put 4 r.block (r.id ++ asked) _ 24 len24 block-fits in
    let serial-is : field 4 28 all ≡ r.serial = ap (field 4 28) from28 ∙ field-put 4 r.serial (r.id ++ asked ++ block) [] 28 len28 serial-fits in
    let made : PendingRecord = record { id = r.id; asked = r.asked; block = r.block; serial = r.serial; uid = 0 } in
    let same : record_in all ≡ made = rw (id-is, asked-is, block-is, serial-is) refl in
    same

-- ---- fields written one after another

pub written : (r : PendingRecord) (id rest b2 b3 b4 : List ℕ) → length id ≡ 16 → length rest ≡ 16 → id ≡ r.id → b2 ≡ take 16 (id ++ rest) ++ le_bytes 8 r.asked ++ drop 24 (id ++ rest) → b3 ≡ take 24 b2 ++ le_bytes 4 r.block ++ drop 28 b2 → b4 ≡ take 28 b3 ++ le_bytes 4 r.serial ++ drop 32 b3 → b4 ≡ record_bytes r
unfolding record_bytes
written r id rest b2 b3 b4 id-len rest-len is e2 e3 e4 =
    let b1 = id ++ rest in
    let len : length r.id ≡ 16 = sym (ap length is) ∙ id-len in
    let asked = le_bytes 8 r.asked in
    let block = le_bytes 4 r.block in
    let serial = le_bytes 4 r.serial in
    let len24 : length (r.id ++ asked) ≡ 24 = omega (arith, length-append r.id asked, length-le_bytes 8 r.asked) in
    let len28 : length (r.id ++ asked ++ block) ≡ 28 = omega (arith, length-append (r.id ++ asked) block, length-le_bytes 4 r.block) in
    let front16 : take 16 b1 ≡ r.id = take_at id rest 16 id-len ∙ is in
    let is2 : b2 ≡ r.id ++ asked ++ drop 24 b1 = e2 ∙ ap (λ (x : List ℕ). x ++ asked ++ drop 24 b1) front16 in
    let front24 : take 24 b2 ≡ r.id ++ asked = ap (take 24) is2 ∙ take_at (r.id ++ asked) (drop 24 b1) 24 len24 in
    let is3 : b3 ≡ r.id ++ asked ++ block ++ drop 28 b2 = e3 ∙ ap (λ (x : List ℕ). x ++ block ++ drop 28 b2) front24 in
    let front28 : take 28 b3 ≡ r.id ++ asked ++ block = ap (take 28) is3 ∙ take_at (r.id ++ asked ++ block) (drop 28 b2) 28 len28 in
    let l1 : length b1 ≡ 32 = omega (arith, length-append id rest) in
    let l2 : length b2 ≡ 32 = ap length is2 ∙ omega (arith, length-append (r.id ++ asked) (drop 24 b1), length-drop 24 b1) in
    let l3 : length b3 ≡ 32 = ap length is3 ∙ omega (arith, length-append (r.id ++ asked ++ block) (drop 28 b2), length-drop 28 b2) in
    let nothing : drop 32 b3 ≡ [] = drop_all 32 b3 (omega arith) in
    e4
    ∙ ap (λ (x : List ℕ). x ++ serial ++ drop 32 b3) front28
    ∙ ap (λ (x : List ℕ). r.id ++ asked ++ block ++ serial ++ x) nothing
    ∙ append-nil (r.id ++ asked ++ block ++ serial)

-- ---- fields that were read

pub read_is : (bytes id : List ℕ) (asked block serial : ℕ) → length bytes ≡ 32 → id ≡ take 16 bytes → Some asked ≡ field_at 8 bytes 16 → Some block ≡ field_at 4 bytes 24 → Some serial ≡ field_at 4 bytes 28 → record_in bytes ≡ record { id = id; asked = asked; block = block; serial = serial; uid = 0 }
unfolding record_in
read_is bytes id asked block serial len id-is asked-is block-is serial-is =
    let a : Some asked ≡ Some (field 8 16 bytes) = asked-is ∙ field_at-there 8 16 bytes (omega arith) in
    let b : Some block ≡ Some (field 4 24 bytes) = block-is ∙ field_at-there 4 24 bytes (omega arith) in
    let s : Some serial ≡ Some (field 4 28 bytes) = serial-is ∙ field_at-there 4 28 bytes (omega arith) in
    let a' : field 8 16 bytes ≡ asked = cc in
    let b' : field 4 24 bytes ≡ block = cc in
    let s' : field 4 28 bytes ≡ serial = cc in
    rw (sym id-is, a', b', s') refl

-- ---- the 40 bytes with the user

-- the user isn't among the 32 bytes
record_bytes-uid : (r : PendingRecord) (uid : ℕ) → record_bytes (record r { uid = uid }) ≡ record_bytes r
unfolding record_bytes
record_bytes-uid r uid = refl

pub bytes_again2 : (bytes : List ℕ) → AreBytes bytes → length bytes ≡ 40 → record_bytes2 (record_in2 bytes) ≡ take 36 bytes ++ replicate 4 0
unfolding record_bytes2 record_in2
bytes_again2 bytes fits len =
    let front = take 32 bytes in
    let front-len : length front ≡ 32 = omega (arith, length-take 32 bytes) in
    let first = record_bytes-uid (record_in front) (field 4 32 bytes) ∙ bytes_again front (AreBytes-take 32 bytes fits) front-len in
    ap (λ (x : List ℕ). x ++ replicate 4 0) (field_next bytes fits 4 32 (field 4 32 bytes) _ (omega arith) first refl)

pub record_again2 : (r : PendingRecord) (front : List ℕ) → length front ≡ 32 → front ≡ record_bytes r → record_in front ≡ record r { uid = 0 } → r.uid < 2 ^ 32 → record_in2 (record_bytes2 r) ≡ r
unfolding record_bytes2 record_in2
record_again2 r front len front-is back uid-fits =
    let all = front ++ le_bytes 4 r.uid ++ replicate 4 0 in
    let parts : all ≡ front ++ (le_bytes 4 r.uid ++ replicate 4 0) = append_assoc front (le_bytes 4 r.uid) (replicate 4 0) in
    let there : take 32 all ≡ front = ap (take 32) parts ∙ take_at front _ 32 len in
    let uid-is : field 4 32 all ≡ r.uid = ap (field 4 32) parts ∙ field-put 4 r.uid front (replicate 4 0) 32 len uid-fits in
    let first : record_in (take 32 all) ≡ record r { uid = 0 } = ap record_in there ∙ back in
    let same : record (record_in (take 32 all)) { uid = field 4 32 all } ≡ r = rw (first, uid-is) refl in
    rw (sym front-is) same

pub written2 : (r : PendingRecord) (front bytes : List ℕ) → length front ≡ 32 → front ≡ record_bytes r → bytes ≡ take 32 (front ++ replicate 8 0) ++ le_bytes 4 r.uid ++ drop 36 (front ++ replicate 8 0) → bytes ≡ record_bytes2 r
unfolding record_bytes2
written2 r front bytes len front-is bytes-is =
    let all = front ++ replicate 8 0 in
    let first : take 32 all ≡ record_bytes r = take_at front (replicate 8 0) 32 len ∙ front-is in
    let last : drop 36 all ≡ replicate 4 0 = sym (drop-drop 4 32 all) ∙ ap (drop 4) (drop_at front (replicate 8 0) 32 len) in
    bytes-is ∙ ap (λ (x : List ℕ). x ++ le_bytes 4 r.uid ++ drop 36 all) first ∙ ap (λ (x : List ℕ). record_bytes r ++ le_bytes 4 r.uid ++ x) last

pub read_is2 : (bytes : List ℕ) (uid : ℕ) (first : PendingRecord) → length bytes ≡ 40 → first ≡ record_in (take 32 bytes) → Some uid ≡ field_at 4 bytes 32 → record first { uid = uid } ≡ record_in2 bytes
unfolding record_in2
read_is2 bytes uid first len first-is uid-is =
    let there : Some uid ≡ Some (field 4 32 bytes) = uid-is ∙ field_at-there 4 32 bytes (omega arith) in
    let same : uid ≡ field 4 32 bytes = cc in
    rw (first-is, same) refl

-- the last four bytes may be any, of any number
pub last_unread : (bytes rest : List ℕ) → length bytes ≡ 40 → record_in2 (take 36 bytes ++ rest) ≡ record_in2 bytes
unfolding record_in2
last_unread bytes rest len =
    let front-len : length (take 36 bytes) ≡ 36 = omega (arith, length-take 36 bytes) in
    let first-is : take 32 (take 36 bytes ++ rest) ≡ take 32 bytes = take-append-le 32 (take 36 bytes) rest (omega arith) ∙ take-take 32 36 bytes (omega arith) in
    let behind : drop 32 (take 36 bytes ++ rest) ≡ drop 32 (take 36 bytes) ++ rest = drop-append-le 32 (take 36 bytes) rest (omega arith) in
    let within : take 4 (drop 32 (take 36 bytes) ++ rest) ≡ take 4 (drop 32 (take 36 bytes)) = take-append-le 4 (drop 32 (take 36 bytes)) rest (omega (arith, length-drop 32 (take 36 bytes))) in
    let uid-is : field 4 32 (take 36 bytes ++ rest) ≡ field 4 32 bytes = rw (behind, within) (field-take 4 32 36 bytes (omega arith)) in
    rw (first-is, uid-is) refl
