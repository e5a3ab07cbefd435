use Rattle.std.proofs.Common.{◌≡◌, ◌≤◌, ◌++◌, ℕ, List, length, drop, ap, ◌∙◌, subst, arith}
use Rattle.std.specs.Prelude.{replicate}
use Rattle.inc_disk.specs.Disk.{Now, settled}
use Rattle.inc_disk.proofs.Moments.{joined}
use Rattle.inc_recover.specs.Making.{HasMagic, MayBeLeft, blank, image_with}
use Rattle.inc_recover.proofs.Made.{fresh_parts, image_magic, image_rest, rest_short}
use Rattle.inc_recover.proofs.making.put_image.Goals as goal

pub returns-in_err-put_blank-clause-moments : goal.returns-in_err-put_blank-clause-moments
returns-in_err-put_blank-clause-moments g c = c.put_blank.ensures.moments (image_with c.args.front.now c.args.len)

pub put_rest-requires-clause-short : goal.put_rest-requires-clause-short
put_rest-requires-clause-short g c =
    let has = fresh_parts c.args.front.now c.args.len (λ i. omega (arith, c.type_inv.front i)) c.requires.fresh in
    let same : length c.rest_of.result.now ≡ length (drop 8 c.args.front.now) = ap (λ (b : List ℕ). length b) c.rest_of.ensures.value in
    omega (arith, rest_short c.args.front.now c.args.len has, same, c.zeros_behind.ensures.value)

pub returns-in_err-put_rest-clause-moments : goal.returns-in_err-put_rest-clause-moments
returns-in_err-put_rest-clause-moments g c =
    let image : List ℕ = image_with c.args.front.now c.args.len in
    joined _ _ _ (MayBeLeft image) (c.put_blank.ensures.moments image) (c.put_rest.ensures.moments image)

pub returns-clause-made : goal.returns-clause-made
returns-clause-made g c =
    let image : List ℕ = image_with c.args.front.now c.args.len in
    let has : HasMagic image = fresh_parts c.args.front.now c.args.len (λ i. omega (arith, c.type_inv.front i)) c.requires.fresh in
    let long : 8 ≤ length image = omega (arith, has.long) in
    let rest = ap (λ (b : List ℕ). b ++ replicate c.zeros_behind.result 0) c.rest_of.ensures.value ∙ ap (λ (k : ℕ). drop 8 c.args.front.now ++ replicate k 0) c.zeros_behind.ensures.value
    ∙ image_rest c.args.front.now c.args.len long in
    let now = subst (λ (b : List ℕ). Now (g.D.Disk.states (g.D.Backing.kept c.put_rest.new.disk)) (λ state. state ≡ settled (blank ++ b))) rest c.in_ok-put_rest.ensures.made in
    c.put_magic.ensures.made image has (c.magic_of.ensures.value ∙ image_magic c.args.front.now c.args.len long) now

pub returns-clause-moments : goal.returns-clause-moments
returns-clause-moments g c =
    let image : List ℕ = image_with c.args.front.now c.args.len in
    let has : HasMagic image = fresh_parts c.args.front.now c.args.len (λ i. omega (arith, c.type_inv.front i)) c.requires.fresh in
    let long : 8 ≤ length image = omega (arith, has.long) in
    let rest = ap (λ (b : List ℕ). b ++ replicate c.zeros_behind.result 0) c.rest_of.ensures.value ∙ ap (λ (k : ℕ). drop 8 c.args.front.now ++ replicate k 0) c.zeros_behind.ensures.value
    ∙ image_rest c.args.front.now c.args.len long in
    let now = subst (λ (b : List ℕ). Now (g.D.Disk.states (g.D.Backing.kept c.put_rest.new.disk)) (λ state. state ≡ settled (blank ++ b))) rest c.in_ok-put_rest.ensures.made in
    joined _ _ _ (MayBeLeft image) (joined _ _ _ (MayBeLeft image) (c.put_blank.ensures.moments image) (c.put_rest.ensures.moments image))
    (c.put_magic.ensures.moments image has (c.magic_of.ensures.value ∙ image_magic c.args.front.now c.args.len long) now)
