use Rattle.std.proofs.Common.{◌∙◌, ap, ◌/◌, ◌<◌, min, pos, nat_abs}
use Rattle.std.specs.Int.{w16}
use Rattle.pcm.specs.Integers.{−}
use Rattle.pcm.specs.laws.Integers.{answered, read_back}
use Rattle.pcm.specs.Samples.{decode}
use Rattle.pcm.specs.laws.Samples.{decode_fits, all_by_index}
use Rattle.gain.proofs.Thresholds.{count_above, count_below, count_within}
use Rattle.gain.proofs.count_clipped.Goals as goal

pub returns-then-q-gt32768 : goal.returns-then-q-gt32768
returns-then-q-gt32768 c =
    let p = c.unsigned_abs-p.ensures.value ∙ ap nat_abs (read_back c.ranges.q) in
    c.count_outside.ensures
    ∙ count_above c.args.q (rw (read_back c.ranges.q) at c.if-q-gt32768.true)
    (answered w16 c.bottom.type_inv (c.bottom.ensures ∙ ap (λ n. − (1073758208 / n)) p))
    (answered w16 c.top.type_inv (c.top.ensures ∙ ap (λ n. pos (min (1073725439 / n) 32767)) p))
    (decode c.args.input.now) (decode_fits c.args.input.now (all_by_index (λ b. b < 256) 0 c.args.input.now (λ i h. (c.type_inv.input i).fits)))

pub returns-then-q-ltminus32767 : goal.returns-then-q-ltminus32767
returns-then-q-ltminus32767 c =
    let p = c.unsigned_abs-p.ensures.value ∙ ap nat_abs (read_back c.ranges.q) in
    c.count_outside-then-q-ltminus32767.ensures
    ∙ count_below c.args.q (rw (read_back c.ranges.q) at c.if-q-ltminus32767.true)
    (answered w16 c.bottom-then-q-ltminus32767.type_inv (c.bottom-then-q-ltminus32767.ensures ∙ ap (λ n. − (1073725439 / n)) p))
    (answered w16 c.top-then-q-ltminus32767.type_inv (c.top-then-q-ltminus32767.ensures ∙ ap (λ n. pos (min (1073758208 / n) 32767)) p))
    (decode c.args.input.now) (decode_fits c.args.input.now (all_by_index (λ b. b < 256) 0 c.args.input.now (λ i h. (c.type_inv.input i).fits)))

pub returns-else-q-ltminus32767 : goal.returns-else-q-ltminus32767
returns-else-q-ltminus32767 c =
    count_within c.args.q (rw (read_back c.ranges.q) at c.if-q-gt32768.false) (rw (read_back c.ranges.q) at c.if-q-ltminus32767.false)
    (decode c.args.input.now) (decode_fits c.args.input.now (all_by_index (λ b. b < 256) 0 c.args.input.now (λ i h. (c.type_inv.input i).fits)))
