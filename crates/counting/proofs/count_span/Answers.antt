use Rattle.std.proofs.Common.{◌≡◌, ap, ◌∙◌, arith, get_or, pos}
use Rattle.counting.specs.Counting.{one}
use Rattle.counting.specs.laws.Counting.{from_bool_is, one_le, count_more}
use Rattle.counting.proofs.count_span.Goals as goal

pub loop-k-preserved : goal.loop-k-preserved
loop-k-preserved g c =
    let k = c.loop-k.k in
    let more : c.from-count.result ≡ one c.has.result = c.from-count.ensures ∙ from_bool_is c.has.result in (
      omega (arith, one_le c.has.result),
      λ p xs h t.
          let told : c.has.result ≡ p (get_or xs k (pos 0)) = t k c.has.result c.loop-k-test.true c.has.ensures in
          omega (arith, c.loop-k.invariant.1 p xs h t, count_more p xs k (omega arith), ap one told),
    )
