use Rattle.std.proofs.Common.{◌≡◌, ◌*◌, ◌-◌, ◌%◌, ap, arith, take, take_all}
use Rattle.counting.specs.Counting.{count_of}
use Rattle.counting.proofs.count_where.Goals as goal

pub returns : goal.returns
returns g c p xs e t =
    let n = c.args.n in
    let whole : 32768 * c.loop-s.s ≡ n - n % 32768 = omega arith in
    let front : c.loop-s.count ≡ count_of p (take (n - n % 32768) xs) = rw whole at (c.loop-s.invariant.1 p xs e t) in
    let all : take n xs ≡ xs = take_all n xs (omega arith) in
    omega (arith, front, c.count_span-2.ensures.counted p xs (omega arith) t, ap (count_of p) all)
