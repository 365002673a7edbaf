use Rattle.std.proofs.Common.{◌≡◌, ◌*◌, ◌≤◌, Bool, List, ℤ, length, take}
use Rattle.counting.specs.Counting.{count_of, Tells}
use Rattle.counting.proofs.count_where.Given as goal

-- the whole spans so far
abbrev pub invariant-loop-s : goal.invariant-loop-s
invariant-loop-s g l =
    (l.count ≤ 32768 * l.s)
    × ((p : ℤ → Bool) (xs : List ℤ) → length xs ≡ l.n → Tells (goal.F-post g l.has) l.n p xs → l.count ≡ count_of p (take (32768 * l.s) xs))
