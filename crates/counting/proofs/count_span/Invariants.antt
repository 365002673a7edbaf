use Rattle.std.proofs.Common.{◌≡◌, ◌+◌, ◌-◌, ◌≤◌, Bool, List, ℤ, length, take}
use Rattle.counting.specs.Counting.{count_of, Tells}
use Rattle.counting.proofs.count_span.Given as goal

-- the count so far, and what it counts
abbrev pub invariant-loop-k : goal.invariant-loop-k
invariant-loop-k g l =
    (l.count ≤ l.k - l.from)
    × ((p : ℤ → Bool) (xs : List ℤ) → l.to ≤ length xs → Tells (goal.F-post g l.has) l.to p xs → count_of p (take l.from xs) + l.count ≡ count_of p (take l.k xs))
