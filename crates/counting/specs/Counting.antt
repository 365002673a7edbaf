-- How many samples have a property, such as to be held back (document 02, Q-2). Definitions only.
use Rattle.std.specs.Prelude.{◌≡◌, Bool, cond, List, [], ◌∷◌, ℕ, ◌+◌, ◌<◌, ℤ, pos, get_or}

-- 1 for a sample that is counted
abbrev pub one : Bool → ℕ
one b = cond b 1 0

-- how many of the samples have p
abbrev pub count_of : (ℤ → Bool) → List ℤ → ℕ
count_of p [] = 0
count_of p (x ∷ xs) = one (p x) + count_of p xs

-- what is answered of each k below n is whether sample k of xs has p
abbrev pub Tells : (ℕ → Bool → Type 0) → ℕ → (ℤ → Bool) → List ℤ → Type 0
Tells answer n p xs = (k : ℕ) (b : Bool) → k < n → answer k b → b ≡ p (get_or xs k (pos 0))
