-- Lists by index, ceilings, and how many steps stay below a limit. Assumes nothing.
use Rattle.std.specs.Prelude.{List, [], ◌∷◌, ℕ, zero, suc, ◌+◌, ◌-◌, ◌*◌, ◌/◌}

-- f 0, f 1, .., f (n - 1)
abbrev pub tabulate : {A : Type 0} → ℕ → (ℕ → A) → List A
tabulate zero f = []
tabulate (suc n) f = f zero ∷ tabulate n (λ j. f (suc j))

-- ceil(a / b)
abbrev pub ceil_div : ℕ → ℕ → ℕ
ceil_div a b = (a + (b - 1)) / b

-- how many of p, p + i, p + 2 * i, .. lie below D: ceil((D - p) / i)
abbrev pub count : ℕ → ℕ → ℕ → ℕ
count i p D = ceil_div (D - p) i

-- how far the first of them that does not lie below D lies past it
abbrev pub past : ℕ → ℕ → ℕ → ℕ
past i p D = p + count i p D * i - D
