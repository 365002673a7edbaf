-- Where a format's step is 1: a fraction there rounds to a whole number, which stands in the pattern's lowest digits. Assumes nothing.
use mathlib.Core.Path.{◌≡◌, sym, ap, ◌∙◌, subst}
use mathlib.Core.Bool.{Bool, false, cond}
use Prim.Native.Nat.{ℕ, suc, ◌+◌, ◌-◌, ◌*◌, ◌/◌, ◌^◌, ◌≤◌, ◌<◌}
use native.Mathlib.Nat.{le_trans, le_of_eq, le_antisymm, lt_of_lt_of_le, lt_of_not-le, not-le_of_lt, zero-lt-suc, zero-add, suc-add, mul-one, mul_right_comm, mul_assoc, mul-le-mul_right, mul-lt-mul_of_pos_right, mul-pos, mul-div_cancel, div-one, le-div_iff_mul-le, div-lt_iff_lt-mul}
use native.Mathlib.Omega.{arith}
use lib.Pow.{pow-add, pow_pos, pow_mono, shl-shr}
use lib.Ieee.{Float, nan, inf, fin, Format, prec, low, hid, top, up, down, size, units, round, to_bits}
use lib.Ieee.Digits.{size-lt, size-le}
use lib.Ieee.Exact.{HasValue}
use lib.Ieee.Fits.{down_pos, round_is}
use lib.Ieee.Nearest.{closest, closest_same}
use Rattle.floats.proofs.Ties.{closest_within}

size_at : (n j : ℕ) → 2 ^ j ≤ n → n < 2 ^ suc j → size n ≡ suc j
size_at n j l h = le_antisymm (size-le n (suc j) h) (lt_of_not-le (λ (g : size n ≤ j). not-le_of_lt (lt_of_lt_of_le (size-lt n) (pow_mono g)) l))

spare : (z p l : ℕ) → z ≡ suc (p + l) → z - suc p ≡ l
spare z p l h = omega arith

-- n / d has p + 1 digits before its point
digits_dropped : (n d p l : ℕ) → 0 < d → 2 ^ p * d ≤ n → n < 2 ^ suc p * d → size (n * 2 ^ l / d) - suc p ≡ l
digits_dropped n d p l D from to = spare (size (n * 2 ^ l / d)) p l (size_at (n * 2 ^ l / d) (p + l)
    ((le-div_iff_mul-le D).1 (le_trans (le_of_eq (ap (λ (x : ℕ). x * d) (pow-add 2 p l) ∙ mul_right_comm (2 ^ p) (2 ^ l) d)) (mul-le-mul_right (2 ^ l) from)))
    ((div-lt_iff_lt-mul D).1 (lt_of_lt_of_le (mul-lt-mul_of_pos_right to (pow_pos l)) (le_of_eq (mul_right_comm (2 ^ suc p) d (2 ^ l) ∙ ap (λ (x : ℕ). x * d) (sym (pow-add 2 (suc p) l) ∙ ap (λ (x : ℕ). 2 ^ x) (suc-add p l)))))))

-- from 2 ^ p to 2 ^ (p + 1)
module _ (f : Format) (p : ℕ) (digits : prec f ≡ suc p) where
  rounds_to : (s : Bool) (n d z : ℕ) → z * d * 2 < n * 2 + d → n * 2 < z * d * 2 + d → 2 ^ p < z → z < 2 ^ suc p → round f s n d ≡ units f s z (low f)
  rounds_to s n d z below above from to =
      let D : 0 < d = omega arith in
      let lo : 2 ^ p * d ≤ n = omega (arith, mul-le-mul_right d from) in
      let hi : n < 2 ^ suc p * d = least (2 ^ suc p) to in
      let k : size (n * 2 ^ low f / d) - prec f ≡ low f = ap (λ (x : ℕ). size (n * 2 ^ low f / d) - x) digits ∙ digits_dropped n d p (low f) D lo hi in
      round_is f s n d
      ∙ ap (λ (x : ℕ). units f s (closest (n * 2 ^ low f) (d * 2 ^ x)) x) k
      ∙ ap (λ (x : ℕ). units f s x (low f))
      (closest_same (n * 2 ^ low f) (d * 2 ^ low f) n d (mul-pos D (pow_pos (low f))) D (mul_right_comm n (2 ^ low f) d ∙ mul_assoc n d (2 ^ low f)) ∙ closest_within n d z below above)
    where
      least : (t : ℕ) → z < t → n < t * d
      least t h = omega (arith, mul-le-mul_right d h)

  pub round_to_whole : (s : Bool) (n d z : ℕ) → z * d * 2 < n * 2 + d → n * 2 < z * d * 2 + d → 2 ^ p < z → z < 2 ^ suc p → round f s n d ≡ round f s z 1
  round_to_whole s n d z below above from to = rounds_to s n d z below above from to ∙ sym (rounds_to s z 1 z (omega arith) (omega arith) from to)

  pub whole_bits : (x : Float) (z : ℕ) → 2 ^ p ≤ z → z < 2 ^ suc p → HasValue x false z 1 → to_bits f x ≡ low f * hid f + z
  unfolding to_bits
  whole_bits nan z from to v = absurd v
  whole_bits (inf s) z from to v = absurd v
  whole_bits (fin s m e) z from to v =
      let n : m * up e * 2 ^ low f / down e ≡ z * 2 ^ low f =
      ap (λ (x : ℕ). x * 2 ^ low f / down e) (sym (mul-one (m * up e)) ∙ v.1) ∙ ap (λ (x : ℕ). x / down e) (mul_right_comm z (down e) (2 ^ low f)) ∙ mul-div_cancel (z * 2 ^ low f) (down_pos e) in
      let k : size (z * 2 ^ low f) - prec f ≡ low f =
      ap (λ (x : ℕ). size (z * 2 ^ low f) - x) digits ∙ ap (λ (x : ℕ). size x - suc p) (sym (div-one (z * 2 ^ low f))) ∙ digits_dropped z 1 p (low f) (zero-lt-suc 0) (subst (λ (x : ℕ). x ≤ z) (sym (mul-one (2 ^ p))) from) (subst (λ (x : ℕ). z < x) (sym (mul-one (2 ^ suc p))) to) in
      ap (λ (t : Bool). cond t (top f) 0 + (size (m * up e * 2 ^ low f / down e) - prec f) * hid f + m * up e * 2 ^ low f / down e / 2 ^ (size (m * up e * 2 ^ low f / down e) - prec f)) v.0
      ∙ ap (λ (x : ℕ). 0 + (size x - prec f) * hid f + x / 2 ^ (size x - prec f)) n
      ∙ ap (λ (x : ℕ). 0 + x * hid f + z * 2 ^ low f / 2 ^ x) k
      ∙ ap (λ (x : ℕ). x + z * 2 ^ low f / 2 ^ low f) (zero-add (low f * hid f))
      ∙ ap (λ (x : ℕ). low f * hid f + x) (shl-shr z (low f))
