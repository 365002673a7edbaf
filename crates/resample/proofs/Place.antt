-- A carried position: begun, advanced, and its whole frames, 2^32nds and way past a block. Assumes nothing.
use Rattle.std.specs.Prelude.{◌≡◌, ℕ, suc, ◌+◌, ◌-◌, ◌*◌, ◌/◌, ◌%◌, ◌≤◌, ◌<◌}
use Rattle.std.proofs.Common.{sym, ap, ◌∙◌, mul-le-mul_right, div-add-mod', mod-lt, div-lt_iff_lt-mul, arith}
use Rattle.std.proofs.Math.Arith.{digits_div, digits_mod}
use Rattle.resample.specs.Value.{frac}
use Rattle.resample.specs.declared.Position.{Position}
use Rattle.resample.specs.Place.{At, Sum}

pub at_new : (o num : ℕ) → 0 < o → o ≤ 384000 → At o num (record { frame = num / o; frac = frac o (num % o); over = num % o * 4294967296 % o })
at_new o num h m = record {
  is = omega (arith, div-add-mod' num o, div-add-mod' (num % o * 4294967296) o);
  parts = record { limit = m; small = (div-lt_iff_lt-mul h).1 (omega (arith, mod-lt num h)); rest = mod-lt (num % o * 4294967296) h };
}

-- with the out_r-ths f * out_r + v brought below out_r and the 2^32nds below 2^32
pub sum_is : (o : ℕ) (p s : Position) (f v : ℕ) → f * o + v ≡ (p.frac + s.frac) * o + (p.over + s.over) → v < o → o ≤ 384000
    → Sum o p s (record { frame = p.frame + s.frame + f / 4294967296; frac = f % 4294967296; over = v })
sum_is o p s f v e h m = record {
  is = omega (arith, e, ap (λ (x : ℕ). x * o) (div-add-mod' f 4294967296));
  parts = record { limit = m; small = omega arith; rest = h };
}

pub at_sum : (o a b : ℕ) (p s r : Position) → At o a p → At o b s → Sum o p s r → At o (a + b) r
at_sum o a b p s r x y z = record { is = omega (arith, x.is, y.is, z.is); parts = z.parts }

module _ (o num : ℕ) (p : Position) (h : At o num p) where
  remainder : p.frac * o + p.over ≡ (num - p.frame * o) * 4294967296
  remainder = omega (arith, h.is)

  below : p.frac * o + p.over < 4294967296 * o
  below = let k : suc p.frac ≤ 4294967296 = h.parts.small in omega (arith, mul-le-mul_right o k, h.parts.rest)

  split : num ≡ p.frame * o + (num - p.frame * o)
  split = omega (arith, h.is)

  remainder_below : num - p.frame * o < o
  remainder_below = omega (arith, remainder, below)

  pub frame_is : num / o ≡ p.frame
  frame_is = ap (λ (n : ℕ). n / o) split ∙ digits_div p.frame {m = o} {r = num - p.frame * o} remainder_below

  rem_is : num % o ≡ num - p.frame * o
  rem_is = ap (λ (n : ℕ). n % o) split ∙ digits_mod p.frame {m = o} {r = num - p.frame * o} remainder_below

  pub frac_is : frac o (num % o) ≡ p.frac
  frac_is =
      ap (λ (n : ℕ). n * 4294967296 / o) rem_is ∙ ap (λ (n : ℕ). n / o) (sym remainder) ∙ digits_div p.frac {m = o} {r = p.over} h.parts.rest

  -- how far the position lies past n frames, in out_r-ths of a frame
  pub past_frames : (n : ℕ) → n ≤ p.frame → (p.frame - n) * o + (p.frac * o + p.over) / 4294967296 ≡ num - n * o
  past_frames n k =
      let e : (p.frac * o + p.over) / 4294967296 ≡ num - p.frame * o = omega (arith, remainder) in
      let d : p.frame ≡ (p.frame - n) + n = omega arith in
      omega (arith, e, split, ap (λ (x : ℕ). x * o) d)
