-- The products of a sample and a factor, by their sizes, and the product taken in two parts. Assumes nothing.
use mathlib.Core.Path.{◌≡◌, sym, ap, ap₂, ◌∙◌}
use Prim.Native.Nat.{ℕ, suc, ◌+◌, ◌-◌, ◌*◌, ◌/◌, ◌%◌, ◌^◌, ◌≤◌, ◌<◌}
use native.Mathlib.Decide.{dec_lt}
use native.Mathlib.Omega.{arith}
use lib.Dec.{lit<}
use lib.IntN.{ℤ, pos, negsuc, neg_ℤ, nat_abs, sub_ℕ, ◌+ℤ◌, ◌-ℤ◌, ◌*ℤ◌, +ℤ_assoc, +ℤ_comm, *ℤ_comm, neg_ℤ-+ℤ, neg_ℤ-neg_ℤ}
use lib.Signed.{mag}
use mir.Syntax.{Width, w16, w32}
use mir.Val.{SFits, hbits, to_z, of_z}
use Rattle.pcm.specs.Integers.{floor_div}
use Rattle.pcm.specs.laws.Integers.{floor_add, floor_fits, +ℤ-*ℤ, *ℤ-assoc, neg_*ℤ, pos_sub_pos, sub_lt, sub_ge, abs_self, mul_within, add_within, sub_within, fits_within, within_fits, answered, read_back}
use Rattle.pcm.specs.Samples.{held16}
use Rattle.gain.specs.Gain.{scaled}

-- x * q and x * q + 16,384 fit the width w
pub record Sized (w : Width) (x q : ℤ) : Type 0 where
  pub product : SFits w (x *ℤ q)
  pub raised : SFits w (x *ℤ q +ℤ pos 16384)
  pub shifted : SFits w (floor_div (x *ℤ q +ℤ pos 16384) 32768)

pub sized : (w : Width) (x q : ℤ) {b : ℕ} → SFits w16 x → nat_abs q ≤ b → 32768 * b + 16384 < 2 ^ hbits w → Sized w x q
sized w x q {b} f h k =
    let p : nat_abs (x *ℤ q) ≤ 32768 * b = mul_within x q (within_fits x f) h in
    let r : SFits w (x *ℤ q +ℤ pos 16384) = fits_within w (x *ℤ q +ℤ pos 16384) (add_within (x *ℤ q) (pos 16384) p (abs_self (pos 16384))) k in
    record {
      product = fits_within w (x *ℤ q) p (omega arith);
      raised = r;
      shifted = floor_fits (x *ℤ q +ℤ pos 16384) 32768 r;
    }

-- ---- a sample times the two parts of a factor p: its low 15 bits, and the next 15
abbrev pub low : ℤ → ℕ → ℤ
low x p = x *ℤ pos (p % 32768)

abbrev pub high : ℤ → ℕ → ℤ
high x p = x *ℤ pos (p / 32768 % 32768)

whole : (x : ℤ) (p : ℕ) → p ≤ 33554432 → x *ℤ pos p ≡ low x p +ℤ high x p *ℤ pos 32768
whole x p k =
    let h : ℕ = p / 32768 % 32768 in
    let l : ℕ = p % 32768 in
    let e : p ≡ l + h * 32768 = omega arith in
    ap (λ n. x *ℤ pos n) e ∙ *ℤ_comm x (pos (l + h * 32768)) ∙ +ℤ-*ℤ (pos l) (pos (h * 32768)) x
    ∙ ap₂ ◌+ℤ◌ (*ℤ_comm (pos l) x) (*ℤ_comm (pos (h * 32768)) x ∙ sym (*ℤ-assoc x (pos h) (pos 32768)))

in_parts : (r x : ℤ) (p : ℕ) → p ≤ 33554432 → floor_div (r -ℤ low x p) 32768 -ℤ high x p ≡ floor_div (r -ℤ x *ℤ pos p) 32768
in_parts r x p k =
    let b : ℤ = high x p *ℤ pos 32768 in
    let e : r -ℤ x *ℤ pos p ≡ (r -ℤ low x p) +ℤ neg_ℤ (high x p) *ℤ pos 32768 =
    ap (λ z. r -ℤ z) (whole x p k) ∙ ap (λ z. r +ℤ z) (neg_ℤ-+ℤ (low x p) b ∙ ap (λ z. neg_ℤ (low x p) +ℤ z) (sym (neg_*ℤ (high x p) (pos 32768))))
    ∙ sym (+ℤ_assoc r (neg_ℤ (low x p)) (neg_ℤ (high x p) *ℤ pos 32768)) in
    sym (ap (λ z. floor_div z 32768) e ∙ floor_add (r -ℤ low x p) (neg_ℤ (high x p)) ∙ +ℤ_comm (neg_ℤ (high x p)) (floor_div (r -ℤ low x p) 32768))

-- rounding half up is rounding the opposite half down
half_down : (a : ℤ) → neg_ℤ (floor_div (pos 16383 -ℤ a) 32768) ≡ floor_div (a +ℤ pos 16384) 32768
half_down (pos n) = ap (λ z. neg_ℤ (floor_div z 32768)) (pos_sub_pos 16383 n) ∙ go (dec_lt 16383 n)
  where
    go : Dec (16383 < n) → neg_ℤ (floor_div (sub_ℕ 16383 n) 32768) ≡ pos ((n + 16384) / 32768)
    go (yes k) = rw (sub_lt 16383 n k) (ap pos (omega arith))
    go (no k) =
        let g : n ≤ 16383 = omega arith in
        let z : (16383 - n) / 32768 ≡ 0 = omega arith in
        rw (sub_ge 16383 n g, z) (ap pos (omega arith))
half_down (negsuc n) = go (dec_lt 16384 (suc n))
  where
    up : (m k : ℕ) → m ≡ suc k → neg_ℤ (pos m) ≡ negsuc k
    up m k e = rw e

    go : Dec (16384 < suc n) → neg_ℤ (pos ((16383 + suc n) / 32768)) ≡ floor_div (sub_ℕ 16384 (suc n)) 32768
    go (yes k) = rw (sub_lt 16384 (suc n) k) (up ((16383 + suc n) / 32768) ((suc n - suc 16384) / 32768) (omega arith))
    go (no k) =
        let g : suc n ≤ 16384 = omega arith in
        let z : (16383 + suc n) / 32768 ≡ 0 = omega arith in
        rw (sub_ge 16384 (suc n) g, z) (ap pos (omega arith))

pub positive_in_parts : (x : ℤ) (p : ℕ) → p ≤ 33554432 → high x p -ℤ floor_div (pos 16383 -ℤ low x p) 32768 ≡ floor_div (x *ℤ pos p +ℤ pos 16384) 32768
positive_in_parts x p k =
    let f : ℤ = floor_div (pos 16383 -ℤ low x p) 32768 in
    let e : neg_ℤ (f -ℤ high x p) ≡ high x p -ℤ f = neg_ℤ-+ℤ f (neg_ℤ (high x p)) ∙ ap (λ z. neg_ℤ f +ℤ z) (neg_ℤ-neg_ℤ (high x p)) ∙ +ℤ_comm (neg_ℤ f) (high x p) in
    sym e ∙ ap neg_ℤ (in_parts (pos 16383) x p k) ∙ half_down (x *ℤ pos p)

pub negative_in_parts : (x : ℤ) (p : ℕ) → p ≤ 33554432 → floor_div (pos 16384 -ℤ low x p) 32768 -ℤ high x p ≡ floor_div (x *ℤ neg_ℤ (pos p) +ℤ pos 16384) 32768
negative_in_parts x p k =
    let e : x *ℤ neg_ℤ (pos p) ≡ neg_ℤ (x *ℤ pos p) = *ℤ_comm x (neg_ℤ (pos p)) ∙ neg_*ℤ (pos p) x ∙ ap neg_ℤ (*ℤ_comm (pos p) x) in
    in_parts (pos 16384) x p k ∙ ap (λ z. floor_div z 32768) (+ℤ_comm (pos 16384) (neg_ℤ (x *ℤ pos p)) ∙ ap (λ z. z +ℤ pos 16384) (sym e))

-- each number on that way fits 32 bits
pub product_within : (x : ℤ) (k : ℕ) → SFits w16 x → nat_abs (x *ℤ pos (k % 32768)) ≤ 1073709056
product_within x k f = mul_within x (pos (k % 32768)) {b = 32767} (within_fits x f) (omega arith)

-- a product z, as it is answered
pub product_read : {z : ℤ} (x : ℤ) (k : ℕ) → SFits w16 x → mag z < 2 ^ hbits w32 → z ≡ to_z w16 (of_z w16 x) *ℤ pos (k % 32768) → to_z w32 (of_z w32 z) ≡ x *ℤ pos (k % 32768)
product_read x k f h e = answered w32 h (e ∙ ap (λ y. y *ℤ pos (k % 32768)) (read_back f))

pub difference_fits : (a b : ℤ) → nat_abs a ≤ 1073725440 → nat_abs b ≤ 1073725440 → SFits w32 (a -ℤ b)
difference_fits a b h k = fits_within w32 (a -ℤ b) (sub_within a b h k) (lit< tt)

-- a sample z, as it is answered: n, held
pub scaled_read : {z n : ℤ} (x q : ℤ) → mag z < 2 ^ hbits w16 → z ≡ held16 (to_z w32 (of_z w32 n)) → SFits w32 n → n ≡ floor_div (x *ℤ q +ℤ pos 16384) 32768 → to_z w16 (of_z w16 z) ≡ scaled q x
unfolding scaled
scaled_read x q h e f g = answered w16 h (e ∙ ap held16 (read_back f ∙ g))
