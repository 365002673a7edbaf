-- Whole numbers: sums, products, order, sizes, rounded quotients, and signed machine numbers. Assumes nothing.
use Rattle.std.specs.Prelude.{◌≡◌, refl, ◌⊎◌, Bool, true, false, not, cond, ℕ, zero, suc, ◌+◌, ◌-◌, ◌*◌, ◌/◌, ◌^◌, ◌≤◌, ◌<◌, T, ltb, ℤ, pos, negsuc, neg_ℤ, nat_abs, ◌+ℤ◌, ◌-ℤ◌, ◌*ℤ◌, ◌≤ℤ◌}
use Rattle.std.proofs.Common.{sym, ap, ap₂, ◌∙◌, subst, inl, inr, suc-le-suc, zero-le, le_trans, div-le_self, mul-le-mul, arith, lt→ltb, le→leb, to_z-of_z}
use Rattle.std.proofs.Math.Decide.{dec_lt}
use Rattle.std.proofs.Math.Arith.{le→nltb}
use Rattle.std.proofs.Math.IntN.{suc_ℤ, pred_ℤ, sub_ℕ, +ℤ_assoc, +ℤ_comm, +ℤ_idl, +ℤ_idr, +ℤ_invr, +ℤ_invl, +ℤ_one, -ℤ_one, +ℤ-suc_ℤ, +ℤ-pred_ℤ, suc_ℤ-+ℤ, pred_ℤ-+ℤ, pred-suc, neg_ℤ-+ℤ, suc_ℤ-*ℤ, pred_ℤ-*ℤ, zero-*ℤ, neg_ℤ-neg_ℤ, -ℤ-+ℤ_cancel, ℤ_ind}
use Rattle.std.specs.Int.Signed.{mag, mag_shr}
use Rattle.std.specs.Int.{Width}
use mir.Val.{SFits, hbits, to_z, of_z}
use Rattle.pcm.specs.Integers.{floor_div}

-- ---- differences of naturals
cond_yes : {A : Type 0} (c : Bool) (x y : A) → T c → cond c x y ≡ x
cond_yes true x y t = refl
cond_yes false x y t = absurd t

cond_no : {A : Type 0} (c : Bool) (x y : A) → T (not c) → cond c x y ≡ y
cond_no true x y t = absurd t
cond_no false x y t = refl

pub sub_lt : (a b : ℕ) → a < b → sub_ℕ a b ≡ negsuc (b - suc a)
sub_lt a b h = cond_yes (ltb a b) (negsuc (b - suc a)) (pos (a - b)) (lt→ltb a b h)

pub sub_ge : (a b : ℕ) → b ≤ a → sub_ℕ a b ≡ pos (a - b)
sub_ge a b h = cond_no (ltb a b) (negsuc (b - suc a)) (pos (a - b)) (le→nltb a b h)

pub pos_sub_pos : (x y : ℕ) → pos x -ℤ pos y ≡ sub_ℕ x y
pos_sub_pos x zero = let e : x + zero ≡ x - zero = omega arith in ap pos e ∙ sym (sub_ge x zero zero-le)
pos_sub_pos x (suc y) = refl

-- the distance of two naturals, times N, is at most B
pub dist_le : (x y N B : ℕ) → x * N ≤ y * N + B → y * N ≤ x * N + B → nat_abs (sub_ℕ x y) * N ≤ B
dist_le x y N B h k = go (dec_lt x y)
  where
    go : Dec (x < y) → nat_abs (sub_ℕ x y) * N ≤ B
    go (yes l) = let e : suc (y - suc x) + x ≡ y = omega arith in rw sub_lt (omega (arith, ap (λ (n : ℕ). n * N) e))
    go (no l) = let g : y ≤ x = omega arith in let e : (x - y) + y ≡ x = omega arith in rw sub_ge (omega (arith, ap (λ (n : ℕ). n * N) e))

-- ---- sums and products
-- what holds of 0, and goes up and down by 1, holds of every whole number
by_ones : (P : ℤ → Type 0) → P (pos zero) → ((k : ℤ) → P k → P (suc_ℤ k)) → ((k : ℤ) → P k → P (pred_ℤ k)) → (k : ℤ) → P k
by_ones P z s p k =
    ℤ_ind P z (λ n h. subst P (sym (+ℤ_one (pos n))) (s (pos n) h)) (λ n h. subst P (sym (-ℤ_one (neg_ℤ (pos n)))) (p (neg_ℤ (pos n)) h)) k

pub +ℤ-*ℤ : (a b c : ℤ) → (a +ℤ b) *ℤ c ≡ a *ℤ c +ℤ b *ℤ c
+ℤ-*ℤ a b c = by_ones (λ k. (a +ℤ k) *ℤ c ≡ a *ℤ c +ℤ k *ℤ c)
    (ap (λ z. z *ℤ c) (+ℤ_idr a) ∙ sym (ap (λ z. a *ℤ c +ℤ z) (zero-*ℤ c) ∙ +ℤ_idr (a *ℤ c)))
    (λ k e. ap (λ z. z *ℤ c) (+ℤ-suc_ℤ a k) ∙ suc_ℤ-*ℤ (a +ℤ k) c ∙ ap (λ z. z +ℤ c) e ∙ +ℤ_assoc (a *ℤ c) (k *ℤ c) c ∙ ap (λ z. a *ℤ c +ℤ z) (sym (suc_ℤ-*ℤ k c)))
    (λ k e. ap (λ z. z *ℤ c) (+ℤ-pred_ℤ a k) ∙ pred_ℤ-*ℤ (a +ℤ k) c ∙ ap (λ z. z -ℤ c) e ∙ +ℤ_assoc (a *ℤ c) (k *ℤ c) (neg_ℤ c) ∙ ap (λ z. a *ℤ c +ℤ z) (sym (pred_ℤ-*ℤ k c)))
    b

pub neg_*ℤ : (b c : ℤ) → neg_ℤ b *ℤ c ≡ neg_ℤ (b *ℤ c)
neg_*ℤ (pos zero) c = zero-*ℤ c ∙ sym (ap neg_ℤ (zero-*ℤ c))
neg_*ℤ (pos (suc n)) (pos c) = refl
neg_*ℤ (pos (suc n)) (negsuc c) = sym (neg_ℤ-neg_ℤ (pos (suc n * suc c)))
neg_*ℤ (negsuc n) (pos c) = sym (neg_ℤ-neg_ℤ (pos (suc n * c)))
neg_*ℤ (negsuc n) (negsuc c) = refl

pub *ℤ-assoc : (a b c : ℤ) → (a *ℤ b) *ℤ c ≡ a *ℤ (b *ℤ c)
*ℤ-assoc a b c = by_ones (λ k. (k *ℤ b) *ℤ c ≡ k *ℤ (b *ℤ c))
    (ap (λ z. z *ℤ c) (zero-*ℤ b) ∙ zero-*ℤ c ∙ sym (zero-*ℤ (b *ℤ c)))
    (λ k e. ap (λ z. z *ℤ c) (suc_ℤ-*ℤ k b) ∙ +ℤ-*ℤ (k *ℤ b) b c ∙ ap (λ z. z +ℤ b *ℤ c) e ∙ sym (suc_ℤ-*ℤ k (b *ℤ c)))
    (λ k e. ap (λ z. z *ℤ c) (pred_ℤ-*ℤ k b) ∙ +ℤ-*ℤ (k *ℤ b) (neg_ℤ b) c ∙ ap₂ ◌+ℤ◌ e (neg_*ℤ b c) ∙ sym (pred_ℤ-*ℤ k (b *ℤ c)))
    a

-- the first summand falls out of a difference
pub add_sub_add : (a x y : ℤ) → (a +ℤ x) -ℤ (a +ℤ y) ≡ x -ℤ y
add_sub_add a x y =
    ap (λ z. (a +ℤ x) +ℤ z) (neg_ℤ-+ℤ a y) ∙ sym (+ℤ_assoc (a +ℤ x) (neg_ℤ a) (neg_ℤ y))
    ∙ ap (λ z. z +ℤ neg_ℤ y) (ap (λ z. z +ℤ neg_ℤ a) (+ℤ_comm a x) ∙ +ℤ_assoc x a (neg_ℤ a) ∙ ap (λ z. x +ℤ z) (+ℤ_invr a) ∙ +ℤ_idr x)

pub add_sub_self : (a x : ℤ) → (a +ℤ x) -ℤ a ≡ x
add_sub_self a x = ap (λ z. z +ℤ neg_ℤ a) (+ℤ_comm a x) ∙ +ℤ_assoc x a (neg_ℤ a) ∙ ap (λ z. x +ℤ z) (+ℤ_invr a) ∙ +ℤ_idr x

pub self_sub_add : (a x : ℤ) → a -ℤ (a +ℤ x) ≡ neg_ℤ x
self_sub_add a x = ap (λ z. z -ℤ (a +ℤ x)) (sym (+ℤ_idr a)) ∙ add_sub_add a (pos zero) x ∙ +ℤ_idl (neg_ℤ x)

-- two whole numbers lie a natural apart, one way or the other
pub apart : (a b : ℤ) → ((d : ℕ) × (b ≡ a +ℤ pos d)) ⊎ ((d : ℕ) × (a ≡ b +ℤ pos (suc d)))
apart a b = pick (b -ℤ a) refl
  where
    back : b ≡ a +ℤ (b -ℤ a)
    back = sym (+ℤ_comm a (b -ℤ a) ∙ +ℤ_assoc b (neg_ℤ a) a ∙ ap (λ z. b +ℤ z) (+ℤ_invl a) ∙ +ℤ_idr b)

    pick : (z : ℤ) → b -ℤ a ≡ z → ((d : ℕ) × (b ≡ a +ℤ pos d)) ⊎ ((d : ℕ) × (a ≡ b +ℤ pos (suc d)))
    pick (pos d) e = inl (d, back ∙ ap (λ z. a +ℤ z) e)
    pick (negsuc d) e = inr (d, sym (ap (λ z. z +ℤ pos (suc d)) (back ∙ ap (λ z. a +ℤ z) e) ∙ +ℤ_assoc a (negsuc d) (pos (suc d)) ∙ ap (λ z. a +ℤ z) (+ℤ_invl (pos (suc d))) ∙ +ℤ_idr a))

-- ---- order
pub add_mono : (a : ℤ) (e d : ℕ) → e ≤ d → (a +ℤ pos e) ≤ℤ (a +ℤ pos d)
add_mono (pos n) e d h = record { le = le→leb (n + e) (n + d) (omega arith) }
add_mono (negsuc n) e d h = go (dec_lt e (suc n)) (dec_lt d (suc n))
  where
    go : Dec (e < suc n) → Dec (d < suc n) → sub_ℕ e (suc n) ≤ℤ sub_ℕ d (suc n)
    go (yes p) (yes q) = rw (sub_lt e (suc n) p, sub_lt d (suc n) q) (record { le = le→leb (suc n - suc d) (suc n - suc e) (omega arith) })
    go (yes p) (no q) = let g : suc n ≤ d = omega arith in rw (sub_lt e (suc n) p, sub_ge d (suc n) g) (record { le = tt })
    go (no p) (yes q) = absurd (omega arith)
    go (no p) (no q) =
        let f : suc n ≤ e = omega arith in
        let g : suc n ≤ d = omega arith in
        rw (sub_ge e (suc n) f, sub_ge d (suc n) g) (record { le = le→leb (e - suc n) (d - suc n) (omega arith) })

pub add_le : (a : ℤ) (d : ℕ) → a ≤ℤ (a +ℤ pos d)
add_le a d = rw +ℤ_idr at (add_mono a 0 d zero-le)

-- ---- sizes: a bound on the magnitude of each part bounds that of the whole
pub abs_neg : (n : ℕ) → nat_abs (neg_ℤ (pos n)) ≡ n
abs_neg zero = refl
abs_neg (suc n) = refl

abs_mul : (x y : ℤ) → nat_abs (x *ℤ y) ≡ nat_abs x * nat_abs y
abs_mul (pos a) (pos b) = refl
abs_mul (pos a) (negsuc b) = abs_neg (a * suc b)
abs_mul (negsuc a) (pos b) = abs_neg (suc a * b)
abs_mul (negsuc a) (negsuc b) = refl

abs_negℤ : (z : ℤ) → nat_abs (neg_ℤ z) ≡ nat_abs z
abs_negℤ (pos n) = abs_neg n
abs_negℤ (negsuc n) = refl

pub abs_self : (z : ℤ) → nat_abs z ≤ nat_abs z
abs_self z = omega arith

pub mul_within : (x y : ℤ) {a b : ℕ} → nat_abs x ≤ a → nat_abs y ≤ b → nat_abs (x *ℤ y) ≤ a * b
mul_within x y {a} {b} h k = subst (λ (n : ℕ). n ≤ a * b) (sym (abs_mul x y)) (mul-le-mul h k)

abs_subℕ : (a b : ℕ) → nat_abs (sub_ℕ a (suc b)) ≤ a + suc b
abs_subℕ a b = go (dec_lt a (suc b))
  where
    go : Dec (a < suc b) → nat_abs (sub_ℕ a (suc b)) ≤ a + suc b
    go (yes l) = rw (sub_lt a (suc b) l) (omega arith)
    go (no l) = let g : suc b ≤ a = omega arith in rw (sub_ge a (suc b) g) (omega arith)

pub add_within : (x y : ℤ) {a b : ℕ} → nat_abs x ≤ a → nat_abs y ≤ b → nat_abs (x +ℤ y) ≤ a + b
add_within (pos m) (pos n) h k = omega arith
add_within (pos m) (negsuc n) h k = omega (arith, abs_subℕ m n)
add_within (negsuc m) (pos n) h k = omega (arith, abs_subℕ n m)
add_within (negsuc m) (negsuc n) h k = omega arith

pub sub_within : (x y : ℤ) {a b : ℕ} → nat_abs x ≤ a → nat_abs y ≤ b → nat_abs (x -ℤ y) ≤ a + b
sub_within x y {a} {b} h k = add_within x (neg_ℤ y) h (subst (λ (n : ℕ). n ≤ b) (sym (abs_negℤ y)) k)

pub floor_within : (z : ℤ) (m : ℕ) {a : ℕ} → nat_abs z ≤ a → nat_abs (floor_div z m) ≤ a
floor_within (pos n) m h = le_trans (div-le_self n m) h
floor_within (negsuc n) m h = le_trans (suc-le-suc (div-le_self n m)) h

-- ---- machine numbers of a width
pub fits_within : (w : Width) (z : ℤ) {a : ℕ} → nat_abs z ≤ a → a < 2 ^ hbits w → SFits w z
fits_within w (pos n) h k = record { sfits = omega arith }
fits_within w (negsuc n) h k = record { sfits = omega arith }

pub within_fits : {w : Width} (z : ℤ) → SFits w z → nat_abs z ≤ 2 ^ hbits w
within_fits {w} (pos n) f = omega (arith, f.sfits)
within_fits {w} (negsuc n) f = f.sfits

pub floor_fits : {w : Width} (z : ℤ) (m : ℕ) → SFits w z → SFits w (floor_div z m)
floor_fits z m f = record { sfits = omega (arith, mag_shr z m, f.sfits) }

-- a number that fits is read back from its bits
pub read_back : {w : Width} {z : ℤ} → SFits w z → to_z w (of_z w z) ≡ z
read_back f = to_z-of_z f

-- an answer z of width w, read back from its bits, is what it is promised to be
pub answered : (w : Width) {z y : ℤ} → mag z < 2 ^ hbits w → z ≡ y → to_z w (of_z w z) ≡ y
answered w {z} f e = to_z-of_z {w = w} {z = z} (record { sfits = f }) ∙ e

-- the same of a value of another width that is known to fit
pub settled : (w : Width) {z y : ℤ} → z ≡ y → SFits w y → to_z w (of_z w z) ≡ y
settled w {z} {y} e f = ap (λ (x : ℤ). to_z w (of_z w x)) e ∙ to_z-of_z f

-- ---- floors of a number that holds a multiple of the divisor, for the divisor 32,768 of a Q15 product
floor_up : (z : ℤ) → floor_div (z +ℤ pos 32768) 32768 ≡ suc_ℤ (floor_div z 32768)
floor_up (pos a) = ap pos (omega arith)
floor_up (negsuc a) = go (dec_lt 32768 (suc a))
  where
    suc_negsuc : (q p : ℕ) → q ≡ suc p → negsuc p ≡ suc_ℤ (negsuc q)
    suc_negsuc q p e = rw e

    go : Dec (32768 < suc a) → floor_div (sub_ℕ 32768 (suc a)) 32768 ≡ suc_ℤ (negsuc (a / 32768))
    go (yes l) = rw (sub_lt 32768 (suc a) l) (suc_negsuc (a / 32768) ((suc a - suc 32768) / 32768) (omega arith))
    go (no l) =
        let g : suc a ≤ 32768 = omega arith in
        let e : a / 32768 ≡ 0 = omega arith in
        rw (sub_ge 32768 (suc a) g, e) (ap pos (omega arith))

floor_down : (z : ℤ) → floor_div (z -ℤ pos 32768) 32768 ≡ pred_ℤ (floor_div z 32768)
floor_down z =
    sym (pred-suc (floor_div (z -ℤ pos 32768) 32768)) ∙ ap pred_ℤ (sym (floor_up (z -ℤ pos 32768)) ∙ ap (λ y. floor_div y 32768) (-ℤ-+ℤ_cancel z (pos 32768)))

pub floor_add : (z k : ℤ) → floor_div (z +ℤ k *ℤ pos 32768) 32768 ≡ k +ℤ floor_div z 32768
floor_add z k = by_ones (λ n. floor_div (z +ℤ n *ℤ pos 32768) 32768 ≡ n +ℤ floor_div z 32768)
    (ap (λ y. floor_div y 32768) (ap (λ y. z +ℤ y) (zero-*ℤ (pos 32768)) ∙ +ℤ_idr z) ∙ sym (+ℤ_idl (floor_div z 32768)))
    (λ n e. ap (λ y. floor_div y 32768) (ap (λ y. z +ℤ y) (suc_ℤ-*ℤ n (pos 32768)) ∙ sym (+ℤ_assoc z (n *ℤ pos 32768) (pos 32768))) ∙ floor_up (z +ℤ n *ℤ pos 32768) ∙ ap suc_ℤ e ∙ sym (suc_ℤ-+ℤ n (floor_div z 32768)))
    (λ n e. ap (λ y. floor_div y 32768) (ap (λ y. z +ℤ y) (pred_ℤ-*ℤ n (pos 32768)) ∙ sym (+ℤ_assoc z (n *ℤ pos 32768) (negsuc 32767))) ∙ floor_down (z +ℤ n *ℤ pos 32768) ∙ ap pred_ℤ e ∙ sym (pred_ℤ-+ℤ n (floor_div z 32768)))
    k
