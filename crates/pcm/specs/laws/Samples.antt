-- Numbers held within limits, and bytes to samples and back. Assumes nothing.
use Rattle.std.specs.Prelude.{◌≡◌, refl, Bool, true, false, cond, List, [], ◌∷◌, ◌++◌, ℕ, zero, suc, ◌+◌, ◌*◌, ◌/◌, ◌%◌, ◌≤◌, ◌<◌, ℤ, pos, negsuc, ◌-ℤ◌, length, get_or}
use Rattle.std.proofs.Common.{sym, ap, ap₂, ◌∙◌, ⊎_elim, suc-le-suc, zero-le, not-suc-le-zero, arith, ltb-false, lt-ltb, le-ltb, SFits, to_z, of_z, to_z-of_z}
use Rattle.std.specs.Int.Signed.{lt_z}
use Rattle.std.specs.Int.{w16, w32, int_max, int_min}
use Rattle.std.proofs.lemmas.Grind.{common_steps}
use Rattle.std.proofs.Math.Facts.{to_z_pos, of_z-to_z, sfits_to_z, sfits_lit}
use Rattle.pcm.specs.Integers.{−}
use Rattle.pcm.specs.laws.Tests.{lt_or_ge}
use Rattle.pcm.specs.Samples.{held, held16, sample_of, low_of, high_of, decode, encode, sample_at, All, Bytes, Samples}

-- ---- holding
pub held_inside : (low high z : ℤ) → lt_z z low ≡ false → lt_z high z ≡ false → z ≡ held low high z
unfolding held
held_inside low high z e k = rw (e, k)

pub inside16 : (z : ℤ) → lt_z z (− 32768) ≡ false → lt_z (pos 32767) z ≡ false → SFits w16 z
inside16 (pos n) e k = record { sfits = omega (arith, ltb-false 32767 n k) }
inside16 (negsuc n) e k = record { sfits = omega (arith, ltb-false 32767 n e) }

pub held_fits : (z : ℤ) → SFits w16 (held16 z)
unfolding held
held_fits z = go (lt_z z (− 32768)) (lt_z (pos 32767) z) refl refl
  where
    go : (a b : Bool) → lt_z z (− 32768) ≡ a → lt_z (pos 32767) z ≡ b → SFits w16 (cond a (− 32768) (cond b (pos 32767) z))
    go true b e k = sfits_lit tt
    go false true e k = sfits_lit tt
    go false false e k = inside16 z e k

pub held_sample : (z : ℤ) → SFits w16 z → held16 z ≡ z
held_sample (pos n) f = sym (held_inside (− 32768) (pos 32767) (pos n) refl (le-ltb 32767 n (omega (arith, f.sfits))))
held_sample (negsuc n) f = sym (held_inside (− 32768) (pos 32767) (negsuc n) (le-ltb 32767 n (omega (arith, f.sfits))) refl)

-- the library's `clamp`
pub clamped : (z : ℤ) → int_max (− 32768) (int_min z (pos 32767)) ≡ held16 z
unfolding held
clamped z = grind (arith, common_steps)

-- ---- bytes and samples, there and back
pub all_by_index : {A : Type 0} (P : A → Type 0) (d : A) (xs : List A) → ((i : ℕ) → i < length xs → P (get_or xs i d)) → All P xs
all_by_index P d [] h = tt
all_by_index P d (x ∷ xs) h = (h zero (suc-le-suc zero-le), all_by_index P d xs (λ i l. h (suc i) (suc-le-suc l)))

pub sample_fits : (lo hi : ℕ) → lo < 256 → hi < 256 → SFits w16 (sample_of lo hi)
unfolding sample_of
sample_fits lo hi h k = sfits_to_z {w = w16} {n = lo + 256 * hi} (record { fits = omega arith })

pub decode_fits : (bytes : List ℕ) → Bytes bytes → Samples (decode bytes)
decode_fits [] h = tt
decode_fits (x ∷ []) h = tt
decode_fits (x ∷ y ∷ bytes) h = (sample_fits x y h.0 h.1.0, decode_fits bytes h.1.1)

pub decode-encode : (zs : List ℤ) → Samples zs → decode (encode zs) ≡ zs
unfolding sample_of low_of high_of
decode-encode [] h = refl
decode-encode (z ∷ zs) h =
    let e : of_z w16 z % 256 + 256 * (of_z w16 z / 256) ≡ of_z w16 z = omega arith in
    ap₂ (λ (y : ℤ) (r : List ℤ). y ∷ r) (ap (to_z w16) e ∙ to_z-of_z h.0) (decode-encode zs h.1)

pub encode-decode : (bytes : List ℕ) → length bytes % 2 ≡ 0 → Bytes bytes → encode (decode bytes) ≡ bytes
unfolding sample_of low_of high_of
encode-decode [] e h = refl
encode-decode (x ∷ []) e h = absurd (let z : ⊥ = omega (arith, e) in z)
encode-decode (x ∷ y ∷ bytes) e h =
    let hx : x < 256 = h.0 in
    let hy : y < 256 = h.1.0 in
    let u : of_z w16 (to_z w16 (x + 256 * y)) ≡ x + 256 * y = of_z-to_z {w = w16} (record { fits = omega arith }) in
    let lo : of_z w16 (to_z w16 (x + 256 * y)) % 256 ≡ x = ap (λ (n : ℕ). n % 256) u ∙ omega arith in
    let hi : of_z w16 (to_z w16 (x + 256 * y)) / 256 ≡ y = ap (λ (n : ℕ). n / 256) u ∙ omega arith in
    rw (lo, hi) (ap (λ (r : List ℕ). x ∷ y ∷ r) (encode-decode bytes (omega (arith, e)) h.1.1))

pub encode-append : (xs ys : List ℤ) → encode (xs ++ ys) ≡ encode xs ++ encode ys
encode-append [] ys = refl
encode-append (x ∷ xs) ys = ap (λ (r : List ℕ). low_of x ∷ high_of x ∷ r) (encode-append xs ys)

pub decode-append : (x y : List ℕ) → length x % 2 ≡ 0 → decode (x ++ y) ≡ decode x ++ decode y
decode-append [] y h = refl
decode-append (a ∷ []) y h = absurd (let z : ⊥ = omega (arith, h) in z)
decode-append (a ∷ b ∷ x) y h = ap (λ (r : List ℤ). sample_of a b ∷ r) (decode-append x y (omega (arith, h)))

pub length_encode : (zs : List ℤ) → length (encode zs) ≡ length zs * 2
length_encode [] = refl
length_encode (z ∷ zs) = omega (arith, length_encode zs)

pub length_decode : (bytes : List ℕ) → length (decode bytes) ≡ length bytes / 2
length_decode [] = refl
length_decode (x ∷ []) = refl
length_decode (x ∷ y ∷ bytes) = omega (arith, length_decode bytes)

pub get_or_decode : (bytes : List ℕ) (t : ℕ) (z : ℤ) → 2 * t + 1 < length bytes → get_or (decode bytes) t z ≡ sample_at bytes (2 * t)
unfolding sample_at
get_or_decode [] t z h = absurd (not-suc-le-zero h)
get_or_decode (x ∷ []) t z h = absurd (omega arith)
get_or_decode (x ∷ y ∷ bytes) zero z h = refl
get_or_decode (x ∷ y ∷ bytes) (suc t) z h =
    let e : 2 * suc t ≡ suc (suc (2 * t)) = omega arith in
    let e' : 2 * suc t + 1 ≡ suc (suc (2 * t + 1)) = omega arith in
    rw (e', e) (get_or_decode bytes t z (omega arith))

-- ---- 16 bits moved up by half the range, and down again
unbias : (u : ℕ) → u < 65536 → pos ((u + 32768) % 65536) -ℤ pos 32768 ≡ to_z w16 u
unbias u h = ⊎_elim
    (λ (l : u < 32768). let g : 32768 ≤ (u + 32768) % 65536 = omega arith in simp (le-ltb _ _ g, lt-ltb _ _ l) (ap pos (omega arith)))
    (λ (l : 32768 ≤ u). let g : (u + 32768) % 65536 < 32768 = omega arith in simp (lt-ltb _ _ g, le-ltb _ _ l) (ap negsuc (omega arith)))
    (lt_or_ge u 32768)

pub lowered : (u : ℕ) → u < 65536 → to_z w32 ((u + 32768) % 65536) -ℤ pos 32768 ≡ to_z w16 u
lowered u h = ap (λ z. z -ℤ pos 32768) (to_z_pos w32 {n = (u + 32768) % 65536} (omega arith)) ∙ unbias u h
