-- The cut law: frames in two parts, the second from the state after the first, bring what the whole brings. Assumes nothing.
use Rattle.std.specs.Prelude.{◌≡◌, Bool, eqb, ℤ, pos, get_or}
use Rattle.std.proofs.Math.Path.{refl, sym, ap, ap₂}
use Rattle.std.proofs.Common.{◌∙◌, zero-add, suc-add, div-lt_iff_lt-mul, add-mul, length-append}
use Rattle.std.proofs.Math.Bool.{true, false, cond}
use mathlib.Core.List.{List, [], ◌∷◌, ◌++◌, append-nil}
use Prim.Native.Nat.{ℕ, zero, suc, ◌+◌, ◌*◌, ◌/◌, ◌%◌, ◌<◌, suc-le-suc}
use Rattle.std.proofs.Math.Nat.{mul-add-div_right, mul-add-mod_self_right}
use native.Mathlib.Omega.{arith}
use Rattle.std.proofs.Math.ListN.{length, get_or-append}
use Rattle.pcm.specs.Frames.{Frame}
use Rattle.rates.specs.Counting.{tabulate, count, past}
use Rattle.rates.specs.laws.Counting.{tabulate_ext, tabulate-add, count_before, past_is, step_positive, count-sum, past-sum, count_none_past, factor_positive}
use Rattle.resample.specs.Value.{value}
use Rattle.resample.specs.Resample.{blend, output_at, gaps, newest, padded, holding, among, first_at, outputs_from, carried_outputs, carried_state, resampled, state_after}
use Rattle.rates.specs.declared.LinearResampler.{LinearResampler}
use Rattle.rates.specs.declared.ResamplerState.{ResamplerState}

-- ---- the newest frame
pub newest-append : (x : Frame) (ys zs : List Frame) → newest x (ys ++ zs) ≡ newest (newest x ys) zs
newest-append x [] zs = refl
newest-append x (y ∷ ys) zs = newest-append y ys zs

get_or_newest : (x : Frame) (ys zs : List Frame) (h : ℕ) → get_or (x ∷ (ys ++ zs)) (length ys + h) [] ≡ get_or (newest x ys ∷ zs) h []
get_or_newest x [] zs h = rw zero-add
get_or_newest x (y ∷ ys) zs h = rw suc-add (get_or_newest y ys zs h)

gaps-append : (o : ℕ) (ys zs : List Frame) → length (ys ++ zs) * o ≡ length ys * o + length zs * o
gaps-append o ys zs = ap (λ (n : ℕ). n * o) (length-append ys zs) ∙ add-mul (length ys) (length zs) o

-- ---- an output before the cut, and one after it
module _ (o : ℕ) (x : Frame) (ys zs : List Frame) where
  output_before : (num : ℕ) → num < length ys * o → output_at o (x ∷ (ys ++ zs)) num ≡ output_at o (x ∷ ys) num
  unfolding output_at
  output_before num h =
      let g : num / o < length ys = (div-lt_iff_lt-mul (factor_positive (length ys) o num h)).1 h in
      ap₂ (λ (a b : Frame). blend o a b (num % o))
      (get_or-append (x ∷ ys) zs [] (num / o) (omega arith))
      (get_or-append (x ∷ ys) zs [] (suc (num / o)) (suc-le-suc g))

  pub output_after : (num : ℕ) → 0 < o → output_at o (x ∷ (ys ++ zs)) (length ys * o + num) ≡ output_at o (newest x ys ∷ zs) num
  unfolding output_at
  output_after num ho =
      let q : (length ys * o + num) / o ≡ length ys + num / o = mul-add-div_right ho (length ys) num in
      let r : (length ys * o + num) % o ≡ num % o = mul-add-mod_self_right (length ys) o num in
      let s : suc (length ys + num / o) ≡ length ys + suc (num / o) = omega arith in
      rw (q, r, s, get_or_newest x ys zs (num / o), get_or_newest x ys zs (suc (num / o)))

-- what the state holds is as good as the newest frame
sample_padded : (a : Frame) (c : ℕ) → get_or (padded a) c (pos 0) ≡ get_or a c (pos 0)
sample_padded [] zero = refl
sample_padded [] (suc zero) = refl
sample_padded [] (suc (suc c)) = refl
sample_padded (x ∷ []) zero = refl
sample_padded (x ∷ []) (suc zero) = refl
sample_padded (x ∷ []) (suc (suc c)) = refl
sample_padded (x ∷ y ∷ a) c = refl

-- of the older frame only the channels of the newer count
pub blend_same : (o : ℕ) (a a' b : Frame) (rem : ℕ) → ((c : ℕ) → c < length b → get_or a c (pos 0) ≡ get_or a' c (pos 0)) → blend o a b rem ≡ blend o a' b rem
unfolding blend
blend_same o a a' b rem e =
    tabulate_ext (length b) (λ c. value o (get_or a c (pos 0)) (get_or b c (pos 0)) rem) (λ c. value o (get_or a' c (pos 0)) (get_or b c (pos 0)) rem)
    (λ c h. ap (λ (z : ℤ). value o z (get_or b c (pos 0)) rem) (e c h))

module _ (i o p : ℕ) (x x' : Frame) (ys : List Frame) (e : (c : ℕ) → c < length (get_or ys 0 []) → get_or x c (pos 0) ≡ get_or x' c (pos 0)) where
  output_same : (num : ℕ) → output_at o (x ∷ ys) num ≡ output_at o (x' ∷ ys) num
  unfolding output_at
  output_same num = pick (num / o)
    where
      pick : (g : ℕ) → blend o (get_or (x ∷ ys) g []) (get_or ys g []) (num % o) ≡ blend o (get_or (x' ∷ ys) g []) (get_or ys g []) (num % o)
      pick zero = blend_same o x x' (get_or ys 0 []) (num % o) e
      pick (suc g) = refl

  pub outputs_same : outputs_from i o p (x ∷ ys) ≡ outputs_from i o p (x' ∷ ys)
  unfolding outputs_from
  outputs_same = tabulate_ext (count i p (length ys * o)) (λ j. output_at o (x ∷ ys) (p + j * i)) (λ j. output_at o (x' ∷ ys) (p + j * i)) (λ j h. output_same (p + j * i))

module _ (i o : ℕ) where
  outputs_padded : (p : ℕ) (x : Frame) (ys : List Frame) → outputs_from i o p (padded x ∷ ys) ≡ outputs_from i o p (x ∷ ys)
  outputs_padded p x ys = outputs_same i o p (padded x) x ys (λ c h. sample_padded x c)

  pub outputs_append : (p : ℕ) (x : Frame) (ys zs : List Frame) → outputs_from i o p (x ∷ (ys ++ zs)) ≡ outputs_from i o p (x ∷ ys) ++ outputs_from i o (past i p (length ys * o)) (newest x ys ∷ zs)
  unfolding outputs_from
  outputs_append p x ys zs =
      let D : ℕ = length ys * o in
      let E : ℕ = length zs * o in
      let K : ℕ = count i p D in
      let q : ℕ = past i p D in
      ap (λ (n : ℕ). tabulate (count i p n) (λ j. output_at o (x ∷ (ys ++ zs)) (p + j * i))) (gaps-append o ys zs)
      ∙ ap (λ (n : ℕ). tabulate n (λ j. output_at o (x ∷ (ys ++ zs)) (p + j * i))) (count-sum i p D E)
      ∙ tabulate-add K (count i q E) (λ j. output_at o (x ∷ (ys ++ zs)) (p + j * i))
      ∙ ap₂ (λ (u v : List Frame). u ++ v)
      (tabulate_ext K (λ j. output_at o (x ∷ (ys ++ zs)) (p + j * i)) (λ j. output_at o (x ∷ ys) (p + j * i)) (λ j h. output_before o x ys zs (p + j * i) (count_before i (step_positive i p D j h) p D j h)))
      (tabulate_ext (count i q E) (λ j. output_at o (x ∷ (ys ++ zs)) (p + (K + j) * i)) (λ j. output_at o (newest x ys ∷ zs) (q + j * i)) after)
    where
      after : (j : ℕ) → j < count i (past i p (length ys * o)) (length zs * o)
          → output_at o (x ∷ (ys ++ zs)) (p + (count i p (length ys * o) + j) * i) ≡ output_at o (newest x ys ∷ zs) (past i p (length ys * o) + j * i)
      after j h =
          let D : ℕ = length ys * o in
          let E : ℕ = length zs * o in
          let q : ℕ = past i p D in
          let hi : 0 < i = step_positive i q E j h in
          let e : p + (count i p D + j) * i ≡ D + (q + j * i) = omega (arith, past_is i hi p D) in
          ap (output_at o (x ∷ (ys ++ zs))) e ∙ output_after o x ys zs (q + j * i) (factor_positive (length zs) o (q + j * i) (count_before i hi q E j h))

  none : (p : ℕ) → count i p (zero * o) ≡ 0
  none p = count_none_past i p (zero * o) (omega arith)

  -- ---- the laws that a chain needs
  pub carried-nil : (s : ResamplerState) → carried_outputs i o s [] ≡ []
  unfolding carried_outputs outputs_from among first_at
  carried-nil s = go s.primed
    where
      go : (b : Bool) → tabulate (count i (cond b s.phase 0) (gaps (cond b (s.last ∷ []) []) * o)) (λ j. output_at o (cond b (s.last ∷ []) []) (cond b s.phase 0 + j * i)) ≡ []
      go true = ap (λ (n : ℕ). tabulate n (λ j. output_at o (s.last ∷ []) (s.phase + j * i))) (none s.phase)
      go false = ap (λ (n : ℕ). tabulate n (λ j. output_at o [] (0 + j * i))) (none 0)

  pub carried_state-nil : (s : ResamplerState) → carried_state i o s [] ≡ s
  unfolding carried_state
  carried_state-nil s = refl

  pub carried-append : (s : ResamplerState) (xs ys : List Frame) → carried_outputs i o s (xs ++ ys) ≡ carried_outputs i o s xs ++ carried_outputs i o (carried_state i o s xs) ys
  unfolding carried_outputs carried_state among first_at
  carried-append s [] ys = sym (ap (λ (l : List Frame). l ++ carried_outputs i o s ys) (carried-nil s))
  carried-append s (x ∷ xs) ys = go s.primed refl
    where
      go : (b : Bool) → s.primed ≡ b → carried_outputs i o s (x ∷ (xs ++ ys)) ≡ carried_outputs i o s (x ∷ xs) ++ carried_outputs i o (carried_state i o s (x ∷ xs)) ys
      go true e = rw e
          (outputs_append s.phase s.last (x ∷ xs) ys
          ∙ ap (λ (l : List Frame). outputs_from i o s.phase (s.last ∷ x ∷ xs) ++ l) (sym (outputs_padded (past i s.phase (length (x ∷ xs) * o)) (newest x xs) ys)))
      go false e = rw e
          (outputs_append 0 x xs ys
          ∙ ap (λ (l : List Frame). outputs_from i o 0 (x ∷ xs) ++ l) (sym (outputs_padded (past i 0 (length xs * o)) (newest x xs) ys)))

  pub carried_state-append : (s : ResamplerState) (xs ys : List Frame) → carried_state i o s (xs ++ ys) ≡ carried_state i o (carried_state i o s xs) ys
  unfolding carried_state among first_at
  carried_state-append s [] ys = refl
  carried_state-append s (x ∷ xs) [] = ap (λ (l : List Frame). carried_state i o s (x ∷ l)) (append-nil xs)
  carried_state-append s (x ∷ xs) (y ∷ ys) = go s.primed refl
    where
      go : (b : Bool) → s.primed ≡ b → carried_state i o s (x ∷ (xs ++ (y ∷ ys))) ≡ carried_state i o (carried_state i o s (x ∷ xs)) (y ∷ ys)
      go true e = rw e (ap₂ holding (newest-append x xs (y ∷ ys)) (ap (past i s.phase) (gaps-append o (x ∷ xs) (y ∷ ys)) ∙ past-sum i s.phase (length (x ∷ xs) * o) (length (y ∷ ys) * o)))
      go false e = rw e (ap₂ holding (newest-append x xs (y ∷ ys)) (ap (past i 0) (gaps-append o xs (y ∷ ys)) ∙ past-sum i 0 (length xs * o) (length (y ∷ ys) * o)))

-- ---- the same of the stage, equal rates too
module _ (r : LinearResampler) where
  pub resampled-nil : (s : ResamplerState) → resampled r s [] ≡ []
  unfolding resampled
  resampled-nil s = go (eqb r.in_rate r.out_rate)
    where
      go : (b : Bool) → cond b [] (carried_outputs r.in_r r.out_r s []) ≡ []
      go true = refl
      go false = carried-nil r.in_r r.out_r s

  pub state-nil : (s : ResamplerState) → state_after r s [] ≡ s
  unfolding state_after
  state-nil s = go (eqb r.in_rate r.out_rate)
    where
      go : (b : Bool) → cond b s (carried_state r.in_r r.out_r s []) ≡ s
      go true = refl
      go false = carried_state-nil r.in_r r.out_r s

  pub resampled-append : (s : ResamplerState) (xs ys : List Frame) → resampled r s (xs ++ ys) ≡ resampled r s xs ++ resampled r (state_after r s xs) ys
  unfolding resampled state_after
  resampled-append s xs ys = go (eqb r.in_rate r.out_rate)
    where
      go : (b : Bool) → cond b (xs ++ ys) (carried_outputs r.in_r r.out_r s (xs ++ ys))
          ≡ cond b xs (carried_outputs r.in_r r.out_r s xs) ++ cond b ys (carried_outputs r.in_r r.out_r (cond b s (carried_state r.in_r r.out_r s xs)) ys)
      go true = refl
      go false = carried-append r.in_r r.out_r s xs ys

  pub state-append : (s : ResamplerState) (xs ys : List Frame) → state_after r s (xs ++ ys) ≡ state_after r (state_after r s xs) ys
  unfolding state_after
  state-append s xs ys = go (eqb r.in_rate r.out_rate)
    where
      go : (b : Bool) → cond b s (carried_state r.in_r r.out_r s (xs ++ ys)) ≡ cond b (cond b s (carried_state r.in_r r.out_r s xs)) (carried_state r.in_r r.out_r (cond b s (carried_state r.in_r r.out_r s xs)) ys)
      go true = refl
      go false = carried_state-append r.in_r r.out_r s xs ys
