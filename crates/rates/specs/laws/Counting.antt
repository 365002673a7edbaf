-- Lists by index; a count is the least number of steps that reaches the limit, and counts add up; ceilings. Assumes nothing.
use Rattle.std.specs.Prelude.{◌≡◌, refl, ◌⊎◌, List, [], ◌∷◌, ◌++◌, ℕ, zero, suc, ◌+◌, ◌-◌, ◌*◌, ◌≤◌, ◌<◌, length, get_or}
use Rattle.std.proofs.Common.{sym, ap, ap₂, ◌∙◌, inl, inr, suc-le-suc, zero-le, eq-zero-or-pos, zero-add, suc-add, le_antisymm, lt_of_not-le, div-lt_iff_lt-mul, le-div_iff_mul-le, div-add-mod', mod-lt, le_of_suc-le-suc, not-suc-le-zero, lt_irrefl, lt_of_lt_of_le, mul-le-mul_right, le_of_mul-le-mul_right, arith}
use Rattle.std.proofs.Math.Nat.{div-zero}
use Rattle.std.proofs.Math.Decide.{dec_lt}
use Rattle.pcm.specs.Samples.{All}
use Rattle.rates.specs.Counting.{tabulate, ceil_div, count, past}

-- ---- lists by index
module _ {A : Type 0} where
  pub tabulate_ext : (n : ℕ) (f g : ℕ → A) → ((j : ℕ) → j < n → f j ≡ g j) → tabulate n f ≡ tabulate n g
  tabulate_ext zero f g h = refl
  tabulate_ext (suc n) f g h = ap₂ (λ (a : A) (r : List A). a ∷ r) (h zero (suc-le-suc zero-le)) (tabulate_ext n (λ j. f (suc j)) (λ j. g (suc j)) (λ j k. h (suc j) (suc-le-suc k)))

  pub tabulate-add : (a b : ℕ) (f : ℕ → A) → tabulate (a + b) f ≡ tabulate a f ++ tabulate b (λ j. f (a + j))
  tabulate-add zero b f = rw zero-add (tabulate_ext b f (λ j. f (zero + j)) (λ j k. ap f (sym (zero-add j))))
  tabulate-add (suc a) b f =
      rw suc-add (ap (λ (r : List A). f zero ∷ r) (tabulate-add a b (λ j. f (suc j)) ∙ ap (λ (r : List A). tabulate a (λ j. f (suc j)) ++ r) (tabulate_ext b (λ j. f (suc (a + j))) (λ j. f (suc a + j)) (λ j k. ap f (sym (suc-add a j))))))

  pub length_tabulate : (n : ℕ) (f : ℕ → A) → length (tabulate n f) ≡ n
  length_tabulate zero f = refl
  length_tabulate (suc n) f = ap suc (length_tabulate n (λ j. f (suc j)))

  pub get_d_tabulate : (n : ℕ) (f : ℕ → A) (i : ℕ) (d : A) → i < n → get_or (tabulate n f) i d ≡ f i
  get_d_tabulate zero f i d h = absurd (not-suc-le-zero h)
  get_d_tabulate (suc n) f zero d h = refl
  get_d_tabulate (suc n) f (suc i) d h = get_d_tabulate n (λ j. f (suc j)) i d (le_of_suc-le-suc h)

  pub all_tabulate : (P : A → Type 0) (n : ℕ) (f : ℕ → A) → ((j : ℕ) → j < n → P (f j)) → All P (tabulate n f)
  all_tabulate P zero f h = tt
  all_tabulate P (suc n) f h = (h zero (suc-le-suc zero-le), all_tabulate P n (λ j. f (suc j)) (λ j k. h (suc j) (suc-le-suc k)))

  -- a list by its elements
  pub list_is : (d : A) (l : List A) → l ≡ tabulate (length l) (λ c. get_or l c d)
  list_is d [] = refl
  list_is d (x ∷ l) = ap (λ (r : List A). x ∷ r) (list_is d l)

-- ---- counting
module _ (i : ℕ) (hi : 0 < i) where
  pub count_reach : (p D : ℕ) → D ≤ p + count i p D * i
  count_reach p D = omega (arith, div-add-mod' (D - p + (i - 1)) i, mod-lt (D - p + (i - 1)) hi)

  pub count_before : (p D j : ℕ) → j < count i p D → p + j * i < D
  count_before p D j h = omega (arith, (le-div_iff_mul-le {x = suc j} {y = D - p + (i - 1)} hi).0 h)

  pub count_least : (p D m : ℕ) → D ≤ p + m * i → count i p D ≤ m
  count_least p D m h = le_of_suc-le-suc ((div-lt_iff_lt-mul hi).1 (omega arith))

  pub count_after : (p D j : ℕ) → p + j * i < D → j < count i p D
  count_after p D j h = lt_of_not-le (λ k. absurd (no_way k))
    where
      no_way : count i p D ≤ j → ⊥
      no_way k = omega (arith, count_reach p D, mul-le-mul_right i k)

  pub past_is : (p D : ℕ) → past i p D + D ≡ p + count i p D * i
  past_is p D = omega (arith, count_reach p D)

  -- what lies past the limit is less than a step, or no more than it was
  pub past_below : (B p D : ℕ) → i ≤ B → p < B → past i p D < B
  past_below B p D hb hp = go (count i p D) refl
    where
      go : (k : ℕ) → count i p D ≡ k → p + count i p D * i - D < B
      go zero e = rw e (omega arith)
      go (suc k) e =
          let b : p + k * i < D = count_before p D k (rw e (omega arith)) in
          rw e (omega arith)

  count_add : (p D E : ℕ) → count i p (D + E) ≡ count i p D + count i (past i p D) E
  count_add p D E =
      le_antisymm
      (count_least p (D + E) (count i p D + count i (past i p D) E) (omega (arith, past_is p D, count_reach (past i p D) E)))
      (not_before (count i p D + count i (past i p D) E) below)
    where
      below : (j : ℕ) → j < count i p D + count i (past i p D) E → p + j * i < D + E
      below j h = pick (dec_lt j (count i p D))
        where
          pick : Dec (j < count i p D) → p + j * i < D + E
          pick (yes k) = omega (arith, count_before p D j k)
          pick (no k) =
              let m : ℕ = j - count i p D in
              let e : j ≡ count i p D + m = omega arith in
              let b : past i p D + m * i < E = count_before (past i p D) E m (omega arith) in
              rw e (omega (arith, past_is p D, b))

      not_before : (m : ℕ) → ((j : ℕ) → j < m → p + j * i < D + E) → m ≤ count i p (D + E)
      not_before m b = le_of_suc-le-suc (lt_of_not-le λ h. lt_irrefl (D + E) (lt_of_lt_of_le (suc-le-suc (count_reach p (D + E))) (b (count i p (D + E)) h)))

  past-add : (p D E : ℕ) → past i p (D + E) ≡ past i (past i p D) E
  past-add p D E = omega (arith, past_is p (D + E), past_is p D, past_is (past i p D) E, count_add p D E, ap (λ (k : ℕ). k * i) (count_add p D E))

-- ---- the same with no condition on the step: a step of 0 counts nothing
count_none : (p D : ℕ) → count 0 p D ≡ 0
count_none p D = div-zero (D - p + (0 - 1))

by_step : (P : ℕ → Type 0) → P 0 → ((i : ℕ) → 0 < i → P i) → (i : ℕ) → P i
by_step P z h zero = z
by_step P z h (suc i) = h (suc i) (suc-le-suc zero-le)

-- where something counts, the step is above 0
pub step_positive : (i p D j : ℕ) → j < count i p D → 0 < i
step_positive i p D j h = pick (eq-zero-or-pos i)
  where
    pick : (i ≡ zero) ⊎ (zero < i) → 0 < i
    pick (inl e) = let z : j < count 0 p D = rw e at h in absurd (omega (arith, count_none p D))
    pick (inr k) = k

pub count-sum : (i p D E : ℕ) → count i p (D + E) ≡ count i p D + count i (past i p D) E
count-sum i p D E = by_step (λ n. count n p (D + E) ≡ count n p D + count n (past n p D) E)
    (omega (arith, count_none p (D + E), count_none p D, count_none (past 0 p D) E)) (λ n h. count_add n h p D E) i

pub past-sum : (i p D E : ℕ) → past i p (D + E) ≡ past i (past i p D) E
past-sum i p D E = by_step (λ n. past n p (D + E) ≡ past n (past n p D) E) (omega arith) (λ n h. past-add n h p D E) i

-- nothing counts from the limit on
pub count_none_past : (i p D : ℕ) → D ≤ p → count i p D ≡ 0
count_none_past i p D l = by_step (λ n. count n p D ≡ 0) (count_none p D) (λ n h. let e : count n p D ≤ 0 = count_least n h p D 0 (omega arith) in omega arith) i

-- below a product, each factor is above 0
pub factor_positive : (n o num : ℕ) → num < n * o → 0 < o
factor_positive n o num h = pick (eq-zero-or-pos o)
  where
    pick : (o ≡ zero) ⊎ (zero < o) → 0 < o
    pick (inl e) = absurd (omega (arith, rw e at h))
    pick (inr k) = k

-- ---- ceilings
pub ceil_is_count : (i D : ℕ) → count i 0 D ≡ ceil_div D i
ceil_is_count i D = let e : D - 0 ≡ D = omega arith in rw e

module _ (i : ℕ) (hi : 0 < i) where
  pub ceil_reach : (n : ℕ) → n ≤ ceil_div n i * i
  ceil_reach n = omega (arith, rw (ceil_is_count i n) at (count_reach i hi 0 n))

  pub ceil_least : (n m : ℕ) → n ≤ m * i → ceil_div n i ≤ m
  ceil_least n m k = rw (ceil_is_count i n) at (count_least i hi 0 n m (omega arith))

-- a factor of both falls out of a ceiling
pub ceil_scale : (a b g : ℕ) → 0 < b → 0 < g → ceil_div (a * g) (b * g) ≡ ceil_div a b
ceil_scale a b g hb hg =
    let bg : 0 < b * g = omega (arith, mul-le-mul_right g hb) in
    let up : a * g ≤ ceil_div a b * (b * g) = omega (arith, mul-le-mul_right g (ceil_reach b hb a)) in
    let down : a * g ≤ ceil_div (a * g) (b * g) * b * g = omega (arith, ceil_reach (b * g) bg (a * g)) in
    le_antisymm (ceil_least (b * g) bg (a * g) (ceil_div a b) up) (ceil_least b hb a (ceil_div (a * g) (b * g)) (le_of_mul-le-mul_right down hg))
