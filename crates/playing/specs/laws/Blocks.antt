-- Laws of a sound cut to blocks. Assumes nothing.
use Rattle.std.specs.Prelude.{◌≡◌, refl, List, [], ◌∷◌, ◌++◌, ℕ, suc, ◌+◌, ◌-◌, ◌/◌, ◌<◌, min, length, take, drop}
use Rattle.std.proofs.Common.{sym, ap, ap₂, ◌∙◌, add-one, arith, inl, inr, append-nil, length-append}
use native.Mathlib.Nat.{div-eq_of_lt, add-div_right}
use lib.ListN.{drop_of_length-le}
use lib.Seq.{take_all}
use Rattle.std.proofs.Math.Seq.{take-append_seam, drop-append_seam}
use Rattle.std.proofs.lemmas.Bool.{cases_lt}
use Rattle.std.proofs.lemmas.List.{nil_from_length}
use Rattle.pcm.specs.Frames.{cut}
use Rattle.rates.specs.Counting.{ceil_div}
use Rattle.playing.specs.Playing.{blocks_of}

module _ (size : ℕ) (h : 0 < size) where
  pub blocks_none : blocks_of size [] ≡ []
  blocks_none =
      let e : ceil_div 0 size ≡ 0 = div-eq_of_lt (let l : 0 + (size - 1) < size = omega arith in l) in
      ap (λ (n : ℕ). cut size n []) e

  -- as the first comes off the front: it has `size` bytes, or is all that is left
  module _ (left block after : List ℕ) (parts : left ≡ block ++ after) (long : length block ≡ min size (length left)) (some : 0 < length left) where
    total : length left ≡ length block + length after
    total = ap length parts ∙ length-append block after

    count_next : ceil_div (length left) size ≡ suc (ceil_div (length after) size)
    count_next = elim (cases_lt (length left) size) [
      | inl short ↦
          let e : length left + (size - 1) ≡ length left - 1 + size = omega arith in
          let l : length left - 1 < size = omega arith in
          let m : length after ≡ 0 = omega (arith, total, long) in
          let z : length after + (size - 1) < size = omega arith in
          ap (λ (n : ℕ). n / size) e ∙ add-div_right (length left - 1) h ∙ rw (div-eq_of_lt l, div-eq_of_lt z) refl
      | inr whole ↦
          let e : length left + (size - 1) ≡ length after + (size - 1) + size = omega (arith, total, long) in
          ap (λ (n : ℕ). n / size) e ∙ add-div_right (length after + (size - 1)) h ∙ add-one _
    ]

    front_off : (take size left ≡ block) × (drop size left ≡ after)
    front_off = elim (cases_lt (length left) size) [
      | inl short ↦
          let none : after ≡ [] = nil_from_length after (omega (arith, total, long)) in
          (take_all size left (omega arith) ∙ parts ∙ rw none (append-nil block), drop_of_length-le left (omega arith) ∙ sym none)
      | inr whole ↦
          let e : size ≡ length block = omega (arith, long) in
          rw (e, parts) (take-append_seam block after, drop-append_seam block after)
    ]

    pub blocks_next : blocks_of size left ≡ block ∷ blocks_of size after
    blocks_next =
        ap (λ (n : ℕ). cut size n left) count_next ∙ ap₂ (λ (x y : List ℕ). x ∷ cut size (ceil_div (length after) size) y) front_off.0 front_off.1
