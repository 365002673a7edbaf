-- Numbers written and read back, and read and written back. Assumes nothing.
use Rattle.std.specs.Prelude.{◌≡◌, refl, List, [], ◌∷◌, ◌++◌, ℕ, zero, suc, ◌+◌, ◌*◌, ◌/◌, ◌%◌, ◌^◌, ◌≤◌, ◌<◌, length, take, drop, get_or}
use Rattle.std.proofs.Common.{sym, ap, ap₂, ◌∙◌, arith, length-drop, take-add, drop-drop, length-take-le}
use Rattle.pcm.specs.Samples.{Bytes}
use Rattle.pcm.specs.laws.Frames.{all_take, all_drop}
use Rattle.words.specs.Words.{word_of, word_bytes, word_at, words, words_bytes, Words}

-- what is written is read back
pub word_there : (n x : ℕ) → x < 256 ^ n → word_of (word_bytes n x) ≡ x
word_there zero x h = omega arith
word_there (suc n) x h = let e = word_there n (x / 256) (omega arith) in omega arith

-- what was read is written back
pub word_back : (bytes : List ℕ) → Bytes bytes → word_bytes (length bytes) (word_of bytes) ≡ bytes
word_back [] h = refl
word_back (b ∷ bytes) h =
    let k : b < 256 = h.0 in
    let r : (b + 256 * word_of bytes) % 256 ≡ b = omega arith in
    let q : (b + 256 * word_of bytes) / 256 ≡ word_of bytes = omega arith in
    rw (r, q) (ap (λ (l : List ℕ). b ∷ l) (word_back bytes h.1))

pub word_below : (bytes : List ℕ) → Bytes bytes → word_of bytes < 256 ^ length bytes
word_below [] h = omega arith
word_below (b ∷ bytes) h =
    let k : b < 256 = h.0 in
    let i = word_below bytes h.1 in
    let j : b + 256 * word_of bytes < 256 ^ suc (length bytes) = omega arith in
    j

pub length_words : (xs : List ℕ) → length (words_bytes xs) ≡ 4 * length xs
length_words [] = refl
length_words (x ∷ xs) = omega (arith, length_words xs)

pub words_there : (xs rest : List ℕ) → Words xs → words (length xs) (words_bytes xs ++ rest) ≡ xs
words_there [] rest h = refl
words_there (x ∷ xs) rest h = let e : word_of (word_bytes 4 x) ≡ x = word_there 4 x h.0 in rw e (ap (λ (l : List ℕ). x ∷ l) (words_there xs rest h.1))

pub words_back : (n : ℕ) (bytes : List ℕ) → 4 * n ≤ length bytes → Bytes bytes → words_bytes (words n bytes) ≡ take (4 * n) bytes
words_back zero bytes h k = refl
words_back (suc n) bytes h k =
    let e : 4 * suc n ≡ 4 + 4 * n = omega arith in
    let l : length (take 4 bytes) ≡ 4 = length-take-le 4 bytes (omega arith) in
    let w : word_bytes 4 (word_of (take 4 bytes)) ≡ take 4 bytes = rw l at (word_back (take 4 bytes) (all_take _ 4 bytes k)) in
    let ih = words_back n (drop 4 bytes) (rw length-drop (omega arith)) (all_drop _ 4 bytes k) in
    ap₂ (λ (x y : List ℕ). x ++ y) w ih ∙ sym (take-add 4 (4 * n) bytes) ∙ ap (λ (m : ℕ). take m bytes) (sym e)

pub words_below : (n : ℕ) (bytes : List ℕ) → 4 * n ≤ length bytes → Bytes bytes → Words (words n bytes)
words_below zero bytes h k = tt
words_below (suc n) bytes h k =
    let l : length (take 4 bytes) ≡ 4 = length-take-le 4 bytes (omega arith) in
    (rw l at (word_below (take 4 bytes) (all_take _ 4 bytes k)), words_below n (drop 4 bytes) (rw length-drop (omega arith)) (all_drop _ 4 bytes k))

-- the number k of n that stand from i on
pub word_number : (n k i : ℕ) (bytes : List ℕ) → k < n → get_or (words n (drop i bytes)) k 0 ≡ word_at 4 (i + 4 * k) bytes
word_number zero k i bytes h = absurd (let z : ⊥ = omega arith in z)
word_number (suc n) zero i bytes h = let e : i + 4 * 0 ≡ i = omega arith in rw e
word_number (suc n) (suc k) i bytes h =
    let e : i + 4 + 4 * k ≡ i + 4 * suc k = omega arith in
    ap (λ (l : List ℕ). get_or (words n l) k 0) (drop-drop 4 i bytes) ∙ word_number n k (i + 4) bytes (omega arith) ∙ ap (λ (j : ℕ). word_at 4 j bytes) e
