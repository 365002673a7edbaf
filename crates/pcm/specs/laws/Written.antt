-- Bytes written to a buffer after other bytes. Assumes nothing.
use Rattle.std.specs.Prelude.{◌≡◌, refl, List, ◌++◌, [], ℕ, ◌-◌, length, take, drop}
use Rattle.std.proofs.Common.{sym, ap, ap₂, ◌∙◌, append_assoc, append-nil, length-append, length-drop, drop_of_length-le, take_at, drop_at, drop-drop, arith}
use borrow.Author.Rules.{part_to_end}
use borrow.Rule.Slice.PartMut.{put_mid}
use Rattle.pcm.specs.Frames.{written}

pub written_more : (a b out : List ℕ) → take (length a) (written a out) ++ written b (drop (length a) (written a out)) ≡ written (a ++ b) out
unfolding written
written_more a b out =
    ap₂ (λ (x y : List ℕ). x ++ (b ++ drop (length b) y)) (take_at a (drop (length a) out) (length a) refl) (drop_at a (drop (length a) out) (length a) refl)
    ∙ ap (λ (x : List ℕ). a ++ (b ++ x)) (drop-drop (length b) (length a) out ∙ ap (λ (n : ℕ). drop n out) (sym (length-append a b)))
    ∙ sym (append_assoc a b (drop (length (a ++ b)) out))

-- b, written to the part from the end of a on, stands after a
pub written_part : (a b out₀ out l : List ℕ) (at : ℕ) → at ≡ length a → out ≡ written a out₀ → l ≡ written b (take (length out - at) (drop at out)) → put_mid at (length out - at) out l ≡ written (a ++ b) out₀
written_part a b out₀ out l at e q h =
    let n : drop (length out - at) (drop at out) ≡ [] = drop_of_length-le (drop at out) {i = length out - at} (omega (arith, length-drop at out)) in
    ap (λ (x : List ℕ). take at out ++ x) (rw n (append-nil l) ∙ h ∙ ap (written b) (part_to_end out at))
    ∙ rw (q, e) (written_more a b out₀)
