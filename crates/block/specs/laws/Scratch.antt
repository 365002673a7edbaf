-- `scratch_bytes`' figure goes by the kinds alone. Assumes nothing.
use Rattle.std.specs.Prelude.{◌≡◌, refl, Bool, true, false, List, [], ◌∷◌, ℕ, Ok, Err}
use Rattle.std.proofs.Common.{ap, ap₂, ◌∙◌, arith}
use Rattle.pcm.specs.declared.PcmFormat.{PcmFormat}
use Rattle.pcm.specs.declared.Error.TheVariants.{InvalidFormat, Unsupported, InvalidGeometry, TooLong}
use Rattle.pcm.specs.Refusals.{ask, number_of, Verdict}
use Rattle.stage.specs.declared.Stage.{Stage}
use Rattle.stage.specs.declared.StageKind.{StageKind}
use Rattle.stage.specs.Stages.{kinds_of, format_after}
use Rattle.stage.specs.Rooms.{frames_wanted, room_wanted}
use Rattle.block.specs.BlockCall.{largest_room, scratch_answer}
use Rattle.questions.specs.Walk.{larger}

head_is : {A : Type 0} {x y : A} {xs ys : List A} → x ∷ xs ≡ y ∷ ys → x ≡ y
head_is e = cc

tail_is : {A : Type 0} {x y : A} {xs ys : List A} → x ∷ xs ≡ y ∷ ys → xs ≡ ys
tail_is e = cc

-- the figure is that of the kinds, whatever the stages hold
pub largest_by_kinds : (f : PcmFormat) (l m : List Stage) (n : ℕ) → kinds_of l ≡ kinds_of m → largest_room f l n ≡ largest_room f m n
unfolding largest_room
largest_by_kinds f [] [] n e = refl
largest_by_kinds f [] (s ∷ m) n e = cc
largest_by_kinds f (s ∷ l) [] n e = cc
largest_by_kinds f (s ∷ l) (t ∷ m) n e =
    let k : s.kind ≡ t.kind = head_is e in
    ap₂ larger (ap (λ (x : StageKind). room_wanted f x n) k)
    (ap (λ (x : StageKind). largest_room (format_after f x) l (frames_wanted x n)) k ∙ largest_by_kinds (format_after f t.kind) l m (frames_wanted t.kind n) (tail_is e))

pub figure_is : (v : Verdict) (own figure : ℕ) → scratch_answer v own ≡ Ok figure → own ≡ figure
figure_is (Ok _) own figure e = cc
figure_is (Err x) own figure e = cc

pub not_room : (p q r t : Bool) (v : Verdict) → v ≡ Ok tt → number_of (ask p InvalidFormat (ask q InvalidGeometry (ask r TooLong (ask t Unsupported v)))) ≡ 3 → ⊥
not_room true true true true v h e = omega (arith, ap number_of h, e)
not_room true true true false v h e = omega arith
not_room true true false t v h e = omega arith
not_room true false r t v h e = omega arith
not_room false q r t v h e = omega arith
