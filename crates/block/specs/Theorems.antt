-- What the definitions come to: the chief theorems of this crate. Assumes nothing.
use Rattle.std.specs.Prelude.{◌≡◌, true, List, [], ◌∷◌, ℕ, ◌*◌, ◌/◌, ◌≤◌, leb, Ok}
use Rattle.std.proofs.Common.{ap, ◌∙◌, subst, le_refl, le_trans, arith, le-leb}
use Rattle.pcm.specs.declared.PcmFormat.{PcmFormat}
use Rattle.pcm.specs.Refusals.{number_of}
use Rattle.stage.specs.declared.Stage.{Stage}
use Rattle.stage.specs.Stages.{kinds_of}
use Rattle.pipeline.specs.declared.Pipeline.{Pipeline}
use Rattle.block.specs.BlockCall.{suited, legal, size_asked, halves_verdict, block_verdict, largest_room, scratch_bytes}
use Rattle.pipeline.specs.WritingBack.{stages_of}
use Rattle.questions.specs.Walk.{whole_frames, same_format, larger}
use Rattle.block.specs.laws.Bounds.{legal_parts, larger_left, larger_right, room_suffices}
use Rattle.block.specs.laws.Scratch.{largest_by_kinds, figure_is, not_room}

-- c and d are one chain in two states: what c answers for a block of `size` bytes is enough for d. Halves of half that figure each never give 3
pub scratch_suffices : (c d : Pipeline) (format : PcmFormat) (size figure short : ℕ) → c.format ≡ d.format → kinds_of (stages_of c) ≡ kinds_of (stages_of d) → legal d ≡ true
    → scratch_bytes c size ≡ Ok figure → figure ≤ 2 * short → number_of (block_verdict d format size short) ≡ 3 → ⊥
unfolding scratch_bytes block_verdict
scratch_suffices c d format size figure short f k h e room three =
    let n : ℕ = size / (d.format.channels * 2) in
    let own : 2 * larger size (largest_room c.format (stages_of c) (size / (c.format.channels * 2))) ≡ figure = figure_is (size_asked c size (Ok tt)) _ figure e in
    let same : largest_room c.format (stages_of c) (size / (c.format.channels * 2)) ≡ largest_room d.format (stages_of d) (size / (d.format.channels * 2)) =
    ap (λ (x : PcmFormat). largest_room x (stages_of c) (size / (x.channels * 2))) f ∙ largest_by_kinds d.format (stages_of c) (stages_of d) (size / (d.format.channels * 2)) k in
    let big : larger size (largest_room d.format (stages_of d) (size / (d.format.channels * 2))) ≤ short =
    subst (λ (x : ℕ). larger size x ≤ short) same (let b : larger size (largest_room c.format (stages_of c) (size / (c.format.channels * 2))) ≤ short = omega arith in b) in
    not_room (legal d) (whole_frames d.format size) (leb (size / (d.format.channels * 2)) 8192) (same_format d.format format) _
    (go (stages_of d) (legal_parts d h).suit (le_trans (larger_left size _) big) (le_trans (larger_right size _) big)) three
  where
    go : (l : List Stage) → suited d.format l ≡ true → size ≤ short → largest_room d.format l (size / (d.format.channels * 2)) ≤ short → halves_verdict d.format l size short ≡ Ok tt
    go [] u a b = rw (le-leb size short a)
    go (s ∷ l) u a b = room_suffices d.format (s ∷ l) (size / (d.format.channels * 2)) (size / (d.format.channels * 2)) short u (le_refl _) b
