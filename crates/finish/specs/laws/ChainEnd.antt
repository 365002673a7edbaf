-- Laws of the chain's end (document 02, Q-1). Assumes nothing.
use Rattle.std.specs.Prelude.{◌≡◌, refl, true, List, [], ◌∷◌, ◌++◌, map, ℕ, suc, ◌+◌, ◌*◌, length, Ok}
use Rattle.std.proofs.Common.{sym, ap, ap₂, ◌∙◌, append-nil, arith, zero-mul, le-leb}
use Rattle.pcm.specs.declared.PcmFormat.{PcmFormat}
use Rattle.pcm.specs.Frames.{Frame, bytes_of}
use Rattle.stage.specs.declared.Stage.{Stage}
use Rattle.stage.specs.declared.StageKind.{StageKind}
use Rattle.stage.specs.Stages.{stage_out, stage_next, stage_as_opened, stage_clear, kinds_of, memory_as_opened, format_after}
use Rattle.stage.specs.laws.Stages.{stage_clipped-nil, stage_clipped-append}
use Rattle.block.specs.Chain.{chain_out, chain_next, chain_clipped}
use Rattle.turns.specs.Turns.{Halves}
use Rattle.block.specs.BlockCall.{put, suited}
use Rattle.block.specs.laws.Bounds.{suited_first, suited_rest}
use Rattle.block.specs.laws.Reaching.{bytes-nil, put-nil}
use Rattle.ending.specs.StageEnd.{stage_end, frames_at_end}
use Rattle.ending.specs.laws.StageEnd.{next_kind_lem, stage_end-append, stage_end_opened, stage_end_count}
use Rattle.finish.specs.FinishCall.{chain_end, end_clipped, room_at_end, end_verdict, ended_halves}

-- a stream in two parts, of which the second ends, is the whole that ends
pub chain_end-append : (f : PcmFormat) (l : List Stage) (xs ys : List Frame) → chain_end f l (xs ++ ys) ≡ chain_out l xs ++ chain_end f (chain_next l xs) ys
unfolding chain_end
chain_end-append f [] xs ys = refl
chain_end-append f (s ∷ l) xs ys =
    ap (chain_end (format_after f s.kind) l) (stage_end-append f.channels s xs ys)
    ∙ chain_end-append (format_after f s.kind) l (stage_out s xs) (stage_end f.channels (stage_next s xs) ys)
    ∙ ap (λ (k : StageKind). chain_out l (stage_out s xs) ++ chain_end (format_after f k) (chain_next l (stage_out s xs)) (stage_end f.channels (stage_next s xs) ys)) (sym (next_kind_lem s xs))

-- what a chain that has taken xs delivers at its end, after what it delivered of xs: the whole that ends
pub chain_ends : (f : PcmFormat) (l : List Stage) (xs : List Frame) → chain_out l xs ++ chain_end f (chain_next l xs) [] ≡ chain_end f l xs
chain_ends f l xs = sym (chain_end-append f l xs []) ∙ ap (chain_end f l) (append-nil xs)

-- the same of what is held back
end_clipped-append : (f : PcmFormat) (l : List Stage) (xs ys : List Frame) → end_clipped f l (xs ++ ys) ≡ chain_clipped l xs + end_clipped f (chain_next l xs) ys
unfolding end_clipped
end_clipped-append f [] xs ys = refl
end_clipped-append f (s ∷ l) xs ys =
    omega (
      arith,
      stage_clipped-append s xs ys,
      ap (end_clipped (format_after f s.kind) l) (stage_end-append f.channels s xs ys),
      end_clipped-append (format_after f s.kind) l (stage_out s xs) (stage_end f.channels (stage_next s xs) ys),
      ap (λ (k : StageKind). end_clipped (format_after f k) (chain_next l (stage_out s xs)) (stage_end f.channels (stage_next s xs) ys)) (next_kind_lem s xs),
    )

pub end_clips : (f : PcmFormat) (l : List Stage) (xs : List Frame) → chain_clipped l xs + end_clipped f (chain_next l xs) [] ≡ end_clipped f l xs
end_clips f l xs = sym (end_clipped-append f l xs []) ∙ ap (end_clipped f l) (append-nil xs)

-- ---- a chain as opened that ends at once
pub clear_is_opened : (l : List Stage) → map stage_clear l ≡ map stage_as_opened (kinds_of l)
clear_is_opened [] = refl
clear_is_opened (s ∷ l) = ap (λ (r : List Stage). stage_clear s ∷ r) (clear_is_opened l)

-- it delivers nothing
pub chain_end_opened : (f : PcmFormat) (ks : List StageKind) → chain_end f (map stage_as_opened ks) [] ≡ []
unfolding chain_end
chain_end_opened f [] = refl
chain_end_opened f (k ∷ ks) = ap (chain_end (format_after f k) (map stage_as_opened ks)) (stage_end_opened f.channels k) ∙ chain_end_opened (format_after f k) ks

-- holds nothing back
pub end_clipped_opened : (f : PcmFormat) (ks : List StageKind) → end_clipped f (map stage_as_opened ks) [] ≡ 0
unfolding end_clipped
end_clipped_opened f [] = refl
end_clipped_opened f (k ∷ ks) =
    omega (arith, stage_clipped-nil (stage_as_opened k), ap (end_clipped (format_after f k) (map stage_as_opened ks)) (stage_end_opened f.channels k), end_clipped_opened (format_after f k) ks)

-- and is accepted with any halves, empty ones too
pub end_room_opened : (f : PcmFormat) (ks : List StageKind) (shorter : ℕ) → suited f (map stage_as_opened ks) ≡ true → end_verdict f (map stage_as_opened ks) 0 shorter ≡ Ok tt
unfolding end_verdict room_at_end
end_room_opened f [] shorter h = refl
end_room_opened f (k ∷ ks) shorter h =
    let e : frames_at_end k memory_as_opened 0 ≡ 0 =
    sym (stage_end_count f f.channels (stage_as_opened k) [] (suited_first f (stage_as_opened k) (map stage_as_opened ks) h)) ∙ ap length (stage_end_opened f.channels k) in
    let z : 0 * ((format_after f k).channels * 2) ≡ 0 = zero-mul ((format_after f k).channels * 2) in
    rw (e, z, le-leb 0 shorter (omega arith)) (end_room_opened (format_after f k) ks shorter (suited_rest f (stage_as_opened k) (map stage_as_opened ks) h))

-- and nothing is written
pub ended_opened : (i : ℕ) (f : PcmFormat) (ks : List StageKind) (h : Halves) → ended_halves i f (map stage_as_opened ks) [] h ≡ h
unfolding ended_halves
ended_opened i f [] h = refl
ended_opened i f (k ∷ ks) h =
    let e : stage_end f.channels (stage_as_opened k) [] ≡ [] = stage_end_opened f.channels k in
    ap₂ (λ (xs : List Frame) (g : Halves). ended_halves (suc i) (format_after f k) (map stage_as_opened ks) xs g) e (ap (λ (xs : List Frame). put i (bytes_of xs) h) e ∙ ap (λ (l : List ℕ). put i l h) bytes-nil ∙ put-nil i h)
    ∙ ended_opened (suc i) (format_after f k) ks h
